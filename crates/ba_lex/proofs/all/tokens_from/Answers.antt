use Rattle.std.proofs.Common.{◌≡◌, ◌∙◌, sym, subst, ap, arith, List, ℕ, ◌+◌, ◌-◌, drop, take}
use Rattle.std.proofs.lemmas.Result.{err_from_is_err_and}
use Rattle.ba_lex.specs.declared.front.Piece.TheVariants.{Bad, Found, Gap}
use Rattle.ba_model.specs.Readings.{Fails}
use Rattle.ba_lex.specs.Tokens.{lexeme_of, tokens_from}
use Rattle.ba_lex.proofs.LoopLemmas.{FoundFits, GapFits, Turn, bad, found, found_fits, found_utf8, gap, gap_fits, over, turn_at, unfound}
use Rattle.ba_lex.proofs.all.tokens_from.Goals as goal
use Rattle.ba_lex.proofs.all.tokens_from.Goals.{In-Gap, In-Found}

gap_turn : (c : In-Gap) → Turn c.loop-at.found c.as_bytes-bytes.result.now c.loop-at.at (Gap c.in-Gap.len) (tokens_from c.as_bytes-bytes.result.now 0 0)
gap_turn c = turn_at c.loop-at.found c.as_bytes-bytes.result.now c.loop-at.at (Gap c.in-Gap.len) c.loop-at-test.true c.in-Gap.ensures c.loop-at.invariant.1

gap_in : (c : In-Gap) → GapFits c.as_bytes-bytes.result.now c.loop-at.at c.in-Gap.len
gap_in c = gap_fits _ _ _ _ _ (gap_turn c)

found_turn : (c : In-Found) → Turn c.loop-at.found c.as_bytes-bytes.result.now c.loop-at.at (Found c.in-Found.shape c.in-Found.len) (tokens_from c.as_bytes-bytes.result.now 0 0)
found_turn c = turn_at c.loop-at.found c.as_bytes-bytes.result.now c.loop-at.at (Found c.in-Found.shape c.in-Found.len) c.loop-at-test.true c.in-Found.ensures c.loop-at.invariant.1

found_in : (c : In-Found) → FoundFits c.as_bytes-bytes.result.now c.loop-at.at c.in-Found.shape c.in-Found.len
found_in c = found_fits _ _ _ _ _ _ (found_turn c)

pub overflow_add-at-in-Gap : goal.overflow_add-at-in-Gap
overflow_add-at-in-Gap c = omega (arith, (gap_in (goal.at.overflow_add-at-in-Gap c).In-Gap).within)

pub loop-at-smaller-in-Gap : goal.loop-at-smaller-in-Gap
loop-at-smaller-in-Gap c = let f = gap_in (goal.at.loop-at-smaller-in-Gap c).In-Gap in omega (arith, f.some, f.within)

pub loop-at-preserved-in-Gap : goal.loop-at-preserved-in-Gap
loop-at-preserved-in-Gap c =
    let i = (goal.at.loop-at-preserved-in-Gap c).In-Gap in
    let f = gap_in i in
    (f.within, gap _ _ _ _ _ f.some (gap_turn i))

pub returns-in-Bad : goal.returns-in-Bad
returns-in-Bad c =
    let bytes = c.as_bytes-bytes.result.now in
    let t = turn_at c.loop-at.found bytes c.loop-at.at (Bad c.in-Bad.fault) c.loop-at-test.true c.in-Bad.ensures c.loop-at.invariant.1 in
    ap (λ (b : List ℕ). tokens_from b 0 0) (sym c.as_bytes-bytes.ensures.value) ∙ bad _ _ _ _ _ t

pub overflow_add-at-in-Found : goal.overflow_add-at-in-Found
overflow_add-at-in-Found c = omega (arith, (found_in (goal.at.overflow_add-at-in-Found c).In-Found).within)

pub slice_bounds-lexeme-end : goal.slice_bounds-lexeme-end
slice_bounds-lexeme-end c = let f = found_in (goal.at.slice_bounds-lexeme-end c).In-Found in omega (arith, f.within)

pub lexeme-requires-clause-spelled : goal.lexeme-requires-clause-spelled
lexeme-requires-clause-spelled c = (found_in (goal.at.lexeme-requires-clause-spelled c).In-Found).spelled

pub lexeme-requires-clause-utf8 : goal.lexeme-requires-clause-utf8
lexeme-requires-clause-utf8 c = found_utf8 c.as_bytes-bytes.result.now c.loop-at.at c.in-Found.len c.in-Found.shape c.as_bytes-bytes.ensures.utf8 (found_in (goal.at.lexeme-requires-clause-utf8 c).In-Found)

pub returns : goal.returns
returns c = ap (λ (b : List ℕ). tokens_from b 0 0) (sym c.as_bytes-bytes.ensures.value) ∙ over _ _ _ _ c.loop-at-test.false c.loop-at.invariant.1

pub returns-in_err-lexeme-in-Found : goal.returns-in_err-lexeme-in-Found
returns-in_err-lexeme-in-Found c =
    let p = err_from_is_err_and c.from_residual-in_err-lexeme-in-Found.result c.from_residual-in_err-lexeme-in-Found.ensures.1 in
    let i = (goal.at.returns-in_err-lexeme-in-Found c).In-Found in
    let bytes = c.as_bytes-bytes.result.now in
    let at = c.loop-at.at in
    let n = c.in-Found.len in
    let size : (at + n) - at ≡ n = omega arith in
    let says = rw size at c.in_err-lexeme-in-Found.ensures in
    let fails = unfound c.loop-at.found bytes at n c.in-Found.shape c.in_err-lexeme-in-Found.field-0.0 _ (found_turn i) says in
    rw (p.1, p.2) (subst (λ (b : List ℕ). Fails c.in_err-lexeme-in-Found.field-0.0 (tokens_from b 0 0)) c.as_bytes-bytes.ensures.value fails)

pub loop-at-smaller : goal.loop-at-smaller
loop-at-smaller c = let f = found_in (goal.at.loop-at-smaller c).In-Found in omega (arith, f.some, f.within)

pub loop-at-preserved : goal.loop-at-preserved
loop-at-preserved c =
    let i = (goal.at.loop-at-preserved c).In-Found in
    let f = found_in i in
    let bytes = c.as_bytes-bytes.result.now in
    let at = c.loop-at.at in
    let n = c.in-Found.len in
    let size : (at + n) - at ≡ n = omega arith in
    let says : lexeme_of c.in-Found.shape (take n (drop at bytes)) ≡ _ = rw size at c.in_ok-lexeme-in-Found.ensures in
    (f.within, rw c.in_ok-push-in-Found.ensures.ok (found c.loop-at.found bytes at n c.in-Found.shape c.in_ok-lexeme-in-Found.lexeme _ f.some (found_turn i) says))
