-- Each token's slice of the source spells it.
use Rattle.std.proofs.Common.{◌≡◌, ℕ, ◌+◌, ◌-◌, ◌≤◌, List, [], ◌∷◌, ◌++◌, length, take, drop, Result, Ok, Err, refl, sym, ap, subst, ◌∙◌, arith, length-append, length-drop}
use Rattle.std.specs.Result.{IfOk}
use Rattle.std.proofs.lemmas.List.{drop-drop, drop_at, take_at}
use Rattle.ba_lex.specs.Reading.{AreSpans, ReadsTo}
use Rattle.ba_lex.specs.Reading.ReadsTo.{blank, comment, next, nothing}
use Rattle.ba_lex.specs.Spelling.{IsToken}
use Rattle.ba_lex.specs.Tokens.{tokens_from}
use Rattle.ba_model.specs.Readings.{Gives}
use Rattle.ba_model.specs.declared.failure.Failure.{Failure}
use Rattle.ba_lex.specs.declared.token.LexFault.{LexFault}
use Rattle.ba_lex.specs.declared.token.Token.{Token}
use Rattle.ba_lex.proofs.ReadingLemmas.{Told, told}
use Rattle.ba_lex.proofs.ShapeLemmas.{token_edges}

-- the rest of the source behind some of its bytes
behind : (source bytes front rest : List ℕ) (at n : ℕ) → bytes ≡ drop at source → bytes ≡ front ++ rest → length front ≡ n → rest ≡ drop (at + n) source
behind source bytes front rest at n is split size = sym (drop_at front rest n size) ∙ ap (drop n) (sym split ∙ is) ∙ drop-drop n at source

pub spans : {left : List ℕ} {at : ℕ} {bytes : List ℕ} {ts : List Token} (source : List ℕ) (from : ℕ) → ReadsTo left at bytes ts → bytes ≡ drop at source → from ≤ at → AreSpans source from ts
spans source from nothing is le = tt
spans {at} source from (blank {b} {bs} h more) is le = spans source from more (behind source (b ∷ bs) (b ∷ []) bs at 1 is refl refl) (omega (arith, le))
spans {at} {bytes} source from (comment line rest h ends all more) is le =
    spans source from more (behind source bytes (45 ∷ 45 ∷ line) rest at (length line + 2) is all (omega arith)) (omega (arith, le))
spans {at} {bytes} source from (next spelling rest x h fits long all more) is le =
    let n : ℕ = length spelling in
    let some = (token_edges spelling x h).some in
    let split : drop at source ≡ spelling ++ rest = sym is ∙ all in
    let size : n + length rest ≡ length source - at = omega (arith, ap length split, length-append spelling rest, length-drop at source) in
    let taken : take ((at + n) - at) (drop at source) ≡ spelling = ap (take ((at + n) - at)) split ∙ take_at spelling rest ((at + n) - at) (omega arith) in
    (le, omega arith, omega arith, subst (λ (s : List ℕ). IsToken s x) (sym taken) h, spans source (at + n) more (behind source bytes spelling rest at n is all refl) (omega arith))

pub read_spans : (text : List ℕ) (r : Result (List Token) (Failure LexFault)) → Gives r (tokens_from text 0 0) → IfOk r (AreSpans text 0)
read_spans text (Ok ts) h = spans text 0 (subst (Told 0 text) h (told text)) refl (omega arith)
read_spans text (Err e) h = tt
