-- A whole call, from `take` to `put`.
use mathlib.Core.List.{IsPrefix}
use Rattle.std.proofs.Common.{◌≡◌, ℕ, ◌-◌, ◌<◌, List, [], ◌∷◌, ◌++◌, ap, ◌∙◌, subst, arith}
use Rattle.ba_turn.specs.declared.known.Known.{Known}
use Rattle.ba_turn.specs.History.{calls_by}
use Rattle.ba_turn.specs.Knowing.{after_take, after_put, SumsToAllowance}
use Rattle.ba_turn.specs.Passes.{MakesCall}

-- a pass knew v before `take`, t after it, and w after `put`
pub whole_call : {S E : Type 0} (v t w : Known S E) (e : E) → 0 < v.left → t ≡ after_take t.ticket t.found v → w ≡ after_put e t → IsPrefix t.seen t.found → calls_by w.number w.seen ≡ w.made → SumsToAllowance w → MakesCall v w e
whole_call {S} {E} v t w e some_left taken put seen own sums =
    let had : t.left ≡ v.left - 1 = ap (λ (z : Known S E). z.left) taken in
    let has : w.left ≡ t.left = ap (λ (z : Known S E). z.left) put in
    record {
      seen = (
        t.found,
        subst (λ (l : List (ℕ × E)). IsPrefix l t.found) (ap (λ (z : Known S E). z.seen) taken) seen,
        ap (λ (z : Known S E). z.seen) put ∙ ap (λ (z : Known S E). t.found ++ (z.number, e) ∷ []) taken,
      );
      made = ap (λ (z : Known S E). z.made) put ∙ ap (λ (z : Known S E). z.made ++ e ∷ []) taken;
      own = own;
      left = omega arith;
      number = ap (λ (z : Known S E). z.number) put ∙ ap (λ (z : Known S E). z.number) taken;
      splits = ap (λ (z : Known S E). z.splits) put ∙ ap (λ (z : Known S E). z.splits) taken;
      joined = ap (λ (z : Known S E). z.joined) put ∙ ap (λ (z : Known S E). z.joined) taken;
      start = ap (λ (z : Known S E). z.start) put ∙ ap (λ (z : Known S E). z.start) taken;
      allowance = ap (λ (z : Known S E). z.allowance) put ∙ ap (λ (z : Known S E). z.allowance) taken;
      sums = sums;
    }
