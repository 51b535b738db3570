use Rattle.std.proofs.Common.{inl, inr}
use Rattle.ba_eval.proofs.KeptLemmas.{not_both}
use Rattle.ba_eval.proofs.kept.is_covered.Goals as goal

pub returns-in-None : goal.returns-in-None
returns-in-None c =
    let none = c.tie_of.ensures in
    λ t due.
    elim due [
      | inl w ↦ absurd (not_both c.is_within.result (c.is_within.ensures.1 w) t)
      | inr k ↦ absurd ((rw c.in-None.is at none) k.0 k.1)
    ]
