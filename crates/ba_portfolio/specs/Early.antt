-- How a search ends that may be made for fewer steps than its budget.
use Rattle.std.specs.Prelude.{ℕ}
use Rattle.ba_kernel.specs.declared.problem.Problem.{Problem}
use Rattle.ba_settle.specs.Dues.{EndsProved, EndsSaturated}
use Rattle.ba_settle.specs.declared.ends.Settled.{Settled}
use Rattle.ba_settle.specs.declared.ends.Settled.TheVariants.{Proved, Saturated, Spent}
use Rattle.ba_settle.specs.declared.order.Pick.{Pick}

-- It ends as it does with the whole budget, unless it spends the steps that it is made for.
abbrev pub EndsEarly : Pick → Problem → ℕ → Settled → Type 0
EndsEarly pick p budget (Proved proof) = EndsProved pick p budget proof
EndsEarly pick p budget (Saturated leaf) = EndsSaturated pick p budget leaf
EndsEarly pick p budget (Spent taken) = Unit {0}
