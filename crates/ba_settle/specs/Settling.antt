-- How a search for a problem's proof ends, in whatever way it is made.
use Rattle.std.specs.Prelude.{◌≡◌, ◌⊎◌, ℕ, List}
use Rattle.ba_kernel.specs.Courses.{Slots}
use Rattle.ba_kernel.specs.declared.problem.Problem.{Problem}
use Rattle.ba_kernel.specs.declared.step.Step.{Step}
use Rattle.ba_settle.specs.Dues.{DueList, Ends, EndsProved, EndsSaturated, EndsSpent, IsLeaf, LateDueList}
use Rattle.ba_settle.specs.declared.ends.Leaf.{Leaf}
use Rattle.ba_settle.specs.declared.ends.Settled.{Settled}
use Rattle.ba_settle.specs.declared.ends.Settled.TheVariants.{Proved, Saturated, Spent}
use Rattle.ba_settle.specs.declared.order.Pick.{Pick}
use Rattle.ba_settle.specs.declared.order.Pick.TheVariants.{First, Last}

-- how a search is made: in so many orders of its due steps side by side, each of at most so many
-- steps
pub record Effort : Type 0 where
  pub orders : ℕ
  pub budget : ℕ

-- ---- two orders side by side

-- in this order the search ends at a leaf
abbrev pub EndsAtLeaf : Pick → Problem → ℕ → Type 0
EndsAtLeaf pick p budget = (leaf : Leaf) × EndsSaturated pick p budget leaf

-- in this order it spends the budget
abbrev pub RunsOut : Pick → Problem → ℕ → Type 0
RunsOut pick p budget = (taken : List Step) × EndsSpent pick p budget taken

-- in this order it ends without a proof
abbrev pub FindsNone : Pick → Problem → ℕ → Type 0
FindsNone pick p budget = EndsAtLeaf pick p budget ⊎ RunsOut pick p budget

-- Which of two ends is told, where the first due step is taken in one order and the last in the
-- other: the proof of the one, or else that of the other; where neither finds a proof, the leaf of
-- the one, or else that of the other; or else the steps of the one.
abbrev pub EndsInBoth : Problem → ℕ → Settled → Type 0
EndsInBoth p budget (Proved proof) =
    EndsProved First p budget proof ⊎ (FindsNone First p budget × EndsProved Last p budget proof)
EndsInBoth p budget (Saturated leaf) =
    (EndsSaturated First p budget leaf × FindsNone Last p budget) ⊎
    (RunsOut First p budget × EndsSaturated Last p budget leaf)
EndsInBoth p budget (Spent taken) = EndsSpent First p budget taken × RunsOut Last p budget

-- ---- how a search ends

-- it is made in one order, in which the first due step is taken, or in both
abbrev pub Settles : Effort → Problem → Settled → Type 0
Settles effort p settled =
    ((effort.orders ≡ 1) × Ends First p effort.budget settled) ⊎
    ((effort.orders ≡ 2) × EndsInBoth p effort.budget settled)

-- ---- the laws

-- a leaf that a search ends at is one
abbrev pub SettledAreLeaves : Type 0
SettledAreLeaves =
    (effort : Effort) (p : Problem) (leaf : Leaf) → Settles effort p (Saturated leaf) → IsLeaf leaf

-- The steps of a search in so many orders, and the branches that they leave: they are a due list,
-- or else a late one, which comes with two orders alone.
pub record HasDueList (orders : ℕ) (p : Problem) (taken : List Step) : Type 0 where
  pub slots : Slots
  pub due : DueList First p taken slots ⊎ ((orders ≡ 2) × LateDueList p taken slots)

-- what is told of a spent search is never a late due list
abbrev pub TellsDueList : ℕ → Problem → Settled → Type 0
TellsDueList orders p (Proved proof) = HasDueList orders p proof.steps
TellsDueList orders p (Saturated leaf) = HasDueList orders p leaf.steps
TellsDueList orders p (Spent taken) = (slots : Slots) × DueList First p taken slots

-- the steps of a search are a due list, or a late one
abbrev pub SettledAreDue : Type 0
SettledAreDue =
    (effort : Effort) (p : Problem) (settled : Settled) → Settles effort p settled →
    TellsDueList effort.orders p settled
