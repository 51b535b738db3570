-- What a search in one order or in both leaves, and of what steps.
use Rattle.std.proofs.Common.{◌≡◌, ◌⊎◌, ℕ, inl, inr, List, subst}
use Rattle.ba_kernel.specs.Courses.{AllClosed, Runs, Slots}
use Rattle.ba_kernel.specs.SearchStates.{Proof}
use Rattle.ba_kernel.specs.declared.problem.Problem.{Problem}
use Rattle.ba_kernel.specs.declared.step.Step.{Step}
use Rattle.ba_settle.proofs.SearchLemmas.{due_list, ends_are_leaves, runs_of}
use Rattle.ba_settle.specs.Dues.{DueList, EndsProved, EndsSaturated, EndsSpent, LateDueList, Searches}
use Rattle.ba_settle.specs.Settling.{Effort, EndsInBoth, HasDueList, SettledAreDue, SettledAreLeaves, Settles, TellsDueList}
use Rattle.ba_settle.specs.declared.ends.Leaf.{Leaf}
use Rattle.ba_settle.specs.declared.ends.Settled.{Settled}
use Rattle.ba_settle.specs.declared.ends.Settled.TheVariants.{Proved, Saturated, Spent}
use Rattle.ba_settle.specs.declared.order.Pick.{Pick}
use Rattle.ba_settle.specs.declared.order.Pick.TheVariants.{First, Last}

-- ---- the order whose end is told

pub proof_end : (effort : Effort) (p : Problem) (proof : Proof) → Settles effort p (Proved proof) → (pick : Pick) × EndsProved pick p effort.budget proof
proof_end effort p proof (inl (one, ends)) = (First, ends)
proof_end effort p proof (inr (both, inl ends)) = (First, ends)
proof_end effort p proof (inr (both, inr (none, ends))) = (Last, ends)

pub leaf_end : (effort : Effort) (p : Problem) (leaf : Leaf) → Settles effort p (Saturated leaf) → (pick : Pick) × EndsSaturated pick p effort.budget leaf
leaf_end effort p leaf (inl (one, ends)) = (First, ends)
leaf_end effort p leaf (inr (both, inl (ends, none))) = (First, ends)
leaf_end effort p leaf (inr (both, inr (spent, ends))) = (Last, ends)

pub spent_end : (effort : Effort) (p : Problem) (taken : List Step) → Settles effort p (Spent taken) → EndsSpent First p effort.budget taken
spent_end effort p taken (inl (one, ends)) = ends
spent_end effort p taken (inr (both, (ends, spent))) = ends

-- ---- what is left

pub proof_problem : (effort : Effort) (p : Problem) (proof : Proof) → Settles effort p (Proved proof) → proof.problem ≡ p
proof_problem effort p proof h = (proof_end effort p proof h).1.problem_is

pub leaf_problem : (effort : Effort) (p : Problem) (leaf : Leaf) → Settles effort p (Saturated leaf) → leaf.problem ≡ p
leaf_problem effort p leaf h = (leaf_end effort p leaf h).1.problem_is

-- the proof's steps leave no branch open
pub proof_closes : (effort : Effort) (p : Problem) (proof : Proof) → Settles effort p (Proved proof) → (slots : Slots) × Runs p proof.steps slots × AllClosed slots
proof_closes effort p proof h =
    let (pick, ends) = proof_end effort p proof h in
    (ends.slots, runs_of pick p proof.steps ends.slots ends.searches, ends.closed)

pub settled_leaves : SettledAreLeaves
settled_leaves effort p leaf h =
    let (pick, ends) = leaf_end effort p leaf h in
    ends_are_leaves pick p effort.budget leaf ends

-- ---- due lists

first_due : (orders : ℕ) (p : Problem) (taken : List Step) (slots : Slots) → Searches First p taken slots → HasDueList orders p taken
first_due orders p taken slots h = record { slots = slots; due = inl (due_list First p taken slots h) }

last_due : (orders : ℕ) (p : Problem) (taken : List Step) (slots : Slots) → orders ≡ 2 → Searches Last p taken slots → HasDueList orders p taken
last_due orders p taken slots both h = record { slots = slots; due = inr (both, due_list Last p taken slots h) }

spent_due : (p : Problem) (budget : ℕ) (taken : List Step) → EndsSpent First p budget taken → (slots : Slots) × DueList First p taken slots
spent_due p budget taken ends = (ends.slots, due_list First p taken ends.slots ends.searches)

pub settled_due : SettledAreDue
settled_due effort p (Proved proof) (inl (one, ends)) = first_due effort.orders p proof.steps ends.slots ends.searches
settled_due effort p (Proved proof) (inr (both, inl ends)) = first_due effort.orders p proof.steps ends.slots ends.searches
settled_due effort p (Proved proof) (inr (both, inr (none, ends))) = last_due effort.orders p proof.steps ends.slots both ends.searches
settled_due effort p (Saturated leaf) (inl (one, ends)) = first_due effort.orders p leaf.steps ends.slots ends.searches
settled_due effort p (Saturated leaf) (inr (both, inl (ends, none))) = first_due effort.orders p leaf.steps ends.slots ends.searches
settled_due effort p (Saturated leaf) (inr (both, inr (spent, ends))) = last_due effort.orders p leaf.steps ends.slots both ends.searches
settled_due effort p (Spent taken) (inl (one, ends)) = spent_due p effort.budget taken ends
settled_due effort p (Spent taken) (inr (both, (ends, spent))) = spent_due p effort.budget taken ends
