-- Steps of a proof that it doesn't need: what the others are without some that follow one another, and which stay.
use Rattle.std.specs.Prelude.{◌≡◌, ◌↔◌, ℕ, zero, suc, ◌+◌, ◌-◌, ◌/◌, ◌<◌, ◌≤◌, ◌⊎◌, Bool, true, false, not, nat_eq, List, [], ◌∷◌, ◌++◌, Contains, length, replicate, take, drop, Option, Some, None}
use Rattle.std.specs.Prelude.{slice_get, slice_set, unwrap_or}
use Rattle.std.specs.List.{AllZip, flat_map}
use Rattle.std.specs.List.Sorted.{IsStrictlySortedBy}
use Rattle.std.specs.Ordering.{nat_cmp}
use Rattle.ba_facts.specs.declared.branch.Branch.{Branch}
use Rattle.ba_facts.specs.declared.term.Term.{Term}
use Rattle.ba_facts.specs.declared.term.Term.TheVariants as terms
use Rattle.ba_facts.specs.declared.term.TermAtom.{TermAtom}
use Rattle.ba_kernel.specs.Courses.{IsOpen, Runs, Slots, Takes, branch_of}
use Rattle.ba_kernel.specs.Replays.{Closes}
use Rattle.ba_kernel.specs.declared.problem.Problem.{Problem}
use Rattle.ba_kernel.specs.declared.step.Step.{Step}
use Rattle.ba_kernel.specs.declared.step.Step.TheVariants as steps
use Rattle.ba_model.specs.declared.schema.Schema.{Schema}
use Rattle.ba_general.specs.Layouts.{Layout, adds, entry_adds, layout_after, start_layout, tables_on, wide}
use Rattle.ba_general.specs.declared.gap.Gap.{Gap}
use Rattle.ba_general.specs.declared.gap.Span.{Span}
use Rattle.ba_general.specs.declared.making.Made.{Made}

-- ---- numbers without those of what a step made

-- so many numbers from the first one on are gone: a lesser one stays, and a greater one falls by their count
abbrev pub IsClosedUp : Span → ℕ → ℕ → Type 0
IsClosedUp span n m = ((n < span.first) × (m ≡ n)) ⊎ ((span.first + span.count ≤ n) × (n ≡ m + span.count))

-- an unknown gets its new number, and another term stays
abbrev pub IsMovedTerm : Gap → Term → Term → Type 0
IsMovedTerm gap (terms.Unknown n) new = (m : ℕ) × IsClosedUp gap.unknowns n m × (new ≡ terms.Unknown m)
IsMovedTerm gap (terms.Val v) new = new ≡ terms.Val v
IsMovedTerm gap (terms.Param n) new = new ≡ terms.Param n
IsMovedTerm gap (terms.Var n) new = new ≡ terms.Var n

pub record IsMovedAtom (gap : Gap) (old new : TermAtom) : Type 0 where
  pub op : new.op ≡ old.op
  pub left : IsMovedTerm gap old.left new.left
  pub right : IsMovedTerm gap old.right new.right

-- the step with the new numbers of the facts and unknowns that it names, of which none is gone
pub data IsMoved (gap : Gap) : Step → Step → Type 0 where
  entry : {branch entry : ℕ} → IsMoved gap (steps.Entry branch entry) (steps.Entry branch entry)
  key : {branch key left right newleft newright : ℕ} → IsClosedUp gap.facts left newleft → IsClosedUp gap.facts right newright →
      IsMoved gap (steps.Key branch key left right) (steps.Key branch key newleft newright)
  link : {branch link fact new : ℕ} → IsClosedUp gap.facts fact new → IsMoved gap (steps.Link branch link fact) (steps.Link branch link new)
  rule : {branch rule part : ℕ} {facts new : List ℕ} → AllZip (IsClosedUp gap.facts) facts new →
      IsMoved gap (steps.Rule branch rule part facts) (steps.Rule branch rule part new)
  view : {branch view part : ℕ} {facts new : List ℕ} → AllZip (IsClosedUp gap.facts) facts new →
      IsMoved gap (steps.View branch view part facts) (steps.View branch view part new)
  split : {branch : ℕ} {atom new : TermAtom} → IsMovedAtom gap atom new → IsMoved gap (steps.Split branch atom) (steps.Split branch new)
  absurd : {branch : ℕ} → IsMoved gap (steps.Absurd branch) (steps.Absurd branch)
  goal : {branch part : ℕ} {facts new : List ℕ} → AllZip (IsClosedUp gap.facts) facts new →
      IsMoved gap (steps.Goal branch part facts) (steps.Goal branch part new)

-- ---- what steps make

-- the facts and unknowns that the one case adds to a branch with facts of these tables, if there is one case
abbrev pub gap_made : Schema → List ℕ → Layout → Option Gap
gap_made s tables [] = None
gap_made s tables (added ∷ []) = Some (record {
  facts = record { first = length tables; count = length added };
  unknowns = record { first = wide s tables; count = wide s added };
})
gap_made s tables (added ∷ other ∷ others) = None

-- by a step of a course with this layout, and how many branches there are before it and after it
abbrev pub made_by : Problem → Layout → Step → Made
made_by p layout step = record {
  gap = gap_made p.policy.schema (tables_on layout (branch_of step)) (adds p (tables_on layout (branch_of step)) step);
  before = length layout;
  after = length (layout_after p layout step);
}

abbrev pub made_from : Problem → Layout → List Step → List Made
made_from p layout [] = []
made_from p layout (step ∷ later) = made_by p layout step ∷ made_from p (layout_after p layout step) later

abbrev pub made : Problem → List Step → List Made
made p taken = made_from p (start_layout p) taken

-- The step makes one case of its branch, and the gap is the facts and the unknowns that it adds there.
pub record Makes (old new : Slots) (step : Step) (gap : Gap) : Type 0 where
  pub before : Branch
  pub after : Branch
  pub open_before : IsOpen old (branch_of step) before
  pub open_after : IsOpen new (branch_of step) after
  pub one_case : length new ≡ length old
  pub first_fact : gap.facts.first ≡ length before.facts
  pub facts : length after.facts ≡ length before.facts + gap.facts.count
  pub first_unknown : gap.unknowns.first ≡ length before.known.unknowns
  pub unknowns : length after.known.unknowns ≡ length before.known.unknowns + gap.unknowns.count

-- ---- the rest without some steps

-- what is missing on each branch, if anything is
abbrev pub Gaps : Type 0
Gaps = List (Option Gap)

abbrev pub gap_on : Gaps → ℕ → Option Gap
gap_on gaps branch = unwrap_or (slice_get gaps branch) None

-- what is missing, and what is made next on the branch
abbrev pub longer_span : Span → Span → Span
longer_span old more = record { first = old.first; count = old.count + more.count }

abbrev pub longer : Option Gap → Gap → Gap
longer None gap = gap
longer (Some old) gap = record { facts = longer_span old.facts gap.facts; unknowns = longer_span old.unknowns gap.unknowns }

-- a step of the branch, which makes the gap, is left out
abbrev pub gaps_with : Gaps → ℕ → Gap → Gaps
gaps_with gaps branch gap = slice_set gaps branch (Some (longer (gap_on gaps branch) gap))

-- the branches that a step makes of its own have its gap
abbrev pub gaps_after : Gaps → Step → Made → Gaps
gaps_after gaps step it = gaps ++ replicate (it.after - it.before) (gap_on gaps (branch_of step))

-- a step of a branch with this gap, or with none
abbrev pub IsMovedBy : Option Gap → Step → Step → Type 0
IsMovedBy None step new = new ≡ step
IsMovedBy (Some gap) step new = IsMoved gap step new

-- The others of some steps, of which the first so many are left out: each of these makes one case, and each other one is moved, so that it names nothing that
-- is missing.
pub data AreOthers : Gaps → ℕ → List Step → List Made → List Step → Type 0 where
  none : {gaps : Gaps} {left : ℕ} → AreOthers gaps left [] [] []
  gone : {gaps : Gaps} {left : ℕ} {step : Step} {later rest : List Step} {it : Made} {its : List Made} {gap : Gap} → it.gap ≡ Some gap →
      AreOthers (gaps_with gaps (branch_of step) gap) left later its rest → AreOthers gaps (suc left) (step ∷ later) (it ∷ its) rest
  stays : {gaps : Gaps} {step moved : Step} {later rest : List Step} {it : Made} {its : List Made} → IsMovedBy (gap_on gaps (branch_of step)) step moved →
      AreOthers (gaps_after gaps step it) zero later its rest → AreOthers gaps zero (step ∷ later) (it ∷ its) (moved ∷ rest)

-- The other steps without those from one number up to another: those before them as they are, those after them without what is missing.
pub record IsWithout (taken : List Step) (its : List Made) (first end : ℕ) (rest : List Step) : Type 0 where
  pub it : Made
  pub it_is : slice_get its first ≡ Some it
  pub moved : List Step
  pub others : AreOthers (replicate it.before None) (end - first) (drop first taken) (drop first its) moved
  pub rest_is : rest ≡ take first taken ++ moved

-- without these steps the rest still proves the problem
pub record IsLeftOut (p : Problem) (taken : List Step) (first end : ℕ) (rest : List Step) : Type 0 where
  pub without : IsWithout taken (made p taken) first end rest
  pub closes : Closes p rest

abbrev pub CanNotBeLeftOut : Problem → List Step → ℕ → ℕ → Type 0
CanNotBeLeftOut p taken first end = (rest : List Step) → ¬ (IsLeftOut p taken first end rest)

-- ---- which steps stay

abbrev pub middle : ℕ → ℕ → ℕ
middle first end = first + (end - first) / 2

-- Of the steps from one number up to another all are left out at once, if the rest still proves the problem. Else the later half is gone through and then the
-- earlier one, and a step alone stays.
pub data Leaves (p : Problem) : List Step → ℕ → ℕ → List Step → Type 0 where
  none : {taken : List Step} {first end : ℕ} → end ≤ first → Leaves p taken first end taken
  out : {taken rest : List Step} {first end : ℕ} → first < end → IsLeftOut p taken first end rest → Leaves p taken first end rest
  stays : {taken : List Step} {first end : ℕ} → end - first ≡ 1 → CanNotBeLeftOut p taken first end → Leaves p taken first end taken
  halves : {taken half kept : List Step} {first end : ℕ} → 1 < end - first → CanNotBeLeftOut p taken first end → Leaves p taken (middle first end) end half →
      Leaves p half first (middle first end) kept → Leaves p taken first end kept

abbrev pub AreKept : Problem → List Step → List Step → Type 0
AreKept p taken kept = Leaves p taken 0 (length taken) kept

-- what a proof keeps is determined
abbrev pub KeptAreOne : Type 0
KeptAreOne = (p : Problem) (taken kept other : List Step) → AreKept p taken kept → AreKept p taken other → kept ≡ other

-- ---- which steps stay in any case

-- a step by the entry makes several cases of its branch, or none, so it is never left out
abbrev pub makes_cases : Problem → ℕ → Bool
makes_cases p n = not (nat_eq (length (entry_adds p n)) 1)

abbrev pub if_cases : Bool → ℕ → List ℕ
if_cases true n = n ∷ []
if_cases false n = []

abbrev pub named_of_cases : Problem → Step → List ℕ
named_of_cases p (steps.Entry branch n) = if_cases (makes_cases p n) n
named_of_cases p step = []

-- numbers of such entries that the steps name, rising
pub record AreOfCases (p : Problem) (taken : List Step) (numbers : List ℕ) : Type 0 where
  pub rising : IsStrictlySortedBy nat_cmp numbers
  pub exact : (n : ℕ) → Contains numbers n ↔ Contains (flat_map (named_of_cases p) taken) n

-- ---- answers that may be none

-- P of what is there, or that P is of nothing
abbrev pub MaybeIs : {X : Type 0} → (X → Type 0) → Option X → Type 0
MaybeIs P None = (x : _) → ¬ (P x)
MaybeIs P (Some x) = P x

-- the list that is P of another, element by element, or that none is
abbrev pub MaybeAll : {X Y : Type 0} → (X → Y → Type 0) → List X → Option (List Y) → Type 0
MaybeAll P xs result = MaybeIs (AllZip P xs) result

-- the steps where they prove the problem, or that they don't
abbrev pub IsTried : Problem → List Step → Option (List Step) → Type 0
IsTried p rest None = ¬ (Closes p rest)
IsTried p rest (Some same) = Closes p rest × (same ≡ rest)

-- what a step makes in a course: the gap, if it makes one case, and how many branches there are
pub record IsMadeBy (old new : Slots) (step : Step) (it : Made) : Type 0 where
  pub gap : MaybeIs (Makes old new step) it.gap
  pub before : it.before ≡ length old
  pub after : it.after ≡ length new

abbrev pub StepsMakeTheirs : Type 0
StepsMakeTheirs = (p : Problem) (taken : List Step) (n : ℕ) (old new : Slots) (step : Step) (it : Made) → Runs p (take n taken) old → Takes p old step new →
    slice_get taken n ≡ Some step → slice_get (made p taken) n ≡ Some it → IsMadeBy old new step it

-- ---- one of the steps

-- a step of the branch is left out, and its gap is missing there; not told where it makes none
abbrev pub IsGone : Gaps → ℕ → Option Gap → Gaps → Bool → Type 0
IsGone gaps branch None new told = told ≡ false
IsGone gaps branch (Some gap) new told = (told ≡ true) × (new ≡ gaps_with gaps branch gap)

-- a step stays behind those that stayed so far; not told where it names what is missing
abbrev pub IsTaken : Gaps → List Step → Step → Made → Gaps → List Step → Bool → Type 0
IsTaken gaps sofar step it new rest false = (moved : Step) → ¬ (IsMovedBy (gap_on gaps (branch_of step)) step moved)
IsTaken gaps sofar step it new rest true =
    (moved : Step) × IsMovedBy (gap_on gaps (branch_of step)) step moved × (new ≡ gaps_after gaps step it) × (rest ≡ sofar ++ moved ∷ [])

-- the next step, where so many are still left out
abbrev pub IsNext : ℕ → Gaps → List Step → Step → Made → Gaps → List Step → Bool → Type 0
IsNext zero gaps sofar step it new rest told = IsTaken gaps sofar step it new rest told
IsNext (suc left) gaps sofar step it new rest told = IsGone gaps (branch_of step) it.gap new told × (rest ≡ sofar)
