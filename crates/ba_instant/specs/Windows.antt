-- What isn't new on a branch up to a round, and how a branch may grow so that it stays so.
use Rattle.std.specs.Prelude.{◌≡◌, ℕ, ◌+◌, ◌<◌, ◌≤◌, List, ◌++◌, All, length, Some, false, slice_get}
use Rattle.ba_model.specs.declared.query.Op.{Op}
use Rattle.ba_model.specs.declared.query.Op.TheVariants.{Eq, Ne, Lt, Le, IsNull, NotNull}
use Rattle.ba_facts.specs.Known.{Known, OneClass, ShownNotNull, ShownNull}
use Rattle.ba_facts.specs.Knowing.{IsThere, LessonIsThere}
use Rattle.ba_facts.specs.Shown.{Absurd, IsAtMost, IsLess, NeitherNull, RecordedApart}
use Rattle.ba_facts.specs.declared.branch.Branch.{Branch}
use Rattle.ba_facts.specs.declared.term.Fact.{Fact}
use Rattle.ba_facts.specs.declared.term.Lesson.{Lesson}
use Rattle.ba_facts.specs.declared.term.Lesson.TheVariants.{Same, Holds}
use Rattle.ba_facts.specs.declared.term.Sort.{Sort}
use Rattle.ba_facts.specs.declared.term.Term.{Term}
use Rattle.ba_facts.specs.declared.term.Term.TheVariants.{Unknown}
use Rattle.ba_kernel.specs.Courses.{IsOpen, ProblemFits, Runs, Slots, branch_of}
use Rattle.ba_kernel.specs.News.{IsNewOn}
use Rattle.ba_kernel.specs.Steps.{IsRound}
use Rattle.ba_kernel.specs.declared.problem.Problem.{Problem}
use Rattle.ba_kernel.specs.declared.step.Step.{Step}
use Rattle.ba_settle.specs.Dues.{IsDueStep}
use Rattle.ba_instant.specs.Offers.{IsTelling}

-- no step that tells the branch something is new there whose round is at most the bound
abbrev pub IsQuietUpto : Problem → Branch → ℕ → ℕ → Type 0
IsQuietUpto p b number bound =
    (step : Step) (round : ℕ) → IsTelling number step → IsNewOn p b step → IsRound p b step round →
    bound < round

-- ---- quiet growth

-- of the two terms is known already what such an atom tells
abbrev pub IsToldOf : Known → Op → Term → Term → Type 0
IsToldOf k Eq a b = NeitherNull k a b × OneClass k a b
IsToldOf k Ne a b = NeitherNull k a b × RecordedApart k a b
IsToldOf k Lt a b = IsLess k a b
IsToldOf k Le a b = IsAtMost k a b
IsToldOf k IsNull a b = ShownNull k a
IsToldOf k NotNull a b = ShownNotNull k a

-- so it is of the terms that stand for the lesson's
abbrev pub IsToldBy : Known → (Term → Term) → Lesson → Type 0
IsToldBy k stands (Same a b) = OneClass k (stands a) (stands b)
IsToldBy k stands (Holds atom) = IsToldOf k atom.op (stands atom.left) (stands atom.right)

-- c is b with further unknowns, facts and lessons. For each further unknown stands a term, and
-- every other term for itself, so that what the lessons tell of the terms that stand for theirs was
-- known already, and what is never NULL stands for what is never NULL.
pub record IsQuietGrowth (b c : Branch) : Type 0 where
  pub unknowns : List Sort
  pub lessons : List Lesson
  pub facts : List Fact
  pub unknowns_are : c.known.unknowns ≡ b.known.unknowns ++ unknowns
  pub lessons_are : c.known.learned ≡ b.known.learned ++ lessons
  pub facts_are : c.facts ≡ b.facts ++ facts
  pub goal : c.goal ≡ b.goal
  pub params : c.params ≡ b.params
  pub vars : c.vars ≡ b.vars
  pub stands : Term → Term
  pub itself : (t : Term) → IsThere b.known t → stands t ≡ t
  pub told : All (IsToldBy b.known stands) lessons
  pub not_null : (n : ℕ) (sort : Sort) → slice_get unknowns n ≡ Some sort → sort.nullable ≡ false →
      ShownNotNull b.known (stands (Unknown (length b.known.unknowns + n)))

-- the further facts have no lesser round
abbrev pub AreLate : ℕ → List Fact → Type 0
AreLate bound facts = All (λ (fact : Fact). bound ≤ fact.round) facts

-- c grows so from b, by such facts
pub record GrowsQuietly (bound : ℕ) (b c : Branch) : Type 0 where
  pub growth : IsQuietGrowth b c
  pub late : AreLate bound growth.facts

-- the terms of the facts, of the goal row and of the lessons are there
pub record IsGrounded (b : Branch) : Type 0 where
  pub facts : All (λ (fact : Fact). All (IsThere b.known) fact.terms) b.facts
  pub goal : All (IsThere b.known) b.goal
  pub lessons : All (LessonIsThere b.known) b.known.learned

-- ---- the laws

-- each open branch of a course is grounded
abbrev pub RunsAreGrounded : Type 0
RunsAreGrounded =
    (p : Problem) (taken : List Step) (slots : Slots) (number : ℕ) (b : Branch) → ProblemFits p →
    Runs p taken slots → IsOpen slots number b → IsGrounded b

-- Where a branch grows quietly by facts of no round below the bound, a step of a round up to the
-- bound that is new then was new before, of the same round.
abbrev pub NewWasNew : Type 0
NewWasNew =
    (p : Problem) (b c : Branch) (number bound : ℕ) (step : Step) (round : ℕ) → IsGrounded b →
    GrowsQuietly bound b c → IsTelling number step → round ≤ bound →
    IsNewOn p c step → IsRound p c step round → IsNewOn p b step × IsRound p b step round

-- where a branch grows quietly by facts of no round below the bound, it stays quiet up to the
-- bound, whatever its number is then
abbrev pub QuietStays : Type 0
QuietStays =
    (p : Problem) (b c : Branch) (number other bound : ℕ) → IsGrounded b → GrowsQuietly bound b c →
    IsQuietUpto p b number bound → IsQuietUpto p c other bound

-- and it isn't absurd if it wasn't
abbrev pub QuietIsNotAbsurd : Type 0
QuietIsNotAbsurd =
    (b c : Branch) → IsGrounded b → IsQuietGrowth b c → Absurd c.known → Absurd b.known

-- a branch is quiet up to each round before that of its due step, and up to 0
abbrev pub DueIsQuiet : Type 0
DueIsQuiet =
    (p : Problem) (slots : Slots) (step : Step) (bound : ℕ) → (due : IsDueStep p slots step) →
    bound < due.round → IsQuietUpto p due.branch (branch_of step) bound

abbrev pub QuietAtFirst : Type 0
QuietAtFirst = (p : Problem) (b : Branch) (number : ℕ) → IsQuietUpto p b number 0
