-- Steps whose first case, which keeps the branch's number, grows quietly.
use Rattle.std.specs.Prelude.{◌≡◌, ℕ, ◌≤◌, List, [], All, map, Option, Some, None, false, nat_eq, slice_get}
use Rattle.std.specs.List.{AllZip, IsDistinct}
use Rattle.ba_model.specs.SchemaFaults.{columns_of}
use Rattle.ba_model.specs.declared.policy.View.{View}
use Rattle.ba_model.specs.declared.query.Op.{Op}
use Rattle.ba_model.specs.declared.query.Op.TheVariants.{Eq, Ne, Lt, Le, IsNull, NotNull}
use Rattle.ba_model.specs.declared.query.Part.{Part}
use Rattle.ba_model.specs.declared.schema.Column.{Column}
use Rattle.ba_model.specs.declared.schema.Link.{Link}
use Rattle.ba_model.specs.declared.schema.Rule.{Rule}
use Rattle.ba_model.specs.declared.schema.Schema.{Schema}
use Rattle.ba_facts.specs.Known.{Known, OneClass, ShownNotNull}
use Rattle.ba_facts.specs.Knowing.{IsThere}
use Rattle.ba_facts.specs.Matches.{Under, row_of, term_of}
use Rattle.ba_facts.specs.Shown.{RecordedApart}
use Rattle.ba_facts.specs.declared.branch.Branch.{Branch}
use Rattle.ba_facts.specs.declared.term.Fact.{Fact}
use Rattle.ba_facts.specs.declared.term.Side.{Side}
use Rattle.ba_facts.specs.declared.term.Side.TheVariants.{One}
use Rattle.ba_facts.specs.declared.term.Term.{Term}
use Rattle.ba_kernel.specs.Courses.{IsOpen, ProblemFits, Runs, Slots, Takes, branch_of}
use Rattle.ba_kernel.specs.Effects.{IsCase, rows_at}
use Rattle.ba_kernel.specs.News.{IsNewOn}
use Rattle.ba_kernel.specs.Steps.{IsLinkOf, IsRound}
use Rattle.ba_kernel.specs.declared.problem.Problem.{Problem}
use Rattle.ba_kernel.specs.declared.problem.ProblemEntry.{ProblemEntry}
use Rattle.ba_kernel.specs.declared.step.Step.{Step}
use Rattle.ba_kernel.specs.declared.step.Step.TheVariants as steps
use Rattle.ba_instant.specs.Offers.{IsTelling}
use Rattle.ba_instant.specs.QuietKeys.{IsQuietKey}
use Rattle.ba_instant.specs.Windows.{GrowsQuietly, IsQuietUpto, IsToldOf}

-- ---- rows of terms that give a row already, facts or not

-- the term may stand in the column: it is never NULL where the column isn't
abbrev pub IsFilled : Known → Column → Term → Type 0
IsFilled k column t = column.nullable ≡ false → ShownNotNull k t

-- a term for each of the table's columns
abbrev pub IsRowFor : Schema → Known → ℕ → List Term → Type 0
IsRowFor s k table ts = AllZip (IsFilled k) (columns_of s.tables table) ts

-- there is a term, and it is of one class with the other
pub record IsOneWith (k : Known) (o : Option Term) (t : Term) : Type 0 where
  pub term : Term
  pub is : o ≡ Some term
  pub class : OneClass k term t

-- a row for each table of the part; what its atoms tell of them is known, and they give a row of
-- the same classes
pub record GivesRow (s : Schema) (b : Branch) (part : Part) (rows : List (List Term))
    (row : List Term) : Type 0 where
  pub rows_for : AllZip (IsRowFor s b.known) part.from rows
  pub told : All (Under (IsToldOf b.known) rows) part.conds
  pub head : AllZip (IsOneWith b.known) (map (term_of rows) part.head) row

-- the terms of each fact may stand in its table's columns
pub record FactsAreFilled (s : Schema) (b : Branch) : Type 0 where
  pub facts : All (λ (fact : Fact). IsRowFor s b.known fact.table fact.terms) b.facts

-- ---- steps

-- what is shown is known as lessons tell it: equal terms are of one class, and unequal ones were
-- learned to be so
abbrev pub IsPlain : Known → Op → Term → Term → Type 0
IsPlain k Eq a b = OneClass k a b
IsPlain k Ne a b = RecordedApart k a b
IsPlain k Lt a b = Unit {0}
IsPlain k Le a b = Unit {0}
IsPlain k IsNull a b = Unit {0}
IsPlain k NotNull a b = Unit {0}

-- the facts are the view's first part's, whose atoms are plain of them
pub record IsQuietView (p : Problem) (b : Branch) (view part : ℕ) (facts : List ℕ) : Type 0 where
  pub first : part ≡ 0
  pub it : View
  pub view_is : slice_get p.policy.views view ≡ Some it
  pub of : Part
  pub part_is : slice_get it.query.parts 0 ≡ Some of
  pub plain : All (Under (IsPlain b.known) (rows_at b facts)) of.conds

-- no two of the link's columns go to one target column
pub record IsQuietLink (s : Schema) (b : Branch) (link fact : ℕ) : Type 0 where
  pub f : Fact
  pub fact_is : slice_get b.facts fact ≡ Some f
  pub it : Link
  pub link_of : IsLinkOf s f link it
  pub distinct : IsDistinct nat_eq it.target_columns

-- some rows of terms give the entry's row by its query's first part
pub record IsQuietEntry (p : Problem) (b : Branch) (entry : ℕ) : Type 0 where
  pub it : ProblemEntry
  pub there : slice_get p.entries entry ≡ Some it
  pub of : Part
  pub part_is : slice_get it.query.parts 0 ≡ Some of
  pub row : List Term
  pub row_is : map (term_of []) it.row ≡ map Some row
  pub rows : List (List Term)
  pub gives : GivesRow p.policy.schema b of rows row

-- some rows of terms give the facts' row by the rule's right query's first part
pub record IsQuietRule (p : Problem) (b : Branch) (rule part : ℕ) (facts : List ℕ) : Type 0 where
  pub it : Rule
  pub rule_is : slice_get p.policy.schema.rules rule ≡ Some it
  pub left : Part
  pub left_is : slice_get it.left.parts part ≡ Some left
  pub of : Part
  pub part_is : slice_get it.right.parts 0 ≡ Some of
  pub row : List Term
  pub row_is : row_of b facts left.head ≡ map Some row
  pub rows : List (List Term)
  pub gives : GivesRow p.policy.schema b of rows row

abbrev pub IsQuietStep : Problem → Branch → Step → Type 0
IsQuietStep p b (steps.Entry branch entry) = IsQuietEntry p b entry
IsQuietStep p b (steps.Key branch key left right) = IsQuietKey p b left right
IsQuietStep p b (steps.Link branch link fact) = IsQuietLink p.policy.schema b link fact
IsQuietStep p b (steps.Rule branch rule part facts) = IsQuietRule p b rule part facts
IsQuietStep p b (steps.View branch view part facts) = IsQuietView p b view part facts
IsQuietStep p b (steps.Split branch atom) = ⊥
IsQuietStep p b (steps.Absurd branch) = ⊥
IsQuietStep p b (steps.Goal branch part facts) = ⊥

-- ---- steps that add to side One alone

-- the fact is of side One
pub record IsOfOne (b : Branch) (fact : ℕ) : Type 0 where
  pub f : Fact
  pub fact_is : slice_get b.facts fact ≡ Some f
  pub side_is : f.side ≡ One

-- the step is by a link of such a fact
abbrev pub AddsToOne : Branch → Step → Type 0
AddsToOne b (steps.Entry branch entry) = ⊥
AddsToOne b (steps.Key branch key left right) = ⊥
AddsToOne b (steps.Link branch link fact) = IsOfOne b fact
AddsToOne b (steps.Rule branch rule part facts) = ⊥
AddsToOne b (steps.View branch view part facts) = ⊥
AddsToOne b (steps.Split branch atom) = ⊥
AddsToOne b (steps.Absurd branch) = ⊥
AddsToOne b (steps.Goal branch part facts) = ⊥

abbrev pub AddsToOneAt : Option Branch → Step → Type 0
AddsToOneAt None step = ⊥
AddsToOneAt (Some b) step = AddsToOne b step

-- ---- the laws

-- the facts of each open branch of a course are filled
abbrev pub RunsAreFilled : Type 0
RunsAreFilled =
    (p : Problem) (taken : List Step) (slots : Slots) (number : ℕ) (b : Branch) →
    Runs p taken slots → IsOpen slots number b → FactsAreFilled p.policy.schema b

-- a case of a row that some rows of terms give already grows quietly
abbrev pub GivenCaseIsQuiet : Type 0
GivenCaseIsQuiet =
    (s : Schema) (b c : Branch) (side : Side) (round : ℕ) (part : Part) (rows : List (List Term))
    (row : List Term) →
    All (IsThere b.known) row → GivesRow s b part rows row → IsCase s b side round row part c →
    GrowsQuietly round b c

-- the step is accepted, and leads from b to c at its number; it is quiet, and has this round
pub record TakesQuietly (p : Problem) (taken : List Step) (step : Step) (old new : Slots)
    (b c : Branch) (round : ℕ) : Type 0 where
  pub runs : Runs p taken old
  pub takes : Takes p old step new
  pub from : IsOpen old (branch_of step) b
  pub to : IsOpen new (branch_of step) c
  pub quiet : IsQuietStep p b step
  pub round_is : IsRound p b step round

-- What is new after a quiet step, of a round up to the step's, was new before, of the same round.
abbrev pub NewAfterQuietStep : Type 0
NewAfterQuietStep =
    (p : Problem) (taken : List Step) (step : Step) (old new : Slots) (b c : Branch) (round : ℕ)
    (other : Step) (its_round : ℕ) → ProblemFits p →
    TakesQuietly p taken step old new b c round → IsTelling (branch_of step) other →
    IsNewOn p c other → IsRound p c other its_round → its_round ≤ round →
    IsNewOn p b other × IsRound p b other its_round

-- After a quiet step the branch of its number stays quiet up to each round before the step's.
abbrev pub QuietStepKeeps : Type 0
QuietStepKeeps =
    (p : Problem) (taken : List Step) (step : Step) (old new : Slots) (b c : Branch)
    (round bound : ℕ) → ProblemFits p →
    TakesQuietly p taken step old new b c round → bound ≤ round →
    IsQuietUpto p b (branch_of step) bound → IsQuietUpto p c (branch_of step) bound
