-- The eight kinds of step, each whole: what it needs (`EntryPasses`), which test fails first
-- (`EntryRefuses`), what takes the branch's place (`EntryLeads`), whether the branch has it already
-- (`EntryIsMet`; of a split, `SplitTells`), and its round. The tables at the end tell each of any
-- step: `Passes`, `Refuses`, `Leads`, `Tells`, `IsRound`. What holds of all eight alike is said
-- once: a step is new where it passes and tells (`IsNewOn` of News), one that passes isn't refused
-- (`PassedIsNotRefused` of SearchStates), and the cases that it leads to lose no pair of databases
-- that breaks compliance (`StepKeepsFit` of Soundness).
use Rattle.std.specs.Prelude.{◌≡◌, ℕ, ◌+◌, ◌<◌, ◌≤◌, List, [], ◌∷◌, All, Any, Contains, map, length, Option, Some, None, slice_get}
use Rattle.std.specs.List.{AllZip, zip}
use Rattle.ba_model.specs.declared.policy.View.{View}
use Rattle.ba_model.specs.declared.query.Op.{Op}
use Rattle.ba_model.specs.declared.query.Op.TheVariants.{Eq, Ne, Lt, Le, IsNull, NotNull}
use Rattle.ba_model.specs.declared.query.Part.{Part}
use Rattle.ba_model.specs.declared.schema.Kind.{Kind}
use Rattle.ba_model.specs.declared.schema.Link.{Link}
use Rattle.ba_model.specs.declared.schema.Rule.{Rule}
use Rattle.ba_model.specs.declared.schema.Schema.{Schema}
use Rattle.ba_model.specs.declared.schema.Table.{Table}
use Rattle.ba_facts.specs.Known.{Known, ShownNotNull}
use Rattle.ba_facts.specs.Knowing.{IsThere}
use Rattle.ba_facts.specs.Laws.{kind_of_term, TermOpFits}
use Rattle.ba_facts.specs.Matches.{AreTheSame, IsAnswered, IsFactOf, IsLiveAtom, IsMapping, IsShown, round_of, row_of, term_of, terms_at}
use Rattle.ba_facts.specs.Shown.{Absurd, IsEqual, NeitherNull, Refutes, Shows, TheSame}
use Rattle.ba_facts.specs.declared.branch.Branch.{Branch}
use Rattle.ba_facts.specs.declared.term.Fact.{Fact}
use Rattle.ba_facts.specs.declared.term.Lesson.{Lesson}
use Rattle.ba_facts.specs.declared.term.Lesson.TheVariants.{Holds}
use Rattle.ba_facts.specs.declared.term.Side.{Side}
use Rattle.ba_facts.specs.declared.term.Side.TheVariants.{One, Two}
use Rattle.ba_facts.specs.declared.term.Term.{Term}
use Rattle.ba_facts.specs.declared.term.TermAtom.{TermAtom}
use Rattle.ba_kernel.specs.Effects.{AreNext, IsCase, IsEntryRound, negation, rows_at, same_at, same_pair, with_fact, with_lessons}
use Rattle.ba_kernel.specs.declared.problem.Problem.{Problem}
use Rattle.ba_kernel.specs.declared.problem.ProblemEntry.{ProblemEntry}
use Rattle.ba_kernel.specs.declared.step.Step.{Step}
use Rattle.ba_kernel.specs.declared.step.Step.TheVariants as steps
use Rattle.ba_kernel.specs.declared.step.StepFault.{StepFault}
use Rattle.ba_kernel.specs.declared.step.StepFault.TheVariants.{BadFact, BadRule, CondNotShown, HeadDiffers, NotAbsurd}

-- ---- what the steps share

-- the first of the list of which P doesn't hold has the number n
pub record IsFirstWithout {X : Type 0} (P : X → Type 0) (xs : List X) (n : ℕ) : Type 0 where
  pub it : X
  pub there : slice_get xs n ≡ Some it
  pub without : ¬ (P it)
  pub before : (m : ℕ) (other : X) → m < n → slice_get xs m ≡ Some other → P other

-- the first of the list of which P doesn't hold, if there is one
abbrev pub FirstWithout : {X : Type 0} → (X → Type 0) → List X → Option ℕ → Type 0
FirstWithout P xs None = All P xs
FirstWithout P xs (Some n) = IsFirstWithout P xs n

-- the facts are the part's on the side, and its atoms are shown of them
pub record FactsPass (b : Branch) (side : Side) (part : Part) (facts : List ℕ) : Type 0 where
  pub mapping : IsMapping b side part.from facts
  pub shown : All (IsShown b.known (rows_at b facts)) part.conds

-- the facts aren't the part's on the side, or an atom isn't shown of them
pub data FactsRefuse (b : Branch) (side : Side) (part : Part) (facts : List ℕ) :
    StepFault → Type 0 where
  no_mapping : ¬ (IsMapping b side part.from facts) → FactsRefuse b side part facts BadFact
  hidden : {n : ℕ} → IsMapping b side part.from facts →
      IsFirstWithout (IsShown b.known (rows_at b facts)) part.conds n →
      FactsRefuse b side part facts (CondNotShown n)

-- some facts of the side show the atoms of one of the parts, and their head is the same as the row
abbrev pub IsGiven : Branch → Side → List (Option Term) → List Part → Type 0
IsGiven b side row parts = Any (λ part. IsAnswered b side part row) parts

-- ---- Entry: a row that was shown before is a row of its query on side One

-- there is an entry of the number
pub record EntryPasses (p : Problem) (entry : ℕ) : Type 0 where
  pub it : ProblemEntry
  pub there : slice_get p.entries entry ≡ Some it

-- there is none
abbrev pub EntryRefuses : Problem → ℕ → StepFault → Type 0
EntryRefuses p entry fault = (slice_get p.entries entry ≡ None) × (fault ≡ BadRule)

-- for each part of the entry's query a case where it gives the entry's row on side One
pub record EntryLeads (p : Problem) (b : Branch) (entry : ℕ) (cases : List Branch) : Type 0 where
  pub passes : EntryPasses p entry
  pub row : List Term
  pub row_is : map (term_of []) passes.it.row ≡ map Some row
  pub round : ℕ
  pub round_is : IsEntryRound p passes.it.row round
  pub cases_are : AllZip (IsCase p.policy.schema b One round row) passes.it.query.parts cases

-- the entry's row is given on side One
pub record EntryIsMet (p : Problem) (b : Branch) (entry : ℕ) : Type 0 where
  pub it : ProblemEntry
  pub there : slice_get p.entries entry ≡ Some it
  pub given : IsGiven b One (row_of b [] it.row) it.query.parts

pub record IsRoundOfEntry (p : Problem) (entry round : ℕ) : Type 0 where
  pub it : ProblemEntry
  pub there : slice_get p.entries entry ≡ Some it
  pub round_is : IsEntryRound p it.row round

-- ---- Key: two rows that are equal on a key are equal

-- two facts of one side and table
pub record ArePair (b : Branch) (left right : ℕ) (f g : Fact) : Type 0 where
  pub left_is : slice_get b.facts left ≡ Some f
  pub right_is : slice_get b.facts right ≡ Some g
  pub side : g.side ≡ f.side
  pub table : g.table ≡ f.table

-- a key of the fact's table
pub record IsKeyOf (s : Schema) (f : Fact) (key : ℕ) (columns : List ℕ) : Type 0 where
  pub table : Table
  pub table_is : slice_get s.tables f.table ≡ Some table
  pub key_is : slice_get table.keys key ≡ Some columns

-- `=` is shown of the two terms in the column
pub record AreEqualAt (b : Branch) (left right : List Term) (column : ℕ) : Type 0 where
  pub a : Term
  pub c : Term
  pub left_is : slice_get left column ≡ Some a
  pub right_is : slice_get right column ≡ Some c
  pub equal : IsEqual b.known a c

-- two facts of one side and table that are shown equal on a key of it
pub record KeyPasses (s : Schema) (b : Branch) (key left right : ℕ) : Type 0 where
  pub f : Fact
  pub g : Fact
  pub pair : ArePair b left right f g
  pub columns : List ℕ
  pub key_of : IsKeyOf s f key columns
  pub equal : All (AreEqualAt b f.terms g.terms) columns

-- there are two facts of one side and table
abbrev pub SomePair : Branch → ℕ → ℕ → Type 0
SomePair b left right = (f : Fact) × (g : Fact) × ArePair b left right f g

abbrev pub SomeKey : Problem → Fact → ℕ → Type 0
SomeKey p f key = (columns : List ℕ) × IsKeyOf p.policy.schema f key columns

pub data KeyRefuses (p : Problem) (b : Branch) (key left right : ℕ) : StepFault → Type 0 where
  no_pair : ¬ (SomePair b left right) → KeyRefuses p b key left right BadFact
  no_key : {f g : Fact} → ArePair b left right f g → ¬ (SomeKey p f key) →
      KeyRefuses p b key left right BadRule
  hidden : {f g : Fact} {columns : List ℕ} {n : ℕ} → ArePair b left right f g →
      IsKeyOf p.policy.schema f key columns →
      IsFirstWithout (AreEqualAt b f.terms g.terms) columns n →
      KeyRefuses p b key left right (CondNotShown n)

-- the facts' terms are the same, column by column
pub record KeyLeads (p : Problem) (b : Branch) (key left right : ℕ) (cases : List Branch) :
    Type 0 where
  pub passes : KeyPasses p.policy.schema b key left right
  pub cases_are : cases ≡ with_lessons b (map same_pair (zip passes.f.terms passes.g.terms)) ∷ []

-- they are already
pub record KeyIsMet (b : Branch) (left right : ℕ) : Type 0 where
  pub f : Fact
  pub g : Fact
  pub left_is : slice_get b.facts left ≡ Some f
  pub right_is : slice_get b.facts right ≡ Some g
  pub same : AllZip (TheSame b.known) f.terms g.terms

-- ---- Link: a row has its link's target

-- a link of the fact's table
pub record IsLinkOf (s : Schema) (f : Fact) (link : ℕ) (it : Link) : Type 0 where
  pub table : Table
  pub table_is : slice_get s.tables f.table ≡ Some table
  pub link_is : slice_get table.links link ≡ Some it

-- the term in the column is shown not null
pub record IsNotNullAt (b : Branch) (ts : List Term) (column : ℕ) : Type 0 where
  pub a : Term
  pub there : slice_get ts column ≡ Some a
  pub not_null : ShownNotNull b.known a

-- a fact that is shown not null in the columns of a link of its table
pub record LinkPasses (s : Schema) (b : Branch) (link fact : ℕ) : Type 0 where
  pub f : Fact
  pub fact_is : slice_get b.facts fact ≡ Some f
  pub it : Link
  pub link_of : IsLinkOf s f link it
  pub not_null : All (IsNotNullAt b f.terms) it.columns

abbrev pub SomeLink : Problem → Fact → ℕ → Type 0
SomeLink p f link = (it : Link) × IsLinkOf p.policy.schema f link it

pub data LinkRefuses (p : Problem) (b : Branch) (link fact : ℕ) : StepFault → Type 0 where
  no_fact : slice_get b.facts fact ≡ None → LinkRefuses p b link fact BadFact
  no_link : {f : Fact} → slice_get b.facts fact ≡ Some f → ¬ (SomeLink p f link) →
      LinkRefuses p b link fact BadRule
  hidden : {f : Fact} {it : Link} {n : ℕ} → slice_get b.facts fact ≡ Some f →
      IsLinkOf p.policy.schema f link it → IsFirstWithout (IsNotNullAt b f.terms) it.columns n →
      LinkRefuses p b link fact (CondNotShown n)

-- the branch with a fact of the link's target table on the fact's side, a round later
abbrev pub with_target : Schema → Branch → Fact → Link → Branch
with_target s b f it = with_fact s f.side (1 + f.round) b it.target

-- the terms of this fact
abbrev pub target_terms : Schema → Branch → Fact → Link → List Term
target_terms s b f it = terms_at (with_target s b f it) (length b.facts)

-- that a fact and its target are the same in the link's columns
abbrev pub target_lessons : Schema → Branch → Fact → Link → List (Option Lesson)
target_lessons s b f it =
    map (same_at f.terms (target_terms s b f it)) (zip it.columns it.target_columns)

-- a fact of the target table whose target columns are the same as the link's
pub record LinkLeads (p : Problem) (b : Branch) (link fact : ℕ) (cases : List Branch) : Type 0 where
  pub passes : LinkPasses p.policy.schema b link fact
  pub lessons : List Lesson
  pub lessons_are : target_lessons p.policy.schema b passes.f passes.it ≡ map Some lessons
  pub cases_are :
      cases ≡ with_lessons (with_target p.policy.schema b passes.f passes.it) lessons ∷ []

-- `=` is shown of the two terms in these columns
pub record AreEqualIn (b : Branch) (left right : List Term) (columns : ℕ × ℕ) : Type 0 where
  pub a : Term
  pub c : Term
  pub left_is : slice_get left columns.0 ≡ Some a
  pub right_is : slice_get right columns.1 ≡ Some c
  pub equal : IsEqual b.known a c

-- some fact of the target table on the fact's side has its target columns shown equal to the link's
pub record LinkIsMet (s : Schema) (b : Branch) (link fact : ℕ) : Type 0 where
  pub f : Fact
  pub fact_is : slice_get b.facts fact ≡ Some f
  pub it : Link
  pub link_of : IsLinkOf s f link it
  pub number : ℕ
  pub target : IsFactOf b f.side it.target number
  pub equal : All (AreEqualIn b f.terms (terms_at b number)) (zip it.columns it.target_columns)

-- ---- Rule: a row of a rule's left query is one of its right query, on the same side

-- the part of the rule's left query
pub record IsRulePart (p : Problem) (rule part : ℕ) (it : Part) : Type 0 where
  pub of : Rule
  pub rule_is : slice_get p.policy.schema.rules rule ≡ Some of
  pub part_is : slice_get of.left.parts part ≡ Some it

-- facts of a side of which the part is shown
pub record RulePasses (p : Problem) (b : Branch) (rule part : ℕ) (facts : List ℕ) : Type 0 where
  pub it : Part
  pub is_part : IsRulePart p rule part it
  pub side : Side
  pub pass : FactsPass b side it facts

abbrev pub SomeRulePart : Problem → ℕ → ℕ → Type 0
SomeRulePart p rule part = (it : Part) × IsRulePart p rule part it

-- the facts are the part's on some side
abbrev pub SomeSide : Branch → Part → List ℕ → Type 0
SomeSide b part facts = (side : Side) × IsMapping b side part.from facts

pub data RuleRefuses (p : Problem) (b : Branch) (rule part : ℕ) (facts : List ℕ) :
    StepFault → Type 0 where
  no_part : ¬ (SomeRulePart p rule part) → RuleRefuses p b rule part facts BadRule
  no_side : {it : Part} → IsRulePart p rule part it → ¬ (SomeSide b it facts) →
      RuleRefuses p b rule part facts BadFact
  hidden : {it : Part} (side : Side) {n : ℕ} → IsRulePart p rule part it →
      IsMapping b side it.from facts →
      IsFirstWithout (IsShown b.known (rows_at b facts)) it.conds n →
      RuleRefuses p b rule part facts (CondNotShown n)

-- for each part of the rule's right query a case where it gives the facts' row on their side
pub record RuleLeads (p : Problem) (b : Branch) (rule part : ℕ) (facts : List ℕ)
    (cases : List Branch) : Type 0 where
  pub passes : RulePasses p b rule part facts
  pub next :
      AreNext p.policy.schema b passes.side passes.it facts passes.is_part.of.right.parts cases

-- the row that the facts give is one of the rule's right query on their side
pub record RuleIsMet (p : Problem) (b : Branch) (rule part : ℕ) (facts : List ℕ) : Type 0 where
  pub it : Rule
  pub rule_is : slice_get p.policy.schema.rules rule ≡ Some it
  pub left : Part
  pub part_is : slice_get it.left.parts part ≡ Some left
  pub side : Side
  pub mapping : IsMapping b side left.from facts
  pub given : IsGiven b side (row_of b facts left.head) it.right.parts

-- ---- View: a view's row on side One is one on side Two

pub record IsViewPart (p : Problem) (view part : ℕ) (it : Part) : Type 0 where
  pub of : View
  pub view_is : slice_get p.policy.views view ≡ Some of
  pub part_is : slice_get of.query.parts part ≡ Some it

-- facts of side One of which the part is shown
pub record ViewPasses (p : Problem) (b : Branch) (view part : ℕ) (facts : List ℕ) : Type 0 where
  pub it : Part
  pub is_part : IsViewPart p view part it
  pub pass : FactsPass b One it facts

abbrev pub SomeViewPart : Problem → ℕ → ℕ → Type 0
SomeViewPart p view part = (it : Part) × IsViewPart p view part it

pub data ViewRefuses (p : Problem) (b : Branch) (view part : ℕ) (facts : List ℕ) :
    StepFault → Type 0 where
  no_part : ¬ (SomeViewPart p view part) → ViewRefuses p b view part facts BadRule
  facts_refuse : {it : Part} {fault : StepFault} → IsViewPart p view part it →
      FactsRefuse b One it facts fault → ViewRefuses p b view part facts fault

-- for each part of the view a case where it gives the facts' row on side Two
pub record ViewLeads (p : Problem) (b : Branch) (view part : ℕ) (facts : List ℕ)
    (cases : List Branch) : Type 0 where
  pub passes : ViewPasses p b view part facts
  pub next : AreNext p.policy.schema b Two passes.it facts passes.is_part.of.query.parts cases

-- the row that the facts give is one of the view on side Two
pub record ViewIsMet (p : Problem) (b : Branch) (view part : ℕ) (facts : List ℕ) : Type 0 where
  pub it : View
  pub view_is : slice_get p.policy.views view ≡ Some it
  pub of : Part
  pub part_is : slice_get it.query.parts part ≡ Some of
  pub given : IsGiven b Two (row_of b facts of.head) it.query.parts

-- ---- Split: an atom is true, or its negation is

-- both sides are of the kind
pub record AreOfKind (b : Branch) (atom : TermAtom) (kind : Kind) : Type 0 where
  pub left : kind_of_term b atom.left ≡ Some kind
  pub right : kind_of_term b atom.right ≡ Some kind

abbrev pub SomeKind : Branch → TermAtom → Type 0
SomeKind b atom = (kind : Kind) × AreOfKind b atom kind

-- a comparison's sides aren't null; the right side of IS NULL and IS NOT NULL repeats the left
abbrev pub MayBeSplit : Branch → Op → Term → Term → Type 0
MayBeSplit b Eq x y = NeitherNull b.known x y
MayBeSplit b Ne x y = NeitherNull b.known x y
MayBeSplit b Lt x y = NeitherNull b.known x y
MayBeSplit b Le x y = NeitherNull b.known x y
MayBeSplit b IsNull x y = y ≡ x
MayBeSplit b NotNull x y = y ≡ x

-- an atom of terms that are there, of one kind, order of whole numbers
pub record SplitPasses (b : Branch) (atom : TermAtom) : Type 0 where
  pub kind : Kind
  pub sides : AreOfKind b atom kind
  pub op : TermOpFits atom.op kind
  pub may : MayBeSplit b atom.op atom.left atom.right

-- both sides are there
abbrev pub SidesAreThere : Branch → TermAtom → Type 0
SidesAreThere b atom = IsThere b.known atom.left × IsThere b.known atom.right

pub data SplitRefuses (b : Branch) (atom : TermAtom) : StepFault → Type 0 where
  no_unknown : ¬ (SidesAreThere b atom) → SplitRefuses b atom BadFact
  unfit : SidesAreThere b atom → ¬ (SplitPasses b atom) → SplitRefuses b atom BadRule

-- a case where the atom is true, and one where its negation is
pub record SplitLeads (b : Branch) (atom : TermAtom) (cases : List Branch) : Type 0 where
  pub passes : SplitPasses b atom
  pub cases_are :
      cases ≡ with_lessons b (Holds atom ∷ []) ∷ with_lessons b (Holds (negation atom) ∷ []) ∷ []

-- The atom is one of a live mapping to these facts: of a view to side One, of the goal to side Two
-- with its head the same as the goal row, or of a rule's left query to a side.
pub data IsCandidate (p : Problem) (b : Branch) (atom : TermAtom) (facts : List ℕ) : Type 0 where
  of_view : {view : View} {part : Part} → Contains p.policy.views view →
      Contains view.query.parts part → IsLiveAtom b One part None atom facts →
      IsCandidate p b atom facts
  of_goal : {part : Part} → Contains p.goal.parts part →
      IsLiveAtom b Two part (Some b.goal) atom facts → IsCandidate p b atom facts
  of_rule : {rule : Rule} {part : Part} (side : Side) → Contains p.policy.schema.rules rule →
      Contains rule.left.parts part → IsLiveAtom b side part None atom facts →
      IsCandidate p b atom facts

-- IS NULL or IS NOT NULL; or `<>`, `<` or `<=` of sides that are shown not null
abbrev pub IsOfNewKind : Known → Op → Term → Term → Type 0
IsOfNewKind k Eq x y = ⊥
IsOfNewKind k Ne x y = NeitherNull k x y
IsOfNewKind k Lt x y = NeitherNull k x y
IsOfNewKind k Le x y = NeitherNull k x y
IsOfNewKind k IsNull x y = Unit {0}
IsOfNewKind k NotNull x y = Unit {0}

-- the atom is neither shown nor refuted, and stands in the way of a live mapping
pub record SplitTells (p : Problem) (b : Branch) (atom : TermAtom) : Type 0 where
  pub not_shown : ¬ (Shows b.known atom)
  pub not_refuted : ¬ (Refutes b.known atom)
  pub kind : IsOfNewKind b.known atom.op atom.left atom.right
  pub facts : List ℕ
  pub candidate : IsCandidate p b atom facts

-- one more than the greatest round of the facts of the atom's mapping, the least over its mappings
pub record IsSplitRound (p : Problem) (b : Branch) (atom : TermAtom) (round : ℕ) : Type 0 where
  pub facts : List ℕ
  pub candidate : IsCandidate p b atom facts
  pub round_is : round ≡ 1 + round_of b facts
  pub least :
      (others : List ℕ) → IsCandidate p b atom others → round_of b facts ≤ round_of b others

-- ---- Absurd: what is known can't be true

abbrev pub AbsurdPasses : Branch → Type 0
AbsurdPasses b = Absurd b.known

abbrev pub AbsurdRefuses : Branch → StepFault → Type 0
AbsurdRefuses b fault = (¬ (AbsurdPasses b)) × (fault ≡ NotAbsurd)

-- no case is left
pub record AbsurdLeads (b : Branch) (cases : List Branch) : Type 0 where
  pub passes : AbsurdPasses b
  pub cases_are : cases ≡ []

-- ---- Goal: the goal row is one of the question on side Two

-- the head is the same as the goal row
abbrev pub IsGoalRow : Branch → List (Option Term) → Type 0
IsGoalRow b head = AllZip (AreTheSame b.known) head (map Some b.goal)

-- the first column in which they differ has this number
abbrev pub IsFirstDifferent : Branch → List (Option Term) → ℕ → Type 0
IsFirstDifferent b head n =
    IsFirstWithout (λ two. AreTheSame b.known two.0 two.1) (zip head (map Some b.goal)) n

-- the first column in which they differ, if there is one
abbrev pub FirstDifferent : Branch → List (Option Term) → Option ℕ → Type 0
FirstDifferent b head None = IsGoalRow b head
FirstDifferent b head (Some n) = IsFirstDifferent b head n

-- facts of side Two of which a part of the goal is shown, with a head the same as the goal row
pub record GoalPasses (p : Problem) (b : Branch) (part : ℕ) (facts : List ℕ) : Type 0 where
  pub it : Part
  pub is_part : slice_get p.goal.parts part ≡ Some it
  pub pass : FactsPass b Two it facts
  pub head : IsGoalRow b (row_of b facts it.head)

pub data GoalRefuses (p : Problem) (b : Branch) (part : ℕ) (facts : List ℕ) :
    StepFault → Type 0 where
  no_part : slice_get p.goal.parts part ≡ None → GoalRefuses p b part facts BadRule
  facts_refuse : {it : Part} {fault : StepFault} → slice_get p.goal.parts part ≡ Some it →
      FactsRefuse b Two it facts fault → GoalRefuses p b part facts fault
  head : {it : Part} {n : ℕ} → slice_get p.goal.parts part ≡ Some it →
      FactsPass b Two it facts → IsFirstDifferent b (row_of b facts it.head) n →
      GoalRefuses p b part facts (HeadDiffers n)

-- no case is left
pub record GoalLeads (p : Problem) (b : Branch) (part : ℕ) (facts : List ℕ)
    (cases : List Branch) : Type 0 where
  pub passes : GoalPasses p b part facts
  pub cases_are : cases ≡ []

-- ---- any step

-- it passes its tests on the branch
abbrev pub Passes : Problem → Branch → Step → Type 0
Passes p b (steps.Entry branch entry) = EntryPasses p entry
Passes p b (steps.Key branch key left right) = KeyPasses p.policy.schema b key left right
Passes p b (steps.Link branch link fact) = LinkPasses p.policy.schema b link fact
Passes p b (steps.Rule branch rule part facts) = RulePasses p b rule part facts
Passes p b (steps.View branch view part facts) = ViewPasses p b view part facts
Passes p b (steps.Split branch atom) = SplitPasses b atom
Passes p b (steps.Absurd branch) = AbsurdPasses b
Passes p b (steps.Goal branch part facts) = GoalPasses p b part facts

-- the fault is that of its first test that fails on the branch
abbrev pub Refuses : Problem → Branch → Step → StepFault → Type 0
Refuses p b (steps.Entry branch entry) fault = EntryRefuses p entry fault
Refuses p b (steps.Key branch key left right) fault = KeyRefuses p b key left right fault
Refuses p b (steps.Link branch link fact) fault = LinkRefuses p b link fact fault
Refuses p b (steps.Rule branch rule part facts) fault = RuleRefuses p b rule part facts fault
Refuses p b (steps.View branch view part facts) fault = ViewRefuses p b view part facts fault
Refuses p b (steps.Split branch atom) fault = SplitRefuses b atom fault
Refuses p b (steps.Absurd branch) fault = AbsurdRefuses b fault
Refuses p b (steps.Goal branch part facts) fault = GoalRefuses p b part facts fault

-- it passes its tests on the branch, and these cases take the branch's place
abbrev pub Leads : Problem → Branch → Step → List Branch → Type 0
Leads p b (steps.Entry branch entry) cases = EntryLeads p b entry cases
Leads p b (steps.Key branch key left right) cases = KeyLeads p b key left right cases
Leads p b (steps.Link branch link fact) cases = LinkLeads p b link fact cases
Leads p b (steps.Rule branch rule part facts) cases = RuleLeads p b rule part facts cases
Leads p b (steps.View branch view part facts) cases = ViewLeads p b view part facts cases
Leads p b (steps.Split branch atom) cases = SplitLeads b atom cases
Leads p b (steps.Absurd branch) cases = AbsurdLeads b cases
Leads p b (steps.Goal branch part facts) cases = GoalLeads p b part facts cases

-- it tells the branch what isn't there yet
abbrev pub Tells : Problem → Branch → Step → Type 0
Tells p b (steps.Entry branch entry) = ¬ (EntryIsMet p b entry)
Tells p b (steps.Key branch key left right) = ¬ (KeyIsMet b left right)
Tells p b (steps.Link branch link fact) = ¬ (LinkIsMet p.policy.schema b link fact)
Tells p b (steps.Rule branch rule part facts) = ¬ (RuleIsMet p b rule part facts)
Tells p b (steps.View branch view part facts) = ¬ (ViewIsMet p b view part facts)
Tells p b (steps.Split branch atom) = SplitTells p b atom
Tells p b (steps.Absurd branch) = Unit {0}
Tells p b (steps.Goal branch part facts) = Unit {0}

-- its round on the branch
abbrev pub IsRound : Problem → Branch → Step → ℕ → Type 0
IsRound p b (steps.Entry branch entry) round = IsRoundOfEntry p entry round
IsRound p b (steps.Key branch key left right) round = round ≡ 1 + round_of b (left ∷ right ∷ [])
IsRound p b (steps.Link branch link fact) round = round ≡ 1 + round_of b (fact ∷ [])
IsRound p b (steps.Rule branch rule part facts) round = round ≡ 1 + round_of b facts
IsRound p b (steps.View branch view part facts) round = round ≡ 1 + round_of b facts
IsRound p b (steps.Split branch atom) round = IsSplitRound p b atom round
IsRound p b (steps.Absurd branch) round = round ≡ 0
IsRound p b (steps.Goal branch part facts) round = round ≡ 0
