-- The new steps of the least round in a set, and the sets of steps that are looked through.
use Rattle.std.specs.Prelude.{◌≡◌, ◌≢◌, ◌⊎◌, ℕ, ◌<◌, List, [], ◌∷◌, ◌++◌, Contains, Bool, false, true, IsTrue, Option, Some, None, map, option_and_then, option_map, slice_get, unwrap_or}
use Rattle.std.specs.Ordering.{is_gt, nat_cmp}
use Rattle.std.specs.declared.cmp.Ordering.{Ordering}
use Rattle.std.specs.declared.cmp.Ordering.TheVariants.{Less, Equal, Greater}
use Rattle.ba_model.specs.declared.policy.View.{View}
use Rattle.ba_model.specs.declared.query.Atom.{Atom}
use Rattle.ba_model.specs.declared.query.Part.{Part}
use Rattle.ba_model.specs.declared.schema.Link.{Link}
use Rattle.ba_model.specs.declared.schema.Rule.{Rule}
use Rattle.ba_model.specs.declared.schema.Schema.{Schema}
use Rattle.ba_model.specs.declared.schema.Table.{Table}
use Rattle.ba_facts.specs.Matches.{GivesAtom, IsFactOf, IsLiveAtom, terms_at}
use Rattle.ba_facts.specs.Walks.{Completes}
use Rattle.ba_facts.specs.declared.branch.Branch.{Branch}
use Rattle.ba_facts.specs.declared.walk.Wanted.TheVariants.{Shown}
use Rattle.ba_facts.specs.declared.term.Side.{Side}
use Rattle.ba_facts.specs.declared.term.Side.TheVariants.{One, Two}
use Rattle.ba_facts.specs.declared.term.Term.{Term}
use Rattle.ba_facts.specs.declared.term.TermAtom.{TermAtom}
use Rattle.ba_kernel.specs.Courses.{branch_of}
use Rattle.ba_kernel.specs.News.{IsNewAt}
use Rattle.ba_kernel.specs.Steps.{FactsPass, IsRound}
use Rattle.ba_kernel.specs.SearchStates.{Course, open_at}
use Rattle.ba_kernel.specs.NewParts.{IsAtomOfParts, IsAtomOfRules, IsAtomOfSides, IsAtomOfViews}
use Rattle.ba_kernel.specs.declared.problem.Problem.{Problem}
use Rattle.ba_kernel.specs.declared.step.Step.{Step}
use Rattle.ba_kernel.specs.declared.step.Step.TheVariants as steps
use Rattle.ba_settle.specs.Dues.{IsDueStep}
use Rattle.ba_settle.specs.Order.{pick_cmp}
use Rattle.ba_instant.specs.declared.batch.Batch.{Batch}
use Rattle.ba_instant.specs.declared.scan.NewStep.{NewStep}
use Rattle.ba_instant.specs.declared.mapped.Form.{Form}
use Rattle.ba_instant.specs.declared.mapped.Form.TheVariants.{OfRule, OfView, OfGoal}
use Rattle.ba_instant.specs.declared.mapped.Mapped.{Mapped}
use Rattle.ba_settle.specs.declared.order.Pick.{Pick}

-- ---- the first of the new steps

-- the step is new in the course, on its branch
abbrev pub IsNewIn : Course → Step → Type 0
IsNewIn c step = IsNewAt c.problem (open_at c.slots (branch_of step)) step

abbrev pub IsRoundAt : Problem → Option Branch → Step → ℕ → Type 0
IsRoundAt p None step round = ⊥
IsRoundAt p (Some b) step round = IsRound p b step round

abbrev pub IsRoundIn : Course → Step → ℕ → Type 0
IsRoundIn c step round = IsRoundAt c.problem (open_at c.slots (branch_of step)) step round

-- ---- steps of one round

-- a split, or a step that closes its branch
abbrev pub is_single : Step → Bool
is_single (steps.Entry branch entry) = false
is_single (steps.Key branch key left right) = false
is_single (steps.Link branch link fact) = false
is_single (steps.Rule branch rule part facts) = false
is_single (steps.View branch view part facts) = false
is_single (steps.Split branch atom) = true
is_single (steps.Absurd branch) = true
is_single (steps.Goal branch part facts) = true

-- there is one, and this one isn't picked before it
abbrev pub HasSooner : Pick → Option Step → Step → Type 0
HasSooner pick None step = ⊥
HasSooner pick (Some first) step = is_gt (pick_cmp pick first step) ≡ false

-- it is in the batch; or it is a single one, and the batch has one that isn't picked after it
abbrev pub IsHeld : Pick → Batch → Step → Type 0
IsHeld pick batch step =
    Contains batch.steps step ⊎ (IsTrue (is_single step) × HasSooner pick batch.single step)

-- there is a batch, of a lesser round or of the same with the step
abbrev pub Reaches : Pick → Option Batch → NewStep → Type 0
Reaches pick None it = ⊥
Reaches pick (Some batch) it =
    (batch.round < it.round) ⊎ ((batch.round ≡ it.round) × IsHeld pick batch it.step)

-- one of the batch
abbrev pub Offers : Batch → Step → Type 0
Offers batch step = Contains batch.steps step ⊎ (batch.single ≡ Some step)

abbrev pub IsOffered : Option Batch → NewStep → Type 0
IsOffered None it = ⊥
IsOffered (Some batch) it = (batch.round ≡ it.round) × Offers batch it.step

-- it isn't empty, and its single step is one
pub record IsWholeBatch (batch : Batch) : Type 0 where
  pub step : Step
  pub there : Offers batch step
  pub single : (it : Step) → batch.single ≡ Some it → IsTrue (is_single it)

abbrev pub IsWholeIfAny : Option Batch → Type 0
IsWholeIfAny None = Unit {0}
IsWholeIfAny (Some batch) = IsWholeBatch batch

-- a new step of the set, with its round
pub record IsNewOf (c : Course) (P : Step → Type 0) (it : NewStep) : Type 0 where
  pub of : P it.step
  pub new_ : IsNewIn c it.step
  pub round_is : IsRoundIn c it.step it.round

-- Of the steps before and the new ones of the set, it has all of the least round; of the single
-- ones the first that is picked.
pub record Improves (c : Course) (pick : Pick) (P : Step → Type 0) (old new : Option Batch)
    : Type 0 where
  pub from : (it : NewStep) → IsOffered new it → IsOffered old it ⊎ IsNewOf c P it
  pub keeps : (it : NewStep) → Reaches pick old it → Reaches pick new it
  pub reaches : (it : NewStep) → IsNewOf c P it → Reaches pick new it
  pub finds : (step : Step) → P step → IsNewIn c step → new ≢ None
  pub stays : old ≢ None → new ≢ None
  pub filled : IsWholeIfAny old → IsWholeIfAny new

-- ---- a batch with one more step

-- the other one only where it is picked before
abbrev pub first_by : {X : Type 0} → Bool → X → X → Option X
first_by false best it = Some best
first_by true best it = Some it

abbrev pub first_single : Pick → Option Step → Step → Option Step
first_single pick None step = Some step
first_single pick (Some best) step = first_by (is_gt (pick_cmp pick best step)) best step

-- a single one, or another
abbrev pub with_step_by : Bool → Pick → Batch → Step → Batch
with_step_by true pick batch step =
    let first = first_single pick batch.single step in
    record { round = batch.round; steps = batch.steps; single = first }
with_step_by false pick batch step =
    record { round = batch.round; steps = batch.steps ++ step ∷ []; single = batch.single }

abbrev pub with_step : Pick → Batch → Step → Batch
with_step pick batch step = with_step_by (is_single step) pick batch step

abbrev pub empty_batch : ℕ → Batch
empty_batch round = record { round = round; steps = []; single = None }

abbrev pub batch_of : Pick → NewStep → Batch
batch_of pick it = with_step pick (empty_batch it.round) it.step

-- a step of a lesser round begins anew, one of the same round joins, one of a greater is left out
abbrev pub with_found_by : Ordering → Pick → Batch → NewStep → Batch
with_found_by Less pick batch it = batch_of pick it
with_found_by Equal pick batch it = with_step pick batch it.step
with_found_by Greater pick batch it = batch

abbrev pub with_found : Pick → Option Batch → NewStep → Option Batch
with_found pick None it = Some (batch_of pick it)
with_found pick (Some batch) it = Some (with_found_by (nat_cmp it.round batch.round) pick batch it)

-- ---- sets of steps

-- one of the sets before the number k
abbrev pub Upto : (ℕ → Step → Type 0) → ℕ → Step → Type 0
Upto P k step = (i : ℕ) × (i < k) × P i step

-- one of the sets
abbrev pub OfAny : (ℕ → Step → Type 0) → Step → Type 0
OfAny P step = (i : ℕ) × P i step

abbrev pub IsEntryOf : ℕ → Step → Type 0
IsEntryOf number step = (entry : ℕ) × (step ≡ steps.Entry number entry)

-- a key of two facts, of a first fact, and any
abbrev pub IsKeyOfPair : ℕ → ℕ → ℕ → Step → Type 0
IsKeyOfPair number left right step = (key : ℕ) × (step ≡ steps.Key number key left right)

abbrev pub IsKeyOfFact : ℕ → ℕ → Step → Type 0
IsKeyOfFact number left step = OfAny (IsKeyOfPair number left) step

abbrev pub IsKeyStep : ℕ → Step → Type 0
IsKeyStep number step = OfAny (IsKeyOfFact number) step

abbrev pub IsLinkOfFact : ℕ → ℕ → Step → Type 0
IsLinkOfFact number fact step = (link : ℕ) × (step ≡ steps.Link number link fact)

abbrev pub IsLinkStep : ℕ → Step → Type 0
IsLinkStep number step = OfAny (IsLinkOfFact number) step

-- the table of the fact of the number
abbrev pub table_at : Schema → Branch → ℕ → Option Table
table_at s b fact = option_and_then (λ it. slice_get s.tables it.table) (slice_get b.facts fact)

-- the keys and the links of the fact's table
abbrev pub keys_at : Schema → Branch → ℕ → List (List ℕ)
keys_at s b fact = unwrap_or (option_map (λ table. table.keys) (table_at s b fact)) []

abbrev pub links_at : Schema → Branch → ℕ → List Link
links_at s b fact = unwrap_or (option_map (λ table. table.links) (table_at s b fact)) []

abbrev pub fact_round : Branch → ℕ → ℕ
fact_round b fact = unwrap_or (option_map (λ it. it.round) (slice_get b.facts fact)) 0

-- ---- steps of mappings

-- the step of the form on the facts
abbrev pub step_of : ℕ → Form → List ℕ → Step
step_of number (OfRule rule part) facts = steps.Rule number rule part facts
step_of number (OfView view part) facts = steps.View number view part facts
step_of number (OfGoal part) facts = steps.Goal number part facts

-- of facts that pass the part's tests on the side
abbrev pub IsMapped : Branch → ℕ → Form → Side → Part → Step → Type 0
IsMapped b number form side part step =
    (facts : List ℕ) × (step ≡ step_of number form facts) × FactsPass b side part facts

-- of the chosen facts and one of each of these tables that together show the part's atoms
abbrev pub IsMappedFrom : Branch → ℕ → Form → Side → Part → List ℕ → List ℕ → Step → Type 0
IsMappedFrom b number form side part from chosen step =
    (facts : List ℕ) × (step ≡ step_of number form facts) ×
    Completes b side part Shown from chosen facts

-- the steps of a mapped part, and those on the chosen facts and one of each of these tables
abbrev pub IsStepOf : Mapped → Step → Type 0
IsStepOf it = IsMapped it.scan.now.branch.now it.scan.now.number it.form it.side it.part.now

abbrev pub IsStepFrom : Mapped → List ℕ → List ℕ → Step → Type 0
IsStepFrom it from chosen =
    IsMappedFrom it.scan.now.branch.now it.scan.now.number it.form it.side it.part.now from chosen

-- of a set of steps for tables and chosen facts: those with one of these facts for the first table
abbrev pub Among : Branch → Side → (List ℕ → List ℕ → Step → Type 0) → List ℕ → List ℕ → List ℕ →
    Step → Type 0
Among b side F [] chosen numbers step = F [] chosen step
Among b side F (table ∷ rest) chosen numbers step =
    (fact : ℕ) × Contains numbers fact × IsFactOf b side table fact ×
    F rest (chosen ++ fact ∷ []) step

abbrev pub IsStepAmong : Mapped → List ℕ → List ℕ → List ℕ → Step → Type 0
IsStepAmong it = Among it.scan.now.branch.now it.side (IsStepFrom it)

-- of the form, on any facts
abbrev pub IsOfForm : ℕ → Form → Step → Type 0
IsOfForm number form step = (facts : List ℕ) × (step ≡ step_of number form facts)

-- of facts of either side that pass the part's tests
abbrev pub IsOfSides : Branch → ℕ → Form → Part → Step → Type 0
IsOfSides b number form part step =
    IsMapped b number form One part step ⊎ IsMapped b number form Two part step

abbrev pub IsOfRule : ℕ → ℕ → Step → Type 0
IsOfRule number rule step = (part : ℕ) × IsOfForm number (OfRule rule part) step

abbrev pub IsOfView : ℕ → ℕ → Step → Type 0
IsOfView number view step = (part : ℕ) × IsOfForm number (OfView view part) step

abbrev pub IsRuleStep : ℕ → Step → Type 0
IsRuleStep number step = (rule : ℕ) × IsOfRule number rule step

abbrev pub IsViewStep : ℕ → Step → Type 0
IsViewStep number step = (view : ℕ) × IsOfView number view step

abbrev pub IsGoalStep : ℕ → Step → Type 0
IsGoalStep number step = (part : ℕ) × IsOfForm number (OfGoal part) step

-- ---- splits

abbrev pub IsSplitStep : ℕ → Step → Type 0
IsSplitStep number step = (atom : TermAtom) × (step ≡ steps.Split number atom)

-- by what the part's atom is over the facts
abbrev pub IsSplitOfAtom : Branch → ℕ → List ℕ → Atom → Step → Type 0
IsSplitOfAtom b number facts cond step =
    (atom : TermAtom) × (step ≡ steps.Split number atom) ×
    GivesAtom (map (terms_at b) facts) atom cond

-- by an atom that some facts have by P
abbrev pub IsSplitBy : (TermAtom → List ℕ → Type 0) → ℕ → Step → Type 0
IsSplitBy P number step =
    (atom : TermAtom) × (step ≡ steps.Split number atom) × (facts : List ℕ) × P atom facts

-- by an atom of a live mapping of the part, of one of the parts, each with the row for its head if
-- there is one; of one to either side, of a view's, of a rule's
abbrev pub IsSplitOfPart : Branch → ℕ → Side → Option (List Term) → Part → Step → Type 0
IsSplitOfPart b number side row part step = IsSplitBy (IsLiveAtom b side part row) number step

abbrev pub IsSplitOfParts : Branch → ℕ → Side → Option (List Term) → List Part → Step → Type 0
IsSplitOfParts b number side row parts step = IsSplitBy (IsAtomOfParts b side parts row) number step

abbrev pub IsSplitOfSides : Branch → ℕ → List Part → Step → Type 0
IsSplitOfSides b number parts step = IsSplitBy (IsAtomOfSides b parts) number step

abbrev pub IsSplitOfViews : Branch → ℕ → List View → Step → Type 0
IsSplitOfViews b number views step = IsSplitBy (IsAtomOfViews b views) number step

abbrev pub IsSplitOfRules : Branch → ℕ → List Rule → Step → Type 0
IsSplitOfRules b number rules step = IsSplitBy (IsAtomOfRules b rules) number step

-- ---- all steps

-- on the branch of the number
abbrev pub IsOn : ℕ → Step → Type 0
IsOn number step = branch_of step ≡ number

-- one that closes the branch
abbrev pub IsClosing : ℕ → Step → Type 0
IsClosing number step = (step ≡ steps.Absurd number) ⊎ IsGoalStep number step

-- one that tells the branch something, or splits it
abbrev pub IsTelling : ℕ → Step → Type 0
IsTelling number step =
    ((((IsEntryOf number step ⊎ IsLinkStep number step) ⊎ IsKeyStep number step) ⊎
    IsRuleStep number step) ⊎ IsViewStep number step) ⊎ IsSplitStep number step

-- one by a rule or a view; or by a key
abbrev pub IsByMapping : ℕ → Step → Type 0
IsByMapping number step = IsRuleStep number step ⊎ IsViewStep number step

abbrev pub IsTaught : ℕ → Step → Type 0
IsTaught number step = IsKeyStep number step ⊎ IsByMapping number step

-- The due step that is picked on the branch with its round, or none where no step on it is new.
pub record IsDueOn (c : Course) (pick : Pick) (number : ℕ) (it : NewStep) : Type 0 where
  pub on : branch_of it.step ≡ number
  pub due : IsDueStep c.problem c.slots it.step
  pub first : (other : Step) → branch_of other ≡ number → IsDueStep c.problem c.slots other →
      pick_cmp pick it.step other ≢ Greater
  pub round_is : IsRoundIn c it.step it.round

abbrev pub IsDueIfAny : Course → Pick → ℕ → Option NewStep → Type 0
IsDueIfAny c pick number None = (step : Step) → branch_of step ≡ number → ¬ (IsNewIn c step)
IsDueIfAny c pick number (Some it) = IsDueOn c pick number it

-- no new step closes the branch
pub record NoneCloses (c : Course) (number : ℕ) : Type 0 where
  pub none : (step : Step) → IsClosing number step → ¬ (IsNewIn c step)
