-- A scan of a branch of which it is known up to which round nothing is new, and what needn't be
-- looked at.
use Rattle.std.specs.Prelude.{◌≡◌, ◌⊎◌, ℕ, ◌+◌, ◌<◌, ◌≤◌, List, All, Any, Contains, max, Option, Some, None, slice_get}
use Rattle.ba_model.specs.declared.query.Part.{Part}
use Rattle.ba_model.specs.declared.schema.Schema.{Schema}
use Rattle.ba_model.specs.declared.schema.Table.{Table}
use Rattle.ba_facts.specs.Matches.{round_of}
use Rattle.ba_facts.specs.Walks.{IsHopeless, every}
use Rattle.ba_facts.specs.declared.branch.Branch.{Branch}
use Rattle.ba_facts.specs.declared.term.Fact.{Fact}
use Rattle.ba_facts.specs.declared.term.Side.{Side}
use Rattle.ba_facts.specs.declared.walk.Walk.{Walk}
use Rattle.ba_facts.specs.declared.walk.Wanted.{Wanted}
use Rattle.ba_kernel.specs.Courses.{IsOpen}
use Rattle.ba_kernel.specs.News.{IsNewOn}
use Rattle.ba_kernel.specs.Steps.{AreEqualAt, IsRound, KeyPasses}
use Rattle.ba_kernel.specs.SearchStates.{Course}
use Rattle.ba_kernel.specs.declared.problem.Problem.{Problem}
use Rattle.ba_kernel.specs.declared.step.Step.{Step}
use Rattle.ba_kernel.specs.declared.step.Step.TheVariants as steps
use Rattle.ba_instant.specs.Offers.{Improves, IsKeyOfPair, IsKeyStep, IsStepAmong, HasSooner, OfAny, fact_round, step_of}
use Rattle.ba_instant.specs.ToldSteps.{AreTold, Remembers}
use Rattle.ba_instant.specs.Windows.{IsQuietUpto}
use Rattle.ba_instant.specs.declared.batch.Batch.{Batch}
use Rattle.ba_instant.specs.declared.mapped.Form.{Form}
use Rattle.ba_instant.specs.declared.mapped.Form.TheVariants.{OfRule, OfView, OfGoal}
use Rattle.ba_instant.specs.declared.mapped.Mapped.{Mapped}
use Rattle.ba_settle.specs.declared.order.Pick.{Pick}
use Rattle.ba_settle.specs.declared.order.Pick.TheVariants.{First}
use Rattle.ba_instant.specs.declared.scan.Scan.{Scan}

-- ---- recent facts

-- each fact of a number below the end whose round is at least the bound is one of these
abbrev pub AreRecentBelow : Branch → ℕ → List ℕ → ℕ → Type 0
AreRecentBelow b bound recent end =
    (number : ℕ) (fact : Fact) → number < end → slice_get b.facts number ≡ Some fact →
    bound ≤ fact.round → Contains recent number

-- each fact whose round is at least the bound is one of these
abbrev pub AreRecent : Branch → ℕ → List ℕ → Type 0
AreRecent b bound recent =
    (number : ℕ) (fact : Fact) → slice_get b.facts number ≡ Some fact → bound ≤ fact.round →
    Contains recent number

-- the branch is open and quiet up to the round, and these are its recent facts
pub record IsScanOf (c : Course) (number : ℕ) (b : Branch) (quiet : ℕ) (recent : List ℕ)
    : Type 0 where
  pub open_ : IsOpen c.slots number b
  pub quiet_ : IsQuietUpto c.problem b number quiet
  pub recent_ : AreRecent b quiet recent

-- so it is of the scan, and what is told is
pub record IsScan (scan : Scan) : Type 0 where
  pub of : IsScanOf scan.search.now scan.number scan.branch.now scan.quiet scan.recent.now
  pub told : AreTold scan.search.now.problem scan.branch.now scan.told.now

-- the new steps of the set were offered, for the pick of the scan
abbrev pub ImprovesBy : Scan → (Step → Type 0) → Option Batch → Option Batch → Type 0
ImprovesBy scan P old new = Improves scan.search.now scan.pick P old new

-- the schema of the scan's problem
abbrev pub schema_of : Scan → Schema
schema_of scan = scan.search.now.problem.policy.schema

-- ---- what may come before what was found, or beside it

-- a step whose round is more than this may be of no later round than those that were found
abbrev pub IsTimely : ℕ → Option Batch → Type 0
IsTimely round None = Unit {0}
IsTimely round (Some best) = round < best.round

-- so may a step of the form on facts of which this is one
abbrev pub IsTimelyOf : Branch → Form → ℕ → Option Batch → Type 0
IsTimelyOf b (OfRule rule part) fact best = IsTimely (fact_round b fact) best
IsTimelyOf b (OfView view part) fact best = IsTimely (fact_round b fact) best
IsTimelyOf b (OfGoal part) fact best = Unit {0}

-- one of round 0, which closes its branch, was found that isn't picked after the step
abbrev pub IsBehind : Pick → Option Batch → Step → Type 0
IsBehind pick None step = ⊥
IsBehind pick (Some best) step = (best.round ≡ 0) × HasSooner pick best.single step

-- the first of the steps that reach the goal is looked for, and one was found that isn't picked
-- after that on the chosen facts, nor so after one on more
abbrev pub IsOvertaken : Pick → ℕ → Form → Option Batch → List ℕ → Type 0
IsOvertaken pick number (OfRule rule part) best chosen = ⊥
IsOvertaken pick number (OfView view part) best chosen = ⊥
IsOvertaken pick number (OfGoal part) best chosen =
    (pick ≡ First) × IsBehind First best (steps.Goal number part chosen)

-- the least round of a step of the form on the facts
abbrev pub least_round : Branch → Form → List ℕ → ℕ
least_round b (OfRule rule part) facts = 1 + round_of b facts
least_round b (OfView view part) facts = 1 + round_of b facts
least_round b (OfGoal part) facts = 0

-- the form's steps tell the branch something
abbrev pub TellsOf : Form → Type 0
TellsOf (OfRule rule part) = Unit {0}
TellsOf (OfView view part) = Unit {0}
TellsOf (OfGoal part) = ⊥

-- the form's steps tell something, and none of the facts is recent
abbrev pub AreOld : Branch → ℕ → Form → List ℕ → Type 0
AreOld b quiet form chosen = TellsOf form × (round_of b chosen < quiet)

-- the form's step on the facts is remembered
abbrev pub IsRemembered : Mapped → List ℕ → Type 0
IsRemembered it facts = Remembers it.scan.now.told.now (step_of it.scan.now.number it.form facts)

-- ---- walks

-- the walk is over the scan's branch
pub record IsWalkOf (scan : Scan) (side : Side) (part : Part) (wanted : Wanted) (walk : Walk)
    : Type 0 where
  pub branch_is : walk.branch.now ≡ scan.branch.now
  pub side_is : walk.side ≡ side
  pub part_is : walk.part.now ≡ part
  pub wanted_is : walk.wanted ≡ wanted

-- whatever was offered of the steps with one of these facts for the next table was of any with all
abbrev pub AreEnough : Mapped → List ℕ → List ℕ → List ℕ → Type 0
AreEnough it from chosen numbers =
    (old new : Option Batch) → ImprovesBy it.scan.now (IsStepAmong it from chosen numbers) old new →
    ImprovesBy it.scan.now (IsStepAmong it from chosen (every it.scan.now.branch.now)) old new

-- no step on facts that begin with the chosen ones is new and comes first
abbrev pub IsNoUse : Mapped → Walk → List ℕ → Option Batch → Type 0
IsNoUse it walk chosen best =
    IsOvertaken it.scan.now.pick it.scan.now.number it.form best chosen ⊎ IsHopeless walk chosen

-- ---- keys

-- of the two facts, either way
abbrev pub IsKeyOfTwo : ℕ → ℕ → ℕ → Step → Type 0
IsKeyOfTwo number one other step =
    IsKeyOfPair number one other step ⊎ IsKeyOfPair number other one step

-- each key step that is new on the branch is of a round past the bound
abbrev pub KeysAreLate : Problem → Branch → ℕ → ℕ → Type 0
KeysAreLate p b number bound =
    (step : Step) (round : ℕ) → IsKeyStep number step → IsNewOn p b step → IsRound p b step round →
    bound < round

-- a pair of two recent facts is looked at from the one of the lesser number
abbrev pub IsTurn : Branch → ℕ → ℕ → ℕ → Type 0
IsTurn b quiet one other = (one ≤ other) ⊎ (fact_round b other < quiet)

-- of the fact and another whose turn it is
abbrev pub IsKeyInTurn : Branch → ℕ → ℕ → ℕ → ℕ → Step → Type 0
IsKeyInTurn b quiet number one other step =
    IsTurn b quiet one other × IsKeyOfTwo number one other step

-- so it is in the scan, of the fact and this other, and of the fact and any other
abbrev pub IsKeyWith : Scan → ℕ → ℕ → Step → Type 0
IsKeyWith scan one other = IsKeyInTurn scan.branch.now scan.quiet scan.number one other

abbrev pub IsKeyWithAny : Scan → ℕ → Step → Type 0
IsKeyWithAny scan one = OfAny (IsKeyInTurn scan.branch.now scan.quiet scan.number one)

-- such a step may be of no later round than those that were found
abbrev pub IsTimelyKey : Branch → ℕ → ℕ → Option Batch → Type 0
IsTimelyKey b one other best = IsTimely (max (fact_round b one) (fact_round b other)) best

-- the two facts are shown equal on some key of the first one's table
pub record AreEqualBy (s : Schema) (b : Branch) (f g : Fact) : Type 0 where
  pub table : Table
  pub table_is : slice_get s.tables f.table ≡ Some table
  pub key : Any (λ columns. All (AreEqualAt b f.terms g.terms) columns) table.keys

-- they pass the test of some key
abbrev pub ShareKey : Schema → Branch → ℕ → ℕ → Type 0
ShareKey s b left right = (key : ℕ) × KeyPasses s b key left right

-- keys of the two facts are to be offered: it is the other one's turn, they may be of no later
-- round than what was found, and the two pass the test of some key
abbrev pub IsPair : Scan → ℕ → ℕ → Option Batch → Type 0
IsPair scan one other best =
    IsTurn scan.branch.now scan.quiet one other × IsTimelyKey scan.branch.now one other best ×
    ShareKey (schema_of scan) scan.branch.now one other
