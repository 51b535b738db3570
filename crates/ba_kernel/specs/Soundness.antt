-- Why each step is sound: what fits a branch before it fits one of the cases after it.
use Rattle.std.specs.Prelude.{◌≡◌, ℕ, List, Contains, map, Some}
use Rattle.ba_model.specs.Fit.{PartFits, kinds_of}
use Rattle.ba_model.specs.Meaning.{InPart}
use Rattle.ba_model.specs.declared.query.Part.{Part}
use Rattle.ba_model.specs.declared.schema.Kind.{Kind}
use Rattle.ba_model.specs.declared.value.RowSet.{RowSet}
use Rattle.ba_model.specs.declared.value.Value.{Value}
use Rattle.ba_comply.specs.declared.trace.TraceEntry.{TraceEntry}
use Rattle.ba_facts.specs.Fits.{Fits, FitsAt, Instance, database_of, value_of_term}
use Rattle.ba_facts.specs.Matches.{row_of}
use Rattle.ba_facts.specs.declared.branch.Branch.{Branch}
use Rattle.ba_facts.specs.declared.term.Side.{Side}
use Rattle.ba_facts.specs.declared.term.Term.{Term}
use Rattle.ba_kernel.specs.Courses.{FitsSome, IsStart, ProblemFits, Slots}
use Rattle.ba_kernel.specs.Effects.{IsCase}
use Rattle.ba_kernel.specs.Problems.{Breaks, IsInstance, IsTraceAt, part_at}
use Rattle.ba_kernel.specs.Steps.{FactsPass, Leads}
use Rattle.ba_kernel.specs.declared.problem.Problem.{Problem}
use Rattle.ba_kernel.specs.declared.step.Step.{Step}

-- where the part gives a row in the side's database, a fit goes on to the case of the part in which
-- it gives the row's terms
abbrev pub CaseKeepsFit : Type 0
CaseKeepsFit =
    (p : Problem) (i : Instance) (old new : Branch) (side : Side) (round : ℕ) (row : List Term)
    (part : Part) (d e : RowSet) (r values given : List Value) → IsInstance p i →
    FitsAt p.policy.schema old i d e r values → map (value_of_term i values) row ≡ map Some given →
    InPart i.context (database_of d e side) (part_at i.vars part) given →
    IsCase p.policy.schema old side round row part new → Fits p.policy.schema new i d e r

-- the part gives the row's values in the database
abbrev pub GivesValues : Instance → RowSet → Part → List Value → List Term → Type 0
GivesValues i d part values row =
    (given : List Value) × (map (value_of_term i values) row ≡ map Some given) ×
    InPart i.context d (part_at i.vars part) given

-- facts of a side of which a part is shown make it give its head's values in the side's database
abbrev pub FactsGive : Type 0
FactsGive =
    (p : Problem) (i : Instance) (b : Branch) (side : Side) (kinds : List Kind) (part : Part)
    (facts : List ℕ) (row : List Term) (d e : RowSet) (r values : List Value) → IsInstance p i →
    FitsAt p.policy.schema b i d e r values →
    PartFits p.policy.schema (kinds_of p.policy.params) p.vars kinds part →
    FactsPass b side part facts → row_of b facts part.head ≡ map Some row →
    GivesValues i (database_of d e side) part values row

-- ---- the law of a step

-- one of the cases is fitted
abbrev pub FitsOne : Problem → List Branch → Instance → RowSet → RowSet → List Value → Type 0
FitsOne p cases i d e r =
    (new : Branch) × Contains cases new × Fits p.policy.schema new i d e r

-- no pair that breaks an instance's compliance is lost: where it fits the branch, it fits a case
abbrev pub LosesNone : Problem → Branch → List Branch → Type 0
LosesNone p b cases =
    (i : Instance) (trace : List TraceEntry) (d e : RowSet) (r : List Value) → IsInstance p i →
    IsTraceAt p i trace → Breaks p i trace d e r → Fits p.policy.schema b i d e r →
    FitsOne p cases i d e r

-- no step of any kind loses one
abbrev pub StepKeepsFit : Type 0
StepKeepsFit =
    (p : Problem) (b : Branch) (step : Step) (cases : List Branch) → ProblemFits p →
    Leads p b step cases → LosesNone p b cases

-- what breaks compliance fits a branch of the start
abbrev pub StartFits : Type 0
StartFits =
    (p : Problem) (i : Instance) (trace : List TraceEntry) (d e : RowSet) (r : List Value)
    (slots : Slots) → ProblemFits p → IsInstance p i → Breaks p i trace d e r → IsStart p slots →
    FitsSome p slots i d e r
