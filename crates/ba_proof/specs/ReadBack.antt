-- A written proof file reads back as what was written.
use Rattle.std.specs.Prelude.{◌≡◌, ◌≢◌, ℕ, ◌<◌, ◌≤◌, ◌^◌, IsTrue, List, All, length, Ok}
use Rattle.ba_lex.specs.Spelling.{fits}
use Rattle.ba_model.specs.Limits.{most_steps}
use Rattle.ba_model.specs.declared.policy.Context.{Context}
use Rattle.ba_model.specs.declared.policy.Parameter.{Parameter}
use Rattle.ba_model.specs.declared.policy.Policy.{Policy}
use Rattle.ba_model.specs.declared.query.Query.{Query}
use Rattle.ba_model.specs.declared.value.Value.{Value}
use Rattle.ba_model.specs.declared.value.Value.TheVariants.{Null, Int, Text}
use Rattle.ba_comply.specs.declared.trace.TraceEntry.{TraceEntry}
use Rattle.ba_facts.specs.declared.term.Term.{Term}
use Rattle.ba_facts.specs.declared.term.Term.TheVariants as term
use Rattle.ba_facts.specs.declared.term.TermAtom.{TermAtom}
use Rattle.ba_kernel.specs.Asked.{QuestionFits}
use Rattle.ba_kernel.specs.Courses.{Slots, Takes}
use Rattle.ba_kernel.specs.Problems.{problem_of}
use Rattle.ba_kernel.specs.declared.problem.Problem.{Problem}
use Rattle.ba_kernel.specs.declared.step.Step.{Step}
use Rattle.ba_kernel.specs.declared.step.Step.TheVariants as steps
use Rattle.ba_sql_print.specs.ReadBack.{IsPrintable}
use Rattle.ba_proof.specs.Reading.{proof_of}

-- a whole number has 64 bits
abbrev pub ValueSpells : Value → Type 0
ValueSpells Null = Unit {0}
ValueSpells (Int n) = IsTrue (fits n)
ValueSpells (Text s) = Unit {0}

-- a number of 32 bits
abbrev pub IsShort : ℕ → Type 0
IsShort n = n < 2 ^ 32

-- not NULL, only parameters of the policy, and only variables that are there: `vars` is how many, which in a proof file is none
abbrev pub TermSpells : List Parameter → ℕ → Term → Type 0
TermSpells params vars (term.Unknown n) = IsShort n
TermSpells params vars (term.Val v) = (v ≢ Null) × ValueSpells v
TermSpells params vars (term.Param n) = (n < length params) × IsShort n
TermSpells params vars (term.Var n) = (n < vars) × IsShort n

-- a step that is accepted has no NULL among its terms
abbrev pub NullIsNoTerm : Type 0
NullIsNoTerm = (p : Problem) (old new : Slots) (branch : ℕ) (atom : TermAtom) → Takes p old (steps.Split branch atom) new → (atom.left ≢ term.Val Null) × (atom.right ≢ term.Val Null)

-- of a comparison, or of IS NULL or IS NOT NULL
pub record AtomSpells (params : List Parameter) (vars : ℕ) (atom : TermAtom) : Type 0 where
  pub left : TermSpells params vars atom.left
  pub right : TermSpells params vars atom.right

-- numbers of 32 bits, an entry's of 64, and such an atom
abbrev pub StepIsShort : (TermAtom → Type 0) → Step → Type 0
StepIsShort Has (steps.Entry branch entry) = IsShort branch × (entry < 2 ^ 64)
StepIsShort Has (steps.Key branch key left right) = IsShort branch × IsShort key × IsShort left × IsShort right
StepIsShort Has (steps.Link branch link fact) = IsShort branch × IsShort link × IsShort fact
StepIsShort Has (steps.Rule branch rule part facts) = IsShort branch × IsShort rule × IsShort part × All IsShort facts
StepIsShort Has (steps.View branch view part facts) = IsShort branch × IsShort view × IsShort part × All IsShort facts
StepIsShort Has (steps.Split branch atom) = IsShort branch × Has atom
StepIsShort Has (steps.Absurd branch) = IsShort branch
StepIsShort Has (steps.Goal branch part facts) = IsShort branch × IsShort part × All IsShort facts

abbrev pub StepSpells : List Parameter → ℕ → Step → Type 0
StepSpells params vars step = StepIsShort (AtomSpells params vars) step

-- ---- numbers have their bits: 32, a literal 64 with a sign, and an entry's 64

abbrev pub TermHasBits : Term → Type 0
TermHasBits (term.Unknown n) = IsShort n
TermHasBits (term.Val v) = ValueSpells v
TermHasBits (term.Param n) = IsShort n
TermHasBits (term.Var n) = IsShort n

pub record AtomHasBits (atom : TermAtom) : Type 0 where
  pub left : TermHasBits atom.left
  pub right : TermHasBits atom.right

abbrev pub StepHasBits : Step → Type 0
StepHasBits step = StepIsShort AtomHasBits step

-- its query can be printed, and its rows' values can be written
pub record RecordSpells (policy : Policy) (it : TraceEntry) : Type 0 where
  pub query : IsPrintable policy.schema policy.params it.query
  pub rows : All (All ValueSpells) it.rows

-- A question and steps that can be written and read: its queries can be printed, its numbers have their bits, and the steps' terms are spelled.
-- Rows may hold NULL, and steps may be by rules.
pub record IsWritable (policy : Policy) (c : Context) (trace : List TraceEntry) (q : Query) (all : List Step) : Type 0 where
  pub fits : QuestionFits policy c trace q
  pub context : All ValueSpells c.values
  pub entries : All (RecordSpells policy) trace
  pub goal : IsPrintable policy.schema policy.params q
  pub few : length all ≤ most_steps
  pub steps : All (StepSpells policy.params 0) all

-- the bytes are read as this problem and these steps, where they are those of a question that can be written
abbrev pub ReadsBack : Problem → List Step → List ℕ → Type 0
ReadsBack problem all bytes = (policy : Policy) (c : Context) (trace : List TraceEntry) (q : Query) → IsWritable policy c trace q all →
    problem ≡ problem_of policy c trace q → proof_of policy bytes ≡ Ok (record { problem = problem; steps = all })
