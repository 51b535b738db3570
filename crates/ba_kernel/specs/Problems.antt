-- Instances of a problem, and what it takes to prove it.
use Rattle.std.specs.Prelude.{◌≡◌, ℕ, List, [], ◌∷◌, All, map, Option, Some, None, slice_get, option_and_then, length}
use Rattle.std.specs.List.{AllZip, flat_map, range_with_len, zip}
use Rattle.ba_model.specs.Conform.{IsOfKind}
use Rattle.ba_model.specs.Fit.{ContextFits, kinds_of}
use Rattle.ba_model.specs.declared.policy.Context.{Context}
use Rattle.ba_model.specs.declared.policy.Policy.{Policy}
use Rattle.ba_model.specs.declared.query.Atom.{Atom}
use Rattle.ba_model.specs.declared.query.Op.{Op}
use Rattle.ba_model.specs.declared.query.Op.TheVariants.{Eq}
use Rattle.ba_model.specs.declared.query.Operand.{Operand}
use Rattle.ba_model.specs.declared.query.Operand.TheVariants.{Col, Val, Param, Var}
use Rattle.ba_model.specs.declared.query.Part.{Part}
use Rattle.ba_model.specs.declared.query.Query.{Query}
use Rattle.ba_model.specs.declared.value.RowSet.{RowSet}
use Rattle.ba_model.specs.declared.value.Value.{Value}
use Rattle.ba_comply.specs.Comply.{Strong}
use Rattle.ba_comply.specs.declared.trace.TraceEntry.{TraceEntry}
use Rattle.ba_facts.specs.Fits.{Instance, TermAtomHolds, Violation, value_of_term}
use Rattle.ba_facts.specs.Matches.{Under, term_of}
use Rattle.ba_facts.specs.declared.term.Term.{Term}
use Rattle.ba_kernel.specs.declared.problem.Problem.{Problem}
use Rattle.ba_kernel.specs.declared.problem.ProblemEntry.{ProblemEntry}

-- ---- instances

-- the comparison of two terms without unknowns is true
abbrev pub HoldsOf : Instance → Op → Term → Term → Type 0
HoldsOf i op a b = TermAtomHolds i [] (record { op = op; left = a; right = b })

-- a context and a value of its kind for each variable, under which each assumed atom is true
pub record IsInstance (p : Problem) (i : Instance) : Type 0 where
  pub context : ContextFits (kinds_of p.policy.params) i.context
  pub vars : AllZip IsOfKind p.vars i.vars
  pub assumed : All (Under (HoldsOf i) []) p.assumed

-- a variable is replaced by its value
abbrev pub variable_at : ℕ → Option Value → Operand
variable_at n None = Var n
variable_at n (Some v) = Val v

abbrev pub operand_at : List Value → Operand → Operand
operand_at vars (Col place column) = Col place column
operand_at vars (Val v) = Val v
operand_at vars (Param n) = Param n
operand_at vars (Var n) = variable_at n (slice_get vars n)

abbrev pub atom_at : List Value → Atom → Atom
atom_at vars atom = record {
  op = atom.op;
  left = operand_at vars atom.left;
  right = operand_at vars atom.right;
}

abbrev pub part_at : List Value → Part → Part
part_at vars part = record {
  from = part.from;
  conds = map (atom_at vars) part.conds;
  head = map (operand_at vars) part.head;
}

abbrev pub query_at : List Value → Query → Query
query_at vars q = record { parts = map (part_at vars) q.parts }

-- the value of an operand that is no column
abbrev pub fixed_value : Instance → Operand → Option Value
fixed_value i operand = option_and_then (value_of_term i []) (term_of [] operand)

-- the entry's query and its one row, with the instance's values
pub record IsEntryAt (i : Instance) (entry : ProblemEntry) (it : TraceEntry) : Type 0 where
  pub row : List Value
  pub query : it.query ≡ query_at i.vars entry.query
  pub rows : it.rows ≡ row ∷ []
  pub values : map (fixed_value i) entry.row ≡ map Some row

-- the instance's trace: one entry for each of the problem's
abbrev pub IsTraceAt : Problem → Instance → List TraceEntry → Type 0
IsTraceAt p i trace = AllZip (IsEntryAt i) p.entries trace

-- each instance's question is strongly compliant after its trace
abbrev pub StrongAll : Problem → Type 0
StrongAll p =
    (i : Instance) (trace : List TraceEntry) → IsInstance p i → IsTraceAt p i trace →
    Strong p.policy i.context trace (query_at i.vars p.goal)

-- two databases and a row that break the strong compliance of an instance's question
abbrev pub Breaks : Problem → Instance → List TraceEntry → RowSet → RowSet → List Value → Type 0
Breaks p i trace d e r = Violation p.policy i.context trace (query_at i.vars p.goal) d e r

-- ---- the problem of a question

-- the parameter has the value
abbrev pub param_is : ℕ × Value → Atom
param_is (n, v) = record { op = Eq; left = Param n; right = Val v }

abbrev pub entries_of : TraceEntry → List ProblemEntry
entries_of it = map (λ row. record { query = it.query; row = map Val row }) it.rows

-- no variables; each parameter has its value in the context; one entry for each recorded row
abbrev pub problem_of : Policy → Context → List TraceEntry → Query → Problem
problem_of policy c trace q = record {
  policy = policy;
  vars = [];
  assumed = map param_is (zip (range_with_len 0 (length c.values)) c.values);
  entries = flat_map entries_of trace;
  goal = q;
}

-- where the problem of a question is strongly compliant in every instance, the question is
abbrev pub ProblemIsQuestion : Type 0
ProblemIsQuestion =
    (policy : Policy) (c : Context) (trace : List TraceEntry) (q : Query) →
    ContextFits (kinds_of policy.params) c → StrongAll (problem_of policy c trace q) →
    Strong policy c trace q
