-- The JSON of a proof file, compact and with its keys in byte order.
use Rattle.std.specs.Prelude.{ℕ, Bool, true, false, List, [], ◌∷◌, ◌++◌, codes, map, nat_lt, Option, Some, None, if◌then◌else◌}
use Rattle.std.specs.List.{list_any}
use Rattle.serde_json.specs.Data.{Data, Members, null, number, string, array, object, unsigned, no_members, member, put}
use Rattle.serde_json.specs.Find.{of_integer}
use Rattle.serde_json.specs.View.{items_of}
use Rattle.serde_json.specs.Written.{compact_text}
use Rattle.ba_model.specs.declared.policy.Parameter.{Parameter}
use Rattle.ba_model.specs.declared.query.Atom.{Atom}
use Rattle.ba_model.specs.declared.query.Op.{Op}
use Rattle.ba_model.specs.declared.query.Op.TheVariants.{Eq, Ne, Lt, Le, IsNull, NotNull}
use Rattle.ba_model.specs.declared.query.Operand.{Operand}
use Rattle.ba_model.specs.declared.query.Operand.TheVariants as operand
use Rattle.ba_model.specs.declared.schema.Schema.{Schema}
use Rattle.ba_model.specs.declared.value.Value.{Value}
use Rattle.ba_model.specs.declared.value.Value.TheVariants as value
use Rattle.ba_facts.specs.declared.term.Term.{Term}
use Rattle.ba_facts.specs.declared.term.Term.TheVariants as term
use Rattle.ba_facts.specs.declared.term.TermAtom.{TermAtom}
use Rattle.ba_kernel.specs.declared.problem.Problem.{Problem}
use Rattle.ba_kernel.specs.declared.problem.ProblemEntry.{ProblemEntry}
use Rattle.ba_kernel.specs.declared.step.Step.{Step}
use Rattle.ba_kernel.specs.declared.step.Step.TheVariants as steps
use Rattle.ba_sql_print.specs.Printed.{param_name, query_text}
use Rattle.ba_proof.specs.declared.version.TheConstants.{RULE_VERSION}

abbrev pub count : ℕ → Data
count n = number (unsigned n)

abbrev pub value_json : Value → Data
value_json value.Null = null
value_json (value.Int n) = number (of_integer n)
value_json (value.Text s) = string s

abbrev pub list_json : List Data → Data
list_json ds = array (items_of ds)

-- ---- steps

-- a variable that isn't there has no spelling: `vars` is how many there are, none in a proof file
abbrev pub var_json : ℕ → ℕ → Data
var_json vars n = if nat_lt n vars then list_json (string (codes "v") ∷ count n ∷ []) else null

abbrev pub term_json : List Parameter → ℕ → Term → Data
term_json params vars (term.Unknown n) = list_json (string (codes "u") ∷ count n ∷ [])
term_json params vars (term.Val v) = value_json v
term_json params vars (term.Param n) = list_json (string (codes "p") ∷ string (param_name params n) ∷ [])
term_json params vars (term.Var n) = var_json vars n

abbrev pub op_name : Op → List ℕ
op_name Eq = codes "="
op_name Ne = codes "<>"
op_name Lt = codes "<"
op_name Le = codes "<="
op_name IsNull = codes "is null"
op_name NotNull = codes "is not null"

unfoldable pub atom_json : List Parameter → ℕ → TermAtom → Data
atom_json params vars atom = list_json (string (op_name atom.op) ∷ term_json params vars atom.left ∷ term_json params vars atom.right ∷ [])

-- a step's name and its numbers
abbrev pub named : List ℕ → List ℕ → List Data → Data
named name numbers last = list_json (string name ∷ (map count numbers ++ last))

abbrev pub facts_json : List ℕ → List Data
facts_json facts = list_json (map count facts) ∷ []

unfoldable pub step_json : List Parameter → ℕ → Step → Data
step_json params vars (steps.Entry branch entry) = named (codes "entry") (branch ∷ entry ∷ []) []
step_json params vars (steps.Key branch key left right) = named (codes "key") (branch ∷ key ∷ left ∷ right ∷ []) []
step_json params vars (steps.Link branch link fact) = named (codes "link") (branch ∷ link ∷ fact ∷ []) []
step_json params vars (steps.Rule branch rule part facts) = named (codes "rule") (branch ∷ rule ∷ part ∷ []) (facts_json facts)
step_json params vars (steps.View branch view part facts) = named (codes "view") (branch ∷ view ∷ part ∷ []) (facts_json facts)
step_json params vars (steps.Split branch atom) = named (codes "split") (branch ∷ []) (atom_json params vars atom ∷ [])
step_json params vars (steps.Absurd branch) = named (codes "absurd") (branch ∷ []) []
step_json params vars (steps.Goal branch part facts) = named (codes "goal") (branch ∷ part ∷ []) (facts_json facts)

unfoldable pub is_rule : Step → Bool
is_rule (steps.Entry branch entry) = false
is_rule (steps.Key branch key left right) = false
is_rule (steps.Link branch link fact) = false
is_rule (steps.Rule branch rule part facts) = true
is_rule (steps.View branch view part facts) = false
is_rule (steps.Split branch atom) = false
is_rule (steps.Absurd branch) = false
is_rule (steps.Goal branch part facts) = false

-- the version of rules exactly where a step is by a rule
abbrev pub version_of : List Step → ℕ
version_of all = if list_any is_rule all then RULE_VERSION else 1

-- ---- the question

-- the parameter of an assumption, and the literal of one
abbrev pub param_in : Operand → Option ℕ
param_in (operand.Col place column) = None
param_in (operand.Val v) = None
param_in (operand.Param n) = Some n
param_in (operand.Var n) = None

abbrev pub literal_in : Operand → Option Value
literal_in (operand.Col place column) = None
literal_in (operand.Val v) = Some v
literal_in (operand.Param n) = None
literal_in (operand.Var n) = None

abbrev pub with_value : List Parameter → Option ℕ → Option Value → Members → Members
with_value params None v ms = ms
with_value params (Some n) None ms = ms
with_value params (Some n) (Some v) ms = put (param_name params n) (value_json v) ms

-- the members and, for each assumption that a parameter has a value, that value under the parameter's name
abbrev pub with_context : List Parameter → List Atom → Members → Members
with_context params [] ms = ms
with_context params (atom ∷ atoms) ms = with_context params atoms (with_value params (param_in atom.left) (literal_in atom.right) ms)

abbrev pub literal_json : Option Value → Data
literal_json None = null
literal_json (Some v) = value_json v

unfoldable pub entry_json : Schema → List Parameter → ProblemEntry → Data
entry_json schema params entry =
    object (member (codes "query") (string (query_text schema params entry.query))
    (member (codes "row") (list_json (map (λ it. literal_json (literal_in it)) entry.row)) no_members))

-- ---- the whole

unfoldable pub proof_json : Problem → List Step → Data
proof_json problem all =
    object (member (codes "context") (object (with_context problem.policy.params problem.assumed no_members))
    (member (codes "entries") (list_json (map (entry_json problem.policy.schema problem.policy.params) problem.entries))
    (member (codes "goal") (string (query_text problem.policy.schema problem.policy.params problem.goal))
    (member (codes "steps") (list_json (map (step_json problem.policy.params 0) all))
    (member (codes "version") (count (version_of all)) no_members)))))

abbrev pub proof_text : Problem → List Step → List ℕ
proof_text problem all = compact_text (proof_json problem all)
