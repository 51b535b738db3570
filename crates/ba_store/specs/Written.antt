-- The JSON of a template, compact and with its keys in byte order, in a line of its own.
use Rattle.std.specs.Prelude.{ℕ, List, [], ◌∷◌, ◌++◌, codes, length, map}
use Rattle.std.specs.List.{flat_map}
use Rattle.serde_json.specs.Data.{Data, string, object, no_members, member}
use Rattle.serde_json.specs.Written.{compact_text}
use Rattle.ba_model.specs.declared.policy.Parameter.{Parameter}
use Rattle.ba_model.specs.declared.query.Atom.{Atom}
use Rattle.ba_model.specs.declared.query.Operand.{Operand}
use Rattle.ba_model.specs.declared.query.Operand.TheVariants.{Col, Val, Param, Var}
use Rattle.ba_model.specs.declared.query.Part.{Part}
use Rattle.ba_model.specs.declared.query.Query.{Query}
use Rattle.ba_model.specs.declared.schema.Kind.{Kind}
use Rattle.ba_model.specs.declared.schema.Kind.TheVariants.{Int, Text}
use Rattle.ba_model.specs.declared.schema.Schema.{Schema}
use Rattle.ba_kernel.specs.SearchStates.{Proof}
use Rattle.ba_kernel.specs.declared.problem.Problem.{Problem}
use Rattle.ba_kernel.specs.declared.problem.ProblemEntry.{ProblemEntry}
use Rattle.ba_kernel.specs.declared.step.Step.{Step}
use Rattle.ba_sql_print.specs.Printed.{param_name, table_name}
use Rattle.ba_proof.specs.Written.{count, list_json, op_name, step_json, value_json}

-- ---- queries

abbrev pub operand_json : List Parameter → Operand → Data
operand_json params (Col place column) = list_json (string (codes "c") ∷ count place ∷ count column ∷ [])
operand_json params (Val v) = value_json v
operand_json params (Param n) = list_json (string (codes "p") ∷ string (param_name params n) ∷ [])
operand_json params (Var n) = list_json (string (codes "v") ∷ count n ∷ [])

unfoldable pub atom_json : List Parameter → Atom → Data
atom_json params atom = list_json (string (op_name atom.op) ∷ operand_json params atom.left ∷ operand_json params atom.right ∷ [])

abbrev pub table_json : Schema → ℕ → Data
table_json schema table = string (table_name schema table)

unfoldable pub part_json : Schema → List Parameter → Part → Data
part_json schema params part =
    object (member (codes "conds") (list_json (map (atom_json params) part.conds))
    (member (codes "from") (list_json (map (table_json schema) part.from))
    (member (codes "head") (list_json (map (operand_json params) part.head)) no_members)))

unfoldable pub query_json : Schema → List Parameter → Query → Data
query_json schema params query = object (member (codes "parts") (list_json (map (part_json schema params) query.parts)) no_members)

-- ---- templates

unfoldable pub entry_json : Schema → List Parameter → ProblemEntry → Data
entry_json schema params entry =
    object (member (codes "query") (query_json schema params entry.query)
    (member (codes "row") (list_json (map (operand_json params) entry.row)) no_members))

abbrev pub kind_name : Kind → List ℕ
kind_name Int = codes "INT"
kind_name Text = codes "TEXT"

abbrev pub kind_json : Kind → Data
kind_json kind = string (kind_name kind)

unfoldable pub template_json : Problem → List Step → Data
template_json p all =
    object (member (codes "condition") (list_json (map (atom_json p.policy.params) p.assumed))
    (member (codes "entries") (list_json (map (entry_json p.policy.schema p.policy.params) p.entries))
    (member (codes "goal") (query_json p.policy.schema p.policy.params p.goal)
    (member (codes "steps") (list_json (map (step_json p.policy.params (length p.vars)) all))
    (member (codes "vars") (list_json (map kind_json p.vars))
    (member (codes "version") (count 1) no_members))))))

abbrev pub json_text : Proof → List ℕ
json_text it = compact_text (template_json it.problem it.steps)

-- the line of a template, with its line feed
abbrev pub line_of : Proof → List ℕ
line_of it = json_text it ++ 10 ∷ []

-- the file of templates
abbrev pub text_of : List Proof → List ℕ
text_of templates = flat_map line_of templates
