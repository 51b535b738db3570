-- What a line of a template file is, over the reading of its bytes as JSON: its fields are tested one
-- after another.
use Rattle.std.specs.Prelude.{ℕ, ◌+◌, ◌&&◌, ◌||◌, ◌==◌, Bool, true, false, List, [], ◌∷◌, codes, length, nat_le, Option, Some, None, option_and_then, Result, Ok, Err, ⊤, if◌then◌else◌}
use Rattle.std.specs.List.{position}
use Rattle.std.specs.Str.{bytes_eq, is_utf8}
use Rattle.serde_json.specs.Data.{Data, Members, no_members, member}
use Rattle.serde_json.specs.Find.{as_null, as_object, get}
use Rattle.serde_json.specs.Read.{read}
use Rattle.ba_model.specs.Fit.{kinds_of}
use Rattle.ba_model.specs.Readings.{◌>>=◌, each, widened}
use Rattle.ba_model.specs.Limits.{most_entries, most_operands, most_steps}
use Rattle.ba_model.specs.declared.policy.Parameter.{Parameter}
use Rattle.ba_model.specs.declared.policy.Policy.{Policy}
use Rattle.ba_model.specs.declared.query.Atom.{Atom}
use Rattle.ba_model.specs.declared.query.Op.{Op}
use Rattle.ba_model.specs.declared.query.Operand.{Operand}
use Rattle.ba_model.specs.declared.query.Operand.TheVariants.{Col, Val, Param, Var}
use Rattle.ba_model.specs.declared.query.Part.{Part}
use Rattle.ba_model.specs.declared.query.Query.{Query}
use Rattle.ba_model.specs.declared.schema.Kind.{Kind}
use Rattle.ba_model.specs.declared.schema.Kind.TheVariants.{Int as IntKind, Text as TextKind}
use Rattle.ba_model.specs.declared.schema.Schema.{Schema}
use Rattle.ba_model.specs.declared.value.Value.TheVariants as value
use Rattle.ba_kernel.specs.declared.problem.Problem.{Problem}
use Rattle.ba_kernel.specs.declared.problem.ProblemEntry.{ProblemEntry}
use Rattle.ba_kernel.specs.declared.step.Step.{Step}
use Rattle.ba_script.specs.Script.{given_of}
use Rattle.ba_script.specs.declared.line.Given.{Given}
use Rattle.ba_script.specs.declared.line.Given.TheVariants as given
use Rattle.ba_proof.specs.Shapes.{as_long, short}
use Rattle.ba_proof.specs.Steps.{op_of, step_at}
use Rattle.ba_proof.specs.declared.fault.ProofFault.{ProofFault}
use Rattle.ba_proof.specs.declared.proof.Proof.{Proof}
use Rattle.ba_proof.specs.declared.version.TheConstants.{RULE_VERSION}
use Rattle.ba_store.specs.Fits.{is_assumed, is_query, row_stands, vars_stand}
use Rattle.ba_store.specs.Shapes.{list_at, number_at, or_bad, text_at}
use Rattle.ba_store.specs.declared.fault.LineFault.{LineFault}
use Rattle.ba_store.specs.declared.fault.LineFault.TheVariants.{Json, Field}
use Rattle.ba_store.specs.declared.fault.StoreField.{StoreField}
use Rattle.ba_store.specs.declared.fault.StoreField.TheVariants.{Version, Vars, Goal, Entries, Condition, Steps, Keys}

-- ---- operands: null, a whole number or a text; ["c",PLACE,COLUMN], ["p",NAME] or ["v",NUMBER]

-- the parameter of the name, by its number
unfoldable pub param_at : StoreField → List Parameter → List ℕ → Result Operand StoreField
param_at field params name = or_bad field (option_and_then short (position (λ parameter. bytes_eq parameter.name name) params)) >>= λ n. Ok (Param n)

-- what stands behind the mark: a parameter's name, or a variable's number
unfoldable pub marked_at : StoreField → List Parameter → List ℕ → Data → Result Operand StoreField
marked_at field params mark d =
    if bytes_eq mark (codes "p") then (text_at field d >>= param_at field params)
    else (if bytes_eq mark (codes "v") then (number_at field d >>= λ n. Ok (Var n))
    else Err field)

-- a place in the part's tables, and a column of the table there
unfoldable pub column_at : StoreField → List ℕ → Data → Data → Result Operand StoreField
column_at field mark d e =
    if bytes_eq mark (codes "c") then (number_at field d >>= λ place. (number_at field e >>= λ column. Ok (Col place column)))
    else Err field

abbrev pub list_operand : StoreField → List Parameter → List Data → Result Operand StoreField
list_operand field params [] = Err field
list_operand field params (mark ∷ []) = Err field
list_operand field params (mark ∷ d ∷ []) = text_at field mark >>= λ it. marked_at field params it d
list_operand field params (mark ∷ d ∷ e ∷ []) = text_at field mark >>= λ it. column_at field it d e
list_operand field params (mark ∷ d ∷ e ∷ other ∷ more) = Err field

abbrev pub null_or_list : StoreField → List Parameter → Option ⊤ → Data → Result Operand StoreField
null_or_list field params (Some u) d = Ok (Val value.Null)
null_or_list field params None d = list_at field d >>= list_operand field params

abbrev pub operand_given : StoreField → List Parameter → Given → Data → Result Operand StoreField
operand_given field params (given.Int n) d = Ok (Val (value.Int n))
operand_given field params (given.Text s) d = Ok (Val (value.Text s))
operand_given field params given.Other d = null_or_list field params (as_null d) d

unfoldable pub operand_at : StoreField → List Parameter → Data → Result Operand StoreField
operand_at field params d = operand_given field params (given_of d) d

-- ---- atoms: [OP,OPERAND,OPERAND]

abbrev pub op_at : StoreField → List ℕ → Result Op StoreField
op_at field s = widened (λ (fault : ProofFault). field) (op_of s)

abbrev pub atom_with : Op → Operand → Operand → Atom
atom_with op left right = record { op = op; left = left; right = right }

abbrev pub atom_of : StoreField → List Parameter → List Data → Result Atom StoreField
atom_of field params [] = Err field
atom_of field params (a ∷ []) = Err field
atom_of field params (a ∷ b ∷ []) = Err field
atom_of field params (a ∷ b ∷ c ∷ []) = text_at field a >>= op_at field >>= λ op. operand_at field params b >>= λ left. operand_at field params c >>= λ right. Ok (atom_with op left right)
atom_of field params (a ∷ b ∷ c ∷ d ∷ more) = Err field

unfoldable pub atom_at : StoreField → List Parameter → Data → Result Atom StoreField
atom_at field params d = list_at field d >>= atom_of field params

-- ---- queries: {"parts":[{"conds":[ATOM,..],"from":[TABLE,..],"head":[OPERAND,..]},..]}

-- the table of the name, by its number
abbrev pub table_named : StoreField → Schema → List ℕ → Result ℕ StoreField
table_named field schema name = or_bad field (option_and_then short (position (λ table. bytes_eq table.name name) schema.tables))

unfoldable pub table_at : StoreField → Schema → Data → Result ℕ StoreField
table_at field schema d = text_at field d >>= table_named field schema

abbrev pub part_with : List ℕ → List Atom → List Operand → Part
part_with from conds head = record { from = from; conds = conds; head = head }

unfoldable pub part_of : StoreField → Schema → List Parameter → Data → Data → Data → Result Part StoreField
part_of field schema params a b c =
    list_at field a >>= each (atom_at field params) >>= λ conds.
    (list_at field b >>= each (table_at field schema) >>= λ from.
    (list_at field c >>= each (operand_at field params) >>= λ head. Ok (part_with from conds head)))

-- the members, in the order of their keys
abbrev pub part_form : StoreField → Schema → List Parameter → Members → Result Part StoreField
part_form field schema params no_members = Err field
part_form field schema params (member k a no_members) = Err field
part_form field schema params (member k a (member l b no_members)) = Err field
part_form field schema params (member k a (member l b (member m c no_members))) =
    if bytes_eq k (codes "conds") && (bytes_eq l (codes "from") && bytes_eq m (codes "head")) then part_of field schema params a b c else Err field
part_form field schema params (member k a (member l b (member m c (member n d more)))) = Err field

abbrev pub part_at : StoreField → Schema → List Parameter → Data → Result Part StoreField
part_at field schema params d = or_bad field (as_object d) >>= part_form field schema params

abbrev pub parts_form : StoreField → Schema → List Parameter → Members → Result (List Part) StoreField
parts_form field schema params no_members = Err field
parts_form field schema params (member k d no_members) =
    if bytes_eq k (codes "parts") then (list_at field d >>= each (part_at field schema params)) else Err field
parts_form field schema params (member k d (member l e more)) = Err field

abbrev pub parts_at : StoreField → Schema → List Parameter → Data → Result (List Part) StoreField
parts_at field schema params d = or_bad field (as_object d) >>= parts_form field schema params

abbrev pub query_with : List Part → Query
query_with parts = record { parts = parts }

-- the parts, where they are a query for the schema, the parameters and the variables
unfoldable pub checked : StoreField → Schema → List Parameter → List Kind → List Part → Result Query StoreField
checked field schema params vars parts = if is_query schema (kinds_of params) vars parts then Ok (query_with parts) else Err field

unfoldable pub query_at : StoreField → Schema → List Parameter → List Kind → Data → Result Query StoreField
query_at field schema params vars d = parts_at field schema params d >>= checked field schema params vars

-- ---- the fields

-- the number 1
abbrev pub only_version : ℕ → Result ⊤ StoreField
only_version n = if n == 1 then Ok tt else Err Version

unfoldable pub version_at : Option Data → Result ⊤ StoreField
version_at found = or_bad Version (option_and_then as_long found) >>= only_version

unfoldable pub kind_named : List ℕ → Result Kind StoreField
kind_named s =
    if bytes_eq s (codes "INT") then Ok IntKind
    else (if bytes_eq s (codes "TEXT") then Ok TextKind
    else Err Vars)

abbrev pub kind_at : Data → Result Kind StoreField
kind_at d = text_at Vars d >>= kind_named

-- with the parameters, the variables aren't too many
abbrev pub few_vars : List Parameter → List Data → Result (List Data) StoreField
few_vars params ds = if nat_le (length ds + length params) most_operands then Ok ds else Err Vars

-- the variables' kinds
unfoldable pub vars_at : List Parameter → Option Data → Result (List Kind) StoreField
vars_at params found = or_bad Vars found >>= list_at Vars >>= few_vars params >>= each kind_at

unfoldable pub goal_at : Schema → List Parameter → List Kind → Option Data → Result Query StoreField
goal_at schema params vars found = or_bad Goal found >>= query_at Goal schema params vars

abbrev pub entry_with : Query → List Operand → ProblemEntry
entry_with query row = record { query = query; row = row }

abbrev pub if_stands : Schema → List Parameter → List Kind → Query → List Operand → Result ProblemEntry StoreField
if_stands schema params vars query row = if row_stands schema (kinds_of params) vars query row then Ok (entry_with query row) else Err Entries

-- a query, and a row of its width and kinds
unfoldable pub entry_of : Schema → List Parameter → List Kind → Data → Data → Result ProblemEntry StoreField
entry_of schema params vars a b =
    query_at Entries schema params vars a >>= λ query. (list_at Entries b >>= each (operand_at Entries params) >>= if_stands schema params vars query)

-- the members, in the order of their keys
abbrev pub entry_form : Schema → List Parameter → List Kind → Members → Result ProblemEntry StoreField
entry_form schema params vars no_members = Err Entries
entry_form schema params vars (member k a no_members) = Err Entries
entry_form schema params vars (member k a (member l b no_members)) =
    if bytes_eq k (codes "query") && bytes_eq l (codes "row") then entry_of schema params vars a b else Err Entries
entry_form schema params vars (member k a (member l b (member m c more))) = Err Entries

abbrev pub entry_at : Schema → List Parameter → List Kind → Data → Result ProblemEntry StoreField
entry_at schema params vars d = or_bad Entries (as_object d) >>= entry_form schema params vars

abbrev pub few_entries : List Data → Result (List Data) StoreField
few_entries ds = if nat_le (length ds) most_entries then Ok ds else Err Entries

unfoldable pub entries_of : Schema → List Parameter → List Kind → Option Data → Result (List ProblemEntry) StoreField
entries_of schema params vars found = or_bad Entries found >>= list_at Entries >>= few_entries >>= each (entry_at schema params vars)

abbrev pub problem_with : Policy → List Kind → List Atom → List ProblemEntry → Query → Problem
problem_with policy vars assumed entries goal = record { policy = policy; vars = vars; assumed = assumed; entries = entries; goal = goal }

-- the problem, each of whose variables stands in the goal or an entry, still without a condition
abbrev pub if_vars_stand : Problem → Result Problem StoreField
if_vars_stand p = if vars_stand p then Ok p else Err Entries

unfoldable pub entries_at : Policy → List Kind → Query → Option Data → Result Problem StoreField
entries_at policy vars goal found = entries_of policy.schema policy.params vars found >>= λ entries. if_vars_stand (problem_with policy vars [] entries goal)

abbrev pub if_assumed : Schema → List Parameter → List Kind → Atom → Result Atom StoreField
if_assumed schema params vars atom = if is_assumed schema (kinds_of params) vars atom then Ok atom else Err Condition

-- an atom over parameters and variables, without columns
abbrev pub assumed_at : Schema → List Parameter → List Kind → Data → Result Atom StoreField
assumed_at schema params vars d = atom_at Condition params d >>= if_assumed schema params vars

unfoldable pub condition_at : Schema → List Parameter → List Kind → Option Data → Result (List Atom) StoreField
condition_at schema params vars found = or_bad Condition found >>= list_at Condition >>= each (assumed_at schema params vars)

abbrev pub few_steps : List Data → Result (List Data) StoreField
few_steps ds = if nat_le (length ds) most_steps then Ok ds else Err Steps

-- steps as proof files have them, those by rules too; ["v",NUMBER] is a term where there is such a
-- variable
abbrev pub steps_of : List Parameter → ℕ → List Data → Result (List Step) StoreField
steps_of params vars ds = widened (λ (fault : ProofFault). Steps) (each (step_at params vars RULE_VERSION) ds)

unfoldable pub steps_at : List Parameter → ℕ → Option Data → Result (List Step) StoreField
steps_at params vars found = or_bad Steps found >>= list_at Steps >>= few_steps >>= steps_of params vars

unfoldable pub is_key : List ℕ → Bool
is_key k =
    bytes_eq k (codes "condition") || (bytes_eq k (codes "entries") || (bytes_eq k (codes "goal") || (bytes_eq k (codes "steps")
    || (bytes_eq k (codes "vars") || bytes_eq k (codes "version")))))

abbrev pub are_keys : Members → Bool
are_keys no_members = true
are_keys (member k d more) = is_key k && are_keys more

-- no other keys
unfoldable pub keys_at : Members → Result ⊤ StoreField
keys_at members = if are_keys members then Ok tt else Err Keys

-- ---- the whole line

-- the problem without its condition
unfoldable pub asked_at : Policy → Data → Result Problem StoreField
asked_at policy d =
    version_at (get (codes "version") d) >>= λ version.
    (vars_at policy.params (get (codes "vars") d) >>= λ vars.
    (goal_at policy.schema policy.params vars (get (codes "goal") d) >>= λ goal. entries_at policy vars goal (get (codes "entries") d)))

abbrev pub with_condition : Problem → List Atom → Problem
with_condition p assumed = record p { assumed = assumed }

unfoldable pub problem_at : Policy → Data → Result Problem StoreField
problem_at policy d =
    asked_at policy d >>= λ p. (condition_at policy.schema policy.params p.vars (get (codes "condition") d) >>= λ assumed. Ok (with_condition p assumed))

abbrev pub draft_with : Problem → List Step → Proof
draft_with problem steps = record { problem = problem; steps = steps }

unfoldable pub fields_of : Policy → Data → Members → Result Proof StoreField
fields_of policy d members =
    problem_at policy d >>= λ problem.
    (steps_at policy.params (length problem.vars) (get (codes "steps") d) >>= λ steps.
    (keys_at members >>= λ keys. Ok (draft_with problem steps)))

abbrev pub fields_or : Policy → Data → Option Members → Result Proof LineFault
fields_or policy d None = Err Json
fields_or policy d (Some members) = widened Field (fields_of policy d members)

abbrev pub draft_at : Policy → Data → Result Proof LineFault
draft_at policy d = fields_or policy d (as_object d)

abbrev pub draft_or : Policy → Option Data → Result Proof LineFault
draft_or policy None = Err Json
draft_or policy (Some d) = draft_at policy d

-- the problem and the steps that the bytes of a line say
unfoldable pub draft_of : Policy → List ℕ → Result Proof LineFault
draft_of policy bytes = if is_utf8 bytes then draft_or policy (read bytes) else Err Json
