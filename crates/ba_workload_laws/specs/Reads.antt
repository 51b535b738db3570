-- What the texts of the schema and the policy read as.
use Rattle.std.specs.Prelude.{◌≡◌, ℕ, List, [], ◌∷◌, Ok, codes}
use Rattle.ba_model.specs.declared.policy.Policy.{Policy}
use Rattle.ba_model.specs.declared.policy.View.{View}
use Rattle.ba_model.specs.declared.query.Atom.{Atom}
use Rattle.ba_model.specs.declared.query.Op.TheVariants.{Eq}
use Rattle.ba_model.specs.declared.query.Operand.{Operand}
use Rattle.ba_model.specs.declared.query.Operand.TheVariants.{Col, Param}
use Rattle.ba_policy.specs.Reading.{policy_of}
use Rattle.ba_sql_ddl.specs.Reading.{schema_of}
use Rattle.ba_workload.specs.Standard.{params, policy_text, schema, schema_text}

abbrev pub SchemaReadsBack : Type 0
SchemaReadsBack = schema_of schema_text ≡ Ok schema

-- ---- the policy

-- a view of one part
abbrev pub view : List ℕ → List ℕ → List Atom → List Operand → View
view name from conds head = record { name = name; query = record { parts = record { from = from; conds = conds; head = head } ∷ [] } }

abbrev pub equal : Operand → Operand → Atom
equal x y = record { op = Eq; left = x; right = y }

-- the users' names
abbrev pub names_view : View
names_view = view (codes "V1") (0 ∷ []) [] (Col 0 0 ∷ Col 0 1 ∷ [])

-- the attendances of the user
abbrev pub attendances_view : View
attendances_view = view (codes "V2") (2 ∷ []) (equal (Col 0 0) (Param 0) ∷ []) (Col 0 0 ∷ Col 0 1 ∷ Col 0 2 ∷ [])

-- the events that the user attends
abbrev pub events_view : View
events_view = view (codes "V3") (1 ∷ 2 ∷ []) (equal (Col 1 1) (Col 0 0) ∷ equal (Col 1 0) (Param 0) ∷ []) (Col 0 0 ∷ Col 0 1 ∷ Col 0 2 ∷ [])

abbrev pub policy : Policy
policy = record { schema = schema; params = params; views = names_view ∷ attendances_view ∷ events_view ∷ []; keys = [] }

abbrev pub PolicyReadsBack : Type 0
PolicyReadsBack = policy_of schema policy_text ≡ Ok policy
