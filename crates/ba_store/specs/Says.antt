-- What a line of a template file says, apart from how it is read.
use Rattle.std.specs.Prelude.{◌≡◌, ◌⊎◌, ◌↔◌, ℕ, ◌+◌, ◌≤◌, List, [], ◌∷◌, length, codes, Ok}
use Rattle.serde_json.specs.Data.{Data, Members, string, object, no_members, member}
use Rattle.ba_model.specs.Fit.{IsQuery, kinds_of}
use Rattle.ba_model.specs.Limits.{most_entries, most_operands, most_steps}
use Rattle.ba_model.specs.declared.policy.Parameter.{Parameter}
use Rattle.ba_model.specs.declared.policy.Policy.{Policy}
use Rattle.ba_model.specs.declared.query.Atom.{Atom}
use Rattle.ba_model.specs.declared.query.Operand.{Operand}
use Rattle.ba_model.specs.declared.query.Operand.TheVariants.{Col, Val, Param, Var}
use Rattle.ba_model.specs.declared.query.Part.{Part}
use Rattle.ba_model.specs.declared.query.Query.{Query}
use Rattle.ba_model.specs.declared.schema.Kind.{Kind}
use Rattle.ba_model.specs.declared.schema.Schema.{Schema}
use Rattle.ba_kernel.specs.Courses.{EntryFits}
use Rattle.ba_kernel.specs.Drafts.{IsAssumedIn}
use Rattle.ba_kernel.specs.declared.problem.Problem.{Problem}
use Rattle.ba_kernel.specs.declared.problem.ProblemEntry.{ProblemEntry}
use Rattle.ba_template.specs.Templates.{EachVarStands}
use Rattle.ba_script.specs.Script.{IsJson}
use Rattle.ba_sql_query.specs.Reads.{HasParam, HasTable}
use Rattle.ba_proof.specs.Says.{HasField, SaysEach, SaysLong, SaysShort, SaysStep, SaysValue}
use Rattle.ba_proof.specs.Written.{list_json, op_name}
use Rattle.ba_proof.specs.declared.proof.Proof.{Proof}
use Rattle.ba_proof.specs.declared.version.TheConstants.{RULE_VERSION}
use Rattle.ba_store.specs.Reading.{draft_of}
use Rattle.ba_store.specs.Written.{kind_json}

-- ---- operands and atoms

-- null, a whole number or a text; ["c",PLACE,COLUMN], ["p",NAME] or ["v",NUMBER]
abbrev pub SaysOperand : List Parameter → Data → Operand → Type 0
SaysOperand params d (Val v) = SaysValue d v
SaysOperand params d (Col place column) =
    (a : Data) × (b : Data) × (d ≡ list_json (string (codes "c") ∷ a ∷ b ∷ [])) × SaysShort a place × SaysShort b column
SaysOperand params d (Param n) = (name : List ℕ) × (d ≡ list_json (string (codes "p") ∷ string name ∷ [])) × HasParam params name n
SaysOperand params d (Var n) = (e : Data) × (d ≡ list_json (string (codes "v") ∷ e ∷ [])) × SaysShort e n

-- [OP,OPERAND,OPERAND]
pub record SaysAtom (params : List Parameter) (d : Data) (atom : Atom) : Type 0 where
  pub a : Data
  pub b : Data
  pub is : d ≡ list_json (string (op_name atom.op) ∷ a ∷ b ∷ [])
  pub left : SaysOperand params a atom.left
  pub right : SaysOperand params b atom.right

-- ---- queries

-- a table's name
abbrev pub SaysTable : Schema → Data → ℕ → Type 0
SaysTable schema d t = (name : List ℕ) × (d ≡ string name) × HasTable schema name t

-- {"conds":[ATOM,..],"from":[TABLE,..],"head":[OPERAND,..]}
pub record SaysPart (schema : Schema) (params : List Parameter) (d : Data) (part : Part) : Type 0 where
  pub a : Data
  pub b : Data
  pub c : Data
  pub is : d ≡ object (member (codes "conds") a (member (codes "from") b (member (codes "head") c no_members)))
  pub conds : SaysEach (SaysAtom params) a part.conds
  pub from : SaysEach (SaysTable schema) b part.from
  pub head : SaysEach (SaysOperand params) c part.head

-- {"parts":[PART,..]}, where it is a query for the schema, the parameters and the variables
pub record SaysQuery (schema : Schema) (params : List Parameter) (vars : List Kind) (d : Data) (q : Query) : Type 0 where
  pub a : Data
  pub is : d ≡ object (member (codes "parts") a no_members)
  pub parts : SaysEach (SaysPart schema params) a q.parts
  pub fits : IsQuery schema (kinds_of params) vars q

-- ---- the problem

-- "INT" or "TEXT"
abbrev pub SaysKind : Data → Kind → Type 0
SaysKind d kind = d ≡ kind_json kind

-- an object of a query, and of a row of its width and kinds
pub record SaysEntry (p : Problem) (d : Data) (entry : ProblemEntry) : Type 0 where
  pub a : Data
  pub b : Data
  pub is : d ≡ object (member (codes "query") a (member (codes "row") b no_members))
  pub query : SaysQuery p.policy.schema p.policy.params p.vars a entry.query
  pub row : SaysEach (SaysOperand p.policy.params) b entry.row
  pub fits : EntryFits p entry

-- an atom over parameters and variables, without columns
pub record SaysAssumed (p : Problem) (d : Data) (atom : Atom) : Type 0 where
  pub says : SaysAtom p.policy.params d atom
  pub fits : IsAssumedIn p atom

-- ---- the whole

-- the name of a field
abbrev pub IsFieldName : List ℕ → Type 0
IsFieldName k =
    (k ≡ codes "condition") ⊎ ((k ≡ codes "entries") ⊎ ((k ≡ codes "goal") ⊎ ((k ≡ codes "steps") ⊎ ((k ≡ codes "vars") ⊎ (k ≡ codes "version")))))

-- no member has another name
abbrev pub HasNoOther : Members → Type 0
HasNoOther no_members = Unit {0}
HasNoOther (member k d more) = IsFieldName k × HasNoOther more

-- The object of these members says the problem and the steps: version 1, the variables' kinds, the
-- goal, the entries, the condition and the steps, and nothing else. With the parameters the variables
-- aren't too many, and each stands in the goal or an entry; nor are the entries and the steps.
pub record SaysTemplate (policy : Policy) (ms : Members) (draft : Proof) : Type 0 where
  pub of_policy : draft.problem.policy ≡ policy
  pub version_is : HasField SaysLong (codes "version") (object ms) 1
  pub vars_are : HasField (SaysEach SaysKind) (codes "vars") (object ms) draft.problem.vars
  pub goal_is : HasField (SaysQuery policy.schema policy.params draft.problem.vars) (codes "goal") (object ms) draft.problem.goal
  pub entries_are : HasField (SaysEach (SaysEntry draft.problem)) (codes "entries") (object ms) draft.problem.entries
  pub condition_is : HasField (SaysEach (SaysAssumed draft.problem)) (codes "condition") (object ms) draft.problem.assumed
  pub steps_are : HasField (SaysEach (SaysStep policy.params (length draft.problem.vars) RULE_VERSION)) (codes "steps") (object ms) draft.steps
  pub few_vars : length draft.problem.vars + length policy.params ≤ most_operands
  pub few_entries : length draft.problem.entries ≤ most_entries
  pub few_steps : length draft.steps ≤ most_steps
  pub stand : EachVarStands draft.problem
  pub no_other : HasNoOther ms

-- the line is the JSON of an object that says them
abbrev pub ReadsTemplate : Policy → List ℕ → Proof → Type 0
ReadsTemplate policy bytes draft = (ms : Members) × IsJson bytes (object ms) × SaysTemplate policy ms draft

-- ---- the law

-- the bytes are read as exactly the problem and the steps that they say, which are one at most
pub record LineIsExact : Type 0 where
  pub reads : (policy : Policy) (bytes : List ℕ) (draft : Proof) → (draft_of policy bytes ≡ Ok draft) ↔ ReadsTemplate policy bytes draft
  pub unique : (policy : Policy) (bytes : List ℕ) (one other : Proof) → ReadsTemplate policy bytes one → ReadsTemplate policy bytes other → one ≡ other
