-- What a proof file says, apart from how it is read.
use Rattle.std.specs.Prelude.{◌≡◌, ◌≢◌, ◌⊎◌, ◌↔◌, ℕ, ◌<◌, ◌≤◌, ◌^◌, List, [], ◌∷◌, ◌++◌, length, codes, Some, Ok, Err}
use Rattle.std.specs.List.{AllZip}
use Rattle.serde_json.specs.Data.{Data, Num, Members, null, number, string, object, no_members, member}
use Rattle.serde_json.specs.Find.{as_i64, as_u64, get}
use Rattle.ba_model.specs.Limits.{most_steps}
use Rattle.ba_model.specs.declared.policy.Context.{Context}
use Rattle.ba_model.specs.declared.policy.Parameter.{Parameter}
use Rattle.ba_model.specs.declared.policy.Policy.{Policy}
use Rattle.ba_model.specs.declared.query.Query.{Query}
use Rattle.ba_model.specs.declared.value.Value.{Value}
use Rattle.ba_model.specs.declared.value.Value.TheVariants.{Null, Int, Text}
use Rattle.ba_comply.specs.declared.trace.TraceEntry.{TraceEntry}
use Rattle.ba_facts.specs.declared.term.Term.{Term}
use Rattle.ba_facts.specs.declared.term.Term.TheVariants as term
use Rattle.ba_facts.specs.declared.term.TermAtom.{TermAtom}
use Rattle.ba_kernel.specs.Asked.{RecordFits}
use Rattle.ba_kernel.specs.Problems.{problem_of}
use Rattle.ba_kernel.specs.declared.step.Step.{Step}
use Rattle.ba_kernel.specs.declared.step.Step.TheVariants as steps
use Rattle.ba_script.specs.Contexts.{IsContext}
use Rattle.ba_script.specs.Script.{IsJson, given_members}
use Rattle.ba_sql_query.specs.Reads.{HasParam, ReadsQuery}
use Rattle.ba_proof.specs.Reading.{proof_of}
use Rattle.ba_proof.specs.Written.{list_json, op_name}
use Rattle.ba_proof.specs.declared.fault.ProofFault.{ProofFault}
use Rattle.ba_proof.specs.declared.fault.ProofFault.TheVariants.{TooLong, BadJson, BadField}
use Rattle.ba_proof.specs.declared.fault.ProofField.{ProofField}
use Rattle.ba_proof.specs.declared.fault.ProofField.TheVariants as field
use Rattle.ba_proof.specs.declared.proof.Proof.{Proof}
use Rattle.ba_proof.specs.declared.version.TheConstants.{LAST_VERSION, RULE_VERSION}

-- ---- values and numbers

-- null says NULL, a whole number of 64 bits with a sign that number, a string that text
abbrev pub SaysValue : Data → Value → Type 0
SaysValue d Null = d ≡ null
SaysValue d (Int n) = (num : Num) × (d ≡ number num) × (as_i64 num ≡ Some n)
SaysValue d (Text s) = d ≡ string s

-- a whole number from 0 to 2^64 - 1
abbrev pub SaysLong : Data → ℕ → Type 0
SaysLong d n = (num : Num) × (d ≡ number num) × (as_u64 num ≡ Some n)

-- one below 2^32
pub record SaysShort (d : Data) (n : ℕ) : Type 0 where
  pub long : SaysLong d n
  pub bits : n < 2 ^ 32

-- an array of items that say these, in order
pub record SaysEach {X : Type 0} (Says : Data → X → Type 0) (d : Data) (xs : List X) : Type 0 where
  pub ds : List Data
  pub is : d ≡ list_json ds
  pub said : AllZip Says ds xs

-- ---- terms and atoms

-- a literal that isn't NULL, ["u",N], ["p",NAME] and, of a variable that is there, ["v",N]; `vars` is how many there are, which in a proof file
-- is none
abbrev pub SaysTerm : List Parameter → ℕ → Data → Term → Type 0
SaysTerm params vars d (term.Val v) = (v ≢ Null) × SaysValue d v
SaysTerm params vars d (term.Unknown n) = (e : Data) × (d ≡ list_json (string (codes "u") ∷ e ∷ [])) × SaysShort e n
SaysTerm params vars d (term.Param n) = (name : List ℕ) × (d ≡ list_json (string (codes "p") ∷ string name ∷ [])) × HasParam params name n
SaysTerm params vars d (term.Var n) = (e : Data) × (d ≡ list_json (string (codes "v") ∷ e ∷ [])) × SaysShort e n × (n < vars)

-- [OP,TERM,TERM], where OP is the name of the comparison, of IS NULL or of IS NOT NULL
pub record SaysAtom (params : List Parameter) (vars : ℕ) (d : Data) (atom : TermAtom) : Type 0 where
  pub a : Data
  pub b : Data
  pub is : d ≡ list_json (string (op_name atom.op) ∷ a ∷ b ∷ [])
  pub left : SaysTerm params vars a atom.left
  pub right : SaysTerm params vars b atom.right

-- ---- steps

-- [NAME,N,..] with these numbers
pub record SaysNumbers (d : Data) (name ns : List ℕ) : Type 0 where
  pub args : List Data
  pub is : d ≡ list_json (string name ∷ args)
  pub numbers : AllZip SaysShort args ns

-- [NAME,N,..,[FACT,..]] with these numbers and facts
pub record SaysFacts (d : Data) (name ns facts : List ℕ) : Type 0 where
  pub args : List Data
  pub last : Data
  pub is : d ≡ list_json (string name ∷ (args ++ last ∷ []))
  pub numbers : AllZip SaysShort args ns
  pub facts_are : SaysEach SaysShort last facts

-- ["entry",BRANCH,ENTRY]
pub record SaysEntryStep (d : Data) (branch entry : ℕ) : Type 0 where
  pub a : Data
  pub b : Data
  pub is : d ≡ list_json (string (codes "entry") ∷ a ∷ b ∷ [])
  pub first : SaysShort a branch
  pub second : SaysLong b entry

-- ["split",BRANCH,[OP,TERM,TERM]]
pub record SaysSplit (params : List Parameter) (vars : ℕ) (d : Data) (branch : ℕ) (atom : TermAtom) : Type 0 where
  pub a : Data
  pub b : Data
  pub is : d ≡ list_json (string (codes "split") ∷ a ∷ b ∷ [])
  pub first : SaysShort a branch
  pub second : SaysAtom params vars b atom

-- a step, in a file of the version: a step by a rule stands in the version of rules alone
abbrev pub SaysStep : List Parameter → ℕ → ℕ → Data → Step → Type 0
SaysStep params vars version d (steps.Entry branch entry) = SaysEntryStep d branch entry
SaysStep params vars version d (steps.Key branch key left right) = SaysNumbers d (codes "key") (branch ∷ key ∷ left ∷ right ∷ [])
SaysStep params vars version d (steps.Link branch link fact) = SaysNumbers d (codes "link") (branch ∷ link ∷ fact ∷ [])
SaysStep params vars version d (steps.Rule branch rule part facts) = (RULE_VERSION ≤ version) × SaysFacts d (codes "rule") (branch ∷ rule ∷ part ∷ []) facts
SaysStep params vars version d (steps.View branch view part facts) = SaysFacts d (codes "view") (branch ∷ view ∷ part ∷ []) facts
SaysStep params vars version d (steps.Split branch atom) = SaysSplit params vars d branch atom
SaysStep params vars version d (steps.Absurd branch) = SaysNumbers d (codes "absurd") (branch ∷ [])
SaysStep params vars version d (steps.Goal branch part facts) = SaysFacts d (codes "goal") (branch ∷ part ∷ []) facts

-- ---- the question

abbrev pub SaysVersion : Data → ℕ → Type 0
SaysVersion d n = SaysLong d n × (1 ≤ n) × (n ≤ LAST_VERSION)

-- an object with a value of its kind for each parameter, and no other name
abbrev pub SaysContext : List Parameter → Data → Context → Type 0
SaysContext params d context = (members : Members) × (d ≡ object members) × IsContext params (given_members members) context

-- a text that reads as the query
abbrev pub SaysQuery : Policy → Data → Query → Type 0
SaysQuery policy d query = (text : List ℕ) × (d ≡ string text) × ReadsQuery policy.schema policy.params text query

-- an object with a query and a row of its width and kinds, which may hold NULL
pub record SaysEntry (policy : Policy) (d : Data) (it : TraceEntry) : Type 0 where
  pub a : Data
  pub b : Data
  pub row : List Value
  pub is : d ≡ object (member (codes "query") a (member (codes "row") b no_members))
  pub query : SaysQuery policy a it.query
  pub values : SaysEach SaysValue b row
  pub rows_are : it.rows ≡ row ∷ []
  pub fits : RecordFits policy it

-- ---- the whole

-- the object's member of the name says it
pub record HasField {X : Type 0} (Says : Data → X → Type 0) (name : List ℕ) (d : Data) (x : X) : Type 0 where
  pub value : Data
  pub there : get name d ≡ Some value
  pub says : Says value x

-- the name of a field
abbrev pub IsFieldName : List ℕ → Type 0
IsFieldName k = (k ≡ codes "context") ⊎ ((k ≡ codes "entries") ⊎ ((k ≡ codes "goal") ⊎ ((k ≡ codes "steps") ⊎ (k ≡ codes "version"))))

-- no member has another name
abbrev pub HasNoOther : Members → Type 0
HasNoOther no_members = Unit {0}
HasNoOther (member k d more) = IsFieldName k × HasNoOther more

-- the object of these members says the problem and the steps: those of the question, after the recorded rows, under the context
pub record SaysProof (policy : Policy) (members : Members) (proof : Proof) : Type 0 where
  pub version : ℕ
  pub context : Context
  pub trace : List TraceEntry
  pub goal : Query
  pub version_is : HasField SaysVersion (codes "version") (object members) version
  pub context_is : HasField (SaysContext policy.params) (codes "context") (object members) context
  pub trace_is : HasField (SaysEach (SaysEntry policy)) (codes "entries") (object members) trace
  pub goal_is : HasField (SaysQuery policy) (codes "goal") (object members) goal
  pub steps_are : HasField (SaysEach (SaysStep policy.params 0 version)) (codes "steps") (object members) proof.steps
  pub few_steps : length proof.steps ≤ most_steps
  pub no_other : HasNoOther members
  pub problem_is : proof.problem ≡ problem_of policy context trace goal

-- the file is the JSON of an object that says the proof
abbrev pub ReadsProof : Policy → List ℕ → Proof → Type 0
ReadsProof policy bytes proof = (members : Members) × IsJson bytes (object members) × SaysProof policy members proof

-- ---- faults

-- the steps are an array of too many items
abbrev pub HasManySteps : Data → Type 0
HasManySteps d = (ds : List Data) × (get (codes "steps") d ≡ Some (list_json ds)) × (most_steps < length ds)

-- the field is there, and is what it has to be
abbrev pub IsGood : Policy → Members → ProofField → Type 0
IsGood policy ms field.Version = (version : ℕ) × HasField SaysVersion (codes "version") (object ms) version
IsGood policy ms field.Context = (context : Context) × HasField (SaysContext policy.params) (codes "context") (object ms) context
IsGood policy ms field.Entries = (trace : List TraceEntry) × HasField (SaysEach (SaysEntry policy)) (codes "entries") (object ms) trace
IsGood policy ms field.Goal = (goal : Query) × HasField (SaysQuery policy) (codes "goal") (object ms) goal
IsGood policy ms field.Steps =
    (version : ℕ) × (all : List Step) × HasField SaysVersion (codes "version") (object ms) version
    × HasField (SaysEach (SaysStep policy.params 0 version)) (codes "steps") (object ms) all
IsGood policy ms field.Keys = HasNoOther ms

-- the first field that isn't, in the order of `ProofField`
abbrev pub IsFirstBad : Policy → Members → ProofField → Type 0
IsFirstBad policy ms field.Version = ¬ (IsGood policy ms field.Version)
IsFirstBad policy ms field.Context = IsGood policy ms field.Version × (¬ (IsGood policy ms field.Context))
IsFirstBad policy ms field.Entries = IsGood policy ms field.Version × IsGood policy ms field.Context × (¬ (IsGood policy ms field.Entries))
IsFirstBad policy ms field.Goal =
    IsGood policy ms field.Version × IsGood policy ms field.Context × IsGood policy ms field.Entries × (¬ (IsGood policy ms field.Goal))
IsFirstBad policy ms field.Steps =
    IsGood policy ms field.Version × IsGood policy ms field.Context × IsGood policy ms field.Entries × IsGood policy ms field.Goal × (¬ (IsGood policy ms field.Steps))
IsFirstBad policy ms field.Keys =
    IsGood policy ms field.Version × IsGood policy ms field.Context × IsGood policy ms field.Entries × IsGood policy ms field.Goal × IsGood policy ms field.Steps
    × (¬ (IsGood policy ms field.Keys))

-- why the bytes are no proof file: of several faults the first of this order
pub data IsNoProof (policy : Policy) (bytes : List ℕ) : ProofFault → Type 0 where
  no_object : ((ms : Members) → ¬ (IsJson bytes (object ms))) → IsNoProof policy bytes BadJson
  many_steps : (ms : Members) → IsJson bytes (object ms) → HasManySteps (object ms) → IsNoProof policy bytes TooLong
  bad_field : {f : ProofField} (ms : Members) → IsJson bytes (object ms) → ¬ (HasManySteps (object ms)) → IsFirstBad policy ms f → IsNoProof policy bytes (BadField f)

-- ---- the laws

-- the bytes are read as exactly the proof that they say, which is one at most, and refused for exactly the fault that they have
pub record ProofIsExact : Type 0 where
  pub reads : (policy : Policy) (bytes : List ℕ) (proof : Proof) → (proof_of policy bytes ≡ Ok proof) ↔ ReadsProof policy bytes proof
  pub unique : (policy : Policy) (bytes : List ℕ) (p q : Proof) → ReadsProof policy bytes p → ReadsProof policy bytes q → p ≡ q
  pub refuses : (policy : Policy) (bytes : List ℕ) (f : ProofFault) → (proof_of policy bytes ≡ Err f) ↔ IsNoProof policy bytes f
