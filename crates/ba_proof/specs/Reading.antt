-- What a proof file is, over the reading of its bytes as JSON: fields are tested one after another.
use Rattle.std.specs.Prelude.{ℕ, ◌+◌, ◌&&◌, ◌||◌, ◌==◌, Bool, true, false, List, [], ◌∷◌, codes, length, nat_le, nat_lt, Option, Some, None, is_some, option_and_then, slice_get, Result, Ok, Err, ⊤, if◌then◌else◌}
use Rattle.std.specs.Str.{bytes_eq, is_utf8}
use Rattle.serde_json.specs.Data.{Data, Members, no_members, member}
use Rattle.serde_json.specs.Find.{as_null, as_object, get}
use Rattle.serde_json.specs.Read.{read}
use Rattle.ba_model.specs.Fit.{kind_of, kinds_of}
use Rattle.ba_model.specs.Readings.{◌>>=◌, each, widened}
use Rattle.ba_model.specs.Limits.{most_steps}
use Rattle.ba_model.specs.declared.policy.Context.{Context}
use Rattle.ba_model.specs.declared.policy.Parameter.{Parameter}
use Rattle.ba_model.specs.declared.policy.Policy.{Policy}
use Rattle.ba_model.specs.declared.query.Part.{Part}
use Rattle.ba_model.specs.declared.query.Query.{Query}
use Rattle.ba_model.specs.declared.schema.Kind.{Kind}
use Rattle.ba_model.specs.declared.schema.Schema.{Schema}
use Rattle.ba_model.specs.declared.value.Value.{Value}
use Rattle.ba_model.specs.declared.value.Value.TheVariants.{Null}
use Rattle.ba_comply.specs.declared.trace.TraceEntry.{TraceEntry}
use Rattle.ba_kernel.specs.Problems.{problem_of}
use Rattle.ba_kernel.specs.declared.problem.Problem.{Problem}
use Rattle.ba_kernel.specs.declared.step.Step.{Step}
use Rattle.ba_script.specs.Contexts.{context_of, of_kind}
use Rattle.ba_script.specs.Script.{given_members, given_of}
use Rattle.ba_sql_query.specs.Texts.{query_of}
use Rattle.ba_sql_query.specs.declared.fault.ReadQueryFault.{ReadQueryFault}
use Rattle.ba_proof.specs.Shapes.{as_list, as_long, bad, list_at, or_bad, text_at}
use Rattle.ba_proof.specs.Steps.{step_at}
use Rattle.ba_proof.specs.declared.fault.ProofFault.{ProofFault}
use Rattle.ba_proof.specs.declared.fault.ProofFault.TheVariants.{TooLong, BadJson, BadField}
use Rattle.ba_proof.specs.declared.fault.ProofField.{ProofField}
use Rattle.ba_proof.specs.declared.fault.ProofField.TheVariants as field
use Rattle.ba_proof.specs.declared.proof.Proof.{Proof}
use Rattle.ba_proof.specs.declared.version.TheConstants.{LAST_VERSION}

-- ---- the version

abbrev pub known_version : ℕ → Option ℕ
known_version n = if nat_le 1 n && nat_le n LAST_VERSION then Some n else None

unfoldable pub version_at : Option Data → Result ℕ ProofFault
version_at found = or_bad field.Version (option_and_then known_version (option_and_then as_long found))

-- ---- the context: every parameter has a value of its kind, and no other name has one

unfoldable pub context_at : List Parameter → Option Data → Result Context ProofFault
context_at params found = or_bad field.Context (option_and_then (λ members. context_of params (given_members members)) (option_and_then as_object found))

-- ---- queries

-- a text that is no query is a bad field
abbrev pub query_at : ProofField → Schema → List Parameter → Data → Result Query ProofFault
query_at it schema params d = text_at it d >>= λ text. widened (λ (fault : ReadQueryFault). BadField it) (query_of schema params text)

unfoldable pub goal_at : Schema → List Parameter → Option Data → Result Query ProofFault
goal_at schema params found = or_bad field.Goal found >>= query_at field.Goal schema params

-- ---- entries: a query and a row of its width and kinds, which may hold NULL

-- the kind of the head's operand at a place
abbrev pub head_kind : Schema → List Parameter → Part → ℕ → Option Kind
head_kind schema params part place = option_and_then (kind_of schema (kinds_of params) [] part.from) (slice_get part.head place)

-- NULL of null, else the value of the kind that is given, if it is one
abbrev pub row_value : Kind → Data → Option Value
row_value kind d = if is_some (as_null d) then Some Null else of_kind kind (given_of d)

-- the value at a place of a row: NULL, or of the kind of the head's operand there
unfoldable pub value_at : Schema → List Parameter → Part → ℕ → Data → Result Value ProofFault
value_at schema params part place d =
    or_bad field.Entries (option_and_then (λ kind. row_value kind d) (head_kind schema params part place))

-- those from a place on
abbrev pub values_from : Schema → List Parameter → Part → ℕ → List Data → Result (List Value) ProofFault
values_from schema params part place [] = Ok []
values_from schema params part place (d ∷ ds) = value_at schema params part place d >>= λ v. (values_from schema params part (place + 1) ds >>= λ vs. Ok (v ∷ vs))

-- a value for each operand of the head
unfoldable pub row_under : Schema → List Parameter → Part → List Data → Result (List Value) ProofFault
row_under schema params part ds = if length ds == length part.head then values_from schema params part 0 ds else bad field.Entries

-- the parts' heads are alike: the first one's counts
abbrev pub row_of : Schema → List Parameter → Query → List Data → Result (List Value) ProofFault
row_of schema params query ds = or_bad field.Entries (slice_get query.parts 0) >>= λ part. row_under schema params part ds

abbrev pub entry_with : Query → List Value → TraceEntry
entry_with query row = record { query = query; rows = row ∷ [] }

unfoldable pub entry_of : Schema → List Parameter → Data → Data → Result TraceEntry ProofFault
entry_of schema params d e =
    query_at field.Entries schema params d >>= λ query. (list_at field.Entries e >>= row_of schema params query >>= λ row. Ok (entry_with query row))

-- the members, in the order of their keys
abbrev pub entry_form : Schema → List Parameter → Members → Result TraceEntry ProofFault
entry_form schema params no_members = bad field.Entries
entry_form schema params (member k d no_members) = bad field.Entries
entry_form schema params (member k d (member l e no_members)) = if bytes_eq k (codes "query") && bytes_eq l (codes "row") then entry_of schema params d e else bad field.Entries
entry_form schema params (member k d (member l e (member m f more))) = bad field.Entries

-- an object with a query and a row
abbrev pub entry_at : Schema → List Parameter → Data → Result TraceEntry ProofFault
entry_at schema params d = or_bad field.Entries (as_object d) >>= entry_form schema params

unfoldable pub entries_at : Schema → List Parameter → Option Data → Result (List TraceEntry) ProofFault
entries_at schema params found = or_bad field.Entries found >>= list_at field.Entries >>= each (entry_at schema params)

-- ---- steps

-- whether there is a list of more steps than the limit
abbrev pub too_many : Option (List Data) → Bool
too_many None = false
too_many (Some ds) = nat_lt most_steps (length ds)

unfoldable pub few_at : Option Data → Result ⊤ ProofFault
few_at found = if too_many (option_and_then as_list found) then Err TooLong else Ok tt

unfoldable pub steps_at : List Parameter → ℕ → Option Data → Result (List Step) ProofFault
steps_at params version found = or_bad field.Steps found >>= list_at field.Steps >>= each (step_at params 0 version)

-- ---- keys

unfoldable pub is_key : List ℕ → Bool
is_key k = bytes_eq k (codes "context") || (bytes_eq k (codes "entries") || (bytes_eq k (codes "goal") || (bytes_eq k (codes "steps") || bytes_eq k (codes "version"))))

abbrev pub are_keys : Members → Bool
are_keys no_members = true
are_keys (member k d more) = is_key k && are_keys more

-- no other keys
unfoldable pub keys_at : Members → Result ⊤ ProofFault
keys_at members = if are_keys members then Ok tt else bad field.Keys

-- ---- the whole

-- the question's problem after the recorded rows
unfoldable pub question_at : Policy → Data → Result Problem ProofFault
question_at policy d =
    context_at policy.params (get (codes "context") d) >>= λ context.
    (entries_at policy.schema policy.params (get (codes "entries") d) >>= λ trace.
    (goal_at policy.schema policy.params (get (codes "goal") d) >>= λ goal. Ok (problem_of policy context trace goal)))

abbrev pub proof_with : Problem → List Step → Proof
proof_with problem steps = record { problem = problem; steps = steps }

unfoldable pub fields_of : Policy → Data → Members → Result Proof ProofFault
fields_of policy d members =
    few_at (get (codes "steps") d) >>= λ few.
    (version_at (get (codes "version") d) >>= λ version.
    (question_at policy d >>= λ problem.
    (steps_at policy.params version (get (codes "steps") d) >>= λ steps.
    (keys_at members >>= λ keys. Ok (proof_with problem steps)))))

abbrev pub fields_or : Policy → Data → Option Members → Result Proof ProofFault
fields_or policy d None = Err BadJson
fields_or policy d (Some members) = fields_of policy d members

-- the proof that a JSON value is, for a policy
abbrev pub proof_at : Policy → Data → Result Proof ProofFault
proof_at policy d = fields_or policy d (as_object d)

abbrev pub proof_or : Policy → Option Data → Result Proof ProofFault
proof_or policy None = Err BadJson
proof_or policy (Some d) = proof_at policy d

-- the proof that the bytes are
unfoldable pub proof_of : Policy → List ℕ → Result Proof ProofFault
proof_of policy bytes = if is_utf8 bytes then proof_or policy (read bytes) else Err BadJson
