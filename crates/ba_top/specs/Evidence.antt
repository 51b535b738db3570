-- The lines of a run that tell their evidence, and when it holds.
use Rattle.std.specs.Prelude.{◌≡◌, ℕ, ◌+◌, List, [], ◌∷◌, ◌++◌, Some, length, map, slice_get, take, unwrap_or}
use Rattle.ba_comply.specs.declared.trace.TraceEntry.{TraceEntry}
use Rattle.ba_evidence.specs.Evidence.{Evidence, covered, matched, proved, answer_json, read_json, refuted_json, refuted_read_json}
use Rattle.ba_input.specs.declared.input.Input.{Input}
use Rattle.ba_kernel.specs.Problems.{problem_of}
use Rattle.ba_kernel.specs.Replays.{Closes}
use Rattle.ba_kernel.specs.SearchStates as kernel
use Rattle.ba_lanes.specs.Legal.{contexts_of, trace_in}
use Rattle.ba_lanes.specs.declared.journal.Entry.{Entry}
use Rattle.ba_lanes.specs.declared.journal.Entry.TheVariants.{Begin, Ask, Read, End, Publish, Memory}
use Rattle.ba_match.specs.Instances.{instance_of}
use Rattle.ba_model.specs.declared.policy.Context.{Context}
use Rattle.ba_model.specs.declared.policy.Policy.{Policy}
use Rattle.ba_model.specs.declared.query.Query.{Query}
use Rattle.ba_session.specs.declared.reply.By.{By}
use Rattle.ba_session.specs.declared.reply.By.TheVariants as by
use Rattle.ba_session.specs.declared.reply.KeyReply.{KeyReply}
use Rattle.ba_session.specs.declared.reply.KeyReply.TheVariants as key_reply
use Rattle.ba_session.specs.declared.reply.Reply.{Reply}
use Rattle.ba_session.specs.declared.reply.Reply.TheVariants as reply
use Rattle.ba_session.specs.declared.reply.Why.{Why}
use Rattle.ba_session.specs.declared.reply.Why.TheVariants as why
use Rattle.ba_template.specs.declared.found.Match.{Match}
use Rattle.ba_top.specs.Text.{entry_line, key_name, name_at, printed_block}
use Rattle.ba_top.specs.declared.requests.Requests.{Requests}
use Rattle.ba_wire.specs.Printed.{block, json_line, line_bytes, memory, read_block, unread}

-- the traces of requests, by their numbers
abbrev pub Traces : Type 0
Traces = ℕ → List TraceEntry

-- ---- lines

-- what an answer rests on that was given after this trace: of a template its instance
abbrev pub evidence_of : List TraceEntry → By → Evidence
evidence_of trace (by.Cover cover) = covered cover
evidence_of trace (by.Template shard id template found) =
    matched (instance_of found trace template.steps)
evidence_of trace (by.Proof steps keeping) = proved steps

-- the bytes of the line of a block: with the pair, where one refutes the question
abbrev pub blocked_bytes : Policy → List ℕ → ℕ → ℕ → Why → List ℕ
blocked_bytes policy name line version (why.Refuted pair) =
    json_line (refuted_json policy.schema pair line name version)
blocked_bytes policy name line version (why.Spent steps) =
    line_bytes (block (printed_block (why.Spent steps)) line name version)
blocked_bytes policy name line version (why.Stuck leaf clause) =
    line_bytes (block (printed_block (why.Stuck leaf clause)) line name version)

-- the bytes of the line of a reply that was given after this trace, with its evidence
abbrev pub reply_bytes : Policy → List TraceEntry → List ℕ → ℕ → ℕ → Reply → List ℕ
reply_bytes policy trace name line version (reply.Answer query rows it) =
    json_line (answer_json policy.params (evidence_of trace it) line name rows version)
reply_bytes policy trace name line version (reply.Blocked query reason) =
    blocked_bytes policy name line version reason
reply_bytes policy trace name line version (reply.Unread fault) =
    line_bytes (unread line name fault version)
reply_bytes policy trace name line version reply.NoMemory = line_bytes (memory line)

-- the bytes of the line of a block of a read of the key with this name, for the query of this number
abbrev pub barred_bytes : Policy → List ℕ → ℕ → ℕ → List ℕ → ℕ → Why → List ℕ
barred_bytes policy name line version key query (why.Refuted pair) =
    json_line (refuted_read_json policy.schema pair key line query name version)
barred_bytes policy name line version key query (why.Spent steps) =
    line_bytes (read_block (printed_block (why.Spent steps)) key line query name version)
barred_bytes policy name line version key query (why.Stuck leaf clause) =
    line_bytes (read_block (printed_block (why.Stuck leaf clause)) key line query name version)

-- the bytes of the line of a read of the key with this name that was let through or blocked after
-- this trace, with its evidence
abbrev pub key_bytes : Policy → List TraceEntry → List ℕ → ℕ → ℕ → List ℕ → KeyReply → List ℕ
key_bytes policy trace name line version key (key_reply.Allowed queries bys) =
    json_line (read_json policy.params (map (evidence_of trace) bys) key line name version)
key_bytes policy trace name line version key (key_reply.Blocked queries before reason) =
    barred_bytes policy name line version key (length before) reason
key_bytes policy trace name line version key key_reply.NoMemory = line_bytes (memory line)

-- the same of an entry, for a request or a table set of this name
abbrev pub told_bytes : Policy → Traces → List ℕ → ℕ → Entry → List ℕ
told_bytes policy traces name line (Begin request version) =
    line_bytes (entry_line policy name line (Begin request version))
told_bytes policy traces name line (Ask request version it) =
    reply_bytes policy (traces request) name line version it
told_bytes policy traces name line (Read request version key it) =
    key_bytes policy (traces request) name line version (key_name policy key) it
told_bytes policy traces name line (End request version) =
    line_bytes (entry_line policy name line (End request version))
told_bytes policy traces name line (Publish version) =
    line_bytes (entry_line policy name line (Publish version))
told_bytes policy traces name line (Memory kind request version) =
    line_bytes (entry_line policy name line (Memory kind request version))

-- the bytes of the line of an entry with its evidence, which comes behind the earlier ones
unfoldable pub evident_bytes : Input → List Entry → Entry → List ℕ
evident_bytes input earlier entry =
    told_bytes input.policy (λ request. trace_in request earlier)
    (name_at input.script (length earlier)) (length earlier + 1) entry

-- ---- when the steps of templates' instances are proofs

-- The instance's steps close the question's problem after the trace, under the context that the
-- request has among these.
pub record InstanceCloses (policy : Policy) (contexts : List Context) (trace : List TraceEntry)
    (request : ℕ) (query : Query) (template : kernel.Proof) (found : Match) : Type 0 where
  pub context : Context
  pub has : slice_get contexts request ≡ Some context
  pub closes :
      Closes (problem_of policy context trace query) (instance_of found trace template.steps)

abbrev pub GroundCloses : Policy → List Context → List TraceEntry → ℕ → Query → By → Type 0
GroundCloses policy contexts trace request query (by.Cover cover) = Unit {0}
GroundCloses policy contexts trace request query (by.Template shard id template found) =
    InstanceCloses policy contexts trace request query template found
GroundCloses policy contexts trace request query (by.Proof steps keeping) = Unit {0}

abbrev pub ReplyCloses : Policy → List Context → List TraceEntry → ℕ → Reply → Type 0
ReplyCloses policy contexts trace request (reply.Answer query rows it) =
    GroundCloses policy contexts trace request query it
ReplyCloses policy contexts trace request (reply.Blocked query reason) = Unit {0}
ReplyCloses policy contexts trace request (reply.Unread fault) = Unit {0}
ReplyCloses policy contexts trace request reply.NoMemory = Unit {0}

-- the same of each query of a read that is let through, with its ground
abbrev pub GroundsClose : Policy → List Context → List TraceEntry → ℕ → List Query → List By
    → Type 0
GroundsClose policy contexts trace request queries bys =
    (place : ℕ) (query : Query) (it : By) → slice_get queries place ≡ Some query
    → slice_get bys place ≡ Some it → GroundCloses policy contexts trace request query it

abbrev pub ReadCloses : Policy → List Context → List TraceEntry → ℕ → KeyReply → Type 0
ReadCloses policy contexts trace request (key_reply.Allowed queries bys) =
    GroundsClose policy contexts trace request queries bys
ReadCloses policy contexts trace request (key_reply.Blocked queries before reason) = Unit {0}
ReadCloses policy contexts trace request key_reply.NoMemory = Unit {0}

-- Where the entry is an answer by a template, its instance's steps close the question's problem; and
-- so it is of each query of a read that is let through.
abbrev pub EntryCloses : Policy → List Context → Traces → Entry → Type 0
EntryCloses policy contexts traces (Begin request version) = Unit {0}
EntryCloses policy contexts traces (Ask request version it) =
    ReplyCloses policy contexts (traces request) request it
EntryCloses policy contexts traces (Read request version key it) =
    ReadCloses policy contexts (traces request) request it
EntryCloses policy contexts traces (End request version) = Unit {0}
EntryCloses policy contexts traces (Publish version) = Unit {0}
EntryCloses policy contexts traces (Memory kind request version) = Unit {0}

-- the same of entries behind the earlier ones, one after another: each request has the context of
-- its begin line, and was told what the entries before answer it
abbrev pub AllClose : Input → List Entry → List Entry → Type 0
AllClose input earlier [] = Unit {0}
AllClose input earlier (entry ∷ entries) =
    EntryCloses input.policy (contexts_of input.script.entries) (λ request. trace_in request earlier)
    entry × AllClose input (earlier ++ entry ∷ []) entries

-- ---- what is known of requests while lines are written

-- the trace of the request, which is empty where none is kept for it
abbrev pub trace_at : List (List TraceEntry) → Traces
trace_at traces request = unwrap_or (slice_get traces request) []

-- These are the contexts of the begin lines among the first ones, so many as there are earlier
-- entries, and the trace of each request that these entries leave.
pub record AreAfter (input : Input) (earlier : List Entry) (it : Requests) : Type 0 where
  pub contexts : it.contexts ≡ contexts_of (take (length earlier) input.script.entries)
  pub traces : (request : ℕ) → trace_at it.traces.items request ≡ trace_in request earlier
  pub nothing : it.nothing ≡ []
