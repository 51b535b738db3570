-- What is written with proofs is an output that passes an audit.
use Rattle.std.specs.Prelude.{◌≡◌, ℕ, ◌+◌, ◌≤◌, List, [], ◌∷◌, ◌++◌, All, false, length, map}
use Rattle.std.specs.List.{concat}
use Rattle.std.specs.Str.{IsUtf8}
use Rattle.serde_json.specs.Data.{Data}
use Rattle.ba_audit.specs.Audits.{IsAudited}
use Rattle.ba_comply.specs.declared.trace.TraceEntry.{TraceEntry}
use Rattle.ba_evidence.specs.Evidence.{AnswerHasBits, Evidence, EvidenceHasBits, covered, matched, proved, answer_json, read_json, refuted_json, refuted_read_json}
use Rattle.ba_input.specs.declared.input.Input.{Input}
use Rattle.ba_input.specs.declared.task.Told.{Told}
use Rattle.ba_input.specs.declared.task.Told.TheVariants as told
use Rattle.ba_lanes.specs.Legal.{Legal, lacks_memory, trace_in}
use Rattle.ba_lanes.specs.declared.journal.Entry.{Entry}
use Rattle.ba_lanes.specs.declared.journal.Entry.TheVariants.{Begin, Ask, Read, End, Publish, Memory}
use Rattle.ba_lanes.specs.declared.journal.Journal.{Journal}
use Rattle.ba_model.specs.Limits.{most_steps}
use Rattle.ba_model.specs.SchemaFaults.{AreDistinct}
use Rattle.ba_model.specs.declared.policy.Policy.{Policy}
use Rattle.ba_session.specs.declared.reply.By.{By}
use Rattle.ba_session.specs.declared.reply.KeyReply.{KeyReply}
use Rattle.ba_session.specs.declared.reply.KeyReply.TheVariants as key_reply
use Rattle.ba_session.specs.declared.reply.Reply.{Reply}
use Rattle.ba_session.specs.declared.reply.Reply.TheVariants as reply
use Rattle.ba_session.specs.declared.reply.Why.{Why}
use Rattle.ba_session.specs.declared.reply.Why.TheVariants as why
use Rattle.ba_top.specs.Auditing.{output_for}
use Rattle.ba_top.specs.Evidence.{AllClose, Traces, evidence_of, evident_bytes}
use Rattle.ba_top.specs.Text.{entry_line, key_name, name_at, printed_block, summary_of, total_bytes}
use Rattle.ba_top.specs.Told.{told_lines}
use Rattle.ba_wire.specs.Printed.{ReadsBack, block, json_of, memory, read_block, summary_json, unread}

-- ---- the JSON of the lines

abbrev pub blocked_value : Policy → List ℕ → ℕ → ℕ → Why → Data
blocked_value policy name line version (why.Refuted pair) =
    refuted_json policy.schema pair line name version
blocked_value policy name line version (why.Spent steps) =
    json_of (block (printed_block (why.Spent steps)) line name version)
blocked_value policy name line version (why.Stuck leaf clause) =
    json_of (block (printed_block (why.Stuck leaf clause)) line name version)

abbrev pub reply_value : Policy → List TraceEntry → List ℕ → ℕ → ℕ → Reply → Data
reply_value policy trace name line version (reply.Answer query rows it) =
    answer_json policy.params (evidence_of trace it) line name rows version
reply_value policy trace name line version (reply.Blocked query reason) =
    blocked_value policy name line version reason
reply_value policy trace name line version (reply.Unread fault) =
    json_of (unread line name fault version)
reply_value policy trace name line version reply.NoMemory = json_of (memory line)

-- of a block of a read of the key with this name, for the query of this number
abbrev pub barred_value : Policy → List ℕ → ℕ → ℕ → List ℕ → ℕ → Why → Data
barred_value policy name line version key query (why.Refuted pair) =
    refuted_read_json policy.schema pair key line query name version
barred_value policy name line version key query (why.Spent steps) =
    json_of (read_block (printed_block (why.Spent steps)) key line query name version)
barred_value policy name line version key query (why.Stuck leaf clause) =
    json_of (read_block (printed_block (why.Stuck leaf clause)) key line query name version)

abbrev pub key_value : Policy → List TraceEntry → List ℕ → ℕ → ℕ → List ℕ → KeyReply → Data
key_value policy trace name line version key (key_reply.Allowed queries bys) =
    read_json policy.params (map (evidence_of trace) bys) key line name version
key_value policy trace name line version key (key_reply.Blocked queries before reason) =
    barred_value policy name line version key (length before) reason
key_value policy trace name line version key key_reply.NoMemory = json_of (memory line)

abbrev pub told_value : Policy → Traces → List ℕ → ℕ → Entry → Data
told_value policy traces name line (Begin request version) =
    json_of (entry_line policy name line (Begin request version))
told_value policy traces name line (Ask request version it) =
    reply_value policy (traces request) name line version it
told_value policy traces name line (Read request version key it) =
    key_value policy (traces request) name line version (key_name policy key) it
told_value policy traces name line (End request version) =
    json_of (entry_line policy name line (End request version))
told_value policy traces name line (Publish version) =
    json_of (entry_line policy name line (Publish version))
told_value policy traces name line (Memory kind request version) =
    json_of (entry_line policy name line (Memory kind request version))

-- the value whose text is the line of an entry with its evidence, which comes behind the earlier
-- ones
unfoldable pub evident_value : Input → List Entry → Entry → Data
evident_value input earlier entry =
    told_value input.policy (λ request. trace_in request earlier)
    (name_at input.script (length earlier)) (length earlier + 1) entry

-- ---- what is known of a line that is written

-- the instance of a template isn't too long
abbrev pub IsFew : Evidence → Type 0
IsFew (covered cover) = Unit {0}
IsFew (matched steps) = length steps ≤ most_steps
IsFew (proved steps) = Unit {0}

-- the numbers of an answer's rows and of its steps have their bits
abbrev pub ReplyHasBits : List TraceEntry → Reply → Type 0
ReplyHasBits trace (reply.Answer query rows it) =
    AnswerHasBits (evidence_of trace it) rows × IsFew (evidence_of trace it)
ReplyHasBits trace (reply.Blocked query reason) = Unit {0}
ReplyHasBits trace (reply.Unread fault) = Unit {0}
ReplyHasBits trace reply.NoMemory = Unit {0}

-- the same of what a query of a read rests on
pub record GroundHasBits (trace : List TraceEntry) (it : By) : Type 0 where
  pub bits : EvidenceHasBits (evidence_of trace it)
  pub few : IsFew (evidence_of trace it)

abbrev pub KeyHasBits : List TraceEntry → KeyReply → Type 0
KeyHasBits trace (key_reply.Allowed queries bys) = All (GroundHasBits trace) bys
KeyHasBits trace (key_reply.Blocked queries before reason) = Unit {0}
KeyHasBits trace key_reply.NoMemory = Unit {0}

abbrev pub EntryHasBits : Traces → Entry → Type 0
EntryHasBits traces (Begin request version) = Unit {0}
EntryHasBits traces (Ask request version it) = ReplyHasBits (traces request) it
EntryHasBits traces (Read request version key it) = KeyHasBits (traces request) it
EntryHasBits traces (End request version) = Unit {0}
EntryHasBits traces (Publish version) = Unit {0}
EntryHasBits traces (Memory kind request version) = Unit {0}

-- the bytes are UTF-8, and one line, whose JSON reads as the value
pub record IsWritten (bytes : List ℕ) (d : Data) : Type 0 where
  pub utf8 : IsUtf8 bytes
  pub reads : ReadsBack bytes d

-- the same of the line of an entry, behind the earlier ones, and its numbers have their bits
pub record EntryIsWritten (input : Input) (earlier : List Entry) (entry : Entry) : Type 0 where
  pub written : IsWritten (evident_bytes input earlier entry) (evident_value input earlier entry)
  pub bits : EntryHasBits (λ request. trace_in request earlier) entry

-- the same of entries behind the earlier ones, one after another
abbrev pub AllWritten : Input → List Entry → List Entry → Type 0
AllWritten input earlier [] = Unit {0}
AllWritten input earlier (entry ∷ entries) =
    EntryIsWritten input earlier entry × AllWritten input (earlier ++ entry ∷ []) entries

-- What is known of a journal's lines once they are written: each reads as the value that it was made
-- of, and so does the summary.
pub record LinesAreWritten (input : Input) (journal : Journal) : Type 0 where
  pub entries : AllWritten input [] journal.entries
  pub total : IsWritten (total_bytes journal.entries) (summary_json (summary_of journal.entries))

-- where proofs are told, the lines are written
abbrev pub TellsWritten : Told → Input → Journal → Type 0
TellsWritten told.Lines input journal = Unit {0}
TellsWritten told.Proofs input journal = LinesAreWritten input journal
TellsWritten told.Summary input journal = Unit {0}
TellsWritten told.Templates input journal = Unit {0}

-- ---- the law

-- the text that is told of a journal with proofs
abbrev pub output_text : Input → Journal → List ℕ
output_text input journal = concat (told_lines told.Proofs input journal)

-- What is told with proofs of a legal journal without want of memory passes every test of an audit,
-- where the instances of its templates close their questions' problems, its lines are written, and no
-- two parameters of the policy have one name.
abbrev pub OutputIsAudited : Type 0
OutputIsAudited =
    (input : Input) (journal : Journal) → Legal input journal → lacks_memory journal ≡ false →
    AreDistinct (map (λ parameter. parameter.name) input.policy.params) →
    AllClose input [] journal.entries → LinesAreWritten input journal →
    IsAudited (output_for input (output_text input journal))

-- where proofs are told, what is told passes every test of an audit
abbrev pub TellsAudited : Told → Input → Journal → Type 0
TellsAudited told.Lines input journal = Unit {0}
TellsAudited told.Proofs input journal = IsAudited (output_for input (output_text input journal))
TellsAudited told.Summary input journal = Unit {0}
TellsAudited told.Templates input journal = Unit {0}
