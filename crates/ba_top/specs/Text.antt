-- What a run writes.
use Rattle.std.specs.Prelude.{ℕ, ◌+◌, ◌<◌, ◌==◌, List, [], ◌∷◌, ◌++◌, Bool, true, false, if◌then◌else◌, length, map, option_map, slice_get, unwrap_or, sum_by, count_by}
use Rattle.std.specs.List.{flat_map, onto_first}
use Rattle.ba_input.specs.declared.input.Input.{Input}
use Rattle.ba_lanes.specs.Legal.{is_memory}
use Rattle.ba_lanes.specs.declared.journal.Entry.{Entry}
use Rattle.ba_lanes.specs.declared.journal.Entry.TheVariants.{Begin, Ask, Read, End, Publish, Memory}
use Rattle.ba_lanes.specs.declared.journal.LineKind.TheVariants as kind
use Rattle.ba_model.specs.declared.policy.CacheKey.{CacheKey}
use Rattle.ba_model.specs.declared.policy.Policy.{Policy}
use Rattle.ba_script.specs.declared.entry.Script.{Script}
use Rattle.ba_script.specs.declared.entry.ScriptEntry.{ScriptEntry}
use Rattle.ba_script.specs.declared.entry.ScriptEntry.TheVariants as said
use Rattle.ba_session.specs.declared.reply.By.{By}
use Rattle.ba_session.specs.declared.reply.By.TheVariants.{Cover, Template, Proof}
use Rattle.ba_session.specs.declared.reply.KeyReply.{KeyReply}
use Rattle.ba_session.specs.declared.reply.KeyReply.TheVariants as key_reply
use Rattle.ba_session.specs.declared.reply.Reply.{Reply}
use Rattle.ba_session.specs.declared.reply.Reply.TheVariants.{Answer, Blocked, Unread, NoMemory}
use Rattle.ba_session.specs.declared.reply.Why.{Why}
use Rattle.ba_session.specs.declared.reply.Why.TheVariants.{Refuted, Spent, Stuck}
use Rattle.ba_wire.specs.Printed.{Printed, begin, end, publish, answer, block, read, read_block, unread, memory, line_bytes, summary_bytes}
use Rattle.ba_wire.specs.declared.line.By.{By as PrintedBy}
use Rattle.ba_wire.specs.declared.line.By.TheVariants as by
use Rattle.ba_wire.specs.declared.line.Block.{Block}
use Rattle.ba_wire.specs.declared.line.Block.TheVariants as blocked
use Rattle.ba_wire.specs.declared.summary.Summary.{Summary}

-- ---- the line of an entry

-- what a line says of the ground of an answer
abbrev pub printed_by : By → PrintedBy
printed_by (Cover cover) = by.Cover
printed_by (Template shard id template found) = by.Template
printed_by (Proof steps keeping) = by.Proof

-- what a line says of the reason of a block
abbrev pub printed_block : Why → Block
printed_block (Refuted pair) = blocked.Refuted
printed_block (Spent steps) = blocked.Spent (length steps)
printed_block (Stuck leaf clause) = blocked.Stuck clause

-- what the line of a reply says
abbrev pub reply_line : List ℕ → ℕ → ℕ → Reply → Printed
reply_line name line version (Answer query rows by) =
    answer (printed_by by) line name rows version
reply_line name line version (Blocked query why) = block (printed_block why) line name version
reply_line name line version (Unread fault) = unread line name fault version
reply_line name line version NoMemory = memory line

-- what the line of a read of the key with this name says: a block has the number of the query that
-- isn't answered, which is that of the queries before it
abbrev pub read_line : List ℕ → ℕ → ℕ → List ℕ → KeyReply → Printed
read_line name line version key (key_reply.Allowed queries by) =
    read (map printed_by by) key line name version
read_line name line version key (key_reply.Blocked queries before why) =
    read_block (printed_block why) key line (length before) name version
read_line name line version key key_reply.NoMemory = memory line

-- the name of the policy's cache key with this number
abbrev pub key_name : Policy → ℕ → List ℕ
key_name policy number = unwrap_or (option_map CacheKey.name (slice_get policy.keys number)) []

-- what the line of an entry says, whose request or table set has this name; lines are numbered from
-- 1
abbrev pub entry_line : Policy → List ℕ → ℕ → Entry → Printed
entry_line policy name line (Begin request version) = begin name line version
entry_line policy name line (Ask request version reply) = reply_line name line version reply
entry_line policy name line (Read request version key reply) =
    read_line name line version (key_name policy key) reply
entry_line policy name line (End request version) = end name line
entry_line policy name line (Publish version) = publish line name version
entry_line policy name line (Memory kind request version) = memory line

-- the key that the entry reads, if it is of a read, is one of the policy's
abbrev pub ReadsKey : Policy → Entry → Type 0
ReadsKey policy (Begin request version) = Unit {0}
ReadsKey policy (Ask request version reply) = Unit {0}
ReadsKey policy (Read request version key reply) = key < length policy.keys
ReadsKey policy (End request version) = Unit {0}
ReadsKey policy (Publish version) = Unit {0}
ReadsKey policy (Memory kind request version) = Unit {0}

-- the name of the request that a line of the script is of, or of the table set that it publishes
abbrev pub name_in : ScriptEntry → List ℕ
name_in (said.Begin request name context) = name
name_in (said.Ask request name text) = name
name_in (said.Read request name key arguments questions) = name
name_in (said.End request name) = name
name_in (said.Publish number set) = set

-- the name in the line of the script at a place
abbrev pub name_at : Script → ℕ → List ℕ
name_at script place = unwrap_or (option_map name_in (slice_get script.entries place)) []

-- the bytes of the line of an entry, which comes behind the earlier ones
unfoldable pub entry_bytes : Input → List Entry → Entry → List ℕ
entry_bytes input earlier entry =
    line_bytes (entry_line input.policy (name_at input.script (length earlier)) (length earlier + 1)
    entry)

-- ---- the summary

-- the reply that the entry has, if it is of a question
abbrev pub reply_in : Entry → List Reply
reply_in (Begin request version) = []
reply_in (Ask request version reply) = reply ∷ []
reply_in (Read request version key it) = []
reply_in (End request version) = []
reply_in (Publish version) = []
reply_in (Memory kind request version) = []

unfoldable pub is_answer : Reply → Bool
is_answer (Answer query rows by) = true
is_answer (Blocked query why) = false
is_answer (Unread fault) = false
is_answer NoMemory = false

unfoldable pub is_block : Reply → Bool
is_block (Answer query rows by) = false
is_block (Blocked query why) = true
is_block (Unread fault) = false
is_block NoMemory = false

unfoldable pub is_unread : Reply → Bool
is_unread (Answer query rows by) = false
is_unread (Blocked query why) = false
is_unread (Unread fault) = true
is_unread NoMemory = false

-- it is of a read that is allowed
unfoldable pub is_allowed : Entry → Bool
is_allowed (Begin request version) = false
is_allowed (Ask request version reply) = false
is_allowed (Read request version key (key_reply.Allowed queries by)) = true
is_allowed (Read request version key (key_reply.Blocked queries before why)) = false
is_allowed (Read request version key key_reply.NoMemory) = false
is_allowed (End request version) = false
is_allowed (Publish version) = false
is_allowed (Memory kind request version) = false

-- it is of a read that is blocked
unfoldable pub is_barred : Entry → Bool
is_barred (Begin request version) = false
is_barred (Ask request version reply) = false
is_barred (Read request version key (key_reply.Allowed queries by)) = false
is_barred (Read request version key (key_reply.Blocked queries before why)) = true
is_barred (Read request version key key_reply.NoMemory) = false
is_barred (End request version) = false
is_barred (Publish version) = false
is_barred (Memory kind request version) = false

-- how many rows the reply tells
unfoldable pub row_count : Reply → ℕ
row_count (Answer query rows by) = length rows
row_count (Blocked query why) = 0
row_count (Unread fault) = 0
row_count NoMemory = 0

-- it is of a line that begins a request
unfoldable pub is_begin : Entry → Bool
is_begin (Begin request version) = true
is_begin (Ask request version reply) = false
is_begin (Read request version key it) = false
is_begin (End request version) = false
is_begin (Publish version) = false
is_begin (Memory kind.Begin request version) = true
is_begin (Memory kind.Ask request version) = false
is_begin (Memory kind.Read request version) = false
is_begin (Memory kind.End request version) = false
is_begin (Memory kind.Publish request version) = false

-- What is counted over entries: reads of cache keys count as answered or blocked, with no rows.
abbrev pub summary_of : List Entry → Summary
summary_of entries = record {
  answered = count_by is_answer (flat_map reply_in entries) + count_by is_allowed entries;
  blocked = count_by is_block (flat_map reply_in entries) + count_by is_barred entries;
  lines = length entries;
  memory = count_by is_memory entries;
  requests = count_by is_begin entries;
  rows = sum_by row_count (flat_map reply_in entries);
  unread = count_by is_unread (flat_map reply_in entries);
}

-- the bytes of the summary's line
unfoldable pub total_bytes : List Entry → List ℕ
total_bytes entries = summary_bytes (summary_of entries)

-- ---- the lines of a text

-- its lines, each with the line feed that ends it; the last may do without
abbrev pub lines_of : List ℕ → List (List ℕ)
lines_of [] = []
lines_of (byte ∷ bytes) =
    if byte == 10 then (byte ∷ []) ∷ lines_of bytes else onto_first byte (lines_of bytes)
