-- What each written line is read as.
use Rattle.std.proofs.Common.{◌≡◌, ◌∙◌, ℕ, ℤ, pos, negsuc, ◌+◌, ◌^◌, ◌≤◌, ◌≤ℤ◌, IsTrue, List, [], ◌∷◌, All, Ok, arith, length, map, refl, subst, sym}
use Rattle.std.proofs.lemmas.List.{same_from_push}
use Rattle.std.proofs.lemmas.Bool.{lt-ltb}
use Rattle.std.proofs.lemmas.Int.{ints}
use Rattle.std.proofs.lemmas.List.Elements.{All-weaker}
use Rattle.std.specs.List.{AllZip}
use Rattle.serde_json.specs.Data.{Data}
use Rattle.serde_json.specs.Written.{compact_text}
use Rattle.ba_comply.specs.declared.trace.TraceEntry.{TraceEntry}
use Rattle.ba_evidence.specs.Evidence.{Evidence as Ground, covered, matched, proved}
use Rattle.ba_input.specs.declared.input.Input.{Input}
use Rattle.ba_kernel.proofs.AskedLemmas.{question_is_problem}
use Rattle.ba_kernel.specs.Asked.{QuestionFits}
use Rattle.ba_kernel.specs.Problems.{problem_of}
use Rattle.ba_kernel.specs.Replays.{Closes}
use Rattle.ba_kernel.specs.declared.step.Step.{Step}
use Rattle.ba_lanes.specs.Legal.{trace_in}
use Rattle.ba_lanes.specs.declared.journal.Entry.{Entry}
use Rattle.ba_lanes.specs.declared.journal.Entry.TheVariants.{Begin, Ask, Read, End, Publish, Memory}
use Rattle.ba_lex.specs.Spelling.{fits}
use Rattle.ba_model.specs.Conform.{Conforms, TableConforms}
use Rattle.ba_model.specs.SchemaFaults.{AreDistinct, AreTables}
use Rattle.ba_model.specs.declared.policy.Context.{Context}
use Rattle.ba_model.specs.declared.policy.Policy.{Policy}
use Rattle.ba_model.specs.declared.query.Query.{Query}
use Rattle.ba_model.specs.declared.value.RowSet.{RowSet}
use Rattle.ba_model.specs.declared.value.Value.{Value}
use Rattle.ba_model.specs.declared.value.Value.TheVariants as value
use Rattle.ba_model.specs.declared.check_schema.SchemaFault.TheVariants.{DuplicateTable}
use Rattle.ba_printed.proofs.BackLemmas.{answer_back, line_json, plain_back, read_back, refuted_back, refuted_read_back, summary_back}
use Rattle.ba_printed.specs.ReadBack.{GroundSpells, PairSpells, RowsSpell, SetSpells, meant}
use Rattle.ba_printed.specs.Reading.{printed_of}
use Rattle.ba_printed.specs.declared.line.PrintedBlock.{PrintedBlock}
use Rattle.ba_printed.specs.declared.line.PrintedBlock.TheVariants as blocked
use Rattle.ba_printed.specs.declared.line.PrintedLine.{PrintedLine}
use Rattle.ba_printed.specs.declared.line.PrintedLine.TheVariants as printed
use Rattle.ba_proof.proofs.SpellLemmas.{steps_spell}
use Rattle.ba_proof.specs.ReadBack.{StepHasBits, StepSpells, ValueSpells}
use Rattle.ba_refute.specs.Counterexamples.{AreStored, IsCounterexample, IsNumber, IsPairStored, IsStored}
use Rattle.ba_refute.specs.declared.clause.Clause.TheVariants.{Value as ValueClause, ConformOne, ConformTwo}
use Rattle.ba_refute.specs.declared.clause.Counterexample.{Counterexample}
use Rattle.ba_script.specs.Script.{IsJson}
use Rattle.ba_session.specs.declared.reply.By.{By}
use Rattle.ba_session.specs.declared.reply.KeyReply.{KeyReply}
use Rattle.ba_session.specs.declared.reply.KeyReply.TheVariants as key_reply
use Rattle.ba_session.specs.declared.reply.Reply.{Reply}
use Rattle.ba_session.specs.declared.reply.Reply.TheVariants as reply
use Rattle.ba_session.specs.declared.reply.Why.{Why}
use Rattle.ba_session.specs.declared.reply.Why.TheVariants as why
use Rattle.ba_top.specs.Audited.{EntryHasBits, EntryIsWritten, IsWritten, ReplyHasBits, barred_value, blocked_value, evident_value, key_value, reply_value, told_value}
use Rattle.ba_top.specs.Evidence.{Traces, barred_bytes, blocked_bytes, evidence_of, evident_bytes, key_bytes, reply_bytes, told_bytes}
use Rattle.ba_top.specs.Text.{key_name, name_at, summary_of, total_bytes}
use Rattle.ba_wire.specs.Printed.{begin, block, end, json_line, memory, publish, read_block, summary_json, unread}
use Rattle.ba_wire.specs.declared.line.Block.TheVariants as wire

-- ---- what is meant

abbrev pub said_block : Why → PrintedBlock
said_block (why.Refuted pair) = blocked.Refuted pair
said_block (why.Spent steps) = blocked.Spent (length steps)
said_block (why.Stuck leaf clause) = blocked.Stuck clause

abbrev pub said_reply : List TraceEntry → List ℕ → ℕ → ℕ → Reply → PrintedLine
said_reply trace name line version (reply.Answer query rows it) = printed.Answer (meant (evidence_of trace it)) line name rows version
said_reply trace name line version (reply.Blocked query reason) = printed.Block (said_block reason) line name version
said_reply trace name line version (reply.Unread fault) = printed.Unread line name fault version
said_reply trace name line version reply.NoMemory = printed.Memory line

-- of a read of the key with this name
abbrev pub said_key : List TraceEntry → List ℕ → ℕ → ℕ → List ℕ → KeyReply → PrintedLine
said_key trace name line version key (key_reply.Allowed queries bys) = printed.Read (map meant (map (evidence_of trace) bys)) key line name version
said_key trace name line version key (key_reply.Blocked queries before reason) = printed.ReadBlock (said_block reason) key line (length before) name version
said_key trace name line version key key_reply.NoMemory = printed.Memory line

abbrev pub said_of : Policy → Traces → List ℕ → ℕ → Entry → PrintedLine
said_of policy traces name line (Begin request version) = printed.Begin name line version
said_of policy traces name line (Ask request version it) = said_reply (traces request) name line version it
said_of policy traces name line (Read request version key it) = said_key (traces request) name line version (key_name policy key) it
said_of policy traces name line (End request version) = printed.End name line
said_of policy traces name line (Publish version) = printed.Publish line name version
said_of policy traces name line (Memory kind request version) = printed.Memory line

-- the line of an entry, behind the earlier ones
abbrev pub said_at : Input → List Entry → Entry → PrintedLine
said_at input earlier entry = said_of input.policy (λ request. trace_in request earlier) (name_at input.script (length earlier)) (length earlier + 1) entry

-- ---- bytes

blocked_same : (policy : Policy) (name : List ℕ) (line version : ℕ) (it : Why) → blocked_bytes policy name line version it ≡ json_line (blocked_value policy name line version it)
blocked_same policy name line version (why.Refuted pair) = refl
blocked_same policy name line version (why.Spent steps) = refl
blocked_same policy name line version (why.Stuck leaf clause) = refl

reply_same : (policy : Policy) (trace : List TraceEntry) (name : List ℕ) (line version : ℕ) (it : Reply) → reply_bytes policy trace name line version it ≡ json_line (reply_value policy trace name line version it)
reply_same policy trace name line version (reply.Answer query rows it) = refl
reply_same policy trace name line version (reply.Blocked query reason) = blocked_same policy name line version reason
reply_same policy trace name line version (reply.Unread fault) = refl
reply_same policy trace name line version reply.NoMemory = refl

barred_same : (policy : Policy) (name : List ℕ) (line version : ℕ) (key : List ℕ) (query : ℕ) (it : Why) → barred_bytes policy name line version key query it ≡ json_line (barred_value policy name line version key query it)
barred_same policy name line version key query (why.Refuted pair) = refl
barred_same policy name line version key query (why.Spent steps) = refl
barred_same policy name line version key query (why.Stuck leaf clause) = refl

key_same : (policy : Policy) (trace : List TraceEntry) (name : List ℕ) (line version : ℕ) (key : List ℕ) (it : KeyReply) → key_bytes policy trace name line version key it ≡ json_line (key_value policy trace name line version key it)
key_same policy trace name line version key (key_reply.Allowed queries bys) = refl
key_same policy trace name line version key (key_reply.Blocked queries before reason) = barred_same policy name line version key (length before) reason
key_same policy trace name line version key key_reply.NoMemory = refl

told_same : (policy : Policy) (traces : Traces) (name : List ℕ) (line : ℕ) (it : Entry) → told_bytes policy traces name line it ≡ json_line (told_value policy traces name line it)
told_same policy traces name line (Begin request version) = refl
told_same policy traces name line (Ask request version it) = reply_same policy (traces request) name line version it
told_same policy traces name line (Read request version key it) = key_same policy (traces request) name line version (key_name policy key) it
told_same policy traces name line (End request version) = refl
told_same policy traces name line (Publish version) = refl
told_same policy traces name line (Memory kind request version) = refl

-- the line of an entry is the text of its value, and a line feed
pub evident_same : (input : Input) (earlier : List Entry) (entry : Entry) → evident_bytes input earlier entry ≡ json_line (evident_value input earlier entry)
unfolding evident_bytes evident_value
evident_same input earlier entry = told_same input.policy (λ request. trace_in request earlier) (name_at input.script (length earlier)) (length earlier + 1) entry

pub total_same : (entries : List Entry) → total_bytes entries ≡ json_line (summary_json (summary_of entries))
unfolding total_bytes
total_same entries = refl

-- the text of a value that is written is its JSON
pub text_is_json : (bytes : List ℕ) (d : Data) → bytes ≡ json_line d → IsWritten bytes d → IsJson (compact_text d) d
text_is_json bytes d same written =
    let it = line_json bytes d written.utf8 written.reads in
    let e : it.0 ≡ compact_text d = (same_from_push it.0 (compact_text d) 10 10 (sym it.1 ∙ same)).0 in
    subst (λ z. IsJson z d) e it.2

-- ---- numbers

stored_fits : (n : ℤ) → IsNumber n → IsTrue (fits n)
stored_fits (pos n) h = let most : pos n ≤ℤ pos 9223372036854775807 = h.1 in lt-ltb n (2 ^ 63) (omega (arith, ints, most))
stored_fits (negsuc n) h = let least : negsuc 9223372036854775807 ≤ℤ negsuc n = h.0 in lt-ltb n (2 ^ 63) (omega (arith, ints, least))

value_spells : (v : Value) → IsStored v → ValueSpells v
value_spells value.Null h = tt
value_spells (value.Int n) h = stored_fits n h
value_spells (value.Text s) h = tt

row_spells : (row : List Value) → All IsStored row → All ValueSpells row
row_spells row h = All-weaker IsStored ValueSpells value_spells row h

rows_spell : (rows : List (List Value)) → All (All IsStored) rows → RowsSpell rows
rows_spell rows h = All-weaker (All IsStored) (All ValueSpells) row_spells rows h

same_many : {X Y : Type 0} (xs : List X) (ys : List Y) (R : X → Y → Type 0) → AllZip R xs ys → length xs ≡ length ys
same_many [] [] R h = refl
same_many [] (y ∷ ys) R h = absurd h
same_many (x ∷ xs) [] R h = absurd h
same_many (x ∷ xs) (y ∷ ys) R h = let e = same_many xs ys R h.1 in omega (arith, e)

set_spells : (policy : Policy) (set : RowSet) → AreStored set → Conforms policy.schema set → SetSpells policy.schema.tables set
set_spells policy set stored conforms = record {
  each = sym (same_many policy.schema.tables set.tables (TableConforms set) conforms.tables);
  rows = All-weaker (All (All IsStored)) RowsSpell rows_spell set.tables stored.tables;
}

pub pair_spells : (policy : Policy) (c : Context) (trace : List TraceEntry) (q : Query) (pair : Counterexample) → IsCounterexample policy c trace q pair → PairSpells policy.schema.tables pair
pair_spells policy c trace q pair h =
    let stored : IsPairStored pair = h.meets ValueClause in
    record {
      one = set_spells policy pair.one stored.one (h.meets ConformOne);
      two = set_spells policy pair.two stored.two (h.meets ConformTwo);
      row = row_spells pair.row stored.row;
    }

-- steps that close a question's problem have a spelling, where their numbers have their bits
pub closing_spells : (policy : Policy) (c : Context) (trace : List TraceEntry) (q : Query) (steps : List Step) → QuestionFits policy c trace q → Closes (problem_of policy c trace q) steps → All StepHasBits steps →
    All (StepSpells policy.params 0) steps
closing_spells policy c trace q steps fits closes bits = steps_spell (problem_of policy c trace q) (question_is_problem policy c trace q fits) closes.runs bits

-- ---- lines

-- what is known of an answer's evidence
abbrev pub EvidenceSpells : Policy → Ground → Type 0
EvidenceSpells policy (covered cover) = Unit {0}
EvidenceSpells policy (matched steps) = All (StepSpells policy.params 0) steps
EvidenceSpells policy (proved steps) = All (StepSpells policy.params 0) steps

-- and of a reply
abbrev pub ReplySpells : Policy → List TraceEntry → Reply → Type 0
ReplySpells policy trace (reply.Answer query rows it) = EvidenceSpells policy (evidence_of trace it)
ReplySpells policy trace (reply.Blocked query (why.Refuted pair)) = PairSpells policy.schema.tables pair
ReplySpells policy trace (reply.Blocked query (why.Spent steps)) = Unit {0}
ReplySpells policy trace (reply.Blocked query (why.Stuck leaf clause)) = Unit {0}
ReplySpells policy trace (reply.Unread fault) = Unit {0}
ReplySpells policy trace reply.NoMemory = Unit {0}

-- and of what becomes of a read
abbrev pub KeySpells : Policy → List TraceEntry → KeyReply → Type 0
KeySpells policy trace (key_reply.Allowed queries bys) = All (EvidenceSpells policy) (map (evidence_of trace) bys)
KeySpells policy trace (key_reply.Blocked queries before (why.Refuted pair)) = PairSpells policy.schema.tables pair
KeySpells policy trace (key_reply.Blocked queries before (why.Spent steps)) = Unit {0}
KeySpells policy trace (key_reply.Blocked queries before (why.Stuck leaf clause)) = Unit {0}
KeySpells policy trace key_reply.NoMemory = Unit {0}

abbrev pub EntrySpells : Policy → Traces → Entry → Type 0
EntrySpells policy traces (Begin request version) = Unit {0}
EntrySpells policy traces (Ask request version it) = ReplySpells policy (traces request) it
EntrySpells policy traces (Read request version key it) = KeySpells policy (traces request) it
EntrySpells policy traces (End request version) = Unit {0}
EntrySpells policy traces (Publish version) = Unit {0}
EntrySpells policy traces (Memory kind request version) = Unit {0}

-- no two parameters have one name, and no two tables
module _ (policy : Policy) (params : AreDistinct (map (λ parameter. parameter.name) policy.params)) (tables : AreTables policy.schema.tables) where
  abbrev IsRead : Data → PrintedLine → Type 0
  IsRead d it = IsJson (compact_text d) d → printed_of policy (compact_text d) ≡ Ok it

  ground_spells : (it : Ground) → EvidenceSpells policy it → GroundSpells policy it
  ground_spells (covered cover) h = tt
  ground_spells (matched steps) h = h
  ground_spells (proved steps) h = h

  blocked_read : (query : Query) (trace : List TraceEntry) (name : List ℕ) (line version : ℕ) (it : Why) → ReplySpells policy trace (reply.Blocked query it) →
      IsRead (blocked_value policy name line version it) (printed.Block (said_block it) line name version)
  blocked_read query trace name line version (why.Refuted pair) h is =
      refuted_back policy pair line name version (compact_text (blocked_value policy name line version (why.Refuted pair))) (tables.lacks DuplicateTable) h is
  blocked_read query trace name line version (why.Spent steps) h is =
      plain_back policy (block (wire.Spent (length steps)) line name version) (printed.Block (blocked.Spent (length steps)) line name version)
      (compact_text (blocked_value policy name line version (why.Spent steps))) refl is
  blocked_read query trace name line version (why.Stuck leaf clause) h is =
      plain_back policy (block (wire.Stuck clause) line name version) (printed.Block (blocked.Stuck clause) line name version)
      (compact_text (blocked_value policy name line version (why.Stuck leaf clause))) refl is

  reply_read : (trace : List TraceEntry) (name : List ℕ) (line version : ℕ) (it : Reply) → ReplyHasBits trace it → ReplySpells policy trace it →
      IsRead (reply_value policy trace name line version it) (said_reply trace name line version it)
  reply_read trace name line version (reply.Answer query rows it) bits h is =
      answer_back policy (evidence_of trace it) line name rows version (compact_text (reply_value policy trace name line version (reply.Answer query rows it))) params
      (ground_spells (evidence_of trace it) h) bits.0.rows_have is
  reply_read trace name line version (reply.Blocked query reason) bits h is = blocked_read query trace name line version reason h is
  reply_read trace name line version (reply.Unread fault) bits h is =
      plain_back policy (unread line name fault version) (printed.Unread line name fault version) (compact_text (reply_value policy trace name line version (reply.Unread fault))) refl is
  reply_read trace name line version reply.NoMemory bits h is =
      plain_back policy (memory line) (printed.Memory line) (compact_text (reply_value policy trace name line version reply.NoMemory)) refl is

  barred_read : (queries : List Query) (before : List By) (trace : List TraceEntry) (name : List ℕ) (line version : ℕ) (key : List ℕ) (query : ℕ) (it : Why) → KeySpells policy trace (key_reply.Blocked queries before it) →
      IsRead (barred_value policy name line version key query it) (printed.ReadBlock (said_block it) key line query name version)
  barred_read queries before trace name line version key query (why.Refuted pair) h is =
      refuted_read_back policy pair key line query name version (compact_text (barred_value policy name line version key query (why.Refuted pair))) (tables.lacks DuplicateTable) h is
  barred_read queries before trace name line version key query (why.Spent steps) h is =
      plain_back policy (read_block (wire.Spent (length steps)) key line query name version) (printed.ReadBlock (blocked.Spent (length steps)) key line query name version)
      (compact_text (barred_value policy name line version key query (why.Spent steps))) refl is
  barred_read queries before trace name line version key query (why.Stuck leaf clause) h is =
      plain_back policy (read_block (wire.Stuck clause) key line query name version) (printed.ReadBlock (blocked.Stuck clause) key line query name version)
      (compact_text (barred_value policy name line version key query (why.Stuck leaf clause))) refl is

  key_read : (trace : List TraceEntry) (name : List ℕ) (line version : ℕ) (key : List ℕ) (it : KeyReply) → KeySpells policy trace it →
      IsRead (key_value policy trace name line version key it) (said_key trace name line version key it)
  key_read trace name line version key (key_reply.Allowed queries bys) h is =
      read_back policy (map (evidence_of trace) bys) key line name version (compact_text (key_value policy trace name line version key (key_reply.Allowed queries bys))) params
      (All-weaker (EvidenceSpells policy) (GroundSpells policy) ground_spells (map (evidence_of trace) bys) h) is
  key_read trace name line version key (key_reply.Blocked queries before reason) h is = barred_read queries before trace name line version key (length before) reason h is
  key_read trace name line version key key_reply.NoMemory h is =
      plain_back policy (memory line) (printed.Memory line) (compact_text (key_value policy trace name line version key key_reply.NoMemory)) refl is

  told_read : (traces : Traces) (name : List ℕ) (line : ℕ) (it : Entry) → EntryHasBits traces it → EntrySpells policy traces it → IsRead (told_value policy traces name line it) (said_of policy traces name line it)
  told_read traces name line (Begin request version) bits h is =
      plain_back policy (begin name line version) (printed.Begin name line version) (compact_text (told_value policy traces name line (Begin request version))) refl is
  told_read traces name line (Ask request version it) bits h is = reply_read (traces request) name line version it bits h is
  told_read traces name line (Read request version key it) bits h is = key_read (traces request) name line version (key_name policy key) it h is
  told_read traces name line (End request version) bits h is =
      plain_back policy (end name line) (printed.End name line) (compact_text (told_value policy traces name line (End request version))) refl is
  told_read traces name line (Publish version) bits h is =
      plain_back policy (publish line name version) (printed.Publish line name version) (compact_text (told_value policy traces name line (Publish version))) refl is
  told_read traces name line (Memory kind request version) bits h is =
      plain_back policy (memory line) (printed.Memory line) (compact_text (told_value policy traces name line (Memory kind request version))) refl is

-- a line that is written is read as what was meant
pub line_read : (input : Input) (earlier : List Entry) (entry : Entry) → AreDistinct (map (λ parameter. parameter.name) input.policy.params) → AreTables input.policy.schema.tables →
    EntryIsWritten input earlier entry → EntrySpells input.policy (λ request. trace_in request earlier) entry →
    printed_of input.policy (compact_text (evident_value input earlier entry)) ≡ Ok (said_at input earlier entry)
unfolding evident_value
line_read input earlier entry params tables written h =
    told_read input.policy params tables (λ request. trace_in request earlier) (name_at input.script (length earlier)) (length earlier + 1) entry written.bits h
    (text_is_json (evident_bytes input earlier entry) (told_value input.policy (λ request. trace_in request earlier) (name_at input.script (length earlier)) (length earlier + 1) entry)
    (evident_same input earlier entry) written.written)

-- and so is the summary
pub total_read : (policy : Policy) (entries : List Entry) → IsWritten (total_bytes entries) (summary_json (summary_of entries)) →
    printed_of policy (compact_text (summary_json (summary_of entries))) ≡ Ok (printed.Summary (summary_of entries))
total_read policy entries written =
    summary_back policy (summary_of entries) (compact_text (summary_json (summary_of entries))) (text_is_json (total_bytes entries) (summary_json (summary_of entries)) (total_same entries) written)
