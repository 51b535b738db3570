-- Lines with evidence, one by one.
use Rattle.std.proofs.Common.{◌≡◌, ◌∙◌, refl, sym, subst, subst₂, ap, ap₂, ℕ, ◌+◌, ◌≤◌, List, [], ◌∷◌, ◌++◌, length, take, drop, Some, slice_get, Result, Ok, Err, true, false, arith}
use Rattle.std.proofs.lemmas.List.{drop_all}
use Rattle.std.specs.Prelude.{IfOk, IsOk, OnOk}
use Rattle.std.specs.Str.{IsUtf8}
use Rattle.ba_input.specs.declared.input.Input.{Input}
use Rattle.ba_input.specs.declared.task.Told.{Told}
use Rattle.ba_input.specs.declared.task.Told.TheVariants as told
use Rattle.ba_kernel.specs.Courses.{LinksFit}
use Rattle.ba_kernel.specs.Asked.{CheckedLinksFit}
use Rattle.ba_kernel.specs.Drafts.{IsChecked}
use Rattle.ba_input.specs.Inputs.{IsInput}
use Rattle.ba_lanes.specs.Legal.{contexts_of, trace_in}
use Rattle.ba_lanes.specs.declared.journal.Entry.{Entry}
use Rattle.ba_lanes.specs.declared.journal.Entry.TheVariants.{Begin, Ask, Read, End, Publish, Memory}
use Rattle.ba_lanes.specs.declared.journal.Journal.{Journal}
use Rattle.ba_model.specs.declared.policy.Policy.{Policy}
use Rattle.ba_outside.specs.Seen.{SinkSeen}
use Rattle.ba_outside.specs.declared.sink.WriteFail.{WriteFail}
use Rattle.ba_plan.specs.Sent.{SentLines}
use Rattle.ba_script.specs.declared.entry.ScriptEntry.{ScriptEntry}
use Rattle.ba_tables.proofs.FieldLemmas.{drop_element}
use Rattle.ba_tables.proofs.IndexLemmas.{take_one}
use Rattle.ba_top.proofs.EvidenceLemmas.{told_after_lines}
use Rattle.ba_top.proofs.PrintLemmas.{named_at}
use Rattle.ba_top.specs.Audited.{AllWritten, EntryHasBits, EntryIsWritten, IsWritten, KeyHasBits, ReplyHasBits, TellsWritten, evident_value, key_value, reply_value, told_value}
use Rattle.ba_top.specs.Evidence.{AllClose, AreAfter, EntryCloses, Traces, evident_bytes, told_bytes, trace_at}
use Rattle.ba_top.specs.Text.{key_name, name_at, name_in, summary_of, total_bytes}
use Rattle.ba_top.specs.Told.{TellsClosed}
use Rattle.ba_top.specs.declared.requests.Requests.{Requests}
use Rattle.ba_wire.specs.Printed.{ReadsBack, summary_json}

-- the policy of an input is checked
pub policy_checked : (input : Input) → IsInput input → CheckedLinksFit → IsChecked input.policy
policy_checked input is links = record { links = links input.policy.schema is.tables_are; rules = is.rules; policy_fits = is.policy }

-- the line of an entry with its evidence was sent, for the script's line at its place
pub evident_sent : {X : Type 0} (input : Input) (earlier : List Entry) (entry : Entry) (it : Requests) (line : ℕ) (said : ScriptEntry) (name bytes : List ℕ) (s t : SinkSeen) (r : Result X WriteFail) → slice_get input.script.entries (length earlier) ≡ Some said → line ≡ length earlier + 1
    → AreAfter input earlier it → name ≡ name_in said → bytes ≡ told_bytes input.policy (trace_at it.traces.items) name line entry → SentLines (bytes ∷ []) s t r → SentLines (evident_bytes input earlier entry ∷ []) s t r
unfolding evident_bytes
evident_sent input earlier entry it line said name bytes s t r at is h named same sent =
    let whole : bytes ≡ evident_bytes input earlier entry =
    same ∙ told_after_lines input earlier it name line entry h
    ∙ ap₂ (λ y z. told_bytes input.policy (λ request. trace_in request earlier) y z entry) (named ∙ sym (named_at input earlier said at)) is in
    subst (λ z. SentLines (z ∷ []) s t r) whole sent

-- the next entry, and those behind it
pub close_next : (input : Input) (entries : List Entry) (i : ℕ) (entry : Entry) → slice_get entries i ≡ Some entry
    → EntryCloses input.policy (contexts_of input.script.entries) (λ request. trace_in request (take i entries)) entry
    → AllClose input (take (i + 1) entries) (drop (i + 1) entries) → AllClose input (take i entries) (drop i entries)
close_next input entries i entry is one rest =
    subst (AllClose input (take i entries)) (sym (drop_element entries i entry is))
    (one, subst (λ z. AllClose input z (drop (i + 1) entries)) (take_one entries i entry is) rest)

-- none is left
pub close_last : (input : Input) (entries : List Entry) (i : ℕ) → length entries ≤ i → AllClose input (take i entries) (drop i entries)
close_last input entries i past = subst (AllClose input (take i entries)) (sym (drop_all i entries past)) tt

-- what is known of any of them
pub on_ok_then : {X E : Type 0} (P Q : Type 0) (r : Result X E) → (P → Q) → OnOk r P → OnOk r Q
on_ok_then P Q (Ok x) f h = f h
on_ok_then P Q (Err e) f h = tt

pub if_ok_all : {X E : Type 0} (P : Type 0) (r : Result X E) → P → IfOk r (λ _. P)
if_ok_all P (Ok x) h = h
if_ok_all P (Err e) h = tt

pub when_ok : {X E : Type 0} (P : Type 0) (r : Result X E) → IfOk r (λ _. P) → IsOk r → P
when_ok P (Ok x) h is = h
when_ok P (Err e) h is = let no : false ≡ true = is in absurd (cc)

-- where no proofs are told nothing has to close
pub lines_tell : {X E : Type 0} (it : Told) (input : Input) (journal : Journal) (r : Result X E) → it ≡ told.Lines → IfOk r (λ _. TellsClosed it input journal)
lines_tell it input journal r is = subst (λ z. IfOk r (λ _. TellsClosed z input journal)) (sym is) (if_ok_all (TellsClosed told.Lines input journal) r tt)

pub summary_tells : {X E : Type 0} (it : Told) (input : Input) (journal : Journal) (r : Result X E) → it ≡ told.Summary → IfOk r (λ _. TellsClosed it input journal)
summary_tells it input journal r is = subst (λ z. IfOk r (λ _. TellsClosed z input journal)) (sym is) (if_ok_all (TellsClosed told.Summary input journal) r tt)

pub templates_tell : {X E : Type 0} (it : Told) (input : Input) (journal : Journal) (r : Result X E) → it ≡ told.Templates → IfOk r (λ _. TellsClosed it input journal)
templates_tell it input journal r is = subst (λ z. IfOk r (λ _. TellsClosed z input journal)) (sym is) (if_ok_all (TellsClosed told.Templates input journal) r tt)

-- ---- lines that are written

value_as : (policy : Policy) (f g : Traces) (name : List ℕ) (line : ℕ) (entry : Entry) → ((n : ℕ) → f n ≡ g n) → told_value policy f name line entry ≡ told_value policy g name line entry
value_as policy f g name line (Begin request version) same = refl
value_as policy f g name line (Ask request version it) same = ap (λ trace. reply_value policy trace name line version it) (same request)
value_as policy f g name line (Read request version key it) same = ap (λ trace. key_value policy trace name line version (key_name policy key) it) (same request)
value_as policy f g name line (End request version) same = refl
value_as policy f g name line (Publish version) same = refl
value_as policy f g name line (Memory kind request version) same = refl

bits_as : (f g : Traces) (entry : Entry) → ((n : ℕ) → f n ≡ g n) → EntryHasBits f entry → EntryHasBits g entry
bits_as f g (Begin request version) same h = tt
bits_as f g (Ask request version it) same h = subst (λ trace. ReplyHasBits trace it) (same request) h
bits_as f g (Read request version key it) same h = subst (λ trace. KeyHasBits trace it) (same request) h
bits_as f g (End request version) same h = tt
bits_as f g (Publish version) same h = tt
bits_as f g (Memory kind request version) same h = tt

-- the line of an entry with its evidence is written
pub evident_written : (input : Input) (earlier : List Entry) (entry : Entry) (it : Requests) (line : ℕ) (said : ScriptEntry) (name bytes : List ℕ) → slice_get input.script.entries (length earlier) ≡ Some said → line ≡ length earlier + 1
    → AreAfter input earlier it → name ≡ name_in said → IsUtf8 bytes → bytes ≡ told_bytes input.policy (trace_at it.traces.items) name line entry → ReadsBack bytes (told_value input.policy (trace_at it.traces.items) name line entry)
    → EntryHasBits (trace_at it.traces.items) entry → EntryIsWritten input earlier entry
unfolding evident_bytes evident_value
evident_written input earlier entry it line said name bytes at is h named utf8 same back bits =
    let traces : Traces = λ request. trace_in request earlier in
    let place : name ≡ name_at input.script (length earlier) = named ∙ sym (named_at input earlier said at) in
    let whole : bytes ≡ told_bytes input.policy traces (name_at input.script (length earlier)) (length earlier + 1) entry =
    same ∙ told_after_lines input earlier it name line entry h ∙ ap₂ (λ y z. told_bytes input.policy traces y z entry) place is in
    let value : told_value input.policy (trace_at it.traces.items) name line entry ≡ told_value input.policy traces (name_at input.script (length earlier)) (length earlier + 1) entry =
    value_as input.policy (trace_at it.traces.items) traces name line entry h.traces ∙ ap₂ (λ y z. told_value input.policy traces y z entry) place is in
    record {
      written = record { utf8 = subst IsUtf8 whole utf8; reads = subst₂ ReadsBack whole value back };
      bits = bits_as (trace_at it.traces.items) traces entry h.traces bits;
    }

-- the next entry, and those behind it
pub written_next : (input : Input) (entries : List Entry) (i : ℕ) (entry : Entry) → slice_get entries i ≡ Some entry → EntryIsWritten input (take i entries) entry
    → AllWritten input (take (i + 1) entries) (drop (i + 1) entries) → AllWritten input (take i entries) (drop i entries)
written_next input entries i entry is one rest =
    subst (AllWritten input (take i entries)) (sym (drop_element entries i entry is))
    (one, subst (λ z. AllWritten input z (drop (i + 1) entries)) (take_one entries i entry is) rest)

-- none is left
pub written_last : (input : Input) (entries : List Entry) (i : ℕ) → length entries ≤ i → AllWritten input (take i entries) (drop i entries)
written_last input entries i past = subst (AllWritten input (take i entries)) (sym (drop_all i entries past)) tt

-- the summary's line is written
pub total_written : (entries : List Entry) (bytes : List ℕ) → bytes ≡ total_bytes entries → IsUtf8 bytes → ReadsBack bytes (summary_json (summary_of entries)) → IsWritten (total_bytes entries) (summary_json (summary_of entries))
total_written entries bytes same utf8 back = record { utf8 = subst IsUtf8 same utf8; reads = subst (λ z. ReadsBack z (summary_json (summary_of entries))) same back }

-- where no proofs are told nothing is asked of the lines
pub lines_write : {X E : Type 0} (it : Told) (input : Input) (journal : Journal) (r : Result X E) → it ≡ told.Lines → IfOk r (λ _. TellsWritten it input journal)
lines_write it input journal r is = subst (λ z. IfOk r (λ _. TellsWritten z input journal)) (sym is) (if_ok_all (TellsWritten told.Lines input journal) r tt)

pub summary_writes : {X E : Type 0} (it : Told) (input : Input) (journal : Journal) (r : Result X E) → it ≡ told.Summary → IfOk r (λ _. TellsWritten it input journal)
summary_writes it input journal r is = subst (λ z. IfOk r (λ _. TellsWritten z input journal)) (sym is) (if_ok_all (TellsWritten told.Summary input journal) r tt)

pub templates_write : {X E : Type 0} (it : Told) (input : Input) (journal : Journal) (r : Result X E) → it ≡ told.Templates → IfOk r (λ _. TellsWritten it input journal)
templates_write it input journal r is = subst (λ z. IfOk r (λ _. TellsWritten z input journal)) (sym is) (if_ok_all (TellsWritten told.Templates input journal) r tt)
