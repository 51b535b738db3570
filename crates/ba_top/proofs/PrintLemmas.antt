-- The lines of a run, one by one.
use Rattle.std.proofs.Common.{◌≡◌, ◌∙◌, refl, sym, subst, ap, ap₂, ℕ, suc, ◌+◌, ◌<◌, ◌≤◌, List, [], ◌∷◌, ◌++◌, length, map, drop, take, get_or, add-one, drop-cons, Some, slice_get, append_assoc, Result, Err, arith}
use Rattle.std.proofs.lemmas.List.{drop_all, length-take-le}
use Rattle.std.proofs.lemmas.Option.{slice_get_within}
use Rattle.std.specs.Prelude.{option_map, unwrap_or}
use Rattle.ba_input.specs.declared.input.Input.{Input}
use Rattle.ba_input.specs.declared.task.Told.{Told}
use Rattle.ba_input.specs.declared.task.Told.TheVariants.{Summary, Templates}
use Rattle.ba_lanes.specs.declared.journal.Entry.{Entry}
use Rattle.ba_lanes.specs.declared.journal.Journal.{Journal}
use Rattle.ba_outside.specs.Seen.{SinkSeen}
use Rattle.ba_outside.specs.declared.sink.WriteFail.{WriteFail}
use Rattle.ba_plan.proofs.SendingLines.{lines_err, lines_none, lines_then}
use Rattle.ba_plan.specs.Sent.{SentLines, WroteLines}
use Rattle.ba_script.specs.declared.entry.ScriptEntry.{ScriptEntry}
use Rattle.ba_tables.proofs.FieldLemmas.{drop_element}
use Rattle.ba_tables.proofs.IndexLemmas.{take_one}
use Rattle.ba_wire.specs.Printed.{line_bytes}
use Rattle.ba_top.specs.Text.{entry_bytes, entry_line, name_at, name_in}
use Rattle.ba_top.specs.Told.{told_after, told_end, told_lines, told_of}

-- the name in the script's line at the next place
pub named_at : (input : Input) (earlier : List Entry) (it : ScriptEntry) → slice_get input.script.entries (length earlier) ≡ Some it → name_at input.script (length earlier) ≡ name_in it
named_at input earlier it said = ap (λ z. unwrap_or (option_map name_in z) []) said

-- the line of an entry was sent, for the script's line at its place
pub entry_sent : {X : Type 0} (input : Input) (earlier : List Entry) (entry : Entry) (line : ℕ) (it : ScriptEntry) (bytes : List ℕ) (s t : SinkSeen) (r : Result X WriteFail) → slice_get input.script.entries (length earlier) ≡ Some it → line ≡ length earlier + 1
    → bytes ≡ line_bytes (entry_line input.policy (name_in it) line entry) → SentLines (bytes ∷ []) s t r → SentLines (entry_bytes input earlier entry ∷ []) s t r
unfolding entry_bytes
entry_sent input earlier entry line it bytes s t r said is same sent =
    let at = named_at input earlier it said in
    let whole : bytes ≡ entry_bytes input earlier entry = same ∙ ap₂ (λ y z. line_bytes (entry_line input.policy y z entry)) (sym at) is in
    subst (λ z. SentLines (z ∷ []) s t r) whole sent

-- what is told of the next entry, and then of those behind it
told_step : (told : Told) (input : Input) (entries : List Entry) (i : ℕ) (entry : Entry) → slice_get entries i ≡ Some entry
    → told_after told input (take i entries) (drop i entries) ≡ told_of told input (take i entries) entry ++ told_after told input (take (i + 1) entries) (drop (i + 1) entries)
told_step told input entries i entry is =
    ap (told_after told input (take i entries)) (drop_element entries i entry is)
    ∙ ap (λ z. told_of told input (take i entries) entry ++ told_after told input z (drop (i + 1) entries)) (sym (take_one entries i entry is))

-- so many entries are taken
taken : (entries : List Entry) (i : ℕ) (entry : Entry) → slice_get entries i ≡ Some entry → length (take i entries) ≡ i
taken entries i entry is = let below = slice_get_within entries i entry is in length-take-le i entries (omega arith)

-- the script's line at the place of the next entry, and its number
pub said_at : {X : Type 0} (its : List X) (it : X) (entries : List Entry) (i : ℕ) (entry : Entry) → slice_get entries i ≡ Some entry → slice_get its i ≡ Some it → slice_get its (length (take i entries)) ≡ Some it
said_at its it entries i entry is said = ap (slice_get its) (taken entries i entry is) ∙ said

pub line_at : (entries : List Entry) (i : ℕ) (entry : Entry) → slice_get entries i ≡ Some entry → i + 1 ≡ length (take i entries) + 1
line_at entries i entry is = ap (λ z. z + 1) (sym (taken entries i entry is))

-- it was told of the next entry, and the rest became of this
pub told_then : {X : Type 0} (told : Told) (input : Input) (entries : List Entry) (i : ℕ) (entry : Entry) (tail : List (List ℕ)) (s m t : SinkSeen) (r : Result X WriteFail) → slice_get entries i ≡ Some entry
    → WroteLines (told_of told input (take i entries) entry) s m → SentLines (told_after told input (take (i + 1) entries) (drop (i + 1) entries) ++ tail) m t r → SentLines (told_after told input (take i entries) (drop i entries) ++ tail) s t r
told_then told input entries i entry tail s m t r is wrote rest =
    let one = told_of told input (take i entries) entry in
    let more = told_after told input (take (i + 1) entries) (drop (i + 1) entries) in
    subst (λ z. SentLines z s t r) (sym (ap (λ z. z ++ tail) (told_step told input entries i entry is) ∙ append_assoc one more tail))
    (lines_then s m t one (more ++ tail) r wrote rest)

-- it couldn't be told of the next entry
pub told_err : (X Y : Type 0) (told : Told) (input : Input) (entries : List Entry) (i : ℕ) (entry : Entry) (tail : List (List ℕ)) (s t : SinkSeen) (e : WriteFail) → slice_get entries i ≡ Some entry
    → SentLines {X = X} (told_of told input (take i entries) entry) s t (Err e) → SentLines {X = Y} (told_after told input (take i entries) (drop i entries) ++ tail) s t (Err e)
told_err X Y told input entries i entry tail s t e is sent =
    let one = told_of told input (take i entries) entry in
    let more = told_after told input (take (i + 1) entries) (drop (i + 1) entries) in
    subst (λ z. SentLines {X = Y} z s t (Err e)) (sym (ap (λ z. z ++ tail) (told_step told input entries i entry is) ∙ append_assoc one more tail))
    (lines_err X Y s t one (more ++ tail) e sent)

-- no entry is left
pub told_last : {X : Type 0} (told : Told) (input : Input) (entries : List Entry) (i : ℕ) (tail : List (List ℕ)) (s t : SinkSeen) (r : Result X WriteFail) → length entries ≤ i
    → SentLines tail s t r → SentLines (told_after told input (take i entries) (drop i entries) ++ tail) s t r
told_last told input entries i tail s t r past sent =
    subst (λ z. SentLines (told_after told input (take i entries) z ++ tail) s t r) (sym (drop_all i entries past)) sent

-- a summary tells nothing of entries, and neither do templates
summary_quiet : (input : Input) (earlier entries : List Entry) → told_after Summary input earlier entries ≡ []
summary_quiet input earlier [] = refl
summary_quiet input earlier (entry ∷ entries) = summary_quiet input (earlier ++ entry ∷ []) entries

templates_quiet : (input : Input) (earlier entries : List Entry) → told_after Templates input earlier entries ≡ []
templates_quiet input earlier [] = refl
templates_quiet input earlier (entry ∷ entries) = templates_quiet input (earlier ++ entry ∷ []) entries

pub summary_told : {X : Type 0} (told : Told) (input : Input) (journal : Journal) (s t : SinkSeen) (r : Result X WriteFail) → told ≡ Summary → SentLines (told_end Summary journal) s t r → SentLines (told_lines told input journal) s t r
summary_told told input journal s t r is sent = subst (λ z. SentLines (told_lines z input journal) s t r) (sym is)
    (subst (λ z. SentLines (z ++ told_end Summary journal) s t r) (sym (summary_quiet input [] journal.entries)) sent)

pub templates_told : {X : Type 0} (told : Told) (input : Input) (journal : Journal) (s t : SinkSeen) (r : Result X WriteFail) → told ≡ Templates → SentLines (told_end Templates journal) s t r → SentLines (told_lines told input journal) s t r
templates_told told input journal s t r is sent = subst (λ z. SentLines (told_lines z input journal) s t r) (sym is)
    (subst (λ z. SentLines (z ++ told_end Templates journal) s t r) (sym (templates_quiet input [] journal.entries)) sent)

-- ---- lines of things, one after another

-- the next one, and those behind it
next_of : {A : Type 0} (its : List A) (i : ℕ) (it : A) → i < length its → it ≡ get_or its i it → drop i its ≡ it ∷ drop (i + 1) its
next_of its i it below at = drop-cons its i it below ∙ ap (λ z. z ∷ drop (suc i) its) (sym at) ∙ ap (λ n. it ∷ drop n its) (sym (add-one i))

-- the line of the next one was sent, and the rest became of this
pub each_then : {A X : Type 0} (line : A → List ℕ) (its : List A) (i : ℕ) (it : A) (s m t : SinkSeen) (r : Result X WriteFail) → i < length its → it ≡ get_or its i it
    → WroteLines (line it ∷ []) s m → SentLines (map line (drop (i + 1) its)) m t r → SentLines (map line (drop i its)) s t r
each_then line its i it s m t r below at wrote rest =
    subst (λ z. SentLines z s t r) (sym (ap (map line) (next_of its i it below at))) (lines_then s m t (line it ∷ []) (map line (drop (i + 1) its)) r wrote rest)

-- the line of the next one couldn't be sent
pub each_err : {A : Type 0} (X Y : Type 0) (line : A → List ℕ) (its : List A) (i : ℕ) (it : A) (s t : SinkSeen) (e : WriteFail) → i < length its → it ≡ get_or its i it
    → SentLines {X = X} (line it ∷ []) s t (Err e) → SentLines {X = Y} (map line (drop i its)) s t (Err e)
each_err X Y line its i it s t e below at sent =
    subst (λ z. SentLines {X = Y} z s t (Err e)) (sym (ap (map line) (next_of its i it below at))) (lines_err X Y s t (line it ∷ []) (map line (drop (i + 1) its)) e sent)

-- none is left
pub each_none : {A : Type 0} (line : A → List ℕ) (its : List A) (i : ℕ) (s : SinkSeen) → length its ≤ i → WroteLines (map line (drop i its)) s s
each_none line its i s past = subst (λ z. WroteLines z s s) (sym (ap (map line) (drop_all i its past))) (lines_none s)
