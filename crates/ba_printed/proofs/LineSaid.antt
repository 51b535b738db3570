-- Bytes are read exactly as what they print.
use Rattle.std.proofs.Common.{◌≡◌, ◌⊎◌, ◌∙◌, inl, inr, ℕ, List, [], ◌∷◌, Bool, true, false, cond, Option, Some, None, Result, Ok, Err, refl, sym, ap, subst, codes}
use Rattle.std.specs.Str.{IsUtf8, is_utf8}
use Rattle.std.proofs.lemmas.Str.{IsUtf8-from_is_utf8, is_utf8-from_IsUtf8}
use Rattle.serde_json.specs.Data.{Data, Members, object}
use Rattle.serde_json.specs.Find.{as_object}
use Rattle.serde_json.specs.Read.{read}
use Rattle.ba_model.specs.Readings.{◌>>=◌, widened}
use Rattle.ba_model.specs.declared.policy.Policy.{Policy}
use Rattle.ba_proof.proofs.EntrySaid.{object_is}
use Rattle.ba_proof.proofs.FitLemmas.{bound}
use Rattle.ba_script.specs.Script.{IsJson}
use Rattle.ba_sql_query.specs.declared.fault.ReadQueryFault.{ReadQueryFault}
use Rattle.ba_wire.specs.Printed.{unsupported_in}
use Rattle.ba_printed.proofs.FieldLemmas.{choose, formed, keys_2, keys_3, keys_4, keys_5, keys_6, keys_7, ok_is}
use Rattle.ba_printed.proofs.FormSaid.{answer_said, answer_there, begin_said, begin_there, end_said, end_there, memory_said, memory_there, publish_said, publish_there, refuted_said, refuted_there, spent_said, spent_there, stuck_said, stuck_there, summary_said, summary_there, unread_said, unread_there, unsupported_said, unsupported_there}
use Rattle.ba_printed.proofs.NameSaid.{unsupported_is}
use Rattle.ba_printed.proofs.ReadSaid.{read_said, read_there, refuted_read_said, refuted_read_there, spent_read_said, spent_read_there, stuck_read_said, stuck_read_there, uneven_said}
use Rattle.ba_printed.specs.Reading.{answer_keys, begin_keys, block_of, end_keys, form_of, line_at, line_or, memory_keys, other_of, printed_of, publish_keys, read_keys, read_of, refuted_keys, refuted_read_keys, spent_keys, spent_read_keys, stuck_keys, stuck_read_keys, summary_keys, unread_keys, unsupported_keys}
use Rattle.ba_printed.specs.Says.{IsShapeless, Prints, PrintedIsExact, SaysLine, SaysUnread}
use Rattle.ba_printed.specs.Shapes.{keys_are, or_form}
use Rattle.ba_printed.specs.declared.line.LineReason.{LineReason}
use Rattle.ba_printed.specs.declared.line.LineReason.TheVariants.{Json, Shape}
use Rattle.ba_printed.specs.declared.line.PrintedBlock.TheVariants as blocked
use Rattle.ba_printed.specs.declared.line.PrintedLine.{PrintedLine}
use Rattle.ba_printed.specs.declared.line.PrintedLine.TheVariants as form
use Rattle.ba_printed.specs.declared.shapes.FormFault.{FormFault}

-- ---- values

module _ (policy : Policy) where
  module _ (d : Data) (ms : Members) (it : PrintedLine) (is : d ≡ object ms) where
    read_is : read_of policy d ms ≡ Ok it → SaysLine policy d it
    unfolding read_of
    read_is e0 =
        choose (SaysLine policy d it) (keys_are read_keys ms) _ _ it e0
        (λ b h. (let keys = keys_6 (codes "by") (codes "key") (codes "line") (codes "proof") (codes "read") (codes "version") ms b in read_there policy d keys.0 keys.1 keys.2 keys.3 keys.4 keys.5 it (is ∙ ap object keys.6) h))
        (λ e1. choose (SaysLine policy d it) (keys_are refuted_read_keys ms) _ _ it e1
        (λ b h. (let keys = keys_7 (codes "blocked") (codes "key") (codes "line") (codes "pair") (codes "query") (codes "read") (codes "version") ms b in refuted_read_there policy d keys.0 keys.1 keys.2 keys.3 keys.4 keys.5 keys.6 it (is ∙ ap object keys.7) h))
        (λ e2. choose (SaysLine policy d it) (keys_are spent_read_keys ms) _ _ it e2
        (λ b h. (let keys = keys_7 (codes "blocked") (codes "key") (codes "line") (codes "query") (codes "read") (codes "steps") (codes "version") ms b in spent_read_there policy d keys.0 keys.1 keys.2 keys.3 keys.4 keys.5 keys.6 it (is ∙ ap object keys.7) h))
        (λ e3. choose (SaysLine policy d it) (keys_are stuck_read_keys ms) _ _ it e3
        (λ b h. (let keys = keys_7 (codes "blocked") (codes "clause") (codes "key") (codes "line") (codes "query") (codes "read") (codes "version") ms b in stuck_read_there policy d keys.0 keys.1 keys.2 keys.3 keys.4 keys.5 keys.6 it (is ∙ ap object keys.7) h))
        (λ e4. cc e4))))

    other_is : other_of policy d ms ≡ Ok it → SaysLine policy d it
    unfolding other_of
    other_is e0 =
        choose (SaysLine policy d it) (keys_are begin_keys ms) _ _ it e0
        (λ b h. (let keys = keys_3 (codes "begin") (codes "line") (codes "version") ms b in begin_there policy d keys.0 keys.1 keys.2 it (is ∙ ap object keys.3) h))
        (λ e1. choose (SaysLine policy d it) (keys_are end_keys ms) _ _ it e1
        (λ b h. (let keys = keys_2 (codes "end") (codes "line") ms b in end_there policy d keys.0 keys.1 it (is ∙ ap object keys.2) h))
        (λ e2. choose (SaysLine policy d it) (keys_are publish_keys ms) _ _ it e2
        (λ b h. (let keys = keys_3 (codes "line") (codes "publish") (codes "version") ms b in publish_there policy d keys.0 keys.1 keys.2 it (is ∙ ap object keys.3) h))
        (λ e3. choose (SaysLine policy d it) (keys_are memory_keys ms) _ _ it e3
        (λ b h. (let keys = keys_2 (codes "line") (codes "memory") ms b in memory_there policy d keys.0 keys.1 it (is ∙ ap object keys.2) h))
        (λ e4. choose (SaysLine policy d it) (keys_are summary_keys ms) _ _ it e4
        (λ b h. (let keys = keys_7 (codes "answered") (codes "blocked") (codes "lines") (codes "memory") (codes "requests") (codes "rows") (codes "unread") ms b in summary_there policy d keys.0 keys.1 keys.2 keys.3 keys.4 keys.5 keys.6 it (is ∙ ap object keys.7) h))
        (λ e5. read_is e5)))))

    block_is : block_of policy d ms ≡ Ok it → SaysLine policy d it
    unfolding block_of
    block_is e0 =
        choose (SaysLine policy d it) (keys_are refuted_keys ms) _ _ it e0
        (λ b h. (let keys = keys_5 (codes "blocked") (codes "line") (codes "pair") (codes "request") (codes "version") ms b in refuted_there policy d keys.0 keys.1 keys.2 keys.3 keys.4 it (is ∙ ap object keys.5) h))
        (λ e1. choose (SaysLine policy d it) (keys_are spent_keys ms) _ _ it e1
        (λ b h. (let keys = keys_5 (codes "blocked") (codes "line") (codes "request") (codes "steps") (codes "version") ms b in spent_there policy d keys.0 keys.1 keys.2 keys.3 keys.4 it (is ∙ ap object keys.5) h))
        (λ e2. choose (SaysLine policy d it) (keys_are stuck_keys ms) _ _ it e2
        (λ b h. (let keys = keys_5 (codes "blocked") (codes "clause") (codes "line") (codes "request") (codes "version") ms b in stuck_there policy d keys.0 keys.1 keys.2 keys.3 keys.4 it (is ∙ ap object keys.5) h))
        (λ e3. other_is e3)))

    form_is : form_of policy d ms ≡ Ok it → SaysLine policy d it
    unfolding form_of
    form_is e0 =
        choose (SaysLine policy d it) (keys_are answer_keys ms) _ _ it e0
        (λ b h. (let keys = keys_6 (codes "by") (codes "line") (codes "proof") (codes "request") (codes "rows") (codes "version") ms b in answer_there policy d keys.0 keys.1 keys.2 keys.3 keys.4 keys.5 it (is ∙ ap object keys.6) h))
        (λ e1. choose (SaysLine policy d it) (keys_are unread_keys ms) _ _ it e1
        (λ b h. (let keys = keys_4 (codes "line") (codes "request") (codes "unread") (codes "version") ms b in unread_there policy d keys.0 keys.1 keys.2 keys.3 it (is ∙ ap object keys.4) h))
        (λ e2. choose (SaysLine policy d it) (keys_are unsupported_keys ms) _ _ it e2
        (λ b h. (let keys = keys_5 (codes "line") (codes "request") (codes "unread") (codes "version") (codes "word") ms b in unsupported_there policy d keys.0 keys.1 keys.2 keys.3 keys.4 it (is ∙ ap object keys.5) h))
        (λ e3. block_is e3)))

  pub line_is : (d : Data) (it : PrintedLine) → line_at policy d ≡ Ok it → SaysLine policy d it
  line_is d it e =
      let members = bound (or_form (as_object d)) (form_of policy d) it e in
      form_is d members.0 it (object_is d members.0 (formed (as_object d) members.0 members.1)) members.2

  unread_by : (d : Data) (line : ℕ) (request : List ℕ) (fault : ReadQueryFault) (version : ℕ) (o : Option (List ℕ)) → unsupported_in fault ≡ o
      → SaysUnread d line request fault version → line_at policy d ≡ Ok (form.Unread line request fault version)
  unread_by d line request fault version None none h = unread_said policy d line request fault version h none
  unread_by d line request fault version (Some word) some h =
      let is = unsupported_is fault word some in
      unsupported_said policy d line request word version (subst (λ f. SaysUnread d line request f version) is h)
      ∙ ap (λ f. Ok (form.Unread line request f version)) (sym is)

  pub line_said : (d : Data) (it : PrintedLine) → SaysLine policy d it → line_at policy d ≡ Ok it
  line_said d (form.Begin begin line version) h = begin_said policy d begin line version h
  line_said d (form.End end line) h = end_said policy d end line h
  line_said d (form.Publish line publish version) h = publish_said policy d line publish version h
  line_said d (form.Answer it line request rows version) h = answer_said policy d it line request rows version h
  line_said d (form.Block (blocked.Refuted pair) line request version) h = refuted_said policy d pair line request version h
  line_said d (form.Block (blocked.Spent steps) line request version) h = spent_said policy d steps line request version h
  line_said d (form.Block (blocked.Stuck clause) line request version) h = stuck_said policy d clause line request version h
  line_said d (form.Read its key line request version) h = read_said policy d its key line request version h
  line_said d (form.ReadBlock (blocked.Refuted pair) key line query request version) h = refuted_read_said policy d pair key line query request version h
  line_said d (form.ReadBlock (blocked.Spent steps) key line query request version) h = spent_read_said policy d steps key line query request version h
  line_said d (form.ReadBlock (blocked.Stuck clause) key line query request version) h = stuck_read_said policy d clause key line query request version h
  line_said d form.UnevenRead h = uneven_said policy d h
  line_said d (form.Unread line request fault version) h = unread_by d line request fault version (unsupported_in fault) refl h
  line_said d (form.Memory line) h = memory_said policy d line h
  line_said d (form.Summary it) h = summary_said policy d it h

  -- ---- bytes

  -- the line that a value is, where the text is UTF-8
  under : Bool → Option Data → Result PrintedLine LineReason
  under b o = cond b (line_or policy o) (Err Json)

  under_is : (bytes : List ℕ) → printed_of policy bytes ≡ under (is_utf8 bytes) (read bytes)
  unfolding under printed_of
  under_is bytes = refl

  pub printed_json : (bytes : List ℕ) (d : Data) → IsJson bytes d → printed_of policy bytes ≡ widened (λ (fault : FormFault). Shape) (line_at policy d)
  unfolding under
  printed_json bytes d is = under_is bytes ∙ (ap (λ b. under b (read bytes)) (is_utf8-from_IsUtf8 bytes is.utf8) ∙ ap (under true) is.reads)

  no_json : (b : Bool) (o : Option Data) → (b ≡ true → o ≡ None) → under b o ≡ Err Json
  unfolding under
  no_json true o none = ap (under true) (none refl)
  no_json false o none = refl

  pub printed_no_json : (bytes : List ℕ) → (IsUtf8 bytes → read bytes ≡ None) → printed_of policy bytes ≡ Err Json
  printed_no_json bytes none = under_is bytes ∙ no_json (is_utf8 bytes) (read bytes) (λ b. none (IsUtf8-from_is_utf8 bytes b))

  -- what bytes come to: a value that is read, or none
  abbrev Comes : List ℕ → Type 0
  Comes bytes = ((d : Data) × IsJson bytes d) ⊎ (((d : Data) → ¬ (IsJson bytes d)) × (printed_of policy bytes ≡ Err Json))

  comes_by : (bytes : List ℕ) (b : Bool) (o : Option Data) → is_utf8 bytes ≡ b → read bytes ≡ o → Comes bytes
  unfolding under
  comes_by bytes true (Some d) text reading = inl (d, record { utf8 = IsUtf8-from_is_utf8 bytes text; reads = reading })
  comes_by bytes true None text reading =
      inr (λ d is. cc (sym reading ∙ is.reads), under_is bytes ∙ (ap (λ b. under b (read bytes)) text ∙ ap (under true) reading))
  comes_by bytes false o text reading =
      inr (λ d is. cc (sym text ∙ is_utf8-from_IsUtf8 bytes is.utf8), under_is bytes ∙ ap (λ b. under b (read bytes)) text)

  comes : (bytes : List ℕ) → Comes bytes
  comes bytes = comes_by bytes (is_utf8 bytes) (read bytes) refl refl

  kept : (r : Result PrintedLine FormFault) (it : PrintedLine) → ◌≡◌ {A = Result PrintedLine LineReason} (widened (λ (fault : FormFault). Shape) r) (Ok it) → r ≡ Ok it
  kept (Ok x) it e = cc e
  kept (Err f) it e = cc e

  never_json : (r : Result PrintedLine FormFault) → ◌≡◌ {A = Result PrintedLine LineReason} (widened (λ (fault : FormFault). Shape) r) (Err Json) → ⊥
  never_json (Ok x) e = cc e
  never_json (Err f) e = cc e

  pub prints_is : (bytes : List ℕ) (it : PrintedLine) → printed_of policy bytes ≡ Ok it → Prints policy bytes it
  prints_is bytes it e = by (comes bytes)
    where
      by : Comes bytes → Prints policy bytes it
      by (inl (d, is)) = (d, is, line_is d it (kept (line_at policy d) it (sym (printed_json bytes d is) ∙ e)))
      by (inr (never, h)) = cc (sym h ∙ e)

  pub prints_said : (bytes : List ℕ) (it : PrintedLine) → Prints policy bytes it → printed_of policy bytes ≡ Ok it
  prints_said bytes it (d, is, says) = printed_json bytes d is ∙ ap (widened (λ (fault : FormFault). Shape)) (line_said d it says)

  pub one_line : (bytes : List ℕ) (it other : PrintedLine) → Prints policy bytes it → Prints policy bytes other → it ≡ other
  one_line bytes it other p q = ok_is {F = LineReason} it other (sym (prints_said bytes it p) ∙ prints_said bytes other q)

  pub json_is : (bytes : List ℕ) → printed_of policy bytes ≡ Err Json → (d : Data) → ¬ (IsJson bytes d)
  json_is bytes e d is = never_json (line_at policy d) (sym (printed_json bytes d is) ∙ e)

  pub json_said : (bytes : List ℕ) → ((d : Data) → ¬ (IsJson bytes d)) → printed_of policy bytes ≡ Err Json
  json_said bytes never = by (comes bytes)
    where
      by : Comes bytes → printed_of policy bytes ≡ Err Json
      by (inl (d, is)) = absurd (never d is)
      by (inr (never, h)) = h

  pub shape_is : (bytes : List ℕ) → printed_of policy bytes ≡ Err Shape → IsShapeless policy bytes
  shape_is bytes e = by (comes bytes)
    where
      by : Comes bytes → IsShapeless policy bytes
      by (inl (d, is)) = (d, is, λ it says. cc (sym e ∙ prints_said bytes it (d, is, says)))
      by (inr (never, h)) = cc (sym h ∙ e)

  no_line : (d : Data) (r : Result PrintedLine FormFault) → line_at policy d ≡ r → ((it : PrintedLine) → ¬ (SaysLine policy d it))
      → ◌≡◌ {A = Result PrintedLine LineReason} (widened (λ (fault : FormFault). Shape) r) (Err Shape)
  no_line d (Ok it) e never = absurd (never it (line_is d it e))
  no_line d (Err f) e never = refl

  pub shape_said : (bytes : List ℕ) → IsShapeless policy bytes → printed_of policy bytes ≡ Err Shape
  shape_said bytes (d, is, never) = printed_json bytes d is ∙ no_line d (line_at policy d) refl never

pub printed_exact : PrintedIsExact
printed_exact = record {
  line = λ policy bytes it. (prints_is policy bytes it, prints_said policy bytes it);
  unique = λ policy bytes it other p q. one_line policy bytes it other p q;
  json = λ policy bytes. (json_is policy bytes, json_said policy bytes);
  shape = λ policy bytes. (shape_is policy bytes, shape_said policy bytes);
}
