-- What an audit knows follows each line.
use Rattle.std.proofs.Common.{◌≡◌, ◌≢◌, ◌∙◌, ℕ, ◌+◌, ◌<◌, ◌≤◌, ◌==◌, ◌⊎◌, inl, inr, cond, List, [], ◌∷◌, ◌++◌, All, Option, Some, option_map, Ok, ap, arith, length, refl, slice_get, subst, sym}
use Rattle.std.proofs.lemmas.List.Elements.{All-nil}
use Rattle.std.proofs.lemmas.Option.{same_Some}
use Rattle.ba_audit.specs.Keeping.{told_at}
use Rattle.ba_audit.specs.Lines.{Line, asking, begun_over, is_memory, numbered_at, published_as, request_after, request_by, tables_of, told_by, with_told}
use Rattle.ba_audit.specs.declared.request.Begun.{Begun}
use Rattle.ba_comply.specs.declared.trace.TraceEntry.{TraceEntry}
use Rattle.ba_input.specs.Inputs.{IsInput}
use Rattle.ba_input.specs.declared.input.Input.{Input}
use Rattle.ba_kernel.specs.Asked.{RecordFits}
use Rattle.ba_lanes.proofs.ServeLemmas.{answers_other, answers_own, asked_is_no_begin, end_is_no_begin, publish_is_no_begin, read_is_no_begin, reads_quiet, trace_more}
use Rattle.ba_lanes.specs.Legal.{HasContext, LineDone, answer_of, asked, begins, contexts_of, read_as, trace_of}
use Rattle.ba_lanes.specs.declared.journal.Entry.TheVariants.{End, Publish}
use Rattle.ba_model.specs.declared.policy.Context.{Context}
use Rattle.ba_printed.specs.declared.line.PrintedLine.{PrintedLine}
use Rattle.ba_printed.specs.declared.line.PrintedLine.TheVariants as printed
use Rattle.ba_script.specs.declared.entry.ScriptEntry.{ScriptEntry}
use Rattle.ba_script.specs.declared.entry.ScriptEntry.TheVariants as said
use Rattle.ba_session.specs.Asking.{answer_in}
use Rattle.ba_session.specs.declared.reply.KeyReply.{KeyReply}
use Rattle.ba_session.specs.declared.reply.Reply.{Reply}
use Rattle.ba_tables.specs.TableSet.{TableSet}
use Rattle.ba_top.proofs.AskerLemmas.{Between, Follows, basis_in, known_as, next_number, request_same, tables_same, version_same}
use Rattle.ba_top.proofs.HistoryLemmas.{differ_false, length_push, same_or_not, same_true}
use Rattle.ba_top.proofs.NumberLemmas.{numbered_of}
use Rattle.ba_versions.specs.Reads.{published as publication}

nothing_more : {X : Type 0} (xs : List X) → xs ++ [] ≡ xs
nothing_more [] = refl
nothing_more (x ∷ xs) = ap (λ z. x ∷ z) (nothing_more xs)

module _ (input : Input) (served : List LineDone) (fits : IsInput input) (front rest : List ScriptEntry) (earlier : List LineDone) (it : LineDone) (before : List Line)
    (b : Between input served front earlier before) where
  begun_is : (request k : ℕ) (held found : Option Begun) → request ≡ k → cond (request == k) found held ≡ found
  begun_is request k held found same = ap (λ t. cond t found held) (ap (λ z. request == z) (sym same) ∙ same_true request)

  other_is : (request k : ℕ) (held found : Option Begun) → request ≢ k → cond (request == k) found held ≡ held
  other_is request k held found differ = ap (λ t. cond t found held) (differ_false request k differ)

  -- ---- begin lines

  pub begin_follows : (request version line : ℕ) (name : List ℕ) (context : Context) (tables : TableSet) (are : input.script.entries ≡ front ++ said.Begin request name context ∷ rest) → it ≡ begins request version tables →
      tables_of (basis_in input served) version ≡ Some tables →
      Follows input served fits front rest (said.Begin request name context) earlier it before (printed.Begin name line version) are b
  unfolding told_at numbered_at request_by is_memory begun_over
  begin_follows request version line name context tables are is there = record {
    fitting = All-nil (RecordFits input.policy);
    numbers = refl;
    counted = λ k v t same. let r : request ≡ k = request_same (sym is ∙ same) in let n = at.0 in let m = grown in omega (arith, r, n, m);
    untold = λ k past. ap (answer_of k) (ap (λ (z : LineDone). z.entry) is);
    kept = λ k v t c trace low.
        other_is request k (known_as c v t trace) found (λ same. let n = at.0 in omega (arith, low, n, same))
        ∙ ap (known_as c v t) (sym (nothing_more trace)) ∙ ap (λ z. known_as c v t (trace ++ z)) (sym (ap (λ (z : LineDone). answer_of k z.entry) is));
    begun = λ k v t c same has.
        let r : request ≡ k = request_same (sym is ∙ same) in
        let w : version ≡ v = version_same (sym is ∙ same) in
        let s : tables ≡ t = tables_same (sym is ∙ same) in
        let d : context ≡ c = same_Some context c (sym at.1 ∙ ap (slice_get (contexts_of input.script.entries)) r ∙ has) in
        begun_is request k (request_after (basis_in input served) k before) found r
        ∙ ap (λ o. option_map (asking context version) o) there
        ∙ (λ i. known_as (d i) (w i) (s i) [])
        ∙ ap (known_as c v t) (sym (none k r same));
    has = λ k v t same. (context, subst (λ n. HasContext input.script n context) (request_same (sym is ∙ same)) at.1);
  }
    where
      at : (request ≡ length (contexts_of front)) × (slice_get (contexts_of input.script.entries) request ≡ Some context)
      at = next_number input.script.entries front rest request name context fits.script.numbered are

      found : Option Begun
      found = option_map (asking context version) (tables_of (basis_in input served) version)

      grown : length (contexts_of (front ++ said.Begin request name context ∷ [])) ≡ length (contexts_of front) + 1
      grown = ap length (contexts_end front) ∙ length_push (contexts_of front) context
        where
          contexts_end : (lines : List ScriptEntry) → contexts_of (lines ++ said.Begin request name context ∷ []) ≡ contexts_of lines ++ context ∷ []
          contexts_end [] = refl
          contexts_end (said.Begin r n c ∷ lines) = ap (λ z. c ∷ z) (contexts_end lines)
          contexts_end (said.Ask r n text ∷ lines) = contexts_end lines
          contexts_end (said.Read r n key arguments questions ∷ lines) = contexts_end lines
          contexts_end (said.End r n ∷ lines) = contexts_end lines
          contexts_end (said.Publish n set ∷ lines) = contexts_end lines

      none : (k : ℕ) → request ≡ k → {v : ℕ} {t : TableSet} → it ≡ begins k v t → trace_of k (earlier ++ it ∷ []) ≡ []
      none k r same =
          let n = at.0 in
          trace_more k earlier it ∙ (λ i. b.untold k (omega (arith, r, n)) i ++ answer_of k (same i).entry)

  -- ---- lines that begin no request, and tell no one anything

  module _ (e : ScriptEntry) (p : PrintedLine) (begins_none : (k version : ℕ) (tables : TableSet) → it ≡ begins k version tables → ⊥) where
    pub quiet_follows : (are : input.script.entries ≡ front ++ e ∷ rest) → numbered_at e (Ok p) ≡ numbered_of e it.made.versions → told_at input.policy e (Ok p) ≡ [] → ((k : ℕ) → answer_of k it.entry ≡ []) →
        ((k : ℕ) (held : Option Begun) → request_by (basis_in input served) k held e (Ok p) ≡ held) → Follows input served fits front rest e earlier it before p are b
    quiet_follows are numbers told answers keeps = record {
      fitting = subst (All (RecordFits input.policy)) (sym told) (All-nil (RecordFits input.policy));
      numbers = numbers;
      counted = λ k v t same. absurd (begins_none k v t same);
      untold = λ k past. answers k;
      kept = λ k v t c trace low. keeps k (known_as c v t trace) ∙ ap (known_as c v t) (sym (nothing_more trace)) ∙ ap (λ z. known_as c v t (trace ++ z)) (sym (answers k));
      begun = λ k v t c same has. absurd (begins_none k v t same);
      has = λ k v t same. absurd (begins_none k v t same);
    }

  pub end_follows : (request version line : ℕ) (name : List ℕ) (are : input.script.entries ≡ front ++ said.End request name ∷ rest) → it.entry ≡ End request version →
      Follows input served fits front rest (said.End request name) earlier it before (printed.End name line) are b
  unfolding told_at numbered_at request_by
  end_follows request version line name are is =
      quiet_follows (said.End request name) (printed.End name line) (λ k v t same. end_is_no_begin request version k v (sym is ∙ ap (λ (z : LineDone). z.entry) same)) are refl refl
      (λ k. ap (answer_of k) is) (λ k held. refl)

  pub publish_follows : (number version line : ℕ) (name : List ℕ) (tables : TableSet) (are : input.script.entries ≡ front ++ said.Publish number name ∷ rest) → it.entry ≡ Publish version →
      it.made.versions ≡ publication tables version ∷ [] → Follows input served fits front rest (said.Publish number name) earlier it before (printed.Publish line name version) are b
  unfolding told_at numbered_at request_by published_as
  publish_follows number version line name tables are is made =
      quiet_follows (said.Publish number name) (printed.Publish line name version) (λ k v t same. publish_is_no_begin version k v (sym is ∙ ap (λ (z : LineDone). z.entry) same)) are
      (ap (numbered_of (said.Publish number name)) (sym made)) refl (λ k. ap (answer_of k) is) (λ k held. refl)

  -- a read tells no rows
  pub read_follows : (request version place questions : ℕ) (name : List ℕ) (arguments : Context) (reply : KeyReply) (p : PrintedLine)
      (are : input.script.entries ≡ front ++ said.Read request name place arguments questions ∷ rest) → it.entry ≡ read_as request version place reply →
      Follows input served fits front rest (said.Read request name place arguments questions) earlier it before p are b
  unfolding told_at numbered_at request_by
  read_follows request version place questions name arguments reply p are is =
      quiet_follows (said.Read request name place arguments questions) p (λ k v t same. read_is_no_begin request version place reply k v (sym is ∙ ap (λ (z : LineDone). z.entry) same)) are refl refl
      (λ k. ap (answer_of k) is ∙ reads_quiet request version place k reply) (λ k held. refl)

  -- ---- questions

  pub ask_follows : (request version : ℕ) (name text : List ℕ) (reply : Reply) (p : PrintedLine) (are : input.script.entries ≡ front ++ said.Ask request name text ∷ rest) → it.entry ≡ asked request version reply →
      request < length (contexts_of front) → told_by input.policy text (Ok p) ≡ answer_in reply → All (RecordFits input.policy) (answer_in reply) →
      Follows input served fits front rest (said.Ask request name text) earlier it before p are b
  unfolding told_at numbered_at request_by
  ask_follows request version name text reply p are is low told fitting = record {
    fitting = subst (All (RecordFits input.policy)) (sym told) fitting;
    numbers = refl;
    counted = λ k v t same. absurd (none k v t same);
    untold = λ k past. ap (answer_of k) is ∙ answers_other request version k reply (λ same. past_all k past same);
    kept = λ k v t c trace low. kept k v t c trace (same_or_not request k);
    begun = λ k v t c same has. absurd (none k v t same);
    has = λ k v t same. absurd (none k v t same);
  }
    where
      none : (k v : ℕ) (t : TableSet) → it ≡ begins k v t → ⊥
      none k v t same = asked_is_no_begin request version reply k v (sym is ∙ ap (λ (z : LineDone). z.entry) same)

      past_all : (k : ℕ) → length (contexts_of (front ++ said.Ask request name text ∷ [])) ≤ k → k ≡ request → ⊥
      past_all k past same = let e = ap length (unchanged front) in omega (arith, past, same, low, e)
        where
          unchanged : (lines : List ScriptEntry) → contexts_of (lines ++ said.Ask request name text ∷ []) ≡ contexts_of lines
          unchanged [] = refl
          unchanged (said.Begin r n c ∷ lines) = ap (λ z. c ∷ z) (unchanged lines)
          unchanged (said.Ask r n t ∷ lines) = unchanged lines
          unchanged (said.Read r n key arguments questions ∷ lines) = unchanged lines
          unchanged (said.End r n ∷ lines) = unchanged lines
          unchanged (said.Publish n set ∷ lines) = unchanged lines

      kept : (k v : ℕ) (t : TableSet) (c : Context) (trace : List TraceEntry) → (request ≡ k) ⊎ (request ≢ k) →
          cond (request == k) (option_map (with_told (told_by input.policy text (Ok p))) (known_as c v t trace)) (known_as c v t trace) ≡ known_as c v t (trace ++ answer_of k it.entry)
      kept k v t c trace (inl same) =
          begun_is request k (known_as c v t trace) (option_map (with_told (told_by input.policy text (Ok p))) (known_as c v t trace)) same
          ∙ ap (λ z. known_as c v t (trace ++ z)) (told ∙ sym (answers_own request version reply) ∙ ap (λ z. answer_of z (asked request version reply)) same ∙ ap (answer_of k) (sym is))
      kept k v t c trace (inr differ) =
          other_is request k (known_as c v t trace) (option_map (with_told (told_by input.policy text (Ok p))) (known_as c v t trace)) differ
          ∙ ap (known_as c v t) (sym (nothing_more trace)) ∙ ap (λ z. known_as c v t (trace ++ z)) (sym (ap (answer_of k) is ∙ answers_other request version k reply (λ same. differ (sym same))))
