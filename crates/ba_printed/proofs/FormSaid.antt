-- Lines are read exactly where they are said: each form by itself.
use Rattle.std.proofs.Common.{◌≡◌, ◌∙◌, ℕ, List, [], ◌∷◌, Bool, true, false, Option, Some, None, Result, Ok, Err, refl, sym, ap, subst, codes}
use Rattle.std.specs.Prelude.{⊤}
use Rattle.serde_json.specs.Data.{Data, Members, null, boolean, number, string, array, object, no_members, member}
use Rattle.serde_json.specs.Find.{as_bool, get}
use Rattle.ba_model.specs.Readings.{◌>>=◌, each}
use Rattle.ba_model.specs.declared.policy.Policy.{Policy}
use Rattle.ba_model.specs.declared.value.Value.{Value}
use Rattle.ba_proof.proofs.FitLemmas.{bound}
use Rattle.ba_refute.specs.declared.clause.Clause.{Clause}
use Rattle.ba_refute.specs.declared.clause.Counterexample.{Counterexample}
use Rattle.ba_sql_query.specs.declared.fault.ReadQueryFault.{ReadQueryFault}
use Rattle.ba_sql_query.specs.declared.fault.ReadQueryFault.TheVariants as query
use Rattle.ba_wire.specs.Names.{fault_name}
use Rattle.ba_wire.specs.Printed.{by_name, clause_name, unsupported_in, word_member}
use Rattle.ba_wire.specs.declared.summary.Summary.{Summary}
use Rattle.ba_printed.proofs.EvidenceSaid.{evidence_is, evidence_said}
use Rattle.ba_printed.proofs.FieldLemmas.{field_is, field_said, long_in_is, long_in_said, ok_is, only_true, text_in_is, text_in_said, word_in_is, word_in_said}
use Rattle.ba_printed.proofs.NameSaid.{clause_is, clause_said, fault_is, fault_said, unsupported_is, unsupported_name}
use Rattle.ba_printed.proofs.RowSaid.{pair_is, pair_said, rows_are, rows_said}
use Rattle.ba_printed.specs.Reading.{answer_from, begin_from, block_of, clause_named, end_from, evidence_in, fault_named, form_of, line_at, memory_from, other_of, pair_of, publish_from, refuted_from, rows_of, spent_from, stuck_from, summary_from, summary_with, unread_from, unsupported_from}
use Rattle.ba_printed.specs.Says.{SaysAnswer, SaysBegin, SaysEnd, SaysLine, SaysMemory, SaysPublish, SaysRefuted, SaysSpent, SaysStuck, SaysSummary, SaysUnread, by_of}
use Rattle.ba_printed.specs.Shapes.{field, is_true, long_in, only_if, or_form, text_in, word_in}
use Rattle.ba_printed.specs.declared.line.Evidence.{Evidence}
use Rattle.ba_printed.specs.declared.line.PrintedBlock.TheVariants as blocked
use Rattle.ba_printed.specs.declared.line.PrintedLine.{PrintedLine}
use Rattle.ba_printed.specs.declared.line.PrintedLine.TheVariants as form
use Rattle.ba_printed.specs.declared.shapes.FormFault.{FormFault}

-- the reading of the field's value
pub via : {B : Type 0} (name : List ℕ) (d x : Data) (f : Data → Result B FormFault) (y : B) → get name d ≡ Some x → (field name d >>= f) ≡ Ok y → f x ≡ Ok y
via name d x f y there e =
    let found = bound (field name d) f y e in
    ap f (field_is name d x found.0 there found.1) ∙ found.2

-- the text of the field, which f reads
pub via_text : {B : Type 0} (name : List ℕ) (d x : Data) (f : List ℕ → Result B FormFault) (y : B) → get name d ≡ Some x → (text_in name d >>= f) ≡ Ok y
    → (s : List ℕ) × (x ≡ string s) × (f s ≡ Ok y)
via_text name d x f y there e =
    let found = bound (text_in name d) f y e in
    (found.0, text_in_is name d x found.0 there found.1, found.2)

true_is : (d : Data) (u : ⊤) → is_true d ≡ Ok u → d ≡ boolean true
true_is null u e = cc e
true_is (boolean b) u e = ap boolean (only_true b u e)
true_is (number n) u e = cc e
true_is (string s) u e = cc e
true_is (array ds) u e = cc e
true_is (object ms) u e = cc e

module _ (policy : Policy) where
  -- ---- begin

  pub begin_there : (d x0 x1 x2 : Data) (it : PrintedLine) → d ≡ object (member (codes "begin") x0 (member (codes "line") x1 (member (codes "version") x2 no_members)))
      → begin_from d ≡ Ok it → SaysLine policy d it
  unfolding begin_from
  begin_there d x0 x1 x2 it is e0 =
      let in_begin : get (codes "begin") d ≡ Some x0 = ap (get (codes "begin")) is in
      let in_line : get (codes "line") d ≡ Some x1 = ap (get (codes "line")) is in
      let in_version : get (codes "version") d ≡ Some x2 = ap (get (codes "version")) is in
      let f_begin = bound (text_in (codes "begin") d) (λ n_begin. (long_in (codes "line") d >>= λ n_line. (long_in (codes "version") d >>= λ n_version. (Ok (form.Begin n_begin n_line n_version))))) it e0 in
      let f_line = bound (long_in (codes "line") d) (λ n_line. (long_in (codes "version") d >>= λ n_version. (Ok (form.Begin f_begin.0 n_line n_version)))) it f_begin.2 in
      let f_version = bound (long_in (codes "version") d) (λ n_version. (Ok (form.Begin f_begin.0 f_line.0 n_version))) it f_line.2 in
      let t_begin = text_in_is (codes "begin") d x0 f_begin.0 in_begin f_begin.1 in
      subst (SaysLine policy d) (ok_is {F = FormFault} (form.Begin f_begin.0 f_line.0 f_version.0) it f_version.2)
      (record {
        a = x1;
        b = x2;
        is = is
            ∙ (ap (λ x. object (member (codes "begin") x (member (codes "line") x1 (member (codes "version") x2 no_members)))) t_begin);
        line_is = long_in_is (codes "line") d x1 f_line.0 in_line f_line.1;
        version_is = long_in_is (codes "version") d x2 f_version.0 in_version f_version.1;
      })

  begin_form : (x0 x1 x2 : Data) → line_at policy (object (member (codes "begin") x0 (member (codes "line") x1 (member (codes "version") x2 no_members)))) ≡ begin_from (object (member (codes "begin") x0 (member (codes "line") x1 (member (codes "version") x2 no_members))))
  unfolding form_of block_of other_of
  begin_form x0 x1 x2 = refl

  pub begin_said : (d : Data) (begin : List ℕ) (line version : ℕ) → SaysBegin d begin line version → line_at policy d ≡ Ok (form.Begin begin line version)
  unfolding begin_from
  begin_said d begin line version h =
      let is = h.is in
      let in_begin : get (codes "begin") d ≡ Some (string begin) = ap (get (codes "begin")) is in
      let in_line : get (codes "line") d ≡ Some h.a = ap (get (codes "line")) is in
      let in_version : get (codes "version") d ≡ Some h.b = ap (get (codes "version")) is in
      let r_begin : text_in (codes "begin") d ≡ Ok begin = text_in_said (codes "begin") d begin in_begin in
      let r_line : long_in (codes "line") d ≡ Ok line = long_in_said (codes "line") d h.a line in_line h.line_is in
      let r_version : long_in (codes "version") d ≡ Ok version = long_in_said (codes "version") d h.b version in_version h.version_is in
      let reads : begin_from d ≡ Ok (form.Begin begin line version) = rw (r_begin, r_line, r_version) refl in
      ap (line_at policy) is ∙ (begin_form (string begin) h.a h.b ∙ (ap (begin_from) (sym is) ∙ reads))

  -- ---- end

  pub end_there : (d x0 x1 : Data) (it : PrintedLine) → d ≡ object (member (codes "end") x0 (member (codes "line") x1 no_members))
      → end_from d ≡ Ok it → SaysLine policy d it
  unfolding end_from
  end_there d x0 x1 it is e0 =
      let in_end : get (codes "end") d ≡ Some x0 = ap (get (codes "end")) is in
      let in_line : get (codes "line") d ≡ Some x1 = ap (get (codes "line")) is in
      let f_end = bound (text_in (codes "end") d) (λ n_end. (long_in (codes "line") d >>= λ n_line. (Ok (form.End n_end n_line)))) it e0 in
      let f_line = bound (long_in (codes "line") d) (λ n_line. (Ok (form.End f_end.0 n_line))) it f_end.2 in
      let t_end = text_in_is (codes "end") d x0 f_end.0 in_end f_end.1 in
      subst (SaysLine policy d) (ok_is {F = FormFault} (form.End f_end.0 f_line.0) it f_line.2)
      (record {
        a = x1;
        is = is
            ∙ (ap (λ x. object (member (codes "end") x (member (codes "line") x1 no_members))) t_end);
        line_is = long_in_is (codes "line") d x1 f_line.0 in_line f_line.1;
      })

  end_form : (x0 x1 : Data) → line_at policy (object (member (codes "end") x0 (member (codes "line") x1 no_members))) ≡ end_from (object (member (codes "end") x0 (member (codes "line") x1 no_members)))
  unfolding form_of block_of other_of
  end_form x0 x1 = refl

  pub end_said : (d : Data) (end : List ℕ) (line : ℕ) → SaysEnd d end line → line_at policy d ≡ Ok (form.End end line)
  unfolding end_from
  end_said d end line h =
      let is = h.is in
      let in_end : get (codes "end") d ≡ Some (string end) = ap (get (codes "end")) is in
      let in_line : get (codes "line") d ≡ Some h.a = ap (get (codes "line")) is in
      let r_end : text_in (codes "end") d ≡ Ok end = text_in_said (codes "end") d end in_end in
      let r_line : long_in (codes "line") d ≡ Ok line = long_in_said (codes "line") d h.a line in_line h.line_is in
      let reads : end_from d ≡ Ok (form.End end line) = rw (r_end, r_line) refl in
      ap (line_at policy) is ∙ (end_form (string end) h.a ∙ (ap (end_from) (sym is) ∙ reads))

  -- ---- publish

  pub publish_there : (d x0 x1 x2 : Data) (it : PrintedLine) → d ≡ object (member (codes "line") x0 (member (codes "publish") x1 (member (codes "version") x2 no_members)))
      → publish_from d ≡ Ok it → SaysLine policy d it
  unfolding publish_from
  publish_there d x0 x1 x2 it is e0 =
      let in_line : get (codes "line") d ≡ Some x0 = ap (get (codes "line")) is in
      let in_publish : get (codes "publish") d ≡ Some x1 = ap (get (codes "publish")) is in
      let in_version : get (codes "version") d ≡ Some x2 = ap (get (codes "version")) is in
      let f_line = bound (long_in (codes "line") d) (λ n_line. (text_in (codes "publish") d >>= λ n_publish. (long_in (codes "version") d >>= λ n_version. (Ok (form.Publish n_line n_publish n_version))))) it e0 in
      let f_publish = bound (text_in (codes "publish") d) (λ n_publish. (long_in (codes "version") d >>= λ n_version. (Ok (form.Publish f_line.0 n_publish n_version)))) it f_line.2 in
      let f_version = bound (long_in (codes "version") d) (λ n_version. (Ok (form.Publish f_line.0 f_publish.0 n_version))) it f_publish.2 in
      let t_publish = text_in_is (codes "publish") d x1 f_publish.0 in_publish f_publish.1 in
      subst (SaysLine policy d) (ok_is {F = FormFault} (form.Publish f_line.0 f_publish.0 f_version.0) it f_version.2)
      (record {
        a = x0;
        b = x2;
        is = is
            ∙ (ap (λ x. object (member (codes "line") x0 (member (codes "publish") x (member (codes "version") x2 no_members)))) t_publish);
        line_is = long_in_is (codes "line") d x0 f_line.0 in_line f_line.1;
        version_is = long_in_is (codes "version") d x2 f_version.0 in_version f_version.1;
      })

  publish_form : (x0 x1 x2 : Data) → line_at policy (object (member (codes "line") x0 (member (codes "publish") x1 (member (codes "version") x2 no_members)))) ≡ publish_from (object (member (codes "line") x0 (member (codes "publish") x1 (member (codes "version") x2 no_members))))
  unfolding form_of block_of other_of
  publish_form x0 x1 x2 = refl

  pub publish_said : (d : Data) (line : ℕ) (publish : List ℕ) (version : ℕ) → SaysPublish d line publish version → line_at policy d ≡ Ok (form.Publish line publish version)
  unfolding publish_from
  publish_said d line publish version h =
      let is = h.is in
      let in_line : get (codes "line") d ≡ Some h.a = ap (get (codes "line")) is in
      let in_publish : get (codes "publish") d ≡ Some (string publish) = ap (get (codes "publish")) is in
      let in_version : get (codes "version") d ≡ Some h.b = ap (get (codes "version")) is in
      let r_line : long_in (codes "line") d ≡ Ok line = long_in_said (codes "line") d h.a line in_line h.line_is in
      let r_publish : text_in (codes "publish") d ≡ Ok publish = text_in_said (codes "publish") d publish in_publish in
      let r_version : long_in (codes "version") d ≡ Ok version = long_in_said (codes "version") d h.b version in_version h.version_is in
      let reads : publish_from d ≡ Ok (form.Publish line publish version) = rw (r_line, r_publish, r_version) refl in
      ap (line_at policy) is ∙ (publish_form h.a (string publish) h.b ∙ (ap (publish_from) (sym is) ∙ reads))

  -- ---- refuted

  pub refuted_there : (d x0 x1 x2 x3 x4 : Data) (it : PrintedLine) → d ≡ object (member (codes "blocked") x0 (member (codes "line") x1 (member (codes "pair") x2 (member (codes "request") x3 (member (codes "version") x4 no_members)))))
      → refuted_from policy.schema.tables d ≡ Ok it → SaysLine policy d it
  unfolding refuted_from
  refuted_there d x0 x1 x2 x3 x4 it is e0 =
      let in_blocked : get (codes "blocked") d ≡ Some x0 = ap (get (codes "blocked")) is in
      let in_line : get (codes "line") d ≡ Some x1 = ap (get (codes "line")) is in
      let in_pair : get (codes "pair") d ≡ Some x2 = ap (get (codes "pair")) is in
      let in_request : get (codes "request") d ≡ Some x3 = ap (get (codes "request")) is in
      let in_version : get (codes "version") d ≡ Some x4 = ap (get (codes "version")) is in
      let f_blocked = bound (word_in (codes "refuted") (codes "blocked") d) (λ n_blocked. (long_in (codes "line") d >>= λ n_line. (long_in (codes "version") d >>= λ n_version. (text_in (codes "request") d >>= λ n_request. (field (codes "pair") d >>= pair_of policy.schema.tables >>= λ n_pair. (Ok (form.Block (blocked.Refuted n_pair) n_line n_request n_version))))))) it e0 in
      let f_line = bound (long_in (codes "line") d) (λ n_line. (long_in (codes "version") d >>= λ n_version. (text_in (codes "request") d >>= λ n_request. (field (codes "pair") d >>= pair_of policy.schema.tables >>= λ n_pair. (Ok (form.Block (blocked.Refuted n_pair) n_line n_request n_version)))))) it f_blocked.2 in
      let f_version = bound (long_in (codes "version") d) (λ n_version. (text_in (codes "request") d >>= λ n_request. (field (codes "pair") d >>= pair_of policy.schema.tables >>= λ n_pair. (Ok (form.Block (blocked.Refuted n_pair) f_line.0 n_request n_version))))) it f_line.2 in
      let f_request = bound (text_in (codes "request") d) (λ n_request. (field (codes "pair") d >>= pair_of policy.schema.tables >>= λ n_pair. (Ok (form.Block (blocked.Refuted n_pair) f_line.0 n_request f_version.0)))) it f_version.2 in
      let f_pair = bound (field (codes "pair") d >>= pair_of policy.schema.tables) (λ n_pair. (Ok (form.Block (blocked.Refuted n_pair) f_line.0 f_request.0 f_version.0))) it f_request.2 in
      let t_blocked = word_in_is (codes "refuted") (codes "blocked") d x0 f_blocked.0 in_blocked f_blocked.1 in
      let t_request = text_in_is (codes "request") d x3 f_request.0 in_request f_request.1 in
      subst (SaysLine policy d) (ok_is {F = FormFault} (form.Block (blocked.Refuted f_pair.0) f_line.0 f_request.0 f_version.0) it f_pair.2)
      (record {
        a = x1;
        b = x2;
        c = x4;
        is = is
            ∙ (ap (λ x. object (member (codes "blocked") x (member (codes "line") x1 (member (codes "pair") x2 (member (codes "request") x3 (member (codes "version") x4 no_members)))))) t_blocked
            ∙ (ap (λ x. object (member (codes "blocked") (string (codes "refuted")) (member (codes "line") x1 (member (codes "pair") x2 (member (codes "request") x (member (codes "version") x4 no_members)))))) t_request));
        line_is = long_in_is (codes "line") d x1 f_line.0 in_line f_line.1;
        pair_is = pair_is policy.schema.tables x2 f_pair.0 (via (codes "pair") d x2 (pair_of policy.schema.tables) f_pair.0 in_pair f_pair.1);
        version_is = long_in_is (codes "version") d x4 f_version.0 in_version f_version.1;
      })

  refuted_form : (x0 x1 x2 x3 x4 : Data) → line_at policy (object (member (codes "blocked") x0 (member (codes "line") x1 (member (codes "pair") x2 (member (codes "request") x3 (member (codes "version") x4 no_members)))))) ≡ refuted_from policy.schema.tables (object (member (codes "blocked") x0 (member (codes "line") x1 (member (codes "pair") x2 (member (codes "request") x3 (member (codes "version") x4 no_members))))))
  unfolding form_of block_of other_of
  refuted_form x0 x1 x2 x3 x4 = refl

  pub refuted_said : (d : Data) (pair : Counterexample) (line : ℕ) (request : List ℕ) (version : ℕ) → SaysRefuted policy d pair line request version → line_at policy d ≡ Ok (form.Block (blocked.Refuted pair) line request version)
  unfolding refuted_from
  refuted_said d pair line request version h =
      let is = h.is in
      let in_blocked : get (codes "blocked") d ≡ Some (string (codes "refuted")) = ap (get (codes "blocked")) is in
      let in_line : get (codes "line") d ≡ Some h.a = ap (get (codes "line")) is in
      let in_pair : get (codes "pair") d ≡ Some h.b = ap (get (codes "pair")) is in
      let in_request : get (codes "request") d ≡ Some (string request) = ap (get (codes "request")) is in
      let in_version : get (codes "version") d ≡ Some h.c = ap (get (codes "version")) is in
      let r_blocked : word_in (codes "refuted") (codes "blocked") d ≡ Ok tt = word_in_said (codes "refuted") (codes "blocked") d in_blocked in
      let r_line : long_in (codes "line") d ≡ Ok line = long_in_said (codes "line") d h.a line in_line h.line_is in
      let r_version : long_in (codes "version") d ≡ Ok version = long_in_said (codes "version") d h.c version in_version h.version_is in
      let r_request : text_in (codes "request") d ≡ Ok request = text_in_said (codes "request") d request in_request in
      let r_pair : (field (codes "pair") d >>= pair_of policy.schema.tables) ≡ Ok pair = ap (λ r. r >>= pair_of policy.schema.tables) (field_said (codes "pair") d h.b in_pair) ∙ pair_said policy.schema.tables h.b pair h.pair_is in
      let reads : refuted_from policy.schema.tables d ≡ Ok (form.Block (blocked.Refuted pair) line request version) = rw (r_blocked, r_line, r_version, r_request, r_pair) refl in
      ap (line_at policy) is ∙ (refuted_form (string (codes "refuted")) h.a h.b (string request) h.c ∙ (ap (refuted_from policy.schema.tables) (sym is) ∙ reads))

  -- ---- spent

  pub spent_there : (d x0 x1 x2 x3 x4 : Data) (it : PrintedLine) → d ≡ object (member (codes "blocked") x0 (member (codes "line") x1 (member (codes "request") x2 (member (codes "steps") x3 (member (codes "version") x4 no_members)))))
      → spent_from d ≡ Ok it → SaysLine policy d it
  unfolding spent_from
  spent_there d x0 x1 x2 x3 x4 it is e0 =
      let in_blocked : get (codes "blocked") d ≡ Some x0 = ap (get (codes "blocked")) is in
      let in_line : get (codes "line") d ≡ Some x1 = ap (get (codes "line")) is in
      let in_request : get (codes "request") d ≡ Some x2 = ap (get (codes "request")) is in
      let in_steps : get (codes "steps") d ≡ Some x3 = ap (get (codes "steps")) is in
      let in_version : get (codes "version") d ≡ Some x4 = ap (get (codes "version")) is in
      let f_blocked = bound (word_in (codes "spent") (codes "blocked") d) (λ n_blocked. (long_in (codes "line") d >>= λ n_line. (long_in (codes "version") d >>= λ n_version. (long_in (codes "steps") d >>= λ n_steps. (text_in (codes "request") d >>= λ n_request. (Ok (form.Block (blocked.Spent n_steps) n_line n_request n_version))))))) it e0 in
      let f_line = bound (long_in (codes "line") d) (λ n_line. (long_in (codes "version") d >>= λ n_version. (long_in (codes "steps") d >>= λ n_steps. (text_in (codes "request") d >>= λ n_request. (Ok (form.Block (blocked.Spent n_steps) n_line n_request n_version)))))) it f_blocked.2 in
      let f_version = bound (long_in (codes "version") d) (λ n_version. (long_in (codes "steps") d >>= λ n_steps. (text_in (codes "request") d >>= λ n_request. (Ok (form.Block (blocked.Spent n_steps) f_line.0 n_request n_version))))) it f_line.2 in
      let f_steps = bound (long_in (codes "steps") d) (λ n_steps. (text_in (codes "request") d >>= λ n_request. (Ok (form.Block (blocked.Spent n_steps) f_line.0 n_request f_version.0)))) it f_version.2 in
      let f_request = bound (text_in (codes "request") d) (λ n_request. (Ok (form.Block (blocked.Spent f_steps.0) f_line.0 n_request f_version.0))) it f_steps.2 in
      let t_blocked = word_in_is (codes "spent") (codes "blocked") d x0 f_blocked.0 in_blocked f_blocked.1 in
      let t_request = text_in_is (codes "request") d x2 f_request.0 in_request f_request.1 in
      subst (SaysLine policy d) (ok_is {F = FormFault} (form.Block (blocked.Spent f_steps.0) f_line.0 f_request.0 f_version.0) it f_request.2)
      (record {
        a = x1;
        b = x3;
        c = x4;
        is = is
            ∙ (ap (λ x. object (member (codes "blocked") x (member (codes "line") x1 (member (codes "request") x2 (member (codes "steps") x3 (member (codes "version") x4 no_members)))))) t_blocked
            ∙ (ap (λ x. object (member (codes "blocked") (string (codes "spent")) (member (codes "line") x1 (member (codes "request") x (member (codes "steps") x3 (member (codes "version") x4 no_members)))))) t_request));
        line_is = long_in_is (codes "line") d x1 f_line.0 in_line f_line.1;
        steps_are = long_in_is (codes "steps") d x3 f_steps.0 in_steps f_steps.1;
        version_is = long_in_is (codes "version") d x4 f_version.0 in_version f_version.1;
      })

  spent_form : (x0 x1 x2 x3 x4 : Data) → line_at policy (object (member (codes "blocked") x0 (member (codes "line") x1 (member (codes "request") x2 (member (codes "steps") x3 (member (codes "version") x4 no_members)))))) ≡ spent_from (object (member (codes "blocked") x0 (member (codes "line") x1 (member (codes "request") x2 (member (codes "steps") x3 (member (codes "version") x4 no_members))))))
  unfolding form_of block_of other_of
  spent_form x0 x1 x2 x3 x4 = refl

  pub spent_said : (d : Data) (steps line : ℕ) (request : List ℕ) (version : ℕ) → SaysSpent d steps line request version → line_at policy d ≡ Ok (form.Block (blocked.Spent steps) line request version)
  unfolding spent_from
  spent_said d steps line request version h =
      let is = h.is in
      let in_blocked : get (codes "blocked") d ≡ Some (string (codes "spent")) = ap (get (codes "blocked")) is in
      let in_line : get (codes "line") d ≡ Some h.a = ap (get (codes "line")) is in
      let in_request : get (codes "request") d ≡ Some (string request) = ap (get (codes "request")) is in
      let in_steps : get (codes "steps") d ≡ Some h.b = ap (get (codes "steps")) is in
      let in_version : get (codes "version") d ≡ Some h.c = ap (get (codes "version")) is in
      let r_blocked : word_in (codes "spent") (codes "blocked") d ≡ Ok tt = word_in_said (codes "spent") (codes "blocked") d in_blocked in
      let r_line : long_in (codes "line") d ≡ Ok line = long_in_said (codes "line") d h.a line in_line h.line_is in
      let r_version : long_in (codes "version") d ≡ Ok version = long_in_said (codes "version") d h.c version in_version h.version_is in
      let r_steps : long_in (codes "steps") d ≡ Ok steps = long_in_said (codes "steps") d h.b steps in_steps h.steps_are in
      let r_request : text_in (codes "request") d ≡ Ok request = text_in_said (codes "request") d request in_request in
      let reads : spent_from d ≡ Ok (form.Block (blocked.Spent steps) line request version) = rw (r_blocked, r_line, r_version, r_steps, r_request) refl in
      ap (line_at policy) is ∙ (spent_form (string (codes "spent")) h.a (string request) h.b h.c ∙ (ap (spent_from) (sym is) ∙ reads))

  -- ---- stuck

  pub stuck_there : (d x0 x1 x2 x3 x4 : Data) (it : PrintedLine) → d ≡ object (member (codes "blocked") x0 (member (codes "clause") x1 (member (codes "line") x2 (member (codes "request") x3 (member (codes "version") x4 no_members)))))
      → stuck_from d ≡ Ok it → SaysLine policy d it
  unfolding stuck_from
  stuck_there d x0 x1 x2 x3 x4 it is e0 =
      let in_blocked : get (codes "blocked") d ≡ Some x0 = ap (get (codes "blocked")) is in
      let in_clause : get (codes "clause") d ≡ Some x1 = ap (get (codes "clause")) is in
      let in_line : get (codes "line") d ≡ Some x2 = ap (get (codes "line")) is in
      let in_request : get (codes "request") d ≡ Some x3 = ap (get (codes "request")) is in
      let in_version : get (codes "version") d ≡ Some x4 = ap (get (codes "version")) is in
      let f_blocked = bound (word_in (codes "stuck") (codes "blocked") d) (λ n_blocked. (long_in (codes "line") d >>= λ n_line. (long_in (codes "version") d >>= λ n_version. (text_in (codes "clause") d >>= clause_named >>= λ n_clause. (text_in (codes "request") d >>= λ n_request. (Ok (form.Block (blocked.Stuck n_clause) n_line n_request n_version))))))) it e0 in
      let f_line = bound (long_in (codes "line") d) (λ n_line. (long_in (codes "version") d >>= λ n_version. (text_in (codes "clause") d >>= clause_named >>= λ n_clause. (text_in (codes "request") d >>= λ n_request. (Ok (form.Block (blocked.Stuck n_clause) n_line n_request n_version)))))) it f_blocked.2 in
      let f_version = bound (long_in (codes "version") d) (λ n_version. (text_in (codes "clause") d >>= clause_named >>= λ n_clause. (text_in (codes "request") d >>= λ n_request. (Ok (form.Block (blocked.Stuck n_clause) f_line.0 n_request n_version))))) it f_line.2 in
      let f_clause = bound (text_in (codes "clause") d >>= clause_named) (λ n_clause. (text_in (codes "request") d >>= λ n_request. (Ok (form.Block (blocked.Stuck n_clause) f_line.0 n_request f_version.0)))) it f_version.2 in
      let f_request = bound (text_in (codes "request") d) (λ n_request. (Ok (form.Block (blocked.Stuck f_clause.0) f_line.0 n_request f_version.0))) it f_clause.2 in
      let t_blocked = word_in_is (codes "stuck") (codes "blocked") d x0 f_blocked.0 in_blocked f_blocked.1 in
      let named = via_text (codes "clause") d x1 clause_named f_clause.0 in_clause f_clause.1 in
      let t_clause : x1 ≡ string (clause_name f_clause.0) = named.1 ∙ ap string (clause_is named.0 f_clause.0 named.2) in
      let t_request = text_in_is (codes "request") d x3 f_request.0 in_request f_request.1 in
      subst (SaysLine policy d) (ok_is {F = FormFault} (form.Block (blocked.Stuck f_clause.0) f_line.0 f_request.0 f_version.0) it f_request.2)
      (record {
        a = x2;
        b = x4;
        is = is
            ∙ (ap (λ x. object (member (codes "blocked") x (member (codes "clause") x1 (member (codes "line") x2 (member (codes "request") x3 (member (codes "version") x4 no_members)))))) t_blocked
            ∙ (ap (λ x. object (member (codes "blocked") (string (codes "stuck")) (member (codes "clause") x (member (codes "line") x2 (member (codes "request") x3 (member (codes "version") x4 no_members)))))) t_clause
            ∙ (ap (λ x. object (member (codes "blocked") (string (codes "stuck")) (member (codes "clause") (string (clause_name f_clause.0)) (member (codes "line") x2 (member (codes "request") x (member (codes "version") x4 no_members)))))) t_request)));
        line_is = long_in_is (codes "line") d x2 f_line.0 in_line f_line.1;
        version_is = long_in_is (codes "version") d x4 f_version.0 in_version f_version.1;
      })

  stuck_form : (x0 x1 x2 x3 x4 : Data) → line_at policy (object (member (codes "blocked") x0 (member (codes "clause") x1 (member (codes "line") x2 (member (codes "request") x3 (member (codes "version") x4 no_members)))))) ≡ stuck_from (object (member (codes "blocked") x0 (member (codes "clause") x1 (member (codes "line") x2 (member (codes "request") x3 (member (codes "version") x4 no_members))))))
  unfolding form_of block_of other_of
  stuck_form x0 x1 x2 x3 x4 = refl

  pub stuck_said : (d : Data) (clause : Clause) (line : ℕ) (request : List ℕ) (version : ℕ) → SaysStuck d clause line request version → line_at policy d ≡ Ok (form.Block (blocked.Stuck clause) line request version)
  unfolding stuck_from
  stuck_said d clause line request version h =
      let is = h.is in
      let in_blocked : get (codes "blocked") d ≡ Some (string (codes "stuck")) = ap (get (codes "blocked")) is in
      let in_clause : get (codes "clause") d ≡ Some (string (clause_name clause)) = ap (get (codes "clause")) is in
      let in_line : get (codes "line") d ≡ Some h.a = ap (get (codes "line")) is in
      let in_request : get (codes "request") d ≡ Some (string request) = ap (get (codes "request")) is in
      let in_version : get (codes "version") d ≡ Some h.b = ap (get (codes "version")) is in
      let r_blocked : word_in (codes "stuck") (codes "blocked") d ≡ Ok tt = word_in_said (codes "stuck") (codes "blocked") d in_blocked in
      let r_line : long_in (codes "line") d ≡ Ok line = long_in_said (codes "line") d h.a line in_line h.line_is in
      let r_version : long_in (codes "version") d ≡ Ok version = long_in_said (codes "version") d h.b version in_version h.version_is in
      let r_clause : (text_in (codes "clause") d >>= clause_named) ≡ Ok clause = ap (λ r. r >>= clause_named) (text_in_said (codes "clause") d (clause_name clause) in_clause) ∙ clause_said clause in
      let r_request : text_in (codes "request") d ≡ Ok request = text_in_said (codes "request") d request in_request in
      let reads : stuck_from d ≡ Ok (form.Block (blocked.Stuck clause) line request version) = rw (r_blocked, r_line, r_version, r_clause, r_request) refl in
      ap (line_at policy) is ∙ (stuck_form (string (codes "stuck")) (string (clause_name clause)) h.a (string request) h.b ∙ (ap (stuck_from) (sym is) ∙ reads))

  -- ---- unsupported

  pub unsupported_there : (d x0 x1 x2 x3 x4 : Data) (it : PrintedLine) → d ≡ object (member (codes "line") x0 (member (codes "request") x1 (member (codes "unread") x2 (member (codes "version") x3 (member (codes "word") x4 no_members)))))
      → unsupported_from d ≡ Ok it → SaysLine policy d it
  unfolding unsupported_from
  unsupported_there d x0 x1 x2 x3 x4 it is e0 =
      let in_line : get (codes "line") d ≡ Some x0 = ap (get (codes "line")) is in
      let in_request : get (codes "request") d ≡ Some x1 = ap (get (codes "request")) is in
      let in_unread : get (codes "unread") d ≡ Some x2 = ap (get (codes "unread")) is in
      let in_version : get (codes "version") d ≡ Some x3 = ap (get (codes "version")) is in
      let in_word : get (codes "word") d ≡ Some x4 = ap (get (codes "word")) is in
      let f_unread = bound (word_in (codes "unsupported") (codes "unread") d) (λ n_unread. (long_in (codes "line") d >>= λ n_line. (long_in (codes "version") d >>= λ n_version. (text_in (codes "request") d >>= λ n_request. (text_in (codes "word") d >>= λ n_word. (Ok (form.Unread n_line n_request (query.Unsupported n_word) n_version))))))) it e0 in
      let f_line = bound (long_in (codes "line") d) (λ n_line. (long_in (codes "version") d >>= λ n_version. (text_in (codes "request") d >>= λ n_request. (text_in (codes "word") d >>= λ n_word. (Ok (form.Unread n_line n_request (query.Unsupported n_word) n_version)))))) it f_unread.2 in
      let f_version = bound (long_in (codes "version") d) (λ n_version. (text_in (codes "request") d >>= λ n_request. (text_in (codes "word") d >>= λ n_word. (Ok (form.Unread f_line.0 n_request (query.Unsupported n_word) n_version))))) it f_line.2 in
      let f_request = bound (text_in (codes "request") d) (λ n_request. (text_in (codes "word") d >>= λ n_word. (Ok (form.Unread f_line.0 n_request (query.Unsupported n_word) f_version.0)))) it f_version.2 in
      let f_word = bound (text_in (codes "word") d) (λ n_word. (Ok (form.Unread f_line.0 f_request.0 (query.Unsupported n_word) f_version.0))) it f_request.2 in
      let t_request = text_in_is (codes "request") d x1 f_request.0 in_request f_request.1 in
      let t_unread = word_in_is (codes "unsupported") (codes "unread") d x2 f_unread.0 in_unread f_unread.1 in
      let t_word = text_in_is (codes "word") d x4 f_word.0 in_word f_word.1 in
      subst (SaysLine policy d) (ok_is {F = FormFault} (form.Unread f_line.0 f_request.0 (query.Unsupported f_word.0) f_version.0) it f_word.2)
      (record {
        a = x0;
        b = x3;
        is = is
            ∙ (ap (λ x. object (member (codes "line") x0 (member (codes "request") x (member (codes "unread") x2 (member (codes "version") x3 (member (codes "word") x4 no_members)))))) t_request
            ∙ (ap (λ x. object (member (codes "line") x0 (member (codes "request") (string f_request.0) (member (codes "unread") x (member (codes "version") x3 (member (codes "word") x4 no_members)))))) t_unread
            ∙ (ap (λ x. object (member (codes "line") x0 (member (codes "request") (string f_request.0) (member (codes "unread") (string (codes "unsupported")) (member (codes "version") x3 (member (codes "word") x no_members)))))) t_word
            ∙ (ap (λ s. object (member (codes "line") x0 (member (codes "request") (string f_request.0) (member (codes "unread") (string s) (member (codes "version") x3 (member (codes "word") (string f_word.0) no_members)))))) (sym (unsupported_name f_word.0))))));
        line_is = long_in_is (codes "line") d x0 f_line.0 in_line f_line.1;
        version_is = long_in_is (codes "version") d x3 f_version.0 in_version f_version.1;
      })

  unsupported_form : (x0 x1 x2 x3 x4 : Data) → line_at policy (object (member (codes "line") x0 (member (codes "request") x1 (member (codes "unread") x2 (member (codes "version") x3 (member (codes "word") x4 no_members)))))) ≡ unsupported_from (object (member (codes "line") x0 (member (codes "request") x1 (member (codes "unread") x2 (member (codes "version") x3 (member (codes "word") x4 no_members))))))
  unfolding form_of block_of other_of
  unsupported_form x0 x1 x2 x3 x4 = refl

  pub unsupported_said : (d : Data) (line : ℕ) (request : List ℕ) (word : List ℕ) (version : ℕ) → SaysUnread d line request (query.Unsupported word) version → line_at policy d ≡ Ok (form.Unread line request (query.Unsupported word) version)
  unfolding unsupported_from
  unsupported_said d line request word version h =
      let is : d ≡ object (member (codes "line") h.a (member (codes "request") (string request) (member (codes "unread") (string (codes "unsupported")) (member (codes "version") h.b (member (codes "word") (string word) no_members))))) = h.is ∙ ap (λ s. object (member (codes "line") h.a (member (codes "request") (string request) (member (codes "unread") (string s) (member (codes "version") h.b (member (codes "word") (string word) no_members)))))) (unsupported_name word) in
      let in_line : get (codes "line") d ≡ Some h.a = ap (get (codes "line")) is in
      let in_request : get (codes "request") d ≡ Some (string request) = ap (get (codes "request")) is in
      let in_unread : get (codes "unread") d ≡ Some (string (codes "unsupported")) = ap (get (codes "unread")) is in
      let in_version : get (codes "version") d ≡ Some h.b = ap (get (codes "version")) is in
      let in_word : get (codes "word") d ≡ Some (string word) = ap (get (codes "word")) is in
      let r_unread : word_in (codes "unsupported") (codes "unread") d ≡ Ok tt = word_in_said (codes "unsupported") (codes "unread") d in_unread in
      let r_line : long_in (codes "line") d ≡ Ok line = long_in_said (codes "line") d h.a line in_line h.line_is in
      let r_version : long_in (codes "version") d ≡ Ok version = long_in_said (codes "version") d h.b version in_version h.version_is in
      let r_request : text_in (codes "request") d ≡ Ok request = text_in_said (codes "request") d request in_request in
      let r_word : text_in (codes "word") d ≡ Ok word = text_in_said (codes "word") d word in_word in
      let reads : unsupported_from d ≡ Ok (form.Unread line request (query.Unsupported word) version) = rw (r_unread, r_line, r_version, r_request, r_word) refl in
      ap (line_at policy) is ∙ (unsupported_form h.a (string request) (string (codes "unsupported")) h.b (string word) ∙ (ap (unsupported_from) (sym is) ∙ reads))

  -- ---- unread

  pub unread_there : (d x0 x1 x2 x3 : Data) (it : PrintedLine) → d ≡ object (member (codes "line") x0 (member (codes "request") x1 (member (codes "unread") x2 (member (codes "version") x3 no_members))))
      → unread_from d ≡ Ok it → SaysLine policy d it
  unfolding unread_from
  unread_there d x0 x1 x2 x3 it is e0 =
      let in_line : get (codes "line") d ≡ Some x0 = ap (get (codes "line")) is in
      let in_request : get (codes "request") d ≡ Some x1 = ap (get (codes "request")) is in
      let in_unread : get (codes "unread") d ≡ Some x2 = ap (get (codes "unread")) is in
      let in_version : get (codes "version") d ≡ Some x3 = ap (get (codes "version")) is in
      let f_line = bound (long_in (codes "line") d) (λ n_line. (long_in (codes "version") d >>= λ n_version. (text_in (codes "request") d >>= λ n_request. (text_in (codes "unread") d >>= fault_named >>= λ n_unread. (Ok (form.Unread n_line n_request n_unread n_version)))))) it e0 in
      let f_version = bound (long_in (codes "version") d) (λ n_version. (text_in (codes "request") d >>= λ n_request. (text_in (codes "unread") d >>= fault_named >>= λ n_unread. (Ok (form.Unread f_line.0 n_request n_unread n_version))))) it f_line.2 in
      let f_request = bound (text_in (codes "request") d) (λ n_request. (text_in (codes "unread") d >>= fault_named >>= λ n_unread. (Ok (form.Unread f_line.0 n_request n_unread f_version.0)))) it f_version.2 in
      let f_unread = bound (text_in (codes "unread") d >>= fault_named) (λ n_unread. (Ok (form.Unread f_line.0 f_request.0 n_unread f_version.0))) it f_request.2 in
      let t_request = text_in_is (codes "request") d x1 f_request.0 in_request f_request.1 in
      let named = via_text (codes "unread") d x2 fault_named f_unread.0 in_unread f_unread.1 in
      let fault = fault_is named.0 f_unread.0 named.2 in
      let t_unread : x2 ≡ string (fault_name f_unread.0) = named.1 ∙ ap string fault.called in
      subst (SaysLine policy d) (ok_is {F = FormFault} (form.Unread f_line.0 f_request.0 f_unread.0 f_version.0) it f_unread.2)
      (record {
        a = x0;
        b = x3;
        is = is
            ∙ (ap (λ x. object (member (codes "line") x0 (member (codes "request") x (member (codes "unread") x2 (member (codes "version") x3 no_members))))) t_request
            ∙ (ap (λ x. object (member (codes "line") x0 (member (codes "request") (string f_request.0) (member (codes "unread") x (member (codes "version") x3 no_members))))) t_unread
            ∙ (ap (λ o. object (member (codes "line") x0 (member (codes "request") (string f_request.0) (member (codes "unread") (string (fault_name f_unread.0)) (member (codes "version") x3 (word_member o)))))) (sym fault.wordless))));
        line_is = long_in_is (codes "line") d x0 f_line.0 in_line f_line.1;
        version_is = long_in_is (codes "version") d x3 f_version.0 in_version f_version.1;
      })

  unread_form : (x0 x1 x2 x3 : Data) → line_at policy (object (member (codes "line") x0 (member (codes "request") x1 (member (codes "unread") x2 (member (codes "version") x3 no_members))))) ≡ unread_from (object (member (codes "line") x0 (member (codes "request") x1 (member (codes "unread") x2 (member (codes "version") x3 no_members)))))
  unfolding form_of block_of other_of
  unread_form x0 x1 x2 x3 = refl

  pub unread_said : (d : Data) (line : ℕ) (request : List ℕ) (fault : ReadQueryFault) (version : ℕ) → SaysUnread d line request fault version → unsupported_in fault ≡ None → line_at policy d ≡ Ok (form.Unread line request fault version)
  unfolding unread_from
  unread_said d line request fault version h none =
      let is : d ≡ object (member (codes "line") h.a (member (codes "request") (string request) (member (codes "unread") (string (fault_name fault)) (member (codes "version") h.b no_members)))) = h.is ∙ ap (λ o. object (member (codes "line") h.a (member (codes "request") (string request) (member (codes "unread") (string (fault_name fault)) (member (codes "version") h.b (word_member o)))))) none in
      let in_line : get (codes "line") d ≡ Some h.a = ap (get (codes "line")) is in
      let in_request : get (codes "request") d ≡ Some (string request) = ap (get (codes "request")) is in
      let in_unread : get (codes "unread") d ≡ Some (string (fault_name fault)) = ap (get (codes "unread")) is in
      let in_version : get (codes "version") d ≡ Some h.b = ap (get (codes "version")) is in
      let r_line : long_in (codes "line") d ≡ Ok line = long_in_said (codes "line") d h.a line in_line h.line_is in
      let r_version : long_in (codes "version") d ≡ Ok version = long_in_said (codes "version") d h.b version in_version h.version_is in
      let r_request : text_in (codes "request") d ≡ Ok request = text_in_said (codes "request") d request in_request in
      let r_unread : (text_in (codes "unread") d >>= fault_named) ≡ Ok fault = ap (λ r. r >>= fault_named) (text_in_said (codes "unread") d (fault_name fault) in_unread) ∙ fault_said fault none in
      let reads : unread_from d ≡ Ok (form.Unread line request fault version) = rw (r_line, r_version, r_request, r_unread) refl in
      ap (line_at policy) is ∙ (unread_form h.a (string request) (string (fault_name fault)) h.b ∙ (ap (unread_from) (sym is) ∙ reads))

  -- ---- memory

  pub memory_there : (d x0 x1 : Data) (it : PrintedLine) → d ≡ object (member (codes "line") x0 (member (codes "memory") x1 no_members))
      → memory_from d ≡ Ok it → SaysLine policy d it
  unfolding memory_from
  memory_there d x0 x1 it is e0 =
      let in_line : get (codes "line") d ≡ Some x0 = ap (get (codes "line")) is in
      let in_memory : get (codes "memory") d ≡ Some x1 = ap (get (codes "memory")) is in
      let f_line = bound (long_in (codes "line") d) (λ n_line. (field (codes "memory") d >>= is_true >>= λ n_memory. (Ok (form.Memory n_line)))) it e0 in
      let f_memory = bound (field (codes "memory") d >>= is_true) (λ n_memory. (Ok (form.Memory f_line.0))) it f_line.2 in
      let t_memory = true_is x1 f_memory.0 (via (codes "memory") d x1 is_true f_memory.0 in_memory f_memory.1) in
      subst (SaysLine policy d) (ok_is {F = FormFault} (form.Memory f_line.0) it f_memory.2)
      (record {
        a = x0;
        is = is
            ∙ (ap (λ x. object (member (codes "line") x0 (member (codes "memory") x no_members))) t_memory);
        line_is = long_in_is (codes "line") d x0 f_line.0 in_line f_line.1;
      })

  memory_form : (x0 x1 : Data) → line_at policy (object (member (codes "line") x0 (member (codes "memory") x1 no_members))) ≡ memory_from (object (member (codes "line") x0 (member (codes "memory") x1 no_members)))
  unfolding form_of block_of other_of
  memory_form x0 x1 = refl

  pub memory_said : (d : Data) (line : ℕ) → SaysMemory d line → line_at policy d ≡ Ok (form.Memory line)
  unfolding memory_from
  memory_said d line h =
      let is = h.is in
      let in_line : get (codes "line") d ≡ Some h.a = ap (get (codes "line")) is in
      let in_memory : get (codes "memory") d ≡ Some (boolean true) = ap (get (codes "memory")) is in
      let r_line : long_in (codes "line") d ≡ Ok line = long_in_said (codes "line") d h.a line in_line h.line_is in
      let r_memory : (field (codes "memory") d >>= is_true) ≡ Ok tt = ap (λ r. r >>= is_true) (field_said (codes "memory") d (boolean true) in_memory) in
      let reads : memory_from d ≡ Ok (form.Memory line) = rw (r_line, r_memory) refl in
      ap (line_at policy) is ∙ (memory_form h.a (boolean true) ∙ (ap (memory_from) (sym is) ∙ reads))

  -- ---- summary

  pub summary_there : (d x0 x1 x2 x3 x4 x5 x6 : Data) (it : PrintedLine) → d ≡ object (member (codes "answered") x0 (member (codes "blocked") x1 (member (codes "lines") x2 (member (codes "memory") x3 (member (codes "requests") x4 (member (codes "rows") x5 (member (codes "unread") x6 no_members)))))))
      → summary_from d ≡ Ok it → SaysLine policy d it
  unfolding summary_from
  summary_there d x0 x1 x2 x3 x4 x5 x6 it is e0 =
      let in_answered : get (codes "answered") d ≡ Some x0 = ap (get (codes "answered")) is in
      let in_blocked : get (codes "blocked") d ≡ Some x1 = ap (get (codes "blocked")) is in
      let in_lines : get (codes "lines") d ≡ Some x2 = ap (get (codes "lines")) is in
      let in_memory : get (codes "memory") d ≡ Some x3 = ap (get (codes "memory")) is in
      let in_requests : get (codes "requests") d ≡ Some x4 = ap (get (codes "requests")) is in
      let in_rows : get (codes "rows") d ≡ Some x5 = ap (get (codes "rows")) is in
      let in_unread : get (codes "unread") d ≡ Some x6 = ap (get (codes "unread")) is in
      let f_answered = bound (long_in (codes "answered") d) (λ n_answered. (long_in (codes "blocked") d >>= λ n_blocked. (long_in (codes "lines") d >>= λ n_lines. (long_in (codes "memory") d >>= λ n_memory. (long_in (codes "requests") d >>= λ n_requests. (long_in (codes "rows") d >>= λ n_rows. (long_in (codes "unread") d >>= λ n_unread. (Ok (summary_with n_answered n_blocked n_lines n_memory n_requests n_rows n_unread))))))))) it e0 in
      let f_blocked = bound (long_in (codes "blocked") d) (λ n_blocked. (long_in (codes "lines") d >>= λ n_lines. (long_in (codes "memory") d >>= λ n_memory. (long_in (codes "requests") d >>= λ n_requests. (long_in (codes "rows") d >>= λ n_rows. (long_in (codes "unread") d >>= λ n_unread. (Ok (summary_with f_answered.0 n_blocked n_lines n_memory n_requests n_rows n_unread)))))))) it f_answered.2 in
      let f_lines = bound (long_in (codes "lines") d) (λ n_lines. (long_in (codes "memory") d >>= λ n_memory. (long_in (codes "requests") d >>= λ n_requests. (long_in (codes "rows") d >>= λ n_rows. (long_in (codes "unread") d >>= λ n_unread. (Ok (summary_with f_answered.0 f_blocked.0 n_lines n_memory n_requests n_rows n_unread))))))) it f_blocked.2 in
      let f_memory = bound (long_in (codes "memory") d) (λ n_memory. (long_in (codes "requests") d >>= λ n_requests. (long_in (codes "rows") d >>= λ n_rows. (long_in (codes "unread") d >>= λ n_unread. (Ok (summary_with f_answered.0 f_blocked.0 f_lines.0 n_memory n_requests n_rows n_unread)))))) it f_lines.2 in
      let f_requests = bound (long_in (codes "requests") d) (λ n_requests. (long_in (codes "rows") d >>= λ n_rows. (long_in (codes "unread") d >>= λ n_unread. (Ok (summary_with f_answered.0 f_blocked.0 f_lines.0 f_memory.0 n_requests n_rows n_unread))))) it f_memory.2 in
      let f_rows = bound (long_in (codes "rows") d) (λ n_rows. (long_in (codes "unread") d >>= λ n_unread. (Ok (summary_with f_answered.0 f_blocked.0 f_lines.0 f_memory.0 f_requests.0 n_rows n_unread)))) it f_requests.2 in
      let f_unread = bound (long_in (codes "unread") d) (λ n_unread. (Ok (summary_with f_answered.0 f_blocked.0 f_lines.0 f_memory.0 f_requests.0 f_rows.0 n_unread))) it f_rows.2 in
      subst (SaysLine policy d) (ok_is {F = FormFault} (summary_with f_answered.0 f_blocked.0 f_lines.0 f_memory.0 f_requests.0 f_rows.0 f_unread.0) it f_unread.2)
      (record {
        a = x0;
        b = x1;
        c = x2;
        e = x3;
        f = x4;
        g = x5;
        h = x6;
        is = is;
        answered_is = long_in_is (codes "answered") d x0 f_answered.0 in_answered f_answered.1;
        blocked_is = long_in_is (codes "blocked") d x1 f_blocked.0 in_blocked f_blocked.1;
        lines_are = long_in_is (codes "lines") d x2 f_lines.0 in_lines f_lines.1;
        memory_is = long_in_is (codes "memory") d x3 f_memory.0 in_memory f_memory.1;
        requests_are = long_in_is (codes "requests") d x4 f_requests.0 in_requests f_requests.1;
        rows_are = long_in_is (codes "rows") d x5 f_rows.0 in_rows f_rows.1;
        unread_is = long_in_is (codes "unread") d x6 f_unread.0 in_unread f_unread.1;
      })

  summary_form : (x0 x1 x2 x3 x4 x5 x6 : Data) → line_at policy (object (member (codes "answered") x0 (member (codes "blocked") x1 (member (codes "lines") x2 (member (codes "memory") x3 (member (codes "requests") x4 (member (codes "rows") x5 (member (codes "unread") x6 no_members)))))))) ≡ summary_from (object (member (codes "answered") x0 (member (codes "blocked") x1 (member (codes "lines") x2 (member (codes "memory") x3 (member (codes "requests") x4 (member (codes "rows") x5 (member (codes "unread") x6 no_members))))))))
  unfolding form_of block_of other_of
  summary_form x0 x1 x2 x3 x4 x5 x6 = refl

  pub summary_said : (d : Data) (it : Summary) → SaysSummary d it → line_at policy d ≡ Ok (form.Summary it)
  unfolding summary_from
  summary_said d it h =
      let is = h.is in
      let in_answered : get (codes "answered") d ≡ Some h.a = ap (get (codes "answered")) is in
      let in_blocked : get (codes "blocked") d ≡ Some h.b = ap (get (codes "blocked")) is in
      let in_lines : get (codes "lines") d ≡ Some h.c = ap (get (codes "lines")) is in
      let in_memory : get (codes "memory") d ≡ Some h.e = ap (get (codes "memory")) is in
      let in_requests : get (codes "requests") d ≡ Some h.f = ap (get (codes "requests")) is in
      let in_rows : get (codes "rows") d ≡ Some h.g = ap (get (codes "rows")) is in
      let in_unread : get (codes "unread") d ≡ Some h.h = ap (get (codes "unread")) is in
      let r_answered : long_in (codes "answered") d ≡ Ok it.answered = long_in_said (codes "answered") d h.a it.answered in_answered h.answered_is in
      let r_blocked : long_in (codes "blocked") d ≡ Ok it.blocked = long_in_said (codes "blocked") d h.b it.blocked in_blocked h.blocked_is in
      let r_lines : long_in (codes "lines") d ≡ Ok it.lines = long_in_said (codes "lines") d h.c it.lines in_lines h.lines_are in
      let r_memory : long_in (codes "memory") d ≡ Ok it.memory = long_in_said (codes "memory") d h.e it.memory in_memory h.memory_is in
      let r_requests : long_in (codes "requests") d ≡ Ok it.requests = long_in_said (codes "requests") d h.f it.requests in_requests h.requests_are in
      let r_rows : long_in (codes "rows") d ≡ Ok it.rows = long_in_said (codes "rows") d h.g it.rows in_rows h.rows_are in
      let r_unread : long_in (codes "unread") d ≡ Ok it.unread = long_in_said (codes "unread") d h.h it.unread in_unread h.unread_is in
      let reads : summary_from d ≡ Ok (form.Summary it) = rw (r_answered, r_blocked, r_lines, r_memory, r_requests, r_rows, r_unread) refl in
      ap (line_at policy) is ∙ (summary_form h.a h.b h.c h.e h.f h.g h.h ∙ (ap (summary_from) (sym is) ∙ reads))

  -- ---- answer

  pub answer_there : (d x0 x1 x2 x3 x4 x5 : Data) (it : PrintedLine) → d ≡ object (member (codes "by") x0 (member (codes "line") x1 (member (codes "proof") x2 (member (codes "request") x3 (member (codes "rows") x4 (member (codes "version") x5 no_members))))))
      → answer_from policy.params d ≡ Ok it → SaysLine policy d it
  unfolding answer_from
  answer_there d x0 x1 x2 x3 x4 x5 it is e0 =
      let in_by : get (codes "by") d ≡ Some x0 = ap (get (codes "by")) is in
      let in_line : get (codes "line") d ≡ Some x1 = ap (get (codes "line")) is in
      let in_proof : get (codes "proof") d ≡ Some x2 = ap (get (codes "proof")) is in
      let in_request : get (codes "request") d ≡ Some x3 = ap (get (codes "request")) is in
      let in_rows : get (codes "rows") d ≡ Some x4 = ap (get (codes "rows")) is in
      let in_version : get (codes "version") d ≡ Some x5 = ap (get (codes "version")) is in
      let f_line = bound (long_in (codes "line") d) (λ n_line. (long_in (codes "version") d >>= λ n_version. (text_in (codes "request") d >>= λ n_request. (field (codes "rows") d >>= rows_of >>= λ n_rows. (evidence_in policy.params d >>= λ n_by. (Ok (form.Answer n_by n_line n_request n_rows n_version))))))) it e0 in
      let f_version = bound (long_in (codes "version") d) (λ n_version. (text_in (codes "request") d >>= λ n_request. (field (codes "rows") d >>= rows_of >>= λ n_rows. (evidence_in policy.params d >>= λ n_by. (Ok (form.Answer n_by f_line.0 n_request n_rows n_version)))))) it f_line.2 in
      let f_request = bound (text_in (codes "request") d) (λ n_request. (field (codes "rows") d >>= rows_of >>= λ n_rows. (evidence_in policy.params d >>= λ n_by. (Ok (form.Answer n_by f_line.0 n_request n_rows f_version.0))))) it f_version.2 in
      let f_rows = bound (field (codes "rows") d >>= rows_of) (λ n_rows. (evidence_in policy.params d >>= λ n_by. (Ok (form.Answer n_by f_line.0 f_request.0 n_rows f_version.0)))) it f_request.2 in
      let f_by = bound (evidence_in policy.params d) (λ n_by. (Ok (form.Answer n_by f_line.0 f_request.0 f_rows.0 f_version.0))) it f_rows.2 in
      let ev = evidence_is policy d x0 x2 f_by.0 in_by in_proof f_by.1 in
      let t_request = text_in_is (codes "request") d x3 f_request.0 in_request f_request.1 in
      subst (SaysLine policy d) (ok_is {F = FormFault} (form.Answer f_by.0 f_line.0 f_request.0 f_rows.0 f_version.0) it f_by.2)
      (record {
        a = x1;
        b = x2;
        c = x4;
        e = x5;
        is = is
            ∙ (ap (λ x. object (member (codes "by") x (member (codes "line") x1 (member (codes "proof") x2 (member (codes "request") x3 (member (codes "rows") x4 (member (codes "version") x5 no_members))))))) ev.called
            ∙ (ap (λ x. object (member (codes "by") (string (by_name (by_of f_by.0))) (member (codes "line") x1 (member (codes "proof") x2 (member (codes "request") x (member (codes "rows") x4 (member (codes "version") x5 no_members))))))) t_request));
        line_is = long_in_is (codes "line") d x1 f_line.0 in_line f_line.1;
        evidence_is = ev.says;
        rows_are = rows_are x4 f_rows.0 (via (codes "rows") d x4 rows_of f_rows.0 in_rows f_rows.1);
        version_is = long_in_is (codes "version") d x5 f_version.0 in_version f_version.1;
      })

  answer_form : (x0 x1 x2 x3 x4 x5 : Data) → line_at policy (object (member (codes "by") x0 (member (codes "line") x1 (member (codes "proof") x2 (member (codes "request") x3 (member (codes "rows") x4 (member (codes "version") x5 no_members))))))) ≡ answer_from policy.params (object (member (codes "by") x0 (member (codes "line") x1 (member (codes "proof") x2 (member (codes "request") x3 (member (codes "rows") x4 (member (codes "version") x5 no_members)))))))
  unfolding form_of block_of other_of
  answer_form x0 x1 x2 x3 x4 x5 = refl

  pub answer_said : (d : Data) (it : Evidence) (line : ℕ) (request : List ℕ) (rows : List (List Value)) (version : ℕ) → SaysAnswer policy d it line request rows version → line_at policy d ≡ Ok (form.Answer it line request rows version)
  unfolding answer_from
  answer_said d it line request rows version h =
      let is = h.is in
      let in_by : get (codes "by") d ≡ Some (string (by_name (by_of it))) = ap (get (codes "by")) is in
      let in_line : get (codes "line") d ≡ Some h.a = ap (get (codes "line")) is in
      let in_proof : get (codes "proof") d ≡ Some h.b = ap (get (codes "proof")) is in
      let in_request : get (codes "request") d ≡ Some (string request) = ap (get (codes "request")) is in
      let in_rows : get (codes "rows") d ≡ Some h.c = ap (get (codes "rows")) is in
      let in_version : get (codes "version") d ≡ Some h.e = ap (get (codes "version")) is in
      let r_line : long_in (codes "line") d ≡ Ok line = long_in_said (codes "line") d h.a line in_line h.line_is in
      let r_version : long_in (codes "version") d ≡ Ok version = long_in_said (codes "version") d h.e version in_version h.version_is in
      let r_request : text_in (codes "request") d ≡ Ok request = text_in_said (codes "request") d request in_request in
      let r_rows : (field (codes "rows") d >>= rows_of) ≡ Ok rows = ap (λ r. r >>= rows_of) (field_said (codes "rows") d h.c in_rows) ∙ rows_said h.c rows h.rows_are in
      let r_by : evidence_in policy.params d ≡ Ok it = evidence_said policy d h.b it in_by in_proof h.evidence_is in
      let reads : answer_from policy.params d ≡ Ok (form.Answer it line request rows version) = rw (r_line, r_version, r_request, r_rows, r_by) refl in
      ap (line_at policy) is ∙ (answer_form (string (by_name (by_of it))) h.a h.b (string request) h.c h.e ∙ (ap (answer_from policy.params) (sym is) ∙ reads))
