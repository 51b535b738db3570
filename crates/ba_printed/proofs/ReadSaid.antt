-- Reads of cache keys are read exactly where they are said: each form by itself.
use Rattle.std.proofs.Common.{◌≡◌, ◌≢◌, ◌∙◌, ℕ, List, [], ◌∷◌, Bool, true, false, cond, length, map, Option, Some, None, Result, Ok, Err, refl, sym, ap, subst, codes}
use Rattle.std.specs.Prelude.{◌==◌}
use Rattle.std.proofs.lemmas.Bool.{eqb-true, ne_eqb}
use Rattle.std.proofs.lemmas.Bool.Decides.{Decides-eqb}
use Rattle.serde_json.specs.Data.{Data, Members, string, object, no_members, member}
use Rattle.serde_json.specs.Find.{get}
use Rattle.ba_model.specs.Readings.{◌>>=◌, each}
use Rattle.ba_model.specs.declared.policy.Policy.{Policy}
use Rattle.ba_proof.proofs.EntryLemmas.{zip_length}
use Rattle.ba_proof.proofs.FitLemmas.{bound}
use Rattle.ba_proof.specs.Says.{SaysLong}
use Rattle.ba_proof.specs.Written.{list_json}
use Rattle.ba_refute.specs.declared.clause.Clause.{Clause}
use Rattle.ba_refute.specs.declared.clause.Counterexample.{Counterexample}
use Rattle.ba_wire.specs.Printed.{clause_name}
use Rattle.ba_printed.proofs.FieldLemmas.{field_said, list_of_is, list_of_said, long_in_is, long_in_said, ok_is, text_in_is, text_in_said, word_in_is, word_in_said}
use Rattle.ba_printed.proofs.FormSaid.{via, via_text}
use Rattle.ba_printed.proofs.GroundSaid.{bys_length, called, called_length, grounds_are, grounds_said, names_are, names_said, proofs_are, proofs_said}
use Rattle.ba_printed.proofs.NameSaid.{clause_is, clause_said}
use Rattle.ba_printed.proofs.RowSaid.{pair_is, pair_said}
use Rattle.ba_printed.specs.Reading.{block_of, by_at, clause_named, even_from, form_of, grounds_of, line_at, other_of, pair_of, read_from, read_of, read_with, refuted_read_from, spent_read_from, stuck_read_from, uneven_from, unnamed_of}
use Rattle.ba_printed.specs.Says.{SaysEvidence, SaysLine, SaysRead, SaysRefutedRead, SaysSpentRead, SaysStuckRead, SaysUneven, by_of}
use Rattle.ba_printed.specs.Shapes.{field, list_of, long_in, text_in, word_in}
use Rattle.ba_printed.specs.declared.line.Evidence.{Evidence}
use Rattle.ba_printed.specs.declared.line.PrintedBlock.TheVariants as blocked
use Rattle.ba_printed.specs.declared.line.PrintedLine.{PrintedLine}
use Rattle.ba_printed.specs.declared.line.PrintedLine.TheVariants as form
use Rattle.ba_printed.specs.declared.shapes.FormFault.{FormFault}

abbrev read_object : Data → Data → Data → Data → Data → Data → Data
read_object x0 x1 x2 x3 x4 x5 = object (member (codes "by") x0 (member (codes "key") x1 (member (codes "line") x2 (member (codes "proof") x3 (member (codes "read") x4 (member (codes "version") x5 no_members))))))

-- either way of a test
either : {A F : Type 0} (G : Type 0) (b : Bool) (x y : Result A F) (r : A) → cond b x y ≡ Ok r → (b ≡ true → x ≡ Ok r → G) → (b ≡ false → y ≡ Ok r → G) → G
either G true x y r e f g = f refl e
either G false x y r e f g = g refl e

module _ (policy : Policy) where
  -- ---- allowed

  with_is : (names proofs : List Data) (key : List ℕ) (line : ℕ) (request : List ℕ) (version : ℕ)
      → read_with policy.params names proofs key line request version
      ≡ cond (length names == length proofs) (even_from policy.params names proofs key line request version) (uneven_from policy.params names proofs)
  unfolding read_with
  with_is names proofs key line request version = refl

  module _ (d x2 x5 : Data) (names proofs : List Data) (key : List ℕ) (line : ℕ) (request : List ℕ) (version : ℕ) (it : PrintedLine)
      (is : d ≡ read_object (list_json names) (string key) x2 (list_json proofs) (string request) x5) (line_is : SaysLong x2 line) (version_is : SaysLong x5 version) where
    even_is : length names ≡ length proofs → even_from policy.params names proofs key line request version ≡ Ok it → SaysLine policy d it
    unfolding even_from
    even_is same e =
        let its = bound (grounds_of policy.params names proofs) (λ its. Ok (form.Read its key line request version)) it e in
        let grounds = grounds_are policy names proofs its.0 same its.1 in
        subst (SaysLine policy d) (ok_is {F = FormFault} (form.Read its.0 key line request version) it its.2)
        (record {
          a = x2;
          b = list_json proofs;
          c = x5;
          is = is ∙ ap (λ ds. read_object (list_json ds) (string key) x2 (list_json proofs) (string request) x5) grounds.called_so;
          line_is = line_is;
          evidence_is = record { ds = proofs; is = refl; said = grounds.say };
          version_is = version_is;
        })

    uneven_is : (length names == length proofs) ≡ false → uneven_from policy.params names proofs ≡ Ok it → SaysLine policy d it
    unfolding uneven_from
    uneven_is other e =
        let bys = bound (each by_at names) (λ bys. (each (unnamed_of policy.params) proofs >>= λ its. Ok form.UnevenRead)) it e in
        let its = bound (each (unnamed_of policy.params) proofs) (λ its. Ok form.UnevenRead) it bys.2 in
        let named = names_are names bys.0 bys.1 in
        let say = proofs_are policy proofs its.0 its.1 in
        let wide : length names ≡ length bys.0 = ap length named ∙ called_length bys.0 in
        let deep : length proofs ≡ length its.0 = zip_length (SaysEvidence policy) proofs its.0 say in
        subst (SaysLine policy d) (ok_is {F = FormFault} form.UnevenRead it its.2)
        (record {
          bys = bys.0;
          its = its.0;
          key = key;
          line = line;
          request = request;
          version = version;
          a = x2;
          b = list_json proofs;
          c = x5;
          is = is ∙ ap (λ ds. read_object (list_json ds) (string key) x2 (list_json proofs) (string request) x5) named;
          uneven = λ same. cc (sym other ∙ (Decides-eqb (length names) (length proofs)).1 (wide ∙ (same ∙ sym deep)));
          line_is = line_is;
          evidence_is = record { ds = proofs; is = refl; said = say };
          version_is = version_is;
        })

    with_said : read_with policy.params names proofs key line request version ≡ Ok it → SaysLine policy d it
    with_said e =
        either (SaysLine policy d it) (length names == length proofs) (even_from policy.params names proofs key line request version) (uneven_from policy.params names proofs) it
        (sym (with_is names proofs key line request version) ∙ e)
        (λ b h. even_is (eqb-true (length names) (length proofs) b) h)
        (λ b h. uneven_is b h)

  pub read_there : (d x0 x1 x2 x3 x4 x5 : Data) (it : PrintedLine) → d ≡ read_object x0 x1 x2 x3 x4 x5 → read_from policy.params d ≡ Ok it → SaysLine policy d it
  unfolding read_from
  read_there d x0 x1 x2 x3 x4 x5 it is e0 =
      let in_by : get (codes "by") d ≡ Some x0 = ap (get (codes "by")) is in
      let in_key : get (codes "key") d ≡ Some x1 = ap (get (codes "key")) is in
      let in_line : get (codes "line") d ≡ Some x2 = ap (get (codes "line")) is in
      let in_proof : get (codes "proof") d ≡ Some x3 = ap (get (codes "proof")) is in
      let in_read : get (codes "read") d ≡ Some x4 = ap (get (codes "read")) is in
      let in_version : get (codes "version") d ≡ Some x5 = ap (get (codes "version")) is in
      let f_line = bound (long_in (codes "line") d) (λ n_line. (long_in (codes "version") d >>= λ n_version. (text_in (codes "key") d >>= λ n_key. (text_in (codes "read") d >>= λ n_read. (field (codes "by") d >>= list_of >>= λ n_by. (field (codes "proof") d >>= list_of >>= λ n_proof. (read_with policy.params n_by n_proof n_key n_line n_read n_version))))))) it e0 in
      let f_version = bound (long_in (codes "version") d) (λ n_version. (text_in (codes "key") d >>= λ n_key. (text_in (codes "read") d >>= λ n_read. (field (codes "by") d >>= list_of >>= λ n_by. (field (codes "proof") d >>= list_of >>= λ n_proof. (read_with policy.params n_by n_proof n_key f_line.0 n_read n_version)))))) it f_line.2 in
      let f_key = bound (text_in (codes "key") d) (λ n_key. (text_in (codes "read") d >>= λ n_read. (field (codes "by") d >>= list_of >>= λ n_by. (field (codes "proof") d >>= list_of >>= λ n_proof. (read_with policy.params n_by n_proof n_key f_line.0 n_read f_version.0))))) it f_version.2 in
      let f_read = bound (text_in (codes "read") d) (λ n_read. (field (codes "by") d >>= list_of >>= λ n_by. (field (codes "proof") d >>= list_of >>= λ n_proof. (read_with policy.params n_by n_proof f_key.0 f_line.0 n_read f_version.0)))) it f_key.2 in
      let f_by = bound (field (codes "by") d >>= list_of) (λ n_by. (field (codes "proof") d >>= list_of >>= λ n_proof. (read_with policy.params n_by n_proof f_key.0 f_line.0 f_read.0 f_version.0))) it f_read.2 in
      let f_proof = bound (field (codes "proof") d >>= list_of) (λ n_proof. (read_with policy.params f_by.0 n_proof f_key.0 f_line.0 f_read.0 f_version.0)) it f_by.2 in
      let t_by : x0 ≡ list_json f_by.0 = list_of_is x0 f_by.0 (via (codes "by") d x0 list_of f_by.0 in_by f_by.1) in
      let t_key = text_in_is (codes "key") d x1 f_key.0 in_key f_key.1 in
      let t_proof : x3 ≡ list_json f_proof.0 = list_of_is x3 f_proof.0 (via (codes "proof") d x3 list_of f_proof.0 in_proof f_proof.1) in
      let t_read = text_in_is (codes "read") d x4 f_read.0 in_read f_read.1 in
      with_said d x2 x5 f_by.0 f_proof.0 f_key.0 f_line.0 f_read.0 f_version.0 it
      (is ∙ (ap (λ x. read_object x x1 x2 x3 x4 x5) t_by
      ∙ (ap (λ x. read_object (list_json f_by.0) x x2 x3 x4 x5) t_key
      ∙ (ap (λ x. read_object (list_json f_by.0) (string f_key.0) x2 x x4 x5) t_proof
      ∙ ap (λ x. read_object (list_json f_by.0) (string f_key.0) x2 (list_json f_proof.0) x x5) t_read))))
      (long_in_is (codes "line") d x2 f_line.0 in_line f_line.1)
      (long_in_is (codes "version") d x5 f_version.0 in_version f_version.1)
      f_proof.2

  read_form : (x0 x1 x2 x3 x4 x5 : Data) → line_at policy (read_object x0 x1 x2 x3 x4 x5) ≡ read_from policy.params (read_object x0 x1 x2 x3 x4 x5)
  unfolding form_of block_of other_of read_of
  read_form x0 x1 x2 x3 x4 x5 = refl

  -- such an object is read as its names and its proofs are
  read_by : (d x2 x3 x5 : Data) (names proofs : List Data) (key : List ℕ) (line : ℕ) (request : List ℕ) (version : ℕ) (it : PrintedLine)
      → d ≡ read_object (list_json names) (string key) x2 x3 (string request) x5 → x3 ≡ list_json proofs → SaysLong x2 line → SaysLong x5 version
      → read_with policy.params names proofs key line request version ≡ Ok it → line_at policy d ≡ Ok it
  unfolding read_from
  read_by d x2 x3 x5 names proofs key line request version it is listed line_is version_is e =
      let in_by : get (codes "by") d ≡ Some (list_json names) = ap (get (codes "by")) is in
      let in_key : get (codes "key") d ≡ Some (string key) = ap (get (codes "key")) is in
      let in_line : get (codes "line") d ≡ Some x2 = ap (get (codes "line")) is in
      let in_proof : get (codes "proof") d ≡ Some x3 = ap (get (codes "proof")) is in
      let in_read : get (codes "read") d ≡ Some (string request) = ap (get (codes "read")) is in
      let in_version : get (codes "version") d ≡ Some x5 = ap (get (codes "version")) is in
      let r_line : long_in (codes "line") d ≡ Ok line = long_in_said (codes "line") d x2 line in_line line_is in
      let r_version : long_in (codes "version") d ≡ Ok version = long_in_said (codes "version") d x5 version in_version version_is in
      let r_key : text_in (codes "key") d ≡ Ok key = text_in_said (codes "key") d key in_key in
      let r_read : text_in (codes "read") d ≡ Ok request = text_in_said (codes "read") d request in_read in
      let r_by : (field (codes "by") d >>= list_of) ≡ Ok names = ap (λ r. r >>= list_of) (field_said (codes "by") d (list_json names) in_by) ∙ list_of_said names in
      let r_proof : (field (codes "proof") d >>= list_of) ≡ Ok proofs = ap (λ r. r >>= list_of) (field_said (codes "proof") d x3 in_proof) ∙ (ap list_of listed ∙ list_of_said proofs) in
      let reads : read_from policy.params d ≡ Ok it = rw (r_line, r_version, r_key, r_read, r_by, r_proof) e in
      ap (line_at policy) is ∙ (read_form (list_json names) (string key) x2 x3 (string request) x5 ∙ (ap (read_from policy.params) (sym is) ∙ reads))

  pub read_said : (d : Data) (its : List Evidence) (key : List ℕ) (line : ℕ) (request : List ℕ) (version : ℕ) → SaysRead policy d its key line request version
      → line_at policy d ≡ Ok (form.Read its key line request version)
  unfolding even_from
  read_said d its key line request version h =
      let names : List Data = called (map by_of its) in
      let proofs : List Data = h.evidence_is.ds in
      let same : length names ≡ length proofs =
      called_length (map by_of its) ∙ (bys_length its ∙ sym (zip_length (SaysEvidence policy) proofs its h.evidence_is.said)) in
      let read : even_from policy.params names proofs key line request version ≡ Ok (form.Read its key line request version) =
      ap (λ r. r >>= λ found. Ok (form.Read found key line request version)) (grounds_said policy proofs its h.evidence_is.said) in
      read_by d h.a h.b h.c names proofs key line request version (form.Read its key line request version) h.is h.evidence_is.is h.line_is h.version_is
      (with_is names proofs key line request version
      ∙ (ap (λ b. cond b (even_from policy.params names proofs key line request version) (uneven_from policy.params names proofs)) ((Decides-eqb (length names) (length proofs)).1 same)
      ∙ read))

  pub uneven_said : (d : Data) → SaysUneven policy d → line_at policy d ≡ Ok form.UnevenRead
  unfolding uneven_from
  uneven_said d h =
      let names : List Data = called h.bys in
      let proofs : List Data = h.evidence_is.ds in
      let wide : length names ≡ length h.bys = called_length h.bys in
      let deep : length proofs ≡ length h.its = zip_length (SaysEvidence policy) proofs h.its h.evidence_is.said in
      let other : length names ≢ length proofs = λ same. h.uneven (sym wide ∙ (same ∙ deep)) in
      let found = proofs_said policy proofs h.its h.evidence_is.said in
      let read : uneven_from policy.params names proofs ≡ Ok form.UnevenRead = rw (names_said h.bys, found.1) refl in
      read_by d h.a h.b h.c names proofs h.key h.line h.request h.version form.UnevenRead h.is h.evidence_is.is h.line_is h.version_is
      (with_is names proofs h.key h.line h.request h.version
      ∙ (ap (λ b. cond b (even_from policy.params names proofs h.key h.line h.request h.version) (uneven_from policy.params names proofs)) (ne_eqb (length names) (length proofs) other)
      ∙ read))

  -- ---- refuted

  pub refuted_read_there : (d x0 x1 x2 x3 x4 x5 x6 : Data) (it : PrintedLine) → d ≡ object (member (codes "blocked") x0 (member (codes "key") x1 (member (codes "line") x2 (member (codes "pair") x3 (member (codes "query") x4 (member (codes "read") x5 (member (codes "version") x6 no_members)))))))
      → refuted_read_from policy.schema.tables d ≡ Ok it → SaysLine policy d it
  unfolding refuted_read_from
  refuted_read_there d x0 x1 x2 x3 x4 x5 x6 it is e0 =
      let in_blocked : get (codes "blocked") d ≡ Some x0 = ap (get (codes "blocked")) is in
      let in_key : get (codes "key") d ≡ Some x1 = ap (get (codes "key")) is in
      let in_line : get (codes "line") d ≡ Some x2 = ap (get (codes "line")) is in
      let in_pair : get (codes "pair") d ≡ Some x3 = ap (get (codes "pair")) is in
      let in_query : get (codes "query") d ≡ Some x4 = ap (get (codes "query")) is in
      let in_read : get (codes "read") d ≡ Some x5 = ap (get (codes "read")) is in
      let in_version : get (codes "version") d ≡ Some x6 = ap (get (codes "version")) is in
      let f_blocked = bound (word_in (codes "refuted") (codes "blocked") d) (λ n_blocked. (long_in (codes "line") d >>= λ n_line. (long_in (codes "version") d >>= λ n_version. (long_in (codes "query") d >>= λ n_query. (text_in (codes "key") d >>= λ n_key. (text_in (codes "read") d >>= λ n_read. (field (codes "pair") d >>= pair_of policy.schema.tables >>= λ n_pair. (Ok (form.ReadBlock (blocked.Refuted n_pair) n_key n_line n_query n_read n_version))))))))) it e0 in
      let f_line = bound (long_in (codes "line") d) (λ n_line. (long_in (codes "version") d >>= λ n_version. (long_in (codes "query") d >>= λ n_query. (text_in (codes "key") d >>= λ n_key. (text_in (codes "read") d >>= λ n_read. (field (codes "pair") d >>= pair_of policy.schema.tables >>= λ n_pair. (Ok (form.ReadBlock (blocked.Refuted n_pair) n_key n_line n_query n_read n_version)))))))) it f_blocked.2 in
      let f_version = bound (long_in (codes "version") d) (λ n_version. (long_in (codes "query") d >>= λ n_query. (text_in (codes "key") d >>= λ n_key. (text_in (codes "read") d >>= λ n_read. (field (codes "pair") d >>= pair_of policy.schema.tables >>= λ n_pair. (Ok (form.ReadBlock (blocked.Refuted n_pair) n_key f_line.0 n_query n_read n_version))))))) it f_line.2 in
      let f_query = bound (long_in (codes "query") d) (λ n_query. (text_in (codes "key") d >>= λ n_key. (text_in (codes "read") d >>= λ n_read. (field (codes "pair") d >>= pair_of policy.schema.tables >>= λ n_pair. (Ok (form.ReadBlock (blocked.Refuted n_pair) n_key f_line.0 n_query n_read f_version.0)))))) it f_version.2 in
      let f_key = bound (text_in (codes "key") d) (λ n_key. (text_in (codes "read") d >>= λ n_read. (field (codes "pair") d >>= pair_of policy.schema.tables >>= λ n_pair. (Ok (form.ReadBlock (blocked.Refuted n_pair) n_key f_line.0 f_query.0 n_read f_version.0))))) it f_query.2 in
      let f_read = bound (text_in (codes "read") d) (λ n_read. (field (codes "pair") d >>= pair_of policy.schema.tables >>= λ n_pair. (Ok (form.ReadBlock (blocked.Refuted n_pair) f_key.0 f_line.0 f_query.0 n_read f_version.0)))) it f_key.2 in
      let f_pair = bound (field (codes "pair") d >>= pair_of policy.schema.tables) (λ n_pair. (Ok (form.ReadBlock (blocked.Refuted n_pair) f_key.0 f_line.0 f_query.0 f_read.0 f_version.0))) it f_read.2 in
      let t_blocked = word_in_is (codes "refuted") (codes "blocked") d x0 f_blocked.0 in_blocked f_blocked.1 in
      let t_key = text_in_is (codes "key") d x1 f_key.0 in_key f_key.1 in
      let t_read = text_in_is (codes "read") d x5 f_read.0 in_read f_read.1 in
      subst (SaysLine policy d) (ok_is {F = FormFault} (form.ReadBlock (blocked.Refuted f_pair.0) f_key.0 f_line.0 f_query.0 f_read.0 f_version.0) it f_pair.2)
      (record {
        a = x2;
        b = x3;
        c = x4;
        e = x6;
        is = is
            ∙ (ap (λ x. object (member (codes "blocked") x (member (codes "key") x1 (member (codes "line") x2 (member (codes "pair") x3 (member (codes "query") x4 (member (codes "read") x5 (member (codes "version") x6 no_members)))))))) t_blocked
            ∙ (ap (λ x. object (member (codes "blocked") (string (codes "refuted")) (member (codes "key") x (member (codes "line") x2 (member (codes "pair") x3 (member (codes "query") x4 (member (codes "read") x5 (member (codes "version") x6 no_members)))))))) t_key
            ∙ (ap (λ x. object (member (codes "blocked") (string (codes "refuted")) (member (codes "key") (string f_key.0) (member (codes "line") x2 (member (codes "pair") x3 (member (codes "query") x4 (member (codes "read") x (member (codes "version") x6 no_members)))))))) t_read)));
        line_is = long_in_is (codes "line") d x2 f_line.0 in_line f_line.1;
        pair_is = pair_is policy.schema.tables x3 f_pair.0 (via (codes "pair") d x3 (pair_of policy.schema.tables) f_pair.0 in_pair f_pair.1);
        query_is = long_in_is (codes "query") d x4 f_query.0 in_query f_query.1;
        version_is = long_in_is (codes "version") d x6 f_version.0 in_version f_version.1;
      })

  refuted_read_form : (x0 x1 x2 x3 x4 x5 x6 : Data) → line_at policy (object (member (codes "blocked") x0 (member (codes "key") x1 (member (codes "line") x2 (member (codes "pair") x3 (member (codes "query") x4 (member (codes "read") x5 (member (codes "version") x6 no_members)))))))) ≡ refuted_read_from policy.schema.tables (object (member (codes "blocked") x0 (member (codes "key") x1 (member (codes "line") x2 (member (codes "pair") x3 (member (codes "query") x4 (member (codes "read") x5 (member (codes "version") x6 no_members))))))))
  unfolding form_of block_of other_of read_of
  refuted_read_form x0 x1 x2 x3 x4 x5 x6 = refl

  pub refuted_read_said : (d : Data) (pair : Counterexample) (key : List ℕ) (line query : ℕ) (request : List ℕ) (version : ℕ) → SaysRefutedRead policy d pair key line query request version → line_at policy d ≡ Ok (form.ReadBlock (blocked.Refuted pair) key line query request version)
  unfolding refuted_read_from
  refuted_read_said d pair key line query request version h =
      let is = h.is in
      let in_blocked : get (codes "blocked") d ≡ Some (string (codes "refuted")) = ap (get (codes "blocked")) is in
      let in_key : get (codes "key") d ≡ Some (string key) = ap (get (codes "key")) is in
      let in_line : get (codes "line") d ≡ Some h.a = ap (get (codes "line")) is in
      let in_pair : get (codes "pair") d ≡ Some h.b = ap (get (codes "pair")) is in
      let in_query : get (codes "query") d ≡ Some h.c = ap (get (codes "query")) is in
      let in_read : get (codes "read") d ≡ Some (string request) = ap (get (codes "read")) is in
      let in_version : get (codes "version") d ≡ Some h.e = ap (get (codes "version")) is in
      let r_blocked : word_in (codes "refuted") (codes "blocked") d ≡ Ok tt = word_in_said (codes "refuted") (codes "blocked") d in_blocked in
      let r_line : long_in (codes "line") d ≡ Ok line = long_in_said (codes "line") d h.a line in_line h.line_is in
      let r_version : long_in (codes "version") d ≡ Ok version = long_in_said (codes "version") d h.e version in_version h.version_is in
      let r_query : long_in (codes "query") d ≡ Ok query = long_in_said (codes "query") d h.c query in_query h.query_is in
      let r_key : text_in (codes "key") d ≡ Ok key = text_in_said (codes "key") d key in_key in
      let r_read : text_in (codes "read") d ≡ Ok request = text_in_said (codes "read") d request in_read in
      let r_pair : (field (codes "pair") d >>= pair_of policy.schema.tables) ≡ Ok pair = ap (λ r. r >>= pair_of policy.schema.tables) (field_said (codes "pair") d h.b in_pair) ∙ pair_said policy.schema.tables h.b pair h.pair_is in
      let reads : refuted_read_from policy.schema.tables d ≡ Ok (form.ReadBlock (blocked.Refuted pair) key line query request version) = rw (r_blocked, r_line, r_version, r_query, r_key, r_read, r_pair) refl in
      ap (line_at policy) is ∙ (refuted_read_form (string (codes "refuted")) (string key) h.a h.b h.c (string request) h.e ∙ (ap (refuted_read_from policy.schema.tables) (sym is) ∙ reads))

  -- ---- spent

  pub spent_read_there : (d x0 x1 x2 x3 x4 x5 x6 : Data) (it : PrintedLine) → d ≡ object (member (codes "blocked") x0 (member (codes "key") x1 (member (codes "line") x2 (member (codes "query") x3 (member (codes "read") x4 (member (codes "steps") x5 (member (codes "version") x6 no_members)))))))
      → spent_read_from d ≡ Ok it → SaysLine policy d it
  unfolding spent_read_from
  spent_read_there d x0 x1 x2 x3 x4 x5 x6 it is e0 =
      let in_blocked : get (codes "blocked") d ≡ Some x0 = ap (get (codes "blocked")) is in
      let in_key : get (codes "key") d ≡ Some x1 = ap (get (codes "key")) is in
      let in_line : get (codes "line") d ≡ Some x2 = ap (get (codes "line")) is in
      let in_query : get (codes "query") d ≡ Some x3 = ap (get (codes "query")) is in
      let in_read : get (codes "read") d ≡ Some x4 = ap (get (codes "read")) is in
      let in_steps : get (codes "steps") d ≡ Some x5 = ap (get (codes "steps")) is in
      let in_version : get (codes "version") d ≡ Some x6 = ap (get (codes "version")) is in
      let f_blocked = bound (word_in (codes "spent") (codes "blocked") d) (λ n_blocked. (long_in (codes "line") d >>= λ n_line. (long_in (codes "version") d >>= λ n_version. (long_in (codes "query") d >>= λ n_query. (long_in (codes "steps") d >>= λ n_steps. (text_in (codes "key") d >>= λ n_key. (text_in (codes "read") d >>= λ n_read. (Ok (form.ReadBlock (blocked.Spent n_steps) n_key n_line n_query n_read n_version))))))))) it e0 in
      let f_line = bound (long_in (codes "line") d) (λ n_line. (long_in (codes "version") d >>= λ n_version. (long_in (codes "query") d >>= λ n_query. (long_in (codes "steps") d >>= λ n_steps. (text_in (codes "key") d >>= λ n_key. (text_in (codes "read") d >>= λ n_read. (Ok (form.ReadBlock (blocked.Spent n_steps) n_key n_line n_query n_read n_version)))))))) it f_blocked.2 in
      let f_version = bound (long_in (codes "version") d) (λ n_version. (long_in (codes "query") d >>= λ n_query. (long_in (codes "steps") d >>= λ n_steps. (text_in (codes "key") d >>= λ n_key. (text_in (codes "read") d >>= λ n_read. (Ok (form.ReadBlock (blocked.Spent n_steps) n_key f_line.0 n_query n_read n_version))))))) it f_line.2 in
      let f_query = bound (long_in (codes "query") d) (λ n_query. (long_in (codes "steps") d >>= λ n_steps. (text_in (codes "key") d >>= λ n_key. (text_in (codes "read") d >>= λ n_read. (Ok (form.ReadBlock (blocked.Spent n_steps) n_key f_line.0 n_query n_read f_version.0)))))) it f_version.2 in
      let f_steps = bound (long_in (codes "steps") d) (λ n_steps. (text_in (codes "key") d >>= λ n_key. (text_in (codes "read") d >>= λ n_read. (Ok (form.ReadBlock (blocked.Spent n_steps) n_key f_line.0 f_query.0 n_read f_version.0))))) it f_query.2 in
      let f_key = bound (text_in (codes "key") d) (λ n_key. (text_in (codes "read") d >>= λ n_read. (Ok (form.ReadBlock (blocked.Spent f_steps.0) n_key f_line.0 f_query.0 n_read f_version.0)))) it f_steps.2 in
      let f_read = bound (text_in (codes "read") d) (λ n_read. (Ok (form.ReadBlock (blocked.Spent f_steps.0) f_key.0 f_line.0 f_query.0 n_read f_version.0))) it f_key.2 in
      let t_blocked = word_in_is (codes "spent") (codes "blocked") d x0 f_blocked.0 in_blocked f_blocked.1 in
      let t_key = text_in_is (codes "key") d x1 f_key.0 in_key f_key.1 in
      let t_read = text_in_is (codes "read") d x4 f_read.0 in_read f_read.1 in
      subst (SaysLine policy d) (ok_is {F = FormFault} (form.ReadBlock (blocked.Spent f_steps.0) f_key.0 f_line.0 f_query.0 f_read.0 f_version.0) it f_read.2)
      (record {
        a = x2;
        b = x3;
        c = x5;
        e = x6;
        is = is
            ∙ (ap (λ x. object (member (codes "blocked") x (member (codes "key") x1 (member (codes "line") x2 (member (codes "query") x3 (member (codes "read") x4 (member (codes "steps") x5 (member (codes "version") x6 no_members)))))))) t_blocked
            ∙ (ap (λ x. object (member (codes "blocked") (string (codes "spent")) (member (codes "key") x (member (codes "line") x2 (member (codes "query") x3 (member (codes "read") x4 (member (codes "steps") x5 (member (codes "version") x6 no_members)))))))) t_key
            ∙ (ap (λ x. object (member (codes "blocked") (string (codes "spent")) (member (codes "key") (string f_key.0) (member (codes "line") x2 (member (codes "query") x3 (member (codes "read") x (member (codes "steps") x5 (member (codes "version") x6 no_members)))))))) t_read)));
        line_is = long_in_is (codes "line") d x2 f_line.0 in_line f_line.1;
        query_is = long_in_is (codes "query") d x3 f_query.0 in_query f_query.1;
        steps_are = long_in_is (codes "steps") d x5 f_steps.0 in_steps f_steps.1;
        version_is = long_in_is (codes "version") d x6 f_version.0 in_version f_version.1;
      })

  spent_read_form : (x0 x1 x2 x3 x4 x5 x6 : Data) → line_at policy (object (member (codes "blocked") x0 (member (codes "key") x1 (member (codes "line") x2 (member (codes "query") x3 (member (codes "read") x4 (member (codes "steps") x5 (member (codes "version") x6 no_members)))))))) ≡ spent_read_from (object (member (codes "blocked") x0 (member (codes "key") x1 (member (codes "line") x2 (member (codes "query") x3 (member (codes "read") x4 (member (codes "steps") x5 (member (codes "version") x6 no_members))))))))
  unfolding form_of block_of other_of read_of
  spent_read_form x0 x1 x2 x3 x4 x5 x6 = refl

  pub spent_read_said : (d : Data) (steps : ℕ) (key : List ℕ) (line query : ℕ) (request : List ℕ) (version : ℕ) → SaysSpentRead d steps key line query request version → line_at policy d ≡ Ok (form.ReadBlock (blocked.Spent steps) key line query request version)
  unfolding spent_read_from
  spent_read_said d steps key line query request version h =
      let is = h.is in
      let in_blocked : get (codes "blocked") d ≡ Some (string (codes "spent")) = ap (get (codes "blocked")) is in
      let in_key : get (codes "key") d ≡ Some (string key) = ap (get (codes "key")) is in
      let in_line : get (codes "line") d ≡ Some h.a = ap (get (codes "line")) is in
      let in_query : get (codes "query") d ≡ Some h.b = ap (get (codes "query")) is in
      let in_read : get (codes "read") d ≡ Some (string request) = ap (get (codes "read")) is in
      let in_steps : get (codes "steps") d ≡ Some h.c = ap (get (codes "steps")) is in
      let in_version : get (codes "version") d ≡ Some h.e = ap (get (codes "version")) is in
      let r_blocked : word_in (codes "spent") (codes "blocked") d ≡ Ok tt = word_in_said (codes "spent") (codes "blocked") d in_blocked in
      let r_line : long_in (codes "line") d ≡ Ok line = long_in_said (codes "line") d h.a line in_line h.line_is in
      let r_version : long_in (codes "version") d ≡ Ok version = long_in_said (codes "version") d h.e version in_version h.version_is in
      let r_query : long_in (codes "query") d ≡ Ok query = long_in_said (codes "query") d h.b query in_query h.query_is in
      let r_steps : long_in (codes "steps") d ≡ Ok steps = long_in_said (codes "steps") d h.c steps in_steps h.steps_are in
      let r_key : text_in (codes "key") d ≡ Ok key = text_in_said (codes "key") d key in_key in
      let r_read : text_in (codes "read") d ≡ Ok request = text_in_said (codes "read") d request in_read in
      let reads : spent_read_from d ≡ Ok (form.ReadBlock (blocked.Spent steps) key line query request version) = rw (r_blocked, r_line, r_version, r_query, r_steps, r_key, r_read) refl in
      ap (line_at policy) is ∙ (spent_read_form (string (codes "spent")) (string key) h.a h.b (string request) h.c h.e ∙ (ap (spent_read_from) (sym is) ∙ reads))

  -- ---- stuck

  pub stuck_read_there : (d x0 x1 x2 x3 x4 x5 x6 : Data) (it : PrintedLine) → d ≡ object (member (codes "blocked") x0 (member (codes "clause") x1 (member (codes "key") x2 (member (codes "line") x3 (member (codes "query") x4 (member (codes "read") x5 (member (codes "version") x6 no_members)))))))
      → stuck_read_from d ≡ Ok it → SaysLine policy d it
  unfolding stuck_read_from
  stuck_read_there d x0 x1 x2 x3 x4 x5 x6 it is e0 =
      let in_blocked : get (codes "blocked") d ≡ Some x0 = ap (get (codes "blocked")) is in
      let in_clause : get (codes "clause") d ≡ Some x1 = ap (get (codes "clause")) is in
      let in_key : get (codes "key") d ≡ Some x2 = ap (get (codes "key")) is in
      let in_line : get (codes "line") d ≡ Some x3 = ap (get (codes "line")) is in
      let in_query : get (codes "query") d ≡ Some x4 = ap (get (codes "query")) is in
      let in_read : get (codes "read") d ≡ Some x5 = ap (get (codes "read")) is in
      let in_version : get (codes "version") d ≡ Some x6 = ap (get (codes "version")) is in
      let f_blocked = bound (word_in (codes "stuck") (codes "blocked") d) (λ n_blocked. (long_in (codes "line") d >>= λ n_line. (long_in (codes "version") d >>= λ n_version. (long_in (codes "query") d >>= λ n_query. (text_in (codes "clause") d >>= clause_named >>= λ n_clause. (text_in (codes "key") d >>= λ n_key. (text_in (codes "read") d >>= λ n_read. (Ok (form.ReadBlock (blocked.Stuck n_clause) n_key n_line n_query n_read n_version))))))))) it e0 in
      let f_line = bound (long_in (codes "line") d) (λ n_line. (long_in (codes "version") d >>= λ n_version. (long_in (codes "query") d >>= λ n_query. (text_in (codes "clause") d >>= clause_named >>= λ n_clause. (text_in (codes "key") d >>= λ n_key. (text_in (codes "read") d >>= λ n_read. (Ok (form.ReadBlock (blocked.Stuck n_clause) n_key n_line n_query n_read n_version)))))))) it f_blocked.2 in
      let f_version = bound (long_in (codes "version") d) (λ n_version. (long_in (codes "query") d >>= λ n_query. (text_in (codes "clause") d >>= clause_named >>= λ n_clause. (text_in (codes "key") d >>= λ n_key. (text_in (codes "read") d >>= λ n_read. (Ok (form.ReadBlock (blocked.Stuck n_clause) n_key f_line.0 n_query n_read n_version))))))) it f_line.2 in
      let f_query = bound (long_in (codes "query") d) (λ n_query. (text_in (codes "clause") d >>= clause_named >>= λ n_clause. (text_in (codes "key") d >>= λ n_key. (text_in (codes "read") d >>= λ n_read. (Ok (form.ReadBlock (blocked.Stuck n_clause) n_key f_line.0 n_query n_read f_version.0)))))) it f_version.2 in
      let f_clause = bound (text_in (codes "clause") d >>= clause_named) (λ n_clause. (text_in (codes "key") d >>= λ n_key. (text_in (codes "read") d >>= λ n_read. (Ok (form.ReadBlock (blocked.Stuck n_clause) n_key f_line.0 f_query.0 n_read f_version.0))))) it f_query.2 in
      let f_key = bound (text_in (codes "key") d) (λ n_key. (text_in (codes "read") d >>= λ n_read. (Ok (form.ReadBlock (blocked.Stuck f_clause.0) n_key f_line.0 f_query.0 n_read f_version.0)))) it f_clause.2 in
      let f_read = bound (text_in (codes "read") d) (λ n_read. (Ok (form.ReadBlock (blocked.Stuck f_clause.0) f_key.0 f_line.0 f_query.0 n_read f_version.0))) it f_key.2 in
      let t_blocked = word_in_is (codes "stuck") (codes "blocked") d x0 f_blocked.0 in_blocked f_blocked.1 in
      let named = via_text (codes "clause") d x1 clause_named f_clause.0 in_clause f_clause.1 in
      let t_clause : x1 ≡ string (clause_name f_clause.0) = named.1 ∙ ap string (clause_is named.0 f_clause.0 named.2) in
      let t_key = text_in_is (codes "key") d x2 f_key.0 in_key f_key.1 in
      let t_read = text_in_is (codes "read") d x5 f_read.0 in_read f_read.1 in
      subst (SaysLine policy d) (ok_is {F = FormFault} (form.ReadBlock (blocked.Stuck f_clause.0) f_key.0 f_line.0 f_query.0 f_read.0 f_version.0) it f_read.2)
      (record {
        a = x3;
        b = x4;
        c = x6;
        is = is
            ∙ (ap (λ x. object (member (codes "blocked") x (member (codes "clause") x1 (member (codes "key") x2 (member (codes "line") x3 (member (codes "query") x4 (member (codes "read") x5 (member (codes "version") x6 no_members)))))))) t_blocked
            ∙ (ap (λ x. object (member (codes "blocked") (string (codes "stuck")) (member (codes "clause") x (member (codes "key") x2 (member (codes "line") x3 (member (codes "query") x4 (member (codes "read") x5 (member (codes "version") x6 no_members)))))))) t_clause
            ∙ (ap (λ x. object (member (codes "blocked") (string (codes "stuck")) (member (codes "clause") (string (clause_name f_clause.0)) (member (codes "key") x (member (codes "line") x3 (member (codes "query") x4 (member (codes "read") x5 (member (codes "version") x6 no_members)))))))) t_key
            ∙ (ap (λ x. object (member (codes "blocked") (string (codes "stuck")) (member (codes "clause") (string (clause_name f_clause.0)) (member (codes "key") (string f_key.0) (member (codes "line") x3 (member (codes "query") x4 (member (codes "read") x (member (codes "version") x6 no_members)))))))) t_read))));
        line_is = long_in_is (codes "line") d x3 f_line.0 in_line f_line.1;
        query_is = long_in_is (codes "query") d x4 f_query.0 in_query f_query.1;
        version_is = long_in_is (codes "version") d x6 f_version.0 in_version f_version.1;
      })

  stuck_read_form : (x0 x1 x2 x3 x4 x5 x6 : Data) → line_at policy (object (member (codes "blocked") x0 (member (codes "clause") x1 (member (codes "key") x2 (member (codes "line") x3 (member (codes "query") x4 (member (codes "read") x5 (member (codes "version") x6 no_members)))))))) ≡ stuck_read_from (object (member (codes "blocked") x0 (member (codes "clause") x1 (member (codes "key") x2 (member (codes "line") x3 (member (codes "query") x4 (member (codes "read") x5 (member (codes "version") x6 no_members))))))))
  unfolding form_of block_of other_of read_of
  stuck_read_form x0 x1 x2 x3 x4 x5 x6 = refl

  pub stuck_read_said : (d : Data) (clause : Clause) (key : List ℕ) (line query : ℕ) (request : List ℕ) (version : ℕ) → SaysStuckRead d clause key line query request version → line_at policy d ≡ Ok (form.ReadBlock (blocked.Stuck clause) key line query request version)
  unfolding stuck_read_from
  stuck_read_said d clause key line query request version h =
      let is = h.is in
      let in_blocked : get (codes "blocked") d ≡ Some (string (codes "stuck")) = ap (get (codes "blocked")) is in
      let in_clause : get (codes "clause") d ≡ Some (string (clause_name clause)) = ap (get (codes "clause")) is in
      let in_key : get (codes "key") d ≡ Some (string key) = ap (get (codes "key")) is in
      let in_line : get (codes "line") d ≡ Some h.a = ap (get (codes "line")) is in
      let in_query : get (codes "query") d ≡ Some h.b = ap (get (codes "query")) is in
      let in_read : get (codes "read") d ≡ Some (string request) = ap (get (codes "read")) is in
      let in_version : get (codes "version") d ≡ Some h.c = ap (get (codes "version")) is in
      let r_blocked : word_in (codes "stuck") (codes "blocked") d ≡ Ok tt = word_in_said (codes "stuck") (codes "blocked") d in_blocked in
      let r_line : long_in (codes "line") d ≡ Ok line = long_in_said (codes "line") d h.a line in_line h.line_is in
      let r_version : long_in (codes "version") d ≡ Ok version = long_in_said (codes "version") d h.c version in_version h.version_is in
      let r_query : long_in (codes "query") d ≡ Ok query = long_in_said (codes "query") d h.b query in_query h.query_is in
      let r_clause : (text_in (codes "clause") d >>= clause_named) ≡ Ok clause = ap (λ r. r >>= clause_named) (text_in_said (codes "clause") d (clause_name clause) in_clause) ∙ clause_said clause in
      let r_key : text_in (codes "key") d ≡ Ok key = text_in_said (codes "key") d key in_key in
      let r_read : text_in (codes "read") d ≡ Ok request = text_in_said (codes "read") d request in_read in
      let reads : stuck_read_from d ≡ Ok (form.ReadBlock (blocked.Stuck clause) key line query request version) = rw (r_blocked, r_line, r_version, r_query, r_clause, r_key, r_read) refl in
      ap (line_at policy) is ∙ (stuck_read_form (string (codes "stuck")) (string (clause_name clause)) (string key) h.a h.b (string request) h.c ∙ (ap (stuck_read_from) (sym is) ∙ reads))
