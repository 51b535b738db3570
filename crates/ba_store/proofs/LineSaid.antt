-- A line is read as a problem and steps exactly where it says them.
use Rattle.std.proofs.Common.{◌≡◌, ◌∙◌, ℕ, suc, ◌+◌, ◌≤◌, ◌||◌, ◌==◌, List, [], ◌∷◌, length, nat_le, Bool, true, false, Option, Some, None, Result, Ok, Err, refl, sym, ap, subst, codes, inl, inr}
use Rattle.std.specs.Prelude.{⊤, option_and_then}
use Rattle.std.specs.List.{AllZip}
use Rattle.std.specs.Str.{bytes_eq, is_utf8}
use Rattle.std.proofs.lemmas.Bool.{and_parts, le-leb}
use Rattle.std.proofs.lemmas.Str.{IsUtf8-from_is_utf8}
use Rattle.serde_json.specs.Data.{Data, Members, string, object, no_members, member}
use Rattle.serde_json.specs.Find.{as_object, get}
use Rattle.serde_json.specs.Read.{read}
use Rattle.ba_model.proofs.TestLemmas.{or_cases}
use Rattle.ba_model.specs.Fit.{kinds_of}
use Rattle.ba_model.specs.Limits.{most_entries, most_operands, most_steps}
use Rattle.ba_model.specs.Readings.{◌>>=◌, each, widened}
use Rattle.ba_model.specs.declared.policy.Parameter.{Parameter}
use Rattle.ba_model.specs.declared.policy.Policy.{Policy}
use Rattle.ba_model.specs.declared.query.Atom.{Atom}
use Rattle.ba_model.specs.declared.query.Operand.{Operand}
use Rattle.ba_model.specs.declared.query.Query.{Query}
use Rattle.ba_model.specs.declared.schema.Kind.{Kind}
use Rattle.ba_model.specs.declared.schema.Kind.TheVariants.{Int as IntKind, Text as TextKind}
use Rattle.ba_model.specs.declared.schema.Schema.{Schema}
use Rattle.ba_kernel.specs.Courses.{EntryFits}
use Rattle.ba_kernel.specs.declared.problem.Problem.{Problem}
use Rattle.ba_kernel.specs.declared.problem.ProblemEntry.{ProblemEntry}
use Rattle.ba_kernel.specs.declared.step.Step.{Step}
use Rattle.ba_proof.proofs.EntrySaid.{object_is}
use Rattle.ba_proof.proofs.FitLemmas.{bound, wide_enough}
use Rattle.ba_proof.proofs.PutLemmas.{same_text}
use Rattle.ba_proof.proofs.SaidLemmas.{long_is, long_said}
use Rattle.ba_proof.proofs.ShapeLemmas.{items_are}
use Rattle.ba_proof.proofs.StepSaid.{step_is, step_said}
use Rattle.ba_proof.specs.Says.{HasField, SaysEach, SaysLong, SaysStep}
use Rattle.ba_proof.specs.Shapes.{as_list, as_long}
use Rattle.ba_proof.specs.Steps.{step_at}
use Rattle.ba_proof.specs.Written.{list_json}
use Rattle.ba_proof.specs.declared.fault.ProofFault.{ProofFault}
use Rattle.ba_proof.specs.declared.proof.Proof.{Proof}
use Rattle.ba_proof.specs.declared.version.TheConstants.{RULE_VERSION}
use Rattle.ba_store.proofs.FitLemmas.{assumed_said, numbers_equal, vars_said}
use Rattle.ba_store.proofs.LoadLemmas.{assumed_fits, entry_fits, fields_pass, ok_same, then_condition, then_entries, then_goal, then_keys, then_steps, then_vars, widened_ok}
use Rattle.ba_store.proofs.QuerySaid.{atom_is, atom_said, choose, each_is, each_said, each_zip, good, list_is, operand_is, operand_said, query_is, query_said, text_is, zip_each}
use Rattle.ba_store.proofs.ReadBackLemmas.{entry_stands}
use Rattle.ba_store.proofs.TextLemmas.{text_reads}
use Rattle.ba_store.specs.Fits.{is_assumed, row_stands, vars_stand}
use Rattle.ba_store.specs.Reading.{are_keys, asked_at, assumed_at, atom_at, condition_at, draft_of, draft_or, draft_with, entries_at, entries_of, entry_at, entry_form, entry_of, entry_with, few_entries, few_steps, few_vars, fields_of, fields_or, goal_at, if_assumed, if_stands, if_vars_stand, is_key, keys_at, kind_at, kind_named, only_version, operand_at, problem_at, problem_with, query_at, steps_at, steps_of, vars_at, version_at, with_condition}
use Rattle.ba_store.specs.Says.{HasNoOther, IsFieldName, LineIsExact, ReadsTemplate, SaysAssumed, SaysAtom, SaysEntry, SaysKind, SaysOperand, SaysQuery, SaysTemplate}
use Rattle.ba_store.specs.Shapes.{list_at, or_bad, text_at}
use Rattle.ba_store.specs.Tests.{PassesTests}
use Rattle.ba_store.specs.Written.{kind_json, kind_name}
use Rattle.ba_store.specs.declared.fault.LineFault.{LineFault}
use Rattle.ba_store.specs.declared.fault.LineFault.TheVariants.{Json, Field}
use Rattle.ba_store.specs.declared.fault.StoreField.{StoreField}
use Rattle.ba_store.specs.declared.fault.StoreField.TheVariants as field

-- ---- lists of what a field says

some_json : (d : Data) (ds : List Data) (found : Option Data) → found ≡ Some d → d ≡ list_json ds → found ≡ Some (list_json ds)
some_json d ds found there is = there ∙ ap Some is

zip_long : {A B : Type 0} (R : A → B → Type 0) (xs : List A) (ys : List B) → AllZip R xs ys → length xs ≡ length ys
zip_long R [] [] z = refl
zip_long R [] (y ∷ ys) z = absurd z
zip_long R (x ∷ xs) [] z = absurd z
zip_long R (x ∷ xs) (y ∷ ys) z = ap suc (zip_long R xs ys z.1)

-- a field's list, where it passes a test of its length
record HasItems (found : Option Data) (ds : List Data) : Type 0 where
  value : Data
  there : found ≡ Some value
  is : value ≡ list_json ds

has_items : (f : StoreField) (found : Option Data) (ds : List Data) → (or_bad f found >>= list_at f) ≡ Ok ds → HasItems found ds
has_items f found ds e =
    let value = bound (or_bad f found) (list_at f) ds e in
    record { value = value.0; there = good f found value.0 value.1; is = list_is f value.0 ds value.2 }

field_is : {X F : Type 0} (read : Data → Result X F) (Says : Data → X → Type 0) → ((d : Data) (x : X) → read d ≡ Ok x → Says d x) → (name : List ℕ) (d : Data) (ds : List Data) (xs : List X)
    → HasItems (get name d) ds → each read ds ≡ Ok xs → HasField (SaysEach Says) name d xs
field_is read Says one name d ds xs has e =
    record { value = has.value; there = has.there; says = record { ds = ds; is = has.is; said = each_zip read Says one ds xs e } }

-- ---- version and variables

version_is : (d : Data) → version_at (get (codes "version") d) ≡ Ok tt → HasField SaysLong (codes "version") d 1
unfolding version_at
version_is d e =
    let n = bound (or_bad field.Version (option_and_then as_long (get (codes "version") d))) only_version tt e in
    by (get (codes "version") d) n.0 refl (numbers_equal n.0 1 (wide_enough (n.0 == 1) (Ok tt) field.Version tt n.2).0)
    (good field.Version (option_and_then as_long (get (codes "version") d)) n.0 n.1)
  where
    by : (o : Option Data) (n : ℕ) → get (codes "version") d ≡ o → n ≡ 1 → option_and_then as_long o ≡ Some n → HasField SaysLong (codes "version") d 1
    by None n there one h = cc h
    by (Some value) n there one h = record { value = value; there = there; says = subst (SaysLong value) one (long_is value n h) }

version_said : (d : Data) → HasField SaysLong (codes "version") d 1 → version_at (get (codes "version") d) ≡ Ok tt
unfolding version_at
version_said d h = ap version_at h.there ∙ ap (λ o. or_bad field.Version o >>= only_version) (long_said h.value 1 h.says)

kind_is : (d : Data) (kind : Kind) → kind_at d ≡ Ok kind → SaysKind d kind
unfolding kind_named
kind_is d kind e =
    let name = bound (text_at field.Vars d) kind_named kind e in
    text_is field.Vars d name.0 name.1
    ∙ choose (string name.0 ≡ kind_json kind) (bytes_eq name.0 (codes "INT")) _ _ kind name.2
    (λ b h. ap string (same_text name.0 (codes "INT") b) ∙ ap kind_json (ok_same IntKind kind h))
    (λ h. choose (string name.0 ≡ kind_json kind) (bytes_eq name.0 (codes "TEXT")) _ _ kind h
    (λ b k. ap string (same_text name.0 (codes "TEXT") b) ∙ ap kind_json (ok_same TextKind kind k))
    (λ k. cc k))

kind_reads : (kind : Kind) → kind_at (kind_json kind) ≡ Ok kind
unfolding kind_named
kind_reads IntKind = refl
kind_reads TextKind = refl

kind_said : (d : Data) (kind : Kind) → SaysKind d kind → kind_at d ≡ Ok kind
kind_said d kind h = ap kind_at h ∙ kind_reads kind

vars_are : (params : List Parameter) (d : Data) (vars : List Kind) → vars_at params (get (codes "vars") d) ≡ Ok vars → HasField (SaysEach SaysKind) (codes "vars") d vars
unfolding vars_at
vars_are params d vars e =
    let found = get (codes "vars") d in
    let few = bound (or_bad field.Vars found >>= list_at field.Vars >>= few_vars params) (each kind_at) vars e in
    let items = bound (or_bad field.Vars found >>= list_at field.Vars) (few_vars params) few.0 few.1 in
    let within = wide_enough (nat_le (length items.0 + length params) most_operands) (Ok items.0) field.Vars few.0 items.2 in
    field_is kind_at SaysKind kind_is (codes "vars") d few.0 vars (subst (HasItems found) (ok_same items.0 few.0 within.1) (has_items field.Vars found items.0 items.1)) few.2

vars_read : (params : List Parameter) (d : Data) (vars : List Kind) → HasField (SaysEach SaysKind) (codes "vars") d vars → length vars + length params ≤ most_operands
    → vars_at params (get (codes "vars") d) ≡ Ok vars
unfolding vars_at
vars_read params d vars h few =
    let small : nat_le (length h.says.ds + length params) most_operands ≡ true =
    le-leb _ most_operands (subst (λ n. n + length params ≤ most_operands) (sym (zip_long SaysKind h.says.ds vars h.says.said)) few) in
    ap (vars_at params) (some_json h.value h.says.ds (get (codes "vars") d) h.there h.says.is)
    ∙ rw (items_are h.says.ds, small) (zip_each kind_at SaysKind kind_said h.says.ds vars h.says.said)

-- ---- goal, entries and condition

goal_says : (schema : Schema) (params : List Parameter) (vars : List Kind) (d : Data) (q : Query) → goal_at schema params vars (get (codes "goal") d) ≡ Ok q
    → HasField (SaysQuery schema params vars) (codes "goal") d q
unfolding goal_at
goal_says schema params vars d q e =
    let value = bound (or_bad field.Goal (get (codes "goal") d)) (query_at field.Goal schema params vars) q e in
    record { value = value.0; there = good field.Goal (get (codes "goal") d) value.0 value.1; says = query_is field.Goal schema params vars value.0 q value.2 }

goal_read : (schema : Schema) (params : List Parameter) (vars : List Kind) (d : Data) (q : Query) → HasField (SaysQuery schema params vars) (codes "goal") d q
    → goal_at schema params vars (get (codes "goal") d) ≡ Ok q
unfolding goal_at
goal_read schema params vars d q h = ap (goal_at schema params vars) h.there ∙ query_said field.Goal schema params vars h.value q h.says

module _ (p : Problem) where
  abbrev schema : Schema
  schema = p.policy.schema

  abbrev params : List Parameter
  params = p.policy.params

  entry_parts : (d a b : Data) (entry : ProblemEntry) → d ≡ object (member (codes "query") a (member (codes "row") b no_members)) → EntryFits p entry
      → entry_of schema params p.vars a b ≡ Ok entry → SaysEntry p d entry
  unfolding entry_of
  entry_parts d a b entry is fits e =
      let q = bound (query_at field.Entries schema params p.vars a) _ entry e in
      let row = bound (list_at field.Entries b >>= each (operand_at field.Entries params)) (if_stands schema params p.vars q.0) entry q.2 in
      let kept = wide_enough (row_stands schema (kinds_of params) p.vars q.0 row.0) (Ok (entry_with q.0 row.0)) field.Entries entry row.2 in
      let same : entry_with q.0 row.0 ≡ entry = ok_same (entry_with q.0 row.0) entry kept.1 in
      record {
        a = a;
        b = b;
        is = is;
        query = subst (λ (it : ProblemEntry). SaysQuery schema params p.vars a it.query) same (query_is field.Entries schema params p.vars a q.0 q.1);
        row =
            subst (λ (it : ProblemEntry). SaysEach (SaysOperand params) b it.row) same
            (each_is field.Entries (operand_at field.Entries params) (SaysOperand params) (operand_is field.Entries params) b row.0 row.1);
        fits = fits;
      }

  entry_form_is : (d : Data) (ms : Members) (entry : ProblemEntry) → d ≡ object ms → EntryFits p entry → entry_form schema params p.vars ms ≡ Ok entry → SaysEntry p d entry
  entry_form_is d no_members entry is fits e = cc e
  entry_form_is d (member k a no_members) entry is fits e = cc e
  entry_form_is d (member k a (member l b no_members)) entry is fits e =
      let two = wide_enough _ (entry_of schema params p.vars a b) field.Entries entry e in
      let names = and_parts _ _ two.0 in
      entry_parts d a b entry
      (is
      ∙ ap (λ x. object (member x a (member l b no_members))) (same_text k (codes "query") names.0)
      ∙ ap (λ x. object (member (codes "query") a (member x b no_members))) (same_text l (codes "row") names.1))
      fits two.1
  entry_form_is d (member k a (member l b (member m c more))) entry is fits e = cc e

  entry_is : (d : Data) (entry : ProblemEntry) → entry_at schema params p.vars d ≡ Ok entry → SaysEntry p d entry
  entry_is d entry e =
      let ms = bound (or_bad field.Entries (as_object d)) (entry_form schema params p.vars) entry e in
      entry_form_is d ms.0 entry (object_is d ms.0 (good field.Entries (as_object d) ms.0 ms.1)) (entry_fits p d entry e) ms.2

  entry_made : (a b : Data) (entry : ProblemEntry) → query_at field.Entries schema params p.vars a ≡ Ok entry.query
      → (list_at field.Entries b >>= each (operand_at field.Entries params)) ≡ Ok entry.row → row_stands schema (kinds_of params) p.vars entry.query entry.row ≡ true
      → entry_of schema params p.vars a b ≡ Ok entry
  unfolding entry_of
  entry_made a b entry x y z = rw (x, y, z) refl

  entry_said : (d : Data) (entry : ProblemEntry) → SaysEntry p d entry → entry_at schema params p.vars d ≡ Ok entry
  entry_said d entry h =
      ap (entry_at schema params p.vars) h.is
      ∙ entry_made h.a h.b entry (query_said field.Entries schema params p.vars h.a entry.query h.query)
      (each_said field.Entries (operand_at field.Entries params) (SaysOperand params) (operand_said field.Entries params) h.b entry.row h.row)
      (entry_stands p entry h.fits)

  entries_say : (d : Data) (entries : List ProblemEntry) → entries_of schema params p.vars (get (codes "entries") d) ≡ Ok entries
      → HasField (SaysEach (SaysEntry p)) (codes "entries") d entries
  unfolding entries_of
  entries_say d entries e =
      let found = get (codes "entries") d in
      let few = bound (or_bad field.Entries found >>= list_at field.Entries >>= few_entries) (each (entry_at schema params p.vars)) entries e in
      let items = bound (or_bad field.Entries found >>= list_at field.Entries) few_entries few.0 few.1 in
      let within = wide_enough (nat_le (length items.0) most_entries) (Ok items.0) field.Entries few.0 items.2 in
      field_is (entry_at schema params p.vars) (SaysEntry p) entry_is (codes "entries") d few.0 entries
      (subst (HasItems found) (ok_same items.0 few.0 within.1) (has_items field.Entries found items.0 items.1)) few.2

  entries_read : (d : Data) (entries : List ProblemEntry) → HasField (SaysEach (SaysEntry p)) (codes "entries") d entries → length entries ≤ most_entries
      → entries_of schema params p.vars (get (codes "entries") d) ≡ Ok entries
  unfolding entries_of
  entries_read d entries h few =
      let small : nat_le (length h.says.ds) most_entries ≡ true =
      le-leb _ most_entries (subst (λ n. n ≤ most_entries) (sym (zip_long (SaysEntry p) h.says.ds entries h.says.said)) few) in
      ap (entries_of schema params p.vars) (some_json h.value h.says.ds (get (codes "entries") d) h.there h.says.is)
      ∙ rw (items_are h.says.ds, small) (zip_each (entry_at schema params p.vars) (SaysEntry p) entry_said h.says.ds entries h.says.said)

  assumed_is : (d : Data) (atom : Atom) → assumed_at schema params p.vars d ≡ Ok atom → SaysAssumed p d atom
  assumed_is d atom e =
      let it = bound (atom_at field.Condition params d) (if_assumed schema params p.vars) atom e in
      let kept = wide_enough (is_assumed schema (kinds_of params) p.vars it.0) (Ok it.0) field.Condition atom it.2 in
      record { says = subst (SaysAtom params d) (ok_same it.0 atom kept.1) (atom_is field.Condition params d it.0 it.1); fits = assumed_fits p d atom e }

  assumed_read : (d : Data) (atom : Atom) → SaysAssumed p d atom → assumed_at schema params p.vars d ≡ Ok atom
  assumed_read d atom h = rw (atom_said field.Condition params d atom h.says, assumed_said schema (kinds_of params) p.vars atom h.fits) refl

  condition_says : (d : Data) (atoms : List Atom) → condition_at schema params p.vars (get (codes "condition") d) ≡ Ok atoms
      → HasField (SaysEach (SaysAssumed p)) (codes "condition") d atoms
  unfolding condition_at
  condition_says d atoms e =
      let found = get (codes "condition") d in
      let items = bound (or_bad field.Condition found >>= list_at field.Condition) (each (assumed_at schema params p.vars)) atoms e in
      field_is (assumed_at schema params p.vars) (SaysAssumed p) assumed_is (codes "condition") d items.0 atoms (has_items field.Condition found items.0 items.1) items.2

  condition_read : (d : Data) (atoms : List Atom) → HasField (SaysEach (SaysAssumed p)) (codes "condition") d atoms
      → condition_at schema params p.vars (get (codes "condition") d) ≡ Ok atoms
  unfolding condition_at
  condition_read d atoms h =
      ap (condition_at schema params p.vars) (some_json h.value h.says.ds (get (codes "condition") d) h.there h.says.is)
      ∙ rw (items_are h.says.ds) (zip_each (assumed_at schema params p.vars) (SaysAssumed p) assumed_read h.says.ds atoms h.says.said)

-- ---- steps

steps_say : (params : List Parameter) (vars : ℕ) (d : Data) (all : List Step) → steps_at params vars (get (codes "steps") d) ≡ Ok all
    → HasField (SaysEach (SaysStep params vars RULE_VERSION)) (codes "steps") d all
unfolding steps_at
steps_say params vars d all e =
    let found = get (codes "steps") d in
    let few = bound (or_bad field.Steps found >>= list_at field.Steps >>= few_steps) (steps_of params vars) all e in
    let items = bound (or_bad field.Steps found >>= list_at field.Steps) few_steps few.0 few.1 in
    let within = wide_enough (nat_le (length items.0) most_steps) (Ok items.0) field.Steps few.0 items.2 in
    field_is (step_at params vars RULE_VERSION) (SaysStep params vars RULE_VERSION) (step_is params vars RULE_VERSION) (codes "steps") d few.0 all
    (subst (HasItems found) (ok_same items.0 few.0 within.1) (has_items field.Steps found items.0 items.1))
    (widened_ok (λ (fault : ProofFault). field.Steps) (each (step_at params vars RULE_VERSION) few.0) all few.2)

steps_read : (params : List Parameter) (vars : ℕ) (d : Data) (all : List Step) → HasField (SaysEach (SaysStep params vars RULE_VERSION)) (codes "steps") d all → length all ≤ most_steps
    → steps_at params vars (get (codes "steps") d) ≡ Ok all
unfolding steps_at
steps_read params vars d all h few =
    let small : nat_le (length h.says.ds) most_steps ≡ true =
    le-leb _ most_steps (subst (λ n. n ≤ most_steps) (sym (zip_long (SaysStep params vars RULE_VERSION) h.says.ds all h.says.said)) few) in
    ap (steps_at params vars) (some_json h.value h.says.ds (get (codes "steps") d) h.there h.says.is)
    ∙ rw (items_are h.says.ds, small)
    (ap (widened (λ (fault : ProofFault). field.Steps))
    (zip_each (step_at params vars RULE_VERSION) (SaysStep params vars RULE_VERSION) (step_said params vars RULE_VERSION) h.says.ds all h.says.said))

-- ---- keys

key_is : (k : List ℕ) → is_key k ≡ true → IsFieldName k
unfolding is_key
key_is k e =
    elim (or_cases (bytes_eq k (codes "condition")) _ e) [
      | inl a ↦ inl (same_text k (codes "condition") a)
      | inr r ↦ inr (elim (or_cases (bytes_eq k (codes "entries")) _ r) [
        | inl a ↦ inl (same_text k (codes "entries") a)
        | inr s ↦ inr (elim (or_cases (bytes_eq k (codes "goal")) _ s) [
          | inl a ↦ inl (same_text k (codes "goal") a)
          | inr t ↦ inr (elim (or_cases (bytes_eq k (codes "steps")) _ t) [
            | inl a ↦ inl (same_text k (codes "steps") a)
            | inr u ↦ inr (elim (or_cases (bytes_eq k (codes "vars")) _ u) [
              | inl a ↦ inl (same_text k (codes "vars") a)
              | inr b ↦ inr (same_text k (codes "version") b)
            ])
          ])
        ])
      ])
    ]

key_said : (k : List ℕ) → IsFieldName k → is_key k ≡ true
unfolding is_key
key_said k (inl e) = ap is_key e
key_said k (inr (inl e)) = ap is_key e
key_said k (inr (inr (inl e))) = ap is_key e
key_said k (inr (inr (inr (inl e)))) = ap is_key e
key_said k (inr (inr (inr (inr (inl e))))) = ap is_key e
key_said k (inr (inr (inr (inr (inr e))))) = ap is_key e

keys_are : (ms : Members) → are_keys ms ≡ true → HasNoOther ms
keys_are no_members e = tt
keys_are (member k d more) e = let h = and_parts (is_key k) (are_keys more) e in (key_is k h.0, keys_are more h.1)

keys_said : (ms : Members) → HasNoOther ms → are_keys ms ≡ true
keys_said no_members h = refl
keys_said (member k d more) h = rw (key_said k h.0, keys_said more h.1) refl

-- ---- the fields

module _ (policy : Policy) (ms : Members) where
  abbrev whole : Data
  whole = object ms

  -- what was read one after another
  record WasRead (vars : List Kind) (goal : Query) (entries : List ProblemEntry) (assumed : List Atom) (all : List Step) : Type 0 where
    version_read : version_at (get (codes "version") whole) ≡ Ok tt
    vars_are_read : vars_at policy.params (get (codes "vars") whole) ≡ Ok vars
    goal_is_read : goal_at policy.schema policy.params vars (get (codes "goal") whole) ≡ Ok goal
    entries_are_read : entries_of policy.schema policy.params vars (get (codes "entries") whole) ≡ Ok entries
    condition_is_read : condition_at policy.schema policy.params vars (get (codes "condition") whole) ≡ Ok assumed
    steps_are_read : steps_at policy.params (length vars) (get (codes "steps") whole) ≡ Ok all
    keys_are_read : keys_at ms ≡ Ok tt

  abbrev made : List Kind → Query → List ProblemEntry → List Atom → List Step → Proof
  made vars goal entries assumed all = draft_with (problem_with policy vars assumed entries goal) all

  says_made : (vars : List Kind) (goal : Query) (entries : List ProblemEntry) (assumed : List Atom) (all : List Step) → WasRead vars goal entries assumed all
      → PassesTests policy (problem_with policy vars assumed entries goal) all → SaysTemplate policy ms (made vars goal entries assumed all)
  unfolding keys_at
  says_made vars goal entries assumed all h tests =
      let p = problem_with policy vars assumed entries goal in
      record {
        of_policy = refl;
        version_is = version_is whole h.version_read;
        vars_are = vars_are policy.params whole vars h.vars_are_read;
        goal_is = goal_says policy.schema policy.params vars whole goal h.goal_is_read;
        entries_are = entries_say p whole entries h.entries_are_read;
        condition_is = condition_says p whole assumed h.condition_is_read;
        steps_are = steps_say policy.params (length vars) whole all h.steps_are_read;
        few_vars = tests.few_vars;
        few_entries = tests.few_entries;
        few_steps = tests.few_steps;
        stand = tests.stands;
        no_other = keys_are ms (wide_enough (are_keys ms) (Ok tt) field.Keys tt h.keys_are_read).0;
      }

  -- some fields were read, which make the draft
  record Comes (draft : Proof) : Type 0 where
    vars : List Kind
    goal : Query
    entries : List ProblemEntry
    assumed : List Atom
    all : List Step
    was_read : WasRead vars goal entries assumed all
    is : made vars goal entries assumed all ≡ draft

  comes : (draft : Proof) → fields_of policy whole ms ≡ Ok draft → Comes draft
  unfolding fields_of problem_at asked_at entries_at
  comes draft e =
      let problem = bound (asked_at policy whole >>= then_condition policy whole) (then_steps policy whole ms) draft e in
      let asked = bound (asked_at policy whole) (then_condition policy whole) problem.0 problem.1 in
      let version = bound (version_at (get (codes "version") whole)) (λ (version : ⊤). then_vars policy whole) asked.0 asked.1 in
      let vars = bound (vars_at policy.params (get (codes "vars") whole)) (then_goal policy whole) asked.0 version.2 in
      let goal = bound (goal_at policy.schema policy.params vars.0 (get (codes "goal") whole)) (then_entries policy whole vars.0) asked.0 vars.2 in
      let entries =
      bound (entries_of policy.schema policy.params vars.0 (get (codes "entries") whole)) (λ (entries : List ProblemEntry). if_vars_stand (problem_with policy vars.0 [] entries goal.0)) asked.0 goal.2 in
      let stand = wide_enough (vars_stand (problem_with policy vars.0 [] entries.0 goal.0)) (Ok (problem_with policy vars.0 [] entries.0 goal.0)) field.Entries asked.0 entries.2 in
      let first : problem_with policy vars.0 [] entries.0 goal.0 ≡ asked.0 = ok_same (problem_with policy vars.0 [] entries.0 goal.0) asked.0 stand.1 in
      let assumed = bound (condition_at policy.schema policy.params asked.0.vars (get (codes "condition") whole)) (λ (assumed : List Atom). Ok (with_condition asked.0 assumed)) problem.0 asked.2 in
      let second : with_condition asked.0 assumed.0 ≡ problem.0 = ok_same (with_condition asked.0 assumed.0) problem.0 assumed.2 in
      let steps = bound (steps_at policy.params (length problem.0.vars) (get (codes "steps") whole)) (then_keys ms problem.0) draft problem.2 in
      let keys = bound (keys_at ms) (λ (keys : ⊤). Ok (draft_with problem.0 steps.0)) draft steps.2 in
      let third : draft_with problem.0 steps.0 ≡ draft = ok_same (draft_with problem.0 steps.0) draft keys.2 in
      let is_problem : problem_with policy vars.0 assumed.0 entries.0 goal.0 ≡ problem.0 = ap (λ (it : Problem). with_condition it assumed.0) first ∙ second in
      record {
        vars = vars.0;
        goal = goal.0;
        entries = entries.0;
        assumed = assumed.0;
        all = steps.0;
        was_read = record {
          version_read = version.1;
          vars_are_read = vars.1;
          goal_is_read = goal.1;
          entries_are_read = entries.1;
          condition_is_read =
              subst (λ (it : Problem). condition_at policy.schema policy.params it.vars (get (codes "condition") whole) ≡ Ok assumed.0) (sym first) assumed.1;
          steps_are_read = subst (λ (it : Problem). steps_at policy.params (length it.vars) (get (codes "steps") whole) ≡ Ok steps.0) (sym is_problem) steps.1;
          keys_are_read = keys.1;
        };
        is = ap (λ (it : Problem). draft_with it steps.0) is_problem ∙ third;
      }

  pub fields_say : (draft : Proof) → fields_of policy whole ms ≡ Ok draft → SaysTemplate policy ms draft
  fields_say draft e =
      let c = comes draft e in
      let tests = fields_pass policy whole ms draft e in
      subst (SaysTemplate policy ms) c.is
      (says_made c.vars c.goal c.entries c.assumed c.all c.was_read (subst (λ (it : Proof). PassesTests policy it.problem it.steps) (sym c.is) tests))

-- fields that say the draft are read as it
module _ (p : Problem) (ms : Members) where
  asked_said : version_at (get (codes "version") (object ms)) ≡ Ok tt → vars_at p.policy.params (get (codes "vars") (object ms)) ≡ Ok p.vars
      → goal_at p.policy.schema p.policy.params p.vars (get (codes "goal") (object ms)) ≡ Ok p.goal
      → entries_of p.policy.schema p.policy.params p.vars (get (codes "entries") (object ms)) ≡ Ok p.entries → vars_stand (problem_with p.policy p.vars [] p.entries p.goal) ≡ true
      → asked_at p.policy (object ms) ≡ Ok (problem_with p.policy p.vars [] p.entries p.goal)
  unfolding asked_at entries_at
  asked_said a b c e f = rw (a, b, c, e, f) refl

  fields_made : (all : List Step) → asked_at p.policy (object ms) ≡ Ok (problem_with p.policy p.vars [] p.entries p.goal)
      → condition_at p.policy.schema p.policy.params p.vars (get (codes "condition") (object ms)) ≡ Ok p.assumed
      → steps_at p.policy.params (length p.vars) (get (codes "steps") (object ms)) ≡ Ok all → are_keys ms ≡ true → fields_of p.policy (object ms) ms ≡ Ok (draft_with p all)
  unfolding fields_of problem_at keys_at
  fields_made all a b c e = rw (a, b, c, e) refl

  own_said : (all : List Step) → SaysTemplate p.policy ms (draft_with p all) → fields_of p.policy (object ms) ms ≡ Ok (draft_with p all)
  own_said all h =
      fields_made all
      (asked_said (version_said (object ms) h.version_is) (vars_read p.policy.params (object ms) p.vars h.vars_are h.few_vars)
      (goal_read p.policy.schema p.policy.params p.vars (object ms) p.goal h.goal_is) (entries_read p (object ms) p.entries h.entries_are h.few_entries)
      (vars_said (problem_with p.policy p.vars [] p.entries p.goal) (record { stands = h.stand.stands })))
      (condition_read p (object ms) p.assumed h.condition_is) (steps_read p.policy.params (length p.vars) (object ms) all h.steps_are h.few_steps) (keys_said ms h.no_other)

said_fields : (policy : Policy) (ms : Members) (draft : Proof) → SaysTemplate policy ms draft → fields_of policy (object ms) ms ≡ Ok draft
said_fields policy ms draft h =
    subst (λ (it : Policy). fields_of it (object ms) ms ≡ Ok draft) h.of_policy
    (own_said draft.problem ms draft.steps (subst (λ (it : Policy). SaysTemplate it ms draft) (sym h.of_policy) h))

-- ---- the line

module _ (policy : Policy) (bytes : List ℕ) where
  pub is_read : (draft : Proof) → draft_of policy bytes ≡ Ok draft → ReadsTemplate policy bytes draft
  unfolding draft_of
  is_read draft e =
      let text = wide_enough (is_utf8 bytes) (draft_or policy (read bytes)) Json draft e in
      by (read bytes) text.0 refl text.1
    where
      in_object : (d : Data) → is_utf8 bytes ≡ true → read bytes ≡ Some d → (o : Option Members) → as_object d ≡ o → fields_or policy d o ≡ Ok draft → ReadsTemplate policy bytes draft
      in_object d utf8 reading None is h = cc h
      in_object d utf8 reading (Some ms) is h =
          let same : d ≡ object ms = object_is d ms is in (
            ms,
            record { utf8 = IsUtf8-from_is_utf8 bytes utf8; reads = reading ∙ ap Some same },
            fields_say policy ms draft (subst (λ x. fields_of policy x ms ≡ Ok draft) same (widened_ok Field (fields_of policy d ms) draft h)),
          )

      by : (o : Option Data) → is_utf8 bytes ≡ true → read bytes ≡ o → draft_or policy o ≡ Ok draft → ReadsTemplate policy bytes draft
      by None utf8 reading h = cc h
      by (Some d) utf8 reading h = in_object d utf8 reading (as_object d) refl h

  pub reads : (draft : Proof) → ReadsTemplate policy bytes draft → draft_of policy bytes ≡ Ok draft
  reads draft h = text_reads policy bytes (object h.0) h.1.utf8 h.1.reads ∙ ap (widened Field) (said_fields policy h.0 draft h.2)

pub line_is_exact : LineIsExact
line_is_exact =
    record {
      reads = λ policy bytes draft. (is_read policy bytes draft, reads policy bytes draft);
      unique = λ policy bytes one other h k. ok_same one other (sym (reads policy bytes one h) ∙ reads policy bytes other k);
    }
