-- A file is read exactly as what it says, and refused exactly for the fault that it has.
use Rattle.std.proofs.Common.{◌≡◌, ◌⊎◌, ◌∙◌, inl, inr, ℕ, ◌<◌, ◌≤◌, ◌&&◌, ◌||◌, List, length, Bool, true, false, cond, nat_le, nat_lt, Option, Some, None, Result, Ok, Err, refl, sym, ap, subst, codes}
use Rattle.std.specs.Prelude.{option_and_then, ⊤}
use Rattle.std.specs.Str.{bytes_eq, is_utf8}
use Rattle.std.proofs.lemmas.Bool.{leb-true, le-leb, ltb-true, ltb-false, le-ltb, lt-ltb}
use Rattle.std.proofs.lemmas.Str.{IsUtf8-from_is_utf8, is_utf8-from_IsUtf8}
use Rattle.serde_json.specs.Data.{Data, Members, null, boolean, number, string, array, object, no_members, member}
use Rattle.serde_json.specs.Find.{as_object, get}
use Rattle.serde_json.specs.Read.{read}
use Rattle.ba_model.specs.Limits.{most_steps}
use Rattle.ba_model.specs.Readings.{◌>>=◌, each}
use Rattle.ba_model.specs.declared.policy.Context.{Context}
use Rattle.ba_model.specs.declared.policy.Parameter.{Parameter}
use Rattle.ba_model.specs.declared.policy.Policy.{Policy}
use Rattle.ba_model.specs.declared.query.Query.{Query}
use Rattle.ba_comply.specs.declared.trace.TraceEntry.{TraceEntry}
use Rattle.ba_kernel.specs.Problems.{problem_of}
use Rattle.ba_kernel.specs.declared.problem.Problem.{Problem}
use Rattle.ba_kernel.specs.declared.step.Step.{Step}
use Rattle.ba_script.proofs.MeaningLemmas.{context_is, is_context}
use Rattle.ba_script.specs.Contexts.{context_of}
use Rattle.ba_script.specs.Script.{IsJson, given_members}
use Rattle.ba_sql_query.specs.Reads.{QueryReading}
use Rattle.ba_proof.proofs.EntrySaid.{entry_is, entry_only, entry_said, object_is, query_is, query_only, query_said}
use Rattle.ba_proof.proofs.EntryLemmas.{zip_length}
use Rattle.ba_proof.proofs.FitLemmas.{bound, good}
use Rattle.ba_proof.proofs.PutLemmas.{same_text}
use Rattle.ba_proof.proofs.ReadBackLemmas.{fields_read, question_reads}
use Rattle.ba_proof.proofs.ReadLemmas.{text_reads}
use Rattle.ba_proof.proofs.SaidLemmas.{OnlyBad, as_list_is, as_list_said, each_zip, list_is, list_said, long_is, long_said, ok_same, only_bad, only_bind, only_cond, only_each, only_ok, only_or, zip_each}
use Rattle.ba_proof.proofs.StepSaid.{step_is, step_only, step_said}
use Rattle.ba_proof.specs.Reading.{are_keys, context_at, entries_at, entry_at, few_at, fields_of, goal_at, is_key, keys_at, known_version, proof_at, proof_of, proof_or, proof_with, query_at, question_at, steps_at, too_many, version_at}
use Rattle.ba_proof.specs.Says.{HasField, HasManySteps, HasNoOther, IsFieldName, IsFirstBad, IsGood, IsNoProof, ReadsProof, SaysContext, SaysEach, SaysEntry, SaysProof, SaysQuery, SaysStep, SaysVersion, no_object, many_steps, bad_field}
use Rattle.ba_proof.specs.Shapes.{as_list, as_long, bad, list_at, or_bad}
use Rattle.ba_proof.specs.Steps.{step_at}
use Rattle.ba_proof.specs.Written.{list_json}
use Rattle.ba_proof.specs.declared.fault.ProofFault.{ProofFault}
use Rattle.ba_proof.specs.declared.fault.ProofFault.TheVariants.{TooLong, BadJson, BadField}
use Rattle.ba_proof.specs.declared.fault.ProofField.{ProofField}
use Rattle.ba_proof.specs.declared.fault.ProofField.TheVariants as field
use Rattle.ba_proof.specs.declared.proof.Proof.{Proof}
use Rattle.ba_proof.specs.declared.version.TheConstants.{LAST_VERSION}

-- ---- a field

-- what is read of the member, if it is there
abbrev at_field : {X : Type 0} → ProofField → (Data → Result X ProofFault) → Option Data → Result X ProofFault
at_field f fn found = or_bad f found >>= fn

field_is : {X : Type 0} (f : ProofField) (fn : Data → Result X ProofFault) (Says : Data → X → Type 0) → ((d : Data) (x : X) → fn d ≡ Ok x → Says d x) → (name : List ℕ) (d : Data) (x : X)
    → at_field f fn (get name d) ≡ Ok x → HasField Says name d x
field_is f fn Says sound name d x e =
    let it = bound (or_bad f (get name d)) fn x e in
    record { value = it.0; there = good f (get name d) it.0 it.1; says = sound it.0 x it.2 }

field_said : {X : Type 0} (f : ProofField) (fn : Data → Result X ProofFault) (Says : Data → X → Type 0) → ((d : Data) (x : X) → Says d x → fn d ≡ Ok x) → (name : List ℕ) (d : Data) (x : X)
    → HasField Says name d x → at_field f fn (get name d) ≡ Ok x
field_said f fn Says complete name d x h = ap (at_field f fn) h.there ∙ complete h.value x h.says

field_only : {X : Type 0} (f : ProofField) (fn : Data → Result X ProofFault) → ((d : Data) → OnlyBad f (fn d)) → (found : Option Data) → OnlyBad f (at_field f fn found)
field_only f fn only found = only_bind f (or_bad f found) fn (only_or f found) only

-- where it says nothing it is bad
nothing : {X : Type 0} (f : ProofField) (r : Result X ProofFault) → ((x : X) → ¬ (r ≡ Ok x)) → OnlyBad f r → r ≡ Err (BadField f)
nothing f (Ok x) none only = absurd (none x refl)
nothing f (Err e) none only = ap Err (only e refl)

-- a unit is one
as_unit : (r : Result ⊤ ProofFault) (u : ⊤) → r ≡ Ok u → r ≡ Ok tt
as_unit r tt e = e

-- ---- lists

abbrev list_fn : {X : Type 0} → ProofField → (Data → Result X ProofFault) → Data → Result (List X) ProofFault
list_fn f fn d = list_at f d >>= each fn

each_is : {X : Type 0} (f : ProofField) (fn : Data → Result X ProofFault) (Says : Data → X → Type 0) → ((d : Data) (x : X) → fn d ≡ Ok x → Says d x) → (d : Data) (xs : List X)
    → list_fn f fn d ≡ Ok xs → SaysEach Says d xs
each_is f fn Says sound d xs e =
    let items = bound (list_at f d) (each fn) xs e in
    record { ds = items.0; is = list_is f d items.0 items.1; said = each_zip fn Says sound items.0 xs items.2 }

each_said : {X : Type 0} (f : ProofField) (fn : Data → Result X ProofFault) (Says : Data → X → Type 0) → ((d : Data) (x : X) → Says d x → fn d ≡ Ok x) → (d : Data) (xs : List X)
    → SaysEach Says d xs → list_fn f fn d ≡ Ok xs
each_said f fn Says complete d xs h =
    ap (list_fn f fn) h.is ∙ (ap (λ r. r >>= each fn) (list_said f h.ds) ∙ zip_each fn Says complete h.ds xs h.said)

list_only : {X : Type 0} (f : ProofField) (fn : Data → Result X ProofFault) → ((d : Data) → OnlyBad f (fn d)) → (d : Data) → OnlyBad f (list_fn f fn d)
list_only f fn only d = only_bind f (list_at f d) (each fn) (only_or f (as_list d)) (only_each f fn only)

-- ---- the version

version_fn : Data → Result ℕ ProofFault
version_fn d = or_bad field.Version (option_and_then known_version (as_long d))

version_form : (found : Option Data) → version_at found ≡ at_field field.Version version_fn found
unfolding version_at version_fn
version_form None = refl
version_form (Some d) = refl

both : (a b : Bool) → (a && b) ≡ true → (a ≡ true) × (b ≡ true)
both true b e = (refl, e)
both false b e = cc e

version_is : (d : Data) (n : ℕ) → version_fn d ≡ Ok n → SaysVersion d n
unfolding version_fn
version_is d n e = by (as_long d) refl (good field.Version (option_and_then known_version (as_long d)) n e)
  where
    within : (m : ℕ) (b : Bool) → as_long d ≡ Some m → (nat_le 1 m && nat_le m LAST_VERSION) ≡ b → cond b (Some m) None ≡ Some n → SaysVersion d n
    within m true is t h =
        let same : m ≡ n = cc h in
        let two = both (nat_le 1 m) (nat_le m LAST_VERSION) t in
        (long_is d n (is ∙ ap Some same), subst (λ k. 1 ≤ k) same (leb-true 1 m two.0), subst (λ k. k ≤ LAST_VERSION) same (leb-true m LAST_VERSION two.1))
    within m false is t h = cc h

    by : (o : Option ℕ) → as_long d ≡ o → option_and_then known_version o ≡ Some n → SaysVersion d n
    by None is h = cc h
    by (Some m) is h = within m (nat_le 1 m && nat_le m LAST_VERSION) is refl h

and_true : (a b : Bool) → a ≡ true → b ≡ true → (a && b) ≡ true
and_true true b e h = h
and_true false b e h = cc e

version_said : (d : Data) (n : ℕ) → SaysVersion d n → version_fn d ≡ Ok n
unfolding version_fn
version_said d n h =
    ap (λ o. or_bad field.Version (option_and_then known_version o)) (long_said d n h.0)
    ∙ ap (λ b. or_bad field.Version (cond b (Some n) None)) (and_true (nat_le 1 n) (nat_le n LAST_VERSION) (le-leb 1 n h.1) (le-leb n LAST_VERSION h.2))

version_only : (d : Data) → OnlyBad field.Version (version_fn d)
unfolding version_fn
version_only d = only_or field.Version (option_and_then known_version (as_long d))

-- ---- the context

context_fn : List Parameter → Data → Result Context ProofFault
context_fn params d = or_bad field.Context (option_and_then (λ members. context_of params (given_members members)) (as_object d))

context_form : (params : List Parameter) (found : Option Data) → context_at params found ≡ at_field field.Context (context_fn params) found
unfolding context_at context_fn
context_form params None = refl
context_form params (Some d) = refl

context_said_by : (params : List Parameter) (d : Data) (c : Context) → context_fn params d ≡ Ok c → SaysContext params d c
unfolding context_fn
context_said_by params d c e =
    by (as_object d) refl (good field.Context (option_and_then (λ members. context_of params (given_members members)) (as_object d)) c e)
  where
    by : (o : Option Members) → as_object d ≡ o → option_and_then (λ members. context_of params (given_members members)) o ≡ Some c → SaysContext params d c
    by None is h = cc h
    by (Some ms) is h = (ms, object_is d ms is, context_is params (given_members ms) c h)

context_said : (params : List Parameter) (d : Data) (c : Context) → SaysContext params d c → context_fn params d ≡ Ok c
unfolding context_fn
context_said params d c h = ap (context_fn params) h.1 ∙ ap (or_bad field.Context) (is_context params (given_members h.0) c h.2)

context_only : (params : List Parameter) (d : Data) → OnlyBad field.Context (context_fn params d)
unfolding context_fn
context_only params d = only_or field.Context (option_and_then (λ members. context_of params (given_members members)) (as_object d))

-- ---- the others

entries_form : (policy : Policy) (found : Option Data)
    → entries_at policy.schema policy.params found ≡ at_field field.Entries (list_fn field.Entries (entry_at policy.schema policy.params)) found
unfolding entries_at
entries_form policy None = refl
entries_form policy (Some d) = refl

goal_form : (policy : Policy) (found : Option Data) → goal_at policy.schema policy.params found ≡ at_field field.Goal (query_at field.Goal policy.schema policy.params) found
unfolding goal_at
goal_form policy found = refl

steps_form : (params : List Parameter) (version : ℕ) (found : Option Data) → steps_at params version found ≡ at_field field.Steps (list_fn field.Steps (step_at params 0 version)) found
unfolding steps_at
steps_form params version None = refl
steps_form params version (Some d) = refl

-- ---- how many steps

abbrev long_or : Bool → Result ⊤ ProofFault
long_or b = cond b (Err TooLong) (Ok tt)

few_by : (found : Option Data) (ds : List Data) → found ≡ Some (list_json ds) → (b : Bool) → nat_lt most_steps (length ds) ≡ b
    → few_at found ≡ long_or b
unfolding few_at
few_by found ds is b t =
    ap (λ o. long_or (too_many (option_and_then as_list o))) is ∙ (ap (λ o. long_or (too_many o)) (as_list_said ds) ∙ ap long_or t)

many_read : (d : Data) → HasManySteps d → few_at (get (codes "steps") d) ≡ Err TooLong
many_read d h = few_by (get (codes "steps") d) h.0 h.1 true (lt-ltb most_steps (length h.0) h.2)

few_read : (found : Option Data) → ((ds : List Data) → found ≡ Some (list_json ds) → ¬ (most_steps < length ds)) → few_at found ≡ Ok tt
unfolding few_at
few_read None none = refl
few_read (Some d) none = by (as_list d) refl
  where
    within : (ds : List Data) (b : Bool) → d ≡ list_json ds → nat_lt most_steps (length ds) ≡ b → long_or b ≡ Ok tt
    within ds true is t = absurd (none ds (ap Some is) (ltb-true most_steps (length ds) t))
    within ds false is t = refl

    by : (o : Option (List Data)) → as_list d ≡ o → long_or (too_many o) ≡ Ok tt
    by None is = refl
    by (Some ds) is = within ds (nat_lt most_steps (length ds)) (as_list_is d ds is) refl

few_is : (d : Data) → few_at (get (codes "steps") d) ≡ Ok tt → ¬ (HasManySteps d)
few_is d e h = cc (sym (many_read d h) ∙ e)

many_is : (d : Data) (f : ProofFault) → few_at (get (codes "steps") d) ≡ Err f → (f ≡ TooLong) × HasManySteps d
unfolding few_at
many_is d f e = by (get (codes "steps") d) refl e
  where
    within : (ds : List Data) (b : Bool) → get (codes "steps") d ≡ Some (list_json ds) → nat_lt most_steps (length ds) ≡ b → long_or b ≡ Err f
        → (f ≡ TooLong) × HasManySteps d
    within ds true is t h = (cc h, (ds, is, ltb-true most_steps (length ds) t))
    within ds false is t h = cc h

    listed : (x : Data) (o : Option (List Data)) → get (codes "steps") d ≡ Some x → as_list x ≡ o → long_or (too_many o) ≡ Err f
        → (f ≡ TooLong) × HasManySteps d
    listed x None is l h = cc h
    listed x (Some ds) is l h = within ds (nat_lt most_steps (length ds)) (is ∙ ap Some (as_list_is x ds l)) refl h

    by : (o : Option Data) → get (codes "steps") d ≡ o → long_or (too_many (option_and_then as_list o)) ≡ Err f → (f ≡ TooLong) × HasManySteps d
    by None is h = cc h
    by (Some x) is h = listed x (as_list x) is refl h

-- ---- names

either : {P Q : Type 0} (a b : Bool) → (a ≡ true → P) → (b ≡ true → Q) → (a || b) ≡ true → P ⊎ Q
either true b f g e = inl (f refl)
either false b f g e = inr (g e)

key_is : (k : List ℕ) → is_key k ≡ true → IsFieldName k
unfolding is_key
key_is k e =
    either (bytes_eq k (codes "context")) _ (same_text k (codes "context"))
    (either (bytes_eq k (codes "entries")) _ (same_text k (codes "entries"))
    (either (bytes_eq k (codes "goal")) _ (same_text k (codes "goal"))
    (either (bytes_eq k (codes "steps")) (bytes_eq k (codes "version")) (same_text k (codes "steps")) (same_text k (codes "version"))))) e

key_said : (k : List ℕ) → IsFieldName k → is_key k ≡ true
unfolding is_key
key_said k (inl e) = ap is_key e
key_said k (inr (inl e)) = ap is_key e
key_said k (inr (inr (inl e))) = ap is_key e
key_said k (inr (inr (inr (inl e)))) = ap is_key e
key_said k (inr (inr (inr (inr e)))) = ap is_key e

names_are : (ms : Members) → are_keys ms ≡ true → HasNoOther ms
names_are no_members e = tt
names_are (member k d more) e = let two = both (is_key k) (are_keys more) e in (key_is k two.0, names_are more two.1)

names_said : (ms : Members) → HasNoOther ms → are_keys ms ≡ true
names_said no_members h = refl
names_said (member k d more) h = and_true (is_key k) (are_keys more) (key_said k h.0) (names_said more h.1)

abbrev keys_or : Bool → Result ⊤ ProofFault
keys_or b = cond b (Ok tt) (bad field.Keys)

keys_are : (ms : Members) → keys_at ms ≡ Ok tt → HasNoOther ms
unfolding keys_at
keys_are ms e = by (are_keys ms) refl e
  where
    by : (b : Bool) → are_keys ms ≡ b → keys_or b ≡ Ok tt → HasNoOther ms
    by true t h = names_are ms t
    by false t h = cc h

keys_said : (ms : Members) → HasNoOther ms → keys_at ms ≡ Ok tt
unfolding keys_at
keys_said ms h = ap keys_or (names_said ms h)

keys_only : (ms : Members) → OnlyBad field.Keys (keys_at ms)
unfolding keys_at
keys_only ms = only_cond field.Keys (are_keys ms) (Ok tt) (bad field.Keys) (only_ok field.Keys tt) (only_bad field.Keys)

-- ---- refused fields

module _ (policy : Policy) (d : Data) (ms : Members) where
  abbrev few : Result ⊤ ProofFault
  few = few_at (get (codes "steps") d)

  abbrev version_read : Result ℕ ProofFault
  version_read = version_at (get (codes "version") d)

  abbrev context_read : Result Context ProofFault
  context_read = context_at policy.params (get (codes "context") d)

  abbrev trace_read : Result (List TraceEntry) ProofFault
  trace_read = entries_at policy.schema policy.params (get (codes "entries") d)

  abbrev goal_read : Result Query ProofFault
  goal_read = goal_at policy.schema policy.params (get (codes "goal") d)

  abbrev steps_read : ℕ → Result (List Step) ProofFault
  steps_read version = steps_at policy.params version (get (codes "steps") d)

  few_fails : (e : ProofFault) → few ≡ Err e → fields_of policy d ms ≡ Err e
  unfolding fields_of
  few_fails e a = rw a refl

  version_fails : (e : ProofFault) → few ≡ Ok tt → version_read ≡ Err e → fields_of policy d ms ≡ Err e
  unfolding fields_of
  version_fails e a b = rw (a, b) refl

  question_fails : (v : ℕ) (e : ProofFault) → few ≡ Ok tt → version_read ≡ Ok v → question_at policy d ≡ Err e → fields_of policy d ms ≡ Err e
  unfolding fields_of
  question_fails v e a b c = rw (a, b, c) refl

  steps_fail : (v : ℕ) (p : Problem) (e : ProofFault) → few ≡ Ok tt → version_read ≡ Ok v → question_at policy d ≡ Ok p → steps_read v ≡ Err e → fields_of policy d ms ≡ Err e
  unfolding fields_of
  steps_fail v p e a b c s = rw (a, b, c, s) refl

  keys_fail : (v : ℕ) (p : Problem) (all : List Step) (e : ProofFault) → few ≡ Ok tt → version_read ≡ Ok v → question_at policy d ≡ Ok p → steps_read v ≡ Ok all → keys_at ms ≡ Err e
      → fields_of policy d ms ≡ Err e
  unfolding fields_of
  keys_fail v p all e a b c s k = rw (a, b, c, s, k) refl

  context_fails : (e : ProofFault) → context_read ≡ Err e → question_at policy d ≡ Err e
  unfolding question_at
  context_fails e a = rw a refl

  trace_fails : (c : Context) (e : ProofFault) → context_read ≡ Ok c → trace_read ≡ Err e → question_at policy d ≡ Err e
  unfolding question_at
  trace_fails c e a b = rw (a, b) refl

  goal_fails : (c : Context) (trace : List TraceEntry) (e : ProofFault) → context_read ≡ Ok c → trace_read ≡ Ok trace → goal_read ≡ Err e → question_at policy d ≡ Err e
  unfolding question_at
  goal_fails c trace e a b g = rw (a, b, g) refl

-- ---- the fields that are good so far

abbrev GoodVersion : Members → ℕ → Type 0
GoodVersion ms version = HasField SaysVersion (codes "version") (object ms) version

abbrev GoodContext : Policy → Members → Context → Type 0
GoodContext policy ms context = HasField (SaysContext policy.params) (codes "context") (object ms) context

abbrev GoodTrace : Policy → Members → List TraceEntry → Type 0
GoodTrace policy ms trace = HasField (SaysEach (SaysEntry policy)) (codes "entries") (object ms) trace

abbrev GoodGoal : Policy → Members → Query → Type 0
GoodGoal policy ms goal = HasField (SaysQuery policy) (codes "goal") (object ms) goal

abbrev GoodSteps : Policy → Members → ℕ → List Step → Type 0
GoodSteps policy ms version all = HasField (SaysEach (SaysStep policy.params 0 version)) (codes "steps") (object ms) all

-- a question that the members say
record Question (policy : Policy) (ms : Members) : Type 0 where
  version : ℕ
  context : Context
  trace : List TraceEntry
  goal : Query
  no_many : ¬ (HasManySteps (object ms))
  version_good : GoodVersion ms version
  context_good : GoodContext policy ms context
  trace_good : GoodTrace policy ms trace
  goal_good : GoodGoal policy ms goal

-- ---- what is told of the members of an object

module _ (policy : Policy) (reading : QueryReading) (ms : Members) where
  abbrev whole : Data
  whole = object ms

  version_field_is : (x : ℕ) → version_at (get (codes "version") whole) ≡ Ok x → HasField SaysVersion (codes "version") whole x
  version_field_is x e = field_is field.Version version_fn SaysVersion version_is (codes "version") whole x (sym (version_form _) ∙ e)

  version_field_said : (x : ℕ) → HasField SaysVersion (codes "version") whole x → version_at (get (codes "version") whole) ≡ Ok x
  version_field_said x h = version_form _ ∙ field_said field.Version version_fn SaysVersion version_said (codes "version") whole x h

  version_field_only : OnlyBad field.Version (version_at (get (codes "version") whole))
  version_field_only = subst (OnlyBad field.Version) (sym (version_form _)) (field_only field.Version version_fn version_only (get (codes "version") whole))

  context_field_is : (x : Context) → context_at policy.params (get (codes "context") whole) ≡ Ok x → HasField (SaysContext policy.params) (codes "context") whole x
  context_field_is x e = field_is field.Context (context_fn policy.params) (SaysContext policy.params) (context_said_by policy.params) (codes "context") whole x (sym (context_form policy.params _) ∙ e)

  context_field_said : (x : Context) → HasField (SaysContext policy.params) (codes "context") whole x → context_at policy.params (get (codes "context") whole) ≡ Ok x
  context_field_said x h = context_form policy.params _ ∙ field_said field.Context (context_fn policy.params) (SaysContext policy.params) (context_said policy.params) (codes "context") whole x h

  context_field_only : OnlyBad field.Context (context_at policy.params (get (codes "context") whole))
  context_field_only = subst (OnlyBad field.Context) (sym (context_form policy.params _)) (field_only field.Context (context_fn policy.params) (context_only policy.params) (get (codes "context") whole))

  entries_field_is : (x : List TraceEntry) → entries_at policy.schema policy.params (get (codes "entries") whole) ≡ Ok x → HasField (SaysEach (SaysEntry policy)) (codes "entries") whole x
  entries_field_is x e = field_is field.Entries (list_fn field.Entries (entry_at policy.schema policy.params)) (SaysEach (SaysEntry policy)) (each_is field.Entries (entry_at policy.schema policy.params) (SaysEntry policy) (entry_is policy reading)) (codes "entries") whole x (sym (entries_form policy _) ∙ e)

  entries_field_said : (x : List TraceEntry) → HasField (SaysEach (SaysEntry policy)) (codes "entries") whole x → entries_at policy.schema policy.params (get (codes "entries") whole) ≡ Ok x
  entries_field_said x h = entries_form policy _ ∙ field_said field.Entries (list_fn field.Entries (entry_at policy.schema policy.params)) (SaysEach (SaysEntry policy)) (each_said field.Entries (entry_at policy.schema policy.params) (SaysEntry policy) (entry_said policy reading)) (codes "entries") whole x h

  entries_field_only : OnlyBad field.Entries (entries_at policy.schema policy.params (get (codes "entries") whole))
  entries_field_only = subst (OnlyBad field.Entries) (sym (entries_form policy _)) (field_only field.Entries (list_fn field.Entries (entry_at policy.schema policy.params)) (list_only field.Entries (entry_at policy.schema policy.params) (entry_only policy)) (get (codes "entries") whole))

  goal_field_is : (x : Query) → goal_at policy.schema policy.params (get (codes "goal") whole) ≡ Ok x → HasField (SaysQuery policy) (codes "goal") whole x
  goal_field_is x e = field_is field.Goal (query_at field.Goal policy.schema policy.params) (SaysQuery policy) (query_is policy reading field.Goal) (codes "goal") whole x (sym (goal_form policy _) ∙ e)

  goal_field_said : (x : Query) → HasField (SaysQuery policy) (codes "goal") whole x → goal_at policy.schema policy.params (get (codes "goal") whole) ≡ Ok x
  goal_field_said x h = goal_form policy _ ∙ field_said field.Goal (query_at field.Goal policy.schema policy.params) (SaysQuery policy) (query_said policy reading field.Goal) (codes "goal") whole x h

  goal_field_only : OnlyBad field.Goal (goal_at policy.schema policy.params (get (codes "goal") whole))
  goal_field_only = subst (OnlyBad field.Goal) (sym (goal_form policy _)) (field_only field.Goal (query_at field.Goal policy.schema policy.params) (query_only policy field.Goal) (get (codes "goal") whole))

  steps_field_is : (v : ℕ) (x : List Step) → steps_at policy.params v (get (codes "steps") whole) ≡ Ok x → HasField (SaysEach (SaysStep policy.params 0 v)) (codes "steps") whole x
  steps_field_is v x e = field_is field.Steps (list_fn field.Steps (step_at policy.params 0 v)) (SaysEach (SaysStep policy.params 0 v)) (each_is field.Steps (step_at policy.params 0 v) (SaysStep policy.params 0 v) (step_is policy.params 0 v)) (codes "steps") whole x (sym (steps_form policy.params v _) ∙ e)

  steps_field_said : (v : ℕ) (x : List Step) → HasField (SaysEach (SaysStep policy.params 0 v)) (codes "steps") whole x → steps_at policy.params v (get (codes "steps") whole) ≡ Ok x
  steps_field_said v x h = steps_form policy.params v _ ∙ field_said field.Steps (list_fn field.Steps (step_at policy.params 0 v)) (SaysEach (SaysStep policy.params 0 v)) (each_said field.Steps (step_at policy.params 0 v) (SaysStep policy.params 0 v) (step_said policy.params 0 v)) (codes "steps") whole x h

  steps_field_only : (v : ℕ) → OnlyBad field.Steps (steps_at policy.params v (get (codes "steps") whole))
  steps_field_only v = subst (OnlyBad field.Steps) (sym (steps_form policy.params v _)) (field_only field.Steps (list_fn field.Steps (step_at policy.params 0 v)) (list_only field.Steps (step_at policy.params 0 v) (step_only policy.params 0 v)) (get (codes "steps") whole))

  abbrev Told : Result Proof ProofFault → Type 0
  Told (Ok proof) = SaysProof policy ms proof
  Told (Err TooLong) = HasManySteps whole
  Told (Err BadJson) = ⊥
  Told (Err (BadField f)) = (¬ (HasManySteps whole)) × IsFirstBad policy ms f

  -- a bad field is told as such
  told_bad : (f : ProofField) (e : ProofFault) → e ≡ BadField f → ¬ (HasManySteps whole) → IsFirstBad policy ms f → Told (Err e)
  told_bad f e same not_many first_bad = subst (λ x. Told (Err x)) (sym same) (not_many, first_bad)

  few_all : (all : List Step) (version : ℕ) → ¬ (HasManySteps whole) → HasField (SaysEach (SaysStep policy.params 0 version)) (codes "steps") whole all → length all ≤ most_steps
  few_all all version not_many h = by (nat_lt most_steps (length h.says.ds)) refl
    where
      by : (b : Bool) → nat_lt most_steps (length h.says.ds) ≡ b → length all ≤ most_steps
      by true t = absurd (not_many (h.says.ds, h.there ∙ ap Some h.says.is, ltb-true most_steps (length h.says.ds) t))
      by false t = subst (λ n. n ≤ most_steps) (zip_length (SaysStep policy.params 0 version) h.says.ds all h.says.said) (ltb-false most_steps (length h.says.ds) t)

  abbrev problem_in : Question policy ms → Problem
  problem_in q = problem_of policy q.context q.trace q.goal

  keys_told : (q : Question policy ms) (all : List Step) → GoodSteps policy ms q.version all → (r : Result ⊤ ProofFault) → keys_at ms ≡ r → Told (r >>= λ keys. Ok (proof_with (problem_in q) all))
  keys_told q all h (Ok u) e = record {
    version = q.version;
    context = q.context;
    trace = q.trace;
    goal = q.goal;
    version_is = q.version_good;
    context_is = q.context_good;
    trace_is = q.trace_good;
    goal_is = q.goal_good;
    steps_are = h;
    few_steps = few_all all q.version q.no_many h;
    no_other = keys_are ms (as_unit (keys_at ms) u e);
    problem_is = refl;
  }
  keys_told q all h (Err f) e =
      told_bad field.Keys f (keys_only ms f e) q.no_many
      ((q.version, q.version_good), (q.context, q.context_good), (q.trace, q.trace_good), (q.goal, q.goal_good), (q.version, all, q.version_good, h), (λ k. cc (sym (keys_said ms k) ∙ e)))

  abbrev then_keys : Problem → List Step → Result Proof ProofFault
  then_keys p all = keys_at ms >>= λ keys. Ok (proof_with p all)

  -- the file's version is one
  one_version : (v w : ℕ) → GoodVersion ms v → GoodVersion ms w → v ≡ w
  one_version v w h k = ok_same v w (sym (version_field_said v h) ∙ version_field_said w k)

  no_steps : (v : ℕ) (f : ProofFault) → GoodVersion ms v → steps_at policy.params v (get (codes "steps") whole) ≡ Err f → ¬ (IsGood policy ms field.Steps)
  no_steps v f h e (w, all, k, says) = cc (sym (steps_field_said v all (subst (λ n. GoodSteps policy ms n all) (one_version w v k h) says)) ∙ e)

  steps_told : (q : Question policy ms) (r : Result (List Step) ProofFault) → steps_at policy.params q.version (get (codes "steps") whole) ≡ r → Told (r >>= λ all. then_keys (problem_in q) all)
  steps_told q (Ok all) e = keys_told q all (steps_field_is q.version all e) (keys_at ms) refl
  steps_told q (Err f) e =
      told_bad field.Steps f (steps_field_only q.version f e) q.no_many
      ((q.version, q.version_good), (q.context, q.context_good), (q.trace, q.trace_good), (q.goal, q.goal_good), no_steps q.version f q.version_good e)

  abbrev then_steps : ℕ → Problem → Result Proof ProofFault
  then_steps v p = steps_at policy.params v (get (codes "steps") whole) >>= λ all. then_keys p all

  goal_told : (v : ℕ) (c : Context) (trace : List TraceEntry) → ¬ (HasManySteps whole) → GoodVersion ms v → GoodContext policy ms c → GoodTrace policy ms trace → (r : Result Query ProofFault)
      → goal_at policy.schema policy.params (get (codes "goal") whole) ≡ r → Told ((r >>= λ goal. Ok (problem_of policy c trace goal)) >>= then_steps v)
  goal_told v c trace not_many gv gc gt (Ok goal) e =
      steps_told
      (record {
        version = v;
        context = c;
        trace = trace;
        goal = goal;
        no_many = not_many;
        version_good = gv;
        context_good = gc;
        trace_good = gt;
        goal_good = goal_field_is goal e;
      }) (steps_at policy.params v (get (codes "steps") whole)) refl
  goal_told v c trace not_many gv gc gt (Err f) e =
      told_bad field.Goal f (goal_field_only f e) not_many ((v, gv), (c, gc), (trace, gt), (λ h. cc (sym (goal_field_said h.0 h.1) ∙ e)))

  abbrev then_goal : Context → List TraceEntry → Result Problem ProofFault
  then_goal c trace = goal_at policy.schema policy.params (get (codes "goal") whole) >>= λ goal. Ok (problem_of policy c trace goal)

  trace_told : (v : ℕ) (c : Context) → ¬ (HasManySteps whole) → GoodVersion ms v → GoodContext policy ms c → (r : Result (List TraceEntry) ProofFault)
      → entries_at policy.schema policy.params (get (codes "entries") whole) ≡ r → Told ((r >>= λ trace. then_goal c trace) >>= then_steps v)
  trace_told v c not_many gv gc (Ok trace) e = goal_told v c trace not_many gv gc (entries_field_is trace e) (goal_at policy.schema policy.params (get (codes "goal") whole)) refl
  trace_told v c not_many gv gc (Err f) e = told_bad field.Entries f (entries_field_only f e) not_many ((v, gv), (c, gc), (λ h. cc (sym (entries_field_said h.0 h.1) ∙ e)))

  abbrev then_trace : Context → Result Problem ProofFault
  then_trace c = entries_at policy.schema policy.params (get (codes "entries") whole) >>= λ trace. then_goal c trace

  context_told : (v : ℕ) → ¬ (HasManySteps whole) → GoodVersion ms v → (r : Result Context ProofFault) → context_at policy.params (get (codes "context") whole) ≡ r
      → Told ((r >>= λ c. then_trace c) >>= then_steps v)
  context_told v not_many gv (Ok c) e = trace_told v c not_many gv (context_field_is c e) (entries_at policy.schema policy.params (get (codes "entries") whole)) refl
  context_told v not_many gv (Err f) e = told_bad field.Context f (context_field_only f e) not_many ((v, gv), (λ h. cc (sym (context_field_said h.0 h.1) ∙ e)))

  question_told : (v : ℕ) → ¬ (HasManySteps whole) → GoodVersion ms v → Told (question_at policy whole >>= then_steps v)
  unfolding question_at
  question_told v not_many gv = context_told v not_many gv (context_at policy.params (get (codes "context") whole)) refl

  abbrev then_question : ℕ → Result Proof ProofFault
  then_question v = question_at policy whole >>= then_steps v

  version_told : ¬ (HasManySteps whole) → (r : Result ℕ ProofFault) → version_at (get (codes "version") whole) ≡ r → Told (r >>= λ v. then_question v)
  version_told not_many (Ok v) e = question_told v not_many (version_field_is v e)
  version_told not_many (Err f) e = told_bad field.Version f (version_field_only f e) not_many (λ h. cc (sym (version_field_said h.0 h.1) ∙ e))

  abbrev then_version : Result Proof ProofFault
  then_version = version_at (get (codes "version") whole) >>= λ v. then_question v

  few_told : (r : Result ⊤ ProofFault) → few_at (get (codes "steps") whole) ≡ r → Told (r >>= λ few. then_version)
  few_told (Ok u) e = version_told (few_is whole (as_unit (few_at (get (codes "steps") whole)) u e)) (version_at (get (codes "version") whole)) refl
  few_told (Err f) e = let two = many_is whole f e in subst (λ x. Told (Err x)) (sym two.0) two.1

  pub fields_told : Told (fields_of policy whole ms)
  unfolding fields_of
  fields_told = few_told (few_at (get (codes "steps") whole)) refl

  -- ---- what is said is read

  few_said : (all : List Step) (version : ℕ) → length all ≤ most_steps → GoodSteps policy ms version all → few_at (get (codes "steps") whole) ≡ Ok tt
  few_said all version few h =
      let wide : length h.says.ds ≤ most_steps = subst (λ n. n ≤ most_steps) (sym (zip_length (SaysStep policy.params 0 version) h.says.ds all h.says.said)) few in
      few_by (get (codes "steps") whole) h.says.ds (h.there ∙ ap Some h.says.is) false (le-ltb most_steps (length h.says.ds) wide)

  pub said_fields : (proof : Proof) → SaysProof policy ms proof → fields_of policy whole ms ≡ Ok proof
  said_fields proof h =
      fields_read policy whole ms (problem_of policy h.context h.trace h.goal) proof.steps h.version (few_said proof.steps h.version h.few_steps h.steps_are) (version_field_said h.version h.version_is)
      (question_reads policy whole h.context h.trace h.goal (context_field_said h.context h.context_is) (entries_field_said h.trace h.trace_is) (goal_field_said h.goal h.goal_is))
      (steps_field_said h.version proof.steps h.steps_are) (keys_said ms h.no_other)
      ∙ ap (λ (p : Problem). Ok (proof_with p proof.steps)) (sym h.problem_is)

  -- ---- and a fault is told

  no_many_read : ¬ (HasManySteps whole) → few_at (get (codes "steps") whole) ≡ Ok tt
  no_many_read not_many = few_read (get (codes "steps") whole) (λ ds is more. not_many (ds, is, more))

  pub many_refused : HasManySteps whole → fields_of policy whole ms ≡ Err TooLong
  many_refused h = few_fails policy whole ms TooLong (many_read whole h)

  asked : (c : Context) (trace : List TraceEntry) (goal : Query) → GoodContext policy ms c → GoodTrace policy ms trace → GoodGoal policy ms goal → question_at policy whole ≡ Ok (problem_of policy c trace goal)
  asked c trace goal gc gt gg = question_reads policy whole c trace goal (context_field_said c gc) (entries_field_said trace gt) (goal_field_said goal gg)

  pub bad_refused : (f : ProofField) → ¬ (HasManySteps whole) → IsFirstBad policy ms f → fields_of policy whole ms ≡ Err (BadField f)
  bad_refused field.Version not_many first_bad =
      version_fails policy whole ms _ (no_many_read not_many) (nothing field.Version _ (λ v e. first_bad (v, version_field_is v e)) version_field_only)
  bad_refused field.Context not_many first_bad =
      question_fails policy whole ms first_bad.0.0 _ (no_many_read not_many) (version_field_said first_bad.0.0 first_bad.0.1)
      (context_fails policy whole ms _ (nothing field.Context _ (λ c e. first_bad.1 (c, context_field_is c e)) context_field_only))
  bad_refused field.Entries not_many first_bad =
      question_fails policy whole ms first_bad.0.0 _ (no_many_read not_many) (version_field_said first_bad.0.0 first_bad.0.1)
      (trace_fails policy whole ms first_bad.1.0 _ (context_field_said first_bad.1.0 first_bad.1.1) (nothing field.Entries _ (λ trace e. first_bad.2 (trace, entries_field_is trace e)) entries_field_only))
  bad_refused field.Goal not_many first_bad =
      question_fails policy whole ms first_bad.0.0 _ (no_many_read not_many) (version_field_said first_bad.0.0 first_bad.0.1)
      (goal_fails policy whole ms first_bad.1.0 first_bad.2.0 _ (context_field_said first_bad.1.0 first_bad.1.1) (entries_field_said first_bad.2.0 first_bad.2.1)
      (nothing field.Goal _ (λ goal e. first_bad.3 (goal, goal_field_is goal e)) goal_field_only))
  bad_refused field.Steps not_many first_bad =
      steps_fail policy whole ms first_bad.0.0 (problem_of policy first_bad.1.0 first_bad.2.0 first_bad.3.0) _ (no_many_read not_many) (version_field_said first_bad.0.0 first_bad.0.1)
      (asked first_bad.1.0 first_bad.2.0 first_bad.3.0 first_bad.1.1 first_bad.2.1 first_bad.3.1)
      (nothing field.Steps _ (λ all e. first_bad.4 (first_bad.0.0, all, first_bad.0.1, steps_field_is first_bad.0.0 all e)) (steps_field_only first_bad.0.0))
  bad_refused field.Keys not_many first_bad =
      keys_fail policy whole ms first_bad.4.0 (problem_of policy first_bad.1.0 first_bad.2.0 first_bad.3.0) first_bad.4.1 _ (no_many_read not_many) (version_field_said first_bad.4.0 first_bad.4.2)
      (asked first_bad.1.0 first_bad.2.0 first_bad.3.0 first_bad.1.1 first_bad.2.1 first_bad.3.1) (steps_field_said first_bad.4.0 first_bad.4.1 first_bad.4.3)
      (nothing field.Keys _ (λ u e. first_bad.5 (keys_are ms (as_unit (keys_at ms) u e))) (keys_only ms))

-- ---- the bytes

module _ (policy : Policy) (reading : QueryReading) (bytes : List ℕ) where
  abbrev FileTold : Result Proof ProofFault → Type 0
  FileTold (Ok proof) = ReadsProof policy bytes proof
  FileTold (Err f) = IsNoProof policy bytes f

  lifted : (ms : Members) → IsJson bytes (object ms) → (r : Result Proof ProofFault) → Told policy reading ms r → FileTold r
  lifted ms is (Ok proof) h = (ms, is, h)
  lifted ms is (Err TooLong) h = many_steps ms is h
  lifted ms is (Err BadJson) h = absurd h
  lifted ms is (Err (BadField f)) h = bad_field ms is h.0 h.1

  other : (d : Data) → ((ms : Members) → ¬ (object ms ≡ d)) → read bytes ≡ Some d → FileTold (Err BadJson)
  other d differs reads = no_object (λ ms is. differs ms (same ms (sym is.reads ∙ reads)))
    where
      same : (ms : Members) → Some (object ms) ≡ Some d → object ms ≡ d
      same ms e = cc e

  value_told : (d : Data) → IsJson bytes d → FileTold (proof_at policy d)
  value_told null is = other null (λ ms e. cc e) is.reads
  value_told (boolean b) is = other (boolean b) (λ ms e. cc e) is.reads
  value_told (number n) is = other (number n) (λ ms e. cc e) is.reads
  value_told (string s) is = other (string s) (λ ms e. cc e) is.reads
  value_told (array ds) is = other (array ds) (λ ms e. cc e) is.reads
  value_told (object ms) is = lifted ms is (fields_of policy (object ms) ms) (fields_told policy reading ms)

  bytes_by : (b : Bool) (o : Option Data) → is_utf8 bytes ≡ b → read bytes ≡ o → FileTold (cond b (proof_or policy o) (Err BadJson))
  bytes_by true (Some d) t reads = value_told d (record { utf8 = IsUtf8-from_is_utf8 bytes t; reads = reads })
  bytes_by true None t reads = no_object (λ ms is. cc (sym is.reads ∙ reads))
  bytes_by false o t reads = no_object (λ ms is. cc (sym t ∙ is_utf8-from_IsUtf8 bytes is.utf8))

  file_told : FileTold (proof_of policy bytes)
  unfolding proof_of
  file_told = bytes_by (is_utf8 bytes) (read bytes) refl refl

  pub is_read : (proof : Proof) → proof_of policy bytes ≡ Ok proof → ReadsProof policy bytes proof
  is_read proof e = subst FileTold e file_told

  pub is_refused : (f : ProofFault) → proof_of policy bytes ≡ Err f → IsNoProof policy bytes f
  is_refused f e = subst FileTold e file_told

  pub reads : (proof : Proof) → ReadsProof policy bytes proof → proof_of policy bytes ≡ Ok proof
  reads proof (ms, is, says) = text_reads policy bytes (object ms) is.utf8 is.reads ∙ said_fields policy reading ms proof says

  -- bytes that are the JSON of no object are told so
  only_json : ((ms : Members) → ¬ (IsJson bytes (object ms))) → (r : Result Proof ProofFault) → proof_of policy bytes ≡ r → FileTold r → proof_of policy bytes ≡ Err BadJson
  only_json none (Ok proof) e (ms, is, says) = absurd (none ms is)
  only_json none (Err f) e (no_object h) = e
  only_json none (Err f) e (many_steps ms is h) = absurd (none ms is)
  only_json none (Err f) e (bad_field ms is not_many first_bad) = absurd (none ms is)

  pub refuses : (fault : ProofFault) → IsNoProof policy bytes fault → proof_of policy bytes ≡ Err fault
  refuses fault (no_object none) = only_json none (proof_of policy bytes) refl file_told
  refuses fault (many_steps ms is h) = text_reads policy bytes (object ms) is.utf8 is.reads ∙ many_refused policy reading ms h
  refuses fault (bad_field {f} ms is not_many first_bad) = text_reads policy bytes (object ms) is.utf8 is.reads ∙ bad_refused policy reading ms f not_many first_bad

  pub unique : (p q : Proof) → ReadsProof policy bytes p → ReadsProof policy bytes q → p ≡ q
  unique p q h k = ok_same p q (sym (reads p h) ∙ reads q k)
