-- A proof that was written reads back.
use Rattle.std.proofs.Common.{◌≡◌, ◌∙◌, ℕ, suc, ◌≤◌, List, [], ◌∷◌, ◌++◌, length, map, All, Bool, true, false, ◌||◌, cond, Some, refl, sym, ap, ap₂, subst, arith, codes, nat_lt, nat_le}
use Rattle.std.specs.Prelude.{IfOk, Result, Ok, Err}
use Rattle.std.specs.List.{AllByRecursion, AllZip, flat_map, list_any}
use Rattle.std.specs.Str.{IsUtf8}
use Rattle.std.proofs.lemmas.Bool.{ltb-true}
use Rattle.std.proofs.lemmas.List.Elements.{recursion_from_All}
use Rattle.serde_json.specs.Data.{Data, Members, no_members, member, object, string, depth}
use Rattle.serde_json.specs.Find.{get}
use Rattle.serde_json.specs.Read.{max_depth, read}
use Rattle.serde_json.specs.Written.{compact_text, has_float}
use Rattle.ba_model.specs.Fit.{IsQuery, PartFits, kinds_of}
use Rattle.ba_model.specs.Readings.{◌>>=◌, each}
use Rattle.ba_model.specs.Limits.{most_steps}
use Rattle.ba_model.specs.declared.policy.Context.{Context}
use Rattle.ba_model.specs.declared.policy.Parameter.{Parameter}
use Rattle.ba_model.specs.declared.policy.Policy.{Policy}
use Rattle.ba_model.specs.declared.query.Query.{Query}
use Rattle.ba_model.specs.declared.value.Value.{Value}
use Rattle.ba_comply.specs.declared.trace.TraceEntry.{TraceEntry}
use Rattle.ba_kernel.specs.Asked.{MayBeOfKind, RecordFits}
use Rattle.ba_kernel.specs.Problems.{entries_of, problem_of}
use Rattle.ba_kernel.specs.declared.problem.Problem.{Problem}
use Rattle.ba_kernel.specs.declared.step.Step.{Step}
use Rattle.ba_script.specs.Contexts.{context_of}
use Rattle.ba_script.specs.Script.{given_members}
use Rattle.ba_sql_print.specs.Printed.{query_text}
use Rattle.ba_sql_print.specs.ReadBack.{IsPrintable, PrintedQueryReadsBack}
use Rattle.ba_sql_query.specs.Texts.{query_of}
use Rattle.ba_proof.proofs.ContextLemmas.{context_reads}
use Rattle.ba_proof.proofs.EntryLemmas.{all_say, as_entry, entry_reads, first_part}
use Rattle.ba_proof.proofs.JsonLemmas.{proof_shallow, proof_whole}
use Rattle.ba_proof.proofs.ReadLemmas.{text_reads}
use Rattle.ba_proof.proofs.ShapeLemmas.{items_are}
use Rattle.ba_proof.proofs.StepLemmas.{HasVersion, all_steps}
use Rattle.ba_proof.specs.ReadBack.{IsWritable, ReadsBack, RecordSpells, StepSpells, ValueSpells}
use Rattle.ba_proof.specs.Reading.{context_at, entries_at, entry_at, entry_with, few_at, fields_of, goal_at, is_key, keys_at, proof_at, proof_with, question_at, steps_at, version_at}
use Rattle.ba_proof.specs.Steps.{step_at}
use Rattle.ba_proof.specs.Written.{count, entry_json, is_rule, list_json, proof_json, proof_text, step_json, value_json, version_of}
use Rattle.ba_proof.specs.declared.version.TheConstants.{RULE_VERSION}

-- ---- lists

map_append : {X Y : Type 0} (f : X → Y) (xs ys : List X) → map f (xs ++ ys) ≡ map f xs ++ map f ys
map_append f [] ys = refl
map_append f (x ∷ xs) ys = ap (λ zs. f x ∷ zs) (map_append f xs ys)

each_append : {A B F : Type 0} (f : A → Result B F) (xs ys : List A) (us vs : List B) → each f xs ≡ Ok us → each f ys ≡ Ok vs → each f (xs ++ ys) ≡ Ok (us ++ vs)
each_append f [] ys us vs d e = let none : [] ≡ us = cc d in subst (λ ws. each f ys ≡ Ok (ws ++ vs)) none e
each_append {A = A} {B = B} {F = F} f (x ∷ xs) ys us vs d e = by (f x) (each f xs) refl refl d (λ zs g. each_append f xs ys zs vs g e)
  where
    by : (r : Result B F) (q : Result (List B) F) → f x ≡ r → each f xs ≡ q → (r >>= λ y. (q >>= λ zs. Ok (y ∷ zs))) ≡ Ok us
        → ((zs : List B) → each f xs ≡ Ok zs → each f (xs ++ ys) ≡ Ok (zs ++ vs)) → (f x >>= λ y. (each f (xs ++ ys) >>= λ zs. Ok (y ∷ zs))) ≡ Ok (us ++ vs)
    by (Ok y) (Ok zs) h g k more = let all : y ∷ zs ≡ us = cc k in rw (h, more zs g) (ap (λ ws. Ok (ws ++ vs)) all)
    by (Ok y) (Err a) h g k more = cc k
    by (Err a) q h g k more = cc k

-- ---- entries

-- each recorded row as an entry of its own
abbrev pub singles_of : TraceEntry → List TraceEntry
singles_of it = map (entry_with it.query) it.rows

abbrev pub singles : List TraceEntry → List TraceEntry
singles trace = flat_map singles_of trace

rows_alone : (q : Query) (rows : List (List Value)) → flat_map entries_of (map (entry_with q) rows) ≡ map (as_entry q) rows
rows_alone q [] = refl
rows_alone q (row ∷ rows) = ap (λ all. as_entry q row ∷ all) (rows_alone q rows)

flat_append : {X Y : Type 0} (f : X → List Y) (xs ys : List X) → flat_map f (xs ++ ys) ≡ flat_map f xs ++ flat_map f ys
flat_append f [] ys = refl
flat_append f (x ∷ xs) ys = ap (λ zs. f x ++ zs) (flat_append f xs ys) ∙ assoc (f x) (flat_map f xs) (flat_map f ys)
  where
    assoc : {Y : Type 0} (xs ys zs : List Y) → xs ++ (ys ++ zs) ≡ (xs ++ ys) ++ zs
    assoc [] ys zs = refl
    assoc (x ∷ xs) ys zs = ap (λ all. x ∷ all) (assoc xs ys zs)

-- they record the same
same_entries : (trace : List TraceEntry) → flat_map entries_of (singles trace) ≡ flat_map entries_of trace
same_entries [] = refl
same_entries (it ∷ trace) =
    flat_append entries_of (singles_of it) (singles trace) ∙ ap₂ (λ xs ys. xs ++ ys) (rows_alone it.query it.rows) (same_entries trace)

module _ (policy : Policy) (prints : PrintedQueryReadsBack) where
  rows_read : (q : Query) (rows : List (List Value)) (fits : IsQuery policy.schema (kinds_of policy.params) [] q) → IsPrintable policy.schema policy.params q
      → AllByRecursion (AllZip MayBeOfKind fits.fits.kinds) rows → AllByRecursion (All ValueSpells) rows
      → each (entry_at policy.schema policy.params) (map (entry_json policy.schema policy.params) (map (as_entry q) rows)) ≡ Ok (map (entry_with q) rows)
  rows_read q [] fits prints_it kinds spells = refl
  rows_read q (row ∷ rows) fits prints_it kinds spells =
      let values = first_part policy.schema policy.params q (map value_json row) row q.parts fits.fits.kinds refl fits.fits.some_part (recursion_from_All (PartFits policy.schema (kinds_of policy.params) [] fits.fits.kinds) q.parts fits.fits.parts) kinds.0 (all_say row (recursion_from_All ValueSpells row spells.0)) in
      rw (entry_reads policy.schema policy.params q row (prints policy.schema policy.params q prints_it) values, rows_read q rows fits prints_it kinds.1 spells.1) refl

  trace_reads : (trace : List TraceEntry) → AllByRecursion (RecordFits policy) trace → AllByRecursion (RecordSpells policy) trace
      → each (entry_at policy.schema policy.params) (map (entry_json policy.schema policy.params) (flat_map entries_of trace)) ≡ Ok (singles trace)
  trace_reads [] fits spells = refl
  trace_reads (it ∷ trace) fits spells =
      let first = rows_read it.query it.rows fits.0.query spells.0.query (recursion_from_All (AllZip MayBeOfKind fits.0.query.fits.kinds) it.rows fits.0.rows) (recursion_from_All (All ValueSpells) it.rows spells.0.rows) in
      let rest = trace_reads trace fits.1 spells.1 in
      ap (each (entry_at policy.schema policy.params)) (map_append (entry_json policy.schema policy.params) (entries_of it) (flat_map entries_of trace))
      ∙ each_append (entry_at policy.schema policy.params) (map (entry_json policy.schema policy.params) (entries_of it)) _ (singles_of it) (singles trace) first rest

-- ---- versions

versions : (v : ℕ) (all : List Step) → nat_le RULE_VERSION v ≡ true → AllByRecursion (HasVersion v) all
versions v [] le = tt
versions v (step ∷ all) le = (λ is. le, versions v all le)

no_versions : (v : ℕ) (all : List Step) → list_any is_rule all ≡ false → AllByRecursion (HasVersion v) all
no_versions v [] none = tt
no_versions v (step ∷ all) none = by (is_rule step) refl none (λ h. no_versions v all h)
  where
    by : (b : Bool) → is_rule step ≡ b → (b || list_any is_rule all) ≡ false → (list_any is_rule all ≡ false → AllByRecursion (HasVersion v) all)
        → AllByRecursion (HasVersion v) (step ∷ all)
    by true e h rest = cc h
    by false e h rest = (λ is. (let wrong : true ≡ false = sym is ∙ e in cc wrong), rest h)

have_versions : (all : List Step) → AllByRecursion (HasVersion (version_of all)) all
have_versions all = by (list_any is_rule all) refl
  where
    by : (b : Bool) → list_any is_rule all ≡ b → AllByRecursion (HasVersion (cond b RULE_VERSION 1)) all
    by true e = versions RULE_VERSION all refl
    by false e = no_versions 1 all e

version_reads : (all : List Step) → version_at (Some (count (version_of all))) ≡ Ok (version_of all)
unfolding version_at
version_reads all = by (list_any is_rule all)
  where
    by : (b : Bool) → version_at (Some (count (cond b RULE_VERSION 1))) ≡ Ok (cond b RULE_VERSION 1)
    by true = refl
    by false = refl

-- ---- the fields

pub fields_read : (policy : Policy) (d : Data) (ms : Members) (problem : Problem) (all : List Step) (v : ℕ) → few_at (get (codes "steps") d) ≡ Ok tt
    → version_at (get (codes "version") d) ≡ Ok v → question_at policy d ≡ Ok problem → steps_at policy.params v (get (codes "steps") d) ≡ Ok all → keys_at ms ≡ Ok tt
    → fields_of policy d ms ≡ Ok (proof_with problem all)
unfolding fields_of
fields_read policy d ms problem all v few version question steps keys = rw (few, version, question, steps, keys) refl

pub question_reads : (policy : Policy) (d : Data) (c : Context) (trace : List TraceEntry) (q : Query) → context_at policy.params (get (codes "context") d) ≡ Ok c
    → entries_at policy.schema policy.params (get (codes "entries") d) ≡ Ok trace → goal_at policy.schema policy.params (get (codes "goal") d) ≡ Ok q
    → question_at policy d ≡ Ok (problem_of policy c trace q)
unfolding question_at
question_reads policy d c trace q context entries goal = rw (context, entries, goal) refl

length_map : {X Y : Type 0} (f : X → Y) (xs : List X) → length (map f xs) ≡ length xs
length_map f [] = refl
length_map f (x ∷ xs) = ap suc (length_map f xs)

few_read : (ds : List Data) → length ds ≤ most_steps → few_at (Some (list_json ds)) ≡ Ok tt
unfolding few_at
few_read ds h = let small : nat_lt most_steps (length ds) ≡ false = not_more (length ds) h in rw (items_are ds, small) refl
  where
    not_more : (n : ℕ) → n ≤ most_steps → nat_lt most_steps n ≡ false
    not_more n h = by (nat_lt most_steps n) refl
      where
        by : (b : Bool) → nat_lt most_steps n ≡ b → b ≡ false
        by true e = let more = ltb-true most_steps n e in absurd (omega (arith, more, h))
        by false e = refl

steps_read : (params : List Parameter) (v : ℕ) (ds : List Data) (all : List Step) → each (step_at params 0 v) ds ≡ Ok all → steps_at params v (Some (list_json ds)) ≡ Ok all
unfolding steps_at
steps_read params v ds all e = rw (items_are ds) e

entries_read : (policy : Policy) (ds : List Data) (trace : List TraceEntry) → each (entry_at policy.schema policy.params) ds ≡ Ok trace
    → entries_at policy.schema policy.params (Some (list_json ds)) ≡ Ok trace
unfolding entries_at
entries_read policy ds trace e = rw (items_are ds) e

goal_reads : (policy : Policy) (q : Query) (text : List ℕ) → query_of policy.schema policy.params text ≡ Ok q → goal_at policy.schema policy.params (Some (string text)) ≡ Ok q
unfolding goal_at
goal_reads policy q text e = rw e refl

context_field : (params : List Parameter) (ms : Members) (c : Context) → context_of params (given_members ms) ≡ Some c → context_at params (Some (object ms)) ≡ Ok c
unfolding context_at
context_field params ms c e = rw e refl

keys_read : (a b c d e : Data) → keys_at (member (codes "context") a (member (codes "entries") b (member (codes "goal") c (member (codes "steps") d (member (codes "version") e no_members))))) ≡ Ok tt
unfolding keys_at is_key
keys_read a b c d e = refl

same_problem : (policy : Policy) (c : Context) (trace : List TraceEntry) (q : Query) → problem_of policy c (singles trace) q ≡ problem_of policy c trace q
same_problem policy c trace q = ap (λ es. record (problem_of policy c trace q) { entries = es }) (same_entries trace)

pub data_reads : PrintedQueryReadsBack → (policy : Policy) (c : Context) (trace : List TraceEntry) (q : Query) (all : List Step) → IsWritable policy c trace q all
    → proof_at policy (proof_json (problem_of policy c trace q) all) ≡ Ok (proof_with (problem_of policy c trace q) all)
unfolding proof_json
data_reads prints policy c trace q all w =
    let p = problem_of policy c trace q in
    let values = context_reads policy.params c.values w.goal.params_apart w.fits.context (recursion_from_All ValueSpells c.values w.context) in
    let recorded = trace_reads policy prints trace (recursion_from_All (RecordFits policy) trace w.fits.trace_fits) (recursion_from_All (RecordSpells policy) trace w.entries) in
    let taken = all_steps policy.params 0 (version_of all) all w.goal.params_apart (recursion_from_All (StepSpells policy.params 0) all w.steps) (have_versions all) in
    let question = question_reads policy (proof_json p all) c (singles trace) q (context_field policy.params _ c values) (entries_read policy _ (singles trace) recorded)
    (goal_reads policy q (query_text policy.schema policy.params q) (prints policy.schema policy.params q w.goal)) in
    fields_read policy (proof_json p all) _ p all (version_of all) (few_read (map (step_json policy.params 0) all) (subst (λ n. n ≤ most_steps) (sym (length_map (step_json policy.params 0) all)) w.few))
    (version_reads all) (question ∙ ap Ok (same_problem policy c trace q)) (steps_read policy.params (version_of all) _ all taken) (keys_read _ _ _ _ _)

pub reads_back : PrintedQueryReadsBack → (p : Problem) (all : List Step) (bytes : List ℕ) → IsUtf8 bytes → read bytes ≡ Some (proof_json p all) → ReadsBack p all bytes
reads_back prints p all bytes text reading policy c trace q w e =
    text_reads policy bytes (proof_json p all) text reading
    ∙ ap (λ x. proof_at policy (proof_json x all)) e ∙ data_reads prints policy c trace q all w ∙ ap (λ x. Ok (proof_with x all)) (sym e)

-- ---- what a writing ensures

pub ok_both : {T E : Type 0} (r : Result T E) (P Q R : T → Type 0) → ((x : T) → P x → Q x → R x) → IfOk r P → IfOk r Q → IfOk r R
ok_both (Ok x) P Q R f p q = f x p q
ok_both (Err e) P Q R f p q = tt

pub text_is : (p : Problem) (all : List Step) (d : Data) (bytes : List ℕ) → d ≡ proof_json p all → (has_float d ≡ false → bytes ≡ compact_text d) → bytes ≡ proof_text p all
text_is p all d bytes made text = text (ap has_float made ∙ proof_whole p all) ∙ ap compact_text made

pub json_reads_back : PrintedQueryReadsBack → (p : Problem) (all : List Step) (d : Data) (bytes : List ℕ) → d ≡ proof_json p all → IsUtf8 bytes
    → (depth d ≤ max_depth → read bytes ≡ Some d) → ReadsBack p all bytes
json_reads_back prints p all d bytes made text reading =
    reads_back prints p all bytes text (reading (subst (λ (it : Data). depth it ≤ max_depth) (sym made) (proof_shallow p all)) ∙ ap Some made)
