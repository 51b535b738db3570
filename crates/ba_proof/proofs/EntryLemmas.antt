-- Entries that were written read back: a query, and a row of its width and kinds.
use Rattle.std.proofs.Common.{◌≡◌, ◌≢◌, ◌∙◌, ℕ, suc, pos, negsuc, ◌+◌, ◌==◌, inl, inr, List, [], ◌∷◌, ◌++◌, length, map, true, cond, Option, Some, None, refl, ap, eq-eqb}
use Rattle.std.specs.Prelude.{Ok, option_and_then, slice_get}
use Rattle.std.specs.List.{AllByRecursion, AllZip}
use Rattle.serde_json.specs.Data.{Data, unsigned, negative}
use Rattle.ba_model.specs.Fit.{PartFits, kind_of, kinds_of}
use Rattle.ba_model.specs.declared.policy.Parameter.{Parameter}
use Rattle.ba_model.specs.declared.query.Operand.{Operand}
use Rattle.ba_model.specs.declared.query.Operand.TheVariants.{Val}
use Rattle.ba_model.specs.declared.query.Part.{Part}
use Rattle.ba_model.specs.declared.query.Query.{Query}
use Rattle.ba_model.specs.declared.schema.Kind.{Kind}
use Rattle.ba_model.specs.declared.schema.Kind.TheVariants.{Int as IntKind, Text as TextKind}
use Rattle.ba_model.specs.declared.schema.Schema.{Schema}
use Rattle.ba_model.specs.declared.value.Value.{Value}
use Rattle.ba_model.specs.declared.value.Value.TheVariants as value
use Rattle.ba_kernel.specs.Asked.{MayBeOfKind}
use Rattle.ba_kernel.specs.declared.problem.ProblemEntry.{ProblemEntry}
use Rattle.ba_script.specs.Contexts.{of_kind}
use Rattle.ba_script.specs.Script.{given_from}
use Rattle.ba_sql_print.specs.Printed.{query_text}
use Rattle.ba_sql_query.specs.Texts.{query_of}
use Rattle.ba_proof.proofs.ContextLemmas.{longer}
use Rattle.ba_proof.proofs.ShapeLemmas.{items_are}
use Rattle.ba_proof.specs.ReadBack.{ValueSpells}
use Rattle.ba_proof.specs.Says.{SaysValue}
use Rattle.ba_proof.specs.Reading.{entry_at, entry_of, entry_with, head_kind, row_of, row_under, row_value, value_at, values_from}
use Rattle.ba_proof.specs.Written.{entry_json, literal_in, literal_json, value_json}

-- ---- values by their kinds

row_value_reads : (k : Kind) (d : Data) (v : Value) → MayBeOfKind k v → SaysValue d v → row_value k d ≡ Some v
row_value_reads k d value.Null h s = ap (row_value k) s
row_value_reads IntKind d (value.Int n) (inl h) s = ap (row_value IntKind) s.1 ∙ ap (λ o. of_kind IntKind (given_from None o)) s.2
row_value_reads TextKind d (value.Int n) (inl h) s = absurd h
row_value_reads k d (value.Int n) (inr e) s = cc e
row_value_reads IntKind d (value.Text t) (inl h) s = absurd h
row_value_reads TextKind d (value.Text t) (inl h) s = ap (row_value TextKind) s
row_value_reads k d (value.Text t) (inr e) s = cc e

-- a value that was written is said
value_says : (v : Value) → ValueSpells v → SaysValue (value_json v) v
value_says value.Null s = refl
value_says (value.Int (pos n)) s = (unsigned n, refl, ap (λ b. cond b (Some (pos n)) None) s)
value_says (value.Int (negsuc n)) s = (negative (negsuc n), refl, refl)
value_says (value.Text t) s = refl

pub all_say : (vs : List Value) → AllByRecursion ValueSpells vs → AllZip SaysValue (map value_json vs) vs
all_say [] s = tt
all_say (v ∷ vs) s = (value_says v s.0, all_say vs s.1)

module _ (schema : Schema) (params : List Parameter) (part : Part) where
  -- from a place on the head's operands have these kinds
  abbrev pub KindsFrom : ℕ → List Kind → Type 0
  KindsFrom place [] = Unit {0}
  KindsFrom place (k ∷ ks) = (head_kind schema params part place ≡ Some k) × KindsFrom (place + 1) ks

  value_there : (place : ℕ) (k : Kind) (d : Data) (v : Value) → head_kind schema params part place ≡ Some k → MayBeOfKind k v → SaysValue d v
      → value_at schema params part place d ≡ Ok v
  unfolding value_at
  value_there place k d v at h s = rw (at, row_value_reads k d v h s) refl

  values_read : (place : ℕ) (ks : List Kind) (ds : List Data) (vs : List Value) → KindsFrom place ks → AllZip MayBeOfKind ks vs → AllZip SaysValue ds vs
      → values_from schema params part place ds ≡ Ok vs
  values_read place [] [] [] at h s = refl
  values_read place [] (d ∷ ds) [] at h s = absurd s
  values_read place [] ds (v ∷ vs) at h s = absurd h
  values_read place (k ∷ ks) ds [] at h s = absurd h
  values_read place (k ∷ ks) [] (v ∷ vs) at h s = absurd s
  values_read place (k ∷ ks) (d ∷ ds) (v ∷ vs) at h s = rw (value_there place k d v at.0 h.0 s.0, values_read (place + 1) ks ds vs at.1 h.1 s.1) refl

-- the kinds of a head's operands, from a place on
kind_at : (f : Operand → Option Kind) (front xs : List Operand) (x : Operand) (n : ℕ) (k : Kind) → n ≡ length front → f x ≡ Some k
    → option_and_then f (slice_get (front ++ x ∷ xs) n) ≡ Some k
kind_at f [] xs x n k e h = ap (λ m. option_and_then f (slice_get (x ∷ xs) m)) e ∙ h
kind_at f (y ∷ front) xs x n k e h = ap (λ m. option_and_then f (slice_get (y ∷ (front ++ x ∷ xs)) m)) e ∙ kind_at f front xs x (length front) k refl h

onto : {X : Type 0} (xs : List X) (x : X) (ys : List X) → xs ++ x ∷ ys ≡ (xs ++ x ∷ []) ++ ys
onto [] x ys = refl
onto (y ∷ xs) x ys = ap (λ zs. y ∷ zs) (onto xs x ys)

head_some : {X Y : Type 0} (f : X → Option Y) (x : X) (xs : List X) (y : Y) (ys : List Y) → map f (x ∷ xs) ≡ map Some (y ∷ ys) → (f x ≡ Some y) × (map f xs ≡ map Some ys)
head_some f x xs y ys e = (cc e, cc e)

pub kinds_there : (schema : Schema) (params : List Parameter) (part : Part) (front xs : List Operand) (n : ℕ) (ks : List Kind) → part.head ≡ front ++ xs → n ≡ length front
    → map (kind_of schema (kinds_of params) [] part.from) xs ≡ map Some ks → KindsFrom schema params part n ks
kinds_there schema params part front [] n [] is at e = tt
kinds_there schema params part front [] n (k ∷ ks) is at e = cc e
kinds_there schema params part front (x ∷ xs) n [] is at e = cc e
kinds_there schema params part front (x ∷ xs) n (k ∷ ks) is at e =
    let two = head_some (kind_of schema (kinds_of params) [] part.from) x xs k ks e in (
      ap (λ all. option_and_then (kind_of schema (kinds_of params) [] part.from) (slice_get all n)) is ∙ kind_at (kind_of schema (kinds_of params) [] part.from) front xs x n k at two.0,
      kinds_there schema params part (front ++ x ∷ []) xs (n + 1) ks (is ∙ onto front x xs) (longer front x n at) two.1,
    )

-- ---- rows

same_width : {X Y Z : Type 0} (f : X → Option Y) (xs : List X) (ys : List Y) (zs : List Z) (P : Y → Z → Type 0) → map f xs ≡ map Some ys → AllZip P ys zs → length zs ≡ length xs
same_width f [] [] [] P e h = refl
same_width f [] [] (z ∷ zs) P e h = absurd h
same_width f [] (y ∷ ys) zs P e h = cc e
same_width f (x ∷ xs) [] zs P e h = cc e
same_width f (x ∷ xs) (y ∷ ys) [] P e h = absurd h
same_width f (x ∷ xs) (y ∷ ys) (z ∷ zs) P e h = ap suc (same_width f xs ys zs P (head_some f x xs y ys e).1 h.1)

pub zip_length : {X Y : Type 0} (P : X → Y → Type 0) (xs : List X) (ys : List Y) → AllZip P xs ys → length xs ≡ length ys
zip_length P [] [] h = refl
zip_length P [] (y ∷ ys) h = absurd h
zip_length P (x ∷ xs) [] h = absurd h
zip_length P (x ∷ xs) (y ∷ ys) h = ap suc (zip_length P xs ys h.1)

row_reads : (schema : Schema) (params : List Parameter) (part : Part) (ks : List Kind) (ds : List Data) (vs : List Value)
    → map (kind_of schema (kinds_of params) [] part.from) part.head ≡ map Some ks → AllZip MayBeOfKind ks vs → AllZip SaysValue ds vs → row_under schema params part ds ≡ Ok vs
unfolding row_under
row_reads schema params part ks ds vs e h s =
    let wide : length ds ≡ length part.head = zip_length SaysValue ds vs s ∙ same_width _ part.head ks vs MayBeOfKind e h in
    let test : (length ds == length part.head) ≡ true = eq-eqb _ _ wide in
    rw (test, values_read schema params part 0 ks ds vs (kinds_there schema params part [] part.head 0 ks refl refl e) h s) refl

pub first_part : (schema : Schema) (params : List Parameter) (q : Query) (ds : List Data) (vs : List Value) (parts : List Part) (ks : List Kind) → q.parts ≡ parts → parts ≢ []
    → AllByRecursion (PartFits schema (kinds_of params) [] ks) parts → AllZip MayBeOfKind ks vs → AllZip SaysValue ds vs → row_of schema params q ds ≡ Ok vs
first_part schema params q ds vs [] ks is some fits h s = absurd (some refl)
first_part schema params q ds vs (part ∷ parts) ks is some fits h s = rw is (row_reads schema params part ks ds vs fits.0.head h s)

-- ---- entries

literals : (vs : List Value) → map (λ it. literal_json (literal_in it)) (map Val vs) ≡ map value_json vs
literals [] = refl
literals (v ∷ vs) = ap (λ all. value_json v ∷ all) (literals vs)

abbrev pub as_entry : Query → List Value → ProblemEntry
as_entry q row = record { query = q; row = map Val row }

pub entry_reads : (schema : Schema) (params : List Parameter) (q : Query) (row : List Value) → query_of schema params (query_text schema params q) ≡ Ok q
    → row_of schema params q (map value_json row) ≡ Ok row → entry_at schema params (entry_json schema params (as_entry q row)) ≡ Ok (entry_with q row)
unfolding entry_json entry_of
entry_reads schema params q row query values = rw (query, items_are (map (λ it. literal_json (literal_in it)) (map Val row)), literals row, values) refl
