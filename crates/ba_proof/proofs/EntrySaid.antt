-- A query or an entry is read exactly where it is said.
use Rattle.std.proofs.Common.{◌≡◌, ◌∙◌, ℕ, ℤ, ◌+◌, ◌==◌, ◌&&◌, List, [], ◌∷◌, length, All, Bool, true, false, Option, Some, None, Result, Ok, Err, refl, sym, ap, subst, codes}
use Rattle.std.specs.Prelude.{option_and_then, slice_get}
use Rattle.std.specs.List.{AllZip}
use Rattle.std.specs.Str.{bytes_eq}
use Rattle.std.proofs.lemmas.List.Elements.{recursion_from_All}
use Rattle.serde_json.specs.Data.{Data, Members, Num, null, boolean, number, string, array, object, no_members, member}
use Rattle.serde_json.specs.Find.{as_i64, as_object}
use Rattle.ba_model.specs.Fit.{IsQuery, PartFits, kinds_of}
use Rattle.ba_model.specs.Readings.{◌>>=◌, widened}
use Rattle.ba_model.specs.declared.policy.Policy.{Policy}
use Rattle.ba_model.specs.declared.query.Part.{Part}
use Rattle.ba_model.specs.declared.query.Query.{Query}
use Rattle.ba_model.specs.declared.schema.Kind.{Kind}
use Rattle.ba_model.specs.declared.schema.Kind.TheVariants.{Int as IntKind, Text as TextKind}
use Rattle.ba_model.specs.declared.value.Value.{Value}
use Rattle.ba_model.specs.declared.value.Value.TheVariants as value
use Rattle.ba_comply.specs.declared.trace.TraceEntry.{TraceEntry}
use Rattle.ba_kernel.specs.Asked.{MayBeOfKind}
use Rattle.ba_script.specs.Contexts.{of_kind}
use Rattle.ba_script.specs.Script.{given_from}
use Rattle.ba_script.specs.declared.line.Given.TheVariants.{Other}
use Rattle.ba_sql_query.specs.Reads.{QueryReading}
use Rattle.ba_sql_query.specs.Texts.{query_of}
use Rattle.ba_sql_query.specs.declared.fault.ReadQueryFault.{ReadQueryFault}
use Rattle.ba_proof.proofs.EntryLemmas.{first_part}
use Rattle.ba_proof.proofs.FitLemmas.{bound, good, record_fits, wide_enough}
use Rattle.ba_proof.proofs.PutLemmas.{same_text}
use Rattle.ba_proof.proofs.QueryLemmas.{query_is_one}
use Rattle.ba_proof.proofs.SaidLemmas.{OnlyBad, choose, list_is, list_said, ok_same, only_bad, only_bind, only_cond, only_ok, only_or, only_widened, text_is}
use Rattle.ba_proof.specs.Reading.{entry_at, entry_form, entry_of, entry_with, head_kind, query_at, row_of, row_under, row_value, value_at, values_from}
use Rattle.ba_proof.specs.Says.{SaysEntry, SaysQuery, SaysValue}
use Rattle.ba_proof.specs.Shapes.{as_list, list_at, or_bad, text_at}
use Rattle.ba_proof.specs.Written.{list_json}
use Rattle.ba_proof.specs.declared.fault.ProofFault.{ProofFault}
use Rattle.ba_proof.specs.declared.fault.ProofFault.TheVariants.{BadField}
use Rattle.ba_proof.specs.declared.fault.ProofField.{ProofField}
use Rattle.ba_proof.specs.declared.fault.ProofField.TheVariants as field

narrowed : {A F G : Type 0} (into : F → G) (r : Result A F) (x : A) → widened into r ≡ Ok x → r ≡ Ok x
narrowed into (Ok y) x e = cc e
narrowed into (Err f) x e = cc e

pub object_is : (d : Data) (ms : Members) → as_object d ≡ Some ms → d ≡ object ms
object_is null ms e = cc e
object_is (boolean b) ms e = cc e
object_is (number n) ms e = cc e
object_is (string s) ms e = cc e
object_is (array ds) ms e = cc e
object_is (object ks) ms e = let same : ks ≡ ms = cc e in ap object same

-- ---- values

no_kind : (k : Kind) (v : Value) → of_kind k Other ≡ Some v → ⊥
no_kind IntKind v e = cc e
no_kind TextKind v e = cc e

whole_is : (num : Num) (k : Kind) (n : ℤ) (v : Value) → as_i64 num ≡ Some n → of_kind k (given_from None (Some n)) ≡ Some v → SaysValue (number num) v
whole_is num IntKind n v is e = let same : value.Int n ≡ v = cc e in subst (SaysValue (number num)) same (num, refl, is)
whole_is num TextKind n v is e = cc e

value_is : (k : Kind) (d : Data) (v : Value) → row_value k d ≡ Some v → SaysValue d v
value_is k null v e = let same : value.Null ≡ v = cc e in subst (SaysValue null) same refl
value_is k (boolean b) v e = absurd (no_kind k v e)
value_is k (number num) v e = by (as_i64 num) refl e
  where
    by : (o : Option ℤ) → as_i64 num ≡ o → of_kind k (given_from None o) ≡ Some v → SaysValue (number num) v
    by (Some n) is h = whole_is num k n v is h
    by None is h = absurd (no_kind k v h)
value_is IntKind (string s) v e = cc e
value_is TextKind (string s) v e = let same : value.Text s ≡ v = cc e in subst (SaysValue (string s)) same refl
value_is k (array ds) v e = absurd (no_kind k v e)
value_is k (object ms) v e = absurd (no_kind k v e)

both : (a b : Bool) → (a && b) ≡ true → (a ≡ true) × (b ≡ true)
both true b e = (refl, e)
both false b e = cc e

whole : (it : TraceEntry) (row : List Value) → it.rows ≡ row ∷ [] → entry_with it.query row ≡ it
whole it row e = ap (λ (rows : List (List Value)). record it { rows = rows }) (sym e)

abbrev into : ProofField → ReadQueryFault → ProofFault
into f fault = BadField f

module _ (policy : Policy) where
  -- ---- rows

  place_is : (part : Part) (place : ℕ) (d : Data) (v : Value) → value_at policy.schema policy.params part place d ≡ Ok v → SaysValue d v
  unfolding value_at
  place_is part place d v e =
      by (head_kind policy.schema policy.params part place) (good field.Entries (option_and_then (λ kind. row_value kind d) (head_kind policy.schema policy.params part place)) v e)
    where
      by : (o : Option Kind) → option_and_then (λ kind. row_value kind d) o ≡ Some v → SaysValue d v
      by None h = cc h
      by (Some k) h = value_is k d v h

  values_are : (part : Part) (place : ℕ) (ds : List Data) (vs : List Value) → values_from policy.schema policy.params part place ds ≡ Ok vs → AllZip SaysValue ds vs
  values_are part place [] vs e = subst (AllZip SaysValue []) (ok_same [] vs e) tt
  values_are part place (d ∷ ds) vs e =
      let first = bound (value_at policy.schema policy.params part place d) (λ v. (values_from policy.schema policy.params part (place + 1) ds >>= λ ws. Ok (v ∷ ws))) vs e in
      let rest = bound (values_from policy.schema policy.params part (place + 1) ds) (λ ws. Ok (first.0 ∷ ws)) vs first.2 in
      subst (AllZip SaysValue (d ∷ ds)) (ok_same (first.0 ∷ rest.0) vs rest.2) (place_is part place d first.0 first.1, values_are part (place + 1) ds rest.0 rest.1)

  under_is : (part : Part) (ds : List Data) (row : List Value) → row_under policy.schema policy.params part ds ≡ Ok row → AllZip SaysValue ds row
  unfolding row_under
  under_is part ds row e =
      let two = wide_enough (length ds == length part.head) (values_from policy.schema policy.params part 0 ds) _ row e in
      values_are part 0 ds row two.1

  row_is : (q : Query) (ds : List Data) (row : List Value) → row_of policy.schema policy.params q ds ≡ Ok row → AllZip SaysValue ds row
  row_is q ds row e =
      let part = bound (or_bad field.Entries (slice_get q.parts 0)) (λ it. row_under policy.schema policy.params it ds) row e in
      under_is part.0 ds row part.2

  values_only : (part : Part) (place : ℕ) (ds : List Data) → OnlyBad field.Entries (values_from policy.schema policy.params part place ds)
  unfolding value_at
  values_only part place [] = only_ok field.Entries []
  values_only part place (d ∷ ds) =
      only_bind field.Entries (value_at policy.schema policy.params part place d) (λ v. (values_from policy.schema policy.params part (place + 1) ds >>= λ ws. Ok (v ∷ ws)))
      (only_or field.Entries _)
      (λ v. only_bind field.Entries (values_from policy.schema policy.params part (place + 1) ds) (λ ws. Ok (v ∷ ws)) (values_only part (place + 1) ds) (λ ws. only_ok field.Entries (v ∷ ws)))

  under_only : (part : Part) (ds : List Data) → OnlyBad field.Entries (row_under policy.schema policy.params part ds)
  unfolding row_under
  under_only part ds = only_cond field.Entries (length ds == length part.head) _ _ (values_only part 0 ds) (only_bad field.Entries)

  row_only : (q : Query) (ds : List Data) → OnlyBad field.Entries (row_of policy.schema policy.params q ds)
  row_only q ds =
      only_bind field.Entries (or_bad field.Entries (slice_get q.parts 0)) (λ it. row_under policy.schema policy.params it ds) (only_or field.Entries _) (λ it. under_only it ds)

  -- ---- queries

  pub query_only : (f : ProofField) (d : Data) → OnlyBad f (query_at f policy.schema policy.params d)
  query_only f d =
      only_bind f (text_at f d) (λ s. widened (into f) (query_of policy.schema policy.params s)) (only_or f _) (λ s. only_widened f (query_of policy.schema policy.params s))

  fitting : (f : ProofField) (d : Data) (q : Query) → query_at f policy.schema policy.params d ≡ Ok q → IsQuery policy.schema (kinds_of policy.params) [] q
  fitting f d q e =
      let text = bound (text_at f d) (λ s. widened (into f) (query_of policy.schema policy.params s)) q e in
      query_is_one policy.schema policy.params text.0 q (narrowed (into f) (query_of policy.schema policy.params text.0) q text.2)

  -- ---- entries

  of_only : (x y : Data) → OnlyBad field.Entries (entry_of policy.schema policy.params x y)
  unfolding entry_of
  of_only x y =
      only_bind field.Entries (query_at field.Entries policy.schema policy.params x)
      (λ q. (list_at field.Entries y >>= row_of policy.schema policy.params q >>= λ row. Ok (entry_with q row))) (query_only field.Entries x)
      (λ q. only_bind field.Entries (list_at field.Entries y >>= row_of policy.schema policy.params q) (λ row. Ok (entry_with q row))
      (only_bind field.Entries (list_at field.Entries y) (row_of policy.schema policy.params q) (only_or field.Entries (as_list y)) (row_only q))
      (λ row. only_ok field.Entries (entry_with q row)))

  form_only : (ms : Members) → OnlyBad field.Entries (entry_form policy.schema policy.params ms)
  form_only no_members = only_bad field.Entries
  form_only (member k x no_members) = only_bad field.Entries
  form_only (member k x (member l y no_members)) = only_cond field.Entries (bytes_eq k (codes "query") && bytes_eq l (codes "row")) _ _ (of_only x y) (only_bad field.Entries)
  form_only (member k x (member l y (member m z more))) = only_bad field.Entries

  pub entry_only : (d : Data) → OnlyBad field.Entries (entry_at policy.schema policy.params d)
  entry_only d = only_bind field.Entries (or_bad field.Entries (as_object d)) (entry_form policy.schema policy.params) (only_or field.Entries (as_object d)) form_only

module _ (policy : Policy) (reading : QueryReading) where
  pub query_is : (f : ProofField) (d : Data) (q : Query) → query_at f policy.schema policy.params d ≡ Ok q → SaysQuery policy d q
  query_is f d q e =
      let text = bound (text_at f d) (λ s. widened (into f) (query_of policy.schema policy.params s)) q e in
      (text.0, text_is f d text.0 text.1, (reading policy.schema policy.params text.0 q).0 (narrowed (into f) (query_of policy.schema policy.params text.0) q text.2))

  pub query_said : (f : ProofField) (d : Data) (q : Query) → SaysQuery policy d q → query_at f policy.schema policy.params d ≡ Ok q
  query_said f d q h =
      ap (query_at f policy.schema policy.params) h.1 ∙ ap (widened (into f)) ((reading policy.schema policy.params h.0 q).1 h.2)

  items_entry : (d x y : Data) (it : TraceEntry) → d ≡ object (member (codes "query") x (member (codes "row") y no_members)) → entry_of policy.schema policy.params x y ≡ Ok it
      → SaysEntry policy d it
  unfolding entry_of
  items_entry d x y it is e =
      let query = bound (query_at field.Entries policy.schema policy.params x)
      (λ q. (list_at field.Entries y >>= row_of policy.schema policy.params q >>= λ row. Ok (entry_with q row))) it e in
      let row = bound (list_at field.Entries y >>= row_of policy.schema policy.params query.0) (λ xs. Ok (entry_with query.0 xs)) it query.2 in
      let items = bound (list_at field.Entries y) (row_of policy.schema policy.params query.0) row.0 row.1 in
      subst (SaysEntry policy d) (ok_same (entry_with query.0 row.0) it row.2)
      (record {
        a = x;
        b = y;
        row = row.0;
        is = is;
        query = query_is field.Entries x query.0 query.1;
        values = record { ds = items.0; is = list_is field.Entries y items.0 items.1; said = row_is policy query.0 items.0 row.0 items.2 };
        rows_are = refl;
        fits = record_fits policy query.0 items.0 row.0 (fitting policy field.Entries x query.0 query.1) items.2;
      })

  form_is : (d : Data) (ms : Members) (it : TraceEntry) → d ≡ object ms → entry_form policy.schema policy.params ms ≡ Ok it → SaysEntry policy d it
  form_is d no_members it is e = cc e
  form_is d (member k x no_members) it is e = cc e
  form_is d (member k x (member l y no_members)) it is e =
      choose (SaysEntry policy d it) (bytes_eq k (codes "query") && bytes_eq l (codes "row")) _ _ it e
      (λ b h. (let keys = both _ _ b in
      items_entry d x y it
      (is
      ∙ (ap (λ key. object (member key x (member l y no_members))) (same_text k (codes "query") keys.0)
      ∙ ap (λ key. object (member (codes "query") x (member key y no_members))) (same_text l (codes "row") keys.1))) h))
      (λ h. cc h)
  form_is d (member k x (member l y (member m z more))) it is e = cc e

  pub entry_is : (d : Data) (it : TraceEntry) → entry_at policy.schema policy.params d ≡ Ok it → SaysEntry policy d it
  entry_is d it e =
      let members = bound (or_bad field.Entries (as_object d)) (entry_form policy.schema policy.params) it e in
      form_is d members.0 it (object_is d members.0 (good field.Entries (as_object d) members.0 members.1)) members.2

  row_said : (d : Data) (it : TraceEntry) (h : SaysEntry policy d it) → row_of policy.schema policy.params it.query h.values.ds ≡ Ok h.row
  row_said d it h =
      let kinds = h.fits.query.fits.kinds in
      let rows : All (AllZip MayBeOfKind kinds) (h.row ∷ []) = subst (All (AllZip MayBeOfKind kinds)) h.rows_are h.fits.rows in
      first_part policy.schema policy.params it.query h.values.ds h.row it.query.parts kinds refl h.fits.query.fits.some_part
      (recursion_from_All (PartFits policy.schema (kinds_of policy.params) [] kinds) it.query.parts h.fits.query.fits.parts)
      (recursion_from_All (AllZip MayBeOfKind kinds) (h.row ∷ []) rows).0 h.values.said

  of_said : (x : Data) (q : Query) (ds : List Data) (row : List Value) → SaysQuery policy x q → row_of policy.schema policy.params q ds ≡ Ok row
      → entry_of policy.schema policy.params x (list_json ds) ≡ Ok (entry_with q row)
  unfolding entry_of
  of_said x q ds row h e =
      ap (λ r. r >>= λ it. (list_at field.Entries (list_json ds) >>= row_of policy.schema policy.params it >>= λ xs. Ok (entry_with it xs))) (query_said field.Entries x q h)
      ∙ (ap (λ r. r >>= row_of policy.schema policy.params q >>= λ xs. Ok (entry_with q xs)) (list_said field.Entries ds)
      ∙ ap (λ r. r >>= λ xs. Ok (entry_with q xs)) e)

  pub entry_said : (d : Data) (it : TraceEntry) → SaysEntry policy d it → entry_at policy.schema policy.params d ≡ Ok it
  entry_said d it h =
      ap (entry_at policy.schema policy.params) h.is
      ∙ (ap (entry_of policy.schema policy.params h.a) h.values.is
      ∙ (of_said h.a it.query h.values.ds h.row h.query (row_said d it h) ∙ ap Ok (whole it h.row h.rows_are)))
