-- The values of a row, one after the other, as the loop takes them.
use Rattle.std.proofs.Common.{◌≡◌, ◌∙◌, ℕ, ◌+◌, ◌<◌, ◌≤◌, List, [], ◌∷◌, ◌++◌, length, map, drop, get_or, Ok, Err, sym, ap, arith}
use Rattle.std.proofs.lemmas.List.{append-nil, drop_all, drop_more, length-append}
use Rattle.serde_json.specs.Data.{Data}
use Rattle.ba_model.specs.Readings.{◌>>=◌, Fails}
use Rattle.ba_model.specs.declared.failure.Failure.{Failure}
use Rattle.ba_model.specs.declared.failure.Failure.TheVariants.{NoMemory, Fault}
use Rattle.ba_model.specs.declared.policy.Parameter.{Parameter}
use Rattle.ba_model.specs.declared.query.Part.{Part}
use Rattle.ba_model.specs.declared.schema.Schema.{Schema}
use Rattle.ba_model.specs.declared.value.Value.{Value}
use Rattle.ba_proof.proofs.EachLemmas.{onto, onto_more, onto_none}
use Rattle.ba_proof.specs.Reading.{value_at, values_from}
use Rattle.ba_proof.specs.declared.fault.ProofFault.{ProofFault}

pub record RowAt {A : Type 0} (g : A → Data) (schema : Schema) (params : List Parameter) (part : Part) (xs : List A) (i : ℕ) (row : List Value) : Type 0 where
  pub so_far : onto row (values_from schema params part (length row) (map g (drop i xs))) ≡ values_from schema params part 0 (map g xs)

pub row_start : {A : Type 0} (g : A → Data) (schema : Schema) (params : List Parameter) (part : Part) (xs : List A) (row : List Value) → row ≡ [] → RowAt g schema params part xs 0 row
row_start g schema params part xs row e = record { so_far = rw e (onto_none (values_from schema params part 0 (map g xs))) }

split : {A : Type 0} (g : A → Data) (schema : Schema) (params : List Parameter) (part : Part) (n : ℕ) (xs : List A) (i : ℕ) (x : A) → i < length xs → x ≡ get_or xs i x
    → values_from schema params part n (map g (drop i xs)) ≡ values_from schema params part n (g x ∷ map g (drop (i + 1) xs))
split g schema params part n xs i x lt is = ap (λ ys. values_from schema params part n (map g ys)) (drop_more xs i x lt ∙ ap (λ y. y ∷ drop (i + 1) xs) (sym is))

one_longer : (row : List Value) (v : Value) → length (row ++ v ∷ []) ≡ length row + 1
one_longer row v = let both = length-append row (v ∷ []) in omega (arith, both)

pub row_goes_on : {A : Type 0} (g : A → Data) (schema : Schema) (params : List Parameter) (part : Part) (xs : List A) (i : ℕ) (row row2 : List Value) (n : ℕ) (x : A) (v : Value)
    → RowAt g schema params part xs i row → n ≡ length row → i < length xs → x ≡ get_or xs i x → value_at schema params part n (g x) ≡ Ok v → row2 ≡ row ++ v ∷ []
    → RowAt g schema params part xs (i + 1) row2
row_goes_on g schema params part xs i row row2 n x v at number lt is e h =
    let value : value_at schema params part (length row) (g x) ≡ Ok v = ap (λ m. value_at schema params part m (g x)) (sym number) ∙ e in
    record {
      so_far =
          ap (λ r. onto r (values_from schema params part (length r) (map g (drop (i + 1) xs)))) h
          ∙ (ap (λ m. onto (row ++ v ∷ []) (values_from schema params part m (map g (drop (i + 1) xs)))) (one_longer row v)
          ∙ (sym (onto_more row v (values_from schema params part (length row + 1) (map g (drop (i + 1) xs))))
          ∙ (ap (λ r. onto row (r >>= λ y. (values_from schema params part (length row + 1) (map g (drop (i + 1) xs)) >>= λ ys. Ok (y ∷ ys)))) (sym value)
          ∙ (ap (onto row) (sym (split g schema params part (length row) xs i x lt is)) ∙ at.so_far))));
    }

pub row_fails : {A : Type 0} (g : A → Data) (schema : Schema) (params : List Parameter) (part : Part) (xs : List A) (i : ℕ) (row : List Value) (n : ℕ) (x : A) (err : Failure ProofFault)
    → RowAt g schema params part xs i row → n ≡ length row → i < length xs → x ≡ get_or xs i x → Fails err (value_at schema params part n (g x))
    → Fails err (values_from schema params part 0 (map g xs))
row_fails g schema params part xs i row n x NoMemory at number lt is h = tt
row_fails g schema params part xs i row n x (Fault f) at number lt is h =
    let fault : value_at schema params part (length row) (g x) ≡ Err f = ap (λ m. value_at schema params part m (g x)) (sym number) ∙ h in
    sym at.so_far
    ∙ (ap (onto row) (split g schema params part (length row) xs i x lt is)
    ∙ ap (λ r. onto row (r >>= λ y. (values_from schema params part (length row + 1) (map g (drop (i + 1) xs)) >>= λ ys. Ok (y ∷ ys)))) fault)

pub row_ends : {A : Type 0} (g : A → Data) (schema : Schema) (params : List Parameter) (part : Part) (xs : List A) (i : ℕ) (row : List Value)
    → RowAt g schema params part xs i row → length xs ≤ i → values_from schema params part 0 (map g xs) ≡ Ok row
row_ends g schema params part xs i row at le =
    sym at.so_far ∙ (ap (λ ys. onto row (values_from schema params part (length row) (map g ys))) (drop_all i xs le) ∙ ap Ok (append-nil row))
