-- What queries rest on, by their names and proofs, one after the other, as the loop takes them.
use Rattle.std.proofs.Common.{◌≡◌, ◌∙◌, ℕ, ◌+◌, ◌<◌, ◌≤◌, List, [], ◌∷◌, ◌++◌, length, map, drop, get_or, Result, Ok, Err, refl, sym, ap}
use Rattle.std.proofs.lemmas.List.{append-nil, drop_all, drop_more}
use Rattle.serde_json.specs.View.{view}
use Rattle.serde_json.specs.declared.value.Value.{Value}
use Rattle.ba_model.specs.Readings.{◌>>=◌, Fails}
use Rattle.ba_model.specs.declared.failure.Failure.{Failure}
use Rattle.ba_model.specs.declared.failure.Failure.TheVariants.{NoMemory, Fault}
use Rattle.ba_model.specs.declared.policy.Parameter.{Parameter}
use Rattle.ba_proof.proofs.EachLemmas.{onto, onto_more, onto_none}
use Rattle.ba_printed.specs.Reading.{ground_of, grounds_of}
use Rattle.ba_printed.specs.declared.line.Evidence.{Evidence}
use Rattle.ba_printed.specs.declared.shapes.FormFault.{FormFault}

module _ (params : List Parameter) (names proofs : List Value) where
  pub record GroundsAt (i : ℕ) (found : List Evidence) : Type 0 where
    pub so_far : onto found (grounds_of params (map view (drop i names)) (map view (drop i proofs))) ≡ grounds_of params (map view names) (map view proofs)

  pub grounds_start : (found : List Evidence) → found ≡ [] → GroundsAt 0 found
  grounds_start found e = record { so_far = rw e (onto_none (grounds_of params (map view names) (map view proofs))) }

  split : (i : ℕ) (x y : Value) → i < length names → i < length proofs → x ≡ get_or names i x → y ≡ get_or proofs i y
      → grounds_of params (map view (drop i names)) (map view (drop i proofs)) ≡ grounds_of params (view x ∷ map view (drop (i + 1) names)) (view y ∷ map view (drop (i + 1) proofs))
  split i x y left right x_is y_is =
      ap (λ zs. grounds_of params (map view zs) (map view (drop i proofs))) (drop_more names i x left ∙ ap (λ z. z ∷ drop (i + 1) names) (sym x_is))
      ∙ ap (λ zs. grounds_of params (view x ∷ map view (drop (i + 1) names)) (map view zs)) (drop_more proofs i y right ∙ ap (λ z. z ∷ drop (i + 1) proofs) (sym y_is))

  pub grounds_go_on : (i : ℕ) (found more : List Evidence) (x y : Value) (it : Evidence) → GroundsAt i found → i < length names → i < length proofs → x ≡ get_or names i x
      → y ≡ get_or proofs i y → ground_of params (view x) (view y) ≡ Ok it → more ≡ found ++ it ∷ [] → GroundsAt (i + 1) more
  grounds_go_on i found more x y it at left right x_is y_is e h =
      record {
        so_far = rw h (sym (onto_more found it (grounds_of params (map view (drop (i + 1) names)) (map view (drop (i + 1) proofs))))
            ∙ rw (split i x y left right x_is y_is, e) at at.so_far);
      }

  pub grounds_fail : (i : ℕ) (found : List Evidence) (x y : Value) (err : Failure FormFault) → GroundsAt i found → i < length names → i < length proofs → x ≡ get_or names i x
      → y ≡ get_or proofs i y → Fails err (ground_of params (view x) (view y)) → Fails err (grounds_of params (map view names) (map view proofs))
  grounds_fail i found x y NoMemory at left right x_is y_is h = tt
  grounds_fail i found x y (Fault e) at left right x_is y_is h = sym (rw (split i x y left right x_is y_is, h) at at.so_far)

  pub grounds_end : (i : ℕ) (found : List Evidence) → GroundsAt i found → length names ≤ i → grounds_of params (map view names) (map view proofs) ≡ Ok found
  grounds_end i found at le = sym (rw (drop_all i names le) at at.so_far) ∙ ap Ok (append-nil found)
