-- Reading each item of an array, one after the other, as the loops take them.
use Rattle.std.proofs.Common.{◌≡◌, ℕ, ◌+◌, ◌<◌, ◌≤◌, List, [], ◌∷◌, ◌++◌, length, drop, get_or, Result, Ok, Err, refl, sym, ap, ◌∙◌, append_assoc}
use Rattle.std.proofs.lemmas.List.{append-nil, drop_all, drop_more}
use Rattle.serde_json.specs.Data.{Data}
use Rattle.serde_json.specs.View.{items_view, view}
use Rattle.serde_json.specs.declared.value.Value.{Value}
use Rattle.ba_model.specs.Readings.{◌>>=◌, Fails}
use Rattle.ba_model.specs.declared.failure.Failure.{Failure}
use Rattle.ba_model.specs.declared.failure.Failure.TheVariants.{NoMemory, Fault}
use Rattle.ba_event.specs.Events.{each_item}
use Rattle.ba_event.specs.declared.event.EventFault.{EventFault}

abbrev onto : {X : Type 0} → List X → Result (List X) EventFault → Result (List X) EventFault
onto found reading = reading >>= λ xs. Ok (found ++ xs)

onto_more : {X : Type 0} (found : List X) (x : X) (reading : Result (List X) EventFault) → onto found (reading >>= λ xs. Ok (x ∷ xs)) ≡ onto (found ++ x ∷ []) reading
onto_more found x (Ok xs) = ap Ok (simp append_assoc)
onto_more found x (Err e) = refl

onto_none : {X : Type 0} (reading : Result (List X) EventFault) → onto [] reading ≡ reading
onto_none (Ok xs) = refl
onto_none (Err e) = refl

-- what was found of the items before i, and then those from i on, are all
pub record EachAt {X : Type 0} (f : Data → Result X EventFault) (items : List Value) (i : ℕ) (found : List X) : Type 0 where
  pub so_far : onto found (each_item f (items_view (drop i items))) ≡ each_item f (items_view items)

pub each_start : {X : Type 0} (f : Data → Result X EventFault) (items : List Value) (found : List X) → found ≡ [] → EachAt f items 0 found
each_start f items found e = record { so_far = rw e (onto_none (each_item f (items_view items))) }

split : {X : Type 0} (f : Data → Result X EventFault) (items : List Value) (i : ℕ) (x : Value) → i < length items → x ≡ get_or items i x
    → each_item f (items_view (drop i items)) ≡ each_item f (items_view (x ∷ drop (i + 1) items))
split f items i x lt is = ap (λ ys. each_item f (items_view ys)) (drop_more items i x lt ∙ ap (λ y. y ∷ drop (i + 1) items) (sym is))

pub each_goes_on : {X : Type 0} (f : Data → Result X EventFault) (items : List Value) (i : ℕ) (found found2 : List X) (x : Value) (y : X) → EachAt f items i found → i < length items → x ≡ get_or items i x → f (view x) ≡ Ok y
    → found2 ≡ found ++ y ∷ [] → EachAt f items (i + 1) found2
each_goes_on f items i found found2 x y at lt is e h =
    record { so_far = rw h (sym (onto_more found y (each_item f (items_view (drop (i + 1) items)))) ∙ rw (split f items i x lt is, e) at at.so_far) }

pub each_fails : {X : Type 0} (f : Data → Result X EventFault) (items : List Value) (i : ℕ) (found : List X) (x : Value) (err : Failure EventFault) → EachAt f items i found → i < length items → x ≡ get_or items i x → Fails err (f (view x))
    → Fails err (each_item f (items_view items))
each_fails f items i found x NoMemory at lt is h = tt
each_fails f items i found x (Fault e) at lt is h = sym (rw (split f items i x lt is, h) at at.so_far)

pub each_ends : {X : Type 0} (f : Data → Result X EventFault) (items : List Value) (i : ℕ) (found : List X) → EachAt f items i found → length items ≤ i → each_item f (items_view items) ≡ Ok found
each_ends f items i found at le = sym (rw (drop_all i items le) at at.so_far) ∙ ap Ok (append-nil found)
