-- What a shelf keeps under an id is the template that was added as that one.
use Rattle.std.proofs.Common.{◌≡◌, ◌∙◌, ℕ, ◌-◌, List, [], ◌∷◌, ◌++◌, All, Contains, Some, ap, append-nil, arith, cond, inl, inr, length, refl, slice_get, subst, sym, ◌⊎◌}
use Rattle.std.proofs.lemmas.List.Concat.{flat_map-append}
use Rattle.std.proofs.lemmas.List.Elements.{All-append, All-contains, All-cons, All-drop, All-head, All-nil, All-push, All-tail, All-take, All-weaker, Contains-push_cases}
use Rattle.std.proofs.lemmas.List.Sums.{sum_by-cons}
use Rattle.ba_machine_laws.proofs.KeyLemmas.{get_before}
use Rattle.ba_machine_laws.specs.Shelves.{FoundIsAdmitted, added_in, templates_of}
use Rattle.ba_cache.specs.Rows.{IsAbsent, IsAdded, Legal, Looks, Row, Stands, Steps, count_added, is_added, kept, latest, next, shape_of_template, start}
use Rattle.ba_cache.specs.declared.call.Admit.TheVariants.{Added, Known}
use Rattle.ba_cache.specs.declared.call.Kept.{Kept}
use Rattle.ba_cache.specs.declared.call.ShelfCall.{ShelfCall}
use Rattle.ba_cache.specs.declared.call.ShelfCall.TheVariants as calls
use Rattle.ba_kernel.specs.SearchStates.{Proof}
use Rattle.ba_session.specs.Asking.{look_at}
use Rattle.ba_template.specs.declared.shapes.Shape.{Shape}

-- ---- places

get_last : {X : Type 0} (xs : List X) (x : X) → slice_get (xs ++ x ∷ []) (length xs) ≡ Some x
get_last [] x = refl
get_last (y ∷ xs) x = get_last xs x

pub All-before : {X : Type 0} (P : X → Type 0) (xs ys : List X) → All P (xs ++ ys) → All P xs
All-before P [] ys all = All-nil P
All-before P (x ∷ xs) ys all = All-cons P x xs (All-head P x (xs ++ ys) all) (All-before P xs ys (All-tail P x (xs ++ ys) all))

All-after : {X : Type 0} (P : X → Type 0) (xs ys : List X) → All P (xs ++ ys) → All P ys
All-after P [] ys all = all
All-after P (x ∷ xs) ys all = All-after P xs ys (All-tail P x (xs ++ ys) all)

-- ---- as many as are counted

counted : (made : List ShelfCall) → length (templates_of made) ≡ count_added made
counted [] = refl
counted (calls.Look shape found ∷ made) =
    let rest = counted made in
    let one = sum_by-cons (λ c. cond (is_added c) 1 0) (calls.Look shape found) made in
    omega (arith, rest, one)
counted (calls.Admit t (Added id) ∷ made) =
    let rest = counted made in
    let one = sum_by-cons (λ c. cond (is_added c) 1 0) (calls.Admit t (Added id)) made in
    omega (arith, rest, one)
counted (calls.Admit t (Known id) ∷ made) =
    let rest = counted made in
    let one = sum_by-cons (λ c. cond (is_added c) 1 0) (calls.Admit t (Known id)) made in
    omega (arith, rest, one)
counted (calls.Refused ∷ made) =
    let rest = counted made in
    let one = sum_by-cons (λ c. cond (is_added c) 1 0) calls.Refused made in
    omega (arith, rest, one)

-- ---- what is kept

-- the template has its place among those that were added
abbrev IsAt : List Proof → Kept → Type 0
IsAt ts k = slice_get ts k.id ≡ Some k.template

abbrev RowAt : List Proof → Row → Type 0
RowAt ts row = All (IsAt ts) row.1

abbrev RowsAt : List Proof → List Row → Type 0
RowsAt ts rows = All (RowAt ts) rows

grows : (ts more : List Proof) (k : Kept) → IsAt ts k → IsAt (ts ++ more) k
grows ts more k at = get_before ts more k.id k.template at

row_grows : (ts more : List Proof) (row : Row) → RowAt ts row → RowAt (ts ++ more) row
row_grows ts more row at = All-weaker (IsAt ts) (IsAt (ts ++ more)) (grows ts more) row.1 at

rows_grow : (ts more : List Proof) (rows : List Row) → RowsAt ts rows → RowsAt (ts ++ more) rows
rows_grow ts more rows at = All-weaker (RowAt ts) (RowAt (ts ++ more)) (row_grows ts more) rows at

-- what a look found has its place
abbrev FoundAt : List Proof → ShelfCall → Type 0
FoundAt ts (calls.Look shape found) = All (IsAt ts) found.value
FoundAt ts (calls.Admit template answer) = Unit {0}
FoundAt ts calls.Refused = Unit {0}

found_grows : (ts more : List Proof) (call : ShelfCall) → FoundAt ts call → FoundAt (ts ++ more) call
found_grows ts more (calls.Look shape found) at = All-weaker (IsAt ts) (IsAt (ts ++ more)) (grows ts more) found.value at
found_grows ts more (calls.Admit template answer) at = tt
found_grows ts more calls.Refused at = tt

module _ (ts : List Proof) (old : List Row) (at : RowsAt ts old) where
  standing : (shape : Shape) (templates : List Kept) (rest : List Row) → Stands shape old templates rest → All (IsAt ts) templates
  standing shape templates rest h =
      let all : RowsAt ts (h.before ++ (shape, templates) ∷ h.after) = subst (RowsAt ts) h.rows_are at in
      All-head (RowAt ts) (shape, templates) h.after (All-after (RowAt ts) h.before ((shape, templates) ∷ h.after) all)

  others_standing : (shape : Shape) (templates : List Kept) (rest : List Row) → Stands shape old templates rest → RowsAt ts rest
  others_standing shape templates rest h =
      let all : RowsAt ts (h.before ++ (shape, templates) ∷ h.after) = subst (RowsAt ts) h.rows_are at in
      let behind = All-tail (RowAt ts) (shape, templates) h.after (All-after (RowAt ts) h.before ((shape, templates) ∷ h.after) all) in
      subst (RowsAt ts) (sym h.rest_is) (All-append (RowAt ts) h.before h.after (All-before (RowAt ts) h.before ((shape, templates) ∷ h.after) all) behind)

  to_front : (shape : Shape) (templates : List Kept) (rest new : List Row) → Stands shape old templates rest → new ≡ (shape, templates) ∷ rest → RowsAt ts new
  to_front shape templates rest new h front =
      subst (RowsAt ts) (sym front) (All-cons (RowAt ts) (shape, templates) rest (standing shape templates rest h) (others_standing shape templates rest h))

  looked : (shape : Shape) (found : List Kept) (new : List Row) → Looks old shape found new → All (IsAt ts) found × RowsAt ts new
  looked shape found new (inl it) = (standing shape found it.rest it.stands, to_front shape found it.rest new it.stands it.front)
  looked shape found new (inr it) = (subst (All (IsAt ts)) (sym it.none) (All-nil (IsAt ts)), subst (RowsAt ts) (sym it.rest_is) at)

  under : (shape : Shape) (templates : List Kept) (rest : List Row) → Stands shape old templates rest ⊎ IsAbsent shape old templates rest → All (IsAt ts) templates × RowsAt ts rest
  under shape templates rest (inl it) = (standing shape templates rest it, others_standing shape templates rest it)
  under shape templates rest (inr it) = (subst (All (IsAt ts)) (sym it.none) (All-nil (IsAt ts)), subst (RowsAt ts) (sym it.rest_is) at)

  added : (t : Proof) (id count : ℕ) (new : List Row) → IsAdded count old t id new → length ts ≡ count → RowsAt (ts ++ t ∷ []) new
  added t id count new h many =
      let more = ts ++ t ∷ [] in
      let shape = shape_of_template t in
      let before = under shape h.templates h.rest h.under in
      let place : IsAt more (kept id t) = subst (λ n. slice_get more n ≡ Some t) (many ∙ sym h.number) (get_last ts t) in
      let all : All (IsAt more) (h.templates ++ kept id t ∷ []) =
      All-push (IsAt more) h.templates (kept id t) (All-weaker (IsAt ts) (IsAt more) (grows ts (t ∷ [])) h.templates before.0) place in
      let newest : All (IsAt more) (latest (h.templates ++ kept id t ∷ [])) =
      All-drop (IsAt more) (length (h.templates ++ kept id t ∷ []) - 8) (h.templates ++ kept id t ∷ []) all in
      let row : Row = (shape, latest (h.templates ++ kept id t ∷ [])) in
      subst (RowsAt more) (sym h.front)
      (All-take (RowAt more) 128 (row ∷ h.rest) (All-cons (RowAt more) row h.rest newest (rows_grow ts (t ∷ []) h.rest before.1)))

-- ---- histories

record Told (made : List ShelfCall) (rows : List Row) : Type 0 where
  rows_at : RowsAt (templates_of made) rows
  found_at : (call : ShelfCall) → Contains made call → FoundAt (templates_of made) call

-- what a call tells of what was added with it
stepped : (made : List ShelfCall) (old new : List Row) (call : ShelfCall) → RowsAt (templates_of made) old → Steps (count_added made) old call new →
    RowsAt (templates_of made ++ added_in call) new × FoundAt (templates_of made ++ added_in call) call
stepped made old new (calls.Look shape found) at h =
    let it = looked (templates_of made) old at shape.value found.value new h in
    (rows_grow (templates_of made) [] new it.1, found_grows (templates_of made) [] (calls.Look shape found) it.0)
stepped made old new (calls.Admit t (Added id)) at h = (added (templates_of made) old at t.value id (count_added made) new h.1 (counted made), tt)
stepped made old new (calls.Admit t (Known id)) at h =
    (rows_grow (templates_of made) [] new (to_front (templates_of made) old at (shape_of_template t.value) h.1.templates h.1.rest new h.1.stands h.1.front), tt)
stepped made old new calls.Refused at h = (rows_grow (templates_of made) [] new (subst (RowsAt (templates_of made)) (sym h) at), tt)

found_among : (made : List ShelfCall) (call other : ShelfCall) → ((c : ShelfCall) → Contains made c → FoundAt (templates_of made) c) → FoundAt (templates_of made ++ added_in call) call →
    Contains made other ⊎ (call ≡ other) → FoundAt (templates_of made ++ added_in call) other
found_among made call other earlier here (inl before) = found_grows (templates_of made) (added_in call) other (earlier other before)
found_among made call other earlier here (inr same) = subst (FoundAt (templates_of made ++ added_in call)) same here

one_added : (made : List ShelfCall) (call : ShelfCall) → templates_of (made ++ call ∷ []) ≡ templates_of made ++ added_in call
one_added made call = flat_map-append added_in made (call ∷ []) ∙ ap (λ more. templates_of made ++ more) (append-nil (added_in call))

told_of : {made : List ShelfCall} {rows : List Row} → Legal made rows → Told made rows
told_of start = record { rows_at = All-nil (RowAt []); found_at = λ call none. absurd (nothing call none) }
  where
    nothing : (call : ShelfCall) → Contains [] call → ⊥
    nothing call none = let below = none.1 in omega (arith, below)
told_of (next {made = made} {old = old} {new = new} call legal step) =
    let before = told_of legal in
    let it = stepped made old new call before.rows_at step in
    let same = sym (one_added made call) in
    record {
      rows_at = subst (λ ts. RowsAt ts new) same it.0;
      found_at = λ other among. subst (λ ts. FoundAt ts other) same (found_among made call other before.found_at it.1 (Contains-push_cases made call other among));
    }

pub found_is_admitted : FoundIsAdmitted
found_is_admitted first s made history rows legal has some = record {
  each = λ query found it look among.
      has.each it.id it.template (All-contains (IsAt (templates_of history)) found it ((told_of legal).found_at (look_at query found) (some (look_at query found) look)) among);
}
