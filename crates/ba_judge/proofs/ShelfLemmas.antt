-- What stands on shelves.
use Rattle.std.proofs.Common.{◌≡◌, ◌≢◌, ◌∙◌, ℕ, zero, suc, ◌+◌, ◌-◌, ◌%◌, ◌<◌, ◌≤◌, Bool, IsTrue, inl, inr, List, [], ◌∷◌, ◌++◌, length, length-append, drop, get_or, map, set, take, get_or-set_same, get_or-set_other, refl, sym, ap, subst, arith}
use mathlib.Core.Logic.{dite}
use native.Mathlib.Decide.{ℕ_discrete}
use Rattle.std.proofs.lemmas.List.{drop-append-le, get_or-map, length-map, map-set, take_all, take_more}
use Rattle.std.proofs.lemmas.List.Elements.{All-contains, All-push}
use Rattle.std.specs.List.{All, Contains}
use Rattle.std.specs.Prelude.{◌↔◌}
use Rattle.lru.specs.LruCache.{lru_cache, put_entries}
use Rattle.ba_cache.specs.Keys.{same_shape}
use Rattle.ba_kernel.specs.SearchStates.{Proof}
use Rattle.ba_template.specs.declared.shapes.Shape.{Shape}
use Rattle.ba_judge.specs.Rows.{Admits, Row, latest, shape_of_template, under, used}
use Rattle.ba_judge.specs.Shelves.{rows_in, rows_of}
use Rattle.ba_judge.specs.declared.shelves.Shelf.{Shelf}

-- ---- one shelf

pub found_under : (key shape : Shape) (rows : List Row) (found : List Proof) → key ≡ shape → found ≡ under key rows → found ≡ under shape rows
found_under key shape rows found same is = is ∙ ap (λ s. under s rows) same

pub fronted : (key shape : Shape) (rows new : List Row) → key ≡ shape → new ≡ used key rows → new ≡ used shape rows
fronted key shape rows new same is = is ∙ ap (λ s. used s rows) same

pub known : (t : Proof) (key : Shape) (old new : List Row) (found : List Proof) → key ≡ shape_of_template t → found ≡ under key old → Contains found t → new ≡ used key old → Admits t old new
known t key old new found same is there front =
    inl (record { known = subst (λ l. Contains l t) (found_under key (shape_of_template t) old found same is) there; front = fronted key (shape_of_template t) old new same front })

pub added : (t : Proof) (key : Shape) (old new : List Row) (found newest : List Proof) (cap : ℕ) → key ≡ shape_of_template t → cap ≡ 128 → found ≡ under key old → (Contains found t → ⊥) → newest ≡ latest (found ++ t ∷ []) →
    new ≡ put_entries same_shape (lru_cache old cap) key newest → Admits t old new
added t key old new found newest cap same cap_is is fresh newest_is front =
    let here = found_under key (shape_of_template t) old found same is in
    let last : newest ≡ latest (under (shape_of_template t) old ++ t ∷ []) = newest_is ∙ ap (λ l. latest (l ++ t ∷ [])) here in
    inr (record {
      fresh = subst (λ l. Contains l t → ⊥) here fresh;
      front = front ∙ (λ i. put_entries same_shape (lru_cache old (cap_is i)) (same i) (last i));
    })

pub among : (xs ys : List Proof) (s t : Proof) (r : Bool) → xs ≡ ys → s ≡ t → (IsTrue r ↔ Contains xs s) → IsTrue r ↔ Contains ys t
among xs ys s t r same same_t h = subst (λ (z : List Proof × Proof). IsTrue r ↔ Contains z.0 z.1) (λ i. (same i, same_t i)) h

-- of eight and more the last seven stay, and one comes behind them
pub newest_last : (templates : List Proof) (t : Proof) → drop (length templates - 7) templates ++ t ∷ [] ≡ latest (templates ++ t ∷ [])
newest_last templates t =
    let long : length (templates ++ t ∷ []) ≡ length templates + 1 = length-append templates (t ∷ []) in
    let skip : length (templates ++ t ∷ []) - 8 ≡ length templates - 7 = omega arith in
    sym (ap (λ (n : ℕ). drop n (templates ++ t ∷ [])) skip ∙ drop-append-le (length templates - 7) templates (t ∷ []) (omega arith))

abbrev pub IsOther : Proof → Proof → Type 0
IsOther t other = other ≢ t

pub none_among : (t : Proof) (templates : List Proof) (i : ℕ) → length templates ≤ i → All (IsOther t) (take i templates) → Contains templates t → ⊥
none_among t templates i past none there = All-contains (IsOther t) (take i templates) t none (subst (λ l. Contains l t) (sym (take_all i templates past)) there) refl

pub one_other : (t : Proof) (templates : List Proof) (i : ℕ) (other : Proof) → i < length templates → other ≡ get_or templates i other → All (IsOther t) (take i templates) → other ≢ t → All (IsOther t) (take (i + 1) templates)
one_other t templates i other below is none differs =
    subst (All (IsOther t)) (sym (take_more templates i other below ∙ ap (λ z. take i templates ++ z ∷ []) (sym is))) (All-push (IsOther t) (take i templates) other none differs)

-- ---- all shelves

pub empty_more : (shelves : List Shelf) (x : Shelf) → ((k : ℕ) → rows_in shelves k ≡ []) → rows_of x ≡ [] → (k : ℕ) → rows_in (shelves ++ x ∷ []) k ≡ []
empty_more [] x all e zero = e
empty_more [] x all e (suc k) = refl
empty_more (y ∷ shelves) x all e zero = all zero
empty_more (y ∷ shelves) x all e (suc k) = empty_more shelves x (λ j. all (suc j)) e k

pub below_eight : (n m : ℕ) → n ≡ m % 8 → n < 8
below_eight n m is = omega arith

module _ (shelves : List Shelf) (i : ℕ) (x y : Shelf) (below : i < length shelves) (is : x ≡ get_or shelves i x) where
  old_is : rows_in shelves i ≡ rows_of x
  old_is = get_or-map rows_of shelves i x [] below ∙ ap rows_of (sym is)

  new_is : rows_in (set shelves i y) i ≡ rows_of y
  new_is = ap (λ l. get_or l i []) (map-set rows_of shelves i y) ∙ get_or-set_same (map rows_of shelves) i (rows_of y) [] (omega (arith, length-map shelves rows_of))

  other_is : (k : ℕ) → k ≢ i → rows_in (set shelves i y) k ≡ rows_in shelves k
  other_is k other = ap (λ l. get_or l k []) (map-set rows_of shelves i y) ∙ get_or-set_other (map rows_of shelves) i k (rows_of y) [] other

  pub own_changes : (So : List Row → List Row → Type 0) (k : ℕ) → i ≡ k → So (rows_of x) (rows_of y) → So (rows_in shelves k) (rows_in (set shelves i y) k)
  own_changes So k same h = subst (λ j. So (rows_in shelves j) (rows_in (set shelves i y) j)) same (subst (λ (z : List Row × List Row). So z.0 z.1) (λ j. (sym old_is j, sym new_is j)) h)

  pub others_stay : (k : ℕ) → i ≡ k → (j : ℕ) → j ≢ k → rows_in (set shelves i y) j ≡ rows_in shelves j
  others_stay k same j other = other_is j (λ e. other (e ∙ same))

  pub all_stay : rows_of y ≡ rows_of x → (k : ℕ) → rows_in (set shelves i y) k ≡ rows_in shelves k
  all_stay same k =
      dite (ℕ_discrete k i)
      (λ e. ap (rows_in (set shelves i y)) e ∙ new_is ∙ same ∙ sym old_is ∙ ap (rows_in shelves) (sym e))
      (λ other. other_is k other)
