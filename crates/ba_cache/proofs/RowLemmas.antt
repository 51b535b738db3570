-- Looks and admits, as the cache below a shelf makes them.
use Rattle.std.proofs.Common.{◌≡◌, ◌∙◌, ℕ, suc, ◌+◌, ◌-◌, ◌<◌, ◌≤◌, Bool, true, false, ◌⊎◌, get_or, List, [], ◌∷◌, ◌++◌, Option, Some, None, length, drop, take, refl, sym, ap, subst, inl, inr, arith, length-append}
use Rattle.std.proofs.lemmas.List.{drop-append-le, take_all, take_more}
use Rattle.std.proofs.lemmas.List.Elements.{All-cons, All-nil, All-push, All-same}
use Rattle.std.specs.Bool.{Decides}
use Rattle.std.specs.Map.{lookup, lookup_entry, remove_entry}
use Rattle.std.specs.Option.{option_map_or, unwrap_or}
use Rattle.std.specs.Prelude.{All, Contains}
use Rattle.lru.specs.LruCache.{lru_cache, promoted, put_entries}
use Rattle.ba_kernel.specs.SearchStates.{Proof}
use Rattle.ba_model.proofs.ElementLemmas.{Contains-nil}
use Rattle.ba_template.specs.declared.shapes.Shape.{Shape}
use Rattle.ba_cache.specs.Rows.{HasOther, IsSound, IsAdded, IsKnown, IsOther, Looks, Row, Stands, kept, latest, shape_of_template}
use Rattle.ba_cache.specs.declared.call.Kept.{Kept}

module _ (same : Shape → Shape → Bool) (decides : (a b : Shape) → Decides (same a b) (a ≡ b)) where
  -- the shape stands there
  pub record Is (shape : Shape) (rows : List Row) (templates : List Kept) : Type 0 where
    pub value : lookup (same shape) rows ≡ Some templates
    pub entry : lookup_entry (same shape) rows ≡ Some (shape, templates)
    pub stands : Stands shape rows templates (remove_entry (same shape) rows)

  -- it doesn't
  pub record Isnt (shape : Shape) (rows : List Row) : Type 0 where
    pub value : lookup (same shape) rows ≡ None
    pub entry : lookup_entry (same shape) rows ≡ None
    pub absent : All (HasOther shape) rows

  abbrev Stood : Shape → List Row → Type 0
  Stood shape rows = ((templates : List Kept) × Is shape rows templates) ⊎ Isnt shape rows

  behind : (shape : Shape) (row : Row) (rows : List Row) → same shape row.0 ≡ false → Stood shape rows → Stood shape (row ∷ rows)
  behind shape row rows e (inl h) =
      let s = h.1.stands in
      let other : HasOther shape row = λ is. absurd (cc (sym e ∙ (decides shape row.0).1 (sym is))) in
      inl (
        h.0,
        record {
          value = rw e h.1.value;
          entry = rw e h.1.entry;
          stands = record {
            before = row ∷ s.before;
            after = s.after;
            rows_are = ap (λ (l : List Row). row ∷ l) s.rows_are;
            rest_is = rw e (ap (λ (l : List Row). row ∷ l) s.rest_is);
            first = All-cons (HasOther shape) row s.before other s.first;
          };
        },
      )
  behind shape row rows e (inr h) =
      let other : HasOther shape row = λ is. absurd (cc (sym e ∙ (decides shape row.0).1 (sym is))) in
      inr (record { value = rw e h.value; entry = rw e h.entry; absent = All-cons (HasOther shape) row rows other h.absent })

  here : (shape : Shape) (row : Row) (rows : List Row) → same shape row.0 ≡ true → Stood shape (row ∷ rows)
  here shape row rows e =
      let is : row ≡ (shape, row.1) = λ i. (sym ((decides shape row.0).0 e) i, row.1) in
      inl (
        row.1,
        record {
          value = rw e refl;
          entry = rw e (ap Some is);
          stands = record {
            before = [];
            after = rows;
            rows_are = ap (λ (r : Row). r ∷ rows) is;
            rest_is = rw e refl;
            first = All-nil (HasOther shape);
          };
        },
      )

  pub stood : (shape : Shape) (rows : List Row) → Stood shape rows
  stood shape [] = inr (record { value = refl; entry = refl; absent = All-nil (HasOther shape) })
  stood shape (row ∷ rows) = (elim (same shape row.0) as (λ y. same shape row.0 ≡ y → Stood shape (row ∷ rows)) [
    | true ↦ λ e. here shape row rows e
    | false ↦ λ e. behind shape row rows e (stood shape rows)
  ]) refl

  -- ---- a look

  looks_by : (shape : Shape) (rows : List Row) → Stood shape rows → Looks rows shape (unwrap_or (lookup (same shape) rows) []) (promoted (same shape) rows)
  looks_by shape rows (inl h) =
      let found : unwrap_or (lookup (same shape) rows) [] ≡ h.0 = ap (λ (o : Option (List Kept)). unwrap_or o []) h.1.value in
      inl (record {
        rest = remove_entry (same shape) rows;
        stands = subst (λ (l : List Kept). Stands shape rows l (remove_entry (same shape) rows)) (sym found) h.1.stands;
        front = ap (λ (o : Option Row). option_map_or (λ (r : Row). r ∷ remove_entry (same shape) rows) o rows) h.1.entry ∙ ap (λ (l : List Kept). (shape, l) ∷ remove_entry (same shape) rows) (sym found);
      })
  looks_by shape rows (inr h) = inr (record {
    absent = h.absent;
    none = ap (λ (o : Option (List Kept)). unwrap_or o []) h.value;
    rest_is = ap (λ (o : Option Row). option_map_or (λ (r : Row). r ∷ remove_entry (same shape) rows) o rows) h.entry;
  })

  looks : (shape : Shape) (rows new : List Row) (found : List Kept) → found ≡ unwrap_or (lookup (same shape) rows) [] → new ≡ promoted (same shape) rows → Looks rows shape found new
  looks shape rows new found found_is new_is = subst (λ (z : List Kept × List Row). Looks rows shape z.0 z.1) (λ i. (sym found_is i, sym new_is i)) (looks_by shape rows (stood shape rows))

  pub looks_by_key : (key shape : Shape) (rows new : List Row) (found : List Kept) → key ≡ shape → found ≡ unwrap_or (lookup (same key) rows) [] → new ≡ promoted (same key) rows → Looks rows shape found new
  looks_by_key key shape rows new found key_is found_is new_is = subst (λ (s : Shape). Looks rows s found new) key_is (looks key rows new found found_is new_is)

  -- ---- an admit

  no_element : (id : ℕ) (t : Proof) → Contains [] (kept id t) → ⊥
  no_element id t h = Contains-nil (kept id t) h

  known_by : (t : Proof) (rows new : List Row) (id : ℕ) → Contains (unwrap_or (lookup (same (shape_of_template t)) rows) []) (kept id t) → new ≡ promoted (same (shape_of_template t)) rows → Looks rows (shape_of_template t) (unwrap_or (lookup (same (shape_of_template t)) rows) []) new → IsKnown rows t id new
  known_by t rows new id equal new_is (inl h) = record { templates = _; rest = h.rest; stands = h.stands; equal = equal; front = h.front }
  known_by t rows new id equal new_is (inr h) = absurd (no_element id t (subst (λ (l : List Kept). Contains l (kept id t)) h.none equal))

  knows : (t : Proof) (rows new : List Row) (templates : List Kept) (id : ℕ) → templates ≡ unwrap_or (lookup (same (shape_of_template t)) rows) [] → Contains templates (kept id t) → new ≡ promoted (same (shape_of_template t)) rows → IsKnown rows t id new
  knows t rows new templates id templates_are equal new_is =
      known_by t rows new id (subst (λ (l : List Kept). Contains l (kept id t)) templates_are equal) new_is (looks (shape_of_template t) rows new _ refl new_is)

  pub knows_by_key : (t : Proof) (key : Shape) (rows new : List Row) (templates : List Kept) (id : ℕ) → key ≡ shape_of_template t → templates ≡ unwrap_or (lookup (same key) rows) [] → Contains templates (kept id t) → new ≡ promoted (same key) rows → IsKnown rows t id new
  knows_by_key t key rows new templates id key_is templates_are equal new_is =
      knows t rows new templates id (templates_are ∙ ap (λ (s : Shape). unwrap_or (lookup (same s) rows) []) key_is) equal (new_is ∙ ap (λ (s : Shape). promoted (same s) rows) key_is)

  added_by_cases : (t : Proof) (rows : List Row) (templates : List Kept) (count : ℕ) → length rows ≤ 128 → templates ≡ unwrap_or (lookup (same (shape_of_template t)) rows) [] → All (IsOther t) templates → Stood (shape_of_template t) rows
      → IsAdded count rows t count (put_entries same (lru_cache rows 128) (shape_of_template t) (latest (templates ++ kept count t ∷ [])))
  added_by_cases t rows templates count within templates_are fresh (inl h) =
      let shape = shape_of_template t in
      let newest = latest (templates ++ kept count t ∷ []) in
      let rest = remove_entry (same shape) rows in
      let s = h.1.stands in
      let found : h.0 ≡ templates = sym (templates_are ∙ ap (λ (o : Option (List Kept)). unwrap_or o []) h.1.value) in
      let long : length rows ≡ length s.before + suc (length s.after) = ap (λ (l : List Row). length l) s.rows_are ∙ length-append s.before ((shape, h.0) ∷ s.after) in
      let less : length rest ≡ length s.before + length s.after = ap (λ (l : List Row). length l) s.rest_is ∙ length-append s.before s.after in
      let fits : suc (length rest) ≤ 128 = omega arith in
      record {
        templates = templates;
        rest = rest;
        under = inl (subst (λ (l : List Kept). Stands shape rows l rest) found s);
        fresh = fresh;
        number = refl;
        front = ap (λ (o : Option Row). option_map_or (λ (r : Row). (r.0, newest) ∷ rest) o ((shape, newest) ∷ take 127 rows)) h.1.entry ∙ sym (take_all 128 ((shape, newest) ∷ rest) fits);
      }
  added_by_cases t rows templates count within templates_are fresh (inr h) =
      let shape = shape_of_template t in
      let newest = latest (templates ++ kept count t ∷ []) in
      record {
        templates = templates;
        rest = rows;
        under = inr (record { absent = h.absent; none = templates_are ∙ ap (λ (o : Option (List Kept)). unwrap_or o []) h.value; rest_is = refl });
        fresh = fresh;
        number = refl;
        front = ap (λ (o : Option Row). option_map_or (λ (r : Row). (r.0, newest) ∷ remove_entry (same shape) rows) o ((shape, newest) ∷ take 127 rows)) h.entry;
      }

  adds : (t : Proof) (rows new : List Row) (templates newest : List Kept) (count cap : ℕ) → cap ≡ 128 → length rows ≤ cap → templates ≡ unwrap_or (lookup (same (shape_of_template t)) rows) [] → All (IsOther t) templates
      → newest ≡ latest (templates ++ kept count t ∷ []) → new ≡ put_entries same (lru_cache rows cap) (shape_of_template t) newest → IsAdded count rows t count new
  adds t rows new templates newest count cap cap_is within templates_are fresh newest_is new_is =
      let now : new ≡ put_entries same (lru_cache rows 128) (shape_of_template t) (latest (templates ++ kept count t ∷ [])) =
      new_is ∙ (λ i. put_entries same (lru_cache rows (cap_is i)) (shape_of_template t) (newest_is i))
      in
      subst (λ (l : List Row). IsAdded count rows t count l) (sym now) (added_by_cases t rows templates count (omega arith) templates_are fresh (stood (shape_of_template t) rows))

  pub adds_by_key : (t : Proof) (key : Shape) (rows new : List Row) (templates newest : List Kept) (count cap : ℕ) → key ≡ shape_of_template t → cap ≡ 128 → length rows ≤ cap → templates ≡ unwrap_or (lookup (same key) rows) [] → All (IsOther t) templates
      → newest ≡ latest (templates ++ kept count t ∷ []) → new ≡ put_entries same (lru_cache rows cap) key newest → IsAdded count rows t count new
  adds_by_key t key rows new templates newest count cap key_is cap_is within templates_are fresh newest_is new_is =
      adds t rows new templates newest count cap cap_is within (templates_are ∙ ap (λ (s : Shape). unwrap_or (lookup (same s) rows) []) key_is) fresh newest_is (new_is ∙ ap (λ (s : Shape). put_entries same (lru_cache rows cap) s newest) key_is)

-- of eight and more the last seven stay, and one comes behind them
pub newest_last : (templates : List Kept) (k : Kept) → drop (length templates - 7) templates ++ k ∷ [] ≡ latest (templates ++ k ∷ [])
newest_last templates k =
    let long : length (templates ++ k ∷ []) ≡ length templates + 1 = length-append templates (k ∷ []) in
    let skip : length (templates ++ k ∷ []) - 8 ≡ length templates - 7 = omega arith in
    sym (ap (λ (n : ℕ). drop n (templates ++ k ∷ [])) skip ∙ drop-append-le (length templates - 7) templates (k ∷ []) (omega arith))

-- one template more is shared
pub copies_on : (all new templates : List Kept) (i : ℕ) (copy k : Kept) → all ≡ take i templates → All IsSound all → new ≡ all ++ copy ∷ [] → copy ≡ k → k ≡ get_or templates i k → i < length templates → IsSound k → (new ≡ take (i + 1) templates) × All IsSound new
copies_on all new templates i copy k same sound more copy_is read below here = (
  more ∙ (λ j. same j ++ copy_is j ∷ []) ∙ ap (λ (x : Kept). take i templates ++ x ∷ []) read ∙ sym (take_more templates i k below),
  All-same IsSound new (all ++ copy ∷ []) more (All-push IsSound all copy sound (subst IsSound (sym copy_is) here)),
)

-- where no number was found, there is none
pub none_was : {P : Type 0} (o : Option ℕ) → ((id : ℕ) → o ≡ Some id → ⊥) → (o ≡ None → P) → P
none_was None isnt h = h refl
none_was (Some id) isnt h = absurd (isnt id refl)
