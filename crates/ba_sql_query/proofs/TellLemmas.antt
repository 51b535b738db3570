-- What is kept of the sources tells what all of them tell.
use Rattle.std.proofs.Common.{◌≡◌, ℕ, ◌+◌, ◌-◌, ◌<◌, ◌≤◌, Bool, true, false, ◌||◌, nat_eq, count_by, List, [], ◌∷◌, ◌++◌, length, take, drop, get_or, Some, None, refl, sym, ap, subst, ◌∙◌, ⊎_elim, zero, suc, arith}
use Rattle.std.specs.BTreeMap.{BTreeMap, Updates, get_by}
use Rattle.std.specs.Cmp.Lexicographic.{slice_cmp}
use Rattle.std.specs.List.{list_any, position, position_or_len}
use Rattle.std.specs.Ordering.{nat_cmp}
use Rattle.std.specs.Str.{bytes_eq}
use Rattle.std.proofs.lemmas.Bool.{cases_lt}
use Rattle.std.proofs.lemmas.Bool.Decides.{nat_tests}
use Rattle.std.proofs.lemmas.List.{get_or_default, length-drop, take_all}
use Rattle.std.proofs.lemmas.List.Folds.{list_any-append}
use Rattle.std.proofs.lemmas.List.Quantifiers.{position-Some}
use Rattle.std.proofs.lemmas.Map.Text.{btree_map_updates_str}
use Rattle.std.proofs.lemmas.Slice.Eq.{bytes_eq-Decides}
use denote.Ref.{Bor}
use Rattle.ba_sql_syntax.specs.declared.written.Source.{Source}
use Rattle.ba_sql_query.specs.Names.{called}
use Rattle.ba_sql_query.specs.Spots.{Keeps, Tells, seen, spot, spot_kept}
use Rattle.ba_sql_query.specs.declared.spot.Spot.{Spot}
use Rattle.ba_sql_query.specs.declared.tables.Kept.{Kept}
use Rattle.ba_sql_query.proofs.PlaceLemmas.{below, counted_no, counted_yes}
use Rattle.ba_sql_query.proofs.SpotLemmas.{made, next-no, next-yes, same}

-- ---- by what sources are called

abbrev by : List ℕ → Source → Bool
by name source = bytes_eq (called source) name

pub tells_more : (sources : List Source) (i : ℕ) (x : Source) (old new : BTreeMap (Bor (List ℕ)) Spot) (key : Bor (List ℕ)) (s : Spot) → Tells old (take i sources) → i < length sources → x ≡ get_or sources i x → key.now ≡ called x
    → s ≡ seen (get_by (λ k. slice_cmp nat_cmp key.now k.now) old) i → Updates (λ x y. slice_cmp nat_cmp x.now y.now) old new key (Some s) → Tells new (take (i + 1) sources)
tells_more sources i x old new key s tells lt is name_is s_is updates = record { of = λ name. at name (bytes_eq key.now name) refl }
  where
    at : (name : List ℕ) (t : Bool) → bytes_eq key.now name ≡ t → get_by (λ k. slice_cmp nat_cmp name k.now) new ≡ spot (by name) (take (i + 1) sources)
    at name true e =
        let one : key.now ≡ name = (bytes_eq-Decides key.now name).0 e in
        let was : s ≡ seen (get_by (λ k. slice_cmp nat_cmp name k.now) old) i = subst (λ (n : List ℕ). s ≡ seen (get_by (λ k. slice_cmp nat_cmp n k.now) old) i) one s_is in
        let s_now : s ≡ seen (spot (by name) (take i sources)) i = was ∙ ap (λ o. seen o i) (tells.of name) in
        let passes : by name x ≡ true = ap (λ n. bytes_eq n name) (sym name_is) ∙ e in
        btree_map_updates_str key.now old new (Some s) updates name ∙ (rw e (ap (λ (o : Spot). Some o) s_now ∙ sym (next-yes (by name) sources i x lt is passes)))
    at name false e =
        let fails : by name x ≡ false = ap (λ n. bytes_eq n name) (sym name_is) ∙ e in
        btree_map_updates_str key.now old new (Some s) updates name ∙ (rw e (tells.of name ∙ sym (next-no (by name) sources i x lt is fails)))

pub tells_none : (sources : List Source) (spots : BTreeMap (Bor (List ℕ)) Spot) → spots.entries ≡ [] → Tells spots (take 0 sources)
tells_none sources spots e = record { of = λ name. rw e refl }

pub tells_all : (sources : List Source) (i : ℕ) (spots : BTreeMap (Bor (List ℕ)) Spot) → Tells spots (take i sources) → length sources ≤ i → Tells spots sources
tells_all sources i spots tells le = subst (Tells spots) (take_all i sources le) tells

-- ---- by tables

pub keeps_none : (tables : List ℕ) (kept : List Kept) → kept ≡ [] → Keeps kept (take 0 tables)
keeps_none tables kept e = record { of = λ p. rw e refl }

pub keeps_all : (tables : List ℕ) (i : ℕ) (kept : List Kept) → Keeps kept (take i tables) → length tables ≤ i → Keeps kept tables
keeps_all tables i kept keeps le = subst (Keeps kept) (take_all i tables le) keeps

module _ (p : ℕ → Bool) where
  abbrev kept_by : Kept → Bool
  kept_by k = p k.table

  kept-yes : (ks : List Kept) (k : Kept) → p k.table ≡ true → spot_kept p (ks ++ k ∷ []) ≡ Some (seen (spot_kept p ks) k.place)
  kept-yes [] k e = rw e refl
  kept-yes (x ∷ ks) k e = at (kept-yes ks k e) (p x.table) refl
    where
      or_true : (b : Bool) → (b || (true || false)) ≡ true
      or_true true = refl
      or_true false = refl

      at : spot_kept p (ks ++ k ∷ []) ≡ Some (seen (spot_kept p ks) k.place) → (t : Bool) → p x.table ≡ t → spot_kept p ((x ∷ ks) ++ k ∷ []) ≡ Some (seen (spot_kept p (x ∷ ks)) k.place)
      at rest true f =
          let any : list_any kept_by (ks ++ k ∷ []) ≡ true = list_any-append kept_by ks (k ∷ []) ∙ rw e (or_true (list_any kept_by ks)) in
          rw f (same x.place x.place (list_any kept_by (ks ++ k ∷ [])) true refl any)
      at rest false f = rw f rest

  kept-no : (ks : List Kept) (k : Kept) → p k.table ≡ false → spot_kept p (ks ++ k ∷ []) ≡ spot_kept p ks
  kept-no [] k e = rw e refl
  kept-no (x ∷ ks) k e = at (kept-no ks k e) (p x.table) refl
    where
      or_false : (b : Bool) → (b || (false || false)) ≡ b
      or_false true = refl
      or_false false = refl

      at : spot_kept p (ks ++ k ∷ []) ≡ spot_kept p ks → (t : Bool) → p x.table ≡ t → spot_kept p ((x ∷ ks) ++ k ∷ []) ≡ spot_kept p (x ∷ ks)
      at rest true f =
          let any : list_any kept_by (ks ++ k ∷ []) ≡ list_any kept_by ks = list_any-append kept_by ks (k ∷ []) ∙ rw e (or_false (list_any kept_by ks)) in
          rw f (same x.place x.place (list_any kept_by (ks ++ k ∷ [])) (list_any kept_by ks) refl any)
      at rest false f = rw f rest

  -- a table that is kept twice: one more place tells nothing new
  module _ (t : ℕ) (passes : p t ≡ true) where
    abbrev is_it : Kept → Bool
    is_it k = nat_eq k.table t

    one : (a b : ℕ) → nat_eq a b ≡ true → a ≡ b
    one a b e = grind (arith, nat_tests)

    passes_too : (k : Kept) → is_it k ≡ true → p k.table ≡ true
    passes_too k e = ap p (one k.table t e) ∙ passes

    any_kept : (ks : List Kept) → 1 ≤ count_by is_it ks → list_any kept_by ks ≡ true
    any_kept [] h = absurd (omega (arith, h))
    any_kept (k ∷ ks) h = at (any_kept ks) (is_it k) refl
      where
        or_right : (a b : Bool) → b ≡ true → (a || b) ≡ true
        or_right true b e = refl
        or_right false b e = e

        at : (1 ≤ count_by is_it ks → list_any kept_by ks ≡ true) → (b : Bool) → is_it k ≡ b → list_any kept_by (k ∷ ks) ≡ true
        at rest true e = rw (passes_too k e) refl
        at rest false e =
            let f = counted_no is_it k ks e in
            or_right (p k.table) (list_any kept_by ks) (rest (omega (arith, f, h)))

    settled : (ks : List Kept) → 2 ≤ count_by is_it ks → (n : ℕ) × (spot_kept p ks ≡ made n true)
    settled [] h = absurd (omega (arith, h))
    settled (k ∷ ks) h = at (settled ks) (p k.table) refl (is_it k) refl
      where
        no : true ≡ false → ⊥
        no e = cc

        at : (2 ≤ count_by is_it ks → (n : ℕ) × (spot_kept p ks ≡ made n true)) → (b : Bool) → p k.table ≡ b → (d : Bool) → is_it k ≡ d → (n : ℕ) × (spot_kept p (k ∷ ks) ≡ made n true)
        at rest true e true f =
            let counts = counted_yes is_it k ks f in
            let any = any_kept ks (omega (arith, counts, h)) in
            (k.place, rw e (same k.place k.place (list_any kept_by ks) true refl any))
        at rest true e false f =
            let counts = counted_no is_it k ks f in
            let any = any_kept ks (omega (arith, counts, h)) in
            (k.place, rw e (same k.place k.place (list_any kept_by ks) true refl any))
        at rest false e true f = absurd (no (sym (passes_too k f) ∙ e))
        at rest false e false f =
            let counts = counted_no is_it k ks f in
            let more = rest (omega (arith, counts, h)) in
            (more.0, rw e more.1)

abbrev kept_at : ℕ → ℕ → Kept
kept_at t i = record { table = t; place = i }

pub keeps_pushed : (tables : List ℕ) (i t : ℕ) (kept more : List Kept) → Keeps kept (take i tables) → i < length tables → t ≡ get_or tables i t → more ≡ kept ++ kept_at t i ∷ [] → Keeps more (take (i + 1) tables)
keeps_pushed tables i t kept more keeps lt is e = record { of = λ p. ap (spot_kept p) e ∙ at p (p t) refl }
  where
    at : (p : ℕ → Bool) (b : Bool) → p t ≡ b → spot_kept p (kept ++ kept_at t i ∷ []) ≡ spot p (take (i + 1) tables)
    at p true f = kept-yes p kept (kept_at t i) f ∙ ap (λ o. Some (seen o i)) (keeps.of p) ∙ sym (next-yes p tables i t lt is f)
    at p false f = kept-no p kept (kept_at t i) f ∙ keeps.of p ∙ sym (next-no p tables i t lt is f)

pub keeps_passed : (tables : List ℕ) (i t : ℕ) (kept more : List Kept) → Keeps kept (take i tables) → i < length tables → t ≡ get_or tables i t → more ≡ kept → 2 ≤ count_by (λ k. nat_eq k.table t) kept → Keeps more (take (i + 1) tables)
keeps_passed tables i t kept more keeps lt is e twice = record { of = λ p. ap (spot_kept p) e ∙ at p (p t) refl }
  where
    at : (p : ℕ → Bool) (b : Bool) → p t ≡ b → spot_kept p kept ≡ spot p (take (i + 1) tables)
    at p true f =
        let s = settled p t f kept twice in
        s.1 ∙ ap (λ o. Some (seen o i)) (sym s.1 ∙ keeps.of p) ∙ sym (next-yes p tables i t lt is f)
    at p false f = keeps.of p ∙ sym (next-no p tables i t lt is f)

-- ---- where it is first among the kept

module _ (p : ℕ → Bool) where
  first_kept : (ks : List Kept) (n : ℕ) (k : Kept) → k ≡ get_or ks n k → n < length ks → p (get_or ks n k).table ≡ true → ((j : ℕ) → j < n → p (get_or ks j k).table ≡ false) → spot_kept p ks ≡ made k.place (list_any (kept_by p) (drop (suc n) ks))
  first_kept [] n k is lt so before = absurd (omega (arith, lt))
  first_kept (x ∷ ks) zero k is lt so before = rw so (ap (λ (y : Kept). made y.place (list_any (kept_by p) ks)) (sym is))
  first_kept (x ∷ ks) (suc n) k is lt so before = rw (before 0 (omega arith)) (first_kept ks n k is (omega (arith, lt)) so (λ j l. before (suc j) (omega (arith, l))))

  pub found_kept : (kept : List Kept) (n : ℕ) (k d : Kept) (again : Bool) → position (kept_by p) kept ≡ Some n → k ≡ get_or kept n d → again ≡ list_any (kept_by p) (take (length kept - (n + 1)) (drop (n + 1) kept)) → made k.place again ≡ spot_kept p kept
  found_kept kept n k d again e is any =
      let s = position-Some (kept_by p) kept n k e in
      let next : n + 1 ≡ suc n = omega arith in
      let all = take_all (length kept - (n + 1)) (drop (n + 1) kept) (omega (arith, length-drop (n + 1) kept)) in
      same k.place k.place again (list_any (kept_by p) (drop (suc n) kept)) refl (any ∙ ap (list_any (kept_by p)) all ∙ ap (λ m. list_any (kept_by p) (drop m kept)) next) ∙ sym (first_kept kept n k (is ∙ get_or_default kept n d k s.0) s.0 s.1 s.2)

  none_passes : (ks : List Kept) → length ks ≤ position_or_len (kept_by p) ks → spot_kept p ks ≡ None
  none_passes [] h = refl
  none_passes (k ∷ ks) h = at (none_passes ks) (p k.table) refl
    where
      at : (length ks ≤ position_or_len (kept_by p) ks → spot_kept p ks ≡ None) → (b : Bool) → p k.table ≡ b → spot_kept p (k ∷ ks) ≡ None
      at rest true e = let g = rw e at h in absurd (omega (arith, g))
      at rest false e = let g = rw e at h in rw e (rest (omega (arith, g)))

  pub none_kept : (kept : List Kept) → position (kept_by p) kept ≡ None → spot_kept p kept ≡ None
  none_kept kept e = ⊎_elim
      (λ (h : position_or_len (kept_by p) kept < length kept). absurd (some_none (sym (rw (below (position_or_len (kept_by p) kept) (length kept) h) refl) ∙ e)))
      (λ (h : length kept ≤ position_or_len (kept_by p) kept). none_passes kept h)
      (cases_lt (position_or_len (kept_by p) kept) (length kept))
    where
      some_none : Some (position_or_len (kept_by p) kept) ≡ None → ⊥
      some_none e = cc
