-- Where a test passes first and whether it passes again, as one more element comes.
use Rattle.std.proofs.Common.{◌≡◌, ℕ, ◌+◌, ◌<◌, ◌≤◌, Bool, true, false, cond, nat_lt, count_by, List, [], ◌∷◌, ◌++◌, length, take, get_or, Option, Some, None, refl, sym, ap, ◌∙◌, ⊎_elim, arith}
use Rattle.std.specs.Prelude.{option_map}
use Rattle.std.specs.List.{position_or_len}
use Rattle.std.proofs.lemmas.Bool.{cases_lt}
use Rattle.std.proofs.lemmas.Bool.Decides.{nat_tests}
use Rattle.std.proofs.lemmas.List.{length-append, length-take-le, take_more}
use Rattle.std.proofs.lemmas.List.Sums.{sum_by_push}
use Rattle.ba_sql_query.specs.Names.{only}
use Rattle.ba_sql_query.specs.Spots.{only_at, seen, spot}
use Rattle.ba_sql_query.specs.declared.fault.ReadQueryFault.{ReadQueryFault}
use Rattle.ba_sql_query.specs.declared.spot.Spot.{Spot}
use Rattle.ba_sql_query.proofs.PlaceLemmas.{below, counted_no, counted_yes}

-- ---- a spot, made of numbers

abbrev pub made : ℕ → Bool → Option Spot
made n again = Some (record { first = n; again = again })

pub same : (n m : ℕ) (a b : Bool) → n ≡ m → a ≡ b → made n a ≡ made m b
same n m a b e f = rw (e, f) refl

abbrev spot_with : ℕ → ℕ → ℕ → Option Spot
spot_with n len count = option_map (λ (n : ℕ). record { first = n; again = nat_lt 1 count }) (cond (nat_lt n len) (Some n) None)

not_below : (n m : ℕ) → m ≤ n → nat_lt n m ≡ false
not_below n m h = grind (arith, nat_tests)

some_spot : (n len count : ℕ) → n < len → spot_with n len count ≡ made n (nat_lt 1 count)
some_spot n len count h = rw (below n len h) refl

no_spot : (n len count : ℕ) → len ≤ n → spot_with n len count ≡ None
no_spot n len count h = rw (not_below n len h) refl

-- the place is n among len elements, of which c pass, and m and d with one more, which passes by b
module _ (n m len c d : ℕ) (found : n < len → (m ≡ n) × (1 ≤ c)) where
  more_yes : (len ≤ n → (m ≡ len) × (c ≡ 0)) → d ≡ c + 1 → spot_with m (len + 1) d ≡ Some (seen (spot_with n len c) len)
  more_yes none e = ⊎_elim
      (λ (h : n < len).
      let f = found h in
      rw (some_spot n len c h) (some_spot m (len + 1) d (omega (arith, h, f)) ∙ same m n (nat_lt 1 d) true f.0 (below 1 d (omega (arith, e, f)))))
      (λ (h : len ≤ n).
      let f = none h in
      rw (no_spot n len c h) (some_spot m (len + 1) d (omega (arith, f)) ∙ same m len (nat_lt 1 d) false f.0 (not_below 1 d (omega (arith, e, f)))))
      (cases_lt n len)

  more_no : (len ≤ n → m ≡ len + 1) → d ≡ c → spot_with m (len + 1) d ≡ spot_with n len c
  more_no none e = ⊎_elim
      (λ (h : n < len).
      let f = found h in
      rw (some_spot n len c h) (some_spot m (len + 1) d (omega (arith, h, f)) ∙ same m n (nat_lt 1 d) (nat_lt 1 c) f.0 (ap (nat_lt 1) e)))
      (λ (h : len ≤ n).
      let f = none h in
      rw (no_spot n len c h) (no_spot m (len + 1) d (omega (arith, f))))
      (cases_lt n len)

-- ---- a list and one more

module _ {X : Type 0} (p : X → Bool) where
  abbrev place : List X → ℕ
  place xs = position_or_len p xs

  found_counts : (xs : List X) → place xs < length xs → 1 ≤ count_by p xs
  found_counts [] h = absurd (omega (arith, h))
  found_counts (x ∷ xs) h = at (found_counts xs) (p x) refl
    where
      at : (place xs < length xs → 1 ≤ count_by p xs) → (t : Bool) → p x ≡ t → 1 ≤ count_by p (x ∷ xs)
      at rest true e = let f = counted_yes p x xs e in omega (arith, f)
      at rest false e =
          let f = counted_no p x xs e in
          let g = rw e at h in
          let more = rest (omega (arith, g)) in
          omega (arith, f, more)

  none_counts : (xs : List X) → length xs ≤ place xs → count_by p xs ≡ 0
  none_counts [] h = refl
  none_counts (x ∷ xs) h = at (none_counts xs) (p x) refl
    where
      at : (length xs ≤ place xs → count_by p xs ≡ 0) → (t : Bool) → p x ≡ t → count_by p (x ∷ xs) ≡ 0
      at rest true e = let g = rw e at h in absurd (omega (arith, g))
      at rest false e =
          let g = rw e at h in
          let more = rest (omega (arith, g)) in
          counted_no p x xs e ∙ more

  place_found : (xs : List X) (x : X) → place xs < length xs → place (xs ++ x ∷ []) ≡ place xs
  place_found [] x h = absurd (omega (arith, h))
  place_found (y ∷ ys) x h = at (place_found ys x) (p y) refl
    where
      at : (place ys < length ys → place (ys ++ x ∷ []) ≡ place ys) → (t : Bool) → p y ≡ t → place ((y ∷ ys) ++ x ∷ []) ≡ place (y ∷ ys)
      at rest true e = rw e refl
      at rest false e =
          let g = rw e at h in
          let more = rest (omega (arith, g)) in
          rw e (omega (arith, more))

  place_none : (xs : List X) (x : X) → length xs ≤ place xs → place (xs ++ x ∷ []) ≡ length xs + place (x ∷ [])
  place_none [] x h = omega arith
  place_none (y ∷ ys) x h = at (place_none ys x) (p y) refl
    where
      at : (length ys ≤ place ys → place (ys ++ x ∷ []) ≡ length ys + place (x ∷ [])) → (t : Bool) → p y ≡ t → place ((y ∷ ys) ++ x ∷ []) ≡ length (y ∷ ys) + place (x ∷ [])
      at rest true e = let g = rw e at h in absurd (omega (arith, g))
      at rest false e =
          let g = rw e at h in
          let more = rest (omega (arith, g)) in
          rw e (omega (arith, more))

  place_yes : (x : X) → p x ≡ true → place (x ∷ []) ≡ 0
  place_yes x e = rw e refl

  place_no : (x : X) → p x ≡ false → place (x ∷ []) ≡ 1
  place_no x e = rw e refl

  count_push : (xs : List X) (x : X) (t : Bool) → p x ≡ t → count_by p (xs ++ x ∷ []) ≡ count_by p xs + cond t 1 0
  count_push xs x t e = sum_by_push (λ y. cond (p y) 1 0) xs x ∙ ap (λ (b : Bool). count_by p xs + cond b 1 0) e

  one_more : (xs : List X) (x : X) → length (xs ++ x ∷ []) ≡ length xs + 1
  one_more xs x = length-append xs (x ∷ [])

  -- one more that passes, and one that doesn't
  pub spot-yes : (xs : List X) (x : X) → p x ≡ true → spot p (xs ++ x ∷ []) ≡ Some (seen (spot p xs) (length xs))
  spot-yes xs x e =
      let more = more_yes (place xs) (place (xs ++ x ∷ [])) (length xs) (count_by p xs) (count_by p (xs ++ x ∷ [])) (λ h. (place_found xs x h, found_counts xs h))
      (λ h. let f = place_none xs x h in let g = place_yes x e in (omega (arith, f, g), none_counts xs h)) (count_push xs x true e) in
      rw (one_more xs x) more

  pub spot-no : (xs : List X) (x : X) → p x ≡ false → spot p (xs ++ x ∷ []) ≡ spot p xs
  spot-no xs x e =
      let counts = count_push xs x false e in
      let more = more_no (place xs) (place (xs ++ x ∷ [])) (length xs) (count_by p xs) (count_by p (xs ++ x ∷ [])) (λ h. (place_found xs x h, found_counts xs h))
      (λ h. let f = place_none xs x h in let g = place_no x e in omega (arith, f, g)) (omega (arith, counts)) in
      rw (one_more xs x) more

  -- the first elements and the next one
  up_to : (xs : List X) (i : ℕ) (x : X) → i < length xs → x ≡ get_or xs i x → take (i + 1) xs ≡ take i xs ++ x ∷ []
  up_to xs i x lt is = take_more xs i x lt ∙ ap (λ y. take i xs ++ y ∷ []) (sym is)

  long : (xs : List X) (i : ℕ) → i < length xs → length (take i xs) ≡ i
  long xs i lt = length-take-le i xs (omega (arith, lt))

  pub next-yes : (xs : List X) (i : ℕ) (x : X) → i < length xs → x ≡ get_or xs i x → p x ≡ true → spot p (take (i + 1) xs) ≡ Some (seen (spot p (take i xs)) i)
  next-yes xs i x lt is e = ap (spot p) (up_to xs i x lt is) ∙ spot-yes (take i xs) x e ∙ ap (λ (n : ℕ). Some (seen (spot p (take i xs)) n)) (long xs i lt)

  pub next-no : (xs : List X) (i : ℕ) (x : X) → i < length xs → x ≡ get_or xs i x → p x ≡ false → spot p (take (i + 1) xs) ≡ spot p (take i xs)
  next-no xs i x lt is e = ap (spot p) (up_to xs i x lt is) ∙ spot-no (take i xs) x e

  -- ---- the only one

  only_is : (absent : ReadQueryFault) (xs : List X) → only_at absent (spot p xs) ≡ only absent p xs
  only_is absent xs = ⊎_elim
      (λ (h : place xs < length xs). rw (below (place xs) (length xs) h) refl)
      (λ (h : length xs ≤ place xs).
      let few : nat_lt 1 (count_by p xs) ≡ false = not_below 1 (count_by p xs) (omega (arith, none_counts xs h)) in
      rw (not_below (place xs) (length xs) h, few) refl)
      (cases_lt (place xs) (length xs))

  pub only_found : (absent : ReadQueryFault) (xs ys : List X) (o : Option Spot) → o ≡ spot p xs → xs ≡ ys → only_at absent o ≡ only absent p ys
  only_found absent xs ys o e f = ap (only_at absent) (e ∙ ap (spot p) f) ∙ only_is absent ys
