-- The first, and the only one, of a list.
use Rattle.std.proofs.Common.{◌≡◌, ℕ, zero, suc, ◌+◌, ◌<◌, ◌≤◌, ◌^◌, Bool, true, false, cond, nat_le, nat_lt, count_by, List, [], ◌∷◌, length, get_or, slice_get, Option, Some, None, is_some, Ok, refl, sym, ap, subst, ◌∙◌, arith}
use Rattle.std.specs.Bool.{Decides}
use Rattle.std.specs.List.{position, position_or_len}
use Rattle.std.proofs.lemmas.Bool.{le-leb, leb-true}
use Rattle.std.proofs.lemmas.Bool.Decides.{nat_tests}
use Rattle.std.proofs.lemmas.List.Quantifiers.{position-Some}
use Rattle.std.proofs.lemmas.List.Sums.{sum_by-cons}
use Rattle.std.proofs.lemmas.Option.{get_or_from_slice_get, slice_get-get_or, slice_get_within}
use Rattle.ba_sql_query.specs.Names.{numbered, only}
use Rattle.ba_sql_query.specs.Reads.{At, IsFirst, IsOnly}
use Rattle.ba_sql_query.specs.declared.fault.ReadQueryFault.{ReadQueryFault}
use Rattle.ba_sql_query.proofs.ReadLemmas.{err_ok, numbered_is, ok_same}

numbered_bits : (absent : ReadQueryFault) (o : Option ℕ) (n : ℕ) → numbered absent o ≡ Ok n → n < 2 ^ 32
numbered_bits absent None n e = absurd (err_ok n e)
numbered_bits absent (Some m) n e = at (nat_le m 0xffff_ffff) refl
  where
    at : (t : Bool) → nat_le m 0xffff_ffff ≡ t → n < 2 ^ 32
    at true h = let same : m ≡ n = ok_same m n (rw h at e) in let le = leb-true m 0xffff_ffff h in omega (arith, same, le)
    at false h = absurd (err_ok n (rw h at e))

numbered_so : (absent : ReadQueryFault) (o : Option ℕ) (n : ℕ) → o ≡ Some n → n < 2 ^ 32 → numbered absent o ≡ Ok n
numbered_so absent o n e bits =
    let le : nat_le n 0xffff_ffff ≡ true = le-leb n 0xffff_ffff (omega (arith, bits)) in
    rw e (rw le refl)

pub counted_yes : {X : Type 0} (p : X → Bool) (x : X) (xs : List X) → p x ≡ true → count_by p (x ∷ xs) ≡ 1 + count_by p xs
counted_yes p x xs e = sum_by-cons (λ y. cond (p y) 1 0) x xs ∙ ap (λ (b : Bool). cond b 1 0 + count_by p xs) e

pub counted_no : {X : Type 0} (p : X → Bool) (x : X) (xs : List X) → p x ≡ false → count_by p (x ∷ xs) ≡ count_by p xs
counted_no p x xs e =
    let f = sum_by-cons (λ y. cond (p y) 1 0) x xs ∙ ap (λ (b : Bool). cond b 1 0 + count_by p xs) e in
    let g : 0 + count_by p xs ≡ count_by p xs = omega arith in
    f ∙ g

pub below : (n m : ℕ) → n < m → nat_lt n m ≡ true
below n m h = grind (arith, nat_tests)

module _ {X : Type 0} (p : X → Bool) (P : X → Type 0) (decides : (x : X) → Decides (p x) (P x)) where
  passes : (xs : List X) (n : ℕ) → At P xs n → (x : X) × (slice_get xs n ≡ Some x) × (p x ≡ true)
  passes xs n h = (h.0, h.1, (decides h.0).1 h.2)

  fails : (x : X) → (P x → ⊥) → p x ≡ false
  fails x h = at (p x) refl
    where
      at : (t : Bool) → p x ≡ t → p x ≡ false
      at true e = absurd (h ((decides x).0 e))
      at false e = e

  -- ---- the first

  place_is : (xs : List X) (n : ℕ) → At P xs n → ((k : ℕ) → k < n → At P xs k → ⊥) → position_or_len p xs ≡ n
  place_is [] n h first = cc
  place_is (x ∷ xs) zero h first =
      let same : x ≡ h.0 = cc in
      rw ((decides x).1 (subst P (sym same) h.2)) refl
  place_is (x ∷ xs) (suc n) h first =
      let no : p x ≡ false = fails x (λ k. first 0 (omega arith) (x, refl, k)) in
      let more = place_is xs n h (λ k lt at. first (suc k) (omega (arith, lt)) at) in
      rw no (omega (arith, more))

  position_is : (xs : List X) (n : ℕ) → At P xs n → ((k : ℕ) → k < n → At P xs k → ⊥) → position p xs ≡ Some n
  position_is xs n h first =
      let e = place_is xs n h first in
      let lt = slice_get_within xs n h.0 h.1 in
      let t : nat_lt n (length xs) ≡ true = grind (arith, nat_tests, lt) in
      rw e (rw t refl)

  pub here_is : (xs : List X) (n : ℕ) → position p xs ≡ Some n → At P xs n
  here_is [] n e = cc
  here_is (x ∷ xs) n e =
      let s = position-Some p (x ∷ xs) n x e in
      (get_or (x ∷ xs) n x, slice_get-get_or (x ∷ xs) n x s.0, (decides (get_or (x ∷ xs) n x)).0 s.1)

  before_is : (xs : List X) (n : ℕ) → position p xs ≡ Some n → (k : ℕ) → k < n → At P xs k → ⊥
  before_is [] n e k lt h = cc
  before_is (x ∷ xs) n e k lt h =
      let s = position-Some p (x ∷ xs) n x e in
      let no = s.2 k lt in
      let same = get_or_from_slice_get (x ∷ xs) k h.0 x h.1 in
      let yes : p (get_or (x ∷ xs) k x) ≡ true = ap p same ∙ (decides h.0).1 h.2 in
      true_false (sym yes ∙ no)
    where
      true_false : true ≡ false → ⊥
      true_false e = cc

  place_le : (xs : List X) (n : ℕ) → At P xs n → position_or_len p xs ≤ n
  place_le [] n h = cc
  place_le (x ∷ xs) zero h =
      let same : x ≡ h.0 = cc in
      rw ((decides x).1 (subst P (sym same) h.2)) (omega arith)
  place_le (x ∷ xs) (suc n) h = at (place_le xs n h) (p x) refl
    where
      at : position_or_len p xs ≤ n → (t : Bool) → p x ≡ t → position_or_len p (x ∷ xs) ≤ suc n
      at more true e = rw e (omega arith)
      at more false e = rw e (omega (arith, more))

  -- whether there is one
  pub some_at : (xs : List X) → Decides (is_some (position p xs)) ((n : ℕ) × At P xs n)
  some_at xs = (λ e. let s = some_is (position p xs) e in (s.0, here_is xs s.0 s.1), λ h. found h.0 h.1)
    where
      some_is : (o : Option ℕ) → is_some o ≡ true → (n : ℕ) × (o ≡ Some n)
      some_is None e = cc
      some_is (Some n) e = (n, refl)

      found : (n : ℕ) → At P xs n → is_some (position p xs) ≡ true
      found n h =
          let le = place_le xs n h in
          let lt = slice_get_within xs n h.0 h.1 in
          let t : nat_lt (position_or_len p xs) (length xs) ≡ true = below (position_or_len p xs) (length xs) (omega (arith, le, lt)) in
          rw t refl

  pub first_sound : (absent : ReadQueryFault) (xs : List X) (n : ℕ) → numbered absent (position p xs) ≡ Ok n → IsFirst P xs n
  first_sound absent xs n e =
      let is = numbered_is absent (position p xs) n e in
      record { here = here_is xs n is; first = before_is xs n is; bits = numbered_bits absent (position p xs) n e }

  pub first_complete : (absent : ReadQueryFault) (xs : List X) (n : ℕ) → IsFirst P xs n → numbered absent (position p xs) ≡ Ok n
  first_complete absent xs n h = numbered_so absent (position p xs) n (position_is xs n h.here h.first) h.bits

  -- ---- the only one

  none_at : (xs : List X) (k : ℕ) → count_by p xs ≡ 0 → At P xs k → ⊥
  none_at [] k e h = cc
  none_at (x ∷ xs) zero e h =
      let same : x ≡ h.0 = cc in
      let yes = (decides x).1 (subst P (sym same) h.2) in
      let f = counted_yes p x xs yes in
      absurd (omega (arith, e, f))
  none_at (x ∷ xs) (suc k) e h = none_at xs k (at (p x) refl) h
    where
      at : (t : Bool) → p x ≡ t → count_by p xs ≡ 0
      at true q = let f = counted_yes p x xs q in absurd (omega (arith, e, f))
      at false q = let f = counted_no p x xs q in omega (arith, e, f)

  no_count : (xs : List X) → ((k : ℕ) → At P xs k → ⊥) → count_by p xs ≡ 0
  no_count [] h = refl
  no_count (x ∷ xs) h =
      let more = no_count xs (λ k at. h (suc k) at) in
      let f = counted_no p x xs (fails x (λ k. h 0 (x, refl, k))) in
      omega (arith, more, f)

  one_at : (xs : List X) (n k : ℕ) → count_by p xs ≤ 1 → At P xs n → At P xs k → k ≡ n
  one_at [] n k le h g = cc
  one_at (x ∷ xs) zero zero le h g = refl
  one_at (x ∷ xs) zero (suc k) le h g =
      let same : x ≡ h.0 = cc in
      let yes = (decides x).1 (subst P (sym same) h.2) in
      let f = counted_yes p x xs yes in
      absurd (none_at xs k (omega (arith, f, le)) g)
  one_at (x ∷ xs) (suc n) zero le h g =
      let same : x ≡ g.0 = cc in
      let yes = (decides x).1 (subst P (sym same) g.2) in
      let f = counted_yes p x xs yes in
      absurd (none_at xs n (omega (arith, f, le)) h)
  one_at (x ∷ xs) (suc n) (suc k) le h g = ap suc (one_at xs n k (at (p x) refl) h g)
    where
      at : (t : Bool) → p x ≡ t → count_by p xs ≤ 1
      at true q = let f = counted_yes p x xs q in omega (arith, f, le)
      at false q = let f = counted_no p x xs q in omega (arith, f, le)

  one_count : (xs : List X) → ((n k : ℕ) → At P xs n → At P xs k → k ≡ n) → count_by p xs ≤ 1
  one_count [] h = omega arith
  one_count (x ∷ xs) h = at (one_count xs (λ n k a b. let e = h (suc n) (suc k) a b in omega (arith, e))) (p x) refl
    where
      at : count_by p xs ≤ 1 → (t : Bool) → p x ≡ t → count_by p (x ∷ xs) ≤ 1
      at more true q =
          let none = no_count xs (λ k a. let e = h 0 (suc k) (x, refl, (decides x).0 q) a in absurd (omega (arith, e))) in
          let f = counted_yes p x xs q in
          omega (arith, none, f)
      at more false q = let f = counted_no p x xs q in omega (arith, f, more)

  few : (n : ℕ) → nat_lt 1 n ≡ false → n ≤ 1
  few n e = grind (arith, nat_tests)

  is_few : (n : ℕ) → n ≤ 1 → nat_lt 1 n ≡ false
  is_few n e = grind (arith, nat_tests)

  pub only_sound : (absent : ReadQueryFault) (xs : List X) (n : ℕ) → only absent p xs ≡ Ok n → IsOnly P xs n
  only_sound absent xs n e = at (nat_lt 1 (count_by p xs)) refl
    where
      at : (t : Bool) → nat_lt 1 (count_by p xs) ≡ t → IsOnly P xs n
      at true q = absurd (err_ok n (rw q at e))
      at false q =
          let f : numbered absent (position p xs) ≡ Ok n = rw q at e in
          let is = numbered_is absent (position p xs) n f in
          let here = here_is xs n is in
          record { here = here; only = λ k g. one_at xs n k (few (count_by p xs) q) here g; bits = numbered_bits absent (position p xs) n f }

  pub only_complete : (absent : ReadQueryFault) (xs : List X) (n : ℕ) → IsOnly P xs n → only absent p xs ≡ Ok n
  only_complete absent xs n h =
      let le = one_count xs (λ a b g k. h.only b k ∙ sym (h.only a g)) in
      rw (is_few (count_by p xs) le) (numbered_so absent (position p xs) n (position_is xs n h.here (λ k lt g. let e = h.only k g in absurd (omega (arith, lt, e)))) h.bits)
