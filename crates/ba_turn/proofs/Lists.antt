-- Lists with a value at some place, and beginnings of lists.
use mathlib.Core.List.{IsPrefix}
use mathlib.Core.Logic.{dite}
use mathlib.Core.Option.{some, some-injective, some-ne-none}
use native.Mathlib.Decide.{ℕ_discrete}
use lib.ListN.{get_elem?}
use Rattle.std.proofs.Common.{◌≡◌, ◌≢◌, ℕ, zero, suc, ◌+◌, ◌<◌, ◌≤◌, cond, ⊎_elim, inl, inr, ◌⊎◌, List, [], ◌∷◌, ◌++◌, length, set, sym, refl, ap, ◌∙◌, arith, append_assoc, append-nil, length-append, eqb, eq-eqb, eqb-true, ne_eqb, Bool}
use Rattle.std.specs.Cmp.{unsigned_Decides}
use Rattle.std.specs.List.{sum_by, All, Contains, slice_index_or}
use Rattle.std.proofs.lemmas.List.Sums.{sum_by-cons}
use Rattle.std.proofs.lemmas.List.{nil_from_length}
use Rattle.std.proofs.lemmas.List.Elements.{All-cons, All-contains}
use Rattle.std.proofs.lemmas.List.Kept.{AllPairs-cons}
use Rattle.std.proofs.lemmas.Map.Made.{IsDistinct-from_AllPairs}
use Rattle.std.proofs.lemmas.Map.Steps.{length-le_from_distinct_below}
use Rattle.std.proofs.lemmas.Map.Views.{Contains-from_any}
use Rattle.ba_turn.specs.History.{AreDistinct}

module _ {A : Type 0} where
  pub same_at : (l : List A) (i : ℕ) (a b : A) → get_elem? l i ≡ some a → get_elem? l i ≡ some b → a ≡ b
  same_at l i a b p q = some-injective a b (sym p ∙ q)

  pub is_within : (l : List A) (i : ℕ) (a : A) → get_elem? l i ≡ some a → i < length l
  is_within [] i a e = absurd (some-ne-none a (sym e))
  is_within (x ∷ xs) zero a e = omega arith
  is_within (x ∷ xs) (suc i) a e = let r = is_within xs i a e in omega arith

  pub at_only : (a : A) (j : ℕ) (b : A) → get_elem? (a ∷ []) j ≡ some b → (j ≡ 0) × (a ≡ b)
  at_only a zero b e = (refl, some-injective a b e)
  at_only a (suc j) b e = absurd (some-ne-none b (sym e))

  pub at_end : (l : List A) (a b : A) (j : ℕ) → get_elem? (l ++ a ∷ []) j ≡ some b → (get_elem? l j ≡ some b) ⊎ ((j ≡ length l) × (a ≡ b))
  at_end [] a b zero e = inr (refl, some-injective a b e)
  at_end [] a b (suc j) e = absurd (some-ne-none b (sym e))
  at_end (x ∷ xs) a b zero e = inl e
  at_end (x ∷ xs) a b (suc j) e = ⊎_elim (λ t. inl t) (λ t. inr (ap suc t.0, t.1)) (at_end xs a b j e)

  pub snoc_same : (xs : List A) (a b : A) → xs ++ a ∷ [] ≡ xs ++ b ∷ [] → a ≡ b
  snoc_same [] a b e = cc
  snoc_same (x ∷ xs) a b e = let t : xs ++ a ∷ [] ≡ xs ++ b ∷ [] = cc in snoc_same xs a b t

  -- sums where the place i has the value v
  pub sum_at : (f : A → ℕ) (l : List A) (i : ℕ) (v : A) → get_elem? l i ≡ some v → f v ≤ sum_by f l
  sum_at f [] i v e = absurd (some-ne-none v (sym e))
  sum_at f (x ∷ xs) zero v e = let is : f x ≡ f v = ap f (some-injective x v e) in omega (arith, sum_by-cons f x xs)
  sum_at f (x ∷ xs) (suc i) v e = let r = sum_at f xs i v e in omega (arith, sum_by-cons f x xs)

  pub sum_set : (f : A → ℕ) (l : List A) (i : ℕ) (v w : A) → get_elem? l i ≡ some v → sum_by f (set l i w) + f v ≡ sum_by f l + f w
  sum_set f [] i v w e = absurd (some-ne-none v (sym e))
  sum_set f (x ∷ xs) zero v w e = let is : f x ≡ f v = ap f (some-injective x v e) in omega (arith, sum_by-cons f x xs, sum_by-cons f w xs)
  sum_set f (x ∷ xs) (suc i) v w e = let r = sum_set f xs i v w e in omega (arith, sum_by-cons f x xs, sum_by-cons f x (set xs i w))

  -- one element has the weight 1 and all others weigh nothing: then f is the sum of f, where it is 0 of what weighs nothing
  none_weigh : (f g : A → ℕ) (l : List A) → sum_by g l ≡ 0 → ((j : ℕ) (b : A) → get_elem? l j ≡ some b → g b ≡ 0 → f b ≡ 0) → sum_by f l ≡ 0
  none_weigh f g [] z h = refl
  none_weigh f g (x ∷ xs) z h =
      let w = sum_by-cons g x xs in
      let a = h 0 x refl (omega arith) in
      let r = none_weigh f g xs (omega arith) (λ j b. h (suc j) b) in
      omega (arith, sum_by-cons f x xs)

  pub alone_weighs : (f g : A → ℕ) (l : List A) (i : ℕ) (v : A) → get_elem? l i ≡ some v → g v ≡ 1 → sum_by g l ≡ 1 → ((j : ℕ) (b : A) → get_elem? l j ≡ some b → g b ≡ 0 → f b ≡ 0) → sum_by f l ≡ f v
  alone_weighs f g [] i v e one all h = absurd (some-ne-none v (sym e))
  alone_weighs f g (x ∷ xs) zero v e one all h =
      let is : g x ≡ g v = ap g (some-injective x v e) in
      let is' : f x ≡ f v = ap f (some-injective x v e) in
      let w = sum_by-cons g x xs in
      let r = none_weigh f g xs (omega arith) (λ j b. h (suc j) b) in
      omega (arith, sum_by-cons f x xs)
  alone_weighs f g (x ∷ xs) (suc i) v e one all h =
      let w = sum_by-cons g x xs in
      let t = sum_at g xs i v e in
      let a = h 0 x refl (omega arith) in
      let r = alone_weighs f g xs i v e one (omega arith) (λ j b. h (suc j) b) in
      omega (arith, sum_by-cons f x xs)

  -- and no other place has an element of weight 1
  pub alone_is : (g : A → ℕ) (l : List A) (i j : ℕ) (v b : A) → get_elem? l i ≡ some v → g v ≡ 1 → sum_by g l ≡ 1 → get_elem? l j ≡ some b → g b ≡ 1 → j ≡ i
  alone_is g [] i j v b e one all e' one' = absurd (some-ne-none v (sym e))
  alone_is g (x ∷ xs) zero zero v b e one all e' one' = refl
  alone_is g (x ∷ xs) zero (suc j) v b e one all e' one' =
      let is : g x ≡ g v = ap g (some-injective x v e) in
      let w = sum_by-cons g x xs in
      let t = sum_at g xs j b e' in
      absurd (omega arith)
  alone_is g (x ∷ xs) (suc i) zero v b e one all e' one' =
      let is : g x ≡ g b = ap g (some-injective x b e') in
      let w = sum_by-cons g x xs in
      let t = sum_at g xs i v e in
      absurd (omega arith)
  alone_is g (x ∷ xs) (suc i) (suc j) v b e one all e' one' =
      let w = sum_by-cons g x xs in
      let t = sum_at g xs i v e in
      ap suc (alone_is g xs i j v b e one (omega arith) e' one')

  pub prefix_self : (l : List A) → IsPrefix l l
  prefix_self l = ([], append-nil l)

  -- of two beginnings of one list the shorter begins the longer
  pub prefix_both : (a b r r' : List A) → a ++ r ≡ b ++ r' → length a ≤ length b → IsPrefix a b
  prefix_both [] b r r' e h = (b, refl)
  prefix_both (x ∷ xs) [] r r' e h = absurd (omega arith)
  prefix_both (x ∷ xs) (y ∷ ys) r r' e h =
      let t : xs ++ r ≡ ys ++ r' = cc in
      let hd : x ≡ y = cc in
      let q = prefix_both xs ys r r' t (omega arith) in
      (q.0, λ i. hd i ∷ q.1 i)

  pub prefix_whole : (a b : List A) → IsPrefix a b → length b ≤ length a → a ≡ b
  prefix_whole a b p h =
      let l = length-append a p.0 in
      let m = ap length p.1 in
      let z : length p.0 ≡ 0 = omega arith in
      sym (append-nil a) ∙ (ap (λ (t : List A). a ++ t) (sym (nil_from_length p.0 z)) ∙ p.1)

  pub prefix_length : (a b : List A) → IsPrefix a b → length a ≤ length b
  prefix_length a b p = let l = length-append a p.0 in let m = ap length p.1 in omega arith

  pub prefix_more : (seen log more : List A) → IsPrefix seen log → IsPrefix seen (log ++ more)
  prefix_more seen log more p = (p.0 ++ more, sym (append_assoc seen p.0 more) ∙ ap (λ (l : List A). l ++ more) p.1)

-- one number alone differs from all others
pub alone_differs : (n : ℕ) → AreDistinct (n ∷ [])
alone_differs n i j d lt within = absurd (omega arith)

-- a number is in a list, or differs from each one there
look_up : (n : ℕ) (ns : List ℕ) → Contains ns n ⊎ All (λ m. n ≢ m) ns
look_up n [] = inr (λ k d within. absurd (omega arith))
look_up n (m ∷ ms) = dite (ℕ_discrete m n)
    (λ e. inl (0, omega arith, e))
    (λ ne. ⊎_elim (λ c. inl (suc c.0, omega arith, c.2)) (λ a. inr (All-cons (λ k. n ≢ k) m ms (λ e. ne (sym e)) a)) (look_up n ms))

in_tail_at : (n m : ℕ) (ms : List ℕ) (k : ℕ) → n ≢ m → k < length (m ∷ ms) → slice_index_or (m ∷ ms) k n ≡ n → Contains ms n
in_tail_at n m ms zero ne within is = absurd (ne (sym is))
in_tail_at n m ms (suc k) ne within is = (k, omega arith, is)

pub in_tail : (n m : ℕ) (ms : List ℕ) → n ≢ m → Contains (m ∷ ms) n → Contains ms n
in_tail n m ms ne at = in_tail_at n m ms at.0 ne at.1 at.2

few_numbers : (ns : List ℕ) (last : ℕ) → AreDistinct ns → All (λ m. m ≤ last) ns → length ns ≤ last + 1
few_numbers ns last apart within = length-le_from_distinct_below ns (last + 1) (IsDistinct-from_AllPairs unsigned_Decides ns apart)
    (λ q h. let low : q ≤ last = All-contains (λ m. m ≤ last) ns q within (Contains-from_any (λ x y t. eqb-true x y t) q ns h) in omega arith)

-- as many numbers as there are up to the last, with none twice, are all of these
pub every_number : (ns : List ℕ) (last n : ℕ) → AreDistinct ns → All (λ m. m ≤ last) ns → length ns ≡ last + 1 → n ≤ last → Contains ns n
every_number ns last n apart within full low = ⊎_elim (λ c. c)
    (λ other. let more = few_numbers (n ∷ ns) last (AllPairs-cons (λ k m. k ≢ m) n ns other apart) (All-cons (λ m. m ≤ last) n ns low within) in absurd (omega arith))
    (look_up n ns)

-- f, with t for n
abbrev pub replaced : (ℕ → ℕ) → ℕ → ℕ → ℕ → ℕ
replaced f n t k = cond (eqb k n) t (f k)

pub replaced_here : (f : ℕ → ℕ) (n t : ℕ) → replaced f n t n ≡ t
replaced_here f n t = ap (λ (b : Bool). cond b t (f n)) (eq-eqb n n refl)

pub replaced_else : (f : ℕ → ℕ) (n t k : ℕ) → k ≢ n → replaced f n t k ≡ f k
replaced_else f n t k ne = ap (λ (b : Bool). cond b t (f k)) (ne_eqb k n ne)
