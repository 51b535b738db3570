-- The place of a name among names that stand once.
use Rattle.std.proofs.Common.{◌≡◌, ◌∙◌, ℕ, zero, suc, ◌<◌, List, [], ◌∷◌, length, map, Bool, true, false, Some, None, refl, sym, ap, arith, nat_lt, nat_le}
use Rattle.std.specs.Prelude.{Option, option_and_then, slice_get}
use Rattle.std.specs.List.{AllByRecursion, IsDistinct, position, position_or_len}
use Rattle.std.specs.Str.{bytes_eq}
use Rattle.std.proofs.lemmas.Bool.{le-leb, lt-ltb}
use Rattle.ba_model.specs.SchemaFaults.{AreDistinct}
use Rattle.ba_proof.proofs.PutLemmas.{text_itself}
use Rattle.ba_proof.specs.ReadBack.{IsShort}
use Rattle.ba_proof.specs.Shapes.{short}

some_same : {X : Type 0} (x y : X) → Some x ≡ Some y → x ≡ y
some_same x y e = cc e

module _ {X : Type 0} (name : X → List ℕ) where
  -- a name that stands once differs from the one before it
  differs_at : (it : List ℕ) (xs : List X) (n : ℕ) (x : X) → AllByRecursion (λ other. bytes_eq it other ≡ false) (map name xs) → slice_get xs n ≡ Some x → bytes_eq it (name x) ≡ false
  differs_at it [] n x h e = cc e
  differs_at it (y ∷ xs) zero x h e = ap (λ z. bytes_eq it (name z)) (sym (some_same y x e)) ∙ h.0
  differs_at it (y ∷ xs) (suc n) x h e = differs_at it xs n x h.1 e

  stands_at : (xs : List X) (n : ℕ) (x : X) → AreDistinct (map name xs) → slice_get xs n ≡ Some x → position_or_len (λ y. bytes_eq (name y) (name x)) xs ≡ n
  unfolding IsDistinct
  stands_at [] n x apart e = cc e
  stands_at (y ∷ xs) zero x apart e = rw (ap (λ z. bytes_eq (name z) (name x)) (some_same y x e) ∙ text_itself (name x)) refl
  stands_at (y ∷ xs) (suc n) x apart e =
      let other : bytes_eq (name y) (name x) ≡ false = differs_at (name y) xs n x apart.0 e in
      let rest : position_or_len (λ z. bytes_eq (name z) (name x)) xs ≡ n = stands_at xs n x apart.1 e in
      rw (other, rest) (omega arith)

  pub there_is : (xs : List X) (n : ℕ) → n < length xs → (x : X) × (slice_get xs n ≡ Some x)
  there_is [] n h = absurd (omega (arith, h))
  there_is (x ∷ xs) zero h = (x, refl)
  there_is (x ∷ xs) (suc n) h = there_is xs n (omega (arith, h))

  pub place_is : (xs : List X) (n : ℕ) (x : X) → AreDistinct (map name xs) → slice_get xs n ≡ Some x → n < length xs → IsShort n
      → option_and_then short (position (λ y. bytes_eq (name y) (name x)) xs) ≡ Some n
  place_is xs n x apart there lt bits =
      let place : position_or_len (λ y. bytes_eq (name y) (name x)) xs ≡ n = stands_at xs n x apart there in
      let within : nat_lt n (length xs) ≡ true = lt-ltb n (length xs) lt in
      let small : nat_le n 0xffff_ffff ≡ true = le-leb n 0xffff_ffff (omega (arith, bits)) in
      rw (place, within, small) refl

  -- what is there has a place below the length
  pub below_length : (xs : List X) (n : ℕ) (x : X) → slice_get xs n ≡ Some x → n < length xs
  below_length [] n x e = cc e
  below_length (y ∷ xs) zero x e = omega arith
  below_length (y ∷ xs) (suc n) x e = let h = below_length xs n x e in omega (arith, h)
