-- The numbers from 0 on, one more at a time.
use Rattle.std.proofs.Common.{◌≡◌, ℕ, zero, suc, ◌+◌, List, [], ◌∷◌, ◌++◌, refl, ap, ◌∙◌, arith, add-one}
use Rattle.std.specs.List.{flat_map, range_with_len}
use Rattle.std.proofs.lemmas.List.{flat_map_more}

range_more : (a n : ℕ) → range_with_len a (suc n) ≡ range_with_len a n ++ (a + n) ∷ []
range_more a zero = let e : a + 0 ≡ a = omega arith in rw e refl
range_more a (suc n) =
    let e : a + 1 + n ≡ a + suc n = omega arith in
    ap (λ xs. a ∷ xs) (range_more (a + 1) n ∙ ap (λ (m : ℕ). range_with_len (a + 1) n ++ m ∷ []) e)

pub flat_range_more : {X : Type 0} (f : ℕ → List X) (n : ℕ) (found found2 more : List X) → found ≡ flat_map f (range_with_len 0 n) → more ≡ f n → found2 ≡ found ++ more → found2 ≡ flat_map f (range_with_len 0 (n + 1))
flat_range_more f n found found2 more e g h =
    let z : 0 + n ≡ n = omega arith in
    let r : range_with_len 0 (n + 1) ≡ range_with_len 0 n ++ n ∷ [] = rw add-one (range_more 0 n ∙ ap (λ (m : ℕ). range_with_len 0 n ++ m ∷ []) z) in
    rw (h, e, g, r) (flat_map_more f [] (range_with_len 0 n) n)
