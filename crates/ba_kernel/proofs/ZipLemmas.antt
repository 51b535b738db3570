-- Lists one element further, and two lists of one length side by side.
use Rattle.std.proofs.Common.{◌≡◌, ℕ, zero, suc, ◌+◌, ◌<◌, ◌≤◌, List, [], ◌∷◌, ◌++◌, length, get_or, take, sym, ap₂, ◌∙◌, subst, arith}
use Rattle.std.proofs.lemmas.List.{take_more}
use Rattle.std.proofs.lemmas.Slice.Zip.{get_or-zip}
use Rattle.std.specs.List.{zip}

pub taken : {X : Type 0} (xs : List X) (i : ℕ) (x : X) → i < length xs → x ≡ get_or xs i x → take (i + 1) xs ≡ take i xs ++ x ∷ []
taken xs i x below at = subst (λ q. take (i + 1) xs ≡ take i xs ++ q ∷ []) (sym at) (take_more xs i x below)

-- the pair at a place of two lists of one length
pub pair_below : {X Y : Type 0} (xs : List X) (ys : List Y) (i : ℕ) → length xs ≡ length ys → i < length xs → i < length (zip xs ys)
pair_below [] ys i e h = absurd (omega arith)
pair_below (x ∷ xs) [] i e h = absurd (omega arith)
pair_below (x ∷ xs) (y ∷ ys) zero e h = omega arith
pair_below (x ∷ xs) (y ∷ ys) (suc i) e h = let later = pair_below xs ys i (omega arith) (omega arith) in omega arith

pub pair_at : {X Y : Type 0} (xs : List X) (ys : List Y) (i : ℕ) (x : X) (y : Y) → length xs ≡ length ys → i < length xs → x ≡ get_or xs i x → y ≡ get_or ys i y →
    (x, y) ≡ get_or (zip xs ys) i (x, y)
pair_at xs ys i x y e below left right =
    let below_right : i < length ys = omega arith in
    ap₂ (λ a b. (a, b)) left right ∙ sym (get_or-zip xs ys i (x, y) below below_right)

pub zip_short : {X Y : Type 0} (xs : List X) (ys : List Y) (n : ℕ) → length xs ≤ n → length (zip xs ys) ≤ n
zip_short [] ys n h = omega arith
zip_short (x ∷ xs) [] n h = omega arith
zip_short (x ∷ xs) (y ∷ ys) zero h = absurd (omega arith)
zip_short (x ∷ xs) (y ∷ ys) (suc n) h = let later = zip_short xs ys n (omega arith) in omega arith
