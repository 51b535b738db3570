-- When the values of operands are those of a row.
use Rattle.std.proofs.Common.{◌≡◌, ℕ, ◌+◌, ◌++◌, List, [], ◌∷◌, map, take, ap, ◌∙◌, refl, sym}
use Rattle.std.proofs.lemmas.List.{map_more}
use Rattle.std.proofs.lemmas.Option.{slice_get-map, slice_get_within, get_or_from_slice_get}
use Rattle.std.specs.Option.{option_map}
use Rattle.std.specs.Prelude.{Option, Some, None, slice_get}

-- at no place do the values differ
pub heads_differ : {X Y : Type 0} (f : X → Option Y) (xs : List X) (ys : List Y) (i : ℕ) (x : X) (y : Y) → slice_get xs i ≡ Some x → slice_get ys i ≡ Some y → (f x ≡ Some y → ⊥) → map f xs ≡ map Some ys → ⊥
heads_differ f xs ys i x y a b differ e =
    let left : slice_get (map f xs) i ≡ Some (f x) = slice_get-map f xs i ∙ ap (option_map f) a in
    let right : slice_get (map Some ys) i ≡ Some (Some y) = slice_get-map Some ys i ∙ ap (option_map Some) b in
    let same : slice_get (map f xs) i ≡ slice_get (map Some ys) i = ap (λ zs. slice_get zs i) e in
    differ (let k : f x ≡ Some y = cc in k)

not_there : {Y : Type 0} (o : Option Y) → option_map Some o ≡ Some None → ⊥
not_there None e = cc
not_there (Some y) e = cc

-- at no place is a value missing
pub head_lacks : {X Y : Type 0} (f : X → Option Y) (xs : List X) (i : ℕ) (x : X) → slice_get xs i ≡ Some x → f x ≡ None → (ys : List Y) → map f xs ≡ map Some ys → ⊥
head_lacks f xs i x a lacks ys e =
    let left : slice_get (map f xs) i ≡ Some None = slice_get-map f xs i ∙ (ap (option_map f) a ∙ ap Some lacks) in
    not_there (slice_get ys i) (sym (slice_get-map Some ys i) ∙ (sym (ap (λ zs. slice_get zs i) e) ∙ left))

-- values that agree before a place and there agree one further
pub heads_more : {X Y : Type 0} (f : X → Option Y) (xs : List X) (ys : List Y) (i : ℕ) (x : X) (y : Y) → slice_get xs i ≡ Some x → slice_get ys i ≡ Some y → f x ≡ Some y → map f (take i xs) ≡ map Some (take i ys) → map f (take (i + 1) xs) ≡ map Some (take (i + 1) ys)
heads_more f xs ys i x y a b v e =
    let left : map f (take (i + 1) xs) ≡ map f (take i xs) ++ f x ∷ [] =
    map_more f xs i x (slice_get_within xs i x a) ∙ ap (λ q. map f (take i xs) ++ f q ∷ []) (get_or_from_slice_get xs i x x a) in
    let right : map Some (take (i + 1) ys) ≡ map Some (take i ys) ++ Some y ∷ [] =
    map_more Some ys i y (slice_get_within ys i y b) ∙ ap (λ q. map Some (take i ys) ++ Some q ∷ []) (get_or_from_slice_get ys i y y b) in
    cc

-- a list of values has one row
pub one_head : {Y : Type 0} (xs ys : List Y) → map Some xs ≡ map Some ys → xs ≡ ys
one_head [] [] e = refl
one_head [] (y ∷ ys) e = cc
one_head (x ∷ xs) [] e = cc
one_head (x ∷ xs) (y ∷ ys) e =
    let first : x ≡ y = cc in
    let later : map Some xs ≡ map Some ys = cc in
    let rest : xs ≡ ys = one_head xs ys later in
    cc
