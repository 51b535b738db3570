-- When the values of operands are those of a row.
use Rattle.std.proofs.Common.{◌≡◌, ℕ, List, [], ◌∷◌, map, ap, ◌∙◌, refl, sym}
use Rattle.std.proofs.lemmas.Option.{slice_get-map}
use Rattle.std.specs.Option.{option_map}
use Rattle.std.specs.Prelude.{Option, Some, None, slice_get}

not_there : {Y : Type 0} (o : Option Y) → option_map Some o ≡ Some None → ⊥
not_there None e = cc
not_there (Some y) e = cc

-- at no place is a value missing
pub head_lacks : {X Y : Type 0} (f : X → Option Y) (xs : List X) (i : ℕ) (x : X) → slice_get xs i ≡ Some x → f x ≡ None → (ys : List Y) → map f xs ≡ map Some ys → ⊥
head_lacks f xs i x a lacks ys e =
    let left : slice_get (map f xs) i ≡ Some None = slice_get-map f xs i ∙ (ap (option_map f) a ∙ ap Some lacks) in
    not_there (slice_get ys i) (sym (slice_get-map Some ys i) ∙ (sym (ap (λ zs. slice_get zs i) e) ∙ left))

-- a list of values has one row
pub one_head : {Y : Type 0} (xs ys : List Y) → map Some xs ≡ map Some ys → xs ≡ ys
one_head [] [] e = refl
one_head [] (y ∷ ys) e = cc
one_head (x ∷ xs) [] e = cc
one_head (x ∷ xs) (y ∷ ys) e =
    let first : x ≡ y = cc in
    let later : map Some xs ≡ map Some ys = cc in
    let rest : xs ≡ ys = one_head xs ys later in
    cc
