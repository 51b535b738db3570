-- Lists that are mapped, one element after the other.
use Rattle.std.proofs.Common.{◌≡◌, ℕ, ◌+◌, ◌<◌, List, [], ◌∷◌, ◌++◌, length, map, take, get_or, sym, ap, ◌∙◌}
use Rattle.std.proofs.lemmas.List.{map-append, take_more}

-- one more
pub map_more : {A B : Type 0} (f : A → B) (xs : List A) (i : ℕ) (x : A) (y : B) (found found2 : List B) → found ≡ map f (take i xs) → i < length xs
    → x ≡ get_or xs i x → y ≡ f x → found2 ≡ found ++ y ∷ [] → found2 ≡ map f (take (i + 1) xs)
map_more f xs i x y found found2 so_far lt is made more =
    let e : take (i + 1) xs ≡ take i xs ++ x ∷ [] = take_more xs i x lt ∙ ap (λ z. take i xs ++ z ∷ []) (sym is) in
    more ∙ rw (so_far, made) (sym (ap (map f) e ∙ map-append f (take i xs) (x ∷ [])))
