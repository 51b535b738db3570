-- Texts that are put together piece by piece.
use Rattle.std.proofs.Common.{◌≡◌, ◌∙◌, ℕ, ◌+◌, ◌<◌, List, [], ◌∷◌, ◌++◌, length, take, get_or, sym, ap, codes, append_assoc}
use Rattle.std.specs.List.{flat_map}
use Rattle.std.proofs.lemmas.Grind.{flat_map-append}
use Rattle.std.proofs.lemmas.List.{append-nil, take_more}
use Rattle.ba_model.specs.declared.value.Value.{Value}
use Rattle.ba_workload.specs.Tables.{field_of, next_field}

-- the piece of one element more
pub piece_more : {X : Type 0} (piece : X → List ℕ) (xs : List X) (i : ℕ) (x : X) (start before after : List ℕ) → i < length xs → x ≡ get_or xs i x → before ≡ start ++ flat_map piece (take i xs)
    → after ≡ before ++ piece x → after ≡ start ++ flat_map piece (take (i + 1) xs)
piece_more piece xs i x start before after lt is so_far put =
    let next : take (i + 1) xs ≡ take i xs ++ x ∷ [] = take_more xs i x lt ∙ ap (λ y. take i xs ++ y ∷ []) (sym is) in
    put ∙ ap (λ t. t ++ piece x) so_far ∙ append_assoc start (flat_map piece (take i xs)) (piece x)
    ∙ ap (λ t. start ++ (flat_map piece (take i xs) ++ t)) (sym (append-nil (piece x)))
    ∙ ap (λ t. start ++ t) (sym (flat_map-append piece (take i xs) (x ∷ [])))
    ∙ ap (λ ys. start ++ flat_map piece ys) (sym next)

pub none_yet : (start text : List ℕ) → text ≡ start → text ≡ start ++ []
none_yet start text e = e ∙ sym (append-nil start)

-- a field behind a comma
pub field_more : (values : List Value) (i : ℕ) (v : Value) (start before mid after : List ℕ) → i < length values → v ≡ get_or values i v → before ≡ start ++ flat_map next_field (take i values)
    → mid ≡ before ++ codes "," → after ≡ mid ++ field_of v → after ≡ start ++ flat_map next_field (take (i + 1) values)
field_more values i v start before mid after lt is so_far comma put =
    piece_more next_field values i v start before after lt is so_far (put ∙ ap (λ t. t ++ field_of v) comma ∙ append_assoc before (codes ",") (field_of v))

pub two_pieces : (old mid new a b : List ℕ) → mid ≡ old ++ a → new ≡ mid ++ b → new ≡ old ++ (a ++ b)
two_pieces old mid new a b first second = second ∙ ap (λ t. t ++ b) first ∙ append_assoc old a b
