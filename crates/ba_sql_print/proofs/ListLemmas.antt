-- Texts that are gathered one by one, and joined.
use Rattle.std.proofs.Common.{◌≡◌, ℕ, suc, ◌+◌, ◌<◌, ◌≤◌, List, [], ◌∷◌, ◌++◌, length, map, take, get_or, refl, sym, ap, ◌∙◌, append_assoc, arith}
use Rattle.std.specs.List.{flat_map, join_by}
use Rattle.std.proofs.lemmas.List.{length-take-le, map-append, take_all, take_more}
use Rattle.ba_model.specs.declared.schema.Schema.{Schema}
use Rattle.ba_sql_print.specs.Printed.{joined, source_text, sources_from}

each : {X : Type 0} (g : X → List ℕ) (between : List ℕ) (xs : List X) → flat_map (λ x. between ++ g x) xs ≡ flat_map (λ t. between ++ t) (map g xs)
each g between [] = refl
each g between (x ∷ xs) = ap (λ (r : List ℕ). (between ++ g x) ++ r) (each g between xs)

-- what is joined are the texts of these
pub joined_texts : {X : Type 0} (g : X → List ℕ) (between : List ℕ) (xs : List X) (texts : List (List ℕ)) → map g xs ≡ texts
    → join_by g between xs ≡ joined between texts
joined_texts g between [] texts e = ap (joined between) e
joined_texts g between (x ∷ xs) texts e = ap (λ (r : List ℕ). g x ++ r) (each g between xs) ∙ ap (joined between) e

-- the texts of the first elements, and one more
pub one_more : {X Y : Type 0} (g : Y → List ℕ) (f : X → List ℕ) (ys : List Y) (y : Y) (xs : List X) (i : ℕ) (x : X)
    → map g ys ≡ map f (take i xs) → i < length xs → x ≡ get_or xs i x → g y ≡ f x → map g (ys ++ y ∷ []) ≡ map f (take (i + 1) xs)
one_more g f ys y xs i x so_far lt is e =
    map-append g ys (y ∷ []) ∙ ap (λ (r : List (List ℕ)). r ++ g y ∷ []) so_far ∙ ap (λ (t : List ℕ). map f (take i xs) ++ t ∷ []) (e ∙ ap f is)
    ∙ sym (map-append f (take i xs) (get_or xs i x ∷ [])) ∙ ap (map f) (sym (take_more xs i x lt))

pub all_texts : {X Y : Type 0} (g : Y → List ℕ) (f : X → List ℕ) (between : List ℕ) (zs ys : List Y) (xs : List X) (i : ℕ)
    → zs ≡ ys → map g ys ≡ map f (take i xs) → length xs ≤ i → join_by g between zs ≡ joined between (map f xs)
all_texts g f between zs ys xs i same so_far le = joined_texts g between zs (map f xs) (ap (map g) same ∙ so_far ∙ ap (map f) (take_all i xs le))

sources_append : (schema : Schema) (place : ℕ) (tables : List ℕ) (table : ℕ)
    → sources_from schema place (tables ++ table ∷ []) ≡ sources_from schema place tables ++ source_text schema (place + length tables) table ∷ []
sources_append schema place [] table = ap (λ (n : ℕ). source_text schema n table ∷ []) (let z : place ≡ place + 0 = omega arith in z)
sources_append schema place (t ∷ ts) table =
    ap (λ (r : List (List ℕ)). source_text schema place t ∷ r)
    (sources_append schema (suc place) ts table
    ∙ ap (λ (n : ℕ). sources_from schema (suc place) ts ++ source_text schema n table ∷ [])
    (let z : suc place + length ts ≡ place + suc (length ts) = omega arith in z))

pub one_more_source : {Y : Type 0} (g : Y → List ℕ) (schema : Schema) (ys : List Y) (y : Y) (from : List ℕ) (i d : ℕ)
    → map g ys ≡ sources_from schema 0 (take i from) → i < length from → g y ≡ source_text schema i (get_or from i d)
    → map g (ys ++ y ∷ []) ≡ sources_from schema 0 (take (i + 1) from)
one_more_source g schema ys y from i d so_far lt e =
    let le : i ≤ length from = omega arith in
    let place : 0 + length (take i from) ≡ i = omega (arith, length-take-le i from le) in
    map-append g ys (y ∷ []) ∙ ap (λ (r : List (List ℕ)). r ++ g y ∷ []) so_far
    ∙ ap (λ (t : List ℕ). sources_from schema 0 (take i from) ++ t ∷ []) (e ∙ ap (λ (n : ℕ). source_text schema n (get_or from i d)) (sym place))
    ∙ sym (sources_append schema 0 (take i from) (get_or from i d)) ∙ ap (sources_from schema 0) (sym (take_more from i d lt))

pub all_sources : {Y : Type 0} (g : Y → List ℕ) (schema : Schema) (between : List ℕ) (zs ys : List Y) (from : List ℕ) (i : ℕ)
    → zs ≡ ys → map g ys ≡ sources_from schema 0 (take i from) → length from ≤ i → join_by g between zs ≡ joined between (sources_from schema 0 from)
all_sources g schema between zs ys from i same so_far le = joined_texts g between zs (sources_from schema 0 from)
    (ap (map g) same ∙ so_far ∙ ap (sources_from schema 0) (take_all i from le))

-- a name in quotes and what stands behind it
pub name_first : (name rest : List ℕ) → 34 ∷ (name ++ 34 ∷ rest) ≡ (34 ∷ (name ++ 34 ∷ [])) ++ rest
name_first name rest = ap (λ (r : List ℕ). 34 ∷ r) (sym (append_assoc name (34 ∷ []) rest))
