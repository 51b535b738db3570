-- A text that grows piece by piece.
use Rattle.std.proofs.Common.{◌≡◌, ℕ, suc, ◌+◌, ◌-◌, ◌<◌, ◌≤◌, List, [], ◌∷◌, ◌++◌, length, map, take, drop, get_or, codes, refl, sym, ap, ◌∙◌, append_assoc, append-nil, arith}
use Rattle.std.proofs.lemmas.Grind.{flat_map-append}
use Rattle.std.proofs.lemmas.List.{length-take-le, map-append, take_all, take_more}
use Rattle.ba_model.specs.declared.query.Atom.{Atom}
use Rattle.ba_model.specs.declared.schema.Schema.{Schema}
use Rattle.ba_target.specs.declared.target.Database.{Database}
use Rattle.ba_target.specs.declared.target.Target.{Target}
use Rattle.ba_send.specs.Sent.{Piece, atom_pieces, following, joined, piece_text, pieces_text, source_pieces, sources_from, where_pieces, word}

-- ---- steps

pub two : (o a b x y : List ℕ) → a ≡ o ++ x → b ≡ a ++ y → b ≡ o ++ (x ++ y)
two o a b x y e f = f ∙ ap (λ (t : List ℕ). t ++ y) e ∙ append_assoc o x y

pub three : (o a b c x y z : List ℕ) → a ≡ o ++ x → b ≡ a ++ y → c ≡ b ++ z → c ≡ o ++ (x ++ (y ++ z))
three o a b c x y z e f g = two a b c y z f g ∙ ap (λ (t : List ℕ). t ++ (y ++ z)) e ∙ append_assoc o x (y ++ z)

-- ---- pieces

pub text_append : (d : Database) (ps qs : List Piece) → pieces_text d (ps ++ qs) ≡ pieces_text d ps ++ pieces_text d qs
unfolding pieces_text
text_append d ps qs = flat_map-append (λ piece. codes " " ++ piece_text d piece) ps qs

pub text_none : (d : Database) → pieces_text d [] ≡ []
unfolding pieces_text
text_none d = refl

pub text_one : (d : Database) (p : Piece) → pieces_text d (p ∷ []) ≡ 32 ∷ piece_text d p
unfolding pieces_text
text_one d p = ap (λ (t : List ℕ). 32 ∷ t) (append-nil (piece_text d p))

pub text_next : (d : Database) (p : Piece) (ps : List Piece) → pieces_text d (p ∷ ps) ≡ 32 ∷ (piece_text d p ++ pieces_text d ps)
unfolding pieces_text
text_next d p ps = refl

-- first some pieces, then others
pub grows_two : (d : Database) (o a b : List ℕ) (ps qs : List Piece) → a ≡ o ++ pieces_text d ps → b ≡ a ++ pieces_text d qs → b ≡ o ++ pieces_text d (ps ++ qs)
grows_two d o a b ps qs e f = two o a b (pieces_text d ps) (pieces_text d qs) e f ∙ ap (λ (t : List ℕ). o ++ t) (sym (text_append d ps qs))

pub grows_none : (d : Database) (o a : List ℕ) → a ≡ o → a ≡ o ++ pieces_text d []
unfolding pieces_text
grows_none d o a e = e ∙ sym (append-nil o)

-- ---- lists

following_append : (between : Piece) (gs hs : List (List Piece)) → following between (gs ++ hs) ≡ following between gs ++ following between hs
following_append between gs hs = flat_map-append (λ group. between ∷ group) gs hs

following_last : (between : Piece) (gs : List (List Piece)) (g : List Piece) → following between (gs ++ g ∷ []) ≡ following between gs ++ between ∷ g
following_last between gs g = following_append between gs (g ∷ []) ∙ ap (λ (ps : List Piece). following between gs ++ ps) (append-nil (between ∷ g))

-- one more group
pub grows_group : (d : Database) (between : Piece) (gs : List (List Piece)) (g : List Piece) (start before middle after : List ℕ)
    → before ≡ start ++ pieces_text d (following between gs) → middle ≡ before ++ pieces_text d (between ∷ []) → after ≡ middle ++ pieces_text d g
    → after ≡ start ++ pieces_text d (following between (gs ++ g ∷ []))
grows_group d between gs g start before middle after so_far m a =
    grows_two d start before after (following between gs) (between ∷ g) so_far (grows_two d before middle after (between ∷ []) g m a)
    ∙ ap (λ (ps : List Piece). start ++ pieces_text d ps) (sym (following_last between gs g))

-- one more of the elements, each of which is first changed
pub grows_more : {X Y : Type 0} (d : Database) (between : Piece) (f : Y → List Piece) (g : X → Y) (xs : List X) (i : ℕ) (x : X) (start before middle after : List ℕ)
    → i < length xs → x ≡ get_or xs i x
    → before ≡ start ++ pieces_text d (following between (map f (map g (take i xs))))
    → middle ≡ before ++ pieces_text d (between ∷ []) → after ≡ middle ++ pieces_text d (f (g x))
    → after ≡ start ++ pieces_text d (following between (map f (map g (take (i + 1) xs))))
grows_more {X} {Y} d between f g xs i x start before middle after lt is so_far m a =
    let next : take (i + 1) xs ≡ take i xs ++ x ∷ [] = take_more xs i x lt ∙ ap (λ (y : X). take i xs ++ y ∷ []) (sym is) in
    let groups : map f (map g (take (i + 1) xs)) ≡ map f (map g (take i xs)) ++ f (g x) ∷ [] =
    ap (λ (ys : List X). map f (map g ys)) next ∙ ap (map f) (map-append g (take i xs) (x ∷ [])) ∙ map-append f (map g (take i xs)) (g x ∷ []) in
    grows_group d between (map f (map g (take i xs))) (f (g x)) start before middle after so_far m a
    ∙ ap (λ (gs : List (List Piece)). start ++ pieces_text d (following between gs)) (sym groups)

pub grows_all : {X Y : Type 0} (d : Database) (between : Piece) (f : Y → List Piece) (g : X → Y) (xs ys : List X) (i : ℕ) (start before : List ℕ)
    → ys ≡ xs → length ys ≤ i → before ≡ start ++ pieces_text d (following between (map f (map g (take i ys))))
    → before ≡ start ++ pieces_text d (following between (map f (map g xs)))
grows_all {X} d between f g xs ys i start before same le so_far =
    so_far ∙ ap (λ (zs : List X). start ++ pieces_text d (following between (map f (map g zs)))) (take_all i ys le ∙ same)

-- a first element, and then the others
pub grows_joined : (d : Database) (between : Piece) (g : List Piece) (gs : List (List Piece)) (start middle after : List ℕ)
    → middle ≡ start ++ pieces_text d g → after ≡ middle ++ pieces_text d (following between gs) → after ≡ start ++ pieces_text d (joined between (g ∷ gs))
unfolding joined
grows_joined d between g gs start middle after m a = grows_two d start middle after g (following between gs) m a

-- ---- sources

sources_append : (target : Target) (schema : Schema) (place : ℕ) (tables : List ℕ) (table : ℕ)
    → sources_from target schema place (tables ++ table ∷ []) ≡ sources_from target schema place tables ++ source_pieces target schema (place + length tables) table ∷ []
sources_append target schema place [] table = ap (λ (n : ℕ). source_pieces target schema n table ∷ []) (let z : place ≡ place + 0 = omega arith in z)
sources_append target schema place (t ∷ ts) table =
    ap (λ (r : List (List Piece)). source_pieces target schema place t ∷ r)
    (sources_append target schema (suc place) ts table
    ∙ ap (λ (n : ℕ). sources_from target schema (suc place) ts ++ source_pieces target schema n table ∷ [])
    (let z : suc place + length ts ≡ place + suc (length ts) = omega arith in z))

pub grows_source : (target : Target) (schema : Schema) (d : Database) (between : Piece) (from : List ℕ) (i place other : ℕ) (start before middle after : List ℕ)
    → i < length from → place ≡ i + 1
    → before ≡ start ++ pieces_text d (following between (sources_from target schema 1 (take i from)))
    → middle ≡ before ++ pieces_text d (between ∷ []) → after ≡ middle ++ pieces_text d (source_pieces target schema place (get_or from i other))
    → after ≡ start ++ pieces_text d (following between (sources_from target schema 1 (take (i + 1) from)))
grows_source target schema d between from i place other start before middle after lt at so_far m a =
    let x : ℕ = get_or from i other in
    let le : i ≤ length from = omega arith in
    let number : 1 + length (take i from) ≡ place = omega (arith, at, length-take-le i from le) in
    let groups : sources_from target schema 1 (take (i + 1) from) ≡ sources_from target schema 1 (take i from) ++ source_pieces target schema place x ∷ [] =
    ap (sources_from target schema 1) (take_more from i other lt) ∙ sources_append target schema 1 (take i from) x
    ∙ ap (λ (n : ℕ). sources_from target schema 1 (take i from) ++ source_pieces target schema n x ∷ []) number in
    grows_group d between (sources_from target schema 1 (take i from)) (source_pieces target schema place x) start before middle after so_far m a
    ∙ ap (λ (gs : List (List Piece)). start ++ pieces_text d (following between gs)) (sym groups)

-- ---- whole lists

-- those behind the first
abbrev pub behind : {X : Type 0} → List X → List X
behind xs = take (length xs - 1) (drop 1 xs)

behind_is : {X : Type 0} (y : X) (ys : List X) → behind (y ∷ ys) ≡ ys
behind_is y ys = take_all (length (y ∷ ys) - 1) ys (omega arith)

pub split_first : {X : Type 0} (xs : List X) (x : X) → 1 ≤ length xs → x ≡ get_or xs 0 x → xs ≡ x ∷ behind xs
split_first [] x le is = absurd (omega (arith, le))
split_first {X} (y ∷ ys) x le is = ap (λ (z : X). z ∷ ys) (sym is) ∙ ap (λ (zs : List X). x ∷ zs) (sym (behind_is y ys))

pub grows_list : {X Y : Type 0} (d : Database) (between : Piece) (f : Y → List Piece) (g : X → Y) (xs : List X) (x : X) (start middle after : List ℕ)
    → 1 ≤ length xs → x ≡ get_or xs 0 x → middle ≡ start ++ pieces_text d (f (g x))
    → after ≡ middle ++ pieces_text d (following between (map f (map g (behind xs))))
    → after ≡ start ++ pieces_text d (joined between (map f (map g xs)))
grows_list {X} d between f g xs x start middle after le is m a =
    grows_joined d between (f (g x)) (map f (map g (behind xs))) start middle after m a
    ∙ ap (λ (ys : List X). start ++ pieces_text d (joined between (map f (map g ys)))) (sym (split_first xs x le is))

pub grows_empty : {X Y : Type 0} (d : Database) (between : Piece) (f : Y → List Piece) (g : X → Y) (xs : List X) (start : List ℕ) → length xs < 1
    → start ≡ start ++ pieces_text d (joined between (map f (map g xs)))
unfolding joined
grows_empty d between f g [] start lt = grows_none d start start refl
grows_empty d between f g (x ∷ xs) start lt = absurd (omega (arith, lt))

pub grows_sources : (target : Target) (schema : Schema) (d : Database) (between : Piece) (from : List ℕ) (other : ℕ) (start middle after : List ℕ)
    → 1 ≤ length from → middle ≡ start ++ pieces_text d (source_pieces target schema 0 (get_or from 0 other))
    → after ≡ middle ++ pieces_text d (following between (sources_from target schema 1 (behind from)))
    → after ≡ start ++ pieces_text d (joined between (sources_from target schema 0 from))
grows_sources target schema d between [] other start middle after le m a = absurd (omega (arith, le))
grows_sources target schema d between (t ∷ ts) other start middle after le m a =
    grows_joined d between (source_pieces target schema 0 t) (sources_from target schema 1 ts) start middle after m
    (a ∙ ap (λ (us : List ℕ). middle ++ pieces_text d (following between (sources_from target schema 1 us))) (behind_is t ts))

pub no_sources : (target : Target) (schema : Schema) (d : Database) (between : Piece) (from : List ℕ) (start : List ℕ) → length from < 1
    → start ≡ start ++ pieces_text d (joined between (sources_from target schema 0 from))
unfolding joined
no_sources target schema d between [] start lt = grows_none d start start refl
no_sources target schema d between (t ∷ ts) start lt = absurd (omega (arith, lt))

pub grows_where : {X : Type 0} (d : Database) (s : Schema) (f : List ℕ) (g : X → Atom) (xs : List X) (x : X) (start a b c : List ℕ)
    → 1 ≤ length xs → x ≡ get_or xs 0 x → a ≡ start ++ pieces_text d (word (codes "WHERE") ∷ []) → b ≡ a ++ pieces_text d (atom_pieces d s f (g x))
    → c ≡ b ++ pieces_text d (following (word (codes "AND")) (map (atom_pieces d s f) (map g (behind xs))))
    → c ≡ start ++ pieces_text d (where_pieces d s f (map g xs))
unfolding where_pieces
grows_where d s f g [] x start a b c le is e1 e2 e3 = absurd (omega (arith, le))
grows_where d s f g (y ∷ ys) x start a b c le is e1 e2 e3 =
    grows_two d start a c (word (codes "WHERE") ∷ []) _ e1
    (grows_list d (word (codes "AND")) (atom_pieces d s f) g (y ∷ ys) x a b c le is e2 e3)

pub no_where : {X : Type 0} (d : Database) (s : Schema) (f : List ℕ) (g : X → Atom) (xs : List X) (start : List ℕ) → length xs < 1
    → start ≡ start ++ pieces_text d (where_pieces d s f (map g xs))
unfolding where_pieces
no_where d s f g [] start lt = grows_none d start start refl
no_where d s f g (x ∷ xs) start lt = absurd (omega (arith, lt))
