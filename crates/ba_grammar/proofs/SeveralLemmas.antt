-- Several of one sort, one after the other, as the loops read them.
use Rattle.std.proofs.Common.{◌≡◌, ℕ, suc, ◌+◌, ◌-◌, ◌<◌, ◌≤◌, Bool, true, false, List, [], ◌∷◌, ◌++◌, length, drop, Result, Ok, Err, refl, sym, ap, ◌∙◌, append_assoc, arith}
use Rattle.std.proofs.lemmas.List.{append-nil, nil_from_length}
use Rattle.ba_lex.specs.declared.token.Lexeme.{Lexeme}
use Rattle.ba_model.specs.Readings.{◌>>=◌, Fails}
use Rattle.ba_grammar.specs.Front.{Read, ReadOf, all, begins, listed, more, syntax}
use Rattle.ba_model.specs.declared.failure.Failure.{Failure}
use Rattle.ba_model.specs.declared.failure.Failure.TheVariants.{NoMemory, Fault}
use Rattle.ba_grammar.specs.declared.error.Syntax.{Syntax}

-- ---- behind commas

abbrev pub onto : {W X : Type 0} → List X → ReadOf W (List X) → ReadOf W (List X)
onto found read = read >>= λ y. Ok (found ++ y.0, y.1)

pub onto_more : {W X : Type 0} (found : List X) (x : X) (read : ReadOf W (List X)) → onto found (read >>= λ y. Ok (x ∷ y.0, y.1)) ≡ onto (found ++ x ∷ []) read
onto_more found x (Ok y) = ap (λ ys. Ok (ys, y.1)) (simp append_assoc)
onto_more found x (Err e) = refl

-- where a loop is: what it found, and what the words that are left give
pub record At {W X : Type 0} (comma : W → Bool) (item : List W → ReadOf W X) (most i : ℕ) (found : List X) (rest : List W) (total : ReadOf W (List X)) : Type 0 where
  pub so_far : onto found (more comma item (most - i) rest) ≡ total

pub one_read : {W X : Type 0} (comma : W → Bool) (item : List W → ReadOf W X) (words behind : List W) (x : X) (found : List X) → item words ≡ Ok (x, behind) → found ≡ [] ++ x ∷ [] → At comma item (length words) 0 found behind (listed comma item words)
one_read comma item words behind x found e f =
    let fuel : length words - 0 ≡ length words = omega arith in
    record { so_far = rw (f, fuel, e) refl }

none_read : {W X : Type 0} (comma : W → Bool) (item : List W → ReadOf W X) (words : List W) (e : Failure Syntax) → Fails e (item words) → Fails e (listed comma item words)
none_read comma item words NoMemory h = tt
none_read comma item words (Fault f) h = rw h refl

pub first_fails : {W X : Type 0} (comma : W → Bool) (item : List W → ReadOf W X) (words : List W) (e : Failure Syntax) → Fails e (item words) → Fails e (listed comma item words)
first_fails comma item words e h = none_read comma item words e h

split : (most i : ℕ) → i < most → most - i ≡ suc (most - (i + 1))
split most i lt = omega arith

pub stops : {W X : Type 0} (comma : W → Bool) (item : List W → ReadOf W X) (most i : ℕ) (found : List X) (rest : List W) (total : ReadOf W (List X)) → At comma item most i found rest total → i < most → begins comma rest ≡ false → total ≡ Ok (found, rest)
unfolding more
stops comma item most i found rest total at lt e = sym (rw (split most i lt, e) at at.so_far) ∙ ap (λ ys. Ok (ys, rest)) (append-nil found)

pub goes_on : {W X : Type 0} (comma : W → Bool) (item : List W → ReadOf W X) (most i : ℕ) (found found2 : List X) (rest behind : List W) (x : X) (total : ReadOf W (List X)) → At comma item most i found rest total → i < most → begins comma rest ≡ true
    → item (drop 1 rest) ≡ Ok (x, behind) → found2 ≡ found ++ x ∷ [] → At comma item most (i + 1) found2 behind total
unfolding more
goes_on comma item most i found found2 rest behind x total at lt e read f =
    record { so_far = rw f (sym (onto_more found x (more comma item (most - (i + 1)) behind)) ∙ rw (split most i lt, e, read) at at.so_far) }

pub fails : {W X : Type 0} (comma : W → Bool) (item : List W → ReadOf W X) (most i : ℕ) (found : List X) (rest : List W) (total : ReadOf W (List X)) (err : Failure Syntax) → At comma item most i found rest total → i < most → begins comma rest ≡ true
    → Fails err (item (drop 1 rest)) → Fails err total
unfolding more
fails comma item most i found rest total NoMemory at lt e h = tt
fails comma item most i found rest total (Fault f) at lt e h = sym (rw (split most i lt, e, h) at at.so_far)

pub over : {W X : Type 0} (comma : W → Bool) (item : List W → ReadOf W X) (most i : ℕ) (found : List X) (rest : List W) (total : ReadOf W (List X)) → At comma item most i found rest total → most ≤ i → total ≡ Ok (found, rest)
unfolding more
over comma item most i found rest total at le =
    let fuel : most - i ≡ 0 = omega arith in
    sym (rw fuel at at.so_far) ∙ ap (λ ys. Ok (ys, rest)) (append-nil found)

-- ---- all of the words

abbrev pub onto_all : {X : Type 0} → List X → Result (List X) Syntax → Result (List X) Syntax
onto_all found read = read >>= λ xs. Ok (found ++ xs)

pub onto_all_more : {X : Type 0} (found : List X) (x : X) (read : Result (List X) Syntax) → onto_all found (read >>= λ xs. Ok (x ∷ xs)) ≡ onto_all (found ++ x ∷ []) read
onto_all_more found x (Ok xs) = ap Ok (simp append_assoc)
onto_all_more found x (Err e) = refl

pub onto_none : {X : Type 0} (read : Result (List X) Syntax) → onto_all [] read ≡ read
onto_none (Ok xs) = refl
onto_none (Err e) = refl

pub record AllAt {X : Type 0} (item : List Lexeme → Read X) (most i : ℕ) (found : List X) (rest : List Lexeme) (total : Result (List X) Syntax) : Type 0 where
  pub so_far : onto_all found (all item (most - i) rest) ≡ total

pub all_start : {X : Type 0} (item : List Lexeme → Read X) (words : List Lexeme) (found : List X) → found ≡ [] → AllAt item (length words) 0 found words (all item (length words) words)
all_start item words found e =
    let fuel : length words - 0 ≡ length words = omega arith in
    record { so_far = rw (e, fuel) (onto_none (all item (length words) words)) }

pub all_ends : {X : Type 0} (item : List Lexeme → Read X) (most i : ℕ) (found : List X) (rest : List Lexeme) (total : Result (List X) Syntax) → AllAt item most i found rest total → length rest ≡ 0 → total ≡ Ok found
unfolding all
all_ends item most i found rest total at e = sym (rw (nil_from_length rest e) at at.so_far) ∙ ap Ok (append-nil found)

pub all_goes_on : {X : Type 0} (item : List Lexeme → Read X) (most i : ℕ) (found found2 : List X) (rest behind : List Lexeme) (x : X) (total : Result (List X) Syntax) → AllAt item most i found rest total → i < most → (length rest ≡ 0 → ⊥)
    → item rest ≡ Ok (x, behind) → found2 ≡ found ++ x ∷ [] → AllAt item most (i + 1) found2 behind total
unfolding all
all_goes_on item most i found found2 [] behind x total at lt some read f = absurd (some refl)
all_goes_on item most i found found2 (w ∷ ws) behind x total at lt some read f =
    record { so_far = rw f (sym (onto_all_more found x (all item (most - (i + 1)) behind)) ∙ rw (split most i lt, read) at at.so_far) }

pub all_fails : {X : Type 0} (item : List Lexeme → Read X) (most i : ℕ) (found : List X) (rest : List Lexeme) (total : Result (List X) Syntax) (err : Failure Syntax) → AllAt item most i found rest total → i < most → (length rest ≡ 0 → ⊥)
    → Fails err (item rest) → Fails err total
unfolding all
all_fails item most i found [] total err at lt some h = absurd (some refl)
all_fails item most i found (w ∷ ws) total NoMemory at lt some h = tt
all_fails item most i found (w ∷ ws) total (Fault f) at lt some h = sym (rw (split most i lt, h) at at.so_far)

pub all_over : {X : Type 0} (item : List Lexeme → Read X) (most i : ℕ) (found : List X) (rest : List Lexeme) (total : Result (List X) Syntax) → AllAt item most i found rest total → most ≤ i → (length rest ≡ 0 → ⊥) → total ≡ Err syntax
unfolding all
all_over item most i found [] total at le some = absurd (some refl)
all_over item most i found (w ∷ ws) total at le some =
    let fuel : most - i ≡ 0 = omega arith in
    sym (rw fuel at at.so_far)
