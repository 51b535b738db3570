-- Words in brackets, by the function and as a relation.
use Rattle.std.proofs.Common.{◌≡◌, ◌≢◌, ℕ, zero, suc, ◌+◌, ◌-◌, ◌<◌, ◌≤◌, Bool, true, false, List, [], ◌∷◌, ◌++◌, length, take, drop, get_or, refl, sym, ap, subst, ◌∙◌, append_assoc, arith}
use Rattle.std.proofs.lemmas.Bool.{false_from_ne_true, false≢true}
use Rattle.std.proofs.lemmas.List.{drop_all, drop_more, length-append, take-append-drop}
use Rattle.ba_grammar.specs.Front.{is_sign}
use Rattle.ba_grammar.proofs.WordLemmas.{sign_spelled, spelled_sign}
use Rattle.ba_lex.specs.declared.token.Lexeme.{Lexeme}
use Rattle.ba_lex.specs.declared.token.Lexeme.TheVariants.{Sign as SignWord}
use Rattle.ba_lex.specs.declared.token.Sign.{Sign}
use Rattle.ba_lex.specs.declared.token.Sign.TheVariants.{LeftParen, RightParen}
use Rattle.ba_sql_ddl.specs.Brackets.{AreBalanced, Leaves, StaysOpen, close_at, closing, from_close, inside, opening}

pub is_no_sign : (s : Sign) (x : Lexeme) → x ≢ SignWord s → is_sign s x ≡ false
is_no_sign s x differs = false_from_ne_true (is_sign s x) (λ e. differs (sign_spelled s x e))

pub no_sign : (s : Sign) (x : Lexeme) → is_sign s x ≡ false → x ≢ SignWord s
no_sign s x h e = false≢true (sym h ∙ spelled_sign s x e)

-- ---- one word

step_open : (d : ℕ) (x : Lexeme) (xs : List Lexeme) → is_sign LeftParen x ≡ true → close_at d (x ∷ xs) ≡ suc (close_at (suc d) xs)
unfolding close_at
step_open zero x xs h = rw h refl
step_open (suc d) x xs h = rw h refl

step_close : (d : ℕ) (x : Lexeme) (xs : List Lexeme) → is_sign LeftParen x ≡ false → is_sign RightParen x ≡ true → close_at (suc d) (x ∷ xs) ≡ suc (close_at d xs)
unfolding close_at
step_close d x xs h k = rw (h, k) refl

step_last : (x : Lexeme) (xs : List Lexeme) → is_sign LeftParen x ≡ false → is_sign RightParen x ≡ true → close_at zero (x ∷ xs) ≡ 0
unfolding close_at
step_last x xs h k = rw (h, k) refl

step_word : (d : ℕ) (x : Lexeme) (xs : List Lexeme) → is_sign LeftParen x ≡ false → is_sign RightParen x ≡ false → close_at d (x ∷ xs) ≡ suc (close_at d xs)
unfolding close_at
step_word zero x xs h k = rw (h, k) refl
step_word (suc d) x xs h k = rw (h, k) refl

-- ---- balanced words close nothing before them

pub close_behind : (d : ℕ) (q tail : List Lexeme) → AreBalanced q → close_at d (q ++ tail) ≡ length q + close_at d tail
close_behind d _ tail AreBalanced.none = omega arith
close_behind d _ tail (AreBalanced.word {x} {xs} no_open no_close b) =
    let step = step_word d x (xs ++ tail) (is_no_sign LeftParen x no_open) (is_no_sign RightParen x no_close) in
    let below = close_behind d xs tail b in
    omega (arith, step, below)
close_behind d _ tail (AreBalanced.brackets {inner} {xs} b c) =
    let opens = step_open d opening ((inner ++ closing ∷ xs) ++ tail) refl in
    let joined : close_at (suc d) ((inner ++ closing ∷ xs) ++ tail) ≡ close_at (suc d) (inner ++ closing ∷ (xs ++ tail)) = ap (close_at (suc d)) (append_assoc inner (closing ∷ xs) tail) in
    let first = close_behind (suc d) inner (closing ∷ (xs ++ tail)) b in
    let closes = step_close d closing (xs ++ tail) refl refl in
    let second = close_behind d xs tail c in
    omega (arith, opens, joined, first, closes, second, length-append inner (closing ∷ xs))

-- ---- what closes the last of so many open brackets

-- the words close so many brackets before them, and leave one open
abbrev pub Closes : ℕ → List Lexeme → Type 0
Closes zero q = AreBalanced q
Closes (suc d) q = (first : List Lexeme) × (rest : List Lexeme) × AreBalanced first × (q ≡ first ++ closing ∷ rest) × Closes d rest

data Found (d : ℕ) (words : List Lexeme) : Type 0 where
  closed : (q rest : List Lexeme) → Closes d q → words ≡ q ++ closing ∷ rest → close_at d words ≡ length q → Found d words
  open_ended : close_at d words ≡ length words → Found d words

word_closes : (d : ℕ) (x : Lexeme) (q : List Lexeme) → x ≢ opening → x ≢ closing → Closes d q → Closes d (x ∷ q)
word_closes zero x q no_open no_close h = AreBalanced.word no_open no_close h
word_closes (suc d) x q no_open no_close h = (x ∷ h.0, h.1, AreBalanced.word no_open no_close h.2, ap (λ (r : List Lexeme). x ∷ r) h.3, h.4)

open_closes : (d : ℕ) (q : List Lexeme) → Closes (suc d) q → Closes d (opening ∷ q)
open_closes zero q h = subst AreBalanced (ap (λ (r : List Lexeme). opening ∷ r) (sym h.3)) (AreBalanced.brackets h.2 h.4)
open_closes (suc d) q h =
    let k = h.4 in
    let are : q ≡ (h.0 ++ closing ∷ k.0) ++ closing ∷ k.1 = h.3 ∙ ap (λ (r : List Lexeme). h.0 ++ closing ∷ r) k.3 ∙ sym (append_assoc h.0 (closing ∷ k.0) (closing ∷ k.1)) in
    (opening ∷ (h.0 ++ closing ∷ k.0), k.1, AreBalanced.brackets h.2 k.2, ap (λ (r : List Lexeme). opening ∷ r) are, k.4)

found_open : (d : ℕ) (x : Lexeme) (xs : List Lexeme) → is_sign LeftParen x ≡ true → Found (suc d) xs → Found d (x ∷ xs)
found_open d x xs h (Found.closed q rest c e n) =
    let is : x ≡ opening = sign_spelled LeftParen x h in
    let step = step_open d x xs h in
    Found.closed (opening ∷ q) rest (open_closes d q c) (ap (λ (y : Lexeme). y ∷ xs) is ∙ ap (λ (r : List Lexeme). opening ∷ r) e) (omega (arith, step, n))
found_open d x xs h (Found.open_ended n) = let step = step_open d x xs h in Found.open_ended (omega (arith, step, n))

found_close : (d : ℕ) (x : Lexeme) (xs : List Lexeme) → is_sign LeftParen x ≡ false → is_sign RightParen x ≡ true → ((e : ℕ) → Found e xs) → Found d (x ∷ xs)
found_close zero x xs h k below = Found.closed [] xs AreBalanced.none (ap (λ (y : Lexeme). y ∷ xs) (sign_spelled RightParen x k)) (step_last x xs h k)
found_close (suc d) x xs h k below = at (below d)
  where
    at : Found d xs → Found (suc d) (x ∷ xs)
    at (Found.closed q rest c e n) =
        let step = step_close d x xs h k in
        Found.closed (closing ∷ q) rest ([], q, AreBalanced.none, refl, c) (ap (λ (y : Lexeme). y ∷ xs) (sign_spelled RightParen x k) ∙ ap (λ (r : List Lexeme). closing ∷ r) e) (omega (arith, step, n))
    at (Found.open_ended n) = let step = step_close d x xs h k in Found.open_ended (omega (arith, step, n))

found_word : (d : ℕ) (x : Lexeme) (xs : List Lexeme) → is_sign LeftParen x ≡ false → is_sign RightParen x ≡ false → Found d xs → Found d (x ∷ xs)
found_word d x xs h k (Found.closed q rest c e n) =
    let step = step_word d x xs h k in
    Found.closed (x ∷ q) rest (word_closes d x q (no_sign LeftParen x h) (no_sign RightParen x k) c) (ap (λ (r : List Lexeme). x ∷ r) e) (omega (arith, step, n))
found_word d x xs h k (Found.open_ended n) = let step = step_word d x xs h k in Found.open_ended (omega (arith, step, n))

nothing_found : (d : ℕ) → Found d []
unfolding close_at
nothing_found d = Found.open_ended refl

find : (words : List Lexeme) (d : ℕ) → Found d words
find [] d = nothing_found d
find (x ∷ xs) d = at (is_sign LeftParen x) refl (is_sign RightParen x) refl (find xs)
  where
    at : (a : Bool) → is_sign LeftParen x ≡ a → (b : Bool) → is_sign RightParen x ≡ b → ((e : ℕ) → Found e xs) → Found d (x ∷ xs)
    at true h b k below = found_open d x xs h (below (suc d))
    at false h true k below = found_close d x xs h k below
    at false h false k below = found_word d x xs h k (below d)

-- ---- the words inside, and those from the bracket on

drop_front : (xs ys : List Lexeme) → drop (length xs) (xs ++ ys) ≡ ys
drop_front [] ys = refl
drop_front (x ∷ xs) ys = drop_front xs ys

take_front : (xs ys : List Lexeme) → take (length xs) (xs ++ ys) ≡ xs
take_front [] ys = refl
take_front (x ∷ xs) ys = ap (λ (r : List Lexeme). x ∷ r) (take_front xs ys)

close_here : (q rest : List Lexeme) → AreBalanced q → close_at 0 (q ++ closing ∷ rest) ≡ length q
close_here q rest b =
    let behind = close_behind zero q (closing ∷ rest) b in
    let last = step_last closing rest refl refl in
    omega (arith, behind, last)

pub inside_is : (q rest : List Lexeme) → AreBalanced q → inside (q ++ closing ∷ rest) ≡ q
inside_is q rest b = ap (λ (n : ℕ). take n (q ++ closing ∷ rest)) (close_here q rest b) ∙ take_front q (closing ∷ rest)

pub from_close_is : (q rest : List Lexeme) → AreBalanced q → from_close (q ++ closing ∷ rest) ≡ closing ∷ rest
from_close_is q rest b = ap (λ (n : ℕ). drop n (q ++ closing ∷ rest)) (close_here q rest b) ∙ drop_front q (closing ∷ rest)

stays_open : (words : List Lexeme) → close_at 0 words ≡ length words → StaysOpen words
stays_open words n inner rest b e =
    let here : close_at 0 words ≡ length inner = ap (close_at 0) e ∙ close_here inner rest b in
    let size = ap length e in
    omega (arith, n, here, size, length-append inner (closing ∷ rest))

nothing_left : (words : List Lexeme) → close_at 0 words ≡ length words → from_close words ≡ []
nothing_left words n = ap (λ (k : ℕ). drop k words) n ∙ drop_all (length words) words (omega arith)

-- what the function leaves is left
pub leaves : (words : List Lexeme) → Leaves words (from_close words)
leaves words = at (find words zero)
  where
    at : Found zero words → Leaves words (from_close words)
    at (Found.closed q rest c e n) =
        let left : from_close words ≡ closing ∷ rest = ap from_close e ∙ from_close_is q rest c in
        subst (λ (r : List Lexeme). Leaves words r) (sym left) (subst (λ (ws : List Lexeme). Leaves ws (closing ∷ rest)) (sym e) (Leaves.closed c))
    at (Found.open_ended n) = subst (λ (r : List Lexeme). Leaves words r) (sym (nothing_left words n)) (Leaves.open_ended (stays_open words n))

-- and what is left is left by the function
pub left_is : (words rest : List Lexeme) → Leaves words rest → from_close words ≡ rest
left_is _ _ (Leaves.closed {inner} {rest} b) = from_close_is inner rest b
left_is _ _ (Leaves.open_ended {words} s) = at (find words zero)
  where
    at : Found zero words → from_close words ≡ []
    at (Found.closed q rest c e n) = absurd (s q rest c e)
    at (Found.open_ended n) = nothing_left words n

-- the words inside are balanced, where a bracket closes them
pub inside_balanced : (words : List Lexeme) → from_close words ≢ [] → AreBalanced (inside words)
inside_balanced words some = at (find words zero)
  where
    at : Found zero words → AreBalanced (inside words)
    at (Found.closed q rest c e n) = subst AreBalanced (sym (ap inside e ∙ inside_is q rest c)) c
    at (Found.open_ended n) = absurd (some (nothing_left words n))

pub whole : (words : List Lexeme) → words ≡ inside words ++ from_close words
whole words = sym (take-append-drop (close_at 0 words) words)

pub from_close_size : (words : List Lexeme) → length (from_close words) ≤ length words
from_close_size words = let size = ap length (whole words) in omega (arith, size, length-append (inside words) (from_close words))

-- ---- the loop

-- how far the loop has come, with so many brackets open
pub record CloseAt (words : List Lexeme) (depth i : ℕ) : Type 0 where
  pub so_far : close_at 0 words ≡ i + close_at depth (drop i words)
  pub few : depth ≤ i

split : (words : List Lexeme) (i : ℕ) (x : Lexeme) → i < length words → x ≡ get_or words i x → drop i words ≡ x ∷ drop (i + 1) words
split words i x lt is = drop_more words i x lt ∙ ap (λ (y : Lexeme). y ∷ drop (i + 1) words) (sym is)

pub close_start : (words : List Lexeme) → CloseAt words 0 0
close_start words = record { so_far = omega arith; few = omega arith }

pub close_opens : (words : List Lexeme) (depth deeper i : ℕ) (x : Lexeme) → CloseAt words depth i → i < length words → x ≡ get_or words i x → is_sign LeftParen x ≡ true → deeper ≡ depth + 1 → CloseAt words deeper (i + 1)
close_opens words depth deeper i x at lt is h d =
    let here = ap (close_at depth) (split words i x lt is) ∙ step_open depth x (drop (i + 1) words) h in
    let deep : close_at deeper (drop (i + 1) words) ≡ close_at (suc depth) (drop (i + 1) words) = ap (λ (n : ℕ). close_at n (drop (i + 1) words)) (omega (arith, d)) in
    let so_far = at.so_far in
    let few = at.few in
    record { so_far = omega (arith, so_far, here, deep); few = omega (arith, few, d) }

pub close_closes : (words : List Lexeme) (depth shallower i : ℕ) (x : Lexeme) → CloseAt words depth i → i < length words → x ≡ get_or words i x → is_sign LeftParen x ≡ false → is_sign RightParen x ≡ true → (depth ≡ 0 → ⊥) → shallower ≡ depth - 1 → CloseAt words shallower (i + 1)
close_closes words zero shallower i x at lt is h k some d = absurd (some refl)
close_closes words (suc depth) shallower i x at lt is h k some d =
    let here = ap (close_at (suc depth)) (split words i x lt is) ∙ step_close depth x (drop (i + 1) words) h k in
    let deep : close_at shallower (drop (i + 1) words) ≡ close_at depth (drop (i + 1) words) = ap (λ (n : ℕ). close_at n (drop (i + 1) words)) (omega (arith, d)) in
    let so_far = at.so_far in
    let few = at.few in
    record { so_far = omega (arith, so_far, here, deep); few = omega (arith, few, d) }

pub close_further : (words : List Lexeme) (depth i : ℕ) (x : Lexeme) → CloseAt words depth i → i < length words → x ≡ get_or words i x → is_sign LeftParen x ≡ false → is_sign RightParen x ≡ false → CloseAt words depth (i + 1)
close_further words depth i x at lt is h k =
    let here = ap (close_at depth) (split words i x lt is) ∙ step_word depth x (drop (i + 1) words) h k in
    let so_far = at.so_far in
    let few = at.few in
    record { so_far = omega (arith, so_far, here); few = omega (arith, few) }

pub close_found : (words : List Lexeme) (depth i : ℕ) (x : Lexeme) → CloseAt words depth i → i < length words → x ≡ get_or words i x → is_sign LeftParen x ≡ false → is_sign RightParen x ≡ true → depth ≡ 0 → i ≡ close_at 0 words
close_found words depth i x at lt is h k none =
    let here = ap (close_at depth) (split words i x lt is) ∙ ap (λ (n : ℕ). close_at n (x ∷ drop (i + 1) words)) none ∙ step_last x (drop (i + 1) words) h k in
    let so_far = at.so_far in
    omega (arith, so_far, here)

nothing_closes : (d : ℕ) → close_at d [] ≡ 0
unfolding close_at
nothing_closes d = refl

pub close_over : (words : List Lexeme) (depth i : ℕ) → CloseAt words depth i → length words ≤ i → i ≤ length words → length words ≡ close_at 0 words
close_over words depth i at le ge =
    let here = ap (close_at depth) (drop_all i words le) ∙ nothing_closes depth in
    let so_far = at.so_far in
    omega (arith, so_far, here, le, ge)
