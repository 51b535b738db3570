-- Which terminal a word is.
use Rattle.std.proofs.Common.{◌≡◌, ℕ, pos, Bool, true, false, ◌||◌, cond, List, [], ◌∷◌, map, codes, Option, Some, None, nat_eq, refl, sym, ap, ◌∙◌}
use Rattle.std.specs.Char.{to_ascii_lowercase}
use Rattle.std.specs.List.{list_any}
use Rattle.std.specs.Prelude.{is_some}
use Rattle.std.proofs.lemmas.Bool.{eq-eqb}
use Rattle.std.proofs.lemmas.Slice.Eq.{bytes_eq-Decides}
use Rattle.ba_grammar.specs.Items.{is_among}
use Rattle.ba_lex.specs.Word.{is_word}
use Rattle.ba_sql_syntax.specs.Letters.{first_letter, first_of, keys_by, words_by}
use Rattle.ba_sql_syntax.specs.Terminals.{Terminal, first_key, has_meaning, is_unsupported, key, key_text, keys, meaning, name, truth, unsupported, unsupported_words, word_terminal}
use Rattle.ba_sql_syntax.specs.declared.word.Key.{Key}

abbrev otherwise : List ℕ → Terminal
otherwise w = cond (is_unsupported w) unsupported (name w)

-- the keyword, or what the word is else
abbrev pub or_word : Option Key → List ℕ → Terminal
or_word (Some k) w = key k
or_word None w = otherwise w

keys_mean : (ks : List Key) (w : List ℕ) → meaning (map (λ k. (key_text k, key k)) ks) w ≡ or_word (first_key ks w) w
keys_mean [] w = refl
keys_mean (k ∷ ks) w = at (is_word w (key_text k)) (keys_mean ks w)
  where
    at : (t : Bool) → meaning (map (λ k. (key_text k, key k)) ks) w ≡ or_word (first_key ks w) w
        → cond t (key k) (meaning (map (λ k. (key_text k, key k)) ks) w) ≡ or_word (cond t (Some k) (first_key ks w)) w
    at true next = refl
    at false next = next

pub word_means : (w : List ℕ) → word_terminal w
    ≡ cond (is_word w (codes "TRUE")) (truth (pos 1)) (cond (is_word w (codes "FALSE")) (truth (pos 0)) (or_word (first_key keys w) w))
unfolding word_terminal
word_means w = ap (λ (t : Terminal). cond (is_word w (codes "TRUE")) (truth (pos 1)) (cond (is_word w (codes "FALSE")) (truth (pos 0)) t)) (keys_mean keys w)

any_key : (ks : List Key) (w : List ℕ) → list_any (λ k. is_word w k) (map key_text ks) ≡ is_some (first_key ks w)
any_key [] w = refl
any_key (k ∷ ks) w = at (is_word w (key_text k)) (any_key ks w)
  where
    at : (t : Bool) → list_any (λ k. is_word w k) (map key_text ks) ≡ is_some (first_key ks w)
        → (t || list_any (λ k. is_word w k) (map key_text ks)) ≡ is_some (cond t (Some k) (first_key ks w))
    at true next = refl
    at false next = next

pub has_so : (w : List ℕ) → has_meaning w ≡ is_word w (codes "TRUE") || (is_word w (codes "FALSE") || is_some (first_key keys w))
unfolding has_meaning is_among
has_so w = ap (λ (t : Bool). is_word w (codes "TRUE") || (is_word w (codes "FALSE") || t)) (any_key keys w)

-- a word begins with the letter of the keyword that it is
letter_same : (w k : List ℕ) → is_word w k ≡ true → first_letter k ≡ first_letter w
unfolding is_word
letter_same w k h = ap first_of (sym ((bytes_eq-Decides (map to_ascii_lowercase w) (map to_ascii_lowercase k)).0 h))

true_false : true ≡ false → ⊥
true_false e = cc

no_other : (w k : List ℕ) → is_word w k ≡ true → nat_eq (first_letter k) (first_letter w) ≡ false → ⊥
no_other w k h e = true_false (sym (eq-eqb (first_letter k) (first_letter w) (letter_same w k h)) ∙ e)

-- so it is looked for among those alone that begin so
among_by : (ks : List (List ℕ)) (w : List ℕ) → list_any (λ k. is_word w k) (words_by (first_letter w) ks) ≡ list_any (λ k. is_word w k) ks
among_by [] w = refl
among_by (k ∷ ks) w = at (is_word w k) (nat_eq (first_letter k) (first_letter w)) refl refl (among_by ks w)
  where
    at : (t u : Bool) → is_word w k ≡ t → nat_eq (first_letter k) (first_letter w) ≡ u
        → list_any (λ k. is_word w k) (words_by (first_letter w) ks) ≡ list_any (λ k. is_word w k) ks
        → list_any (λ k. is_word w k) (cond u (k ∷ words_by (first_letter w) ks) (words_by (first_letter w) ks)) ≡ (t || list_any (λ k. is_word w k) ks)
    at t true e f next = rw (e, next) refl
    at false false e f next = next
    at true false e f next = absurd (no_other w k e f)

unsupported_by : (w : List ℕ) → is_among (words_by (first_letter w) unsupported_words) w ≡ is_unsupported w
unfolding is_among is_unsupported
unsupported_by w = among_by unsupported_words w

pub unsupported_so : (w : List ℕ) (letter : ℕ) (ks : List (List ℕ)) → letter ≡ first_letter w → ks ≡ words_by letter unsupported_words → is_among ks w ≡ is_unsupported w
unsupported_so w letter ks l e = ap (λ (k : List (List ℕ)). is_among k w) (e ∙ ap (λ n. words_by n unsupported_words) l) ∙ unsupported_by w

first_by : (ks : List Key) (w : List ℕ) → first_key (keys_by (first_letter w) ks) w ≡ first_key ks w
first_by [] w = refl
first_by (k ∷ ks) w = at (is_word w (key_text k)) (nat_eq (first_letter (key_text k)) (first_letter w)) refl refl (first_by ks w)
  where
    at : (t u : Bool) → is_word w (key_text k) ≡ t → nat_eq (first_letter (key_text k)) (first_letter w) ≡ u
        → first_key (keys_by (first_letter w) ks) w ≡ first_key ks w
        → first_key (cond u (k ∷ keys_by (first_letter w) ks) (keys_by (first_letter w) ks)) w ≡ cond t (Some k) (first_key ks w)
    at t true e f next = rw (e, next) refl
    at false false e f next = next
    at true false e f next = absurd (no_other w (key_text k) e f)

pub key_so : (w : List ℕ) → first_key (keys_by (first_letter w) keys) w ≡ first_key keys w
key_so w = first_by keys w
