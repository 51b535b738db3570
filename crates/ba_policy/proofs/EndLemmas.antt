-- The words up to the next `;`, as the loop finds them.
use Rattle.std.proofs.Common.{◌≡◌, ℕ, ◌+◌, ◌<◌, ◌≤◌, true, false, List, [], ◌∷◌, ◌++◌, length, take, drop, get_or, Ok, Err, refl, sym, ap, ◌∙◌, append_assoc}
use Rattle.std.proofs.lemmas.List.{append-nil, drop_all, drop_more, take_more}
use Rattle.ba_grammar.specs.Front.{Read, is_sign, syntax}
use Rattle.ba_grammar.proofs.SeveralLemmas.{onto}
use Rattle.ba_lex.specs.declared.token.Lexeme.{Lexeme}
use Rattle.ba_lex.specs.declared.token.Sign.TheVariants.{Semicolon}
use Rattle.ba_model.specs.Readings.{◌>>=◌}
use Rattle.ba_policy.specs.Reader.{up_to_end}

onto_nothing : {X : Type 0} (read : Read (List X)) → onto [] read ≡ read
onto_nothing (Ok y) = refl
onto_nothing (Err e) = refl

onto_more : {X : Type 0} (found : List X) (x : X) (read : Read (List X)) → onto found (read >>= λ y. Ok (x ∷ y.0, y.1)) ≡ onto (found ++ x ∷ []) read
onto_more found x (Ok y) = ap (λ ys. Ok (ys, y.1)) (simp append_assoc)
onto_more found x (Err e) = refl

-- no end among the first i words
pub record EndAt (words : List Lexeme) (i : ℕ) : Type 0 where
  pub so_far : onto (take i words) (up_to_end (drop i words)) ≡ up_to_end words

pub end_start : (words : List Lexeme) → EndAt words 0
end_start words = record { so_far = onto_nothing (up_to_end words) }

split : (words : List Lexeme) (i : ℕ) (x : Lexeme) → i < length words → x ≡ get_or words i x → drop i words ≡ x ∷ drop (i + 1) words
split words i x lt is = drop_more words i x lt ∙ ap (λ (y : Lexeme). y ∷ drop (i + 1) words) (sym is)

pub end_found : (words : List Lexeme) (i : ℕ) (x : Lexeme) → EndAt words i → i < length words → x ≡ get_or words i x → is_sign Semicolon x ≡ true → up_to_end words ≡ Ok (take i words, drop (i + 1) words)
unfolding up_to_end
end_found words i x at lt is e =
    sym (rw (split words i x lt is, e) at at.so_far) ∙ ap (λ (q : List Lexeme). Ok (q, drop (i + 1) words)) (append-nil (take i words))

pub end_further : (words : List Lexeme) (i : ℕ) (x : Lexeme) → EndAt words i → i < length words → x ≡ get_or words i x → is_sign Semicolon x ≡ false → EndAt words (i + 1)
unfolding up_to_end
end_further words i x at lt is e =
    let front : take (i + 1) words ≡ take i words ++ x ∷ [] = take_more words i x lt ∙ ap (λ (y : Lexeme). take i words ++ y ∷ []) (sym is) in
    record { so_far = rw front (sym (onto_more (take i words) x (up_to_end (drop (i + 1) words))) ∙ rw (split words i x lt is, e) at at.so_far) }

pub end_none : (words : List Lexeme) (i : ℕ) → EndAt words i → length words ≤ i → up_to_end words ≡ Err syntax
unfolding up_to_end
end_none words i at le = sym (rw (drop_all i words le) at at.so_far)
