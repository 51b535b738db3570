-- The rules of a column, one after the other, as the loop reads them.
use Rattle.std.proofs.Common.{◌≡◌, ℕ, suc, ◌+◌, ◌-◌, ◌<◌, ◌≤◌, true, false, List, [], ◌∷◌, ◌++◌, Ok, Err, sym, ap, ◌∙◌, refl, arith}
use Rattle.std.proofs.lemmas.List.{append-nil}
use Rattle.ba_model.specs.Readings.{Fails}
use Rattle.ba_grammar.specs.Front.{Read, begins}
use Rattle.ba_grammar.specs.declared.error.Syntax.{Syntax}
use Rattle.ba_model.specs.declared.failure.Failure.{Failure}
use Rattle.ba_model.specs.declared.failure.Failure.TheVariants.{NoMemory, Fault}
use Rattle.ba_grammar.proofs.SeveralLemmas.{onto, onto_more}
use Rattle.ba_lex.specs.declared.token.Lexeme.{Lexeme}
use Rattle.ba_sql_ddl.specs.Reader.{is_rule_word, rule_at, rules_at}
use Rattle.ba_sql_ddl.specs.declared.written.ColumnRule.{ColumnRule}

onto_nothing : {X : Type 0} (read : Read (List X)) → onto [] read ≡ read
onto_nothing (Ok y) = refl
onto_nothing (Err e) = refl

-- where the loop is: what it found, and what the words that are left give
pub record RulesAt (most i : ℕ) (found : List ColumnRule) (rest words : List Lexeme) : Type 0 where
  pub so_far : onto found (rules_at (most - i) rest) ≡ rules_at most words

split : (most i : ℕ) → i < most → most - i ≡ suc (most - (i + 1))
split most i lt = omega arith

pub rules_start : (most : ℕ) (found : List ColumnRule) (words : List Lexeme) → found ≡ [] → RulesAt most 0 found words words
rules_start most found words e = let fuel : most - 0 ≡ most = omega arith in record { so_far = rw (e, fuel) (onto_nothing (rules_at most words)) }

pub rules_stop : (most i : ℕ) (found : List ColumnRule) (rest words : List Lexeme) → RulesAt most i found rest words → i < most → begins is_rule_word rest ≡ false → rules_at most words ≡ Ok (found, rest)
unfolding rules_at
rules_stop most i found rest words at lt e = sym (rw (split most i lt, e) at at.so_far) ∙ ap (λ ys. Ok (ys, rest)) (append-nil found)

pub rules_go_on : (most i : ℕ) (found found2 : List ColumnRule) (rest behind words : List Lexeme) (x : ColumnRule) → RulesAt most i found rest words → i < most → begins is_rule_word rest ≡ true
    → rule_at rest ≡ Ok (x, behind) → found2 ≡ found ++ x ∷ [] → RulesAt most (i + 1) found2 behind words
unfolding rules_at
rules_go_on most i found found2 rest behind words x at lt e read f =
    record { so_far = rw f (sym (onto_more found x (rules_at (most - (i + 1)) behind)) ∙ rw (split most i lt, e, read) at at.so_far) }

pub rules_fail : (most i : ℕ) (found : List ColumnRule) (rest words : List Lexeme) (err : Failure Syntax) → RulesAt most i found rest words → i < most → begins is_rule_word rest ≡ true → Fails err (rule_at rest) → Fails err (rules_at most words)
unfolding rules_at
rules_fail most i found rest words NoMemory at lt e h = tt
rules_fail most i found rest words (Fault f) at lt e h = sym (rw (split most i lt, e, h) at at.so_far)

pub rules_over : (most i : ℕ) (found : List ColumnRule) (rest words : List Lexeme) → RulesAt most i found rest words → most ≤ i → rules_at most words ≡ Ok (found, rest)
unfolding rules_at
rules_over most i found rest words at le =
    let fuel : most - i ≡ 0 = omega arith in
    sym (rw fuel at at.so_far) ∙ ap (λ ys. Ok (ys, rest)) (append-nil found)
