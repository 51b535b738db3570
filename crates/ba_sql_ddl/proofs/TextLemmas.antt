-- The statements of a text, as the loop reads them.
use Rattle.std.proofs.Common.{◌≡◌, ℕ, ◌+◌, ◌<◌, ◌≤◌, List, [], ◌∷◌, ◌++◌, length, Result, Ok, Err, refl, sym, ap, ◌∙◌}
use Rattle.ba_grammar.specs.Front.{syntax}
use Rattle.ba_grammar.specs.declared.error.Syntax.{Syntax}
use Rattle.ba_grammar.proofs.SeveralLemmas.{AllAt, all_ends, all_fails, all_goes_on, all_over, all_start}
use Rattle.ba_lex.specs.declared.token.Lexeme.{Lexeme}
use Rattle.ba_model.specs.Readings.{◌>>=◌, Fails}
use Rattle.ba_model.specs.declared.failure.Failure.{Failure}
use Rattle.ba_model.specs.declared.failure.Failure.TheVariants.{NoMemory, Fault}
use Rattle.ba_sql_ddl.specs.Reader.{statement_at, statements_at, text_at}
use Rattle.ba_sql_ddl.specs.Written.{InclusionText, StatementText, WrittenSchema, inclusions_in, tables_in, text_in, with_statement}
use Rattle.ba_sql_ddl.specs.Written.StatementText.{inclusion, table}
use Rattle.ba_sql_ddl.specs.declared.written.TableText.{TableText}

-- ---- one statement more

more_tables : (ss : List StatementText) (s : StatementText) → (with_statement (text_in ss) s).tables ≡ tables_in (ss ++ s ∷ [])
more_tables [] (table t) = refl
more_tables [] (inclusion i) = refl
more_tables (table u ∷ ss) (table t) = ap (λ (ts : List TableText). u ∷ ts) (more_tables ss (table t))
more_tables (table u ∷ ss) (inclusion i) = ap (λ (ts : List TableText). u ∷ ts) (more_tables ss (inclusion i))
more_tables (inclusion j ∷ ss) (table t) = more_tables ss (table t)
more_tables (inclusion j ∷ ss) (inclusion i) = more_tables ss (inclusion i)

more_inclusions : (ss : List StatementText) (s : StatementText) → (with_statement (text_in ss) s).inclusions ≡ inclusions_in (ss ++ s ∷ [])
more_inclusions [] (table t) = refl
more_inclusions [] (inclusion i) = refl
more_inclusions (table u ∷ ss) (table t) = more_inclusions ss (table t)
more_inclusions (table u ∷ ss) (inclusion i) = more_inclusions ss (inclusion i)
more_inclusions (inclusion j ∷ ss) (table t) = ap (λ (is : List InclusionText). j ∷ is) (more_inclusions ss (table t))
more_inclusions (inclusion j ∷ ss) (inclusion i) = ap (λ (is : List InclusionText). j ∷ is) (more_inclusions ss (inclusion i))

one_more : (ss : List StatementText) (s : StatementText) → with_statement (text_in ss) s ≡ text_in (ss ++ s ∷ [])
one_more ss s =
    let tables = more_tables ss s in
    let inclusions = more_inclusions ss s in
    whole (with_statement (text_in ss) s) (text_in (ss ++ s ∷ [])) tables inclusions
  where
    whole : (w v : WrittenSchema) → w.tables ≡ v.tables → w.inclusions ≡ v.inclusions → w ≡ v
    whole w v t i = λ k. record { tables = t k; inclusions = i k }

-- ---- the loop

-- where the loop is: the statements so far, and what the words that are left give
pub record TextAt (most i : ℕ) (text : WrittenSchema) (rest words : List Lexeme) : Type 0 where
  pub found : List StatementText
  pub is : text ≡ text_in found
  pub at : AllAt statement_at most i found rest (statements_at words)

abbrev pub in_text : List StatementText → Result WrittenSchema Syntax
in_text ss = Ok (text_in ss)

abbrev pub with_read : WrittenSchema → StatementText × List Lexeme → Result (WrittenSchema × List Lexeme) Syntax
with_read w s = Ok (with_statement w s.0, s.1)

pub text_start : (text : WrittenSchema) (words : List Lexeme) → text ≡ text_in [] → TextAt (length words) 0 text words words
text_start text words e = record { found = []; is = e; at = all_start statement_at words [] refl }

pub text_ends : (most i : ℕ) (text : WrittenSchema) (rest words : List Lexeme) → TextAt most i text rest words → length rest ≡ 0 → text_at words ≡ Ok text
unfolding text_at
text_ends most i text rest words at none =
    let e = all_ends statement_at most i at.found rest (statements_at words) at.at none in
    ap (λ (r : Result (List StatementText) Syntax). r >>= in_text) e ∙ ap (λ (w : WrittenSchema). Ok w) (sym at.is)

added : (r : Result (StatementText × List Lexeme) Syntax) (w v : WrittenSchema) (behind : List Lexeme) → (r >>= with_read w) ≡ Ok (v, behind) → (s : StatementText) × (r ≡ Ok (s, behind)) × (with_statement w s ≡ v)
added (Ok s) w v behind e =
    let same = pairs (with_statement w s.0, s.1) (v, behind) e in
    (s.0, ap (λ (b : List Lexeme). Ok (s.0, b)) (ap (λ (p : WrittenSchema × List Lexeme). p.1) same), ap (λ (p : WrittenSchema × List Lexeme). p.0) same)
  where
    pairs : (p q : WrittenSchema × List Lexeme) → ◌≡◌ {A = Result (WrittenSchema × List Lexeme) Syntax} (Ok p) (Ok q) → p ≡ q
    pairs p q e = cc
added (Err f) w v behind e = cc

pub text_goes_on : (most i : ℕ) (text next : WrittenSchema) (rest behind words : List Lexeme) → TextAt most i text rest words → i < most → (length rest ≡ 0 → ⊥) → (statement_at rest >>= with_read text) ≡ Ok (next, behind) → TextAt most (i + 1) next behind words
text_goes_on most i text next rest behind words at lt some e =
    let a = added (statement_at rest) text next behind e in
    record {
      found = at.found ++ a.0 ∷ [];
      is = sym a.2 ∙ ap (λ (w : WrittenSchema). with_statement w a.0) at.is ∙ one_more at.found a.0;
      at = all_goes_on statement_at most i at.found (at.found ++ a.0 ∷ []) rest behind a.0 (statements_at words) at.at lt some a.1 refl;
    }

not_read : (r : Result (StatementText × List Lexeme) Syntax) (w : WrittenSchema) (err : Failure Syntax) → Fails err (r >>= with_read w) → Fails err r
not_read (Ok s) w NoMemory h = tt
not_read (Ok s) w (Fault f) h = cc
not_read (Err g) w NoMemory h = tt
not_read (Err g) w (Fault f) h = let same : g ≡ f = cc in ap (λ (x : Syntax). Err x) same

not_text : (r : Result (List StatementText) Syntax) (err : Failure Syntax) → Fails err r → Fails err (r >>= in_text)
not_text r NoMemory h = tt
not_text r (Fault f) h = ap (λ (x : Result (List StatementText) Syntax). x >>= in_text) h

pub text_fails : (most i : ℕ) (text : WrittenSchema) (rest words : List Lexeme) (err : Failure Syntax) → TextAt most i text rest words → i < most → (length rest ≡ 0 → ⊥) → Fails err (statement_at rest >>= with_read text) → Fails err (text_at words)
unfolding text_at
text_fails most i text rest words err at lt some h =
    not_text (statements_at words) err (all_fails statement_at most i at.found rest (statements_at words) err at.at lt some (not_read (statement_at rest) text err h))

pub text_over : (most i : ℕ) (text : WrittenSchema) (rest words : List Lexeme) → TextAt most i text rest words → most ≤ i → (length rest ≡ 0 → ⊥) → text_at words ≡ Err syntax
unfolding text_at
text_over most i text rest words at le some =
    ap (λ (r : Result (List StatementText) Syntax). r >>= in_text) (all_over statement_at most i at.found rest (statements_at words) at.at le some)
