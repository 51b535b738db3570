-- A text that reads as a query is one that fits.
use Rattle.std.proofs.Common.{◌≡◌, ℕ, List, [], Option, Some, None, Result, Ok, Err, refl, subst}
use Rattle.ba_lex.specs.Tokens.{lexemes_of, tokens_of}
use Rattle.ba_model.specs.Fit.{IsQuery, kinds_of}
use Rattle.ba_model.specs.Limits.{most_query_bytes}
use Rattle.ba_model.specs.Readings.{◌>>=◌, widened}
use Rattle.ba_model.specs.declared.policy.Parameter.{Parameter}
use Rattle.ba_model.specs.declared.query.Query.{Query}
use Rattle.ba_model.specs.declared.schema.Schema.{Schema}
use Rattle.ba_sql_syntax.specs.Written.{written_of}
use Rattle.ba_sql_syntax.specs.declared.written.QueryText.{QueryText}
use Rattle.ba_sql_query.proofs.PartsLemmas.{parts_fit}
use Rattle.ba_sql_query.proofs.ResolvedLemmas.{names_good}
use Rattle.ba_sql_query.specs.Errors.{lex_fault, syntax_fault}
use Rattle.ba_sql_query.specs.Meaning.{fault_of, query_of_parts, query_of_selects, query_of_written, unless}
use Rattle.ba_sql_query.specs.Parts.{parts_of}
use Rattle.ba_sql_query.specs.Resolve.{names_of}
use Rattle.ba_sql_query.specs.Texts.{query_of, query_of_words}
use Rattle.ba_sql_query.specs.declared.fault.ReadQueryFault.{ReadQueryFault}

made : {A B : Type 0} (r : Result A ReadQueryFault) (f : A → Result B ReadQueryFault) (y : B) → (r >>= f) ≡ Ok y → (x : A) × (r ≡ Ok x) × (f x ≡ Ok y)
made (Ok x) f y e = (x, refl, e)
made (Err r) f y e = cc e

no_fault : (fault : Option ReadQueryFault) (p q : Query) → unless fault p ≡ Ok q → (fault ≡ None) × (p ≡ q)
no_fault None p q e = (refl, cc e)
no_fault (Some f) p q e = cc e

selects_are : (schema : Schema) (params : List Parameter) (text : QueryText) (q : Query) → query_of_written schema params text ≡ Ok q → IsQuery schema (kinds_of params) [] q
unfolding query_of_written
selects_are schema params text q e =
    let selects = made (names_of schema params text) (query_of_selects schema params) q e in
    let query = no_fault (fault_of schema params selects.0) (query_of_parts (parts_of selects.0)) q selects.2 in
    subst (IsQuery schema (kinds_of params) []) query.1
    (parts_fit schema params selects.0 (parts_of selects.0) (names_good schema params text selects.0 selects.1) query.0 refl)

pub query_is_one : (schema : Schema) (params : List Parameter) (text : List ℕ) (q : Query) → query_of schema params text ≡ Ok q → IsQuery schema (kinds_of params) [] q
unfolding query_of query_of_words
query_is_one schema params text q e =
    let tokens = made (widened lex_fault (tokens_of most_query_bytes text)) (λ it. query_of_words schema params (lexemes_of it)) q e in
    let written = made (widened syntax_fault (written_of (lexemes_of tokens.0))) (query_of_written schema params) q tokens.2 in
    selects_are schema params written.0 q written.2
