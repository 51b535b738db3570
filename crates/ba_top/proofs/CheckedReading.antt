-- A text reads as a query that is checked.
use Rattle.std.proofs.Common.{◌≡◌, ℕ, List, [], None, Option, Some, Ok, refl, subst}
use Rattle.ba_model.specs.Fit.{IsQuery, kinds_of}
use Rattle.ba_model.specs.declared.policy.Parameter.{Parameter}
use Rattle.ba_model.specs.declared.policy.Policy.{Policy}
use Rattle.ba_model.specs.declared.query.Query.{Query}
use Rattle.ba_model.specs.declared.schema.Schema.{Schema}
use Rattle.ba_session.specs.Asking.{Reads}
use Rattle.ba_sql_query.proofs.PartsLemmas.{parts_fit}
use Rattle.ba_sql_query.proofs.ReadLemmas.{bind_ok, err_ok, ok_same}
use Rattle.ba_sql_query.proofs.ReadingLemmas.{meaning_complete}
use Rattle.ba_sql_query.proofs.ResolvedLemmas.{names_good}
use Rattle.ba_sql_query.specs.Meaning.{fault_of, query_of_parts, query_of_selects, query_of_written, unless}
use Rattle.ba_sql_query.specs.Parts.{parts_of}
use Rattle.ba_sql_query.specs.Resolve.{names_of}
use Rattle.ba_sql_query.specs.declared.fault.ReadQueryFault.{ReadQueryFault}
use Rattle.ba_sql_syntax.specs.declared.written.QueryText.{QueryText}

unless_ok : (o : Option ReadQueryFault) (p q : Query) → unless o p ≡ Ok q → (o ≡ None) × (p ≡ q)
unless_ok None p q e = (refl, ok_same p q e)
unless_ok (Some f) p q e = absurd (err_ok q e)

written_is_checked : (schema : Schema) (params : List Parameter) (text : QueryText) (q : Query) → query_of_written schema params text ≡ Ok q → IsQuery schema (kinds_of params) [] q
unfolding query_of_written
written_is_checked schema params text q e =
    let a = bind_ok (names_of schema params text) (query_of_selects schema params) q e in
    let b = unless_ok (fault_of schema params a.0) (query_of_parts (parts_of a.0)) q a.2 in
    subst (IsQuery schema (kinds_of params) []) b.1 (parts_fit schema params a.0 (parts_of a.0) (names_good schema params text a.0 a.1) b.0 refl)

pub reading_is_checked : (policy : Policy) (text : List ℕ) (query : Query) → Reads policy text query → IsQuery policy.schema (kinds_of policy.params) [] query
reading_is_checked policy text query h =
    written_is_checked policy.schema policy.params h.reads.written query (meaning_complete policy.schema policy.params h.reads.written query h.reads.means)
