-- The database without a row.
use Rattle.std.proofs.Common.{◌≡◌, ◌≢◌, refl, sym, subst, ℕ, zero, suc, List, [], ◌∷◌, map}
use Rattle.std.proofs.lemmas.List.Elements.{All-contains, All-head, All-nil, All-weaker}
use Rattle.std.specs.List.{All, AllZip, Contains}
use Rattle.std.specs.Prelude.{slice_get, unwrap_or}
use Rattle.ba_comply.specs.Comply.{AnswerWithin, Shows, Strong, Within}
use Rattle.ba_comply.specs.declared.trace.TraceEntry.{TraceEntry}
use Rattle.ba_model.proofs.ElementLemmas.{Contains-nil}
use Rattle.ba_model.specs.Conform.{Conforms, RowFits, RuleHolds, TableConforms}
use Rattle.ba_model.specs.Fit.{IsQuery, PartFits, kinds_of}
use Rattle.ba_model.specs.Meaning.{InAnswer, IsChoice}
use Rattle.ba_model.specs.RuleFaults.{RuleFits}
use Rattle.ba_model.specs.declared.policy.Context.{Context}
use Rattle.ba_model.specs.declared.policy.Policy.{Policy}
use Rattle.ba_model.specs.declared.query.Query.{Query}
use Rattle.ba_model.specs.declared.schema.Kind.{Kind}
use Rattle.ba_model.specs.declared.schema.Schema.{Schema}
use Rattle.ba_model.specs.declared.schema.Table.{Table}
use Rattle.ba_model.specs.declared.value.RowSet.{RowSet}
use Rattle.ba_model.specs.declared.value.Value.{Value}

-- no rows of a table
abbrev no_rows : Table → List (List Value)
no_rows table = []

-- the schema's tables without a row
abbrev pub empty_of : Schema → RowSet
empty_of s = record { tables = map no_rows s.tables }

none_there : (tables : List Table) (n : ℕ) → unwrap_or (slice_get (map no_rows tables) n) [] ≡ []
none_there [] n = refl
none_there (table ∷ tables) zero = refl
none_there (table ∷ tables) (suc n) = none_there tables n

-- ---- nothing is in an answer

no_choice : (s : Schema) (from : List ℕ) (rows : List (List Value)) → from ≢ [] →
    IsChoice (empty_of s) from rows → ⊥
no_choice s [] rows some h = some refl
no_choice s (table ∷ from) [] some h = absurd h
no_choice s (table ∷ from) (row ∷ rows) some h =
    Contains-nil row (subst (λ found. Contains found row) (none_there s.tables table) h.0)

-- each part of a query has a table, so that the query has no row
pub no_answer : (s : Schema) (params : List Kind) (q : Query) → IsQuery s params [] q →
    (c : Context) (r : List Value) → InAnswer q c (empty_of s) r → ⊥
no_answer s params q is c r (part, of, (rows, chosen, gives)) =
    let own = All-contains (PartFits s params [] is.fits.kinds) q.parts part is.fits.parts of in
    no_choice s part.from rows own.some_table chosen

-- ---- it conforms

table_conforms : (d : RowSet) (table : Table) → TableConforms d table []
table_conforms d table = record {
  kinds = All-nil (RowFits table);
  keys = λ k key below. λ r s there. absurd (Contains-nil r there);
  links = λ k link below. λ r there. absurd (Contains-nil r there);
}

tables_conform : (d : RowSet) (tables : List Table) →
    AllZip (TableConforms d) tables (map no_rows tables)
tables_conform d [] = tt
tables_conform d (table ∷ tables) = (table_conforms d table, tables_conform d tables)

pub empty_conforms : (s : Schema) → All (RuleFits s) s.rules → Conforms s (empty_of s)
empty_conforms s fit = record {
  tables = tables_conform (empty_of s) s.tables;
  rules = All-weaker (RuleFits s) (RuleHolds (empty_of s))
      (λ rule fits. λ r there. absurd (no_answer s [] rule.left fits.left _ r there)) s.rules fit;
}

-- ---- what is strongly compliant where nothing can be seen

first_row : (P : List Value → Type 0) (rows : List (List Value)) → rows ≢ [] → All P rows →
    (r : List Value) × P r
first_row P [] some h = absurd (some refl)
first_row P (row ∷ rows) some h = (row, All-head P row rows h)

-- an entry with a row, whose query is strongly compliant under a policy without views
module _ (policy : Policy) (blind : policy.views ≡ []) (c : Context) (trace : List TraceEntry)
    (entry : TraceEntry) (there : Contains trace entry) (some : entry.rows ≢ [])
    (fits : IsQuery policy.schema (kinds_of policy.params) [] entry.query)
    (rules : All (RuleFits policy.schema) policy.schema.rules)
    (strong : Strong policy c trace entry.query) where
  abbrev IsShown : RowSet → TraceEntry → Type 0
  IsShown d it = All (InAnswer it.query c d) it.rows

  sees_nothing : (d e : RowSet) → Within policy c d e
  sees_nothing d e = record {
    views = subst (All (λ view. AnswerWithin view.query c d e)) (sym blind)
        (All-nil (λ view. AnswerWithin view.query c d e));
  }

  -- so no database shows the trace
  pub none_shows : (d : RowSet) → Conforms policy.schema d → ¬ (Shows trace c d)
  none_shows d conforms shown =
      let nothing = empty_of policy.schema in
      let shown_here = All-contains (IsShown d) trace entry shown.entries there in
      let row = first_row (InAnswer entry.query c d) entry.rows some shown_here in
      let within = strong.within d nothing conforms (empty_conforms policy.schema rules)
      (sees_nothing d nothing) shown in
      no_answer policy.schema (kinds_of policy.params) entry.query fits c row.0
      (within.rows row.0 row.1)
