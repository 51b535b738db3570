-- What the entries of told rows show.
use Rattle.std.proofs.Common.{List, sym, subst}
use Rattle.std.proofs.lemmas.List.Elements.{All-contains}
use Rattle.std.specs.List.{All, Contains}
use Rattle.ba_comply.proofs.ComplyLemmas.{All-from_contains}
use Rattle.ba_comply.specs.Comply.{Shows}
use Rattle.ba_comply.specs.declared.trace.TraceEntry.{TraceEntry}
use Rattle.ba_model.specs.Conform.{Conforms}
use Rattle.ba_model.specs.Meaning.{InAnswer}
use Rattle.ba_model.specs.declared.policy.Context.{Context}
use Rattle.ba_model.specs.declared.query.Query.{Query}
use Rattle.ba_model.specs.declared.schema.Schema.{Schema}
use Rattle.ba_model.specs.declared.value.RowSet.{RowSet}
use Rattle.ba_model.specs.declared.value.Value.{Value}
use Rattle.ba_parts.proofs.RowLemmas.{row_is_recorded}
use Rattle.ba_parts.specs.Recording.{AreEntries, EntriesShowRows, IsEntryOf, IsRecordedIn, IsUnder}

-- a row is in its question's answer exactly where it is in the answer of what it is recorded under
under_gives : (s : Schema) (c : Context) (d : RowSet) (q : Query) (row : List Value) (under : Query) → Conforms s d → IsUnder s c q row under → InAnswer q c d row → InAnswer under c d row
under_gives s c d q row under conforms is there =
    subst (λ it. InAnswer it c d row) (sym is.under_is) ((row_is_recorded s c d q row is.parts conforms is.chosen is.some).0 there)

under_back : (s : Schema) (c : Context) (d : RowSet) (q : Query) (row : List Value) (under : Query) → Conforms s d → IsUnder s c q row under → InAnswer under c d row → InAnswer q c d row
under_back s c d q row under conforms is there =
    (row_is_recorded s c d q row is.parts conforms is.chosen is.some).1 (subst (λ it. InAnswer it c d row) is.under_is there)

module _ (s : Schema) (c : Context) (d : RowSet) (q : Query) (rows : List (List Value)) (entries : List TraceEntry) (conforms : Conforms s d) (are : AreEntries s c q rows entries) where
  entry_shows : All (InAnswer q c d) rows → (entry : TraceEntry) → Contains entries entry → All (InAnswer entry.query c d) entry.rows
  entry_shows given entry there =
      let is = All-contains (IsEntryOf s c q rows) entries entry are.only there in
      All-from_contains (InAnswer entry.query c d) entry.rows
      (λ row here.
      let from = All-contains (Contains rows) entry.rows row is.from here in
      let under = All-contains (λ r. IsUnder s c q r entry.query) entry.rows row is.under here in
      under_gives s c d q row entry.query conforms under (All-contains (InAnswer q c d) rows row given from))

  row_given : Shows entries c d → (row : List Value) → Contains rows row → InAnswer q c d row
  row_given shown row there =
      let is = All-contains (IsRecordedIn s c q entries) rows row are.all there in
      let all = All-contains (λ entry. All (InAnswer entry.query c d) entry.rows) entries is.entry shown.entries is.there in
      under_back s c d q row is.entry.query conforms is.under (All-contains (InAnswer is.entry.query c d) is.entry.rows row all is.in_it)

pub entries_show_rows : EntriesShowRows
entries_show_rows s c d q rows entries conforms are = (
  λ given. record { entries = All-from_contains (λ entry. All (InAnswer entry.query c d) entry.rows) entries (entry_shows s c d q rows entries conforms are given) },
  λ shown. All-from_contains (InAnswer q c d) rows (row_given s c d q rows entries conforms are shown),
)
