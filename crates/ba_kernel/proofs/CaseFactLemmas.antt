-- What fits a branch fits it with rows of a side's database as further facts, and with true lessons.
use Rattle.std.proofs.Common.{◌≡◌, ℕ, zero, suc, ◌+◌, List, [], ◌∷◌, ◌++◌, length, map, refl, ap, ap₂, sym, subst, subst₂, append_assoc}
use Rattle.std.proofs.lemmas.List.{length_push}
use Rattle.std.proofs.lemmas.List.Elements.{All-append, All-contains, All-push, All-weaker}
use Rattle.std.specs.List.{All, AllZip, Contains, range_with_len}
use Rattle.std.specs.Option.{option_map}
use Rattle.std.specs.Prelude.{Some, slice_get, unwrap_or}
use Rattle.ba_model.proofs.ElementLemmas.{Contains-nil}
use Rattle.ba_model.specs.Conform.{Conforms, IsOfColumn, RowFits, TableConforms}
use Rattle.ba_model.specs.Meaning.{IsChoice, rows_of}
use Rattle.ba_model.specs.SchemaFaults.{columns_of}
use Rattle.ba_model.specs.declared.schema.Column.{Column}
use Rattle.ba_model.specs.declared.schema.Schema.{Schema}
use Rattle.ba_model.specs.declared.schema.Table.{Table}
use Rattle.ba_model.specs.declared.value.RowSet.{RowSet}
use Rattle.ba_model.specs.declared.value.Value.{Value}
use Rattle.ba_model.specs.declared.value.Value.TheVariants.{Null, Int, Text}
use Rattle.ba_facts.specs.Fits.{FactHolds, FitsAt, Instance, IsOfSort, LessonHolds, database_of}
use Rattle.ba_facts.specs.Knowing.{sort_of}
use Rattle.ba_facts.specs.Matches.{terms_at}
use Rattle.ba_facts.specs.declared.branch.Branch.{Branch}
use Rattle.ba_facts.specs.declared.term.Fact.{Fact}
use Rattle.ba_facts.specs.declared.term.Lesson.{Lesson}
use Rattle.ba_facts.specs.declared.term.Side.{Side}
use Rattle.ba_facts.specs.declared.term.Side.TheVariants.{One, Two}
use Rattle.ba_facts.specs.declared.term.Term.{Term}
use Rattle.ba_facts.specs.declared.term.Term.TheVariants.{Unknown}
use Rattle.ba_kernel.proofs.OperandLemmas.{IsKept, RowsAre, TermsAre, fact_kept, get_kept, kept_by_append, lesson_kept, row_kept}
use Rattle.ba_kernel.specs.Effects.{rows_at, with_fact, with_facts, with_lessons}

-- ---- lists in step

pub zip_append : {A B : Type 0} (R : A → B → Type 0) (xs ys : List A) (us vs : List B) → AllZip R xs us → AllZip R ys vs → AllZip R (xs ++ ys) (us ++ vs)
zip_append R [] ys [] vs h k = k
zip_append R [] ys (u ∷ us) vs h k = absurd h
zip_append R (x ∷ xs) ys [] vs h k = absurd h
zip_append R (x ∷ xs) ys (u ∷ us) vs h k = (h.0, zip_append R xs ys us vs h.1 k)

pub zip_length : {A B : Type 0} (R : A → B → Type 0) (xs : List A) (ys : List B) → AllZip R xs ys → length xs ≡ length ys
zip_length R [] [] h = refl
zip_length R [] (y ∷ ys) h = absurd h
zip_length R (x ∷ xs) [] h = absurd h
zip_length R (x ∷ xs) (y ∷ ys) h = ap suc (zip_length R xs ys h.1)

-- ---- a row of a conforming database

row_of_table : (d : RowSet) (tables : List Table) (held : List (List (List Value))) (n : ℕ) (row : List Value) →
    AllZip (TableConforms d) tables held → Contains (unwrap_or (slice_get held n) []) row → AllZip IsOfColumn (columns_of tables n) row
row_of_table d [] [] n row h there = absurd (Contains-nil row there)
row_of_table d [] (rows ∷ held) n row h there = absurd h
row_of_table d (table ∷ tables) [] n row h there = absurd h
row_of_table d (table ∷ tables) (rows ∷ held) zero row h there = All-contains (RowFits table) rows row (h.0).kinds there
row_of_table d (table ∷ tables) (rows ∷ held) (suc n) row h there = row_of_table d tables held n row h.1 there

of_sort : (column : Column) (v : Value) → IsOfColumn column v → IsOfSort (sort_of column) v
of_sort column Null h = h
of_sort column (Int n) h = h
of_sort column (Text t) h = h

sorts_of_row : (columns : List Column) (row : List Value) → AllZip IsOfColumn columns row → AllZip IsOfSort (map sort_of columns) row
sorts_of_row [] [] h = tt
sorts_of_row [] (v ∷ row) h = absurd h
sorts_of_row (column ∷ columns) [] h = absurd h
sorts_of_row (column ∷ columns) (v ∷ row) h = (of_sort column v h.0, sorts_of_row columns row h.1)

side_conforms : (s : Schema) (d e : RowSet) (side : Side) → Conforms s d → Conforms s e → Conforms s (database_of d e side)
side_conforms s d e One one two = one
side_conforms s d e Two one two = two

-- a row of a table of either database is as wide as the table, and its values may stand for the columns
pub row_is_of_table : (s : Schema) (d e : RowSet) (side : Side) (table : ℕ) (row : List Value) → Conforms s d → Conforms s e →
    Contains (rows_of (database_of d e side) table) row → AllZip IsOfColumn (columns_of s.tables table) row
row_is_of_table s d e side table row one two there =
    let db = database_of d e side in row_of_table db s.tables db.tables table row (side_conforms s d e side one two).tables there

-- ---- new unknowns

abbrev pub unknowns_from : ℕ → ℕ → List Term
unknowns_from n count = map Unknown (range_with_len n count)

first_new : (values : List Value) (v : Value) (row : List Value) → slice_get (values ++ v ∷ row) (length values) ≡ Some v
first_new [] v row = refl
first_new (w ∷ values) v row = first_new values v row

-- the unknowns that are numbered on from the values have as values what is put behind these
new_unknowns : (i : Instance) (values row : List Value) → TermsAre i (values ++ row) (unknowns_from (length values) (length row)) row
new_unknowns i values [] = refl
new_unknowns i values (v ∷ row) =
    let more = values ++ v ∷ [] in
    let later : TermsAre i (more ++ row) (unknowns_from (length more) (length row)) row = new_unknowns i more row in
    let counted = subst (λ n. TermsAre i (more ++ row) (unknowns_from n (length row)) row) (length_push values v) later in
    let rest = subst (λ vs. TermsAre i vs (unknowns_from (length values + 1) (length row)) row) (append_assoc values (v ∷ []) row) counted in
    ap₂ (λ z zs. z ∷ zs) (first_new values v row) rest

-- ---- one fact more

abbrev new_fact : Schema → Side → ℕ → Branch → ℕ → Fact
new_fact s side round b table =
    record {
      side = side;
      table = table;
      terms = unknowns_from (length b.known.unknowns) (length (columns_of s.tables table));
      round = round;
    }

module _ (s : Schema) (i : Instance) (d e : RowSet) (r values row : List Value) (b : Branch) (side : Side) (round table : ℕ)
    (fit : FitsAt s b i d e r values) (there : Contains (rows_of (database_of d e side) table) row) where
  abbrev more : List Value
  more = values ++ row

  kept : IsKept i values more
  kept = kept_by_append i values row

  columns_fit : AllZip IsOfColumn (columns_of s.tables table) row
  columns_fit = row_is_of_table s d e side table row fit.one fit.two there

  -- the new fact's terms have the row's values
  pub new_fact_terms : TermsAre i more (new_fact s side round b table).terms row
  new_fact_terms =
      let first = zip_length IsOfSort b.known.unknowns values fit.sorts in
      let count = zip_length IsOfColumn (columns_of s.tables table) row columns_fit in
      subst₂ (λ n m. TermsAre i more (unknowns_from n m) row) (sym first) (sym count) (new_unknowns i values row)

  all_facts : All (FactHolds i more d e) (b.facts ++ new_fact s side round b table ∷ [])
  all_facts =
      All-push (FactHolds i more d e) b.facts (new_fact s side round b table)
      (All-weaker (FactHolds i values d e) (FactHolds i more d e) (fact_kept i values more kept d e) b.facts fit.facts)
      (record { row = row; terms = new_fact_terms; there = there })

  pub fact_fits : FitsAt s (with_fact s side round b table) i d e r more
  fact_fits =
      let columns = columns_of s.tables table in
      record {
        one = fit.one;
        two = fit.two;
        params = fit.params;
        vars = fit.vars;
        sorts = zip_append IsOfSort b.known.unknowns (map sort_of columns) values row fit.sorts (sorts_of_row columns row columns_fit);
        facts = all_facts;
        learned = All-weaker (LessonHolds i values) (LessonHolds i more) (lesson_kept i values more kept) b.known.learned fit.learned;
        goal = row_kept i values more kept b.goal r fit.goal;
      }

-- ---- a fact for each table

last_there : {X : Type 0} (xs : List X) (x : X) → slice_get (xs ++ x ∷ []) (length xs) ≡ Some x
last_there [] x = refl
last_there (y ∷ xs) x = last_there xs x

-- values under which the branch with new facts fits, that keep the old ones, and give the facts of these numbers the rows
pub record NewFactsFit (s : Schema) (i : Instance) (d e : RowSet) (r old : List Value) (b : Branch) (numbers : List ℕ) (rows : List (List Value)) : Type 0 where
  pub values : List Value
  pub kept : IsKept i old values
  pub fits : FitsAt s b i d e r values
  pub rows_are : RowsAre i values (rows_at b numbers) rows

module _ (s : Schema) (side : Side) (round : ℕ) where
  -- a fact stays at its number
  pub facts_stay : (from : List ℕ) (b : Branch) (n : ℕ) (fact : Fact) → slice_get b.facts n ≡ Some fact →
      slice_get (with_facts s side round b from).facts n ≡ Some fact
  facts_stay [] b n fact e = e
  facts_stay (table ∷ from) b n fact e =
      facts_stay from (with_fact s side round b table) n fact (get_kept b.facts (new_fact s side round b table ∷ []) n fact e)

  -- the first of the new facts
  pub first_terms : (from : List ℕ) (b : Branch) (table : ℕ) →
      terms_at (with_facts s side round b (table ∷ from)) (length b.facts) ≡ (new_fact s side round b table).terms
  first_terms from b table =
      let it = new_fact s side round b table in
      ap (λ o. unwrap_or (option_map (λ (fact : Fact). fact.terms) o) [])
      (facts_stay from (with_fact s side round b table) (length b.facts) it (last_there b.facts it))

  module _ (i : Instance) (d e : RowSet) (r : List Value) where
    -- a fit goes on to the branch with a fact for each table, where each fact is the row that was chosen
    pub new_facts_fit : (from : List ℕ) (rows : List (List Value)) (b : Branch) (values : List Value) → FitsAt s b i d e r values →
        IsChoice (database_of d e side) from rows →
        NewFactsFit s i d e r values (with_facts s side round b from) (range_with_len (length b.facts) (length from)) rows
    new_facts_fit [] [] b values fit chosen = record { values = values; kept = λ t v e. e; fits = fit; rows_are = tt }
    new_facts_fit [] (row ∷ rows) b values fit chosen = absurd chosen
    new_facts_fit (table ∷ from) [] b values fit chosen = absurd chosen
    new_facts_fit (table ∷ from) (row ∷ rows) b values fit chosen =
        let it = new_fact s side round b table in
        let one = fact_fits s i d e r values row b side round table fit chosen.0 in
        let rest = new_facts_fit from rows (with_fact s side round b table) (values ++ row) one chosen.1 in
        let all = with_facts s side round b (table ∷ from) in
        let new_row = row_kept i (values ++ row) rest.values rest.kept it.terms row (new_fact_terms s i d e r values row b side round table fit chosen.0) in
        let first = subst (λ ts. TermsAre i rest.values ts row) (sym (first_terms from b table)) new_row in
        let others = subst (λ n. RowsAre i rest.values (rows_at all (range_with_len n (length from))) rows) (length_push b.facts it) rest.rows_are in
        record {
          values = rest.values;
          kept = λ t v e. rest.kept t v (kept_by_append i values row t v e);
          fits = rest.fits;
          rows_are = (first, others);
        }

-- ---- lessons

-- true lessons keep a fit
pub lessons_fit : (s : Schema) (i : Instance) (d e : RowSet) (r values : List Value) (b : Branch) (lessons : List Lesson) →
    FitsAt s b i d e r values → All (LessonHolds i values) lessons → FitsAt s (with_lessons b lessons) i d e r values
lessons_fit s i d e r values b lessons fit hold =
    record {
      one = fit.one;
      two = fit.two;
      params = fit.params;
      vars = fit.vars;
      sorts = fit.sorts;
      facts = fit.facts;
      learned = All-append (LessonHolds i values) b.known.learned lessons fit.learned hold;
      goal = fit.goal;
    }
