-- A row of a database may be added to a branch that it fits; the row that a link leads to is there.
use Rattle.std.proofs.Common.{◌≡◌, ℕ, zero, suc, ◌+◌, ◌++◌, List, [], ◌∷◌, map, length, refl, ap, ap₂, sym, ◌∙◌, subst, arith}
use Rattle.std.proofs.lemmas.List.{append_assoc, length-append}
use Rattle.std.proofs.lemmas.List.Elements.{All-append, All-cons, All-nil, All-contains, All-weaker}
use Rattle.std.proofs.lemmas.Slice.Zip.{AllZip-long}
use Rattle.std.specs.List.{All, AllZip, Contains, range_with_len, zip}
use Rattle.std.specs.Option.{option_map}
use Rattle.std.specs.Prelude.{Option, Some, None, slice_get, unwrap_or, ◌≢◌}
use Rattle.ba_model.specs.Conform.{Conforms, IsOfColumn, LinkHolds, Match, NoNull, RowFits, TableConforms}
use Rattle.ba_model.specs.Meaning.{rows_of}
use Rattle.ba_model.specs.SchemaFaults.{columns_of, columns_or}
use Rattle.ba_model.specs.declared.schema.Column.{Column}
use Rattle.ba_model.specs.declared.schema.Schema.{Schema}
use Rattle.ba_model.specs.declared.value.RowSet.{RowSet}
use Rattle.ba_model.specs.declared.value.Value.{Value}
use Rattle.ba_model.specs.declared.value.Value.TheVariants.{Null, Int, Text}
use Rattle.ba_facts.specs.Fits.{FactHolds, Fits, FitsAt, Instance, IsOfSort, LessonHolds, database_of, value_of_term}
use Rattle.ba_facts.specs.Knowing.{sort_of}
use Rattle.ba_facts.specs.Laws.{NotNullIsTrue}
use Rattle.ba_facts.specs.Matches.{terms_at}
use Rattle.ba_facts.specs.declared.branch.Branch.{Branch}
use Rattle.ba_facts.specs.declared.term.Fact.{Fact}
use Rattle.ba_facts.specs.declared.term.Lesson.{Lesson}
use Rattle.ba_facts.specs.declared.term.Lesson.TheVariants.{Same, Holds}
use Rattle.ba_facts.specs.declared.term.Side.{Side}
use Rattle.ba_facts.specs.declared.term.Term.{Term}
use Rattle.ba_facts.specs.declared.term.Term.TheVariants.{Unknown}
use Rattle.ba_kernel.specs.Effects.{same_at, with_fact, with_lessons}
use Rattle.ba_kernel.specs.Steps.{IsNotNullAt, LinkLeads}
use Rattle.ba_kernel.specs.declared.problem.Problem.{Problem}
use Rattle.ba_kernel.proofs.StepFits.{All-at, and_then_is, fact_holds, image_at, image_there, lessons_keep_fit, map_is, one_case}
use Rattle.ba_kernel.proofs.StepFits.{Tied, full_value, side_conforms, table_rows, value_stays, values_stay}

-- ---- lists

AllZip-append : {A B : Type 0} (R : A → B → Type 0) (xs zs : List A) (ys ws : List B) → AllZip R xs ys → AllZip R zs ws → AllZip R (xs ++ zs) (ys ++ ws)
AllZip-append R [] zs [] ws h k = k
AllZip-append R [] zs (y ∷ ys) ws h k = absurd h
AllZip-append R (x ∷ xs) zs [] ws h k = absurd h
AllZip-append R (x ∷ xs) zs (y ∷ ys) ws h k = (h.0, AllZip-append R xs zs ys ws h.1 k)

-- what stands in the first list at a place of the second
AllZip-back : {A B : Type 0} (R : A → B → Type 0) (xs : List A) (ys : List B) (n : ℕ) (y : B) → AllZip R xs ys → slice_get ys n ≡ Some y →
    (x : A) × (slice_get xs n ≡ Some x) × R x y
AllZip-back R [] [] n y h e = cc
AllZip-back R [] (b ∷ ys) n y h e = absurd h
AllZip-back R (a ∷ xs) [] n y h e = absurd h
AllZip-back R (a ∷ xs) (b ∷ ys) zero y h e = (a, refl, subst (R a) (let k : b ≡ y = cc in k) h.0)
AllZip-back R (a ∷ xs) (b ∷ ys) (suc n) y h e = AllZip-back R xs ys n y h.1 e

slice_get-end : {X : Type 0} (xs : List X) (x : X) → slice_get (xs ++ x ∷ []) (length xs) ≡ Some x
slice_get-end [] x = refl
slice_get-end (y ∷ xs) x = slice_get-end xs x

slice_get-next : {X : Type 0} (before : List X) (x : X) (xs : List X) → slice_get (before ++ x ∷ xs) (length before) ≡ Some x
slice_get-next [] x xs = refl
slice_get-next (y ∷ before) x xs = slice_get-next before x xs

-- ---- a row that is added

column_sorts : (columns : List Column) (row : List Value) → AllZip IsOfColumn columns row → AllZip IsOfSort (map sort_of columns) row
column_sorts [] [] h = tt
column_sorts [] (v ∷ row) h = absurd h
column_sorts (column ∷ columns) [] h = absurd h
column_sorts (column ∷ columns) (Null ∷ row) h = (h.0, column_sorts columns row h.1)
column_sorts (column ∷ columns) (Int n ∷ row) h = (h.0, column_sorts columns row h.1)
column_sorts (column ∷ columns) (Text t ∷ row) h = (h.0, column_sorts columns row h.1)

some_rows : (o : Option (List (List Value))) (row : List Value) → Contains (unwrap_or o []) row →
    (rows : List (List Value)) × (o ≡ Some rows) × Contains rows row
some_rows None row h = absurd (omega arith)
some_rows (Some rows) row h = (rows, refl, h)

-- a row of a conforming database may stand in its table's columns
pub row_fits : (s : Schema) (d : RowSet) (table : ℕ) (row : List Value) → Conforms s d → Contains (rows_of d table) row →
    AllZip IsOfColumn (columns_of s.tables table) row
row_fits s d table row conforms there =
    let rows = some_rows (slice_get d.tables table) row there in
    let it = AllZip-back (TableConforms d) s.tables d.tables table rows.0 conforms.tables rows.1 in
    let fits = table_rows s d table it.0 conforms it.1 in
    let full : RowFits it.0 row = All-contains (RowFits it.0) (rows_of d table) row fits.kinds there in
    subst (λ columns. AllZip IsOfColumn columns row) (sym (ap columns_or it.1)) full

-- new unknowns have the values that were added
new_values : (i : Instance) (all before row : List Value) (n : ℕ) → all ≡ before ++ row → n ≡ length before →
    map (value_of_term i all) (map Unknown (range_with_len n (length row))) ≡ map Some row
new_values i all before [] n e l = refl
new_values i all before (v ∷ row) n e l =
    let first : slice_get all n ≡ Some v = ap₂ slice_get e l ∙ slice_get-next before v row in
    let long : length (before ++ v ∷ []) ≡ length before + 1 = length-append before (v ∷ []) in
    ap₂ (λ x xs. x ∷ xs) first
    (new_values i all (before ++ v ∷ []) row (n + 1) (e ∙ sym (append_assoc before (v ∷ []) row)) (omega arith))

module _ (s : Schema) (b : Branch) (i : Instance) (d e : RowSet) (r values : List Value) (fit : FitsAt s b i d e r values) where
  lesson_stays : (more : List Value) (lesson : Lesson) → LessonHolds i values lesson → LessonHolds i (values ++ more) lesson
  lesson_stays more (Same x y) h =
      record { value = h.value; left_is = value_stays i values more x h.value h.left_is; right_is = value_stays i values more y h.value h.right_is }
  lesson_stays more (Holds atom) h =
      record {
        left = h.left;
        right = h.right;
        left_is = value_stays i values more atom.left h.left h.left_is;
        right_is = value_stays i values more atom.right h.right h.right_is;
        compared = h.compared;
      }

  fact_stays : (more : List Value) (fact : Fact) → FactHolds i values d e fact → FactHolds i (values ++ more) d e fact
  fact_stays more fact h = record { row = h.row; terms = values_stay i values more fact.terms h.row h.terms; there = h.there }

  module _ (side : Side) (round table : ℕ) (row : List Value) (there : Contains (rows_of (database_of d e side) table) row) where
    abbrev new_unknowns : List Term
    new_unknowns = map Unknown (range_with_len (length b.known.unknowns) (length (columns_of s.tables table)))

    abbrev new_fact : Fact
    new_fact = record { side = side; table = table; terms = new_unknowns; round = round }

    -- the terms of the new fact have the values of the row
    new_unknowns_are : Tied i (values ++ row) new_unknowns row
    new_unknowns_are =
        let full = row_fits s (database_of d e side) table row (side_conforms s d e side fit.one fit.two) there in
        subst (λ n. Tied i (values ++ row) (map Unknown (range_with_len (length b.known.unknowns) n)) row)
        (AllZip-long IsOfColumn (columns_of s.tables table) row full)
        (new_values i (values ++ row) values row (length b.known.unknowns) refl (sym (AllZip-long IsOfSort b.known.unknowns values fit.sorts)))

    -- a branch to which a row of the database is added still fits
    pub fact_keeps_fit : FitsAt s (with_fact s side round b table) i d e r (values ++ row)
    fact_keeps_fit =
        let full = row_fits s (database_of d e side) table row (side_conforms s d e side fit.one fit.two) there in
        let new : FactHolds i (values ++ row) d e new_fact = record { row = row; terms = new_unknowns_are; there = there } in
        let sorts = column_sorts (columns_of s.tables table) row full in
        record {
          one = fit.one;
          two = fit.two;
          params = fit.params;
          vars = fit.vars;
          sorts = AllZip-append IsOfSort b.known.unknowns (map sort_of (columns_of s.tables table)) values row fit.sorts sorts;
          facts = All-append (FactHolds i (values ++ row) d e) b.facts (new_fact ∷ [])
              (All-weaker (FactHolds i values d e) (FactHolds i (values ++ row) d e) (fact_stays row) b.facts fit.facts)
              (All-cons (FactHolds i (values ++ row) d e) new_fact [] new (All-nil (FactHolds i (values ++ row) d e)));
          learned = All-weaker (LessonHolds i values) (LessonHolds i (values ++ row)) (lesson_stays row) b.known.learned fit.learned;
          goal = values_stay i values row b.goal r fit.goal;
        }

    -- its terms stand at the next number
    pub terms_of_new : Tied i (values ++ row) (terms_at (with_fact s side round b table) (length b.facts)) row
    terms_of_new =
        subst (λ o. Tied i (values ++ row) (unwrap_or (option_map (λ fact. fact.terms) o) []) row) (sym (slice_get-end b.facts new_fact)) new_unknowns_are

-- ---- links

same_lesson : (i : Instance) (values : List Value) (a b : Term) (v : Value) (lesson : Lesson) → value_of_term i values a ≡ Some v →
    value_of_term i values b ≡ Some v → Same a b ≡ lesson → LessonHolds i values lesson
same_lesson i values a b v lesson p q e =
    let here : LessonHolds i values (Same a b) = record { value = v; left_is = p; right_is = q } in
    subst (LessonHolds i values) e here

-- terms of two rows that are equal on two lists of columns are the same there
matched_lessons : (i : Instance) (values : List Value) (left right : List Term) (row target : List Value) → Tied i values left row →
    Tied i values right target → (columns others : List ℕ) (lessons : List Lesson) → Match row columns target others →
    map (same_at left right) (zip columns others) ≡ map Some lessons → All (LessonHolds i values) lessons
matched_lessons i values left right row target lt rt [] others [] m e = All-nil (LessonHolds i values)
matched_lessons i values left right row target lt rt [] others (l ∷ lessons) m e = cc
matched_lessons i values left right row target lt rt (c ∷ columns) [] lessons m e = cc
matched_lessons i values left right row target lt rt (c ∷ columns) (o ∷ others) [] m e = cc
matched_lessons i values left right row target lt rt (c ∷ columns) (o ∷ others) (l ∷ lessons) m e =
    let first : same_at left right (c, o) ≡ Some l = cc in
    let later : map (same_at left right) (zip columns others) ≡ map Some lessons = cc in
    let equal : slice_get row c ≡ slice_get target o = cc in
    let matched : Match row columns target others = cc in
    let a = and_then_is (λ a. option_map (λ b. Same a b) (slice_get right o)) (slice_get left c) l first in
    let b = map_is (λ b. Same a.0 b) (slice_get right o) l a.2 in
    let v = image_there (value_of_term i values) left row c a.0 lt a.1 in
    let w : value_of_term i values b.0 ≡ Some v.0 = sym (image_at (value_of_term i values) right target o b.0 rt b.1) ∙ (sym equal ∙ v.1) in
    All-cons (LessonHolds i values) l lessons (same_lesson i values a.0 b.0 v.0 l v.2 w b.2)
    (matched_lessons i values left right row target lt rt columns others lessons matched later)

no_null : NotNullIsTrue → (s : Schema) (b : Branch) (i : Instance) (d e : RowSet) (r values : List Value) → FitsAt s b i d e r values →
    (ts : List Term) (row : List Value) → Tied i values ts row → (columns : List ℕ) → All (IsNotNullAt b ts) columns → NoNull row columns
no_null not_null s b i d e r values fit ts row tied columns all =
    All-weaker (IsNotNullAt b ts) (λ column. slice_get row column ≢ Some Null)
    (λ column h. full_value s b i d e r values fit not_null ts row column h.a tied h.there h.not_null) columns all

-- what fits a branch fits the case of a link
pub link_keeps_fit : NotNullIsTrue → (p : Problem) (b : Branch) (i : Instance) (d e : RowSet) (r : List Value) (link fact : ℕ) (cases : List Branch) →
    Fits p.policy.schema b i d e r → LinkLeads p b link fact cases → (new : Branch) × Contains cases new × Fits p.policy.schema new i d e r
link_keeps_fit not_null p b i d e r link fact cases (values, fit) leads =
    let s = p.policy.schema in
    let f = leads.passes.f in
    let it = leads.passes.it in
    let side = database_of d e f.side in
    let h = fact_holds s b i d e r values fit fact f leads.passes.fact_is in
    let rows = table_rows s side f.table leads.passes.link_of.table (side_conforms s d e f.side fit.one fit.two) leads.passes.link_of.table_is in
    let holds = All-at (LinkHolds side (rows_of side f.table)) leads.passes.link_of.table.links link it rows.links leads.passes.link_of.link_is in
    let target = holds h.row h.there (no_null not_null s b i d e r values fit f.terms h.row h.terms it.columns leads.passes.not_null) in
    let new = with_fact s f.side (1 + f.round) b it.target in
    let more = fact_keeps_fit s b i d e r values fit f.side (1 + f.round) it.target target.0 target.1 in
    let terms = terms_of_new s b i d e r values fit f.side (1 + f.round) it.target target.0 target.1 in
    let lessons = matched_lessons i (values ++ target.0) f.terms (terms_at new (length b.facts)) h.row target.0
    (values_stay i values target.0 f.terms h.row h.terms) terms it.columns it.target_columns leads.lessons target.2 leads.lessons_are in (
      with_lessons new leads.lessons,
      one_case cases (with_lessons new leads.lessons) leads.cases_are,
      (values ++ target.0, lessons_keep_fit s new i d e r (values ++ target.0) more leads.lessons lessons),
    )
