-- The databases of the image conform: kinds, keys and links.
use Rattle.std.proofs.Common.{◌≡◌, ◌≢◌, ◌∙◌, ℕ, zero, suc, ◌<◌, List, [], ◌∷◌, All, Contains, Some, length, map, refl, sym, ap, ap₂, subst, arith, inl, inr}
use Rattle.std.proofs.lemmas.List.Elements.{All-contains, All-head, All-tail}
use Rattle.std.proofs.lemmas.Option.{same_Some, slice_get_within}
use Rattle.std.specs.List.{AllZip, zip}
use Rattle.std.specs.Option.{option_map}
use Rattle.std.specs.Prelude.{option_and_then, slice_get, unwrap_or}
use Rattle.ba_comply.proofs.ComplyLemmas.{All-from_contains}
use Rattle.ba_facts.specs.Known.{Equated, Known, OneClass, equated, itself, joined, turned}
use Rattle.ba_facts.specs.Laws.{kind_of_term}
use Rattle.ba_facts.specs.Matches.{IsFactOf, terms_at}
use Rattle.ba_facts.specs.Shown.{TheSame}
use Rattle.ba_facts.specs.declared.branch.Branch.{Branch}
use Rattle.ba_facts.specs.declared.term.Fact.{Fact}
use Rattle.ba_facts.specs.declared.term.Side.{Side}
use Rattle.ba_facts.specs.declared.term.Sort.{Sort}
use Rattle.ba_facts.specs.declared.term.Term.{Term}
use Rattle.ba_facts.specs.declared.term.Term.TheVariants.{Unknown}
use Rattle.ba_kernel.proofs.OperandLemmas.{given_at}
use Rattle.ba_kernel.proofs.StepFits.{All-at, Contains-at, Contains-place}
use Rattle.ba_kernel.specs.Courses.{branch_of}
use Rattle.ba_kernel.specs.News.{IsNewOn}
use Rattle.ba_kernel.specs.SearchStates.{FactIsTidy}
use Rattle.ba_kernel.specs.Steps.{AreEqualAt, AreEqualIn, IsNotNullAt}
use Rattle.ba_kernel.specs.declared.problem.Problem.{Problem}
use Rattle.ba_kernel.specs.declared.step.Step.{Step}
use Rattle.ba_kernel.specs.declared.step.Step.TheVariants as steps
use Rattle.ba_model.specs.Conform.{IsOfColumn, IsOfKind, KeyHolds, LinkHolds, RowFits, TableConforms}
use Rattle.ba_model.specs.Fit.{kind_of_value}
use Rattle.ba_model.specs.Meaning.{rows_of}
use Rattle.ba_model.specs.SchemaFaults.{AreTables}
use Rattle.ba_model.specs.declared.policy.Context.{Context}
use Rattle.ba_model.specs.declared.schema.Column.{Column}
use Rattle.ba_model.specs.declared.schema.Kind.{Kind}
use Rattle.ba_model.specs.declared.schema.Kind.TheVariants.{Int as IntKind, Text as TextKind}
use Rattle.ba_model.specs.declared.schema.Link.{Link}
use Rattle.ba_model.specs.declared.schema.Schema.{Schema}
use Rattle.ba_model.specs.declared.schema.Table.{Table}
use Rattle.ba_model.specs.declared.value.RowSet.{RowSet}
use Rattle.ba_model.specs.declared.value.Value.{Value}
use Rattle.ba_model.specs.declared.value.Value.TheVariants.{Null, Int, Text}
use Rattle.ba_refute.specs.Images.{AreSideRows, HasKind, IsClassValue, IsRowAt, literal, null, number, text}
use Rattle.ba_refute.proofs.DecideLemmas.{match_decided, rows_same, stable}
use Rattle.ba_refute.proofs.ImageRows.{In, IsImaged, at_fact, fact_row, fact_there, has_fact}
use Rattle.ba_refute.proofs.SchemaLemmas.{key_columns, link_columns, link_fits}
use Rattle.ba_refute.proofs.SeenLemmas.{IsSeen, has_value, seen, shown_equal, shown_full, the_same_value, there_at}
use Rattle.ba_refute.specs.EquationParts.{IsFactIn}
use Rattle.ba_refute.specs.TermValues.{value_at}
use Rattle.ba_refute.proofs.FreeLemmas.{free_is_not_null}

-- the fact's terms are of the kinds of its table's columns
pub record FactIsSorted (s : Schema) (b : Branch) (fact : Fact) : Type 0 where
  pub table : Table
  pub table_is : slice_get s.tables fact.table ≡ Some table
  pub terms : AllZip (λ (column : Column) t. kind_of_term b t ≡ Some column.kind) table.columns fact.terms

-- facts are so, and terms that were made equal are of one kind
pub record IsSorted (s : Schema) (b : Branch) : Type 0 where
  pub facts : All (FactIsSorted s b) b.facts
  pub classes : (t u : Term) → Equated b.known t u → kind_of_term b t ≡ kind_of_term b u

one_row : (r z : List Value) → map Some r ≡ map Some z → r ≡ z
one_row [] [] e = refl
one_row [] (w ∷ z) e = cc
one_row (v ∷ r) [] e = cc
one_row (v ∷ r) (w ∷ z) e =
    let first : v ≡ w = cc in
    let rest : map Some r ≡ map Some z = cc in
    ap₂ (λ x xs. x ∷ xs) first (one_row r z rest)

zip_by_place : {A B : Type 0} (R : A → B → Type 0) (xs : List A) (ys : List B) → length ys ≡ length xs →
    ((n : ℕ) (x : A) (y : B) → slice_get xs n ≡ Some x → slice_get ys n ≡ Some y → R x y) → AllZip R xs ys
zip_by_place R [] [] e f = tt
zip_by_place R [] (y ∷ ys) e f = absurd (omega arith)
zip_by_place R (x ∷ xs) [] e f = absurd (omega arith)
zip_by_place R (x ∷ xs) (y ∷ ys) e f = (f 0 x y refl refl, zip_by_place R xs ys (omega arith) (λ n a b g h. f (suc n) a b g h))

images_at : {A B : Type 0} (f g : A → B) (xs : List A) (x : A) → map f xs ≡ map g xs → Contains xs x → f x ≡ g x
images_at f g [] x e (k, below, is) = absurd (omega (arith, below))
images_at f g (y ∷ xs) x e (zero, below, is) = let h : f y ≡ g y = cc in subst (λ z. f z ≡ g z) is h
images_at f g (y ∷ xs) x e (suc k, below, is) = let rest : map f xs ≡ map g xs = cc in let less : k < length xs = omega (arith, below) in images_at f g xs x rest (k, less, is)

module _ (p : Problem) (c : Context) (all values : List Value) (b : Branch) (it : IsImaged p.policy.schema c all values b) (sorted : IsSorted p.policy.schema b)
    (tables : AreTables p.policy.schema.tables) (own : ℕ) (none_new : (step : Step) → branch_of step ≡ own → ¬ (IsNewOn p b step)) where
  abbrev s : Schema
  s = p.policy.schema

  abbrev k : Known
  k = b.known

  abbrev In_ : Term → Type 0
  In_ = In s c all values b it

  -- ---- kinds

  class_kinds : {t u : Term} → OneClass k t u → kind_of_term b t ≡ kind_of_term b u
  class_kinds (equated {a = t} {b = u} h) = sorted.classes t u h
  class_kinds itself = refl
  class_kinds (turned h) = sym (class_kinds h)
  class_kinds (joined h g) = class_kinds h ∙ class_kinds g

  own_kind : (kind : Kind) (n : ℕ) → HasKind k kind n → kind_of_term b (Unknown n) ≡ Some kind
  own_kind kind n h = ap (option_map (λ (sort : Sort). sort.kind)) h.sort_is ∙ ap Some h.kind_is

  class_value_kind : (n : ℕ) (v : Value) (kind : Kind) → kind_of_term b (Unknown n) ≡ Some kind → (v ≡ Null → ⊥) →
      IsClassValue k all (it.image).nodes (it.image).numbers n v → kind_of_value v ≡ Some kind
  class_value_kind n v kind e full (literal h) = sym (class_kinds h) ∙ e
  class_value_kind n v kind e full (null without hidden) = absurd (full refl)
  class_value_kind n v kind e full (text free marked) = sym (own_kind TextKind n free.has_kind) ∙ e
  class_value_kind n v kind e full (number free has) = sym (own_kind IntKind n free.has_kind) ∙ e

  seen_kind : (t : Term) (v : Value) (kind : Kind) → kind_of_term b t ≡ Some kind → IsSeen k it.are c all it.lits values it.image it.few t v → kind_of_value v ≡ Some kind
  seen_kind t v kind e (inl h) = sym (class_kinds h.class) ∙ e
  seen_kind t v kind e (inr h) =
      let at : kind_of_term b (Unknown h.least) ≡ Some kind = sym (class_kinds (h.is_least).one_class) ∙ subst (λ x. kind_of_term b x ≡ Some kind) h.is e in
      class_value_kind h.least v kind at
      (λ is_null. free_is_not_null k it.are all (it.image).nodes (it.image).numbers (it.image).nodes_are (it.image).numbers_are h.least v h.free is_null)
      (h.free).2

  of_column : (column : Column) (v : Value) → kind_of_value v ≡ Some column.kind → IsOfColumn column v
  of_column column Null e = cc
  of_column column (Int n) e = let h : IntKind ≡ column.kind = cc in subst (λ z. IsOfKind z (Int n)) h tt
  of_column column (Text t) e = let h : TextKind ≡ column.kind = cc in subst (λ z. IsOfKind z (Text t)) h tt

  row_fits : (columns : List Column) (ts : List Term) (r : List Value) → AllZip (λ (column : Column) t. kind_of_term b t ≡ Some column.kind) columns ts → All In_ ts →
      IsRowAt c values ts r → AllZip IsOfColumn columns r
  row_fits [] [] [] h there e = tt
  row_fits [] [] (v ∷ r) h there e = cc
  row_fits [] (t ∷ ts) r h there e = absurd h
  row_fits (column ∷ columns) [] r h there e = absurd h
  row_fits (column ∷ columns) (t ∷ ts) [] h there e = cc
  row_fits (column ∷ columns) (t ∷ ts) (v ∷ r) h there e =
      let first : value_at c values t ≡ Some v = cc in
      let rest : IsRowAt c values ts r = cc in (
        of_column column v (seen_kind t v column.kind h.0 (seen k it.are c all it.lits values it.image it.few t v (All-head In_ t ts there) first)),
        row_fits columns ts r h.1 (All-tail In_ t ts there) rest,
      )

  module _ (side : Side) (d : RowSet) (is : AreSideRows c values b.facts (length s.tables) side d.tables) (table : ℕ) (of : Table) (at : slice_get s.tables table ≡ Some of) where
    kinds_hold : (r : List Value) → Contains (rows_of d table) r → RowFits of r
    kinds_hold r h =
        let row = fact_row s c all values b it side d is table r h in
        let kinds = All-contains (FactIsSorted s b) b.facts row.fact sorted.facts row.there in
        let own_table : slice_get s.tables table ≡ Some kinds.table = subst (λ n. slice_get s.tables n ≡ Some kinds.table) row.table_is kinds.table_is in
        let same : kinds.table ≡ of = same_Some kinds.table of (sym own_table ∙ at) in
        subst (λ (t : Table). RowFits t r) same
        (row_fits (kinds.table).columns row.fact.terms r kinds.terms (All-contains (IsFactIn k c all) b.facts row.fact it.facts row.there) row.row)

    -- ---- a column of a fact's row

    -- the term in a column of a fact, and its value in the row
    record IsCell (ts : List Term) (r : List Value) (column : ℕ) : Type 0 where
      pub term : Term
      pub value : Value
      pub there : slice_get ts column ≡ Some term
      pub is_in : In_ term
      pub has : value_at c values term ≡ Some value
      pub in_row : slice_get r column ≡ Some value

    cell : (fact : Fact) (r : List Value) (column : ℕ) → Contains b.facts fact → fact.table ≡ table → IsRowAt c values fact.terms r →
        (it : Column) × (slice_get of.columns column ≡ Some it) → IsCell fact.terms r column
    cell fact r column there table_is row found =
        let tidy = All-contains (FactIsTidy s k) b.facts fact it.tidy there in
        let own_table : slice_get s.tables table ≡ Some tidy.table = subst (λ n. slice_get s.tables n ≡ Some tidy.table) table_is tidy.table_is in
        let same : tidy.table ≡ of = same_Some tidy.table of (sym own_table ∙ at) in
        let wide : length fact.terms ≡ length of.columns = subst (λ (t : Table). length fact.terms ≡ length t.columns) same tidy.wide in
        let below : column < length of.columns = slice_get_within of.columns column found.0 found.1 in
        let t = there_at fact.terms column (omega (arith, wide, below)) in
        let t_in = All-at In_ fact.terms column t.0 (All-contains (IsFactIn k c all) b.facts fact it.facts there) t.1 in
        let v = has_value k it.are c all it.lits values it.image it.few t.0 t_in in
        record {
          term = t.0;
          value = v.0;
          there = t.1;
          is_in = t_in;
          has = v.1;
          in_row = given_at (value_at c values) fact.terms r column row ∙ ap (option_and_then (value_at c values)) t.1 ∙ v.1;
        }

    full_cell : (ts : List Term) (r : List Value) (column : ℕ) (x : IsCell ts r column) → slice_get r column ≢ Some Null → x.value ≡ Null → ⊥
    full_cell ts r column x some e = some (x.in_row ∙ ap Some e)

    fact_of : (r : List Value) → Contains (rows_of d table) r → (n : ℕ) × (fact : Fact) × (slice_get b.facts n ≡ Some fact) × (fact.side ≡ side) × (fact.table ≡ table) × IsRowAt c values fact.terms r
    fact_of r h =
        let has = has_fact s c all values b it side d is table r h in (
          has.number,
          has.of.fact,
          has.of.there,
          has.of.side_is,
          has.of.table_is,
          subst (λ ts. IsRowAt c values ts r) (at_fact s c all values b it side d is has.number has.of.fact has.of.there) has.row,
        )

    -- ---- keys

    terms_same : (ts us : List Term) → All In_ ts → All In_ us → AllZip (TheSame k) ts us → map (value_at c values) ts ≡ map (value_at c values) us
    terms_same [] [] h g e = refl
    terms_same [] (u ∷ us) h g e = absurd e
    terms_same (t ∷ ts) [] h g e = absurd e
    terms_same (t ∷ ts) (u ∷ us) h g e =
        ap₂ (λ z zs. z ∷ zs) (the_same_value k it.are c all it.lits values it.image it.few t u (All-head In_ t ts h) (All-head In_ u us g) e.0)
        (terms_same ts us (All-tail In_ t ts h) (All-tail In_ u us g) e.1)

    key_holds : (key : List ℕ) → Contains of.keys key → KeyHolds (rows_of d table) key
    key_holds key there r z r_in z_in some match_ =
        let f = fact_of r r_in in
        let g = fact_of z z_in in
        let columns = key_columns s tables of table at key there in
        let n = Contains-place of.keys key there in
        let f_there = Contains-at b.facts f.0 f.1 f.2 in
        let g_there = Contains-at b.facts g.0 g.1 g.2 in
        let equal : All (AreEqualAt b f.1.terms g.1.terms) key =
        All-from_contains (AreEqualAt b f.1.terms g.1.terms) key
        (λ column has.
        let x = cell f.1 r column f_there f.4 f.5 (columns column has) in
        let y = cell g.1 z column g_there g.4 g.5 (columns column has) in
        let same : slice_get r column ≡ slice_get z column = images_at (slice_get r) (slice_get z) key column match_ has in
        let values_same : x.value ≡ y.value = same_Some x.value y.value (sym x.in_row ∙ same ∙ y.in_row) in
        let not_null = full_cell f.1.terms r column x (All-contains (λ column. slice_get r column ≢ Some Null) key column some has) in
        record {
          a = x.term;
          c = y.term;
          left_is = x.there;
          right_is = y.there;
          equal = shown_equal k it.are c all it.lits values it.image it.few x.term y.term x.value y.value x.is_in y.is_in x.has y.has not_null values_same;
        }) in
        stable (rows_same r z)
        (λ no. none_new (steps.Key own n.0 f.0 g.0) refl
        (record {
          passes = record {
            f = f.1;
            g = g.1;
            pair = record { left_is = f.2; right_is = g.2; side = g.3 ∙ sym f.3; table = g.4 ∙ sym f.4 };
            columns = key;
            key_of = record { table = of; table_is = subst (λ m. slice_get s.tables m ≡ Some of) (sym f.4) at; key_is = n.1 };
            equal = equal;
          };
          tells = λ met.
              let f_same : met.f ≡ f.1 = same_Some met.f f.1 (sym met.left_is ∙ f.2) in
              let g_same : met.g ≡ g.1 = same_Some met.g g.1 (sym met.right_is ∙ g.2) in
              let same : AllZip (TheSame k) f.1.terms g.1.terms =
              subst (λ (x : Fact). AllZip (TheSame k) f.1.terms x.terms) g_same (subst (λ (x : Fact). AllZip (TheSame k) x.terms met.g.terms) f_same met.same) in
              let one = terms_same f.1.terms g.1.terms (All-contains (IsFactIn k c all) b.facts f.1 it.facts f_there) (All-contains (IsFactIn k c all) b.facts g.1 it.facts g_there) same in
              no (one_row r z (sym f.5 ∙ one ∙ g.5));
        }))

    -- ---- links

    match_from : (fact : Fact) (r : List Value) (us : List Term) (z : List Value) (columns others : List ℕ) → All In_ fact.terms → All In_ us → IsRowAt c values fact.terms r →
        IsRowAt c values us z → length columns ≡ length others → All (AreEqualIn b fact.terms us) (zip columns others) → map (slice_get r) columns ≡ map (slice_get z) others
    match_from fact r us z [] [] f_in u_in row other e h = refl
    match_from fact r us z [] (o ∷ others) f_in u_in row other e h = absurd (omega (arith, e))
    match_from fact r us z (n ∷ columns) [] f_in u_in row other e h = absurd (omega (arith, e))
    match_from fact r us z (n ∷ columns) (o ∷ others) f_in u_in row other e h =
        let first = All-head (AreEqualIn b fact.terms us) (n, o) (zip columns others) h in
        let left : slice_get r n ≡ value_at c values first.a = given_at (value_at c values) fact.terms r n row ∙ ap (option_and_then (value_at c values)) first.left_is in
        let right : slice_get z o ≡ value_at c values first.c = given_at (value_at c values) us z o other ∙ ap (option_and_then (value_at c values)) first.right_is in
        let same =
        the_same_value k it.are c all it.lits values it.image it.few first.a first.c (All-at In_ fact.terms n first.a f_in first.left_is) (All-at In_ us o first.c u_in first.right_is)
        first.equal.same in
        ap₂ (λ w ws. w ∷ ws) (left ∙ same ∙ sym right)
        (match_from fact r us z columns others f_in u_in row other (omega (arith, e)) (All-tail (AreEqualIn b fact.terms us) (n, o) (zip columns others) h))

    link_holds : (link : Link) → Contains of.links link → LinkHolds d (rows_of d table) link
    link_holds link there r r_in some =
        let f = fact_of r r_in in
        let columns = link_columns s tables of table at link there in
        let fits = link_fits s tables of table at link there in
        let n = Contains-place of.links link there in
        let f_there = Contains-at b.facts f.0 f.1 f.2 in
        let f_in = All-contains (IsFactIn k c all) b.facts f.1 it.facts f_there in
        let found = stable (match_decided (rows_of d link.target) r link.columns link.target_columns)
        (λ no. none_new (steps.Link own n.0 f.0) refl
        (record {
          passes = record {
            f = f.1;
            fact_is = f.2;
            it = link;
            link_of = record { table = of; table_is = subst (λ m. slice_get s.tables m ≡ Some of) (sym f.4) at; link_is = n.1 };
            not_null =
                All-from_contains (IsNotNullAt b f.1.terms) link.columns
                (λ column has.
                let x = cell f.1 r column f_there f.4 f.5 (columns column has) in
                let not_null = full_cell f.1.terms r column x (All-contains (λ column. slice_get r column ≢ Some Null) link.columns column some has) in
                record { a = x.term; there = x.there; not_null = shown_full k it.are c all it.lits values it.image it.few x.term x.value x.is_in x.has not_null });
          };
          tells = λ met.
              let f_same : met.f ≡ f.1 = same_Some met.f f.1 (sym met.fact_is ∙ f.2) in
              let own_table : slice_get s.tables table ≡ Some met.link_of.table =
              subst (λ m. slice_get s.tables m ≡ Some met.link_of.table) f.4 (subst (λ (x : Fact). slice_get s.tables x.table ≡ Some met.link_of.table) f_same met.link_of.table_is) in
              let table_same : met.link_of.table ≡ of = same_Some met.link_of.table of (sym own_table ∙ at) in
              let link_at : slice_get of.links n.0 ≡ Some met.it = subst (λ (t : Table). slice_get t.links n.0 ≡ Some met.it) table_same met.link_of.link_is in
              let link_same : met.it ≡ link = same_Some met.it link (sym link_at ∙ n.1) in
              let side_same : met.f.side ≡ side = ap (λ (x : Fact). x.side) f_same ∙ f.3 in
              let target : IsFactOf b side link.target met.number =
              subst (λ z. IsFactOf b z link.target met.number) side_same (subst (λ (l : Link). IsFactOf b met.f.side l.target met.number) link_same met.target) in
              let equal : All (AreEqualIn b f.1.terms (terms_at b met.number)) (zip link.columns link.target_columns) =
              subst (λ (l : Link). All (AreEqualIn b f.1.terms (terms_at b met.number)) (zip l.columns l.target_columns)) link_same
              (subst (λ (x : Fact). All (AreEqualIn b x.terms (terms_at b met.number)) (zip met.it.columns met.it.target_columns)) f_same met.equal) in
              let z = fact_there s c all values b it side d is link.target met.number target in
              let u_in : All In_ (terms_at b met.number) =
              subst (All In_) (sym (at_fact s c all values b it side d is met.number target.fact target.there))
              (All-contains (IsFactIn k c all) b.facts target.fact it.facts (Contains-at b.facts met.number target.fact target.there)) in
              no (z.0, z.2, match_from f.1 r (terms_at b met.number) z.0 link.columns link.target_columns f_in u_in f.5 z.1 fits.wide equal);
        })) in
        found

  module _ (side : Side) (d : RowSet) (is : AreSideRows c values b.facts (length s.tables) side d.tables) where
    table_conforms : (n : ℕ) (of : Table) (rows : List (List Value)) → slice_get s.tables n ≡ Some of → slice_get d.tables n ≡ Some rows → TableConforms d of rows
    table_conforms n of rows at here =
        let same : rows_of d n ≡ rows = ap (λ o. unwrap_or o []) here in
        subst (TableConforms d of) same
        (record {
          kinds = All-from_contains (RowFits of) (rows_of d n) (kinds_hold side d is n of at);
          keys = All-from_contains (KeyHolds (rows_of d n)) of.keys (key_holds side d is n of at);
          links = All-from_contains (LinkHolds d (rows_of d n)) of.links (link_holds side d is n of at);
        })

    pub tables_conform : AllZip (TableConforms d) s.tables d.tables
    tables_conform = zip_by_place (TableConforms d) s.tables d.tables is.len table_conforms
