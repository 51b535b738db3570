-- Where equations alone are used, what the steps add to a branch is plain: facts of their tables'
-- kinds, and equations of terms of one kind.
use Rattle.std.proofs.Common.{◌≡◌, ◌≢◌, ◌∙◌, Bool, true, false, ◌&&◌, ℕ, zero, suc, List, [], ◌∷◌, ◌++◌, All, Option, Some, None, length, map, refl, sym, ap, subst, ◌⊎◌, inl, inr}
use Rattle.std.proofs.lemmas.List.Elements.{All-append, All-cons, All-head, All-nil, All-push, All-tail, All-weaker}
use Rattle.std.proofs.lemmas.Option.{same_Some}
use Rattle.std.specs.List.{AllZip, range_with_len, zip}
use Rattle.std.specs.Option.{option_map}
use Rattle.std.specs.Prelude.{option_and_then, slice_get, unwrap_or}
use Rattle.ba_facts.specs.Knowing.{sort_of}
use Rattle.ba_facts.specs.Laws.{kind_of_term}
use Rattle.ba_facts.specs.Matches.{IsMapping, term_of, terms_at}
use Rattle.ba_facts.specs.declared.branch.Branch.{Branch}
use Rattle.ba_facts.specs.declared.term.Fact.{Fact}
use Rattle.ba_facts.specs.declared.term.Lesson.{Lesson}
use Rattle.ba_facts.specs.declared.term.Lesson.TheVariants.{Same}
use Rattle.ba_facts.specs.declared.term.Side.{Side}
use Rattle.ba_facts.specs.declared.term.Sort.{Sort}
use Rattle.ba_facts.specs.declared.term.Term.{Term}
use Rattle.ba_facts.specs.declared.term.Term.TheVariants as terms
use Rattle.ba_kernel.proofs.StepFits.{All-at, and_then_is, map_is}
use Rattle.ba_kernel.specs.Effects.{IsCase, lesson_of, part_rows, rows_at, same_at, same_of, same_pair, with_fact, with_facts, with_lessons, holds_of}
use Rattle.ba_kernel.specs.declared.problem.Problem.{Problem}
use Rattle.ba_kernel.specs.declared.problem.ProblemEntry.{ProblemEntry}
use Rattle.ba_model.proofs.FitLemmas.{AllZip-at}
use Rattle.ba_model.specs.Equations.{AreEquations as EquationsAlone, AreFilled, IsOfEquations}
use Rattle.ba_model.specs.Fit.{AtomFits, PartFits, column_kind, kind_of, kinds_of}
use Rattle.ba_model.specs.SchemaFaults.{columns_of, columns_or, kind_at, kinds_match}
use Rattle.ba_model.specs.QueryFaults.{agree}
use Rattle.ba_model.specs.declared.policy.View.{View}
use Rattle.ba_model.specs.declared.query.Atom.{Atom}
use Rattle.ba_model.specs.declared.query.Op.TheVariants.{Eq}
use Rattle.ba_model.specs.declared.query.Operand.{Operand}
use Rattle.ba_model.specs.declared.query.Operand.TheVariants.{Col, Val, Param, Var}
use Rattle.ba_model.specs.declared.query.Part.{Part}
use Rattle.ba_model.specs.declared.schema.Column.{Column}
use Rattle.ba_model.specs.declared.schema.Kind.{Kind}
use Rattle.ba_model.specs.declared.schema.Kind.TheVariants.{Int as IntKind, Text as TextKind}
use Rattle.ba_model.specs.declared.schema.Rule.{Rule}
use Rattle.ba_model.specs.declared.schema.Schema.{Schema}
use Rattle.ba_model.specs.declared.schema.Table.{Table}
use Rattle.ba_model.specs.declared.value.Value.TheVariants.{Null}
use Rattle.ba_refute.proofs.ConformLemmas.{FactIsSorted}
use Rattle.ba_refute.proofs.GrowLemmas.{Grows, IsPlainLesson, fact_grows, facts_grow, kind_grows, lesson_grows, lessons_grow, new_mapping, new_sorts, sorts_are_kinds}

-- no column may be NULL, and each atom that a step may add is an `=`
pub record IsProblemOfEquations (p : Problem) : Type 0 where
  pub filled : All AreFilled p.policy.schema.tables
  pub rules : All (λ (rule : Rule). IsOfEquations rule.right) p.policy.schema.rules
  pub views : All (λ (view : View). IsOfEquations view.query) p.policy.views
  pub entries : All (λ (entry : ProblemEntry). IsOfEquations entry.query) p.entries
  pub assumed : EquationsAlone p.assumed
  pub goal : IsOfEquations p.goal

abbrev pub IsFilledSort : Sort → Type 0
IsFilledSort sort = sort.nullable ≡ false

-- the branch is plain: no unknown may be NULL, facts are of their tables' kinds, and lessons plain
pub record IsPlain (p : Problem) (b : Branch) : Type 0 where
  pub filled : All IsFilledSort b.known.unknowns
  pub facts : All (FactIsSorted p.policy.schema b) b.facts
  pub lessons : All (IsPlainLesson b) b.known.learned
  pub params : b.params ≡ kinds_of p.policy.params
  pub vars : b.vars ≡ p.vars

pub zip_weaker : {A B : Type 0} (R S : A → B → Type 0) → ((x : A) (y : B) → R x y → S x y) → (xs : List A) (ys : List B) → AllZip R xs ys → AllZip S xs ys
zip_weaker R S f [] [] h = tt
zip_weaker R S f [] (y ∷ ys) h = absurd h
zip_weaker R S f (x ∷ xs) [] h = absurd h
zip_weaker R S f (x ∷ xs) (y ∷ ys) h = (f x y h.0, zip_weaker R S f xs ys h.1)

pub fact_grows_sorted : (s : Schema) (old new : Branch) → Grows old new → (fact : Fact) → FactIsSorted s old fact → FactIsSorted s new fact
fact_grows_sorted s old new h fact g = record {
  table = g.table;
  table_is = g.table_is;
  terms = zip_weaker (λ (column : Column) t. kind_of_term old t ≡ Some column.kind) (λ (column : Column) t. kind_of_term new t ≡ Some column.kind)
      (λ column t e. kind_grows old new h t column.kind e) (g.table).columns fact.terms g.terms;
}

kinds_same : (k l : Kind) → agree (Some k) (Some l) ≡ true → k ≡ l
kinds_same IntKind IntKind e = refl
kinds_same IntKind TextKind e = cc
kinds_same TextKind IntKind e = cc
kinds_same TextKind TextKind e = refl

agree_kinds : (o q : Option Kind) (k l : Kind) → agree o q ≡ true → o ≡ Some k → q ≡ Some l → k ≡ l
agree_kinds o q k l e f g = kinds_same k l (subst (λ z. agree (Some k) z ≡ true) g (subst (λ z. agree z q ≡ true) f e))

-- ---- operands

-- the rows are of the kinds of these tables
pub record RowIsSorted (s : Schema) (b : Branch) (table : ℕ) (ts : List Term) : Type 0 where
  pub it : Table
  pub table_is : slice_get s.tables table ≡ Some it
  pub terms : AllZip (λ (column : Column) t. kind_of_term b t ≡ Some column.kind) it.columns ts

abbrev pub AreSorted : Schema → Branch → List ℕ → List (List Term) → Type 0
AreSorted s b from rows = AllZip (RowIsSorted s b) from rows

pub mapped_sorted : (s : Schema) (b : Branch) (side : Side) (from facts : List ℕ) → All (FactIsSorted s b) b.facts → IsMapping b side from facts → AreSorted s b from (rows_at b facts)
mapped_sorted s b side [] [] h g = tt
mapped_sorted s b side [] (n ∷ facts) h g = absurd g
mapped_sorted s b side (table ∷ from) [] h g = absurd g
mapped_sorted s b side (table ∷ from) (n ∷ facts) h g =
    let own = All-at (FactIsSorted s b) b.facts n (g.0).fact h (g.0).there in
    let at : terms_at b n ≡ (g.0).fact.terms = ap (λ o. unwrap_or (option_map (λ (it : Fact). it.terms) o) []) (g.0).there in (
      record {
        it = own.table;
        table_is = subst (λ m. slice_get s.tables m ≡ Some own.table) (g.0).table_is own.table_is;
        terms = subst (AllZip (λ (column : Column) t. kind_of_term b t ≡ Some column.kind) (own.table).columns) (sym at) own.terms;
      },
      mapped_sorted s b side from facts h g.1,
    )

module _ (s : Schema) (b : Branch) where
  cell_kind : (columns : List Column) (ts : List Term) (n : ℕ) (kind : Kind) (t : Term) → AllZip (λ (column : Column) t. kind_of_term b t ≡ Some column.kind) columns ts →
      option_map (λ (column : Column). column.kind) (slice_get columns n) ≡ Some kind → slice_get ts n ≡ Some t → kind_of_term b t ≡ Some kind
  cell_kind columns ts n kind t h k e =
      let column = map_is (λ (column : Column). column.kind) (slice_get columns n) kind k in
      let found = AllZip-at (λ (column : Column) t. kind_of_term b t ≡ Some column.kind) columns ts n column.0 h column.1 in
      let same : found.0 ≡ t = same_Some found.0 t (sym found.1 ∙ e) in
      subst (λ x. kind_of_term b x ≡ Some kind) same (found.2 ∙ ap Some column.2)

  row_kind : (table : ℕ) (ts : List Term) (n : ℕ) (kind : Kind) (t : Term) → RowIsSorted s b table ts → column_kind s table n ≡ Some kind → slice_get ts n ≡ Some t → kind_of_term b t ≡ Some kind
  row_kind table ts n kind t h k e =
      let own : option_map (λ (column : Column). column.kind) (slice_get (h.it).columns n) ≡ Some kind =
      subst (λ o. option_and_then (λ (it : Table). option_map (λ (found : Column). found.kind) (slice_get it.columns n)) o ≡ Some kind) h.table_is k in
      cell_kind (h.it).columns ts n kind t h.terms own e

  -- the term of an operand is of the operand's kind
  pub operand_kind : (from : List ℕ) (rows : List (List Term)) (x : Operand) (kind : Kind) (t : Term) → AreSorted s b from rows →
      kind_of s b.params b.vars from x ≡ Some kind → term_of rows x ≡ Some t → kind_of_term b t ≡ Some kind
  operand_kind from rows (Col place column) kind t h k e =
      let table = and_then_is (λ table. column_kind s table column) (slice_get from place) kind k in
      let row = AllZip-at (RowIsSorted s b) from rows place table.0 h table.1 in
      let at : slice_get row.0 column ≡ Some t = subst (λ o. option_and_then (λ row. slice_get row column) o ≡ Some t) row.1 e in
      row_kind table.0 row.0 column kind t row.2 table.2 at
  operand_kind from rows (Val v) kind t h k e = subst (λ x. kind_of_term b x ≡ Some kind) (let is : terms.Val v ≡ t = cc in is) k
  operand_kind from rows (Param n) kind t h k e = subst (λ x. kind_of_term b x ≡ Some kind) (let is : terms.Param n ≡ t = cc in is) k
  operand_kind from rows (Var n) kind t h k e = subst (λ x. kind_of_term b x ≡ Some kind) (let is : terms.Var n ≡ t = cc in is) k

  -- ---- lessons of a part

  atom_plain : (from : List ℕ) (rows : List (List Term)) (atom : Atom) (lesson : Lesson) → AreSorted s b from rows → AtomFits s b.params b.vars from atom → atom.op ≡ Eq →
      lesson_of rows atom ≡ Some lesson → IsPlainLesson b lesson
  atom_plain from rows atom lesson h fits e is =
      let left = and_then_is (λ a. option_map (holds_of atom.op a) (term_of rows atom.right)) (term_of rows atom.left) lesson is in
      let right = map_is (holds_of atom.op left.0) (term_of rows atom.right) lesson left.2 in
      subst (IsPlainLesson b) right.2
      (e, (fits.kind, operand_kind from rows atom.left fits.kind left.0 h fits.left_is left.1, operand_kind from rows atom.right fits.kind right.0 h fits.right_is right.1))

  pub atoms_plain : (from : List ℕ) (rows : List (List Term)) (conds : List Atom) (lessons : List Lesson) → AreSorted s b from rows → All (AtomFits s b.params b.vars from) conds →
      EquationsAlone conds → map (lesson_of rows) conds ≡ map Some lessons → All (IsPlainLesson b) lessons
  atoms_plain from rows [] [] h fits e is = All-nil (IsPlainLesson b)
  atoms_plain from rows [] (lesson ∷ lessons) h fits e is = cc
  atoms_plain from rows (atom ∷ conds) [] h fits e is = cc
  atoms_plain from rows (atom ∷ conds) (lesson ∷ lessons) h fits e is =
      let first : lesson_of rows atom ≡ Some lesson = cc in
      let rest : map (lesson_of rows) conds ≡ map Some lessons = cc in
      All-cons (IsPlainLesson b) lesson lessons
      (atom_plain from rows atom lesson h (All-head (AtomFits s b.params b.vars from) atom conds fits) (All-head (λ (a : Atom). a.op ≡ Eq) atom conds e) first)
      (atoms_plain from rows conds lessons h (All-tail (AtomFits s b.params b.vars from) atom conds fits) (All-tail (λ (a : Atom). a.op ≡ Eq) atom conds e) rest)

  -- a row's terms are of these kinds, or NULL
  abbrev pub AreOfKinds : List Kind → List Term → Type 0
  AreOfKinds kinds row = AllZip (λ kind t. (kind_of_term b t ≡ Some kind) ⊎ (t ≡ terms.Val Null)) kinds row

  pub heads_plain : (from : List ℕ) (rows : List (List Term)) (head : List Operand) (kinds : List Kind) (row : List Term) (lessons : List Lesson) → AreSorted s b from rows →
      map (kind_of s b.params b.vars from) head ≡ map Some kinds → AreOfKinds kinds row → map (same_of rows) (zip head row) ≡ map Some lessons → All (IsPlainLesson b) lessons
  heads_plain from rows [] kinds row [] h k g is = All-nil (IsPlainLesson b)
  heads_plain from rows [] kinds row (lesson ∷ lessons) h k g is = cc
  heads_plain from rows (x ∷ head) [] row lessons h k g is = cc
  heads_plain from rows (x ∷ head) (kind ∷ kinds) [] lessons h k g is = absurd g
  heads_plain from rows (x ∷ head) (kind ∷ kinds) (u ∷ row) [] h k g is = cc
  heads_plain from rows (x ∷ head) (kind ∷ kinds) (u ∷ row) (lesson ∷ lessons) h k g is =
      let kind_is : kind_of s b.params b.vars from x ≡ Some kind = cc in
      let kinds_are : map (kind_of s b.params b.vars from) head ≡ map Some kinds = cc in
      let first : option_map (λ t. Same t u) (term_of rows x) ≡ Some lesson = cc in
      let rest : map (same_of rows) (zip head row) ≡ map Some lessons = cc in
      let t = map_is (λ t. Same t u) (term_of rows x) lesson first in
      All-cons (IsPlainLesson b) lesson lessons
      (subst (IsPlainLesson b) t.2 (record { kind = kind; pair = (operand_kind from rows x kind t.0 h kind_is t.1, g.0) }))
      (heads_plain from rows head kinds row lessons h kinds_are g.1 rest)

  -- a head's terms are of the head's kinds
  pub head_kinds : (from : List ℕ) (rows : List (List Term)) (head : List Operand) (kinds : List Kind) (row : List Term) → AreSorted s b from rows →
      map (kind_of s b.params b.vars from) head ≡ map Some kinds → map (term_of rows) head ≡ map Some row → AreOfKinds kinds row
  head_kinds from rows [] [] [] h k e = tt
  head_kinds from rows [] [] (t ∷ row) h k e = cc
  head_kinds from rows [] (kind ∷ kinds) row h k e = cc
  head_kinds from rows (x ∷ head) [] row h k e = cc
  head_kinds from rows (x ∷ head) (kind ∷ kinds) [] h k e = cc
  head_kinds from rows (x ∷ head) (kind ∷ kinds) (t ∷ row) h k e =
      let kind_is : kind_of s b.params b.vars from x ≡ Some kind = cc in
      let kinds_are : map (kind_of s b.params b.vars from) head ≡ map Some kinds = cc in
      let term_is : term_of rows x ≡ Some t = cc in
      let rest : map (term_of rows) head ≡ map Some row = cc in
      (inl (operand_kind from rows x kind t h kind_is term_is), head_kinds from rows head kinds row h kinds_are rest)

-- ---- facts and lessons that are added

module _ (p : Problem) (filled : All AreFilled p.policy.schema.tables) where
  abbrev s : Schema
  s = p.policy.schema

  pub lessons_plain : (b : Branch) (lessons : List Lesson) → IsPlain p b → All (IsPlainLesson b) lessons → IsPlain p (with_lessons b lessons)
  lessons_plain b lessons h new =
      let after = with_lessons b lessons in
      let grows = lessons_grow b lessons in
      record {
        filled = h.filled;
        facts = All-weaker (FactIsSorted s b) (FactIsSorted s after) (fact_grows_sorted s b after grows) b.facts h.facts;
        lessons = All-weaker (IsPlainLesson b) (IsPlainLesson after) (lesson_grows b after grows) after.known.learned (All-append (IsPlainLesson b) b.known.learned lessons h.lessons new);
        params = h.params;
        vars = h.vars;
      }

  sorts_filled : (columns : List Column) → All (λ (column : Column). column.nullable ≡ false) columns → All IsFilledSort (map sort_of columns)
  sorts_filled [] h = All-nil IsFilledSort
  sorts_filled (column ∷ columns) h =
      All-cons IsFilledSort (sort_of column) (map sort_of columns) (All-head (λ (c : Column). c.nullable ≡ false) column columns h)
      (sorts_filled columns (All-tail (λ (c : Column). c.nullable ≡ false) column columns h))

  pub fact_plain : (side : Side) (round : ℕ) (b : Branch) (table : ℕ) (it : Table) → slice_get s.tables table ≡ Some it → IsPlain p b → IsPlain p (with_fact s side round b table)
  fact_plain side round b table it table_is h =
      let after = with_fact s side round b table in
      let grows = fact_grows s side round b table in
      let columns = columns_of s.tables table in
      let same : columns ≡ it.columns = ap columns_or table_is in
      let new : Fact = record { side = side; table = table; terms = map terms.Unknown (range_with_len (length b.known.unknowns) (length columns)); round = round } in
      let kinds = sorts_are_kinds after columns new.terms (new_sorts b.known.unknowns columns) in
      record {
        filled = All-append IsFilledSort b.known.unknowns (map sort_of columns) h.filled
            (sorts_filled columns (subst (All (λ (column : Column). column.nullable ≡ false)) (sym same) (All-at AreFilled s.tables table it filled table_is)));
        facts = All-push (FactIsSorted s after) b.facts new (All-weaker (FactIsSorted s b) (FactIsSorted s after) (fact_grows_sorted s b after grows) b.facts h.facts)
            (record {
              table = it;
              table_is = table_is;
              terms = subst (λ cs. AllZip (λ (column : Column) t. kind_of_term after t ≡ Some column.kind) cs new.terms) same kinds;
            });
        lessons = All-weaker (IsPlainLesson b) (IsPlainLesson after) (lesson_grows b after grows) b.known.learned h.lessons;
        params = h.params;
        vars = h.vars;
      }

  table_there : (o : Option Table) → o ≢ None → (it : Table) × (o ≡ Some it)
  table_there None h = absurd (h refl)
  table_there (Some it) h = (it, refl)

  pub facts_plain : (side : Side) (round : ℕ) (from : List ℕ) (b : Branch) → All (λ t. slice_get s.tables t ≢ None) from → IsPlain p b → IsPlain p (with_facts s side round b from)
  facts_plain side round [] b tables h = h
  facts_plain side round (table ∷ from) b tables h =
      let it = table_there (slice_get s.tables table) (All-head (λ t. slice_get s.tables t ≢ None) table from tables) in
      facts_plain side round from (with_fact s side round b table) (All-tail (λ t. slice_get s.tables t ≢ None) table from tables) (fact_plain side round b table it.0 it.1 h)

  -- ---- a part that gives a row

  abbrev PartFitsHere : List Kind → Part → Type 0
  PartFitsHere kinds part = PartFits s (kinds_of p.policy.params) p.vars kinds part

  pub part_fits_on : (b : Branch) (kinds : List Kind) (part : Part) → IsPlain p b → PartFitsHere kinds part → PartFits s b.params b.vars kinds part
  part_fits_on b kinds part h fits = subst (λ ps. PartFits s ps b.vars kinds part) (sym h.params) (subst (λ vs. PartFits s (kinds_of p.policy.params) vs kinds part) (sym h.vars) fits)

  kinds_grow : (old new : Branch) → Grows old new → (kinds : List Kind) (row : List Term) → AreOfKinds s old kinds row → AreOfKinds s new kinds row
  kinds_grow old new h kinds row g =
      zip_weaker (λ kind t. (kind_of_term old t ≡ Some kind) ⊎ (t ≡ terms.Val Null)) (λ kind t. (kind_of_term new t ≡ Some kind) ⊎ (t ≡ terms.Val Null))
      (λ kind t. at kind t) kinds row g
    where
      at : (kind : Kind) (t : Term) → (kind_of_term old t ≡ Some kind) ⊎ (t ≡ terms.Val Null) → (kind_of_term new t ≡ Some kind) ⊎ (t ≡ terms.Val Null)
      at kind t (inl e) = inl (kind_grows old new h t kind e)
      at kind t (inr e) = inr e

  pub case_plain : (old : Branch) (side : Side) (round : ℕ) (kinds : List Kind) (row : List Term) (part : Part) (new : Branch) → IsPlain p old → PartFitsHere kinds part →
      EquationsAlone part.conds → AreOfKinds s old kinds row → IsCase s old side round row part new → IsPlain p new
  case_plain old side round kinds row part new h fits equations row_kinds case =
      let mid = with_facts s side round old part.from in
      let mid_plain = facts_plain side round part.from old fits.tables h in
      let on = part_fits_on mid kinds part mid_plain fits in
      let rows = part_rows s old side round part in
      let sorted = mapped_sorted s mid side part.from (range_with_len (length old.facts) (length part.from)) mid_plain.facts (new_mapping s side round part.from old) in
      let own_kinds = kinds_grow old mid (facts_grow s side round part.from old) kinds row row_kinds in
      subst (IsPlain p) (sym case.new_is)
      (lessons_plain mid (case.atoms ++ case.heads) mid_plain
      (All-append (IsPlainLesson mid) case.atoms case.heads (atoms_plain s mid part.from rows part.conds case.atoms sorted on.conds equations case.atoms_are)
      (heads_plain s mid part.from rows part.head kinds row case.heads sorted on.head own_kinds case.heads_are)))

  pub cases_plain : (old : Branch) (side : Side) (round : ℕ) (kinds : List Kind) (row : List Term) (parts : List Part) (cases : List Branch) → IsPlain p old → All (PartFitsHere kinds) parts →
      All (λ (part : Part). EquationsAlone part.conds) parts → AreOfKinds s old kinds row → AllZip (IsCase s old side round row) parts cases → All (IsPlain p) cases
  cases_plain old side round kinds row [] [] h fits equations g zip = All-nil (IsPlain p)
  cases_plain old side round kinds row [] (new ∷ cases) h fits equations g zip = absurd zip
  cases_plain old side round kinds row (part ∷ parts) [] h fits equations g zip = absurd zip
  cases_plain old side round kinds row (part ∷ parts) (new ∷ cases) h fits equations g zip =
      All-cons (IsPlain p) new cases
      (case_plain old side round kinds row part new h (All-head (PartFitsHere kinds) part parts fits) (All-head (λ (part : Part). EquationsAlone part.conds) part parts equations) g zip.0)
      (cases_plain old side round kinds row parts cases h (All-tail (PartFitsHere kinds) part parts fits) (All-tail (λ (part : Part). EquationsAlone part.conds) part parts equations) g zip.1)

  -- ---- rows that are made equal

  pub pairs_plain : (b : Branch) (columns : List Column) (ts us : List Term) → AllZip (λ (column : Column) t. kind_of_term b t ≡ Some column.kind) columns ts →
      AllZip (λ (column : Column) t. kind_of_term b t ≡ Some column.kind) columns us → All (IsPlainLesson b) (map same_pair (zip ts us))
  pairs_plain b [] [] us h g = All-nil (IsPlainLesson b)
  pairs_plain b [] (t ∷ ts) us h g = absurd h
  pairs_plain b (column ∷ columns) [] us h g = absurd h
  pairs_plain b (column ∷ columns) (t ∷ ts) [] h g = absurd g
  pairs_plain b (column ∷ columns) (t ∷ ts) (u ∷ us) h g =
      All-cons (IsPlainLesson b) (Same t u) (map same_pair (zip ts us)) (record { kind = column.kind; pair = (h.0, inl g.0) }) (pairs_plain b columns ts us h.1 g.1)

  and_both : (x y : Bool) → (x && y) ≡ true → (x ≡ true) × (y ≡ true)
  and_both true y e = (refl, e)
  and_both false y e = cc

  pub linked_plain : (b : Branch) (columns others : List Column) (ts us : List Term) (ns ms : List ℕ) (lessons : List Lesson) →
      AllZip (λ (column : Column) t. kind_of_term b t ≡ Some column.kind) columns ts → AllZip (λ (column : Column) t. kind_of_term b t ≡ Some column.kind) others us →
      kinds_match columns others ns ms ≡ true → map (same_at ts us) (zip ns ms) ≡ map Some lessons → All (IsPlainLesson b) lessons
  linked_plain b columns others ts us [] ms [] h g e is = All-nil (IsPlainLesson b)
  linked_plain b columns others ts us [] ms (lesson ∷ lessons) h g e is = cc
  linked_plain b columns others ts us (n ∷ ns) [] [] h g e is = All-nil (IsPlainLesson b)
  linked_plain b columns others ts us (n ∷ ns) [] (lesson ∷ lessons) h g e is = cc
  linked_plain b columns others ts us (n ∷ ns) (m ∷ ms) [] h g e is = cc
  linked_plain b columns others ts us (n ∷ ns) (m ∷ ms) (lesson ∷ lessons) h g e is =
      let both = and_both (agree (kind_at columns n) (kind_at others m)) (kinds_match columns others ns ms) e in
      let first : option_and_then (λ a. option_map (λ c. Same a c) (slice_get us m)) (slice_get ts n) ≡ Some lesson = cc in
      let rest : map (same_at ts us) (zip ns ms) ≡ map Some lessons = cc in
      let left = and_then_is (λ a. option_map (λ c. Same a c) (slice_get us m)) (slice_get ts n) lesson first in
      let right = map_is (λ c. Same left.0 c) (slice_get us m) lesson left.2 in
      let t_kind = zip_back columns ts n left.0 h left.1 in
      let u_kind = zip_back others us m right.0 g right.1 in
      let same = agree_kinds (kind_at columns n) (kind_at others m) t_kind.0 u_kind.0 both.0 t_kind.1 u_kind.1 in
      All-cons (IsPlainLesson b) lesson lessons
      (subst (IsPlainLesson b) right.2 (record { kind = t_kind.0; pair = (t_kind.2, inl (u_kind.2 ∙ ap Some (sym same))) }))
      (linked_plain b columns others ts us ns ms lessons h g both.1 rest)
    where
      zip_back : (columns : List Column) (ts : List Term) (n : ℕ) (t : Term) → AllZip (λ (column : Column) t. kind_of_term b t ≡ Some column.kind) columns ts → slice_get ts n ≡ Some t →
          (kind : Kind) × (kind_at columns n ≡ Some kind) × (kind_of_term b t ≡ Some kind)
      zip_back [] [] n t h e = cc
      zip_back [] (u ∷ ts) n t h e = absurd h
      zip_back (column ∷ columns) [] n t h e = absurd h
      zip_back (column ∷ columns) (u ∷ ts) zero t h e = (column.kind, refl, subst (λ x. kind_of_term b x ≡ Some column.kind) (same_Some u t e) h.0)
      zip_back (column ∷ columns) (u ∷ ts) (suc n) t h e = zip_back columns ts n t h.1 e
