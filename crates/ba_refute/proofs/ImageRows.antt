-- The rows of facts, and what operands and atoms are of them.
use Rattle.std.proofs.Common.{◌≡◌, ◌∙◌, ℕ, zero, suc, ◌<◌, ◌≤◌, ◌^◌, List, [], ◌∷◌, All, Contains, Option, Some, None, get_or, length, map, refl, sym, ap, ap₂, subst, arith, inl}
use Rattle.std.proofs.lemmas.List.Elements.{All-cons, All-contains, All-head, All-nil, All-tail}
use Rattle.std.proofs.lemmas.Option.{slice_get_within}
use Rattle.std.specs.List.{AllZip}
use Rattle.std.specs.Option.{option_map}
use Rattle.std.specs.Prelude.{option_and_then, slice_get, unwrap_or}
use Rattle.ba_facts.specs.Matches.{AreTheSame, IsAnswered, IsFactOf, IsMapping, IsShown, row_of, term_of, terms_at}
use Rattle.ba_facts.specs.Shown.{IsEqual, ShowsOf}
use Rattle.ba_facts.specs.declared.branch.Branch.{Branch}
use Rattle.ba_facts.specs.declared.term.Fact.{Fact}
use Rattle.ba_facts.specs.declared.term.Side.{Side}
use Rattle.ba_facts.specs.declared.term.Term.{Term}
use Rattle.ba_facts.specs.declared.term.Term.TheVariants as terms
use Rattle.ba_kernel.proofs.OperandLemmas.{given_at}
use Rattle.ba_kernel.proofs.StepFits.{All-at, Contains-at, Contains-place, and_then_is}
use Rattle.ba_kernel.specs.Effects.{rows_at}
use Rattle.ba_kernel.specs.SearchStates.{FactIsTidy}
use Rattle.ba_kernel.specs.Steps.{FactsPass, IsGiven}
use Rattle.ba_model.proofs.ElementLemmas.{Contains-nil}
use Rattle.ba_model.specs.Meaning.{Compares, Holds, InPart, IsChoice, rows_of, value_of}
use Rattle.ba_model.specs.declared.policy.Context.{Context}
use Rattle.ba_model.specs.declared.query.Atom.{Atom}
use Rattle.ba_model.specs.declared.query.Op.{Op}
use Rattle.ba_model.specs.declared.query.Op.TheVariants.{Eq}
use Rattle.ba_model.specs.declared.query.Operand.{Operand}
use Rattle.ba_model.specs.declared.query.Operand.TheVariants.{Col, Val, Param, Var}
use Rattle.ba_model.specs.declared.query.Part.{Part}
use Rattle.ba_model.specs.declared.schema.Schema.{Schema}
use Rattle.ba_model.specs.declared.value.RowSet.{RowSet}
use Rattle.ba_model.specs.declared.value.Value.{Value}
use Rattle.ba_model.specs.declared.value.Value.TheVariants.{Null}
use Rattle.ba_refute.specs.Images.{AreSideRows, AreValues, IsFactRow, IsRowAt}
use Rattle.ba_refute.proofs.SeenLemmas.{equal_values, has_value, shown_equal, the_same_value, values_tell, there_at}
use Rattle.ba_refute.specs.EquationParts.{IsAtomIn, IsFactIn, IsOperandIn, IsPartIn}
use Rattle.ba_refute.specs.TermValues.{KnowsEquationsAlone, AreLiterals, IsIn, value_at}

-- ---- what holds of all terms of a branch's facts

module _ (P : Term → Type 0) where
  at_all : (o : Option Fact) → ((fact : Fact) → o ≡ Some fact → All P fact.terms) → All P (unwrap_or (option_map (λ (fact : Fact). fact.terms) o) [])
  at_all None h = All-nil P
  at_all (Some fact) h = h fact refl

  pub rows_all : (b : Branch) (facts : List ℕ) → All (λ (fact : Fact). All P fact.terms) b.facts → All (All P) (rows_at b facts)
  rows_all b [] h = All-nil (All P)
  rows_all b (n ∷ facts) h =
      All-cons (All P) (terms_at b n) (rows_at b facts)
      (at_all (slice_get b.facts n) (λ fact is. All-at (λ (fact : Fact). All P fact.terms) b.facts n fact h is)) (rows_all b facts h)

  pub cell_all : (rows : List (List Term)) (place column : ℕ) (t : Term) → All (All P) rows →
      option_and_then (λ row. slice_get row column) (slice_get rows place) ≡ Some t → P t
  cell_all [] place column t h e = cc
  cell_all (row ∷ rows) zero column t h e = All-at P row column t (All-head (All P) row rows h) e
  cell_all (row ∷ rows) (suc place) column t h e = cell_all rows place column t (All-tail (All P) row rows h) e

-- ---- operands

module _ (c : Context) (values : List Value) where
  abbrev pub AreRowsAt : List (List Term) → List (List Value) → Type 0
  AreRowsAt ts rows = AllZip (IsRowAt c values) ts rows

  -- the value of a term, if there is one
  abbrev pub value_if : Option Term → Option Value
  value_if o = option_and_then (value_at c values) o

  cell_value : (ts : List (List Term)) (rows : List (List Value)) (place column : ℕ) → AreRowsAt ts rows →
      option_and_then (λ row. slice_get row column) (slice_get rows place) ≡ value_if (option_and_then (λ row. slice_get row column) (slice_get ts place))
  cell_value [] [] place column h = refl
  cell_value [] (row ∷ rows) place column h = absurd h
  cell_value (t ∷ ts) [] place column h = absurd h
  cell_value (t ∷ ts) (row ∷ rows) zero column h = given_at (value_at c values) t row column h.0
  cell_value (t ∷ ts) (row ∷ rows) (suc place) column h = cell_value ts rows place column h.1

  -- an operand has the value of its term
  pub operand_value : (ts : List (List Term)) (rows : List (List Value)) (x : Operand) → AreRowsAt ts rows → value_of c rows x ≡ value_if (term_of ts x)
  operand_value ts rows (Col place column) h = cell_value ts rows place column h
  operand_value ts rows (Val v) h = refl
  operand_value ts rows (Param n) h = refl
  operand_value ts rows (Var n) h = refl

  pub head_value : (ts : List (List Term)) (rows : List (List Value)) (head : List Operand) → AreRowsAt ts rows →
      map (value_of c rows) head ≡ map value_if (map (term_of ts) head)
  head_value ts rows [] h = refl
  head_value ts rows (x ∷ head) h = ap₂ (λ v vs. v ∷ vs) (operand_value ts rows x h) (head_value ts rows head h)

-- what is known of the image of a branch: equations alone were learned, its literals are among
-- these, and its unknowns have these values
pub record IsImaged (s : Schema) (c : Context) (all values : List Value) (b : Branch) : Type 0 where
  pub are : KnowsEquationsAlone b.known
  pub lits : AreLiterals b.known c all
  pub image : AreValues b.known all values
  pub few : length b.known.unknowns ≤ 10 ^ 64
  pub tidy : All (FactIsTidy s b.known) b.facts
  pub facts : All (IsFactIn b.known c all) b.facts

module _ (s : Schema) (c : Context) (all values : List Value) (b : Branch) (it : IsImaged s c all values b) where
  abbrev pub In : Term → Type 0
  In = IsIn b.known c all

  operand_in : (facts : List ℕ) (x : Operand) (t : Term) → IsOperandIn c all x → term_of (rows_at b facts) x ≡ Some t → In t
  operand_in facts (Col place column) t h e = cell_all In (rows_at b facts) place column t (rows_all In b facts it.facts) e
  operand_in facts (Val v) t h e = subst In (let is : terms.Val v ≡ t = cc in is) h
  operand_in facts (Param n) t h e = subst In (let is : terms.Param n ≡ t = cc in is) h
  operand_in facts (Var n) t h e = absurd h

  -- ---- atoms

  compares : (op : Op) (v w : Value) → op ≡ Eq → Compares op v w → (v ≡ Null → ⊥) × (v ≡ w)
  compares op v w e h = subst (λ o. Compares o v w) e h

  pub holds_shown : (facts : List ℕ) (rows : List (List Value)) (atom : Atom) → AreRowsAt c values (rows_at b facts) rows → IsAtomIn c all atom →
      Holds c rows atom → IsShown b.known (rows_at b facts) atom
  holds_shown facts rows atom tied of h =
      let left = and_then_is (value_at c values) (term_of (rows_at b facts) atom.left) h.left (sym (operand_value c values (rows_at b facts) rows atom.left tied) ∙ h.left_is) in
      let right = and_then_is (value_at c values) (term_of (rows_at b facts) atom.right) h.right (sym (operand_value c values (rows_at b facts) rows atom.right tied) ∙ h.right_is) in
      let true_ = compares atom.op h.left h.right of.op h.compared in
      record {
        left = left.0;
        right = right.0;
        left_is = left.1;
        right_is = right.1;
        holds = subst (λ o. ShowsOf b.known o left.0 right.0) (sym of.op)
            (shown_equal b.known it.are c all it.lits values it.image it.few left.0 right.0 h.left h.right (operand_in facts atom.left left.0 of.left left.1)
            (operand_in facts atom.right right.0 of.right right.1) left.2 right.2 true_.0 true_.1);
      }

  pub shown_holds : (facts : List ℕ) (rows : List (List Value)) (atom : Atom) → AreRowsAt c values (rows_at b facts) rows → IsAtomIn c all atom →
      IsShown b.known (rows_at b facts) atom → Holds c rows atom
  shown_holds facts rows atom tied of h =
      let left_in = operand_in facts atom.left h.left of.left h.left_is in
      let right_in = operand_in facts atom.right h.right of.right h.right_is in
      let v = has_value b.known it.are c all it.lits values it.image it.few h.left left_in in
      let w = has_value b.known it.are c all it.lits values it.image it.few h.right right_in in
      let equal : IsEqual b.known h.left h.right = subst (λ o. ShowsOf b.known o h.left h.right) of.op h.holds in
      let both = equal_values b.known it.are c all it.lits values it.image it.few h.left h.right v.0 w.0 left_in right_in v.1 w.1 equal in
      record {
        left = v.0;
        right = w.0;
        left_is = operand_value c values (rows_at b facts) rows atom.left tied ∙ ap (value_if c values) h.left_is ∙ v.1;
        right_is = operand_value c values (rows_at b facts) rows atom.right tied ∙ ap (value_if c values) h.right_is ∙ w.1;
        compared = subst (λ o. Compares o v.0 w.0) (sym of.op) both;
      }

  -- ---- rows of facts

  pub row_exists : (ts : List Term) → All In ts → (r : List Value) × IsRowAt c values ts r
  row_exists [] h = ([], refl)
  row_exists (t ∷ ts) h =
      let v = has_value b.known it.are c all it.lits values it.image it.few t (All-head In t ts h) in
      let r = row_exists ts (All-tail In t ts h) in
      (v.0 ∷ r.0, ap₂ (λ x xs. x ∷ xs) v.1 r.1)

  module _ (side : Side) (d : RowSet) (is : AreSideRows c values b.facts (length s.tables) side d.tables) where
    pub fact_row : (table : ℕ) (r : List Value) → Contains (rows_of d table) r → IsFactRow c values b.facts side table r
    fact_row table r h = at (slice_get d.tables table) refl h
      where
        at : (o : Option (List (List Value))) → slice_get d.tables table ≡ o → Contains (unwrap_or o []) r → IsFactRow c values b.facts side table r
        at None e h = absurd (Contains-nil r h)
        at (Some rows) e h = (is.each table rows e).sound r h

    pub row_there : (table : ℕ) (r : List Value) → IsFactRow c values b.facts side table r → Contains (rows_of d table) r
    row_there table r h =
        let of : FactIsTidy s b.known h.fact = All-contains (FactIsTidy s b.known) b.facts h.fact it.tidy h.there in
        let below : h.fact.table < length s.tables = slice_get_within s.tables h.fact.table of.table of.table_is in
        let within : table < length d.tables = subst (λ n. n < length d.tables) h.table_is (omega (arith, below, is.len)) in
        let rows = there_at d.tables table within in
        subst (λ o. Contains (unwrap_or o []) r) (sym rows.1) ((is.each table rows.0 rows.1).complete r h)

    pub at_fact : (n : ℕ) (fact : Fact) → slice_get b.facts n ≡ Some fact → terms_at b n ≡ fact.terms
    at_fact n fact e = ap (λ o. unwrap_or (option_map (λ (it : Fact). it.terms) o) []) e

    -- a row of a table is that of a fact with a number
    pub record HasFact (table : ℕ) (r : List Value) : Type 0 where
      pub number : ℕ
      pub of : IsFactOf b side table number
      pub row : IsRowAt c values (terms_at b number) r

    pub has_fact : (table : ℕ) (r : List Value) → Contains (rows_of d table) r → HasFact table r
    has_fact table r h =
        let row = fact_row table r h in
        let at = Contains-place b.facts row.fact row.there in
        record {
          number = at.0;
          of = record { fact = row.fact; there = at.1; side_is = row.side_is; table_is = row.table_is };
          row = subst (λ ts. IsRowAt c values ts r) (sym (at_fact at.0 row.fact at.1)) row.row;
        }

    pub fact_there : (table n : ℕ) → IsFactOf b side table n → (r : List Value) × IsRowAt c values (terms_at b n) r × Contains (rows_of d table) r
    fact_there table n h =
        let r = row_exists h.fact.terms (All-at (IsFactIn b.known c all) b.facts n h.fact it.facts h.there) in (
          r.0,
          subst (λ ts. IsRowAt c values ts r.0) (sym (at_fact n h.fact h.there)) r.1,
          row_there table r.0 (record { fact = h.fact; there = Contains-at b.facts n h.fact h.there; side_is = h.side_is; table_is = h.table_is; row = r.1 }),
        )

    pub facts_of : (from : List ℕ) (rows : List (List Value)) → IsChoice d from rows → (facts : List ℕ) × IsMapping b side from facts × AreRowsAt c values (rows_at b facts) rows
    facts_of [] [] h = ([], tt, tt)
    facts_of [] (row ∷ rows) h = absurd h
    facts_of (table ∷ from) [] h = absurd h
    facts_of (table ∷ from) (row ∷ rows) h =
        let first = has_fact table row h.0 in
        let later = facts_of from rows h.1 in
        (first.number ∷ later.0, (first.of, later.1), (first.row, later.2))

    pub rows_of_facts : (from facts : List ℕ) → IsMapping b side from facts → (rows : List (List Value)) × IsChoice d from rows × AreRowsAt c values (rows_at b facts) rows
    rows_of_facts [] [] h = ([], tt, tt)
    rows_of_facts [] (n ∷ facts) h = absurd h
    rows_of_facts (table ∷ from) [] h = absurd h
    rows_of_facts (table ∷ from) (n ∷ facts) h =
        let first = fact_there table n h.0 in
        let later = rows_of_facts from facts h.1 in
        (first.0 ∷ later.0, (first.2, later.1), (first.1, later.2))

    -- ---- parts

    -- a part that gives a row is shown of facts whose head has the row's values
    pub record IsPassed (part : Part) (r : List Value) : Type 0 where
      pub facts : List ℕ
      pub pass : FactsPass b side part facts
      pub head : map (value_if c values) (row_of b facts part.head) ≡ map Some r

    pub passed : (part : Part) (r : List Value) → IsPartIn c all part → InPart c d part r → IsPassed part r
    passed part r of (rows, chosen, gives) =
        let found = facts_of part.from rows chosen in
        record {
          facts = found.0;
          pass = record {
            mapping = found.1;
            shown = λ i atom below. holds_shown found.0 rows (get_or part.conds i atom) found.2 (of.conds i atom below) (gives.conds i atom below);
          };
          head = sym (head_value c values (rows_at b found.0) rows part.head found.2) ∙ gives.head;
        }

    -- and a row that is answered is one of the part
    answered_head : (facts : List ℕ) (rows : List (List Value)) (head : List Operand) (row : List (Option Term)) (r : List Value) →
        AreRowsAt c values (rows_at b facts) rows → All (IsOperandIn c all) head → All (λ (o : Option Term). (t : Term) → o ≡ Some t → In t) row →
        AllZip (AreTheSame b.known) (row_of b facts head) row → map (value_if c values) row ≡ map Some r → map (value_of c rows) head ≡ map Some r
    answered_head facts rows [] [] [] tied of there same e = refl
    answered_head facts rows [] [] (v ∷ r) tied of there same e = cc
    answered_head facts rows [] (o ∷ row) r tied of there same e = absurd same
    answered_head facts rows (x ∷ head) [] r tied of there same e = absurd same
    answered_head facts rows (x ∷ head) (o ∷ row) [] tied of there same e = cc
    answered_head facts rows (x ∷ head) (o ∷ row) (v ∷ r) tied of there same e =
        let P : Option Term → Type 0 = λ o. (t : Term) → o ≡ Some t → In t in
        let first : value_if c values o ≡ Some v = cc in
        let rest : map (value_if c values) row ≡ map Some r = cc in
        let left_in = operand_in facts x (same.0).left (All-head (IsOperandIn c all) x head of) (same.0).left_is in
        let right_in = All-head P o row there (same.0).right (same.0).right_is in
        let here : value_of c rows x ≡ Some v =
        operand_value c values (rows_at b facts) rows x tied ∙ ap (value_if c values) (same.0).left_is ∙
        the_same_value b.known it.are c all it.lits values it.image it.few (same.0).left (same.0).right left_in right_in (same.0).same ∙
        sym (ap (value_if c values) (same.0).right_is) ∙ first in
        ap₂ (λ z zs. z ∷ zs) here
        (answered_head facts rows head row r tied (All-tail (IsOperandIn c all) x head of) (All-tail P o row there) same.1 rest)

    pub answered : (part : Part) (row : List (Option Term)) (r : List Value) → IsPartIn c all part → All (λ (o : Option Term). (t : Term) → o ≡ Some t → In t) row →
        map (value_if c values) row ≡ map Some r → IsAnswered b side part row → InPart c d part r
    answered part row r of there e h =
        let found = rows_of_facts part.from h.facts h.facts_of in (
          found.0,
          found.1,
          record {
            conds = λ i atom below. shown_holds h.facts found.0 (get_or part.conds i atom) found.2 (of.conds i atom below) (h.shown i atom below);
            head = answered_head h.facts found.0 part.head row r found.2 of.head there h.head e;
          },
        )

    pub given_in : (parts : List Part) (row : List (Option Term)) (r : List Value) → All (IsPartIn c all) parts → All (λ (o : Option Term). (t : Term) → o ≡ Some t → In t) row →
        map (value_if c values) row ≡ map Some r → IsGiven b side row parts → (part : Part) × Contains parts part × InPart c d part r
    given_in parts row r of there e (i, part, below, at, h) =
        (part, (i, below, at), answered part row r (All-contains (IsPartIn c all) parts part of (i, below, at)) there e h)

  -- the terms of a head over facts are such that have values
  pub head_in : (facts : List ℕ) (head : List Operand) → All (IsOperandIn c all) head → All (λ (o : Option Term). (t : Term) → o ≡ Some t → In t) (row_of b facts head)
  head_in facts [] h = All-nil (λ (o : Option Term). (t : Term) → o ≡ Some t → In t)
  head_in facts (x ∷ head) h =
      All-cons (λ (o : Option Term). (t : Term) → o ≡ Some t → In t) (term_of (rows_at b facts) x) (row_of b facts head)
      (λ t e. operand_in facts x t (All-head (IsOperandIn c all) x head h) e) (head_in facts head (All-tail (IsOperandIn c all) x head h))

  -- a head that has the values of terms is the same as these
  pub same_head : (facts : List ℕ) (head : List Operand) (ts : List Term) (r : List Value) → All (IsOperandIn c all) head → All In ts →
      map (value_if c values) (row_of b facts head) ≡ map Some r → map (value_at c values) ts ≡ map Some r → AllZip (AreTheSame b.known) (row_of b facts head) (map Some ts)
  same_head facts [] [] r of there e f = tt
  same_head facts [] (t ∷ ts) [] of there e f = cc
  same_head facts [] (t ∷ ts) (v ∷ r) of there e f = cc
  same_head facts (x ∷ head) [] [] of there e f = cc
  same_head facts (x ∷ head) [] (v ∷ r) of there e f = cc
  same_head facts (x ∷ head) (t ∷ ts) [] of there e f = cc
  same_head facts (x ∷ head) (t ∷ ts) (v ∷ r) of there e f =
      let first : value_if c values (term_of (rows_at b facts) x) ≡ Some v = cc in
      let own : value_at c values t ≡ Some v = cc in
      let rest : map (value_if c values) (row_of b facts head) ≡ map Some r = cc in
      let others : map (value_at c values) ts ≡ map Some r = cc in
      let left = and_then_is (value_at c values) (term_of (rows_at b facts) x) v first in
      let class = (values_tell b.known it.are c all it.lits values it.image it.few left.0 t v v (operand_in facts x left.0 (All-head (IsOperandIn c all) x head of) left.1)
      (All-head In t ts there) left.2 own).0 refl in (
        record { left = left.0; right = t; left_is = left.1; right_is = refl; same = inl class },
        same_head facts head ts r (All-tail (IsOperandIn c all) x head of) (All-tail In t ts there) rest others,
      )
