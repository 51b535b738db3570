-- Facts of which a part is shown are rows that make it true, and its head's terms have the values that it gives.
use Rattle.std.proofs.Common.{◌≡◌, ℕ, List, [], ◌∷◌, map, get_or, refl, ap, ap₂, sym, ◌∙◌, subst}
use Rattle.std.proofs.Math.Logic.{⊎_swap}
use Rattle.std.proofs.lemmas.List.Elements.{All-map}
use Rattle.std.specs.List.{All, AllZip, Contains}
use Rattle.std.specs.Option.{option_map}
use Rattle.std.specs.Prelude.{Option, Some, None, slice_get, option_and_then, unwrap_or}
use Rattle.ba_model.specs.Conform.{Conforms, IsOfKind}
use Rattle.ba_model.specs.Fit.{AtomFits, ContextFits, OpFits, kind_of, kind_of_value, kinds_of}
use Rattle.ba_model.specs.Meaning.{Holds, IsChoice, rows_of, value_of}
use Rattle.ba_model.specs.declared.policy.Context.{Context}
use Rattle.ba_model.specs.declared.query.Atom.{Atom}
use Rattle.ba_model.specs.declared.query.Op.{Op}
use Rattle.ba_model.specs.declared.query.Op.TheVariants.{Eq, Ne, Lt, Le, IsNull, NotNull}
use Rattle.ba_model.specs.declared.query.Operand.{Operand}
use Rattle.ba_model.specs.declared.query.Operand.TheVariants.{Col, Val, Param, Var}
use Rattle.ba_model.specs.declared.schema.Kind.{Kind}
use Rattle.ba_model.specs.declared.schema.Kind.TheVariants.{Int as IntKind, Text as TextKind}
use Rattle.ba_model.specs.declared.schema.Schema.{Schema}
use Rattle.ba_model.specs.declared.value.RowSet.{RowSet}
use Rattle.ba_model.specs.declared.value.Value.{Value}
use Rattle.ba_model.specs.declared.value.Value.TheVariants.{Null, Int, Text}
use Rattle.ba_model.proofs.FitLemmas.{AllZip-at, HasKind, has_value}
use Rattle.ba_facts.specs.Fits.{FitsAt, Instance, TermAtomHolds, database_of, value_of_term}
use Rattle.ba_facts.specs.Known.{Known}
use Rattle.ba_facts.specs.Laws.{ShownIsTrueOfValues, TermOpFits, ValuesFit}
use Rattle.ba_facts.specs.Matches.{IsFactOf, IsMapping, IsShown, term_of, terms_at}
use Rattle.ba_facts.specs.Shown.{Shows}
use Rattle.ba_facts.specs.declared.branch.Branch.{Branch}
use Rattle.ba_facts.specs.declared.term.Side.{Side}
use Rattle.ba_facts.specs.declared.term.Term.{Term}
use Rattle.ba_facts.specs.declared.term.Term.TheVariants as terms
use Rattle.ba_facts.specs.declared.term.TermAtom.{TermAtom}
use Rattle.ba_kernel.specs.Effects.{rows_at}
use Rattle.ba_kernel.specs.Problems.{atom_at, operand_at, variable_at}
use Rattle.ba_kernel.specs.Soundness.{FactsGive}
use Rattle.ba_kernel.proofs.StepFits.{Tied, and_then_is, fact_holds, image_at, side_conforms}

-- ---- kinds and operators

kind_known : (v : Value) (k : Kind) → IsOfKind k v → kind_of_value v ≡ Some k
kind_known Null k h = absurd h
kind_known (Int n) IntKind h = refl
kind_known (Int n) TextKind h = absurd h
kind_known (Text t) IntKind h = absurd h
kind_known (Text t) TextKind h = refl

op_fits : (op : Op) (k : Kind) (x y : Operand) → OpFits op k x y → TermOpFits op k
op_fits Eq k x y h = tt
op_fits Ne k x y h = tt
op_fits Lt k x y h = h
op_fits Le k x y h = h
op_fits IsNull k x y h = tt
op_fits NotNull k x y h = tt

variable_value : (c : Context) (rows : List (List Value)) (n : ℕ) (o : Option Value) → o ≡ value_of c rows (variable_at n o)
variable_value c rows n None = refl
variable_value c rows n (Some v) = refl

-- ---- terms and operands

module _ (i : Instance) (values : List Value) (rows : List (List Term)) (given : List (List Value)) (tied : AllZip (Tied i values) rows given) where
  -- the term of an operand has the operand's value
  pub tied_operand : (x : Operand) (t : Term) → term_of rows x ≡ Some t → value_of_term i values t ≡ value_of i.context given (operand_at i.vars x)
  tied_operand (Col place column) t is =
      let row = and_then_is (λ row. slice_get row column) (slice_get rows place) t is in
      let g = AllZip-at (Tied i values) rows given place row.0 tied row.1 in
      sym (ap (option_and_then (λ row. slice_get row column)) g.1 ∙ image_at (value_of_term i values) row.0 g.0 column t g.2 row.2)
  tied_operand (Val v) t is = let h : terms.Val v ≡ t = cc in subst (λ q. value_of_term i values q ≡ Some v) h refl
  tied_operand (Param n) t is =
      let h : terms.Param n ≡ t = cc in subst (λ q. value_of_term i values q ≡ slice_get i.context.values n) h refl
  tied_operand (Var n) t is =
      let h : terms.Var n ≡ t = cc in
      subst (λ q. value_of_term i values q ≡ slice_get i.vars n) h refl ∙ variable_value i.context given n (slice_get i.vars n)

module _ (s : Schema) (params vars : List Kind) (i : Instance) (values : List Value) (context : ContextFits params i.context)
    (var_values : AllZip IsOfKind vars i.vars) where
  -- an operand keeps its kind where its variable has a value
  pub kind_at : (from : List ℕ) (x : Operand) (k : Kind) → kind_of s params vars from x ≡ Some k → kind_of s params [] from (operand_at i.vars x) ≡ Some k
  kind_at from (Col place column) k is = is
  kind_at from (Val v) k is = is
  kind_at from (Param n) k is = is
  kind_at from (Var n) k is =
      let v = AllZip-at IsOfKind vars i.vars n k var_values is in
      subst (λ o. kind_of s params [] from (variable_at n o) ≡ Some k) (sym v.1) (kind_known v.0 k v.2)

  module _ (d : RowSet) (conforms : Conforms s d) (from : List ℕ) (rows : List (List Term)) (given : List (List Value))
      (tied : AllZip (Tied i values) rows given) (chosen : IsChoice d from given) where
    -- the term of an operand has a value, NULL or of its kind, which is the operand's
    term_fits : (x : Operand) (k : Kind) (t : Term) → kind_of s params vars from x ≡ Some k → term_of rows x ≡ Some t →
        (v : Value) × (value_of_term i values t ≡ Some v) × (value_of i.context given (operand_at i.vars x) ≡ Some v) × HasKind k v
    term_fits x k t kind is =
        let v = has_value s params i.context d from given conforms context chosen (operand_at i.vars x) k (kind_at from x k kind) in
        (v.0, tied_operand i values rows given tied x t is ∙ v.1, v.1, v.2)

    values_fit : (op : Op) (x y : Operand) (a b : Term) (k : Kind) → kind_of s params vars from x ≡ Some k → kind_of s params vars from y ≡ Some k →
        OpFits op k x y → term_of rows x ≡ Some a → term_of rows y ≡ Some b → ValuesFit i values (record { op = op; left = a; right = b })
    values_fit op x y a b k kx ky fits p q =
        let l = term_fits x k a kx p in
        let m = term_fits y k b ky q in
        record {
          kind = k;
          left = l.0;
          right = m.0;
          left_is = l.1;
          right_is = m.1;
          left_fits = ⊎_swap l.3;
          right_fits = ⊎_swap m.3;
          op = op_fits op k x y fits;
        }

    -- an atom that is shown of the terms is true of the rows
    atom_true : (known : Known) → ((atom : TermAtom) → ValuesFit i values atom → Shows known atom → TermAtomHolds i values atom) →
        (atom : Atom) → AtomFits s params vars from atom → IsShown known rows atom → Holds i.context given (atom_at i.vars atom)
    atom_true known shown_is_true atom fits shown =
        let fit = values_fit atom.op atom.left atom.right shown.left shown.right fits.kind fits.left_is fits.right_is fits.op shown.left_is shown.right_is in
        let h = shown_is_true (record { op = atom.op; left = shown.left; right = shown.right }) fit shown.holds in
        record {
          left = h.left;
          right = h.right;
          left_is = sym (tied_operand i values rows given tied atom.left shown.left shown.left_is) ∙ h.left_is;
          right_is = sym (tied_operand i values rows given tied atom.right shown.right shown.right_is) ∙ h.right_is;
          compared = h.compared;
        }

    pub atoms_true : (known : Known) → ((atom : TermAtom) → ValuesFit i values atom → Shows known atom → TermAtomHolds i values atom) →
        (conds : List Atom) → All (AtomFits s params vars from) conds → All (IsShown known rows) conds →
        All (Holds i.context given) (map (atom_at i.vars) conds)
    atoms_true known shown_is_true conds fits shown =
        All-map (Holds i.context given) (atom_at i.vars) conds
        (λ k d below. atom_true known shown_is_true (get_or conds k d) (fits k d below) (shown k d below))

    -- the terms of a head have the values of its operands
    pub head_values : (head : List Operand) (kinds : List Kind) (row : List Term) → map (kind_of s params vars from) head ≡ map Some kinds →
        map (term_of rows) head ≡ map Some row →
        (out : List Value) × Tied i values row out × (map (value_of i.context given) (map (operand_at i.vars) head) ≡ map Some out)
    head_values [] kinds [] p q = ([], refl, refl)
    head_values [] kinds (t ∷ row) p q = cc
    head_values (x ∷ head) [] row p q = cc
    head_values (x ∷ head) (k ∷ kinds) [] p q = cc
    head_values (x ∷ head) (k ∷ kinds) (t ∷ row) p q =
        let kx : kind_of s params vars from x ≡ Some k = cc in
        let tx : term_of rows x ≡ Some t = cc in
        let ps : map (kind_of s params vars from) head ≡ map Some kinds = cc in
        let qs : map (term_of rows) head ≡ map Some row = cc in
        let v = term_fits x k t kx tx in
        let out = head_values head kinds row ps qs in
        (v.0 ∷ out.0, ap₂ (λ y ys. y ∷ ys) v.1 out.1, ap₂ (λ y ys. y ∷ ys) v.2 out.2)

-- ---- facts and rows

module _ (s : Schema) (b : Branch) (i : Instance) (d e : RowSet) (r values : List Value) (fit : FitsAt s b i d e r values) (side : Side) where
  fact_row : (table n : ℕ) → IsFactOf b side table n →
      (row : List Value) × Tied i values (terms_at b n) row × Contains (rows_of (database_of d e side) table) row
  fact_row table n it =
      let h = fact_holds s b i d e r values fit n it.fact it.there in
      let at : terms_at b n ≡ it.fact.terms = ap (λ o. unwrap_or (option_map (λ fact. fact.terms) o) []) it.there in (
        h.row,
        subst (λ ts. Tied i values ts h.row) (sym at) h.terms,
        subst (λ x. Contains (rows_of (database_of d e x) table) h.row) it.side_is
            (subst (λ t. Contains (rows_of (database_of d e it.fact.side) t) h.row) it.table_is h.there),
      )

  -- the facts of a part's tables are rows of them
  pub mapped_rows : (from facts : List ℕ) → IsMapping b side from facts →
      (given : List (List Value)) × AllZip (Tied i values) (rows_at b facts) given × IsChoice (database_of d e side) from given
  mapped_rows [] [] h = ([], tt, tt)
  mapped_rows [] (n ∷ facts) h = absurd h
  mapped_rows (table ∷ from) [] h = absurd h
  mapped_rows (table ∷ from) (n ∷ facts) h =
      let first = fact_row table n h.0 in
      let later = mapped_rows from facts h.1 in
      (first.0 ∷ later.0, (first.1, later.1), (first.2, later.2))

pub facts_give : ShownIsTrueOfValues → FactsGive
facts_give shown_is_true p i b side kinds part facts row d e r values instance fit fits pass row_is =
    let s = p.policy.schema in
    let params = kinds_of p.policy.params in
    let side_is = side_conforms s d e side fit.one fit.two in
    let rows = rows_at b facts in
    let given = mapped_rows s b i d e r values fit side part.from facts pass.mapping in
    let out = head_values s params p.vars i values instance.context instance.vars (database_of d e side) side_is part.from rows given.0 given.1 given.2
    part.head kinds row fits.head row_is in
    let conds = atoms_true s params p.vars i values instance.context instance.vars (database_of d e side) side_is part.from rows given.0 given.1 given.2
    b.known (λ atom h shown. shown_is_true s b i d e r values atom fit h shown) part.conds fits.conds pass.shown in
    (out.0, out.1, (given.0, given.2, record { conds = conds; head = out.2 }))
