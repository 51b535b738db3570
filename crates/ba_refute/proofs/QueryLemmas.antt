-- Queries that fit, in which equations alone stand and whose literals are among these.
use Rattle.std.proofs.Common.{◌≡◌, ℕ, ◌<◌, List, [], ◌∷◌, All, Contains, Some, get_or, length, map}
use Rattle.std.proofs.lemmas.List.Elements.{All-cons, All-contains, All-nil, Contains-append_left, Contains-append_right, Contains-get_or}
use Rattle.std.proofs.lemmas.Option.{slice_get_within}
use Rattle.std.specs.List.{flat_map}
use Rattle.std.specs.Prelude.{slice_get}
use Rattle.ba_comply.proofs.ComplyLemmas.{All-from_contains}
use Rattle.ba_model.proofs.ElementLemmas.{Contains-head, Contains-into_flat_map}
use Rattle.ba_model.proofs.FitLemmas.{AllZip-at}
use Rattle.ba_model.specs.Conform.{IsOfKind}
use Rattle.ba_model.specs.Equations.{AreEquations as EquationsAlone, IsOfEquations}
use Rattle.ba_model.specs.Fit.{AtomFits, ContextFits, PartFits, QueryFits, kind_of}
use Rattle.ba_model.specs.declared.policy.Context.{Context}
use Rattle.ba_model.specs.declared.query.Atom.{Atom}
use Rattle.ba_model.specs.declared.query.Op.TheVariants.{Eq}
use Rattle.ba_model.specs.declared.query.Operand.{Operand}
use Rattle.ba_model.specs.declared.query.Operand.TheVariants.{Col, Val, Param, Var}
use Rattle.ba_model.specs.declared.query.Part.{Part}
use Rattle.ba_model.specs.declared.query.Query.{Query}
use Rattle.ba_model.specs.declared.schema.Kind.{Kind}
use Rattle.ba_model.specs.declared.schema.Schema.{Schema}
use Rattle.ba_model.specs.declared.value.Value.{Value}
use Rattle.ba_refute.specs.Images.{literals_of_atom, literals_of_operand, literals_of_part, literals_of_query}
use Rattle.ba_refute.specs.EquationParts.{IsAtomIn, IsOperandIn, IsPartIn, ArePartsIn}

-- each of the first list is in the second
abbrev pub AreAmong : List Value → List Value → Type 0
AreAmong xs all = (v : Value) → Contains xs v → Contains all v

-- each parameter of these kinds has a value
abbrev pub HaveValues : List Kind → Context → Type 0
HaveValues params c = (n : ℕ) (kind : Kind) → slice_get params n ≡ Some kind → n < length c.values

pub context_values : (params : List Kind) (c : Context) → ContextFits params c → HaveValues params c
context_values params c fits n kind e = let v = AllZip-at IsOfKind params c.values n kind fits e in slice_get_within c.values n v.0 v.1

pub no_params : (c : Context) → HaveValues [] c
no_params c n kind e = cc

module _ (s : Schema) (params : List Kind) (c : Context) (all : List Value) (have : HaveValues params c) where
  pub operand_fits_in : (from : List ℕ) (x : Operand) (kind : Kind) → kind_of s params [] from x ≡ Some kind → AreAmong (literals_of_operand x) all → IsOperandIn c all x
  operand_fits_in from (Col place column) kind e among = tt
  operand_fits_in from (Val v) kind e among = among v (Contains-head v [])
  operand_fits_in from (Param n) kind e among = have n kind e
  operand_fits_in from (Var n) kind e among = none n e
    where
      none : (n : ℕ) → slice_get [] n ≡ Some kind → ⊥
      none n e = cc

  atom_in : (from : List ℕ) (atom : Atom) → AtomFits s params [] from atom → atom.op ≡ Eq → AreAmong (literals_of_atom atom) all → IsAtomIn c all atom
  atom_in from atom fits e among = record {
    op = e;
    left = operand_fits_in from atom.left fits.kind fits.left_is (λ v h. among v (Contains-append_left (literals_of_operand atom.left) (literals_of_operand atom.right) v h));
    right = operand_fits_in from atom.right fits.kind fits.right_is (λ v h. among v (Contains-append_right (literals_of_operand atom.left) (literals_of_operand atom.right) v h));
  }

  head_fits_in : (from : List ℕ) (head : List Operand) (kinds : List Kind) → map (kind_of s params [] from) head ≡ map Some kinds →
      AreAmong (flat_map literals_of_operand head) all → All (IsOperandIn c all) head
  head_fits_in from [] kinds e among = All-nil (IsOperandIn c all)
  head_fits_in from (x ∷ head) [] e among = cc
  head_fits_in from (x ∷ head) (kind ∷ kinds) e among =
      let first : kind_of s params [] from x ≡ Some kind = cc in
      let rest : map (kind_of s params [] from) head ≡ map Some kinds = cc in
      All-cons (IsOperandIn c all) x head
      (operand_fits_in from x kind first (λ v h. among v (Contains-append_left (literals_of_operand x) (flat_map literals_of_operand head) v h)))
      (head_fits_in from head kinds rest (λ v h. among v (Contains-append_right (literals_of_operand x) (flat_map literals_of_operand head) v h)))

  pub part_in : (kinds : List Kind) (part : Part) → PartFits s params [] kinds part → EquationsAlone part.conds → AreAmong (literals_of_part part) all → IsPartIn c all part
  part_in kinds part fits equations among = record {
    some_table = fits.some_table;
    conds = λ i atom below.
        atom_in part.from (get_or part.conds i atom) (fits.conds i atom below) (equations i atom below)
        (λ v h. among v (Contains-append_left (flat_map literals_of_atom part.conds) (flat_map literals_of_operand part.head) v
        (Contains-into_flat_map literals_of_atom part.conds (get_or part.conds i atom) v (Contains-get_or part.conds i atom below) h)));
    head = head_fits_in part.from part.head kinds fits.head
        (λ v h. among v (Contains-append_right (flat_map literals_of_atom part.conds) (flat_map literals_of_operand part.head) v h));
  }

  pub query_in : (q : Query) → QueryFits s params [] q → IsOfEquations q → AreAmong (literals_of_query q) all → ArePartsIn c all q
  query_in q fits equations among =
      All-from_contains (IsPartIn c all) q.parts
      (λ part there.
      part_in fits.kinds part (All-contains (PartFits s params [] fits.kinds) q.parts part fits.parts there)
      (All-contains (λ (it : Part). EquationsAlone it.conds) q.parts part equations there)
      (λ v h. among v (Contains-into_flat_map literals_of_part q.parts part v there h)))
