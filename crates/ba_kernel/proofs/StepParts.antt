-- Parts without variables mean the same for all values of variables; without parameters, the same under every context.
use Rattle.std.proofs.Common.{◌≡◌, ℕ, List, [], ◌∷◌, map, get_or, refl, ap₂, sym, ◌∙◌, subst}
use Rattle.std.proofs.lemmas.List.{map-id}
use Rattle.std.proofs.lemmas.List.Elements.{All-head, All-tail, All-weaker}
use Rattle.std.specs.List.{All}
use Rattle.std.specs.Prelude.{Some, slice_get}
use Rattle.ba_model.specs.Fit.{AtomFits, PartFits, kind_of}
use Rattle.ba_model.specs.Meaning.{Holds, InPart, value_of}
use Rattle.ba_model.specs.declared.policy.Context.{Context}
use Rattle.ba_model.specs.declared.query.Atom.{Atom}
use Rattle.ba_model.specs.declared.query.Operand.{Operand}
use Rattle.ba_model.specs.declared.query.Operand.TheVariants.{Col, Val, Param, Var}
use Rattle.ba_model.specs.declared.query.Part.{Part}
use Rattle.ba_model.specs.declared.schema.Kind.{Kind}
use Rattle.ba_model.specs.declared.schema.Schema.{Schema}
use Rattle.ba_model.specs.declared.value.RowSet.{RowSet}
use Rattle.ba_model.specs.declared.value.Value.{Value}
use Rattle.ba_kernel.specs.Problems.{atom_at, operand_at, part_at}
use Rattle.ba_kernel.proofs.StepFits.{images_equal, images_stay}

-- ---- more parameters and variables

-- what the first list has at a place, the second has there
abbrev pub Extends : List Kind → List Kind → Type 0
Extends some all = (n : ℕ) (k : Kind) → slice_get some n ≡ Some k → slice_get all n ≡ Some k

pub extends_nothing : (all : List Kind) → Extends [] all
extends_nothing all n k e = cc

pub extends_itself : (all : List Kind) → Extends all all
extends_itself all n k e = e

module _ (s : Schema) (params vars more others : List Kind) (extend : Extends params more) (extend_vars : Extends vars others) where
  kind_stays : (from : List ℕ) (x : Operand) (k : Kind) → kind_of s params vars from x ≡ Some k → kind_of s more others from x ≡ Some k
  kind_stays from (Col place column) k e = e
  kind_stays from (Val v) k e = e
  kind_stays from (Param n) k e = extend n k e
  kind_stays from (Var n) k e = extend_vars n k e

  atom_stays : (from : List ℕ) (atom : Atom) → AtomFits s params vars from atom → AtomFits s more others from atom
  atom_stays from atom fits =
      record {
        kind = fits.kind;
        left_is = kind_stays from atom.left fits.kind fits.left_is;
        right_is = kind_stays from atom.right fits.kind fits.right_is;
        op = fits.op;
      }

  -- a part that fits still fits where there are more parameters and variables
  pub part_stays : (kinds : List Kind) (part : Part) → PartFits s params vars kinds part → PartFits s more others kinds part
  part_stays kinds part fits =
      record {
        some_table = fits.some_table;
        tables = fits.tables;
        conds = All-weaker (AtomFits s params vars part.from) (AtomFits s more others part.from) (atom_stays part.from) part.conds fits.conds;
        head = images_stay (kind_of s params vars part.from) (kind_of s more others part.from) (kind_stays part.from) part.head kinds fits.head;
      }

-- ---- no variables

module _ (s : Schema) (params : List Kind) (values : List Value) (from : List ℕ) where
  operand_plain : (x : Operand) (k : Kind) → kind_of s params [] from x ≡ Some k → operand_at values x ≡ x
  operand_plain (Col place column) k e = refl
  operand_plain (Val v) k e = refl
  operand_plain (Param n) k e = refl
  operand_plain (Var n) k e = absurd (extends_nothing_here n k e)
    where
      extends_nothing_here : (n : ℕ) (k : Kind) → slice_get [] n ≡ Some k → ⊥
      extends_nothing_here n k e = cc

  atom_plain : (atom : Atom) → AtomFits s params [] from atom → atom_at values atom ≡ atom
  atom_plain atom fits =
      ap₂ (λ x y. let it : Atom = record { op = atom.op; left = x; right = y } in it)
      (operand_plain atom.left fits.kind fits.left_is) (operand_plain atom.right fits.kind fits.right_is)

  conds_plain : (conds : List Atom) → All (AtomFits s params [] from) conds → map (atom_at values) conds ≡ conds
  conds_plain [] fits = refl
  conds_plain (atom ∷ conds) fits =
      ap₂ (λ x xs. x ∷ xs) (atom_plain atom (All-head (AtomFits s params [] from) atom conds fits))
      (conds_plain conds (All-tail (AtomFits s params [] from) atom conds fits))

  head_plain : (kinds : List Kind) (head : List Operand) → map (kind_of s params [] from) head ≡ map Some kinds → map (operand_at values) head ≡ head
  head_plain kinds head is = images_equal (kind_of s params [] from) (operand_at values) (λ x. x) operand_plain head kinds is ∙ map-id head

-- a part without variables is itself
part_plain : (s : Schema) (params : List Kind) (values : List Value) (kinds : List Kind) (part : Part) → PartFits s params [] kinds part →
    part_at values part ≡ part
part_plain s params values kinds part fits =
    ap₂ (λ conds head. let it : Part = record { from = part.from; conds = conds; head = head } in it)
    (conds_plain s params values part.from part.conds fits.conds)
    (head_plain s params values part.from kinds part.head fits.head)

module _ (s : Schema) (params : List Kind) (values : List Value) (kinds : List Kind) (part : Part) (fits : PartFits s params [] kinds part) (c : Context)
    (d : RowSet) (r : List Value) where
  pub from_plain : InPart c d part r → InPart c d (part_at values part) r
  from_plain h = subst (λ q. InPart c d q r) (sym (part_plain s params values kinds part fits)) h

  pub to_plain : InPart c d (part_at values part) r → InPart c d part r
  to_plain h = subst (λ q. InPart c d q r) (part_plain s params values kinds part fits) h

-- ---- no parameters and no variables

module _ (s : Schema) (c other : Context) (from : List ℕ) (rows : List (List Value)) where
  value_fixed : (x : Operand) (k : Kind) → kind_of s [] [] from x ≡ Some k → value_of c rows x ≡ value_of other rows x
  value_fixed (Col place column) k e = refl
  value_fixed (Val v) k e = refl
  value_fixed (Param n) k e = absurd (none n k e)
    where
      none : (n : ℕ) (k : Kind) → slice_get [] n ≡ Some k → ⊥
      none n k e = cc
  value_fixed (Var n) k e = refl

  atom_fixed : (atom : Atom) → AtomFits s [] [] from atom → Holds c rows atom → Holds other rows atom
  atom_fixed atom fits h =
      record {
        left = h.left;
        right = h.right;
        left_is = sym (value_fixed atom.left fits.kind fits.left_is) ∙ h.left_is;
        right_is = sym (value_fixed atom.right fits.kind fits.right_is) ∙ h.right_is;
        compared = h.compared;
      }

  head_fixed : (kinds : List Kind) (head : List Operand) → map (kind_of s [] [] from) head ≡ map Some kinds →
      map (value_of c rows) head ≡ map (value_of other rows) head
  head_fixed kinds head is = images_equal (kind_of s [] [] from) (value_of c rows) (value_of other rows) value_fixed head kinds is

-- a part without parameters and variables gives the same rows under every context
pub part_fixed : (s : Schema) (c other : Context) (d : RowSet) (kinds : List Kind) (part : Part) (r : List Value) → PartFits s [] [] kinds part →
    InPart c d part r → InPart other d part r
part_fixed s c other d kinds part r fits (rows, chosen, gives) = (
  rows,
  chosen,
  record {
    conds = λ k atom below. atom_fixed s c other part.from rows (get_or part.conds k atom) (fits.conds k atom below) (gives.conds k atom below);
    head = sym (head_fixed s c other part.from rows kinds part.head fits.head) ∙ gives.head;
  },
)
