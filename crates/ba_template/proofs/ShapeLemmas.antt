-- A query with values for its variables has the same shape.
use Rattle.std.proofs.Common.{◌≡◌, ℕ, zero, suc, List, [], ◌∷◌, map, refl, ap, ap₂}
use Rattle.std.specs.List.{AllZip}
use Rattle.std.specs.Prelude.{Option, Some, None, option_and_then, slice_get}
use Rattle.ba_model.specs.Conform.{IsOfKind}
use Rattle.ba_model.specs.Fit.{kind_of_value}
use Rattle.ba_model.specs.declared.query.Atom.{Atom}
use Rattle.ba_model.specs.declared.query.Operand.{Operand}
use Rattle.ba_model.specs.declared.query.Operand.TheVariants.{Col, Val, Param, Var}
use Rattle.ba_model.specs.declared.query.Part.{Part}
use Rattle.ba_model.specs.declared.schema.Kind.{Kind}
use Rattle.ba_model.specs.declared.schema.Kind.TheVariants.{Int as IntKind, Text as TextKind}
use Rattle.ba_model.specs.declared.value.Value.{Value}
use Rattle.ba_model.specs.declared.value.Value.TheVariants.{Null, Int, Text}
use Rattle.ba_kernel.specs.Problems.{atom_at, operand_at, part_at, variable_at}
use Rattle.ba_template.specs.Shapes.{InstanceHasShape, shape_atom, shape_operand, shape_part}
use Rattle.ba_template.specs.declared.shapes.Shape.{Shape}
use Rattle.ba_template.specs.declared.shapes.ShapeAtom.{ShapeAtom}
use Rattle.ba_template.specs.declared.shapes.ShapeOperand.TheVariants.{Hole}
use Rattle.ba_template.specs.declared.shapes.ShapePart.{ShapePart}

kind_is : (k : Kind) (v : Value) → IsOfKind k v → kind_of_value v ≡ Some k
kind_is IntKind (Int n) h = refl
kind_is TextKind (Text t) h = refl
kind_is IntKind (Text t) h = absurd h
kind_is TextKind (Int n) h = absurd h
kind_is IntKind Null h = absurd h
kind_is TextKind Null h = absurd h

-- the kind of a variable's value, if it has one, is the variable's
kind_at : (vars : List Kind) (values : List Value) (n : ℕ) → AllZip IsOfKind vars values → option_and_then kind_of_value (slice_get values n) ≡ slice_get vars n
kind_at [] [] n h = refl
kind_at [] (v ∷ values) n h = absurd h
kind_at (k ∷ vars) [] n h = absurd h
kind_at (k ∷ vars) (v ∷ values) zero h = kind_is k v h.0
kind_at (k ∷ vars) (v ∷ values) (suc n) h = kind_at vars values n h.1

maps : {X Y Z : Type 0} (f : Y → Z) (g : X → Y) (h : X → Z) → ((x : X) → f (g x) ≡ h x) → (xs : List X) → map f (map g xs) ≡ map h xs
maps f g h same [] = refl
maps f g h same (x ∷ xs) = ap₂ (λ z zs. z ∷ zs) (same x) (maps f g h same xs)

module _ (vars : List Kind) (values : List Value) (kinds : AllZip IsOfKind vars values) where
  variable_shape : (n : ℕ) (o : Option Value) → option_and_then kind_of_value o ≡ slice_get vars n → shape_operand [] (variable_at n o) ≡ Hole (slice_get vars n)
  variable_shape n None e = ap Hole e
  variable_shape n (Some v) e = ap Hole e

  operand_shape : (x : Operand) → shape_operand [] (operand_at values x) ≡ shape_operand vars x
  operand_shape (Col place column) = refl
  operand_shape (Val v) = refl
  operand_shape (Param n) = refl
  operand_shape (Var n) = variable_shape n (slice_get values n) (kind_at vars values n kinds)

  atom_shape : (atom : Atom) → shape_atom [] (atom_at values atom) ≡ shape_atom vars atom
  atom_shape atom =
      ap₂ (λ l r. let it : ShapeAtom = record { op = atom.op; left = l; right = r } in it) (operand_shape atom.left) (operand_shape atom.right)

  part_shape : (part : Part) → shape_part [] (part_at values part) ≡ shape_part vars part
  part_shape part =
      ap₂ (λ conds head. let it : ShapePart = record { from = part.from; conds = conds; head = head } in it)
      (maps (shape_atom []) (atom_at values) (shape_atom vars) atom_shape part.conds)
      (maps (shape_operand []) (operand_at values) (shape_operand vars) operand_shape part.head)

pub instance_has_shape : InstanceHasShape
instance_has_shape vars values q kinds =
    ap (λ parts. let it : Shape = record { parts = parts } in it)
    (maps (shape_part []) (part_at values) (shape_part vars) (part_shape vars values kinds) q.parts)
