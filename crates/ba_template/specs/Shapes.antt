-- The shape of a query: its literals and variables are holes of their kinds, and its parameters stay.
use Rattle.std.specs.Prelude.{◌≡◌, ℕ, ◌+◌, ◌%◌, List, [], length, map, slice_get}
use Rattle.std.specs.List.{AllZip, sum, sum_by}
use Rattle.ba_model.specs.Conform.{IsOfKind}
use Rattle.ba_model.specs.Fit.{kind_of_value}
use Rattle.ba_model.specs.declared.query.Atom.{Atom}
use Rattle.ba_model.specs.declared.query.Operand.{Operand}
use Rattle.ba_model.specs.declared.query.Operand.TheVariants as operands
use Rattle.ba_model.specs.declared.query.Part.{Part}
use Rattle.ba_model.specs.declared.query.Query.{Query}
use Rattle.ba_model.specs.declared.schema.Kind.{Kind}
use Rattle.ba_model.specs.declared.value.Value.{Value}
use Rattle.ba_kernel.specs.Problems.{query_at}
use Rattle.ba_template.specs.declared.shapes.Shape.{Shape}
use Rattle.ba_template.specs.declared.shapes.ShapeAtom.{ShapeAtom}
use Rattle.ba_template.specs.declared.shapes.ShapeOperand.{ShapeOperand}
use Rattle.ba_template.specs.declared.shapes.ShapeOperand.TheVariants.{Col, Hole, Param}
use Rattle.ba_template.specs.declared.shapes.ShapePart.{ShapePart}
use Rattle.ba_model.specs.Limits.{shard_count}

-- vars gives the variables' kinds
abbrev pub shape_operand : List Kind → Operand → ShapeOperand
shape_operand vars (operands.Col place column) = Col place column
shape_operand vars (operands.Val v) = Hole (kind_of_value v)
shape_operand vars (operands.Param n) = Param n
shape_operand vars (operands.Var n) = Hole (slice_get vars n)

abbrev pub shape_atom : List Kind → Atom → ShapeAtom
shape_atom vars atom = record { op = atom.op; left = shape_operand vars atom.left; right = shape_operand vars atom.right }

abbrev pub shape_part : List Kind → Part → ShapePart
shape_part vars part = record { from = part.from; conds = map (shape_atom vars) part.conds; head = map (shape_operand vars) part.head }

abbrev pub shape_of : List Kind → Query → Shape
shape_of vars q = record { parts = map (shape_part vars) q.parts }

-- what a part adds to the shape's shard: its tables' numbers, the number of its atoms and its head's length
abbrev pub weight : ShapePart → ℕ
weight part = sum part.from + length part.conds + length part.head

abbrev pub shard_of : Shape → ℕ
shard_of shape = sum_by weight shape.parts % shard_count

-- with values of their kinds for the variables a query has the same shape, so what matches a template has the template's shape
abbrev pub InstanceHasShape : Type 0
InstanceHasShape = (vars : List Kind) (values : List Value) (q : Query) → AllZip IsOfKind vars values → shape_of [] (query_at values q) ≡ shape_of vars q
