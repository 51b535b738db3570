-- Keys: when the keys of two shapes are equal, and what of a shape a hasher is fed.
use Rattle.std.specs.Prelude.{◌≡◌, ℕ, zero, suc, Bool, ◌&&◌, IsTrue, List, [], ◌∷◌, ◌++◌, length, Option, Some, None, nat_eq}
use Rattle.std.specs.Bool.{Decides}
use Rattle.std.specs.Cmp.{IsEquivalence, decided, first_so, second_so}
use Rattle.std.specs.Cmp.Lexicographic.{bytes_decides, pointwise, pointwise_decides}
use Rattle.std.specs.Hash as fed
use Rattle.std.specs.List.{flat_map}
use Rattle.std.proofs.Common.{ap, refl, sym, ◌∙◌, eqb-true, eq-eqb}
use Rattle.ba_model.specs.declared.query.Op.{Op}
use Rattle.ba_model.specs.declared.query.Op.TheVariants as ops
use Rattle.ba_model.specs.declared.schema.Kind.{Kind}
use Rattle.ba_model.specs.declared.schema.Kind.TheVariants.{Int, Text}
use Rattle.ba_template.specs.declared.shapes.Shape.{Shape}
use Rattle.ba_template.specs.declared.shapes.ShapeAtom.{ShapeAtom}
use Rattle.ba_template.specs.declared.shapes.ShapeOperand.{ShapeOperand}
use Rattle.ba_template.specs.declared.shapes.ShapeOperand.TheVariants.{Col, Hole, Param}
use Rattle.ba_template.specs.declared.shapes.ShapePart.{ShapePart}

-- ---- tests of equal content

abbrev kind_number : Option Kind → ℕ
kind_number None = 0
kind_number (Some Int) = 1
kind_number (Some Text) = 2

abbrev op_number : Op → ℕ
op_number ops.Eq = 0
op_number ops.Ne = 1
op_number ops.Lt = 2
op_number ops.Le = 3
op_number ops.IsNull = 4
op_number ops.NotNull = 5

abbrev operand_numbers : ShapeOperand → List ℕ
operand_numbers (Col place column) = 0 ∷ place ∷ column ∷ []
operand_numbers (Hole kind) = 1 ∷ kind_number kind ∷ []
operand_numbers (Param n) = 2 ∷ n ∷ []

abbrev same_operand : ShapeOperand → ShapeOperand → Bool
same_operand a b = pointwise nat_eq (operand_numbers a) (operand_numbers b)

abbrev same_op : Op → Op → Bool
same_op a b = nat_eq (op_number a) (op_number b)

abbrev same_atom : ShapeAtom → ShapeAtom → Bool
same_atom a b = same_op a.op b.op && (same_operand a.left b.left && same_operand a.right b.right)

abbrev same_part : ShapePart → ShapePart → Bool
same_part a b = pointwise nat_eq a.from b.from && (pointwise same_atom a.conds b.conds && pointwise same_operand a.head b.head)

abbrev pub same_shape : Shape → Shape → Bool
same_shape a b = pointwise same_part a.parts b.parts

-- ---- they tell it

abbrev kind_of_number : ℕ → Option Kind
kind_of_number zero = None
kind_of_number (suc zero) = Some Int
kind_of_number (suc (suc n)) = Some Text

kind_back : (kind : Option Kind) → kind_of_number (kind_number kind) ≡ kind
kind_back None = refl
kind_back (Some Int) = refl
kind_back (Some Text) = refl

kind_is : (a b : Option Kind) → kind_number a ≡ kind_number b → a ≡ b
kind_is a b e = sym (kind_back a) ∙ ap kind_of_number e ∙ kind_back b

abbrev op_of_number : ℕ → Op
op_of_number zero = ops.Eq
op_of_number (suc zero) = ops.Ne
op_of_number (suc (suc zero)) = ops.Lt
op_of_number (suc (suc (suc zero))) = ops.Le
op_of_number (suc (suc (suc (suc zero)))) = ops.IsNull
op_of_number (suc (suc (suc (suc (suc n))))) = ops.NotNull

op_back : (op : Op) → op_of_number (op_number op) ≡ op
op_back ops.Eq = refl
op_back ops.Ne = refl
op_back ops.Lt = refl
op_back ops.Le = refl
op_back ops.IsNull = refl
op_back ops.NotNull = refl

op_is : (a b : Op) → op_number a ≡ op_number b → a ≡ b
op_is a b e = sym (op_back a) ∙ ap op_of_number e ∙ op_back b

operand_is : (a b : ShapeOperand) → operand_numbers a ≡ operand_numbers b → a ≡ b
operand_is (Col p c) (Col q d) e = let first : p ≡ q = cc e in let second : c ≡ d = cc e in ap (λ n. Col n c) first ∙ ap (Col q) second
operand_is (Col p c) (Hole k) e = cc e
operand_is (Col p c) (Param n) e = cc e
operand_is (Hole k) (Col p c) e = cc e
operand_is (Hole k) (Hole l) e = let same : kind_number k ≡ kind_number l = cc e in ap Hole (kind_is k l same)
operand_is (Hole k) (Param n) e = cc e
operand_is (Param n) (Col p c) e = cc e
operand_is (Param n) (Hole k) e = cc e
operand_is (Param n) (Param m) e = let same : n ≡ m = cc e in ap Param same

-- a test of images tells equal content, where no two values have one image
module _ {A B : Type 0} (image : A → B) (test : B → B → Bool) (decides : (x y : B) → Decides (test x y) (x ≡ y)) (inj : (a b : A) → image a ≡ image b → a ≡ b) where
  by_image : (a b : A) → Decides (test (image a) (image b)) (a ≡ b)
  by_image a b = (λ e. inj a b ((decides (image a) (image b)).0 e), λ e. (decides (image a) (image b)).1 (ap image e))

-- two tests tell a pair
both : {A B : Type 0} (a b : A) (c d : B) (s t : Bool) → Decides s (a ≡ b) → Decides t (c ≡ d) → Decides (s && t) ((a ≡ b) × (c ≡ d))
both a b c d s t f g = (λ e. (f.0 (first_so s t e), g.0 (second_so s t e)), λ h. (λ i. f.1 h.0 i && g.1 h.1 i))

numbers_decide : (xs ys : List ℕ) → Decides (pointwise nat_eq xs ys) (xs ≡ ys)
numbers_decide = bytes_decides

number_decides : (x y : ℕ) → Decides (nat_eq x y) (x ≡ y)
number_decides x y = (λ e. eqb-true x y e, λ e. eq-eqb x y e)

operand_decides : (a b : ShapeOperand) → Decides (same_operand a b) (a ≡ b)
operand_decides = by_image operand_numbers (pointwise nat_eq) numbers_decide operand_is

op_decides : (a b : Op) → Decides (same_op a b) (a ≡ b)
op_decides = by_image op_number nat_eq number_decides op_is

atom_is : (a b : ShapeAtom) → (a.op ≡ b.op) × (a.left ≡ b.left) × (a.right ≡ b.right) → a ≡ b
atom_is a b h i = record { op = h.0 i; left = h.1 i; right = h.2 i }

atom_decides : (a b : ShapeAtom) → Decides (same_atom a b) (a ≡ b)
atom_decides a b =
    let sides = both a.left b.left a.right b.right (same_operand a.left b.left) (same_operand a.right b.right) (operand_decides a.left b.left) (operand_decides a.right b.right) in
    let op = op_decides a.op b.op in (
      λ e. let h = sides.0 (second_so (same_op a.op b.op) _ e) in atom_is a b (op.0 (first_so (same_op a.op b.op) _ e), h.0, h.1),
      λ e. let left = op.1 (ap (λ (it : ShapeAtom). it.op) e) in let right = sides.1 (ap (λ (it : ShapeAtom). it.left) e, ap (λ (it : ShapeAtom). it.right) e) in (λ i. left i && right i),
    )

part_is : (a b : ShapePart) → (a.from ≡ b.from) × (a.conds ≡ b.conds) × (a.head ≡ b.head) → a ≡ b
part_is a b h i = record { from = h.0 i; conds = h.1 i; head = h.2 i }

part_decides : (a b : ShapePart) → Decides (same_part a b) (a ≡ b)
part_decides a b =
    let rest = both a.conds b.conds a.head b.head (pointwise same_atom a.conds b.conds) (pointwise same_operand a.head b.head) (pointwise_decides atom_decides a.conds b.conds) (pointwise_decides operand_decides a.head b.head) in
    let from = numbers_decide a.from b.from in (
      λ e. let h = rest.0 (second_so (pointwise nat_eq a.from b.from) _ e) in part_is a b (from.0 (first_so (pointwise nat_eq a.from b.from) _ e), h.0, h.1),
      λ e. let left = from.1 (ap (λ (it : ShapePart). it.from) e) in let right = rest.1 (ap (λ (it : ShapePart). it.conds) e, ap (λ (it : ShapePart). it.head) e) in (λ i. left i && right i),
    )

pub shape_decides : (a b : Shape) → Decides (same_shape a b) (a ≡ b)
shape_decides a b = (
  λ e i. record { parts = (pointwise_decides part_decides a.parts b.parts).0 e i },
  λ e. (pointwise_decides part_decides a.parts b.parts).1 (ap (λ (it : Shape). it.parts) e),
)

pub shape_equiv : IsEquivalence same_shape
shape_equiv = decided same_shape shape_decides

-- ---- what a hasher is fed

-- a part's tables, and how many atoms and operands of the head it has
abbrev pub part_input : ShapePart → List (List ℕ)
part_input part = fed.slice fed.u32 part.from ++ fed.usize (length part.conds) ++ fed.usize (length part.head)

abbrev pub shape_input : Shape → List (List ℕ)
shape_input shape = flat_map part_input shape.parts

pub shape_respects : (a b : Shape) → IsTrue (same_shape a b) → shape_input a ≡ shape_input b
shape_respects a b h = ap shape_input ((shape_decides a b).0 h)
