-- When a query can become another at all, as far as its variables are fixed.
use Rattle.std.specs.Prelude.{◌≡◌, ◌≤◌, List, Option, Some, None, length, slice_get}
use Rattle.std.specs.List.{AllZip}
use Rattle.ba_model.specs.declared.query.Atom.{Atom}
use Rattle.ba_model.specs.declared.query.Operand.{Operand}
use Rattle.ba_model.specs.declared.query.Operand.TheVariants.{Col, Val, Param, Var}
use Rattle.ba_model.specs.declared.query.Part.{Part}
use Rattle.ba_model.specs.declared.query.Query.{Query}
use Rattle.ba_model.specs.declared.value.Value.{Value}
use Rattle.ba_match.specs.Bindings.{IsFixedTo}

-- the variable is there, and free or fixed to the value
abbrev pub MayBe : Option (Option Value) → Value → Type 0
MayBe None v = ⊥
MayBe (Some fixed) v = IsFixedTo fixed v

-- a variable becomes a value, or stays where it isn't there; other operands stay what they are
abbrev pub MayBecome : List (Option Value) → Operand → Operand → Type 0
MayBecome bound (Var n) (Val v) = MayBe (slice_get bound n) v
MayBecome bound (Var n) (Var m) = (n ≡ m) × (length bound ≤ n)
MayBecome bound (Var n) (Col place column) = ⊥
MayBecome bound (Var n) (Param m) = ⊥
MayBecome bound (Col place column) operand = Col place column ≡ operand
MayBecome bound (Val v) operand = Val v ≡ operand
MayBecome bound (Param n) operand = Param n ≡ operand

-- the atoms have one operator, and each side may become the other's
pub record AreAlikeAtoms (bound : List (Option Value)) (pattern atom : Atom) : Type 0 where
  pub op : pattern.op ≡ atom.op
  pub left : MayBecome bound pattern.left atom.left
  pub right : MayBecome bound pattern.right atom.right

-- the parts are from the same tables, and have as many conditions and columns, alike one by one
pub record AreAlikeParts (bound : List (Option Value)) (pattern part : Part) : Type 0 where
  pub from : pattern.from ≡ part.from
  pub conds : AllZip (AreAlikeAtoms bound) pattern.conds part.conds
  pub head : AllZip (MayBecome bound) pattern.head part.head

-- The queries have as many parts, alike one by one. Each query that becomes another by values that
-- extend the fixed ones is alike to it.
abbrev pub AreAlike : List (Option Value) → Query → Query → Type 0
AreAlike bound pattern query = AllZip (AreAlikeParts bound) pattern.parts query.parts
