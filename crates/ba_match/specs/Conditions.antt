-- What is known of a condition while variables are free.
use Rattle.std.specs.Prelude.{◌≡◌, List, Option, Some, None, slice_get, option_and_then}
use Rattle.ba_model.specs.Meaning.{Compares}
use Rattle.ba_model.specs.declared.policy.Context.{Context}
use Rattle.ba_model.specs.declared.query.Atom.{Atom}
use Rattle.ba_model.specs.declared.query.Operand.{Operand}
use Rattle.ba_model.specs.declared.query.Operand.TheVariants.{Col, Val, Param, Var}
use Rattle.ba_model.specs.declared.value.Value.{Value}

-- the operand's value, unless it is a column or a variable that is free
abbrev pub known_value : Context → List (Option Value) → Operand → Option Value
known_value c bound (Col place column) = None
known_value c bound (Val v) = Some v
known_value c bound (Param n) = slice_get c.values n
known_value c bound (Var n) = option_and_then (λ fixed. fixed) (slice_get bound n)

-- where both sides' values are known the atom is true of them
pub record MayHold (c : Context) (bound : List (Option Value)) (atom : Atom) : Type 0 where
  pub compared : (a b : Value) → known_value c bound atom.left ≡ Some a → known_value c bound atom.right ≡ Some b → Compares atom.op a b
