-- Parts with their places in another turn give the same rows.
use Rattle.std.specs.Prelude.{◌≡◌, ℕ, ◌<◌, List, length, map, Some, slice_get, unwrap_or}
use Rattle.ba_model.specs.Meaning.{InAnswer, InPart}
use Rattle.ba_model.specs.declared.policy.Context.{Context}
use Rattle.ba_model.specs.declared.query.Atom.{Atom}
use Rattle.ba_model.specs.declared.query.Operand.{Operand}
use Rattle.ba_model.specs.declared.query.Operand.TheVariants.{Col, Val, Param, Var}
use Rattle.ba_model.specs.declared.query.Part.{Part}
use Rattle.ba_model.specs.declared.query.Query.{Query}
use Rattle.ba_model.specs.declared.value.RowSet.{RowSet}
use Rattle.ba_model.specs.declared.value.Value.{Value}

-- the operand with its place's number in the new turn
abbrev pub rename : List ℕ → Operand → Operand
rename back (Col place column) = Col (unwrap_or (slice_get back place) place) column
rename back (Val v) = Val v
rename back (Param n) = Param n
rename back (Var n) = Var n

abbrev pub rename_atom : List ℕ → Atom → Atom
rename_atom back atom = record { op = atom.op; left = rename back atom.left; right = rename back atom.right }

-- both lists have n places, and the second gives for each place where the first has it
pub record IsTurn (n : ℕ) (to back : List ℕ) : Type 0 where
  pub to_long : length to ≡ n
  pub back_long : length back ≡ n
  pub leads : (place : ℕ) → place < n → (position : ℕ) × (slice_get back place ≡ Some position) × (slice_get to position ≡ Some place)

-- the other part's tables are those at these places, and its operands are renamed
pub record TurnedBy (part : Part) (to back : List ℕ) (other : Part) : Type 0 where
  pub tables : map (slice_get part.from) to ≡ map Some other.from
  pub conds : other.conds ≡ map (rename_atom back) part.conds
  pub head : other.head ≡ map (rename back) part.head

-- the parts give the same rows in every database
pub record SameRows (part other : Part) : Type 0 where
  pub there : (c : Context) (d : RowSet) (r : List Value) → InPart c d part r → InPart c d other r
  pub back : (c : Context) (d : RowSet) (r : List Value) → InPart c d other r → InPart c d part r

-- the queries give the same rows in every database
pub record SameAnswers (q other : Query) : Type 0 where
  pub there : (c : Context) (d : RowSet) (r : List Value) → InAnswer q c d r → InAnswer other c d r
  pub back : (c : Context) (d : RowSet) (r : List Value) → InAnswer other c d r → InAnswer q c d r
