-- Parts of queries in which equations alone stand, with literals and parameters that have values.
use Rattle.std.specs.Prelude.{◌≡◌, ◌≢◌, ◌<◌, List, [], All, Contains, length}
use Rattle.ba_facts.specs.Known.{Known}
use Rattle.ba_facts.specs.declared.term.Fact.{Fact}
use Rattle.ba_model.specs.declared.policy.Context.{Context}
use Rattle.ba_model.specs.declared.query.Atom.{Atom}
use Rattle.ba_model.specs.declared.query.Op.TheVariants.{Eq}
use Rattle.ba_model.specs.declared.query.Operand.{Operand}
use Rattle.ba_model.specs.declared.query.Operand.TheVariants.{Col, Val, Param, Var}
use Rattle.ba_model.specs.declared.query.Part.{Part}
use Rattle.ba_model.specs.declared.query.Query.{Query}
use Rattle.ba_model.specs.declared.value.Value.{Value}
use Rattle.ba_refute.specs.TermValues.{IsIn}

-- a column, one of these literals, or a parameter that has a value
abbrev pub IsOperandIn : Context → List Value → Operand → Type 0
IsOperandIn c all (Col place column) = Unit {0}
IsOperandIn c all (Val v) = Contains all v
IsOperandIn c all (Param n) = n < length c.values
IsOperandIn c all (Var n) = ⊥

-- an `=` of such operands
pub record IsAtomIn (c : Context) (all : List Value) (atom : Atom) : Type 0 where
  pub op : atom.op ≡ Eq
  pub left : IsOperandIn c all atom.left
  pub right : IsOperandIn c all atom.right

pub record IsPartIn (c : Context) (all : List Value) (part : Part) : Type 0 where
  pub some_table : part.from ≢ []
  pub conds : All (IsAtomIn c all) part.conds
  pub head : All (IsOperandIn c all) part.head

abbrev pub ArePartsIn : Context → List Value → Query → Type 0
ArePartsIn c all q = All (IsPartIn c all) q.parts

-- the fact's terms are such that have values
abbrev pub IsFactIn : Known → Context → List Value → Fact → Type 0
IsFactIn k c all fact = All (IsIn k c all) fact.terms
