-- Where equations alone are used.
use Rattle.std.specs.Prelude.{◌≡◌, false, All, List}
use Rattle.ba_model.specs.declared.policy.Policy.{Policy}
use Rattle.ba_model.specs.declared.policy.View.{View}
use Rattle.ba_model.specs.declared.query.Atom.{Atom}
use Rattle.ba_model.specs.declared.query.Op.TheVariants.{Eq}
use Rattle.ba_model.specs.declared.query.Part.{Part}
use Rattle.ba_model.specs.declared.query.Query.{Query}
use Rattle.ba_model.specs.declared.schema.Column.{Column}
use Rattle.ba_model.specs.declared.schema.Rule.{Rule}
use Rattle.ba_model.specs.declared.schema.Table.{Table}

-- each is an `=`
abbrev pub AreEquations : List Atom → Type 0
AreEquations conds = All (λ (atom : Atom). atom.op ≡ Eq) conds

-- each atom of the query is an `=`
abbrev pub IsOfEquations : Query → Type 0
IsOfEquations q = All (λ (part : Part). AreEquations part.conds) q.parts

-- no column may be NULL
abbrev pub AreFilled : Table → Type 0
AreFilled table = All (λ (column : Column). column.nullable ≡ false) table.columns

-- no column of the schema may be NULL, and each atom of its rules and of the views is an `=`
pub record PolicyIsOfEquations (policy : Policy) : Type 0 where
  pub filled : All AreFilled policy.schema.tables
  pub left : All (λ (rule : Rule). IsOfEquations rule.left) policy.schema.rules
  pub right : All (λ (rule : Rule). IsOfEquations rule.right) policy.schema.rules
  pub views : All (λ (view : View). IsOfEquations view.query) policy.views
