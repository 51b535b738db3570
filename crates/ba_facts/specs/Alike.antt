-- Facts that differ in nothing but which terms of the same classes they name.
use Rattle.std.specs.Prelude.{◌≡◌, ℕ, Some, slice_get}
use Rattle.std.specs.List.{AllZip}
use Rattle.ba_facts.specs.Known.{OneClass}
use Rattle.ba_facts.specs.declared.branch.Branch.{Branch}
use Rattle.ba_facts.specs.declared.term.Fact.{Fact}

-- the two facts are of one side and one table, and their terms of one class, column by column
pub record AreAlike (b : Branch) (n m : ℕ) : Type 0 where
  pub f : Fact
  pub g : Fact
  pub left_is : slice_get b.facts n ≡ Some f
  pub right_is : slice_get b.facts m ≡ Some g
  pub side : f.side ≡ g.side
  pub table : f.table ≡ g.table
  pub terms : AllZip (OneClass b.known) f.terms g.terms
