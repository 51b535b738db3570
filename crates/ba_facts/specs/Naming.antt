-- Terms by number, and the numbers of terms.
use Rattle.std.specs.Prelude.{◌≡◌, ℕ, ◌↔◌, ◌≤◌, ◌^◌, List, Option, Some, None, slice_get, slice_index_or, length}
use Rattle.std.specs.BTreeMap.{get}
use Rattle.ba_model.specs.Order.{value_cmp}
use Rattle.ba_facts.specs.declared.names.Numbers.{Numbers}
use Rattle.ba_facts.specs.declared.term.Term.{Term}
use Rattle.ba_facts.specs.declared.term.Term.TheVariants.{Unknown, Val, Param, Var}

-- the number of a term, if it has one
abbrev pub number_in : Numbers → Term → Option ℕ
number_in it (Unknown n) = slice_index_or it.unknowns.items n None
number_in it (Val v) = get value_cmp it.values v
number_in it (Param n) = slice_index_or it.params.items n None
number_in it (Var n) = slice_index_or it.vars.items n None

-- the numbers are those of the terms by their place in the list
pub record IsIndexed (numbers : Numbers) (terms : List Term) : Type 0 where
  pub few : length terms ≤ 2 ^ 32
  pub exact : (t : Term) (n : ℕ) → (number_in numbers t ≡ Some n) ↔ (slice_get terms n ≡ Some t)
