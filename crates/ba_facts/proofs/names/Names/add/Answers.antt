use Rattle.std.proofs.Common.{◌≢◌, ◌<◌, ◌^◌, ℕ, length, Some, arith, List}
use Rattle.std.specs.List.{slice_get}
use Rattle.ba_facts.specs.Known.{seen}
use Rattle.ba_facts.specs.declared.term.Term.{Term}
use Rattle.ba_facts.proofs.NameLemmas.{add_pushes}
use Rattle.ba_facts.proofs.names.Names.add.Goals as goal

pub invariant_of-self-in-Ok : goal.invariant_of-self-in-Ok
invariant_of-self-in-Ok c =
    let terms : List Term = c.self.inside.terms.items in
    let few : length terms < 2 ^ 32 = rw c.self.view_is c.requires.few in
    let absent : (m : ℕ) → slice_get terms m ≢ Some (seen c.args.term) = rw c.self.view_is c.requires.new in
    add_pushes c.self.inside.numbers c.put.new.self terms c.add_item.new.items.items (seen c.args.term) c.in_ok-copy.field-0 _ c.self.invariant few absent c.in_ok-copy.ensures c.in_ok-add_item.ensures.ok (omega arith) c.in-Ok.ensures.here c.in-Ok.ensures.apart
