use Rattle.std.proofs.Common.{Some, ap, sym, subst, ◌∙◌}
use Rattle.ba_facts.specs.Naming.{IsIndexed}
use Rattle.ba_facts.proofs.NameLemmas.{not_in_front}
use Rattle.ba_facts.proofs.names.Names.copy.Goals as goal

pub add-requires-clause-new : goal.add-requires-clause-new
add-requires-clause-new c = λ n h.
    let numbers = c.self.inside.numbers in
    let terms = c.deref-term-items.result.now in
    not_in_front numbers terms c.loop-term.other c.loop-term.term-index c.term-item.result (subst (IsIndexed numbers) (sym c.deref-term-items.ensures.value) c.self.invariant) c.loop-term.invariant c.loop-term-test.true c.term-item.is n (h ∙ ap Some c.by_ref.ensures)
