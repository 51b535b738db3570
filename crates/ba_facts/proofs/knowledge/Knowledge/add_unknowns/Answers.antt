use Rattle.std.proofs.Common.{sym, subst, List}
use Rattle.ba_facts.specs.Webs.{IsWeb}
use Rattle.ba_facts.specs.declared.term.Sort.{Sort}
use Rattle.ba_facts.proofs.SortLemmas.{wider_whole}
use Rattle.ba_facts.proofs.knowledge.Knowledge.add_unknowns.Goals as goal

pub invariant_of-self-2 : goal.invariant_of-self-2
invariant_of-self-2 c =
    let learned = c.self.inside.learned in
    subst (λ (us : List Sort). IsWeb (record { unknowns = us; learned = learned }) c.self.inside.web) (sym c.in_ok-append.ensures.items)
    (wider_whole (record { unknowns = c.self.inside.unknowns.items; learned = learned }) c.in_ok-sorts.sorts.items c.self.invariant)
