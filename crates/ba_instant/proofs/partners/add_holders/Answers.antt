use Rattle.ba_facts.specs.Laid.{IsTermOf}
use Rattle.ba_instant.proofs.PartnerLemmas.{front_all, front_none, front_number}
use Rattle.ba_instant.proofs.partners.add_holders.Goals as goal

pub loop-unknown-init : goal.loop-unknown-init
loop-unknown-init c = front_none (IsTermOf c.args.branch.now.facts) c.args.unknowns.now c.args.facts.now.items

pub loop-unknown-preserved : goal.loop-unknown-preserved
loop-unknown-preserved c =
    front_number (IsTermOf c.args.branch.now.facts) c.args.unknowns.now c.loop-unknown.unknown-index c.args.facts.now.items c.loop-unknown.facts.items c.add_holder.new.facts.items c.loop-unknown-test.true
    c.loop-unknown.invariant c.in_ok-add_holder.ensures

pub returns : goal.returns
returns c = front_all (IsTermOf c.args.branch.now.facts) c.args.unknowns.now c.loop-unknown.unknown-index c.args.facts.now.items c.loop-unknown.facts.items c.loop-unknown-test.false c.loop-unknown.invariant
