use Rattle.ba_facts.proofs.AgreeLemmas.{made_agree}
use Rattle.ba_facts.proofs.rises.made_equal.Goals as goal

pub returns : goal.returns
returns c = made_agree c.args.order.now c.in_ok-equal.equal c.raise.new.order c.raise-2.new.order c.args.left c.args.right c.in_ok-equal.ensures c.in_ok-raise.ensures.ok c.in_ok-raise-2.ensures.ok
