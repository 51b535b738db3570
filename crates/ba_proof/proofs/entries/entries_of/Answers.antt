use Rattle.serde_json.specs.View.{view}
use Rattle.ba_kernel.specs.Asked.{RecordFits}
use Rattle.ba_proof.specs.Reading.{entry_at}
use Rattle.ba_proof.proofs.EachLemmas.{all_more, each_goes_on}
use Rattle.ba_proof.proofs.entries.entries_of.Goals as goal

pub loop-item-preserved : goal.loop-item-preserved
loop-item-preserved c = (
  each_goes_on view (entry_at c.args.policy.now.schema c.args.policy.now.params) c.args.items.now c.loop-item.item-index c.loop-item.trace _ c.item-item.result c.in_ok-entry.entry c.loop-item.invariant.0 c.loop-item-test.true c.item-item.is c.in_ok-entry.ensures.exact c.in_ok-push.ensures.ok,
  all_more (RecordFits c.args.policy.now) c.loop-item.trace _ c.in_ok-entry.entry c.loop-item.invariant.1 c.in_ok-entry.ensures.fits c.in_ok-push.ensures.ok,
)
