use Rattle.serde_json.specs.View.{members_view}
use Rattle.ba_proof.proofs.WriteLemmas.{context_more}
use Rattle.ba_proof.proofs.write.context_json.Goals as goal

pub loop-atom-preserved : goal.loop-atom-preserved
loop-atom-preserved c =
    context_more c.args.params.now c.args.atoms.now c.loop-atom.atom-index c.atom-item.result (members_view c.loop-atom.members.entries) (members_view c.put_value.new.members.entries) _
    c.loop-atom-test.true c.atom-item.is c.loop-atom.invariant c.in_ok-put_value.ensures
