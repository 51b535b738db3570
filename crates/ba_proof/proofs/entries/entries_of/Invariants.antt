use Rattle.std.proofs.Common.{All}
use Rattle.serde_json.specs.View.{view}
use Rattle.ba_kernel.specs.Asked.{RecordFits}
use Rattle.ba_proof.specs.Reading.{entry_at}
use Rattle.ba_proof.proofs.EachLemmas.{EachAt}
use Rattle.ba_proof.proofs.entries.entries_of.Given as goal

abbrev pub invariant-loop-item : goal.invariant-loop-item
invariant-loop-item l = EachAt view (entry_at l.policy.schema l.policy.params) l.items l.item-index l.trace × All (RecordFits l.policy) l.trace
