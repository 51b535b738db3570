use Rattle.serde_json.specs.View.{view}
use Rattle.ba_proof.proofs.EachLemmas.{EachAt}
use Rattle.ba_printed.specs.Shapes.{long_of}
use Rattle.ba_printed.proofs.shapes.each_long.Given as goal

abbrev pub invariant-loop-item : goal.invariant-loop-item
invariant-loop-item l = EachAt view long_of l.items l.item-index l.found
