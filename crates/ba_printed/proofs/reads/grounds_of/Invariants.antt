use Rattle.ba_printed.proofs.GroundLemmas.{GroundsAt}
use Rattle.ba_printed.proofs.reads.grounds_of.Given as goal

abbrev pub invariant-loop-place : goal.invariant-loop-place
invariant-loop-place l = GroundsAt l.params l.names l.proofs l.place l.grounds
