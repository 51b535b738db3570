use Rattle.ba_refute.proofs.ComparedLemmas.{HaveTold}
use Rattle.ba_refute.proofs.compared.compared.Given as goal

abbrev pub invariant-loop-lesson : goal.invariant-loop-lesson
invariant-loop-lesson l = HaveTold l.known l.known.learned l.lesson-index l.found.keys
