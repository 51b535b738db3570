use Rattle.std.proofs.Common.{take}
use Rattle.ba_classes.specs.Image.{IsLeast}
use Rattle.ba_facts.specs.declared.term.Term.TheVariants.{Unknown}
use Rattle.ba_refute.specs.Images.{IsUpperBound}
use Rattle.ba_refute.proofs.numbers.upper_bound.Given as goal

abbrev pub invariant-loop-other : goal.invariant-loop-other
invariant-loop-other l = IsLeast (IsUpperBound l.known (take l.other-index l.valued) (Unknown l.n)) l.bound
