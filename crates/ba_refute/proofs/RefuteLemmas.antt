-- A pair that meets each clause refutes strong compliance.
use Rattle.ba_refute.specs.Counterexamples.{CounterexamplesRefute}
use Rattle.ba_refute.specs.declared.clause.Clause.TheVariants.{ConformOne, ConformTwo, Within, Shown, Asked, Absent}

pub refutes : CounterexamplesRefute
refutes policy c trace q it h strong =
    h.meets Absent ((strong.within it.one it.two (h.meets ConformOne) (h.meets ConformTwo) (h.meets Within) (h.meets Shown)).rows it.row (h.meets Asked))
