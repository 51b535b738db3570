use Rattle.ba_instant.specs.Outlooks.{KeepsAt}
use Rattle.ba_instant.proofs.outlook.Outlook.agreeing.Given as goal

-- those that are left are enough
abbrev pub invariant-loop-atom : goal.invariant-loop-atom
invariant-loop-atom l = KeepsAt l.self l.chosen l.it.place l.it.facts.items l.left.items
