use Rattle.ba_instant.specs.Outlooks.{Keeps}
use Rattle.ba_instant.proofs.outlook.Outlook.others.Given as goal

-- those so far are enough
abbrev pub invariant-loop-it : goal.invariant-loop-it
invariant-loop-it l = Keeps l.self l.chosen l.places l.others.items
