use Rattle.std.proofs.Common.{◌≡◌, drop}
use Rattle.ba_audit.specs.Lines.{place_of}
use Rattle.ba_audit.proofs.against.place_of.Given as goal

-- the first of the number is among those that are left
abbrev pub invariant-loop-it : goal.invariant-loop-it
invariant-loop-it l = place_of l.version (drop l.it-index l.numbered) ≡ place_of l.version l.numbered
