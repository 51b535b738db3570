use Rattle.std.proofs.Common.{◌≡◌, drop}
use Rattle.ba_script.specs.Contexts.{given_for}
use Rattle.ba_script.proofs.context.given_for.Given as goal

abbrev pub invariant-loop-member : goal.invariant-loop-member
invariant-loop-member l = given_for l.name (drop l.member-index l.members) ≡ given_for l.name l.members
