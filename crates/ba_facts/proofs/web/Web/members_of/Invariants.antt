use Rattle.std.proofs.Common.{◌≤◌}
use Rattle.ba_facts.specs.Members.{AreMembersBelow}
use Rattle.ba_facts.proofs.web.Web.members_of.Given as goal

-- the unknowns of the class with numbers so far
abbrev pub invariant-loop-n : goal.invariant-loop-n
invariant-loop-n l = (l.n ≤ l.n-end) × AreMembersBelow l.self.names l.self.classes.merges l.x l.n l.members.items
