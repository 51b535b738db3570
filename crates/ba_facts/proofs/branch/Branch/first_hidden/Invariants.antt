use Rattle.std.proofs.Common.{◌≡◌, ℕ, ◌<◌, Some, map, slice_get}
use Rattle.ba_model.specs.declared.query.Atom.{Atom}
use Rattle.ba_facts.specs.Matches.{IsShown, terms_at}
use Rattle.ba_facts.proofs.branch.Branch.first_hidden.Given as goal

-- each atom so far is shown
abbrev pub invariant-loop-number : goal.invariant-loop-number
invariant-loop-number l = (k : ℕ) (atom : Atom) → k < l.number → slice_get l.conds k ≡ Some atom → IsShown l.self.known (map (terms_at l.self) l.facts) atom
