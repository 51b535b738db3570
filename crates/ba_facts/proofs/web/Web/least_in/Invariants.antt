use Rattle.std.proofs.Common.{ℕ, ◌<◌}
use Rattle.ba_facts.specs.Known.{Known, OneClass}
use Rattle.ba_facts.specs.Webs.{IsWeb}
use Rattle.ba_facts.specs.declared.term.Term.TheVariants.{Unknown}
use Rattle.ba_facts.proofs.web.Web.least_in.Given as goal

-- none of the unknowns so far is of the class
abbrev pub invariant-loop-number : goal.invariant-loop-number
invariant-loop-number l = (k : Known) → IsWeb k l.self → (m : ℕ) → m < l.number → ¬ (OneClass k (Unknown l.unknown) (Unknown m))
