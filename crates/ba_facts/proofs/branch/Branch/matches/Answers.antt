use Rattle.std.proofs.Common.{◌∙◌, subst, sym}
use Rattle.ba_facts.proofs.WalkLemmas.{gathers_all, gathers_compose, gathers_nothing}
use Rattle.ba_facts.specs.Matches.{AreMatches}
use Rattle.ba_facts.specs.declared.walk.Wanted.TheVariants.{Live}
use Rattle.ba_facts.proofs.branch.Branch.matches.Goals as goal

pub returns-then-is_hopeless : goal.returns-then-is_hopeless
returns-then-is_hopeless c =
    gathers_nothing c.args.self.now c.args.side c.args.part.now c.from_vec.result (c.from_vec.ensures ∙ c.new-found.ensures.items)
    (c.is_hopeless.ensures.0 c.if-is_hopeless.true)

pub visit-requires-clause-composes : goal.visit-requires-clause-composes
visit-requires-clause-composes c =
    gathers_compose c.args.self.now c.args.side c.args.part.now Live (λ found. found.items) (λ from chosen stop. Unit {0}) (λ table rest chosen n stop fact h. tt)

pub returns : goal.returns
returns c =
    subst (AreMatches c.args.self.now c.args.side c.args.part.now) (sym c.from_vec-2.ensures)
    (gathers_all c.args.self.now c.args.side c.args.part.now c.new-found.result.items c.visit.new.state.items c.new-found.ensures.items
    c.in_ok-visit.ensures.visited)
