use Rattle.std.proofs.Common.{length, subst}
use Rattle.std.specs.List.{AllZip}
use Rattle.ba_facts.specs.declared.branch.Branch.{Branch}
use Rattle.ba_kernel.proofs.BuildLemmas.{front_all, last_all, zip_last}
use Rattle.ba_kernel.specs.Effects.{IsCase}
use Rattle.ba_kernel.specs.Tidy.{IsPartFor}
use Rattle.ba_kernel.proofs.cases.build.part_cases.Goals as goal

pub copied_cases-requires-clause-fits : goal.copied_cases-requires-clause-fits
copied_cases-requires-clause-fits c =
    front_all (IsPartFor c.args.problem.now.policy.schema (length c.args.row.now)) c.args.parts.now c.in-Some.front.now c.in-Some.last.now c.in-Some.ensures.cases.0
    c.requires.fits

pub add_part-requires-clause-fits : goal.add_part-requires-clause-fits
add_part-requires-clause-fits c =
    last_all (IsPartFor c.args.problem.now.policy.schema (length c.args.row.now)) c.args.parts.now c.in-Some.front.now c.in-Some.last.now c.in-Some.ensures.cases.0
    c.requires.fits

pub returns : goal.returns
returns c =
    let copied = subst (λ (b : Branch). AllZip (IsCase c.args.problem.now.policy.schema b c.args.side c.args.round c.args.row.now) c.in-Some.front.now
    c.in_ok-cases.cases.items) c.deref.ensures c.in_ok-cases.ensures in
    let made = subst (λ (b : Branch). IsCase c.args.problem.now.policy.schema b c.args.side c.args.round c.args.row.now c.in-Some.last.now c.add_part.new.new)
    c.get_mut.ensures.value c.in_ok-add_part.ensures in
    zip_last (IsCase c.args.problem.now.policy.schema c.args.old c.args.side c.args.round c.args.row.now) c.args.parts.now c.in-Some.front.now c.in-Some.last.now
    c.in_ok-cases.cases.items c.push.new.self.items c.add_part.new.new c.in-Some.ensures.cases.0 copied made
    c.in_ok-push.ensures.items
