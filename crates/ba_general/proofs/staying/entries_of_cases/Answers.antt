use Rattle.std.proofs.Common.{ap, eqb, ◌∙◌}
use Rattle.std.proofs.lemmas.List.{take_all}
use Rattle.std.proofs.lemmas.List.Filters.{dedup_is}
use Rattle.std.specs.List.{flat_map}
use Rattle.ba_general.proofs.StayingLemmas.{all_of_cases}
use Rattle.ba_general.specs.Leaving.{named_of_cases}
use Rattle.ba_general.proofs.staying.entries_of_cases.Goals as goal

pub returns : goal.returns
returns c =
    all_of_cases c.args.problem.now c.args.steps.now c.loop-step.numbers.items c.sort_unstable.new.self.items c.dedup.new.self.items
    (c.loop-step.invariant ∙
    ap (flat_map (named_of_cases c.args.problem.now)) (take_all c.loop-step.step-index c.as_slice-step-items.result.now c.loop-step-test.false ∙ c.as_slice-step-items.ensures))
    c.sort_unstable.ensures.permutation c.sort_unstable.ensures.sorted (dedup_is eqb _ _ c.dedup.ensures.filtered)
