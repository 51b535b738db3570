use Rattle.std.proofs.Common.{ℕ, List}
use Rattle.std.specs.Option.{option_copied}
use Rattle.ba_model.specs.declared.query.Part.{Part}
use Rattle.ba_facts.specs.Matches.{IsLiveAtom}
use Rattle.ba_kernel.proofs.LeastLemmas.{least_end, least_more}
use Rattle.ba_kernel.proofs.news.split.parts_round.Goals as goal

pub loop-part-preserved : goal.loop-part-preserved
loop-part-preserved c =
    least_more c.args.branch.now
    (λ (part : Part) (facts : List ℕ). IsLiveAtom c.args.branch.now c.args.side part (option_copied c.args.row) c.args.atom.now facts)
    c.args.parts.now c.loop-part.part-index c.part-item.result c.loop-part.least c.least_round.result c.lesser-least.result c.loop-part-test.true
    c.part-item.is c.loop-part.invariant c.least_round.ensures c.lesser-least.ensures

pub returns : goal.returns
returns c =
    least_end c.args.branch.now
    (λ (part : Part) (facts : List ℕ). IsLiveAtom c.args.branch.now c.args.side part (option_copied c.args.row) c.args.atom.now facts)
    c.args.parts.now c.loop-part.part-index c.loop-part.least c.loop-part-test.false c.loop-part.invariant
