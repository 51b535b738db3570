use Rattle.ba_facts.proofs.PlaceLemmas.{places_more}
use Rattle.ba_facts.specs.Matches.{IsAnswered, row_of}
use Rattle.ba_model.specs.declared.query.Part.{Part}
use Rattle.ba_kernel.proofs.NewLemmas.{none_upto}
use Rattle.ba_kernel.proofs.news.given.is_given.Goals as goal

pub loop-part-preserved : goal.loop-part-preserved
loop-part-preserved c =
    places_more
    (λ (part : Part). IsAnswered c.args.branch.now c.args.side part (row_of c.args.branch.now c.args.facts.now c.args.operands.now) → ⊥)
    c.args.parts.now c.loop-part.part-index c.part-item.result c.loop-part-test.true c.part-item.is
    (λ h. let t = c.is_answered.ensures.1 h in cc) c.loop-part.invariant

pub returns : goal.returns
returns c = (
  λ h. cc,
  λ some. absurd (none_upto
      (λ (part : Part). IsAnswered c.args.branch.now c.args.side part (row_of c.args.branch.now c.args.facts.now c.args.operands.now))
      c.args.parts.now c.loop-part.part-index c.loop-part-test.false c.loop-part.invariant some),
)
