use Rattle.std.proofs.Common.{refl, sym, ◌∙◌, below_more, arith}
use Rattle.ba_direct.proofs.pairing.pairs_each_once.Goals as goal

pub returns-then-count-ne1 : goal.returns-then-count-ne1
returns-then-count-ne1 c = (λ e. cc, λ f. absurd (c.if-count-ne1.true (c.count.ensures ∙ f c.loop-place.place c.loop-place-test.true)))

pub loop-place-preserved : goal.loop-place-preserved
loop-place-preserved c = below_more _ _ c.loop-place.invariant (sym c.count.ensures ∙ c.if-count-ne1.false)

pub returns : goal.returns
returns c = (λ e place h. c.loop-place.invariant place (omega arith), λ f. refl)
