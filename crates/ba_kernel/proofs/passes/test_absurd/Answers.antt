use Rattle.ba_kernel.proofs.passes.test_absurd.Goals as goal

pub returns-then-absurd : goal.returns-then-absurd
returns-then-absurd c = c.absurd.ensures.0 c.if-absurd.true
