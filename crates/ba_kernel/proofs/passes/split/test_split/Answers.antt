use Rattle.ba_kernel.specs.Steps.{SplitRefuses}
use Rattle.ba_kernel.proofs.passes.split.test_split.Goals as goal

pub returns-then-not-sides_are_there : goal.returns-then-not-sides_are_there
returns-then-not-sides_are_there c = SplitRefuses.no_unknown (λ sides. let t = c.sides_are_there.ensures.1 sides in cc)

pub returns-else-split_fits : goal.returns-else-split_fits
returns-else-split_fits c = SplitRefuses.unfit (c.sides_are_there.ensures.0 c.if-not-sides_are_there.false) (λ fits. let t = c.split_fits.ensures.1 fits in cc)
