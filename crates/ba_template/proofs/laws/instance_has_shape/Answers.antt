use Rattle.ba_template.proofs.ShapeLemmas.{instance_has_shape}
use Rattle.ba_template.proofs.laws.instance_has_shape.Goals as goal

pub returns : goal.returns
returns c = instance_has_shape
