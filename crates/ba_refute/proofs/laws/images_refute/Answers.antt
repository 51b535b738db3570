use Rattle.ba_refute.proofs.EquationsRefute.{images_refute as refute}
use Rattle.ba_refute.proofs.laws.images_refute.Goals as goal

pub returns : goal.returns
returns c = refute
