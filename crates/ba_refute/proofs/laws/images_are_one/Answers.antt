use Rattle.ba_refute.proofs.OneImage.{images_are_one as are_one}
use Rattle.ba_refute.proofs.laws.images_are_one.Goals as goal

pub returns : goal.returns
returns c = are_one
