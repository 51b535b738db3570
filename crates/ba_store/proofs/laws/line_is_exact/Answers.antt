use Rattle.ba_store.proofs.LineSaid.{line_is_exact}
use Rattle.ba_store.proofs.laws.line_is_exact.Goals as goal

pub returns : goal.returns
returns c = line_is_exact
