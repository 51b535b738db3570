use Rattle.ba_printed.proofs.LineSaid.{printed_exact}
use Rattle.ba_printed.proofs.laws.printed_is_exact.Goals as goal

pub returns : goal.returns
returns c = printed_exact
