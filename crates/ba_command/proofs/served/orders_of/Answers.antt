use Rattle.ba_command.proofs.NumberLemmas.{one_or_two}
use Rattle.ba_command.proofs.served.orders_of.Goals as goal

pub returns-clause-orders : goal.returns-clause-orders
returns-clause-orders c = one_or_two c.number_or.result c.number_or.ensures.within.0 c.number_or.ensures.within.1
