use Rattle.std.proofs.Common.{ap}
use Rattle.ba_facts.specs.Known.{seen}
use Rattle.ba_facts.proofs.QueryLemmas.{own_literal}
use Rattle.ba_facts.proofs.found.own_literal.Goals as goal

pub returns-in-Val : goal.returns-in-Val
returns-in-Val c = λ k only. (own_literal c.in-Val.value.now (ap seen c.in-Val.is) only).0
