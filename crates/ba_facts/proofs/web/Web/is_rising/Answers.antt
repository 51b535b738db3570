use Rattle.ba_facts.proofs.QueryLemmas.{rising_exact}
use Rattle.ba_facts.proofs.web.Web.is_rising.Goals as goal

pub returns : goal.returns
returns c = λ k w. rising_exact c.absurd.result w c.absurd.ensures
