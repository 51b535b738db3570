use Rattle.ba_facts.proofs.MemberLemmas.{none_there, unplaced_only}
use Rattle.ba_facts.specs.Known.{seen}
use Rattle.ba_facts.proofs.web.Web.is_unplaced.Goals as goal

pub returns : goal.returns
returns c = λ k w none. unplaced_only (seen c.args.a) w (λ p h. none_there c.place_of.result c.is_none.result p c.is_none.ensures none ((c.place_of.ensures p).1 h))
