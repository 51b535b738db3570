use Rattle.ba_facts.specs.Known.{seen}
use Rattle.ba_facts.proofs.BoundLemmas.{placed}
use Rattle.ba_facts.proofs.web.Web.bound_of_places.Goals as goal

pub returns-in-Some-Some : goal.returns-in-Some-Some
returns-in-Some-Some c =
    let web = c.args.self.now in
    placed web.names web.classes.merges web.marks.items web.order (seen c.args.low) (seen c.args.high) c.in-Some-Some.from c.in-Some-Some.to c.most.result
    c.in-Some-Some.ensures c.in-Some-Some.ensures' c.most.ensures
