use Rattle.std.proofs.lemmas.Result.{IfOk-weaker}
use Rattle.ba_instant.proofs.PartnerLemmas.{all_partners}
use Rattle.ba_instant.specs.Scans.{AreRecent}
use Rattle.ba_instant.specs.Partners.{ArePartners}
use Rattle.ba_instant.proofs.scan.Scan.partners.Goals as goal

pub returns-in-None : goal.returns-in-None
returns-in-None c =
    let s = c.args.self.now.search.now.problem.policy.schema in
    let b = c.args.self.now.branch.now in
    IfOk-weaker c.recent_facts.result (λ it. AreRecent b 0 it.items) (λ it. ArePartners s b c.args.one it.items) (λ it are. all_partners s b c.args.one it.items are) c.recent_facts.ensures
