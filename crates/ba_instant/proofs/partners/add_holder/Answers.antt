use Rattle.std.proofs.Common.{◌≡◌, Some}
use Rattle.ba_instant.proofs.PartnerLemmas.{holder_gains, none_gains}
use Rattle.ba_instant.proofs.partners.add_holder.Goals as goal

pub returns-in_ok-push-in-Some : goal.returns-in_ok-push-in-Some
returns-in_ok-push-in-Some c =
    holder_gains c.args.branch.now c.args.unknown c.in_ok-number_of-in-Some.field-0 c.args.facts.now.items c.push.new.self.items c.holder.result
    (let e : c.holder.result ≡ Some c.in_ok-number_of-in-Some.field-0 = cc (c.in-Some.is, c.in_ok-number_of-in-Some.ensures.value) in e) c.holder.ensures c.in_ok-push-in-Some.ensures.items

pub returns-in-None : goal.returns-in-None
returns-in-None c = none_gains c.args.branch.now c.args.unknown c.args.facts.now.items c.holder.result c.in-None.is c.holder.ensures
