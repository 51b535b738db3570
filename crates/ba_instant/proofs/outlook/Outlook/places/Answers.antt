use Rattle.ba_instant.proofs.OutlookLemmas.{LeadsBelow, leads_none, leads_push}
use Rattle.ba_instant.proofs.outlook.Outlook.places.Goals as goal

pub loop-place-init : goal.loop-place-init
loop-place-init c = leads_none c.args.self.now c.new-places.result.items c.new-places.ensures.items

pub returns-then-is_bare : goal.returns-then-is_bare
returns-then-is_bare c =
    LeadsBelow.leads
    (leads_push c.args.self.now c.loop-place.places.items c.push.new.self.items (record { place = c.loop-place.place; facts = c.in_ok-facts.facts }) c.in_ok-push.ensures.items
    c.in_ok-facts.ensures c.loop-place.invariant)

pub loop-place-preserved : goal.loop-place-preserved
loop-place-preserved c =
    leads_push c.args.self.now c.loop-place.places.items c.push.new.self.items (record { place = c.loop-place.place; facts = c.in_ok-facts.facts }) c.in_ok-push.ensures.items
    c.in_ok-facts.ensures c.loop-place.invariant

pub returns : goal.returns
returns c = c.loop-place.invariant.leads
