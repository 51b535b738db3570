use Rattle.std.proofs.Common.{get_or, subst, sym}
use Rattle.std.proofs.lemmas.List.{take_all}
use Rattle.std.proofs.lemmas.List.Elements.{All-more}
use Rattle.std.specs.List.{All}
use Rattle.ba_instant.proofs.OutlookLemmas.{NeverFrom, dead_all, never_from}
use Rattle.ba_instant.specs.Outlooks.{NoneWithin}
use Rattle.ba_instant.proofs.outlook.Outlook.+is_dead.Goals as goal

pub loop-fact-preserved : goal.loop-fact-preserved
loop-fact-preserved t c =
    let numbers = c.deref-fact-items.result.now in
    let i = c.loop-fact.fact-index in
    All-more (NeverFrom c.args.self.now c.args.places.now c.index-places-narrowest.result.place) numbers i 0 c.loop-fact-test.true c.loop-fact.invariant
    (never_from c.args.self.now c.args.places.now c.in_ok-others.others.items c.index-places-narrowest.result.place (get_or numbers i 0) c.in_ok-others.ensures
    (subst (NoneWithin c.args.self.now) c.deref.ensures.value (c.in_ok-is_dead.ensures c.if-not-branch.false)))

pub returns : goal.returns
returns t c = λ e.
    let numbers = c.deref-fact-items.result.now in
    let next = c.index-places-narrowest.result in
    dead_all c.args.self.now c.args.places.now next (c.narrowest.result, c.narrowest.ensures, sym c.index-places-narrowest.is)
    (subst (All (NeverFrom c.args.self.now c.args.places.now c.index-places-narrowest.result.place)) c.deref-fact-items.ensures.value
    (subst (All (NeverFrom c.args.self.now c.args.places.now c.index-places-narrowest.result.place)) (take_all c.loop-fact.fact-index c.deref-fact-items.result.now c.loop-fact-test.false)
    c.loop-fact.invariant))
