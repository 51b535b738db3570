use Rattle.std.proofs.Common.{◌≤◌, arith, length, subst}
use Rattle.ba_instant.proofs.OutlookLemmas.{offers_all, offers_push, offers_skip}
use Rattle.ba_instant.specs.Outlooks.{IsNeedless}
use Rattle.ba_instant.proofs.outlook.Outlook.candidates.Goals as goal
use Rattle.ba_instant.proofs.outlook.Outlook.candidates.Goals.{then-not-is_needless+in_ok-push, else-not-is_needless}

pub loop-fact-preserved : goal.loop-fact-preserved
loop-fact-preserved c =
    elim c.if-not-is_needless.branch [
      | then-not-is_needless+in_ok-push w ↦
          offers_push c.args.self.now c.args.place c.loop-fact.facts.items c.if-not-is_needless.facts.items c.loop-fact.fact (cc (w.facts-is, w.in_ok-push.ensures.items))
          c.loop-fact.invariant
      | else-not-is_needless w ↦
          offers_skip c.args.self.now c.args.place c.loop-fact.facts.items c.if-not-is_needless.facts.items c.loop-fact.fact (cc (w.facts-is))
          (subst (IsNeedless c.args.self.now (record { place = c.args.place; fact = c.loop-fact.fact })) c.deref.ensures.value (c.is_needless.ensures w.if-not-is_needless.false))
          c.loop-fact.invariant
    ]

pub returns : goal.returns
returns c =
    let past : length c.args.self.now.walk.branch.now.facts ≤ c.loop-fact.fact = (let end = c.len-fact-end.ensures in let test = c.loop-fact-test.false in omega (arith, end, test)) in
    offers_all c.args.self.now c.args.place c.args.table c.loop-fact.facts.items c.loop-fact.fact c.requires past c.loop-fact.invariant
