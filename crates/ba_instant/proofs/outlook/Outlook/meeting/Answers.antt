use Rattle.std.proofs.Common.{◌+◌, get_or, refl, subst, take}
use Rattle.std.proofs.lemmas.List.{take_all}
use Rattle.ba_facts.proofs.WalkLemmas.{one_more}
use Rattle.ba_instant.proofs.OutlookLemmas.{meets_push, meets_skip}
use Rattle.ba_instant.specs.Outlooks.{MeetsAt}
use Rattle.ba_instant.proofs.outlook.Outlook.meeting.Goals as goal
use Rattle.ba_instant.proofs.outlook.Outlook.meeting.Goals.{then-not-are_apart+in_ok-push, else-not-are_apart}

pub loop-fact-preserved : goal.loop-fact-preserved
loop-fact-preserved c =
    let all = c.args.facts.now in
    let i = c.loop-fact.fact-index in
    let fact = get_or c.args.facts.now c.loop-fact.fact-index 0 in
    let grows = one_more c.args.facts.now c.loop-fact.fact-index fact refl c.loop-fact-test.true in
    elim c.if-not-are_apart.branch [
      | then-not-are_apart+in_ok-push w ↦
          meets_push c.args.self.now c.args.atom.now c.args.chosen c.args.place (take i all) c.loop-fact.left.items (take (i + 1) all) c.if-not-are_apart.left.items fact grows
          (cc (w.left-is, w.in_ok-push.ensures.items)) c.loop-fact.invariant
      | else-not-are_apart w ↦
          meets_skip c.args.self.now c.args.atom.now c.args.chosen c.args.place (take i all) c.loop-fact.left.items (take (i + 1) all) c.if-not-are_apart.left.items fact grows
          (cc (w.left-is)) (c.are_apart.ensures w.if-not-are_apart.false) c.loop-fact.invariant
    ]

pub returns : goal.returns
returns c =
    subst (λ xs. MeetsAt c.args.self.now c.args.atom.now c.args.chosen c.args.place xs c.loop-fact.left.items)
    (take_all c.loop-fact.fact-index c.args.facts.now c.loop-fact-test.false) c.loop-fact.invariant
