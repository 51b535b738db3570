use Rattle.std.proofs.Common.{refl}
use Rattle.ba_session.proofs.JudgeLemmas.{first_here, found_first, found_none, none_at_all, none_here}
use Rattle.ba_session.proofs.request.Request.serving.Goals as goal

pub returns-in-Some : goal.returns-in-Some
returns-in-Some c =
    let policy = c.args.policy.now in
    let asker = c.args.self.now in
    let query = c.args.query.now in
    let it = c.kept-item.result in (
      refl,
      first_here policy asker query c.args.found.now c.loop-kept.kept-index it c.loop-kept-test.true c.kept-item.is c.loop-kept.invariant c.in_ok-template.template c.in_ok-template.ensures c.in-Some.it
          (found_first policy asker query c.deref.result.now it.template c.deref.ensures c.in_ok-matched.matched c.in_ok-matched.ensures c.in-Some.it c.in-Some.is),
    )

pub loop-kept-preserved : goal.loop-kept-preserved
loop-kept-preserved c =
    let policy = c.args.policy.now in
    let asker = c.args.self.now in
    let query = c.args.query.now in
    let it = c.kept-item.result in
    none_here policy asker query c.args.found.now c.loop-kept.kept-index it c.loop-kept-test.true c.kept-item.is c.loop-kept.invariant
    (found_none policy asker query c.deref.result.now it.template c.deref.ensures c.in_ok-matched.matched c.in_ok-matched.ensures c.in_default.is)

pub returns : goal.returns
returns c = none_at_all c.args.policy.now c.args.self.now c.args.query.now c.args.found.now c.loop-kept.kept-index c.loop-kept-test.false c.loop-kept.invariant
