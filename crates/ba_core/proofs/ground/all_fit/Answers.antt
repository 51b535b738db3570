use Rattle.std.proofs.Common.{◌<◌, arith, length}
use Rattle.ba_core.proofs.ReadLemmas.{unequal, unfit_at, zip_more}
use Rattle.ba_core.specs.Grounds.{Supports}
use Rattle.ba_core.specs.Steps.{Fits}
use Rattle.ba_core.proofs.ground.all_fit.Goals as goal

pub returns-then-queries-grounds-clause-exact : goal.returns-then-queries-grounds-clause-exact
returns-then-queries-grounds-clause-exact c =
    unequal (Fits c.args.policy.now c.args.templates.now c.args.asker.now) c.args.queries.now c.args.grounds.now c.if-queries-grounds.true

pub returns-then-not-fit-clause-exact : goal.returns-then-not-fit-clause-exact
returns-then-not-fit-clause-exact c =
    unfit_at (Fits c.args.policy.now c.args.templates.now c.args.asker.now) c.args.queries.now c.args.grounds.now c.loop-i.i c.index-queries-i.result c.index-grounds-i.result
    c.loop-i-test.true c.index-queries-i.is c.index-grounds-i.is (λ h. let yes = c.in_ok-fit.ensures.exact.1 h in let not_so = c.if-not-fit.true in cc)

pub loop-i-preserved : goal.loop-i-preserved
loop-i-preserved c =
    let same = c.if-queries-grounds.false in
    let below = c.loop-i-test.true in
    let there : c.loop-i.i < length c.args.grounds.now = omega (arith, same, below) in (
      zip_more (Fits c.args.policy.now c.args.templates.now c.args.asker.now) c.args.queries.now c.args.grounds.now c.loop-i.i c.index-queries-i.result c.index-grounds-i.result
          below there c.index-queries-i.is c.index-grounds-i.is c.loop-i.invariant.0 (c.in_ok-fit.ensures.exact.0 c.if-not-fit.false),
      zip_more (Supports c.args.policy.now c.args.asker.now) c.args.queries.now c.args.grounds.now c.loop-i.i c.index-queries-i.result c.index-grounds-i.result
          below there c.index-queries-i.is c.index-grounds-i.is c.loop-i.invariant.1 (c.in_ok-fit.ensures.strong c.if-not-fit.false),
    )
