use Rattle.std.proofs.Common.{◌+◌, take, sym, subst}
use Rattle.std.specs.List.{AllZip}
use Rattle.ba_direct.proofs.ResultLemmas.{AllZip-more, all_covered, at_some, first_covers, first_is_strong}
use Rattle.ba_direct.specs.Cover.{IsCover, IsFirst}
use Rattle.ba_direct.proofs.search.cover.Goals as goal

pub loop-part-preserved : goal.loop-part-preserved
loop-part-preserved c =
    let one = at_some _ _ _ _ c.in-Some.is c.in_ok-found.ensures in
    subst (AllZip (IsFirst c.args.policy.now c.args.ctx.now) (take (c.loop-part.part-index + 1) c.as_slice-part-items.result.now)) (sym c.in_ok-push-in-Some.ensures.items)
    (AllZip-more _ _ _ _ _ _ c.loop-part-test.true c.part-item.is c.loop-part.invariant one)

pub returns-clause-exact : goal.returns-clause-exact
returns-clause-exact c =
    let first = all_covered c.args.policy.now c.args.ctx.now c.args.query.now _ _ _ c.as_slice-part-items.ensures c.loop-part-test.false c.loop-part.invariant in
    subst (λ parts. IsCover c.args.policy.now c.args.ctx.now c.args.query.now (record { parts = parts })) (sym c.from_vec.ensures) (first_covers _ _ _ _ first)

pub returns-clause-strong : goal.returns-clause-strong
returns-clause-strong c =
    first_is_strong _ _ _ _ (all_covered c.args.policy.now c.args.ctx.now c.args.query.now _ _ _ c.as_slice-part-items.ensures c.loop-part-test.false c.loop-part.invariant)
