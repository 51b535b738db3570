use Rattle.std.proofs.Common.{◌≡◌, ◌∙◌, ◌+◌, ◌≤◌, ap, arith, length, subst}
use Rattle.ba_instant.proofs.NextLemmas.{ends_of, may_close, may_saturate, none_waits, searches_start}
use Rattle.ba_instant.specs.Nexts.{IsNext}
use Rattle.ba_instant.proofs.ends.settle_in.Goals as goal

pub loop-taken-init : goal.loop-taken-init
loop-taken-init c = record {
  problem = c.in_ok-search.ensures.problem;
  searches = searches_start c.args.pick c.in_ok-search.search c.args.problem c.in_ok-search.ensures.problem c.in_ok-search.ensures.steps c.in_ok-search.ensures.slots;
  waiting = none_waits c.args.pick c.in_ok-search.search c.in_ok-waiting.waiting c.in_ok-waiting.ensures.below c.in_ok-waiting.ensures.agenda c.in_ok-waiting.ensures.next c.in_ok-waiting.ensures.memory;
  count = ap length c.in_ok-search.ensures.steps;
}

pub loop-taken-preserved : goal.loop-taken-preserved
loop-taken-preserved c =
    let moved = c.in_ok-then-in-Take.ensures in
    record {
      problem = moved.problem ∙ c.loop-taken.invariant.problem;
      searches = moved.searches;
      waiting = moved.waiting_;
      count = (let e : length c.in_ok-then-in-Take.then.steps ≡ c.loop-taken._taken + 1 = omega (arith, moved.count, c.loop-taken.invariant.count) in e);
    }

pub returns-in-Saturated : goal.returns-in-Saturated
returns-in-Saturated c =
    let few : length c.loop-taken.search.steps ≤ c.args.budget = omega (arith, c.loop-taken.invariant.count, c.loop-taken-test.true) in
    may_saturate c.args.pick c.args.budget c.loop-taken.search c.args.problem c.loop-taken.invariant.problem c.loop-taken.invariant.searches c.in-Saturated.number
    c.saturated.result (subst (IsNext c.args.pick c.loop-taken.search) c.in-Saturated.is c.in_ok-next.ensures.next) few c.saturated.ensures

pub returns-in-Closed : goal.returns-in-Closed
returns-in-Closed c =
    let few : length c.loop-taken.search.steps ≤ c.args.budget = omega (arith, c.loop-taken.invariant.count, c.loop-taken-test.true) in
    may_close c.args.pick c.args.budget c.loop-taken.search c.args.problem c.loop-taken.invariant.problem c.loop-taken.invariant.searches c.closed.result
    (subst (IsNext c.args.pick c.loop-taken.search) c.in-Closed.is c.in_ok-next.ensures.next) few c.closed.ensures

pub returns : goal.returns
returns c =
    let spent : length c.loop-taken.search.steps ≡ c.args.budget = omega (arith, c.loop-taken.invariant.count, c.loop-taken-test.false, c.loop-taken.auto._taken-end) in
    ends_of c.args.pick c.args.budget c.loop-taken.search c.args.problem c.loop-taken.invariant.problem spent c.end.result c.end.ensures
