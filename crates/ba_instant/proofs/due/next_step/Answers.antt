use Rattle.std.proofs.Common.{◌≤◌, arith, length, subst}
use Rattle.std.proofs.lemmas.Grind.{common_steps}
use Rattle.ba_instant.proofs.NextLemmas.{all_closed, all_taken, news_more}
use Rattle.ba_instant.specs.Nexts.{IsFirstBelow, IsLooked, PassesBranch}
use Rattle.ba_instant.proofs.due.next_step.Goals as goal

pub loop-number-preserved : goal.loop-number-preserved
loop-number-preserved c =
    let passes : PassesBranch c.args.pick c.args.search.now c.loop-number.number c.loop-number.first c.look_at.new.first =
    subst (λ it. IsLooked c.args.pick c.args.search.now c.loop-number.number it c.loop-number.first c.look_at.new.first) c.if-saturated.false c.in_ok-saturated.ensures.looked in
    record {
      news = news_more c.args.pick c.args.search.now c.loop-number.number c.loop-number.first c.look_at.new.first passes c.loop-number.invariant.news;
      first = passes.first c.loop-number.invariant.first;
      waiting = c.in_ok-saturated.ensures.waiting;
    }

pub returns-in-Some : goal.returns-in-Some
returns-in-Some c =
    let past : length c.args.search.now.slots ≤ c.loop-number.number = grind (arith, common_steps) in
    record {
      next = all_taken c.args.pick c.args.search.now c.loop-number.number c.in-Some.due past c.loop-number.invariant.news
          (subst (IsFirstBelow c.args.pick c.args.search.now c.loop-number.number) c.in-Some.is c.loop-number.invariant.first);
      waiting = c.loop-number.invariant.waiting;
    }

pub returns-in-None : goal.returns-in-None
returns-in-None c =
    let past : length c.args.search.now.slots ≤ c.loop-number.number = grind (arith, common_steps) in
    record {
      next = all_closed c.args.pick c.args.search.now c.loop-number.number past
          (subst (IsFirstBelow c.args.pick c.args.search.now c.loop-number.number) c.in-None.is c.loop-number.invariant.first);
      waiting = c.loop-number.invariant.waiting;
    }
