use Rattle.std.proofs.Common.{◌∙◌, ap, subst}
use Rattle.ba_judge.proofs.UnionLemmas.{blocked_at, part_allowed, part_first, part_there, parts_more, with_query}
use Rattle.ba_judge.specs.Judging.{IsAllowedBy, IsBlocked, ServesAlone, ServesFirstSince, effort_in, part_of, seen}
use Rattle.ba_judge.specs.Shelves.{standing_for}
use Rattle.ba_judge.specs.declared.verdict.Allowed.TheVariants.{Whole}
use Rattle.ba_judge.specs.declared.verdict.By.{By}
use Rattle.ba_judge.specs.declared.verdict.Judgement.TheVariants as judged
use Rattle.ba_model.specs.declared.query.Query.{Query}
use Rattle.std.specs.Prelude.{MatchOption, Option}
use Rattle.ba_judge.specs.Shelves.Learns.{both}
use Rattle.ba_judge.proofs.union.each_allowed.Goals as goal

pub loop-part-preserved : goal.loop-part-preserved
loop-part-preserved g c =
    let asked = seen c.args.asked.now in
    let effort = effort_in (g.S.Settle.orders c.args.settle.now) c.args.budget in
    let query = c.in_ok-query.query in
    let own = subst (λ (o : Option By). MatchOption o (IsBlocked (with_query asked query) effort) (IsAllowedBy (with_query asked query) effort)) c.in-Some.is c.in_ok-allowed.ensures.allowed in
    let first = subst (ServesAlone (with_query asked query) (standing_for c.loop-part.shelves query)) c.in-Some.is c.in_ok-allowed.ensures.first in
    let same = c.in_ok-query.ensures ∙ c.in_ok-alone.ensures in
    let more_is = c.in_ok-push-in-Some.ensures.ok in
    record {
      allowed =
          parts_more (λ part by. IsAllowedBy (part_of asked part) effort by) c.as_slice-part-items.result.now c.loop-part.part-index c.part-item.result c.loop-part-test.true c.part-item.is c.loop-part.grounds c.push.new.self
          c.in-Some.by c.loop-part.invariant.allowed (part_allowed asked effort c.part-item.result query c.in-Some.by same own) more_is;
      first =
          parts_more (λ part by. ServesFirstSince (part_of asked part) c.args.shelves.now (judged.Allowed (Whole by))) c.as_slice-part-items.result.now c.loop-part.part-index c.part-item.result c.loop-part-test.true c.part-item.is
          c.loop-part.grounds c.push.new.self c.in-Some.by c.loop-part.invariant.first
          (part_first asked c.args.shelves.now c.loop-part.shelves c.part-item.result query (judged.Allowed (Whole c.in-Some.by)) same c.loop-part.invariant.learns first) more_is;
      learns = both c.loop-part.invariant.learns c.allowed_alone.ensures.learns;
    }

pub returns-in-None-clause-blocked : goal.returns-in-None-clause-blocked
returns-in-None-clause-blocked g c = λ none several.
    let asked = seen c.args.asked.now in
    let effort = effort_in (g.S.Settle.orders c.args.settle.now) c.args.budget in
    let query = c.in_ok-query.query in
    let parts_are = c.as_slice-part-items.ensures ∙ ap (λ (q : Query). q.parts) c.deref-2.ensures in
    let own = subst (λ (o : Option By). MatchOption o (IsBlocked (with_query asked query) effort) (IsAllowedBy (with_query asked query) effort)) c.in-None.is c.in_ok-allowed.ensures.allowed in
    let first = subst (ServesAlone (with_query asked query) (standing_for c.loop-part.shelves query)) c.in-None.is c.in_ok-allowed.ensures.first in
    blocked_at asked effort c.args.shelves.now c.loop-part.shelves c.part-item.result query
    (part_there asked.query.parts c.as_slice-part-items.result.now c.loop-part.part-index c.part-item.result parts_are c.loop-part-test.true c.part-item.is)
    (c.in_ok-query.ensures ∙ c.in_ok-alone.ensures) own c.loop-part.invariant.learns first

pub returns-in_err-alone-clause-learns : goal.returns-in_err-alone-clause-learns
returns-in_err-alone-clause-learns g c = c.loop-part.invariant.learns

pub returns-in_err-query-clause-learns : goal.returns-in_err-query-clause-learns
returns-in_err-query-clause-learns g c = c.loop-part.invariant.learns

pub returns-clause-learns : goal.returns-clause-learns
returns-clause-learns g c = c.loop-part.invariant.learns

pub returns-in_err-allowed-clause-learns : goal.returns-in_err-allowed-clause-learns
returns-in_err-allowed-clause-learns g c = both c.loop-part.invariant.learns c.allowed_alone.ensures.learns

pub returns-in_err-push-in-Some-clause-learns : goal.returns-in_err-push-in-Some-clause-learns
returns-in_err-push-in-Some-clause-learns g c = both c.loop-part.invariant.learns c.allowed_alone.ensures.learns

pub returns-in-None-clause-learns : goal.returns-in-None-clause-learns
returns-in-None-clause-learns g c = both c.loop-part.invariant.learns c.allowed_alone.ensures.learns
