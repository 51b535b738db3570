use Rattle.std.proofs.Common.{IfSome, ap, subst}
use Rattle.ba_judge.proofs.JudgeLemmas.{alone_allowed, alone_blocked, first_allowed, first_blocked, parts_allowed, uncovered, whole_after}
use Rattle.ba_judge.specs.Shelves.{standing_for}
use Rattle.ba_judge.specs.declared.shelves.Shelves.{Shelves}
use Rattle.ba_judge.proofs.UnionLemmas.{by_parts}
use Rattle.ba_judge.specs.Judging.{IsByParts, effort_in, seen}
use Rattle.ba_judge.specs.declared.verdict.Allowed.TheVariants.{Whole}
use Rattle.ba_judge.specs.declared.verdict.By.{By}
use Rattle.ba_judge.specs.declared.verdict.Judgement.TheVariants as judged
use Rattle.std.specs.Prelude.{List, Option}
use Rattle.ba_judge.specs.Shelves.Learns.{both}
use Rattle.ba_judge.proofs.union.judge_once.Goals as goal

pub returns-in-Some-each-clause-judges : goal.returns-in-Some-each-clause-judges
returns-in-Some-each-clause-judges g c =
    let asked = seen c.args.asked.now in
    let effort = effort_in (g.S.Settle.orders c.args.settle.now) c.args.budget in
    by_parts c.union_is_strong.ensures asked effort c.in-Some-each.grounds
    (uncovered asked c.deref.result.now c.deref-2.result.now c.deref.ensures c.deref-2.ensures c.in_ok-covered.covered c.in_default.is c.in_ok-covered.ensures.exact)
    (subst (λ (o : Option (List By)). IfSome o (IsByParts asked effort)) c.in-Some-each.is c.in_ok-each.ensures.parts)

pub returns-in-Allow-clause-first : goal.returns-in-Allow-clause-first
returns-in-Allow-clause-first g c = λ one.
    let query = c.args.asked.now.query.now in
    first_allowed (seen c.args.asked.now) (standing_for c.each_allowed.new.shelves query) (standing_for c.args.shelves.now query) c.in_ok-finding.finding c.in-Allow.by c.in_ok-finding.ensures.first c.in-Allow.is
    (ap (λ (it : Shelves). standing_for it query) (c.in_ok-each.ensures.one one))

pub returns-in-Deny-clause-first : goal.returns-in-Deny-clause-first
returns-in-Deny-clause-first g c = λ one.
    let query = c.args.asked.now.query.now in
    first_blocked (seen c.args.asked.now) (standing_for c.each_allowed.new.shelves query) (standing_for c.args.shelves.now query) c.in_ok-finding.finding c.in-Deny.reason c.in_ok-finding.ensures.first c.in-Deny.is
    (ap (λ (it : Shelves). standing_for it query) (c.in_ok-each.ensures.one one))

pub returns-in-Allow-clause-parts : goal.returns-in-Allow-clause-parts
returns-in-Allow-clause-parts g c = λ several.
    let asked = seen c.args.asked.now in
    let effort = effort_in (g.S.Settle.orders c.args.settle.now) c.args.budget in
    let old = c.args.shelves.now in
    let now = c.each_allowed.new.shelves in
    parts_allowed asked effort old c.in-Allow.by
    (whole_after asked effort old now (judged.Allowed (Whole c.in-Allow.by)) (c.in_ok-each.ensures.blocked c.in_default-each.is several) c.each_allowed.ensures.learns
    (alone_allowed asked (standing_for now asked.query) c.in_ok-finding.finding c.in-Allow.by c.in_ok-finding.ensures.first c.in-Allow.is))

pub returns-in-Deny-clause-parts : goal.returns-in-Deny-clause-parts
returns-in-Deny-clause-parts g c = λ several.
    let asked = seen c.args.asked.now in
    let effort = effort_in (g.S.Settle.orders c.args.settle.now) c.args.budget in
    let old = c.args.shelves.now in
    let now = c.each_allowed.new.shelves in
    whole_after asked effort old now (judged.Blocked c.in-Deny.reason) (c.in_ok-each.ensures.blocked c.in_default-each.is several) c.each_allowed.ensures.learns
    (alone_blocked asked (standing_for now asked.query) c.in_ok-finding.finding c.in-Deny.reason c.in_ok-finding.ensures.first c.in-Deny.is)

pub returns-in_err-finding-clause-learns : goal.returns-in_err-finding-clause-learns
returns-in_err-finding-clause-learns g c = both c.each_allowed.ensures.learns c.conclude.ensures.learns

pub returns-in-Allow-clause-learns : goal.returns-in-Allow-clause-learns
returns-in-Allow-clause-learns g c = both c.each_allowed.ensures.learns c.conclude.ensures.learns

pub returns-in-Deny-clause-learns : goal.returns-in-Deny-clause-learns
returns-in-Deny-clause-learns g c = both c.each_allowed.ensures.learns c.conclude.ensures.learns
