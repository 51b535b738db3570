use Rattle.std.proofs.Common.{◌≤◌, length, subst, arith, rules}
use Rattle.ba_match.proofs.ConditionLemmas.{none_known}
use Rattle.ba_match.proofs.OrderLemmas.{none_at_all}
use Rattle.ba_match.proofs.RowLemmas.{entry_hopeless, row_found, row_hopeless, row_left, rows_passed}
use Rattle.ba_match.specs.Searches.{IsRest}
use Rattle.ba_match.proofs.matching.Search.+places.Goals as goal

pub find-returns-then-not-may_hold : goal.find-returns-then-not-may_hold
find-returns-then-not-may_hold t c =
    none_known c.args.self.now.problem.now c.args.self.now.ctx.now c.args.self.now.trace.now c.args.entries.now c.args.bound.now c.as_slice.result.now c.may_hold.result
    c.as_slice.ensures c.may_hold.ensures.1 c.if-not-may_hold.true

pub find-returns : goal.find-returns
find-returns t c =
    λ m is.
    none_at_all c.args.self.now.problem.now c.args.self.now.ctx.now c.args.self.now.trace.now c.in-Some.entry.now c.in-Some.rest.now c.args.bound.now c.loop-t.t
    (let past : length c.args.self.now.trace.now ≤ c.loop-t.t = omega (arith, c.len-t-end.ensures) in past) c.loop-t.invariant m
    (subst (λ es. IsRest c.args.self.now.problem.now c.args.self.now.ctx.now c.args.self.now.trace.now es c.args.bound.now m) c.in-Some.ensures.cases.0 is)

pub find_by-returns-then-not-may_hold : goal.find_by-returns-then-not-may_hold
find_by-returns-then-not-may_hold t c =
    entry_hopeless c.args.self.now.problem.now c.args.self.now.ctx.now c.args.self.now.trace.now c.args.entry.now c.args.rest.now c.args.bound.now c.args.t c.entry-told.result.now c.entry-told.ensures c.in_ok-asked.asked c.in_ok-asked.ensures c.in-Some.asked c.in-Some.is
    c.as_slice.result.now c.may_hold.result c.as_slice.ensures c.may_hold.ensures.1 c.if-not-may_hold.true c.requires.none

pub find_by-find-requires : goal.find_by-find-requires
find_by-find-requires t c = (
  search rules,
  row_left c.args.self.now.problem.now c.args.self.now.ctx.now c.args.self.now.trace.now c.args.entry.now c.args.rest.now c.args.bound.now c.args.t c.entry-told.result.now c.entry-told.ensures c.in_ok-asked.asked c.in_ok-asked.ensures
      c.in-Some.asked c.in-Some.is c.loop-r.r c.deref-in-loop-r.result.now c.get.result.now c.as_slice-in-loop-r.result.now c.deref-in-loop-r.ensures c.get.ensures c.as_slice-in-loop-r.ensures c.in_ok-given.given c.in_ok-given.ensures c.in-Some-given.given c.in-Some-given.is c.requires.left,
)

pub find_by-returns-in-Some-found : goal.find_by-returns-in-Some-found
find_by-returns-in-Some-found t c =
    row_found c.args.self.now.problem.now c.args.self.now.ctx.now c.args.self.now.trace.now c.args.entry.now c.args.rest.now c.args.bound.now c.args.t c.entry-told.result.now c.entry-told.ensures c.in_ok-asked.asked c.in_ok-asked.ensures
    c.in-Some.asked c.in-Some.is c.loop-r.r c.deref-in-loop-r.result.now c.get.result.now c.as_slice-in-loop-r.result.now c.deref-in-loop-r.ensures c.get.ensures c.as_slice-in-loop-r.ensures c.in_ok-given.given c.in_ok-given.ensures c.in-Some-given.given c.in-Some-given.is c.in_ok-found.found c.in-Some-found.found
    c.in_ok-at_place.field-0 c.in-Some-found.is c.in_ok-found.ensures c.loop-r.invariant c.in_ok-at_place.ensures

pub find_by-loop-r-preserved : goal.find_by-loop-r-preserved
find_by-loop-r-preserved t c =
    row_hopeless c.args.self.now.problem.now c.args.self.now.ctx.now c.args.self.now.trace.now c.args.entry.now c.args.rest.now c.args.bound.now c.args.t c.entry-told.result.now c.entry-told.ensures c.in_ok-asked.asked c.in_ok-asked.ensures
    c.in-Some.asked c.in-Some.is c.loop-r.r c.deref-in-loop-r.result.now c.get.result.now c.as_slice-in-loop-r.result.now c.deref-in-loop-r.ensures c.get.ensures c.as_slice-in-loop-r.ensures c.in_ok-given.given c.in_ok-given.ensures c.in-Some-given.given c.in-Some-given.is c.in_ok-found.found c.in_default-found.is
    c.in_ok-found.ensures c.loop-r.invariant

pub find_by-returns : goal.find_by-returns
find_by-returns t c =
    rows_passed c.args.self.now.problem.now c.args.self.now.ctx.now c.args.self.now.trace.now c.args.entry.now c.args.rest.now c.args.bound.now c.args.t c.entry-told.result.now c.entry-told.ensures c.in_ok-asked.asked c.in_ok-asked.ensures c.deref.result.now c.len-r-end.result c.loop-r.r c.deref.ensures
    c.len-r-end.ensures (let past : c.len-r-end.result ≤ c.loop-r.r = omega arith in past) c.loop-r.invariant
