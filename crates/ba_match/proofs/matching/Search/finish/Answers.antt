use Rattle.ba_match.proofs.FinishLemmas.{condition_refused, condition_told, finished, kinds_refused, kinds_told}
use Rattle.ba_match.proofs.matching.Search.finish.Goals as goal

pub returns-then-not-are_of_kinds : goal.returns-then-not-are_of_kinds
returns-then-not-are_of_kinds c =
    kinds_refused c.args.self.now.problem.now c.args.self.now.ctx.now c.args.self.now.trace.now c.args.bound.now c.in_ok-values.values c.in-Some.values
    c.in_ok-values.ensures c.in-Some.is c.as_slice.result.now c.as_slice-2.result.now c.as_slice.ensures c.as_slice-2.ensures c.are_of_kinds.result
    c.are_of_kinds.ensures.1 c.if-not-are_of_kinds.true

pub returns-then-not-all_hold : goal.returns-then-not-all_hold
returns-then-not-all_hold c =
    condition_refused c.args.self.now.problem.now c.args.self.now.ctx.now c.args.self.now.trace.now c.args.bound.now c.in_ok-values.values c.in-Some.values
    c.in_ok-values.ensures c.in-Some.is c.as_slice-4.result.now c.as_slice-3.result.now c.as_slice-4.ensures c.as_slice-3.ensures c.all_hold.result
    c.all_hold.ensures.1 c.if-not-all_hold.true

pub returns : goal.returns
returns c =
    finished c.args.self.now.problem.now c.args.self.now.ctx.now c.args.self.now.trace.now c.args.bound.now c.in_ok-values.values c.in-Some.values c.in_ok-values.ensures
    c.in-Some.is c.new.result c.new.ensures
    (kinds_told c.args.self.now.problem.now c.args.self.now.ctx.now c.args.self.now.trace.now c.args.bound.now c.in_ok-values.values c.in-Some.values
    c.in_ok-values.ensures c.in-Some.is c.as_slice.result.now c.as_slice-2.result.now c.as_slice.ensures c.as_slice-2.ensures c.are_of_kinds.result
    c.are_of_kinds.ensures.0 c.if-not-are_of_kinds.false)
    (condition_told c.args.self.now.problem.now c.args.self.now.ctx.now c.args.self.now.trace.now c.args.bound.now c.in_ok-values.values c.in-Some.values
    c.in_ok-values.ensures c.in-Some.is c.as_slice-4.result.now c.as_slice-3.result.now c.as_slice-4.ensures c.as_slice-3.ensures c.all_hold.result
    c.all_hold.ensures.0 c.if-not-all_hold.false)
