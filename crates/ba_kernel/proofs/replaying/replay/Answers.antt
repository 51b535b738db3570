use Rattle.std.proofs.Common.{◌≡◌, false, true, sym, ◌∙◌}
use Rattle.std.proofs.lemmas.Iterator.Adapters.{YieldsList-from_vec}
use Rattle.std.proofs.lemmas.Iterator.Consumers.{YieldsList-end}
use Rattle.std.proofs.lemmas.List.{map-id}
use Rattle.std.proofs.lemmas.Result.{err_from_is_err_and}
use Rattle.ba_kernel.proofs.ReplayLemmas.{given_next, refused, stays_open}
use Rattle.ba_kernel.proofs.replaying.replay.Goals as goal

pub returns-in_err-search-2 : goal.returns-in_err-search-2
returns-in_err-search-2 c =
    let p = err_from_is_err_and c.from_residual-in_err-search-2.result c.from_residual-in_err-search-2.ensures.1 in
    let gave = c.into_iter-step-iterator.ensures.into_iter_gives in
    let whole = given_next c.args.steps c.into_vec-step-items.result.items c.loop-step.yielded c.into_iter-step-iterator.result c.loop-step.step-iterator c.next.new.self
    c.next.result c.in-Some.step c.into_vec-step-items.ensures gave.0 c.loop-step.yielded_by c.in-Some.is c.next.ensures.steps in
    rw (p.1, p.2)
    (refused c.loop-step.search c.args.problem c.args.steps c.loop-step.yielded _ c.in-Some.step _ c.loop-step.invariant.2 c.loop-step.invariant.3 whole
    c.in_err-search-2.ensures.fault)

pub returns : goal.returns
returns c =
    let gave = c.into_iter-step-iterator.ensures.into_iter_gives in
    let list = YieldsList-from_vec {s = c.into_iter-step-iterator.result} c.into_vec-step-items.result.items gave.0 (gave.1 ∙ c.into_vec-step-items.result.ok.0) in
    let end = YieldsList-end list c.loop-step.yielded c.loop-step.step-iterator c.loop-step.yielded_by c.next.result c.next.new.self c.in-None.is c.next.ensures.steps in
    let all : c.loop-step.yielded ≡ c.args.steps = sym (map-id c.loop-step.yielded) ∙ (end.0 ∙ c.into_vec-step-items.ensures) in
    stays_open c.loop-step.search c.args.problem c.args.steps c.loop-step.invariant.2 (c.loop-step.invariant.3 ∙ all) c.in-Err.ensures.course
    (λ closed. let wrong : false ≡ true = c.in-Err.ensures.exact.1 closed in cc)
