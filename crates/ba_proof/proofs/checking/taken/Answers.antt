use Rattle.std.proofs.Common.{◌≡◌, false, true, sym, ap, ◌∙◌}
use Rattle.std.proofs.lemmas.Iterator.Adapters.{YieldsList-from_vec}
use Rattle.std.proofs.lemmas.Iterator.Consumers.{YieldsList-end}
use Rattle.std.proofs.lemmas.List.{map-id}
use Rattle.std.proofs.lemmas.Result.{err_from_is_err_and}
use Rattle.ba_kernel.proofs.ReplayLemmas.{given_next}
use Rattle.ba_kernel.specs.SearchStates.{Course}
use Rattle.ba_proof.specs.Checked.{open_count}
use Rattle.ba_proof.proofs.CheckLemmas.{refused, stays_open}
use Rattle.ba_proof.proofs.checking.taken.Goals as goal

pub returns-in_err-take_next : goal.returns-in_err-take_next
returns-in_err-take_next c =
    let p = err_from_is_err_and c.from_residual-in_err-take_next.result c.from_residual-in_err-take_next.ensures.1 in
    let gave = c.into_iter-step-iterator.ensures.into_iter_gives in
    let whole = given_next c.args.proof.steps c.into_vec-step-items.result.items c.loop-step.yielded c.into_iter-step-iterator.result c.loop-step.step-iterator c.next.new.self
    c.next.result c.in-Some.step c.into_vec-step-items.ensures gave.0 c.loop-step.yielded_by c.in-Some.is c.next.ensures.steps in
    rw (p.1, p.2)
    (refused c.loop-step.search c.args.proof.problem c.args.proof.steps c.loop-step.yielded _ c.in-Some.step _ c.loop-step.invariant.2 c.loop-step.invariant.3 whole
    c.in_err-take_next.ensures.fault)

pub returns-in-Err : goal.returns-in-Err
returns-in-Err c =
    let gave = c.into_iter-step-iterator.ensures.into_iter_gives in
    let list = YieldsList-from_vec {s = c.into_iter-step-iterator.result} c.into_vec-step-items.result.items gave.0 (gave.1 ∙ c.into_vec-step-items.result.ok.0) in
    let end = YieldsList-end list c.loop-step.yielded c.loop-step.step-iterator c.loop-step.yielded_by c.next.result c.next.new.self c.in-None.is c.next.ensures.steps in
    let all : c.loop-step.yielded ≡ c.args.proof.steps = sym (map-id c.loop-step.yielded) ∙ (end.0 ∙ c.into_vec-step-items.ensures) in
    stays_open c.loop-step.search c.args.proof.problem c.args.proof.steps c.open_count-branches.result c.loop-step.invariant.2 (c.loop-step.invariant.3 ∙ all) c.in-Err.ensures.course
    (λ closed. let wrong : false ≡ true = c.in-Err.ensures.exact.1 closed in cc) (c.open_count-branches.ensures ∙ ap (λ (it : Course). open_count it.slots) c.in-Err.ensures.err)
