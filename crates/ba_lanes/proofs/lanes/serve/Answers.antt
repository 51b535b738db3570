use denote.Exit.{yes}
use denote.Param.{param}
use denote.Param.Send.{arg_send, param_send}
use Rattle.std.proofs.Common.{◌∙◌, ℕ, [], ap, arith, get_or, length, refl, subst}
use Rattle.std.proofs.lemmas.List.{length-map}
use Rattle.ba_lanes.proofs.Crossing.{work_send}
use Rattle.ba_lanes.proofs.HeadlineLemmas.{headline}
use Rattle.ba_lanes.proofs.LegalLemmas.{legal, whole}
use Rattle.ba_lanes.proofs.ServeLemmas.{as_many, same_length}
use Rattle.ba_lanes.proofs.WorkLemmas.{done_by, off_done, some_of}
use Rattle.ba_lanes.specs.Legal.{LineDone}
use Rattle.ba_lanes.specs.Serving.{lines_in}
use Rattle.ba_session.specs.Passing.{IsOpened}
use Rattle.ba_lanes.proofs.lanes.serve.Goals as goal

pub fan_out-works-requires-send-J : goal.fan_out-works-requires-send-J
fan_out-works-requires-send-J g c κs within = param_send 0 _ (arg_send _ yes _ (work_send _ (param 0 g.row.R) (param 2 g.row.S) c.type_bounds.sync-R c.type_bounds.sync-S))

pub load-requires-clause-opened : goal.load-requires-clause-opened
load-requires-clause-opened g c =
    let all = c.of_run-all.ensures in
    subst (λ (z : ℕ × ℕ). IsOpened z.0 z.1 c.in_ok-service.passes) (λ i. (all.calls i, all.looks i)) c.in_ok-service.ensures.known

pub join-requires-clause-split : goal.join-requires-clause-split
join-requires-clause-split g c =
    let many = c.in_ok-works.ensures.many in
    let ok = c.in_ok-works.works.ok.0 in
    off_done c.args.input.now c.in_ok-works.works.items c.fan_out-works.result.items c.split.new.passes c.in_ok-works.ensures.split (λ k d low. (c.fan_out-works.ensures.done k d (omega (arith, many, ok, low))).1)

pub join-requires-clause-done : goal.join-requires-clause-done
join-requires-clause-done g c = λ k d low.
    let many = c.in_ok-works.ensures.many in
    let ok = c.in_ok-works.works.ok.0 in
    done_by g.S.Settle.orders c.args.input.now c.in_ok-service.service k (get_or c.in_ok-works.works.items k d) (get_or c.fan_out-works.result.items k d) (c.in_ok-works.ensures.ready k d low)
    (c.fan_out-works.ensures.done k d (omega (arith, many, ok, low))).0

pub merge-requires-clause-long : goal.merge-requires-clause-long
merge-requires-clause-long g c = λ k d low.
    let input = c.args.input.now in
    let all = c.in_ok-queues.ensures.gathered d in
    ap length (all.entries k low) ∙ length-map (all.done k) (λ (it : LineDone). it.entry) ∙ same_length input [] (lines_in input k input.script.entries) (all.done k) (all.lines k low)

pub close-requires-clause-all : goal.close-requires-clause-all
close-requires-clause-all g c =
    let many = c.in_ok-queues.ensures.many in
    let some = c.requires.input.workers.0 in
    let d = some_of c.in_ok-queues.queues.items (omega (arith, many, some)) in
    whole c.args.input.now c.in_ok-service.service _ c.join.new.passes (c.in_ok-queues.ensures.gathered d) c.in_ok-queues.ensures.of

pub returns-clause-legal : goal.returns-clause-legal
returns-clause-legal g c =
    let input = c.args.input.now in
    let many = c.in_ok-queues.ensures.many in
    let some = c.requires.input.workers.0 in
    let d = some_of c.in_ok-queues.queues.items (omega (arith, many, some)) in
    legal input c.in_ok-service.service _ c.join.new.passes (c.in_ok-queues.ensures.gathered d) c.requires.input c.in_ok-entries.entries.items (c.in_ok-entries.ensures d) c.in_ok-histories.histories c.in_ok-histories.ensures
    (c.in_ok-service.ensures.opening ∙ c.in_ok-tables.ensures) _ c.from_vec.ensures refl

pub returns-clause-headline : goal.returns-clause-headline
returns-clause-headline g c = headline c.args.input.now _ (returns-clause-legal g c)

pub returns-clause-many : goal.returns-clause-many
returns-clause-many g c = as_many c.args.input.now _ (returns-clause-legal g c)
