use Rattle.std.proofs.Common.{◌∙◌, ◌++◌, ◌∷◌, [], ap, arith, length, subst, sym, take}
use Rattle.std.proofs.lemmas.List.{length-take, take_all, take_more}
use Rattle.ba_lanes.proofs.LoadLemmas.{Loading, dealt_none, loading_more, loading_none, room_left}
use Rattle.ba_lanes.proofs.loads.load.Goals as goal

pub loop-loaded-init : goal.loop-loaded-init
loop-loaded-init g c = record { of = c.requires.of; loading = loading_none c.args.input.now c.args.passes.now c.requires.opened }

pub load-requires-clause-left : goal.load-requires-clause-left
load-requires-clause-left g c =
    let items = c.as_slice-loaded-items.result.now in
    let n = c.loop-loaded.loaded-index in
    let short = length-take n items in
    let below = c.loop-loaded-test.true in
    let long = ap length c.as_slice-loaded-items.ensures in
    room_left c.args.input.now (take n items) c.loop-loaded.passes c.loop-loaded.invariant.loading c.in_ok-template.template (omega (arith, short, below, long))

pub loop-loaded-preserved : goal.loop-loaded-preserved
loop-loaded-preserved g c =
    let items = c.as_slice-loaded-items.result.now in
    let n = c.loop-loaded.loaded-index in
    let template = c.in_ok-template.template in
    let input = c.args.input.now in
    let new = c.load.new.passes in
    record {
      of = c.load.ensures.of;
      loading = subst (λ z. Loading input z new)
          (sym (take_more items n c.loaded-item.result c.loop-loaded-test.true ∙ ap (λ z. take n items ++ z ∷ []) (sym c.loaded-item.is ∙ sym c.in_ok-template.ensures)))
          (loading_more input (take n items) c.loop-loaded.passes c.loop-loaded.invariant.loading template c.in_ok-load.field-0 new c.load.ensures.others c.in_ok-load.ensures.made);
    }

pub returns : goal.returns
returns g c =
    let items = c.as_slice-loaded-items.result.now in
    record {
      of = c.loop-loaded.invariant.of;
      dealt = dealt_none c.args.input.now c.loop-loaded.passes
          (subst (λ z. Loading c.args.input.now z c.loop-loaded.passes) (take_all c.loop-loaded.loaded-index items c.loop-loaded-test.false ∙ c.as_slice-loaded-items.ensures) c.loop-loaded.invariant.loading);
    }
