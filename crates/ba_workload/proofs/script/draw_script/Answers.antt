use Rattle.std.proofs.Common.{◌∙◌, refl, sym}
use Rattle.ba_workload.proofs.ListLemmas.{all-none, all_put_from_none, request_drawn, two-on}
use Rattle.ba_workload.specs.Script.{entries_of, request_entries}
use Rattle.ba_workload.proofs.script.draw_script.Goals as goal

pub loop-number-init : goal.loop-number-init
loop-number-init c = record { state = refl; entries = c.new-entries.ensures ∙ sym (all-none (entries_of c.args.seed) 0) }

pub loop-number-preserved : goal.loop-number-preserved
loop-number-preserved c =
    let user = c.choose-choice.result.user in
    let event = c.choose-choice.result.event in
    record {
      state = two-on c.args.seed c.loop-number.number c.loop-number.draws.state c.choose-choice.new.draws.state c.choose-choice.ensures.state c.loop-number.invariant.state;
      entries = all_put_from_none (entries_of c.args.seed) c.loop-number.number c.loop-number.entries c.add_request.new.entries (request_entries c.loop-number.number user event)
          c.in_ok-add_request.ensures c.loop-number.invariant.entries
          (request_drawn c.args.seed c.loop-number.number c.loop-number.draws.state user event c.loop-number.invariant.state c.choose-choice.ensures.user c.choose-choice.ensures.event);
    }
