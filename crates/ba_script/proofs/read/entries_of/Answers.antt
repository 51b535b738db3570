use Rattle.std.proofs.Common.{rules, [], List, Err, subst, sym}
use Rattle.ba_model.specs.Readings.{Gives}
use Rattle.ba_script.specs.Reading.{entries_from}
use Rattle.ba_script.specs.Tracking.{Tracks}
use Rattle.ba_script.specs.declared.entry.ScriptEntry.{ScriptEntry}
use Rattle.ba_script.proofs.TrackingLemmas.{few_more, read_more, read_none, room_for, tracks_on}
use Rattle.ba_script.proofs.read.entries_of.Goals as goal

pub returns-in_err-entry : goal.returns-in_err-entry
returns-in_err-entry c =
    let before = c.loop-bytes in
    let fails : Gives {Y = List ScriptEntry} (Err c.in_err-entry.field-0.0) (entries_from c.args.params.now c.args.keys.now [] c.args.lines) =
    read_none c.args.params.now c.args.keys.now before.entries before.requests c.len.result c.in-Some.bytes.now c.next.new.self before.bytes-iterator c.in_err-entry.field-0.0 _
    before.invariant.0 c.len.ensures c.in-Some.ensures.steps c.in_err-entry.ensures.gives before.invariant.1
    in search rules

pub entry_at-requires : goal.entry_at-requires
entry_at-requires c =
    let before = c.loop-bytes in
    record { room = room_for before.entries before.requests c.in-Some.bytes.now c.next.new.self before.bytes-iterator before.invariant.0 c.in-Some.ensures.steps before.invariant.2 }

pub loop-bytes-preserved : goal.loop-bytes-preserved
loop-bytes-preserved c =
    let before = c.loop-bytes in (
      subst (λ (es : List ScriptEntry). Tracks es c.entry_at.new.requests) (sym c.in_ok-push.ensures.ok) (tracks_on before.entries c.in_ok-entry.entry before.requests c.entry_at.new.requests before.invariant.0 c.in_ok-entry.ensures.moves),
      read_more c.args.params.now c.args.keys.now before.entries c.push.new.self before.requests c.len.result c.in-Some.bytes.now c.next.new.self before.bytes-iterator c.in_ok-entry.entry _
          before.invariant.0 c.len.ensures c.in-Some.ensures.steps c.in_ok-entry.ensures.gives c.in_ok-push.ensures.ok before.invariant.1,
      few_more before.entries c.push.new.self c.in_ok-entry.entry c.in-Some.bytes.now c.next.new.self before.bytes-iterator c.in-Some.ensures.steps c.in_ok-push.ensures.ok before.invariant.2,
    )
