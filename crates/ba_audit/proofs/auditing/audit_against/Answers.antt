use Rattle.ba_audit.specs.Audits.{feeds}
use Rattle.ba_audit.specs.Keeping.{output_at}
use Rattle.ba_audit.proofs.EndLemmas.{of_ended, reached_last, reached_start, told_audited}
use Rattle.ba_audit.proofs.auditing.audit_against.Goals as goal

pub loop-i-init : goal.loop-i-init
loop-i-init c = reached_start (output_at c.args.against.now c.args.script.now c.args.bytes.now) c.printed_lines-lines.result c.new-told.result c.printed_lines-lines.ensures c.new-told.ensures

pub returns-in-Err-clause-fault : goal.returns-in-Err-clause-fault
returns-in-Err-clause-fault c =
    let it = output_at c.args.against.now c.args.script.now c.args.bytes.now in
    c.in-Err.ensures.fault it (of_ended it c.args.against.now c.feeds-ended.result (feeds c.args.bytes.now) c.args.script.now.entries c.feeds-ended.ensures c.requires.of) c.loop-i.invariant

pub returns-in-Ok-take_last-clause-audited : goal.returns-in-Ok-take_last-clause-audited
returns-in-Ok-take_last-clause-audited c =
    let it = output_at c.args.against.now c.args.script.now c.args.bytes.now in
    told_audited it c.loop-i.told c.len-last.result c.len-last.ensures
    (c.in-Ok-take_last.ensures.ok it (of_ended it c.args.against.now c.feeds-ended.result (feeds c.args.bytes.now) c.args.script.now.entries c.feeds-ended.ensures c.requires.of) c.len-last.ensures
    (reached_last it c.loop-i.i c.len-last.result c.loop-i.auto.i-end c.loop-i-test.false c.loop-i.lines c.loop-i.told c.loop-i.invariant))

pub returns-in-Ok-take_last-clause-sound : goal.returns-in-Ok-take_last-clause-sound
returns-in-Ok-take_last-clause-sound c =
    let it = output_at c.args.against.now c.args.script.now c.args.bytes.now in
    (c.in-Ok-take_last.ensures.ok it (of_ended it c.args.against.now c.feeds-ended.result (feeds c.args.bytes.now) c.args.script.now.entries c.feeds-ended.ensures c.requires.of) c.len-last.ensures
    (reached_last it c.loop-i.i c.len-last.result c.loop-i.auto.i-end c.loop-i-test.false c.loop-i.lines c.loop-i.told c.loop-i.invariant)).sound

pub returns-clause-fault : goal.returns-clause-fault
returns-clause-fault c =
    let it = output_at c.args.against.now c.args.script.now c.args.bytes.now in
    c.in-Err-take_last.ensures.fault it (of_ended it c.args.against.now c.feeds-ended.result (feeds c.args.bytes.now) c.args.script.now.entries c.feeds-ended.ensures c.requires.of) c.len-last.ensures
    (reached_last it c.loop-i.i c.len-last.result c.loop-i.auto.i-end c.loop-i-test.false c.loop-i.lines c.loop-i.told c.loop-i.invariant)
