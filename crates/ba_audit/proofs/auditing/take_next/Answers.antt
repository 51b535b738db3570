use Rattle.std.proofs.Common.{arith}
use Rattle.ba_audit.proofs.EndLemmas.{next_fault, next_missing, next_ok}
use Rattle.ba_audit.proofs.auditing.take_next.Goals as goal

pub overflow_add-number : goal.overflow_add-number
overflow_add-number c = omega (arith, c.requires.within, c.requires.few)

pub returns-in-Some-clause-ok : goal.returns-in-Some-clause-ok
returns-in-Some-clause-ok c = λ it of reached.
    next_ok it c.args.against.now c.args.ended c.args.script.now.entries of c.args.i c.get-entry.result.now c.get-entry.ensures c.args.told.now c.in-Some.bytes.now c.args.lines.now c.next.new.self c.in-Some.ensures.steps reached
    c.take_line-taken.new.told c.take_line-taken.result c.located.result c.located.ensures c.take_line-taken.ensures.ok

pub returns-in-Some-clause-fault : goal.returns-in-Some-clause-fault
returns-in-Some-clause-fault c = λ it of reached.
    next_fault it c.args.against.now c.args.ended c.args.script.now.entries of c.args.i c.get-entry.result.now c.get-entry.ensures c.args.told.now c.in-Some.bytes.now c.args.lines.now c.next.new.self c.in-Some.ensures.steps reached
    c.take_line-taken.result c.located.result c.located.ensures c.take_line-taken.ensures.fault

pub returns-in-None-clause-fault : goal.returns-in-None-clause-fault
returns-in-None-clause-fault c = λ it of reached.
    next_missing it c.args.against.now c.args.ended c.args.script.now.entries of c.args.i c.get-entry.result.now c.get-entry.ensures c.args.told.now c.args.lines.now c.in-None.ensures.steps.0 reached
