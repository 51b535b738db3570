use Rattle.std.proofs.Common.{map, string_bytes}
use Rattle.ba_input.specs.Reading.{plan_of}
use Rattle.ba_input.proofs.InputLemmas.{comes_memory, reads_command, reads_no_form}
use Rattle.ba_input.proofs.command.read_task.Goals as goal

pub returns-in-Ok-clause-reads : goal.returns-in-Ok-clause-reads
returns-in-Ok-clause-reads g c =
    let seen = g.F.Files.seen in
    reads_command (map string_bytes c.args.words.now) c.in-Ok.command (seen c.args.files.now) (seen c.read_command.new.files) c.read_command.result c.in-Ok.ensures.exact c.read_command.ensures.comes

pub returns-in-Err-Fault-NoForm-clause-reads : goal.returns-in-Err-Fault-NoForm-clause-reads
returns-in-Err-Fault-NoForm-clause-reads g c =
    let it = c.in-Err-Fault-NoForm in
    reads_no_form (map string_bytes c.args.words.now) it.field-0 it.field-0-0 (g.F.Files.seen c.args.files.now) it.field-0-is it.ensures.exact

pub returns-in-Err-NoMemory-clause-reads : goal.returns-in-Err-NoMemory-clause-reads
returns-in-Err-NoMemory-clause-reads g c = comes_memory (plan_of (map string_bytes c.args.words.now)) (g.F.Files.seen c.args.files.now)
