use Rattle.std.proofs.lemmas.Str.{IsUtf8-string_bytes}
use Rattle.ba_plan.proofs.SendingLines.{lines_no_memory}
use Rattle.ba_top.proofs.ProofsLemmas.{if_ok_all, total_written}
use Rattle.ba_top.proofs.print.print_summary.Goals as goal

pub returns-in_default-clause-sent : goal.returns-in_default-clause-sent
returns-in_default-clause-sent g c = lines_no_memory (Unit {0}) _ _

pub returns-clause-written : goal.returns-clause-written
returns-clause-written g c =
    if_ok_all _ c.send.result (total_written c.args.journal.now.entries _ c.in-Ok.ensures.text (IsUtf8-string_bytes c.in-Ok.text) c.in-Ok.ensures.reads_back)
