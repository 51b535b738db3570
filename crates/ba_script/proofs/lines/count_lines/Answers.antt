use Rattle.std.proofs.Common.{arith, length, ap, inl}
use Rattle.ba_script.proofs.LineLemmas.{lines_bound}
use Rattle.ba_script.proofs.lines.count_lines.Goals as goal

pub count-requires-clause-fits : goal.count-requires-clause-fits
count-requires-clause-fits c = inl (omega (arith, ap length c.script_lines.ensures, lines_bound c.args.bytes.now))
