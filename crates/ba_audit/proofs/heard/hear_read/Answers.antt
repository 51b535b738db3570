use Rattle.std.proofs.Common.{◌∙◌, Some, ap}
use Rattle.std.specs.Option.{option_copied}
use Rattle.ba_audit.specs.Lines.{queries_read}
use Rattle.ba_audit.proofs.ReadLemmas.{heard_silent}
use Rattle.ba_audit.proofs.TestLemmas.{silent_memory}
use Rattle.ba_audit.proofs.heard.hear_read.Goals as goal

pub returns-in-Silent-clause-heard : goal.returns-in-Silent-clause-heard
returns-in-Silent-clause-heard c =
    let held = option_copied c.args.held in
    let is = ap option_copied c.in-Some.is ∙ ap Some c.in-Silent.is in
    heard_silent c.args.policy.now held is (queries_read c.args.policy.now c.args.key c.args.arguments.now) c.args.line.now (silent_memory held is c.args.line.now c.requires.goes)
