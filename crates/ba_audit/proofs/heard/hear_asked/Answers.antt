use Rattle.std.proofs.Common.{◌∙◌, Some, ap}
use Rattle.std.specs.Option.{option_copied}
use Rattle.ba_audit.specs.Lines.{reading_of}
use Rattle.ba_audit.proofs.TestLemmas.{heard_memory, silent_memory}
use Rattle.ba_audit.proofs.heard.hear_asked.Goals as goal

pub returns-in-Silent-clause-heard : goal.returns-in-Silent-clause-heard
returns-in-Silent-clause-heard c =
    let held = option_copied c.args.held in
    heard_memory c.args.policy.now held (reading_of c.args.policy.now c.args.text.now) c.args.line.now
    (silent_memory held (ap option_copied c.in-Some.is ∙ ap Some c.in-Silent.is) c.args.line.now c.requires.goes)
