use Rattle.std.proofs.Common.{◌∙◌, map, string_bytes, ap, subst}
use Rattle.clap.specs.Words.{app_of}
use Rattle.clap.specs.Faults.{is_simple_and_free}
use Rattle.ba_model.specs.Readings.{Gives}
use Rattle.ba_command.proofs.FormLemmas.{decide_free, decide_ok, decide_refused}
use Rattle.ba_command.proofs.decide.read_decide.Goals as goal

pub returns-in-Ok-clause-reads : goal.returns-in-Ok-clause-reads
returns-in-Ok-clause-reads c =
    let is = c.in_ok-form.ensures in
    let none = c.in-Ok.ensures.kinds (ap is_simple_and_free is ∙ decide_free) in
    subst (Gives c.deciding_of.result)
    (decide_ok (app_of c.in_ok-form.form) (map string_bytes c.args.words.now) c.in-Ok.matches is c.in-Ok.ensures.matches none) c.deciding_of.ensures.reads

pub returns-in-Err-clause-reads : goal.returns-in-Err-clause-reads
returns-in-Err-clause-reads c =
    let is = c.in_ok-form.ensures in
    let some = c.in-Err.ensures.kinds (ap is_simple_and_free is ∙ decide_free) in
    decide_refused (app_of c.in_ok-form.form) (map string_bytes c.args.words.now) c.in-Err.e c.refusal.result is some c.refusal.ensures
