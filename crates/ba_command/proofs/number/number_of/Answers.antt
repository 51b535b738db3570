use Rattle.std.proofs.Common.{◌∙◌, ap}
use Rattle.ba_command.specs.Words.{number_in}
use Rattle.ba_command.proofs.NumberLemmas.{no_number, read_number}
use Rattle.ba_command.proofs.number.number_of.Goals as goal

pub returns-then-number-most-clause-is : goal.returns-then-number-most-clause-is
returns-then-number-most-clause-is c = read_number c.args.least c.args.most c.in-Ok.number c.in-Some.text.now c.parse.result c.parse.ensures.value.0 c.in-Ok.is c.if-least-number.true c.if-number-most.true
    ∙ ap (number_in c.args.least c.args.most) c.in-Some.ensures

pub returns-in-Err-clause-is : goal.returns-in-Err-clause-is
returns-in-Err-clause-is c = no_number c.args.least c.args.most c.in-Some.text.now c.parse.result c.in-Err.field-0 c.ranges.most.fits c.parse.ensures.value.0 c.in-Err.is
    ∙ ap (number_in c.args.least c.args.most) c.in-Some.ensures
