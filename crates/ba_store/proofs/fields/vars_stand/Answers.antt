use Rattle.ba_store.proofs.FitLemmas.{told_stand}
use Rattle.ba_store.proofs.fields.vars_stand.Goals as goal

pub returns : goal.returns
returns c = told_stand c.args.problem.now c.each_var_stands.result c.each_var_stands.ensures
