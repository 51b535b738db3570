use Rattle.std.proofs.Common.{◌≡◌, drop}
use Rattle.ba_script.specs.Contexts.{values_for}
use Rattle.ba_script.proofs.ContextLemmas.{behind}
use Rattle.ba_script.proofs.context.values_for.Given as goal

abbrev pub invariant-loop-param : goal.invariant-loop-param
invariant-loop-param l = behind l.values (values_for l.members (drop l.param-index l.params)) ≡ values_for l.members l.params
