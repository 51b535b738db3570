use Rattle.std.proofs.Common.{[], ap, ◌++◌, ◌∙◌, ◌∷◌}
use Rattle.ba_kernel.proofs.AskedLemmas.{params_all, params_more}
use Rattle.ba_kernel.specs.Problems.{param_is}
use Rattle.ba_kernel.proofs.problem.fixed_params.Goals as goal

pub loop-n-preserved : goal.loop-n-preserved
loop-n-preserved c =
    params_more c.args.values.now c.loop-n.n c.index-values-n.result c.loop-n.atoms.items c.push.new.self.items c.loop-n-test.true c.index-values-n.is
    c.loop-n.invariant (c.in_ok-push.ensures.items ∙ ap (λ v. c.loop-n.atoms.items ++ param_is (c.loop-n.n, v) ∷ []) c.in_ok-copy.ensures)

pub returns : goal.returns
returns c = params_all c.args.values.now c.loop-n.n c.from_vec.result c.loop-n-test.false (c.from_vec.ensures ∙ c.loop-n.invariant)
