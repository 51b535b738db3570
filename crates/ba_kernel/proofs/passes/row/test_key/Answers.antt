use Rattle.ba_kernel.proofs.PassLemmas.{key_hidden}
use Rattle.ba_kernel.specs.Steps.{KeyRefuses}
use Rattle.ba_kernel.proofs.passes.row.test_key.Goals as goal

pub returns-in_default : goal.returns-in_default
returns-in_default c = KeyRefuses.no_pair c.in_default.ensures

pub returns-in_default-key_of : goal.returns-in_default-key_of
returns-in_default-key_of c = KeyRefuses.no_key c.in-Some.ensures c.in_default-key_of.ensures

pub returns-in-Some-first_unequal : goal.returns-in-Some-first_unequal
returns-in-Some-first_unequal c =
    key_hidden c.args.problem.now c.args.branch.now c.args.key c.args.left c.args.right c.in-Some.f.now c.in-Some.g.now
    c.in-Some-key_of.columns.now _ _ _ c.in-Some-first_unequal.n c.as_slice.ensures c.as_slice-2.ensures c.as_slice-3.ensures
    c.in-Some.ensures c.in-Some-key_of.ensures c.in-Some-first_unequal.ensures
