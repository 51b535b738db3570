use Rattle.std.proofs.Common.{sym}
use Rattle.ba_kernel.proofs.PassLemmas.{link_hidden}
use Rattle.ba_kernel.specs.Steps.{LinkRefuses}
use Rattle.ba_kernel.proofs.passes.row.test_link.Goals as goal

pub returns-in_default : goal.returns-in_default
returns-in_default c = LinkRefuses.no_fact (sym c.in_default.ensures)

pub returns-in_default-link_of : goal.returns-in_default-link_of
returns-in_default-link_of c = LinkRefuses.no_link (sym c.in-Some.ensures) c.in_default-link_of.ensures

pub returns-in-Some-first_nullable : goal.returns-in-Some-first_nullable
returns-in-Some-first_nullable c =
    link_hidden c.args.problem.now c.args.branch.now c.args.link c.args.fact c.in-Some.f.now c.in-Some-link_of.it.now _ _ c.in-Some-first_nullable.n
    c.as_slice.ensures c.as_slice-2.ensures (sym c.in-Some.ensures) c.in-Some-link_of.ensures c.in-Some-first_nullable.ensures
