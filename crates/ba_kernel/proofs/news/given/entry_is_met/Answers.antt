use Rattle.std.proofs.Common.{refl, sym}
use Rattle.ba_kernel.proofs.NewLemmas.{entry_met}
use Rattle.ba_kernel.proofs.news.given.entry_is_met.Goals as goal

pub returns : goal.returns
returns c =
    entry_met c.args.problem.now c.args.branch.now _ _ _ c.is_given.result c.args.entry c.in-Some.it.now (sym c.in-Some.ensures) c.as_slice.ensures
    c.parts-parts.ensures refl c.is_given.ensures
