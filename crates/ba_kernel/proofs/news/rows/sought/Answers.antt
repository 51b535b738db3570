use Rattle.std.proofs.Common.{sym}
use Rattle.ba_kernel.proofs.TargetLemmas.{have_targets_if_any}
use Rattle.ba_kernel.proofs.news.rows.sought.Goals as goal

pub returns : goal.returns
returns c = have_targets_if_any c.args.branch.now c.args.fact.now c.args.link.now c.in_ok-column.column.now c.in_ok-find.field-0.now c.in_ok-term.term.now _ c.requires (sym c.in_ok-column.ensures) (sym c.in_ok-find.ensures) (sym c.in_ok-term.ensures) c.sought_by.ensures
