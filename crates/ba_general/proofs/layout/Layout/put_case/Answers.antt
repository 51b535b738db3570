use Rattle.std.proofs.Common.{ap, ◌∙◌}
use Rattle.ba_general.proofs.LayoutLemmas.{counts_set}
use Rattle.ba_general.specs.Layouts.{wide}
use Rattle.ba_general.proofs.layout.Layout.put_case.Goals as goal

pub returns-clause-counted : goal.returns-clause-counted
returns-clause-counted c =
    counts_set c.args.problem.now c.args.self.now.tables.items c.set_tables.new.all.items c.args.self.now.unknowns.items c.set_count.new.counts.items c.args.branch
    c.in_ok-count.count c.args.tables c.requires c.set_count.ensures c.set_tables.ensures
    (c.in_ok-count.ensures ∙ ap (wide c.args.problem.now.policy.schema) c.as_slice.ensures)
