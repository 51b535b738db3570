use Rattle.std.proofs.Common.{◌+◌, ◌++◌, ap₂, ◌∙◌}
use Rattle.ba_general.proofs.LayoutLemmas.{counts_set, on_ok, wide_more}
use Rattle.ba_general.specs.Layouts.{tables_on}
use Rattle.ba_general.proofs.layout.Layout.add.Goals as goal

pub returns-clause-counted : goal.returns-clause-counted
returns-clause-counted c =
    on_ok c.extend_at.result
    (λ laid. counts_set c.args.problem.now c.args.self.now.tables.items c.extend_at.new.all.items c.args.self.now.unknowns.items c.set_count.new.counts.items c.args.branch
    c.in_ok-count-2.count (tables_on c.args.self.now.tables.items c.args.branch ++ c.args.added.now) c.requires c.set_count.ensures laid
    (wide_more c.args.problem.now (tables_on c.args.self.now.tables.items c.args.branch) c.args.added.now c.in_ok-count-2.count
    (c.in_ok-count-2.ensures ∙ ap₂ (λ n m. n + m) c.unknowns.ensures c.in_ok-count.ensures)))
    c.extend_at.ensures
