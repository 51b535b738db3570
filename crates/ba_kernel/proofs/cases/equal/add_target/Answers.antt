use Rattle.std.proofs.Common.{◌∷◌, [], Some, ap, refl, sym, ◌∙◌}
use Rattle.ba_kernel.proofs.BuildSteps.{link_columns, link_leads, link_left, link_others, link_right, link_wide}
use Rattle.ba_kernel.proofs.cases.equal.add_target.Goals as goal

pub equate_columns-requires-clause-left : goal.equate_columns-requires-clause-left
equate_columns-requires-clause-left c =
    link_left c.args.problem.now c.args.new.now c.requires.tidy c.args.link c.args.fact c.deref-f.result.now c.table_at-table.result.now c.get-it.result.now
    (c.in_ok-held.ensures ∙ ap Some (sym c.deref-f.ensures)) c.table_at-table.ensures c.get-it.ensures c.requires.passes c.args.new.now c.add_fact.new.self c.columns-target.result.now
    c.in_ok-round.round refl c.columns-target.ensures c.in_ok-round.ensures.value c.in_ok-add_fact.ensures.ok c.as_slice-left.result.now
    c.as_slice-left.ensures

pub equate_columns-requires-clause-right : goal.equate_columns-requires-clause-right
equate_columns-requires-clause-right c =
    link_right c.args.problem.now c.args.new.now c.requires.tidy c.args.link c.args.fact c.deref-f.result.now c.table_at-table.result.now c.get-it.result.now
    (c.in_ok-held.ensures ∙ ap Some (sym c.deref-f.ensures)) c.table_at-table.ensures c.get-it.ensures c.requires.passes c.args.new.now c.add_fact.new.self c.columns-target.result.now
    c.in_ok-round.round refl c.columns-target.ensures c.in_ok-round.ensures.value c.in_ok-add_fact.ensures.ok
    c.len-count.result c.deref-added.result.now c.deref-added.result.now.terms c.as_slice-right.result.now c.len-count.ensures (c.in_ok-other.ensures ∙ ap Some (sym c.deref-added.ensures)) refl
    c.as_slice-right.ensures

pub equate_columns-requires-clause-wide : goal.equate_columns-requires-clause-wide
equate_columns-requires-clause-wide c =
    link_wide c.args.problem.now c.args.new.now c.requires.tidy c.args.link c.args.fact c.deref-f.result.now c.table_at-table.result.now c.get-it.result.now
    (c.in_ok-held.ensures ∙ ap Some (sym c.deref-f.ensures)) c.table_at-table.ensures c.get-it.ensures c.requires.passes c.args.new.now c.add_fact.new.self c.columns-target.result.now
    c.in_ok-round.round refl c.columns-target.ensures c.in_ok-round.ensures.value c.in_ok-add_fact.ensures.ok
    c.len-count.result c.deref-added.result.now c.deref-added.result.now.terms c.as_slice-right.result.now c.len-count.ensures (c.in_ok-other.ensures ∙ ap Some (sym c.deref-added.ensures)) refl
    c.as_slice-right.ensures c.requires.fits c.as_slice-columns.result.now c.as_slice-others.result.now c.as_slice-columns.ensures c.as_slice-others.ensures

pub equate_columns-requires-clause-columns : goal.equate_columns-requires-clause-columns
equate_columns-requires-clause-columns c =
    link_columns c.args.problem.now c.args.new.now c.requires.tidy c.args.link c.args.fact c.deref-f.result.now c.table_at-table.result.now c.get-it.result.now
    (c.in_ok-held.ensures ∙ ap Some (sym c.deref-f.ensures)) c.table_at-table.ensures c.get-it.ensures c.requires.passes c.args.new.now c.add_fact.new.self c.columns-target.result.now
    c.in_ok-round.round refl c.columns-target.ensures c.in_ok-round.ensures.value c.in_ok-add_fact.ensures.ok
    c.len-count.result c.deref-added.result.now c.deref-added.result.now.terms c.as_slice-right.result.now c.len-count.ensures (c.in_ok-other.ensures ∙ ap Some (sym c.deref-added.ensures)) refl
    c.as_slice-right.ensures c.requires.fits c.as_slice-left.result.now c.as_slice-columns.result.now c.as_slice-left.ensures c.as_slice-columns.ensures

pub equate_columns-requires-clause-others : goal.equate_columns-requires-clause-others
equate_columns-requires-clause-others c =
    link_others c.args.problem.now c.args.new.now c.requires.tidy c.args.link c.args.fact c.deref-f.result.now c.table_at-table.result.now c.get-it.result.now
    (c.in_ok-held.ensures ∙ ap Some (sym c.deref-f.ensures)) c.table_at-table.ensures c.get-it.ensures c.requires.passes c.args.new.now c.add_fact.new.self c.columns-target.result.now
    c.in_ok-round.round refl c.columns-target.ensures c.in_ok-round.ensures.value c.in_ok-add_fact.ensures.ok
    c.len-count.result c.deref-added.result.now c.deref-added.result.now.terms c.as_slice-right.result.now c.len-count.ensures (c.in_ok-other.ensures ∙ ap Some (sym c.deref-added.ensures)) refl
    c.as_slice-right.ensures c.requires.fits c.as_slice-others.result.now c.as_slice-others.ensures

pub returns : goal.returns
returns c =
    link_leads c.args.problem.now c.args.new.now c.requires.tidy c.args.link c.args.fact c.deref-f.result.now c.table_at-table.result.now
    c.get-it.result.now (c.in_ok-held.ensures ∙ ap Some (sym c.deref-f.ensures)) c.table_at-table.ensures c.get-it.ensures c.requires.passes c.args.new.now c.add_fact.new.self
    c.columns-target.result.now c.in_ok-round.round refl c.columns-target.ensures c.in_ok-round.ensures.value
    c.in_ok-add_fact.ensures.ok c.len-count.result c.deref-added.result.now c.deref-added.result.now.terms c.as_slice-right.result.now c.len-count.ensures (c.in_ok-other.ensures ∙ ap Some (sym c.deref-added.ensures))
    refl c.as_slice-right.ensures c.as_slice-left.result.now c.as_slice-columns.result.now c.as_slice-others.result.now
    c.equate_columns.new.new (c.equate_columns.new.new ∷ []) c.as_slice-left.ensures c.as_slice-columns.ensures c.as_slice-others.ensures
    c.in_ok-equate_columns.ensures refl
