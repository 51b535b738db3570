use Rattle.std.proofs.Common.{◌∙◌, sym, arith}
use Rattle.ba_model.specs.Meaning.{rows_of}
use Rattle.ba_tables.proofs.FirstLemmas.{link_here, link_next, links_end}
use Rattle.ba_tables.proofs.broken.broken_link.Goals as goal

pub returns-in-Some : goal.returns-in-Some
returns-in-Some c =
    sym (link_here c.args.table c.loop-link.link c.in-Some.row c.args.rows.now (rows_of c.args.rows.now c.args.table) c.args.links.now c.get-it.result.now c.get-it.ensures (sym c.in-Some.is ∙ c.in_ok-row.ensures)) ∙ c.loop-link.invariant

pub loop-link-preserved : goal.loop-link-preserved
loop-link-preserved c =
    sym (link_next c.args.table c.loop-link.link c.args.rows.now (rows_of c.args.rows.now c.args.table) c.args.links.now c.get-it.result.now c.get-it.ensures (sym c.in_default-2.is ∙ c.in_ok-row.ensures)) ∙ c.loop-link.invariant

pub returns : goal.returns
returns c =
    let h = c.in-Ok.ensures in
    sym (links_end c.args.table c.loop-link.link c.args.rows.now (rows_of c.args.rows.now c.args.table) c.args.links.now (omega (arith, h.1, c.len.ensures))) ∙ c.loop-link.invariant
