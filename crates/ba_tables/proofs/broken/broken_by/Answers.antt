use Rattle.std.proofs.Common.{◌∙◌, sym, arith}
use Rattle.ba_model.specs.Meaning.{rows_of}
use Rattle.ba_tables.proofs.FirstLemmas.{list_there, table_key, table_link, table_next, tables_end}
use Rattle.ba_tables.proofs.broken.broken_by.Goals as goal

pub returns-in-Some : goal.returns-in-Some
returns-in-Some c =
    sym (table_key c.loop-number.number c.args.rows.now c.args.tables.now c.args.rows.now.tables c.get-table.result.now (rows_of c.args.rows.now c.loop-number.number) c.in-Some.fault c.get-table.ensures (list_there c.args.rows.now c.args.tables.now c.loop-number.number c.get-table.result.now c.requires.tables c.get-table.ensures) (sym c.in-Some.is ∙ c.in_ok-fault.ensures))
    ∙ c.loop-number.invariant

pub returns-in-Some-2 : goal.returns-in-Some-2
returns-in-Some-2 c =
    sym (table_link c.loop-number.number c.args.rows.now c.args.tables.now c.args.rows.now.tables c.get-table.result.now (rows_of c.args.rows.now c.loop-number.number) c.in-Some-2.fault c.get-table.ensures (list_there c.args.rows.now c.args.tables.now c.loop-number.number c.get-table.result.now c.requires.tables c.get-table.ensures) (sym c.in_default-2.is ∙ c.in_ok-fault.ensures) (sym c.in-Some-2.is ∙ c.in_ok-fault-2.ensures))
    ∙ c.loop-number.invariant

pub loop-number-preserved : goal.loop-number-preserved
loop-number-preserved c =
    sym (table_next c.loop-number.number c.args.rows.now c.args.tables.now c.args.rows.now.tables c.get-table.result.now (rows_of c.args.rows.now c.loop-number.number) c.get-table.ensures (list_there c.args.rows.now c.args.tables.now c.loop-number.number c.get-table.result.now c.requires.tables c.get-table.ensures) (sym c.in_default-2.is ∙ c.in_ok-fault.ensures) (sym c.in_default-3.is ∙ c.in_ok-fault-2.ensures))
    ∙ c.loop-number.invariant

pub returns : goal.returns
returns c = let h = c.in-Ok.ensures in sym (tables_end c.loop-number.number c.args.rows.now c.args.tables.now c.args.rows.now.tables (omega (arith, h.1, c.len.ensures))) ∙ c.loop-number.invariant
