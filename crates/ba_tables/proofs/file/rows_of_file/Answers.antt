use Rattle.std.proofs.Common.{◌∙◌, sym}
use Rattle.csv.specs.Records.{fields_of}
use Rattle.ba_model.specs.Readings.{Gives}
use Rattle.ba_tables.proofs.FileFitLemmas.{result_fits}
use Rattle.ba_tables.proofs.RowsLemmas.{bad_header, good_header, no_header}
use Rattle.ba_tables.specs.TableFile.{rows_of_file}
use Rattle.ba_tables.proofs.file.rows_of_file.Goals as goal
use Rattle.ba_tables.proofs.file.rows_of_file.Goals.{then-not-branch-via-then-not-branch, then-not-branch-via-else-not-branch+then-not-is_header}

pub returns-then-not-branch-clause-reads : goal.returns-then-not-branch-clause-reads
returns-then-not-branch-clause-reads c =
    elim c.then-not-branch.branch [
      | then-not-branch-via-then-not-branch w ↦ no_header c.args.table.now c.args.bytes.now c.new-lines.result c.new-lines.ensures (c.in_ok-next.ensures.ended w.if-not-branch.true)
      | then-not-branch-via-else-not-branch+then-not-is_header w ↦
          bad_header c.args.table.now c.args.bytes.now c.new-lines.result (fields_of c.next.new.line) c.next.new.self c.new-lines.ensures (c.in_ok-next.ensures.read w.if-not-branch.false) (sym w.is_header.ensures ∙ w.if-not-is_header.true)
    ]

pub returns-clause-reads : goal.returns-clause-reads
returns-clause-reads c =
    rw (good_header c.args.table.now c.args.bytes.now c.new-lines.result (fields_of c.next.new.line) c.next.new.self c.new-lines.ensures (c.in_ok-next.ensures.read c.if-not-branch.false) (sym c.is_header.ensures ∙ c.if-not-is_header.false))
    c.rows_of.ensures

pub returns-clause-fits : goal.returns-clause-fits
returns-clause-fits c =
    let reads : Gives c.rows_of.result (rows_of_file c.args.table.now c.args.bytes.now) =
    rw (good_header c.args.table.now c.args.bytes.now c.new-lines.result (fields_of c.next.new.line) c.next.new.self c.new-lines.ensures (c.in_ok-next.ensures.read c.if-not-branch.false) (sym c.is_header.ensures ∙ c.if-not-is_header.false))
    c.rows_of.ensures in
    result_fits c.args.table.now c.args.bytes.now c.rows_of.result reads
