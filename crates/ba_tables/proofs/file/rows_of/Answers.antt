use Rattle.std.proofs.lemmas.Result.{err_from_is_err_and}
use Rattle.csv.specs.Records.{fields_of}
use Rattle.ba_tables.proofs.RowsLemmas.{all_kept, bad_kept, one_dropped, one_kept, too_many}
use Rattle.ba_tables.proofs.file.rows_of.Goals as goal
use Rattle.ba_tables.proofs.file.rows_of.Goals.{then-within+in_ok-push, else-within}

pub returns-then-count-gt-MAX_ROWS : goal.returns-then-count-gt-MAX_ROWS
returns-then-count-gt-MAX_ROWS c =
    too_many c.args.columns.now c.args.lines.now c.loop-row.lines c.loop-row.rows c.loop-row.row c.loop-row.invariant (c.in_ok-next.ensures.ended c.if-not-branch.true) c.if-count-gt-MAX_ROWS.true

pub returns-else-count-gt-MAX_ROWS : goal.returns-else-count-gt-MAX_ROWS
returns-else-count-gt-MAX_ROWS c =
    all_kept c.args.columns.now c.args.lines.now c.loop-row.lines c.loop-row.rows c.loop-row.row c.loop-row.invariant (c.in_ok-next.ensures.ended c.if-not-branch.true) c.if-count-gt-MAX_ROWS.false

pub returns-in_err-values : goal.returns-in_err-values
returns-in_err-values c =
    let p = err_from_is_err_and c.from_residual-in_err-values.result c.from_residual-in_err-values.ensures.1 in
    rw (p.1, p.2)
    (bad_kept c.in_err-values.field-0.0 c.args.columns.now c.args.lines.now c.loop-row.lines c.next.new.self c.loop-row.rows c.loop-row.row (fields_of c.next.new.line) c.loop-row.invariant (c.in_ok-next.ensures.read c.if-not-branch.false) c.in_err-values.ensures.reads)

pub loop-row-preserved : goal.loop-row-preserved
loop-row-preserved c =
    elim c.if-within.branch [
      | then-within+in_ok-push w ↦
          rw (w.rows-is, w.in_ok-push.ensures.ok)
          (one_kept c.args.columns.now c.args.lines.now c.loop-row.lines c.next.new.self c.loop-row.rows c.loop-row.row (fields_of c.next.new.line) c.in_ok-values.values c.loop-row.invariant (c.in_ok-next.ensures.read c.if-not-branch.false) c.in_ok-values.ensures.reads w.if-within.true)
      | else-within w ↦
          rw w.rows-is
          (one_dropped c.args.columns.now c.args.lines.now c.loop-row.lines c.next.new.self c.loop-row.rows c.loop-row.row (fields_of c.next.new.line) c.in_ok-values.values c.loop-row.invariant (c.in_ok-next.ensures.read c.if-not-branch.false) c.in_ok-values.ensures.reads w.if-within.false)
    ]
