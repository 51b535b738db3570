use Rattle.std.proofs.Common.{◌≡◌, ◌<◌, [], List, length, get_or, take, arith, ap, ◌∙◌}
use Rattle.std.proofs.lemmas.List.{get_or_default}
use Rattle.ba_classes.specs.declared.best.Best.{Best}
use Rattle.ba_classes.specs.declared.best.Best.TheVariants.{Absent}
use Rattle.ba_classes.proofs.GridLemmas.{written_same, written_none_new, written_none_past, none_past_all}
use Rattle.ba_classes.proofs.RowLemmas.{cut_same, cut_past, cut_none_new}
use Rattle.ba_classes.proofs.grid.cut.Goals as goal

pub loop-row-preserved : goal.loop-row-preserved
loop-row-preserved c =
    let l = c.loop-row in
    let side = c.args.side in
    let start = c.args.rows.now in
    let row = c.cut_row.new.row in
    let old = get_or l.rows l.row-index [] in
    let within : l.row-index < length l.rows = omega arith in
    let item : get_or l.rows l.row-index c.row-item.result ≡ old = get_or_default l.rows l.row-index c.row-item.result [] within in
    let cut : row ≡ take side old = c.in_ok-cut_row.ensures.ok ∙ ap (take side) item in (
      written_same l.rows l.row-index row within start side l.invariant.0 (cut_same row old side cut),
      written_none_new l.rows l.row-index row within start side l.invariant.1 (cut_none_new row old side cut),
      written_none_past l.rows l.row-index row within start side l.invariant.2 (cut_past row old side cut),
    )

pub returns-in_err-cut_row-clause-same : goal.returns-in_err-cut_row-clause-same
returns-in_err-cut_row-clause-same c =
    let l = c.loop-row in
    let row = c.cut_row.new.row in
    let within : l.row-index < length l.rows = omega arith in
    let item : get_or l.rows l.row-index c.row-item.result ≡ get_or l.rows l.row-index [] = get_or_default l.rows l.row-index c.row-item.result [] within in
    written_same l.rows l.row-index row within c.args.rows.now c.args.side l.invariant.0
    (λ j h. ap (λ (r : List Best). get_or r j Absent) (c.in_err-cut_row.ensures.err ∙ item))

pub returns-in_err-cut_row-clause-none_new : goal.returns-in_err-cut_row-clause-none_new
returns-in_err-cut_row-clause-none_new c =
    let l = c.loop-row in
    let row = c.cut_row.new.row in
    let within : l.row-index < length l.rows = omega arith in
    let item : get_or l.rows l.row-index c.row-item.result ≡ get_or l.rows l.row-index [] = get_or_default l.rows l.row-index c.row-item.result [] within in
    written_none_new l.rows l.row-index row within c.args.rows.now c.args.side l.invariant.1
    (λ j h. ap (λ (r : List Best). get_or r j Absent) (c.in_err-cut_row.ensures.err ∙ item) ∙ h)

pub returns-clause-none_past : goal.returns-clause-none_past
returns-clause-none_past c = none_past_all c.loop-row.rows c.loop-row.row-index c.args.side (omega arith) c.loop-row.invariant.2
