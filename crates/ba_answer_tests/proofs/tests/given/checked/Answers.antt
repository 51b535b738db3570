use Rattle.std.proofs.Common.{◌≡◌, ◌∙◌, arith, length}
use Rattle.ba_answer_tests.proofs.TableLemmas.{rows_fit}
use Rattle.ba_answer_tests.proofs.tests.given.checked.Goals as goal

pub check-requires : goal.check-requires
check-requires c =
    let three : length c.deref.result.now.tables ≡ 3 = omega arith in
    rows_fit c.args.schema.now c.deref.result.now c.deref-2.result.now c.deref-3.result.now c.deref-4.result.now c.in-Ok.first c.in-Ok-read_table.second
    c.in-Ok-read_table-2.third c.from_vec-tables.result c.deref.ensures c.deref-2.ensures c.deref-3.ensures c.deref-4.ensures three c.in-Ok.ensures.fits
    c.in-Ok-read_table.ensures.fits c.in-Ok-read_table-2.ensures.fits (c.from_vec-tables.ensures ∙ c.in_ok-vec.ensures.items)
