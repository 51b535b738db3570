use Rattle.std.proofs.Common.{[], true, false, refl}
use Rattle.std.proofs.lemmas.Slice.Zip.{AllZip-long}
use Rattle.std.specs.List.{All}
use Rattle.ba_model.specs.Conform.{RowFits}
use Rattle.ba_tables.proofs.UnbrokenLemmas.{conform_tested, conform_unfit, fit_test, is_true, none_test}
use Rattle.ba_tables.proofs.conforming.conform.Goals as goal

pub returns-then-not-lists_fit : goal.returns-then-not-lists_fit
returns-then-not-lists_fit c =
    conform_unfit (record { tables = c.args.tables.now; rules = [] }) c.args.rows.now (fit_test c.lists_fit.result false c.if-not-lists_fit.true c.as_slice.ensures c.as_slice-2.ensures c.lists_fit.ensures)

pub broken_table-requires : goal.broken_table-requires
broken_table-requires c =
    AllZip-long (λ table list. All (RowFits table) list) c.args.tables.now c.args.rows.now.tables ((fit_test c.lists_fit.result true c.if-not-lists_fit.false c.as_slice.ensures c.as_slice-2.ensures c.lists_fit.ensures).0 is_true)

pub returns : goal.returns
returns c =
    conform_tested (record { tables = c.args.tables.now; rules = [] }) c.args.rows.now c.is_none.result refl
    ((fit_test c.lists_fit.result true c.if-not-lists_fit.false c.as_slice.ensures c.as_slice-2.ensures c.lists_fit.ensures).0 is_true)
    c.requires.rising
    (none_test c.is_none.result (c.in_ok-broken.broken) c.in_ok-broken.ensures c.is_none.ensures)
