use Rattle.std.proofs.Common.{◌≡◌, rules}
use Rattle.ba_sql_ddl.proofs.DraftLemmas.{table_is}
use Rattle.ba_sql_ddl.proofs.draft.table_of.Goals as goal

pub returns : goal.returns
returns c =
    let items : c.as_slice-items.result.now ≡ c.args.text.now.items = search rules in
    let name : c.in_ok-name.name ≡ c.args.text.now.name = search rules in
    table_is c.args.scope.now c.args.text.now c.as_slice-items.result.now c.in_ok-names.names c.in_ok-name.name c.in_ok-columns.columns c.in_ok-keys.keys c.in_ok-links.links items c.in_ok-names.ensures name c.in_ok-columns.ensures c.in_ok-keys.ensures c.in_ok-links.ensures
