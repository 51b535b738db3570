use Rattle.std.proofs.Common.{subst, sym}
use Rattle.ba_general.proofs.NamesLemmas.{entry_named}
use Rattle.ba_general.specs.Patterns.{NamesOperands, NamesQuery, QueryIsAsked}
use Rattle.ba_general.proofs.naming.Naming.entry.Goals as goal

pub query-requires : goal.query-requires
query-requires c = subst QueryIsAsked (sym c.deref.ensures) c.requires.query

pub returns-clause-names : goal.returns-clause-names
returns-clause-names c =
    entry_named c.args.self.now c.query.new.self c.operands.new.self c.args.entry.now (record { query = c.in_ok-query.query; row = c.in_ok-row.row })
    (subst (λ q. NamesQuery c.args.self.now q c.query.new.self c.in_ok-query.query) c.deref.ensures c.in_ok-query.ensures.names)
    (subst (λ xs. NamesOperands c.query.new.self xs c.operands.new.self c.in_ok-row.row) c.as_slice.ensures c.in_ok-row.ensures)
