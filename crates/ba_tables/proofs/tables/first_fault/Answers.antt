use Rattle.std.proofs.Common.{◌≡◌, sym, subst, length, All}
use Rattle.ba_index.specs.Orders.{IsOrderOf}
use Rattle.ba_tables.proofs.tables.first_fault.Goals as goal

pub broken_by-requires-clause-tables : goal.broken_by-requires-clause-tables
broken_by-requires-clause-tables c = subst (λ d. length d.tables ≡ length c.args.schema.now.tables) (sym c.rows.ensures) c.requires

pub broken_by-requires-clause-orders : goal.broken_by-requires-clause-orders
broken_by-requires-clause-orders c = subst (λ d. All (IsOrderOf d) c.orders.result.now) (sym c.rows.ensures) c.orders.ensures
