use Rattle.ba_sql_query.specs.Resolve.{item_of}
use Rattle.ba_sql_query.proofs.EachLemmas.{FlatAt}
use Rattle.ba_sql_query.proofs.resolve.items_of.Given as goal

abbrev pub invariant-loop-item : goal.invariant-loop-item
invariant-loop-item l = FlatAt (item_of l.scope.schema.now l.params l.scope.sources l.scope.from) l.items l.item-index l.found.items
