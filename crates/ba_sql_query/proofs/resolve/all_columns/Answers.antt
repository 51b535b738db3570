use Rattle.ba_sql_query.specs.Resolve.{source_columns}
use Rattle.ba_sql_query.proofs.RangeLemmas.{flat_range_more}
use Rattle.ba_sql_query.proofs.resolve.all_columns.Goals as goal

pub loop-place-preserved : goal.loop-place-preserved
loop-place-preserved c =
    flat_range_more (source_columns c.args.schema.now c.args.from.now) c.loop-place.place c.loop-place.found.items _ _ c.loop-place.invariant c.in_ok-columns.ensures c.in_ok-append.ensures.items
