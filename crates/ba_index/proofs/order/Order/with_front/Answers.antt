use Rattle.std.proofs.Common.{rules, map}
use Rattle.std.proofs.lemmas.List.Sorted.{IsPartitionPoint-from_clause}
use Rattle.std.specs.Ordering.{is_lt, is_le}
use Rattle.ba_index.proofs.FrontLemmas.{order, parted_lt, parted_le_in, have_front_in, rest_from, sorted_as}
use Rattle.ba_index.proofs.order.Order.with_front.Goals as goal

pub returns : goal.returns
returns c =
    let rows = c.args.rows.now in
    let columns = c.as_slice-columns.result.now in
    let key = map (λ v. v.now) c.args.key.now in
    let numbers = c.as_slice-numbers.result.now in
    let rest = rest_from numbers c.partition_point-lesser.result in
    let up = sorted_as rows c.args.self.now c.requires columns c.as_slice-columns.ensures numbers c.as_slice-numbers.ensures in
    have_front_in rows c.args.self.now c.requires key _ _ columns c.as_slice-columns.ensures numbers c.as_slice-numbers.ensures _ rest c.partition_point-lesser.ensures.bound c.partition_point-same.ensures.bound
    (IsPartitionPoint-from_clause (λ e. is_lt (order rows columns key e)) _ _ c.partition_point-lesser.ensures.partitioned (parted_lt rows columns key _ up) (λ a r q k. search rules))
    (IsPartitionPoint-from_clause (λ e. is_le (order rows columns key e)) _ _ c.partition_point-same.ensures.partitioned (parted_le_in rows columns key _ _ _ rest up) (λ a r q k. search rules))
