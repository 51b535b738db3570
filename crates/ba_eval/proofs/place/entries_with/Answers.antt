use Rattle.std.proofs.Common.{rules, map}
use Rattle.std.proofs.lemmas.List.Sorted.{IsPartitionPoint-from_clause}
use Rattle.std.specs.Ordering.{is_lt, is_le}
use Rattle.ba_eval.proofs.KeyLemmas.{order, parted_lt, parted_le_in, have_key_in, rest_from}
use Rattle.ba_eval.proofs.place.entries_with.Goals as goal

pub returns : goal.returns
returns c =
    let key = map (λ v. v.now) c.args.key.now in
    let rest = rest_from c.args.entries.now c.partition_point-lesser.result in
    have_key_in c.args.entries.now _ key _ _ rest c.partition_point-lesser.ensures.bound c.partition_point-same.ensures.bound
    (IsPartitionPoint-from_clause (λ e. is_lt (order key e)) _ _ c.partition_point-lesser.ensures.partitioned (parted_lt key _ c.requires) (λ a r q k. search rules))
    (IsPartitionPoint-from_clause (λ e. is_le (order key e)) _ _ c.partition_point-same.ensures.partitioned (parted_le_in _ _ key _ rest c.requires) (λ a r q k. search rules))
