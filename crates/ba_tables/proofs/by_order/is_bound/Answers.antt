use Rattle.std.proofs.Common.{◌≡◌, ◌∙◌, true, map, subst, sym}
use Rattle.ba_tables.specs.Broken.{has_no_null}
use Rattle.ba_tables.proofs.BoundLemmas.{bound_told, key_seen, null_bound_told}
use Rattle.ba_tables.proofs.by_order.is_bound.Goals as goal

pub returns-then-not-has_no_null : goal.returns-then-not-has_no_null
returns-then-not-has_no_null c = λ told. null_bound_told c.args.link.now c.args.targets.now c.args.row.now c.as_slice-columns.result.now c.has_no_null.result c.as_slice-columns.ensures c.has_no_null.ensures c.if-not-has_no_null.true

pub returns : goal.returns
returns c =
    λ told.
    let key : map (λ v. v.now) c.take_key.new.key.items ≡ map (λ v. v.now) c.as_slice.result.now = cc (c.as_slice.ensures.value) in
    let whole = subst (λ cs. has_no_null c.args.row.now cs ≡ true) c.as_slice-columns.ensures (sym c.has_no_null.ensures ∙ c.if-not-has_no_null.false) in
    bound_told c.args.link.now c.args.targets.now c.args.row.now (map (λ v. v.now) c.as_slice.result.now) c.args.order.now c.with_front.result.now c.is_empty.result
    (key_seen c.args.row.now c.as_slice-columns.result.now c.args.link.now.columns (map (λ v. v.now) c.take_key.new.key.items) (map (λ v. v.now) c.as_slice.result.now) c.as_slice-columns.ensures (c.in_ok-whole.ensures c.if-not-whole.false) key)
    whole c.requires.columns c.requires.width c.with_front.ensures c.is_empty.ensures told
