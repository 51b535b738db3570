use Rattle.std.proofs.Common.{◌∙◌, ◌-◌, sym, arith}
use Rattle.ba_tables.proofs.TwinLemmas.{all_apart, first_apart, more_apart, order_clash, row_there}
use Rattle.ba_tables.proofs.by_order.has_twins.Goals as goal

pub loop-i-init : goal.loop-i-init
loop-i-init c = first_apart c.args.rows.now c.args.order.now.columns c.as_slice-numbers.result.now

pub are_twins-requires : goal.are_twins-requires
are_twins-requires c = row_there c.args.rows.now c.args.order.now c.as_slice-numbers.result.now (c.loop-i.i - 1) c.requires c.as_slice-numbers.ensures (omega arith)

pub loop-i-preserved : goal.loop-i-preserved
loop-i-preserved c = more_apart c.args.rows.now c.args.order.now.columns c.as_slice-numbers.result.now c.loop-i.i (omega arith) c.loop-i.invariant (sym c.are_twins.ensures ∙ c.if-are_twins.false)

pub returns : goal.returns
returns c =
    λ none. order_clash c.args.rows.now c.args.order.now c.as_slice-numbers.result.now c.requires c.as_slice-numbers.ensures (all_apart c.args.rows.now c.args.order.now.columns c.as_slice-numbers.result.now c.loop-i.i (omega arith) c.loop-i.invariant)
