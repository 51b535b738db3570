use Rattle.std.proofs.Common.{sym, ◌∙◌}
use Rattle.std.specs.Cmp.Derive.Mapped.{lex_map}
use Rattle.ba_model.specs.Order.{value_cmp}
use Rattle.ba_eval.proofs.place.key_order.Goals as goal

pub returns : goal.returns
returns c = c.cmp.ensures ∙ sym (lex_map (λ v. v.now) value_cmp c.args.a.now c.args.b.now)
