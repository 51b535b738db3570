use Rattle.std.proofs.Common.{◌∙◌, length, sym, subst, ap, get_or, ◌<◌, zero-add}
use Rattle.std.proofs.lemmas.List.FromFn.{get_or-range_with_len, length-range_with_len}
use Rattle.ba_facts.specs.Walks.{listed}
use Rattle.ba_facts.proofs.walk.visit.Offered.get.Goals as goal

pub returns-in-Every : goal.returns-in-Every
returns-in-Every c =
    let is = ap listed c.in-Every.is in
    let below = subst (λ n. c.args.i < n) (ap length is ∙ length-range_with_len 0 c.in-Every.field-0) c.requires in
    sym (ap (λ xs. get_or xs c.args.i 0) is ∙ (get_or-range_with_len 0 c.in-Every.field-0 c.args.i 0 below ∙ zero-add c.args.i))
