use Rattle.std.proofs.Common.{◌∙◌, length, sym, ap}
use Rattle.std.proofs.lemmas.List.FromFn.{length-range_with_len}
use Rattle.ba_facts.specs.Walks.{listed}
use Rattle.ba_facts.proofs.walk.visit.Offered.len.Goals as goal

pub returns-in-Every : goal.returns-in-Every
returns-in-Every c = sym (ap (λ x. length (listed x)) c.in-Every.is ∙ length-range_with_len 0 c.in-Every.count)
