use Rattle.std.proofs.Common.{◌∙◌, ap}
use Rattle.ba_cache.proofs.RowLemmas.{looks_by_key}
use Rattle.ba_cache.specs.Keys.{same_shape, shape_decides}
use Rattle.ba_cache.proofs.rows.look.Goals as goal

pub returns-clause-looks : goal.returns-clause-looks
returns-clause-looks c =
    looks_by_key same_shape shape_decides c.in_ok-key.key c.args.shape.now c.args.rows.now.entries c.promote.new.self.entries c.in_ok-found.found c.in_ok-key.ensures (c.in_ok-found.ensures.is ∙ c.templates_of.ensures) (ap (λ r. r.entries) c.promote.ensures.entries)
