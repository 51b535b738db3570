use Rattle.std.proofs.Common.{◌∙◌, sym}
use Rattle.std.specs.Bool.{one_answer}
use Rattle.ba_cache.specs.Keys.{same_shape, shape_decides}
use Rattle.ba_judge.proofs.key.KeyPartialEq.eq.Goals as goal

pub returns : goal.returns
returns c =
    let d = shape_decides c.args.self.now c.args.other.now in
    one_answer c.same.result (same_shape c.args.self.now c.args.other.now) c.same.ensures (λ e. c.self.view_is ∙ d.0 e ∙ sym c.other.view_is, λ e. d.1 (sym c.self.view_is ∙ e ∙ c.other.view_is))
