use Rattle.std.proofs.Common.{◌==◌, ◌∙◌, ap, not, rules}
use Rattle.std.proofs.lemmas.Fn.{filter_same}
use Rattle.ba_live.specs.Askers.{without}
use Rattle.ba_live.proofs.open.Lines.forget.Goals as goal

pub returns : goal.returns
returns c =
    filter_same _ (λ x. not (x == c.args.line)) _ (λ x b f' k. search rules) _ _ c.retain.ensures.filtered
    ∙ ap (without c.args.line) c.self.view_is
