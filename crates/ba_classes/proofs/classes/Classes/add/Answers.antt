use Rattle.std.proofs.Common.{◌≡◌, length, ◌∙◌}
use Rattle.ba_classes.proofs.MergeLemmas.{IsLabelling-push}
use Rattle.ba_classes.proofs.classes.Classes.add.Goals as goal

pub invariant_of-self-2 : goal.invariant_of-self-2
invariant_of-self-2 c =
    let i = c.self.inside in
    let number : c.len-number.result ≡ length i.labels.items = c.len-number.ensures ∙ i.labels.ok.0 in
    rw (c.in_ok-push.ensures.items, number) (IsLabelling-push _ _ c.self.invariant)
