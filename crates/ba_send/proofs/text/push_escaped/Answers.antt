use Rattle.std.proofs.Common.{◌∙◌, ◌++◌, List, ℕ, ap, string_bytes, sym}
use Rattle.ba_send.specs.Texts.{slashed}
use Rattle.ba_send.proofs.GrowLemmas.{three}
use Rattle.ba_send.proofs.TextLemmas.{escaped_text}
use Rattle.ba_send.proofs.text.push_escaped.Goals as goal

pub returns : goal.returns
returns c =
    three _ _ _ _ _ _ _ c.in_ok-push_str.ensures.bytes c.in_ok-push_slashed.ensures c.in_ok-push_str-2.ensures.bytes
    ∙ ap (λ (t : List ℕ). string_bytes c.args.out.now ++ t) (sym (escaped_text c.args.database (slashed c.args.text.now)))
