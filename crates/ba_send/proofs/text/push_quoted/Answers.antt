use Rattle.std.proofs.Common.{◌∙◌, ◌++◌, List, ℕ, ap, string_bytes, sym}
use Rattle.ba_send.proofs.GrowLemmas.{three}
use Rattle.ba_send.proofs.TextLemmas.{quoted_text}
use Rattle.ba_send.proofs.text.push_quoted.Goals as goal

pub returns : goal.returns
returns c =
    three _ _ _ _ _ _ _ c.in_ok-push_str.ensures.bytes c.in_ok-push_doubled.ensures c.in_ok-push_str-2.ensures.bytes
    ∙ ap (λ (t : List ℕ). string_bytes c.args.out.now ++ t) (sym (quoted_text c.args.database c.args.text.now))
