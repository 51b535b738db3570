use Rattle.std.proofs.Common.{◌∙◌, ◌++◌, List, ℕ, ap, string_bytes, sym}
use Rattle.ba_send.specs.Texts.{hex}
use Rattle.ba_send.proofs.GrowLemmas.{three}
use Rattle.ba_send.proofs.TextLemmas.{digits_text}
use Rattle.ba_send.proofs.text.push_digits.Goals as goal

pub returns : goal.returns
returns c =
    three _ _ _ _ _ _ _ c.in_ok-push_str.ensures.bytes
    (c.in_ok-push_hex.ensures ∙ ap (λ (t : List ℕ). string_bytes c.push_str.new.self ++ hex t) c.as_bytes.ensures.value) c.in_ok-push_str-2.ensures.bytes
    ∙ ap (λ (t : List ℕ). string_bytes c.args.out.now ++ t) (sym (digits_text c.args.database c.args.text.now))
