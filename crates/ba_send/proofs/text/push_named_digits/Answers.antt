use Rattle.std.proofs.Common.{◌∙◌, ◌++◌, ◌∷◌, [], List, ℕ, ap, codes, string_bytes, sym}
use Rattle.ba_target.specs.declared.target.Database.TheVariants.{MySql}
use Rattle.ba_send.specs.Sent.{hex_piece, word}
use Rattle.ba_send.proofs.GrowLemmas.{grows_two}
use Rattle.ba_send.proofs.TextLemmas.{charset_text}
use Rattle.ba_send.proofs.text.push_named_digits.Goals as goal

pub returns : goal.returns
returns c =
    grows_two MySql _ _ _ (word (codes "_utf8mb4") ∷ []) (hex_piece c.args.text.now ∷ [])
    (c.in_ok-push_str.ensures.bytes ∙ ap (λ (t : List ℕ). string_bytes c.args.out.now ++ t) (sym (charset_text MySql)))
    c.in_ok-push_digits.ensures
