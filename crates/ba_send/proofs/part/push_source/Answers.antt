use Rattle.std.proofs.Common.{◌∙◌, ◌++◌, ◌∷◌, [], List, ℕ, ap, string_bytes, sym}
use Rattle.ba_send.specs.Sent.{pieces_text, source_pieces, table_in, word}
use Rattle.ba_sql_print.specs.Printed.{source_name, table_name}
use Rattle.ba_send.proofs.GrowLemmas.{grows_two}
use Rattle.ba_send.proofs.TextLemmas.{called_text}
use Rattle.ba_send.proofs.part.push_source.Goals as goal

pub returns : goal.returns
unfolding source_pieces
returns c =
    let d = c.args.target.now.database in
    grows_two d _ _ _ (table_in c.args.target.now.namespace (table_name c.args.schema.now c.args.table) ∷ []) (word (source_name c.args.place) ∷ [])
    (c.in_ok-push_table.ensures
    ∙ ap (λ (t : List ℕ). string_bytes c.args.out.now ++ pieces_text d (table_in c.args.target.now.namespace t ∷ [])) c.table_name-name.ensures)
    (c.in_ok-push_source_name.ensures ∙ ap (λ (t : List ℕ). string_bytes c.push_table.new.out ++ t) (sym (called_text d c.args.place)))
