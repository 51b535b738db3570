use Rattle.std.proofs.Common.{◌∙◌, ◌++◌, List, ℕ, ap, string_bytes, sym}
use Rattle.ba_send.specs.Sent.{lexeme_text}
use Rattle.ba_lex.specs.declared.token.Lexeme.TheVariants as lexemes
use Rattle.ba_send.proofs.GrowLemmas.{three}
use Rattle.ba_send.proofs.TextLemmas.{column_text}
use Rattle.ba_send.proofs.operand.push_column.Goals as goal

pub returns : goal.returns
returns c =
    three _ _ _ _ _ _ _ c.in_ok-push_source_name.ensures c.in_ok-push_str.ensures.bytes
    (c.in_ok-push_name.ensures ∙ ap (λ (t : List ℕ). string_bytes c.push_str.new.self ++ lexeme_text c.args.database (lexemes.Quoted t)) c.column_name-name.ensures)
    ∙ ap (λ (t : List ℕ). string_bytes c.args.out.now ++ t) (sym (column_text c.args.database c.args.schema.now c.args.from.now c.args.place c.args.column))
