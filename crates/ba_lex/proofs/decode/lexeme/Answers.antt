use Rattle.std.proofs.Common.{sym, subst}
use Rattle.std.specs.Str.{IsUtf8}
use Rattle.std.proofs.lemmas.List.{take_rest}
use Rattle.ba_lex.proofs.ShapeLemmas.{behind_utf8, inside_utf8, quoted_two, shape_edges, text_two}
use Rattle.ba_lex.specs.declared.front.Shape.TheVariants.{Quoted, Text}
use Rattle.ba_lex.specs.Tokens.{IsOfShape}
use Rattle.ba_lex.proofs.decode.lexeme.Goals as goal

pub as_text-name-requires : goal.as_text-name-requires
as_text-name-requires c =
    let s = c.args.spelling.now in
    let spelled : IsOfShape Quoted s = subst (λ k. IsOfShape k s) c.in-Quoted.is c.requires.spelled in
    subst IsUtf8 (sym c.inside.ensures) (inside_utf8 s c.requires.utf8 (quoted_two s spelled) (shape_edges Quoted s spelled))

pub as_text-text-requires : goal.as_text-text-requires
as_text-text-requires c =
    let s = c.args.spelling.now in
    let spelled : IsOfShape Text s = subst (λ k. IsOfShape k s) c.in-Text.is c.requires.spelled in
    subst IsUtf8 (sym c.inside-in-Text.ensures) (inside_utf8 s c.requires.utf8 (text_two s spelled) (shape_edges Text s spelled))

pub as_text-name-requires-in-Param : goal.as_text-name-requires-in-Param
as_text-name-requires-in-Param c =
    let s = c.args.spelling.now in
    subst IsUtf8 (sym (take_rest s 1)) (behind_utf8 s c.requires.utf8 (shape_edges c.args.shape s c.requires.spelled))
