use Rattle.std.proofs.Common.{◌∙◌, ◌++◌, ◌∷◌, [], List, ℕ, ap, codes, string_bytes, sym, map}
use Rattle.ba_keys.specs.Literals.{atom_with, operand_with}
use Rattle.ba_model.specs.declared.query.Atom.{Atom}
use Rattle.ba_model.specs.declared.query.Operand.{Operand}
use Rattle.ba_send.specs.Sent.{distinct_pieces, from_pieces, heads_pieces, pieces_text, selected_pieces, where_pieces, word}
use Rattle.ba_send.proofs.GrowLemmas.{grows_two}
use Rattle.ba_send.proofs.TextLemmas.{from_text}
use Rattle.ba_send.proofs.part.push_selected.Goals as goal

pub returns : goal.returns
unfolding selected_pieces
returns c =
    let d = c.args.target.now.database in
    grows_two d _ _ _ (distinct_pieces c.args.several) _ c.in_ok-push_distinct.ensures
    (grows_two d _ _ _ _ _
    (c.in_ok-push_heads.ensures
    ∙ ap (λ (f : List ℕ). string_bytes c.push_distinct.new.out ++ pieces_text d (heads_pieces d c.args.schema.now f c.args.several (map (operand_with 0 c.args.values.now) c.as_slice.result.now))) c.as_slice-from.ensures
    ∙ ap (λ (xs : List Operand). string_bytes c.push_distinct.new.out ++ pieces_text d (heads_pieces d c.args.schema.now c.args.part.now.from c.args.several (map (operand_with 0 c.args.values.now) xs))) c.as_slice.ensures)
    (grows_two d _ _ _ (word (codes "FROM") ∷ []) _
    (c.in_ok-push_str.ensures.bytes ∙ ap (λ (t : List ℕ). string_bytes c.push_heads.new.out ++ t) (sym (from_text d)))
    (grows_two d _ _ _ _ _
    (c.in_ok-push_sources.ensures
    ∙ ap (λ (f : List ℕ). string_bytes c.push_str.new.self ++ pieces_text d (from_pieces c.args.target.now c.args.schema.now f)) c.as_slice-from.ensures)
    (c.in_ok-push_where.ensures
    ∙ ap (λ (f : List ℕ). string_bytes c.push_sources.new.out ++ pieces_text d (where_pieces d c.args.schema.now f (map (atom_with 0 c.args.values.now) c.as_slice-2.result.now))) c.as_slice-from.ensures
    ∙ ap (λ (xs : List Atom). string_bytes c.push_sources.new.out ++ pieces_text d (where_pieces d c.args.schema.now c.args.part.now.from (map (atom_with 0 c.args.values.now) xs))) c.as_slice-2.ensures))))
