use Rattle.std.proofs.Common.{◌∙◌, ◌++◌, ◌∷◌, [], Bool, List, ℕ, ap, string_bytes, sym}
use Rattle.ba_keys.specs.Literals.{operand_with}
use Rattle.ba_lex.specs.declared.token.Sign.TheVariants.{LeftParen, RightParen}
use Rattle.ba_model.specs.declared.query.Operand.{Operand}
use Rattle.ba_send.specs.Sent.{Piece, atom_pieces, if_right, operand_pieces, pieces_text, sign, sign_pieces}
use Rattle.ba_send.proofs.GrowLemmas.{grows_two}
use Rattle.ba_send.proofs.TextLemmas.{left_text, right_text}
use Rattle.ba_send.proofs.atom.push_atom.Goals as goal

pub returns : goal.returns
unfolding atom_pieces
returns c =
    let d = c.args.database in
    let side : Operand → Bool → List Piece = λ x exact. operand_pieces d c.args.schema.now c.args.from.now exact (operand_with 0 c.args.values.now x) in
    grows_two d _ _ _ (sign LeftParen ∷ []) _
    (c.in_ok-push_str.ensures.bytes ∙ ap (λ (t : List ℕ). string_bytes c.args.out.now ++ t) (sym (left_text d)))
    (grows_two d _ _ _ _ _
    (c.in_ok-push_operand.ensures ∙ ap (λ (b : Bool). string_bytes c.push_str.new.self ++ pieces_text d (side c.args.atom.now.left b)) c.is_exact-exact.ensures)
    (grows_two d _ _ _ (sign_pieces c.args.atom.now.op) _ c.in_ok-push_sign.ensures
    (grows_two d _ _ _ _ (sign RightParen ∷ [])
    (c.in_ok-push_right.ensures ∙ ap (λ (b : Bool). string_bytes c.push_sign.new.out ++ pieces_text d (if_right c.args.atom.now.op (side c.args.atom.now.right b))) c.is_exact-exact.ensures)
    (c.in_ok-push_str-2.ensures.bytes ∙ ap (λ (t : List ℕ). string_bytes c.push_right.new.out ++ t) (sym (right_text d))))))
