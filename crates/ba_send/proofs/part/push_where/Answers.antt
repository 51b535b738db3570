use Rattle.std.proofs.Common.{◌∙◌, ◌++◌, List, ℕ, ap, string_bytes, sym}
use Rattle.ba_keys.specs.Literals.{atom_with}
use Rattle.ba_send.proofs.GrowLemmas.{grows_where, no_where}
use Rattle.ba_send.proofs.TextLemmas.{where_text}
use Rattle.ba_send.proofs.part.push_where.Goals as goal

pub returns-in-empty : goal.returns-in-empty
returns-in-empty c =
    no_where c.args.database c.args.schema.now c.args.from.now (atom_with 0 c.args.values.now) c.args.atoms.now (string_bytes c.args.out.now) c.in-empty.len_below

pub returns-in_ok-push_next_atoms-in-len1-up : goal.returns-in_ok-push_next_atoms-in-len1-up
returns-in_ok-push_next_atoms-in-len1-up c =
    grows_where c.args.database c.args.schema.now c.args.from.now (atom_with 0 c.args.values.now) c.args.atoms.now c.first-item.result _ _ _ _
    c.in-len1-up.len_at_least c.first-item.is
    (c.in_ok-push_str-in-len1-up.ensures.bytes ∙ ap (λ (t : List ℕ). string_bytes c.args.out.now ++ t) (sym (where_text c.args.database)))
    c.in_ok-push_atom-in-len1-up.ensures c.in_ok-push_next_atoms-in-len1-up.ensures
