use Rattle.std.proofs.Common.{◌≡◌, ◌∙◌, ◌||◌, Bool, ap, sym}
use Rattle.ba_keys.specs.Literals.{atom_with}
use Rattle.ba_send.specs.Sendable.{atom_has_zero}
use Rattle.ba_sql_print.specs.Spelling.{AtomInRange}
use Rattle.ba_send.proofs.ZeroLemmas.{all_more, any_more}
use Rattle.ba_send.proofs.zero.atoms_have_zero.Goals.{then-found, else-found}
use Rattle.ba_send.proofs.zero.atoms_have_zero.Goals as goal

pub loop-atom-preserved : goal.loop-atom-preserved
loop-atom-preserved c =
    let here : Bool = c.atom_has_zero-here.result in
    let joins : c.if-found.found ≡ (c.loop-atom.found || here) = elim c.if-found.branch [
      | then-found w ↦ w.found-is ∙ w.if-found.true ∙ sym (ap (λ (b : Bool). b || here) w.if-found.true)
      | else-found w ↦ w.found-is ∙ sym (ap (λ (b : Bool). b || here) w.if-found.false)
    ] in (
      any_more atom_has_zero (atom_with 0 c.args.values.now) c.args.atoms.now c.loop-atom.atom-index c.atom-item.result c.loop-atom.found here c.if-found.found c.loop-atom-test.true c.atom-item.is
          c.loop-atom.invariant.0 c.atom_has_zero-here.ensures.zero joins,
      all_more AtomInRange (atom_with 0 c.args.values.now) c.args.atoms.now c.loop-atom.atom-index c.atom-item.result c.loop-atom-test.true c.atom-item.is c.loop-atom.invariant.1 c.atom_has_zero-here.ensures.range,
    )
