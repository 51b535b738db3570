use Rattle.std.proofs.Common.{◌∙◌, ◌∷◌, ◌++◌, [], ap, sym}
use Rattle.ba_model.specs.declared.query.Atom.{Atom}
use Rattle.ba_weaker.specs.Weaker.{IsShared}
use Rattle.ba_weaker.proofs.StepLemmas.{chosen_more, chosen_same}
use Rattle.ba_weaker.proofs.weaken.shared_conds.Goals.{then-is_shared+in_ok-own+in_ok-push, else-is_shared}
use Rattle.ba_weaker.proofs.weaken.shared_conds.Goals as goal

pub loop-atom-preserved : goal.loop-atom-preserved
loop-atom-preserved c =
    let old = c.loop-atom.shared in
    let x = c.atom-item.result in
    let P = IsShared c.args.parts.now in
    elim c.if-is_shared.branch [
      | then-is_shared+in_ok-own+in_ok-push w ↦
          chosen_more P c.args.conds.now old c.if-is_shared.shared c.loop-atom.atom-index x c.loop-atom-test.true c.atom-item.is (c.is_shared.ensures.0 w.if-is_shared.true) c.loop-atom.invariant
          (w.shared-is ∙ w.in_ok-push.ensures.ok ∙ ap (λ (z : Atom). old ++ z ∷ []) w.in_ok-own.ensures)
      | else-is_shared w ↦
          chosen_same P c.args.conds.now old c.if-is_shared.shared c.loop-atom.atom-index x c.loop-atom-test.true c.atom-item.is (λ so. absurd (cc (sym w.if-is_shared.false ∙ c.is_shared.ensures.1 so))) c.loop-atom.invariant w.shared-is
    ]
