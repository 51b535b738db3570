use Rattle.std.proofs.Common.{◌≡◌, subst, sym}
use Rattle.std.specs.List.{Contains}
use Rattle.ba_instant.proofs.OutlookLemmas.{keeps_met}
use Rattle.ba_instant.specs.Outlooks.{KeepsAt}
use Rattle.ba_instant.proofs.outlook.Outlook.agreeing.Goals as goal
use Rattle.ba_instant.proofs.outlook.Outlook.agreeing.Goals.{then-are_linked+in_ok-left-2, else-are_linked}

pub loop-atom-preserved : goal.loop-atom-preserved
loop-atom-preserved c =
    let own = c.args.self.now in
    let it = c.args.it.now in
    let among : Contains c.as_slice-atom-items.result.now c.atom-item.result = (c.loop-atom.atom-index, c.loop-atom-test.true, sym c.atom-item.is) in
    elim c.if-are_linked.branch [
      | then-are_linked+in_ok-left-2 w ↦
          let e : c.if-are_linked.left.items ≡ w.in_ok-left-2.left.items = cc (w.left-is) in
          subst (KeepsAt own c.args.chosen it.place it.facts.items) (sym e)
          (keeps_met own c.atom-item.result c.args.chosen it.place it.facts.items w.deref.result.now w.in_ok-left-2.left.items
          (subst (λ atoms. Contains atoms c.atom-item.result) c.as_slice-atom-items.ensures among) w.in_ok-left-2.ensures
          (subst (KeepsAt own c.args.chosen it.place it.facts.items) (sym w.deref.ensures.value) c.loop-atom.invariant))
      | else-are_linked w ↦
          let e : c.if-are_linked.left.items ≡ c.loop-atom.left.items = cc (w.left-is) in
          subst (KeepsAt own c.args.chosen it.place it.facts.items) (sym e) c.loop-atom.invariant
    ]
