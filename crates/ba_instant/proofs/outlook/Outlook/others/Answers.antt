use Rattle.std.proofs.Common.{◌≡◌, ◌∙◌, refl, subst, sym}
use Rattle.ba_instant.proofs.OutlookLemmas.{others_push}
use Rattle.ba_instant.specs.Outlooks.{Keeps}
use Rattle.ba_instant.proofs.outlook.Outlook.others.Goals as goal
use Rattle.ba_instant.proofs.outlook.Outlook.others.Goals.{then-it-chosen+in_ok-facts+in_ok-push+else-is_bare, else-it-chosen}

pub returns-then-is_bare : goal.returns-then-is_bare
returns-then-is_bare c =
    others_push c.args.self.now c.args.chosen c.args.places.now c.loop-it.others.items c.push.new.self.items c.it-item.result
    (record { place = c.it-item.result.place; facts = c.in_ok-facts.facts }) c.in_ok-push.ensures.items (c.loop-it.it-index, c.loop-it-test.true, sym c.it-item.is) refl
    c.in_ok-facts.ensures c.loop-it.invariant

pub loop-it-preserved : goal.loop-it-preserved
loop-it-preserved c =
    elim c.if-it-chosen.branch [
      | then-it-chosen+in_ok-facts+in_ok-push+else-is_bare w ↦
          let e : c.if-it-chosen.others.items ≡ w.push.new.self.items = cc (w.others-is) in
          others_push c.args.self.now c.args.chosen c.args.places.now c.loop-it.others.items c.if-it-chosen.others.items c.it-item.result
          (record { place = c.it-item.result.place; facts = w.in_ok-facts.facts }) (e ∙ w.in_ok-push.ensures.items) (c.loop-it.it-index, c.loop-it-test.true, sym c.it-item.is) refl
          w.in_ok-facts.ensures c.loop-it.invariant
      | else-it-chosen w ↦
          let e : c.if-it-chosen.others.items ≡ c.loop-it.others.items = cc (w.others-is) in
          subst (Keeps c.args.self.now c.args.chosen c.args.places.now) (sym e) c.loop-it.invariant
    ]
