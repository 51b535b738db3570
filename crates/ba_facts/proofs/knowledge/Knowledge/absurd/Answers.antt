use Rattle.std.proofs.Common.{sym, ◌∙◌}
use Rattle.ba_facts.proofs.ApartLemmas.{absurd_by_apart, absurd_by_clash, absurd_by_rising, absurd_last}
use Rattle.ba_facts.specs.Knowing.{IsClashing, IsRising}
use Rattle.ba_facts.specs.Shown.{Absurd}
use Rattle.ba_facts.proofs.knowledge.Knowledge.absurd.Goals as goal
use Rattle.ba_facts.proofs.knowledge.Knowledge.absurd.Goals.{then-order_is_absurd, else-order_is_absurd}

pub returns-then-classes_clash : goal.returns-then-classes_clash
returns-then-classes_clash c =
    let k = c.args.self.now in
    let h : Absurd k =
    elim c.if-order_is_absurd.branch [
      | then-order_is_absurd w ↦ absurd_by_rising (c.order_is_absurd.ensures.0 w.if-order_is_absurd.true)
      | else-order_is_absurd w ↦ absurd_by_clash (w.classes_clash.ensures.0 (sym w.value-is ∙ c.if-classes_clash.true))
    ] in
    (λ _. h, λ _. c.if-classes_clash.true)

pub returns-else-classes_clash : goal.returns-else-classes_clash
returns-else-classes_clash c =
    let k = c.args.self.now in
    let low : IsRising k → ⊥ =
    elim c.if-order_is_absurd.branch [
      | then-order_is_absurd w ↦ cc
      | else-order_is_absurd w ↦ λ h. cc (c.order_is_absurd.ensures.1 h)
    ] in
    let clash : IsClashing k → ⊥ =
    elim c.if-order_is_absurd.branch [
      | then-order_is_absurd w ↦ cc
      | else-order_is_absurd w ↦ λ h. cc (w.classes_clash.ensures.1 h)
    ] in
    (λ h. absurd_by_apart (c.some_apart_is_equal.ensures.0 h), λ h. c.some_apart_is_equal.ensures.1 (absurd_last low clash h))
