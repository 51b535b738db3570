use Rattle.std.proofs.Common.{◌++◌, ◌∷◌, [], List, map, take, subst, sym}
use Rattle.ba_model.specs.declared.value.Value.{Value}
use Rattle.ba_refute.specs.Images.{IsMarks}
use Rattle.ba_refute.proofs.TextLemmas.{map_taken, marks_more, marks_same}
use Rattle.ba_refute.proofs.texts.marks.Goals as goal
use Rattle.ba_refute.proofs.texts.marks.Goals.{then-marks-more, else-marks-more}

pub loop-value-preserved : goal.loop-value-preserved
loop-value-preserved c =
    let vs : List Value = map (λ v. v.now) (take c.loop-value.value-index c.args.values.now) in
    let v : Value = c.value-item.result.now in
    let one = map_taken (λ v. v.now) c.args.values.now c.loop-value.value-index c.value-item.result c.loop-value-test.true c.value-item.is in
    subst (λ (ws : List Value). IsMarks ws c.if-marks-more.marks) (sym one)
    (elim c.if-marks-more.branch [
      | then-marks-more w ↦ subst (IsMarks (vs ++ v ∷ [])) (sym w.marks-is) (marks_more vs v c.loop-value.marks c.in_ok-more.more c.loop-value.invariant c.in_ok-more.ensures w.if-marks-more.true)
      | else-marks-more w ↦ subst (IsMarks (vs ++ v ∷ [])) (sym w.marks-is) (marks_same vs v c.loop-value.marks c.in_ok-more.more c.loop-value.invariant c.in_ok-more.ensures w.if-marks-more.false)
    ])
