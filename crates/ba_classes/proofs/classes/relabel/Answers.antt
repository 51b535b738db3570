use Rattle.std.proofs.Common.{◌≡◌, ◌<◌, ℕ, arith, cond, eqb, get_or, length, refl, sym, ◌∙◌}
use Rattle.std.proofs.lemmas.Bool.{cond-true, cond-false, eq-eqb, ne_eqb}
use Rattle.std.proofs.lemmas.List.{get_or_default}
use Rattle.std.proofs.lemmas.List.Edits.{map_over_more}
use Rattle.ba_classes.proofs.MergeLemmas.{front_kept}
use Rattle.ba_classes.proofs.classes.relabel.Goals as goal
use Rattle.ba_classes.proofs.classes.relabel.Goals.{then-old-from, else-old-from}

pub loop-place-init : goal.loop-place-init
loop-place-init c = front_kept c.args.from c.args.to c.args.from c.args.labels.now c.requires refl

pub loop-place-preserved : goal.loop-place-preserved
loop-place-preserved c =
    let old : ℕ = get_or c.loop-place.labels c.loop-place.place 0 in
    let written : c.if-old-from.labels ≡ cond (eqb old c.args.from) c.args.to old =
    elim c.if-old-from.branch [ then-old-from w ↦ w.labels-is ∙ sym (cond-true (eqb old c.args.from) c.args.to old (eq-eqb _ _ w.if-old-from.true)) | else-old-from w ↦ w.labels-is ∙ sym (cond-false (eqb old c.args.from) c.args.to old (ne_eqb _ _ w.if-old-from.false)) ] in
    let within : c.loop-place.place < length c.loop-place.labels = omega arith in
    rw written
    (map_over_more (λ label. cond (eqb label c.args.from) c.args.to label) c.args.labels.now c.loop-place.labels c.loop-place.place old c.loop-place-test.true c.loop-place.invariant (get_or_default c.loop-place.labels c.loop-place.place 0 old within))
