use Rattle.std.proofs.Common.{◌∙◌, ◌<◌, [], ◌∷◌, map, sym, ap, subst}
use Rattle.std.proofs.lemmas.List.{map-append}
use Rattle.ba_judge.specs.Judging.{seen}
use Rattle.ba_decide.specs.Evident.{AreEvidence, told_evidence}
use Rattle.std.proofs.Common.{take, ◌+◌}
use Rattle.ba_decide.proofs.EvidentLemmas.{evidence_more}
use Rattle.ba_decide.proofs.evident.parts_told.Goals as goal

pub loop-i-preserved : goal.loop-i-preserved
loop-i-preserved c =
    let i = c.loop-i.i in
    let told = c.in_ok-told.told in
    subst (λ es. AreEvidence (seen c.args.asking.now) (take (i + 1) c.args.parts.now) (take (i + 1) c.args.grounds.now) es)
    (sym (ap (map told_evidence) c.in_ok-push.ensures.items ∙ map-append told_evidence c.loop-i.all.items (told ∷ [])))
    (evidence_more (seen c.args.asking.now) c.args.parts.now c.args.grounds.now i (map told_evidence c.loop-i.all.items) c.index-parts-i.result c.index-grounds-i.result (told_evidence told)
    c.loop-i-test.true (subst (λ n. i < n) c.if-parts-grounds.false c.loop-i-test.true) c.index-parts-i.is c.index-grounds-i.is c.loop-i.invariant c.in_ok-told.ensures)
