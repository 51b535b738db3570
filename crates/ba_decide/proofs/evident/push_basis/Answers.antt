use Rattle.std.proofs.Common.{◌∙◌, List, map, sym, ap, subst}
use Rattle.std.proofs.lemmas.Result.{on_ok_weaker}
use Rattle.ba_judge.specs.Judging.{seen}
use Rattle.ba_judge.specs.declared.verdict.By.{By}
use Rattle.ba_model.specs.declared.query.Part.{Part}
use Rattle.ba_evidence.specs.Evidence.{evidence}
use Rattle.ba_decide.specs.Evident.{AreEvidence, IsEvidence, told_evidence}
use Rattle.ba_decide.proofs.EvidentLemmas.{adds_parts, adds_whole}
use Rattle.ba_decide.proofs.evident.push_basis.Goals as goal

pub returns-in_ok-told-in-Whole : goal.returns-in_ok-told-in-Whole
returns-in_ok-told-in-Whole c =
    let asked = seen c.args.asking.now in
    let by = c.in-Whole.ground in
    let is = subst (IsEvidence asked by) (sym c.ground-ground.ensures) c.in_ok-told-in-Whole.ensures in
    on_ok_weaker c.push.result (adds_whole c.args.params.now asked c.args.allowed.now by c.needed-by.result (evidence c.ground-ground.result) c.args.grounds.now c.push.new.self c.in-Whole.is c.needed-by.ensures is) c.push.ensures

pub returns-in_ok-its-in-Parts : goal.returns-in_ok-its-in-Parts
returns-in_ok-its-in-Parts c =
    let asked = seen c.args.asking.now in
    let bys = c.in-Parts.list in
    let its = c.as_slice-in-Parts-2.result.now in
    let told = map told_evidence c.in_ok-all-in-Parts.all.items in
    let same = sym (ap (map evidence) c.as_slice-in-Parts-2.ensures.value ∙ c.in_ok-its-in-Parts.ensures ∙ ap (map told_evidence) c.as_slice-in-Parts.ensures.value) in
    let of_parts = subst (λ (ps : List Part). AreEvidence asked ps c.as_slice.result.now told) (c.as_slice-parts.ensures ∙ ap (λ q. q.parts) c.deref.ensures) c.in_ok-all-in-Parts.ensures in
    let of_bys = subst (λ (bs : List By). AreEvidence asked asked.query.parts bs told) c.as_slice.ensures of_parts in
    let are = subst (AreEvidence asked asked.query.parts bys) same of_bys in
    on_ok_weaker c.push-in-Parts.result (adds_parts c.args.params.now asked c.args.allowed.now bys c.needed-by.result (map evidence its) c.args.grounds.now c.push-in-Parts.new.self c.in-Parts.is c.needed-by.ensures are) c.push-in-Parts.ensures
