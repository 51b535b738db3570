use Rattle.std.proofs.Common.{◌∷◌, [], arith, codes, subst}
use Rattle.std.proofs.lemmas.Result.{on_ok_weaker}
use Rattle.json.specs.Token.{key, string}
use Rattle.ba_wire.specs.Appended.{Puts}
use Rattle.ba_wire.proofs.AnswerLemmas.{puts_one}
use Rattle.ba_wire.proofs.BriefLemmas.{refuted_added}
use Rattle.ba_wire.proofs.brief.push_refuted.Goals as goal

pub returns : goal.returns
returns c =
    let own = c.ranges.line.fits in
    let its = c.ranges.version.fits in
    on_ok_weaker c.end_object.result
    (λ e. refuted_added c.args.line c.args.request.now c.args.version (omega (arith, own)) (omega (arith, its))
    (puts_one c.begin_object.ensures.room.0 c.in_ok-begin_object.ensures.ok)
    c.in_ok-push_text_member.ensures
    c.in_ok-push_count_member.ensures
    (subst (λ text. Puts (key (codes "request") ∷ string text ∷ []) c.push_count_member.new.out c.push_text_member-2.new.out) c.as_str.ensures c.in_ok-push_text_member-2.ensures)
    c.in_ok-push_count_member-2.ensures
    (puts_one c.end_object.ensures.room.0 e))
    c.end_object.ensures.ok
