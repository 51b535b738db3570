use Rattle.std.proofs.Common.{◌∷◌, [], arith, codes, subst}
use Rattle.std.proofs.lemmas.Result.{on_ok_weaker}
use Rattle.json.specs.Token.{key, string}
use Rattle.ba_wire.specs.Appended.{Puts}
use Rattle.ba_wire.proofs.AnswerLemmas.{puts_one}
use Rattle.ba_wire.proofs.BriefLemmas.{end_added}
use Rattle.ba_wire.proofs.brief.push_end.Goals as goal

pub returns : goal.returns
returns c =
    let own = c.ranges.line.fits in
    on_ok_weaker c.end_object.result
    (λ e. end_added c.args.request.now c.args.line (omega (arith, own))
    (puts_one c.begin_object.ensures.room.0 c.in_ok-begin_object.ensures.ok)
    (subst (λ text. Puts (key (codes "end") ∷ string text ∷ []) c.begin_object.new.self c.push_text_member.new.out) c.as_str.ensures c.in_ok-push_text_member.ensures)
    c.in_ok-push_count_member.ensures
    (puts_one c.end_object.ensures.room.0 e))
    c.end_object.ensures.ok
