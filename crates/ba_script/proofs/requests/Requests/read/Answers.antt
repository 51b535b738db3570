use Rattle.std.proofs.Common.{◌≡◌, ◌∙◌, Some, refl, sym, ap, subst}
use Rattle.std.specs.Option.{IsSome, option_copied_mut}
use Rattle.ba_script.specs.Reading.{asked_more}
use Rattle.ba_script.specs.Tracking.{opened}
use Rattle.ba_script.proofs.TrackingLemmas.{asked_several}
use Rattle.ba_script.proofs.requests.Requests.read.Goals as goal

pub returns-clause-moves : goal.returns-clause-moves
returns-clause-moves c =
    let name = c.args.name in
    let old = c.args.self.now in
    let before = c.in-Some.opened.now in
    let is : opened old name ≡ Some before = sym c.get_mut.ensures.value ∙ ap option_copied_mut c.in-Some.is in
    let written = c.get_mut.follows.holds (asked_more c.in-Some-questions_left.questions before) in
    record {
      names = λ q. asked_several (opened old) name q before c.in-Some-questions_left.questions _ is ((written.3 (subst IsSome (sym is) refl)).0 q);
      count = refl;
      sets = refl;
    }
