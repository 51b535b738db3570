use Rattle.std.proofs.Common.{Err, subst}
use Rattle.ba_kernel.specs.Replays.{Replays}
use Rattle.ba_audit.specs.Tests.{question}
use Rattle.ba_audit.proofs.AskLemmas.{closes_no, closes_unknown, closes_yes}
use Rattle.ba_audit.proofs.answers.closes.Goals as goal
use Rattle.ba_audit.proofs.answers.closes.Goals.{in-Ok, in-Err-Fault, in-Err-NoMemory}

pub returns : goal.returns
returns c =
    let p = question c.args.policy.now c.args.asker.now c.args.query.now in
    let seen = c.in_ok-problem.problem in
    let same = c.in_ok-problem.ensures.is in
    let steps = c.args.steps.now in
    let copy = c.in_ok-steps.steps in
    elim c.match-replay.branch [
      | in-Ok w ↦ closes_yes p seen same steps copy c.in_ok-steps.ensures c.match-replay.result w.in-Ok.ensures.0 w.result-is
      | in-Err-Fault w ↦ closes_no p seen same steps copy c.in_ok-steps.ensures c.match-replay.result c.replays_have_one_end.ensures (c.in_ok-problem.ensures.fits c.requires.fits) w.in-Err-Fault.field-0-0
          (subst (λ z. Replays seen copy (Err z)) w.in-Err-Fault.field-0-is w.in-Err-Fault.ensures) w.result-is
      | in-Err-NoMemory w ↦ closes_unknown p seen same steps copy c.in_ok-steps.ensures c.match-replay.result _ w.result-is
    ]
