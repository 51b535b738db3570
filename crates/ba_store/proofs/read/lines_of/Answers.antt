use Rattle.std.proofs.Common.{rules, ◌+◌, List, ℕ, Err, ap}
use Rattle.ba_model.specs.Limits.{most_templates}
use Rattle.ba_kernel.specs.SearchStates.{Proof}
use Rattle.ba_store.proofs.LineLemmas.{bad_next, few_more, one_more}
use Rattle.ba_store.specs.Loads.{Answers, LinesLoad}
use Rattle.ba_store.proofs.read.lines_of.Goals as goal

pub returns-in_err-template : goal.returns-in_err-template
returns-in_err-template c =
    let before = c.loop-bytes in
    let fails : Answers {Y = List Proof} (Err c.in_err-template.field-0.0) (LinesLoad c.args.policy.now c.args.lines) =
    bad_next c.args.policy.now c.args.lines c.in-Some.bytes.now before.bytes-iterator c.next.new.self before.found (c.len.result + 1) c.in_err-template.field-0.0 before.invariant.0
    c.in-Some.ensures.steps (ap (λ (n : ℕ). n + 1) c.len.ensures) c.in_err-template.ensures
    in search rules

pub loop-bytes-preserved : goal.loop-bytes-preserved
loop-bytes-preserved c =
    let before = c.loop-bytes in (
      one_more c.args.policy.now c.args.lines c.in-Some.bytes.now before.bytes-iterator c.next.new.self before.found c.push.new.self c.in_ok-template.template before.invariant.0
          c.in-Some.ensures.steps c.in_ok-template.ensures c.in_ok-push.ensures.ok,
      few_more c.args.policy.now c.args.lines c.in-Some.bytes.now before.bytes-iterator c.next.new.self before.found c.push.new.self c.in_ok-template.template most_templates
          c.in-Some.ensures.steps c.in_ok-push.ensures.ok before.invariant.1,
    )
