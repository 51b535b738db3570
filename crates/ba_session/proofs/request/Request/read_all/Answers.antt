use Rattle.std.proofs.Common.{◌≡◌, ◌∙◌, ◌<◌, ◌≤◌, List, Some, ap, arith, length, refl, rules, slice_get, subst, sym}
use Rattle.std.proofs.lemmas.Option.{slice_get_within}
use Rattle.ba_kernel.specs.Asked.{QuestionFits}
use Rattle.ba_model.specs.declared.query.Query.{Query}
use Rattle.ba_session.proofs.ReadingLemmas.{ReadingAt, at_all, judged_allowed, judged_blocked, judged_none, judged_untold, pushed, reading_over, reading_start, room_here}
use Rattle.ba_session.specs.Asking.{effort_in}
use Rattle.ba_session.specs.declared.reply.By.{By}
use Rattle.ba_session.proofs.request.Request.read_all.Goals as goal

pub loop-i-init : goal.loop-i-init
loop-i-init g c = (
  refl,
  subst (λ (bases : List By). ReadingAt c.args.service.now.policy c.args.self.now (effort_in (g.S.Settle.orders c.args.settle.now) c.args.budget) c.args.queries bases 0 c.args.passes.now c.args.passes.now) (sym c.new-before.ensures)
      (reading_start c.args.service.now.policy c.args.self.now (effort_in (g.S.Settle.orders c.args.settle.now) c.args.budget) c.args.queries c.args.passes.now c.requires.room),
  c.requires.of,
)

pub get-query-requires : goal.get-query-requires
get-query-requires g c =
    let below : c.loop-i.i < length c.args.queries = search rules in
    let long : length c.loop-i.queries ≡ length c.args.queries = ap length c.loop-i.invariant.0 in
    omega (arith, below, long)

pub judge-judgement-requires-clause-fits : goal.judge-judgement-requires-clause-fits
judge-judgement-requires-clause-fits g c =
    at_all (QuestionFits c.args.service.now.policy c.args.self.now.context c.args.self.now.trace) c.args.queries c.loop-i.i c.get-query.result.now
    (subst (λ (qs : List Query). slice_get qs c.loop-i.i ≡ Some c.get-query.result.now) c.loop-i.invariant.0 c.get-query.ensures) c.requires.fit

pub judge-judgement-requires-clause-room : goal.judge-judgement-requires-clause-room
judge-judgement-requires-clause-room g c =
    room_here c.args.service.now.policy c.args.self.now (effort_in (g.S.Settle.orders c.args.settle.now) c.args.budget) c.args.queries c.loop-i.before c.loop-i.i c.args.passes.now c.loop-i.passes c.loop-i.invariant.1
    (slice_get_within c.args.queries c.loop-i.i c.get-query.result.now (subst (λ (qs : List Query). slice_get qs c.loop-i.i ≡ Some c.get-query.result.now) c.loop-i.invariant.0 c.get-query.ensures))

pub returns-then-is_err-clause-reads : goal.returns-then-is_err-clause-reads
returns-then-is_err-clause-reads g c =
    judged_untold c.args.service.now.policy c.args.self.now (effort_in (g.S.Settle.orders c.args.settle.now) c.args.budget) c.args.queries c.loop-i.before c.loop-i.i c.args.passes.now c.loop-i.passes c.judge-judgement.new.passes c.get-query.result.now
    c.loop-i.invariant.1 (subst (λ (qs : List Query). slice_get qs c.loop-i.i ≡ Some c.get-query.result.now) c.loop-i.invariant.0 c.get-query.ensures)
    c.judge-judgement.result c.judge-judgement.ensures.judges
    c.in-Allowed.by c.in-Allowed.is

pub returns-in-Blocked-clause-reads : goal.returns-in-Blocked-clause-reads
returns-in-Blocked-clause-reads g c =
    let (made, blocked, makes) = judged_blocked c.args.service.now.policy c.args.self.now (effort_in (g.S.Settle.orders c.args.settle.now) c.args.budget) c.args.queries c.loop-i.before c.loop-i.i c.args.passes.now c.loop-i.passes c.judge-judgement.new.passes c.get-query.result.now
    c.loop-i.invariant.1 (subst (λ (qs : List Query). slice_get qs c.loop-i.i ≡ Some c.get-query.result.now) c.loop-i.invariant.0 c.get-query.ensures)
    c.judge-judgement.result c.judge-judgement.ensures.judges
    c.in-Blocked.why c.in-Blocked.is in
    (made, (c.loop-i.invariant.0, blocked), makes)

pub returns-in-NoMemory-clause-reads : goal.returns-in-NoMemory-clause-reads
returns-in-NoMemory-clause-reads g c =
    judged_none c.args.service.now.policy c.args.self.now (effort_in (g.S.Settle.orders c.args.settle.now) c.args.budget) c.args.queries c.loop-i.before c.loop-i.i c.args.passes.now c.loop-i.passes c.judge-judgement.new.passes c.get-query.result.now
    c.loop-i.invariant.1 (subst (λ (qs : List Query). slice_get qs c.loop-i.i ≡ Some c.get-query.result.now) c.loop-i.invariant.0 c.get-query.ensures)
    c.judge-judgement.result c.judge-judgement.ensures.judges
    c.in-NoMemory.is

pub loop-i-preserved : goal.loop-i-preserved
loop-i-preserved g c = (
  c.loop-i.invariant.0,
  judged_allowed c.args.service.now.policy c.args.self.now (effort_in (g.S.Settle.orders c.args.settle.now) c.args.budget) c.args.queries c.loop-i.before c.loop-i.i c.args.passes.now c.loop-i.passes c.judge-judgement.new.passes c.get-query.result.now
      c.loop-i.invariant.1 (subst (λ (qs : List Query). slice_get qs c.loop-i.i ≡ Some c.get-query.result.now) c.loop-i.invariant.0 c.get-query.ensures)
      c.judge-judgement.result c.judge-judgement.ensures.judges
      c.in-Allowed.by c.in-Allowed.is c.push.new.self (pushed c.push.result (sym c.is_err.ensures.value ∙ c.if-is_err.false) c.push.ensures.ok),
  c.judge-judgement.ensures.of,
)

pub returns-clause-reads : goal.returns-clause-reads
returns-clause-reads g c =
    let past : length c.args.queries ≤ c.loop-i.i = search rules in
    let (made, grounds, makes) = reading_over c.args.service.now.policy c.args.self.now (effort_in (g.S.Settle.orders c.args.settle.now) c.args.budget) c.args.queries c.loop-i.before c.loop-i.i c.args.passes.now c.loop-i.passes c.loop-i.invariant.1 past in
    (made, (c.loop-i.invariant.0, grounds), makes)
