-- An answer with its evidence complies, and a text reads as a query that is checked.
use Rattle.std.proofs.Common.{ℕ, List, [], subst, sym}
use Rattle.ba_machine_laws.proofs.AgreeLemmas.{admitted}
use Rattle.ba_machine_laws.proofs.FitLemmas.{question_fits}
use Rattle.ba_machine_laws.specs.Agreeing.{HasFound, opened_of}
use Rattle.ba_machine_laws.specs.Whole.{AreSound}
use Rattle.ba_comply.specs.Comply.{Complies, Strong, StrongComplies}
use Rattle.ba_core.specs.State.{State}
use Rattle.ba_direct.specs.Cover.{CoverCovers, CoveredIsStrong}
use Rattle.ba_settle.proofs.SettledLemmas.{proof_closes}
use Rattle.ba_kernel.proofs.StepFits.{All-at}
use Rattle.ba_kernel.specs.Asked.{AnswersAreRecords, QuestionFits, QuestionIsProblem}
use Rattle.ba_kernel.specs.Courses.{ClosedIsStrong, Slots}
use Rattle.ba_kernel.specs.Courses as courses
use Rattle.ba_kernel.specs.Problems.{ProblemIsQuestion, StrongAll}
use Rattle.ba_kernel.specs.SearchStates.{Proof}
use Rattle.ba_kernel.specs.declared.problem.Problem.{Problem}
use Rattle.ba_kernel.specs.declared.step.Step.{Step}
use Rattle.ba_model.specs.Conform.{Conforms}
use Rattle.ba_model.specs.Fit.{IsQuery, kinds_of}
use Rattle.ba_model.specs.declared.policy.Policy.{Policy}
use Rattle.ba_model.specs.declared.query.Query.{Query}
use Rattle.ba_machine_laws.proofs.LineLemmas.{AnswersComply}
use Rattle.ba_session.specs.Asking.{IsRequestOf, IsServable, IsGround, question}
use Rattle.ba_session.specs.Passing.{ShelfCalls}
use Rattle.ba_session.specs.declared.reply.By.{By}
use Rattle.ba_session.specs.declared.reply.By.TheVariants as by
use Rattle.ba_session.specs.declared.request.Request.{Request}
use Rattle.ba_settle.specs.Settling.{Effort}
use Rattle.ba_template.specs.Found.{MatchedIsStrong}

-- the laws of the crates below on which it rests
pub record Grounds : Type 0 where
  pub records : AnswersAreRecords
  pub closed : ClosedIsStrong
  pub covers : CoverCovers
  pub covered : CoveredIsStrong
  pub matched : MatchedIsStrong
  pub problem : ProblemIsQuestion
  pub question : QuestionIsProblem
  pub complies : StrongComplies

strong_by : Grounds → (number : ℕ → ℕ → ℕ) (policy : Policy) (t : State) (asker : Request) (effort : Effort) (query : Query) (made : ShelfCalls) (basis : By) → IsServable policy → AreSound t →
    HasFound number t made → IsRequestOf policy asker → IsQuery policy.schema (kinds_of policy.params) [] query → IsGround policy asker effort query basis made →
    Strong policy asker.context asker.trace query
strong_by laws number policy t asker effort query made (by.Cover cover) checked sound found may asks ground =
    laws.covered policy asker.context asker.trace query checked.fits may.context (laws.covers policy asker.context query cover ground.0)
strong_by laws number policy t asker effort query made (by.Template shard id template it) checked sound found may asks ground =
    let there = admitted number policy t asker query shard id template it made found ground in
    laws.matched template.problem policy asker.context asker.trace query it
    (All-at (λ (it : Proof). StrongAll it.problem) t.templates (number shard id) template sound there) may.context ground.first.first.is_match
strong_by laws number policy t asker effort query made (by.Proof steps keeping) checked sound found may asks ground =
    let fits : QuestionFits policy asker.context asker.trace query = question_fits laws.records policy asker query checked may asks in
    let p = question policy asker query in
    let left = proof_closes effort p (record { problem = p; steps = steps }) ground.proof in
    laws.problem policy asker.context asker.trace query may.context
    (laws.closed p steps left.0 (laws.question policy asker.context asker.trace query fits) left.1 left.2)

-- an answer complies on a machine that has the request
pub answers_comply : Grounds → AnswersComply
answers_comply laws number policy t k asker effort query rows made basis checked has sound found may asks ground answer =
    let strong = strong_by laws number policy t asker effort query made basis checked sound found may asks ground in
    record {
      asker = opened_of asker;
      is_open = has.is_open;
      tables = asker.tables;
      pinned = has.is_for.tables_are;
      conforms = subst (λ (p : Policy). Conforms p.schema asker.tables.rows) (sym has.is_for.policy_is) may.conforms;
      recorded = may.recorded;
      answer = answer;
      complies = subst (λ (p : Policy). Complies p asker.context asker.trace query) (sym has.is_for.policy_is) (laws.complies policy asker.context asker.trace query strong);
    }
