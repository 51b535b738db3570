-- What an answer's evidence shows.
use Rattle.std.proofs.Common.{List}
use Rattle.ba_comply.specs.Comply.{Strong}
use Rattle.ba_direct.specs.Cover.{CoveredIsStrong}
use Rattle.ba_kernel.specs.Asked.{QuestionFits, QuestionIsProblem}
use Rattle.ba_kernel.specs.Courses.{ClosedIsStrong}
use Rattle.ba_kernel.specs.Problems.{ProblemIsQuestion}
use Rattle.ba_kernel.specs.declared.step.Step.{Step}
use Rattle.ba_model.specs.declared.policy.Policy.{Policy}
use Rattle.ba_model.specs.declared.query.Query.{Query}
use Rattle.ba_printed.specs.declared.line.Evidence.{Evidence}
use Rattle.ba_printed.specs.declared.line.Evidence.TheVariants as evidence
use Rattle.ba_audit.specs.Audits.{EvidenceIsStrong}
use Rattle.ba_audit.specs.Tests.{IsProof, IsProved, IsRightlyBy, question}
use Rattle.ba_audit.specs.declared.request.Asker.{Asker}

module _ (covered : CoveredIsStrong) (closed : ClosedIsStrong) (means : ProblemIsQuestion) (fitting : QuestionIsProblem) where
  by_steps : (policy : Policy) (asker : Asker) (q : Query) (steps : List Step) → QuestionFits policy asker.context asker.trace q → IsProof policy asker q steps → Strong policy asker.context asker.trace q
  by_steps policy asker q steps fits proof =
      means policy asker.context asker.trace q fits.context
      (closed (question policy asker q) steps proof.closes.slots (fitting policy asker.context asker.trace q fits) proof.closes.runs proof.closes.closed)

  by_evidence : (policy : Policy) (asker : Asker) (q : Query) (it : Evidence) → QuestionFits policy asker.context asker.trace q → IsRightlyBy policy asker q it → IsProved policy asker q it → Strong policy asker.context asker.trace q
  by_evidence policy asker q (evidence.Cover cover) fits by proved = covered policy asker.context asker.trace q fits.policy_fits fits.context by
  by_evidence policy asker q (evidence.Template steps) fits by proved = by_steps policy asker q steps fits proved
  by_evidence policy asker q (evidence.Proof steps) fits by proved = by_steps policy asker q steps fits proved

  pub evidence_strong : EvidenceIsStrong
  evidence_strong = by_evidence
