-- What a saturated leaf shows of its question.
use Rattle.std.specs.Prelude.{◌≡◌, List}
use Rattle.ba_comply.specs.declared.trace.TraceEntry.{TraceEntry}
use Rattle.ba_facts.specs.declared.branch.Branch.{Branch}
use Rattle.ba_settle.specs.Dues.{DueList}
use Rattle.ba_settle.specs.declared.ends.Leaf.{Leaf}
use Rattle.ba_settle.specs.declared.order.Pick.{Pick}
use Rattle.ba_kernel.specs.Asked.{QuestionFits}
use Rattle.ba_kernel.specs.Courses.{Slots}
use Rattle.ba_kernel.specs.Problems.{problem_of}
use Rattle.ba_kernel.specs.declared.problem.Problem.{Problem}
use Rattle.ba_model.specs.declared.policy.Context.{Context}
use Rattle.ba_model.specs.declared.policy.Policy.{Policy}
use Rattle.ba_model.specs.declared.query.Query.{Query}
use Rattle.ba_refute.specs.Counterexamples.{IsCounterexample, IsFirstUnmet}
use Rattle.ba_refute.specs.Images.{IsImage}
use Rattle.ba_refute.specs.OfEquations.{AreSmall, IsQuestionOfEquations}
use Rattle.ba_refute.specs.declared.clause.Clause.{Clause}
use Rattle.ba_refute.specs.declared.clause.Counterexample.{Counterexample}
use Rattle.ba_refute.specs.declared.question.Question.{Question}
use Rattle.ba_refute.specs.declared.refutal.Refutal.{Refutal}
use Rattle.ba_refute.specs.declared.refutal.Refutal.TheVariants.{Pair, Stuck}
use Rattle.ba_refute.specs.declared.refutal.Tried.{Tried}
use Rattle.ba_refute.specs.declared.refutal.Tried.TheVariants as tried

-- ---- questions

-- the policy is a checked one, and the context, the trace and the query fit it
abbrev pub AskedFits : Question → Type 0
AskedFits it = QuestionFits it.policy.now it.context.now it.trace.now it.query.now

-- the question's problem
abbrev pub problem_asked : Question → Problem
problem_asked it = problem_of it.policy.now it.context.now it.trace.now it.query.now

-- the pair meets each clause for the question, or this is the first that it doesn't meet
abbrev pub IsCounterexampleTo : Question → Counterexample → Type 0
IsCounterexampleTo it pair =
    IsCounterexample it.policy.now it.context.now it.trace.now it.query.now pair

abbrev pub FailsFirst : Question → Counterexample → Clause → Type 0
FailsFirst it pair clause =
    IsFirstUnmet it.policy.now it.context.now it.trace.now it.query.now pair clause

-- ---- what a leaf shows

-- the image of the leaf's branch is this pair, which is a counterexample
pub record IsRefutedBy (policy : Policy) (c : Context) (trace : List TraceEntry) (q : Query)
    (leaf : Leaf) (pair : Counterexample) : Type 0 where
  pub image_is : IsImage leaf.problem c leaf.branch pair
  pub refutes : IsCounterexample policy c trace q pair

-- This is the first clause that the image of the leaf's branch doesn't meet; the leaf is as it was.
-- Where its steps are a due list, some column may be NULL, or another atom than `=` is used.
pub record IsStuckAt (policy : Policy) (c : Context) (trace : List TraceEntry) (q : Query)
    (leaf other : Leaf) (clause : Clause) : Type 0 where
  pub same : other ≡ leaf
  pub image : Counterexample
  pub image_is : IsImage leaf.problem c leaf.branch image
  pub unmet : IsFirstUnmet policy c trace q image clause
  pub beyond_equations : (pick : Pick) (slots : Slots) →
      DueList pick leaf.problem leaf.steps slots → ¬ (IsQuestionOfEquations policy trace q)

-- which of the two it is, of a question under a policy and a context after a trace
abbrev pub IsRefutal : Policy → Context → List TraceEntry → Query → Leaf → Refutal → Type 0
IsRefutal policy c trace q leaf (Pair pair) = IsRefutedBy policy c trace q leaf pair
IsRefutal policy c trace q leaf (Stuck other clause) = IsStuckAt policy c trace q leaf other clause

abbrev pub TellsRefutal : Question → Leaf → Refutal → Type 0
TellsRefutal it leaf refutal =
    IsRefutal it.policy.now it.context.now it.trace.now it.query.now leaf refutal

-- ---- what a branch and a pair show

-- the pair, which is a counterexample, or the first clause that it doesn't meet
abbrev pub IsTested : Question → Counterexample → Tried → Type 0
IsTested asked it (tried.Pair found) = (found ≡ it) × IsCounterexampleTo asked it
IsTested asked it (tried.Stuck clause) = FailsFirst asked it clause

-- the image of the branch, which is a counterexample, or the first clause that it doesn't meet, where
-- the numbers of the problem and the branch are small
abbrev pub TellsTried : Question → Problem → Branch → Tried → Type 0
TellsTried asked p b (tried.Pair it) =
    IsImage p asked.context.now b it × IsCounterexampleTo asked it
TellsTried asked p b (tried.Stuck clause) =
    (it : Counterexample) × IsImage p asked.context.now b it × FailsFirst asked it clause ×
    AreSmall p b
