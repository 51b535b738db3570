-- The image of a leaf of a question of equations is a counterexample, where its literals are small.
use Rattle.std.proofs.Common.{subst}
use Rattle.ba_comply.specs.declared.trace.TraceEntry.{TraceEntry}
use Rattle.std.specs.Prelude.{List}
use Rattle.ba_facts.specs.declared.term.Side.TheVariants.{One, Two}
use Rattle.ba_kernel.specs.Asked.{QuestionFits}
use Rattle.ba_kernel.specs.Problems.{problem_of}
use Rattle.ba_model.specs.declared.policy.Context.{Context}
use Rattle.ba_model.specs.declared.policy.Policy.{Policy}
use Rattle.ba_model.specs.declared.query.Query.{Query}
use Rattle.ba_refute.specs.Counterexamples.{IsPairStored, Meets}
use Rattle.ba_refute.specs.Images.{IsImage, literals}
use Rattle.ba_refute.specs.declared.clause.Clause.{Clause}
use Rattle.ba_refute.specs.declared.clause.Clause.TheVariants.{Value as ValueClause, ConformOne, ConformTwo, Within as WithinClause, Shown, Asked, Absent}
use Rattle.ba_refute.specs.declared.clause.Counterexample.{Counterexample}
use Rattle.ba_settle.specs.declared.ends.Leaf.{Leaf}
use Rattle.ba_refute.proofs.EquationLeaves.{goal_in, image, imaged, meets}
use Rattle.ba_refute.proofs.StoredLemmas.{row_stored, side_stored}
use Rattle.ba_refute.specs.OfEquations.{AreSmall, ImagesRefute, IsDueLeafOf, IsQuestionOfEquations}

module _ (policy : Policy) (c : Context) (trace : List TraceEntry) (q : Query) (leaf : Leaf) (it : Counterexample) (fits : QuestionFits policy c trace q)
    (of : IsQuestionOfEquations policy trace q) (is : IsDueLeafOf policy c trace q leaf) (image_is : IsImage leaf.problem c leaf.branch it) (small : AreSmall leaf.problem leaf.branch) where
  own : AreSmall (problem_of policy c trace q) leaf.branch
  own = subst (λ z. AreSmall z leaf.branch) is.problem small

  stored : IsPairStored it
  stored =
      let pair = image policy c trace q leaf it fits of is small.unknowns image_is in
      let all = literals (problem_of policy c trace q) leaf.branch in
      let known = imaged policy c trace q leaf it fits of is small.unknowns image_is in
      let here = goal_in policy c trace q leaf it fits of is small.unknowns image_is in
      record {
        one = side_stored policy.schema c all pair.values leaf.branch known own.stored own.few One it.one pair.one;
        two = side_stored policy.schema c all pair.values leaf.branch known own.stored own.few Two it.two pair.two;
        row = row_stored policy.schema c all pair.values leaf.branch known own.stored own.few leaf.branch.goal it.row here pair.row;
      }

  each : (clause : Clause) → Meets policy c trace q it clause
  each ValueClause = stored
  each ConformOne = meets policy c trace q leaf it fits of is small.unknowns image_is ConformOne (λ e. cc)
  each ConformTwo = meets policy c trace q leaf it fits of is small.unknowns image_is ConformTwo (λ e. cc)
  each WithinClause = meets policy c trace q leaf it fits of is small.unknowns image_is WithinClause (λ e. cc)
  each Shown = meets policy c trace q leaf it fits of is small.unknowns image_is Shown (λ e. cc)
  each Asked = meets policy c trace q leaf it fits of is small.unknowns image_is Asked (λ e. cc)
  each Absent = meets policy c trace q leaf it fits of is small.unknowns image_is Absent (λ e. cc)

pub images_refute : ImagesRefute
images_refute policy c trace q leaf it fits of is small image_is = record { meets = each policy c trace q leaf it fits of is image_is small }
