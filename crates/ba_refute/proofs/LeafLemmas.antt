-- The branch of a saturated leaf has an image.
use Rattle.std.proofs.Common.{◌≡◌, length, refl, subst, sym}
use Rattle.std.specs.List.{All}
use Rattle.ba_facts.specs.Shown.{Absurd}
use Rattle.ba_facts.specs.declared.branch.Branch.{Branch}
use Rattle.ba_settle.specs.Dues.{IsLeaf}
use Rattle.ba_settle.specs.declared.ends.Leaf.{Leaf}
use Rattle.ba_kernel.specs.Asked.{QuestionIsProblem}
use Rattle.ba_kernel.specs.Courses.{Runs}
use Rattle.ba_kernel.specs.SearchStates.{IsTidy, RunsAreTidy}
use Rattle.ba_kernel.specs.declared.problem.Problem.{Problem}
use Rattle.ba_kernel.specs.declared.step.Step.TheVariants as steps
use Rattle.ba_refute.proofs.GivenLemmas.{IsFixedOn, all_given, facts_given, open_fixed}
use Rattle.ba_refute.proofs.EquationsRefute.{images_refute}
use Rattle.ba_refute.specs.Images.{AreValued, IsValued}
use Rattle.ba_refute.specs.OfEquations.{IsDueLeafOf}
use Rattle.ba_refute.specs.Refutals.{AskedFits, TellsRefutal, TellsTried, problem_asked}
use Rattle.ba_refute.specs.declared.clause.Clause.{Clause}
use Rattle.ba_refute.specs.declared.clause.Counterexample.{Counterexample}
use Rattle.ba_refute.specs.declared.question.Question.{Question}
use Rattle.ba_refute.specs.declared.refutal.Refutal.TheVariants as refutal
use Rattle.ba_refute.specs.declared.refutal.Tried.{Tried}
use Rattle.ba_refute.specs.declared.refutal.Tried.TheVariants.{Pair, Stuck}

-- it isn't absurd, since else a step would close it
pub not_absurd : (leaf : Leaf) → IsLeaf leaf → (b : Branch) → b ≡ leaf.branch → ¬ (Absurd b.known)
not_absurd leaf is b same h =
    is.saturated.none_new (steps.Absurd is.number) refl
    (record { passes = subst (λ (z : Branch). Absurd z.known) same h; tells = tt })

module _ (asked : Question) (fits : AskedFits asked) (leaf : Leaf) (same : leaf.problem ≡ problem_asked asked) (is : IsLeaf leaf)
    (b : Branch) (branch_is : b ≡ leaf.branch) where
  runs : Runs (problem_asked asked) leaf.steps is.slots
  runs = subst (λ p. Runs p leaf.steps is.slots) same is.runs

  fixed : IsFixedOn asked.context.now leaf.branch
  fixed =
      open_fixed asked.context.now (problem_asked asked) fits.asked.fits.kinds fits.context fits.asked.fits.parts leaf.steps is.slots is.number leaf.branch runs is.saturated.open_

  module _ (tidy : RunsAreTidy) (law : QuestionIsProblem) where
    tidy_there : IsTidy (problem_asked asked) leaf.branch
    tidy_there =
        tidy (problem_asked asked) leaf.steps is.slots (law asked.policy.now asked.context.now asked.trace.now asked.query.now fits) runs is.number leaf.branch is.saturated.open_

    -- each term of its facts and its goal row has a value
    pub facts_have : AreValued (length b.known.unknowns) asked.context.now b.facts
    facts_have =
        subst (λ (z : Branch). AreValued (length z.known.unknowns) asked.context.now z.facts) (sym branch_is)
        (facts_given asked.context.now asked.policy.now.schema leaf.branch.known leaf.branch.facts fixed.facts tidy_there.facts)

    pub goal_has : All (IsValued (length b.known.unknowns) asked.context.now) b.goal
    goal_has =
        subst (λ (z : Branch). All (IsValued (length z.known.unknowns) asked.context.now) z.goal) (sym branch_is)
        (all_given asked.context.now leaf.branch.known leaf.branch.goal fixed.goal tidy_there.goal)

-- what a branch shows that is the leaf's, of a problem that is the leaf's
module _ (asked : Question) (leaf : Leaf) (p : Problem) (b : Branch) (problem_is : p ≡ leaf.problem) (branch_is : b ≡ leaf.branch)
    (it : Tried) (tells : TellsTried asked p b it) where
  leaf_tells : TellsTried asked leaf.problem leaf.branch it
  leaf_tells = subst (λ z. TellsTried asked leaf.problem z it) branch_is (subst (λ z. TellsTried asked z b it) problem_is tells)

  pub refuted : (pair : Counterexample) → it ≡ Pair pair → TellsRefutal asked leaf (refutal.Pair pair)
  refuted pair e =
      let h = subst (TellsTried asked leaf.problem leaf.branch) e leaf_tells in
      record { image_is = h.0; refutes = h.1 }

  pub stuck : AskedFits asked → leaf.problem ≡ problem_asked asked → IsLeaf leaf → (clause : Clause) → it ≡ Stuck clause → TellsRefutal asked leaf (refutal.Stuck leaf clause)
  stuck fits same is clause e =
      let h = subst (TellsTried asked leaf.problem leaf.branch) e leaf_tells in
      record {
        same = refl;
        image = h.0;
        image_is = h.1;
        unmet = h.2;
        beyond_equations = λ pick slots due of.
            let leaf_is : IsDueLeafOf asked.policy.now asked.context.now asked.trace.now asked.query.now leaf = record { problem = same; leaf_is = is; pick = pick; slots = slots; due = due } in
            (h.2).unmet ((images_refute asked.policy.now asked.context.now asked.trace.now asked.query.now leaf h.0 fits of leaf_is h.3 h.1).meets clause);
      }
