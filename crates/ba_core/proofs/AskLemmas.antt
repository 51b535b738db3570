-- What a ground gives for a question.
use Rattle.std.proofs.Common.{◌≡◌, ◌∙◌, ℕ, ◌≤◌, List, None, Some, false, length, subst, sym}
use Rattle.std.proofs.lemmas.Option.{slice_get_past}
use Rattle.std.specs.Prelude.{◌↔◌, IsTrue}
use Rattle.ba_comply.specs.Comply.{Strong}
use Rattle.ba_core.specs.Steps.{IsServed}
use Rattle.ba_core.specs.declared.opened.Opened.{Opened}
use Rattle.ba_kernel.specs.Problems.{ProblemIsQuestion, StrongAll, problem_of}
use Rattle.ba_kernel.specs.SearchStates.{Proof}
use Rattle.ba_kernel.specs.declared.problem.Problem.{Problem}
use Rattle.ba_model.specs.Fit.{ContextFits, kinds_of}
use Rattle.ba_model.specs.declared.policy.Policy.{Policy}
use Rattle.ba_model.specs.declared.query.Query.{Query}
use Rattle.ba_template.specs.declared.found.Match.{Match}

-- a proof of just this question
pub proved_question : (policy : Policy) (asker : Opened) (query : Query) (proved question : Problem) → ProblemIsQuestion → ContextFits (kinds_of policy.params) asker.context
    → StrongAll proved → question ≡ problem_of policy asker.context asker.trace query → proved ≡ question → Strong policy asker.context asker.trace query
proved_question policy asker query proved question law fits strong is same =
    law policy asker.context asker.trace query fits (subst StrongAll (same ∙ is) strong)

-- no template has the number
pub not_there : (policy : Policy) (templates : List Proof) (asker : Opened) (query : Query) (n : ℕ) (found : Match) → length templates ≤ n
    → IsTrue false ↔ IsServed policy templates asker query n found
not_there policy templates asker query n found past =
    ((λ t. absurd (cc)), (λ h. absurd (let e : Some h.template ≡ None = sym h.there ∙ slice_get_past templates n past in cc)))
