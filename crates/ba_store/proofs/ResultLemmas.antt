-- What a file loads is of the policy, few and proved.
use Rattle.std.proofs.Common.{◌≡◌, ◌≤◌, ℕ, List, [], ◌∷◌, length, refl, sym, ap, subst, All}
use Rattle.std.specs.Prelude.{IfOk, Result, Ok, Err}
use Rattle.std.specs.List.{AllByRecursion, AllZip}
use Rattle.std.proofs.lemmas.List.Elements.{All-from_recursion}
use Rattle.ba_model.specs.Fit.{PolicyFits}
use Rattle.ba_model.specs.Limits.{most_templates}
use Rattle.ba_model.specs.RuleFaults.{AreRules}
use Rattle.ba_model.specs.SchemaFaults.{AreTables}
use Rattle.ba_model.specs.declared.failure.Failure.{Failure}
use Rattle.ba_model.specs.declared.failure.Failure.TheVariants.{NoMemory, Fault}
use Rattle.ba_model.specs.declared.policy.Policy.{Policy}
use Rattle.ba_kernel.specs.Asked.{CheckedLinksFit}
use Rattle.ba_kernel.specs.Courses.{ClosedIsStrong}
use Rattle.ba_kernel.specs.Drafts.{IsChecked}
use Rattle.ba_kernel.specs.Problems.{StrongAll}
use Rattle.ba_kernel.specs.SearchStates.{Proof}
use Rattle.ba_store.proofs.LineLemmas.{zip_length}
use Rattle.ba_store.proofs.LoadLemmas.{draft_fits, draft_passes}
use Rattle.ba_store.specs.Loads.{Answers, FewLoad, IsLineOf, Loads, few, lines_of, many}
use Rattle.ba_store.specs.Reading.{draft_with}
use Rattle.ba_store.specs.declared.fault.StoreFault.{StoreFault}

pub is_checked : CheckedLinksFit → (policy : Policy) → PolicyFits policy → AreTables policy.schema.tables → AreRules policy.schema → IsChecked policy
is_checked links policy views tables rules = record { links = links policy.schema tables; rules = rules.fit; policy_fits = views }

module _ (policy : Policy) (bytes : List ℕ) where
  loads_ok : (outcome : Result (List Proof) StoreFault) (found : List Proof) → Loads policy bytes outcome → outcome ≡ Ok found → FewLoad policy (lines_of bytes) (Ok found)
  loads_ok outcome found (many above) e = cc e
  loads_ok outcome found (few h) e = subst (FewLoad policy (lines_of bytes)) e h

  each_of : (P : Proof → Type 0) → ((line : List ℕ) (it : Proof) → IsLineOf policy line it → P it) → (lines : List (List ℕ)) (found : List Proof) → AllZip (IsLineOf policy) lines found
      → AllByRecursion P found
  each_of P f [] [] z = tt
  each_of P f [] (it ∷ found) z = absurd z
  each_of P f (line ∷ lines) [] z = absurd z
  each_of P f (line ∷ lines) (it ∷ found) z = (f line it z.0, each_of P f lines found z.1)

  all_of : (P : Proof → Type 0) → ((line : List ℕ) (it : Proof) → IsLineOf policy line it → P it) → (r : Result (List Proof) (Failure StoreFault)) → Answers r (Loads policy bytes) → IfOk r (All P)
  all_of P f (Ok found) h =
      let own = loads_ok (Ok found) found h refl in All-from_recursion P found (each_of P f (lines_of bytes) found own.lines_load)
  all_of P f (Err e) h = tt

  pub loads_few : (r : Result (List Proof) (Failure StoreFault)) → Answers r (Loads policy bytes) → IfOk r (λ found. length found ≤ most_templates)
  loads_few (Ok found) h =
      let own = loads_ok (Ok found) found h refl in
      subst (λ n. n ≤ most_templates) (sym (zip_length policy (lines_of bytes) found own.lines_load)) own.few
  loads_few (Err e) h = tt

  pub loads_of_policy : (r : Result (List Proof) (Failure StoreFault)) → Answers r (Loads policy bytes) → IfOk r (λ found. All (λ it. it.problem.policy ≡ policy) found)
  loads_of_policy = all_of (λ it. it.problem.policy ≡ policy) (λ line it h. (draft_passes policy line (draft_with it.problem it.steps) h.says).of_policy)

  pub loads_strong : ClosedIsStrong → IsChecked policy → (r : Result (List Proof) (Failure StoreFault)) → Answers r (Loads policy bytes) → IfOk r (λ found. All (λ it. StrongAll it.problem) found)
  loads_strong closed checked =
      all_of (λ it. StrongAll it.problem)
      (λ line it h.
      closed it.problem it.steps h.closes.slots (draft_fits policy it.problem it.steps checked (draft_passes policy line (draft_with it.problem it.steps) h.says)) h.closes.runs h.closes.closed)
