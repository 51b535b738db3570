-- The steps of a proof have a spelling.
use Rattle.std.proofs.Common.{◌≡◌, ◌≢◌, ◌∙◌, ℕ, ◌+◌, ◌<◌, ◌≤◌, List, [], ◌∷◌, ◌++◌, length, map, take, get_or, sym, ap, subst, All}
use Rattle.std.proofs.lemmas.List.{length-map, take_all, take_more}
use Rattle.std.proofs.lemmas.List.Elements.{All-append, All-from_recursion, All-nil}
use Rattle.std.proofs.lemmas.Option.{slice_get_within}
use Rattle.std.specs.Prelude.{Some, slice_get}
use Rattle.ba_model.specs.Fit.{kinds_of}
use Rattle.ba_model.specs.declared.policy.Parameter.{Parameter}
use Rattle.ba_model.specs.declared.schema.Kind.{Kind}
use Rattle.ba_facts.specs.Laws.{kind_of_term}
use Rattle.ba_facts.specs.declared.branch.Branch.{Branch}
use Rattle.ba_facts.specs.declared.term.Term.{Term}
use Rattle.ba_facts.specs.declared.term.Term.TheVariants as term
use Rattle.ba_facts.specs.declared.term.TermAtom.{TermAtom}
use Rattle.ba_kernel.proofs.TidyRuns.{runs_are_tidy}
use Rattle.ba_kernel.specs.Courses.{ProblemFits, Runs, Slots, Takes, next, start}
use Rattle.ba_kernel.specs.SearchStates.{AllTidy, IsTidy}
use Rattle.ba_kernel.specs.declared.problem.Problem.{Problem}
use Rattle.ba_kernel.specs.declared.step.Step.{Step}
use Rattle.ba_kernel.specs.declared.step.Step.TheVariants as steps
use Rattle.ba_proof.proofs.StepLemmas.{no_null}
use Rattle.ba_proof.specs.ReadBack.{AtomHasBits, AtomSpells, StepHasBits, StepSpells, TermHasBits, TermSpells}

-- ---- one more of a list

module _ {X : Type 0} (xs : List X) (i : ℕ) (x : X) (lt : i < length xs) (is : x ≡ get_or xs i x) where
  next_is : take (i + 1) xs ≡ take i xs ++ x ∷ []
  next_is = take_more xs i x lt ∙ ap (λ y. take i xs ++ y ∷ []) (sym is)

  pub all_more : (P : X → Type 0) → All P (take i xs) → P x → All P (take (i + 1) xs)
  all_more P before own = subst (All P) (sym next_is) (All-append P (take i xs) (x ∷ []) before (All-from_recursion P (x ∷ []) (own, tt)))

pub all_next : {X : Type 0} (xs : List X) (i : ℕ) (d : X) (P : X → Type 0) → i < length xs → All P (take i xs) → P (get_or xs i d) → All P (take (i + 1) xs)
all_next xs i d P lt before own =
    subst (All P) (sym (take_more xs i d lt)) (All-append P (take i xs) (get_or xs i d ∷ []) before (All-from_recursion P (get_or xs i d ∷ []) (own, tt)))

pub all_of : {X : Type 0} (xs : List X) (n : ℕ) (P : X → Type 0) → length xs ≤ n → All P (take n xs) → All P xs
all_of xs n P whole = subst (All P) (take_all n xs whole)

-- ---- a step that is accepted names only what is there

below : {X : Type 0} (xs : List X) (n : ℕ) (x : X) {m : ℕ} → length xs ≡ m → slice_get xs n ≡ Some x → n < m
below xs n x same e = subst (λ m. n < m) same (slice_get_within xs n x e)

module _ (params : List Parameter) (vars : List Kind) (b : Branch) (params_are : b.params ≡ kinds_of params) (vars_are : b.vars ≡ vars) where
  term_spells : (t : Term) (kind : Kind) → kind_of_term b t ≡ Some kind → TermHasBits t → TermSpells params (length vars) t
  term_spells (term.Unknown n) kind e h = h
  term_spells (term.Val v) kind e h = (λ same. no_null b (term.Val v) kind e (ap term.Val same), h)
  term_spells (term.Param n) kind e h =
      (below b.params n kind (ap length params_are ∙ length-map params (λ (parameter : Parameter). parameter.kind)) e, h)
  term_spells (term.Var n) kind e h = (below b.vars n kind (ap length vars_are) e, h)

step_spells : (p : Problem) (old new : Slots) → AllTidy p old → (step : Step) → Takes p old step new → StepHasBits step → StepSpells p.policy.params (length p.vars) step
step_spells p old new tidy (steps.Entry branch entry) takes h = h
step_spells p old new tidy (steps.Key branch key left right) takes h = h
step_spells p old new tidy (steps.Link branch link fact) takes h = h
step_spells p old new tidy (steps.Rule branch rule part facts) takes h = h
step_spells p old new tidy (steps.View branch it part facts) takes h = h
step_spells p old new tidy (steps.Split branch atom) takes h =
    let is_tidy : IsTidy p takes.branch = tidy branch takes.branch takes.open_ in
    let passes = takes.leads.passes in (
      h.0,
      record {
        left = term_spells p.policy.params p.vars takes.branch is_tidy.params is_tidy.vars atom.left passes.kind passes.sides.left h.1.left;
        right = term_spells p.policy.params p.vars takes.branch is_tidy.params is_tidy.vars atom.right passes.kind passes.sides.right h.1.right;
      },
    )
step_spells p old new tidy (steps.Absurd branch) takes h = h
step_spells p old new tidy (steps.Goal branch part facts) takes h = h

-- so a step of a course has a spelling where its numbers have their bits
module _ (p : Problem) (fits : ProblemFits p) where
  abbrev IsSpelled : Step → Type 0
  IsSpelled step = StepHasBits step → StepSpells p.policy.params (length p.vars) step

  each_spells : {taken : List Step} {slots : Slots} → Runs p taken slots → All IsSpelled taken
  each_spells (start is) = All-nil IsSpelled
  each_spells (next {taken = taken} {step = step} {old = old} {new = new} runs takes) =
      All-append IsSpelled taken (step ∷ []) (each_spells runs)
      (All-from_recursion IsSpelled (step ∷ []) (step_spells p old new (runs_are_tidy p taken old fits runs) step takes, tt))

  pub steps_spell : {taken : List Step} {slots : Slots} → Runs p taken slots → All StepHasBits taken → All (StepSpells p.policy.params (length p.vars)) taken
  steps_spell runs bits i d lt = each_spells runs i d lt (bits i d lt)
