-- From the steps that a proof keeps to its template.
use Rattle.std.proofs.Common.{◌≡◌, ℕ, suc, ◌+◌, ◌<◌, ◌≤◌, List, [], ◌∷◌, ◌++◌, length, refl, sym, ap₂, subst, arith}
use Rattle.std.proofs.Math.Nat.{lt_of_not-le}
use Rattle.std.specs.Prelude.{Any}
use Rattle.ba_kernel.proofs.AskedLemmas.{question_is_problem}
use Rattle.ba_kernel.specs.Courses.{ProblemFits}
use Rattle.ba_kernel.specs.Replays.{Closes}
use Rattle.ba_kernel.specs.SearchStates.{IsProved, Proof}
use Rattle.ba_kernel.specs.declared.problem.Problem.{Problem}
use Rattle.ba_kernel.specs.declared.step.Step.{Step}
use Rattle.ba_kernel.specs.declared.step.Step.TheVariants as steps
use Rattle.ba_model.specs.Fit.{AtomFits, kinds_of}
use Rattle.ba_model.specs.declared.query.Atom.{Atom}
use Rattle.ba_model.specs.declared.value.Value.{Value}
use Rattle.ba_template.specs.Templates.{EachVarStands}
use Rattle.ba_general.proofs.FullFitsLemmas.{assuming_fits, full_fits, pattern_operands}
use Rattle.ba_general.proofs.FullLemmas.{full_is_accepted}
use Rattle.ba_general.proofs.LeftLemmas.{condition_some, some_have}
use Rattle.ba_general.proofs.MakesLemmas.{zip_wide}
use Rattle.ba_general.proofs.PatternFitsLemmas.{pattern_fits}
use Rattle.ba_general.proofs.StandsLemmas.{stands_all}
use Rattle.ba_general.specs.Conditions.{HasOperands, IsAcceptedFully, IsCondition, PatternFits}
use Rattle.ba_general.specs.Generals.{HasTooMany, HasTooManyCases, IsGeneralised, IsOfQuestion, IsTold, IsToldBy, IsTooWide}
use Rattle.ba_general.specs.Leaving.{AreKept}
use Rattle.ba_general.specs.Patterns.{IsPattern, assuming}
use Rattle.ba_general.specs.Retold.{AreNamed, AreRenumbered, AreWithVariables, IsRenumbered, IsSplit, IsStepWith}
use Rattle.ba_model.specs.Limits.{most_entries, most_operands}
use Rattle.ba_general.specs.declared.pattern.Pattern.{Pattern}
use Rattle.ba_general.specs.declared.pattern.Valued.{Valued}

pub question_fits : (p : Problem) → IsOfQuestion p → ProblemFits p
question_fits p h = subst ProblemFits (sym h.is) (question_is_problem p.policy h.context h.trace p.goal h.fits)

pub proved_closes : (p : Problem) (taken : List Step) → IsProved p taken → Closes p taken
proved_closes p taken h = record { slots = h.slots; runs = h.runs; closed = h.closed }

-- ---- a pattern with its operands, made of a question's proof

pub made_fits : (p : Problem) (numbers : List ℕ) (it : Pattern) → ProblemFits p → IsOfQuestion p → IsPattern p numbers it.problem it.values →
    HasOperands p it.values it.operands → PatternFits it
made_fits p numbers it fits question h has = pattern_fits p it.problem numbers it.values has.params it.operands fits question h has.has has.is

pub made_stands : (p : Problem) (numbers : List ℕ) (it : Pattern) → IsPattern p numbers it.problem it.values → EachVarStands it.problem
made_stands p numbers it h = stands_all p it.problem numbers it.values it.problem.assumed h

pub made_accepted : (p : Problem) (numbers : List ℕ) (it : Pattern) (kept renumbered : List Step) → IsOfQuestion p → IsPattern p numbers it.problem it.values →
    HasOperands p it.values it.operands → AreNamed kept numbers → AreRenumbered numbers kept renumbered → Closes p kept →
    IsAcceptedFully it.problem it.operands renumbered
made_accepted p numbers it kept renumbered question h has named are closes =
    subst (λ (operands : List Valued). IsAcceptedFully it.problem operands renumbered) (sym has.is)
    (full_is_accepted p it.problem numbers it.values has.params kept renumbered question has.has h named are closes)

not_more : (n m : ℕ) → ¬ (n < m) → m ≤ n
not_more n m h = let below : m < suc n = lt_of_not-le h in omega arith

pub renumbered_few : (numbers : List ℕ) (kept renumbered : List Step) (n m : ℕ) → AreRenumbered numbers kept renumbered → length kept ≤ n → n ≤ m → length renumbered ≤ m
renumbered_few numbers kept renumbered n m are few fewer =
    let same : length kept ≡ length renumbered = zip_wide (IsRenumbered numbers) kept renumbered are in omega arith

pub assuming_stands : (g : Problem) (atoms : List Atom) → EachVarStands g → EachVarStands (assuming g atoms)
assuming_stands g atoms h = record { stands = h.stands }

-- with what the pass leaves of the full condition the pattern's problem fits
pub condition_fits : (it : Pattern) {taken : List Step} (condition : List Atom) → PatternFits it → IsCondition it.problem it.operands taken condition →
    ProblemFits (assuming it.problem condition)
condition_fits it {taken} condition fits c =
    assuming_fits it.problem condition fits.problem
    (some_have (AtomFits it.problem.policy.schema (kinds_of it.problem.policy.params) it.problem.vars []) (condition_some it.problem it.operands taken condition c)
    (full_fits it.problem it.operands c.fixed c.less c.apart c.equal (c.fixed ++ c.less ++ c.apart ++ c.equal) (pattern_operands it fits) c.full refl))

-- ---- the steps

pub told_with : (it : Pattern) (kept tried : List Step) → AreWithVariables it.values kept tried → IsAcceptedFully it.problem it.operands tried → IsToldBy it kept tried
told_with it kept tried are accepted = record { tried = tried; tried_are = are; told = IsTold.with accepted }

pub told_without : (it : Pattern) (kept tried taken : List Step) → AreWithVariables it.values kept tried → ¬ (IsAcceptedFully it.problem it.operands tried) → taken ≡ kept →
    IsToldBy it kept taken
told_without it kept tried taken are refused same =
    record { tried = tried; tried_are = are; told = subst (IsTold it.problem it.operands tried kept) (sym same) (IsTold.without refused) }

step_stays : (values : List Value) (step new : Step) → ¬ (IsSplit step) → IsStepWith values step new → new ≡ step
step_stays values (steps.Entry branch entry) new none is = is
step_stays values (steps.Key branch key left right) new none is = is
step_stays values (steps.Link branch link fact) new none is = is
step_stays values (steps.Rule branch rule part facts) new none is = is
step_stays values (steps.View branch view part facts) new none is = is
step_stays values (steps.Split branch atom) new none is = absurd (none tt)
step_stays values (steps.Absurd branch) new none is = is
step_stays values (steps.Goal branch part facts) new none is = is

-- where nothing is split the steps stay
pub unsplit_stay : (values : List Value) (kept tried : List Step) → ¬ (Any IsSplit kept) → AreWithVariables values kept tried → tried ≡ kept
unsplit_stay values [] [] none is = refl
unsplit_stay values [] (new ∷ tried) none is = absurd is
unsplit_stay values (step ∷ kept) [] none is = absurd is
unsplit_stay values (step ∷ kept) (new ∷ tried) none is =
    ap₂ (λ x xs. x ∷ xs) (step_stays values step new (λ split. none (0, step, omega arith, refl, split)) is.0)
    (unsplit_stay values kept tried (λ it. none (suc it.0, it.1, omega (arith, it.2), it.3, it.4)) is.1)

pub tried_few : (values : List Value) (kept tried : List Step) (n : ℕ) → AreWithVariables values kept tried → length kept ≤ n → length tried ≤ n
tried_few values kept tried n are few = let same : length kept ≡ length tried = zip_wide (IsStepWith values) kept tried are in omega arith

-- ---- the template

pub generalised : (proof template : Proof) (kept renumbered : List Step) (numbers : List ℕ) (it : Pattern) → AreKept proof.problem proof.steps kept → AreNamed kept numbers →
    IsPattern proof.problem numbers it.problem it.values → HasOperands proof.problem it.values it.operands → length numbers ≤ most_entries → ¬ (HasTooMany it.problem) →
    AreRenumbered numbers kept renumbered → IsToldBy it renumbered template.steps →
    IsCondition it.problem it.operands template.steps template.problem.assumed → template.problem ≡ assuming it.problem template.problem.assumed →
    IsGeneralised proof template
generalised proof template kept renumbered numbers it are named pattern has few fewer renumbered_are told condition problem =
    record {
      kept = kept;
      numbers = numbers;
      pattern = it.problem;
      values = it.values;
      params = has.params;
      keeps = record { steps = are; named = named; pattern = pattern };
      few_entries = few;
      few_operands = not_more most_operands (length it.problem.vars + length it.problem.policy.params) fewer;
      has_params = has.has;
      steps = record {
        renumbered = renumbered;
        renumbered_are = renumbered_are;
        tried = told.tried;
        tried_are = told.tried_are;
        taken_is = subst (λ (operands : List Valued). IsTold it.problem operands told.tried renumbered template.steps) has.is told.told;
      };
      condition = subst (λ (operands : List Valued). IsCondition it.problem operands template.steps template.problem.assumed) has.is condition;
      problem = problem;
    }

-- ---- of equal problems, steps and numbers

kept_of : (proof : Proof) (p : Problem) (taken kept : List Step) → p ≡ proof.problem → taken ≡ proof.steps → AreKept p taken kept → AreKept proof.problem proof.steps kept
kept_of proof p taken kept same same_steps h =
    subst (λ (q : Problem). AreKept q proof.steps kept) same (subst (λ (steps : List Step). AreKept p steps kept) same_steps h)

pattern_of : (proof : Proof) (p : Problem) (ns numbers : List ℕ) (it : Pattern) → p ≡ proof.problem → ns ≡ numbers → IsPattern p ns it.problem it.values →
    IsPattern proof.problem numbers it.problem it.values
pattern_of proof p ns numbers it same same_numbers h =
    subst (λ (q : Problem). IsPattern q numbers it.problem it.values) same (subst (λ ms. IsPattern p ms it.problem it.values) same_numbers h)

pub wide_by_cases : (proof : Proof) (p : Problem) (taken : List Step) → p ≡ proof.problem → taken ≡ proof.steps → HasTooManyCases p taken → IsTooWide proof
wide_by_cases proof p taken same same_steps many =
    IsTooWide.by_cases
    (subst (λ (q : Problem). HasTooManyCases q proof.steps) same (subst (λ (steps : List Step). HasTooManyCases p steps) same_steps many))

pub wide_by_entries : (proof : Proof) (p : Problem) (taken kept : List Step) (numbers : List ℕ) → p ≡ proof.problem → taken ≡ proof.steps → AreKept p taken kept →
    AreNamed kept numbers → most_entries < length numbers → IsTooWide proof
wide_by_entries proof p taken kept numbers same same_steps are named many = IsTooWide.by_entries (kept_of proof p taken kept same same_steps are) named many

pub wide_by_operands : (proof : Proof) (p : Problem) (taken kept : List Step) (ns numbers : List ℕ) (it : Pattern) → p ≡ proof.problem → taken ≡ proof.steps →
    ns ≡ numbers → AreKept p taken kept → AreNamed kept numbers → IsPattern p ns it.problem it.values → HasTooMany it.problem → IsTooWide proof
wide_by_operands proof p taken kept ns numbers it same same_steps same_numbers are named pattern many =
    IsTooWide.by_operands
    (record { steps = kept_of proof p taken kept same same_steps are; named = named; pattern = pattern_of proof p ns numbers it same same_numbers pattern }) many

pub generalised_of : (proof template : Proof) (p : Problem) (taken kept renumbered : List Step) (ns ms numbers : List ℕ) (it : Pattern) → p ≡ proof.problem →
    taken ≡ proof.steps → ns ≡ numbers → ms ≡ numbers → AreKept p taken kept → AreNamed kept numbers → IsPattern p ns it.problem it.values →
    HasOperands p it.values it.operands → length numbers ≤ most_entries → ¬ (HasTooMany it.problem) → AreRenumbered ms kept renumbered →
    IsToldBy it renumbered template.steps → IsCondition it.problem it.operands template.steps template.problem.assumed →
    template.problem ≡ assuming it.problem template.problem.assumed → IsGeneralised proof template
generalised_of proof template p taken kept renumbered ns ms numbers it same same_steps same_numbers same_places are named pattern has few fewer renumbered_are told condition problem =
    generalised proof template kept renumbered numbers it (kept_of proof p taken kept same same_steps are) named
    (pattern_of proof p ns numbers it same same_numbers pattern) (subst (λ (q : Problem). HasOperands q it.values it.operands) same has) few fewer
    (subst (λ ks. AreRenumbered ks kept renumbered) same_places renumbered_are) told condition problem
