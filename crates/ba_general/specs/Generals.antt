-- The template that a proof of a question is made, and when it is too wide for one.
use Rattle.std.specs.Prelude.{◌≡◌, ℕ, ◌+◌, ◌≤◌, ◌<◌, List, All, length, map, Some, slice_get}
use Rattle.std.specs.List.Sorted.{IsStrictlySortedBy}
use Rattle.std.specs.Ordering.{nat_cmp}
use Rattle.ba_model.specs.declared.policy.Context.{Context}
use Rattle.ba_model.specs.declared.query.Atom.{Atom}
use Rattle.ba_model.specs.declared.value.Value.{Value}
use Rattle.ba_comply.specs.declared.trace.TraceEntry.{TraceEntry}
use Rattle.ba_kernel.specs.Asked.{QuestionFits}
use Rattle.ba_kernel.specs.Problems.{IsInstance, problem_of, query_at}
use Rattle.ba_kernel.specs.Replays.{Closes}
use Rattle.ba_kernel.specs.SearchStates.{Proof}
use Rattle.ba_kernel.specs.declared.problem.Problem.{Problem}
use Rattle.ba_kernel.specs.declared.step.Step.{Step}
use Rattle.ba_template.specs.Found.{Matches, with_values}
use Rattle.ba_template.specs.Templates.{EachVarStands}
use Rattle.ba_general.specs.Conditions.{HasParams, IsAcceptedFully, IsCondition, operands_with}
use Rattle.ba_general.specs.Dropping.{IsAccepted, NoneCanBeDropped}
use Rattle.ba_general.specs.Leaving.{AreKept, AreOfCases}
use Rattle.ba_general.specs.Patterns.{IsPattern, assuming, entry_at}
use Rattle.ba_general.specs.Retold.{AreNamed, AreRenumbered, AreWithVariables, Names}
use Rattle.ba_general.specs.declared.pattern.Pattern.{Pattern}
use Rattle.ba_general.specs.declared.pattern.Valued.{Valued}
use Rattle.ba_model.specs.Limits.{most_entries, most_operands}

-- the problem of a question that fits, after a trace, in a context
pub record IsOfQuestion (p : Problem) : Type 0 where
  pub context : Context
  pub trace : List TraceEntry
  pub fits : QuestionFits p.policy context trace p.goal
  pub is : p ≡ problem_of p.policy context trace p.goal

-- ---- what is kept of a proof

-- the steps that stay, the numbers of the entries that they name, and the pattern with these entries, whose variables have the values
pub record Keeps (proof : Proof) (kept : List Step) (numbers : List ℕ) (g : Problem) (values : List Value) : Type 0 where
  pub steps : AreKept proof.problem proof.steps kept
  pub named : AreNamed kept numbers
  pub pattern : IsPattern proof.problem numbers g values

-- more variables and parameters than a template may have
abbrev pub HasTooMany : Problem → Type 0
HasTooMany g = most_operands < length g.vars + length g.policy.params

-- the steps name more entries of several cases or none than a template may have
abbrev pub HasTooManyCases : Problem → List Step → Type 0
HasTooManyCases p taken = (numbers : List ℕ) × AreOfCases p taken numbers × (most_entries < length numbers)

-- The kept steps name too many entries, or the pattern has too many variables and parameters; or
-- the proof's own steps name too many entries of several cases or none, of which no step is left
-- out.
pub data IsTooWide (proof : Proof) : Type 0 where
  by_cases : HasTooManyCases proof.problem proof.steps → IsTooWide proof
  by_entries : {kept : List Step} {numbers : List ℕ} → AreKept proof.problem proof.steps kept → AreNamed kept numbers → most_entries < length numbers → IsTooWide proof
  by_operands : {kept : List Step} {numbers : List ℕ} {g : Problem} {values : List Value} → Keeps proof kept numbers g values → HasTooMany g → IsTooWide proof

-- ---- the template

-- the steps that are tried where they close the pattern under the full condition of the operands, else the others
pub data IsTold (g : Problem) (operands : List Valued) (tried others : List Step) : List Step → Type 0 where
  with : IsAcceptedFully g operands tried → IsTold g operands tried others tried
  without : ¬ (IsAcceptedFully g operands tried) → IsTold g operands tried others others

-- the same of a pattern with its operands, after variables for equal literals in what is split
pub record IsToldBy (it : Pattern) (renumbered taken : List Step) : Type 0 where
  pub tried : List Step
  pub tried_are : AreWithVariables it.values renumbered tried
  pub told : IsTold it.problem it.operands tried renumbered taken

-- The steps with entries renumbered, and with variables for equal literals in what is split where they are accepted so under the full condition, else without.
pub record AreRetold (g : Problem) (numbers : List ℕ) (values params : List Value) (kept taken : List Step) : Type 0 where
  pub renumbered : List Step
  pub renumbered_are : AreRenumbered numbers kept renumbered
  pub tried : List Step
  pub tried_are : AreWithVariables values renumbered tried
  pub taken_is : IsTold g (operands_with values params) tried renumbered taken

pub record IsGeneralised (proof template : Proof) : Type 0 where
  pub kept : List Step
  pub numbers : List ℕ
  pub pattern : Problem
  pub values : List Value
  pub params : List Value
  pub keeps : Keeps proof kept numbers pattern values
  pub few_entries : length numbers ≤ most_entries
  pub few_operands : length pattern.vars + length pattern.policy.params ≤ most_operands
  pub has_params : HasParams proof.problem params
  pub steps : AreRetold pattern numbers values params kept template.steps
  pub condition : IsCondition pattern (operands_with values params) template.steps template.problem.assumed
  pub problem : template.problem ≡ assuming pattern template.problem.assumed

-- no proof that is too wide has a template: what it keeps is determined
abbrev pub TooWideIsNone : Type 0
TooWideIsNone = (proof template : Proof) → IsTooWide proof → ¬ (IsGeneralised proof template)

-- some of the entries that the proof's own steps name are too many, or the pattern with them has too many variables and parameters
pub data NamesTooMuch (proof : Proof) : Type 0 where
  by_entries : (numbers : List ℕ) → IsStrictlySortedBy nat_cmp numbers → All (Names proof.steps) numbers → most_entries < length numbers → NamesTooMuch proof
  by_operands : (numbers : List ℕ) (g : Problem) (values : List Value) → IsStrictlySortedBy nat_cmp numbers → All (Names proof.steps) numbers →
      IsPattern proof.problem numbers g values → HasTooMany g → NamesTooMuch proof

-- a proof is too wide only by entries that its own steps name
abbrev pub WideByOwnSteps : Type 0
WideByOwnSteps = (proof : Proof) → IsTooWide proof → NamesTooMuch proof

-- ---- what follows of every template

-- The proof's own context, question and kept entries are an instance that meets the condition: the values for the variables give the proof's goal, and each of
-- the template's entries is one of the proof's, whose row is its row.
pub record OwnInstance (p : Problem) (template : Proof) : Type 0 where
  pub context : Context
  pub trace : List TraceEntry
  pub is : p ≡ problem_of p.policy context trace p.goal
  pub values : List Value
  pub instance : IsInstance template.problem (with_values context values)
  pub question : query_at values template.problem.goal ≡ p.goal
  pub numbers : List ℕ
  pub entries : map (λ entry. Some (entry_at values entry)) template.problem.entries
      ≡ map (slice_get p.entries) numbers

-- so the proof's own question, asked again after its trace, is matched
abbrev pub OwnQuestionMatches : Type 0
OwnQuestionMatches = (proof template : Proof) (own : OwnInstance proof.problem template) → IsGeneralised proof template →
    Matches template.problem proof.problem.policy own.context own.trace proof.problem.goal

-- no atom of the condition can be dropped with the same steps accepted
abbrev pub IsMinimal : Proof → Type 0
IsMinimal template = NoneCanBeDropped (IsAccepted template.problem template.steps) template.problem.assumed

-- what the pass leaves of the four groups is minimal, so every template of a proof is
abbrev pub TemplateIsMinimal : Type 0
TemplateIsMinimal = (proof template : Proof) → IsGeneralised proof template → IsMinimal template

-- ---- why there is a template

-- with the values a pattern is the problem: what closes it, renumbered, closes the pattern under the full condition
abbrev pub FullIsAccepted : Type 0
FullIsAccepted = (p g : Problem) (numbers : List ℕ) (values params : List Value) (kept renumbered : List Step) → IsOfQuestion p → HasParams p params →
    IsPattern p numbers g values → AreNamed kept numbers → AreRenumbered numbers kept renumbered → Closes p kept → IsAcceptedFully g (operands_with values params) renumbered

-- each variable of a pattern stands in its goal or an entry
abbrev pub PatternStands : Type 0
PatternStands = (p g : Problem) (numbers : List ℕ) (values : List Value) (atoms : List Atom) → IsPattern p numbers g values → EachVarStands (assuming g atoms)
