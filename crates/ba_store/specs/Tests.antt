-- The tests that a template passes which a file may hold.
use Rattle.std.specs.Prelude.{◌≡◌, ℕ, ◌+◌, ◌≤◌, List, length}
use Rattle.ba_model.specs.Limits.{most_entries, most_operands, most_steps}
use Rattle.ba_model.specs.declared.policy.Policy.{Policy}
use Rattle.ba_kernel.specs.Drafts.{IsWellFormed}
use Rattle.ba_kernel.specs.declared.problem.Problem.{Problem}
use Rattle.ba_kernel.specs.declared.step.Step.{Step}
use Rattle.ba_template.specs.Templates.{EachVarStands}

-- The problem is one of the policy: its goal, its entries and its condition are well formed. With the parameters its variables aren't too many, and
-- each stands in the goal or an entry; its entries and the steps aren't too many.
pub record PassesTests (policy : Policy) (p : Problem) (all : List Step) : Type 0 where
  pub of_policy : p.policy ≡ policy
  pub formed : IsWellFormed p
  pub few_vars : length p.vars + length policy.params ≤ most_operands
  pub stands : EachVarStands p
  pub few_entries : length p.entries ≤ most_entries
  pub few_steps : length all ≤ most_steps
