-- What a run is given.
use Rattle.std.specs.Prelude.{◌≡◌, ◌⊎◌, ◌<◌, ◌≤◌, List, All, length}
use Rattle.std.specs.List.{AllZip}
use Rattle.ba_model.specs.Conform.{Conforms, RowFits}
use Rattle.ba_model.specs.Fit.{PolicyFits}
use Rattle.ba_model.specs.Limits.{most_budget, most_templates, most_workers}
use Rattle.ba_model.specs.RuleFaults.{RuleFits}
use Rattle.ba_model.specs.SchemaFaults.{AreTables}
use Rattle.ba_model.specs.declared.schema.Table.{Table}
use Rattle.ba_model.specs.declared.value.Value.{Value}
use Rattle.ba_script.specs.Reading.{published}
use Rattle.ba_script.specs.Scripts.{IsScript}
use Rattle.ba_settle.specs.Settling.{Effort}
use Rattle.ba_input.specs.Published.{IsSetOf}
use Rattle.ba_input.specs.declared.input.Input.{Input}

-- the rows fit their tables, list by list
abbrev pub RowsOfTables : List Table → List (List (List Value)) → Type 0
RowsOfTables tables lists = AllZip (λ table list. All (RowFits table) list) tables lists

-- The input belongs together: the policy fits its schema, which is well formed, the tables are of
-- that schema and conform to it, the script is one for the policy's parameters and cache keys, there is a
-- table set for each of its publish lines, of that schema too, the templates to begin with are of the policy,
-- and they, the workers and the budget are within their limits. A search is made in one order, or in
-- two side by side.
pub record IsInput (input : Input) : Type 0 where
  pub policy : PolicyFits input.policy
  pub schema : input.tables.schema ≡ input.policy.schema
  pub conform : Conforms input.policy.schema input.tables.rows
  pub script : IsScript input.policy.params input.policy.keys input.script
  pub sets : All (IsSetOf input.policy.schema) input.published
  pub one_each : length input.published ≡ published input.script.entries
  pub workers : (0 < input.workers) × (input.workers ≤ most_workers)
  pub budget : input.budget ≤ most_budget
  pub tables_are : AreTables input.policy.schema.tables
  pub rules : All (RuleFits input.policy.schema) input.policy.schema.rules
  pub loaded : All (λ it. it.problem.policy ≡ input.policy) input.loaded
  pub few_loaded : length input.loaded ≤ most_templates
  pub orders : (input.orders ≡ 1) ⊎ (input.orders ≡ 2)

-- how a question's proof is searched for in a run
abbrev pub effort_of : Input → Effort
effort_of input = record { orders = input.orders; budget = input.budget }
