-- What a command that runs a workload is given.
use Rattle.std.specs.Prelude.{◌≡◌, ℕ, ◌≤◌, []}
use Rattle.ba_command.specs.Words.{usual_orders}
use Rattle.ba_input.specs.Reading.{workload_reading}
use Rattle.ba_input.specs.declared.input.Input.{Input}
use Rattle.ba_model.specs.Limits.{most_requests, usual_budget}
use Rattle.ba_plan.specs.Plan.{done}
use Rattle.ba_workload.specs.Script.{script}
use Rattle.ba_workload.specs.Standard.{schema}
use Rattle.ba_workload.specs.Tables.{tables}
use Rattle.ba_workload_laws.specs.Reads.{policy}

-- the schema, the policy, the tables and the script, as values
abbrev pub input_of : ℕ → ℕ → ℕ → Input
input_of seed requests workers =
    record {
      policy = policy;
      tables = record { schema = schema; rows = tables };
      script = script seed requests;
      published = [];
      workers = workers;
      budget = usual_budget;
      loaded = [];
      orders = usual_orders;
    }

-- no workload is refused: its files are read as its schema, policy, tables and script
abbrev pub WorkloadIsRead : Type 0
WorkloadIsRead = (seed requests workers : ℕ) → requests ≤ most_requests → workload_reading seed requests workers ≡ done (input_of seed requests workers)
