use Rattle.std.proofs.Common.{◌≡◌, List, Result, drop, length, take, []}
use Rattle.std.specs.List.{All}
use Rattle.ba_outside.specs.Seen.{FilesSeen}
use Rattle.ba_plan.specs.Follows.{Follows}
use Rattle.ba_plan.specs.declared.stop.Stop.{Stop}
use Rattle.ba_script.specs.Reading.{published}
use Rattle.ba_tables.specs.TableSet.{TableSet}
use Rattle.ba_wire.specs.declared.fault.Fault.{Fault}
use Rattle.ba_input.specs.Published.{IsSetOf}
use Rattle.ba_input.specs.Reading.{sets_plan}
use Rattle.ba_input.proofs.run_input.read_sets.Given as goal

-- whatever follows for the lines that are left follows for all; the sets so far are of the schema, one for each publish line
abbrev pub invariant-loop-entry : goal.invariant-loop-entry
invariant-loop-entry g l = let seen = g.F.Files.seen in record {
  follows : (t : FilesSeen) (r : Result (List TableSet) (Stop Fault)) → Follows (sets_plan l.schema (drop l.entry-index l.entries) l.sets) (seen l.files) t r → Follows (sets_plan l.schema l.entries []) (seen l.fn.files) t r;
  sets : All (IsSetOf l.schema) l.sets;
  count : length l.sets ≡ published (take l.entry-index l.entries);
}
