use Rattle.std.proofs.Common.{◌≡◌, ◌*◌}
use Rattle.ba_workload.specs.Draws.{state_after}
use Rattle.ba_workload.specs.Lists.{all_of}
use Rattle.ba_workload.specs.Script.{entries_of}
use Rattle.ba_workload.proofs.script.draw_script.Given as goal

abbrev pub invariant-loop-number : goal.invariant-loop-number
invariant-loop-number l = record {
  state : l.draws.state ≡ state_after l.seed (2 * l.number);
  entries : l.entries ≡ all_of (entries_of l.seed) 0 l.number;
}
