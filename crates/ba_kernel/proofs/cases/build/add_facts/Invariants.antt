use Rattle.std.proofs.Common.{◌≡◌, take}
use Rattle.ba_kernel.specs.Effects.{with_facts}
use Rattle.ba_kernel.proofs.cases.build.add_facts.Given as goal

-- a fact was added for each table so far
abbrev pub invariant-loop-table : goal.invariant-loop-table
invariant-loop-table l = l.new ≡ with_facts l.problem.policy.schema l.side l.round l.fn.new (take l.table-index l.from)
