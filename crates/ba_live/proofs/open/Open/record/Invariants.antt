use Rattle.std.proofs.Common.{◌≡◌, ◌++◌}
use Rattle.ba_live.proofs.open.Open.record.Given as goal

-- the entries so far joined the trace
abbrev pub invariant-loop-entry : goal.invariant-loop-entry
invariant-loop-entry l =
    (l.self ≡ record l.initial.self { trace = l.initial.self.trace ++ l.yielded })
    × (l.fn.entries.items ≡ l.yielded ++ l.entry-iterator.rest.items)
