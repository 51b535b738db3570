use Rattle.std.proofs.Common.{◌≡◌, ◌++◌, drop, map}
use Rattle.ba_printed.specs.Reading.{printed_of}
use Rattle.ba_audit.specs.Audits.{readings}
use Rattle.ba_audit.specs.Lines.{publications, versions}
use Rattle.ba_audit.proofs.numbers.versions.Given as goal

-- the numbers so far, and those of the entries and the lines that are left, are all
abbrev pub invariant-loop-entry : goal.invariant-loop-entry
invariant-loop-entry l =
    l.numbered.items ++ publications (drop l.entry-index l.script.entries) (map (printed_of l.policy) l.lines) ≡ versions l.script.entries (readings l.policy l.bytes)
