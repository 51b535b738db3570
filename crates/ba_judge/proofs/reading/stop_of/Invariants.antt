use Rattle.std.proofs.Common.{take}
use Rattle.ba_judge.specs.Judging.{effort_in}
use Rattle.ba_judge.specs.Reading.{AreAllowed, reader}
use Rattle.ba_judge.specs.Shelves.{Learns}
use Rattle.ba_judge.proofs.reading.stop_of.Given as goal

-- the queries so far are allowed
abbrev pub invariant-loop-query : goal.invariant-loop-query
invariant-loop-query g l = record {
  allowed : AreAllowed (reader l.reading) (effort_in (g.S.Settle.orders l.settle) l.budget) l.initial.shelves (take l.query-index l.queries) l.by;
  learns : Learns l.initial.shelves l.shelves;
}
