use Rattle.std.proofs.Common.{take}
use Rattle.ba_session.specs.Passing.{AreOf}
use Rattle.ba_lanes.proofs.LoadLemmas.{Loading}
use Rattle.ba_lanes.proofs.loads.load.Given as goal

-- the templates so far are admitted, and nothing else has happened
abbrev pub invariant-loop-loaded : goal.invariant-loop-loaded
invariant-loop-loaded g l = record {
  of : AreOf l.service l.passes;
  loading : Loading l.input (take l.loaded-index l.loaded-items) l.passes;
}
