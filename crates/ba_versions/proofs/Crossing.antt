-- Threads may share versions under a turn, and a pass on them may go to another thread. Each type by its fields, since a search through all at once ends at its limit.
use denote.Param.Send.{IsSend, IsSync, sendable}
use denote.Param.SendFields.{declared_send}
use Rattle.std.proofs.Crossing.{crosses, Vec-send}
use Rattle.std.proofs.alloc.Global.TheSendSync as heap
use Rattle.ba_model.specs.contracts.shared.Shared as Shared
use Rattle.ba_model.proofs.shared.Shared.TheSendSync as shared
use Rattle.ba_tables.specs.contracts.tables.Tables as Tables
use Rattle.ba_tables.proofs.tables.Tables.TheSendSync as tables
use Rattle.ba_turn.specs.contracts.pass.Pass as Pass
use Rattle.ba_turn.specs.contracts.turn.Turn as Turn
use Rattle.ba_turn.proofs.pass.Pass.TheSendSync as pass
use Rattle.ba_turn.proofs.turn.Turn.TheSendSync as turn
use Rattle.ba_versions.specs.contracts.call.VersionCall as VersionCall
use Rattle.ba_versions.specs.contracts.versions.Versions as Versions
use Rattle.ba_versions.specs.contracts.versions.VersionsStoried.TheImpl as storied

call_send : IsSend VersionCall.the_row
call_send = search (sendable, crosses) depth 40

tables_send : IsSend (Shared.the_row Tables.the_row)
tables_send = shared.the_send Tables.the_row tables.the_send tables.the_sync

versions_send : IsSend Versions.the_row
versions_send = declared_send Versions.the_type (
  heap.the_send,
  (
    search (sendable, crosses) depth 20,
    (
      Vec-send (Shared.the_row Tables.the_row) tables_send,
      (
        Vec-send VersionCall.the_row call_send,
        tt,
      ),
    ),
  ),
)

-- a pass may go to another thread
pub pass_send : IsSend (Pass.the_row Versions.the_row VersionCall.the_row)
pass_send = pass.the_send Versions.the_row VersionCall.the_row versions_send

-- threads may share the turn
pub turn_sync : IsSync (Turn.the_row Versions.the_row Tables.the_row VersionCall.the_row storied.ghosts)
turn_sync = turn.the_sync Versions.the_row Tables.the_row VersionCall.the_row storied.ghosts versions_send
