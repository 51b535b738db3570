-- A lane's work may go to a thread of its own. Each type by its fields, since a search through all at once ends at its limit.
use denote.Param.Send.{IsSend, IsSync, sendable}
use denote.Param.SendFields.{declared_send, declared_sync}
use Rattle.std.proofs.Crossing.{crosses}
use Rattle.std.proofs.alloc.Global.TheSendSync as heap
use Rattle.ba_model.proofs.policy.Policy.TheSendSync as policy
use Rattle.ba_cache.proofs.Crossing.{cache_pass_send, cache_sync}
use Rattle.ba_versions.proofs.Crossing.{pass_send, turn_sync}
use Rattle.ba_session.specs.contracts.service.Passes as Passes
use Rattle.ba_session.specs.contracts.service.Service as Service
use Rattle.ba_session.proofs.request.Request.TheSendSync as request
use Rattle.ba_lanes.specs.contracts.lane.Lane as Lane
use Rattle.ba_lanes.specs.contracts.work.Work as Work
use Rattle.ba_input.proofs.input.Input.TheSendSync as input
use Rattle.ba_lanes.proofs.journal.Entry.TheSendSync as entry

passes_send : IsSend Passes.the_row
passes_send = declared_send Passes.the_type (pass_send, (cache_pass_send, tt))

service_sync : IsSync Service.the_row
service_sync = declared_sync Service.the_type (search (sendable, crosses, policy.the_send, policy.the_sync) depth 20, (turn_sync, (cache_sync, tt)))

lane_send : IsSend Lane.the_row
lane_send = declared_send Lane.the_type (
  passes_send,
  (
    search (sendable, crosses, request.the_send) depth 20,
    (
      search (sendable, crosses, entry.the_send) depth 20,
      tt,
    ),
  ),
)

-- a lane's work may go to a thread of its own
pub work_send : (l : _) (R S : _) → IsSync R → IsSync S → IsSend (Work.the_row l R S)
work_send l R S shared settle_shared = declared_send (Work.the_type l R S) (
  search sendable,
  (
    search (sendable, heap.the_send),
    (
      search (sendable, input.the_sync),
      (
        search (sendable, service_sync),
        (
          search sendable,
          (
            lane_send,
            tt,
          ),
        ),
      ),
    ),
  ),
)
