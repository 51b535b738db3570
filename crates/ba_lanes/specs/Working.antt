-- What all lanes have to do, and what becomes of it.
use Rattle.std.specs.Prelude.{◌≡◌, ℕ, ◌<◌, List, [], length, map, slice_index_or}
use Rattle.ba_input.specs.declared.input.Input.{Input}
use Rattle.ba_session.specs.declared.service.Passes.{Passes}
use Rattle.ba_session.specs.declared.service.Service.{Service}
use Rattle.ba_lanes.specs.Lanes.{of_lane}
use Rattle.ba_lanes.specs.Legal.{AreLoads, AreServed, LineDone, Load, lane_of}
use Rattle.ba_lanes.specs.Serving.{HaveJoined, HaveSplit, IsReady, SeeLoads, SumUp, lines_in}
use Rattle.ba_lanes.specs.declared.journal.Entry.{Entry}
use Rattle.ba_lanes.specs.declared.work.Work.{Work}

-- the work of the lane k, over this input and this service, by a search of so many orders
pub record IsWork {R S : Type 0} (orders_of : S → ℕ) (input : Input) (service : Service) (k : ℕ)
    (it : Work R S) : Type 0 where
  pub input_is : it.input.now ≡ input
  pub service_is : it.service.now ≡ service
  pub orders_are : orders_of it.settle.now ≡ input.orders
  pub ready : IsReady input service k it.lane

-- These are passes that have admitted the input's templates and split off those of all lanes, which
-- have seen the admits.
pub record AreSplitOff {R S : Type 0} (input : Input) (works : List (Work R S)) (p : Passes)
    : Type 0 where
  pub loads : List Load
  pub loaded : AreLoads input loads
  pub split : HaveSplit loads input.workers p
  pub see : (k : ℕ) (d : Work R S) → k < input.workers →
      SeeLoads loads (slice_index_or works k d).lane.passes

-- All lanes are done: the answers to the loaded templates, the entries of each lane, and the passes
-- that have joined those of all.
pub record AreGathered (input : Input) (entries_of : ℕ → List Entry) (p : Passes) : Type 0 where
  pub loads : List Load
  pub loaded : AreLoads input loads
  pub done : ℕ → List LineDone
  pub entries : (k : ℕ) → k < input.workers → entries_of k ≡ map (λ it. it.entry) (done k)
  pub lines : (k : ℕ) → k < input.workers →
      AreServed input [] (lines_in input k input.script.entries) (done k)
  pub joined : HaveJoined loads input.workers input.workers done p
  pub sums : SumUp p

-- an entry for each line, and those of the lines of each lane are the lane's, in their order
pub record AreMerged (input : Input) (entries_of : ℕ → List Entry) (entries : List Entry)
    : Type 0 where
  pub many : length entries ≡ length input.script.entries
  pub each : (k : ℕ) → k < input.workers →
      of_lane (lane_of input.workers) k input.script.entries entries ≡ entries_of k
