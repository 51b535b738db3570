-- What the program's words come to: what the top calls promise, over the files of a folder.
use Rattle.std.specs.Prelude.{◌≡◌, ℕ, List, [], ◌∷◌, IfSome, None, Option}
use Rattle.ba_decide.specs.Decided as service
use Rattle.ba_decide.specs.declared.top.Ending.{Ending}
use Rattle.ba_input.specs.declared.detail.Detail.{Detail}
use Rattle.ba_lanes.specs.declared.journal.Journal.{Journal}
use Rattle.ba_outside.specs.Seen.{FilesSeen, SinkSeen}
use Rattle.ba_source.specs.Seen.{SourceSeen}
use Rattle.ba_top.specs.Ran.{Ran, Served, status_of}

-- files of which nothing is told, and none was asked for
abbrev pub unasked : FilesSeen
unasked = record { held = None; asked = []; taken = 0; faults = 0 }

-- The top call did what the words say, wrote this, and gave the status.
pub record DidWords (words : List (List ℕ)) (old new : SinkSeen) (status : ℕ) : Type 0 where
  pub files : FilesSeen
  pub detail : Detail
  pub journal : Option Journal
  pub ran : Ran words unasked files old new detail journal
  pub headline : IfSome journal (Served words unasked files old new detail)
  pub status_is : status ≡ status_of detail

-- the words behind the first
abbrev pub behind : List (List ℕ) → List (List ℕ)
behind [] = []
behind (first ∷ rest) = rest

-- The service that the words behind the first ask for took these lines, answered so, and gave the
-- status.
pub record ServedWords (words : List (List ℕ)) (source left : SourceSeen) (old new : SinkSeen)
    (status : ℕ) : Type 0 where
  pub files : FilesSeen
  pub how : Ending
  pub decides : service.Decides (behind words) unasked files how source left old new
  pub status_is : status ≡ service.status_of how
