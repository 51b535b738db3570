-- A source in memory, and which of its calls fail.
use Rattle.std.specs.Prelude.{ℕ, List, Ok, Err, map}
use Rattle.std.specs.Prelude.{Vec}
use Rattle.std.specs.declared.alloc.Global.{Global}
use Rattle.ba_source.specs.Seen.{SourceSeen}
use Rattle.ba_source.specs.Taking.{Answer}
use Rattle.ba_source.specs.declared.source.SourceFail.TheVariants.{Fault, TooLong, NoMemory}

-- the bytes of lines
abbrev pub lines_of : List (Vec ℕ Global) → List (List ℕ)
lines_of lines = map (λ line. line.items) lines

-- a source in memory: what is seen of any source, the numbers of the calls that fail, and how many
-- calls came
pub record MemSourceSeen : Type 0 where
  pub shown : SourceSeen
  pub failing : List ℕ
  pub calls : ℕ

-- a fault is answered exactly there
abbrev pub FaultsWhere : Type 0 → Answer → Type 0
FaultsWhere there (Ok x) = ¬ there
FaultsWhere there (Err Fault) = there
FaultsWhere there (Err (TooLong n)) = ¬ there
FaultsWhere there (Err NoMemory) = ¬ there
