-- What becomes of an open request.
use Rattle.std.specs.Prelude.{◌≡◌, ℕ, ◌+◌, ◌==◌, not, true, false, List, [], ◌∷◌, ◌++◌, take}
use Rattle.std.specs.List.{filter}
use Rattle.ba_comply.specs.declared.trace.TraceEntry.{TraceEntry}
use Rattle.ba_model.specs.declared.policy.Context.{Context}
use Rattle.ba_live.specs.declared.open.Open.{Open}

-- it has asked nothing and was told nothing
abbrev pub new_open : Context → Open
new_open context =
    record { context = context; trace = []; asks = 0; lines = []; closed = false }

-- it can only end
abbrev pub closed_now : Open → Open
closed_now it = record it { closed = true }

-- it has asked so many questions more
abbrev pub asked_more : ℕ → Open → Open
asked_more count it = record it { asks = it.asks + count }

-- it has asked the question of this line, which may be told
abbrev pub with_line : ℕ → Open → Open
with_line line it = record it { asks = it.asks + 1; lines = it.lines ++ line ∷ [] }

-- the other lines
abbrev pub without : ℕ → List ℕ → List ℕ
without line lines = filter (λ other. not (other == line)) lines

-- the entries joined its trace, and the question of the line may not be told any more
abbrev pub with_told : ℕ → List TraceEntry → Open → Open
with_told line entries it = record it { trace = it.trace ++ entries; lines = without line it.lines }

-- so many of the entries joined its trace
abbrev pub with_front : ℕ → List TraceEntry → Open → Open
with_front count entries it = record it { trace = it.trace ++ take count entries }

-- a front of the entries joined its trace
pub record IsFrontOf (entries : List TraceEntry) (old new : Open) : Type 0 where
  pub count : ℕ
  pub new_is : new ≡ with_front count entries old
