-- When told rows are found to contradict each other.
use Rattle.std.specs.Prelude.{◌≡◌, ◌≢◌, ◌-◌, ℕ, Bool, true, false, nat_le, min, List, [], ◌∷◌, ◌++◌, Option, Some, None, length, option_and_then, if◌then◌else◌}
use Rattle.ba_clash.specs.Clash.{AreFew as AreCompared, Clashes}
use Rattle.ba_comply.specs.declared.trace.TraceEntry.{TraceEntry}
use Rattle.ba_contradict.specs.Contradictions.{Contradicted, NoDatabase, StaysOpen, ToldFits}
use Rattle.ba_kernel.specs.declared.step.Step.{Step}
use Rattle.ba_model.specs.declared.policy.Context.{Context}
use Rattle.ba_model.specs.declared.policy.Policy.{Policy}
use Rattle.ba_settle.specs.Settling.{Effort}
use Rattle.ba_live.specs.Limits.{most_searched_rows, most_searched_steps}

-- what is left of this room behind so many rows, if they have room
abbrev pub room_behind : ℕ → ℕ → Option ℕ
room_behind room rows = if nat_le rows room then Some (room - rows) else None

-- and behind the rows of all entries
abbrev pub room_after : ℕ → List TraceEntry → Option ℕ
room_after room [] = Some room
room_after room (entry ∷ entries) =
    option_and_then (λ left. room_after left entries) (room_behind room (length entry.rows))

-- their rows are few enough to be searched
abbrev pub AreFew : List TraceEntry → Type 0
AreFew entries = room_after most_searched_rows entries ≢ None

-- of a search over them as soon as they are told: as many orders, and at most so many steps
abbrev pub soon : Effort → Effort
soon effort = record { orders = effort.orders; budget = min effort.budget most_searched_steps }

-- New entries, behind those that were told, are found to contradict them or each other: two rows are
-- one by a key and differ, or a search over all rows alone closes.
pub data IsFound (policy : Policy) (effort : Effort) (c : Context) (old new : List TraceEntry)
    : Type 0 where
  clash : AreCompared old new → Clashes policy.schema c old new → IsFound policy effort c old new
  searched : AreFew (old ++ new) → (steps : List Step) →
      Contradicted policy c (old ++ new) (soon effort) steps → IsFound policy effort c old new

-- they aren't
pub record IsClear (policy : Policy) (effort : Effort) (c : Context) (old new : List TraceEntry)
    : Type 0 where
  pub no_clash : AreCompared old new → Clashes policy.schema c old new → ⊥
  pub open_ : AreFew (old ++ new) → StaysOpen policy c (old ++ new) (soon effort)

-- whether they are
abbrev pub Finds : Policy → Effort → Context → List TraceEntry → List TraceEntry → Bool → Type 0
Finds policy effort c old new true = IsFound policy effort c old new
Finds policy effort c old new false = IsClear policy effort c old new

-- what is found to contradict itself is in the answers of no database that meets the schema
abbrev pub FoundIsNone : Type 0
FoundIsNone =
    (policy : Policy) (effort : Effort) (c : Context) (old new : List TraceEntry) →
    IsFound policy effort c old new → NoDatabase policy c (old ++ new)
