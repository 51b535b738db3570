-- What an allowed question's answer depends on.
use Rattle.std.specs.Prelude.{◌≡◌, ℕ, List, [], ◌∷◌, ◌++◌, All, take}
use Rattle.ba_comply.specs.Comply.{Agree}
use Rattle.ba_comply.specs.declared.trace.TraceEntry.{TraceEntry}
use Rattle.ba_judge.specs.Judging.{Asked, IsStrong}
use Rattle.ba_kernel.specs.Asked.{RecordFits}
use Rattle.ba_model.specs.Conform.{Conforms}
use Rattle.ba_model.specs.Fit.{ContextFits, IsQuery, kinds_of}
use Rattle.ba_model.specs.Meaning.{InAnswer, IsAnswer}
use Rattle.ba_model.specs.declared.policy.Context.{Context}
use Rattle.ba_model.specs.declared.policy.Policy.{Policy}
use Rattle.ba_model.specs.declared.query.Query.{Query}
use Rattle.ba_model.specs.declared.value.RowSet.{RowSet}
use Rattle.ba_model.specs.declared.value.Value.{Value}
use Rattle.ba_parts.specs.Recording.{AreEntries}

-- rows that were told of a question
pub record ToldRows : Type 0 where
  pub query : Query
  pub rows : List (List Value)

-- The trace records what was told, in order: each telling by its entries. Where there was no memory
-- for a telling, a front of its entries may stand there.
pub data RecordsTold (policy : Policy) (c : Context) : List ToldRows → List TraceEntry → Type 0
  where
    nothing : RecordsTold policy c [] []
    more : {told : List ToldRows} {trace entries : List TraceEntry} (it : ToldRows) →
        RecordsTold policy c told trace → AreEntries policy.schema c it.query it.rows entries →
        RecordsTold policy c (told ++ it ∷ []) (trace ++ entries)
    some : {told : List ToldRows} {trace entries : List TraceEntry} (it : ToldRows) (count : ℕ) →
        RecordsTold policy c told trace → AreEntries policy.schema c it.query it.rows entries →
        RecordsTold policy c (told ++ it ∷ []) (trace ++ take count entries)

-- each told row is in its question's answer in the database
pub record GivesTold (c : Context) (told : List ToldRows) (d : RowSet) : Type 0 where
  pub each : All (λ it. All (InAnswer it.query c d) it.rows) told

-- the user can't tell the databases apart: both meet the schema, they agree on the views, and all
-- that was told is in the answers of both
pub record LookAlike (policy : Policy) (c : Context) (told : List ToldRows) (d e : RowSet)
    : Type 0 where
  pub conforms_one : Conforms policy.schema d
  pub conforms_two : Conforms policy.schema e
  pub agree : Agree policy c d e
  pub told_one : GivesTold c told d
  pub told_two : GivesTold c told e

-- A question that is strongly compliant after what was told has one answer in any two databases
-- that the user can't tell apart.
abbrev pub AllowedHasOneAnswer : Type 0
AllowedHasOneAnswer =
    (asked : Asked) (told : List ToldRows) (d e : RowSet) (xs ys : List (List Value)) →
    RecordsTold asked.policy asked.context told asked.trace → IsStrong asked →
    LookAlike asked.policy asked.context told d e →
    IsAnswer asked.query asked.context d xs → IsAnswer asked.query asked.context e ys → xs ≡ ys

-- told rows may be recorded: their entries fit the policy
abbrev pub EntriesFit : Type 0
EntriesFit =
    (policy : Policy) (c : Context) (q : Query) (rows : List (List Value))
    (entries : List TraceEntry) →
    IsQuery policy.schema (kinds_of policy.params) [] q → ContextFits (kinds_of policy.params) c →
    AreEntries policy.schema c q rows entries → All (RecordFits policy) entries
