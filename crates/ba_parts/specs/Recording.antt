-- Told rows as entries of a trace.
use Rattle.std.specs.Prelude.{◌≡◌, ◌≢◌, ◌↔◌, List, [], All, Contains, Result, Ok, Err, ⊤}
use Rattle.ba_model.specs.Conform.{Conforms}
use Rattle.ba_model.specs.Meaning.{InAnswer}
use Rattle.ba_model.specs.declared.failure.Failure.{Failure}
use Rattle.ba_model.specs.declared.failure.Failure.TheVariants.{NoMemory, Fault}
use Rattle.ba_model.specs.declared.policy.Context.{Context}
use Rattle.ba_model.specs.declared.query.Part.{Part}
use Rattle.ba_model.specs.declared.query.Query.{Query}
use Rattle.ba_model.specs.declared.schema.Schema.{Schema}
use Rattle.ba_model.specs.declared.value.RowSet.{RowSet}
use Rattle.ba_model.specs.declared.value.Value.{Value}
use Rattle.ba_comply.specs.Comply.{Shows}
use Rattle.ba_comply.specs.declared.trace.TraceEntry.{TraceEntry}
use Rattle.ba_parts.specs.Parts.{CanBeOf, Chosen, recorded_under}

-- the row can be of a part, and is recorded under this question
pub record IsUnder (s : Schema) (c : Context) (q : Query) (row : List Value) (under : Query)
    : Type 0 where
  pub parts : List Part
  pub chosen : Chosen (CanBeOf s c row) q.parts parts
  pub some : parts ≢ []
  pub under_is : under ≡ recorded_under q parts

-- the row is in an entry, under what it is recorded under
pub record IsRecordedIn (s : Schema) (c : Context) (q : Query) (entries : List TraceEntry)
    (row : List Value) : Type 0 where
  pub entry : TraceEntry
  pub there : Contains entries entry
  pub under : IsUnder s c q row entry.query
  pub in_it : Contains entry.rows row

-- each row of the entry is one of the rows, under what it is recorded under, and there is one
pub record IsEntryOf (s : Schema) (c : Context) (q : Query) (rows : List (List Value))
    (entry : TraceEntry) : Type 0 where
  pub some : entry.rows ≢ []
  pub from : All (Contains rows) entry.rows
  pub under : All (λ row. IsUnder s c q row entry.query) entry.rows

-- the entries tell these rows of the question, and no others
pub record AreEntries (s : Schema) (c : Context) (q : Query) (rows : List (List Value))
    (entries : List TraceEntry) : Type 0 where
  pub all : All (IsRecordedIn s c q entries) rows
  pub only : All (IsEntryOf s c q rows) entries

-- the row can be of no part of the question
abbrev pub IsMisfit : Schema → Context → Query → List Value → Type 0
IsMisfit s c q row = Chosen (CanBeOf s c row) q.parts []

-- one of the rows can be of no part of the question
pub record HasMisfit (s : Schema) (c : Context) (q : Query) (rows : List (List Value)) : Type 0 where
  pub row : List Value
  pub there : Contains rows row
  pub misfit : IsMisfit s c q row

-- a fault comes exactly there; want of memory may stand in place of any answer
abbrev pub Misfits : {X F : Type 0} → Result X (Failure F) → Type 0 → Type 0
Misfits (Ok x) there = ¬ there
Misfits (Err NoMemory) there = ⊤
Misfits (Err (Fault fault)) there = there

-- In a database that conforms, the rows are in the question's answer exactly where the entries show.
abbrev pub EntriesShowRows : Type 0
EntriesShowRows =
    (s : Schema) (c : Context) (d : RowSet) (q : Query) (rows : List (List Value))
    (entries : List TraceEntry) → Conforms s d → AreEntries s c q rows entries →
    All (InAnswer q c d) rows ↔ Shows entries c d
