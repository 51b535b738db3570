-- The script: five entries for each request, of which two questions may be answered and the last may not.
use Rattle.std.specs.Prelude.{ℕ, pos, List, [], ◌∷◌, ◌++◌, codes, decimal}
use Rattle.ba_model.specs.declared.policy.Context.{Context}
use Rattle.ba_model.specs.declared.value.Value.TheVariants as value
use Rattle.ba_script.specs.declared.entry.Script.{Script}
use Rattle.ba_script.specs.declared.entry.ScriptEntry.{ScriptEntry}
use Rattle.ba_script.specs.declared.entry.ScriptEntry.TheVariants as entry
use Rattle.ba_workload.specs.Chosen.{event_at, other_event, user_of}
use Rattle.ba_workload.specs.Lists.{all_of}

-- request k, from 0, is called `q` and the number
unfoldable pub name_of : ℕ → List ℕ
name_of k = codes "q" ++ decimal k

-- ---- questions

-- the user's own attendance of the event
unfoldable pub attendance_query : ℕ → ℕ → List ℕ
attendance_query user event = codes "SELECT UId, EId, At FROM Attendances WHERE UId = " ++ (decimal user ++ (codes " AND EId = " ++ decimal event))

unfoldable pub title_query : ℕ → List ℕ
title_query event = codes "SELECT Title FROM Events WHERE EId = " ++ decimal event

-- ---- entries

-- the value of the policy's one parameter
abbrev pub context_of : ℕ → Context
context_of user = record { values = value.Int (pos user) ∷ [] }

-- request k of a user about an event that the user attends: the attendance, the event's title, and the title of another event
abbrev pub request_entries : ℕ → ℕ → ℕ → List ScriptEntry
request_entries k user event =
    entry.Begin k (name_of k) (context_of user)
    ∷ entry.Ask k (name_of k) (attendance_query user event)
    ∷ entry.Ask k (name_of k) (title_query event)
    ∷ entry.Ask k (name_of k) (title_query (other_event event))
    ∷ entry.End k (name_of k)
    ∷ []

abbrev pub entries_of : ℕ → ℕ → List ScriptEntry
entries_of seed k = request_entries k (user_of seed k) (event_at seed k)

abbrev pub script : ℕ → ℕ → Script
script seed requests = record { entries = all_of (entries_of seed) 0 requests }
