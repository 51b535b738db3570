-- How many rows the answer of a join reads over tables of two rows each.
use Rattle.std.specs.Prelude.{ℕ, ◌+◌, ◌≤◌, List, [], ◌∷◌, pos, codes}
use Rattle.ba_model.specs.declared.policy.Context.{Context}
use Rattle.ba_model.specs.declared.query.Op.TheVariants.{Eq}
use Rattle.ba_model.specs.declared.query.Operand.TheVariants.{Col, Val}
use Rattle.ba_model.specs.declared.query.Part.{Part}
use Rattle.ba_model.specs.declared.value.RowSet.{RowSet}
use Rattle.ba_model.specs.declared.value.Value.{Value}
use Rattle.ba_model.specs.declared.value.Value.TheVariants.{Int, Text}
use Rattle.ba_eval.specs.Visits.{StepsWithin}

-- UId and Name
abbrev pub users : List (List Value)
users =
    (Int (pos 1) ∷ Text (codes "ann") ∷ [])
    ∷ (Int (pos 2) ∷ Text (codes "bob") ∷ [])
    ∷ []

-- EId, Title and Duration
abbrev pub events : List (List Value)
events =
    (Int (pos 5) ∷ Text (codes "plan") ∷ Int (pos 30) ∷ [])
    ∷ (Int (pos 6) ∷ Text (codes "party") ∷ Int (pos 60) ∷ [])
    ∷ []

-- UId, EId and At
abbrev pub attendances : List (List Value)
attendances =
    (Int (pos 2) ∷ Int (pos 5) ∷ Int (pos 100) ∷ [])
    ∷ (Int (pos 1) ∷ Int (pos 6) ∷ Int (pos 200) ∷ [])
    ∷ []

-- the tables Users, Events and Attendances, which have the numbers 0, 1 and 2
abbrev pub three_tables : RowSet
three_tables = record { tables = users ∷ events ∷ attendances ∷ [] }

-- SELECT e.Title FROM Events e, Attendances a WHERE a.EId = e.EId AND a.UId = 2: the place 0 is that of e, and 1 that of a
abbrev pub attended_titles : Part
attended_titles = record {
  from = 1 ∷ 2 ∷ [];
  conds = record { op = Eq; left = Col 1 1; right = Col 0 0 } ∷ record { op = Eq; left = Col 1 0; right = Val (Int (pos 2)) } ∷ [];
  head = Col 0 1 ∷ [];
}

-- The answer to this part alone reads seven rows at most, in any context: its bound is the two rows of each of the two
-- tables, and the three choices of rows that make true the equations between their columns. These are each event alone,
-- and the first event with the first attendance.
abbrev pub JoinInSevenSteps : Type 0
JoinInSevenSteps = (c : Context) (old new : ℕ) → StepsWithin c three_tables (attended_titles ∷ []) old new → new ≤ old + 7
