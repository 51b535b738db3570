-- What callers see of a shelf.
use Rattle.std.specs.Prelude.{ℕ, ◌-◌, ◌^◌, List, Result, Ok, Err, min, vec_len, vec_capacity}
use Rattle.ba_kernel.specs.SearchStates.{Proof}
use Rattle.ba_template.specs.declared.shapes.Shape.{Shape}
use Rattle.ba_cache.specs.Rows.{Row}
use Rattle.ba_cache.specs.declared.call.Admit.{Admit as Answer}
use Rattle.ba_cache.specs.declared.call.Found.{Found}
use Rattle.ba_cache.specs.declared.call.ShelfCall.{ShelfCall}
use Rattle.ba_cache.specs.declared.call.ShelfCall.TheVariants.{Look, Admit, Refused}
use Rattle.ba_cache.specs.declared.shelf.Shelf.{Shelf}

-- its shapes with their templates, the shape that was used last first
abbrev pub rows_of : Shelf → List Row
rows_of s = s.rows.entries

-- the calls so far, in order
abbrev pub calls_of : Shelf → List ShelfCall
calls_of s = s.calls.items

-- how many further calls have their room, and an id of 32 bits
abbrev pub room_of : Shelf → ℕ
room_of s = min (vec_capacity s.calls - vec_len s.calls) (2 ^ 32 - 1 - vec_len s.calls)

abbrev pub looked : {E : Type 0} → Shape → Result Found E → ShelfCall
looked shape (Ok found) = Look (record { marker = record {}; value = shape }) (record { marker = record {}; value = found.templates })
looked shape (Err _) = Refused

abbrev pub admitted : {E : Type 0} → Proof → Result Answer E → ShelfCall
admitted t (Ok answer) = Admit (record { marker = record {}; value = t }) answer
admitted t (Err _) = Refused
