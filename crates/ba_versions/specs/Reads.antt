-- What callers see of the versions.
use Rattle.std.specs.Prelude.{ℕ, ◌-◌, ◌^◌, List, Result, Ok, Err, min, vec_len, vec_capacity}
use Rattle.ba_tables.specs.TableSet.{TableSet}
use Rattle.ba_versions.specs.declared.call.VersionCall.{VersionCall}
use Rattle.ba_versions.specs.declared.call.VersionCall.TheVariants.{Publish, Pin, Refused}
use Rattle.ba_versions.specs.declared.versions.Versions.{Versions}

-- version 0
abbrev pub opening_of : Versions → TableSet
opening_of v = v.opening.value

-- every version, in the order of their numbers
abbrev pub versions_of : Versions → List TableSet
versions_of v = v.tables.items

-- the calls so far, in order
abbrev pub calls_of : Versions → List VersionCall
calls_of v = v.calls.items

-- how many further calls have their room, and a number of 32 bits
abbrev pub room_of : Versions → ℕ
room_of v = min (min (vec_capacity v.calls - vec_len v.calls) (vec_capacity v.tables - vec_len v.tables)) (2 ^ 32 - 1 - vec_len v.calls)

abbrev pub published : TableSet → ℕ → VersionCall
published tables n = Publish (record { marker = record {}; value = tables }) n

abbrev pub pinned : {E : Type 0} → Result (ℕ × TableSet) E → VersionCall
pinned (Ok r) = Pin r.0 (record { marker = record {}; value = r.1 })
pinned (Err _) = Refused
