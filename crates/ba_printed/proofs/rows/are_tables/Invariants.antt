use Rattle.std.proofs.Common.{◌≡◌}
use Rattle.serde_json.specs.View.{members_view}
use Rattle.ba_printed.specs.Reading.{are_tables}
use Rattle.ba_printed.proofs.rows.are_tables.Given as goal

-- the names so far are tables'
abbrev pub invariant-loop-name : goal.invariant-loop-name
invariant-loop-name l = are_tables l.tables (members_view l.name-iterator) ≡ are_tables l.tables (members_view l.members.entries)
