use Rattle.std.proofs.Common.{◌≡◌, take, map}
use Rattle.std.specs.List.{flat_map}
use Rattle.ba_sql_ddl.specs.Meaning as meaning
use Rattle.ba_sql_ddl.proofs.draft.links.Given as goal

abbrev pub invariant-loop-item : goal.invariant-loop-item
invariant-loop-item l = l.found ≡ map (meaning.link_of l.scope l.columns) (flat_map meaning.links_in (take l.item-index l.items))
