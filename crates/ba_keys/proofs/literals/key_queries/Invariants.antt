use Rattle.std.proofs.Common.{◌≡◌, map, take}
use Rattle.ba_keys.specs.Literals.{query_with}
use Rattle.ba_keys.proofs.literals.key_queries.Given as goal

abbrev pub invariant-loop-query : goal.invariant-loop-query
invariant-loop-query l = l.queries ≡ map (query_with l.params l.values) (take l.query-index l.query-items)
