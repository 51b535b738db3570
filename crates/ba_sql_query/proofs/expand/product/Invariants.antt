use Rattle.std.proofs.Common.{◌≡◌, take}
use Rattle.ba_sql_query.specs.Parts.{product}
use Rattle.ba_sql_query.proofs.expand.product.Given as goal

abbrev pub invariant-loop-member : goal.invariant-loop-member
invariant-loop-member l = l.found.items ≡ product (take l.member-index l.left) l.right
