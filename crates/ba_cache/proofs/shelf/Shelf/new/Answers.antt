use Rattle.std.proofs.Common.{ap, sym}
use Rattle.ba_cache.proofs.Histories.{starts}
use Rattle.ba_cache.specs.Rows.{count_added}
use Rattle.ba_cache.proofs.shelf.Shelf.new.Goals as goal

pub invariant_of-result-clause-legal : goal.invariant_of-result-clause-legal
invariant_of-result-clause-legal c = starts c.new-3.result.items c.in_ok-new.field-0.entries c.new-3.ensures.items (ap (λ r. r.entries) c.in_ok-new.ensures)

pub invariant_of-result-clause-counted : goal.invariant_of-result-clause-counted
invariant_of-result-clause-counted c = sym (ap count_added c.new-3.ensures.items)
