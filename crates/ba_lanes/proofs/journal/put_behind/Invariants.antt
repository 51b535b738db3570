use Rattle.std.proofs.Common.{◌≡◌, ◌++◌}
use Rattle.std.specs.Vec.Iter.{into_iter_items}
use Rattle.ba_lanes.proofs.journal.put_behind.Given as goal

-- the templates so far are put behind, and the others are left
abbrev pub invariant-loop-template : goal.invariant-loop-template
invariant-loop-template l = record {
  can : (goal.iterator-loop-template).can_next l.template-iterator;
  finite : (goal.iterator-loop-template).is_finite l.template-iterator;
  items : l.all.items ++ into_iter_items l.template-iterator ≡ l.initial.all.items ++ l.fn.templates;
}
