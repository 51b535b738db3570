use Rattle.std.proofs.Common.{◌∙◌}
use Rattle.ba_kernel.proofs.SearchLemmas.{slots_after}
use Rattle.ba_kernel.specs.Courses.{branch_of}
use Rattle.ba_kernel.proofs.search.add_step.Goals as goal

pub returns-in-Ok-clause-slots : goal.returns-in-Ok-clause-slots
returns-in-Ok-clause-slots c =
    slots_after c.args.slots.now.items c.append.new.self.items c.in_ok-first.others.items c.branch-number.result (branch_of c.args.step) c.args.cases.items
    c.replace.new.dest c.branch-number.ensures c.requires c.in_ok-append.ensures.items (c.replace.ensures.after ∙ c.in_ok-first.ensures.0) c.in_ok-first.ensures.1
