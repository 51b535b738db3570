use Rattle.std.proofs.Common.{◌∙◌}
use Rattle.ba_kernel.proofs.SearchLemmas.{put_course}
use Rattle.ba_kernel.proofs.SpareLemmas.{kept}
use Rattle.ba_kernel.proofs.search.Search.put.Goals as goal

pub invariant_of-self-2 : goal.invariant_of-self-2
invariant_of-self-2 c = (
  put_course c.args.self.now c.self.inside.problem c.self.inside.steps c.add_step.new.steps c.self.inside.slots.items c.add_step.new.slots.items c.args.step
      c.args.cases.items c.self.view_is c.self.invariant.0 c.in_ok-old.ensures.steps c.in_ok-old.ensures.slots c.requires.few c.requires.leads,
  kept c.args.self.now c.self.inside.problem c.self.inside.steps c.add_step.new.steps c.self.inside.slots.items c.add_step.new.slots.items c.args.step
      c.args.cases.items c.len-count.result c.in_ok-old.old c.keep.new.before c.self.view_is c.self.invariant.0 c.runs_are_tidy.ensures c.requires.leads
      c.in_ok-old.ensures.steps c.in_ok-old.ensures.slots (c.len-count.ensures ∙ c.args.cases.ok.0) c.in_ok-old.ensures.old c.keep.ensures,
)
