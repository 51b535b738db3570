use Rattle.std.proofs.Common.{sym}
use Rattle.ba_facts.proofs.knowledge.Knowledge.classes_clash.Goals as goal

pub returns : goal.returns
returns c = rw (← c.self.view_is) (c.clashes.ensures _ (sym c.deref.ensures.value) c.self.invariant)
