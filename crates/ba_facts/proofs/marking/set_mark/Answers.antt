use Rattle.std.proofs.Common.{arith, refl}
use Rattle.ba_facts.proofs.ClassLemmas.{label_below}
use Rattle.ba_facts.proofs.marking.set_mark.Goals as goal

pub index_mut-requires : goal.index_mut-requires
index_mut-requires c = omega (arith, label_below c.label.ensures, c.requires.marked, c.args.marks.now.ok.0)

pub returns : goal.returns
returns c = record { label = c.label.result; is_label = c.label.ensures; within = omega (arith, label_below c.label.ensures, c.requires.marked); new_is = refl }
