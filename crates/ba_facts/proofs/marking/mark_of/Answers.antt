use Rattle.std.proofs.Common.{arith, refl, length}
use Rattle.std.proofs.lemmas.Option.{slice_get_read}
use Rattle.ba_facts.proofs.ClassLemmas.{label_below}
use Rattle.ba_facts.proofs.marking.mark_of.Goals as goal

pub index-requires : goal.index-requires
index-requires c = omega (arith, label_below c.label.ensures, c.requires.marked, c.args.marks.now.ok.0)

pub returns : goal.returns
returns c =
    let items = c.args.marks.now.items in
    record { label = c.label.result; is_label = c.label.ensures; there = slice_get_read items (length items) _ _ refl (omega (arith, label_below c.label.ensures, c.requires.marked)) c.index.ensures }
