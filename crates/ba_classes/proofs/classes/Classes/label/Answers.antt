use Rattle.std.proofs.Common.{◌≡◌, ◌<◌, length, slice_index}
use Rattle.std.proofs.lemmas.List.{get_or_read}
use Rattle.ba_classes.proofs.MergeLemmas.{label_is}
use Rattle.ba_classes.proofs.classes.Classes.label.Goals as goal

pub returns : goal.returns
returns c =
    let i = c.self.inside in
    let a_in : c.args.a < length i.labels.items = rw (← c.self.view_is) at c.requires in
    let read : c.index.result.now ≡ slice_index i.labels.items c.args.a = get_or_read _ _ _ a_in c.index.ensures 0 in
    rw (read, ← c.self.view_is) (label_is i.labels.items i.merges.items c.self.invariant _ a_in)
