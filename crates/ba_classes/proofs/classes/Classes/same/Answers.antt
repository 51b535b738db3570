use Rattle.std.proofs.Common.{◌≡◌, ◌<◌, length, slice_index}
use Rattle.std.proofs.lemmas.List.{get_or_read}
use Rattle.ba_classes.proofs.MergeLemmas.{same_decides}
use Rattle.ba_classes.proofs.classes.Classes.same.Goals as goal

pub returns : goal.returns
returns c =
    let i = c.self.inside in
    let a_in : c.args.a < length i.labels.items = rw (← c.self.view_is) at c.requires.left in
    let b_in : c.args.b < length i.labels.items = rw (← c.self.view_is) at c.requires.right in
    let left : c.index.result.now ≡ slice_index i.labels.items c.args.a = get_or_read _ _ _ a_in c.index.ensures 0 in
    let right : c.index-2.result.now ≡ slice_index i.labels.items c.args.b = get_or_read _ _ _ b_in c.index-2.ensures 0 in
    rw (left, right, ← c.self.view_is) (same_decides i.labels.items i.merges.items c.self.invariant _ _ a_in b_in)
