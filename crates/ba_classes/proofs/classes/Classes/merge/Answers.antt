use Rattle.std.proofs.Common.{◌≡◌, ◌<◌, length, slice_index}
use Rattle.std.proofs.lemmas.List.{get_or_read}
use Rattle.ba_classes.proofs.MergeLemmas.{IsLabelling-step}
use Rattle.ba_classes.proofs.classes.Classes.merge.Goals as goal

pub invariant_of-self-2 : goal.invariant_of-self-2
invariant_of-self-2 c =
    let i = c.self.inside in
    let a_in : c.args.a < length i.labels.items = rw (← c.self.view_is) at c.requires.left in
    let b_in : c.args.b < length i.labels.items = rw (← c.self.view_is) at c.requires.right in
    let left : c.index-left.result.now ≡ slice_index i.labels.items c.args.a = get_or_read _ _ _ a_in c.index-left.ensures 0 in
    let right : c.index-right.result.now ≡ slice_index i.labels.items c.args.b = get_or_read _ _ _ b_in c.index-right.ensures 0 in
    rw c.in_ok-push.ensures.items
    (IsLabelling-step i.labels.items c.relabel.new.labels i.merges.items i.labels.len c.args.a c.args.b c.index-left.result.now c.index-right.result.now c.self.invariant a_in b_in i.labels.ok.0 left right (rw (← c.max.ensures, ← c.min.ensures, ← c.deref_mut.ensures.value) c.relabel.ensures))
