use Rattle.std.proofs.Common.{rules, ◌∙◌, ap, sym, fold, take_all}
use Rattle.std.proofs.hash.Loops.{each_more}
use Rattle.ba_cache.specs.Keys.{part_input}
use Rattle.ba_judge.proofs.key.KeyHash.hash.Goals as goal

pub loop-part-preserved : goal.loop-part-preserved
loop-part-preserved g c =
    c.feed.ensures ∙ ap (λ s. fold g.H.Hasher.write s (part_input c.part-item.result)) c.loop-part.invariant
    ∙ sym (each_more g.H.Hasher.write part_input _ _ c.loop-part.part-index c.part-item.result c.loop-part-test.true c.part-item.is)

pub returns : goal.returns
returns g c = search (rules, take_all)
