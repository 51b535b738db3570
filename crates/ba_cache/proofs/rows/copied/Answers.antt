use Rattle.ba_cache.proofs.RowLemmas.{copies_on}
use Rattle.ba_cache.proofs.rows.copied.Goals as goal

pub loop-kept-preserved : goal.loop-kept-preserved
loop-kept-preserved c =
    let inv = c.loop-kept.invariant in
    let k = copies_on c.loop-kept.all.items c.push.new.self.items c.args.templates.now c.loop-kept.kept-index c.in_ok-copy_of.field-0 c.kept-item.result inv.same inv.sound c.in_ok-push.ensures.items c.in_ok-copy_of.ensures.is c.kept-item.is c.loop-kept-test.true c.copy_of.ensures.sound in
    record { same = k.0; sound = k.1 }
