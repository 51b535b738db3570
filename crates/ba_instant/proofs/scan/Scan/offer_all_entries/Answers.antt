use Rattle.std.proofs.Common.{◌≡◌, ◌≤◌, arith, length}
use Rattle.std.proofs.lemmas.Grind.{common_steps}
use Rattle.ba_kernel.specs.declared.step.Step.TheVariants as steps
use Rattle.ba_instant.proofs.ChaseLemmas.{entry_past}
use Rattle.ba_instant.proofs.OfferLemmas.{improves_end, improves_next}
use Rattle.ba_instant.proofs.scan.Scan.offer_all_entries.Goals as goal

pub loop-entry-preserved : goal.loop-entry-preserved
loop-entry-preserved c =
    improves_next c.args.self.now.search.now c.args.self.now.pick (λ entry step. step ≡ steps.Entry c.args.self.now.number entry) c.loop-entry.entry c.args.best.now c.loop-entry.best c.offer_entry.new.best c.loop-entry.invariant
    c.in_ok-offer_entry.ensures

pub returns : goal.returns
returns c =
    let past : length c.args.self.now.search.now.problem.entries ≤ c.loop-entry.entry = grind (arith, common_steps) in
    improves_end c.args.self.now.search.now c.args.self.now.pick (λ entry step. step ≡ steps.Entry c.args.self.now.number entry) c.loop-entry.entry c.args.best.now c.loop-entry.best c.loop-entry.invariant
    (λ entry step more of new. entry_past c.args.self.now.search.now c.args.self.now.number entry step (omega (arith, past, more)) of new)
