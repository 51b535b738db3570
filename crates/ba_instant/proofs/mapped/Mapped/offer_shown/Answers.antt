use Rattle.std.proofs.Common.{subst, sym}
use Rattle.ba_instant.proofs.TakeLemmas.{least_late, shown_round}
use Rattle.ba_instant.specs.Scans.{TellsOf}
use Rattle.ba_instant.proofs.mapped.Mapped.offer_shown.Goals as goal

pub offer_at-requires : goal.offer_at-requires
offer_at-requires c =
    shown_round c.args.self.now.scan.now.search.now c.args.self.now.scan.now.pick c.args.self.now.scan.now.branch.now c.args.self.now.scan.now.number c.args.self.now.form c.args.self.now.side c.args.self.now.part.now c.args.self.now.scan.now.quiet c.args.self.now.scan.now.recent.now c.requires.look.of
    c.args.facts.now c.args.step c.least_round-round.result c.requires.is c.least_round-round.ensures (subst TellsOf (sym c.in-OfRule.is) tt)

pub offer_at-requires-in-OfView : goal.offer_at-requires-in-OfView
offer_at-requires-in-OfView c =
    shown_round c.args.self.now.scan.now.search.now c.args.self.now.scan.now.pick c.args.self.now.scan.now.branch.now c.args.self.now.scan.now.number c.args.self.now.form c.args.self.now.side c.args.self.now.part.now c.args.self.now.scan.now.quiet c.args.self.now.scan.now.recent.now c.requires.look.of
    c.args.facts.now c.args.step c.least_round-round.result c.requires.is c.least_round-round.ensures (subst TellsOf (sym c.in-OfView.is) tt)

pub offer_late-requires : goal.offer_late-requires
offer_late-requires c =
    least_late c.args.self.now.scan.now.search.now c.args.self.now.scan.now.pick c.args.self.now.scan.now.branch.now c.args.self.now.scan.now.number c.args.self.now.form c.args.self.now.side c.args.self.now.part.now c.args.self.now.scan.now.quiet c.args.self.now.scan.now.recent.now c.requires.look.of
    c.args.facts.now c.args.step c.least_round-round.result c.requires.is c.least_round-round.ensures
