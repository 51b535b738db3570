use Rattle.std.proofs.Common.{subst, sym}
use Rattle.ba_instant.proofs.ToldLemmas.{form_told}
use Rattle.ba_instant.specs.Scans.{TellsOf}
use Rattle.ba_instant.proofs.mapped.Mapped.is_told.Goals as goal

pub returns-in-OfRule : goal.returns-in-OfRule
returns-in-OfRule c = λ has.
    form_told c.args.self.now.scan.now.told.now c.args.self.now.scan.now.number c.args.self.now.form c.args.facts.now (subst TellsOf (sym c.in-OfRule.is) tt) (c.has_mapping.ensures has)

pub returns-in-OfView : goal.returns-in-OfView
returns-in-OfView c = λ has.
    form_told c.args.self.now.scan.now.told.now c.args.self.now.scan.now.number c.args.self.now.form c.args.facts.now (subst TellsOf (sym c.in-OfView.is) tt) (c.has_mapping-in-OfView.ensures has)
