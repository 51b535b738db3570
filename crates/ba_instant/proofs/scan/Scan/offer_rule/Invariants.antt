use Rattle.ba_instant.specs.Offers.{Improves, IsOfForm, Upto}
use Rattle.ba_instant.specs.declared.mapped.Form.TheVariants.{OfRule}
use Rattle.ba_instant.proofs.scan.Scan.offer_rule.Given as goal

-- the parts so far were offered
abbrev pub invariant-loop-part : goal.invariant-loop-part
invariant-loop-part l = Improves l.self.search.now l.self.pick (Upto (λ part. IsOfForm l.self.number (OfRule l.rule part)) l.part) l.fn.best l.best
