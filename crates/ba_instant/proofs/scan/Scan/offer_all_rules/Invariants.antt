use Rattle.ba_instant.specs.Offers.{Improves, IsOfRule, Upto}
use Rattle.ba_instant.proofs.scan.Scan.offer_all_rules.Given as goal

-- the rules so far were offered
abbrev pub invariant-loop-rule : goal.invariant-loop-rule
invariant-loop-rule l = Improves l.self.search.now l.self.pick (Upto (IsOfRule l.self.number) l.rule) l.fn.best l.best
