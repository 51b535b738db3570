use Rattle.std.proofs.Common.{◌∙◌, subst}
use Rattle.ba_facts.specs.Walks.{every}
use Rattle.ba_instant.proofs.SpreadWalks.{spread_live, spread_not_met, spread_not_row}
use Rattle.ba_instant.specs.Scans.{ImprovesBy}
use Rattle.ba_instant.specs.Spreads.{IsLikeSplits}
use Rattle.ba_instant.proofs.spread.SpreadVisit.end.Goals as goal
use Rattle.ba_instant.proofs.spread.SpreadVisit.end.Goals.{then-not-is_met-via-then-not-is_met, then-not-is_met-via-else-not-is_met+then-not-has_row}

pub returns-then-not-is_met-clause-visited : goal.returns-then-not-is_met-clause-visited
returns-then-not-is_met-clause-visited c =
    elim c.then-not-is_met.branch [
      | then-not-is_met-via-then-not-is_met w ↦
          spread_not_met c.args.self.now c.args.walk.now c.requires.1 c.args.chosen.now (every c.args.walk.now.branch.now) c.args.best.now
          (λ h. let t = c.is_met.ensures.1 h in let e = w.if-not-is_met.true in cc)
      | then-not-is_met-via-else-not-is_met+then-not-has_row w ↦
          spread_not_row c.args.self.now c.args.walk.now c.requires.1 c.args.chosen.now (every c.args.walk.now.branch.now) c.args.best.now
          (λ h. let t = w.has_row.ensures.1 h in let e = w.if-not-has_row.true in cc)
    ]

pub returns-clause-visited : goal.returns-clause-visited
returns-clause-visited c =
    let own = c.args.self.now in
    spread_live own c.args.walk.now c.requires.1 c.args.chosen.now (every c.args.walk.now.branch.now) c.as_slice.result.now c.args.best.now c.offer_likes.new.best
    (c.is_met.ensures.0 c.if-not-is_met.false) (c.has_row.ensures.0 c.if-not-has_row.false) (c.as_slice.ensures ∙ c.in_ok-facts.ensures)
    (subst (λ conds. ImprovesBy own.scan.now (IsLikeSplits own.scan.now.branch.now own.scan.now.number c.as_slice.result.now conds) c.args.best.now c.offer_likes.new.best)
    c.as_slice-conds.ensures c.in_ok-offer_likes.ensures)
