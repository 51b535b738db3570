use Rattle.ba_match.proofs.tested.is_match.Goals as goal

pub returns-clause-strong : goal.returns-clause-strong
returns-clause-strong c = λ fits matches.
    c.matched_is_strong.ensures c.problem.result.now c.args.policy.now c.args.ctx.now c.args.trace.now c.args.query.now c.args.found.now c.problem.ensures.strong fits
    (c.is_match_of.ensures.0 matches)
