use Rattle.std.proofs.Common.{◌∙◌, ap, sym}
use Rattle.ba_contradict.proofs.ToldLemmas.{fits_blind, told}
use Rattle.ba_contradict.specs.Contradictions.{effort_in, without_views}
use Rattle.ba_contradict.proofs.search.contradiction.Goals as goal

pub proof_of-requires-clause-fits : goal.proof_of-requires-clause-fits
proof_of-requires-clause-fits g c =
    fits_blind c.args.policy.now c.in_ok-blind-in-Some.blind c.args.context.now c.args.trace.now
    c.in-Some.query.now (c.in_ok-blind-in-Some.ensures ∙ ap without_views c.deref.ensures)
    c.requires.fits (sym c.in-Some.ensures)

pub returns-in_ok-blind-in-Some : goal.returns-in_ok-blind-in-Some
returns-in_ok-blind-in-Some g c =
    told c.args.policy.now c.args.context.now c.args.trace.now
    (effort_in (g.S.Settle.orders c.args.settle.now) c.args.budget) c.in-Some.query.now
    (sym c.in-Some.ensures) c.requires.fits c.in_ok-blind-in-Some.blind
    (c.in_ok-blind-in-Some.ensures ∙ ap without_views c.deref.ensures) c.proof_of.result
    c.proof_of.ensures.found c.proof_of.ensures.strong
