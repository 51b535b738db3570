use Rattle.ba_keys.proofs.LiteralLemmas.{made_fit}
use Rattle.ba_keys.proofs.literals.key_queries.Goals as goal

pub returns-clause-fit : goal.returns-clause-fit
returns-clause-fit c =
    made_fit c.args.policy.now c.args.key.now c.args.arguments.now c.requires.key c.requires.arguments c.len-params.result c.as_slice-values.result.now c.as_slice-query-items.result.now
    c.loop-query.queries c.loop-query.query-index c.len-params.ensures c.as_slice-values.ensures c.as_slice-query-items.ensures c.loop-query-test.false c.loop-query.invariant
