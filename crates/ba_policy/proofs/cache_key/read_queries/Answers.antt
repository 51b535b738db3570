use Rattle.std.proofs.lemmas.Result.{err_from_is_err_and}
use Rattle.ba_policy.proofs.KeyLemmas.{reading_fails, reading_more, reading_over}
use Rattle.ba_policy.proofs.cache_key.read_queries.Goals as goal

pub returns-in_err-query-clause-exact : goal.returns-in_err-query-clause-exact
returns-in_err-query-clause-exact c =
    let p = err_from_is_err_and c.from_residual.result c.from_residual.ensures.1 in
    rw (p.1, p.2) (reading_fails (λ words. words.now) c.args.schema.now c.args.scope.now c.args.texts.now c.loop-words.queries c.loop-words.words-index c.words-item.result
    c.in_err-query.field-0.0 c.loop-words.invariant c.loop-words-test.true c.words-item.is c.in_err-query.ensures.exact)

pub returns-clause-exact : goal.returns-clause-exact
returns-clause-exact c =
    reading_over (λ words. words.now) c.args.schema.now c.args.scope.now c.args.texts.now c.loop-words.queries c.loop-words.words-index c.loop-words.invariant c.loop-words-test.false

pub loop-words-preserved : goal.loop-words-preserved
loop-words-preserved c =
    reading_more (λ words. words.now) c.args.schema.now c.args.scope.now c.args.texts.now c.loop-words.queries c.push.new.self c.loop-words.words-index c.words-item.result c.in_ok-query.query c.loop-words.invariant c.loop-words-test.true c.words-item.is
    c.in_ok-query.ensures.exact c.in_ok-query.ensures.query c.in_ok-push.ensures.ok
