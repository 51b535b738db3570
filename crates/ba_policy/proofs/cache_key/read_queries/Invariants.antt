use Rattle.ba_policy.proofs.KeyLemmas.{ReadingAt}
use Rattle.ba_policy.proofs.cache_key.read_queries.Given as goal

abbrev pub invariant-loop-words : goal.invariant-loop-words
invariant-loop-words l = ReadingAt (λ words. words.now) l.schema l.scope l.texts l.queries l.words-index
