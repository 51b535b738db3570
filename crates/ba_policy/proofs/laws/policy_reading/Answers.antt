use Rattle.ba_policy.proofs.ReadingLemmas.{lex_complete, lex_sound, many_complete, many_sound, one_policy, policy_complete, policy_sound, statement_complete, statement_sound, syntax_complete, syntax_sound}
use Rattle.ba_policy.proofs.laws.policy_reading.Goals as goal

pub returns-clause-reading : goal.returns-clause-reading
returns-clause-reading c schema bytes p = (policy_sound schema bytes p, policy_complete schema bytes p)

pub returns-clause-unique : goal.returns-clause-unique
returns-clause-unique c schema bytes p q a b = one_policy schema bytes p q a b

pub returns-clause-lex : goal.returns-clause-lex
returns-clause-lex c schema bytes f = (lex_sound schema bytes f, lex_complete schema bytes f)

pub returns-clause-syntax : goal.returns-clause-syntax
returns-clause-syntax c schema bytes = (syntax_sound schema bytes, syntax_complete schema bytes)

pub returns-clause-statement : goal.returns-clause-statement
returns-clause-statement c schema bytes f is = (statement_sound schema bytes f is, statement_complete schema bytes f)

pub returns-clause-many : goal.returns-clause-many
returns-clause-many c schema bytes what limit = (many_sound schema bytes what limit, many_complete schema bytes what limit)
