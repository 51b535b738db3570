use Rattle.ba_sql_ddl.proofs.ReadingLemmas.{fault_complete, fault_sound, lex_complete, lex_sound, many_complete, many_sound, one_schema, rule_complete, rule_sound, schema_complete, schema_sound, syntax_complete, syntax_sound, unsupported_complete, unsupported_sound}
use Rattle.ba_sql_ddl.proofs.laws.schema_reading.Goals as goal

pub returns-clause-reading : goal.returns-clause-reading
returns-clause-reading c bytes s = (schema_sound bytes s, schema_complete bytes s)

pub returns-clause-unique : goal.returns-clause-unique
returns-clause-unique c bytes s t a b = one_schema bytes s t a b

pub returns-clause-lex : goal.returns-clause-lex
returns-clause-lex c bytes f = (lex_sound bytes f, lex_complete bytes f)

pub returns-clause-unsupported : goal.returns-clause-unsupported
returns-clause-unsupported c bytes word = (unsupported_sound bytes word, unsupported_complete bytes word)

pub returns-clause-syntax : goal.returns-clause-syntax
returns-clause-syntax c bytes = (syntax_sound bytes, syntax_complete bytes)

pub returns-clause-fault : goal.returns-clause-fault
returns-clause-fault c bytes f = (fault_sound bytes f, fault_complete bytes f)

pub returns-clause-many : goal.returns-clause-many
returns-clause-many c bytes what limit = (many_sound bytes what limit, many_complete bytes what limit)

pub returns-clause-rule : goal.returns-clause-rule
returns-clause-rule c bytes number f = (rule_sound bytes number f, rule_complete bytes number f)
