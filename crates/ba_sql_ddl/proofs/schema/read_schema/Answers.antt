use Rattle.std.proofs.Common.{map}
use Rattle.ba_sql_ddl.specs.Written.{seen}
use Rattle.ba_sql_ddl.proofs.FaultLemmas.{read_tables}
use Rattle.ba_sql_ddl.proofs.InclusionLemmas.{with_fitting}
use Rattle.ba_sql_ddl.proofs.schema.read_schema.Goals as goal

pub returns-clause-tables : goal.returns-clause-tables
returns-clause-tables c = read_tables c.in_ok-tables.tables c.in_ok-schema.schema (map seen c.as_slice-3.result.now) c.with_rules.result c.in_ok-schema.ensures c.with_rules.ensures

pub returns-clause-rules : goal.returns-clause-rules
returns-clause-rules c = with_fitting c.in_ok-schema.schema (map seen c.as_slice-3.result.now) c.with_rules.result c.with_rules.ensures
