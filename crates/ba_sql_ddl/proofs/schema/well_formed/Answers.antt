use Rattle.ba_sql_ddl.proofs.CheckLemmas.{check_gives}
use Rattle.ba_sql_ddl.proofs.schema.well_formed.Goals as goal

pub returns : goal.returns
returns c =
    check_gives c.args.tables c.new-rules.result c.check.result c.new-rules.ensures c.check.ensures.content c.check.ensures.ok c.check.ensures.fault
