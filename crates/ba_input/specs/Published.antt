-- What is known of the table sets that a script publishes.
use Rattle.std.specs.Prelude.{◌≡◌}
use Rattle.ba_model.specs.Conform.{Conforms}
use Rattle.ba_model.specs.declared.schema.Schema.{Schema}
use Rattle.ba_tables.specs.TableSet.{TableSet}

-- the tables are of the schema, and conform to it
pub record IsSetOf (schema : Schema) (it : TableSet) : Type 0 where
  pub schema_is : it.schema ≡ schema
  pub conform : Conforms schema it.rows
