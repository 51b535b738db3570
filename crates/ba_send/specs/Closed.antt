-- A query with the context's values in place of its parameters means what the query means.
use Rattle.std.specs.Prelude.{◌↔◌, List, []}
use Rattle.ba_model.specs.Fit.{ContextFits, IsQuery}
use Rattle.ba_model.specs.Meaning.{InAnswer}
use Rattle.ba_model.specs.declared.policy.Context.{Context}
use Rattle.ba_model.specs.declared.query.Query.{Query}
use Rattle.ba_model.specs.declared.schema.Kind.{Kind}
use Rattle.ba_model.specs.declared.schema.Schema.{Schema}
use Rattle.ba_model.specs.declared.value.RowSet.{RowSet}
use Rattle.ba_model.specs.declared.value.Value.{Value}
use Rattle.ba_send.specs.Sent.{closed}

-- it has the same rows under any context
abbrev pub ClosedMeansTheSame : Type 0
ClosedMeansTheSame =
    (schema : Schema) (params : List Kind) (context other : Context) (query : Query) (d : RowSet)
    (r : List Value) → IsQuery schema params [] query → ContextFits params context
    → InAnswer (closed context query) other d r ↔ InAnswer query context d r

-- and is a query without parameters
abbrev pub ClosedIsQuery : Type 0
ClosedIsQuery =
    (schema : Schema) (params : List Kind) (context : Context) (query : Query)
    → IsQuery schema params [] query → ContextFits params context
    → IsQuery schema [] [] (closed context query)
