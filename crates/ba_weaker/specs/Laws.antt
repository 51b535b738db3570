-- Laws of weaker entries.
use Rattle.std.specs.Prelude.{◌≡◌, List, length}
use Rattle.ba_comply.specs.Comply.{Shows, Strong}
use Rattle.ba_comply.specs.declared.trace.TraceEntry.{TraceEntry}
use Rattle.ba_model.specs.Fit.{IsQuery}
use Rattle.ba_model.specs.Meaning.{RowsWithin}
use Rattle.ba_model.specs.declared.policy.Context.{Context}
use Rattle.ba_model.specs.declared.policy.Policy.{Policy}
use Rattle.ba_model.specs.declared.query.Query.{Query}
use Rattle.ba_model.specs.declared.schema.Kind.{Kind}
use Rattle.ba_model.specs.declared.schema.Schema.{Schema}
use Rattle.ba_model.specs.declared.value.RowSet.{RowSet}
use Rattle.ba_weaker.specs.Weaker.{AreWeaker, IsWeakened}

-- in any database each row of the question is a row of the weaker one
abbrev pub WeakerHasRows : Type 0
WeakerHasRows =
    (q weaker : Query) (c : Context) (d : RowSet) → IsWeakened q weaker → RowsWithin q weaker c d

-- so a database that shows the trace shows the weaker one
abbrev pub WeakerIsShown : Type 0
WeakerIsShown =
    (trace weaker : List TraceEntry) (c : Context) (d : RowSet) → AreWeaker trace weaker →
    Shows trace c d → Shows weaker c d

-- and what is strongly compliant after the weaker trace is so after the trace
abbrev pub WeakerRowsProve : Type 0
WeakerRowsProve =
    (policy : Policy) (c : Context) (trace weaker : List TraceEntry) (q : Query) →
    AreWeaker trace weaker → Strong policy c weaker q → Strong policy c trace q

-- the weaker question is a checked question, with the kinds of the checked one
pub record IsQueryAlike (s : Schema) (params vars : List Kind) (q weaker : Query)
    (is_query : IsQuery s params vars q) : Type 0 where
  pub is_query_too : IsQuery s params vars weaker
  pub kinds : is_query_too.fits.kinds ≡ is_query.fits.kinds

abbrev pub WeakerIsQuery : Type 0
WeakerIsQuery =
    (s : Schema) (params vars : List Kind) (q weaker : Query) (h : IsQuery s params vars q) →
    IsWeakened q weaker → IsQueryAlike s params vars q weaker h

-- the weaker question has one part
abbrev pub WeakerIsOnePart : Type 0
WeakerIsOnePart = (q weaker : Query) → IsWeakened q weaker → length weaker.parts ≡ 1
