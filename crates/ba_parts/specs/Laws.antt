-- Laws of unions: strong compliance part by part, and told rows under the parts that they can be of.
use Rattle.std.specs.Prelude.{◌≡◌, ◌≢◌, ◌↔◌, List, [], All}
use Rattle.ba_model.specs.Conform.{Conforms}
use Rattle.ba_model.specs.Fit.{IsQuery}
use Rattle.ba_model.specs.Meaning.{InAnswer, IsAnswer}
use Rattle.ba_model.specs.declared.policy.Context.{Context}
use Rattle.ba_model.specs.declared.policy.Policy.{Policy}
use Rattle.ba_model.specs.declared.query.Part.{Part}
use Rattle.ba_model.specs.declared.query.Query.{Query}
use Rattle.ba_model.specs.declared.schema.Kind.{Kind}
use Rattle.ba_model.specs.declared.schema.Schema.{Schema}
use Rattle.ba_model.specs.declared.value.RowSet.{RowSet}
use Rattle.ba_model.specs.declared.value.Value.{Value}
use Rattle.ba_comply.specs.Comply.{Agree, Shows, Strong}
use Rattle.ba_comply.specs.declared.trace.TraceEntry.{TraceEntry}
use Rattle.ba_parts.specs.Parts.{CanBeOf, Chosen, alone, recorded_under, union_of}

-- a union is strongly compliant where each of its parts is, as a question of its own
abbrev pub UnionIsStrong : Type 0
UnionIsStrong =
    (policy : Policy) (c : Context) (trace : List TraceEntry) (q : Query) →
    All (λ part. Strong policy c trace (alone part)) q.parts → Strong policy c trace q

-- a part of a checked question is a checked question
abbrev pub PartIsQuery : Type 0
PartIsQuery =
    (s : Schema) (params vars : List Kind) (q : Query) → IsQuery s params vars q →
    All (λ part. IsQuery s params vars (alone part)) q.parts

-- a row that a part gives in a database that conforms can be of it
abbrev pub GivenCanBe : Type 0
GivenCanBe =
    (s : Schema) (c : Context) (d : RowSet) (row : List Value) (part : Part) → Conforms s d →
    InAnswer (alone part) c d row → CanBeOf s c row part

-- In a database that conforms, a row is in the answer of a union exactly where it is in the answer
-- of the union of those parts that it can be of.
abbrev pub RowIsOfItsParts : Type 0
RowIsOfItsParts =
    (s : Schema) (c : Context) (d : RowSet) (q : Query) (row : List Value) (parts : List Part) →
    Conforms s d → Chosen (CanBeOf s c row) q.parts parts →
    InAnswer q c d row ↔ InAnswer (union_of parts) c d row

-- And so exactly where it is in the answer of what it is recorded under, if it can be of a part.
abbrev pub RowIsRecorded : Type 0
RowIsRecorded =
    (s : Schema) (c : Context) (d : RowSet) (q : Query) (row : List Value) (parts : List Part) →
    Conforms s d → Chosen (CanBeOf s c row) q.parts parts → parts ≢ [] →
    InAnswer q c d row ↔ InAnswer (recorded_under q parts) c d row

-- A strongly compliant question has one answer in any two databases that conform, agree on the
-- views, and in whose answers all recorded rows are, which needn't be all rows of those answers.
abbrev pub StrongHasOneAnswer : Type 0
StrongHasOneAnswer =
    (policy : Policy) (c : Context) (trace : List TraceEntry) (q : Query) (d e : RowSet)
    (xs ys : List (List Value)) →
    Strong policy c trace q → Conforms policy.schema d → Conforms policy.schema e →
    Agree policy c d e → Shows trace c d → Shows trace c e →
    IsAnswer q c d xs → IsAnswer q c e ys → xs ≡ ys
