-- Compliance of a query with a policy, after a trace of answered queries (Blockaid, OSDI 2022).
use Rattle.std.specs.Prelude.{◌≡◌, List, All, Contains}
use Rattle.ba_model.specs.Conform.{Conforms}
use Rattle.ba_model.specs.Meaning.{InAnswer, IsAnswer}
use Rattle.ba_model.specs.declared.policy.Context.{Context}
use Rattle.ba_model.specs.declared.policy.Policy.{Policy}
use Rattle.ba_model.specs.declared.query.Query.{Query}
use Rattle.ba_model.specs.declared.value.RowSet.{RowSet}
use Rattle.ba_model.specs.declared.value.Value.{Value}
use Rattle.ba_comply.specs.declared.trace.TraceEntry.{TraceEntry}

-- each row of the query in d is one in e
pub record AnswerWithin (q : Query) (c : Context) (d e : RowSet) : Type 0 where
  pub rows : (r : List Value) → InAnswer q c d r → InAnswer q c e r

-- the query has the same rows in d and in e
pub record SameAnswer (q : Query) (c : Context) (d e : RowSet) : Type 0 where
  pub within : AnswerWithin q c d e
  pub back : AnswerWithin q c e d

-- each view's rows in d are among its rows in e
pub record Within (policy : Policy) (c : Context) (d e : RowSet) : Type 0 where
  pub views : All (λ view. AnswerWithin view.query c d e) policy.views

-- each view has the same rows in d and in e
pub record Agree (policy : Policy) (c : Context) (d e : RowSet) : Type 0 where
  pub within : Within policy c d e
  pub back : Within policy c e d

-- each entry's rows are its query's answer in d
pub record Records (trace : List TraceEntry) (c : Context) (d : RowSet) : Type 0 where
  pub entries : All (λ entry. IsAnswer entry.query c d entry.rows) trace

-- each recorded row is in its query's answer in d
pub record Shows (trace : List TraceEntry) (c : Context) (d : RowSet) : Type 0 where
  pub entries : All (λ entry. All (InAnswer entry.query c d) entry.rows) trace

-- Compliant, as in the paper: any two conforming databases that agree on the views and record the trace give the query the same answer.
pub record Complies (policy : Policy) (c : Context) (trace : List TraceEntry) (q : Query) : Type 0 where
  pub same :
      (d e : RowSet) → Conforms policy.schema d → Conforms policy.schema e → Agree policy c d e → Records trace c d → Records trace c e → SameAnswer q c d e

-- Strongly compliant, the condition that is checked: of any two conforming databases, where e has the views' rows of d and d shows
-- the trace, e has the query's rows of d.
pub record Strong (policy : Policy) (c : Context) (trace : List TraceEntry) (q : Query) : Type 0 where
  pub within :
      (d e : RowSet) → Conforms policy.schema d → Conforms policy.schema e → Within policy c d e → Shows trace c d → AnswerWithin q c d e

-- strong compliance implies compliance
abbrev pub StrongComplies : Type 0
StrongComplies = (policy : Policy) (c : Context) (trace : List TraceEntry) (q : Query) → Strong policy c trace q → Complies policy c trace q

-- a compliant query has one answer in any two conforming databases that agree on the views and record the trace
abbrev pub CompliesHasOneAnswer : Type 0
CompliesHasOneAnswer =
    (policy : Policy) (c : Context) (trace : List TraceEntry) (q : Query) (d e : RowSet) (xs ys : List (List Value)) → Complies policy c trace q → Conforms policy.schema d → Conforms policy.schema e → Agree policy c d e → Records trace c d → Records trace c e → IsAnswer q c d xs → IsAnswer q c e ys → xs ≡ ys

-- some entry of the trace has the entry's query and all of its rows
pub record IsKeptIn (trace : List TraceEntry) (entry : TraceEntry) : Type 0 where
  pub later : TraceEntry
  pub there : Contains trace later
  pub query : later.query ≡ entry.query
  pub rows : (r : List Value) → Contains entry.rows r → Contains later.rows r

-- the new trace is the old one with rows or entries added
pub record Grows (old new : List TraceEntry) : Type 0 where
  pub entries : All (IsKeptIn new) old

-- strong compliance is kept when rows or entries are added to the trace
abbrev pub StrongIsKept : Type 0
StrongIsKept =
    (policy : Policy) (c : Context) (old new : List TraceEntry) (q : Query) → Grows old new → Strong policy c old q → Strong policy c new q

-- the answer of a strongly compliant query in d is its answer in each e that agrees with d and records the trace too
abbrev pub AnswerEverywhere : Type 0
AnswerEverywhere =
    (policy : Policy) (c : Context) (trace : List TraceEntry) (q : Query) (d e : RowSet) (rows : List (List Value)) → Strong policy c trace q → Conforms policy.schema d → Conforms policy.schema e → Agree policy c d e → Records trace c d → Records trace c e → IsAnswer q c d rows → IsAnswer q c e rows
