-- What the judgement of a read of a cache key tells.
use Rattle.std.specs.Prelude.{◌≡◌, List, ◌∷◌, ◌++◌, All, Option, Some, None}
use Rattle.std.specs.List.{AllZip}
use Rattle.ba_comply.specs.declared.trace.TraceEntry.{TraceEntry}
use Rattle.ba_judge.specs.Judging.{Asked, Judges, Prefers}
use Rattle.ba_judge.specs.Shelves.{Learns}
use Rattle.ba_judge.specs.declared.reading.Read.{Read}
use Rattle.ba_judge.specs.declared.reading.Read.TheVariants.{Allowed, Blocked}
use Rattle.ba_judge.specs.declared.reading.Reading.{Reading}
use Rattle.ba_judge.specs.declared.shelves.Shelves.{Shelves}
use Rattle.ba_judge.specs.declared.verdict.Allowed.{Allowed as Grounds}
use Rattle.ba_judge.specs.declared.verdict.Judgement.{Judgement}
use Rattle.ba_judge.specs.declared.verdict.Judgement.TheVariants as judged
use Rattle.ba_judge.specs.declared.verdict.Reason.{Reason}
use Rattle.ba_kernel.specs.Asked.{QuestionFits, RecordFits}
use Rattle.ba_keys.specs.Literals.{key_queries}
use Rattle.ba_model.specs.Fit.{ContextFits, KeyFits, PolicyFits, kinds_of}
use Rattle.ba_model.specs.RuleFaults.{RuleFits}
use Rattle.ba_model.specs.SchemaFaults.{AreTables}
use Rattle.ba_model.specs.declared.policy.Context.{Context}
use Rattle.ba_model.specs.declared.policy.Policy.{Policy}
use Rattle.ba_model.specs.declared.query.Query.{Query}
use Rattle.ba_settle.specs.Settling.{Effort}

-- who asks: under a context of a policy, after a trace
pub record Reader : Type 0 where
  pub policy : Policy
  pub context : Context
  pub trace : List TraceEntry

abbrev pub reader : Reading → Reader
reader it = record { policy = it.policy.now; context = it.context.now; trace = it.trace.now }

-- the query, asked so
abbrev pub asked_by : Reader → Query → Asked
asked_by it query = record {
  policy = it.policy;
  context = it.context;
  trace = it.trace;
  query = query;
}

-- the key's queries, with its arguments as literals
abbrev pub queries_of : Reading → List Query
queries_of it = key_queries it.policy.now it.key.now it.arguments.now

-- the policy was checked, the key is one of it, and the context, the trace and the arguments fit
pub record ReadingFits (it : Reading) : Type 0 where
  pub tables : AreTables it.policy.now.schema.tables
  pub rules : All (RuleFits it.policy.now.schema) it.policy.now.schema.rules
  pub policy_fits : PolicyFits it.policy.now
  pub context : ContextFits (kinds_of it.policy.now.params) it.context.now
  pub trace_fits : All (RecordFits it.policy.now) it.trace.now
  pub key : KeyFits it.policy.now it.key.now
  pub arguments : ContextFits (kinds_of it.key.now.arguments) it.arguments.now

-- each of the queries may be asked
abbrev pub AreFit : Reader → List Query → Type 0
AreFit it queries = All (λ query. QuestionFits it.policy it.context it.trace query) queries

-- the judgement of a query, over shelves on which judgements have learned since
pub record IsJudgedSince (asked : Asked) (effort : Effort) (old : Shelves) (it : Judgement)
    : Type 0 where
  pub judges : Judges asked effort it
  pub at : Shelves
  pub learned : Learns old at
  pub prefers : Prefers asked effort at it

-- each of the queries is allowed for its reasons
abbrev pub AreAllowed : Reader → Effort → Shelves → List Query → List Grounds → Type 0
AreAllowed it effort old queries grounds =
    AllZip (λ query by. IsJudgedSince (asked_by it query) effort old (judged.Allowed by))
    queries grounds

-- the queries in front are allowed for these reasons, and the next one is blocked for this reason
pub record IsBlockedBehind (it : Reader) (effort : Effort) (old : Shelves) (queries : List Query)
    (before : List Grounds) (reason : Reason) : Type 0 where
  pub front : List Query
  pub query : Query
  pub back : List Query
  pub are : queries ≡ front ++ query ∷ back
  pub allowed : AreAllowed it effort old front before
  pub blocked : IsJudgedSince (asked_by it query) effort old (judged.Blocked reason)

-- the first of the queries that is blocked, or that all are allowed
abbrev pub StopsAt : Reader → Effort → Shelves → List Query → List Grounds → Option Reason → Type 0
StopsAt it effort old queries grounds None = AreAllowed it effort old queries grounds
StopsAt it effort old queries grounds (Some reason) =
    IsBlockedBehind it effort old queries grounds reason

-- A read of these queries is let through where each of them is allowed, and blocked at the first
-- that isn't. Each is judged in turn, over what stands on these shelves and what was learned since.
abbrev pub JudgesRead : Reader → Effort → Shelves → List Query → Read → Type 0
JudgesRead it effort old queries (Allowed its by) =
    (its ≡ queries) × AreAllowed it effort old queries by
JudgesRead it effort old queries (Blocked its before reason) =
    (its ≡ queries) × IsBlockedBehind it effort old queries before reason
