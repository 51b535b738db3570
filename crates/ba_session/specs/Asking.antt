-- What a request is told, question after question.
use Rattle.std.specs.Prelude.{◌≡◌, ◌⊎◌, ℕ, List, [], ◌∷◌, ◌++◌, All, Result, Ok, Err}
use Rattle.ba_cache.specs.Rows.{kept}
use Rattle.ba_cache.specs.declared.call.Kept.{Kept}
use Rattle.ba_cache.specs.declared.call.ShelfCall.{ShelfCall}
use Rattle.ba_cache.specs.declared.call.ShelfCall.TheVariants.{Look, Admit, Refused}
use Rattle.ba_comply.specs.Comply.{Agree, Records, Strong}
use Rattle.ba_comply.specs.declared.trace.TraceEntry.{TraceEntry}
use Rattle.ba_direct.specs.Cover.{Covered, IsCover}
use Rattle.ba_general.specs.Generals.{IsGeneralised, IsTooWide}
use Rattle.ba_settle.specs.Settling.{Effort, Settles}
use Rattle.ba_settle.specs.declared.ends.Leaf.{Leaf}
use Rattle.ba_settle.specs.declared.ends.Settled.TheVariants as settled
use Rattle.ba_model.specs.RuleFaults.{RuleFits}
use Rattle.ba_kernel.specs.Problems.{problem_of}
use Rattle.ba_kernel.specs.SearchStates as kernel
use Rattle.ba_kernel.specs.declared.problem.Problem.{Problem}
use Rattle.ba_kernel.specs.declared.step.Step.{Step}
use Rattle.ba_match.specs.Matching.{IsFirstMatch}
use Rattle.ba_model.specs.Conform.{Conforms}
use Rattle.ba_model.specs.Fit.{ContextFits, IsQuery, PolicyFits, kinds_of}
use Rattle.ba_model.specs.Meaning.{IsAnswer}
use Rattle.ba_model.specs.SchemaFaults.{AreTables}
use Rattle.ba_model.specs.declared.policy.Context.{Context}
use Rattle.ba_model.specs.declared.policy.Policy.{Policy}
use Rattle.ba_model.specs.declared.query.Query.{Query}
use Rattle.ba_model.specs.declared.value.RowSet.{RowSet}
use Rattle.ba_model.specs.declared.value.Value.{Value}
use Rattle.ba_refute.specs.Counterexamples.{IsCounterexample, IsFirstUnmet}
use Rattle.ba_refute.specs.OfEquations.{IsQuestionOfEquations}
use Rattle.ba_refute.specs.Images.{IsImage}
use Rattle.ba_refute.specs.declared.clause.Clause.{Clause}
use Rattle.ba_refute.specs.declared.clause.Counterexample.{Counterexample}
use Rattle.ba_session.specs.Passing.{ShelfCalls, on_shelf}
use Rattle.ba_session.specs.declared.reply.By.{By}
use Rattle.ba_session.specs.declared.reply.By.TheVariants.{Cover, Template, Proof}
use Rattle.ba_session.specs.declared.reply.Judgement.{Judgement}
use Rattle.ba_session.specs.declared.reply.Judgement.TheVariants as judged
use Rattle.ba_session.specs.declared.reply.Keeping.{Keeping}
use Rattle.ba_session.specs.declared.reply.Keeping.TheVariants as keeping
use Rattle.ba_session.specs.declared.reply.Reply.{Reply}
use Rattle.ba_session.specs.declared.reply.Reply.TheVariants.{Answer, Blocked, Unread, NoMemory}
use Rattle.ba_session.specs.declared.reply.Why.{Why}
use Rattle.ba_session.specs.declared.reply.Why.TheVariants.{Refuted, Spent, Stuck}
use Rattle.ba_session.specs.declared.request.Request.{Request}
use Rattle.ba_sql_query.specs.Reads.{ReadsQuery}
use Rattle.ba_sql_query.specs.Texts.{query_of}
use Rattle.ba_sql_query.specs.declared.fault.ReadQueryFault.{ReadQueryFault}
use Rattle.ba_template.specs.Found.{Matches}
use Rattle.ba_template.specs.Shapes.{shape_of, shard_of}
use Rattle.ba_template.specs.declared.found.Match.{Match}
use Rattle.ba_versions.specs.declared.call.VersionCall.{VersionCall}
use Rattle.ba_versions.specs.declared.call.VersionCall.TheVariants as version

-- the policy, its schema and its rules were checked
pub record IsServable (policy : Policy) : Type 0 where
  pub fits : PolicyFits policy
  pub tables : AreTables policy.schema.tables
  pub rules : All (RuleFits policy.schema) policy.schema.rules

-- ---- beginning

-- it has the context, and has asked nothing
pub record IsBegun (context : Context) (asker : Request) : Type 0 where
  pub context_is : asker.context ≡ context
  pub trace_is : asker.trace ≡ []

-- the call on the versions that the beginning of a request is
abbrev pub begun : {E : Type 0} → Result Request E → VersionCall
begun (Ok asker) = version.Pin asker.version (record { marker = record {}; value = asker.tables })
begun (Err _) = version.Refused

-- ---- answers

-- The user can't tell the database from the request's tables: it meets the schema, gives every view
-- the same rows, and each earlier answered query its printed rows.
pub record LooksAlike (policy : Policy) (asker : Request) (d : RowSet) : Type 0 where
  pub conforms : Conforms policy.schema d
  pub agrees : Agree policy asker.context asker.tables.rows d
  pub records : Records asker.trace asker.context d

-- The rows are the query's answer in the request's tables, and in every database that the user
-- can't tell from them.
pub record IsReleased (policy : Policy) (asker : Request) (query : Query) (rows : List (List Value))
    : Type 0 where
  pub answer : IsAnswer query asker.context asker.tables.rows rows
  pub everywhere : (d : RowSet) → LooksAlike policy asker d → IsAnswer query asker.context d rows

-- the problem of the request's question
abbrev pub question : Policy → Request → Query → Problem
question policy asker query = problem_of policy asker.context asker.trace query

-- the question is strongly compliant after the request's trace
abbrev pub IsCompliant : Policy → Request → Query → Type 0
IsCompliant policy asker query = Strong policy asker.context asker.trace query

abbrev pub Uncovered : Policy → Request → Query → Type 0
Uncovered policy asker query = Covered policy asker.context query → ⊥

-- ---- templates

-- the call that looks at the question's shape and finds these
abbrev pub look_at : Query → List Kept → ShelfCall
look_at query found =
    Look (record { marker = record {}; value = shape_of [] query })
    (record { marker = record {}; value = found })

-- the template doesn't match the question
abbrev pub IsNoMatch : Policy → Request → Query → Kept → Type 0
IsNoMatch policy asker query it =
    ¬ (Matches it.template.problem policy asker.context asker.trace query)

-- none of the templates matches the question
abbrev pub NoneMatches : Policy → Request → Query → List Kept → Type 0
NoneMatches policy asker query found = All (IsNoMatch policy asker query) found

-- the template, kept under this number, is the first that matches the question, and this is its
-- first match
pub record IsFirstToMatch (policy : Policy) (asker : Request) (query : Query) (found : List Kept)
    (id : ℕ) (template : kernel.Proof) (it : Match) : Type 0 where
  pub before : List Kept
  pub after : List Kept
  pub found_is : found ≡ before ++ kept id template ∷ after
  pub none_before : NoneMatches policy asker query before
  pub first : IsFirstMatch template.problem policy asker.context asker.trace query it

-- ---- proofs

-- of a search in so many orders, in each by at most so many steps
abbrev pub effort_in : ℕ → ℕ → Effort
effort_in orders budget = record { orders = orders; budget = budget }

-- the search for a proof of the question finds one, of these steps
abbrev pub IsProof : Policy → Request → Effort → Query → List Step → Type 0
IsProof policy asker effort query steps =
    Settles effort (question policy asker query)
    (settled.Proved (record { problem = question policy asker query; steps = steps }))

-- What becomes of a proof's template, and the calls on the shelf that this takes: it is admitted,
-- with the shelf's answer; the proof is too wide for one; or there is no memory for it, which the
-- shelf may have told.
abbrev pub IsKept : kernel.Proof → Keeping → List ShelfCall → Type 0
IsKept proof (keeping.Stored answer) calls =
    (template : kernel.Proof) × IsGeneralised proof template ×
    (calls ≡ Admit (record { marker = record {}; value = template }) answer ∷ [])
IsKept proof keeping.Wide calls = IsTooWide proof × (calls ≡ [])
IsKept proof keeping.NoMemory calls = (calls ≡ []) ⊎ (calls ≡ Refused ∷ [])

-- ---- grounds

-- It is the first of the templates found for the question's shape that matches it.
pub record IsServed (policy : Policy) (asker : Request) (query : Query) (shard id : ℕ)
    (template : kernel.Proof) (it : Match) (made : ShelfCalls) : Type 0 where
  pub uncovered : Uncovered policy asker query
  pub found : List Kept
  pub first : IsFirstToMatch policy asker query found id template it
  pub shard_is : shard ≡ shard_of (shape_of [] query)
  pub made_is : made ≡ on_shelf query (look_at query found ∷ [])

-- None of the templates found for the question's shape matches it, the steps prove it, and its
-- template is kept, or not.
pub record HasNewProof (policy : Policy) (asker : Request) (effort : Effort) (query : Query)
    (steps : List Step) (keeping : Keeping) (made : ShelfCalls) : Type 0 where
  pub uncovered : Uncovered policy asker query
  pub found : List Kept
  pub none : NoneMatches policy asker query found
  pub proof : IsProof policy asker effort query steps
  pub rest : List ShelfCall
  pub kept_is :
      IsKept (record { problem = question policy asker query; steps = steps }) keeping rest
  pub made_is : made ≡ on_shelf query (look_at query found ∷ rest)

-- why the question is answered, and the calls on shelves that this takes: a cover, which takes
-- none, or, where there is none, a template or a proof
abbrev pub IsGround : Policy → Request → Effort → Query → By → ShelfCalls → Type 0
IsGround policy asker effort query (Cover cover) made =
    IsCover policy asker.context query cover × (made.calls ≡ [])
IsGround policy asker effort query (Template shard id template it) made =
    IsServed policy asker query shard id template it made
IsGround policy asker effort query (Proof steps keeping) made =
    HasNewProof policy asker effort query steps keeping made

-- ---- blocks

-- the search ends at a saturated branch, and the pair is its image, which is a counterexample
pub record IsRefuted (policy : Policy) (asker : Request) (effort : Effort) (query : Query)
    (pair : Counterexample) : Type 0 where
  pub leaf : Leaf
  pub saturated : Settles effort (question policy asker query) (settled.Saturated leaf)
  pub image_is : IsImage (question policy asker query) asker.context leaf.branch pair
  pub refutes : IsCounterexample policy asker.context asker.trace query pair

-- The search ends at a saturated branch, and this is the first clause that its image doesn't meet.
-- So some column may be NULL, or another atom than `=` is used.
pub record IsStuck (policy : Policy) (asker : Request) (effort : Effort) (query : Query)
    (leaf : Leaf) (clause : Clause) : Type 0 where
  pub saturated : Settles effort (question policy asker query) (settled.Saturated leaf)
  pub image : Counterexample
  pub image_is : IsImage (question policy asker query) asker.context leaf.branch image
  pub unmet : IsFirstUnmet policy asker.context asker.trace query image clause
  pub beyond_equations : ¬ (IsQuestionOfEquations policy asker.trace query)

-- why the question is blocked
abbrev pub IsReason : Policy → Request → Effort → Query → Why → Type 0
IsReason policy asker effort query (Refuted pair) = IsRefuted policy asker effort query pair
IsReason policy asker effort query (Spent steps) =
    Settles effort (question policy asker query) (settled.Spent steps)
IsReason policy asker effort query (Stuck leaf clause) =
    IsStuck policy asker effort query leaf clause

-- The question isn't covered, none of the templates found for its shape matches it, and it is
-- blocked for this reason.
pub record HasBlock (policy : Policy) (asker : Request) (effort : Effort) (query : Query)
    (why : Why) (made : ShelfCalls) : Type 0 where
  pub uncovered : Uncovered policy asker query
  pub found : List Kept
  pub none : NoneMatches policy asker query found
  pub reason : IsReason policy asker effort query why
  pub made_is : made ≡ on_shelf query (look_at query found ∷ [])

-- ---- judgements

-- a look at the question's shape was refused, or found these
abbrev pub IsLook : Query → List ShelfCall → Type 0
IsLook query calls =
    (calls ≡ Refused ∷ []) ⊎ ((found : List Kept) × (calls ≡ look_at query found ∷ []))

-- memory ran out behind one look at the question's shape, which isn't covered
pub record HasLooked (policy : Policy) (asker : Request) (query : Query) (made : ShelfCalls)
    : Type 0 where
  pub uncovered : Uncovered policy asker query
  pub calls : List ShelfCall
  pub look : IsLook query calls
  pub made_is : made ≡ on_shelf query calls

-- memory ran out while the query was judged: before any call, or behind a look
abbrev pub HasNoVerdict : Policy → Request → Query → ShelfCalls → Type 0
HasNoVerdict policy asker query made = (made.calls ≡ []) ⊎ HasLooked policy asker query made

-- The judgement of a query, as the request stands, and the calls on shelves that this takes: there
-- is a ground to answer it, and it is strongly compliant; or it is blocked for this reason. Want of
-- memory may stand in place of both.
abbrev pub Judges : Policy → Request → Effort → Query → ShelfCalls → Judgement → Type 0
Judges policy asker effort query made (judged.Allowed by) =
    IsGround policy asker effort query by made × IsCompliant policy asker query
Judges policy asker effort query made (judged.Blocked why) =
    HasBlock policy asker effort query why made
Judges policy asker effort query made judged.NoMemory = HasNoVerdict policy asker query made

-- ---- replies

-- the text reads as the query, for the policy's schema and parameters
abbrev pub Reads : Policy → List ℕ → Query → Type 0
Reads policy text query = ReadsQuery policy.schema policy.params text query

-- the text reads as no query, and this is its first fault
abbrev pub HasFault : Policy → List ℕ → ReadQueryFault → Type 0
HasFault policy text fault = query_of policy.schema policy.params text ≡ Err fault

-- The text's query is answered by these rows, for this reason: it is strongly compliant after the
-- request's trace.
pub record HasAnswer (policy : Policy) (asker : Request) (effort : Effort) (text : List ℕ)
    (query : Query) (rows : List (List Value)) (by : By) (made : ShelfCalls) : Type 0 where
  pub reads : Reads policy text query
  pub ground : IsGround policy asker effort query by made
  pub compliant : IsCompliant policy asker query
  pub released : IsReleased policy asker query rows

-- the text's query is blocked for this reason
pub record IsBlocked (policy : Policy) (asker : Request) (effort : Effort) (text : List ℕ)
    (query : Query) (why : Why) (made : ShelfCalls) : Type 0 where
  pub reads : Reads policy text query
  pub denied : HasBlock policy asker effort query why made

-- where memory ran out: before any call, or behind a look
abbrev pub IsInterrupted : Policy → Request → List ℕ → ShelfCalls → Type 0
IsInterrupted policy asker text made =
    (made.calls ≡ []) ⊎
    ((query : Query) × Reads policy text query × HasLooked policy asker query made)

-- A question's reply, as the request stands, and the calls on shelves that this takes. Want of
-- memory may stand in place of any other reply.
abbrev pub Replies : Policy → Request → Effort → List ℕ → ShelfCalls → Reply → Type 0
Replies policy asker effort text made (Answer query rows by) =
    HasAnswer policy asker effort text query rows by made
Replies policy asker effort text made (Blocked query why) =
    IsBlocked policy asker effort text query why made
Replies policy asker effort text made (Unread fault) =
    HasFault policy text fault × (made.calls ≡ [])
Replies policy asker effort text made NoMemory = IsInterrupted policy asker text made

-- what the reply adds to the trace
abbrev pub answer_in : Reply → List TraceEntry
answer_in (Answer query rows by) = record { query = query; rows = rows } ∷ []
answer_in (Blocked query why) = []
answer_in (Unread fault) = []
answer_in NoMemory = []

-- The request's context is one for the policy, its tables are of the policy's schema and conform to
-- it, its queries were checked, and their answers in the tables are recorded.
pub record IsRequestOf (policy : Policy) (asker : Request) : Type 0 where
  pub context : ContextFits (kinds_of policy.params) asker.context
  pub schema : asker.tables.schema ≡ policy.schema
  pub conforms : Conforms policy.schema asker.tables.rows
  pub queries : All (λ entry. IsQuery policy.schema (kinds_of policy.params) [] entry.query)
      asker.trace
  pub recorded : Records asker.trace asker.context asker.tables.rows
