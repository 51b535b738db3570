-- What a request's judgement of a query rests on, and what a reply tells of it.
use Rattle.std.specs.Prelude.{◌≡◌, ◌⊎◌, ℕ, List, [], ◌∷◌, Option, Some, None, Result, Ok, Err, ⊤}
use Rattle.ba_cache.specs.declared.call.Kept.{Kept}
use Rattle.ba_cache.specs.declared.call.ShelfCall.{ShelfCall}
use Rattle.ba_cache.specs.declared.call.ShelfCall.TheVariants.{Admit, Refused}
use Rattle.ba_direct.specs.Cover.{IsCover}
use Rattle.ba_kernel.specs.SearchStates as kernel
use Rattle.ba_model.specs.Meaning.{IsAnswer}
use Rattle.ba_model.specs.declared.failure.Failure.{Failure}
use Rattle.ba_model.specs.declared.failure.Failure.TheVariants as failures
use Rattle.ba_model.specs.declared.policy.Policy.{Policy}
use Rattle.ba_model.specs.declared.query.Query.{Query}
use Rattle.ba_model.specs.declared.value.Value.{Value}
use Rattle.ba_session.specs.Asking.{HasNoVerdict, IsCompliant, HasBlock, IsFirstToMatch, IsGround, IsKept, IsReason, IsReleased, IsServed, NoneMatches, Uncovered, look_at, question}
use Rattle.ba_session.specs.Passing.{ShelfCalls, on_shelf}
use Rattle.ba_session.specs.declared.judge.Verdict.{Verdict}
use Rattle.ba_session.specs.declared.judge.Verdict.TheVariants.{Ground, Prove, Deny}
use Rattle.ba_session.specs.declared.reply.By.{By}
use Rattle.ba_session.specs.declared.reply.By.TheVariants as by
use Rattle.ba_session.specs.declared.reply.Keeping.{Keeping}
use Rattle.ba_session.specs.declared.reply.Keeping.TheVariants as keeping
use Rattle.ba_session.specs.declared.reply.Reply.{Reply}
use Rattle.ba_session.specs.declared.reply.Reply.TheVariants.{Answer, Blocked, Unread, NoMemory}
use Rattle.ba_session.specs.declared.request.Request.{Request}
use Rattle.ba_settle.specs.Settling.{Effort, Settles}
use Rattle.ba_settle.specs.declared.ends.Settled.TheVariants as settled
use Rattle.ba_sql_query.specs.declared.fault.ReadQueryFault.{ReadQueryFault}

-- ---- after a look

-- the ground is the first of the templates found on the shelf of this shard that matches the query
abbrev pub IsByTemplate : Policy → Request → Query → ℕ → List Kept → By → Type 0
IsByTemplate policy asker query shard found (by.Cover cover) = ⊥
IsByTemplate policy asker query shard found (by.Template its id template it) =
    (its ≡ shard) × IsFirstToMatch policy asker query found id template it
IsByTemplate policy asker query shard found (by.Proof steps keeping) = ⊥

-- the ground by the first template that matches, or that none does
abbrev pub IsServing : Policy → Request → Query → ℕ → List Kept → Option By → Type 0
IsServing policy asker query shard found None = NoneMatches policy asker query found
IsServing policy asker query shard found (Some basis) =
    IsByTemplate policy asker query shard found basis

-- what a search finds of the query
abbrev pub IsSearched : Policy → Request → Effort → Query → Verdict → Type 0
IsSearched policy asker effort query (Ground basis) = ⊥
IsSearched policy asker effort query (Prove proof) =
    Settles effort (question policy asker query) (settled.Proved proof) ×
    IsCompliant policy asker query
IsSearched policy asker effort query (Deny why) = IsReason policy asker effort query why

-- what these templates, found for the query's shape on the shelf of this shard, say of the query,
-- or else a search
abbrev pub IsFoundBy : Policy → Request → Effort → Query → ℕ → List Kept → Verdict → Type 0
IsFoundBy policy asker effort query shard found (Ground basis) =
    IsByTemplate policy asker query shard found basis × IsCompliant policy asker query
IsFoundBy policy asker effort query shard found (Prove proof) =
    NoneMatches policy asker query found × IsSearched policy asker effort query (Prove proof)
IsFoundBy policy asker effort query shard found (Deny why) =
    NoneMatches policy asker query found × IsSearched policy asker effort query (Deny why)

-- ---- before a template is kept

-- The query isn't covered, none of the templates found for its shape matches it, and a search finds
-- this proof: it is strongly compliant.
pub record IsShown (policy : Policy) (asker : Request) (effort : Effort) (query : Query)
    (proof : kernel.Proof) (made : ShelfCalls) : Type 0 where
  pub uncovered : Uncovered policy asker query
  pub found : List Kept
  pub none : NoneMatches policy asker query found
  pub proved : Settles effort (question policy asker query) (settled.Proved proof)
  pub compliant : IsCompliant policy asker query
  pub made_is : made ≡ on_shelf query (look_at query found ∷ [])

-- a ground for which no template is kept, a cover or a template, and the calls that this takes
abbrev pub IsOtherGround : Policy → Request → Query → By → ShelfCalls → Type 0
IsOtherGround policy asker query (by.Cover cover) made =
    IsCover policy asker.context query cover × (made.calls ≡ [])
IsOtherGround policy asker query (by.Template shard id template it) made =
    IsServed policy asker query shard id template it made
IsOtherGround policy asker query (by.Proof steps keeping) made = ⊥

-- what the query's judgement rests on, and the calls on shelves that this takes, before the
-- template of a proof is kept; or want of memory
abbrev pub Weighs : {E : Type 0} → Policy → Request → Effort → Query → ShelfCalls
    → Result Verdict E → Type 0
Weighs policy asker effort query made (Ok (Ground basis)) =
    IsOtherGround policy asker query basis made × IsCompliant policy asker query
Weighs policy asker effort query made (Ok (Prove proof)) =
    IsShown policy asker effort query proof made
Weighs policy asker effort query made (Ok (Deny why)) =
    HasBlock policy asker effort query why made
Weighs policy asker effort query made (Err error) = HasNoVerdict policy asker query made

-- ---- a template that is kept

-- the template is admitted by this call, with its answer; or there is no memory for it, which the
-- shelf may have told
abbrev pub IsAdmitted : kernel.Proof → Keeping → List ShelfCall → Type 0
IsAdmitted template (keeping.Stored answer) calls =
    calls ≡ Admit (record { marker = record {}; value = template }) answer ∷ []
IsAdmitted template keeping.Wide calls = ⊥
IsAdmitted template keeping.NoMemory calls = (calls ≡ []) ⊎ (calls ≡ Refused ∷ [])

-- the ground is the proof's steps, and its template is kept by these calls, or not
abbrev pub IsByProof : kernel.Proof → List ShelfCall → By → Type 0
IsByProof proof calls (by.Cover cover) = ⊥
IsByProof proof calls (by.Template shard id template it) = ⊥
IsByProof proof calls (by.Proof steps keeping) = (steps ≡ proof.steps) × IsKept proof keeping calls

-- ---- replies

-- to a text that wasn't read
abbrev pub refusal_of : Failure ReadQueryFault → Reply
refusal_of failures.NoMemory = NoMemory
refusal_of (failures.Fault fault) = Unread fault

-- the rows are the query's answer in the request's tables
pub record IsTold (asker : Request) (query other : Query) (rows : List (List Value)) : Type 0 where
  pub same : other ≡ query
  pub answer : IsAnswer query asker.context asker.tables.rows rows

-- the query's answer for this reason, or want of memory
abbrev pub Answers : Request → Query → By → Reply → Type 0
Answers asker query basis (Answer other rows it) = IsTold asker query other rows × (it ≡ basis)
Answers asker query basis (Blocked other why) = ⊥
Answers asker query basis (Unread fault) = ⊥
Answers asker query basis NoMemory = ⊤

-- the query's answer by this proof, whose template is kept by these calls, or not; or want of
-- memory, without a call
abbrev pub AnswersByProof : Request → Query → kernel.Proof → List ShelfCall → Reply → Type 0
AnswersByProof asker query proof calls (Answer other rows basis) =
    IsTold asker query other rows × IsByProof proof calls basis
AnswersByProof asker query proof calls (Blocked other why) = ⊥
AnswersByProof asker query proof calls (Unread fault) = ⊥
AnswersByProof asker query proof calls NoMemory = calls ≡ []

-- the reply to the query, and the calls on shelves that this takes
abbrev pub Says : Policy → Request → Effort → Query → ShelfCalls → Reply → Type 0
Says policy asker effort query made (Answer other rows basis) =
    (other ≡ query) × IsGround policy asker effort query basis made ×
    IsCompliant policy asker query × IsReleased policy asker query rows
Says policy asker effort query made (Blocked other why) =
    (other ≡ query) × HasBlock policy asker effort query why made
Says policy asker effort query made (Unread fault) = ⊥
Says policy asker effort query made NoMemory = HasNoVerdict policy asker query made
