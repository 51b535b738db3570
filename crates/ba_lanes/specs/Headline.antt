-- What each answer, each read that is let through and each block of a run means.
use Rattle.std.specs.Prelude.{◌≡◌, ℕ, List, ◌∷◌, ◌++◌, All, Some, length, slice_get}
use Rattle.ba_input.specs.Inputs.{effort_of}
use Rattle.ba_input.specs.declared.input.Input.{Input}
use Rattle.ba_model.specs.declared.policy.CacheKey.{CacheKey}
use Rattle.ba_model.specs.declared.policy.Context.{Context}
use Rattle.ba_model.specs.declared.query.Query.{Query}
use Rattle.ba_model.specs.declared.value.Value.{Value}
use Rattle.ba_script.specs.declared.entry.ScriptEntry.TheVariants as said
use Rattle.ba_session.specs.Asking.{IsReason, IsReleased, Reads, Uncovered}
use Rattle.ba_session.specs.KeyReads.{HasOneAnswer}
use Rattle.ba_keys.specs.Literals.{key_queries}
use Rattle.ba_session.specs.declared.reply.By.{By}
use Rattle.ba_session.specs.declared.reply.KeyReply.TheVariants as key_reply
use Rattle.ba_session.specs.declared.reply.Reply.TheVariants.{Answer, Blocked}
use Rattle.ba_session.specs.declared.reply.Why.{Why}
use Rattle.ba_session.specs.declared.request.Request.{Request}
use Rattle.ba_lanes.specs.Legal.{HasContext, trace_in}
use Rattle.ba_lanes.specs.declared.journal.Entry.{Entry}
use Rattle.ba_lanes.specs.declared.journal.Entry.TheVariants.{Ask, Read}
use Rattle.ba_lanes.specs.declared.journal.Journal.{Journal}
use Rattle.ba_versions.specs.Reads.{versions_of}

-- The line behind those of the earlier entries is a question of the request, and its text reads as
-- the query.
pub record IsQuestion (input : Input) (request : ℕ) (earlier : List Entry) (query : Query)
    : Type 0 where
  pub name : List ℕ
  pub text : List ℕ
  pub line : slice_get input.script.entries (length earlier) ≡ Some (said.Ask request name text)
  pub reads : Reads input.policy text query

-- The line behind those of the earlier entries is a read by the request of the policy's cache key
-- with this number, and these are the key's queries, with the line's arguments as literals.
pub record IsKeyRead (input : Input) (request number : ℕ) (earlier : List Entry)
    (queries : List Query) : Type 0 where
  pub name : List ℕ
  pub arguments : Context
  pub questions : ℕ
  pub line : slice_get input.script.entries (length earlier) ≡
      Some (said.Read request name number arguments questions)
  pub key : CacheKey
  pub key_is : slice_get input.policy.keys number ≡ Some key
  pub queries_are : queries ≡ key_queries input.policy key arguments

-- The request as it stands after the earlier entries: it has the context of its begin line, sees
-- the version of the tables that it pinned there, and was told what these entries answer it.
pub record IsAskerOf (input : Input) (journal : Journal) (request version : ℕ)
    (earlier : List Entry) (asker : Request) : Type 0 where
  pub context : HasContext input.script request asker.context
  pub version_is : asker.version ≡ version
  pub pinned :
      ∥ slice_get (versions_of journal.histories.versions) version ≡ Some asker.tables ∥₁
  pub trace : asker.trace ≡ trace_in request earlier

-- The query is that of the line's text, and the rows are its answer in the request's tables and in
-- every database that meets the schema, gives every view the same rows for the request's context
-- and each query that was answered before its printed rows.
pub record IsAnswerEverywhere (input : Input) (journal : Journal) (request version : ℕ)
    (earlier : List Entry) (query : Query) (rows : List (List Value)) : Type 0 where
  pub question : IsQuestion input request earlier query
  pub asker : Request
  pub asks : IsAskerOf input journal request version earlier asker
  pub released : IsReleased input.policy asker query rows

-- The query is that of the line's text and isn't covered under the request's context, and the block
-- carries its reason: a counterexample to strong compliance after what the request was told, due
-- steps as many as the input's budget, or a stuck branch.
pub record IsBlockedWithReason (input : Input) (journal : Journal) (request version : ℕ)
    (earlier : List Entry) (query : Query) (why : Why) : Type 0 where
  pub question : IsQuestion input request earlier query
  pub asker : Request
  pub asks : IsAskerOf input journal request version earlier asker
  pub uncovered : Uncovered input.policy asker query
  pub reason : IsReason input.policy asker (effort_of input) query why

-- The queries are those of the line's read. Each of them has in every database that meets the
-- schema, gives every view the same rows for the request's context and each query that was answered
-- before its printed rows, the answer that it has in the request's tables.
pub record IsLetThrough (input : Input) (journal : Journal) (request version number : ℕ)
    (earlier : List Entry) (queries : List Query) : Type 0 where
  pub read : IsKeyRead input request number earlier queries
  pub asker : Request
  pub asks : IsAskerOf input journal request version earlier asker
  pub one_answer : All (HasOneAnswer input.policy asker) queries

-- The queries are those of the line's read. The one with this index isn't covered under the
-- request's context, and the block carries its reason, as that of a question does.
pub record IsReadBlockedWithReason (input : Input) (journal : Journal)
    (request version number : ℕ) (earlier : List Entry) (queries : List Query) (index : ℕ)
    (why : Why) : Type 0 where
  pub read : IsKeyRead input request number earlier queries
  pub query : Query
  pub there : slice_get queries index ≡ Some query
  pub asker : Request
  pub asks : IsAskerOf input journal request version earlier asker
  pub uncovered : Uncovered input.policy asker query
  pub reason : IsReason input.policy asker (effort_of input) query why

-- Each answer of the journal is its query's answer everywhere, and each query of a read that is let
-- through has one answer everywhere. Each block has its reason: that of a question, and that of a
-- read, at the query behind those that have a ground.
pub record Headline (input : Input) (journal : Journal) : Type 0 where
  pub answers :
      (before after : List Entry) (request version : ℕ) (query : Query)
      (rows : List (List Value)) (by : By) →
      journal.entries ≡ before ++ Ask request version (Answer query rows by) ∷ after →
      IsAnswerEverywhere input journal request version before query rows
  pub blocks :
      (before after : List Entry) (request version : ℕ) (query : Query) (why : Why) →
      journal.entries ≡ before ++ Ask request version (Blocked query why) ∷ after →
      IsBlockedWithReason input journal request version before query why
  pub reads :
      (before after : List Entry) (request version number : ℕ) (queries : List Query)
      (by : List By) →
      journal.entries ≡
      before ++ Read request version number (key_reply.Allowed queries by) ∷ after →
      IsLetThrough input journal request version number before queries
  pub read_blocks :
      (before after : List Entry) (request version number : ℕ) (queries : List Query)
      (by : List By) (why : Why) →
      journal.entries ≡
      before ++ Read request version number (key_reply.Blocked queries by why) ∷ after →
      IsReadBlockedWithReason input journal request version number before queries (length by) why
