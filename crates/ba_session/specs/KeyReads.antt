-- What becomes of a read of a cache key.
use Rattle.std.specs.Prelude.{◌≡◌, ◌⊎◌, List, [], ◌∷◌, ◌++◌, All, ⊤}
use Rattle.ba_model.specs.Meaning.{IsAnswer}
use Rattle.ba_model.specs.declared.policy.Policy.{Policy}
use Rattle.ba_model.specs.declared.query.Query.{Query}
use Rattle.ba_model.specs.declared.value.RowSet.{RowSet}
use Rattle.ba_model.specs.declared.value.Value.{Value}
use Rattle.ba_settle.specs.Settling.{Effort}
use Rattle.ba_session.specs.Asking.{HasBlock, HasNoVerdict, IsCompliant, IsGround, LooksAlike}
use Rattle.ba_session.specs.Passing.{LeavesShelves, LeavesVersions, Makes, ShelfCalls}
use Rattle.ba_session.specs.declared.reply.By.{By}
use Rattle.ba_session.specs.declared.reply.KeyReply.{KeyReply}
use Rattle.ba_session.specs.declared.reply.KeyReply.TheVariants.{Allowed, Blocked, NoMemory}
use Rattle.ba_session.specs.declared.reply.Why.{Why}
use Rattle.ba_session.specs.declared.request.Request.{Request}
use Rattle.ba_session.specs.declared.service.Passes.{Passes}

-- the calls of several judgements, one after the other, take what the passes know from old to new
abbrev pub MakesAll : List ShelfCalls → Passes → Passes → Type 0
MakesAll [] old new = LeavesVersions old new × LeavesShelves old new
MakesAll (made ∷ more) old new =
    (between : Passes) × Makes made old between × MakesAll more between new

-- each of the queries has its ground, judged as the request stands, by these calls
abbrev pub AreGrounds : Policy → Request → Effort → List Query → List By → List ShelfCalls
    → Type 0
AreGrounds policy asker effort [] [] [] = ⊤
AreGrounds policy asker effort (query ∷ queries) (basis ∷ bases) (made ∷ more) =
    (IsGround policy asker effort query basis made × IsCompliant policy asker query) ×
    AreGrounds policy asker effort queries bases more
AreGrounds policy asker effort [] [] (made ∷ more) = ⊥
AreGrounds policy asker effort [] (basis ∷ bases) made = ⊥
AreGrounds policy asker effort (query ∷ queries) [] made = ⊥
AreGrounds policy asker effort (query ∷ queries) (basis ∷ bases) [] = ⊥

-- the queries before it have these grounds, and this one, which isn't covered, is blocked for this
-- reason
pub record IsKeyBlocked (policy : Policy) (asker : Request) (effort : Effort) (queries : List Query)
    (before : List By) (why : Why) (made : List ShelfCalls) : Type 0 where
  pub front : List Query
  pub query : Query
  pub back : List Query
  pub are : queries ≡ front ++ query ∷ back
  pub earlier : List ShelfCalls
  pub last : ShelfCalls
  pub made_is : made ≡ earlier ++ last ∷ []
  pub grounds : AreGrounds policy asker effort front before earlier
  pub denied : HasBlock policy asker effort query why last

-- memory ran out behind queries that have their grounds, between two judgements or in the next one
pub record IsKeyInterrupted (policy : Policy) (asker : Request) (effort : Effort)
    (queries : List Query) (made : List ShelfCalls) : Type 0 where
  pub front : List Query
  pub back : List Query
  pub are : queries ≡ front ++ back
  pub bases : List By
  pub earlier : List ShelfCalls
  pub grounds : AreGrounds policy asker effort front bases earlier
  pub last :
      (made ≡ earlier) ⊎
      ((query : Query) × (more : List Query) × (back ≡ query ∷ more) × (calls : ShelfCalls) ×
      HasNoVerdict policy asker query calls × (made ≡ earlier ++ calls ∷ []))

-- A read's reply, as the request stands, which it doesn't change, and the calls on shelves that this
-- takes. The queries are the key's, with the arguments as literals. Want of memory may stand in
-- place of the other replies.
abbrev pub KeyReads : Policy → Request → Effort → List Query → List ShelfCalls → KeyReply → Type 0
KeyReads policy asker effort queries made (Allowed its by) =
    (its ≡ queries) × AreGrounds policy asker effort queries by made
KeyReads policy asker effort queries made (Blocked its before why) =
    (its ≡ queries) × IsKeyBlocked policy asker effort queries before why made
KeyReads policy asker effort queries made NoMemory =
    IsKeyInterrupted policy asker effort queries made

-- the query has in every database that the user can't tell from the request's tables the answer that
-- it has there
abbrev pub HasOneAnswer : Policy → Request → Query → Type 0
HasOneAnswer policy asker query =
    (rows : List (List Value)) → IsAnswer query asker.context asker.tables.rows rows →
    (d : RowSet) → LooksAlike policy asker d → IsAnswer query asker.context d rows

-- what lies behind a read that is let through
abbrev pub LetsThrough : Policy → Request → KeyReply → Type 0
LetsThrough policy asker (Allowed queries by) = All (HasOneAnswer policy asker) queries
LetsThrough policy asker (Blocked queries before why) = ⊤
LetsThrough policy asker NoMemory = ⊤
