-- Whether a question or a read is decided rightly, where equations alone are used.
use Rattle.std.specs.Prelude.{◌≡◌, ◌↔◌, ℕ, List, ◌∷◌, ◌++◌, All, length, ⊤}
use Rattle.ba_model.specs.declared.policy.Policy.{Policy}
use Rattle.ba_model.specs.declared.query.Query.{Query}
use Rattle.ba_refute.specs.OfEquations.{IsQuestionOfEquations}
use Rattle.ba_session.specs.Asking.{IsCompliant}
use Rattle.ba_session.specs.declared.reply.KeyReply.{KeyReply}
use Rattle.ba_session.specs.declared.reply.KeyReply.TheVariants as keys
use Rattle.ba_session.specs.declared.reply.Reply.{Reply}
use Rattle.ba_session.specs.declared.reply.Reply.TheVariants.{Answer, Blocked, Unread, NoMemory}
use Rattle.ba_session.specs.declared.reply.Why.TheVariants.{Refuted, Spent, Stuck}
use Rattle.ba_session.specs.declared.request.Request.{Request}

-- the reply answers the query
abbrev pub IsAnswerTo : Query → Reply → Type 0
IsAnswerTo query (Answer other rows by) = other ≡ query
IsAnswerTo query (Blocked other why) = ⊥
IsAnswerTo query (Unread fault) = ⊥
IsAnswerTo query NoMemory = ⊥

-- the reply answers the query or blocks it, and not since the budget is spent
abbrev pub Decides : Query → Reply → Type 0
Decides query (Answer other rows by) = other ≡ query
Decides query (Blocked other (Refuted pair)) = other ≡ query
Decides query (Blocked other (Spent steps)) = ⊥
Decides query (Blocked other (Stuck leaf clause)) = other ≡ query
Decides query (Unread fault) = ⊥
Decides query NoMemory = ⊥

-- Where equations alone are used, in the policy, in what the request was answered and in the query,
-- a reply that decides the query answers it exactly where it is strongly compliant after the
-- request's trace.
pub record IsDecidedRightly (policy : Policy) (asker : Request) (reply : Reply) : Type 0 where
  pub exactly : (query : Query) → IsQuestionOfEquations policy asker.trace query →
      Decides query reply → (IsAnswerTo query reply ↔ IsCompliant policy asker query)

-- ---- reads of cache keys

-- the query behind the first n is the first that isn't strongly compliant
pub record IsFirstUncompliant (policy : Policy) (asker : Request) (queries : List Query) (n : ℕ)
    : Type 0 where
  pub front : List Query
  pub query : Query
  pub back : List Query
  pub are : queries ≡ front ++ query ∷ back
  pub number : length front ≡ n
  pub earlier : All (IsCompliant policy asker) front
  pub fails : ¬ (IsCompliant policy asker query)

-- The read is let through, and each of the queries is strongly compliant; or it is blocked as
-- refuted, at the first that isn't; or the budget is spent or memory ran out. It is never stuck.
abbrev pub SaysRightly : Policy → Request → List Query → KeyReply → Type 0
SaysRightly policy asker queries (keys.Allowed its by) = All (IsCompliant policy asker) queries
SaysRightly policy asker queries (keys.Blocked its before (Refuted pair)) =
    IsFirstUncompliant policy asker queries (length before)
SaysRightly policy asker queries (keys.Blocked its before (Spent steps)) = ⊤
SaysRightly policy asker queries (keys.Blocked its before (Stuck leaf clause)) = ⊥
SaysRightly policy asker queries keys.NoMemory = ⊤

-- Where equations alone are used, in the policy, in what the request was answered and in each of the
-- queries, a read is let through exactly where each of them is strongly compliant after the
-- request's trace, and else blocked as refuted at the first that isn't, unless the budget is spent
-- or memory runs out.
pub record IsReadRightly (policy : Policy) (asker : Request) (queries : List Query)
    (reply : KeyReply) : Type 0 where
  pub exactly : All (IsQuestionOfEquations policy asker.trace) queries →
      SaysRightly policy asker queries reply
