-- What runs where equations alone are used come to.
use Rattle.std.specs.Prelude.{◌≡◌, ℕ, List, All, Option, Some, None, length, map}
use Rattle.ba_input.specs.declared.input.Input.{Input}
use Rattle.ba_lanes.specs.Ideal.{IsIdeal, IsServedFully, UsesEquations}
use Rattle.ba_lanes.specs.Legal.{Legal}
use Rattle.ba_lanes.specs.declared.journal.Entry.{Entry}
use Rattle.ba_lanes.specs.declared.journal.Entry.TheVariants.{Begin, Ask, Read, End, Publish, Memory}
use Rattle.ba_lanes.specs.declared.journal.Journal.{Journal}
use Rattle.ba_model.specs.declared.value.Value.{Value}
use Rattle.ba_session.specs.declared.reply.KeyReply.{KeyReply}
use Rattle.ba_session.specs.declared.reply.KeyReply.TheVariants as key_reply
use Rattle.ba_session.specs.declared.reply.Reply.{Reply}
use Rattle.ba_session.specs.declared.reply.Reply.TheVariants as reply
use Rattle.ba_sql_query.specs.declared.fault.ReadQueryFault.{ReadQueryFault}

-- ---- verdicts

-- On a question: it is answered by these rows, it is blocked, or it is unread for this fault. On a
-- read: it is let through, or blocked at the query with this index.
pub data Verdict : Type 0 where
  answered : List (List Value) → Verdict
  blocked : Verdict
  unread : ReadQueryFault → Verdict
  let_through : Verdict
  blocked_at : ℕ → Verdict

-- the verdict that a reply tells
abbrev pub verdict_of : Reply → Option Verdict
verdict_of (reply.Answer query rows by) = Some (answered rows)
verdict_of (reply.Blocked query why) = Some blocked
verdict_of (reply.Unread fault) = Some (unread fault)
verdict_of reply.NoMemory = None

-- the verdict that a reply to a read tells
abbrev pub verdict_of_read : KeyReply → Option Verdict
verdict_of_read (key_reply.Allowed queries by) = Some let_through
verdict_of_read (key_reply.Blocked queries before why) = Some (blocked_at (length before))
verdict_of_read key_reply.NoMemory = None

-- the verdict at an entry, if it is of a question or a read
abbrev pub verdict_at : Entry → Option Verdict
verdict_at (Begin request version) = None
verdict_at (Ask request version it) = verdict_of it
verdict_at (Read request version key it) = verdict_of_read it
verdict_at (End request version) = None
verdict_at (Publish version) = None
verdict_at (Memory kind request version) = None

-- line by line the same verdicts
abbrev pub HaveSameVerdicts : Journal → Journal → Type 0
HaveSameVerdicts journal other =
    map verdict_at journal.entries ≡ map verdict_at other.entries

-- ---- the laws

-- A legal journal is ideal where equations alone are used, each line found memory, and none is
-- blocked since the budget is spent.
abbrev pub LegalIsIdeal : Type 0
LegalIsIdeal =
    (input : Input) (journal : Journal) → Legal input journal → UsesEquations input →
    All IsServedFully journal.entries → IsIdeal input journal

-- the same policy and so the same schema, the same tables and the same script, whatever the
-- workers, the budget, the orders and the loaded templates
pub record AskTheSame (input other : Input) : Type 0 where
  pub policy : input.policy ≡ other.policy
  pub tables : input.tables ≡ other.tables
  pub script : input.script ≡ other.script

-- two ideal journals of inputs that ask the same have the same verdicts
abbrev pub IdealsAgree : Type 0
IdealsAgree =
    (input other : Input) (journal second : Journal) → AskTheSame input other →
    IsIdeal input journal → IsIdeal other second → HaveSameVerdicts journal second

-- and so have two runs
abbrev pub RunsAgree : Type 0
RunsAgree =
    (input other : Input) (journal second : Journal) → AskTheSame input other →
    UsesEquations input → Legal input journal → Legal other second →
    All IsServedFully journal.entries → All IsServedFully second.entries →
    HaveSameVerdicts journal second
