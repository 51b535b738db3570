-- What the test of a ground gives, and what the machine decides before it changes.
use Rattle.std.specs.Prelude.{◌≡◌, ℕ, List, Some, slice_get, ⊤}
use Rattle.ba_comply.specs.Comply.{Strong}
use Rattle.ba_core.specs.State.{IsVersion, State}
use Rattle.ba_core.specs.Steps.{IsBlocked, IsRecorded, IsReleased}
use Rattle.ba_core.specs.declared.event.Asked.{Asked}
use Rattle.ba_core.specs.declared.event.Asked.TheVariants.{Answer, Blocked}
use Rattle.ba_core.specs.declared.event.CoreFault.{CoreFault}
use Rattle.ba_core.specs.declared.event.CoreReply.{CoreReply}
use Rattle.ba_core.specs.declared.event.CoreReply.TheVariants.{Refused}
use Rattle.ba_core.specs.declared.event.Ground.{Ground}
use Rattle.ba_core.specs.declared.event.Ground.TheVariants.{Cover, Template, Proof, Refuse}
use Rattle.ba_core.specs.declared.opened.Opened.{Opened}
use Rattle.ba_model.specs.declared.failure.Failure.{Failure}
use Rattle.ba_model.specs.declared.failure.Failure.TheVariants.{NoMemory, Fault}
use Rattle.ba_model.specs.Meaning.{IsAnswer}
use Rattle.ba_model.specs.declared.policy.Policy.{Policy}
use Rattle.ba_model.specs.declared.query.Query.{Query}
use Rattle.ba_model.specs.declared.value.Value.{Value}
use Rattle.ba_tables.specs.TableSet.{TableSet}

-- a ground that fits and isn't a refusal makes the query strongly compliant
abbrev pub Supports : Policy → Opened → Query → Ground → Type 0
Supports policy asker query (Cover cover) = Strong policy asker.context asker.trace query
Supports policy asker query (Template n found) = Strong policy asker.context asker.trace query
Supports policy asker query (Proof proof) = Strong policy asker.context asker.trace query
Supports policy asker query Refuse = ⊤

-- the rows are the query's answer in the tables of the request's version, which conform
pub record IsAnswerIn (s : State) (asker : Opened) (query : Query) (rows : List (List Value)) : Type 0 where
  pub tables : TableSet
  pub version : IsVersion s.policy tables
  pub pinned : slice_get s.versions asker.version ≡ Some tables
  pub answer : IsAnswer query asker.context tables.rows rows

-- what is told of a question, before it is recorded
abbrev pub Decides : State → ℕ → Query → Ground → Asked → Type 0
Decides old k query why (Answer rows) = IsReleased old k query why rows
Decides old k query why Blocked = IsBlocked old k query why

-- what is told of it is recorded: the rows of an answer, and nothing of a block
abbrev pub Keeps : State → ℕ → Query → Asked → State → Type 0
Keeps old k query (Answer rows) new = IsRecorded old k query rows new
Keeps old k query Blocked new = new ≡ old

-- the reply says the fault, where the failure isn't want of memory
abbrev pub IsRefusal : Failure CoreFault → CoreReply → Type 0
IsRefusal NoMemory reply = ⊥
IsRefusal (Fault fault) reply = reply ≡ Refused fault
