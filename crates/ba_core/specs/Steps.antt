-- The steps of the machine, by cases over its events.
use Rattle.std.specs.Prelude.{◌≡◌, ◌≢◌, ℕ, ◌≤◌, ◌<◌, List, [], ◌∷◌, ◌++◌, Some, None, IsSome, length, slice_get, Bool, true, false, All, Contains, ⊤}
use Rattle.std.specs.List.{AllZip}
use Rattle.ba_core.specs.State.{ChangesOnly, State, opened_at}
use Rattle.ba_core.specs.declared.event.Asked.{Asked}
use Rattle.ba_core.specs.declared.event.Asked.TheVariants.{Answer, Blocked}
use Rattle.ba_core.specs.declared.event.CoreFault.{CoreFault}
use Rattle.ba_core.specs.declared.event.CoreFault.TheVariants.{Taken, NoRequest, NoVersion, NoTemplate, Unfit}
use Rattle.ba_core.specs.declared.event.CoreReply.{CoreReply}
use Rattle.ba_core.specs.declared.event.CoreReply.TheVariants as replies
use Rattle.ba_core.specs.declared.event.Event.{Event}
use Rattle.ba_core.specs.declared.event.Event.TheVariants as events
use Rattle.ba_core.specs.declared.event.Ground.{Ground}
use Rattle.ba_core.specs.declared.event.Ground.TheVariants.{Cover, Template, Proof, Refuse}
use Rattle.ba_core.specs.declared.opened.Opened.{Opened}
use Rattle.ba_direct.specs.Cover.{Covered, IsCover}
use Rattle.ba_kernel.specs.Problems.{problem_of}
use Rattle.ba_kernel.specs.SearchStates as kernel
use Rattle.ba_model.specs.Meaning.{IsAnswer}
use Rattle.ba_model.specs.declared.policy.Context.{Context}
use Rattle.ba_model.specs.declared.policy.Policy.{Policy}
use Rattle.ba_model.specs.declared.query.Query.{Query}
use Rattle.ba_model.specs.declared.value.Value.{Value}
use Rattle.ba_tables.specs.TableSet.{TableSet}
use Rattle.ba_template.specs.Found.{IsMatch}
use Rattle.ba_template.specs.declared.found.Match.{Match}

-- ---- grounds

-- the match is one of the template of the number with the request's query
pub record IsServed (policy : Policy) (templates : List kernel.Proof) (asker : Opened) (query : Query) (n : ℕ) (found : Match) : Type 0 where
  pub template : kernel.Proof
  pub there : slice_get templates n ≡ Some template
  pub is_match : IsMatch template.problem policy asker.context asker.trace query found

-- The ground is one for the request's query: a cover of it, a match of a template that was admitted, a proof of just this question after just this trace, or a
-- refusal where the query isn't covered.
abbrev pub Fits : Policy → List kernel.Proof → Opened → Query → Ground → Type 0
Fits policy templates asker query (Cover cover) = IsCover policy asker.context query cover
Fits policy templates asker query (Template n found) = IsServed policy templates asker query n found
Fits policy templates asker query (Proof proof) = proof.problem ≡ problem_of policy asker.context asker.trace query
Fits policy templates asker query Refuse = Covered policy asker.context query → ⊥

-- the template that the ground names, if it names one, is there
abbrev pub HasTemplate : List kernel.Proof → Ground → Type 0
HasTemplate templates (Cover cover) = ⊤
HasTemplate templates (Template n found) = n < length templates
HasTemplate templates (Proof proof) = ⊤
HasTemplate templates Refuse = ⊤

-- ---- events that aren't refused

-- the tables become the last version, and its number is told
pub record IsPublished (old : State) (tables : TableSet) (n : ℕ) (new : State) : Type 0 where
  pub number : n ≡ length old.versions
  pub state : new ≡ record old { versions = old.versions ++ tables ∷ [] }

-- the template becomes the last one, and its number is told
pub record IsAdmitted (old : State) (template : kernel.Proof) (n : ℕ) (new : State) : Type 0 where
  pub number : n ≡ length old.templates
  pub state : new ≡ record old { templates = old.templates ++ template ∷ [] }

-- the request wasn't open; it is open on the version, and has asked nothing
pub record IsBegun (old : State) (k : ℕ) (context : Context) (version : ℕ) (new : State) : Type 0 where
  pub free : opened_at old k ≡ None
  pub there : version < length old.versions
  pub opens : ChangesOnly old new k (Some (record { context = context; version = version; trace = [] }))
  pub rest : new ≡ record old { requests = new.requests }

-- the rows are the query's answer in the tables of the request's version, and the ground allows to tell them
pub record IsReleased (old : State) (k : ℕ) (query : Query) (why : Ground) (rows : List (List Value)) : Type 0 where
  pub asker : Opened
  pub is_open : opened_at old k ≡ Some asker
  pub fits : Fits old.policy old.templates asker query why
  pub no_refusal : why ≢ Refuse
  pub tables : TableSet
  pub pinned : slice_get old.versions asker.version ≡ Some tables
  pub answer : IsAnswer query asker.context tables.rows rows

-- the query and its rows join the request's trace, and no other's, and the log
pub record IsRecorded (old : State) (k : ℕ) (query : Query) (rows : List (List Value)) (new : State) : Type 0 where
  pub asker : Opened
  pub is_open : opened_at old k ≡ Some asker
  pub trace : ChangesOnly old new k (Some (record asker { trace = asker.trace ++ record { query = query; rows = rows } ∷ [] }))
  pub log : new.log ≡ old.log ++ record { request = k; query = query; rows = rows } ∷ []
  pub rest : new ≡ record old { requests = new.requests; log = new.log }

pub record AnswersAsk (old : State) (k : ℕ) (query : Query) (why : Ground) (rows : List (List Value)) (new : State) : Type 0 where
  pub released : IsReleased old k query why rows
  pub recorded : IsRecorded old k query rows new

-- the request's query isn't covered, and is refused
pub record IsBlocked (old : State) (k : ℕ) (query : Query) (why : Ground) : Type 0 where
  pub asker : Opened
  pub is_open : opened_at old k ≡ Some asker
  pub fits : Fits old.policy old.templates asker query why
  pub refusal : why ≡ Refuse

-- each of the request's queries has a ground, and none is a refusal
pub record AllowsRead (old : State) (k : ℕ) (queries : List Query) (grounds : List Ground) :
    Type 0 where
  pub asker : Opened
  pub is_open : opened_at old k ≡ Some asker
  pub fit : AllZip (Fits old.policy old.templates asker) queries grounds
  pub no_refusal : All (λ why. why ≢ Refuse) grounds

-- each of the request's queries has a ground, and one is a refusal, as its query isn't covered
pub record BlocksRead (old : State) (k : ℕ) (queries : List Query) (grounds : List Ground) :
    Type 0 where
  pub asker : Opened
  pub is_open : opened_at old k ≡ Some asker
  pub fit : AllZip (Fits old.policy old.templates asker) queries grounds
  pub refusal : Contains grounds Refuse

-- whether the request may read what lies behind the queries
abbrev pub Reads : State → ℕ → List Query → List Ground → Bool → Type 0
Reads old k queries grounds true = AllowsRead old k queries grounds
Reads old k queries grounds false = BlocksRead old k queries grounds

-- the request, which was open, is closed
pub record IsEnded (old : State) (k : ℕ) (new : State) : Type 0 where
  pub was_open : IsSome (opened_at old k)
  pub closes : ChangesOnly old new k None
  pub rest : new ≡ record old { requests = new.requests }

-- ---- refusals, in order

-- the request is open, and the template that the ground names isn't there
pub record LacksTemplate (old : State) (k : ℕ) (why : Ground) : Type 0 where
  pub is_open : IsSome (opened_at old k)
  pub lacks : HasTemplate old.templates why → ⊥

-- the ground isn't one for the request's query
pub record IsUnfit (old : State) (k : ℕ) (query : Query) (why : Ground) : Type 0 where
  pub asker : Opened
  pub is_open : opened_at old k ≡ Some asker
  pub named : HasTemplate old.templates why
  pub unfit : Fits old.policy old.templates asker query why → ⊥

-- the request is open, and a template that a ground names isn't there
pub record LacksTemplates (old : State) (k : ℕ) (grounds : List Ground) : Type 0 where
  pub is_open : IsSome (opened_at old k)
  pub lacks : All (HasTemplate old.templates) grounds → ⊥

-- the grounds aren't as many as the request's queries, or one isn't a ground for its query
pub record AreUnfit (old : State) (k : ℕ) (queries : List Query) (grounds : List Ground) :
    Type 0 where
  pub asker : Opened
  pub is_open : opened_at old k ≡ Some asker
  pub named : All (HasTemplate old.templates) grounds
  pub unfit : AllZip (Fits old.policy old.templates asker) queries grounds → ⊥

abbrev pub RefusesBegin : State → ℕ → ℕ → CoreFault → Type 0
RefusesBegin old k version Taken = IsSome (opened_at old k)
RefusesBegin old k version NoVersion = (opened_at old k ≡ None) × (length old.versions ≤ version)
RefusesBegin old k version NoRequest = ⊥
RefusesBegin old k version NoTemplate = ⊥
RefusesBegin old k version Unfit = ⊥

abbrev pub RefusesAsk : State → ℕ → Query → Ground → CoreFault → Type 0
RefusesAsk old k query why NoRequest = opened_at old k ≡ None
RefusesAsk old k query why NoTemplate = LacksTemplate old k why
RefusesAsk old k query why Unfit = IsUnfit old k query why
RefusesAsk old k query why Taken = ⊥
RefusesAsk old k query why NoVersion = ⊥

abbrev pub RefusesRead : State → ℕ → List Query → List Ground → CoreFault → Type 0
RefusesRead old k queries grounds NoRequest = opened_at old k ≡ None
RefusesRead old k queries grounds NoTemplate = LacksTemplates old k grounds
RefusesRead old k queries grounds Unfit = AreUnfit old k queries grounds
RefusesRead old k queries grounds Taken = ⊥
RefusesRead old k queries grounds NoVersion = ⊥

abbrev pub RefusesEnd : State → ℕ → CoreFault → Type 0
RefusesEnd old k NoRequest = opened_at old k ≡ None
RefusesEnd old k Taken = ⊥
RefusesEnd old k NoVersion = ⊥
RefusesEnd old k NoTemplate = ⊥
RefusesEnd old k Unfit = ⊥

-- what is refused; a publication and an admission never are
abbrev pub Refuses : State → Event → CoreFault → Type 0
Refuses old (events.Publish tables) fault = ⊥
Refuses old (events.Begin k context version) fault = RefusesBegin old k version fault
Refuses old (events.Ask k query why) fault = RefusesAsk old k query why fault
Refuses old (events.Read k queries grounds) fault = RefusesRead old k queries grounds fault
Refuses old (events.Admit template) fault = ⊥
Refuses old (events.End k) fault = RefusesEnd old k fault

-- ---- steps

-- what a question that isn't refused is replied to with; a block changes nothing
abbrev pub Asks : State → ℕ → Query → Ground → Asked → State → Type 0
Asks old k query why (Answer rows) new = AnswersAsk old k query why rows new
Asks old k query why Blocked new = IsBlocked old k query why × (new ≡ old)

-- the event takes the old state to the new one, with this reply; a refusal changes nothing, nor does
-- a read
abbrev pub Steps : State → Event → CoreReply → State → Type 0
Steps old event (replies.Refused fault) new = Refuses old event fault × (new ≡ old)
Steps old (events.Publish tables) (replies.Number n) new = IsPublished old tables n new
Steps old (events.Begin k context version) replies.Begun new = IsBegun old k context version new
Steps old (events.Ask k query why) (replies.Asked asked) new = Asks old k query why asked new
Steps old (events.Read k queries grounds) (replies.Read allowed) new =
    Reads old k queries grounds allowed × (new ≡ old)
Steps old (events.Admit template) (replies.Number n) new = IsAdmitted old template n new
Steps old (events.End k) replies.Ended new = IsEnded old k new
Steps old event reply new = ⊥
