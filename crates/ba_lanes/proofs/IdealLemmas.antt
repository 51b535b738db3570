-- A legal journal is ideal where equations alone are used, no set is published, and each line is served fully.
use mathlib.Core.HLevel.{×_prop}
use mathlib.Core.List.{map-append}
use Rattle.std.proofs.Common.{◌≡◌, ◌∙◌, ◌⊎◌, ℕ, zero, suc, ◌+◌, ◌<◌, ◌≤◌, ◌==◌, Bool, true, false, true≢false, cond, List, [], ◌∷◌, ◌++◌, All, Contains, None, Option, Some, ap, append_assoc, append-nil, arith, filter, flat_map, inl, inr, map, refl, slice_get, subst, sym}
use Rattle.std.proofs.Math.Logic.{∥∥₁_elim}
use Rattle.std.proofs.lemmas.Bool.{eqb-false}
use Rattle.std.proofs.lemmas.List.Elements.{All-append, All-cons, All-contains, All-contains_itself, All-head, All-nil, All-tail, Contains-append_left, Contains-append_right}
use Rattle.std.proofs.lemmas.Option.{same_Some}
use Rattle.std.specs.Coded.{Coded-set, coded_ℕ}
use Rattle.ba_comply.specs.declared.trace.TraceEntry.{TraceEntry}
use Rattle.ba_input.specs.Inputs.{effort_of}
use Rattle.ba_input.specs.declared.input.Input.{Input}
use Rattle.ba_model.specs.Equations.{IsOfEquations}
use Rattle.ba_model.specs.declared.policy.Context.{Context}
use Rattle.ba_model.specs.declared.policy.Policy.{Policy}
use Rattle.ba_model.specs.declared.query.Query.{Query}
use Rattle.ba_refute.proofs.RefuteLemmas.{refutes}
use Rattle.ba_refute.specs.OfEquations.{IsQuestionOfEquations}
use Rattle.ba_script.specs.Reading.{is_publish}
use Rattle.ba_script.specs.declared.entry.ScriptEntry.{ScriptEntry}
use Rattle.ba_script.specs.declared.entry.ScriptEntry.TheVariants as said
use Rattle.ba_session.specs.Asking.{IsCompliant, Reads, Replies, answer_in}
use Rattle.ba_session.specs.KeyReads.{AreGrounds, KeyReads}
use Rattle.ba_keys.specs.Literals.{key_queries}
use Rattle.ba_session.specs.Passing.{ShelfCalls}
use Rattle.ba_session.specs.declared.reply.By.{By}
use Rattle.ba_session.specs.declared.reply.KeyReply.{KeyReply}
use Rattle.ba_session.specs.declared.reply.KeyReply.TheVariants as key_reply
use Rattle.ba_session.specs.declared.reply.Reply.{Reply}
use Rattle.ba_session.specs.declared.reply.Reply.TheVariants.{Answer, Blocked, Unread, NoMemory}
use Rattle.ba_session.specs.declared.reply.Why.TheVariants.{Refuted, Spent, Stuck}
use Rattle.ba_session.specs.declared.request.Request.{Request}
use Rattle.ba_settle.specs.Settling.{Effort}
use Rattle.ba_tables.specs.TableSet.{TableSet}
use Rattle.ba_tables.specs.contracts.tables.Tables as Tables
use Rattle.ba_turn.specs.History.{calls_by, entry_of, number_of}
use Rattle.ba_versions.specs.Calls as versions
use Rattle.ba_versions.specs.Reads.{calls_of}
use Rattle.ba_versions.specs.declared.call.VersionCall.{VersionCall}
use Rattle.ba_versions.specs.declared.call.VersionCall.TheVariants as call
use Rattle.ba_lanes.proofs.HeadlineLemmas.{as_many_grounds, entry_in, pin_made, pinned_there, trace_same}
use Rattle.ba_lanes.proofs.ServeLemmas.{trace_more}
use Rattle.ba_lanes.specs.Ideal.{AsksByEquations, IsIdeal, IsIdealAsk, IsIdealAt, IsIdealKeyRead, IsIdealKeyReply, IsIdealReply, IsServedFully, UsesEquations}
use Rattle.ba_lanes.specs.Lanes.{EachAfter, of_lane}
use Rattle.ba_lanes.specs.Legal.{AreServed, IsAsk, IsRead, IsServed, Legal, LineDone, answer_of, asked, begins, done_in, lane_of, no_calls, on_versions, pin_of, read_as, trace_in, trace_of}
use Rattle.ba_lanes.specs.declared.journal.Entry.{Entry}
use Rattle.ba_lanes.specs.declared.journal.Entry.TheVariants.{Begin, Ask, Read, End}
use Rattle.ba_lanes.specs.declared.journal.Journal.{Journal}

-- ---- lists

-- what holds of each element but the last, and of the last
front_and_last : {X : Type 0} (P : X → Type 0) (xs : List X) (y : X) → All P (xs ++ y ∷ []) → All P xs × P y
front_and_last P [] y all = (All-nil P, All-head P y [] all)
front_and_last P (x ∷ xs) y all =
    let rest = front_and_last P xs y (All-tail P x (xs ++ y ∷ []) all) in
    (All-cons P x xs (All-head P x (xs ++ y ∷ []) all) rest.0, rest.1)

all_flat : {X A : Type 0} (P : A → Type 0) (f : X → List A) (xs : List X) → All (λ x. All P (f x)) xs → All P (flat_map f xs)
all_flat P f [] all = All-nil P
all_flat P f (x ∷ xs) all = All-append P (f x) (flat_map f xs) (All-head (λ x. All P (f x)) x xs all) (all_flat P f xs (All-tail (λ x. All P (f x)) x xs all))

-- what holds of all elements holds of those of a lane
all_in_lane : {L X : Type 0} (P : X → Type 0) (lane : L → ℕ) (k : ℕ) (lines : List L) (its : List X) → All P its → All P (of_lane lane k lines its)
all_in_lane P lane k [] its all = All-nil P
all_in_lane P lane k (line ∷ lines) [] all = All-nil P
all_in_lane P lane k (line ∷ lines) (it ∷ its) all = by (lane line == k) (all_in_lane P lane k lines its (All-tail P it its all))
  where
    by : (t : Bool) → All P (of_lane lane k lines its) → All P (cond t (it ∷ of_lane lane k lines its) (of_lane lane k lines its))
    by true rest = All-cons P it (of_lane lane k lines its) (All-head P it its all) rest
    by false rest = rest

-- what holds of the calls of each lane holds of a history of theirs
module _ {E : Type 0} (P : E → Type 0) (lanes : ℕ) where
  abbrev InLanes : ℕ → Type 0
  InLanes n = (0 < n) × (n ≤ lanes)

  abbrev calls_then : Bool → (ℕ × E) → List (ℕ × E) → List E
  calls_then t c more = map entry_of (cond t (c ∷ more) more)

  -- the call is one of the lane of its number
  call_here : (c : ℕ × E) (more : List (ℕ × E)) (n : ℕ) → number_of c ≡ n → (t : Bool) → (number_of c == n) ≡ t → All P (calls_then t c more) → P (entry_of c)
  call_here c more n e true same all = All-head P (entry_of c) (map entry_of more) all
  call_here c more n e false same all = absurd (eqb-false (number_of c) n same e)

  call_in_lane : (c : ℕ × E) (log : List (ℕ × E)) (n : ℕ) → number_of c ≡ n → InLanes n → ((k : ℕ) → k < lanes → All P (calls_by (k + 1) (c ∷ log))) → P (entry_of c)
  call_in_lane c log zero e (some, few) each = absurd (omega (arith, some))
  call_in_lane c log (suc k) e (some, few) each =
      call_here c (filter (λ x. number_of x == k + 1) log) (k + 1) (omega (arith, e)) (number_of c == k + 1) refl (each k (omega (arith, few)))

  calls_behind : (c : ℕ × E) (more : List (ℕ × E)) (t : Bool) → All P (calls_then t c more) → All P (map entry_of more)
  calls_behind c more true all = All-tail P (entry_of c) (map entry_of more) all
  calls_behind c more false all = all

  all_in_log : (log : List (ℕ × E)) → All InLanes (map number_of log) → ((k : ℕ) → k < lanes → All P (calls_by (k + 1) log)) → All P (map entry_of log)
  all_in_log [] numbers each = All-nil P
  all_in_log (c ∷ log) numbers each =
      All-cons P (entry_of c) (map entry_of log)
      (call_in_lane c log (number_of c) refl (All-head InLanes (number_of c) (map number_of log) numbers) each)
      (all_in_log log (All-tail InLanes (number_of c) (map number_of log) numbers)
      (λ k below. calls_behind c (filter (λ x. number_of x == k + 1) log) (number_of c == k + 1) (each k below)))

-- ---- calls that publish nothing

abbrev IsQuiet : VersionCall → Type 0
IsQuiet (call.Publish told m) = ⊥
IsQuiet (call.Pin m told) = Unit {0}
IsQuiet call.Refused = Unit {0}

quiet_same : (opening : TableSet) (made : VersionCall) (old new : List TableSet) → versions.Steps opening old made new → IsQuiet made → new ≡ old
quiet_same opening (call.Publish told m) old new step quiet = absurd quiet
quiet_same opening (call.Pin m told) old new step quiet = step.same
quiet_same opening call.Refused old new step quiet = step

-- they leave the opening tables alone
one_version : (opening : TableSet) {calls : List VersionCall} {list : List TableSet} → versions.Legal opening calls list → All IsQuiet calls → list ≡ opening ∷ []
one_version opening (versions.start v) quiet = refl
one_version opening (versions.next {calls = calls} {old = old} {new = new} made before step) quiet =
    let both = front_and_last IsQuiet calls made quiet in
    quiet_same opening made old new step both.1 ∙ one_version opening before both.0

abbrev LineIsQuiet : LineDone → Type 0
LineIsQuiet it = All IsQuiet it.made.versions

quiet_calls : (it : LineDone) → (it.made ≡ no_calls) ⊎ (it.made ≡ on_versions (call.Refused ∷ [])) → LineIsQuiet it
quiet_calls it (inl none) = subst (λ made. All IsQuiet made.versions) (sym none) (All-nil IsQuiet)
quiet_calls it (inr one) = subst (λ made. All IsQuiet made.versions) (sym one) (All-cons IsQuiet call.Refused [] tt (All-nil IsQuiet))

quiet_line : (input : Input) (earlier : List LineDone) (line : ScriptEntry) (it : LineDone) → is_publish line ≡ false → IsServed input earlier line it → LineIsQuiet it
unfolding is_publish
quiet_line input earlier (said.Begin r name context) it none (inl h) =
    subst LineIsQuiet (sym h.is) (All-cons IsQuiet (pin_of h.version h.tables) [] tt (All-nil IsQuiet))
quiet_line input earlier (said.Begin r name context) it none (inr h) = quiet_calls it h.made_is
quiet_line input earlier (said.Ask r name text) it none (inl h) = subst LineIsQuiet (sym h.is) (All-nil IsQuiet)
quiet_line input earlier (said.Ask r name text) it none (inr h) = subst LineIsQuiet (sym h.unserved) (All-nil IsQuiet)
quiet_line input earlier (said.Read r name key args qs) it none (inl h) = subst LineIsQuiet (sym h.is) (All-nil IsQuiet)
quiet_line input earlier (said.Read r name key args qs) it none (inr h) = subst LineIsQuiet (sym h.unserved) (All-nil IsQuiet)
quiet_line input earlier (said.End r name) it none (inl h) = subst LineIsQuiet (sym h.is) (All-nil IsQuiet)
quiet_line input earlier (said.End r name) it none (inr h) = subst LineIsQuiet (sym h.unserved) (All-nil IsQuiet)
quiet_line input earlier (said.Publish n set) it none h = absurd (true≢false none)

quiet_lines : (input : Input) (earlier : List LineDone) (lines : List ScriptEntry) (its : List LineDone) → All (λ line. is_publish line ≡ false) lines → AreServed input earlier lines its → All LineIsQuiet its
quiet_lines input earlier [] [] none served = All-nil LineIsQuiet
quiet_lines input earlier [] (it ∷ its) none served = absurd served
quiet_lines input earlier (line ∷ lines) [] none served = absurd served
quiet_lines input earlier (line ∷ lines) (it ∷ its) none (here, more) =
    All-cons LineIsQuiet it its (quiet_line input earlier line it (All-head (λ line. is_publish line ≡ false) line lines none) here)
    (quiet_lines input (earlier ++ it ∷ []) lines its (All-tail (λ line. is_publish line ≡ false) line lines none) more)

-- ---- what is answered

-- each query that the requests were answered is of equations
abbrev AreOfEquations : List TraceEntry → Type 0
AreOfEquations trace = All (λ (entry : TraceEntry). IsOfEquations entry.query) trace

abbrev AllAreOfEquations : List LineDone → Type 0
AllAreOfEquations earlier = (number : ℕ) → AreOfEquations (trace_of number earlier)

module _ (input : Input) where
  reply_of_equations : (asker : Request) (text : List ℕ) → ((query : Query) → Reads input.policy text query → IsOfEquations query) → (reply : Reply) → IsIdealReply input.policy asker text reply →
      AreOfEquations (answer_in reply)
  reply_of_equations asker text equations (Answer query rows by) h = All-cons (λ (entry : TraceEntry). IsOfEquations entry.query) (record { query = query; rows = rows }) [] (equations query h.reads) (All-nil _)
  reply_of_equations asker text equations (Blocked query why) h = All-nil (λ (entry : TraceEntry). IsOfEquations entry.query)
  reply_of_equations asker text equations (Unread fault) h = All-nil (λ (entry : TraceEntry). IsOfEquations entry.query)
  reply_of_equations asker text equations NoMemory h = All-nil (λ (entry : TraceEntry). IsOfEquations entry.query)

  answer_of_equations : (number request : ℕ) (reply : Reply) → AreOfEquations (answer_in reply) → AreOfEquations (answer_of number (Ask request 0 reply))
  answer_of_equations number request reply h = by (request == number)
    where
      by : (t : Bool) → AreOfEquations (cond t (answer_in reply) [])
      by true = h
      by false = All-nil (λ (entry : TraceEntry). IsOfEquations entry.query)

  line_of_equations : (past : List Entry) (line : ScriptEntry) (entry : Entry) → AsksByEquations input.policy line → IsIdealAt input past line entry → (number : ℕ) → AreOfEquations (answer_of number entry)
  line_of_equations past (said.Begin r name context) entry equations ideal number =
      subst (λ z. AreOfEquations (answer_of number z)) (sym ideal) (All-nil (λ (entry : TraceEntry). IsOfEquations entry.query))
  line_of_equations past (said.Ask r name text) entry equations ideal number =
      subst (λ z. AreOfEquations (answer_of number z)) (sym ideal.is)
      (answer_of_equations number r ideal.reply (reply_of_equations ideal.asker text equations ideal.reply ideal.ideal))
  line_of_equations past (said.Read r name key args qs) entry equations ideal number =
      subst (λ z. AreOfEquations (answer_of number z)) (sym ideal.is) (All-nil (λ (entry : TraceEntry). IsOfEquations entry.query))
  line_of_equations past (said.End r name) entry equations ideal number =
      subst (λ z. AreOfEquations (answer_of number z)) (sym ideal) (All-nil (λ (entry : TraceEntry). IsOfEquations entry.query))
  line_of_equations past (said.Publish n set) entry equations ideal number = absurd ideal

-- ---- lines

-- the reply is the entry's, and it is ideal
abbrev IsIdealEntry : Input → Request → ℕ → ℕ → List ℕ → Reply → Type 0
IsIdealEntry input asker request version text reply = (asked request version reply ≡ Ask request version reply) × IsIdealReply input.policy asker text reply

ideal_reply : (input : Input) (asker : Request) (request version : ℕ) (text : List ℕ) (calls : ShelfCalls) → ((query : Query) → Reads input.policy text query → IsQuestionOfEquations input.policy asker.trace query) →
    (reply : Reply) → Replies input.policy asker (effort_of input) text calls reply → IsServedFully (asked request version reply) → IsIdealEntry input asker request version text reply
ideal_reply input asker request version text calls equations (Answer query rows by) h fully = (refl, record { reads = h.reads; compliant = h.compliant; answer = h.released.answer })
ideal_reply input asker request version text calls equations (Blocked query (Refuted pair)) h fully =
    (refl, record { reads = h.reads; uncompliant = refutes input.policy asker.context asker.trace query pair h.denied.reason.refutes })
ideal_reply input asker request version text calls equations (Blocked query (Spent steps)) h fully = absurd fully
ideal_reply input asker request version text calls equations (Blocked query (Stuck leaf clause)) h fully = absurd (h.denied.reason.beyond_equations (equations query h.reads))
ideal_reply input asker request version text calls equations (Unread fault) h fully = (refl, h.0)
ideal_reply input asker request version text calls equations NoMemory h fully = absurd fully

-- each query with its ground is strongly compliant
pub grounds_comply : (policy : Policy) (asker : Request) (effort : Effort) (queries : List Query) (bases : List By) (made : List ShelfCalls) → AreGrounds policy asker effort queries bases made →
    All (IsCompliant policy asker) queries
grounds_comply policy asker effort [] bases made h = All-nil (IsCompliant policy asker)
grounds_comply policy asker effort (q ∷ qs) [] made h = absurd h
grounds_comply policy asker effort (q ∷ qs) (b ∷ bs) [] h = absurd h
grounds_comply policy asker effort (q ∷ qs) (b ∷ bs) (m ∷ ms) h = All-cons (IsCompliant policy asker) q qs h.0.1 (grounds_comply policy asker effort qs bs ms h.1)

-- the reply is the entry's, and it is ideal
abbrev IsIdealReadEntry : Input → Request → ℕ → ℕ → ℕ → List Query → KeyReply → Type 0
IsIdealReadEntry input asker request version number queries reply =
    (read_as request version number reply ≡ Read request version number reply) × IsIdealKeyReply input.policy asker queries reply

ideal_key_reply : (input : Input) (asker : Request) (request version number : ℕ) (queries : List Query) (calls : List ShelfCalls) → ((query : Query) → Contains queries query → IsQuestionOfEquations input.policy asker.trace query) →
    (reply : KeyReply) → KeyReads input.policy asker (effort_of input) queries calls reply → IsServedFully (read_as request version number reply) → IsIdealReadEntry input asker request version number queries reply
ideal_key_reply input asker request version number queries calls equations (key_reply.Allowed its by) h fully =
    (refl, record { are = h.0; compliant = grounds_comply input.policy asker (effort_of input) queries by calls h.1 })
ideal_key_reply input asker request version number queries calls equations (key_reply.Blocked its before (Refuted pair)) h fully =
    let it = h.1 in (
      refl,
      record {
        are = h.0;
        front = it.front;
        query = it.query;
        back = it.back;
        parts = it.are;
        index_is = as_many_grounds input.policy asker (effort_of input) it.front before it.earlier it.grounds;
        compliant = grounds_comply input.policy asker (effort_of input) it.front before it.earlier it.grounds;
        uncompliant = refutes input.policy asker.context asker.trace it.query pair it.denied.reason.refutes;
      },
    )
ideal_key_reply input asker request version number queries calls equations (key_reply.Blocked its before (Spent steps)) h fully = absurd fully
ideal_key_reply input asker request version number queries calls equations (key_reply.Blocked its before (Stuck leaf clause)) h fully =
    let it = h.1 in
    let among : Contains queries it.query = subst (λ z. Contains z it.query) (sym it.are) (Contains-append_right it.front (it.query ∷ it.back) it.query (0, omega arith, refl)) in
    absurd (it.denied.reason.beyond_equations (equations it.query among))
ideal_key_reply input asker request version number queries calls equations key_reply.NoMemory h fully = absurd fully

module _ (input : Input) (journal : Journal) (legal : Legal input journal) (uses : UsesEquations input) where
  all_quiet : All IsQuiet (calls_of journal.histories.versions)
  all_quiet =
      let calls = legal.versions.calls in
      let lines = quiet_lines input [] input.script.entries legal.served uses.unpublished legal.lines in
      subst (All IsQuiet) (sym calls.calls_are)
      (all_in_log IsQuiet input.workers calls.log calls.no_others
      (λ k below. subst (All IsQuiet) (sym (calls.each k below))
      (all_flat IsQuiet (λ (it : LineDone). it.made.versions) (done_in input legal.served k) (all_in_lane LineIsQuiet (lane_of input.workers) k input.script.entries legal.served lines))))

  first_of : (tables : TableSet) (n : ℕ) → slice_get (input.tables ∷ []) n ≡ Some tables → (n ≡ 0) × (tables ≡ input.tables)
  first_of tables zero e = (refl, sym (same_Some input.tables tables e))
  first_of tables (suc n) e = absurd (cc)

  -- a request begins over the input's tables
  over_input : (request version : ℕ) (tables : TableSet) → Contains legal.served (begins request version tables) → (version ≡ 0) × (tables ≡ input.tables)
  over_input request version tables among =
      ∥∥₁_elim legal.versions.legal (×_prop (Coded-set coded_ℕ version 0) (Coded-set Tables.the_row.coded tables input.tables))
      (λ history. first_of tables version
      (subst (λ z. slice_get z version ≡ Some tables) (one_version input.tables history all_quiet) (pinned_there input.tables history version tables (pin_made input journal legal request version tables among))))

  module _ (earlier : List LineDone) (it : LineDone) (fully : IsServedFully it.entry) (front : (x : LineDone) → Contains earlier x → Contains legal.served x) (here : Contains legal.served it)
      (known : AllAreOfEquations earlier) where
    -- a question of the request that stands there
    ideal_ask : (request : ℕ) (name text : List ℕ) → AsksByEquations input.policy (said.Ask request name text) → IsAsk input earlier request text it → IsIdealAsk input (map entry_in earlier) request text it.entry
    ideal_ask request name text equations h =
        let first = over_input request h.asker.version h.asker.tables (front (begins request h.asker.version h.asker.tables) h.asks.begun) in
        let entry_is : it.entry ≡ asked request h.asker.version h.reply = ap entry_in h.is in
        let is_of : (query : Query) → Reads input.policy text query → IsQuestionOfEquations input.policy h.asker.trace query = (λ query reads. record {
          policy_is = uses.policy;
          recorded = subst AreOfEquations (sym h.asks.trace) (known request);
          asked = equations query reads;
        }) in
        let ideal = ideal_reply input h.asker request h.asker.version text h.calls is_of h.reply h.replies (subst IsServedFully entry_is fully) in
        record {
          asker = h.asker;
          stands = record { context = h.asks.context; version = first.0; tables = first.1; trace = h.asks.trace ∙ trace_same request earlier };
          reply = h.reply;
          is = entry_is ∙ ideal.0 ∙ ap (λ version. Ask request version h.reply) first.0;
          ideal = ideal.1;
        }

    -- a read by the request that stands there
    ideal_read : (request : ℕ) (name : List ℕ) (number : ℕ) (args : Context) (qs : ℕ) → AsksByEquations input.policy (said.Read request name number args qs) → IsRead input earlier request number args it →
        IsIdealKeyRead input (map entry_in earlier) request number args it.entry
    ideal_read request name number args qs equations h =
        let first = over_input request h.asker.version h.asker.tables (front (begins request h.asker.version h.asker.tables) h.asks.begun) in
        let entry_is : it.entry ≡ read_as request h.asker.version number h.reply = ap entry_in h.is in
        let queries = key_queries input.policy h.key args in
        let is_of : (query : Query) → Contains queries query → IsQuestionOfEquations input.policy h.asker.trace query = (λ query among. record {
          policy_is = uses.policy;
          recorded = subst AreOfEquations (sym h.asks.trace) (known request);
          asked = All-contains IsOfEquations queries query (equations h.key h.key_is) among;
        }) in
        let ideal = ideal_key_reply input h.asker request h.asker.version number queries h.calls is_of h.reply h.reads (subst IsServedFully entry_is fully) in
        record {
          asker = h.asker;
          stands = record { context = h.asks.context; version = first.0; tables = first.1; trace = h.asks.trace ∙ trace_same request earlier };
          key = h.key;
          key_is = h.key_is;
          reply = h.reply;
          is = entry_is ∙ ideal.0 ∙ ap (λ version. Read request version number h.reply) first.0;
          ideal = ideal.1;
        }

    ideal_line : (line : ScriptEntry) → AsksByEquations input.policy line → is_publish line ≡ false → IsServed input earlier line it → IsIdealAt input (map entry_in earlier) line it.entry
    unfolding is_publish
    ideal_line (said.Begin r name context) equations none (inl h) =
        ap entry_in h.is ∙ ap (Begin r) (over_input r h.version h.tables (subst (Contains legal.served) h.is here)).0
    ideal_line (said.Begin r name context) equations none (inr h) = absurd (subst IsServedFully h.entry_is fully)
    ideal_line (said.Ask r name text) equations none (inl h) = ideal_ask r name text equations h
    ideal_line (said.Ask r name text) equations none (inr h) = absurd (subst IsServedFully (ap entry_in h.unserved) fully)
    ideal_line (said.Read r name key args qs) equations none (inl h) = ideal_read r name key args qs equations h
    ideal_line (said.Read r name key args qs) equations none (inr h) = absurd (subst IsServedFully (ap entry_in h.unserved) fully)
    ideal_line (said.End r name) equations none (inl h) =
        ap entry_in h.is ∙ ap (End r) (over_input r h.version h.tables (front (begins r h.version h.tables) h.begun)).0
    ideal_line (said.End r name) equations none (inr h) = absurd (subst IsServedFully (ap entry_in h.unserved) fully)
    ideal_line (said.Publish n set) equations none h = absurd (true≢false none)

  ideal_lines : (lines : List ScriptEntry) (its earlier : List LineDone) → legal.served ≡ earlier ++ its → AreServed input earlier lines its → All (AsksByEquations input.policy) lines →
      All (λ line. is_publish line ≡ false) lines → All IsServedFully (map entry_in its) → AllAreOfEquations earlier → EachAfter (IsIdealAt input) (map entry_in earlier) lines (map entry_in its)
  ideal_lines [] [] earlier are served equations none fully known = tt
  ideal_lines [] (it ∷ its) earlier are served equations none fully known = absurd served
  ideal_lines (line ∷ lines) [] earlier are served equations none fully known = absurd served
  ideal_lines (line ∷ lines) (it ∷ its) earlier are (served, more) equations none fully known =
      let by_equations = All-head (AsksByEquations input.policy) line lines equations in
      let there : (x : LineDone) → Contains (earlier ++ it ∷ its) x → Contains legal.served x = (λ x. subst (λ z. Contains z x) (sym are)) in
      let first = ideal_line earlier it (All-head IsServedFully it.entry (map entry_in its) fully)
      (λ x among. there x (Contains-append_left earlier (it ∷ its) x among)) (there it (Contains-append_right earlier (it ∷ its) it (0, omega arith, refl))) known
      line by_equations (All-head (λ line. is_publish line ≡ false) line lines none) served in
      let known_more : AllAreOfEquations (earlier ++ it ∷ []) = (λ number. subst AreOfEquations (sym (trace_more number earlier it))
      (All-append (λ (entry : TraceEntry). IsOfEquations entry.query) (trace_of number earlier) (answer_of number it.entry) (known number)
      (line_of_equations input (map entry_in earlier) line it.entry by_equations first number))) in (
        first,
        subst (λ past. EachAfter (IsIdealAt input) past lines (map entry_in its)) (map-append entry_in earlier (it ∷ []))
            (ideal_lines lines its (earlier ++ it ∷ []) (are ∙ sym (append_assoc earlier (it ∷ []) its)) more (All-tail (AsksByEquations input.policy) line lines equations)
            (All-tail (λ line. is_publish line ≡ false) line lines none) (All-tail IsServedFully it.entry (map entry_in its) fully) known_more),
      )

pub legal_is_ideal : (input : Input) (journal : Journal) → Legal input journal → UsesEquations input → All IsServedFully journal.entries → IsIdeal input journal
legal_is_ideal input journal legal uses fully = record {
  lines = subst (EachAfter (IsIdealAt input) [] input.script.entries) (sym legal.entries)
      (ideal_lines input journal legal uses input.script.entries legal.served [] refl legal.lines uses.questions uses.unpublished (subst (All IsServedFully) legal.entries fully)
      (λ number. All-nil (λ (entry : TraceEntry). IsOfEquations entry.query)));
}
