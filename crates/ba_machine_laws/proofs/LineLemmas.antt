-- What a machine does at the entry of one line.
use Rattle.std.proofs.Common.{◌≡◌, ◌≢◌, ◌∙◌, ℕ, ◌<◌, ◌≤◌, ◌==◌, Bool, true, false, List, [], ◌∷◌, ◌++◌, All, Contains, Some, ap, arith, inl, inr, length, map, refl, slice_get, subst, sym, true≢false, ◌⊎◌}
use Rattle.std.proofs.lemmas.Bool.Decides.{eqb_tells}
use Rattle.std.proofs.lemmas.List.Elements.{All-contains, All-nil, All-push, Contains-append_right, Contains-push_cases}
use Rattle.std.specs.Str.{bytes_eq}
use Rattle.std.proofs.lemmas.Option.{get_or_from_slice_get, same_Some}
use Rattle.ba_machine_laws.specs.Agreeing.{AskAgrees, BeginAgrees, EndAgrees, HasFound, HasRequest, ReadAgrees, after, opened_of}
use Rattle.ba_machine_laws.specs.Shelves.{FoundIsAdmitted}
use Rattle.ba_machine_laws.specs.Whole.{AreSound, event_in, read_in, told_in, told_of_read}
use Rattle.ba_comply.specs.Comply.{StrongComplies}
use Rattle.ba_comply.specs.declared.trace.TraceEntry.{TraceEntry}
use Rattle.ba_core.specs.Runs.{IsCompliant}
use Rattle.ba_core.specs.State.{State, opened_at}
use Rattle.ba_core.specs.Steps as core
use Rattle.ba_core.specs.declared.event.CoreReply.TheVariants as replies
use Rattle.ba_core.specs.declared.event.Event.TheVariants as events
use Rattle.ba_core.specs.declared.opened.Opened.{Opened}
use Rattle.ba_input.specs.Inputs.{effort_of}
use Rattle.ba_input.specs.declared.input.Input.{Input}
use Rattle.ba_lanes.proofs.IdealLemmas.{grounds_comply}
use Rattle.ba_lanes.proofs.ServeLemmas.{answers_own, asked_is_no_begin}
use Rattle.ba_lanes.specs.Legal.{IsAsk, IsRead, IsRequest, LineDone, answer_of, asked, begins, contexts_of, read_as, trace_in, trace_of}
use Rattle.ba_lanes.specs.declared.journal.Entry.{Entry}
use Rattle.ba_lanes.specs.declared.journal.Entry.TheVariants.{Begin, End}
use Rattle.ba_lanes.specs.declared.journal.Journal.{Journal}
use Rattle.ba_model.specs.Conform.{Conforms}
use Rattle.ba_model.specs.Fit.{IsQuery, kinds_of}
use Rattle.ba_model.specs.Meaning.{IsAnswer}
use Rattle.ba_model.specs.declared.policy.Context.{Context}
use Rattle.ba_model.specs.declared.policy.Policy.{Policy}
use Rattle.ba_model.specs.declared.query.Query.{Query}
use Rattle.ba_model.specs.declared.value.Value.{Value}
use Rattle.ba_machine_laws.proofs.AgreeLemmas.{barred_alone, read_complies}
use Rattle.ba_machine_laws.proofs.BetweenLemmas.{Between, IsQuiet, Keeps, Stands, contexts_more, goes_on, kept, quiet_ask, quiet_begin, quiet_end, quiet_read, quiet_reply, same_request, trace_more}
use Rattle.ba_machine_laws.proofs.ScriptLemmas.{IsOpenAfter, Opens, WasOpen, has_begun, has_context, next_number, not_apart, one_name, opened_before}
use Rattle.ba_machine_laws.proofs.TakesLemmas.{Takes}
use Rattle.ba_machine_laws.specs.Journals.{event_of, reply_of, standing}
use Rattle.ba_script.specs.Scripts.{BeginFits, IsOpen, IsScript}
use Rattle.ba_script.specs.declared.entry.ScriptEntry.{ScriptEntry}
use Rattle.ba_script.specs.declared.entry.ScriptEntry.TheVariants as said
use Rattle.ba_session.specs.Asking.{IsRequestOf, IsServable, IsGround, Reads, Replies, answer_in}
use Rattle.ba_session.specs.Asking as asking
use Rattle.ba_session.specs.KeyReads.{KeyReads}
use Rattle.ba_keys.specs.Literals.{key_queries}
use Rattle.ba_session.specs.Passing.{ShelfCalls}
use Rattle.ba_session.specs.declared.reply.By.{By}
use Rattle.ba_session.specs.declared.reply.KeyReply.{KeyReply}
use Rattle.ba_session.specs.declared.reply.KeyReply.TheVariants as key_reply
use Rattle.ba_session.specs.declared.reply.Reply.{Reply}
use Rattle.ba_session.specs.declared.reply.Reply.TheVariants.{Answer, Blocked, Unread}
use Rattle.ba_session.specs.declared.reply.Reply.TheVariants as reply
use Rattle.ba_session.specs.declared.request.Request.{Request}
use Rattle.ba_settle.specs.Settling.{Effort}
use Rattle.ba_tables.specs.TableSet.{TableSet}
use Rattle.ba_versions.specs.Reads.{versions_of}
use Rattle.ba_versions.specs.declared.call.VersionCall.{VersionCall}
use Rattle.ba_versions.specs.declared.call.VersionCall.TheVariants as call

-- ---- what it rests on

-- an answer with its evidence complies, on a machine that has the request
abbrev pub AnswersComply : Type 0
AnswersComply = (number : ℕ → ℕ → ℕ) (policy : Policy) (t : State) (k : ℕ) (asker : Request) (effort : Effort) (query : Query) (rows : List (List Value)) (made : ShelfCalls) (basis : By) →
    IsServable policy → HasRequest policy t k asker → AreSound t → HasFound number t made → IsRequestOf policy asker → IsQuery policy.schema (kinds_of policy.params) [] query →
    IsGround policy asker effort query basis made → IsAnswer query asker.context asker.tables.rows rows → IsCompliant t k query rows

-- a text reads as a query that is checked
abbrev pub ReadingIsChecked : Type 0
ReadingIsChecked = (policy : Policy) (text : List ℕ) (query : Query) → Reads policy text query → IsQuery policy.schema (kinds_of policy.params) [] query

pub record Laws : Type 0 where
  pub begins : BeginAgrees
  pub asks : AskAgrees
  pub read_agrees : ReadAgrees
  pub ends : EndAgrees
  pub found : FoundIsAdmitted
  pub complies : AnswersComply
  pub reads : ReadingIsChecked
  pub strong : StrongComplies

-- ---- states

-- the states have the same policy, versions and templates
pub record Same (t u : State) : Type 0 where
  pub policy_is : u.policy ≡ t.policy
  pub versions_are : u.versions ≡ t.versions
  pub templates_are : u.templates ≡ t.templates

pub same_itself : (t : State) → Same t t
same_itself t = record { policy_is = refl; versions_are = refl; templates_are = refl }

same_by : (t u : State) → u ≡ record t { requests = u.requests; log = u.log } → Same t u
same_by t u is = record { policy_is = ap (λ (z : State). z.policy) is; versions_are = ap (λ (z : State). z.versions) is; templates_are = ap (λ (z : State). z.templates) is }

with_log : (t u : State) → u ≡ record t { requests = u.requests } → u ≡ record t { requests = u.requests; log = u.log }
with_log t u is = is ∙ ap (λ log. record t { requests = u.requests; log = log }) (sym (ap (λ (z : State). z.log) is))

keeps_by : (input : Input) (chosen : ℕ → Bool) (t u : State) → Same t u → Keeps input chosen t u
keeps_by input chosen t u same = record { policy_is = same.policy_is; versions = λ n tables e. ap (λ z. slice_get z n) same.versions_are ∙ e }

-- ---- requests that may ask

-- tables that are of the policy's schema and conform to it
pub record AreTables (policy : Policy) (tables : TableSet) : Type 0 where
  pub schema : tables.schema ≡ policy.schema
  pub conforms : Conforms policy.schema tables.rows

may_answer : (policy : Policy) (asker : Request) (query : Query) (rows : List (List Value)) (basis : By) → IsRequestOf policy asker → IsQuery policy.schema (kinds_of policy.params) [] query →
    IsAnswer query asker.context asker.tables.rows rows → IsRequestOf policy (after asker (Answer query rows basis))
may_answer policy asker query rows basis may checked answer =
    let entry : TraceEntry = record { query = query; rows = rows } in
    record {
      context = may.context;
      schema = may.schema;
      conforms = may.conforms;
      queries = All-push (λ (entry : TraceEntry). IsQuery policy.schema (kinds_of policy.params) [] entry.query) asker.trace entry may.queries checked;
      recorded = record { entries = All-push (λ (entry : TraceEntry). IsAnswer entry.query asker.context asker.tables.rows entry.rows) asker.trace entry may.recorded.entries answer };
    }

abbrev pub entry_in : LineDone → Entry
entry_in it = it.entry

trace_same : (k : ℕ) (its : List LineDone) → trace_of k its ≡ trace_in k (map entry_in its)
trace_same k [] = refl
trace_same k (x ∷ xs) = ap (λ z. answer_of k x.entry ++ z) (trace_same k xs)

-- what the entry of a question is to the machine
event_asked : (number : ℕ → ℕ → ℕ) (input : Input) (journal : Journal) (past : List Entry) (r version : ℕ) (it : Reply) →
    event_of number input journal past (asked r version it) ≡ event_in number input.policy r (standing input journal past r version) it
event_asked number input journal past r version (Answer query rows basis) = refl
event_asked number input journal past r version (Blocked query why) = refl
event_asked number input journal past r version (Unread fault) = refl
event_asked number input journal past r version reply.NoMemory = refl

reply_asked : (r version : ℕ) (it : Reply) → reply_of (asked r version it) ≡ told_in it
reply_asked r version (Answer query rows basis) = refl
reply_asked r version (Blocked query why) = refl
reply_asked r version (Unread fault) = refl
reply_asked r version reply.NoMemory = refl

event_read : (number : ℕ → ℕ → ℕ) (input : Input) (journal : Journal) (past : List Entry) (r version key : ℕ) (it : KeyReply) →
    event_of number input journal past (read_as r version key it) ≡ read_in number input.policy r (standing input journal past r version) it
event_read number input journal past r version key (key_reply.Allowed queries by) = refl
event_read number input journal past r version key (key_reply.Blocked queries before why) = refl
event_read number input journal past r version key key_reply.NoMemory = refl

reply_read : (r version key : ℕ) (it : KeyReply) → reply_of (read_as r version key it) ≡ told_of_read it
reply_read r version key (key_reply.Allowed queries by) = refl
reply_read r version key (key_reply.Blocked queries before why) = refl
reply_read r version key key_reply.NoMemory = refl

said_ask : (r k : ℕ) (name text other : List ℕ) (context : Context) → said.Ask r name text ≡ said.Begin k other context → ⊥
said_ask r k name text other context e = cc

said_end : (r k : ℕ) (name other : List ℕ) (context : Context) → said.End r name ≡ said.Begin k other context → ⊥
said_end r k name other context e = cc

version_of : {r v k w : ℕ} {a b : TableSet} → begins r v a ≡ begins k w b → v ≡ w
version_of {r} {v} {k} {w} e = let at : Begin r v ≡ Begin k w = ap (λ (z : LineDone). z.entry) e in cc

abbrev pinned_tables : TableSet → List VersionCall → TableSet
pinned_tables other [] = other
pinned_tables other (call.Publish told n ∷ made) = other
pinned_tables other (call.Pin n told ∷ made) = told.value
pinned_tables other (call.Refused ∷ made) = other

tables_of : {r v k w : ℕ} {a b : TableSet} → begins r v a ≡ begins k w b → a ≡ b
tables_of {a = a} e = ap (λ (z : LineDone). pinned_tables a z.made.versions) e

module _ (laws : Laws) (number : ℕ → ℕ → ℕ) (input : Input) (journal : Journal) (chosen : ℕ → Bool)
    (script : IsScript input.policy.params input.policy.keys input.script) (checked : IsServable input.policy) where
  module _ (before rest : List ScriptEntry) (earlier : List LineDone) (it : LineDone) (t : State)
      (policy_is : t.policy ≡ input.policy) (b : Between input chosen t before earlier) where
    -- the state after the line
    pub record Comes (line : ScriptEntry) (u : State) : Type 0 where
      pub same : Same t u
      pub between : Between input chosen u (before ++ line ∷ []) (earlier ++ it ∷ [])

    module _ (line : ScriptEntry) (are : input.script.entries ≡ before ++ line ∷ rest) (u : State) (same : Same t u) where
      -- the line is of no request, or tells it nothing
      pub quiet_all : ((k : ℕ) → opened_at u k ≡ opened_at t k) → ((k : ℕ) → IsQuiet k it) → Comes line u
      quiet_all opened quiet = record {
        same = same;
        between = goes_on input chosen script.numbered before rest line earlier it t u are b (keeps_by input chosen t u same)
            (λ k version tables e. absurd ((quiet k).no_begin version tables e))
            (λ k past. (quiet k).no_answer)
            (λ k past. opened k)
            (λ k asker chooses is_open asks. kept input chosen script.numbered before rest line earlier it t u are b (keeps_by input chosen t u same) k asker chooses is_open asks (quiet k) (opened k));
      }

      -- the line is of this request alone
      of_one : (r : ℕ) → r < length (contexts_of (before ++ line ∷ [])) → ((k : ℕ) → k ≢ r → opened_at u k ≡ opened_at t k) → ((k : ℕ) → k ≢ r → IsQuiet k it) →
          ((asker : Request) → chosen r ≡ true → IsOpenAfter (before ++ line ∷ []) r → IsRequest input (earlier ++ it ∷ []) r asker → Stands input u r asker) → Comes line u
      of_one r below opened quiet stands = record {
        same = same;
        between = goes_on input chosen script.numbered before rest line earlier it t u are b (keeps_by input chosen t u same)
            (λ k version tables e. counted k version tables e (eqb_tells k r))
            (λ k past. (quiet k (apart k past)).no_answer)
            (λ k past. opened k (apart k past))
            (λ k asker chooses is_open asks. standing k asker chooses is_open asks (eqb_tells k r));
      }
        where
          apart : (k : ℕ) → length (contexts_of (before ++ line ∷ [])) ≤ k → k ≢ r
          apart k past e = omega (arith, below, past, e)

          counted : (k version : ℕ) (tables : TableSet) → it ≡ begins k version tables → (((k == r) ≡ true) × (k ≡ r)) ⊎ (((k == r) ≡ false) × (k ≢ r)) →
              k < length (contexts_of (before ++ line ∷ []))
          counted k version tables e (inl here) = let e = here.1 in omega (arith, below, e)
          counted k version tables e (inr other) = absurd ((quiet k other.1).no_begin version tables e)

          standing : (k : ℕ) (asker : Request) → chosen k ≡ true → IsOpenAfter (before ++ line ∷ []) k → IsRequest input (earlier ++ it ∷ []) k asker →
              (((k == r) ≡ true) × (k ≡ r)) ⊎ (((k == r) ≡ false) × (k ≢ r)) → Stands input u k asker
          standing k asker chooses is_open asks (inr other) =
              kept input chosen script.numbered before rest line earlier it t u are b (keeps_by input chosen t u same) k asker chooses is_open asks (quiet k other.1) (opened k other.1)
          standing k asker chooses is_open asks (inl here) =
              let e = here.1 in
              subst (λ n. Stands input u n asker) (sym e)
              (stands asker (subst (λ n. chosen n ≡ true) e chooses) (subst (IsOpenAfter (before ++ line ∷ [])) e is_open) (subst (λ n. IsRequest input (earlier ++ it ∷ []) n asker) e asks))

    -- ---- begin lines

    module _ (past : List Entry) (r version : ℕ) (name : List ℕ) (context : Context) (tables : TableSet) (are : input.script.entries ≡ before ++ said.Begin r name context ∷ rest)
        (is : it ≡ begins r version tables) (pinned : slice_get t.versions version ≡ Some tables) (good : AreTables input.policy tables) where
      abbrev begun : Request
      begun = record { context = context; version = version; tables = tables; trace = [] }

      at : (r ≡ length (contexts_of before)) × (slice_get (contexts_of input.script.entries) r ≡ Some context)
      at = next_number input.script.entries before rest r name context script.numbered are

      may_begin : IsRequestOf input.policy begun
      may_begin = record {
        context = All-contains (BeginFits input.policy.params) input.script.entries (said.Begin r name context) script.contexts
            (subst (λ z. Contains z (said.Begin r name context)) (sym are) (Contains-append_right before (said.Begin r name context ∷ rest) (said.Begin r name context) (0, omega arith, refl)));
        schema = good.schema;
        conforms = good.conforms;
        queries = All-nil (λ (entry : TraceEntry). IsQuery input.policy.schema (kinds_of input.policy.params) [] entry.query);
        recorded = record { entries = All-nil (λ (entry : TraceEntry). IsAnswer entry.query context tables.rows entry.rows) };
      }

      -- the request after the line is this one
      is_begun : (asker : Request) → IsRequest input (earlier ++ it ∷ []) r asker → begun ≡ asker
      is_begun asker asks = by (Contains-push_cases earlier it (begins r asker.version asker.tables) asks.begun)
        where
          first : r ≡ length (contexts_of before)
          first = at.0

          same_context : context ≡ asker.context
          same_context = same_Some context asker.context (sym at.1 ∙ asks.context)

          none : [] ≡ asker.trace
          none = sym (asks.trace ∙ trace_more r earlier it ∙ (λ i. b.untold r (omega (arith, first)) i ++ answer_of r (is i).entry))

          by : Contains earlier (begins r asker.version asker.tables) ⊎ (it ≡ begins r asker.version asker.tables) → begun ≡ asker
          by (inl among) = let below = b.counted r asker.version asker.tables among in absurd (omega (arith, first, below))
          by (inr e) =
              let same : begins r version tables ≡ begins r asker.version asker.tables = sym is ∙ e in
              let v : version ≡ asker.version = version_of same in
              let ts : tables ≡ asker.tables = tables_of same in
              λ i. record { context = same_context i; version = v i; tables = ts i; trace = none i }

      quiet_others : (k : ℕ) → k ≢ r → IsQuiet k it
      quiet_others k differ = quiet_begin k r version it (ap entry_in is) differ

      grown : r < length (contexts_of (before ++ said.Begin r name context ∷ []))
      grown = let number = at.0 in let more = contexts_more before (said.Begin r name context) in omega (arith, number, more)

      pub begin_passed : chosen r ≡ false → Comes (said.Begin r name context) t
      begin_passed not =
          of_one (said.Begin r name context) are t (same_itself t) r grown (λ k differ. refl) quiet_others
          (λ asker chooses is_open asks. absurd (true≢false (sym chooses ∙ not)))

      pub begin_taken : Takes (Comes (said.Begin r name context)) t (event_of number input journal past (Begin r version)) (reply_of (Begin r version))
      begin_taken =
          let shown : context ≡ (standing input journal past r version).context = sym (get_or_from_slice_get (contexts_of input.script.entries) r context (record { values = [] }) at.1) in
          subst (λ c. Takes (Comes (said.Begin r name context)) t (events.Begin r c version ∷ []) (replies.Begun ∷ [])) shown taken
        where
          number_is : r ≡ length (contexts_of before)
          number_is = at.0

          taken : Takes (Comes (said.Begin r name context)) t (events.Begin r context version ∷ []) (replies.Begun ∷ [])
          taken =
              let told = laws.begins input.policy t r context begun
              (record { is_for = record { policy_is = policy_is; tables_are = pinned }; free = b.unbegun r (omega (arith, number_is)) })
              (record { context_is = refl; trace_is = refl }) in
              record {
                new = told.new;
                step = record { step = told.is_reply.step; compliant = tt };
                only = told.is_reply.only;
                comes_to = λ u step.
                    let same = same_by t u (with_log t u step.rest) in
                    of_one (said.Begin r name context) are u same r grown step.opens.others quiet_others
                    (λ asker chooses is_open asks. subst (Stands input u r) (is_begun asker asks) (record {
                      has = record {
                        is_for = record { policy_is = same.policy_is ∙ policy_is; tables_are = ap (λ z. slice_get z version) same.versions_are ∙ pinned };
                        is_open = step.opens.here;
                      };
                      may = may_begin;
                    }));
              }

    -- the versions of the machine are those of the journal
    abbrev pub AreLeft : Type 0
    AreLeft = (n : ℕ) (tables : TableSet) → slice_get t.versions n ≡ Some tables → slice_get (versions_of journal.histories.versions) n ≡ Some tables

    -- the request of a line is the one of the journal's entries
    shown_as : (past : List Entry) → past ≡ map entry_in earlier → AreLeft → (r : ℕ) (asker : Request) → IsRequest input earlier r asker → Stands input t r asker → asker ≡ standing input journal past r asker.version
    shown_as past past_is upto r asker asks stood =
        let context = sym (get_or_from_slice_get (contexts_of input.script.entries) r asker.context (record { values = [] }) asks.context) in
        let tables = sym (get_or_from_slice_get (versions_of journal.histories.versions) asker.version asker.tables input.tables (upto asker.version asker.tables stood.has.is_for.tables_are)) in
        let trace : asker.trace ≡ trace_in r past = asks.trace ∙ trace_same r earlier ∙ ap (trace_in r) (sym past_is) in
        λ i. record { context = context i; version = asker.version; tables = tables i; trace = trace i }

    -- ---- questions

    module _ (past : List Entry) (past_is : past ≡ map entry_in earlier) (r : ℕ) (name text : List ℕ) (are : input.script.entries ≡ before ++ said.Ask r name text ∷ rest)
        (open_before : IsOpenAfter before r) (h : IsAsk input earlier r text it) where
      abbrev line : ScriptEntry
      line = said.Ask r name text

      entry_is : it.entry ≡ asked r h.asker.version h.reply
      entry_is = ap entry_in h.is

      grown_ask : r < length (contexts_of (before ++ line ∷ []))
      grown_ask =
          let below = has_begun input.script.entries before (line ∷ rest) script.numbered are open_before.name r open_before.asked open_before.is_open in
          let more = contexts_more before line in
          omega (arith, below, more)

      pub ask_passed : chosen r ≡ false → Comes line t
      ask_passed not =
          of_one line are t (same_itself t) r grown_ask (λ k differ. refl) (λ k differ. quiet_ask k r h.asker.version h.reply it entry_is differ)
          (λ asker chooses is_open asks. absurd (true≢false (sym chooses ∙ not)))

      module _ (chooses : chosen r ≡ true) (sound : AreSound t) (found : HasFound number t h.calls) (upto : AreLeft) where
        stood : Stands input t r h.asker
        stood = b.standing r h.asker chooses open_before h.asks

        -- the request is the one of the journal's entries
        shown : h.asker ≡ standing input journal past r h.asker.version
        shown = shown_as past past_is upto r h.asker h.asks stood

        -- the request after the line
        is_after : (asker : Request) → IsRequest input (earlier ++ it ∷ []) r asker → after h.asker h.reply ≡ asker
        is_after asker asks = by (Contains-push_cases earlier it (begins r asker.version asker.tables) asks.begun)
          where
            by : Contains earlier (begins r asker.version asker.tables) ⊎ (it ≡ begins r asker.version asker.tables) → after h.asker h.reply ≡ asker
            by (inr e) = absurd (asked_is_no_begin r h.asker.version h.reply r asker.version (sym entry_is ∙ ap entry_in e))
            by (inl among) =
                let old : Request = record asker { trace = trace_of r earlier } in
                let there = b.standing r old chooses open_before (record { begun = among; context = asks.context; trace = refl }) in
                let same : h.asker ≡ old = same_request input.policy t r h.asker old stood.has there.has in
                let answer : answer_of r it.entry ≡ answer_in h.reply = ap (answer_of r) entry_is ∙ answers_own r h.asker.version h.reply in
                let trace : h.asker.trace ++ answer_in h.reply ≡ asker.trace =
                (λ i. h.asks.trace i ++ sym answer i) ∙ sym (trace_more r earlier it) ∙ sym asks.trace in
                λ i. record { context = (same i).context; version = (same i).version; tables = (same i).tables; trace = trace i }

        answer_taken : (query : Query) (rows : List (List Value)) (basis : By) → h.reply ≡ Answer query rows basis →
            Takes (Comes line) t (event_in number input.policy r h.asker (Answer query rows basis)) (told_in (Answer query rows basis))
        answer_taken query rows basis is =
            let replied : asking.HasAnswer input.policy h.asker (effort_of input) text query rows basis h.calls = subst (Replies input.policy h.asker (effort_of input) text h.calls) is h.replies in
            let told = laws.asks number input.policy t r h.asker (effort_of input) text h.calls (Answer query rows basis) stood.has found replied in
            let checked_query = laws.reads input.policy text query replied.reads in
            record {
              new = told.new;
              step = record {
                step = told.is_reply.step;
                compliant = laws.complies number input.policy t r h.asker (effort_of input) query rows h.calls basis checked stood.has sound found stood.may checked_query replied.ground replied.released.answer;
              };
              only = told.is_reply.only;
              comes_to = λ u step.
                  let recorded : core.IsRecorded t r query rows u = step.recorded in
                  let same = same_by t u recorded.rest in
                  let opened : recorded.asker ≡ opened_of h.asker = same_Some recorded.asker (opened_of h.asker) (sym recorded.is_open ∙ stood.has.is_open) in
                  let now : Stands input u r (after h.asker (Answer query rows basis)) = record {
                    has = record {
                      is_for = record { policy_is = same.policy_is ∙ policy_is; tables_are = ap (λ z. slice_get z h.asker.version) same.versions_are ∙ stood.has.is_for.tables_are };
                      is_open = recorded.trace.here ∙ ap (λ (a : Opened). Some (record a { trace = a.trace ++ record { query = query; rows = rows } ∷ [] })) opened;
                    };
                    may = may_answer input.policy h.asker query rows basis stood.may checked_query replied.released.answer;
                  } in
                  of_one line are u same r grown_ask recorded.trace.others (λ k differ. quiet_ask k r h.asker.version h.reply it entry_is differ)
                  (λ asker picks is_open asks. subst (Stands input u r) (ap (after h.asker) (sym is) ∙ is_after asker asks) now);
            }

        quiet_taken : (u : State) → u ≡ t → answer_in h.reply ≡ [] → Comes line u
        quiet_taken u same none =
            subst (Comes line) (sym same) (quiet_all line are t (same_itself t) (λ k. refl) (λ k. quiet_reply k r h.asker.version h.reply it entry_is none))

        reply_taken : (it : Reply) → h.reply ≡ it → Takes (Comes line) t (event_in number input.policy r h.asker it) (told_in it)
        reply_taken (Answer query rows basis) is = answer_taken query rows basis is
        reply_taken (Blocked query why) is =
            let told = laws.asks number input.policy t r h.asker (effort_of input) text h.calls (Blocked query why) stood.has found (subst (Replies input.policy h.asker (effort_of input) text h.calls) is h.replies) in
            record {
              new = told.new;
              step = record { step = told.is_reply.step; compliant = tt };
              only = told.is_reply.only;
              comes_to = λ u step. quiet_taken u step.1 (ap answer_in is);
            }
        reply_taken (Unread fault) is = quiet_taken t refl (ap answer_in is)
        reply_taken reply.NoMemory is = quiet_taken t refl (ap answer_in is)

        pub ask_taken : Takes (Comes line) t (event_of number input journal past (asked r h.asker.version h.reply)) (reply_of (asked r h.asker.version h.reply))
        ask_taken =
            let asks = event_in number input.policy r (standing input journal past r h.asker.version) h.reply in
            let taken : Takes (Comes line) t asks (told_in h.reply) = subst (λ a. Takes (Comes line) t (event_in number input.policy r a h.reply) (told_in h.reply)) shown (reply_taken h.reply refl) in
            subst (λ es. Takes (Comes line) t es (reply_of (asked r h.asker.version h.reply))) (sym (event_asked number input journal past r h.asker.version h.reply))
            (subst (Takes (Comes line) t asks) (sym (reply_asked r h.asker.version h.reply)) taken)

    -- ---- reads

    module _ (past : List Entry) (past_is : past ≡ map entry_in earlier) (r : ℕ) (name : List ℕ) (key : ℕ) (args : Context) (qs : ℕ) (are : input.script.entries ≡ before ++ said.Read r name key args qs ∷ rest)
        (h : IsRead input earlier r key args it) where
      abbrev read_line : ScriptEntry
      read_line = said.Read r name key args qs

      read_entry : it.entry ≡ read_as r h.asker.version key h.reply
      read_entry = ap entry_in h.is

      -- a read changes nothing
      pub read_passed : Comes read_line t
      read_passed = quiet_all read_line are t (same_itself t) (λ k. refl) (λ k. quiet_read k r h.asker.version key h.reply it read_entry)

      read_after : (u : State) → u ≡ t → Comes read_line u
      read_after u same = subst (Comes read_line) (sym same) read_passed

      module _ (open_before : IsOpenAfter before r) (chooses : chosen r ≡ true) (found : All (HasFound number t) h.calls) (upto : AreLeft) where
        stood_there : Stands input t r h.asker
        stood_there = b.standing r h.asker chooses open_before h.asks

        abbrev queries_read : List Query
        queries_read = key_queries input.policy h.key args

        read_reply : (reply : KeyReply) → h.reply ≡ reply → Takes (Comes read_line) t (read_in number input.policy r h.asker reply) (told_of_read reply)
        read_reply (key_reply.Allowed queries by) is =
            let replied : KeyReads input.policy h.asker (effort_of input) queries_read h.calls (key_reply.Allowed queries by) = subst (KeyReads input.policy h.asker (effort_of input) queries_read h.calls) is h.reads in
            let told = laws.read_agrees number input.policy t r h.asker (effort_of input) queries_read h.calls (key_reply.Allowed queries by) stood_there.has found replied in
            let strong = subst (All (asking.IsCompliant input.policy h.asker)) (sym replied.0) (grounds_comply input.policy h.asker (effort_of input) queries_read by h.calls replied.1) in
            record {
              new = told.new;
              step = record { step = told.is_reply.step; compliant = read_complies laws.strong input.policy t r h.asker queries stood_there.has stood_there.may strong };
              only = told.is_reply.only;
              comes_to = λ u step. read_after u step.1;
            }
        read_reply (key_reply.Blocked queries before_it why) is =
            let replied : KeyReads input.policy h.asker (effort_of input) queries_read h.calls (key_reply.Blocked queries before_it why) = subst (KeyReads input.policy h.asker (effort_of input) queries_read h.calls) is h.reads in
            let told = barred_alone number input.policy t r h.asker queries before_it why
            (laws.read_agrees number input.policy t r h.asker (effort_of input) queries_read h.calls (key_reply.Blocked queries before_it why) stood_there.has found replied) in
            record {
              new = told.new;
              step = record { step = told.is_reply.step; compliant = tt };
              only = told.is_reply.only;
              comes_to = λ u step. read_after u step.1;
            }
        read_reply key_reply.NoMemory is = read_passed

        pub read_taken : Takes (Comes read_line) t (event_of number input journal past (read_as r h.asker.version key h.reply)) (reply_of (read_as r h.asker.version key h.reply))
        read_taken =
            let shown = shown_as past past_is upto r h.asker h.asks stood_there in
            let reads = read_in number input.policy r (standing input journal past r h.asker.version) h.reply in
            let taken : Takes (Comes read_line) t reads (told_of_read h.reply) = subst (λ a. Takes (Comes read_line) t (read_in number input.policy r a h.reply) (told_of_read h.reply)) shown (read_reply h.reply refl) in
            subst (λ es. Takes (Comes read_line) t es (reply_of (read_as r h.asker.version key h.reply))) (sym (event_read number input journal past r h.asker.version key h.reply))
            (subst (Takes (Comes read_line) t reads) (sym (reply_read r h.asker.version key h.reply)) taken)

    -- ---- ends

    module _ (past : List Entry) (r : ℕ) (name : List ℕ) (asks : ℕ) (are : input.script.entries ≡ before ++ said.End r name ∷ rest) (is_open : IsOpen before name r asks) (version : ℕ) (is : it.entry ≡ End r version) where
      pub end_passed : Comes (said.End r name) t
      end_passed = quiet_all (said.End r name) are t (same_itself t) (λ k. refl) (λ k. quiet_end k r version it is)

      -- the request isn't open behind its end
      closed : IsOpenAfter (before ++ said.End r name ∷ []) r → ⊥
      closed after_it = by (opened_before before (said.End r name) r after_it)
        where
          by : Opens (said.End r name) r ⊎ WasOpen before (said.End r name) r → ⊥
          by (inl opens) = said_end r r name opens.name opens.context opens.is
          by (inr was) =
              let same = one_name input.script.entries before (said.End r name ∷ rest) script.numbered are name was.name r asks was.asked is_open was.was in
              not_apart name (subst (λ z. bytes_eq name z ≡ false) (sym same) was.leaves)

      module _ (tables : TableSet) (chooses : chosen r ≡ true) (begun : Contains earlier (begins r version tables)) where
        pub end_taken : Takes (Comes (said.End r name)) t (event_of number input journal past (End r version)) (reply_of (End r version))
        end_taken =
            let asker : Request = record { context = is_open.context; version = version; tables = tables; trace = trace_of r earlier } in
            let stood = b.standing r asker chooses (record { name = name; asked = asks; is_open = is_open })
            (record { begun = begun; context = has_context input.script.entries before (said.End r name ∷ rest) script.numbered are name r asks is_open; trace = refl }) in
            let told = laws.ends input.policy t r asker asker.trace stood.has refl in
            let below = has_begun input.script.entries before (said.End r name ∷ rest) script.numbered are name r asks is_open in
            let more = contexts_more before (said.End r name) in
            record {
              new = told.new;
              step = record { step = told.is_reply.step; compliant = tt };
              only = told.is_reply.only;
              comes_to = λ u step.
                  of_one (said.End r name) are u (same_by t u (with_log t u step.rest)) r (omega (arith, below, more)) step.closes.others (λ k differ. quiet_end k r version it is)
                  (λ asker picks open_after asks. absurd (closed open_after));
            }
