-- The events of a whole request are a run of the machine.
use mathlib.Core.List.{map-append}
use Rattle.std.proofs.Common.{◌≡◌, ◌≢◌, ◌∙◌, ℕ, Bool, true, false, List, [], ◌∷◌, ◌++◌, All, None, Some, ap, append-nil, append_assoc, eqb, flat_map, inl, inr, refl, slice_get, subst, subst₂, sym, ◌⊎◌}
use Rattle.std.proofs.lemmas.Bool.Decides.{eqb_tells}
use Rattle.std.proofs.lemmas.List.Elements.{All-head, All-tail, All-weaker}
use Rattle.std.proofs.lemmas.Option.{same_Some}
use Rattle.ba_machine_laws.proofs.AgreeLemmas.{admitted, ask_agrees, barred_alone, begin_agrees, end_agrees, read_agrees, read_complies}
use Rattle.ba_machine_laws.proofs.FitLemmas.{question_fits}
use Rattle.ba_machine_laws.proofs.KeyLemmas.{one_list}
use Rattle.ba_machine_laws.specs.Agreeing.{AgreesOn, AgreesOnRead, AreRising, CanBegin, HasFound, HasRequest, IsToldBy, after, ground_of, grounds_of, judged, judged_grounds, opened_of}
use Rattle.ba_machine_laws.specs.Whole.{AllFound, AreSound, AreTold, Demand, RequestIsARun, asks, demands_of, event_in, events_of, logged, read_in, reads, replies_of, told_by, told_in, told_of_read}
use Rattle.ba_comply.specs.Comply.{Complies, Strong, StrongComplies}
use Rattle.ba_comply.specs.declared.trace.TraceEntry.{TraceEntry}
use Rattle.ba_core.specs.Runs.{IsCompliant, IsStep, RepliesCompliantly, Runs, start, next}
use Rattle.ba_core.specs.State.{State, opened_at}
use Rattle.ba_core.specs.Steps as steps
use Rattle.ba_core.specs.Steps.{Steps}
use Rattle.ba_core.specs.declared.event.Asked.TheVariants as asked
use Rattle.ba_core.specs.declared.event.CoreReply.{CoreReply}
use Rattle.ba_core.specs.declared.event.CoreReply.TheVariants as replies
use Rattle.ba_core.specs.declared.event.Event.{Event}
use Rattle.ba_core.specs.declared.event.Event.TheVariants as events
use Rattle.ba_core.specs.declared.event.Ground.{Ground}
use Rattle.ba_core.specs.declared.event.Ground.TheVariants as grounds
use Rattle.ba_core.specs.declared.opened.Answered.{Answered}
use Rattle.ba_core.specs.declared.opened.Opened.{Opened}
use Rattle.ba_direct.specs.Cover.{CoverCovers, CoveredIsStrong}
use Rattle.ba_settle.proofs.SettledLemmas.{proof_closes}
use Rattle.ba_kernel.proofs.StepFits.{All-at}
use Rattle.ba_kernel.specs.Asked.{AnswersAreRecords, QuestionFits, QuestionIsProblem}
use Rattle.ba_kernel.specs.Courses.{ClosedIsStrong, Slots}
use Rattle.ba_kernel.specs.Courses as courses
use Rattle.ba_kernel.specs.Problems.{ProblemIsQuestion, StrongAll}
use Rattle.ba_kernel.specs.SearchStates.{Proof}
use Rattle.ba_kernel.specs.declared.problem.Problem.{Problem}
use Rattle.ba_kernel.specs.declared.step.Step.{Step}
use Rattle.ba_lanes.proofs.IdealLemmas.{grounds_comply}
use Rattle.ba_model.specs.Conform.{Conforms}
use Rattle.ba_model.specs.Fit.{IsQuery, kinds_of}
use Rattle.ba_model.specs.Meaning.{AnswerIsUnique, IsAnswer}
use Rattle.ba_model.specs.declared.policy.Context.{Context}
use Rattle.ba_model.specs.declared.policy.Policy.{Policy}
use Rattle.ba_model.specs.declared.query.Query.{Query}
use Rattle.ba_model.specs.declared.value.Value.{Value}
use Rattle.ba_session.specs.Asking.{IsRequestOf, IsBegun, IsServable, IsGround, Replies, question}
use Rattle.ba_session.specs.Asking as asking
use Rattle.ba_session.specs.KeyReads.{KeyReads}
use Rattle.ba_session.specs.Passing.{ShelfCalls}
use Rattle.ba_session.specs.declared.reply.By.{By}
use Rattle.ba_session.specs.declared.reply.By.TheVariants as by
use Rattle.ba_session.specs.declared.reply.KeyReply.{KeyReply}
use Rattle.ba_session.specs.declared.reply.KeyReply.TheVariants as key_reply
use Rattle.ba_session.specs.declared.reply.Reply.{Reply}
use Rattle.ba_session.specs.declared.reply.Reply.TheVariants.{Answer, Blocked, Unread, NoMemory}
use Rattle.ba_session.specs.declared.request.Request.{Request}
use Rattle.ba_settle.specs.Settling.{Effort}
use Rattle.ba_template.specs.Found.{MatchedIsStrong}

-- the laws of the crates below on which it rests
pub record Laws : Type 0 where
  pub unique : AnswerIsUnique
  pub records : AnswersAreRecords
  pub closed : ClosedIsStrong
  pub covers : CoverCovers
  pub covered : CoveredIsStrong
  pub matched : MatchedIsStrong
  pub problem : ProblemIsQuestion
  pub question : QuestionIsProblem
  pub complies : StrongComplies

-- ---- an answer is compliant

-- what holds of all holds of the last one
of_last : {X : Type 0} (P : X → Type 0) (xs : List X) (y : X) → All P (xs ++ y ∷ []) → P y
of_last P [] y all = All-head P y [] all
of_last P (x ∷ xs) y all = of_last P xs y (All-tail P x (xs ++ y ∷ []) all)

module _ (laws : Laws) (number : ℕ → ℕ → ℕ) (policy : Policy) (checked : IsServable policy) where
  -- a query that was answered was checked
  asked_query : (asker : Request) (query : Query) (rows : List (List Value)) (basis : By) → IsRequestOf policy (after asker (Answer query rows basis)) →
      IsQuery policy.schema (kinds_of policy.params) [] query
  asked_query asker query rows basis later =
      of_last (λ (entry : TraceEntry). IsQuery policy.schema (kinds_of policy.params) [] entry.query) asker.trace (record { query = query; rows = rows }) later.queries

  strong_by : (t : State) (asker : Request) (effort : Effort) (query : Query) (made : ShelfCalls) (basis : By) → AreSound t → HasFound number t made → IsRequestOf policy asker →
      IsQuery policy.schema (kinds_of policy.params) [] query → IsGround policy asker effort query basis made → Strong policy asker.context asker.trace query
  strong_by t asker effort query made (by.Cover cover) sound found may checked_query ground =
      laws.covered policy asker.context asker.trace query checked.fits may.context (laws.covers policy asker.context query cover ground.0)
  strong_by t asker effort query made (by.Template shard id template it) sound found may checked_query ground =
      let there = admitted number policy t asker query shard id template it made found ground in
      laws.matched template.problem policy asker.context asker.trace query it
      (All-at (λ (it : Proof). StrongAll it.problem) t.templates (number shard id) template sound there) may.context ground.first.first.is_match
  strong_by t asker effort query made (by.Proof steps keeping) sound found may checked_query ground =
      let fits : QuestionFits policy asker.context asker.trace query = question_fits laws.records policy asker query checked may checked_query in
      let p = question policy asker query in
      let left = proof_closes effort p (record { problem = p; steps = steps }) ground.proof in
      laws.problem policy asker.context asker.trace query may.context
      (laws.closed p steps left.0 (laws.question policy asker.context asker.trace query fits) left.1 left.2)

  -- its answer is compliant on a machine that has the request
  compliant : (t : State) (k : ℕ) (asker : Request) (effort : Effort) (query : Query) (rows : List (List Value)) (made : ShelfCalls) (basis : By) → HasRequest policy t k asker → AreSound t →
      HasFound number t made → IsRequestOf policy asker → IsRequestOf policy (after asker (Answer query rows basis)) → IsGround policy asker effort query basis made →
      IsAnswer query asker.context asker.tables.rows rows → IsCompliant t k query rows
  compliant t k asker effort query rows made basis has sound found may later ground answer =
      let strong = strong_by t asker effort query made basis sound found may (asked_query asker query rows basis later) ground in
      record {
        asker = opened_of asker;
        is_open = has.is_open;
        tables = asker.tables;
        pinned = has.is_for.tables_are;
        conforms = subst (λ (p : Policy). Conforms p.schema asker.tables.rows) (sym has.is_for.policy_is) may.conforms;
        recorded = may.recorded;
        answer = answer;
        complies = subst (λ (p : Policy). Complies p asker.context asker.trace query) (sym has.is_for.policy_is) (laws.complies policy asker.context asker.trace query strong);
      }

-- ---- between two events

-- The machine has the request as it stands; every other request, and all else, is as it was at first, but for the request's answers at the end of the log.
record Between (policy : Policy) (s : State) (k : ℕ) (asker : Request) (t : State) : Type 0 where
  has : HasRequest policy t k asker
  others : (j : ℕ) → j ≢ k → opened_at t j ≡ opened_at s j
  rest : t ≡ record s { requests = t.requests; log = s.log ++ logged k asker.trace }

abbrev entry_of : ℕ → TraceEntry → Answered
entry_of k entry = record { request = k; query = entry.query; rows = entry.rows }

module _ (policy : Policy) (s : State) (k : ℕ) where
  between_begun : (context : Context) (asker : Request) (new : State) → CanBegin policy s k asker → IsBegun context asker → steps.IsBegun s k context asker.version new →
      Between policy s k asker new
  between_begun context asker new can begun step =
      let opened_same : Some (record { context = context; version = asker.version; trace = [] }) ≡ Some (opened_of asker) =
      λ i. Some (record { context = sym begun.context_is i; version = asker.version; trace = sym begun.trace_is i }) in
      let log_same : s.log ≡ s.log ++ logged k asker.trace = sym (append-nil s.log) ∙ ap (λ trace. s.log ++ logged k trace) (sym begun.trace_is) in
      record {
        has = record {
          is_for = record {
            policy_is = ap (λ (z : State). z.policy) step.rest ∙ can.is_for.policy_is;
            tables_are = ap (λ (z : State). slice_get z.versions asker.version) step.rest ∙ can.is_for.tables_are;
          };
          is_open = step.opens.here ∙ opened_same;
        };
        others = step.opens.others;
        rest = step.rest ∙ ap (λ log. record s { requests = new.requests; log = log }) log_same;
      }

  module _ (asker : Request) (t : State) (it : Between policy s k asker t) where
    templates_same : t.templates ≡ s.templates
    templates_same = ap (λ (z : State). z.templates) it.rest

    sound_between : AreSound s → AreSound t
    sound_between sound = subst (λ ts. All (λ (template : Proof). StrongAll template.problem) ts) (sym templates_same) sound

    found_between : (number : ℕ → ℕ → ℕ) (made : ShelfCalls) → HasFound number s made → HasFound number t made
    found_between number made found = record {
      each = λ query its one looked among. ap (λ ts. slice_get ts (number made.shard one.id)) templates_same ∙ found.each query its one looked among;
    }

    -- nothing was added to the trace
    between_same : Between policy s k (record asker { trace = asker.trace ++ [] }) t
    between_same = record {
      has = record {
        is_for = record { policy_is = it.has.is_for.policy_is; tables_are = it.has.is_for.tables_are };
        is_open = it.has.is_open ∙ ap (λ trace. Some (record { context = asker.context; version = asker.version; trace = trace })) (sym (append-nil asker.trace));
      };
      others = it.others;
      rest = it.rest ∙ ap (λ trace. record s { requests = t.requests; log = s.log ++ logged k trace }) (sym (append-nil asker.trace));
    }

    between_blocked : (new : State) → new ≡ t → Between policy s k (record asker { trace = asker.trace ++ [] }) new
    between_blocked new same = subst (Between policy s k (record asker { trace = asker.trace ++ [] })) (sym same) between_same

    between_answered : (query : Query) (why : Ground) (rows : List (List Value)) (basis : By) (new : State) → steps.AnswersAsk t k query why rows new →
        Between policy s k (after asker (Answer query rows basis)) new
    between_answered query why rows basis new step =
        let recorded = step.recorded in
        let entry : TraceEntry = record { query = query; rows = rows } in
        let same : recorded.asker ≡ opened_of asker = same_Some recorded.asker (opened_of asker) (sym recorded.is_open ∙ it.has.is_open) in
        let was : t.log ≡ s.log ++ logged k asker.trace = ap (λ (z : State). z.log) it.rest in
        let log_is : new.log ≡ s.log ++ logged k (asker.trace ++ entry ∷ []) =
        recorded.log
        ∙ ap (λ log. log ++ entry_of k entry ∷ []) was
        ∙ append_assoc s.log (logged k asker.trace) (entry_of k entry ∷ [])
        ∙ ap (λ more. s.log ++ more) (sym (map-append (entry_of k) asker.trace (entry ∷ []))) in
        record {
          has = record {
            is_for = record {
              policy_is = ap (λ (z : State). z.policy) recorded.rest ∙ it.has.is_for.policy_is;
              tables_are = ap (λ (z : State). slice_get z.versions asker.version) recorded.rest ∙ it.has.is_for.tables_are;
            };
            is_open = recorded.trace.here ∙ ap (λ (a : Opened). Some (record a { trace = a.trace ++ entry ∷ [] })) same;
          };
          others = λ j apart. recorded.trace.others j apart ∙ it.others j apart;
          rest = recorded.rest ∙ ap (λ (z : State). record z { requests = new.requests; log = new.log }) it.rest ∙ ap (λ log. record s { requests = new.requests; log = log }) log_is;
        }

    ended_at : (new : State) → steps.IsEnded t k new → opened_at s k ≡ None → (q : ℕ) → ((eqb q k ≡ true) × (q ≡ k)) ⊎ ((eqb q k ≡ false) × (q ≢ k)) → opened_at new q ≡ opened_at s q
    ended_at new step free q (inl same) = ap (opened_at new) same.1 ∙ step.closes.here ∙ sym free ∙ ap (opened_at s) (sym same.1)
    ended_at new step free q (inr apart) = step.closes.others q apart.1 ∙ it.others q apart.1

    between_ended : (new : State) → steps.IsEnded t k new → opened_at s k ≡ None → AreRising s → AreRising new → new ≡ record s { log = s.log ++ logged k asker.trace }
    between_ended new step free rising rises =
        let requests_same : new.requests ≡ s.requests = one_list new.requests s.requests rises rising (λ q. ended_at new step free q (eqb_tells q k)) in
        step.rest
        ∙ ap (λ (z : State). record z { requests = new.requests }) it.rest
        ∙ ap (λ requests. record s { requests = requests; log = s.log ++ logged k asker.trace }) requests_same

first_may : (policy : Policy) (asker last : Request) (demands : List Demand) → AreTold policy asker demands last → IsRequestOf policy asker
first_may policy asker last [] told = told.0
first_may policy asker last (asks it ∷ others) told = told.0
first_may policy asker last (reads it ∷ others) told = told.0

-- ---- the run

-- a run to a state between two events
record Reaches (policy : Policy) (s : State) (k : ℕ) (asker : Request) (es : List Event) (rs : List CoreReply) : Type 0 where
  at : State
  runs : Runs s es rs at
  rises : AreRising at
  between : Between policy s k asker at

module _ (laws : Laws) (number : ℕ → ℕ → ℕ) (policy : Policy) (checked : IsServable policy) (s : State) (k : ℕ) (sound : AreSound s) where
  module _ (asker : Request) (es : List Event) (rs : List CoreReply) (so_far : Reaches policy s k asker es rs) (effort : Effort) (text : List ℕ) (made : ShelfCalls) (found : HasFound number s made)
      (may : IsRequestOf policy asker) where
    answer_on : (query : Query) (rows : List (List Value)) (basis : By) → Replies policy asker effort text made (Answer query rows basis) → IsRequestOf policy (after asker (Answer query rows basis)) →
        AgreesOn number policy so_far.at k asker (Answer query rows basis) →
        Reaches policy s k (after asker (Answer query rows basis)) (es ++ event_in number policy k asker (Answer query rows basis)) (rs ++ told_in (Answer query rows basis))
    answer_on query rows basis h later told =
        let t = so_far.at in
        let why = ground_of number policy asker query basis in
        let step : IsStep t (events.Ask k query why) (replies.Asked (asked.Answer rows)) told.new = record {
          step = told.is_reply.step;
          compliant = compliant laws number policy checked t k asker effort query rows made basis so_far.between.has (sound_between policy s k asker t so_far.between sound)
              (found_between policy s k asker t so_far.between number made found) may later h.ground h.released.answer;
        } in
        record {
          at = told.new;
          runs = next so_far.runs step;
          rises = told.is_reply.rising so_far.rises;
          between = between_answered policy s k asker t so_far.between query why rows basis told.new told.is_reply.step;
        }

    same_on : Reaches policy s k (record asker { trace = asker.trace ++ [] }) (es ++ []) (rs ++ [])
    same_on = record {
      at = so_far.at;
      runs = subst₂ (λ xs ys. Runs s xs ys so_far.at) (sym (append-nil es)) (sym (append-nil rs)) so_far.runs;
      rises = so_far.rises;
      between = between_same policy s k asker so_far.at so_far.between;
    }

    reply_on : (reply : Reply) → Replies policy asker effort text made reply → IsRequestOf policy (after asker reply) → AgreesOn number policy so_far.at k asker reply →
        Reaches policy s k (after asker reply) (es ++ event_in number policy k asker reply) (rs ++ told_in reply)
    reply_on (Answer query rows basis) h later agrees = answer_on query rows basis h later agrees
    reply_on (Blocked query why) h later agrees =
        let step : IsStep so_far.at (events.Ask k query grounds.Refuse) (replies.Asked asked.Blocked) agrees.new = record { step = agrees.is_reply.step; compliant = tt } in
        record {
          at = agrees.new;
          runs = next so_far.runs step;
          rises = agrees.is_reply.rising so_far.rises;
          between = between_blocked policy s k asker so_far.at so_far.between agrees.new agrees.is_reply.step.1;
        }
    reply_on (Unread fault) h later agrees = same_on
    reply_on NoMemory h later agrees = same_on

  -- a read leaves the machine as it is
  module _ (asker : Request) (es : List Event) (rs : List CoreReply) (so_far : Reaches policy s k asker es rs) (effort : Effort) (queries : List Query) (made : List ShelfCalls) (may : IsRequestOf policy asker) where
    read_on_by : (event : Event) (allowed : Bool) (told : IsToldBy policy so_far.at k event (replies.Read allowed) asker) → RepliesCompliantly so_far.at event (replies.Read allowed) → told.new ≡ so_far.at →
        Reaches policy s k asker (es ++ event ∷ []) (rs ++ replies.Read allowed ∷ [])
    read_on_by event allowed told compliant stays = record {
      at = told.new;
      runs = next so_far.runs (record { step = told.is_reply.step; compliant = compliant });
      rises = told.is_reply.rising so_far.rises;
      between = subst (Between policy s k asker) (sym stays) so_far.between;
    }

    read_on : (reply : KeyReply) → KeyReads policy asker effort queries made reply → AgreesOnRead number policy so_far.at k asker reply →
        Reaches policy s k asker (es ++ read_in number policy k asker reply) (rs ++ told_of_read reply)
    read_on (key_reply.Allowed its bases) h agrees =
        let strong = subst (All (asking.IsCompliant policy asker)) (sym h.0) (grounds_comply policy asker effort queries bases made h.1) in
        read_on_by (events.Read k its (grounds_of number policy asker its bases)) true agrees (read_complies laws.complies policy so_far.at k asker its so_far.between.has may strong) agrees.is_reply.step.1
    read_on (key_reply.Blocked its before why) h agrees =
        let told = barred_alone number policy so_far.at k asker its before why agrees in
        read_on_by (events.Read k (judged its before) (judged_grounds number policy asker its before)) false told tt told.is_reply.step.1
    read_on key_reply.NoMemory h agrees = record {
      at = so_far.at;
      runs = subst₂ (λ xs ys. Runs s xs ys so_far.at) (sym (append-nil es)) (sym (append-nil rs)) so_far.runs;
      rises = so_far.rises;
      between = so_far.between;
    }

  all_on : (demands : List Demand) (asker last : Request) (es : List Event) (rs : List CoreReply) → Reaches policy s k asker es rs → AreTold policy asker demands last → All (AllFound number s) demands →
      Reaches policy s k last (es ++ demands_of number policy k asker demands) (rs ++ flat_map told_by demands)
  all_on [] asker last es rs so_far told found =
      let here : Reaches policy s k asker (es ++ []) (rs ++ []) = record {
        at = so_far.at;
        runs = subst₂ (λ xs ys. Runs s xs ys so_far.at) (sym (append-nil es)) (sym (append-nil rs)) so_far.runs;
        rises = so_far.rises;
        between = so_far.between;
      } in
      subst (λ a. Reaches policy s k a (es ++ []) (rs ++ [])) (sym told.1) here
  all_on (asks it ∷ others) asker last es rs so_far told found =
      let found_here : HasFound number s it.made = All-head (AllFound number s) (asks it) others found in
      let found_there = found_between policy s k asker so_far.at so_far.between number it.made found_here in
      let agrees = ask_agrees laws.unique number policy so_far.at k asker it.effort it.text it.made it.reply so_far.between.has found_there told.1 in
      let later = first_may policy (after asker it.reply) last others told.2 in
      let one = reply_on asker es rs so_far it.effort it.text it.made found_here told.0 it.reply told.1 later agrees in
      let rest = all_on others (after asker it.reply) last (es ++ event_in number policy k asker it.reply) (rs ++ told_in it.reply) one told.2 (All-tail (AllFound number s) (asks it) others found) in
      record {
        at = rest.at;
        runs = subst₂ (λ xs ys. Runs s xs ys rest.at)
            (append_assoc es (event_in number policy k asker it.reply) (demands_of number policy k (after asker it.reply) others))
            (append_assoc rs (told_in it.reply) (flat_map told_by others)) rest.runs;
        rises = rest.rises;
        between = rest.between;
      }
  all_on (reads it ∷ others) asker last es rs so_far told found =
      let found_here : All (HasFound number s) it.made = All-head (AllFound number s) (reads it) others found in
      let found_there = All-weaker (HasFound number s) (HasFound number so_far.at) (found_between policy s k asker so_far.at so_far.between number) it.made found_here in
      let agrees = read_agrees number policy so_far.at k asker it.effort it.queries it.made it.reply so_far.between.has found_there told.1 in
      let one = read_on asker es rs so_far it.effort it.queries it.made told.0 it.reply told.1 agrees in
      let rest = all_on others asker last (es ++ read_in number policy k asker it.reply) (rs ++ told_of_read it.reply) one told.2 (All-tail (AllFound number s) (reads it) others found) in
      record {
        at = rest.at;
        runs = subst₂ (λ xs ys. Runs s xs ys rest.at) (append_assoc es (read_in number policy k asker it.reply) (demands_of number policy k asker others)) (append_assoc rs (told_of_read it.reply) (flat_map told_by others)) rest.runs;
        rises = rest.rises;
        between = rest.between;
      }

  run : (context : Context) (asker last : Request) (demands : List Demand) → CanBegin policy s k asker → AreRising s → All (AllFound number s) demands → IsBegun context asker → AreTold policy asker demands last →
      Runs s (events_of number policy k context asker demands) (replies_of demands) (record s { log = s.log ++ logged k last.trace })
  run context asker last demands can rising found begun told =
      let starts = begin_agrees policy s k context asker can begun in
      let step : IsStep s (events.Begin k context asker.version) replies.Begun starts.new = record { step = starts.is_reply.step; compliant = tt } in
      let so_far : Reaches policy s k asker (events.Begin k context asker.version ∷ []) (replies.Begun ∷ []) = record {
        at = starts.new;
        runs = next start step;
        rises = starts.is_reply.rising rising;
        between = between_begun policy s k context asker starts.new can begun starts.is_reply.step;
      } in
      let all = all_on demands asker last (events.Begin k context asker.version ∷ []) (replies.Begun ∷ []) so_far told found in
      let ends = end_agrees policy all.at k last last.trace all.between.has refl in
      let end_step : IsStep all.at (events.End k) replies.Ended ends.new = record { step = ends.is_reply.step; compliant = tt } in
      subst (Runs s (events_of number policy k context asker demands) (replies_of demands))
      (between_ended policy s k last all.at all.between ends.new ends.is_reply.step can.free rising (ends.is_reply.rising all.rises)) (next all.runs end_step)

-- ---- no other replies

-- the same runs, told from their first event on
abbrev Fronts : State → List Event → List CoreReply → State → Type 0
Fronts s [] rs last = (rs ≡ []) × (last ≡ s)
Fronts s (event ∷ es) rs last =
    (reply : CoreReply) × (mid : State) × (more : List CoreReply) × Steps s event reply mid × Fronts mid es more last × (rs ≡ reply ∷ more)

one_more : (s old new : State) (es : List Event) (rs : List CoreReply) (event : Event) (reply : CoreReply) → Fronts s es rs old → Steps old event reply new →
    Fronts s (es ++ event ∷ []) (rs ++ reply ∷ []) new
one_more s old new [] rs event reply (none, same) step =
    (reply, new, [], subst (λ z. Steps z event reply new) same step, (refl, refl), ap (λ xs. xs ++ reply ∷ []) none)
one_more s old new (first ∷ es) rs event reply (it, mid, more, begins, rest, are) step =
    (it, mid, more ++ reply ∷ [], begins, one_more mid old new es more event reply rest step, ap (λ xs. xs ++ reply ∷ []) are)

fronts : (s : State) {es : List Event} {rs : List CoreReply} {last : State} → Runs s es rs last → Fronts s es rs last
fronts s start = (refl, refl)
fronts s (next {events = es} {replies = rs} {event = event} {reply = reply} {old = old} {new = new} runs step) = one_more s old new es rs event reply (fronts s runs) step.step

module _ (unique : AnswerIsUnique) (number : ℕ → ℕ → ℕ) (policy : Policy) (s : State) (k : ℕ) where
  -- what is left of the events, and of the replies
  abbrev OnlyFrom : Request → List Demand → State → Type 0
  OnlyFrom asker demands t = (rs : List CoreReply) (last : State) → Fronts t (demands_of number policy k asker demands ++ events.End k ∷ []) rs last → rs ≡ flat_map told_by demands ++ replies.Ended ∷ []

  only_reply : (asker : Request) (t : State) (reply : Reply) (others : List Demand) → Between policy s k asker t → AgreesOn number policy t k asker reply →
      ((mid : State) → Between policy s k (after asker reply) mid → OnlyFrom (after asker reply) others mid) →
      (rs : List CoreReply) (last : State) → Fronts t ((event_in number policy k asker reply ++ demands_of number policy k (after asker reply) others) ++ events.End k ∷ []) rs last →
      rs ≡ (told_in reply ++ flat_map told_by others) ++ replies.Ended ∷ []
  only_reply asker t (Answer query rows basis) others between agrees later rs last (reply, mid, more, step, rest, are) =
      let event = events.Ask k query (ground_of number policy asker query basis) in
      let same = agrees.is_reply.only reply mid step in
      let told : steps.AnswersAsk t k query (ground_of number policy asker query basis) rows mid = subst (λ r. Steps t event r mid) same step in
      let there = between_answered policy s k asker t between query (ground_of number policy asker query basis) rows basis mid told in
      are ∙ (λ i. same i ∷ later mid there more last rest i)
  only_reply asker t (Blocked query why) others between agrees later rs last (reply, mid, more, step, rest, are) =
      let event = events.Ask k query grounds.Refuse in
      let same = agrees.is_reply.only reply mid step in
      let stays : mid ≡ t = (subst (λ r. Steps t event r mid) same step).1 in
      are ∙ (λ i. same i ∷ later mid (between_blocked policy s k asker t between mid stays) more last rest i)
  only_reply asker t (Unread fault) others between agrees later rs last front = later t (between_same policy s k asker t between) rs last front
  only_reply asker t NoMemory others between agrees later rs last front = later t (between_same policy s k asker t between) rs last front

  -- of an event that is a read
  only_event : (asker : Request) (t : State) (event : Event) (allowed : Bool) (others : List Demand) → Between policy s k asker t → (told : IsToldBy policy t k event (replies.Read allowed) asker) →
      ((mid : State) → Steps t event (replies.Read allowed) mid → mid ≡ t) → ((mid : State) → Between policy s k asker mid → OnlyFrom asker others mid) →
      (rs : List CoreReply) (last : State) → Fronts t ((event ∷ demands_of number policy k asker others) ++ events.End k ∷ []) rs last → rs ≡ (replies.Read allowed ∷ flat_map told_by others) ++ replies.Ended ∷ []
  only_event asker t event allowed others between told stays later rs last (reply, mid, more, step, rest, are) =
      let same = told.is_reply.only reply mid step in
      let there : Between policy s k asker mid = subst (Between policy s k asker) (sym (stays mid (subst (λ r. Steps t event r mid) same step))) between in
      are ∙ (λ i. same i ∷ later mid there more last rest i)

  only_read : (asker : Request) (t : State) (reply : KeyReply) (others : List Demand) → Between policy s k asker t → AgreesOnRead number policy t k asker reply →
      ((mid : State) → Between policy s k asker mid → OnlyFrom asker others mid) →
      (rs : List CoreReply) (last : State) → Fronts t ((read_in number policy k asker reply ++ demands_of number policy k asker others) ++ events.End k ∷ []) rs last →
      rs ≡ (told_of_read reply ++ flat_map told_by others) ++ replies.Ended ∷ []
  only_read asker t (key_reply.Allowed its bases) others between agrees later rs last front =
      only_event asker t (events.Read k its (grounds_of number policy asker its bases)) true others between agrees (λ mid step. step.1) later rs last front
  only_read asker t (key_reply.Blocked its before why) others between agrees later rs last front =
      only_event asker t (events.Read k (judged its before) (judged_grounds number policy asker its before)) false others between (barred_alone number policy t k asker its before why agrees) (λ mid step. step.1) later rs last front
  only_read asker t key_reply.NoMemory others between agrees later rs last front = later t between rs last front

  only_demands : (demands : List Demand) (asker end : Request) (t : State) → Between policy s k asker t → AreTold policy asker demands end → All (AllFound number s) demands → OnlyFrom asker demands t
  only_demands [] asker end t between told found rs last (reply, mid, more, step, rest, are) =
      let same = (end_agrees policy t k asker asker.trace between.has refl).is_reply.only reply mid step in
      are ∙ (λ i. same i ∷ rest.0 i)
  only_demands (asks it ∷ others) asker end t between told found rs last front =
      let found_here : HasFound number s it.made = All-head (AllFound number s) (asks it) others found in
      let found_there = found_between policy s k asker t between number it.made found_here in
      let agrees = ask_agrees unique number policy t k asker it.effort it.text it.made it.reply between.has found_there told.1 in
      let found_rest = All-tail (AllFound number s) (asks it) others found in
      only_reply asker t it.reply others between agrees (λ mid there. only_demands others (after asker it.reply) end mid there told.2 found_rest) rs last front
  only_demands (reads it ∷ others) asker end t between told found rs last front =
      let found_here : All (HasFound number s) it.made = All-head (AllFound number s) (reads it) others found in
      let found_there = All-weaker (HasFound number s) (HasFound number t) (found_between policy s k asker t between number) it.made found_here in
      let agrees = read_agrees number policy t k asker it.effort it.queries it.made it.reply between.has found_there told.1 in
      let found_rest = All-tail (AllFound number s) (reads it) others found in
      only_read asker t it.reply others between agrees (λ mid there. only_demands others asker end mid there told.2 found_rest) rs last front

  only_from_start : (context : Context) (asker end : Request) (demands : List Demand) → CanBegin policy s k asker → IsBegun context asker → AreTold policy asker demands end → All (AllFound number s) demands →
      (rs : List CoreReply) (last : State) → Fronts s (events_of number policy k context asker demands) rs last → rs ≡ replies_of demands
  only_from_start context asker end demands can begun told found rs last (reply, mid, more, step, rest, are) =
      let event = events.Begin k context asker.version in
      let same = (begin_agrees policy s k context asker can begun).is_reply.only reply mid step in
      let there = between_begun policy s k context asker mid can begun (subst (λ r. Steps s event r mid) same step) in
      are ∙ (λ i. same i ∷ only_demands demands asker end mid there told found more last rest i)

pub request_is_a_run : Laws → RequestIsARun
request_is_a_run laws number policy s k context asker demands last checked can rising sound found begun told = record {
  runs = run laws number policy checked s k sound context asker last demands can rising found begun told;
  only = λ rs end runs. only_from_start laws.unique number policy s k context asker last demands can begun told found rs end (fronts s runs);
}
