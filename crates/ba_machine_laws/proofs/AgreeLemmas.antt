-- A request's beginning, its replies and its end are the machine's.
use Rattle.std.proofs.Common.{◌≡◌, ◌≢◌, ◌∙◌, ℕ, suc, Bool, true, false, List, [], ◌∷◌, ◌++◌, All, Contains, Some, add-one, ap, append-nil, append_assoc, arith, length, refl, slice_get, subst, subst₂, sym, take, true≢false}
use Rattle.std.proofs.lemmas.List.Elements.{All-cons, All-head, All-nil, All-tail, All-weaker, Contains-append_right, Contains-push}
use Rattle.std.proofs.lemmas.Option.{slice_get_within}
use Rattle.std.specs.List.{AllZip}
use Rattle.ba_machine_laws.proofs.ShelfLemmas.{All-before}
use Rattle.ba_machine_laws.proofs.StateLemmas.{barred_reply, begun_opens, begun_reply, begun_state, blocked_reply, ended_closes, ended_reply, ended_state, through_reply, told_opens, told_reply, told_state}
use Rattle.ba_machine_laws.specs.Agreeing.{AgreesOn, AgreesOnRead, AskAgrees, BeginAgrees, EndAgrees, HasFound, HasRequest, IsToldBy, ReadAgrees, after, ground_of, grounds_of, judged, judged_grounds, opened_of}
use Rattle.ba_cache.specs.Rows.{kept}
use Rattle.ba_comply.specs.Comply.{Complies, StrongComplies}
use Rattle.ba_core.specs.Runs.{ReadIsCompliant}
use Rattle.ba_core.specs.State.{State}
use Rattle.ba_core.specs.Steps.{Fits, HasTemplate}
use Rattle.ba_core.specs.declared.event.Asked.TheVariants as asked
use Rattle.ba_core.specs.declared.event.CoreReply.TheVariants as replies
use Rattle.ba_core.specs.declared.event.Event.TheVariants as events
use Rattle.ba_core.specs.declared.event.Ground.{Ground}
use Rattle.ba_core.specs.declared.event.Ground.TheVariants as grounds
use Rattle.ba_direct.specs.declared.covers.Cover.{Cover}
use Rattle.ba_kernel.specs.SearchStates.{Proof}
use Rattle.ba_lanes.proofs.HeadlineLemmas.{as_many_grounds}
use Rattle.ba_model.specs.Conform.{Conforms}
use Rattle.ba_model.specs.Meaning.{AnswerIsUnique, IsAnswer}
use Rattle.ba_model.specs.declared.policy.Policy.{Policy}
use Rattle.ba_model.specs.declared.query.Query.{Query}
use Rattle.ba_model.specs.declared.value.Value.{Value}
use Rattle.ba_session.specs.Asking.{IsGround, IsRequestOf, Replies, look_at, question}
use Rattle.ba_session.specs.Asking as asking
use Rattle.ba_session.specs.KeyReads.{AreGrounds, IsKeyBlocked, KeyReads}
use Rattle.ba_session.specs.Passing.{ShelfCalls}
use Rattle.ba_session.specs.declared.reply.By.{By}
use Rattle.ba_session.specs.declared.reply.By.TheVariants as by
use Rattle.ba_session.specs.declared.reply.KeyReply.{KeyReply}
use Rattle.ba_session.specs.declared.reply.KeyReply.TheVariants as key_reply
use Rattle.ba_session.specs.declared.reply.Reply.{Reply}
use Rattle.ba_session.specs.declared.reply.Reply.TheVariants.{Answer, Blocked, Unread, NoMemory}
use Rattle.ba_session.specs.declared.reply.Why.{Why}
use Rattle.ba_session.specs.declared.request.Request.{Request}
use Rattle.ba_settle.specs.Settling.{Effort}
use Rattle.ba_template.specs.declared.found.Match.{Match}

-- ---- the beginning

pub begin_agrees : BeginAgrees
begin_agrees policy s k context asker can begun =
    let there = can.is_for.tables_are in
    let reply = begun_reply s k context asker.version asker.tables can.free there in
    let here = (begun_opens s k context asker.version asker.tables can.free there).here in
    record {
      new = begun_state s k context asker.version asker.tables can.free there;
      is_reply = reply;
      has = record {
        is_for = record { policy_is = can.is_for.policy_is; tables_are = there };
        is_open = here ∙ (λ i. Some (record { context = sym begun.context_is i; version = asker.version; trace = sym begun.trace_is i }));
      };
    }

-- ---- grounds

abbrev is_refusal : Ground → Bool
is_refusal (grounds.Cover cover) = false
is_refusal (grounds.Template n found) = false
is_refusal (grounds.Proof proof) = false
is_refusal grounds.Refuse = true

cover_answers : (cover : Cover) → grounds.Cover cover ≢ grounds.Refuse
cover_answers cover e = true≢false (sym (ap is_refusal e))

template_answers : (n : ℕ) (found : Match) → grounds.Template n found ≢ grounds.Refuse
template_answers n found e = true≢false (sym (ap is_refusal e))

proof_answers : (proof : Proof) → grounds.Proof proof ≢ grounds.Refuse
proof_answers proof e = true≢false (sym (ap is_refusal e))

-- the template that serves was admitted under its number
pub admitted : (number : ℕ → ℕ → ℕ) (policy : Policy) (s : State) (asker : Request) (query : Query) (shard id : ℕ) (template : Proof) (it : Match) (made : ShelfCalls) → HasFound number s made →
    asking.IsServed policy asker query shard id template it made → slice_get s.templates (number shard id) ≡ Some template
admitted number policy s asker query shard id template it made found g =
    let one = kept id template in
    let looked : Contains made.calls (look_at query g.found) = subst (λ m. Contains m.calls (look_at query g.found)) (sym g.made_is) (Contains-push [] (look_at query g.found)) in
    let front : Contains (one ∷ g.first.after) one = (0, omega arith, refl) in
    let among : Contains g.found one = subst (λ its. Contains its one) (sym g.first.found_is) (Contains-append_right g.first.before (one ∷ g.first.after) one front) in
    let same : made.shard ≡ shard = ap (λ m. m.shard) g.made_is ∙ sym g.shard_is in
    subst (λ n. slice_get s.templates (number n id) ≡ Some template) same (found.each query g.found one looked among)

-- ---- replies

module _ (number : ℕ → ℕ → ℕ) (s : State) (k : ℕ) (asker : Request) (has : HasRequest s.policy s k asker) where
  -- the machine has the request after nothing was added to its trace
  stays : HasRequest s.policy s k (record asker { trace = asker.trace ++ [] })
  stays = record {
    is_for = record { policy_is = refl; tables_are = has.is_for.tables_are };
    is_open = has.is_open ∙ ap (λ trace. Some (record { context = asker.context; version = asker.version; trace = trace })) (sym (append-nil asker.trace));
  }

  -- ---- evidence

  -- the ground fits the query, and is no refusal
  record IsGood (query : Query) (why : Ground) : Type 0 where
    fits : Fits s.policy s.templates (opened_of asker) query why
    answers : why ≢ grounds.Refuse

  good_by : (effort : Effort) (query : Query) (made : ShelfCalls) (basis : By) → HasFound number s made → IsGround s.policy asker effort query basis made → IsGood query (ground_of number s.policy asker query basis)
  good_by effort query made (by.Cover cover) found ground = record { fits = ground.0; answers = cover_answers cover }
  good_by effort query made (by.Template shard id template it) found ground =
      let there = admitted number s.policy s asker query shard id template it made found ground in
      record { fits = record { template = template; there = there; is_match = ground.first.first.is_match }; answers = template_answers (number shard id) it }
  good_by effort query made (by.Proof steps keeping) found ground =
      let proof : Proof = record { problem = question s.policy asker query; steps = steps } in
      record { fits = refl; answers = proof_answers proof }

  -- a ground that fits names a template that is there, if it names one
  named_by : (query : Query) (why : Ground) → Fits s.policy s.templates (opened_of asker) query why → HasTemplate s.templates why
  named_by query (grounds.Cover cover) h = tt
  named_by query (grounds.Template n found) h = slice_get_within s.templates n h.template h.there
  named_by query (grounds.Proof proof) h = tt
  named_by query grounds.Refuse h = tt

  module _ (unique : AnswerIsUnique) where
    told : (query : Query) (basis : By) (rows : List (List Value)) (why : Ground) → Fits s.policy s.templates (opened_of asker) query why → HasTemplate s.templates why → why ≢ grounds.Refuse →
        IsAnswer query asker.context asker.tables.rows rows →
        IsToldBy s.policy s k (events.Ask k query why) (replies.Asked (asked.Answer rows)) (after asker (Answer query rows basis))
    told query basis rows why fits named answers answer =
        let reply = told_reply s k (opened_of asker) query why has.is_open fits named answers asker.tables has.is_for.tables_are rows answer unique in
        let here = (told_opens s k (opened_of asker) query why has.is_open fits named answers asker.tables has.is_for.tables_are rows answer unique).here in
        record {
          new = told_state s k (opened_of asker) query why has.is_open fits named answers asker.tables has.is_for.tables_are rows answer unique;
          is_reply = reply;
          has = record { is_for = record { policy_is = refl; tables_are = has.is_for.tables_are }; is_open = here };
        }

    answered : (effort : Effort) (query : Query) (made : ShelfCalls) (basis : By) (rows : List (List Value)) → HasFound number s made → IsGround s.policy asker effort query basis made →
        IsAnswer query asker.context asker.tables.rows rows →
        IsToldBy s.policy s k (events.Ask k query (ground_of number s.policy asker query basis)) (replies.Asked (asked.Answer rows)) (after asker (Answer query rows basis))
    answered effort query made basis rows found ground answer =
        let good = good_by effort query made basis found ground in
        told query basis rows (ground_of number s.policy asker query basis) good.fits (named_by query (ground_of number s.policy asker query basis) good.fits) good.answers answer

    agrees : (effort : Effort) (text : List ℕ) (made : ShelfCalls) (reply : Reply) → HasFound number s made → Replies s.policy asker effort text made reply → AgreesOn number s.policy s k asker reply
    agrees effort text made (Answer query rows basis) found h = answered effort query made basis rows found h.ground h.released.answer
    agrees effort text made (Blocked query why) found h =
        record { new = s; is_reply = blocked_reply s k (opened_of asker) query has.is_open h.denied.uncovered; has = stays }
    agrees effort text made (Unread fault) found h = stays
    agrees effort text made NoMemory found h = stays

pub ask_agrees : AnswerIsUnique → AskAgrees
ask_agrees unique number policy s k asker effort text made reply has found replies =
    let own : HasRequest s.policy s k asker =
    record { is_for = record { policy_is = refl; tables_are = has.is_for.tables_are }; is_open = has.is_open } in
    subst (λ p. AgreesOn number p s k asker reply) has.is_for.policy_is
    (agrees number s k asker own unique effort text made reply found (subst (λ p. Replies p asker effort text made reply) (sym has.is_for.policy_is) replies))

-- ---- reads

pub zip_append : {A B : Type 0} (R : A → B → Type 0) (xs more : List A) (ys others : List B) → AllZip R xs ys → AllZip R more others → AllZip R (xs ++ more) (ys ++ others)
zip_append R [] more [] others h k = k
zip_append R [] more (y ∷ ys) others h k = absurd h
zip_append R (x ∷ xs) more [] others h k = absurd h
zip_append R (x ∷ xs) more (y ∷ ys) others h k = (h.0, zip_append R xs more ys others h.1 k)

take_front : {X : Type 0} (front : List X) (x : X) (back : List X) → take (suc (length front)) (front ++ x ∷ back) ≡ front ++ x ∷ []
take_front [] x back = refl
take_front (y ∷ front) x back = ap (λ z. y ∷ z) (take_front front x back)

-- each of the queries is compliant after the request's trace, on a machine that has the request
pub read_complies : StrongComplies → (policy : Policy) (t : State) (k : ℕ) (asker : Request) (queries : List Query) → HasRequest policy t k asker → IsRequestOf policy asker → All (asking.IsCompliant policy asker) queries →
    ReadIsCompliant t k queries
read_complies law policy t k asker queries has may strong = record {
  asker = opened_of asker;
  is_open = has.is_open;
  tables = asker.tables;
  pinned = has.is_for.tables_are;
  conforms = subst (λ (p : Policy). Conforms p.schema asker.tables.rows) (sym has.is_for.policy_is) may.conforms;
  recorded = may.recorded;
  comply = subst (λ (p : Policy). All (Complies p asker.context asker.trace) queries) (sym has.is_for.policy_is)
      (All-weaker (asking.IsCompliant policy asker) (Complies policy asker.context asker.trace) (λ query h. law policy asker.context asker.trace query h) queries strong);
}

module _ (number : ℕ → ℕ → ℕ) (policy : Policy) (asker : Request) where
  -- the grounds of the queries in front alone
  grounds_front : (front rest : List Query) (bases : List By) → length bases ≡ length front → grounds_of number policy asker (front ++ rest) bases ≡ grounds_of number policy asker front bases
  grounds_front [] [] [] e = refl
  grounds_front [] (q ∷ rest) [] e = refl
  grounds_front [] rest (b ∷ bases) e = absurd (omega (arith, e))
  grounds_front (q ∷ front) rest [] e = absurd (omega (arith, e))
  grounds_front (q ∷ front) rest (b ∷ bases) e = ap (λ z. ground_of number policy asker q b ∷ z) (grounds_front front rest bases (omega (arith, e)))

module _ (number : ℕ → ℕ → ℕ) (s : State) (k : ℕ) (asker : Request) (has : HasRequest s.policy s k asker) (effort : Effort) where
  abbrev FitsHere : Query → Ground → Type 0
  FitsHere = Fits s.policy s.templates (opened_of asker)

  -- the grounds fit the queries, and none is a refusal
  record AreGood (queries : List Query) (why : List Ground) : Type 0 where
    fit : AllZip FitsHere queries why
    answer : All (λ it. it ≢ grounds.Refuse) why

  all_good : (queries : List Query) (bases : List By) (made : List ShelfCalls) → All (HasFound number s) made → AreGrounds s.policy asker effort queries bases made → AreGood queries (grounds_of number s.policy asker queries bases)
  all_good [] [] [] found h = record { fit = tt; answer = All-nil (λ it. it ≢ grounds.Refuse) }
  all_good [] [] (m ∷ made) found h = absurd h
  all_good [] (b ∷ bases) made found h = absurd h
  all_good (q ∷ queries) [] made found h = absurd h
  all_good (q ∷ queries) (b ∷ bases) [] found h = absurd h
  all_good (q ∷ queries) (b ∷ bases) (m ∷ made) found h =
      let one = good_by number s k asker has effort q m b (All-head (HasFound number s) m made found) h.0.0 in
      let rest = all_good queries bases made (All-tail (HasFound number s) m made found) h.1 in
      record {
        fit = (one.fits, rest.fit);
        answer = All-cons (λ it. it ≢ grounds.Refuse) (ground_of number s.policy asker q b) (grounds_of number s.policy asker queries bases) one.answers rest.answer;
      }

  all_named : (queries : List Query) (why : List Ground) → AllZip FitsHere queries why → All (HasTemplate s.templates) why
  all_named [] [] h = All-nil (HasTemplate s.templates)
  all_named [] (g ∷ why) h = absurd h
  all_named (q ∷ queries) [] h = absurd h
  all_named (q ∷ queries) (g ∷ why) h = All-cons (HasTemplate s.templates) g why (named_by number s k asker has q g h.0) (all_named queries why h.1)

  through : (queries : List Query) (bases : List By) (made : List ShelfCalls) → All (HasFound number s) made → AreGrounds s.policy asker effort queries bases made →
      IsToldBy s.policy s k (events.Read k queries (grounds_of number s.policy asker queries bases)) (replies.Read true) asker
  through queries bases made found h =
      let why = grounds_of number s.policy asker queries bases in
      let good = all_good queries bases made found h in
      record { new = s; is_reply = through_reply s k (opened_of asker) queries why has.is_open good.fit (all_named queries why good.fit) good.answer; has = has }

  barred : (queries : List Query) (bases : List By) (why : Why) (made : List ShelfCalls) → All (HasFound number s) made → IsKeyBlocked s.policy asker effort queries bases why made → (more : List Query) (others : List Ground) →
      AllZip FitsHere more others → IsToldBy s.policy s k (events.Read k (judged queries bases ++ more) (judged_grounds number s.policy asker queries bases ++ others)) (replies.Read false) asker
  barred queries bases why made found h more others fit =
      let many = as_many_grounds s.policy asker effort h.front bases h.earlier h.grounds in
      let front = grounds_of number s.policy asker h.front bases in
      let found_front = All-before (HasFound number s) h.earlier (h.last ∷ []) (subst (All (HasFound number s)) h.made_is found) in
      let good = all_good h.front bases h.earlier found_front h.grounds in
      let queries_are : judged queries bases ++ more ≡ h.front ++ h.query ∷ more =
      (λ i. take ((add-one (length bases) ∙ ap suc many) i) (h.are i) ++ more) ∙ ap (λ z. z ++ more) (take_front h.front h.query h.back) ∙ append_assoc h.front (h.query ∷ []) more in
      let grounds_are : judged_grounds number s.policy asker queries bases ++ others ≡ front ++ grounds.Refuse ∷ others =
      ap (λ z. (grounds_of number s.policy asker z bases ++ grounds.Refuse ∷ []) ++ others) h.are
      ∙ ap (λ z. (z ++ grounds.Refuse ∷ []) ++ others) (grounds_front number s.policy asker h.front (h.query ∷ h.back) bases many)
      ∙ append_assoc front (grounds.Refuse ∷ []) others in
      let all : AllZip FitsHere (h.front ++ h.query ∷ more) (front ++ grounds.Refuse ∷ others) =
      zip_append FitsHere h.front (h.query ∷ more) front (grounds.Refuse ∷ others) good.fit (h.denied.uncovered, fit) in
      let refused : Contains (front ++ grounds.Refuse ∷ others) grounds.Refuse = Contains-append_right front (grounds.Refuse ∷ others) grounds.Refuse (0, omega arith, refl) in
      subst₂ (λ qs ws. IsToldBy s.policy s k (events.Read k qs ws) (replies.Read false) asker) (sym queries_are) (sym grounds_are) (record {
        new = s;
        is_reply = barred_reply s k (opened_of asker) (h.front ++ h.query ∷ more) (front ++ grounds.Refuse ∷ others) has.is_open all (all_named (h.front ++ h.query ∷ more) (front ++ grounds.Refuse ∷ others) all) refused;
        has = has;
      })

  reads_agree : (queries : List Query) (made : List ShelfCalls) (reply : KeyReply) → All (HasFound number s) made → KeyReads s.policy asker effort queries made reply → AgreesOnRead number s.policy s k asker reply
  reads_agree queries made (key_reply.Allowed its by) found h = through its by made found (subst (λ z. AreGrounds s.policy asker effort z by made) (sym h.0) h.1)
  reads_agree queries made (key_reply.Blocked its before why) found h = λ more others fit.
      barred its before why made found (subst (λ z. IsKeyBlocked s.policy asker effort z before why made) (sym h.0) h.1) more others fit
  reads_agree queries made key_reply.NoMemory found h = has

pub read_agrees : ReadAgrees
read_agrees number policy s k asker effort queries made reply has found reads =
    let own : HasRequest s.policy s k asker = record { is_for = record { policy_is = refl; tables_are = has.is_for.tables_are }; is_open = has.is_open } in
    subst (λ p. AgreesOnRead number p s k asker reply) has.is_for.policy_is
    (reads_agree number s k asker own effort queries made reply found (subst (λ p. KeyReads p asker effort queries made reply) (sym has.is_for.policy_is) reads))

-- a blocked read alone, with no queries behind those that were judged
pub barred_alone : (number : ℕ → ℕ → ℕ) (policy : Policy) (s : State) (k : ℕ) (asker : Request) (queries : List Query) (before : List By) (why : Why) → AgreesOnRead number policy s k asker (key_reply.Blocked queries before why) →
    IsToldBy policy s k (events.Read k (judged queries before) (judged_grounds number policy asker queries before)) (replies.Read false) asker
barred_alone number policy s k asker queries before why agrees =
    subst₂ (λ qs ws. IsToldBy policy s k (events.Read k qs ws) (replies.Read false) asker) (append-nil (judged queries before)) (append-nil (judged_grounds number policy asker queries before)) (agrees [] [] tt)

-- ---- the end

pub end_agrees : EndAgrees
end_agrees policy s k asker trace has same = record {
  asker = opened_of asker;
  was_open = has.is_open;
  told = sym same;
  new = ended_state s k (opened_of asker) has.is_open;
  is_reply = ended_reply s k (opened_of asker) has.is_open;
  closes = ended_closes s k (opened_of asker) has.is_open;
}
