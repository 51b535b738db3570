-- What a machine has between two lines of a script: the chosen requests that are open there, as they stand.
use Rattle.std.proofs.Common.{◌≡◌, ◌≢◌, ◌∙◌, ℕ, ◌+◌, ◌<◌, ◌≤◌, ◌==◌, Bool, true, false, cond, List, [], ◌∷◌, ◌++◌, Contains, None, Option, Some, ap, append-nil, arith, inl, inr, length, length-append, refl, slice_get, subst, sym, ◌⊎◌}
use Rattle.std.proofs.lemmas.Bool.Decides.{eqb_tells}
use Rattle.std.proofs.lemmas.List.Concat.{flat_map-append}
use Rattle.std.proofs.lemmas.List.Elements.{Contains-push_cases}
use Rattle.std.proofs.lemmas.Option.{same_Some}
use Rattle.ba_machine_laws.specs.Agreeing.{HasRequest, opened_of}
use Rattle.ba_core.specs.State.{State, opened_at}
use Rattle.ba_core.specs.declared.opened.Opened.{Opened}
use Rattle.ba_comply.specs.declared.trace.TraceEntry.{TraceEntry}
use Rattle.ba_input.specs.declared.input.Input.{Input}
use Rattle.ba_lanes.proofs.ServeLemmas.{answers_other, asked_is_no_begin, memory_is_no_begin, read_is_no_begin, reads_quiet}
use Rattle.ba_lanes.specs.Legal.{IsRequest, LineDone, answer_of, asked, begins, context_in, contexts_of, read_as, trace_of}
use Rattle.ba_lanes.specs.declared.journal.Entry.{Entry}
use Rattle.ba_lanes.specs.declared.journal.Entry.TheVariants.{Begin, End, Publish, Memory}
use Rattle.ba_lanes.specs.declared.journal.LineKind.{LineKind}
use Rattle.ba_model.specs.declared.policy.Policy.{Policy}
use Rattle.ba_machine_laws.proofs.ScriptLemmas.{IsOpenAfter, Opens, WasOpen, next_number, opened_before}
use Rattle.ba_script.specs.Scripts.{NumberedFrom}
use Rattle.ba_script.specs.declared.entry.ScriptEntry.{ScriptEntry}
use Rattle.ba_session.specs.Asking.{IsRequestOf, answer_in}
use Rattle.ba_session.specs.declared.reply.KeyReply.{KeyReply}
use Rattle.ba_session.specs.declared.reply.Reply.{Reply}
use Rattle.ba_session.specs.declared.reply.Reply.TheVariants as replied
use Rattle.ba_session.specs.declared.request.Request.{Request}
use Rattle.ba_tables.specs.TableSet.{TableSet}

-- ---- requests

-- a machine has one request of a number
pub same_request : (policy : Policy) (t : State) (k : ℕ) (asker other : Request) → HasRequest policy t k asker → HasRequest policy t k other → asker ≡ other
same_request policy t k asker other has that =
    let same : opened_of asker ≡ opened_of other = same_Some (opened_of asker) (opened_of other) (sym has.is_open ∙ that.is_open) in
    let version : asker.version ≡ other.version = ap (λ (z : Opened). z.version) same in
    let tables : asker.tables ≡ other.tables =
    same_Some asker.tables other.tables (sym has.is_for.tables_are ∙ ap (slice_get t.versions) version ∙ that.is_for.tables_are) in
    λ i. record { context = (same i).context; version = (same i).version; tables = tables i; trace = (same i).trace }

pub request_same : {k v j w : ℕ} {a b : TableSet} → begins k v a ≡ begins j w b → k ≡ j
request_same {k} {v} {j} {w} e = let at : Begin k v ≡ Begin j w = ap (λ (z : LineDone). z.entry) e in cc

pub trace_more : (k : ℕ) (earlier : List LineDone) (it : LineDone) → trace_of k (earlier ++ it ∷ []) ≡ trace_of k earlier ++ answer_of k it.entry
trace_more k earlier it = flat_map-append _ earlier (it ∷ []) ∙ ap (λ more. trace_of k earlier ++ more) (append-nil (answer_of k it.entry))

pub contexts_more : (before : List ScriptEntry) (line : ScriptEntry) → length (contexts_of (before ++ line ∷ [])) ≡ length (contexts_of before) + length (context_in line)
contexts_more before line =
    ap length (flat_map-append context_in before (line ∷ []))
    ∙ length-append (contexts_of before) (context_in line ++ [])
    ∙ ap (λ more. length (contexts_of before) + length more) (append-nil (context_in line))

-- ---- lines that are of no request, or of another

-- the line begins no request of the number, and answers it nothing
pub record IsQuiet (k : ℕ) (it : LineDone) : Type 0 where
  pub no_answer : answer_of k it.entry ≡ []
  pub no_begin : (version : ℕ) (tables : TableSet) → it ≡ begins k version tables → ⊥

quiet_by : (k : ℕ) (it : LineDone) (entry : Entry) → it.entry ≡ entry → answer_of k entry ≡ [] → ((version : ℕ) → entry ≡ Begin k version → ⊥) → IsQuiet k it
quiet_by k it entry is none other = record {
  no_answer = ap (answer_of k) is ∙ none;
  no_begin = λ version tables e. other version (sym is ∙ ap (λ (z : LineDone). z.entry) e);
}

pub differ_false : (a b : ℕ) → a ≢ b → (a == b) ≡ false
differ_false a b differ = by (eqb_tells a b)
  where
    by : (((a == b) ≡ true) × (a ≡ b)) ⊎ (((a == b) ≡ false) × (a ≢ b)) → (a == b) ≡ false
    by (inl it) = absurd (differ it.1)
    by (inr it) = it.0

pub same_true : (a b : ℕ) → a ≡ b → (a == b) ≡ true
same_true a b same = by (eqb_tells a b)
  where
    by : (((a == b) ≡ true) × (a ≡ b)) ⊎ (((a == b) ≡ false) × (a ≢ b)) → (a == b) ≡ true
    by (inl it) = it.0
    by (inr it) = absurd (it.1 same)

pub quiet_begin : (k r version : ℕ) (it : LineDone) → it.entry ≡ Begin r version → k ≢ r → IsQuiet k it
quiet_begin k r version it is differ = quiet_by k it (Begin r version) is refl (λ v e. let same : r ≡ k = begun_same r version k v e in differ (sym same))
  where
    begun_same : (r v k w : ℕ) → Begin r v ≡ Begin k w → r ≡ k
    begun_same r v k w e = cc

pub quiet_ask : (k r version : ℕ) (reply : Reply) (it : LineDone) → it.entry ≡ asked r version reply → k ≢ r → IsQuiet k it
quiet_ask k r version reply it is differ = quiet_by k it (asked r version reply) is (answers_other r version k reply differ) (λ v e. asked_is_no_begin r version reply k v e)

-- a reply without an answer
pub quiet_reply : (k r version : ℕ) (reply : Reply) (it : LineDone) → it.entry ≡ asked r version reply → answer_in reply ≡ [] → IsQuiet k it
quiet_reply k r version reply it is none = quiet_by k it (asked r version reply) is (told reply none) (λ v e. asked_is_no_begin r version reply k v e)
  where
    by : (xs : List TraceEntry) (t : Bool) → xs ≡ [] → cond t xs [] ≡ []
    by xs true e = e
    by xs false e = refl

    told : (reply : Reply) → answer_in reply ≡ [] → answer_of k (asked r version reply) ≡ []
    told (replied.Answer query rows basis) e = by (answer_in (replied.Answer query rows basis)) (r == k) e
    told (replied.Blocked query why) e = by [] (r == k) e
    told (replied.Unread fault) e = by [] (r == k) e
    told replied.NoMemory e = refl

-- a read answers no rows
pub quiet_read : (k r version key : ℕ) (reply : KeyReply) (it : LineDone) → it.entry ≡ read_as r version key reply → IsQuiet k it
quiet_read k r version key reply it is = quiet_by k it (read_as r version key reply) is (reads_quiet r version key k reply) (λ v e. read_is_no_begin r version key reply k v e)

pub quiet_end : (k r version : ℕ) (it : LineDone) → it.entry ≡ End r version → IsQuiet k it
quiet_end k r version it is = quiet_by k it (End r version) is refl (λ v e. apart r version k v e)
  where
    apart : (r version k v : ℕ) → End r version ≡ Begin k v → ⊥
    apart r version k v e = cc

pub quiet_publish : (k n : ℕ) (it : LineDone) → it.entry ≡ Publish n → IsQuiet k it
quiet_publish k n it is = quiet_by k it (Publish n) is refl (λ v e. apart n k v e)
  where
    apart : (n k v : ℕ) → Publish n ≡ Begin k v → ⊥
    apart n k v e = cc

pub quiet_memory : (k : ℕ) (kind : LineKind) (request version : Option ℕ) (it : LineDone) → it.entry ≡ Memory kind request version → IsQuiet k it
quiet_memory k kind request version it is = quiet_by k it (Memory kind request version) is refl (λ v e. memory_is_no_begin kind request version k v e)

-- ---- between two lines

-- the machine has this of the request, which may ask
pub record Stands (input : Input) (t : State) (k : ℕ) (asker : Request) : Type 0 where
  pub has : HasRequest input.policy t k asker
  pub may : IsRequestOf input.policy asker

module _ (input : Input) (chosen : ℕ → Bool) where
  -- Requests that haven't begun are told nothing, and are not open. The chosen ones that are open after these lines stand as what became of the lines tells.
  pub record Between (t : State) (before : List ScriptEntry) (earlier : List LineDone) : Type 0 where
    pub counted : (k version : ℕ) (tables : TableSet) → Contains earlier (begins k version tables) → k < length (contexts_of before)
    pub untold : (k : ℕ) → length (contexts_of before) ≤ k → trace_of k earlier ≡ []
    pub unbegun : (k : ℕ) → length (contexts_of before) ≤ k → opened_at t k ≡ None
    pub standing : (k : ℕ) (asker : Request) → chosen k ≡ true → IsOpenAfter before k → IsRequest input earlier k asker → Stands input t k asker

  -- the new state keeps the policy, and each version
  pub record Keeps (t u : State) : Type 0 where
    pub policy_is : u.policy ≡ t.policy
    pub versions : (n : ℕ) (tables : TableSet) → slice_get t.versions n ≡ Some tables → slice_get u.versions n ≡ Some tables

  module _ (numbers : NumberedFrom 0 input.script.entries) (before rest : List ScriptEntry) (line : ScriptEntry) (earlier : List LineDone) (it : LineDone) (t u : State)
      (are : input.script.entries ≡ before ++ line ∷ rest) (b : Between t before earlier) (keeps : Keeps t u) where
    -- a request of which the line is quiet stands as before
    pub kept : (k : ℕ) (asker : Request) → chosen k ≡ true → IsOpenAfter (before ++ line ∷ []) k → IsRequest input (earlier ++ it ∷ []) k asker → IsQuiet k it →
        opened_at u k ≡ opened_at t k → Stands input u k asker
    kept k asker chooses is_open asks quiet same = by (Contains-push_cases earlier it (begins k asker.version asker.tables) asks.begun)
      where
        was_open : Contains earlier (begins k asker.version asker.tables) → Opens line k ⊎ WasOpen before line k → IsOpenAfter before k
        was_open begun (inl opens) =
            let at = next_number input.script.entries before rest k opens.name opens.context numbers (subst (λ z. input.script.entries ≡ before ++ z ∷ rest) opens.is are) in
            let number = at.0 in
            let below = b.counted k asker.version asker.tables begun in
            absurd (omega (arith, number, below))
        was_open begun (inr was) = record { name = was.name; asked = was.asked; is_open = was.was }

        by : Contains earlier (begins k asker.version asker.tables) ⊎ (it ≡ begins k asker.version asker.tables) → Stands input u k asker
        by (inr e) = absurd (quiet.no_begin asker.version asker.tables e)
        by (inl begun) =
            let trace : asker.trace ≡ trace_of k earlier =
            asks.trace ∙ trace_more k earlier it ∙ ap (λ more. trace_of k earlier ++ more) quiet.no_answer ∙ append-nil (trace_of k earlier) in
            let stood = b.standing k asker chooses (was_open begun (opened_before before line k is_open)) (record { begun = begun; context = asks.context; trace = trace }) in
            record {
              has = record {
                is_for = record { policy_is = keeps.policy_is ∙ stood.has.is_for.policy_is; tables_are = keeps.versions asker.version asker.tables stood.has.is_for.tables_are };
                is_open = same ∙ stood.has.is_open;
              };
              may = stood.may;
            }

    -- what comes after the line
    pub goes_on :
        ((k version : ℕ) (tables : TableSet) → it ≡ begins k version tables → k < length (contexts_of (before ++ line ∷ []))) →
        ((k : ℕ) → length (contexts_of (before ++ line ∷ [])) ≤ k → answer_of k it.entry ≡ []) →
        ((k : ℕ) → length (contexts_of (before ++ line ∷ [])) ≤ k → opened_at u k ≡ opened_at t k) →
        ((k : ℕ) (asker : Request) → chosen k ≡ true → IsOpenAfter (before ++ line ∷ []) k → IsRequest input (earlier ++ it ∷ []) k asker → Stands input u k asker) →
        Between u (before ++ line ∷ []) (earlier ++ it ∷ [])
    goes_on numbered told opened stand =
        let more = contexts_more before line in
        record {
          counted = λ k version tables among. by k version tables (Contains-push_cases earlier it (begins k version tables) among);
          untold = λ k past. trace_more k earlier it ∙ (λ i. b.untold k (omega (arith, more, past)) i ++ told k past i);
          unbegun = λ k past. opened k past ∙ b.unbegun k (omega (arith, more, past));
          standing = stand;
        }
      where
        by : (k version : ℕ) (tables : TableSet) → Contains earlier (begins k version tables) ⊎ (it ≡ begins k version tables) → k < length (contexts_of (before ++ line ∷ []))
        by k version tables (inl begun) = let more = contexts_more before line in let below = b.counted k version tables begun in omega (arith, more, below)
        by k version tables (inr e) = numbered k version tables e
