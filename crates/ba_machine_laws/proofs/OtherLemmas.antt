-- What the machine does for others leaves it what it has of a request.
use Rattle.std.proofs.Common.{◌≡◌, ◌≢◌, ◌∙◌, ℕ, [], ◌∷◌, ◌++◌, None, Option, Some, ap, refl, slice_get, subst, sym}
use Rattle.ba_machine_laws.proofs.KeyLemmas.{get_before}
use Rattle.ba_machine_laws.specs.Agreeing.{IsOfOthers, OthersAgree}
use Rattle.ba_core.specs.State.{ChangesOnly, State, opened_at}
use Rattle.ba_core.specs.Steps.{Steps}
use Rattle.ba_core.specs.declared.event.Asked.TheVariants as asked
use Rattle.ba_core.specs.declared.event.CoreReply.{CoreReply}
use Rattle.ba_core.specs.declared.event.CoreReply.TheVariants as replies
use Rattle.ba_core.specs.declared.event.Event.{Event}
use Rattle.ba_core.specs.declared.event.Event.TheVariants as events
use Rattle.ba_core.specs.declared.opened.Opened.{Opened}
use Rattle.ba_kernel.specs.SearchStates.{Proof}
use Rattle.ba_tables.specs.TableSet.{TableSet}

-- what has a number keeps it
record Stays (k : ℕ) (old new : State) : Type 0 where
  policy_is : new.policy ≡ old.policy
  versions : (n : ℕ) (tables : TableSet) → slice_get old.versions n ≡ Some tables → slice_get new.versions n ≡ Some tables
  templates : (n : ℕ) (template : Proof) → slice_get old.templates n ≡ Some template → slice_get new.templates n ≡ Some template
  request : opened_at new k ≡ opened_at old k

all_stay : (k : ℕ) (s : State) → Stays k s s
all_stay k s = record { policy_is = refl; versions = λ n tables e. e; templates = λ n template e. e; request = refl }

same_stays : (k : ℕ) (old new : State) → new ≡ old → Stays k old new
same_stays k old new same = subst (Stays k old) (sym same) (all_stay k old)

versions_stay : (k : ℕ) (old new : State) (tables : TableSet) → new ≡ record old { versions = old.versions ++ tables ∷ [] } → Stays k old new
versions_stay k old new tables is = subst (Stays k old) (sym is) (record {
  policy_is = refl;
  versions = λ n it e. get_before old.versions (tables ∷ []) n it e;
  templates = λ n template e. e;
  request = refl;
})

templates_stay : (k : ℕ) (old new : State) (template : Proof) → new ≡ record old { templates = old.templates ++ template ∷ [] } → Stays k old new
templates_stay k old new template is = subst (Stays k old) (sym is) (record {
  policy_is = refl;
  versions = λ n tables e. e;
  templates = λ n it e. get_before old.templates (template ∷ []) n it e;
  request = refl;
})

-- another number's request is changed
others_stay : (k j : ℕ) (old new : State) (it : Option Opened) → new ≡ record old { requests = new.requests; log = new.log } → ChangesOnly old new j it → j ≢ k → Stays k old new
others_stay k j old new it is changes apart = record {
  policy_is = ap (λ (z : State). z.policy) is;
  versions = λ n tables e. ap (λ (z : State). slice_get z.versions n) is ∙ e;
  templates = λ n template e. ap (λ (z : State). slice_get z.templates n) is ∙ e;
  request = changes.others k (λ e. apart (sym e));
}

-- where the log stays too
with_log : (old new : State) → new ≡ record old { requests = new.requests } → new ≡ record old { requests = new.requests; log = new.log }
with_log old new is = is ∙ ap (λ log. record old { requests = new.requests; log = log }) (sym (ap (λ (z : State). z.log) is))

stays : (k : ℕ) (old new : State) (event : Event) (reply : CoreReply) → IsOfOthers k event → Steps old event reply new → Stays k old new
stays k old new event (replies.Refused fault) of h = same_stays k old new h.1
stays k old new (events.Publish tables) (replies.Number n) of h = versions_stay k old new tables h.state
stays k old new (events.Publish tables) replies.Begun of h = absurd h
stays k old new (events.Publish tables) (replies.Asked it) of h = absurd h
stays k old new (events.Publish tables) (replies.Read allowed) of h = absurd h
stays k old new (events.Publish tables) replies.Ended of h = absurd h
stays k old new (events.Begin j context version) (replies.Number n) of h = absurd h
stays k old new (events.Begin j context version) replies.Begun of h =
    others_stay k j old new (Some (record { context = context; version = version; trace = [] })) (with_log old new h.rest) h.opens of
stays k old new (events.Begin j context version) (replies.Asked it) of h = absurd h
stays k old new (events.Begin j context version) (replies.Read allowed) of h = absurd h
stays k old new (events.Begin j context version) replies.Ended of h = absurd h
stays k old new (events.Ask j query why) (replies.Number n) of h = absurd h
stays k old new (events.Ask j query why) replies.Begun of h = absurd h
stays k old new (events.Ask j query why) (replies.Asked (asked.Answer rows)) of h =
    others_stay k j old new (Some (record h.recorded.asker { trace = h.recorded.asker.trace ++ record { query = query; rows = rows } ∷ [] })) h.recorded.rest h.recorded.trace of
stays k old new (events.Ask j query why) (replies.Asked asked.Blocked) of h = same_stays k old new h.1
stays k old new (events.Ask j query why) (replies.Read allowed) of h = absurd h
stays k old new (events.Ask j query why) replies.Ended of h = absurd h
stays k old new (events.Read j queries why) (replies.Number n) of h = absurd h
stays k old new (events.Read j queries why) replies.Begun of h = absurd h
stays k old new (events.Read j queries why) (replies.Asked it) of h = absurd h
stays k old new (events.Read j queries why) (replies.Read allowed) of h = same_stays k old new h.1
stays k old new (events.Read j queries why) replies.Ended of h = absurd h
stays k old new (events.Admit template) (replies.Number n) of h = templates_stay k old new template h.state
stays k old new (events.Admit template) replies.Begun of h = absurd h
stays k old new (events.Admit template) (replies.Asked it) of h = absurd h
stays k old new (events.Admit template) (replies.Read allowed) of h = absurd h
stays k old new (events.Admit template) replies.Ended of h = absurd h
stays k old new (events.End j) (replies.Number n) of h = absurd h
stays k old new (events.End j) replies.Begun of h = absurd h
stays k old new (events.End j) (replies.Asked it) of h = absurd h
stays k old new (events.End j) (replies.Read allowed) of h = absurd h
stays k old new (events.End j) replies.Ended of h = others_stay k j old new None (with_log old new h.rest) h.closes of

pub others_agree : OthersAgree
others_agree policy s k asker event reply new has of step =
    let it = stays k s new event reply of step in
    record {
      has = record {
        is_for = record { policy_is = it.policy_is ∙ has.is_for.policy_is; tables_are = it.versions asker.version asker.tables has.is_for.tables_are };
        is_open = it.request ∙ has.is_open;
      };
      found = λ number made found. record { each = λ query its one looked among. it.templates (number made.shard one.id) one.template (found.each query its one looked among) };
    }
