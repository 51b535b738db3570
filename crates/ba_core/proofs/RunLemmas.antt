-- Runs go on.
use Rattle.std.proofs.Common.{◌≡◌, ◌∙◌, List, [], ◌∷◌, ◌++◌, ap, refl, subst, sym}
use Rattle.std.proofs.lemmas.List.Elements.{All-head, All-tail}
use Rattle.std.specs.Prelude.{All}
use Rattle.ba_core.specs.Runs.{EventFits, IsStep, Runs, start, next}
use Rattle.ba_core.specs.State.{State}
use Rattle.ba_core.specs.Steps.{Steps}
use Rattle.ba_core.specs.declared.event.Asked.TheVariants.{Answer, Blocked}
use Rattle.ba_core.specs.declared.event.CoreReply.{CoreReply}
use Rattle.ba_core.specs.declared.event.CoreReply.TheVariants as replies
use Rattle.ba_core.specs.declared.event.Event.{Event}
use Rattle.ba_core.specs.declared.event.Event.TheVariants as events

-- no step changes the policy
policy_stays : (old new : State) (event : Event) (reply : CoreReply) → Steps old event reply new → new.policy ≡ old.policy
policy_stays old new event (replies.Refused fault) h = ap (λ (s : State). s.policy) h.1
policy_stays old new (events.Publish tables) (replies.Number n) h = ap (λ (s : State). s.policy) h.state
policy_stays old new (events.Publish tables) replies.Begun h = absurd h
policy_stays old new (events.Publish tables) (replies.Asked asked) h = absurd h
policy_stays old new (events.Publish tables) (replies.Read allowed) h = absurd h
policy_stays old new (events.Publish tables) replies.Ended h = absurd h
policy_stays old new (events.Begin k context version) (replies.Number n) h = absurd h
policy_stays old new (events.Begin k context version) replies.Begun h = ap (λ (s : State). s.policy) h.rest
policy_stays old new (events.Begin k context version) (replies.Asked asked) h = absurd h
policy_stays old new (events.Begin k context version) (replies.Read allowed) h = absurd h
policy_stays old new (events.Begin k context version) replies.Ended h = absurd h
policy_stays old new (events.Ask k query why) (replies.Number n) h = absurd h
policy_stays old new (events.Ask k query why) replies.Begun h = absurd h
policy_stays old new (events.Ask k query why) (replies.Asked (Answer rows)) h = ap (λ (s : State). s.policy) h.recorded.rest
policy_stays old new (events.Ask k query why) (replies.Asked Blocked) h = ap (λ (s : State). s.policy) h.1
policy_stays old new (events.Ask k query why) (replies.Read allowed) h = absurd h
policy_stays old new (events.Ask k query why) replies.Ended h = absurd h
policy_stays old new (events.Read k queries grounds) (replies.Number n) h = absurd h
policy_stays old new (events.Read k queries grounds) replies.Begun h = absurd h
policy_stays old new (events.Read k queries grounds) (replies.Asked asked) h = absurd h
policy_stays old new (events.Read k queries grounds) (replies.Read allowed) h = ap (λ (s : State). s.policy) h.1
policy_stays old new (events.Read k queries grounds) replies.Ended h = absurd h
policy_stays old new (events.Admit template) (replies.Number n) h = ap (λ (s : State). s.policy) h.state
policy_stays old new (events.Admit template) replies.Begun h = absurd h
policy_stays old new (events.Admit template) (replies.Asked asked) h = absurd h
policy_stays old new (events.Admit template) (replies.Read allowed) h = absurd h
policy_stays old new (events.Admit template) replies.Ended h = absurd h
policy_stays old new (events.End k) (replies.Number n) h = absurd h
policy_stays old new (events.End k) replies.Begun h = absurd h
policy_stays old new (events.End k) (replies.Asked asked) h = absurd h
policy_stays old new (events.End k) (replies.Read allowed) h = absurd h
policy_stays old new (events.End k) replies.Ended h = ap (λ (s : State). s.policy) h.rest

pub policy_of_run : (first : State) {es : List Event} {rs : List CoreReply} {last : State} → Runs first es rs last → last.policy ≡ first.policy
policy_of_run first start = refl
policy_of_run first (next {event = event} {reply = reply} {old = old} {new = new} runs step) = policy_stays old new event reply step.step ∙ policy_of_run first runs

-- what holds of all holds of the one in between
in_between : {X : Type 0} (P : X → Type 0) (xs zs : List X) (y : X) → All P (xs ++ y ∷ zs) → P y
in_between P [] zs y all = All-head P y zs all
in_between P (x ∷ xs) zs y all = in_between P xs zs y (All-tail P x (xs ++ y ∷ zs) all)

-- the next event of those that are left fits the machine as it stands
pub fits_next : (first last : State) (es given rest : List Event) (rs : List CoreReply) (event : Event) → Runs first given rs last → All (EventFits first.policy) es
    → es ≡ given ++ event ∷ rest → EventFits last.policy event
fits_next first last es given rest rs event runs all is =
    subst (λ p. EventFits p event) (sym (policy_of_run first runs)) (in_between (EventFits first.policy) given rest event (subst (All (EventFits first.policy)) is all))

-- one more step
pub goes_on : (first old new : State) (es : List Event) (rs more : List CoreReply) (event : Event) (reply : CoreReply) → Runs first es rs old → IsStep old event reply new
    → more ≡ rs ++ reply ∷ [] → Runs first (es ++ event ∷ []) more new
goes_on first old new es rs more event reply runs step is = subst (λ xs. Runs first (es ++ event ∷ []) xs new) (sym is) (next runs step)

-- before the first step
pub at_start : (first : State) (rs : List CoreReply) → rs ≡ [] → Runs first [] rs first
at_start first rs is = subst (λ xs. Runs first [] xs first) (sym is) start
