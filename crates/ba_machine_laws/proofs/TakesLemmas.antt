-- Events that a machine takes with these replies and no others, from any state that it may come to.
use Rattle.std.proofs.Common.{◌≡◌, ◌∙◌, List, [], ◌∷◌, ◌++◌, ap, append-nil, append_assoc, refl, subst, subst₂, sym}
use Rattle.ba_core.specs.Runs.{IsStep, Runs, start, next}
use Rattle.ba_core.specs.State.{State}
use Rattle.ba_core.specs.Steps.{Steps}
use Rattle.ba_core.specs.declared.event.CoreReply.{CoreReply}
use Rattle.ba_core.specs.declared.event.Event.{Event}
use Rattle.ba_machine_laws.specs.Journals.{IsRunFrom}

-- there is a step with this reply, and each step has it, and comes to a state where P holds
pub record TakesOne (P : State → Type 0) (t : State) (event : Event) (reply : CoreReply) : Type 0 where
  pub new : State
  pub step : IsStep t event reply new
  pub only : (other : CoreReply) (after : State) → Steps t event other after → other ≡ reply
  pub comes_to : (after : State) → Steps t event reply after → P after

-- the machine takes the events in turn with these replies and no others, whichever states it comes to, and P holds of the last one
abbrev pub Takes : (State → Type 0) → State → List Event → List CoreReply → Type 0
Takes P t [] [] = P t
Takes P t [] (reply ∷ rs) = ⊥
Takes P t (event ∷ es) [] = ⊥
Takes P t (event ∷ es) (reply ∷ rs) = TakesOne (λ after. Takes P after es rs) t event reply

module _ (P Q : State → Type 0) (es2 : List Event) (rs2 : List CoreReply) (later : (u : State) → P u → Takes Q u es2 rs2) where
  pub takes_both : (t : State) (es : List Event) (rs : List CoreReply) → Takes P t es rs → Takes Q t (es ++ es2) (rs ++ rs2)
  takes_both t [] [] h = later t h
  takes_both t [] (reply ∷ rs) h = absurd h
  takes_both t (event ∷ es) [] h = absurd h
  takes_both t (event ∷ es) (reply ∷ rs) h = record {
    new = h.new;
    step = h.step;
    only = h.only;
    comes_to = λ after step. takes_both after es rs (h.comes_to after step);
  }

-- what holds of the last state may be said otherwise
pub takes_weaker : (P Q : State → Type 0) → ((u : State) → P u → Q u) → (t : State) (es : List Event) (rs : List CoreReply) → Takes P t es rs → Takes Q t es rs
takes_weaker P Q weaker t [] [] h = weaker t h
takes_weaker P Q weaker t [] (reply ∷ rs) h = absurd h
takes_weaker P Q weaker t (event ∷ es) [] h = absurd h
takes_weaker P Q weaker t (event ∷ es) (reply ∷ rs) h = record {
  new = h.new;
  step = h.step;
  only = h.only;
  comes_to = λ after step. takes_weaker P Q weaker after es rs (h.comes_to after step);
}

-- ---- a run

-- a run so far, and what is taken from its last state on
runs_on : (P : State → Type 0) (first : State) (es2 : List Event) (rs2 : List CoreReply) (t : State) (es : List Event) (rs : List CoreReply) → Runs first es rs t → Takes P t es2 rs2 →
    (last : State) × Runs first (es ++ es2) (rs ++ rs2) last
runs_on P first [] [] t es rs so_far h = (t, subst₂ (λ xs ys. Runs first xs ys t) (sym (append-nil es)) (sym (append-nil rs)) so_far)
runs_on P first [] (reply ∷ rs2) t es rs so_far h = absurd h
runs_on P first (event ∷ es2) [] t es rs so_far h = absurd h
runs_on P first (event ∷ es2) (reply ∷ rs2) t es rs so_far h =
    let all = runs_on P first es2 rs2 h.new (es ++ event ∷ []) (rs ++ reply ∷ []) (next so_far h.step) (h.comes_to h.new h.step.step) in
    (all.0, subst₂ (λ xs ys. Runs first xs ys all.0) (append_assoc es (event ∷ []) es2) (append_assoc rs (reply ∷ []) rs2) all.1)

-- the same runs, told from their first event on
abbrev Fronts : State → List Event → List CoreReply → State → Type 0
Fronts s [] rs last = (rs ≡ []) × (last ≡ s)
Fronts s (event ∷ es) rs last =
    (reply : CoreReply) × (mid : State) × (more : List CoreReply) × Steps s event reply mid × Fronts mid es more last × (rs ≡ reply ∷ more)

one_more : (s old new : State) (es : List Event) (rs : List CoreReply) (event : Event) (reply : CoreReply) → Fronts s es rs old → Steps old event reply new →
    Fronts s (es ++ event ∷ []) (rs ++ reply ∷ []) new
one_more s old new [] rs event reply (none, same) step =
    (reply, new, [], subst (λ z. Steps z event reply new) same step, (refl, refl), ap (λ xs. xs ++ reply ∷ []) none)
one_more s old new (first ∷ es) rs event reply (it, mid, more, begins, rest, are) step =
    (it, mid, more ++ reply ∷ [], begins, one_more mid old new es more event reply rest step, ap (λ xs. xs ++ reply ∷ []) are)

fronts : (s : State) {es : List Event} {rs : List CoreReply} {last : State} → Runs s es rs last → Fronts s es rs last
fronts s start = (refl, refl)
fronts s (next {events = es} {replies = rs} {event = event} {reply = reply} {old = old} {new = new} runs step) = one_more s old new es rs event reply (fronts s runs) step.step

no_others : (P : State → Type 0) (t : State) (es : List Event) (rs : List CoreReply) → Takes P t es rs → (others : List CoreReply) (end : State) → Fronts t es others end → others ≡ rs
no_others P t [] [] h others end front = front.0
no_others P t [] (reply ∷ rs) h others end front = absurd h
no_others P t (event ∷ es) [] h others end front = absurd h
no_others P t (event ∷ es) (reply ∷ rs) h others end (it, mid, more, step, rest, are) =
    let same = h.only it mid step in
    are ∙ (λ i. same i ∷ no_others P mid es rs (h.comes_to mid (subst (λ r. Steps t event r mid) same step)) more end rest i)

-- what is taken is a run, which has no other replies
pub run_from : (P : State → Type 0) (first : State) (es : List Event) (rs : List CoreReply) → Takes P first es rs → IsRunFrom first es rs
run_from P first es rs h =
    let all = runs_on P first es rs first [] [] start h in
    record { last = all.0; run = record { runs = all.1; only = λ others end runs. no_others P first es rs h others end (fronts first runs) } }
