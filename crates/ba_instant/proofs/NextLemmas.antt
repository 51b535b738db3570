-- What a search does next, and how it ends.
use Rattle.std.proofs.Common.{◌≡◌, ◌∙◌, ℕ, zero, suc, ◌+◌, ◌<◌, ◌≤◌, Bool, true, false, inl, inr, [], ◌∷◌, ◌++◌, get_or, length, map, refl, sym, ap, subst, arith, List}
use Rattle.std.proofs.lemmas.Option.{slice_get-get_or, slice_get_within}
use Rattle.std.proofs.lemmas.List.{length-set}
use Rattle.std.specs.Cmp.{nat_cmp_is, upto}
use Rattle.std.specs.Option.{option_cmp}
use Rattle.std.specs.Ordering.{is_gt, nat_cmp, ordering_then}
use Rattle.std.specs.declared.cmp.Ordering.TheVariants.{Less, Greater}
use Rattle.std.specs.Prelude.{◌≢◌, Contains, IfOk, IsTrue, Option, Some, None, Result, Ok, Err, min, option_and_then, slice_get, slice_set}
use Rattle.std.specs.declared.alloc.AllocError.{AllocError}
use Rattle.ba_facts.proofs.PlaceLemmas.{upto as up_to_bound}
use Rattle.ba_facts.specs.declared.branch.Branch.{Branch}
use Rattle.ba_kernel.proofs.NewLemmas.{all_at}
use Rattle.ba_kernel.specs.Courses.{AllClosed, IsOpen, IsStart, ProblemFits, Slots, Takes, after, branch_of}
use Rattle.ba_kernel.specs.News.{IsNewOn}
use Rattle.ba_kernel.specs.Steps.{IsRound}
use Rattle.ba_kernel.specs.SearchStates.{Course, IsPassed, PassesAt, open_at}
use Rattle.ba_kernel.specs.declared.problem.Problem.{Problem}
use Rattle.ba_kernel.specs.declared.step.Step.{Step}
use Rattle.ba_instant.proofs.ChaseLemmas.{open_is}
use Rattle.ba_instant.proofs.AfterSplitLemmas.{first_quiet, other_quiet, quiet_zero}
use Rattle.ba_instant.proofs.AgendaLemmas.{none_is_agenda, older_on}
use Rattle.ba_instant.proofs.DueLemmas.{gt_false, new_in, not_greater, one_open}
use Rattle.ba_instant.proofs.KeepLemmas.{more_facts, new_after_quiet_step, stays_silent}
use Rattle.ba_instant.proofs.OfferLemmas.{not_behind}
use Rattle.ba_instant.proofs.RoundLemmas.{round_once}
use Rattle.ba_settle.proofs.OrderLemmas.{pick_total}
use Rattle.ba_settle.proofs.SearchLemmas.{runs_of}
use Rattle.ba_settle.specs.Dues.{Ends, HasNew, HaveNewBelow, IsDueStep, IsSaturated, Searches}
use Rattle.ba_instant.specs.Agendas.{AreInTurn, AreOlder, IsAgenda, IsAgendaAt, IsListed, IsNone, IsSilent, MOST_ROUND}
use Rattle.ba_instant.specs.Loose.{IsQuietBeside}
use Rattle.ba_instant.specs.Nexts.{AreQuietBeside, IsQuietRound, AreWaiting, ComesLater, IsFirstBelow, IsCarriedOn, IsLeafOf, IsLeastSaturated, IsAgendaAfter, IsPickedBelow, IsQuietAt, IsTaken, PassesBranch, SaturatedAt, Waits, first_step}
use Rattle.ba_instant.specs.ToldSteps.{AreRemembered}
use Rattle.ba_instant.specs.Offers.{IsDueIfAny, IsDueOn, IsRoundAt, IsTelling, first_by}
use Rattle.ba_instant.specs.QuietSteps.{AddsToOneAt, TakesQuietly}
use Rattle.ba_settle.specs.Order.{atom_cmp, numbers_cmp, pick_cmp, step_atom, step_cmp, step_rank}
use Rattle.ba_instant.specs.declared.waiting.Waiting.{Waiting}
use Rattle.ba_instant.specs.declared.agenda.Agenda.{Agenda}
use Rattle.ba_instant.specs.declared.due.Due.{Due}
use Rattle.ba_settle.specs.declared.ends.Settled.{Settled}
use Rattle.ba_settle.specs.declared.ends.Settled.TheVariants as settled
use Rattle.ba_settle.specs.declared.order.Pick.{Pick}
use Rattle.ba_settle.specs.declared.order.Pick.TheVariants.{First, Last}

-- ---- branches

slot_is : (found : Option (Option Branch)) (b : Branch) → option_and_then (λ slot. slot) found ≡ Some b → found ≡ Some (Some b)
slot_is None b e = cc
slot_is (Some None) b e = cc
slot_is (Some (Some d)) b e = ap Some e

pub open_back : (slots : Slots) (n : ℕ) (b : Branch) → open_at slots n ≡ Some b → IsOpen slots n b
open_back slots n b e = slot_is (slice_get slots n) b e

not_open : (slots : Slots) (n : ℕ) (b : Branch) → open_at slots n ≡ None → IsOpen slots n b → ⊥
not_open slots n b none h = let wrong : Some b ≡ None = sym (open_is slots n b h) ∙ none in cc

branch_first : (one other : Step) → branch_of one < branch_of other → pick_cmp First one other ≢ Greater
unfolding pick_cmp step_cmp
branch_first one other less e =
    let before : nat_cmp (branch_of one) (branch_of other) ≡ Less = sym (nat_cmp_is (branch_of one) (branch_of other) Less less) in
    let wrong : Less ≡ Greater =
    sym (ap (λ o. ordering_then (ordering_then (ordering_then o (nat_cmp (step_rank one) (step_rank other))) (numbers_cmp one other)) (option_cmp atom_cmp (step_atom one) (step_atom other))) before) ∙ e in
    cc

module _ (pick : Pick) (c : Course) (n : ℕ) where
  -- the branch isn't open
  pub passes_closed : (first : Option Due) → open_at c.slots n ≡ None → PassesBranch pick c n first first
  passes_closed first none = record { has = λ b h. absurd (not_open c.slots n b none h); first = more first }
    where
      more : (first : Option Due) → IsFirstBelow pick c n first → IsFirstBelow pick c (n + 1) first
      more None h = λ number b below is. elim (up_to_bound number n below) [
        | inl less ↦ h number b less is
        | inr same ↦ not_open c.slots n b none (subst (λ m. IsOpen c.slots m b) same is)
      ]
      more (Some it) h = record {
        below = omega (arith, h.below);
        due = h.due;
        first = λ other below due. elim (up_to_bound (branch_of other) n below) [
          | inl less ↦ h.first other less due
          | inr same ↦ absurd (not_open c.slots n due.branch none (subst (λ m. IsOpen c.slots m due.branch) same due.open_))
        ];
        round_is = h.round_is;
        agenda = h.agenda;
      }

  -- the branch has a new step, and comes after that of the step that was found
  pub passes_later : (first : Option Due) → ComesLater pick first → ((b : Branch) → IsOpen c.slots n b → HasNew c.problem n b) → PassesBranch pick c n first first
  passes_later first later has = record { has = has; first = more pick first later }
    where
      more : (pick : Pick) (first : Option Due) → ComesLater pick first → IsFirstBelow pick c n first → IsFirstBelow pick c (n + 1) first
      more First (Some it) later h = record {
        below = omega (arith, h.below);
        due = h.due;
        first = λ other below due. elim (up_to_bound (branch_of other) n below) [
          | inl less ↦ h.first other less due
          | inr same ↦ branch_first it.found.step other (let before = h.below in omega (arith, before, same))
        ];
        round_is = h.round_is;
        agenda = h.agenda;
      }
      more First None later h = absurd later
      more Last (Some it) later h = absurd later
      more Last None later h = absurd later

  pub passes_waiting : (waiting : Waiting) (first : Option Due) → ComesLater pick first → Waits waiting n → AreWaiting pick c waiting → PassesBranch pick c n first first
  passes_waiting waiting first later waits are = passes_later first later (λ b is. are.waits n b waits.0 waits.1 is)

  -- it has a due step, and an agenda
  module _ (of : Due) (it : IsDueOn c pick n of.found) (agenda : IsAgendaAt pick c n of.agenda) where
    pub has_new : (b : Branch) → IsOpen c.slots n b → HasNew c.problem n b
    has_new b h =
        let same : it.due.branch ≡ b = one_open c.slots n it.due.branch b (subst (λ m. IsOpen c.slots m it.due.branch) it.on it.due.open_) h in
        record { step = of.found.step; on = it.on; new_ = subst (λ d. IsNewOn c.problem d of.found.step) same it.due.new_ }

    its_agenda : IsAgendaAt pick c (branch_of of.found.step) of.agenda
    its_agenda = subst (λ m. IsAgendaAt pick c m of.agenda) (sym it.on) agenda

    kept : (best : Due) (b : Bool) → is_gt (pick_cmp pick best.found.step of.found.step) ≡ b → IsPickedBelow pick c n best → IsFirstBelow pick c (n + 1) (first_by b best of)
    kept best false e h = record {
      below = omega (arith, h.below);
      due = h.due;
      first = λ other below due. elim (up_to_bound (branch_of other) n below) [
        | inl less ↦ h.first other less due
        | inr same ↦
            not_greater (pick_cmp pick best.found.step other)
            (upto (pick_total pick) best.found.step of.found.step other e (gt_false (pick_cmp pick of.found.step other) (it.first other same due)))
      ];
      round_is = h.round_is;
      agenda = h.agenda;
    }
    kept best true e h =
        let less : is_gt (pick_cmp pick of.found.step best.found.step) ≡ false =
        ap is_gt ((pick_total pick).antisymm of.found.step best.found.step) ∙ not_behind (pick_cmp pick best.found.step of.found.step) e in
        record {
          below = omega (arith, it.on);
          due = it.due;
          first = λ other below due. elim (up_to_bound (branch_of other) n below) [
            | inl before ↦
                not_greater (pick_cmp pick of.found.step other)
                (upto (pick_total pick) of.found.step best.found.step other less (gt_false (pick_cmp pick best.found.step other) (h.first other before due)))
            | inr same ↦ it.first other same due
          ];
          round_is = it.round_is;
          agenda = its_agenda;
        }

    picked_more : (first : Option Due) → IsFirstBelow pick c n first → IsFirstBelow pick c (n + 1) (first_step pick first of)
    picked_more None h = record {
      below = omega (arith, it.on);
      due = it.due;
      first = λ other below due. elim (up_to_bound (branch_of other) n below) [
        | inl less ↦ absurd (h (branch_of other) due.branch less due.open_)
        | inr same ↦ it.first other same due
      ];
      round_is = it.round_is;
      agenda = its_agenda;
    }
    picked_more (Some best) h = kept best (is_gt (pick_cmp pick best.found.step of.found.step)) refl h

    pub passes_due : (old new : Option Due) → new ≡ first_step pick old of → PassesBranch pick c n old new
    passes_due old new is = record { has = has_new; first = λ h. subst (IsFirstBelow pick c (n + 1)) (sym is) (picked_more old h) }

  pub saturated_at : (b : Branch) → IsOpen c.slots n b → IsDueIfAny c pick n None → SaturatedAt c n
  saturated_at b open_ none = record { branch = b; saturated = record { open_ = open_; none_new = λ step on new. none step on (new_in c n b open_ step on new) } }

  -- ---- the branches so far

  pub news_more : (old new : Option Due) → PassesBranch pick c n old new → HaveNewBelow c.problem c.slots n → HaveNewBelow c.problem c.slots (n + 1)
  news_more old new h before number b below is = elim (up_to_bound number n below) [
    | inl less ↦ before number b less is
    | inr same ↦ subst (λ m. HasNew c.problem m b) (sym same) (h.has b (subst (λ m. IsOpen c.slots m b) same is))
  ]

  pub least_saturated : SaturatedAt c n → HaveNewBelow c.problem c.slots n → IsLeastSaturated c n
  least_saturated h before = record { branch = h.branch; saturated = h.saturated; least = before }

  pub all_taken : (due : Due) → length c.slots ≤ n → HaveNewBelow c.problem c.slots n → IsPickedBelow pick c n due → IsTaken pick c due
  all_taken due past before h = record {
    each = λ number b below is. before number b (omega (arith, past, below)) is;
    picked = record {
      due = h.due;
      first = λ other due.
          let below : branch_of other < length c.slots = slice_get_within c.slots (branch_of other) (Some due.branch) due.open_ in
          h.first other (omega (arith, past, below)) due;
    };
    round_is = h.round_is;
    agenda = h.agenda;
  }

  pub all_closed : length c.slots ≤ n → ((number : ℕ) (b : Branch) → number < n → IsOpen c.slots number b → ⊥) → AllClosed c.slots
  all_closed past none k d below = at (get_or c.slots k d) (slice_get-get_or c.slots k d below)
    where
      at : (slot : Option Branch) → slice_get c.slots k ≡ Some slot → slot ≡ None
      at None e = refl
      at (Some b) e = absurd (none k b (omega (arith, past, below)) e)

-- ---- a step that is taken

elsewhere : {X : Type 0} (xs : List X) (n m : ℕ) (y : X) → (m ≡ n → ⊥) → slice_get (slice_set xs n y) m ≡ slice_get xs m
elsewhere [] n m y other = refl
elsewhere (z ∷ xs) zero zero y other = absurd (other refl)
elsewhere (z ∷ xs) zero (suc m) y other = refl
elsewhere (z ∷ xs) (suc n) zero y other = refl
elsewhere (z ∷ xs) (suc n) (suc m) y other = elsewhere xs n m y (λ same. other (ap suc same))

in_front : {X : Type 0} (xs ys : List X) (m : ℕ) → m < length xs → slice_get (xs ++ ys) m ≡ slice_get xs m
in_front [] ys m below = absurd (let no : ⊥ = omega (arith, below) in no)
in_front (x ∷ xs) ys zero below = refl
in_front (x ∷ xs) ys (suc m) below = in_front xs ys m (omega (arith, below))

-- a branch of another number was open before
pub was_open : (slots : Slots) (n m : ℕ) (cases : List Branch) (b : Branch) → m < length slots → (m ≡ n → ⊥) → IsOpen (after slots n cases) m b → IsOpen slots m b
was_open slots n m [] b below other e = sym (elsewhere slots n m None other) ∙ e
was_open slots n m (first ∷ others) b below other e =
    let same : length (slice_set slots n (Some first)) ≡ length slots = length-set slots n (Some first) in
    sym (elsewhere slots n m (Some first) other) ∙ (sym (in_front (slice_set slots n (Some first)) (map Some others) m (omega (arith, below, same))) ∙ e)

module _ (pick : Pick) (c : Course) (of : Due) (it : IsTaken pick c of) where
  abbrev step : Step
  step = of.found.step

  pub passed : IsPassed c step
  passed =
      let due = it.picked.due in
      subst (λ at. PassesAt c.problem at step) (sym (open_is c.slots (branch_of step) due.branch due.open_)) due.new_.passes

  pub searches_on : (new : Course) → Searches pick c.problem c.steps c.slots → Takes c.problem c.slots step new.slots → new.steps ≡ c.steps ++ step ∷ [] →
      new.problem ≡ c.problem → Searches pick new.problem new.steps new.slots
  searches_on new before takes steps_are problem_is =
      subst (λ p. Searches pick p new.steps new.slots) (sym problem_is)
      (subst (λ taken. Searches pick c.problem taken new.slots) (sym steps_are) (Searches.next before it.each it.picked takes))

  -- ---- what is known of the branches after it

  module _ (fits : ProblemFits c.problem) (searches : Searches pick c.problem c.steps c.slots) where
    abbrev due : IsDueStep c.problem c.slots step
    due = it.picked.due

    due_round : of.found.round ≡ due.round
    due_round =
        round_once c.problem due.branch step of.found.round due.round
        (subst (λ at. IsRoundAt c.problem at step of.found.round) (open_is c.slots (branch_of step) due.branch due.open_) it.round_is) due.round_is

    -- what is known of the branch before a quiet step is known after it
    module _ (new : Course) (b : Branch) (takes : Takes c.problem c.slots step new.slots) (to : IsOpen new.slots (branch_of step) b)
        (quiet : IsQuietAt c.problem (open_at c.slots (branch_of step)) step) where
      taken_quietly : TakesQuietly c.problem c.steps step c.slots new.slots due.branch b due.round
      taken_quietly = record {
        runs = runs_of pick c.problem c.steps c.slots searches;
        takes = takes;
        from = due.open_;
        to = to;
        quiet = subst (λ at. IsQuietAt c.problem at step) (open_is c.slots (branch_of step) due.branch due.open_) quiet;
        round_is = due.round_is;
      }

      was : IsAgenda pick c.problem (branch_of step) due.branch of.agenda
      was = it.agenda.of due.branch due.open_

      -- what is new after it was so before, so that it is listed
      listed_after : of.agenda.round ≤ of.found.round → (other : Step) (round : ℕ) → IsTelling (branch_of step) other → IsNewOn c.problem b other → IsRound c.problem b other round →
          round ≤ of.agenda.round → (round ≡ of.agenda.round) × IsListed pick of.agenda.steps.items other
      listed_after low other round telling is_new round_is early =
          let before =
          new_after_quiet_step c.problem c.steps step c.slots new.slots due.branch b due.round other round fits taken_quietly telling is_new round_is (omega (arith, early, low, due_round)) in
          was.listed other round telling before.0 before.1 early

      -- the facts that were there are
      older_after : (end bound : ℕ) → AreOlder due.branch end bound → AreOlder b end bound
      older_after end bound h =
          let more = more_facts c.problem c.steps step c.slots new.slots due.branch b due.round fits taken_quietly in
          older_on due.branch b end bound more.0 more.1 h

      silent_after : AddsToOneAt (open_at c.slots (branch_of step)) step → IsTrue of.agenda.silent → IsSilent c.problem (branch_of step) b
      silent_after adds told =
          stays_silent c.problem c.steps step c.slots new.slots due.branch b due.round fits taken_quietly
          (subst (λ at. AddsToOneAt at step) (open_is c.slots (branch_of step) due.branch due.open_) adds) (was.silent told)

    kept_after : (new : Course) (left : Agenda) (b : Branch) → Takes c.problem c.slots step new.slots → IsOpen new.slots (branch_of step) b → IsCarriedOn c of left →
        IsAgenda pick c.problem (branch_of step) b left
    kept_after new left b takes to h =
        let before = it.agenda.of due.branch due.open_ in
        let round_is = h.round_is in
        record {
          on = λ other in_. before.on other (subst (λ xs. Contains xs other) h.steps_are in_);
          in_turn = subst (AreInTurn pick) (sym h.steps_are) before.in_turn;
          listed = λ other round telling is_new its early.
              let at = listed_after new b takes to h.quiet h.low other round telling is_new its (omega (arith, early, round_is)) in
              (at.0 ∙ sym round_is, subst (λ xs. IsListed pick xs other) (sym h.steps_are) at.1);
          older = subst (λ end. AreOlder b end (min left.round MOST_ROUND)) (sym h.older_is)
              (subst (λ round. AreOlder b of.agenda.older (min round MOST_ROUND)) (sym round_is) (older_after new b takes to h.quiet of.agenda.older (min of.agenda.round MOST_ROUND) before.older));
          silent = λ told. let both = h.silent told in silent_after new b takes to h.quiet both.1 both.0;
        }

    agenda_after : (new : Course) (left : Agenda) (b : Branch) → Takes c.problem c.slots step new.slots → IsOpen new.slots (branch_of step) b → IsAgendaAfter c of left →
        IsAgenda pick c.problem (branch_of step) b left
    agenda_after new left b takes to (inl none) = none_is_agenda pick c.problem (branch_of step) b left none
    agenda_after new left b takes to (inr kept) = kept_after new left b takes to kept

    -- all other branches are as before
    pub waiting_after : (new : Course) (waiting : Waiting) (left : Agenda) → waiting.below ≡ length c.slots → waiting.but ≡ branch_of step → waiting.agenda ≡ left → IsNone waiting.next → IsAgendaAfter c of left →
        Takes c.problem c.slots step new.slots → new.problem ≡ c.problem → AreRemembered new waiting.memory → AreWaiting pick new waiting
    waiting_after new waiting left below_is but_is agenda_is next_is h takes problem_is memory = record {
      memory = memory;
      next = record { of = λ b is. none_is_agenda pick new.problem waiting.below b waiting.next next_is };
      waits = λ number b below other is.
          let less : number < length c.slots = omega (arith, below, below_is) in
          let open_ : IsOpen c.slots number b =
          was_open c.slots (branch_of step) number takes.cases b less (λ same. other (same ∙ sym but_is)) (subst (λ slots. IsOpen slots number b) takes.new_is is) in
          subst (λ p. HasNew p number b) (sym problem_is) (it.each number b less open_);
      agenda = record {
        of = λ b is.
            let to : IsOpen new.slots (branch_of step) b = subst (λ m. IsOpen new.slots m b) but_is is in
            subst (λ p. IsAgenda pick p waiting.but b waiting.agenda) (sym problem_is)
            (subst (λ m. IsAgenda pick c.problem m b waiting.agenda) (sym but_is)
            (subst (IsAgenda pick c.problem (branch_of step) b) (sym agenda_is) (agenda_after new left b takes to h)));
      };
    }

    -- both branches of a loose split are quiet up to the round before it
    pub quiet_after : (new : Course) (waiting : Waiting) (round : ℕ) → waiting.below ≡ length c.slots → waiting.but ≡ branch_of step → IsQuietRound c of.found round →
        Takes c.problem c.slots step new.slots → new.problem ≡ c.problem → AreQuietBeside new waiting round
    quiet_after new waiting round below_is but_is (inl none) takes problem_is = record {
      first = λ b is. subst (IsQuietBeside new.problem b waiting.but) (sym none) (quiet_zero new.problem b waiting.but);
      other = λ b is. subst (IsQuietBeside new.problem b waiting.below) (sym none) (quiet_zero new.problem b waiting.below);
    }
    quiet_after new waiting round below_is but_is (inr loose) takes problem_is = record {
      first = λ b is. subst (λ p. IsQuietBeside p b waiting.but round) (sym problem_is) (first_quiet c new of.found round due due_round takes loose waiting.but b but_is is);
      other = λ b is. subst (λ p. IsQuietBeside p b waiting.below round) (sym problem_is) (other_quiet c new of.found round due due_round takes loose waiting.below b below_is is);
    }

  some_open : ¬ (AllClosed c.slots)
  some_open all =
      let due = it.picked.due in
      let wrong : Some due.branch ≡ None = all_at (λ slot. slot ≡ None) c.slots (branch_of step) (Some due.branch) all due.open_ in
      cc

-- ---- the ends

module _ (pick : Pick) (budget : ℕ) (c : Course) (searches : Searches pick c.problem c.steps c.slots) where
  pub ends_spent : (step : Due) (it : Settled) → IsTaken pick c step → length c.steps ≡ budget → it ≡ settled.Spent c.steps → Ends pick c.problem budget it
  ends_spent step it taken spent is =
      subst (Ends pick c.problem budget) (sym is)
      (record { slots = c.slots; searches = searches; spent = spent; some_open = some_open pick c step taken; each = taken.each })

  pub ends_closed : (it : Settled) → AllClosed c.slots → length c.steps ≤ budget → it ≡ settled.Proved (record { problem = c.problem; steps = c.steps }) → Ends pick c.problem budget it
  ends_closed it closed few is =
      subst (Ends pick c.problem budget) (sym is) (record { problem_is = refl; slots = c.slots; searches = searches; few = few; closed = closed })

  pub ends_saturated : (number : ℕ) (it : Settled) → IsLeastSaturated c number → length c.steps ≤ budget → IsLeafOf c number it → Ends pick c.problem budget it
  ends_saturated number (settled.Proved proof) h few leaf = absurd leaf
  ends_saturated number (settled.Spent taken) h few leaf = absurd leaf
  ends_saturated number (settled.Saturated it) h few leaf =
      let same : h.branch ≡ it.branch = one_open c.slots number h.branch it.branch h.saturated.open_ (open_back c.slots number it.branch leaf.branch_is) in
      record {
        problem_is = leaf.problem_is;
        slots = c.slots;
        searches = subst (λ taken. Searches pick c.problem taken c.slots) (sym leaf.steps_are) searches;
        few = subst (λ taken. length taken ≤ budget) (sym leaf.steps_are) few;
        number = number;
        saturated = subst (IsSaturated c.problem c.slots number) same h.saturated;
        least = h.least;
      }

-- ---- answers

if_ok_as : (P Q : Settled → Type 0) (r : Result Settled AllocError) → ((it : Settled) → P it → Q it) → IfOk r P → IfOk r Q
if_ok_as P Q (Ok it) to h = to it h
if_ok_as P Q (Err e) to h = h

pub none_waits : (pick : Pick) (c : Course) (waiting : Waiting) → waiting.below ≡ 0 → IsNone waiting.agenda → IsNone waiting.next → AreRemembered c waiting.memory → AreWaiting pick c waiting
none_waits pick c waiting below none next memory = record {
  memory = memory;
  next = record { of = λ b is. none_is_agenda pick c.problem waiting.below b waiting.next next };
  waits = λ number b less other is. absurd (let no : ⊥ = omega (arith, less, below) in no);
  agenda = record { of = λ b is. none_is_agenda pick c.problem waiting.but b waiting.agenda none };
}

-- any branch has the agenda without steps
pub none_at : (pick : Pick) (c : Course) (number : ℕ) (agenda : Agenda) → IsNone agenda → IsAgendaAt pick c number agenda
none_at pick c number agenda none = record { of = λ b is. none_is_agenda pick c.problem number b agenda none }

pub agenda_at : (pick : Pick) (c : Course) (number : ℕ) (b : Branch) (agenda : Agenda) → IsOpen c.slots number b → IsAgenda pick c.problem number b agenda → IsAgendaAt pick c number agenda
agenda_at pick c number b agenda open_ is = record { of = λ d other. subst (λ x. IsAgenda pick c.problem number x agenda) (one_open c.slots number b d open_ other) is }

-- the one that doesn't wait has its own
pub agenda_on : (waiting : Waiting) (number : ℕ) (agenda : Agenda) (pick : Pick) (c : Course) → number ≡ waiting.but → agenda ≡ waiting.agenda → AreWaiting pick c waiting →
    IsAgendaAt pick c number agenda
agenda_on waiting number agenda pick c on is are = subst (λ m. IsAgendaAt pick c m agenda) (sym on) (subst (IsAgendaAt pick c waiting.but) (sym is) are.agenda)

-- so has the one at the bound
pub next_on : (waiting : Waiting) (number : ℕ) (agenda : Agenda) (pick : Pick) (c : Course) → number ≡ waiting.below → agenda ≡ waiting.next → AreWaiting pick c waiting →
    IsAgendaAt pick c number agenda
next_on waiting number agenda pick c on is are = subst (λ m. IsAgendaAt pick c m agenda) (sym on) (subst (IsAgendaAt pick c waiting.below) (sym is) are.next)

-- the same branches wait with other agendas of theirs
pub waits_with : (old new : Waiting) (pick : Pick) (c : Course) → new.below ≡ old.below → new.but ≡ old.but → IsAgendaAt pick c new.but new.agenda → IsAgendaAt pick c new.below new.next →
    new.memory ≡ old.memory → AreWaiting pick c old → AreWaiting pick c new
waits_with old new pick c below_is but_is agenda next memory_is are = record {
  memory = subst (AreRemembered c) (sym memory_is) are.memory;
  waits = λ number b below other is. are.waits number b (omega (arith, below, below_is)) (λ same. other (same ∙ sym but_is)) is;
  agenda = agenda;
  next = next;
}

-- the same branches wait without the agenda
pub waits_on : (old new : Waiting) (pick : Pick) (c : Course) → new.below ≡ old.below → new.but ≡ old.but → IsNone new.agenda → new.next ≡ old.next → new.memory ≡ old.memory → AreWaiting pick c old →
    AreWaiting pick c new
waits_on old new pick c below_is but_is none next_is memory_is are =
    waits_with old new pick c below_is but_is (none_at pick c new.but new.agenda none) (next_on old new.below new.next pick c below_is next_is are) memory_is are

-- or without that of the branch at the bound
pub waits_without_next : (old new : Waiting) (pick : Pick) (c : Course) → new.below ≡ old.below → new.but ≡ old.but → IsNone new.next → new.agenda ≡ old.agenda → new.memory ≡ old.memory → AreWaiting pick c old →
    AreWaiting pick c new
waits_without_next old new pick c below_is but_is none agenda_is memory_is are =
    waits_with old new pick c below_is but_is (agenda_on old new.but new.agenda pick c but_is agenda_is are) (none_at pick c new.below new.next none) memory_is are

pub searches_start : (pick : Pick) (c : Course) (p : Problem) → c.problem ≡ p → c.steps ≡ [] → IsStart p c.slots → Searches pick c.problem c.steps c.slots
searches_start pick c p problem_is none start =
    subst (λ q. Searches pick q c.steps c.slots) (sym problem_is) (subst (λ taken. Searches pick p taken c.slots) (sym none) (Searches.start start))

module _ (pick : Pick) (budget : ℕ) (c : Course) (p : Problem) (problem_is : c.problem ≡ p) (searches : Searches pick c.problem c.steps c.slots) where
  of_problem : (it : Settled) → Ends pick c.problem budget it → Ends pick p budget it
  of_problem it h = subst (λ q. Ends pick q budget it) problem_is h

  pub may_spend : (step : Due) (r : Result Settled AllocError) → IsTaken pick c step → length c.steps ≡ budget → IfOk r (λ it. it ≡ settled.Spent c.steps) → IfOk r (Ends pick p budget)
  may_spend step r h spent = if_ok_as (λ it. it ≡ settled.Spent c.steps) (Ends pick p budget) r (λ it same. of_problem it (ends_spent pick budget c searches step it h spent same))

  pub may_saturate : (number : ℕ) (r : Result Settled AllocError) → IsLeastSaturated c number → length c.steps ≤ budget → IfOk r (IsLeafOf c number) → IfOk r (Ends pick p budget)
  may_saturate number r h few = if_ok_as (IsLeafOf c number) (Ends pick p budget) r (λ it leaf. of_problem it (ends_saturated pick budget c searches number it h few leaf))

  pub may_close : (it : Settled) → AllClosed c.slots → length c.steps ≤ budget → it ≡ settled.Proved (record { problem = c.problem; steps = c.steps }) → Ends pick p budget it
  may_close it closed few is = of_problem it (ends_closed pick budget c searches it closed few is)

pub ends_of : (pick : Pick) (budget : ℕ) (c : Course) (p : Problem) → c.problem ≡ p → length c.steps ≡ budget → (r : Result Settled AllocError) → IfOk r (Ends pick c.problem (length c.steps)) →
    IfOk r (Ends pick p budget)
ends_of pick budget c p problem_is spent r h = subst (λ q. IfOk r (Ends pick q budget)) problem_is (subst (λ n. IfOk r (Ends pick c.problem n)) spent h)

pub least_open : (c : Course) (number : ℕ) → IsLeastSaturated c number → open_at c.slots number ≢ None
least_open c number h none = let wrong : Some h.branch ≡ None = sym (open_is c.slots number h.branch h.saturated.open_) ∙ none in cc
