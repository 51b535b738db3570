-- The new steps of the least round of a set, and of more and more sets.
use Rattle.std.proofs.Common.{◌≡◌, ◌∙◌, ℕ, ◌+◌, ◌<◌, ◌≤◌, ◌⊎◌, Bool, true, false, inl, inr, [], refl, sym, ap, subst, arith}
use Rattle.std.proofs.lemmas.Bool.{cases_lt as below_or}
use Rattle.std.proofs.lemmas.List.Elements.{Contains-append_left, Contains-push, Contains-push_cases}
use Rattle.std.specs.Cmp.{ranked, tied_itself, upto}
use Rattle.std.specs.Ordering.{is_gt, nat_cmp, ordering_reverse}
use Rattle.std.specs.declared.cmp.Ordering.{Ordering}
use Rattle.std.specs.declared.cmp.Ordering.TheVariants.{Less, Equal, Greater}
use Rattle.std.specs.Prelude.{◌≢◌, ◌∷◌, IsTrue, Option, Some, None}
use Rattle.ba_model.proofs.ElementLemmas.{Contains-nil}
use Rattle.ba_kernel.specs.Courses.{branch_of}
use Rattle.ba_kernel.specs.News.{IsNewRound}
use Rattle.ba_kernel.specs.SearchStates.{Course, open_at}
use Rattle.ba_kernel.specs.declared.step.Step.{Step}
use Rattle.ba_facts.proofs.PlaceLemmas.{upto as up_to_bound}
use Rattle.ba_settle.proofs.OrderLemmas.{pick_total}
use Rattle.ba_instant.proofs.RoundLemmas.{is_new, not_new, round_at_once}
use Rattle.ba_settle.specs.Order.{pick_cmp}
use Rattle.ba_instant.specs.Offers.{Improves, IsNewOf, IsHeld, IsNewIn, IsOffered, IsRoundIn, IsWholeBatch, HasSooner, OfAny, Offers, Reaches, Upto, batch_of, empty_batch, first_by, first_single, is_single, with_found, with_found_by, with_step, with_step_by}
use Rattle.ba_instant.specs.declared.batch.Batch.{Batch}
use Rattle.ba_instant.specs.declared.scan.NewStep.{NewStep}
use Rattle.ba_settle.specs.declared.order.Pick.{Pick}

pub not_behind : (r : Ordering) → is_gt r ≡ true → is_gt (ordering_reverse r) ≡ false
not_behind Less e = let wrong : false ≡ true = e in cc
not_behind Equal e = refl
not_behind Greater e = refl

inside_inj : {X : Type 0} (x y : X) → Some x ≡ Some y → x ≡ y
inside_inj x y e = cc

-- ---- one more step in a batch

module _ (pick : Pick) where
  pub not_after_itself : (step : Step) → is_gt (pick_cmp pick step step) ≡ false
  not_after_itself step = ap is_gt (tied_itself (pick_total pick) step)

  module _ (step : Step) where
    leads_by : (best : Step) (b : Bool) → is_gt (pick_cmp pick best step) ≡ b → HasSooner pick (first_by b best step) step
    leads_by best false e = e
    leads_by best true e = not_after_itself step

    leads_here : (single : Option Step) → HasSooner pick (first_single pick single step) step
    leads_here None = not_after_itself step
    leads_here (Some best) = leads_by best (is_gt (pick_cmp pick best step)) refl

    leads_on_by : (best other : Step) (b : Bool) → is_gt (pick_cmp pick best step) ≡ b → is_gt (pick_cmp pick best other) ≡ false → HasSooner pick (first_by b best step) other
    leads_on_by best other false e h = h
    leads_on_by best other true e h =
        let less : is_gt (pick_cmp pick step best) ≡ false =
        ap is_gt ((pick_total pick).antisymm step best) ∙ not_behind (pick_cmp pick best step) e in
        upto (pick_total pick) step best other less h

    leads_on : (single : Option Step) (other : Step) → HasSooner pick single other → HasSooner pick (first_single pick single step) other
    leads_on None other h = absurd h
    leads_on (Some best) other h = leads_on_by best other (is_gt (pick_cmp pick best step)) refl h

    single_by : (best it : Step) (b : Bool) → first_by b best step ≡ Some it → (best ≡ it) ⊎ (step ≡ it)
    single_by best it false e = inl (inside_inj best it e)
    single_by best it true e = inr (inside_inj step it e)

    single_from : (single : Option Step) (it : Step) → first_single pick single step ≡ Some it → (single ≡ Some it) ⊎ (step ≡ it)
    single_from None it e = inr (inside_inj step it e)
    single_from (Some best) it e = elim (single_by best it (is_gt (pick_cmp pick best step)) e) [ inl same ↦ inl (ap Some same) | inr same ↦ inr same ]

    module _ (batch : Batch) where
      held_by : (b : Bool) → is_single step ≡ b → IsHeld pick (with_step_by b pick batch step) step
      held_by false e = inl (Contains-push batch.steps step)
      held_by true e = inr (e, leads_here batch.single)

      pub held_here : IsHeld pick (with_step pick batch step) step
      held_here = held_by (is_single step) refl

      held_on_by : (b : Bool) (other : Step) → IsHeld pick batch other → IsHeld pick (with_step_by b pick batch step) other
      held_on_by false other (inl in_) = inl (Contains-append_left batch.steps (step ∷ []) other in_)
      held_on_by false other (inr led) = inr led
      held_on_by true other (inl in_) = inl in_
      held_on_by true other (inr led) = inr (led.0, leads_on batch.single other led.1)

      pub held_on : (other : Step) → IsHeld pick batch other → IsHeld pick (with_step pick batch step) other
      held_on = held_on_by (is_single step)

      offers_by : (b : Bool) (other : Step) → Offers (with_step_by b pick batch step) other → Offers batch other ⊎ (step ≡ other)
      offers_by false other (inl in_) = elim (Contains-push_cases batch.steps step other in_) [ inl old ↦ inl (inl old) | inr same ↦ inr same ]
      offers_by false other (inr is) = inl (inr is)
      offers_by true other (inl in_) = inl (inl in_)
      offers_by true other (inr is) = elim (single_from batch.single other is) [ inl old ↦ inl (inr old) | inr same ↦ inr same ]

      pub offers_of : (other : Step) → Offers (with_step pick batch step) other → Offers batch other ⊎ (step ≡ other)
      offers_of = offers_by (is_single step)

      first_there_by : (best : Step) (b : Bool) → (it : Step) × (first_by b best step ≡ Some it)
      first_there_by best false = (best, refl)
      first_there_by best true = (step, refl)

      first_there : (single : Option Step) → (it : Step) × (first_single pick single step ≡ Some it)
      first_there None = (step, refl)
      first_there (Some best) = first_there_by best (is_gt (pick_cmp pick best step))

      some_by : (b : Bool) → (it : Step) × Offers (with_step_by b pick batch step) it
      some_by false = (step, inl (Contains-push batch.steps step))
      some_by true = let it = first_there batch.single in (it.0, inr it.1)

      single_of_by : (b : Bool) → is_single step ≡ b → ((it : Step) → batch.single ≡ Some it → IsTrue (is_single it)) → (it : Step) → (with_step_by b pick batch step).single ≡ Some it →
          IsTrue (is_single it)
      single_of_by false e h it is = h it is
      single_of_by true e h it is = elim (single_from batch.single it is) [ inl old ↦ h it old | inr same ↦ subst (λ s. IsTrue (is_single s)) same e ]

      pub whole_with : ((it : Step) → batch.single ≡ Some it → IsTrue (is_single it)) → IsWholeBatch (with_step pick batch step)
      whole_with h = let some = some_by (is_single step) in record { step = some.0; there = some.1; single = single_of_by (is_single step) refl h }

      round_by : (b : Bool) → (with_step_by b pick batch step).round ≡ batch.round
      round_by false = refl
      round_by true = refl

      pub round_with : (with_step pick batch step).round ≡ batch.round
      round_with = round_by (is_single step)

  -- a batch of one step
  pub offers_one : (it : NewStep) (other : Step) → Offers (batch_of pick it) other → it.step ≡ other
  offers_one it other h = elim (offers_of it.step (empty_batch it.round) other h) [
    | inl none ↦ elim none [ inl in_ ↦ absurd (Contains-nil other in_) | inr is ↦ absurd (let wrong : None ≡ Some other = is in cc) ]
    | inr same ↦ same
  ]

  pub whole_one : (it : NewStep) → IsWholeBatch (batch_of pick it)
  whole_one it = whole_with it.step (empty_batch it.round) (λ other is. absurd (let wrong : None ≡ Some other = is in cc))

module _ (c : Course) (pick : Pick) where
  -- ---- one step

  module _ (step : Step) where
    abbrev It : Step → Type 0
    It other = other ≡ step

    module _ (found : NewStep) (same : found.step ≡ step) (new : IsNewIn c step) (round : IsRoundIn c step found.round) where
      found_it : (it : NewStep) → found.round ≡ it.round → found.step ≡ it.step → IsNewOf c It it
      found_it it same_round same_step = record {
        of = sym same_step ∙ same;
        new_ = subst (IsNewIn c) (sym same ∙ same_step) new;
        round_is = subst (λ s. IsRoundIn c s it.round) (sym same ∙ same_step) (subst (IsRoundIn c step) same_round round);
      }

      its_round : (it : NewStep) → IsNewOf c It it → found.round ≡ it.round
      its_round it h = round_at_once c.problem (open_at c.slots (branch_of step)) step found.round it.round round (subst (λ s. IsRoundIn c s it.round) h.of h.round_is)

      -- the batch with the step
      reaches_with : (batch : Batch) → batch.round ≡ found.round → (it : NewStep) → IsNewOf c It it → Reaches pick (Some (with_step pick batch found.step)) it
      reaches_with batch level it h =
          inr (round_with pick found.step batch ∙ (level ∙ its_round it h), subst (IsHeld pick (with_step pick batch found.step)) (same ∙ sym h.of) (held_here pick found.step batch))

      from_one : (it : NewStep) → IsOffered (Some (batch_of pick found)) it → IsNewOf c It it
      from_one it h = found_it it (sym (round_with pick found.step (empty_batch found.round)) ∙ h.0) (offers_one pick found it.step h.1)

      offered_first : Improves c pick It None (Some (batch_of pick found))
      offered_first = record {
        from = λ it h. inr (from_one it h);
        keeps = λ it h. absurd h;
        reaches = reaches_with (empty_batch found.round) refl;
        finds = λ it h is e. cc;
        stays = λ some e. cc;
        filled = λ none. whole_one pick found;
      }

      module _ (batch : Batch) where
        offered_before : found.round < batch.round → Improves c pick It (Some batch) (Some (batch_of pick found))
        offered_before less = record {
          from = λ it h. inr (from_one it h);
          keeps = λ it h.
              let at = round_with pick found.step (empty_batch found.round) in
              inl (elim h [ inl later ↦ (let e : _ < it.round = omega (arith, less, later, at) in e) | inr level ↦ (let its = level.0 in let e : _ < it.round = omega (arith, less, its, at) in e) ]);
          reaches = reaches_with (empty_batch found.round) refl;
          finds = λ it h is e. cc;
          stays = λ some e. cc;
          filled = λ whole. whole_one pick found;
        }

        offered_beside : found.round ≡ batch.round → Improves c pick It (Some batch) (Some (with_step pick batch found.step))
        offered_beside level = record {
          from = λ it h.
              let at = round_with pick found.step batch in
              elim (offers_of pick found.step batch it.step h.1) [
                | inl old ↦ inl (sym at ∙ h.0, old)
                | inr here ↦ inr (found_it it (level ∙ (sym at ∙ h.0)) here)
              ];
          keeps = λ it h.
              let at = round_with pick found.step batch in
              elim h [
                | inl later ↦ inl (let e : _ < it.round = omega (arith, later, at) in e)
                | inr held ↦ inr (at ∙ held.0, held_on pick found.step batch it.step held.1)
              ];
          reaches = reaches_with batch (sym level);
          finds = λ it h is e. cc;
          stays = λ some e. cc;
          filled = λ whole. whole_with pick found.step batch whole.single;
        }

        offered_after : batch.round < found.round → Improves c pick It (Some batch) (Some batch)
        offered_after less = record {
          from = λ it h. inl h;
          keeps = λ it h. h;
          reaches = λ it h. let its = its_round it h in inl (omega (arith, less, its));
          finds = λ it h is e. cc;
          stays = λ some e. cc;
          filled = λ whole. whole;
        }

        offered_by : (o : Ordering) → nat_cmp found.round batch.round ≡ o → Improves c pick It (Some batch) (Some (with_found_by o pick batch found))
        offered_by Less e = offered_before (ranked found.round batch.round Less (sym e))
        offered_by Equal e = offered_beside (ranked found.round batch.round Equal (sym e))
        offered_by Greater e = offered_after (ranked found.round batch.round Greater (sym e))

      offered_some : (old : Option Batch) → Improves c pick It old (with_found pick old found)
      offered_some None = offered_first
      offered_some (Some batch) = offered_by batch (nat_cmp found.round batch.round) refl

    -- a step that is new, and one that isn't
    pub offered_new : (old new : Option Batch) (found : NewStep) → found.step ≡ step → IsNewRound c.problem (open_at c.slots (branch_of step)) step (Some found.round) →
        new ≡ with_found pick old found → Improves c pick It old new
    offered_new old new found same told is =
        let h = is_new c.problem (open_at c.slots (branch_of step)) step found.round told in
        subst (Improves c pick It old) (sym is) (offered_some found same h.0 h.1 old)

    pub offered_old : (old : Option Batch) → IsNewRound c.problem (open_at c.slots (branch_of step)) step None → Improves c pick It old old
    offered_old old told = record {
      from = λ it h. inl h;
      keeps = λ it h. h;
      reaches = λ it h. absurd (not_new c.problem (open_at c.slots (branch_of step)) step told (subst (IsNewIn c) h.of h.new_));
      finds = λ it h is. absurd (not_new c.problem (open_at c.slots (branch_of step)) step told (subst (IsNewIn c) h is));
      stays = λ some. some;
      filled = λ whole. whole;
    }

  -- ---- sets of steps

  -- none of the set is new
  pub improves_none : (P : Step → Type 0) (old : Option Batch) → ((step : Step) → P step → IsNewIn c step → ⊥) → Improves c pick P old old
  improves_none P old none = record {
    from = λ it h. inl h;
    keeps = λ it h. h;
    reaches = λ it h. absurd (none it.step h.of h.new_);
    finds = λ step h is. absurd (none step h is);
    stays = λ some. some;
    filled = λ whole. whole;
  }

  module _ (P Q : Step → Type 0) where
    pub found_as : ((step : Step) → P step → IsNewIn c step → Q step) → (it : NewStep) → IsNewOf c P it → IsNewOf c Q it
    found_as to it h = record { of = to it.step h.of h.new_; new_ = h.new_; round_is = h.round_is }

    -- the same new steps
    pub improves_as : (old new : Option Batch) → ((step : Step) → P step → IsNewIn c step → Q step) → ((step : Step) → Q step → IsNewIn c step → P step) →
        Improves c pick P old new → Improves c pick Q old new
    improves_as old new to back h = record {
      from = λ it o. elim (h.from it o) [ inl old ↦ inl old | inr is ↦ inr (found_as to it is) ];
      keeps = h.keeps;
      reaches = λ it k. h.reaches it (record { of = back it.step k.of k.new_; new_ = k.new_; round_is = k.round_is });
      finds = λ step q is. h.finds step (back step q is) is;
      stays = h.stays;
      filled = h.filled;
    }

  module _ (P Q : Step → Type 0) where
    abbrev Either : Step → Type 0
    Either step = P step ⊎ Q step

    from_both : (old mid new : Option Batch) → Improves c pick P old mid → Improves c pick Q mid new → (it : NewStep) → IsOffered new it → IsOffered old it ⊎ IsNewOf c Either it
    from_both old mid new h k it o = elim (k.from it o) [
      | inl before ↦ elim (h.from it before) [ inl first ↦ inl first | inr is ↦ inr (found_as P Either (λ step p new. inl p) it is) ]
      | inr is ↦ inr (found_as Q Either (λ step q new. inr q) it is)
    ]

    finds_either : (old mid new : Option Batch) → Improves c pick P old mid → Improves c pick Q mid new → (step : Step) → Either step → IsNewIn c step → new ≢ None
    finds_either old mid new h k step (inl p) is = k.stays (h.finds step p is)
    finds_either old mid new h k step (inr q) is = k.finds step q is

    reaches_either : (old mid new : Option Batch) → Improves c pick P old mid → Improves c pick Q mid new → (it : NewStep) → Either it.step → IsNewIn c it.step → IsRoundIn c it.step it.round →
        Reaches pick new it
    reaches_either old mid new h k it (inl p) new_ round = k.keeps it (h.reaches it (record { of = p; new_ = new_; round_is = round }))
    reaches_either old mid new h k it (inr q) new_ round = k.reaches it (record { of = q; new_ = new_; round_is = round })

    pub improves_both : (old mid new : Option Batch) → Improves c pick P old mid → Improves c pick Q mid new → Improves c pick Either old new
    improves_both old mid new h k = record {
      from = from_both old mid new h k;
      keeps = λ it r. k.keeps it (h.keeps it r);
      reaches = λ it e. reaches_either old mid new h k it e.of e.new_ e.round_is;
      finds = finds_either old mid new h k;
      stays = λ some. k.stays (h.stays some);
      filled = λ whole. k.filled (h.filled whole);
    }

  -- ---- sets by number

  module _ (P : ℕ → Step → Type 0) where
    pub improves_start : (old : Option Batch) → Improves c pick (Upto P 0) old old
    improves_start old = improves_none (Upto P 0) old (λ step h new. absurd (omega (arith, h.1)))

    pub improves_next : (k : ℕ) (old mid new : Option Batch) → Improves c pick (Upto P k) old mid → Improves c pick (P k) mid new → Improves c pick (Upto P (k + 1)) old new
    improves_next k old mid new h now =
        improves_as (λ step. Upto P k step ⊎ P k step) (Upto P (k + 1)) old new
        (λ step e is. elim e [ inl it ↦ (it.0, omega (arith, it.1), it.2) | inr it ↦ (k, omega arith, it) ])
        (λ step it is. elim (up_to_bound it.0 k it.1) [ inl less ↦ inl (it.0, less, it.2) | inr same ↦ inr (subst (λ i. P i step) same it.2) ])
        (improves_both (Upto P k) (P k) old mid new h now)

    pub next_with : (k : ℕ) (old mid new last : Option Batch) → last ≡ new → Improves c pick (Upto P k) old mid → Improves c pick (P k) mid new →
        Improves c pick (Upto P (k + 1)) old last
    next_with k old mid new last same h now = subst (Improves c pick (Upto P (k + 1)) old) (sym same) (improves_next k old mid new h now)

    -- no step of a later number is new
    pub improves_end : (k : ℕ) (old new : Option Batch) → Improves c pick (Upto P k) old new → ((i : ℕ) (step : Step) → k ≤ i → P i step → IsNewIn c step → ⊥) →
        Improves c pick (OfAny P) old new
    improves_end k old new h later =
        improves_as (Upto P k) (OfAny P) old new (λ step it is. (it.0, it.2))
        (λ step it is. elim (below_or it.0 k) [ inl less ↦ (it.0, less, it.1) | inr more ↦ absurd (later it.0 step more it.1 is) ]) h
