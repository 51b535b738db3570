-- The due step of a branch, and of all open branches.
use Rattle.std.proofs.Common.{◌≡◌, ◌∙◌, ℕ, ◌≤◌, ◌⊎◌, true, false, inl, inr, refl, sym, ap, subst, arith}
use Rattle.std.specs.Ordering.{is_gt}
use Rattle.std.specs.declared.cmp.Ordering.{Ordering}
use Rattle.std.specs.declared.cmp.Ordering.TheVariants.{Less, Equal, Greater}
use Rattle.std.specs.Prelude.{◌≢◌, Option, Some, slice_get}
use Rattle.ba_facts.specs.declared.branch.Branch.{Branch}
use Rattle.ba_kernel.specs.Courses.{IsOpen, Slots, branch_of}
use Rattle.ba_kernel.specs.Effects.{IsEntryRound}
use Rattle.ba_kernel.specs.News.{IsNewAt, IsNewOn}
use Rattle.ba_kernel.specs.Steps.{IsRound}
use Rattle.ba_kernel.specs.SearchStates.{Course, open_at}
use Rattle.ba_kernel.specs.declared.problem.ProblemEntry.{ProblemEntry}
use Rattle.ba_kernel.specs.declared.step.Step.{Step}
use Rattle.ba_kernel.specs.declared.step.Step.TheVariants as steps
use Rattle.ba_instant.proofs.ChaseLemmas.{open_is}
use Rattle.ba_instant.proofs.OfferLemmas.{improves_as, improves_both}
use Rattle.ba_instant.specs.Offers.{IsByMapping, IsTaught, Improves, IsClosing, IsEntryOf, IsGoalStep, IsKeyStep, IsLinkStep, IsNewIn, IsRoundAt, IsRoundIn, IsRuleStep, IsSplitStep, IsTelling, IsViewStep}
use Rattle.ba_instant.specs.declared.batch.Batch.{Batch}
use Rattle.ba_settle.specs.declared.order.Pick.{Pick}

-- ---- all kinds

module _ (c : Course) (pick : Pick) (n : ℕ) where
  pub closing_on : (step : Step) → IsClosing n step → branch_of step ≡ n
  closing_on step (inl h) = ap branch_of h
  closing_on step (inr h) = ap branch_of (h.1).1

  pub telling_on : (step : Step) → IsTelling n step → branch_of step ≡ n
  telling_on step (inl (inl (inl (inl (inl h))))) = ap branch_of h.1
  telling_on step (inl (inl (inl (inl (inr h))))) = ap branch_of (h.1).1
  telling_on step (inl (inl (inl (inr h)))) = ap branch_of ((h.1).1).1
  telling_on step (inl (inl (inr h))) = ap branch_of ((h.1).1).1
  telling_on step (inl (inr h)) = ap branch_of ((h.1).1).1
  telling_on step (inr h) = ap branch_of h.1

  pub of_kind : (step : Step) → branch_of step ≡ n → IsClosing n step ⊎ IsTelling n step
  of_kind (steps.Entry branch entry) on = inr (inl (inl (inl (inl (inl (entry, ap (λ m. steps.Entry m entry) on))))))
  of_kind (steps.Link branch link fact) on = inr (inl (inl (inl (inl (inr (fact, (link, ap (λ m. steps.Link m link fact) on)))))))
  of_kind (steps.Key branch key left right) on = inr (inl (inl (inl (inr (left, (right, (key, ap (λ m. steps.Key m key left right) on)))))))
  of_kind (steps.Rule branch rule part facts) on = inr (inl (inl (inr (rule, (part, (facts, ap (λ m. steps.Rule m rule part facts) on))))))
  of_kind (steps.View branch view part facts) on = inr (inl (inr (view, (part, (facts, ap (λ m. steps.View m view part facts) on)))))
  of_kind (steps.Split branch atom) on = inr (inr (atom, ap (λ m. steps.Split m atom) on))
  of_kind (steps.Absurd branch) on = inl (inl (ap steps.Absurd on))
  of_kind (steps.Goal branch part facts) on = inl (inr (part, (facts, ap (λ m. steps.Goal m part facts) on)))

  pub all_closing : (old a new : Option Batch) → Improves c pick (λ step. step ≡ steps.Absurd n) old a → Improves c pick (IsGoalStep n) a new → Improves c pick (IsClosing n) old new
  all_closing old a new absurds goals = improves_both c pick (λ step. step ≡ steps.Absurd n) (IsGoalStep n) old a new absurds goals

  pub keys_first : (old mid new : Option Batch) → Improves c pick (IsKeyStep n) old mid → Improves c pick (IsByMapping n) mid new → Improves c pick (IsTaught n) old new
  keys_first old mid new keys mapped = improves_both c pick (IsKeyStep n) (IsByMapping n) old mid new keys mapped

  pub by_mapping : (old mid new : Option Batch) → Improves c pick (IsRuleStep n) old mid → Improves c pick (IsViewStep n) mid new → Improves c pick (IsByMapping n) old new
  by_mapping old mid new rules views = improves_both c pick (IsRuleStep n) (IsViewStep n) old mid new rules views

  abbrev Sorted : Step → Type 0
  Sorted step = ((IsEntryOf n step ⊎ IsLinkStep n step) ⊎ IsTaught n step) ⊎ IsSplitStep n step

  telling_of : (step : Step) → Sorted step → IsTelling n step
  telling_of step (inl (inl h)) = inl (inl (inl (inl h)))
  telling_of step (inl (inr (inl key))) = inl (inl (inl (inr key)))
  telling_of step (inl (inr (inr (inl rule)))) = inl (inl (inr rule))
  telling_of step (inl (inr (inr (inr view)))) = inl (inr view)
  telling_of step (inr split) = inr split

  of_telling : (step : Step) → IsTelling n step → Sorted step
  of_telling step (inl (inl (inl (inl h)))) = inl (inl h)
  of_telling step (inl (inl (inl (inr key)))) = inl (inr (inl key))
  of_telling step (inl (inl (inr rule))) = inl (inr (inr (inl rule)))
  of_telling step (inl (inr view)) = inl (inr (inr (inr view)))
  of_telling step (inr split) = inr split

  pub all_telling : (old a b d new : Option Batch) → Improves c pick (IsEntryOf n) old a → Improves c pick (IsLinkStep n) a b → Improves c pick (IsTaught n) b d →
      Improves c pick (IsSplitStep n) d new → Improves c pick (IsTelling n) old new
  all_telling old a b d new entries links taught splits =
      let two = improves_both c pick (IsEntryOf n) (IsLinkStep n) old a b entries links in
      let three = improves_both c pick (λ step. IsEntryOf n step ⊎ IsLinkStep n step) (IsTaught n) old b d two taught in
      improves_as c pick Sorted (IsTelling n) old new (λ step e is. telling_of step e) (λ step e is. of_telling step e)
      (improves_both c pick (λ step. (IsEntryOf n step ⊎ IsLinkStep n step) ⊎ IsTaught n step) (IsSplitStep n) old d new three splits)

-- ---- what comes first

pub not_greater : (o : Ordering) → is_gt o ≡ false → o ≢ Greater
not_greater o h e = let wrong : true ≡ false = sym (ap is_gt e) ∙ h in cc

pub gt_false : (o : Ordering) → (o ≢ Greater) → is_gt o ≡ false
gt_false Less h = refl
gt_false Equal h = refl
gt_false Greater h = absurd (h refl)

some_inj : {X : Type 0} (o : Option X) (x y : X) → o ≡ Some x → o ≡ Some y → x ≡ y
some_inj o x y left right = cc

inside_inj : {X : Type 0} (x y : X) → Some x ≡ Some y → x ≡ y
inside_inj x y e = cc

pub one_open : (slots : Slots) (n : ℕ) (b d : Branch) → IsOpen slots n b → IsOpen slots n d → b ≡ d
one_open slots n b d h k = inside_inj b d (some_inj (slice_get slots n) (Some b) (Some d) h k)

module _ (c : Course) (n : ℕ) (b : Branch) (open_ : IsOpen c.slots n b) where
  pub new_in : (step : Step) → branch_of step ≡ n → IsNewOn c.problem b step → IsNewIn c step
  new_in step on new =
      subst (λ m. IsNewAt c.problem (open_at c.slots m) step) (sym on) (subst (λ at. IsNewAt c.problem at step) (sym (open_is c.slots n b open_)) new)

  pub round_in : (step : Step) (round : ℕ) → branch_of step ≡ n → IsRound c.problem b step round → IsRoundIn c step round
  round_in step round on h =
      subst (λ m. IsRoundAt c.problem (open_at c.slots m) step round) (sym on)
      (subst (λ at. IsRoundAt c.problem at step round) (sym (open_is c.slots n b open_)) h)

  pub round_on : (step : Step) (round : ℕ) → branch_of step ≡ n → IsRoundIn c step round → IsRound c.problem b step round
  round_on step round on h =
      subst (λ at. IsRoundAt c.problem at step round) (open_is c.slots n b open_) (subst (λ m. IsRoundAt c.problem (open_at c.slots m) step round) on h)

  -- ---- a step of round 0

  module _ (pick : Pick) where
    pub closing_round : (step : Step) (round : ℕ) → IsClosing n step → IsRoundIn c step round → round ≡ 0
    closing_round step round (inl is) h = subst (λ s. IsRound c.problem b s round) is (round_on step round (ap branch_of is) h)
    closing_round step round (inr (part, (facts, is))) h = subst (λ s. IsRound c.problem b s round) is (round_on step round (ap branch_of is) h)

    entry_round : (it : ProblemEntry) (round : ℕ) → IsEntryRound c.problem it.row round → 1 ≤ round
    entry_round it round (inl h) = omega (arith, h.1)
    entry_round it round (inr h) = omega (arith, h.1)

    pub telling_round_on : (step : Step) (round : ℕ) → IsTelling n step → IsRound c.problem b step round → 1 ≤ round
    telling_round_on step round (inl (inl (inl (inl (inl h))))) r =
        let of : IsRound c.problem b (steps.Entry n h.0) round = subst (λ s. IsRound c.problem b s round) h.1 r in
        entry_round of.it round of.round_is
    telling_round_on step round (inl (inl (inl (inl (inr h))))) r =
        let of : IsRound c.problem b (steps.Link n (h.1).0 h.0) round = subst (λ s. IsRound c.problem b s round) (h.1).1 r in
        omega (arith, of)
    telling_round_on step round (inl (inl (inl (inr h)))) r =
        let of : IsRound c.problem b (steps.Key n ((h.1).1).0 h.0 (h.1).0) round = subst (λ s. IsRound c.problem b s round) ((h.1).1).1 r in
        omega (arith, of)
    telling_round_on step round (inl (inl (inr h))) r =
        let of : IsRound c.problem b (steps.Rule n h.0 (h.1).0 ((h.1).1).0) round = subst (λ s. IsRound c.problem b s round) ((h.1).1).1 r in
        omega (arith, of)
    telling_round_on step round (inl (inr h)) r =
        let of : IsRound c.problem b (steps.View n h.0 (h.1).0 ((h.1).1).0) round = subst (λ s. IsRound c.problem b s round) ((h.1).1).1 r in
        omega (arith, of)
    telling_round_on step round (inr h) r =
        let of : IsRound c.problem b (steps.Split n h.0) round = subst (λ s. IsRound c.problem b s round) h.1 r in
        omega (arith, of.round_is)
