-- A branch that grows quietly stays quiet; it is quiet before its due step, and up to 0.
use Rattle.std.proofs.Common.{◌≡◌, ◌∙◌, ℕ, ◌<◌, ◌≤◌, inl, inr, refl, ap, sym, subst, arith}
use Rattle.std.proofs.lemmas.Bool.{cases_lt}
use Rattle.ba_facts.specs.declared.branch.Branch.{Branch}
use Rattle.ba_kernel.specs.Courses.{branch_of}
use Rattle.ba_kernel.specs.Effects.{IsEntryRound}
use Rattle.ba_kernel.specs.News.{IsNewOn}
use Rattle.ba_kernel.specs.Steps.{IsRound}
use Rattle.ba_kernel.specs.declared.problem.Problem.{Problem}
use Rattle.ba_kernel.specs.declared.problem.ProblemEntry.{ProblemEntry}
use Rattle.ba_kernel.specs.declared.step.Step.{Step}
use Rattle.ba_kernel.specs.declared.step.Step.TheVariants as steps
use Rattle.ba_instant.proofs.CarryLemmas.{absurd_back}
use Rattle.ba_instant.proofs.GrowthLemmas.{known_before}
use Rattle.ba_instant.proofs.OldSplitLemmas.{split_before}
use Rattle.ba_instant.proofs.OldStepLemmas.{entry_before, key_before, link_before, rule_before, view_before}
use Rattle.ba_instant.specs.Offers.{IsTelling}
use Rattle.ba_instant.specs.Windows.{AreLate, DueIsQuiet, IsGrounded, IsQuietGrowth, IsQuietUpto, NewWasNew, QuietAtFirst, QuietIsNotAbsurd, QuietStays}

-- ---- growth

module _ (p : Problem) (b c : Branch) (other bound : ℕ) (grounded : IsGrounded b) (growth : IsQuietGrowth b c) (late : AreLate bound growth.facts) where
  -- the step is new on the branch and has the round
  abbrev IsNewWith : Branch → ℕ → Step → Type 0
  IsNewWith d round step = IsNewOn p d step × IsRound p d step round

  -- so it is before, as a step on the branch of this number
  abbrev WasNew : ℕ → ℕ → Step → Type 0
  WasNew number round step = (before : Step) × IsTelling number before × IsNewWith b round before × (number ≡ other → before ≡ step)

  was_new : (number : ℕ) (step : Step) (round : ℕ) → IsTelling other step → round ≤ bound → IsNewWith c round step → WasNew number round step
  was_new number step round (inl (inl (inl (inl (inl (entry, is)))))) below new =
      let it = entry_before p b c grounded growth bound late number other entry round (subst (IsNewWith c round) is new) in
      (steps.Entry number entry, inl (inl (inl (inl (inl (entry, refl))))), it, λ same. ap (λ n. steps.Entry n entry) same ∙ sym is)
  was_new number step round (inl (inl (inl (inl (inr (fact, (link, is))))))) below new =
      let it = link_before p b c grounded growth bound late number other link fact round below (subst (IsNewWith c round) is new) in
      (steps.Link number link fact, inl (inl (inl (inl (inr (fact, (link, refl)))))), it, λ same. ap (λ n. steps.Link n link fact) same ∙ sym is)
  was_new number step round (inl (inl (inl (inr (left, (right, (key, is))))))) below new =
      let it = key_before p b c grounded growth bound late number other key left right round below (subst (IsNewWith c round) is new) in
      (steps.Key number key left right, inl (inl (inl (inr (left, (right, (key, refl)))))), it, λ same. ap (λ n. steps.Key n key left right) same ∙ sym is)
  was_new number step round (inl (inl (inr (rule, (part, (facts, is)))))) below new =
      let it = rule_before p b c grounded growth bound late number other rule part facts round below (subst (IsNewWith c round) is new) in
      (steps.Rule number rule part facts, inl (inl (inr (rule, (part, (facts, refl))))), it, λ same. ap (λ n. steps.Rule n rule part facts) same ∙ sym is)
  was_new number step round (inl (inr (view, (part, (facts, is))))) below new =
      let it = view_before p b c grounded growth bound late number other view part facts round below (subst (IsNewWith c round) is new) in
      (steps.View number view part facts, inl (inr (view, (part, (facts, refl)))), it, λ same. ap (λ n. steps.View n view part facts) same ∙ sym is)
  was_new number step round (inr (atom, is)) below new =
      let here = subst (IsNewWith c round) is new in
      let it = split_before p b c grounded growth bound late number other atom round below here.0 here.1 in
      (steps.Split number atom, inr (atom, refl), it, λ same. ap (λ n. steps.Split n atom) same ∙ sym is)

  stays : (number : ℕ) → IsQuietUpto p b number bound → IsQuietUpto p c other bound
  stays number quiet step round telling new round_is = elim (cases_lt bound round) [
    | inl later ↦ later
    | inr below ↦ let it = was_new number step round telling below (new, round_is) in quiet it.0 round it.1 (it.2).0 (it.2).1
  ]

pub new_was_new : NewWasNew
new_was_new p b c number bound step round grounded grows telling below new round_is =
    let it = was_new p b c number bound grounded grows.growth grows.late number step round telling below (new, round_is) in
    subst (λ s. IsNewOn p b s × IsRound p b s round) (it.3 refl) it.2

pub quiet_stays : QuietStays
quiet_stays p b c number other bound grounded grows quiet = stays p b c other bound grounded grows.growth grows.late number quiet

pub quiet_is_not_absurd : QuietIsNotAbsurd
quiet_is_not_absurd b c grounded growth h = absurd_back c.known b.known growth.stands (known_before b c grounded growth) h

-- ---- due steps

telling_on : (n : ℕ) (step : Step) → IsTelling n step → branch_of step ≡ n
telling_on n step (inl (inl (inl (inl (inl h))))) = ap branch_of h.1
telling_on n step (inl (inl (inl (inl (inr h))))) = ap branch_of (h.1).1
telling_on n step (inl (inl (inl (inr h)))) = ap branch_of ((h.1).1).1
telling_on n step (inl (inl (inr h))) = ap branch_of ((h.1).1).1
telling_on n step (inl (inr h)) = ap branch_of ((h.1).1).1
telling_on n step (inr h) = ap branch_of h.1

pub due_is_quiet : DueIsQuiet
due_is_quiet p slots step bound due below other round telling new round_is =
    let least : due.round ≤ round = due.least other round (telling_on (branch_of step) other telling) new round_is in
    omega (arith, below, least)

-- ---- round 0

entry_late : (p : Problem) (it : ProblemEntry) (round : ℕ) → IsEntryRound p it.row round → 0 < round
entry_late p it round (inl h) = omega (arith, h.1)
entry_late p it round (inr h) = omega (arith, h.1)

late_at : (p : Problem) (b : Branch) (number : ℕ) (step : Step) (round : ℕ) → IsTelling number step → IsRound p b step round → 0 < round
late_at p b number step round (inl (inl (inl (inl (inl (entry, is)))))) h =
    let at = subst (λ s. IsRound p b s round) is h in entry_late p at.it round at.round_is
late_at p b number step round (inl (inl (inl (inl (inr (fact, (link, is))))))) h = let at = subst (λ s. IsRound p b s round) is h in omega (arith, at)
late_at p b number step round (inl (inl (inl (inr (left, (right, (key, is))))))) h = let at = subst (λ s. IsRound p b s round) is h in omega (arith, at)
late_at p b number step round (inl (inl (inr (rule, (part, (facts, is)))))) h = let at = subst (λ s. IsRound p b s round) is h in omega (arith, at)
late_at p b number step round (inl (inr (view, (part, (facts, is))))) h = let at = subst (λ s. IsRound p b s round) is h in omega (arith, at)
late_at p b number step round (inr (atom, is)) h = let at = subst (λ s. IsRound p b s round) is h in omega (arith, at.round_is)

pub quiet_at_first : QuietAtFirst
quiet_at_first p b number step round telling new round_is = late_at p b number step round telling round_is
