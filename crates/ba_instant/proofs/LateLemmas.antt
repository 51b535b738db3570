-- Steps that are too late for what was found.
use Rattle.std.proofs.Common.{◌≡◌, ℕ, ◌+◌, ◌<◌, ◌≤◌, inl, inr, sym, subst, arith}
use Rattle.std.proofs.Math.Nat.{eq-or-lt_of_le}
use Rattle.std.proofs.lemmas.Bool.{cases_lt}
use Rattle.std.specs.Prelude.{◌≢◌, Option, Some, None}
use Rattle.ba_kernel.specs.SearchStates.{Course}
use Rattle.ba_kernel.specs.declared.step.Step.{Step}
use Rattle.ba_instant.specs.Scans.{IsTimely}
use Rattle.ba_instant.specs.Offers.{Improves, IsNewOf, IsHeld, IsNewIn, IsRoundIn, Reaches}
use Rattle.ba_instant.specs.declared.batch.Batch.{Batch}
use Rattle.ba_instant.specs.declared.scan.NewStep.{NewStep}
use Rattle.ba_settle.specs.declared.order.Pick.{Pick}

-- ---- what isn't timely

pub untimely_reaches : (pick : Pick) (round : ℕ) (best : Option Batch) (it : NewStep) → (IsTimely round best → ⊥) → 1 + round ≤ it.round → Reaches pick best it
untimely_reaches pick round None it untimely more = absurd (untimely tt)
untimely_reaches pick round (Some best) it untimely more = elim (cases_lt round best.round) [
  | inl timely ↦ absurd (untimely timely)
  | inr late ↦ inl (let e : best.round < it.round = omega (arith, more, late) in e)
]

pub untimely_some : (round : ℕ) (best : Option Batch) → (IsTimely round best → ⊥) → best ≢ None
untimely_some round None untimely = λ e. untimely tt
untimely_some round (Some best) untimely = λ e. cc

module _ (c : Course) (pick : Pick) where
  -- what was found reaches each of the set
  pub improves_behind : (P : Step → Type 0) (best : Option Batch) → ((it : NewStep) → IsNewOf c P it → Reaches pick best it) → ((step : Step) → P step → IsNewIn c step → best ≢ None) →
      Improves c pick P best best
  improves_behind P best behind some = record {
    from = λ it h. inl h;
    keeps = λ it h. h;
    reaches = behind;
    finds = some;
    stays = λ there. there;
    filled = λ whole. whole;
  }

  -- each step of the set is of a later round
  pub improves_untimely : (P : Step → Type 0) (round : ℕ) (best : Option Batch) → (IsTimely round best → ⊥) → ((it : NewStep) → IsNewOf c P it → 1 + round ≤ it.round) → Improves c pick P best best
  improves_untimely P round best untimely later =
      improves_behind P best (λ it h. untimely_reaches pick round best it untimely (later it h)) (λ step p new. untimely_some round best untimely)

  -- ---- a step of a round that is at least so much

  reaches_on : (best : Option Batch) (step : Step) (least : ℕ) (it : NewStep) → Reaches pick best (record { round = least; step = step }) → it.step ≡ step → least ≤ it.round →
      Reaches pick best it
  reaches_on None step least it h is more = absurd h
  reaches_on (Some best) step least it (inl later) is more = inl (let e : best.round < it.round = omega (arith, later, more) in e)
  reaches_on (Some best) step least it (inr (level, held)) is more = elim (eq-or-lt_of_le more) [
    | inl same ↦ inr (let e : best.round ≡ it.round = omega (arith, level, same) in e, subst (IsHeld pick best) (sym is) held)
    | inr less ↦ inl (let e : best.round < it.round = omega (arith, level, less) in e)
  ]

  reached_some : (best : Option Batch) (it : NewStep) → Reaches pick best it → best ≢ None
  reached_some None it h = absurd h
  reached_some (Some best) it h = λ e. cc

  pub offered_late : (best : Option Batch) (step : Step) (least : ℕ) → Reaches pick best (record { round = least; step = step }) →
      ((round : ℕ) → IsNewIn c step → IsRoundIn c step round → least ≤ round) → Improves c pick (λ it. it ≡ step) best best
  offered_late best step least h late =
      improves_behind (λ it. it ≡ step) best
      (λ it k. reaches_on best step least it h k.of (late it.round (subst (IsNewIn c) k.of k.new_) (subst (λ s. IsRoundIn c s it.round) k.of k.round_is)))
      (λ it k new. reached_some best (record { round = least; step = step }) h)
