-- Of the steps that reach the goal, those on facts that begin with the same ones come no earlier than the step on these alone.
use Rattle.std.proofs.Common.{◌≡◌, ◌∙◌, ℕ, ◌≤◌, inl, inr, List, [], ◌∷◌, ◌++◌, refl, sym, ap, subst, arith}
use Rattle.std.proofs.Math.Nat.{eq-or-lt_of_le}
use Rattle.std.specs.Cmp.{nat_cmp_total, tied_itself, upto}
use Rattle.std.specs.Cmp.Lexicographic.{slice_cmp}
use Rattle.std.specs.Ordering.{is_gt, nat_cmp, ordering_then}
use Rattle.std.specs.Prelude.{◌≢◌, IsTrue, false, Option, Some, None}
use Rattle.std.specs.declared.cmp.Ordering.{Ordering}
use Rattle.std.specs.declared.cmp.Ordering.TheVariants.{Less, Equal, Greater}
use Rattle.ba_model.specs.declared.query.Part.{Part}
use Rattle.ba_facts.specs.declared.branch.Branch.{Branch}
use Rattle.ba_facts.specs.declared.term.Side.{Side}
use Rattle.ba_kernel.specs.SearchStates.{Course}
use Rattle.ba_kernel.specs.declared.step.Step.{Step}
use Rattle.ba_kernel.specs.declared.step.Step.TheVariants as steps
use Rattle.ba_instant.proofs.LateLemmas.{improves_behind}
use Rattle.ba_instant.proofs.MapLemmas.{From}
use Rattle.ba_settle.proofs.OrderLemmas.{pick_total}
use Rattle.ba_instant.specs.Scans.{IsBehind, IsOvertaken}
use Rattle.ba_instant.specs.Offers.{Improves, HasSooner, Reaches, is_single}
use Rattle.ba_settle.specs.Order.{pick_cmp, step_cmp}
use Rattle.ba_instant.specs.declared.batch.Batch.{Batch}
use Rattle.ba_instant.specs.declared.scan.NewStep.{NewStep}
use Rattle.ba_instant.specs.declared.mapped.Form.{Form}
use Rattle.ba_instant.specs.declared.mapped.Form.TheVariants.{OfRule, OfView, OfGoal}
use Rattle.ba_settle.specs.declared.order.Pick.{Pick}
use Rattle.ba_settle.specs.declared.order.Pick.TheVariants.{First}

-- ---- the order of such steps

begins : (xs ys : List ℕ) → is_gt (slice_cmp nat_cmp xs (xs ++ ys)) ≡ false
begins [] [] = refl
begins [] (y ∷ ys) = refl
begins (x ∷ xs) ys = ap (λ r. is_gt (ordering_then r (slice_cmp nat_cmp xs (xs ++ ys)))) (tied_itself nat_cmp_total x) ∙ begins xs ys

last_decides : (a b s : Ordering) → a ≡ Equal → b ≡ Equal → is_gt s ≡ false →
    is_gt (ordering_then (ordering_then (ordering_then a (nat_cmp 7 7)) (ordering_then (ordering_then (ordering_then b (nat_cmp 0 0)) (nat_cmp 0 0)) s)) Equal) ≡ false
last_decides Equal Equal Less e f h = refl
last_decides Equal Equal Equal e f h = refl
last_decides Equal Equal Greater e f h = h
last_decides Less b s e f h = cc
last_decides Greater b s e f h = cc
last_decides Equal Less s e f h = cc
last_decides Equal Greater s e f h = cc

module _ (n part : ℕ) (chosen rest : List ℕ) where
  longer_behind : is_gt (pick_cmp First (steps.Goal n part chosen) (steps.Goal n part (chosen ++ rest))) ≡ false
  unfolding pick_cmp step_cmp
  longer_behind =
      last_decides (nat_cmp n n) (nat_cmp part part) (slice_cmp nat_cmp chosen (chosen ++ rest)) (tied_itself nat_cmp_total n) (tied_itself nat_cmp_total part) (begins chosen rest)

  leads_longer : (single : Option Step) → HasSooner First single (steps.Goal n part chosen) → HasSooner First single (steps.Goal n part (chosen ++ rest))
  leads_longer None h = absurd h
  leads_longer (Some best) h = upto (pick_total First) best (steps.Goal n part chosen) (steps.Goal n part (chosen ++ rest)) h longer_behind

  behind_reaches : (best : Option Batch) (it : NewStep) → IsBehind First best (steps.Goal n part chosen) → it.step ≡ steps.Goal n part (chosen ++ rest) → Reaches First best it
  behind_reaches None it h is = absurd h
  behind_reaches (Some best) it (at, leads) is =
      let least : best.round ≤ it.round = omega (arith, at) in
      let ahead : HasSooner First best.single it.step = subst (HasSooner First best.single) (sym is) (leads_longer best.single leads) in
      elim (eq-or-lt_of_le least) [
        | inl same ↦ inr (same, inr (subst (λ s. IsTrue (is_single s)) (sym is) refl, ahead))
        | inr less ↦ inl less
      ]

-- ---- a form's steps

behind_some : (best : Option Batch) (step : Step) → IsBehind First best step → best ≢ None
behind_some None step h = absurd h
behind_some (Some best) step h = λ e. cc

module _ (c : Course) (b : Branch) (n : ℕ) (side : Side) (part : Part) (from chosen : List ℕ) where
  overtaken_first : (number : ℕ) (best : Option Batch) → IsBehind First best (steps.Goal n number chosen) → Improves c First (From c First b n (OfGoal number) side part from chosen) best best
  overtaken_first number best h =
      improves_behind c First (From c First b n (OfGoal number) side part from chosen) best
      (λ it found.
      let k = found.of in
      behind_reaches n number chosen (k.2).rest best it h (k.1 ∙ ap (steps.Goal n number) (k.2).facts_are))
      (λ step k new. behind_some best (steps.Goal n number chosen) h)

  pub mapped_overtaken : (pick : Pick) (form : Form) (best : Option Batch) → IsOvertaken pick n form best chosen → Improves c pick (From c pick b n form side part from chosen) best best
  mapped_overtaken pick (OfRule rule number) best h = absurd h
  mapped_overtaken pick (OfView view number) best h = absurd h
  mapped_overtaken pick (OfGoal number) best h =
      subst (λ p. Improves c p (From c p b n (OfGoal number) side part from chosen) best best) (sym h.0) (overtaken_first number best h.1)
