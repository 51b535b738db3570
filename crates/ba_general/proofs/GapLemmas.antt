-- Steps that name something of a gap can't be moved.
use Rattle.std.proofs.Common.{◌≡◌, ℕ, zero, suc, ◌<◌, List, [], ◌∷◌, length, get_or, subst, sym, arith}
use Rattle.std.specs.Prelude.{Option, None}
use Rattle.std.specs.List.{AllZip}
use Rattle.ba_facts.specs.declared.term.TermAtom.{TermAtom}
use Rattle.ba_kernel.specs.declared.step.Step.{Step}
use Rattle.ba_kernel.specs.declared.step.Step.TheVariants as steps
use Rattle.ba_general.specs.Leaving.{IsClosedUp, IsMoved, IsMovedAtom, MaybeIs}
use Rattle.ba_general.specs.declared.gap.Gap.{Gap}

abbrev None_is : {X : Type 0} → (X → Type 0) → Type 0
None_is {X} P = (x : X) → ¬ (P x)

pub nothing : {X : Type 0} (P : X → Type 0) (result : Option X) → result ≡ None → None_is P → MaybeIs P result
nothing P result e none = subst (MaybeIs P) (sym e) none

-- an element that has none of its own in the other list
pub none_all : {X Y : Type 0} (R : X → Y → Type 0) (xs : List X) (i : ℕ) (x : X) → i < length xs → x ≡ get_or xs i x → ((y : Y) → ¬ (R x y)) → (ys : List Y) →
    ¬ (AllZip R xs ys)
none_all R [] i x below at none ys h = absurd (omega arith)
none_all R (z ∷ xs) i x below at none [] h = absurd h
none_all R (z ∷ xs) zero x below at none (y ∷ ys) h = none y (subst (λ w. R w y) (sym at) h.0)
none_all R (z ∷ xs) (suc i) x below at none (y ∷ ys) h =
    let less : i < length xs = omega arith in
    none_all R xs i x less at none ys h.1

module _ (gap : Gap) where
  pub no_key_left : (branch key left right : ℕ) → ((m : ℕ) → ¬ (IsClosedUp gap.facts left m)) → (new : Step) → ¬ (IsMoved gap (steps.Key branch key left right) new)
  no_key_left branch key left right none new (IsMoved.key {newleft = m} h k) = none m h

  pub no_key_right : (branch key left right : ℕ) → ((m : ℕ) → ¬ (IsClosedUp gap.facts right m)) → (new : Step) → ¬ (IsMoved gap (steps.Key branch key left right) new)
  no_key_right branch key left right none new (IsMoved.key {newright = m} h k) = none m k

  pub no_link : (branch link fact : ℕ) → ((m : ℕ) → ¬ (IsClosedUp gap.facts fact m)) → (new : Step) → ¬ (IsMoved gap (steps.Link branch link fact) new)
  no_link branch link fact none new (IsMoved.link {new = m} h) = none m h

  pub no_rule : (branch rule part : ℕ) (facts : List ℕ) → ((ms : List ℕ) → ¬ (AllZip (IsClosedUp gap.facts) facts ms)) → (new : Step) →
      ¬ (IsMoved gap (steps.Rule branch rule part facts) new)
  no_rule branch rule part facts none new (IsMoved.rule {new = ms} h) = none ms h

  pub no_view : (branch view part : ℕ) (facts : List ℕ) → ((ms : List ℕ) → ¬ (AllZip (IsClosedUp gap.facts) facts ms)) → (new : Step) →
      ¬ (IsMoved gap (steps.View branch view part facts) new)
  no_view branch view part facts none new (IsMoved.view {new = ms} h) = none ms h

  pub no_goal : (branch part : ℕ) (facts : List ℕ) → ((ms : List ℕ) → ¬ (AllZip (IsClosedUp gap.facts) facts ms)) → (new : Step) →
      ¬ (IsMoved gap (steps.Goal branch part facts) new)
  no_goal branch part facts none new (IsMoved.goal {new = ms} h) = none ms h

  pub no_split : (branch : ℕ) (atom : TermAtom) → ((it : TermAtom) → ¬ (IsMovedAtom gap atom it)) → (new : Step) → ¬ (IsMoved gap (steps.Split branch atom) new)
  no_split branch atom none new (IsMoved.split {new = it} h) = none it h
