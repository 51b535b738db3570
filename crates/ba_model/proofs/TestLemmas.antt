-- Tests of a choice, and of some element.
use Rattle.std.proofs.Common.{◌≡◌, Bool, true, false, ◌||◌, ◌⊎◌, inl, inr, List, [], ◌∷◌, refl, sym, subst}
use Rattle.std.specs.Bool.{Decides}
use Rattle.std.specs.List.{Contains, list_any}
use Rattle.ba_model.proofs.ElementLemmas.{Contains-cases, Contains-head, Contains-later, Contains-nil}

pub or_cases : (b d : Bool) → (b || d) ≡ true → (b ≡ true) ⊎ (d ≡ true)
or_cases true d e = inl refl
or_cases false d e = inr e

pub or_left : (b d : Bool) → b ≡ true → (b || d) ≡ true
or_left b d p = rw p refl

pub or_right : (b d : Bool) → d ≡ true → (b || d) ≡ true
or_right true d p = refl
or_right false d p = p

pub any_decides : {X : Type 0} (p : X → Bool) (P : X → Type 0) → ((x : X) → Decides (p x) (P x)) → (xs : List X) → Decides (list_any p xs) ((x : X) × Contains xs x × P x)
any_decides p P d [] = (λ e. cc, λ h. absurd (Contains-nil h.0 h.1))
any_decides p P d (x ∷ xs) =
    let rest = any_decides p P d xs in (
      λ e.
          elim (or_cases (p x) (list_any p xs) e) [
            | inl here ↦ (x, Contains-head x xs, (d x).0 here)
            | inr later ↦ let k = rest.0 later in (k.0, Contains-later x xs k.0 k.1, k.2)
          ],
      λ h.
          elim (Contains-cases x xs h.0 h.1) [
            | inl same ↦ or_left (p x) (list_any p xs) ((d x).1 (subst P (sym same) h.2))
            | inr later ↦ or_right (p x) (list_any p xs) (rest.1 (h.0, later, h.2))
          ],
    )
