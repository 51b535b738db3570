-- What no facts show.
use Rattle.std.proofs.Common.{◌≡◌, ◌↔◌, ℕ, ℤ, pos, ◌≤ℤ◌, Bool, IsTrue, [], refl, subst, arith}
use Rattle.std.proofs.lemmas.Int.{ints}
use Rattle.ba_classes.specs.Chains.{Chain, IsAbsurd, Shows, none, first}

only_none : {x y : ℕ} {k : ℤ} → Chain [] x k y → (x ≡ y) × (k ≡ pos 0)
only_none none = (refl, refl)
only_none (first f h c) = absurd (let below = h.1 in omega (arith, below))

pub shown_of_none : (x y : ℕ) (k : ℤ) → Shows [] x k y → (x ≡ y) × (k ≤ℤ pos 0)
shown_of_none x y k s =
    let only = only_none s.chain in
    (only.0, (let zero = only.1 in let enough = s.enough in omega (arith, ints, zero, enough)))

pub none_shows : (x y : ℕ) (k : ℤ) → x ≡ y → k ≤ℤ pos 0 → Shows [] x k y
none_shows x y k same low = subst (Shows [] x k) same (record { sum = pos 0; enough = low; chain = none })

pub shown_exact : (is : Bool) (x y : ℕ) (k : ℤ) → IsTrue is ↔ ((x ≡ y) × (k ≤ℤ pos 0)) → IsTrue is ↔ Shows [] x k y
shown_exact is x y k exact = (λ e. let it = exact.0 e in none_shows x y k it.0 it.1, λ s. exact.1 (shown_of_none x y k s))

pub none_absurd : IsAbsurd [] → ⊥
none_absurd a =
    let only = only_none a.chain in
    let zero = only.1 in
    let above = a.above in
    omega (arith, ints, zero, above)
