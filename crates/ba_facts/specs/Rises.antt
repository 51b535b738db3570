-- Facts about places.
use Rattle.std.specs.Prelude.{◌≡◌, ℤ, pos, ◌+ℤ◌, ◌-ℤ◌, ◌⊎◌, List, Contains, Option, Some, None}
use Rattle.ba_classes.specs.declared.order.Difference.{Difference}
use Rattle.ba_facts.specs.Webs.{AreEqualPlaces}
use Rattle.ba_facts.specs.declared.marks.Place.{Place}

-- the fact that what is at p plus g is at most what is at q
abbrev pub rise_fact : Place → ℤ → Place → Difference
rise_fact p g q = record { low = p.node; gap = (g +ℤ p.offset) -ℤ q.offset; high = q.node }

-- the new facts are the old ones, and maybe that the two places are equal, which they show
pub record Agrees (old new : List Difference) (p q : Place) : Type 0 where
  pub kept : (f : Difference) → Contains old f → Contains new f
  pub only : (f : Difference) → Contains new f → Contains old f
      ⊎ ((f ≡ rise_fact p (pos 0) q) ⊎ (f ≡ rise_fact q (pos 0) p))
  pub equal : AreEqualPlaces new p q

abbrev pub IsAgreed : List Difference → List Difference → Option Place → Option Place → Type 0
IsAgreed old new None q = new ≡ old
IsAgreed old new (Some p) None = new ≡ old
IsAgreed old new (Some p) (Some q) = Agrees old new p q
