-- Inequalities that were learned, lesson by lesson.
use Rattle.std.proofs.Common.{◌≡◌, ℕ, zero, suc, ◌<◌, ◌⊎◌, inl, inr, Bool, true, false, List, [], ◌∷◌, length, refl, sym, ap, subst, arith, ◌∙◌, Some}
use Rattle.std.proofs.Math.ListN.{get_or}
use Rattle.std.specs.Prelude.{IsTrue, ◌↔◌, MatchBool}
use Rattle.std.proofs.lemmas.Option.{get_or_from_slice_get, slice_get-get_or, slice_get_within}
use Rattle.std.specs.List.{AllWithin, Contains, HoldsAt, slice_get}
use Rattle.ba_model.specs.declared.query.Op.TheVariants.{Ne}
use Rattle.ba_facts.specs.Apart.{AreListed, TellsApartAt}
use Rattle.ba_facts.specs.Known.{Known}
use Rattle.ba_facts.specs.Knowing.{IsClashing, IsRising}
use Rattle.ba_facts.specs.Shown.{Absurd, HasEqualApart, RecordedApart, TellsApart}
use Rattle.ba_facts.specs.declared.term.Lesson.{Lesson}
use Rattle.ba_facts.specs.declared.term.Lesson.TheVariants.{Same, Holds}
use Rattle.ba_facts.specs.declared.term.Term.{Term}

element_at : {X : Type 0} (xs : List X) (k : ℕ) → k < length xs → (x : X) × (get_or xs k x ≡ x)
element_at [] k below = absurd (omega arith)
element_at (x ∷ xs) zero below = (x, refl)
element_at (x ∷ xs) (suc k) below = element_at xs k (omega arith)

-- the answer of a search through a list, where a test tells P
abbrev pub IsFound : {X : Type 0} → (X → Type 0) → Bool → List X → Type 0
IsFound P r xs = MatchBool r ((k : ℕ) × (k < length xs) × HoldsAt P xs k) (AllWithin (λ x. P x → ⊥) xs 0 (length xs))

pub some_found : {X : Type 0} (P : X → Type 0) (r : Bool) (xs : List X) → IsFound P r xs → IsTrue r ↔ ((x : X) × Contains xs x × P x)
some_found P true xs h = let x = element_at xs h.0 h.1 in (λ yes. (x.0, (h.0, h.1, x.1), subst P x.1 (h.2 x.0)), λ it. refl)
some_found P false xs h = (λ yes. cc, λ it. absurd (h it.1.0 it.0 (omega arith) it.1.1 (subst P (sym it.1.2) it.2)))

contains_at : {X : Type 0} (xs : List X) (i : ℕ) (x : X) → slice_get xs i ≡ Some x → Contains xs x
contains_at xs i x there = (i, slice_get_within xs i x there, get_or_from_slice_get xs i x x there)

place_of : {X : Type 0} (xs : List X) (x : X) → Contains xs x → (i : ℕ) × (slice_get xs i ≡ Some x)
place_of xs x there = (there.0, slice_get-get_or xs there.0 x there.1 ∙ ap Some there.2)

-- the lesson of an inequality
abbrev apart : Term → Term → Lesson
apart x y = Holds (record { op = Ne; left = x; right = y })

told_apart : (k : Known) (a b : Term) (lesson : Lesson) → Contains k.learned lesson → TellsApart k lesson a b → RecordedApart k a b
told_apart k a b (Same x y) there tells = absurd tells
told_apart k a b (Holds atom) there tells =
    record {
      x = atom.left;
      y = atom.right;
      learned = subst (λ op. Contains k.learned (Holds (record { op = op; left = atom.left; right = atom.right }))) tells.0 there;
      sides = tells.1;
    }

-- where the places of the inequalities are listed, it is told at one of them
pub recorded_apart_at : (k : Known) (a b : Term) (places : List ℕ) → AreListed k.learned places → ((place : ℕ) × Contains places place × TellsApartAt k place a b) ↔ RecordedApart k a b
recorded_apart_at k a b places listed = (
  λ h. told_apart k a b h.2.lesson (contains_at k.learned h.0 h.2.lesson h.2.there) h.2.tells,
  λ it.
      let at = place_of k.learned (apart it.x it.y) it.learned in
      (at.0, listed at.0 (apart it.x it.y) at.1 refl, record { lesson = apart it.x it.y; there = at.1; tells = (refl, it.sides) }),
)

-- a case of a branch that can't be
absurd_or : (k : Known) → Absurd k → IsRising k ⊎ (IsClashing k ⊎ HasEqualApart k)
absurd_or k (Absurd.literals h) = inr (inl (IsClashing.literals h))
absurd_or k (Absurd.null h g) = inr (inl (IsClashing.null h g))
absurd_or k (Absurd.apart {a} {b} h g) = inr (inr (record { left = a; right = b; learned = h; equal = g }))
absurd_or k (Absurd.rising {a} {n} h g) = inl (record { term = a; sum = n; above = h; chain = g })

pub absurd_by_rising : {k : Known} → IsRising k → Absurd k
absurd_by_rising h = Absurd.rising h.above h.chain

pub absurd_by_clash : {k : Known} → IsClashing k → Absurd k
absurd_by_clash (IsClashing.literals h) = Absurd.literals h
absurd_by_clash (IsClashing.null h g) = Absurd.null h g

pub absurd_by_apart : {k : Known} → HasEqualApart k → Absurd k
absurd_by_apart h = Absurd.apart h.learned h.equal

-- where no chain rises and no class clashes, it is an inequality
pub absurd_last : {k : Known} → (IsRising k → ⊥) → (IsClashing k → ⊥) → Absurd k → HasEqualApart k
absurd_last {k} f g h =
    elim (absurd_or k h) [
      | inl rising ↦ absurd (f rising)
      | inr other ↦ elim other [ inl clash ↦ absurd (g clash) | inr apart ↦ apart ]
    ]
