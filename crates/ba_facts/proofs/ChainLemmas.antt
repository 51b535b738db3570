-- Chains of terms: one after another, as more is known, and at places.
use Rattle.std.proofs.Common.{◌≡◌, ℕ, zero, suc, ℤ, ◌+ℤ◌, List, subst, arith, Option, Some, None}
use Rattle.std.specs.List.{slice_get}
use Rattle.std.proofs.lemmas.Int.{ints}
use Rattle.ba_facts.specs.Known.{Known, OneClass, turned, Rise, within, at_most, less, number, Chain, none, first}
use Rattle.ba_facts.specs.Marks.{home_of, LiesAt, IsPlaceOf}
use Rattle.ba_facts.specs.Webs.{Extends}
use Rattle.ba_facts.specs.declared.marks.Place.{Place}
use Rattle.ba_facts.specs.declared.term.Term.{Term}
use Rattle.ba_facts.proofs.ClassLemmas.{one_class_more}

-- the same chain, where its sum is written otherwise
pub summing : {k : Known} {a b : Term} {n : ℤ} (m : ℤ) → n ≡ m → Chain k a n b → Chain k a m b
summing {k} {a} {b} m e c = subst (λ s. Chain k a s b) e c

pub then : {k : Known} {a b c : Term} {n m : ℤ} → Chain k a n b → Chain k b m c → Chain k a (n +ℤ m) c
then none d = summing _ (omega (arith, ints)) d
then (first r c) d = summing _ (omega (arith, ints)) (first r (then c d))

pub one_rise : {k : Known} {a b : Term} {n : ℤ} → Rise k a n b → Chain k a n b
one_rise r = summing _ (omega (arith, ints)) (first r none)

-- a chain goes on to another of the class
pub onward : {k : Known} {a b c : Term} {n : ℤ} → Chain k a n b → OneClass k b c → Chain k a n c
onward c h = summing _ (omega (arith, ints)) (then c (one_rise (within h)))

-- or comes from another of the class
pub from_class : {k : Known} {a b c : Term} {n : ℤ} → OneClass k a b → Chain k b n c → Chain k a n c
from_class h c = summing _ (omega (arith, ints)) (then (one_rise (within h)) c)

pub rise_more : {k l : Known} {a b : Term} {n : ℤ} → Extends k l → Rise k a n b → Rise l a n b
rise_more x (within h) = within (one_class_more x.equated h)
rise_more x (at_most h) = at_most (x.at_most _ _ h)
rise_more x (less h) = less (x.less _ _ h)
rise_more x number = number

pub chain_more : {k l : Known} {a b : Term} {n : ℤ} → Extends k l → Chain k a n b → Chain l a n b
chain_more x none = none
chain_more x (first r c) = first (rise_more x r) (chain_more x c)

pub home_more : (terms more : List Term) → ((n : ℕ) (t : Term) → slice_get terms n ≡ Some t → slice_get more n ≡ Some t) → (n : ℕ) (t : Term) → home_of terms n ≡ Some t → home_of more n ≡ Some t
home_more terms more kept zero t h = h
home_more terms more kept (suc n) t h = kept n t h

pub lies_more : {k l : Known} {terms more : List Term} {a : Term} (p : Place) → Extends k l → ((n : ℕ) (t : Term) → slice_get terms n ≡ Some t → slice_get more n ≡ Some t) → LiesAt k terms a p → LiesAt l more a p
lies_more p x kept h = record { home = h.home; home_is = home_more _ _ kept p.node h.home h.home_is; up = chain_more x h.up; down = chain_more x h.down }

pub lies_moves : {k : Known} {terms : List Term} {a b : Term} (p : Place) → OneClass k a b → LiesAt k terms a p → LiesAt k terms b p
lies_moves p o h = record { home = h.home; home_is = h.home_is; up = onward h.up o; down = from_class (turned o) h.down }

pub place_more : {k l : Known} (terms more : List Term) (a : Term) (p : Option Place) → Extends k l → ((n : ℕ) (t : Term) → slice_get terms n ≡ Some t → slice_get more n ≡ Some t) → IsPlaceOf k terms a p → IsPlaceOf l more a p
place_more terms more a None x kept h = tt
place_more terms more a (Some p) x kept h = lies_more p x kept h

pub place_moves : {k : Known} (terms : List Term) {a b : Term} (p : Option Place) → OneClass k a b → IsPlaceOf k terms a p → IsPlaceOf k terms b p
place_moves terms None o h = tt
place_moves terms (Some p) o h = lies_moves p o h
