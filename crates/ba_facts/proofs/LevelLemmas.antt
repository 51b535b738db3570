-- Two terms are the same where they are of one class, or their places are shown to be one.
use Rattle.std.proofs.Common.{◌≡◌, ◌∙◌, ℕ, List, Bool, IsTrue, false, pos, inl, inr, refl, sym, subst, ◌↔◌, Some, None}
use Rattle.std.proofs.lemmas.Bool.{false≢true}
use Rattle.std.proofs.lemmas.Option.{none-some}
use Rattle.ba_classes.specs.Merged.{Merged}
use Rattle.ba_classes.specs.declared.order.Difference.{Difference}
use Rattle.ba_facts.specs.Known.{Known, OneClass, turned}
use Rattle.ba_facts.specs.Shown.{TheSame}
use Rattle.ba_facts.specs.Webs.{AnyRise, IsLevel, IsWhole, PlaceOf, RisesBy}
use Rattle.ba_facts.specs.declared.marks.Mark.{Mark}
use Rattle.ba_facts.specs.declared.marks.Place.{Place}
use Rattle.ba_facts.specs.declared.term.Term.{Term}
use Rattle.ba_facts.proofs.OrderLemmas.{same_place}
use Rattle.ba_facts.proofs.QueryLemmas.{gap_shown}

module _ {k : Known} {terms : List Term} {classes : Merged} {marks : List Mark} {order : List Difference} {several : Bool} (w : IsWhole k terms classes marks order several) (a b : Term) where
  abbrev Level : Type 0
  Level = IsLevel terms classes.merges marks order a b

  up : Level → AnyRise terms classes.merges marks order a (pos 0) b
  up h = record { from = h.one; to = h.other; low = h.first; high = h.second; rises = h.up }

  down : Level → AnyRise terms classes.merges marks order b (pos 0) a
  down h = record { from = h.other; to = h.one; low = h.second; high = h.first; rises = h.down }

  level : AnyRise terms classes.merges marks order a (pos 0) b → AnyRise terms classes.merges marks order b (pos 0) a → Level
  level r q =
      let one : q.to ≡ r.from = same_place k terms classes.merges marks order w.terms_are.naming.distinct w.terms_are.linked w.ordered a q.to r.from q.high r.low in
      let other : q.from ≡ r.to = same_place k terms classes.merges marks order w.terms_are.naming.distinct w.terms_are.linked w.ordered b q.from r.to q.low r.high in
      record {
        one = r.from;
        other = r.to;
        first = r.low;
        second = r.high;
        up = r.rises;
        down = subst (λ (x : Place). RisesBy order x (pos 0) r.from) other (subst (λ (y : Place). RisesBy order q.from (pos 0) y) one q.rises);
      }

  pub level_same : (r s : Bool) → r ≡ false → IsTrue r ↔ OneClass k a b → IsTrue s ↔ Level → IsTrue s ↔ TheSame k a b
  level_same r s failed first second = (to, from)
    where
      not_one : OneClass k a b → ⊥
      not_one h = false≢true (sym failed ∙ first.1 h)

      to : IsTrue s → TheSame k a b
      to e = let h = second.0 e in inr ((gap_shown a b 0 w).0 (inr (up h)), (gap_shown b a 0 w).0 (inr (down h)))

      from : TheSame k a b → IsTrue s
      from (inl h) = absurd (not_one h)
      from (inr h) = elim ((gap_shown a b 0 w).1 h.0) as (λ _. IsTrue s) [
        | inl x ↦ absurd (not_one x.1)
        | inr r ↦ elim ((gap_shown b a 0 w).1 h.1) as (λ _. IsTrue s) [
          | inl x ↦ absurd (not_one (turned x.1))
          | inr q ↦ second.1 (level r q)
        ]
      ]

-- ---- place by place

module _ {terms : List Term} {merges : List (ℕ × ℕ)} {marks : List Mark} {order : List Difference} {a b : Term} where
  pub level_at : {one other : Place} {r : Bool} → ((p : Place) → (Some one ≡ Some p) ↔ PlaceOf terms merges marks a p) → ((p : Place) → (Some other ≡ Some p) ↔ PlaceOf terms merges marks b p) →
      IsTrue r ↔ (RisesBy order one (pos 0) other × RisesBy order other (pos 0) one) → IsTrue r ↔ IsLevel terms merges marks order a b
  level_at {one} {other} {r} first second h = (
    λ e. record { one = one; other = other; first = (first one).0 refl; second = (second other).0 refl; up = (h.0 e).0; down = (h.0 e).1 },
    λ l.
        let p : l.one ≡ one = inside l.one one (sym ((first l.one).1 l.first)) in
        let q : l.other ≡ other = inside l.other other (sym ((second l.other).1 l.second)) in
        h.1 (
          subst (λ (x : Place). RisesBy order x (pos 0) other) p (subst (λ (y : Place). RisesBy order l.one (pos 0) y) q l.up),
          subst (λ (x : Place). RisesBy order other (pos 0) x) p (subst (λ (y : Place). RisesBy order y (pos 0) l.one) q l.down),
        ),
  )
    where
      inside : (x y : Place) → Some x ≡ Some y → x ≡ y
      inside x y e = cc

  pub never_level : ((p : Place) → (None ≡ Some p) ↔ PlaceOf terms merges marks b p) → IsTrue false ↔ IsLevel terms merges marks order a b
  never_level second = (λ e. absurd (false≢true e), λ l. absurd (none-some l.other ((second l.other).1 l.second)))

  pub never_placed : ((p : Place) → (None ≡ Some p) ↔ PlaceOf terms merges marks a p) → IsTrue false ↔ IsLevel terms merges marks order a b
  never_placed first = (λ e. absurd (false≢true e), λ l. absurd (none-some l.one ((first l.one).1 l.first)))
