-- The unknowns of a class, by the numbers that the merges connect.
use Rattle.std.proofs.Common.{◌≡◌, ◌≢◌, ◌∙◌, ℕ, ◌+◌, ◌≤◌, ◌↔◌, ◌⊎◌, inl, inr, Bool, not, IsTrue, List, [], ◌∷◌, ◌++◌, length, Some, None, sym, ap, subst, arith, append-nil}
use Rattle.std.proofs.Math.Nat.{eq-or-lt_of_le}
use Rattle.std.proofs.lemmas.Bool.{false≢true}
use Rattle.std.proofs.lemmas.List.Elements.{Contains-append_left, Contains-push, Contains-push_cases}
use Rattle.std.proofs.lemmas.Option.{none-some, slice_get_within}
use Rattle.std.specs.List.{Contains, slice_get}
use Rattle.std.specs.Option.{is_some}
use Rattle.std.specs.Prelude.{Option, option_to_list}
use Rattle.ba_model.proofs.ElementLemmas.{Contains-nil}
use Rattle.ba_classes.specs.Merged.{Connected, IsLabel, Merged, itself}
use Rattle.ba_classes.specs.declared.order.Difference.{Difference}
use Rattle.ba_facts.specs.Known.{Known, OneClass, itself}
use Rattle.ba_facts.specs.Knowing.{IsLeastOf}
use Rattle.ba_facts.specs.Members.{AreMembers, AreMembersBelow, IsMemberBelow, IsOnlyClass}
use Rattle.ba_facts.specs.Webs.{AreConnected, IsTerms, IsWhole, PlaceOf}
use Rattle.ba_facts.specs.declared.marks.Mark.{Mark}
use Rattle.ba_facts.specs.declared.marks.Place.{Place}
use Rattle.ba_facts.specs.declared.term.Term.{Term}
use Rattle.ba_facts.specs.declared.term.Term.TheVariants.{Unknown}
use Rattle.ba_facts.proofs.ClassLemmas.{class_connected, connected_class}
use Rattle.ba_facts.proofs.QueryLemmas.{gap_shown, only_alone}

-- ---- number by number

module _ (terms : List Term) (merges : List (ℕ × ℕ)) (x : ℕ) where
  pub none_below : (label : ℕ) → IsLabel merges x label → AreMembersBelow terms merges x label []
  none_below label h = λ u. (
    λ c. absurd (Contains-nil u c),
    λ m.
        let least = h.least m.number m.connected in
        let below = m.below in
        let wrong : ⊥ = omega (arith, least, below) in
        absurd wrong,
  )

  module _ (n : ℕ) (members : List ℕ) (h : AreMembersBelow terms merges x n members) where
    later : (u : ℕ) → IsMemberBelow terms merges x n u → IsMemberBelow terms merges x (n + 1) u
    later u m = record { number = m.number; below = (let below = m.below in omega (arith, below)); connected = m.connected; there = m.there }

    -- the number itself, or one before
    earlier : (u : ℕ) → IsMemberBelow terms merges x (n + 1) u → Contains members u ⊎ (Connected merges x n × (slice_get terms n ≡ Some (Unknown u)))
    earlier u m =
        let most : m.number ≤ n = (let below = m.below in omega (arith, below)) in
        elim (eq-or-lt_of_le most) [
          | inl same ↦ inr (subst (Connected merges x) same m.connected, subst (λ i. slice_get terms i ≡ Some (Unknown u)) same m.there)
          | inr less ↦ inl ((h u).1 (record { number = m.number; below = less; connected = m.connected; there = m.there }))
        ]

    pub same_below : (Connected merges x n → ⊥) → AreMembersBelow terms merges x (n + 1) members
    same_below apart = λ u. (λ c. later u ((h u).0 c), λ m. elim (earlier u m) [ inl c ↦ c | inr k ↦ absurd (apart k.0) ])

    pub more_below : (member : Option ℕ) (more : List ℕ) → Connected merges x n → ((u : ℕ) → (member ≡ Some u) ↔ (slice_get terms n ≡ Some (Unknown u))) →
        more ≡ members ++ option_to_list member → AreMembersBelow terms merges x (n + 1) more
    more_below None more link exact are =
        let same : more ≡ members = are ∙ append-nil members in
        λ u. (
          λ c. later u ((h u).0 (subst (λ l. Contains l u) same c)),
          λ m. subst (λ l. Contains l u) (sym same) (elim (earlier u m) [ inl c ↦ c | inr k ↦ absurd (none-some u ((exact u).1 k.1)) ]),
        )
    more_below (Some v) more link exact are =
        λ u. (
          λ c. elim (Contains-push_cases members v u (subst (λ l. Contains l u) are c)) [
            | inl c ↦ later u ((h u).0 c)
            | inr same ↦ record { number = n; below = omega arith; connected = link; there = (exact u).0 (ap Some same) }
          ],
          λ m. subst (λ l. Contains l u) (sym are) (elim (earlier u m) [
            | inl c ↦ Contains-append_left members (v ∷ []) u c
            | inr k ↦ (let same : v ≡ u = inside v u ((exact u).1 k.1) in subst (Contains (members ++ v ∷ [])) same (Contains-push members v))
          ]),
        )
      where
        inside : (v u : ℕ) → Some v ≡ Some u → v ≡ u
        inside v u e = cc

-- ---- what is known

module _ {k : Known} {terms : List Term} {classes : Merged} {marks : List Mark} {several : Bool} (w : IsTerms k terms classes marks several) where
  pub members_numbered : (x : ℕ) (a : Term) (members : List ℕ) → slice_get terms x ≡ Some a → AreMembersBelow terms classes.merges x (length terms) members → AreMembers k a members
  members_numbered x a members is h = λ u. (λ c. one u ((h u).0 c), λ o. (h u).1 (below u (class_connected w.naming.distinct w.linked o)))
    where
      one : (u : ℕ) → IsMemberBelow terms classes.merges x (length terms) u → OneClass k a (Unknown u)
      one u m = connected_class w.linked is m.there m.connected

      below : (u : ℕ) → (a ≡ Unknown u) ⊎ AreConnected terms classes.merges a (Unknown u) → IsMemberBelow terms classes.merges x (length terms) u
      below u (inl e) = record { number = x; below = slice_get_within terms x a is; connected = itself; there = is ∙ ap Some e }
      below u (inr h) = record {
        number = h.right;
        below = slice_get_within terms h.right (Unknown u) h.right_is;
        connected = subst (λ n. Connected classes.merges n h.right) (w.naming.distinct h.left x a h.left_is is) h.connected;
        there = h.right_is;
      }

  pub members_alone : (a : Term) (members : List ℕ) → ((n : ℕ) → slice_get terms n ≢ Some a) → ((u : ℕ) → Contains members u ↔ (a ≡ Unknown u)) → AreMembers k a members
  members_alone a members never h = λ u. (λ c. subst (OneClass k a) ((h u).0 c) itself, λ o. (h u).1 (only_alone w a never (Unknown u) o))

  pub least_alone : (u : ℕ) → ((n : ℕ) → slice_get terms n ≢ Some (Unknown u)) → IsLeastOf k u u
  least_alone u never = record {
    one_class = itself;
    none_less = λ m less one. (
        let same : u ≡ m = inside u m (only_alone w (Unknown u) never (Unknown m) one) in
        omega (arith, less, same)
        );
  }
    where
      inside : (u m : ℕ) → Unknown u ≡ Unknown m → u ≡ m
      inside u m e = cc

pub none_there : {X : Type 0} (o : Option X) (none : Bool) (x : X) → is_some o ≡ not none → IsTrue none → o ≡ Some x → ⊥
none_there o none x exact empty there = false≢true (sym (ap not empty) ∙ sym exact ∙ ap is_some there)

-- a term without a place is at most those of its class alone
pub unplaced_only : {k : Known} {terms : List Term} {classes : Merged} {marks : List Mark} {order : List Difference} {several : Bool} (a : Term) →
    IsWhole k terms classes marks order several → ((p : Place) → PlaceOf terms classes.merges marks a p → ⊥) → IsOnlyClass k a
unplaced_only {k} {terms} {classes} {marks} {order} {several} a w none b (inl one) = one
unplaced_only {k} {terms} {classes} {marks} {order} {several} a w none b (inr level) = elim ((gap_shown a b 0 w).1 level.0) [ inl one ↦ one.1 | inr rise ↦ absurd (none rise.from rise.low) ]
