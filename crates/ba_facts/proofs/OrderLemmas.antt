-- Places that rise by the facts of an order, and the chains of terms that these mean.
use Rattle.std.proofs.Common.{◌≡◌, ◌≢◌, ℕ, zero, suc, Bool, ℤ, pos, neg_ℤ, ◌+ℤ◌, ◌-ℤ◌, ◌≤ℤ◌, ◌<ℤ◌, ◌↔◌, ◌⊎◌, inl, inr, List, [], ◌∷◌, Contains, refl, sym, ap, ◌∙◌, subst, arith, Some}
use Rattle.std.specs.List.{slice_get}
use Rattle.std.proofs.lemmas.Int.{ints}
use Rattle.std.proofs.lemmas.Option.{none-some, same_Some}
use Rattle.ba_model.specs.declared.value.Value.TheVariants.{Int}
use Rattle.ba_classes.specs.Merged.{Connected, itself, turned}
use Rattle.ba_classes.specs.Chains.{IsAbsurd, none, first}
use Rattle.ba_classes.specs.Chains.{Chain as FactChain}
use Rattle.ba_classes.specs.declared.order.Difference.{Difference}
use Rattle.ba_classes.proofs.ChainLemmas.{Shows-then}
use Rattle.ba_facts.specs.Known.{Known, OneClass, itself, turned, joined, within, at_most, less, number, Chain, none, first, ShownGap}
use Rattle.ba_facts.specs.Knowing.{IsRising}
use Rattle.ba_facts.specs.Marks.{home_of, number_place, HasMark, LiesAt, IsPlaceOf}
use Rattle.ba_facts.specs.Webs.{PlaceOf, by_class, by_itself, AnyRise, AreConnected, AreEqualPlaces, HasPlace, IsLinked, IsMarked, IsNumbered, IsOrdered, IsRaised, RisesBy}
use Rattle.ba_facts.specs.declared.marks.Mark.{Mark}
use Rattle.ba_facts.specs.declared.marks.Place.{Place}
use Rattle.ba_facts.specs.declared.term.Term.{Term}
use Rattle.ba_facts.specs.declared.term.Term.TheVariants.{Val}
use Rattle.ba_facts.proofs.ClassLemmas.{class_connected, label_moves, one_label}
use Rattle.ba_facts.proofs.ChainLemmas.{then, one_rise}
use Rattle.ba_facts.proofs.MarkLemmas.{own_lies}
use Rattle.ba_facts.proofs.NameLemmas.{term_cases}

-- ---- places

pub rises_itself : (facts : List Difference) (p : Place) → RisesBy facts p (pos 0) p
rises_itself facts p = record { shown = record { sum = pos 0; enough = omega (arith, ints); chain = none } }

pub rises_then : {facts : List Difference} (p q r : Place) {g h : ℤ} → RisesBy facts p g q → RisesBy facts q h r → RisesBy facts p (g +ℤ h) r
rises_then p q r s t = record { shown = Shows-then _ (omega (arith, ints)) s.shown t.shown }

pub rises_to : {facts : List Difference} (p q : Place) {g : ℤ} (h : ℤ) → h ≤ℤ g → RisesBy facts p g q → RisesBy facts p h q
rises_to p q h e s = record { shown = record { sum = s.shown.sum; enough = omega (arith, ints, s.shown.enough); chain = s.shown.chain } }

facts_more : {facts more : List Difference} {x y : ℕ} {n : ℤ} → ((f : Difference) → Contains facts f → Contains more f) → FactChain facts x n y → FactChain more x n y
facts_more kept none = none
facts_more kept (first f h c) = first f (kept f h) (facts_more kept c)

pub rises_more : {facts more : List Difference} (p q : Place) {g : ℤ} → ((f : Difference) → Contains facts f → Contains more f) → RisesBy facts p g q → RisesBy more p g q
rises_more p q kept s = record { shown = record { sum = s.shown.sum; enough = s.shown.enough; chain = facts_more kept s.shown.chain } }

pub equal_itself : (facts : List Difference) (p : Place) → AreEqualPlaces facts p p
equal_itself facts p = record { up = rises_itself facts p; down = rises_itself facts p }

pub equal_then : {facts : List Difference} (p q r : Place) → AreEqualPlaces facts p q → AreEqualPlaces facts q r → AreEqualPlaces facts p r
equal_then p q r h g = record {
  up = rises_to p r (pos 0) (omega (arith, ints)) (rises_then p q r h.up g.up);
  down = rises_to r p (pos 0) (omega (arith, ints)) (rises_then r q p g.down h.down);
}

pub equal_more : {facts more : List Difference} (p q : Place) → ((f : Difference) → Contains facts f → Contains more f) → AreEqualPlaces facts p q → AreEqualPlaces more p q
equal_more p q kept h = record { up = rises_more p q kept h.up; down = rises_more q p kept h.down }

-- places move to equal ones
pub rises_moved : {facts : List Difference} (p q s t : Place) {g : ℤ} → AreEqualPlaces facts p s → AreEqualPlaces facts q t → RisesBy facts p g q → RisesBy facts s g t
rises_moved p q s t {g} left right h =
    rises_to s t g (omega (arith, ints)) (rises_then s p t left.down (rises_then p q t h right.up))

-- ---- the place of any term

pub numbered_cases : (terms : List Term) (t : Term) → IsNumbered terms t ⊎ ((n : ℕ) → slice_get terms n ≢ Some t)
numbered_cases [] t = inr (λ n h. none-some t h)
numbered_cases (u ∷ terms) t = elim (term_cases u t) as (λ _. IsNumbered (u ∷ terms) t ⊎ ((n : ℕ) → slice_get (u ∷ terms) n ≢ Some t)) [
  | inl e ↦ inl (record { number = 0; there = ap Some e })
  | inr ne ↦ elim (numbered_cases terms t) as (λ _. IsNumbered (u ∷ terms) t ⊎ ((n : ℕ) → slice_get (u ∷ terms) n ≢ Some t)) [
    | inl later ↦ inl (record { number = suc later.number; there = later.there })
    | inr never ↦ inr (not_first u terms t ne never)
  ]
]
  where
    not_first : (u : Term) (terms : List Term) (t : Term) → u ≢ t → ((n : ℕ) → slice_get terms n ≢ Some t) → (n : ℕ) → slice_get (u ∷ terms) n ≢ Some t
    not_first u terms t ne never zero h = ne (same_Some u t h)
    not_first u terms t ne never (suc n) h = never n h

pub one_mark : {merges : List (ℕ × ℕ)} {marks : List Mark} {n m : ℕ} {p q : Mark} → Connected merges n m → HasMark merges marks n p → HasMark merges marks m q → p ≡ q
one_mark {merges} {marks} c h g = same_Some _ _ (sym h.there ∙ ap (slice_get marks) (one_label h.is_label g.is_label c) ∙ g.there)

pub one_place : {merges : List (ℕ × ℕ)} {marks : List Mark} {n m : ℕ} {p q : Place} → Connected merges n m → HasPlace merges marks n p → HasPlace merges marks m q → p ≡ q
one_place c h g = same_Some _ _ (sym h.place_is ∙ ap (λ (m : Mark). m.place) (one_mark c h.has_mark g.has_mark) ∙ g.place_is)

pub place_follows : {merges : List (ℕ × ℕ)} {marks : List Mark} {n m : ℕ} {p : Place} → Connected merges n m → HasPlace merges marks n p → HasPlace merges marks m p
place_follows c h = record {
  mark = h.mark;
  has_mark = record { label = h.has_mark.label; is_label = label_moves h.has_mark.is_label c; there = h.has_mark.there };
  place_is = h.place_is;
}

module _ (k : Known) (terms : List Term) (merges : List (ℕ × ℕ)) (marks : List Mark) (facts : List Difference)
    (distinct : (n m : ℕ) (t : Term) → slice_get terms n ≡ Some t → slice_get terms m ≡ Some t → n ≡ m)
    (linked : IsLinked k terms merges) (o : IsOrdered k terms merges marks facts) where
  pub same_place : (a : Term) (p q : Place) → PlaceOf terms merges marks a p → PlaceOf terms merges marks a q → p ≡ q
  same_place a p q (by_class n is h) (by_class m js g) = one_place (subst (λ i. Connected merges n i) (distinct n m a is js) itself) h g
  same_place a p q (by_class n is h) (by_itself never own) = absurd (never n is)
  same_place a p q (by_itself never own) (by_class n is h) = absurd (never n is)
  same_place a p q (by_itself never own) (by_itself no_more also) = same_Some p q (sym own ∙ also)

  place_connected : (a b : Term) (p : Place) → PlaceOf terms merges marks a p → (a ≡ b) ⊎ AreConnected terms merges a b → PlaceOf terms merges marks b p
  place_connected a b p h (inl e) = subst (λ t. PlaceOf terms merges marks t p) e h
  place_connected a b p (by_class n is h) (inr c) =
      by_class c.right c.right_is (place_follows (subst (λ i. Connected merges i c.right) (distinct c.left n a c.left_is is) c.connected) h)
  place_connected a b p (by_itself never own) (inr c) = absurd (never c.left c.left_is)

  pub class_place : (a b : Term) (p : Place) → OneClass k a b → PlaceOf terms merges marks a p → PlaceOf terms merges marks b p
  class_place a b p h g = place_connected a b p g (class_connected distinct linked h)

  -- a whole number has a place equal to its own
  record NumberPlace (c : ℤ) : Type 0 where
    place : Place
    of : PlaceOf terms merges marks (Val (Int c)) place
    equal : AreEqualPlaces facts (number_place c) place

  number_has_place : (c : ℤ) → NumberPlace c
  number_has_place c = elim (numbered_cases terms (Val (Int c))) as (λ _. NumberPlace c) [
    | inl n ↦ let h = o.numbers n.number c n.there in record { place = h.place; of = by_class n.number n.there h.has_place; equal = h.equal }
    | inr never ↦ record { place = number_place c; of = by_itself never refl; equal = equal_itself facts (number_place c) }
  ]

  abbrev Any : Term → ℤ → Term → Type 0
  Any = AnyRise terms merges marks facts

  raised_any : (a b : Term) (g : ℤ) → IsRaised terms merges marks facts a g b → Any a g b
  raised_any a b g h = record { from = h.from; to = h.to; low = by_class h.low h.low_is h.has_low; high = by_class h.high h.high_is h.has_high; rises = h.rises }

  numbers_rise : (n m : ℤ) → Any (Val (Int n)) (m -ℤ n) (Val (Int m))
  numbers_rise n m =
      let low = number_has_place n in
      let high = number_has_place m in
      let plain : RisesBy facts (number_place n) (m -ℤ n) (number_place m) = record { shown = record { sum = pos 0; enough = omega (arith, ints); chain = none } } in
      record { from = low.place; to = high.place; low = low.of; high = high.of; rises = rises_moved (number_place n) (number_place m) low.place high.place low.equal high.equal plain }

  any_from : (a b c : Term) (g : ℤ) → OneClass k a b → Any b g c → Any a g c
  any_from a b c g h s = record { from = s.from; to = s.to; low = class_place b a s.from (turned h) s.low; high = s.high; rises = s.rises }

  any_to : (a b c : Term) (g : ℤ) → OneClass k b c → Any a g b → Any a g c
  any_to a b c g h s = record { from = s.from; to = s.to; low = s.low; high = class_place b c s.to h s.high; rises = s.rises }

  any_then : (a b c : Term) (g h : ℤ) → Any a g b → Any b h c → Any a (g +ℤ h) c
  any_then a b c g h s t =
      let at : s.to ≡ t.from = same_place b s.to t.from s.high t.low in
      record { from = s.from; to = t.to; low = s.low; high = t.high; rises = rises_then s.from t.from t.to (subst (λ p. RisesBy facts s.from g p) at s.rises) t.rises }

  any_sum : (a b : Term) (g h : ℤ) → g ≡ h → Any a g b → Any a h b
  any_sum a b g h e s = subst (λ n. Any a n b) e s

  -- what a chain comes to: a term of the class, with nothing added, or a rise of places
  abbrev Reached : Term → ℤ → Term → Type 0
  Reached a s b = (OneClass k a b × (s ≡ pos 0)) ⊎ Any a s b

  after_rise : (a b c : Term) (g s : ℤ) → Any a g b → Reached b s c → Reached a (g +ℤ s) c
  after_rise a b c g s h (inl r) = inr (any_sum a c g (g +ℤ s) (let zero_is : s ≡ pos 0 = r.1 in omega (arith, ints)) (any_to a b c g r.0 h))
  after_rise a b c g s h (inr r) = inr (any_then a b c g s h r)

  after_class : (a b c : Term) (s : ℤ) → OneClass k a b → Reached b s c → Reached a (pos 0 +ℤ s) c
  after_class a b c s h (inl r) = inl (joined h r.0, let zero_is : s ≡ pos 0 = r.1 in omega (arith, ints))
  after_class a b c s h (inr r) = inr (any_sum a c s (pos 0 +ℤ s) (omega (arith, ints)) (any_from a b c s h r))

  pub reached : {a b : Term} {s : ℤ} → Chain k a s b → Reached a s b
  reached none = inl (itself, refl)
  reached (first (within h) c) = after_class _ _ _ _ h (reached c)
  reached (first (at_most h) c) = after_rise _ _ _ _ _ (raised_any _ _ _ (o.at_most _ _ h)) (reached c)
  reached (first (less h) c) = after_rise _ _ _ _ _ (raised_any _ _ _ (o.less _ _ h)) (reached c)
  reached (first number c) = after_rise _ _ _ _ _ (numbers_rise _ _) (reached c)

  -- ---- back to terms

  record Arrives (t : Term) (s : ℤ) (y : ℕ) : Type 0 where
    home : Term
    home_is : home_of terms y ≡ Some home
    chain : Chain k t s home

  arrives : {x y : ℕ} {s : ℤ} (t : Term) → home_of terms x ≡ Some t → FactChain facts x s y → Arrives t s y
  arrives t at none = record { home = t; home_is = at; chain = none }
  arrives {x} {y} {s} t at (first f h c) =
      let fact = o.shown f h in
      let rest = arrives fact.high fact.high_is c in
      record { home = rest.home; home_is = rest.home_is; chain = then (subst (λ (u : Term). Chain k u f.gap fact.high) (same_Some fact.low t (sym fact.low_is ∙ at)) fact.chain) rest.chain }

  pub any_gap : (a b : Term) (g : ℤ) → ((t : Term) (p : Place) → PlaceOf terms merges marks t p → LiesAt k terms t p) → Any a g b → ShownGap k a g b
  any_gap a b g lies s =
      let low = lies a s.from s.low in
      let high = lies b s.to s.high in
      let way = arrives low.home low.home_is s.rises.shown.chain in
      let up : Chain k way.home s.to.offset b = subst (λ (u : Term). Chain k u s.to.offset b) (same_Some high.home way.home (sym high.home_is ∙ way.home_is)) high.up in
      record {
        sum = neg_ℤ s.from.offset +ℤ (s.rises.shown.sum +ℤ s.to.offset);
        enough = omega (arith, ints, s.rises.shown.enough);
        chain = then low.down (then way.chain up);
      }

  circle : {x y : ℕ} {s : ℤ} → x ≡ y → pos 0 <ℤ s → FactChain facts x s y → IsRising k
  circle e above none = absurd (omega (arith, ints))
  circle {x} {y} {s} e above (first f h c) =
      let fact = o.shown f h in
      let way = arrives fact.low fact.low_is (first f h c) in
      let back : way.home ≡ fact.low = same_Some way.home fact.low (sym way.home_is ∙ ap (home_of terms) (sym e) ∙ fact.low_is) in
      record { term = fact.low; sum = s; above = above; chain = subst (λ (u : Term). Chain k fact.low s u) back way.chain }

  pub rising_from_facts : IsAbsurd facts → IsRising k
  rising_from_facts h = circle refl h.above h.chain

  pub facts_from_rising : IsRising k → IsAbsurd facts
  facts_from_rising h = elim (reached h.chain) as (λ _. IsAbsurd facts) [
    | inl r ↦ absurd (let e : h.sum ≡ pos 0 = r.1 in omega (arith, ints, h.above))
    | inr s ↦
        let at : s.to ≡ s.from = same_place h.term s.to s.from s.high s.low in
        let offset_is : s.to.offset ≡ s.from.offset = ap (λ (p : Place). p.offset) at in
        record {
          node = s.from.node;
          sum = s.rises.shown.sum;
          above = omega (arith, ints, s.rises.shown.enough, h.above);
          chain = subst (λ (p : Place). FactChain facts s.from.node s.rises.shown.sum p.node) at s.rises.shown.chain;
        }
  ]

  pub gap_exact : ((t : Term) (p : Place) → PlaceOf terms merges marks t p → LiesAt k terms t p) → (a b : Term) (g : ℕ) → (((g ≡ 0) × OneClass k a b) ⊎ Any a (pos g) b) ↔ ShownGap k a (pos g) b
  gap_exact lies a b g = (
    λ h. elim h as (λ _. ShownGap k a (pos g) b) [
      | inl one ↦ record { sum = pos 0; enough = let e : g ≡ 0 = one.0 in omega (arith, ints); chain = one_rise (within one.1) }
      | inr s ↦ any_gap a b (pos g) lies s
    ],
    λ h. elim (reached h.chain) as (λ _. ((g ≡ 0) × OneClass k a b) ⊎ Any a (pos g) b) [
      | inl r ↦ inl (let e : h.sum ≡ pos 0 = r.1 in omega (arith, ints, h.enough), r.0)
      | inr s ↦ inr (record { from = s.from; to = s.to; low = s.low; high = s.high; rises = rises_to s.from s.to (pos g) h.enough s.rises })
    ],
  )

  pub place_lies : (several : Bool) → IsMarked k terms merges marks several → (t : Term) (p : Place) → PlaceOf terms merges marks t p → LiesAt k terms t p
  place_lies several m t p (by_class n is h) = subst (IsPlaceOf k terms t) h.place_is (m.exact n t h.mark is h.has_mark).place
  place_lies several m t p (by_itself never own) = subst (IsPlaceOf k terms t) own (own_lies k terms t)
