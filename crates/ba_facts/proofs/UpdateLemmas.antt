-- The marks of numbers after one class was given another, and the order that goes with them.
use Rattle.std.proofs.Common.{◌≡◌, ◌≢◌, ℕ, ℤ, pos, ◌++◌, ◌⊎◌, inl, inr, List, [], ◌∷◌, Contains, length, refl, sym, ap, ◌∙◌, subst, Option, Some, None}
use Rattle.std.specs.List.{slice_get}
use Rattle.std.proofs.lemmas.List.{length-set}
use Rattle.std.proofs.lemmas.Option.{none-some, same_Some}
use Rattle.ba_model.specs.declared.query.Op.TheVariants.{Lt, Le}
use Rattle.ba_model.specs.declared.value.Value.TheVariants.{Int}
use Rattle.ba_classes.specs.Merged.{Connected, IsLabel, itself, turned, joined}
use Rattle.ba_classes.specs.declared.order.Difference.{Difference}
use Rattle.ba_facts.specs.Known.{Known, Learned}
use Rattle.ba_facts.specs.Marks.{both_places, both_marks, number_place, HasMark, IsDenied, IsUpdated}
use Rattle.ba_facts.specs.Rises.{IsAgreed}
use Rattle.ba_facts.specs.Webs.{AreEqualPlaces, HasPlace, IsOrdered, IsPlacedAs, IsRaised, IsShownFact}
use Rattle.ba_facts.specs.declared.marks.Mark.{Mark}
use Rattle.ba_facts.specs.declared.marks.Place.{Place}
use Rattle.ba_facts.specs.declared.term.Term.{Term}
use Rattle.ba_facts.specs.declared.term.Term.TheVariants.{Val}
use Rattle.ba_facts.proofs.ClassLemmas.{connected_cases, label_after, label_before, label_moves, to_x, from_x}
use Rattle.ba_facts.proofs.Elements.{get_set_other, get_set_same}
use Rattle.ba_facts.proofs.MarkLemmas.{Kept}
use Rattle.ba_facts.proofs.OrderLemmas.{equal_itself, one_mark, one_place, place_follows, rises_more, rises_moved}

module _ {merges : List (ℕ × ℕ)} {old new : List Mark} {n : ℕ} {m : Mark} (u : IsUpdated merges old new n m) where
  pub updated_len : length new ≡ length old
  updated_len = ap length u.new_is ∙ length-set old u.label m

  pub updated_here : (i : ℕ) → Connected merges i n → HasMark merges new i m
  updated_here i h = record {
    label = u.label;
    is_label = label_moves u.is_label (turned h);
    there = subst (λ (ms : List Mark). slice_get ms u.label ≡ Some m) (sym u.new_is) (get_set_same old u.label m u.within);
  }

  other_label : (i l : ℕ) → ¬ (Connected merges i n) → IsLabel merges i l → l ≢ u.label
  other_label i l apart h e = apart (joined h.connected (subst (λ j. Connected merges j n) (sym e) (turned u.is_label.connected)))

  pub updated_apart : (i : ℕ) (p : Mark) → ¬ (Connected merges i n) → HasMark merges old i p → HasMark merges new i p
  updated_apart i p apart h = record {
    label = h.label;
    is_label = h.is_label;
    there = subst (λ (ms : List Mark). slice_get ms h.label ≡ Some p) (sym u.new_is) (get_set_other old u.label h.label m (other_label i h.label apart h.is_label) ∙ h.there);
  }

  pub updated_cases : (i : ℕ) (p : Mark) → HasMark merges new i p → (Connected merges i n × (p ≡ m)) ⊎ ((¬ (Connected merges i n)) × HasMark merges old i p)
  updated_cases i p h = elim (connected_cases h.is_label u.is_label) as (λ _. (Connected merges i n × (p ≡ m)) ⊎ ((¬ (Connected merges i n)) × HasMark merges old i p)) [
    | inl c ↦ inl (c, one_mark c h (updated_here n itself))
    | inr apart ↦ inr (
      apart,
      record {
        label = h.label;
        is_label = h.is_label;
        there = sym (get_set_other old u.label h.label m (other_label i h.label apart h.is_label)) ∙ subst (λ (ms : List Mark). slice_get ms h.label ≡ Some p) u.new_is h.there;
      },
    )
  ]

  -- where the mark has the class's place, places stay
  pub updated_place : (had : Mark) → HasMark merges old n had → ((p : Place) → had.place ≡ Some p → m.place ≡ Some p) → (i : ℕ) (p : Place) → HasPlace merges old i p → HasPlace merges new i p
  updated_place had has keeps i p h = elim (connected_cases h.has_mark.is_label u.is_label) as (λ _. HasPlace merges new i p) [
    | inl c ↦ record { mark = m; has_mark = updated_here i c; place_is = keeps p (ap (λ (k : Mark). k.place) (one_mark (turned c) has h.has_mark) ∙ h.place_is) }
    | inr apart ↦ record { mark = h.mark; has_mark = updated_apart i h.mark apart h.has_mark; place_is = h.place_is }
  ]

pub denied_place : {merges : List (ℕ × ℕ)} {old new : List Mark} {n : ℕ} → IsDenied merges old new n → (i : ℕ) (p : Place) → HasPlace merges old i p → HasPlace merges new i p
denied_place d i p h = updated_place d.updated d.mark d.has_mark (λ q e. e) i p h

-- ---- after a merge

module _ (merges : List (ℕ × ℕ)) (x y : ℕ) (old new : List Mark) (left right : Mark)
    (has_left : HasMark merges old x left) (has_right : HasMark merges old y right)
    (u : IsUpdated (merges ++ (x, y) ∷ []) old new x (both_marks left right)) where
  abbrev merged : List (ℕ × ℕ)
  merged = merges ++ (x, y) ∷ []

  pub mark_before : (i : ℕ) (p : Mark) → ¬ (Connected merged i x) → HasMark merged old i p → HasMark merges old i p
  mark_before i p apart h = record { label = h.label; is_label = label_before merges x y i h.label apart h.is_label; there = h.there }

  pub mark_after : (i : ℕ) (p : Mark) → ¬ (Connected merged i x) → HasMark merges old i p → HasMark merged new i p
  mark_after i p apart h = updated_apart u i p apart (record { label = h.label; is_label = label_after merges x y i h.label apart h.is_label; there = h.there })

  either_cases : (i l : ℕ) → IsLabel merges i l → (Connected merges i x ⊎ Connected merges i y) ⊎ ¬ (Connected merged i x)
  either_cases i l h = elim (connected_cases h has_left.is_label) as (λ _. (Connected merges i x ⊎ Connected merges i y) ⊎ ¬ (Connected merged i x)) [
    | inl c ↦ inl (inl c)
    | inr not_x ↦ elim (connected_cases h has_right.is_label) as (λ _. (Connected merges i x ⊎ Connected merges i y) ⊎ ¬ (Connected merged i x)) [
      | inl c ↦ inl (inr c)
      | inr not_y ↦ inr (λ c. elim (from_x merges x y i c) as (λ _. ⊥) [ inl d ↦ not_x d | inr d ↦ not_y d ])
    ]
  ]

  has_both : (i : ℕ) → Connected merges i x ⊎ Connected merges i y → HasMark merged new i (both_marks left right)
  has_both i c = updated_here u i (to_x merges x y i c)

  -- the place of the joint class is equal to that of either
  both_left : (facts more : List Difference) (p q : Option Place) (at : Place) → IsAgreed facts more p q → p ≡ Some at → (place : Place) × (both_places p q ≡ Some place) × AreEqualPlaces more at place
  both_left facts more None q at g e = absurd (none-some at e)
  both_left facts more (Some p) q at g e = (p, refl, subst (λ r. AreEqualPlaces more at r) (sym (same_Some p at e)) (equal_itself more at))

  both_right : (facts more : List Difference) (p q : Option Place) (at : Place) → IsAgreed facts more p q → q ≡ Some at → (place : Place) × (both_places p q ≡ Some place) × AreEqualPlaces more at place
  both_right facts more p None at g e = absurd (none-some at e)
  both_right facts more None (Some q) at g e = (q, refl, subst (λ r. AreEqualPlaces more at r) (sym (same_Some q at e)) (equal_itself more at))
  both_right facts more (Some p) (Some q) at g e = (p, refl, subst (λ (r : Place). AreEqualPlaces more r p) (same_Some q at e) (record { up = g.equal.down; down = g.equal.up }))

  pub joined_place : (facts more : List Difference) → IsAgreed facts more left.place right.place → (i : ℕ) (p : Place) → HasPlace merges old i p → IsPlacedAs merged new more i p
  joined_place facts more g i p h = elim (either_cases i h.has_mark.label h.has_mark.is_label) as (λ _. IsPlacedAs merged new more i p) [
    | inr apart ↦ record { place = p; has_place = record { mark = h.mark; has_mark = mark_after i h.mark apart h.has_mark; place_is = h.place_is }; equal = equal_itself more p }
    | inl either ↦ elim either as (λ _. IsPlacedAs merged new more i p) [
      | inl c ↦
          let at : left.place ≡ Some p = ap (λ (m : Mark). m.place) (one_mark (turned c) has_left h.has_mark) ∙ h.place_is in
          let r = both_left facts more left.place right.place p g at in
          record { place = r.0; has_place = record { mark = both_marks left right; has_mark = has_both i either; place_is = r.1 }; equal = r.2 }
      | inr c ↦
          let at : right.place ≡ Some p = ap (λ (m : Mark). m.place) (one_mark (turned c) has_right h.has_mark) ∙ h.place_is in
          let r = both_right facts more left.place right.place p g at in
          record { place = r.0; has_place = record { mark = both_marks left right; has_mark = has_both i either; place_is = r.1 }; equal = r.2 }
    ]
  ]

-- ---- the order as places move

pub agreed_kept : (facts more : List Difference) (p q : Option Place) → IsAgreed facts more p q → (f : Difference) → Contains facts f → Contains more f
agreed_kept facts more None q g f h = subst (λ (fs : List Difference). Contains fs f) (sym g) h
agreed_kept facts more (Some p) None g f h = subst (λ (fs : List Difference). Contains fs f) (sym g) h
agreed_kept facts more (Some p) (Some q) g f h = g.kept f h

module _ {k : Known} {terms : List Term} {merges : List (ℕ × ℕ)} {marks : List Mark} {facts : List Difference} (o : IsOrdered k terms merges marks facts)
    (l : Known) (many : List Term) (merged : List (ℕ × ℕ)) (remarked : List Mark) (more : List Difference) (kept : Kept terms many)
    (grows : (f : Difference) → Contains facts f → Contains more f)
    (moves : (n : ℕ) (t : Term) (p : Place) → slice_get terms n ≡ Some t → HasPlace merges marks n p → IsPlacedAs merged remarked more n p) where
  moved_raise : (a b : Term) (g : ℤ) → IsRaised terms merges marks facts a g b → IsRaised many merged remarked more a g b
  moved_raise a b g h =
      let low = moves h.low a h.from h.low_is h.has_low in
      let high = moves h.high b h.to h.high_is h.has_high in
      record {
        low = h.low;
        high = h.high;
        low_is = kept h.low a h.low_is;
        high_is = kept h.high b h.high_is;
        from = low.place;
        to = high.place;
        has_low = low.has_place;
        has_high = high.has_place;
        rises = rises_moved h.from h.to low.place high.place low.equal high.equal (rises_more h.from h.to grows h.rises);
      }

  moved_number : (n : ℕ) (c : ℤ) → slice_get terms n ≡ Some (Val (Int c)) → IsPlacedAs merged remarked more n (number_place c)
  moved_number n c h =
      let was = o.numbers n c h in
      let now = moves n (Val (Int c)) was.place h was.has_place in
      record { place = now.place; has_place = now.has_place; equal = Rattle.ba_facts.proofs.OrderLemmas.equal_then (number_place c) was.place now.place (Rattle.ba_facts.proofs.OrderLemmas.equal_more (number_place c) was.place grows was.equal) now.equal }

  pub ordered_moves : ((f : Difference) → Contains more f → IsShownFact l many f)
      → ((n : ℕ) (c : ℤ) → slice_get many n ≡ Some (Val (Int c)) → (slice_get terms n ≡ Some (Val (Int c))) ⊎ IsPlacedAs merged remarked more n (number_place c))
      → ((a b : Term) → Learned l Le a b → Learned k Le a b ⊎ IsRaised many merged remarked more a (pos 0) b)
      → ((a b : Term) → Learned l Lt a b → Learned k Lt a b ⊎ IsRaised many merged remarked more a (pos 1) b)
      → IsOrdered l many merged remarked more
  ordered_moves shown numbers at_most less = record {
    shown = shown;
    numbers = λ n c h. elim (numbers n c h) as (λ _. IsPlacedAs merged remarked more n (number_place c)) [ inl was ↦ moved_number n c was | inr now ↦ now ];
    at_most = λ a b h. elim (at_most a b h) as (λ _. IsRaised many merged remarked more a (pos 0) b) [ inl was ↦ moved_raise a b (pos 0) (o.at_most a b was) | inr now ↦ now ];
    less = λ a b h. elim (less a b h) as (λ _. IsRaised many merged remarked more a (pos 1) b) [ inl was ↦ moved_raise a b (pos 1) (o.less a b was) | inr now ↦ now ];
  }
