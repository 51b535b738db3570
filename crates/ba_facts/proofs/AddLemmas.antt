-- A web says what is known as more terms get numbers, and at its beginning.
use Rattle.std.proofs.Common.{◌≡◌, ◌≢◌, ℕ, ◌<◌, ◌≤◌, ◌+◌, ◌^◌, ℤ, ◌++◌, ◌⊎◌, inl, inr, Bool, true, false, IsTrue, List, [], ◌∷◌, Contains, length, take, refl, sym, ap, ◌∙◌, subst, arith, Some}
use Rattle.std.specs.List.{slice_get}
use Rattle.std.proofs.lemmas.Bool.{false≢true}
use Rattle.std.proofs.lemmas.List.{length_push, length-take}
use Rattle.std.proofs.lemmas.Option.{none-some, same_Some, slice_get-get_or, slice_get_within, slice_get_past}
use Rattle.ba_model.specs.declared.value.Value.TheVariants.{Null, Int, Text}
use Rattle.ba_classes.specs.Merged.{Connected, Merged, itself, turned}
use Rattle.ba_classes.specs.declared.order.Difference.{Difference}
use Rattle.ba_facts.specs.Known.{Known, Equated, same, equal, null, OneClass, equated, itself, turned, joined, NotNullTerm, column, literal, param, var, left, right, recorded}
use Rattle.ba_facts.specs.Knowing.{IsThere}
use Rattle.ba_facts.specs.Marks.{own_mark, own_not_null, own_place, number_place, HasMark, IsMarkOf}
use Rattle.ba_facts.specs.Webs.{IsNumbered, IsPlacedAs, IsWhole}
use Rattle.ba_facts.specs.declared.marks.Mark.{Mark}
use Rattle.ba_facts.specs.declared.term.Lesson.{Lesson}
use Rattle.ba_facts.specs.declared.term.Sort.{Sort}
use Rattle.ba_facts.specs.declared.term.Term.{Term}
use Rattle.ba_facts.specs.declared.term.Term.TheVariants.{Val}
use Rattle.ba_facts.proofs.ClassLemmas.{alone, connected_linked, label_below}
use Rattle.ba_facts.proofs.Elements.{get_push_cases, get_push_new, get_push_old, get_take_below}
use Rattle.ba_facts.proofs.MarkLemmas.{Extends-itself, Kept, mark_kept, own_is_mark}
use Rattle.ba_facts.proofs.OrderLemmas.{equal_itself}
use Rattle.ba_facts.proofs.UpdateLemmas.{ordered_moves}
use Rattle.ba_facts.proofs.WebLemmas.{shown_more}

pub roomier_whole : {k : Known} {terms : List Term} {classes : Merged} {marks : List Mark} {order : List Difference} {several : Bool} (roomier : Merged) → roomier.merges ≡ classes.merges → classes.terms ≤ roomier.terms → IsWhole k terms classes marks order several → IsWhole k terms roomier marks order several
roomier_whole {k} {terms} {classes} {marks} {order} {several} roomier e grows w = record {
  terms_are = record {
    naming = record { few = w.terms_are.naming.few; roomy = omega (arith, w.terms_are.naming.roomy); marked = w.terms_are.naming.marked; distinct = w.terms_are.naming.distinct; there = w.terms_are.naming.there };
    linked = rw e w.terms_are.linked;
    marked = rw e w.terms_are.marked;
  };
  ordered = rw e w.ordered;
}

module _ {k : Known} {terms : List Term} {classes : Merged} {marks : List Mark} {order : List Difference} {several : Bool} (w : IsWhole k terms classes marks order several) where
  -- the marks of labels of numbers are as they were
  module _ (others : List Mark) (long : length terms ≤ length others) (same : (n : ℕ) → n < length terms → slice_get others n ≡ slice_get marks n) where
    mark_was : (n : ℕ) (t : Term) (m : Mark) → slice_get terms n ≡ Some t → HasMark classes.merges others n m → HasMark classes.merges marks n m
    mark_was n t m is h = record { label = h.label; is_label = h.is_label; there = sym (same h.label (omega (arith, label_below h.is_label, slice_get_within terms n t is))) ∙ h.there }

    mark_is : (n : ℕ) (t : Term) (m : Mark) → slice_get terms n ≡ Some t → HasMark classes.merges marks n m → HasMark classes.merges others n m
    mark_is n t m is h = record { label = h.label; is_label = h.is_label; there = same h.label (omega (arith, label_below h.is_label, slice_get_within terms n t is)) ∙ h.there }

    pub remarked_whole : IsWhole k terms classes others order several
    remarked_whole = record {
      terms_are = record {
        naming = record { few = w.terms_are.naming.few; roomy = w.terms_are.naming.roomy; marked = long; distinct = w.terms_are.naming.distinct; there = w.terms_are.naming.there };
        linked = w.terms_are.linked;
        marked = record { exact = λ n t m is h. w.terms_are.marked.exact n t m is (mark_was n t m is h); noted = w.terms_are.marked.noted; flag = w.terms_are.marked.flag };
      };
      ordered = ordered_moves w.ordered k terms classes.merges others order (λ n t e. e) (λ f h. h)
          (λ n t p is h. record { place = p; has_place = record { mark = h.mark; has_mark = mark_is n t h.mark is h.has_mark; place_is = h.place_is }; equal = equal_itself order p })
          w.ordered.shown (λ n c h. inl h) (λ b d h. inl h) (λ b d h. inl h);
    }

  -- a term is added whose mark is there already
  module _ (t : Term) (there : IsThere k t) (absent : (n : ℕ) → slice_get terms n ≢ Some t) (few : length terms + 1 < 2 ^ 32) (room : length terms < classes.terms)
      (own : slice_get marks (length terms) ≡ Some (own_mark k.unknowns (length terms) t)) where
    abbrev many : List Term
    many = terms ++ t ∷ []

    kept : Kept terms many
    kept n u h = get_push_old terms t n u h

    only_itself : (b : ℕ) → Connected classes.merges (length terms) b → length terms ≡ b
    only_itself b h = elim (connected_linked w.terms_are.linked h) as (λ _. length terms ≡ b) [
      | inl e ↦ e
      | inr l ↦ absurd (none-some l.left (sym (slice_get_past terms (length terms) (omega arith)) ∙ l.left_is))
    ]

    own_has : HasMark classes.merges marks (length terms) (own_mark k.unknowns (length terms) t)
    own_has = record {
      label = length terms;
      is_label = record { connected = itself; least = λ b h. omega (arith, only_itself b h) };
      there = own;
    }

    own_only : (m : Mark) → HasMark classes.merges marks (length terms) m → m ≡ own_mark k.unknowns (length terms) t
    own_only m h = same_Some m (own_mark k.unknowns (length terms) t) (sym h.there ∙ ap (slice_get marks) (sym (only_itself h.label h.is_label.connected)) ∙ own)

    noted_alone : NotNullTerm k t → own_not_null k.unknowns t ≡ true
    noted_alone h = elim (w.terms_are.marked.noted t h) as (λ _. own_not_null k.unknowns t ≡ true) [ inl e ↦ e | inr n ↦ absurd (absent n.number n.there) ]

    new_mark : IsMarkOf k many t (own_mark k.unknowns (length terms) t)
    new_mark = own_is_mark k terms t (λ b h. alone w.terms_are.naming.distinct w.terms_are.linked absent h) noted_alone

    new_exact : (n : ℕ) (u : Term) (m : Mark) → slice_get many n ≡ Some u → HasMark classes.merges marks n m → IsMarkOf k many u m
    new_exact n u m is h = elim (get_push_cases terms t n u is) as (λ _. IsMarkOf k many u m) [
      | inl was ↦ mark_kept m kept (w.terms_are.marked.exact n u m was h)
      | inr now ↦
          let m_is : m ≡ own_mark k.unknowns (length terms) t = own_only m (subst (λ i. HasMark classes.merges marks i m) now.0 h) in
          subst (λ v. IsMarkOf k many v m) now.1 (subst (IsMarkOf k many t) (sym m_is) new_mark)
    ]

    new_distinct : (n m : ℕ) (u : Term) → slice_get many n ≡ Some u → slice_get many m ≡ Some u → n ≡ m
    new_distinct n m u is js = elim (get_push_cases terms t n u is) as (λ _. n ≡ m) [
      | inl was ↦ elim (get_push_cases terms t m u js) as (λ _. n ≡ m) [
        | inl too ↦ w.terms_are.naming.distinct n m u was too
        | inr now ↦ absurd (absent n (was ∙ ap Some (sym now.1)))
      ]
      | inr now ↦ elim (get_push_cases terms t m u js) as (λ _. n ≡ m) [
        | inl was ↦ absurd (absent m (was ∙ ap Some (sym now.1)))
        | inr too ↦ now.0 ∙ sym too.0
      ]
    ]

    new_there : (n : ℕ) (u : Term) → slice_get many n ≡ Some u → IsThere k u
    new_there n u is = elim (get_push_cases terms t n u is) as (λ _. IsThere k u) [ inl was ↦ w.terms_are.naming.there n u was | inr now ↦ subst (IsThere k) now.1 there ]

    new_number : (n : ℕ) (c : ℤ) → slice_get many n ≡ Some (Val (Int c)) → (slice_get terms n ≡ Some (Val (Int c))) ⊎ IsPlacedAs classes.merges marks order n (number_place c)
    new_number n c is = elim (get_push_cases terms t n (Val (Int c)) is) as (λ _. (slice_get terms n ≡ Some (Val (Int c))) ⊎ IsPlacedAs classes.merges marks order n (number_place c)) [
      | inl was ↦ inl was
      | inr now ↦ inr (subst (λ i. IsPlacedAs classes.merges marks order i (number_place c)) (sym now.0) (record {
        place = number_place c;
        has_place = record { mark = own_mark k.unknowns (length terms) t; has_mark = own_has; place_is = ap own_place now.1 };
        equal = equal_itself order (number_place c);
      }))
    ]

    pub added_whole : IsWhole k many classes marks order several
    added_whole = record {
      terms_are = record {
        naming = record {
          few = omega (arith, length_push terms t);
          roomy = omega (arith, length_push terms t);
          marked = omega (arith, length_push terms t, slice_get_within marks (length terms) _ own);
          distinct = new_distinct;
          there = new_there;
        };
        linked = record {
          sound = λ n m h. let l = w.terms_are.linked.sound n m h in record { left = l.left; right = l.right; left_is = kept n l.left l.left_is; right_is = kept m l.right l.right_is; class = l.class };
          complete = λ a b h. let l = w.terms_are.linked.complete a b h in record { left = l.left; right = l.right; left_is = kept l.left a l.left_is; right_is = kept l.right b l.right_is; connected = l.connected };
        };
        marked = record {
          exact = new_exact;
          noted = λ u h. elim (w.terms_are.marked.noted u h) as (λ _. IsTrue (own_not_null k.unknowns u) ⊎ IsNumbered many u) [ inl e ↦ inl e | inr n ↦ inr (record { number = n.number; there = kept n.number u n.there }) ];
          flag = w.terms_are.marked.flag;
        };
      };
      ordered = ordered_moves w.ordered k many classes.merges marks order kept (λ f h. h)
          (λ n u p is h. record { place = p; has_place = h; equal = equal_itself order p })
          (λ f h. shown_more (Extends-itself k) kept (w.ordered.shown f h)) new_number (λ b d h. inl h) (λ b d h. inl h);
    }

-- ---- the steps of `add`, over what it called

cut_same : (marks : List Mark) (n count : ℕ) → n < count → slice_get (take count marks) n ≡ slice_get marks n
cut_same marks n count below = elim (Rattle.std.proofs.lemmas.Option.slice_get_cases marks n).1 as (λ _. slice_get (take count marks) n ≡ slice_get marks n) [
  | inl is ↦ get_take_below count marks n is.0 below is.2 ∙ sym is.2
  | inr past ↦ slice_get_past (take count marks) n (omega (arith, length-take count marks, past.0)) ∙ sym past.1
]

pub cut_whole : {k : Known} {terms : List Term} {classes : Merged} {marks : List Mark} {order : List Difference} {several : Bool} (count : ℕ) (cut : List Mark) → count ≡ length terms → cut ≡ take count marks → IsWhole k terms classes marks order several → IsWhole k terms classes cut order several
cut_whole {k} {terms} {classes} {marks} {order} {several} count cut e is w =
    let long : length terms ≤ length cut = omega (arith, ap length is, length-take count marks, w.terms_are.naming.marked) in
    remarked_whole w cut long (λ n below. ap (λ (ms : List Mark). slice_get ms n) is ∙ cut_same marks n count (omega arith))

pub pushed_whole : {k : Known} {terms : List Term} {classes : Merged} {marks : List Mark} {order : List Difference} {several : Bool} (count : ℕ) (pushed : List Mark) (m : Mark) → count ≡ length terms → pushed ≡ take count marks ++ m ∷ [] → IsWhole k terms classes marks order several → IsWhole k terms classes pushed order several
pushed_whole {k} {terms} {classes} {marks} {order} {several} count pushed m e is w =
    let cut : length (take count marks) ≡ count = omega (arith, length-take count marks, w.terms_are.naming.marked) in
    let long : length terms ≤ length pushed = omega (arith, ap length is, length_push (take count marks) m) in
    remarked_whole w pushed long (λ n below.
    ap (λ (ms : List Mark). slice_get ms n) is
    ∙ (let at = slice_get-get_or (take count marks) n m (omega (arith, cut)) in get_push_old (take count marks) m n _ at ∙ sym at)
    ∙ cut_same marks n count (omega arith))

pub room_step : {k : Known} {terms : List Term} {classes : Merged} {marks : List Mark} {order : List Difference} {several : Bool} (roomier : Merged) (count : ℕ) (cut pushed : List Mark) (m : Mark) → roomier.merges ≡ classes.merges → classes.terms ≤ roomier.terms → count ≡ length terms → cut ≡ take count marks → pushed ≡ cut ++ m ∷ [] → IsWhole k terms classes marks order several → IsWhole k terms roomier pushed order several
room_step {k} {terms} {classes} {marks} roomier count cut pushed m merges grows e cut_is is w =
    pushed_whole count pushed m e (is ∙ ap (λ (ms : List Mark). ms ++ m ∷ []) cut_is) (roomier_whole roomier merges grows w)

pub add_step : {k : Known} {terms : List Term} {classes : Merged} {marks : List Mark} {order : List Difference} {several : Bool} (roomier : Merged) (count : ℕ) (cut pushed : List Mark) (m : Mark) (unknowns : List Sort) (t : Term) (many : List Term) → roomier.merges ≡ classes.merges → classes.terms ≤ roomier.terms → count ≡ length terms → cut ≡ take count marks → pushed ≡ cut ++ m ∷ [] → k.unknowns ≡ unknowns → IsThere k t → ((n : ℕ) → slice_get terms n ≢ Some t) → m ≡ own_mark unknowns count t → count + 1 < 2 ^ 32 → (count ≤ classes.terms → count < roomier.terms) → many ≡ terms ++ t ∷ [] → IsWhole k terms classes marks order several → IsWhole k many roomier pushed order several
add_step {k} {terms} {classes} {marks} {order} {several} roomier count cut pushed m unknowns t many merges grows e cut_is is known there absent m_is few room many_is w =
    let v = room_step roomier count cut pushed m merges grows e cut_is is w in
    let cut_len : length cut ≡ count = omega (arith, ap length cut_is, length-take count marks, w.terms_are.naming.marked) in
    let has : slice_get pushed (length terms) ≡ Some m = subst (λ (n : ℕ). slice_get pushed n ≡ Some m) (cut_len ∙ e) (ap (λ (ms : List Mark). slice_get ms (length cut)) is ∙ get_push_new cut m) in
    let own : m ≡ own_mark k.unknowns (length terms) t = m_is ∙ ap (λ (n : ℕ). own_mark unknowns n t) e ∙ ap (λ (us : List Sort). own_mark us (length terms) t) (sym known) in
    subst (λ (ts : List Term). IsWhole k ts roomier pushed order several) (sym many_is)
    (added_whole v t there absent (omega arith) (let below : count < roomier.terms = room (omega (arith, w.terms_are.naming.roomy)) in omega arith) (has ∙ ap Some own))

-- ---- at the beginning

abbrev nothing : Known
nothing = record { unknowns = []; learned = [] }

no_lesson : (lesson : Lesson) → ¬ (Contains nothing.learned lesson)
no_lesson lesson h = omega (arith, h.1)

no_equated : (a b : Term) → ¬ (Equated nothing a b)
no_equated a b (same h) = no_lesson _ h
no_equated a b (equal h) = no_lesson _ h
no_equated a b (null h) = no_lesson _ h

one_alone : {a b : Term} → OneClass nothing a b → a ≡ b
one_alone (equated h) = absurd (no_equated _ _ h)
one_alone itself = refl
one_alone (turned h) = sym (one_alone h)
one_alone (joined h i) = one_alone h ∙ one_alone i

no_column : {B : Type 0} (n : ℕ) (sort : Sort) → slice_get nothing.unknowns n ≡ Some sort → B
no_column n sort h = absurd (none-some sort h)

not_null_itself : (t : Term) → NotNullTerm nothing t → own_not_null [] t ≡ true
not_null_itself t (column {n = n} {sort = sort} h nullable) = no_column n sort h
not_null_itself (Val Null) (literal ne) = absurd (ne refl)
not_null_itself (Val (Int n)) (literal ne) = refl
not_null_itself (Val (Text s)) (literal ne) = refl
not_null_itself t param = refl
not_null_itself t var = refl
not_null_itself t (left h i) = absurd (no_lesson _ h)
not_null_itself t (right h i) = absurd (no_lesson _ h)
not_null_itself t (recorded h) = absurd (no_lesson _ h)

pub new_whole : {terms : List Term} {classes : Merged} {marks : List Mark} {order : List Difference} → terms ≡ [] → classes ≡ record { terms = 0; merges = [] } → marks ≡ [] → order ≡ [] → IsWhole nothing terms classes marks order false
new_whole {terms} {classes} {marks} {order} e f g h =
    let len : length terms ≡ 0 = ap length e in
    let merges : classes.merges ≡ [] = ap (λ (c : Merged). c.merges) f in
    record {
      terms_are = record {
        naming = record {
          few = omega arith;
          roomy = omega arith;
          marked = omega arith;
          distinct = λ n m t i j. absurd (none-some t (sym (slice_get_past terms n (omega arith)) ∙ i));
          there = λ n t i. absurd (none-some t (sym (slice_get_past terms n (omega arith)) ∙ i));
        };
        linked = record {
          sound = λ n m i. absurd (omega (arith, (subst (λ (ms : List (ℕ × ℕ)). Contains ms (n, m)) merges i).1));
          complete = λ a b i. absurd (no_equated a b i);
        };
        marked = record {
          exact = λ n t m i j. absurd (none-some t (sym (slice_get_past terms n (omega arith)) ∙ i));
          noted = λ t i. inl (not_null_itself t i);
          flag = (λ i. absurd (false≢true i), λ i. absurd (i.1.differ (let w = one_alone i.1.left_in in let v = one_alone i.1.right_in in cc)));
        };
      };
      ordered = record {
        shown = λ f i. absurd (omega (arith, (subst (λ (fs : List Difference). Contains fs f) h i).1));
        numbers = λ n c i. absurd (none-some _ (sym (slice_get_past terms n (omega arith)) ∙ i));
        at_most = λ a b i. absurd (no_lesson _ i);
        less = λ a b i. absurd (no_lesson _ i);
      };
    }
