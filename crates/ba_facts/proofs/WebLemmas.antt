-- A web says what is known as its terms get places, are denied to be NULL, rise and become one.
use Rattle.std.proofs.Common.{◌≡◌, ℕ, ◌+◌, ℤ, pos, ◌↔◌, ◌++◌, ◌⊎◌, inl, inr, Bool, true, false, ◌||◌, IsTrue, List, [], ◌∷◌, Contains, refl, sym, ap, ◌∙◌, subst, arith, add-one, Option, Some, None}
use Rattle.std.specs.List.{slice_get}
use Rattle.std.proofs.lemmas.Bool.{false≢true}
use Rattle.std.proofs.lemmas.Int.{ints}
use Rattle.std.proofs.lemmas.List.Elements.{Contains-append_left, Contains-push, Contains-push_cases}
use Rattle.std.proofs.lemmas.Option.{none-some}
use Rattle.ba_model.specs.declared.query.Op.TheVariants.{Lt, Le}
use Rattle.ba_classes.specs.Merged.{Connected, Merged, merged, itself, turned, joined}
use Rattle.ba_classes.specs.declared.order.Difference.{Difference}
use Rattle.ba_facts.specs.Known.{Known, DifferentLiterals, Equated, Learned, NotNullTerm, OneClass, equated, itself, turned, joined, within, none, Rise}
use Rattle.ba_facts.specs.Knowing.{IsThere}
use Rattle.ba_facts.specs.Marks.{home_of, is_several, both_marks, own_not_null, AreLiterals, HasMark, IsDenied, IsMarkOf, IsPlaceOf, IsUpdated, LiesAt}
use Rattle.ba_facts.specs.Rises.{IsAgreed, rise_fact}
use Rattle.ba_facts.specs.Webs.{AreConnected, AreLinked, Denies, Extends, HasPlace, HasTwoLiterals, IsLinked, IsNumbered, IsRaised, IsShownFact, IsTerms, IsWhole, Joins, KeepsOrder, Raises, RisesBy}
use Rattle.ba_facts.specs.declared.marks.Literals.{Literals}
use Rattle.ba_facts.specs.declared.marks.Literals.TheVariants.{Absent, One, Several}
use Rattle.ba_facts.specs.declared.marks.Mark.{Mark}
use Rattle.ba_facts.specs.declared.marks.Place.{Place}
use Rattle.ba_facts.specs.declared.term.Term.{Term}
use Rattle.ba_facts.specs.declared.term.Term.TheVariants.{Unknown, Val, Param, Var}
use Rattle.ba_facts.proofs.ClassLemmas.{class_numbers, connected_class, connected_more, one_class_more, other_class, split}
use Rattle.ba_facts.proofs.AgreeLemmas.{fact_rises}
use Rattle.ba_facts.proofs.ChainLemmas.{chain_more, home_more, lies_more, one_rise, summing, then}
use Rattle.ba_facts.proofs.MarkLemmas.{Kept, SameClass, joined_mark, mark_denied, mark_moves, mark_same}
use Rattle.ba_facts.proofs.OrderLemmas.{equal_itself}
use Rattle.ba_facts.proofs.UpdateLemmas.{agreed_kept, denied_place, joined_place, mark_before, ordered_moves, updated_cases, updated_len, updated_place}

-- ---- a place for a class that had none

abbrev pub new_place : ℕ → Place
new_place x = record { node = x + 1; offset = pos 0 }

home_is : (terms : List Term) (x : ℕ) (a : Term) → slice_get terms x ≡ Some a → home_of terms (x + 1) ≡ Some a
home_is terms x a h = rw add-one h

lies_new : (k : Known) (terms : List Term) (x : ℕ) (a : Term) → slice_get terms x ≡ Some a → LiesAt k terms a (new_place x)
lies_new k terms x a h = record { home = a; home_is = home_is terms x a h; up = none; down = none }

module _ {k : Known} {terms : List Term} {classes : Merged} {marks : List Mark} {order : List Difference} {several : Bool} (w : IsWhole k terms classes marks order several) where
  -- the mark of a number is that of a connected term
  exact_at : (n m : ℕ) (t u : Term) (mark : Mark) → slice_get terms n ≡ Some t → slice_get terms m ≡ Some u → Connected classes.merges n m → HasMark classes.merges marks n mark → IsMarkOf k terms u mark
  exact_at n m t u mark is js c has = mark_moves mark (connected_class w.terms_are.linked is js c) (w.terms_are.marked.exact n t mark is has)

  pub place_whole : (x : ℕ) (a : Term) (new : List Mark) (had : Mark) → slice_get terms x ≡ Some a → HasMark classes.merges marks x had → had.place ≡ None → IsUpdated classes.merges marks new x (record had { place = Some (new_place x) }) → IsWhole k terms classes new order several
  place_whole x a new had is has none_is u =
      let old = w.terms_are.marked.exact x a had is has in
      let placed : IsMarkOf k terms a (record had { place = Some (new_place x) }) = record { literals = old.literals; not_null = old.not_null; place = lies_new k terms x a is } in
      record {
        terms_are = record {
          naming = record {
            few = w.terms_are.naming.few;
            roomy = w.terms_are.naming.roomy;
            marked = omega (arith, updated_len u, w.terms_are.naming.marked);
            distinct = w.terms_are.naming.distinct;
            there = w.terms_are.naming.there;
          };
          linked = w.terms_are.linked;
          marked = record {
            exact = λ n t m js h. elim (updated_cases u n m h) as (λ _. IsMarkOf k terms t m) [
              | inl c ↦ subst (IsMarkOf k terms t) (sym c.1) (mark_moves (record had { place = Some (new_place x) }) (connected_class w.terms_are.linked is js (turned c.0)) placed)
              | inr c ↦ w.terms_are.marked.exact n t m js c.1
            ];
            noted = w.terms_are.marked.noted;
            flag = w.terms_are.marked.flag;
          };
        };
        ordered = ordered_moves w.ordered k terms classes.merges new order (λ n t e. e) (λ f h. h)
            (λ n t p js h. record { place = p; has_place = updated_place u had has (λ q e. absurd (none-some q (sym none_is ∙ e))) n p h; equal = equal_itself order p })
            w.ordered.shown (λ n c h. inl h) (λ b d h. inl h) (λ b d h. inl h);
      }

-- a number's place is where its term lies
pub lies_at : {k : Known} {terms : List Term} {classes : Merged} {marks : List Mark} {order : List Difference} {several : Bool} → IsWhole k terms classes marks order several → (x : ℕ) (a : Term) (p : Place) → slice_get terms x ≡ Some a → HasPlace classes.merges marks x p → LiesAt k terms a p
lies_at {k} {terms} w x a p is h = subst (IsPlaceOf k terms a) h.place_is (w.terms_are.marked.exact x a h.mark is h.has_mark).place

-- ---- a term that isn't NULL

pub two_literals_more : {k l : Known} → ((t u : Term) → Equated k t u → Equated l t u) → HasTwoLiterals k → HasTwoLiterals l
two_literals_more more h = (h.0, record { left = h.1.left; right = h.1.right; left_in = one_class_more more h.1.left_in; right_in = one_class_more more h.1.right_in; differ = h.1.differ })

there_more : (k l : Known) → l.unknowns ≡ k.unknowns → (t : Term) → IsThere k t → IsThere l t
there_more k l e (Unknown n) h = rw e h
there_more k l e (Val v) h = tt
there_more k l e (Param n) h = tt
there_more k l e (Var n) h = tt

noted_more : (k l : Known) (terms : List Term) (t : Term) → l.unknowns ≡ k.unknowns → IsTrue (own_not_null k.unknowns t) ⊎ IsNumbered terms t → IsTrue (own_not_null l.unknowns t) ⊎ IsNumbered terms t
noted_more k l terms t e h = rw e h

pub deny_terms : {k l : Known} {terms : List Term} {classes : Merged} {marks new : List Mark} {several : Bool} {x : ℕ} {a : Term} → Denies k l a → slice_get terms x ≡ Some a → IsDenied classes.merges marks new x → IsTerms k terms classes marks several → IsTerms l terms classes new several
deny_terms {k} {l} {terms} {classes} {marks} {new} {several} {x} {a} d is u w =
    let class : (t : Term) → SameClass k l t = λ t. record { extends = d.extends; only = λ v h. one_class_more d.equated h } in
    record {
      naming = record {
        few = w.naming.few;
        roomy = w.naming.roomy;
        marked = omega (arith, updated_len u.updated, w.naming.marked);
        distinct = w.naming.distinct;
        there = λ n t h. there_more k l d.unknowns t (w.naming.there n t h);
      };
      linked = record {
        sound = λ n m h. let was = w.linked.sound n m h in record { left = was.left; right = was.right; left_is = was.left_is; right_is = was.right_is; class = one_class_more d.extends.equated was.class };
        complete = λ t v h. w.linked.complete t v (d.equated t v h);
      };
      marked = record {
        exact = λ n t m js h. elim (updated_cases u.updated n m h) as (λ _. IsMarkOf l terms t m) [
          | inl c ↦
              let at_a : IsMarkOf l terms a (record u.mark { not_null = true }) = mark_denied u.mark (class a) (record { other = a; class = itself; not_null = d.new }) (w.marked.exact x a u.mark is u.has_mark) in
              subst (IsMarkOf l terms t) (sym c.1) (mark_moves (record u.mark { not_null = true }) (one_class_more d.extends.equated (connected_class w.linked is js (turned c.0))) at_a)
          | inr c ↦ mark_same m (class t)
              (λ b o g. elim (d.only b g) as (λ _. NotNullTerm k b) [ inl was ↦ was | inr e ↦ absurd (c.0 (class_numbers w.naming.distinct w.linked js is (subst (OneClass k t) e o))) ])
              (w.marked.exact n t m js c.1)
        ];
        noted = λ t h. elim (d.only t h) as (λ _. IsTrue (own_not_null l.unknowns t) ⊎ IsNumbered terms t) [
          | inl was ↦ noted_more k l terms t d.unknowns (w.marked.noted t was)
          | inr e ↦ inr (record { number = x; there = is ∙ ap Some (sym e) })
        ];
        flag = (λ e. two_literals_more d.extends.equated (w.marked.flag.0 e), λ h. w.marked.flag.1 (two_literals_more d.equated h));
      };
    }

pub shown_more : {k l : Known} {terms many : List Term} {f : Difference} → Extends k l → Kept terms many → IsShownFact k terms f → IsShownFact l many f
shown_more {k} {l} {terms} {many} {f} x kept h = record {
  low = h.low;
  high = h.high;
  low_is = home_more terms many kept f.low h.low h.low_is;
  high_is = home_more terms many kept f.high h.high h.high_is;
  chain = chain_more x h.chain;
}

pub deny_whole : {k h l : Known} {terms : List Term} {classes : Merged} {marks new newer : List Mark} {order : List Difference} {several : Bool} {x y : ℕ} {a b : Term} → Denies k h a → Denies h l b → KeepsOrder k l → slice_get terms x ≡ Some a → slice_get terms y ≡ Some b → IsDenied classes.merges marks new x → IsDenied classes.merges new newer y → IsWhole k terms classes marks order several → IsWhole l terms classes newer order several
deny_whole {k} {h} {l} {terms} {classes} {marks} {new} {newer} {order} d e keeps is js u v w = record {
  terms_are = deny_terms e js v (deny_terms d is u w.terms_are);
  ordered = ordered_moves w.ordered l terms classes.merges newer order (λ n t g. g) (λ f g. g)
      (λ n t p ks g. record { place = p; has_place = denied_place v n p (denied_place u n p g); equal = equal_itself order p })
      (λ f g. shown_more e.extends (λ n t i. i) (shown_more d.extends (λ n t i. i) (w.ordered.shown f g))) (λ n c g. inl g) (λ s t g. inl (keeps.at_most s t g)) (λ s t g. inl (keeps.less s t g));
}

-- ---- a rise

raised_shown : {l : Known} {terms : List Term} {a b : Term} {p q : Place} (g : ℤ) → Rise l a g b → LiesAt l terms a p → LiesAt l terms b q → IsShownFact l terms (rise_fact p g q)
raised_shown {l} {terms} {a} {b} {p} {q} g r low high = record {
  low = low.home;
  high = high.home;
  low_is = low.home_is;
  high_is = high.home_is;
  chain = summing _ (omega (arith, ints)) (then low.up (then (one_rise r) high.down));
}

pub rise_whole : {k h l : Known} {terms : List Term} {classes : Merged} {marks new newer : List Mark} {order raised : List Difference} {several : Bool} {x y : ℕ} {a b : Term} {p q : Place} (g : ℤ) → Denies k h a → Denies h l b → Raises k l a g b → slice_get terms x ≡ Some a → slice_get terms y ≡ Some b → HasPlace classes.merges marks x p → HasPlace classes.merges marks y q → raised ≡ order ++ rise_fact p g q ∷ [] → IsDenied classes.merges marks new x → IsDenied classes.merges new newer y → IsWhole k terms classes marks order several → IsWhole l terms classes newer raised several
rise_whole {k} {h} {l} {terms} {classes} {marks} {new} {newer} {order} {raised} {several} {x} {y} {a} {b} {p} {q} g d e r is js has_low has_high by u v w =
    let more : (f : Difference) → Contains order f → Contains raised f = λ f i. subst (λ (fs : List Difference). Contains fs f) (sym by) (Contains-append_left order _ f i) in
    let keep : (n : ℕ) (s : Place) → HasPlace classes.merges marks n s → HasPlace classes.merges newer n s = λ n s i. denied_place v n s (denied_place u n s i) in
    let low : LiesAt k terms a p = lies_at w x a p is has_low in
    let high : LiesAt k terms b q = lies_at w y b q js has_high in
    let itself_kept : Kept terms terms = λ n t i. i in
    let rises : IsRaised terms classes.merges newer raised a g b = record {
      low = x;
      high = y;
      low_is = is;
      high_is = js;
      from = p;
      to = q;
      has_low = keep x p has_low;
      has_high = keep y q has_high;
      rises = subst (λ (fs : List Difference). RisesBy fs p g q) (sym by) (fact_rises _ p q g (Contains-push order (rise_fact p g q)));
    } in
    record {
      terms_are = deny_terms e js v (deny_terms d is u w.terms_are);
      ordered = ordered_moves w.ordered l terms classes.merges newer raised itself_kept more
          (λ n t s ks i. record { place = s; has_place = keep n s i; equal = equal_itself raised s })
          (λ f i. elim (Contains-push_cases order (rise_fact p g q) f (subst (λ (fs : List Difference). Contains fs f) by i)) as (λ _. IsShownFact l terms f) [
            | inl was ↦ shown_more r.extends itself_kept (w.ordered.shown f was)
            | inr now ↦ subst (IsShownFact l terms) now (raised_shown g r.new (lies_more p r.extends itself_kept low) (lies_more q r.extends itself_kept high))
          ])
          (λ n c i. inl i)
          (λ s t i. elim (r.at_most s t i) as (λ _. Learned k Le s t ⊎ IsRaised terms classes.merges newer raised s (pos 0) t) [
            | inl was ↦ inl was
            | inr now ↦ inr (subst (λ m. IsRaised terms classes.merges newer raised s m t) now.2 (subst (λ m. IsRaised terms classes.merges newer raised m g t) (sym now.0) (subst (λ m. IsRaised terms classes.merges newer raised a g m) (sym now.1) rises)))
          ])
          (λ s t i. elim (r.less s t i) as (λ _. Learned k Lt s t ⊎ IsRaised terms classes.merges newer raised s (pos 1) t) [
            | inl was ↦ inl was
            | inr now ↦ inr (subst (λ m. IsRaised terms classes.merges newer raised s m t) now.2 (subst (λ m. IsRaised terms classes.merges newer raised m g t) (sym now.0) (subst (λ m. IsRaised terms classes.merges newer raised a g m) (sym now.1) rises)))
          ]);
    }

-- ---- two classes that become one

several_means : {k : Known} (terms : List Term) {a : Term} (ls : Literals) → is_several ls ≡ true → AreLiterals k terms a ls → DifferentLiterals k a a
several_means terms Absent e h = absurd (false≢true e)
several_means terms (One n) e h = absurd (false≢true e)
several_means terms (Several n) e h = h.1

several_from : {k : Known} (terms : List Term) {a : Term} (ls : Literals) → AreLiterals k terms a ls → DifferentLiterals k a a → is_several ls ≡ true
several_from terms Absent h d = absurd (h d.left d.left_in)
several_from terms (One n) h d = absurd (d.differ (h.1 d.left d.right d.left_in d.right_in))
several_from terms (Several n) h d = refl

-- two literals of one class after a join are of one before it, or the class is the joint one
split_literals : {k l : Known} {a b c : Term} → Joins k l a b → DifferentLiterals l c c → HasTwoLiterals k ⊎ DifferentLiterals l a a
split_literals {k} {l} {a} {b} {c} j d =
    let to : OneClass l c a → DifferentLiterals l a a = λ h. record { left = d.left; right = d.right; left_in = joined (turned h) d.left_in; right_in = joined (turned h) d.right_in; differ = d.differ } in
    let lift : (t u : Term) → OneClass k t u → OneClass l t u = λ t u h. one_class_more j.extends.equated h in
    let near : OneClass k c a ⊎ OneClass k c b → OneClass l c a = λ h. elim h as (λ _. OneClass l c a) [ inl x ↦ lift _ _ x | inr x ↦ joined (lift _ _ x) (turned (equated j.new)) ] in
    elim (split _ _ j d.left_in) as (λ _. HasTwoLiterals k ⊎ DifferentLiterals l a a) [
      | inr both ↦ inr (to (near (elim both as (λ _. OneClass k c a ⊎ OneClass k c b) [ inl x ↦ inl x.0 | inr x ↦ inr x.0 ])))
      | inl left ↦ elim (split _ _ j d.right_in) as (λ _. HasTwoLiterals k ⊎ DifferentLiterals l a a) [
        | inr both ↦ inr (to (near (elim both as (λ _. OneClass k c a ⊎ OneClass k c b) [ inl x ↦ inl x.0 | inr x ↦ inr x.0 ])))
        | inl right ↦ inl (c, record { left = d.left; right = d.right; left_in = left; right_in = right; differ = d.differ })
      ]
    ]

or_true : (p q : Bool) → (p || q) ≡ true → (p ≡ true) ⊎ (q ≡ true)
or_true true q e = inl refl
or_true false q e = inr e

or_left : (p q : Bool) → p ≡ true → (p || q) ≡ true
or_left true q e = refl
or_left false q e = absurd (false≢true e)

or_right : (p q : Bool) → q ≡ true → (p || q) ≡ true
or_right true q e = refl
or_right false q e = e

module _ {k l : Known} {terms : List Term} {classes : Merged} {marks new : List Mark} {order : List Difference} {several : Bool} {x y : ℕ} {a b : Term}
    (more : List Difference) (w : IsWhole k terms classes marks order several) (j : Joins k l a b) (is : slice_get terms x ≡ Some a) (js : slice_get terms y ≡ Some b)
    (left right : Mark) (has_left : HasMark classes.merges marks x left) (has_right : HasMark classes.merges marks y right)
    (agreed : IsAgreed order more left.place right.place) (u : IsUpdated (classes.merges ++ (x, y) ∷ []) marks new x (both_marks left right)) where
  abbrev after : List (ℕ × ℕ)
  after = classes.merges ++ (x, y) ∷ []

  abbrev both : Mark
  both = both_marks left right

  linked_after : IsLinked l terms after
  linked_after = record {
    sound = λ n m h. elim (Contains-push_cases classes.merges (x, y) (n, m) h) as (λ _. AreLinked l terms n m) [
      | inl was ↦ let old = w.terms_are.linked.sound n m was in record { left = old.left; right = old.right; left_is = old.left_is; right_is = old.right_is; class = one_class_more j.extends.equated old.class }
      | inr e ↦ record {
        left = a;
        right = b;
        left_is = subst (λ i. slice_get terms i ≡ Some a) (ap (λ (p : ℕ × ℕ). p.0) e) is;
        right_is = subst (λ i. slice_get terms i ≡ Some b) (ap (λ (p : ℕ × ℕ). p.1) e) js;
        class = equated j.new;
      }
    ];
    complete = λ t v h. elim (j.only t v h) as (λ _. AreConnected terms after t v) [
      | inl was ↦ let old = w.terms_are.linked.complete t v was in record { left = old.left; right = old.right; left_is = old.left_is; right_is = old.right_is; connected = connected_more _ old.connected }
      | inr e ↦ record { left = x; right = y; left_is = is ∙ ap Some (sym e.0); right_is = js ∙ ap Some (sym e.1); connected = merged (Contains-push classes.merges (x, y)) }
    ];
  }

  both_is : IsMarkOf l terms a both
  both_is = joined_mark j terms w.terms_are.naming.distinct left right (w.terms_are.marked.exact x a left is has_left) (w.terms_are.marked.exact y b right js has_right)

  exact_after : (n : ℕ) (t : Term) (m : Mark) → slice_get terms n ≡ Some t → HasMark after new n m → IsMarkOf l terms t m
  exact_after n t m ks h = elim (updated_cases u n m h) as (λ _. IsMarkOf l terms t m) [
    | inl c ↦ subst (IsMarkOf l terms t) (sym c.1) (mark_moves both (connected_class linked_after is ks (turned c.0)) both_is)
    | inr c ↦
        let apart : ¬ (OneClass l t a) = λ o. c.0 (class_numbers w.terms_are.naming.distinct linked_after ks is o) in
        let class : SameClass k l t = record { extends = j.extends; only = λ v o. other_class j apart o } in
        mark_same m class (λ v o i. j.not_null v i) (w.terms_are.marked.exact n t m ks (mark_before classes.merges x y marks new left right has_left has_right u n m c.0 c.1))
  ]

  flag_after : IsTrue (several || is_several both.literals) ↔ HasTwoLiterals l
  flag_after = (
    λ e. elim (or_true several (is_several both.literals) e) as (λ _. HasTwoLiterals l) [
      | inl was ↦ two_literals_more j.extends.equated (w.terms_are.marked.flag.0 was)
      | inr now ↦ (a, several_means terms both.literals now both_is.literals)
    ],
    λ h. elim (split_literals j h.1) as (λ _. IsTrue (several || is_several both.literals)) [
      | inl was ↦ or_left several _ (w.terms_are.marked.flag.1 was)
      | inr now ↦ or_right several _ (several_from terms both.literals both_is.literals now)
    ],
  )

  lies_both : (t : Term) (n : ℕ) (p : Place) → slice_get terms n ≡ Some t → HasPlace classes.merges marks n p → LiesAt l terms t p
  lies_both t n p ks h = lies_more p j.extends (λ i v g. g) (lies_at w n t p ks h)

  agreed_shown : (p q : Option Place) → left.place ≡ p → right.place ≡ q → IsAgreed order more p q → (f : Difference) → Contains more f → IsShownFact l terms f
  agreed_shown None q e g i f h = shown_more j.extends (λ n t o. o) (w.ordered.shown f (subst (λ (fs : List Difference). Contains fs f) i h))
  agreed_shown (Some p) None e g i f h = shown_more j.extends (λ n t o. o) (w.ordered.shown f (subst (λ (fs : List Difference). Contains fs f) i h))
  agreed_shown (Some p) (Some q) e g i f h =
      let low : LiesAt l terms a p = lies_both a x p is (record { mark = left; has_mark = has_left; place_is = e }) in
      let high : LiesAt l terms b q = lies_both b y q js (record { mark = right; has_mark = has_right; place_is = g }) in
      elim (i.only f h) as (λ _. IsShownFact l terms f) [
        | inl was ↦ shown_more j.extends (λ n t o. o) (w.ordered.shown f was)
        | inr now ↦ elim now as (λ _. IsShownFact l terms f) [
          | inl up ↦ subst (IsShownFact l terms) (sym up) (raised_shown (pos 0) (within (equated j.new)) low high)
          | inr down ↦ subst (IsShownFact l terms) (sym down) (raised_shown (pos 0) (within (turned (equated j.new))) high low)
        ]
      ]

  pub join_whole : IsWhole l terms (record classes { merges = after }) new more (several || is_several both.literals)
  join_whole = record {
    terms_are = record {
      naming = record {
        few = w.terms_are.naming.few;
        roomy = w.terms_are.naming.roomy;
        marked = omega (arith, updated_len u, w.terms_are.naming.marked);
        distinct = w.terms_are.naming.distinct;
        there = λ n t h. there_more k l j.unknowns t (w.terms_are.naming.there n t h);
      };
      linked = linked_after;
      marked = record {
        exact = exact_after;
        noted = λ t h. noted_more k l terms t j.unknowns (w.terms_are.marked.noted t (j.not_null t h));
        flag = flag_after;
      };
    };
    ordered = ordered_moves w.ordered l terms after new more (λ n t h. h) (agreed_kept order more left.place right.place agreed)
        (λ n t p ks h. joined_place classes.merges x y marks new left right has_left has_right u order more agreed n p h)
        (agreed_shown left.place right.place refl refl agreed) (λ n c h. inl h) (λ s t h. inl (j.order.at_most s t h)) (λ s t h. inl (j.order.less s t h));
  }

-- the step of `join`, over what it called
pub join_step : {k l : Known} {terms : List Term} {classes united : Merged} {marks new : List Mark} {order result : List Difference} {several flag : Bool} {x y : ℕ} {a b : Term} (more : List Difference) → IsWhole k terms classes marks order several → Joins k l a b → slice_get terms x ≡ Some a → slice_get terms y ≡ Some b → (left right mark : Mark) → HasMark classes.merges marks x left → HasMark classes.merges marks y right → IsAgreed order more left.place right.place → united ≡ record classes { merges = classes.merges ++ (x, y) ∷ [] } → mark ≡ both_marks left right → IsUpdated united.merges marks new x mark → result ≡ more → flag ≡ is_several mark.literals → IsWhole l terms united new result (several || flag)
join_step {k} {l} {terms} {classes} {united} {marks} {new} {order} {result} {several} {flag} {x} {y} {a} {b} more w j is js left right mark has_left has_right agreed united_is mark_is u result_is flag_is =
    let merges_are : united.merges ≡ classes.merges ++ (x, y) ∷ [] = ap (λ (m : Merged). m.merges) united_is in
    let v : IsUpdated (classes.merges ++ (x, y) ∷ []) marks new x (both_marks left right) =
    subst (IsUpdated (classes.merges ++ (x, y) ∷ []) marks new x) mark_is (subst (λ (ms : List (ℕ × ℕ)). IsUpdated ms marks new x mark) merges_are u) in
    let whole = join_whole more w j is js left right has_left has_right agreed v in
    let flagged : flag ≡ is_several (both_marks left right).literals = flag_is ∙ ap (λ (m : Mark). is_several m.literals) mark_is in
    subst (λ (c : Merged). IsWhole l terms c new result (several || flag)) (sym united_is)
    (subst (λ (fs : List Difference). IsWhole l terms (record classes { merges = classes.merges ++ (x, y) ∷ [] }) new fs (several || flag)) (sym result_is)
    (subst (λ (f : Bool). IsWhole l terms (record classes { merges = classes.merges ++ (x, y) ∷ [] }) new more (several || f)) (sym flagged) whole))
