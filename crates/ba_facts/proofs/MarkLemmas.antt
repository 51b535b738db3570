-- Marks of terms: alone, of one class, where two classes become one, and as more is known.
use Rattle.std.proofs.Common.{◌≡◌, ◌≢◌, ℕ, ℤ, pos, neg_ℤ, ◌↔◌, ◌++◌, ◌⊎◌, inl, inr, Bool, true, false, ◌||◌, cond, IsTrue, List, [], ◌∷◌, length, refl, sym, ap, ◌∙◌, subst, arith, Option, Some, None}
use Rattle.std.specs.List.{slice_get}
use Rattle.std.proofs.lemmas.Int.{ints}
use Rattle.std.proofs.lemmas.Bool.{cases_eq, eqb-false, eq-eqb, ne_eqb, false≢true}
use Rattle.std.proofs.lemmas.Option.{same_Some}
use Rattle.ba_model.specs.declared.value.Value.{Value}
use Rattle.ba_model.specs.declared.value.Value.TheVariants.{Null, Int, Text}
use Rattle.ba_facts.specs.Known.{Known, OneClass, equated, itself, turned, joined, NotNullTerm, column, literal, param, var, ShownNotNull, DifferentLiterals, number}
use Rattle.ba_facts.specs.Marks.{never_null, own_not_null, own_literals, own_place, own_mark, number_place, two_literals, both_literals, both_places, both_marks, HasLiteral, HasOneLiteral, AreLiterals, LiesAt, IsPlaceOf, IsMarkOf}
use Rattle.ba_facts.specs.Webs.{Extends, Joins}
use Rattle.ba_facts.specs.declared.marks.Literals.{Literals}
use Rattle.ba_facts.specs.declared.marks.Literals.TheVariants.{Absent, One, Several}
use Rattle.ba_facts.specs.declared.marks.Mark.{Mark}
use Rattle.ba_facts.specs.declared.marks.Place.{Place}
use Rattle.ba_facts.specs.declared.term.Sort.{Sort}
use Rattle.ba_facts.specs.declared.term.Term.{Term}
use Rattle.ba_facts.specs.declared.term.Term.TheVariants.{Unknown, Val, Param, Var}
use Rattle.ba_facts.proofs.ClassLemmas.{one_class_more, joined_class}
use Rattle.ba_facts.proofs.ChainLemmas.{summing, one_rise, lies_more, lies_moves, place_more, place_moves}
use Rattle.ba_facts.proofs.Elements.{get_push_new}

abbrev pub Kept : List Term → List Term → Type 0
Kept terms more = (n : ℕ) (t : Term) → slice_get terms n ≡ Some t → slice_get more n ≡ Some t

-- ---- of one class

literals_move : {k : Known} (terms : List Term) {a b : Term} (ls : Literals) → OneClass k a b → AreLiterals k terms a ls → AreLiterals k terms b ls
literals_move terms Absent o h = λ v g. h v (joined o g)
literals_move terms (One l) o h = (record { value = h.0.value; there = h.0.there; class = joined (turned o) h.0.class }, λ v w p q. h.1 v w (joined o p) (joined o q))
literals_move terms (Several l) o h = (
  record { value = h.0.value; there = h.0.there; class = joined (turned o) h.0.class },
  record { left = h.1.left; right = h.1.right; left_in = joined (turned o) h.1.left_in; right_in = joined (turned o) h.1.right_in; differ = h.1.differ },
)

pub not_null_moves : {k : Known} {a b : Term} → OneClass k a b → ShownNotNull k a → ShownNotNull k b
not_null_moves o h = record { other = h.other; class = joined (turned o) h.class; not_null = h.not_null }

pub mark_moves : {k : Known} {terms : List Term} {a b : Term} (m : Mark) → OneClass k a b → IsMarkOf k terms a m → IsMarkOf k terms b m
mark_moves m o h = record {
  literals = literals_move _ m.literals o h.literals;
  not_null = (λ e. not_null_moves o (h.not_null.0 e), λ s. h.not_null.1 (not_null_moves (turned o) s));
  place = place_moves _ m.place o h.place;
}

-- ---- of a term alone

abbrev pub Alone : Known → Term → Type 0
Alone k a = (b : Term) → OneClass k a b → a ≡ b

alone_literals : (k : Known) (terms : List Term) (a : Term) → Alone k a → AreLiterals k (terms ++ a ∷ []) a (own_literals (length terms) a)
alone_literals k terms (Unknown n) only = λ v h. let e = only _ h in cc
alone_literals k terms (Val v) only = (
  record { value = v; there = get_push_new terms (Val v); class = itself },
  λ u w p q. let e = only _ p in let f = only _ q in cc,
)
alone_literals k terms (Param n) only = λ v h. let e = only _ h in cc
alone_literals k terms (Var n) only = λ v h. let e = only _ h in cc

sort_not_null : (k : Known) (n : ℕ) (sort : Option Sort) → slice_get k.unknowns n ≡ sort → never_null sort ≡ true → NotNullTerm k (Unknown n)
sort_not_null k n None is h = absurd (false≢true h)
sort_not_null k n (Some sort) is h = column is (Rattle.std.proofs.lemmas.Bool.not-true sort.nullable h)

pub own_is_not_null : (k : Known) (a : Term) → own_not_null k.unknowns a ≡ true → NotNullTerm k a
own_is_not_null k (Unknown n) h = sort_not_null k n _ refl h
own_is_not_null k (Val Null) h = absurd (false≢true h)
own_is_not_null k (Val (Int n)) h = literal (λ e. cc)
own_is_not_null k (Val (Text t)) h = literal (λ e. cc)
own_is_not_null k (Param n) h = param
own_is_not_null k (Var n) h = var

pub alone_not_null : (k : Known) (a : Term) → Alone k a → (NotNullTerm k a → own_not_null k.unknowns a ≡ true) → IsTrue (own_not_null k.unknowns a) ↔ ShownNotNull k a
alone_not_null k a only noted = (
  λ h. record { other = a; class = itself; not_null = own_is_not_null k a h },
  λ s. noted (subst (NotNullTerm k) (sym (only s.other s.class)) s.not_null),
)

pub number_lies : (k : Known) (terms : List Term) (c : ℤ) → LiesAt k terms (Val (Int c)) (number_place c)
number_lies k terms c = record {
  home = Val (Int (pos 0));
  home_is = refl;
  up = summing c (omega (arith, ints)) (one_rise number);
  down = summing (neg_ℤ c) (omega (arith, ints)) (one_rise number);
}

pub own_lies : (k : Known) (terms : List Term) (a : Term) → IsPlaceOf k terms a (own_place a)
own_lies k terms (Unknown n) = tt
own_lies k terms (Val Null) = tt
own_lies k terms (Val (Int c)) = number_lies k terms c
own_lies k terms (Val (Text t)) = tt
own_lies k terms (Param n) = tt
own_lies k terms (Var n) = tt

pub own_is_mark : (k : Known) (terms : List Term) (a : Term) → Alone k a → (NotNullTerm k a → own_not_null k.unknowns a ≡ true) → IsMarkOf k (terms ++ a ∷ []) a (own_mark k.unknowns (length terms) a)
own_is_mark k terms a only noted = record {
  literals = alone_literals k terms a only;
  not_null = alone_not_null k a only noted;
  place = own_lies k _ a;
}

-- ---- as there are more terms

literals_kept : (k : Known) (terms more : List Term) (a : Term) (ls : Literals) → Kept terms more → AreLiterals k terms a ls → AreLiterals k more a ls
literals_kept k terms more a Absent kept h = h
literals_kept k terms more a (One l) kept h = (record { value = h.0.value; there = kept _ _ h.0.there; class = h.0.class }, h.1)
literals_kept k terms more a (Several l) kept h = (record { value = h.0.value; there = kept _ _ h.0.there; class = h.0.class }, h.1)

pub Extends-itself : (k : Known) → Extends k k
Extends-itself k = record { equated = λ a b h. h; not_null = λ a h. h; at_most = λ a b h. h; less = λ a b h. h }

pub mark_kept : {k : Known} {terms more : List Term} {a : Term} (m : Mark) → Kept terms more → IsMarkOf k terms a m → IsMarkOf k more a m
mark_kept {k} m kept h = record { literals = literals_kept _ _ _ _ m.literals kept h.literals; not_null = h.not_null; place = place_more _ _ _ m.place (Extends-itself k) kept h.place }

-- ---- as more is known of others

-- the class of a is as it was
pub record SameClass (k l : Known) (a : Term) : Type 0 where
  pub extends : Extends k l
  pub only : (b : Term) → OneClass l a b → OneClass k a b

literals_same : {k l : Known} (terms : List Term) {a : Term} (ls : Literals) → SameClass k l a → AreLiterals k terms a ls → AreLiterals l terms a ls
literals_same terms Absent s h = λ v g. h v (s.only _ g)
literals_same terms (One l) s h = (record { value = h.0.value; there = h.0.there; class = one_class_more s.extends.equated h.0.class }, λ v w p q. h.1 v w (s.only _ p) (s.only _ q))
literals_same terms (Several l) s h = (
  record { value = h.0.value; there = h.0.there; class = one_class_more s.extends.equated h.0.class },
  record { left = h.1.left; right = h.1.right; left_in = one_class_more s.extends.equated h.1.left_in; right_in = one_class_more s.extends.equated h.1.right_in; differ = h.1.differ },
)

pub not_null_more : {k l : Known} {a : Term} → Extends k l → ShownNotNull k a → ShownNotNull l a
not_null_more x h = record { other = h.other; class = one_class_more x.equated h.class; not_null = x.not_null _ h.not_null }

pub mark_same : {k l : Known} {terms : List Term} {a : Term} (m : Mark) → SameClass k l a → ((b : Term) → OneClass k a b → NotNullTerm l b → NotNullTerm k b) → IsMarkOf k terms a m → IsMarkOf l terms a m
mark_same m s back h = record {
  literals = literals_same _ m.literals s h.literals;
  not_null = (
    λ e. not_null_more s.extends (h.not_null.0 e),
    λ g. h.not_null.1 (record { other = g.other; class = s.only _ g.class; not_null = back _ (s.only _ g.class) g.not_null }),
  );
  place = place_more _ _ _ m.place s.extends (λ n t e. e) h.place;
}

-- a class that is now known to have a term that isn't NULL
pub mark_denied : {k l : Known} {terms : List Term} {a : Term} (m : Mark) → SameClass k l a → ShownNotNull l a → IsMarkOf k terms a m → IsMarkOf l terms a (record m { not_null = true })
mark_denied m s known h = record {
  literals = literals_same _ m.literals s h.literals;
  not_null = (λ e. known, λ g. refl);
  place = place_more _ _ _ m.place s.extends (λ n t e. e) h.place;
}

-- ---- of two classes that become one

module _ {k l : Known} {a b : Term} (j : Joins k l a b) (terms : List Term) (distinct : (n m : ℕ) (t : Term) → slice_get terms n ≡ Some t → slice_get terms m ≡ Some t → n ≡ m) where
  from_a : {t : Term} → OneClass k a t → OneClass l a t
  from_a h = one_class_more j.extends.equated h

  from_b : {t : Term} → OneClass k b t → OneClass l a t
  from_b h = joined (equated j.new) (one_class_more j.extends.equated h)

  literal_a : {n : ℕ} → HasLiteral k terms a n → HasLiteral l terms a n
  literal_a h = record { value = h.value; there = h.there; class = from_a h.class }

  literal_b : {n : ℕ} → HasLiteral k terms b n → HasLiteral l terms a n
  literal_b h = record { value = h.value; there = h.there; class = from_b h.class }

  only_a : ((v : Value) → ¬ (OneClass k b (Val v))) → HasOneLiteral k a → HasOneLiteral l a
  only_a none one v w p q = elim (joined_class j p) as (λ _. v ≡ w) [
    | inl x ↦ elim (joined_class j q) as (λ _. v ≡ w) [ inl y ↦ one v w x y | inr y ↦ absurd (none w y) ]
    | inr x ↦ absurd (none v x)
  ]

  only_b : ((v : Value) → ¬ (OneClass k a (Val v))) → HasOneLiteral k b → HasOneLiteral l a
  only_b none one v w p q = elim (joined_class j p) as (λ _. v ≡ w) [
    | inl x ↦ absurd (none v x)
    | inr x ↦ elim (joined_class j q) as (λ _. v ≡ w) [ inl y ↦ absurd (none w y) | inr y ↦ one v w x y ]
  ]

  -- each literal of the joint class is this one
  is_value : {n : ℕ} (h : HasLiteral k terms a n) (g : HasLiteral k terms b n) → HasOneLiteral k a → HasOneLiteral k b → (v : Value) → OneClass l a (Val v) → v ≡ h.value
  is_value h g one other v p = elim (joined_class j p) as (λ _. v ≡ h.value) [
    | inl x ↦ one v h.value x h.class
    | inr x ↦ let e : Val g.value ≡ Val h.value = same_Some _ _ (sym g.there ∙ h.there) in
        other v g.value x g.class ∙ (let f : g.value ≡ h.value = cc in f)
  ]

  two_become_one : (n m : ℕ) → AreLiterals k terms a (One n) → AreLiterals k terms b (One m) → (n ≡ m) ⊎ (n ≢ m) → AreLiterals l terms a (two_literals n m)
  two_become_one n m h g (inl e) =
      let same : HasLiteral k terms b n = subst (HasLiteral k terms b) (sym e) g.0 in
      subst (AreLiterals l terms a) (sym (ap (λ t. cond t (One n) (Several n)) (eq-eqb n m e)))
      (literal_a h.0, λ v w p q. is_value h.0 same h.1 g.1 v p ∙ sym (is_value h.0 same h.1 g.1 w q))
  two_become_one n m h g (inr ne) =
      subst (AreLiterals l terms a) (sym (ap (λ t. cond t (One n) (Several n)) (ne_eqb n m ne)))
      (literal_a h.0, record { left = h.0.value; right = g.0.value; left_in = from_a h.0.class; right_in = from_b g.0.class; differ = λ e. ne (distinct n m (Val g.0.value) (h.0.there ∙ ap (λ v. Some (Val v)) e) g.0.there) })

  several_a : DifferentLiterals k a a → DifferentLiterals l a a
  several_a d = record { left = d.left; right = d.right; left_in = from_a d.left_in; right_in = from_a d.right_in; differ = d.differ }

  several_b : DifferentLiterals k b b → DifferentLiterals l a a
  several_b d = record { left = d.left; right = d.right; left_in = from_b d.left_in; right_in = from_b d.right_in; differ = d.differ }

  joined_literals : (ls ms : Literals) → AreLiterals k terms a ls → AreLiterals k terms b ms → AreLiterals l terms a (both_literals ls ms)
  joined_literals Absent Absent h g = λ v p. elim (joined_class j p) as (λ _. ⊥) [ inl x ↦ h v x | inr x ↦ g v x ]
  joined_literals Absent (One m) h g = (literal_b g.0, only_b h g.1)
  joined_literals Absent (Several m) h g = (literal_b g.0, several_b g.1)
  joined_literals (One n) Absent h g = (literal_a h.0, only_a g h.1)
  joined_literals (One n) (One m) h g = two_become_one n m h g (cases_eq n m)
  joined_literals (One n) (Several m) h g = (literal_a h.0, several_b g.1)
  joined_literals (Several n) ms h g = (literal_a h.0, several_a h.1)

  joined_not_null : (p q : Bool) → IsTrue p ↔ ShownNotNull k a → IsTrue q ↔ ShownNotNull k b → IsTrue (p || q) ↔ ShownNotNull l a
  joined_not_null true q h g = (λ e. not_null_more j.extends (h.0 refl), λ s. refl)
  joined_not_null false q h g = (
    λ e. let s = g.0 e in record { other = s.other; class = from_b s.class; not_null = j.extends.not_null _ s.not_null },
    λ s. elim (joined_class j s.class) as (λ _. q ≡ true) [
      | inl x ↦ absurd (false≢true (h.1 (record { other = s.other; class = x; not_null = j.not_null _ s.not_null })))
      | inr x ↦ g.1 (record { other = s.other; class = x; not_null = j.not_null _ s.not_null })
    ],
  )

  joined_places : (p q : Option Place) → IsPlaceOf k terms a p → IsPlaceOf k terms b q → IsPlaceOf l terms a (both_places p q)
  joined_places (Some p) q h g = lies_more p j.extends (λ n t e. e) h
  joined_places None None h g = tt
  joined_places None (Some q) h g = lies_moves q (turned (equated j.new)) (lies_more q j.extends (λ n t e. e) g)

  pub joined_mark : (m n : Mark) → IsMarkOf k terms a m → IsMarkOf k terms b n → IsMarkOf l terms a (both_marks m n)
  joined_mark m n h g = record {
    literals = joined_literals m.literals n.literals h.literals g.literals;
    not_null = joined_not_null m.not_null n.not_null h.not_null g.not_null;
    place = joined_places m.place n.place h.place g.place;
  }
