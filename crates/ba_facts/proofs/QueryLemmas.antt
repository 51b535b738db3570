-- What a web answers of terms with numbers and of others.
use Rattle.std.proofs.Common.{◌≡◌, ◌≢◌, ℕ, pos, ◌↔◌, ◌⊎◌, inl, inr, Bool, true, false, not, IsTrue, List, refl, sym, ap, ◌∙◌, subst, Some}
use Rattle.std.specs.List.{slice_get}
use Rattle.std.proofs.lemmas.Bool.{false≢true}
use Rattle.std.proofs.lemmas.Option.{slice_get_within}
use Rattle.ba_model.specs.declared.value.Value.{Value}
use Rattle.ba_model.specs.declared.value.Value.TheVariants.{Null}
use Rattle.ba_classes.specs.Merged.{Connected, Merged, itself}
use Rattle.ba_classes.specs.Chains.{IsAbsurd}
use Rattle.ba_classes.specs.declared.order.Difference.{Difference}
use Rattle.ba_facts.specs.Known.{Known, DifferentLiterals, OneClass, ShownGap, ShownNotNull, itself, turned, joined}
use Rattle.ba_facts.specs.Knowing.{IsClashing, literals, null, IsRising}
use Rattle.ba_facts.specs.Marks.{own_not_null, own_place, AreLiterals, HasOneLiteral, IsMarkOf}
use Rattle.ba_facts.specs.Finding.{AreNumbered, AreThose}
use Rattle.ba_facts.specs.declared.marks.Literals.{Literals}
use Rattle.ba_facts.specs.declared.marks.Literals.TheVariants.{Absent, One, Several}
use Rattle.ba_facts.specs.Webs.{AnyRise, HasTwoLiterals, IsClassMark, IsTerms, IsWhole, PlaceOf, by_class, by_itself}
use Rattle.ba_facts.specs.declared.marks.Mark.{Mark}
use Rattle.ba_facts.specs.declared.marks.Place.{Place}
use Rattle.ba_facts.specs.declared.term.Term.{Term}
use Rattle.ba_facts.specs.declared.term.Term.TheVariants.{Val}
use Rattle.ba_facts.proofs.ClassLemmas.{alone, class_numbers, connected_class}
use Rattle.ba_facts.proofs.MarkLemmas.{alone_not_null}
use Rattle.ba_facts.proofs.NameLemmas.{value_cases}
use Rattle.ba_facts.proofs.OrderLemmas.{facts_from_rising, gap_exact, one_mark, place_lies, rising_from_facts}

module _ {k : Known} {terms : List Term} {classes : Merged} {marks : List Mark} {several : Bool} (w : IsTerms k terms classes marks several) where
  pub class_exact : (x y : ℕ) (a b : Term) (r : Bool) → slice_get terms x ≡ Some a → slice_get terms y ≡ Some b → IsTrue r ↔ Connected classes.merges x y → IsTrue r ↔ OneClass k a b
  class_exact x y a b r is js h = (λ e. connected_class w.linked is js (h.0 e), λ o. h.1 (class_numbers w.naming.distinct w.linked is js o))

  pub only_alone : (a : Term) → ((n : ℕ) → slice_get terms n ≢ Some a) → (b : Term) → OneClass k a b → a ≡ b
  only_alone a never b h = alone w.naming.distinct w.linked never h

  pub alone_exact : (a b : Term) (r : Bool) → ((n : ℕ) → slice_get terms n ≢ Some a) → IsTrue r ↔ (a ≡ b) → IsTrue r ↔ OneClass k a b
  alone_exact a b r never h = (λ e. subst (OneClass k a) (h.0 e) itself, λ o. h.1 (only_alone a never b o))

  pub never_class : (x : ℕ) (a b : Term) (r : Bool) → r ≡ false → slice_get terms x ≡ Some a → ((n : ℕ) → slice_get terms n ≢ Some b) → IsTrue r ↔ OneClass k a b
  never_class x a b r e is never = (
    λ i. absurd (false≢true (sym e ∙ i)),
    λ o. absurd (never x (is ∙ ap Some (sym (only_alone b never a (turned o))))),
  )

  pub alone_denied : (a : Term) (unknowns : List Rattle.ba_facts.specs.declared.term.Sort.Sort) (r : Bool) → k.unknowns ≡ unknowns → ((n : ℕ) → slice_get terms n ≢ Some a) → r ≡ own_not_null unknowns a → IsTrue r ↔ ShownNotNull k a
  alone_denied a unknowns r known never e =
      let own : r ≡ own_not_null k.unknowns a = e ∙ ap (λ (us : List Rattle.ba_facts.specs.declared.term.Sort.Sort). own_not_null us a) (sym known) in
      subst (λ (s : Bool). IsTrue s ↔ ShownNotNull k a) (sym own)
      (alone_not_null k a (only_alone a never) (λ h. elim (w.marked.noted a h) as (λ _. own_not_null k.unknowns a ≡ true) [ inl i ↦ i | inr n ↦ absurd (never n.number n.there) ]))

  pub class_mark_is : (a : Term) (m : Mark) → IsClassMark terms classes.merges marks a m → IsMarkOf k terms a m
  class_mark_is a m h = w.marked.exact h.number a m h.there h.has_mark

  pub numbered_place : (a : Term) (m : Mark) → IsClassMark terms classes.merges marks a m → (p : Place) → (m.place ≡ Some p) ↔ PlaceOf terms classes.merges marks a p
  numbered_place a m h p = (λ e. by_class h.number h.there (record { mark = m; has_mark = h.has_mark; place_is = e }), λ g. place_back a m h p g)
    where
      place_back : (a : Term) (m : Mark) → IsClassMark terms classes.merges marks a m → (p : Place) → PlaceOf terms classes.merges marks a p → m.place ≡ Some p
      place_back a m h p (by_class n is g) = ap (λ (i : Mark). i.place) (one_mark (subst (λ i. Connected classes.merges h.number i) (w.naming.distinct h.number n a h.there is) itself) h.has_mark g.has_mark) ∙ g.place_is
      place_back a m h p (by_itself never own) = absurd (never h.number h.there)

  pub own_place_is : (a : Term) → ((n : ℕ) → slice_get terms n ≢ Some a) → (p : Place) → (own_place a ≡ Some p) ↔ PlaceOf terms classes.merges marks a p
  own_place_is a never p = (λ e. by_itself never e, λ g. own_back a never p g)
    where
      own_back : (a : Term) → ((n : ℕ) → slice_get terms n ≢ Some a) → (p : Place) → PlaceOf terms classes.merges marks a p → own_place a ≡ Some p
      own_back a never p (by_class n is g) = absurd (never n is)
      own_back a never p (by_itself no_number own) = own

pub rising_exact : {k : Known} {terms : List Term} {classes : Merged} {marks : List Mark} {order : List Difference} {several : Bool} (r : Bool) → IsWhole k terms classes marks order several → IsTrue r ↔ IsAbsurd order → IsTrue r ↔ IsRising k
rising_exact {k} {terms} {classes} {marks} {order} r w h = (
  λ e. rising_from_facts k terms classes.merges marks order w.terms_are.naming.distinct w.terms_are.linked w.ordered (h.0 e),
  λ i. h.1 (facts_from_rising k terms classes.merges marks order w.terms_are.naming.distinct w.terms_are.linked w.ordered i),
)

pub gap_shown : {k : Known} {terms : List Term} {classes : Merged} {marks : List Mark} {order : List Difference} {several : Bool} (a b : Term) (g : ℕ) → IsWhole k terms classes marks order several → (((g ≡ 0) × OneClass k a b) ⊎ AnyRise terms classes.merges marks order a (pos g) b) ↔ ShownGap k a (pos g) b
gap_shown {k} {terms} {classes} {marks} {order} {several} a b g w =
    gap_exact k terms classes.merges marks order w.terms_are.naming.distinct w.terms_are.linked w.ordered (place_lies k terms classes.merges marks order w.terms_are.naming.distinct w.terms_are.linked w.ordered several w.terms_are.marked) a b g

-- of two literals of one class one differs from any value
pub several_differ : {k : Known} {a b : Term} (v : Value) → DifferentLiterals k a a → OneClass k b (Val v) → DifferentLiterals k a b
several_differ {k} {a} {b} v d h = elim (value_cases d.left v) as (λ _. DifferentLiterals k a b) [
  | inl e ↦ record { left = d.right; right = v; left_in = d.right_in; right_in = h; differ = λ f. d.differ (e ∙ sym f) }
  | inr ne ↦ record { left = d.left; right = v; left_in = d.left_in; right_in = h; differ = ne }
]

pub turned_differ : {k : Known} {a b : Term} → DifferentLiterals k a b → DifferentLiterals k b a
turned_differ d = record { left = d.right; right = d.left; left_in = d.right_in; right_in = d.left_in; differ = λ e. d.differ (sym e) }

-- ---- literals by value

pub own_literal : {k : Known} {a : Term} (v : Value) → a ≡ Val v → ((b : Term) → OneClass k a b → a ≡ b) → OneClass k a (Val v) × HasOneLiteral k a
own_literal {k} {a} v is only = (
  subst (OneClass k a) is itself,
  λ u w p q. let e : Val u ≡ Val w = sym (only _ p) ∙ only _ q in cc,
)

pub no_literal : {k : Known} {a b : Term} → ((v : Value) → ¬ (OneClass k a (Val v))) → IsTrue false ↔ DifferentLiterals k a b
no_literal none = (λ e. absurd (false≢true e), λ d. absurd (none d.left d.left_in))

pub no_other : {k : Known} {a b : Term} → ((v : Value) → ¬ (OneClass k b (Val v))) → IsTrue false ↔ DifferentLiterals k a b
no_other none = (λ e. absurd (false≢true e), λ d. absurd (none d.right d.right_in))

pub both_one : {k : Known} {a b : Term} (v w : Value) (r : Bool) → IsTrue r ↔ (v ≡ w) → OneClass k a (Val v) → HasOneLiteral k a → OneClass k b (Val w) → HasOneLiteral k b → IsTrue (not r) ↔ DifferentLiterals k a b
both_one v w true h p one q other = (λ e. absurd (false≢true e), λ d. absurd (d.differ (one d.left v d.left_in p ∙ h.0 refl ∙ other w d.right q d.right_in)))
both_one v w false h p one q other = (λ e. record { left = v; right = w; left_in = p; right_in = q; differ = λ f. false≢true (h.1 f) }, λ d. refl)

-- a class of one literal alone is null where that is NULL
pub null_alone : {k : Known} {a : Term} (v : Value) (r : Bool) → OneClass k a (Val v) → HasOneLiteral k a → IsTrue r ↔ (v ≡ Null) → IsTrue r ↔ OneClass k a (Val Null)
null_alone {k} {a} v r there one h = (λ e. subst (λ (u : Value). OneClass k a (Val u)) (h.0 e) there, λ o. h.1 (one v Null there o))

pub one_several : {k : Known} {a b : Term} (v : Value) → OneClass k a (Val v) → DifferentLiterals k b b → IsTrue true ↔ DifferentLiterals k a b
one_several v p d = (λ e. turned_differ (several_differ v d p), λ e. refl)

pub several_one : {k : Known} {a b : Term} (v : Value) → DifferentLiterals k a a → OneClass k b (Val v) → IsTrue true ↔ DifferentLiterals k a b
several_one v d p = (λ e. several_differ v d p, λ e. refl)

pub mark_numbered : (k : Known) (terms : List Term) (a : Term) (ls : Literals) → AreLiterals k terms a ls → AreNumbered terms ls
mark_numbered k terms a Absent h = tt
mark_numbered k terms a (One n) h = slice_get_within _ n _ h.0.there
mark_numbered k terms a (Several n) h = tt

pub marks_numbered : (k : Known) (terms : List Term) (a : Term) (ls : Literals) → AreLiterals k terms a ls → AreThose terms ls
marks_numbered k terms a Absent h = tt
marks_numbered k terms a (One n) h = slice_get_within _ n _ h.0.there
marks_numbered k terms a (Several n) h = slice_get_within _ n _ h.0.there

-- where the first of two tests failed, the second decides
pub rises_alone : {A B C : Type 0} (r s : Bool) → r ≡ false → IsTrue r ↔ A → IsTrue s ↔ B → (A ⊎ B) ↔ C → IsTrue s ↔ C
rises_alone r s failed first second either = (
  λ e. either.0 (inr (second.0 e)),
  λ h. elim (either.1 h) as (λ _. IsTrue s) [ inl a ↦ absurd (false≢true (sym failed ∙ first.1 a)) | inr b ↦ second.1 b ],
)

-- a class clashes where one has two literals, or that of NULL has one that isn't NULL
pub clashing_exact : {k : Known} (r : Bool) → (HasTwoLiterals k → ⊥) → IsTrue r ↔ ShownNotNull k (Val Null) → IsTrue r ↔ IsClashing k
clashing_exact {k} r none h = (λ e. null itself (h.0 e), back)
  where
    back : IsClashing k → IsTrue r
    back (literals {a = a} d) = absurd (none (a, d))
    back (null n s) = h.1 (record { other = s.other; class = joined (turned n) s.class; not_null = s.not_null })
