-- A web says what is known as there are more unknowns.
use Rattle.std.proofs.Common.{◌≡◌, ℕ, ◌<◌, ◌++◌, ◌⊎◌, inl, inr, Bool, true, IsTrue, List, length, refl, sym, ap, ◌∙◌, subst, arith, Option, Some, None, length-append}
use Rattle.std.specs.List.{slice_get}
use Rattle.std.proofs.lemmas.Bool.{false≢true, not_from_false}
use Rattle.std.proofs.lemmas.Option.{same_Some, slice_get-get_or}
use Rattle.ba_classes.specs.Merged.{Merged}
use Rattle.ba_classes.specs.declared.order.Difference.{Difference}
use Rattle.ba_facts.specs.Known.{Known, Equated, same, equal, null, NotNullTerm, column, literal, param, var, left, right, recorded}
use Rattle.ba_facts.specs.Knowing.{IsThere}
use Rattle.ba_facts.specs.Marks.{never_null, own_not_null}
use Rattle.ba_facts.specs.Webs.{Extends, IsNumbered, IsWhole}
use Rattle.ba_facts.specs.declared.marks.Mark.{Mark}
use Rattle.ba_facts.specs.declared.term.Sort.{Sort}
use Rattle.ba_facts.specs.declared.term.Term.{Term}
use Rattle.ba_facts.specs.declared.term.Term.TheVariants.{Unknown, Val, Param, Var}
use Rattle.ba_facts.proofs.ClassLemmas.{class_connected, one_class_more}
use Rattle.ba_facts.proofs.Elements.{get_append_old}
use Rattle.ba_facts.proofs.MarkLemmas.{SameClass, mark_same}
use Rattle.ba_facts.proofs.OrderLemmas.{equal_itself}
use Rattle.ba_facts.proofs.UpdateLemmas.{ordered_moves}
use Rattle.ba_facts.proofs.WebLemmas.{shown_more, two_literals_more}

module _ (k : Known) (more : List Sort) where
  abbrev wider : Known
  wider = record k { unknowns = k.unknowns ++ more }

  equated_wider : (a b : Term) → Equated k a b → Equated wider a b
  equated_wider a b (same h) = same h
  equated_wider a b (equal h) = equal h
  equated_wider a b (null h) = null h

  equated_back : (a b : Term) → Equated wider a b → Equated k a b
  equated_back a b (same h) = same h
  equated_back a b (equal h) = equal h
  equated_back a b (null h) = null h

  denied_wider : (t : Term) → NotNullTerm k t → NotNullTerm wider t
  denied_wider t (column {n = n} {sort = sort} h e) = column (get_append_old k.unknowns more n sort h) e
  denied_wider t (literal h) = literal h
  denied_wider t param = param
  denied_wider t var = var
  denied_wider t (left h c) = left h c
  denied_wider t (right h c) = right h c
  denied_wider t (recorded h) = recorded h

  column_back : (n : ℕ) (sort : Sort) → n < length k.unknowns → slice_get wider.unknowns n ≡ Some sort → slice_get k.unknowns n ≡ Some sort
  column_back n sort below h =
      let was = slice_get-get_or k.unknowns n sort below in
      was ∙ ap Some (same_Some _ sort (sym (get_append_old k.unknowns more n _ was) ∙ h))

  denied_back : (t : Term) → IsThere k t → NotNullTerm wider t → NotNullTerm k t
  denied_back t below (column {n = n} {sort = sort} h e) = column (column_back n sort below h) e
  denied_back t there (literal h) = literal h
  denied_back t there param = param
  denied_back t there var = var
  denied_back t there (left h c) = left h c
  denied_back t there (right h c) = right h c
  denied_back t there (recorded h) = recorded h

  there_wider : (t : Term) → IsThere k t → IsThere wider t
  there_wider (Unknown n) h = omega (arith, length-append k.unknowns more)
  there_wider (Val v) h = tt
  there_wider (Param n) h = tt
  there_wider (Var n) h = tt

  column_never : (n : ℕ) (sort : Option Sort) → slice_get k.unknowns n ≡ sort → never_null sort ≡ true → never_null (slice_get wider.unknowns n) ≡ true
  column_never n None is h = absurd (false≢true h)
  column_never n (Some sort) is h = ap never_null (get_append_old k.unknowns more n sort is) ∙ h

  own_wider : (t : Term) → own_not_null k.unknowns t ≡ true → own_not_null wider.unknowns t ≡ true
  own_wider (Unknown n) h = column_never n _ refl h
  own_wider (Val v) h = h
  own_wider (Param n) h = h
  own_wider (Var n) h = h

  either_wider : (terms : List Term) (t : Term) → IsTrue (own_not_null k.unknowns t) ⊎ IsNumbered terms t → IsTrue (own_not_null wider.unknowns t) ⊎ IsNumbered terms t
  either_wider terms t (inl e) = inl (own_wider t e)
  either_wider terms t (inr n) = inr n

  noted_wider : (terms : List Term) → ((t : Term) → NotNullTerm k t → IsTrue (own_not_null k.unknowns t) ⊎ IsNumbered terms t) → (t : Term) → NotNullTerm wider t → IsTrue (own_not_null wider.unknowns t) ⊎ IsNumbered terms t
  noted_wider terms noted t (column {n = n} {sort = sort} h e) = inl (ap never_null h ∙ not_from_false sort.nullable e)
  noted_wider terms noted t (literal h) = either_wider terms t (noted t (literal h))
  noted_wider terms noted t param = inl refl
  noted_wider terms noted t var = inl refl
  noted_wider terms noted t (left h c) = either_wider terms t (noted t (left h c))
  noted_wider terms noted t (right h c) = either_wider terms t (noted t (right h c))
  noted_wider terms noted t (recorded h) = either_wider terms t (noted t (recorded h))

  extends : Extends k wider
  extends = record { equated = equated_wider; not_null = denied_wider; at_most = λ a b h. h; less = λ a b h. h }

  pub wider_whole : {terms : List Term} {classes : Merged} {marks : List Mark} {order : List Difference} {several : Bool} → IsWhole k terms classes marks order several → IsWhole wider terms classes marks order several
  wider_whole {terms} {classes} {marks} {order} w =
      let class : (t : Term) → SameClass k wider t = λ t. record { extends = extends; only = λ v h. one_class_more equated_back h } in
      record {
        terms_are = record {
          naming = record {
            few = w.terms_are.naming.few;
            roomy = w.terms_are.naming.roomy;
            marked = w.terms_are.naming.marked;
            distinct = w.terms_are.naming.distinct;
            there = λ n t h. there_wider t (w.terms_are.naming.there n t h);
          };
          linked = record {
            sound = λ n m h. let l = w.terms_are.linked.sound n m h in record { left = l.left; right = l.right; left_is = l.left_is; right_is = l.right_is; class = one_class_more equated_wider l.class };
            complete = λ a b h. w.terms_are.linked.complete a b (equated_back a b h);
          };
          marked = record {
            exact = λ n t m is h. mark_same m (class t)
                (λ b o g. denied_back b (elim (class_connected w.terms_are.naming.distinct w.terms_are.linked o) as (λ _. IsThere k b) [ inl e ↦ subst (IsThere k) e (w.terms_are.naming.there n t is) | inr c ↦ w.terms_are.naming.there c.right b c.right_is ]) g)
                (w.terms_are.marked.exact n t m is h);
            noted = noted_wider terms w.terms_are.marked.noted;
            flag = (λ e. two_literals_more equated_wider (w.terms_are.marked.flag.0 e), λ h. w.terms_are.marked.flag.1 (two_literals_more equated_back h));
          };
        };
        ordered = ordered_moves w.ordered wider terms classes.merges marks order (λ n t e. e) (λ f h. h)
            (λ n t p is h. record { place = p; has_place = h; equal = equal_itself order p })
            (λ f h. shown_more extends (λ n t e. e) (w.ordered.shown f h)) (λ n c h. inl h) (λ a b h. inl h) (λ a b h. inl h);
      }
