-- A branch that grew quietly knows what it knew, and no more of the terms that stand for those that it has.
use Rattle.std.proofs.Common.{◌≡◌, ℕ, zero, suc, ◌+◌, ◌⊎◌, List, [], ◌∷◌, ◌++◌, Contains, inl, inr, length, refl, sym, subst, arith}
use Rattle.std.proofs.lemmas.List.Elements.{All-contains, Contains-append_cases, Contains-append_left}
use Rattle.std.proofs.lemmas.Option.{slice_get_within}
use Rattle.std.specs.Prelude.{Some, false, slice_get}
use Rattle.ba_facts.proofs.Elements.{get_append_old}
use Rattle.ba_model.specs.declared.query.Op.{Op}
use Rattle.ba_model.specs.declared.query.Op.TheVariants.{Eq, Ne, Lt, Le, IsNull, NotNull}
use Rattle.ba_model.specs.declared.value.Value.TheVariants.{Null}
use Rattle.ba_facts.specs.Known.{Equated, IsComparison, Known, Learned, NotNullTerm, OneClass, ShownNotNull}
use Rattle.ba_facts.specs.Known.{same, equal, null, equated, itself, column, literal, param, var, left, right, recorded, at_most, less}
use Rattle.ba_facts.specs.Knowing.{IsThere, LessonIsThere}
use Rattle.ba_facts.specs.Shown.{NeitherNull}
use Rattle.ba_facts.specs.declared.branch.Branch.{Branch}
use Rattle.ba_facts.specs.declared.term.Lesson.{Lesson}
use Rattle.ba_facts.specs.declared.term.Lesson.TheVariants.{Same, Holds}
use Rattle.ba_facts.specs.declared.term.Sort.{Sort}
use Rattle.ba_facts.specs.declared.term.Term.{Term}
use Rattle.ba_facts.specs.declared.term.Term.TheVariants.{Unknown, Val, Param, Var}
use Rattle.ba_facts.proofs.ChainLemmas.{one_rise}
use Rattle.ba_instant.proofs.CarryLemmas.{Carries, gap_of}
use Rattle.ba_instant.specs.Windows.{IsGrounded, IsQuietGrowth, IsToldBy, IsToldOf}

-- ---- lists

pub get_cases : {A : Type 0} (xs ys : List A) (n : ℕ) (y : A) → slice_get (xs ++ ys) n ≡ Some y →
    (slice_get xs n ≡ Some y) ⊎ ((m : ℕ) × (n ≡ length xs + m) × (slice_get ys m ≡ Some y))
get_cases [] ys n y e = inr (n, omega arith, e)
get_cases (x ∷ xs) ys zero y e = inl e
get_cases (x ∷ xs) ys (suc n) y e = elim (get_cases xs ys n y e) [ inl h ↦ inl h | inr h ↦ inr (h.0, omega (arith, h.1), h.2) ]

-- ---- what was known is known

module _ (k l : Known) (unknowns : List Sort) (lessons : List Lesson) (unknowns_are : l.unknowns ≡ k.unknowns ++ unknowns) (lessons_are : l.learned ≡ k.learned ++ lessons) where
  learned_still : (lesson : Lesson) → Contains k.learned lesson → Contains l.learned lesson
  learned_still lesson h = subst (λ ls. Contains ls lesson) (sym lessons_are) (Contains-append_left k.learned lessons lesson h)

  equated_still : (a b : Term) → Equated k a b → Equated l a b
  equated_still a b (same h) = same (learned_still _ h)
  equated_still a b (equal h) = equal (learned_still _ h)
  equated_still a b (null h) = null (learned_still _ h)

  not_null_still : (a : Term) → NotNullTerm k a → NotNullTerm l a
  not_null_still a (column {n = n} {sort = sort} h is) =
      column (subst (λ us. slice_get us n ≡ Some sort) (sym unknowns_are) (get_append_old k.unknowns unknowns n sort h)) is
  not_null_still a (literal h) = literal h
  not_null_still a param = param
  not_null_still a var = var
  not_null_still a (left h c) = left (learned_still _ h) c
  not_null_still a (right h c) = right (learned_still _ h) c
  not_null_still a (recorded h) = recorded (learned_still _ h)

  pub carries_on : Carries k l (λ t. t)
  carries_on = record {
    values = λ v. refl;
    one = λ a b h. equated (equated_still a b h);
    not_null = λ a h. record { other = a; class = itself; not_null = not_null_still a h };
    at_most = λ a b h. gap_of (one_rise (at_most (learned_still _ h)));
    less = λ a b h. gap_of (one_rise (less (learned_still _ h)));
    apart = λ a b h. record { x = a; y = b; learned = learned_still _ h; sides = inl (inl itself, inl itself) };
  }

-- ---- what is known was known

-- what was learned was told
module _ (k : Known) where
  pub shown_itself : {a : Term} → NotNullTerm k a → ShownNotNull k a
  shown_itself {a} h = record { other = a; class = itself; not_null = h }

  compared : (op : Op) (a b : Term) → IsComparison op → Learned k op a b → NeitherNull k a b
  compared op a b is h = record { left = shown_itself (left h is); right = shown_itself (right h is) }

  pub atom_told : (op : Op) (a b : Term) → Learned k op a b → IsToldOf k op a b
  atom_told Eq a b h = (compared Eq a b tt h, equated (equal h))
  atom_told Ne a b h = (compared Ne a b tt h, record { x = a; y = b; learned = h; sides = inl (inl itself, inl itself) })
  atom_told Lt a b h = record { not_null = compared Lt a b tt h; gap = gap_of (one_rise (less h)) }
  atom_told Le a b h = record { not_null = compared Le a b tt h; gap = gap_of (one_rise (at_most h)) }
  atom_told IsNull a b h = equated (null h)
  atom_told NotNull a b h = shown_itself (recorded h)

  module _ (stands : Term → Term) (stays : (t : Term) → IsThere k t → stands t ≡ t) where
    old_told : (lesson : Lesson) → Contains k.learned lesson → LessonIsThere k lesson → IsToldBy k stands lesson
    old_told (Same a b) h there =
        subst (λ t. OneClass k t (stands b)) (sym (stays a there.0)) (subst (OneClass k a) (sym (stays b there.1)) (equated (same h)))
    old_told (Holds atom) h there =
        subst (λ t. IsToldOf k atom.op t (stands atom.right)) (sym (stays atom.left there.0))
        (subst (IsToldOf k atom.op atom.left) (sym (stays atom.right there.1)) (atom_told atom.op atom.left atom.right h))

    -- what says that a side of a comparison isn't NULL
    side_told : (op : Op) (a b : Term) → IsComparison op → IsToldOf k op a b → NeitherNull k a b
    side_told Eq a b is h = h.0
    side_told Ne a b is h = h.0
    side_told Lt a b is h = h.not_null
    side_told Le a b is h = h.not_null
    side_told IsNull a b is h = absurd is
    side_told NotNull a b is h = absurd is

    module _ (l : Known) (unknowns : List Sort) (unknowns_are : l.unknowns ≡ k.unknowns ++ unknowns)
        (told : (lesson : Lesson) → Contains l.learned lesson → IsToldBy k stands lesson)
        (not_null : (n : ℕ) (sort : Sort) → slice_get unknowns n ≡ Some sort → sort.nullable ≡ false → ShownNotNull k (stands (Unknown (length k.unknowns + n)))) where
      equated_back : (a b : Term) → Equated l a b → OneClass k (stands a) (stands b)
      equated_back a b (same h) = told _ h
      equated_back a b (equal h) = (told _ h).1
      equated_back a b (null h) = subst (OneClass k (stands a)) (sym (stays (Val Null) tt)) (told _ h)

      shown_still : (t : Term) → IsThere k t → NotNullTerm k t → ShownNotNull k (stands t)
      shown_still t there h = subst (ShownNotNull k) (sym (stays t there)) (shown_itself h)

      column_back : (n : ℕ) (sort : Sort) → sort.nullable ≡ false → (slice_get k.unknowns n ≡ Some sort) ⊎ ((m : ℕ) × (n ≡ length k.unknowns + m) × (slice_get unknowns m ≡ Some sort)) →
          ShownNotNull k (stands (Unknown n))
      column_back n sort is (inl e) = shown_still (Unknown n) (slice_get_within k.unknowns n sort e) (column e is)
      column_back n sort is (inr h) = subst (λ m. ShownNotNull k (stands (Unknown m))) (sym h.1) (not_null h.0 sort h.2 is)

      not_null_back : (a : Term) → NotNullTerm l a → ShownNotNull k (stands a)
      not_null_back a (column {n = n} {sort = sort} h is) =
          column_back n sort is (get_cases k.unknowns unknowns n sort (subst (λ us. slice_get us n ≡ Some sort) unknowns_are h))
      not_null_back a (literal {v = v} h) = shown_still (Val v) tt (literal h)
      not_null_back a (param {n = n}) = shown_still (Param n) tt param
      not_null_back a (var {n = n}) = shown_still (Var n) tt var
      not_null_back a (left {op = op} {b = b} h is) = (side_told op (stands a) (stands b) is (told _ h)).left
      not_null_back a (right {op = op} {a = b} h is) = (side_told op (stands b) (stands a) is (told _ h)).right
      not_null_back a (recorded h) = told _ h

      pub carries_back : Carries l k stands
      carries_back = record {
        values = λ v. stays (Val v) tt;
        one = equated_back;
        not_null = not_null_back;
        at_most = λ a b h. (told _ h).gap;
        less = λ a b h. (told _ h).gap;
        apart = λ a b h. (told _ h).1;
      }

-- ---- branches

pub still_known : (b c : Branch) → IsQuietGrowth b c → Carries b.known c.known (λ t. t)
still_known b c growth = carries_on b.known c.known growth.unknowns growth.lessons growth.unknowns_are growth.lessons_are

module _ (b c : Branch) (grounded : IsGrounded b) (growth : IsQuietGrowth b c) where
  lesson_told : (lesson : Lesson) → Contains b.known.learned lesson ⊎ Contains growth.lessons lesson → IsToldBy b.known growth.stands lesson
  lesson_told lesson (inl h) = old_told b.known growth.stands growth.itself lesson h (All-contains (LessonIsThere b.known) b.known.learned lesson grounded.lessons h)
  lesson_told lesson (inr h) = All-contains (IsToldBy b.known growth.stands) growth.lessons lesson growth.told h

  pub known_before : Carries c.known b.known growth.stands
  known_before =
      carries_back b.known growth.stands growth.itself c.known growth.unknowns growth.unknowns_are
      (λ lesson h.
      lesson_told lesson (Contains-append_cases b.known.learned growth.lessons lesson (subst (λ ls. Contains ls lesson) growth.lessons_are h)))
      growth.not_null
