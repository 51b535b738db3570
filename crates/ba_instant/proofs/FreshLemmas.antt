-- What is known after a quiet step by a key was known of the terms that stand for theirs.
use Rattle.std.proofs.Common.{◌≡◌, ℕ, List, [], ◌∷◌, ◌++◌, Bool, true, false, Contains, inl, inr, nat_eq, eqb-true, if◌then◌else◌, map, ap, refl, sym, subst}
use Rattle.std.proofs.lemmas.List.Elements.{All-contains, All-cons, All-head, All-nil, All-tail, Contains-append_cases}
use Rattle.std.specs.List.{All, zip}
use Rattle.std.specs.Prelude.{Some, None, slice_get}
use Rattle.ba_model.specs.declared.query.Op.{Op}
use Rattle.ba_model.specs.declared.query.Op.TheVariants.{Eq, Ne, Lt, Le, IsNull, NotNull}
use Rattle.ba_facts.specs.Known.{Equated, IsComparison, Known, NotNullTerm, OneClass, ShownNotNull}
use Rattle.ba_facts.specs.Known.{same, equal, null, equated, column, literal, param, var, left, right, recorded}
use Rattle.ba_facts.specs.Shown.{NeitherNull}
use Rattle.ba_facts.specs.declared.term.Lesson.{Lesson}
use Rattle.ba_facts.specs.declared.term.Lesson.TheVariants.{Same, Holds}
use Rattle.ba_facts.specs.declared.term.Sort.{Sort}
use Rattle.ba_facts.specs.declared.term.Term.{Term}
use Rattle.ba_facts.specs.declared.term.Term.TheVariants.{Unknown, Val, Param, Var}
use Rattle.ba_instant.proofs.CarryLemmas.{Carries}
use Rattle.ba_instant.proofs.GrowthLemmas.{atom_told, shown_itself}
use Rattle.ba_instant.specs.QuietKeys.{AreOne, IsFilledBy, IsFilledIf, IsUnmoved, LessonStays, moved, or_itself, stand_in}
use Rattle.ba_instant.specs.Windows.{IsToldBy, IsToldOf}
use Rattle.ba_instant.specs.declared.moves.Move.{Move}

-- ---- unknowns that aren't moved stand for themselves

abbrev pub IsOther : ℕ → Move → Type 0
IsOther n move = nat_eq move.unknown n ≡ false

not_moved : (moves : List Move) (n : ℕ) → All (IsOther n) moves → moved moves n ≡ None
not_moved [] n h = refl
not_moved (move ∷ moves) n h =
    let rest = not_moved moves n (All-tail (IsOther n) move moves h) in
    subst (λ (one : Bool). (if one then Some move.term else moved moves n) ≡ None) (sym (All-head (IsOther n) move moves h)) rest

pub unmoved_stays : (moves : List Move) (t : Term) → IsUnmoved moves t → stand_in moves t ≡ t
unmoved_stays moves (Unknown n) h = ap (λ o. or_itself o (Unknown n)) (not_moved moves n h)
unmoved_stays moves (Val v) h = refl
unmoved_stays moves (Param n) h = refl
unmoved_stays moves (Var n) h = refl

-- ---- what stands for what is never NULL

module _ (k : Known) where
  filled_at : (move : Move) (moves : List Move) (n : ℕ) (sort : Sort) (one : Bool) → nat_eq move.unknown n ≡ one → slice_get k.unknowns n ≡ Some sort → sort.nullable ≡ false → IsFilledBy k move →
      ShownNotNull k (or_itself (moved moves n) (Unknown n)) → ShownNotNull k (or_itself (if one then Some move.term else moved moves n) (Unknown n))
  filled_at move moves n sort true e at is first rest =
      let here : slice_get k.unknowns move.unknown ≡ Some sort = subst (λ m. slice_get k.unknowns m ≡ Some sort) (sym (eqb-true move.unknown n e)) at in
      let filled : IsFilledIf k move.term (Some sort) = subst (IsFilledIf k move.term) here first in
      filled is
  filled_at move moves n sort false e at is first rest = rest

  pub moved_filled : (moves : List Move) (n : ℕ) (sort : Sort) → All (IsFilledBy k) moves → slice_get k.unknowns n ≡ Some sort → sort.nullable ≡ false →
      ShownNotNull k (or_itself (moved moves n) (Unknown n))
  moved_filled [] n sort h at is = shown_itself k (column at is)
  moved_filled (move ∷ moves) n sort h at is =
      filled_at move moves n sort (nat_eq move.unknown n) refl at is (All-head (IsFilledBy k) move moves h)
      (moved_filled moves n sort (All-tail (IsFilledBy k) move moves h) at is)

-- ---- what the step tells was known of those

pub told_of_rows : (k : Known) (moves : List Move) (ts us : List Term) → AreOne k moves ts us → All (IsToldBy k (stand_in moves)) (map (λ (two : Term × Term). Same two.0 two.1) (zip ts us))
told_of_rows k moves [] [] h = All-nil (IsToldBy k (stand_in moves))
told_of_rows k moves [] (u ∷ us) h = absurd h
told_of_rows k moves (t ∷ ts) [] h = absurd h
told_of_rows k moves (t ∷ ts) (u ∷ us) h =
    All-cons (IsToldBy k (stand_in moves)) (Same t u) (map (λ (two : Term × Term). Same two.0 two.1) (zip ts us)) h.0 (told_of_rows k moves ts us h.1)

-- ---- the knowledge with further lessons

module _ (k : Known) (moves : List Move) (lessons : List Lesson) (unmoved : All (LessonStays moves) k.learned) (filled : All (IsFilledBy k) moves)
    (new_told : All (IsToldBy k (stand_in moves)) lessons) where
  abbrev l : Known
  l = record k { learned = k.learned ++ lessons }

  abbrev stands : Term → Term
  stands = stand_in moves

  stays : (t : Term) → IsUnmoved moves t → stands t ≡ t
  stays = unmoved_stays moves

  old_told : (lesson : Lesson) → Contains k.learned lesson → LessonStays moves lesson → IsToldBy k stands lesson
  old_told (Same a b) h there =
      subst (λ t. OneClass k t (stands b)) (sym (stays a there.0)) (subst (OneClass k a) (sym (stays b there.1)) (equated (same h)))
  old_told (Holds atom) h there =
      subst (λ t. IsToldOf k atom.op t (stands atom.right)) (sym (stays atom.left there.0))
      (subst (IsToldOf k atom.op atom.left) (sym (stays atom.right there.1)) (atom_told k atom.op atom.left atom.right h))

  told : (lesson : Lesson) → Contains l.learned lesson → IsToldBy k stands lesson
  told lesson h = elim (Contains-append_cases k.learned lessons lesson h) [
    | inl old ↦ old_told lesson old (All-contains (LessonStays moves) k.learned lesson unmoved old)
    | inr new ↦ All-contains (IsToldBy k stands) lessons lesson new_told new
  ]

  side_told : (op : Op) (a b : Term) → IsComparison op → IsToldOf k op a b → NeitherNull k a b
  side_told Eq a b is h = h.0
  side_told Ne a b is h = h.0
  side_told Lt a b is h = h.not_null
  side_told Le a b is h = h.not_null
  side_told IsNull a b is h = absurd is
  side_told NotNull a b is h = absurd is

  equated_back : (a b : Term) → Equated l a b → OneClass k (stands a) (stands b)
  equated_back a b (same h) = told _ h
  equated_back a b (equal h) = (told _ h).1
  equated_back a b (null h) = told _ h

  not_null_back : (a : Term) → NotNullTerm l a → ShownNotNull k (stands a)
  not_null_back a (column {n = n} {sort = sort} h is) = moved_filled k moves n sort filled h is
  not_null_back a (literal {v = v} h) = shown_itself k (literal h)
  not_null_back a (param {n = n}) = shown_itself k param
  not_null_back a (var {n = n}) = shown_itself k var
  not_null_back a (left {op = op} {b = b} h is) = (side_told op (stands a) (stands b) is (told _ h)).left
  not_null_back a (right {op = op} {a = b} h is) = (side_told op (stands b) (stands a) is (told _ h)).right
  not_null_back a (recorded h) = told _ h

  pub carries_back : Carries l k stands
  carries_back = record {
    values = λ v. refl;
    one = equated_back;
    not_null = not_null_back;
    at_most = λ a b h. (told _ h).gap;
    less = λ a b h. (told _ h).gap;
    apart = λ a b h. (told _ h).1;
  }
