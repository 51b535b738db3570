-- Acceptance grows with what is assumed; so what a pass leaves can't be dropped.
use Rattle.std.proofs.Common.{◌≡◌, ℕ, List, [], ◌∷◌, ◌++◌, map, All, Contains, refl, sym, ap, ap₂, ◌∙◌, subst, append_assoc, append-nil, ◌⊎◌, inl, inr}
use Rattle.std.proofs.lemmas.List.Elements.{All-append, All-cons, All-head, All-nil, All-push, All-tail}
use Rattle.std.proofs.lemmas.Option.{same_Some}
use Rattle.std.specs.List.{AllZip}
use Rattle.std.specs.Prelude.{Option, Some, None, slice_get}
use Rattle.ba_model.proofs.ElementLemmas.{Contains-cases, Contains-head, Contains-later}
use Rattle.ba_model.specs.declared.query.Atom.{Atom}
use Rattle.ba_model.specs.declared.query.Operand.{Operand}
use Rattle.ba_model.specs.declared.query.Operand.TheVariants as operands
use Rattle.ba_model.specs.declared.value.Value.{Value}
use Rattle.ba_facts.specs.Matches.{term_of}
use Rattle.ba_facts.specs.declared.term.Lesson.{Lesson}
use Rattle.ba_facts.specs.declared.term.Lesson.TheVariants.{Holds}
use Rattle.ba_facts.specs.declared.term.Term.{Term}
use Rattle.ba_facts.specs.declared.term.Term.TheVariants as terms
use Rattle.ba_kernel.specs.Effects.{lesson_of}
use Rattle.ba_kernel.specs.declared.problem.Problem.{Problem}
use Rattle.ba_kernel.specs.declared.problem.ProblemEntry.{ProblemEntry}
use Rattle.ba_kernel.specs.declared.step.Step.{Step}
use Rattle.ba_kernel.specs.declared.step.Step.TheVariants as steps
use Rattle.ba_general.proofs.GrowthLemmas.{AssumesAt, EntryNumbers, StepAt, closes_on}
use Rattle.ba_general.proofs.ValuesLemmas.{EachIs, Fixes, LessonAt, each_none, entry_itself, lesson_itself, query_itself, zip_itself}
use Rattle.ba_general.specs.Dropping.{AcceptanceGrows, AreSomeOf, CanBeAssumed, Drops, IsAccepted, IsNoColumn, PassIsMinimal, RunDropsEach}
use Rattle.ba_general.specs.Patterns.{assuming}

-- ---- the lessons of assumed atoms

operand_given : (rows : List (List Term)) (x : Operand) → IsNoColumn x → (t : Term) × (term_of rows x ≡ Some t)
operand_given rows (operands.Col place column) h = absurd h
operand_given rows (operands.Val v) h = (terms.Val v, refl)
operand_given rows (operands.Param n) h = (terms.Param n, refl)
operand_given rows (operands.Var n) h = (terms.Var n, refl)

atom_given : (atom : Atom) → CanBeAssumed atom → (l : Lesson) × (lesson_of [] atom ≡ Some l)
atom_given atom h =
    let left = operand_given [] atom.left h.left in
    let right = operand_given [] atom.right h.right in (
      Holds (record { op = atom.op; left = left.0; right = right.0 }),
      ap₂ (λ (o p : Option Term). Rattle.std.specs.Prelude.option_and_then (λ a. Rattle.std.specs.Prelude.option_map (λ b. Holds (record { op = atom.op; left = a; right = b })) p) o) left.1 right.1,
    )

pub all_given : (atoms : List Atom) → All CanBeAssumed atoms → (ls : List Lesson) × (map (lesson_of []) atoms ≡ map Some ls)
all_given [] h = ([], refl)
all_given (atom ∷ atoms) h =
    let first = atom_given atom (All-head CanBeAssumed atom atoms h) in
    let rest = all_given atoms (All-tail CanBeAssumed atom atoms h) in
    (first.0 ∷ rest.0, ap₂ (λ z zs. z ∷ zs) first.1 rest.1)

module _ (values : List Value) where
  each_both : (l m : Lesson) (ls ms : List Lesson) → m ≡ l → EachIs values ls ms → EachIs values (l ∷ ls) (m ∷ ms)
  each_both l m ls ms same h = record {
    of = λ x there.
        elim (Contains-cases l ls x there) as (λ _. (y : Lesson) × Contains (m ∷ ms) y × LessonAt values x y) [
          | inl here ↦ (m, Contains-head m ms, subst (LessonAt values x) (sym (same ∙ here)) (lesson_itself values x))
          | inr later ↦ let it = h.of x later in (it.0, Contains-later m ms it.0 it.1, it.2)
        ];
  }

  each_later : (m : Lesson) (ls ms : List Lesson) → EachIs values ls ms → EachIs values ls (m ∷ ms)
  each_later m ls ms h = record { of = λ x there. let it = h.of x there in (it.0, Contains-later m ms it.0 it.1, it.2) }

  -- what some of the atoms tell is among what all tell
  pub lessons_among : {some all : List Atom} → AreSomeOf some all → (ls ms : List Lesson) → map (lesson_of []) some ≡ map Some ls →
      map (lesson_of []) all ≡ map Some ms → EachIs values ls ms
  lessons_among AreSomeOf.none [] ms e k = each_none values ms
  lessons_among AreSomeOf.none (l ∷ ls) ms e k = cc
  lessons_among (AreSomeOf.with {atom = atom} h) [] ms e k = cc
  lessons_among (AreSomeOf.with {atom = atom} h) (l ∷ ls) [] e k = cc
  lessons_among (AreSomeOf.with {some} {all} {atom} h) (l ∷ ls) (m ∷ ms) e k =
      let first : lesson_of [] atom ≡ Some l = cc in
      let again : lesson_of [] atom ≡ Some m = cc in
      let rest : map (lesson_of []) some ≡ map Some ls = cc in
      let others : map (lesson_of []) all ≡ map Some ms = cc in
      each_both l m ls ms (same_Some m l (sym again ∙ first)) (lessons_among h ls ms rest others)
  lessons_among (AreSomeOf.without {atom = atom} h) ls [] e k = cc
  lessons_among (AreSomeOf.without {all = all} h) ls (m ∷ ms) e k =
      let others : map (lesson_of []) all ≡ map Some ms = cc in each_later m ls ms (lessons_among h ls ms e others)

-- ---- the same problem with more assumed

entry_there : (values : List Value) (p g : Problem) (n : ℕ) → g.entries ≡ p.entries → EntryNumbers values p g n n
entry_there values p g n same = record { of = λ it there. (it, ap (λ (es : List ProblemEntry). slice_get es n) same ∙ there, entry_itself values it) }

step_itself : (values : List Value) (p g : Problem) → g.entries ≡ p.entries → (step : Step) → StepAt values p g step step
step_itself values p g same (steps.Entry branch entry) = (entry, entry_there values p g entry same, refl)
step_itself values p g same (steps.Key branch key left right) = refl
step_itself values p g same (steps.Link branch link fact) = refl
step_itself values p g same (steps.Rule branch rule part facts) = refl
step_itself values p g same (steps.View branch view part facts) = refl
step_itself values p g same (steps.Split branch atom) = refl
step_itself values p g same (steps.Absurd branch) = refl
step_itself values p g same (steps.Goal branch part facts) = refl

fixes_nothing : (ms : List Lesson) → Fixes [] ms
fixes_nothing ms = record { of = λ n v is. let e = is.is in absurd cc }

assumes_more : (some all : List Atom) → All CanBeAssumed all → AreSomeOf some all → AssumesAt [] some all
assumes_more some all can among = record {
  of = λ ls e. let given = all_given all can in (given.0, given.1, lessons_among [] among ls given.0 e given.1, fixes_nothing given.0);
}

pub acceptance_grows : AcceptanceGrows
acceptance_grows g taken some all can among accepted =
    let p = assuming g some in
    let q = assuming g all in
    closes_on [] p g.vars all g.entries g.goal (query_itself [] g.goal) (record { of = λ n kind e. e }) (assumes_more some all can among) taken taken
    (zip_itself (StepAt [] p q) (step_itself [] p q refl) taken) accepted

-- ---- what a pass leaves

pub some_of_all : (atoms : List Atom) → AreSomeOf atoms atoms
some_of_all [] = AreSomeOf.none
some_of_all (atom ∷ atoms) = AreSomeOf.with (some_of_all atoms)

pub behind_front : (front atoms : List Atom) → AreSomeOf atoms (front ++ atoms)
behind_front [] atoms = some_of_all atoms
behind_front (atom ∷ front) atoms = AreSomeOf.without (behind_front front atoms)

pub some_append : {xs ys us vs : List Atom} → AreSomeOf xs ys → AreSomeOf us vs → AreSomeOf (xs ++ us) (ys ++ vs)
some_append AreSomeOf.none k = k
some_append (AreSomeOf.with h) k = AreSomeOf.with (some_append h k)
some_append (AreSomeOf.without h) k = AreSomeOf.without (some_append h k)

pub left_some : {P : List Atom → Type 0} {before run after left : List Atom} → Drops P before run after left → AreSomeOf left run
left_some Drops.done = AreSomeOf.none
left_some {left = left} (Drops.drops {atoms = atoms} atom p d) =
    subst (λ xs. AreSomeOf xs (atoms ++ atom ∷ [])) (append-nil left) (some_append (left_some d) (AreSomeOf.without {atom = atom} AreSomeOf.none))
left_some (Drops.stays atom n d) = some_append (left_some d) (AreSomeOf.with {atom = atom} AreSomeOf.none)

all_front : (xs ys : List Atom) → All CanBeAssumed (xs ++ ys) → All CanBeAssumed xs
all_front [] ys can = All-nil CanBeAssumed
all_front (x ∷ xs) ys can =
    All-cons CanBeAssumed x xs (All-head CanBeAssumed x (xs ++ ys) can) (all_front xs ys (All-tail CanBeAssumed x (xs ++ ys) can))

all_back : (xs ys : List Atom) → All CanBeAssumed (xs ++ ys) → All CanBeAssumed ys
all_back [] ys can = can
all_back (x ∷ xs) ys can = all_back xs ys (All-tail CanBeAssumed x (xs ++ ys) can)

-- the last of a list
last_cases : (xs : List Atom) → (xs ≡ []) ⊎ ((ys : List Atom) × (y : Atom) × (xs ≡ ys ++ y ∷ []))
last_cases [] = inl refl
last_cases (x ∷ xs) =
    elim (last_cases xs) as (λ _. (x ∷ xs ≡ []) ⊎ ((ys : List Atom) × (y : Atom) × (x ∷ xs ≡ ys ++ y ∷ []))) [
      | inl none ↦ inr ([], x, ap (λ zs. x ∷ zs) none)
      | inr some ↦ inr (x ∷ some.0, some.1, ap (λ zs. x ∷ zs) some.2)
    ]

same_last : (xs ys : List Atom) (x y : Atom) → xs ++ x ∷ [] ≡ ys ++ y ∷ [] → (xs ≡ ys) × (x ≡ y)
same_last [] [] x y e = (refl, cc)
same_last [] (w ∷ []) x y e = cc
same_last [] (w ∷ z ∷ ys) x y e = cc
same_last (v ∷ []) [] x y e = cc
same_last (v ∷ z ∷ xs) [] x y e = cc
same_last (v ∷ xs) (w ∷ ys) x y e =
    let first : v ≡ w = cc in
    let rest : xs ++ x ∷ [] ≡ ys ++ y ∷ [] = cc in
    let more = same_last xs ys x y rest in
    (ap₂ (λ z zs. z ∷ zs) first more.0, more.1)

none_is : (first last : List Atom) (atom : Atom) → [] ≡ first ++ atom ∷ last → ⊥
none_is [] last atom e = cc
none_is (x ∷ first) last atom e = cc

module _ (g : Problem) (taken : List Step) (before some : List Atom) (can_before : All CanBeAssumed before) (early : AreSomeOf some before) where
  abbrev P : List Atom → Type 0
  P = IsAccepted g taken

  -- of a run that is gone through from its last atom on, the atom that is left stays needed
  minimal : {run after left : List Atom} → Drops P before run after left → All CanBeAssumed run → All CanBeAssumed after → (others first last : List Atom) (atom : Atom) →
      AreSomeOf others after → left ≡ first ++ atom ∷ last → ¬ (P (some ++ first ++ last ++ others))
  minimal Drops.done can can_after others first last atom late e accepted = none_is first last atom e
  minimal (Drops.drops {atoms = atoms} gone p d) can can_after others first last atom late e accepted =
      minimal d (all_front atoms (gone ∷ []) can) can_after others first last atom late e accepted
  minimal (Drops.stays {atoms} {after} {left} kept n d) can can_after others first last atom late e accepted =
      let can_atoms : All CanBeAssumed atoms = all_front atoms (kept ∷ []) can in
      elim (last_cases last) as (λ _. ⊥) [
        | inl none ↦
            let both = same_last left first kept atom (e ∙ ap (λ xs. first ++ atom ∷ xs) none) in
            let fewer : P (some ++ first ++ others) = subst P (ap (λ xs. some ++ first ++ xs ++ others) none ∙ ap (λ xs. xs ++ others) (append-nil (some ++ first))) accepted in
            let among : AreSomeOf (some ++ first ++ others) (before ++ atoms ++ after) =
            some_append (some_append early (subst (λ xs. AreSomeOf xs atoms) both.0 (left_some d))) late in
            n (acceptance_grows g taken (some ++ first ++ others) (before ++ atoms ++ after)
            (All-append CanBeAssumed (before ++ atoms) after (All-append CanBeAssumed before atoms can_before can_atoms) can_after) among fewer)
        | inr more ↦
            let both = same_last left (first ++ atom ∷ more.0) kept more.1
            (e ∙ (ap (λ xs. first ++ atom ∷ xs) more.2 ∙ sym (append_assoc first (atom ∷ more.0) (more.1 ∷ [])))) in
            let regroup : some ++ first ++ last ++ others ≡ some ++ first ++ more.0 ++ (kept ∷ others) =
            ap (λ xs. some ++ first ++ xs ++ others) (more.2 ∙ ap (λ x. more.0 ++ x ∷ []) (sym both.1)) ∙
            (ap (λ xs. xs ++ others) (sym (append_assoc (some ++ first) more.0 (kept ∷ []))) ∙ append_assoc (some ++ first ++ more.0) (kept ∷ []) others) in
            minimal d can_atoms (All-cons CanBeAssumed kept after (All-head CanBeAssumed kept [] (all_back atoms (kept ∷ []) can)) can_after) (kept ∷ others) first more.0 atom
            (AreSomeOf.with late) both.0 (subst P regroup accepted)
      ]

pub pass_is_minimal : PassIsMinimal
pass_is_minimal g taken before run after left some others first last atom can d early late e =
    let front : All CanBeAssumed (before ++ run) = all_front (before ++ run) after can in
    minimal g taken before some (all_front before run front) early d (all_back before run front) (all_back (before ++ run) after can) others first last atom late e

-- ---- a run that can be dropped at once

module _ (g : Problem) (taken : List Step) (before after : List Atom) (can_before : All CanBeAssumed before) (can_after : All CanBeAssumed after)
    (accepted : IsAccepted g taken (before ++ after)) where
  with_front : (front : List Atom) → All CanBeAssumed front → IsAccepted g taken (before ++ front ++ after)
  with_front front can =
      acceptance_grows g taken (before ++ after) (before ++ front ++ after)
      (All-append CanBeAssumed (before ++ front) after (All-append CanBeAssumed before front can_before can) can_after)
      (subst (AreSomeOf (before ++ after)) (sym (append_assoc before front after)) (some_append (some_of_all before) (behind_front front after))) accepted

  each_one : (rest front : List Atom) → All CanBeAssumed front → All CanBeAssumed rest → Drops (IsAccepted g taken) before front after [] →
      Drops (IsAccepted g taken) before (front ++ rest) after []
  each_one [] front can more d = subst (λ xs. Drops (IsAccepted g taken) before xs after []) (sym (append-nil front)) d
  each_one (atom ∷ rest) front can more d =
      subst (λ xs. Drops (IsAccepted g taken) before xs after []) (append_assoc front (atom ∷ []) rest)
      (each_one rest (front ++ atom ∷ []) (All-push CanBeAssumed front atom can (All-head CanBeAssumed atom rest more)) (All-tail CanBeAssumed atom rest more)
      (Drops.drops atom (with_front front can) d))

pub each_dropped : RunDropsEach
each_dropped g taken before run after can accepted =
    let front : All CanBeAssumed (before ++ run) = all_front (before ++ run) after can in
    each_one g taken before after (all_front before run front) (all_back (before ++ run) after can) accepted run [] (All-nil CanBeAssumed) (all_back before run front) Drops.done
