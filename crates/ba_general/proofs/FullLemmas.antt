-- What closes a problem closes its pattern under the full condition.
use Rattle.std.proofs.Common.{◌≡◌, ℕ, zero, suc, ◌+◌, ℤ, ◌<ℤ◌, ◌≤ℤ◌, ◌⊎◌, inl, inr, List, [], ◌∷◌, ◌++◌, length, map, zip, All, Contains, refl, sym, ap, ap₂, ◌∙◌, subst, append-nil, arith}
use Rattle.std.proofs.lemmas.Int.{by_lt_z, ints}
use Rattle.std.proofs.lemmas.List.{map-append}
use Rattle.std.proofs.lemmas.List.Elements.{All-append, All-cons, All-head, All-nil, All-tail, All-weaker, Contains-append_left}
use Rattle.std.proofs.lemmas.Option.{same_Some}
use Rattle.std.specs.List.{AllZip, flat_map, range_with_len}
use Rattle.std.specs.Prelude.{Option, Some, None, slice_get}
use Rattle.ba_model.proofs.ElementLemmas.{Contains-cases, Contains-head, Contains-later, Contains-nil}
use Rattle.ba_model.specs.Fit.{AtomFits, kind_of, kinds_of}
use Rattle.ba_model.specs.declared.query.Atom.{Atom}
use Rattle.ba_model.specs.declared.query.Op.TheVariants.{Eq, Lt, Ne}
use Rattle.ba_model.specs.declared.query.Operand.{Operand}
use Rattle.ba_model.specs.declared.query.Operand.TheVariants as operands
use Rattle.ba_model.specs.declared.policy.Policy.{Policy}
use Rattle.ba_model.specs.declared.query.Query.{Query}
use Rattle.ba_model.specs.declared.schema.Kind.{Kind}
use Rattle.ba_model.specs.declared.schema.Kind.TheVariants as kinds
use Rattle.ba_model.specs.declared.value.Value.{Value}
use Rattle.ba_model.specs.declared.value.Value.TheVariants.{Null, Int, Text}
use Rattle.ba_facts.proofs.NameLemmas.{value_cases}
use Rattle.ba_facts.specs.declared.term.Lesson.TheVariants.{Holds}
use Rattle.ba_facts.specs.declared.term.Term.TheVariants as terms
use Rattle.ba_kernel.specs.Effects.{lesson_of}
use Rattle.ba_kernel.specs.Problems.{param_is}
use Rattle.ba_kernel.specs.Replays.{Closes}
use Rattle.ba_kernel.specs.declared.problem.Problem.{Problem}
use Rattle.ba_kernel.specs.declared.problem.ProblemEntry.{ProblemEntry}
use Rattle.ba_kernel.specs.declared.step.Step.{Step}
use Rattle.ba_kernel.specs.declared.step.Step.TheVariants as steps
use Rattle.ba_general.proofs.AcceptedLemmas.{all_given, behind_front, lessons_among, some_append}
use Rattle.ba_general.proofs.GrowthLemmas.{AssumesAt, KindsStay, StepAt, closes_on}
use Rattle.ba_general.proofs.ValuesLemmas.{EntryAt, Fixes, QueryAt, query_is, row_is}
use Rattle.ba_general.specs.Conditions.{AreOfOneKind, AtomsFit, HasParams, IsLessOf, IsOne, fixed_of, operands_with, pairs, parameters, sided, those, valued, variables}
use Rattle.ba_general.specs.Dropping.{AreSomeOf, CanBeAssumed, IsNoColumn}
use Rattle.ba_general.specs.Generals.{FullIsAccepted}
use Rattle.ba_general.specs.Patterns.{IsPattern, entry_at}
use Rattle.ba_general.specs.Retold.{AreRenumbered, IsRenumbered}
use Rattle.ba_general.specs.declared.condition.Group.{Group}
use Rattle.ba_general.specs.declared.condition.Group.TheVariants.{Fixed, Less, Apart, Equal}
use Rattle.ba_general.specs.declared.pattern.Valued.{Valued}

-- ---- atoms that fit, and those of the full condition, can be assumed

module _ (g : Problem) where
  operand_can : (x : Operand) (kind : Kind) → kind_of g.policy.schema (kinds_of g.policy.params) g.vars [] x ≡ Some kind → IsNoColumn x
  operand_can (operands.Col place column) kind e = cc
  operand_can (operands.Val v) kind e = tt
  operand_can (operands.Param n) kind e = tt
  operand_can (operands.Var n) kind e = tt

  pub atoms_can : (atoms : List Atom) → AtomsFit g atoms → All CanBeAssumed atoms
  atoms_can atoms fit =
      All-weaker (AtomFits g.policy.schema (kinds_of g.policy.params) g.vars []) CanBeAssumed
      (λ atom h. record { left = operand_can atom.left h.kind h.left_is; right = operand_can atom.right h.kind h.right_is }) atoms fit

abbrev pub IsPlain : Valued → Type 0
IsPlain x = IsNoColumn x.operand

variables_plain : (twos : List (ℕ × Value)) → All IsPlain (map (λ (two : ℕ × Value). valued (operands.Var two.0, two.1)) twos)
variables_plain [] = All-nil IsPlain
variables_plain (two ∷ twos) =
    All-cons IsPlain (valued (operands.Var two.0, two.1)) (map (λ (it : ℕ × Value). valued (operands.Var it.0, it.1)) twos) tt (variables_plain twos)

parameters_plain : (twos : List (ℕ × Value)) → All IsPlain (map (λ (two : ℕ × Value). valued (operands.Param two.0, two.1)) twos)
parameters_plain [] = All-nil IsPlain
parameters_plain (two ∷ twos) =
    All-cons IsPlain (valued (operands.Param two.0, two.1)) (map (λ (it : ℕ × Value). valued (operands.Param it.0, it.1)) twos) tt (parameters_plain twos)

pub operands_plain : (values params : List Value) → All IsPlain (operands_with values params)
operands_plain values params =
    All-append IsPlain (variables values) (parameters params) (variables_plain (zip (range_with_len 0 (length values)) values))
    (parameters_plain (zip (range_with_len 0 (length params)) params))

pub fixed_can : (xs : List Valued) → All IsPlain xs → All CanBeAssumed (map fixed_of xs)
fixed_can [] h = All-nil CanBeAssumed
fixed_can (x ∷ xs) h =
    All-cons CanBeAssumed (fixed_of x) (map fixed_of xs) (record { left = All-head IsPlain x xs h; right = tt }) (fixed_can xs (All-tail IsPlain x xs h))

less_can : {x y : Valued} {atom : Atom} → IsPlain x → IsPlain y → IsLessOf x y atom → CanBeAssumed atom
less_can h k (IsLessOf.first p q below) = record { left = h; right = k }
less_can h k (IsLessOf.second p q below) = record { left = k; right = h }

one_can : (group : Group) (x y : Valued) (one : Option Atom) → IsPlain x → IsPlain y → IsOne group (x, y) one → All CanBeAssumed (those one)
one_can group x y None h k is = All-nil CanBeAssumed
one_can Fixed x y (Some atom) h k is = absurd is
one_can Less x y (Some atom) h k is = All-cons CanBeAssumed atom [] (less_can h k is) (All-nil CanBeAssumed)
one_can Apart x y (Some atom) h k is =
    All-cons CanBeAssumed atom [] (subst CanBeAssumed (sym is.is) (record { left = h; right = k })) (All-nil CanBeAssumed)
one_can Equal x y (Some atom) h k is =
    All-cons CanBeAssumed atom [] (subst CanBeAssumed (sym is.is) (record { left = h; right = k })) (All-nil CanBeAssumed)

abbrev pub BothPlain : Valued × Valued → Type 0
BothPlain two = IsPlain two.0 × IsPlain two.1

with_each : (x : Valued) (ys : List Valued) → IsPlain x → All IsPlain ys → All BothPlain (map (λ y. (x, y)) ys)
with_each x [] h k = All-nil BothPlain
with_each x (y ∷ ys) h k =
    All-cons BothPlain (x, y) (map (λ z. (x, z)) ys) (h, All-head IsPlain y ys k) (with_each x ys h (All-tail IsPlain y ys k))

pub pairs_plain : (xs : List Valued) → All IsPlain xs → All BothPlain (pairs xs)
pairs_plain [] h = All-nil BothPlain
pairs_plain (x ∷ xs) h =
    let later : All IsPlain xs = All-tail IsPlain x xs h in
    All-append BothPlain (map (λ y. (x, y)) xs) (pairs xs) (with_each x xs (All-head IsPlain x xs h) later) (pairs_plain xs later)

pub ones_can : (group : Group) (twos : List (Valued × Valued)) (ones : List (Option Atom)) → All BothPlain twos → AllZip (IsOne group) twos ones →
    All CanBeAssumed (flat_map those ones)
ones_can group [] [] h k = All-nil CanBeAssumed
ones_can group [] (one ∷ ones) h k = absurd k
ones_can group ((x, y) ∷ twos) [] h k = absurd k
ones_can group ((x, y) ∷ twos) (one ∷ ones) h k =
    let here : BothPlain (x, y) = All-head BothPlain (x, y) twos h in
    All-append CanBeAssumed (those one) (flat_map those ones) (one_can group x y one here.0 here.1 k.0) (ones_can group twos ones (All-tail BothPlain (x, y) twos h) k.1)

-- ---- each group is there

abbrev SomeOne : Group → Valued → Valued → Type 0
SomeOne group x y = (one : Option Atom) × IsOne group (x, y) one

less_parts : {x y : Valued} {atom : Atom} → IsLessOf x y atom → (m n : ℤ) × (x.value ≡ Int m) × (y.value ≡ Int n) × ((m <ℤ n) ⊎ (n <ℤ m))
less_parts (IsLessOf.first {m} {n} p q below) = (m, n, p, q, inl below)
less_parts (IsLessOf.second {m} {n} p q below) = (m, n, p, q, inr below)

less_none : (x y : Valued) → ((m n : ℤ) → x.value ≡ Int m → y.value ≡ Int n → ⊥) → SomeOne Less x y
less_none x y none = (None, λ atom h. let it = less_parts h in none it.0 it.1 it.2 it.3)

number_is : (v : Value) (m n : ℤ) → v ≡ Int m → v ≡ Int n → m ≡ n
number_is v m n e k = cc

neither_less : (x y : Valued) (m n : ℤ) (atom : Atom) → x.value ≡ Int m → y.value ≡ Int n → n ≤ℤ m → m ≤ℤ n → IsLessOf x y atom → ⊥
neither_less x y m n atom p q up down h =
    let it = less_parts h in
    let same : it.0 ≡ m = number_is x.value it.0 m it.2 p in
    let other : it.1 ≡ n = number_is y.value it.1 n it.3 q in
    elim it.4 as (λ _. ⊥) [
      | inl below ↦ let less : m <ℤ n = subst (λ k. k <ℤ n) same (subst (λ k. it.0 <ℤ k) other below) in omega (arith, ints)
      | inr above ↦ let less : n <ℤ m = subst (λ k. k <ℤ m) other (subst (λ k. it.1 <ℤ k) same above) in omega (arith, ints)
    ]

some_less : (x y : Valued) (v w : Value) → x.value ≡ v → y.value ≡ w → SomeOne Less x y
some_less x y Null w p q = less_none x y (λ m n e f. cc)
some_less x y (Text t) w p q = less_none x y (λ m n e f. cc)
some_less x y (Int m) Null p q = less_none x y (λ k n e f. cc)
some_less x y (Int m) (Text t) p q = less_none x y (λ k n e f. cc)
some_less x y (Int m) (Int n) p q =
    by_lt_z {P = SomeOne Less x y} m n
    (λ below. (Some (record { op = Lt; left = x.operand; right = y.operand }), IsLessOf.first p q below))
    (λ up. by_lt_z {P = SomeOne Less x y} n m
    (λ below. (Some (record { op = Lt; left = y.operand; right = x.operand }), IsLessOf.second p q below))
    (λ down. (None, λ atom h. neither_less x y m n atom p q up down h)))

some_equal : (x y : Valued) → SomeOne Equal x y
some_equal x y =
    elim (value_cases x.value y.value) as (λ _. SomeOne Equal x y) [
      | inl same ↦ (Some (sided Eq x y), record { values = same; is = refl })
      | inr other ↦ (None, λ atom h. other h.values)
    ]

of_one_kind : (v w : Value) → AreOfOneKind v w ⊎ (¬ (AreOfOneKind v w))
of_one_kind Null w = inr (λ h. let e = h.left in cc)
of_one_kind (Int n) Null = inr (λ h. let e = h.right in cc)
of_one_kind (Int n) (Int m) = inl (record { kind = kinds.Int; left = refl; right = refl })
of_one_kind (Int n) (Text t) = inr (λ h. let e : Some kinds.Int ≡ Some kinds.Text = h.left ∙ sym h.right in cc)
of_one_kind (Text t) Null = inr (λ h. let e = h.right in cc)
of_one_kind (Text t) (Int m) = inr (λ h. let e : Some kinds.Text ≡ Some kinds.Int = h.left ∙ sym h.right in cc)
of_one_kind (Text t) (Text u) = inl (record { kind = kinds.Text; left = refl; right = refl })

some_apart : (x y : Valued) → SomeOne Apart x y
some_apart x y =
    elim (value_cases x.value y.value) as (λ _. SomeOne Apart x y) [
      | inl same ↦ (None, λ atom h. h.values same)
      | inr other ↦ elim (of_one_kind x.value y.value) as (λ _. SomeOne Apart x y) [
        | inl kind ↦ (Some (sided Ne x y), record { kind = kind; values = other; is = refl })
        | inr not ↦ (None, λ atom h. not h.kind)
      ]
    ]

some_one : (group : Group) (x y : Valued) → SomeOne group x y
some_one Fixed x y = (None, λ atom h. h)
some_one Less x y = some_less x y x.value y.value refl refl
some_one Apart x y = some_apart x y
some_one Equal x y = some_equal x y

all_ones : (group : Group) (twos : List (Valued × Valued)) → (ones : List (Option Atom)) × AllZip (IsOne group) twos ones
all_ones group [] = ([], tt)
all_ones group ((x, y) ∷ twos) =
    let here = some_one group x y in let more = all_ones group twos in (here.0 ∷ more.0, (here.1, more.1))

-- ---- what the full condition tells

contains_map : {X Y : Type 0} (f : X → Y) (xs : List X) (x : X) → Contains xs x → Contains (map f xs) (f x)
contains_map f [] x there = absurd (Contains-nil x there)
contains_map {Y = Y} f (y ∷ xs) x there =
    elim (Contains-cases y xs x there) as (λ _. Contains (map f (y ∷ xs)) (f x)) [
      | inl same ↦ subst (λ z. Contains (map f (y ∷ xs)) (f z)) same (Contains-head (f y) (map f xs))
      | inr later ↦ Contains-later (f y) (map f xs) (f x) (contains_map f xs x later)
    ]

contains_given : {X Y : Type 0} (f : X → Option Y) (xs : List X) (ys : List Y) (x : X) (y : Y) → map f xs ≡ map Some ys → Contains xs x → f x ≡ Some y → Contains ys y
contains_given f [] ys x y e there is = absurd (Contains-nil x there)
contains_given f (z ∷ xs) [] x y e there is = cc
contains_given f (z ∷ xs) (w ∷ ys) x y e there is =
    let first : f z ≡ Some w = cc in
    let rest : map f xs ≡ map Some ys = cc in
    elim (Contains-cases z xs x there) as (λ _. Contains (w ∷ ys) y) [
      | inl same ↦ subst (Contains (w ∷ ys)) (same_Some w y (sym first ∙ (ap f same ∙ is))) (Contains-head w ys)
      | inr later ↦ Contains-later w ys y (contains_given f xs ys x y rest later is)
    ]

-- a value with its number
numbered_there : (a : ℕ) (values : List Value) (n : ℕ) (v : Value) → slice_get values n ≡ Some v → Contains (zip (range_with_len a (length values)) values) (a + n, v)
numbered_there a [] n v e = cc
numbered_there a (w ∷ values) zero v e =
    let same : w ≡ v = same_Some w v e in
    let number : a ≡ a + 0 = omega arith in
    subst (Contains ((a, w) ∷ zip (range_with_len (a + 1) (length values)) values)) (ap₂ (λ m x. (m, x)) number same)
    (Contains-head (a, w) (zip (range_with_len (a + 1) (length values)) values))
numbered_there a (w ∷ values) (suc n) v e =
    let number : (a + 1) + n ≡ a + suc n = omega arith in
    Contains-later (a, w) (zip (range_with_len (a + 1) (length values)) values) (a + suc n, v)
    (subst (λ m. Contains (zip (range_with_len (a + 1) (length values)) values) (m, v)) number (numbered_there (a + 1) values n v e))

variable_there : (values params : List Value) (n : ℕ) (v : Value) → slice_get values n ≡ Some v →
    Contains (map fixed_of (operands_with values params)) (record { op = Eq; left = operands.Var n; right = operands.Val v })
variable_there values params n v e =
    let number : 0 + n ≡ n = omega arith in
    let two : Contains (zip (range_with_len 0 (length values)) values) (n, v) =
    subst (λ m. Contains (zip (range_with_len 0 (length values)) values) (m, v)) number (numbered_there 0 values n v e) in
    let one : Contains (variables values) (valued (operands.Var n, v)) =
    contains_map (λ (it : ℕ × Value). valued (operands.Var it.0, it.1)) (zip (range_with_len 0 (length values)) values) (n, v) two in
    contains_map fixed_of (operands_with values params) (valued (operands.Var n, v)) (Contains-append_left (variables values) (parameters params) (valued (operands.Var n, v)) one)

params_fixed : (twos : List (ℕ × Value)) → map fixed_of (map (λ (two : ℕ × Value). valued (operands.Param two.0, two.1)) twos) ≡ map param_is twos
params_fixed [] = refl
params_fixed (two ∷ twos) = ap (λ xs. param_is two ∷ xs) (params_fixed twos)

nothing_of : (ys : List Atom) → AreSomeOf [] ys
nothing_of [] = AreSomeOf.none
nothing_of (y ∷ ys) = AreSomeOf.without (nothing_of ys)

-- the parameters' values are among the full condition
params_among : (p : Problem) (values params : List Value) (less apart equal : List Atom) → HasParams p params →
    AreSomeOf p.assumed (map fixed_of (operands_with values params) ++ less ++ apart ++ equal)
params_among p values params less apart equal has =
    let mine : List Atom = map fixed_of (parameters params) in
    let same : p.assumed ≡ mine = has.assumed ∙ sym (params_fixed (zip (range_with_len 0 (length params)) params)) in
    let fixed : AreSomeOf mine (map fixed_of (operands_with values params)) =
    subst (AreSomeOf mine) (sym (map-append fixed_of (variables values) (parameters params))) (behind_front (map fixed_of (variables values)) mine) in
    let more : (xs ys : List Atom) → AreSomeOf mine xs → AreSomeOf mine (xs ++ ys) =
    λ xs ys h. subst (λ zs. AreSomeOf zs (xs ++ ys)) (append-nil mine) (some_append h (nothing_of ys)) in
    subst (λ xs. AreSomeOf xs (map fixed_of (operands_with values params) ++ less ++ apart ++ equal)) (sym same)
    (more (map fixed_of (operands_with values params) ++ less ++ apart) equal
    (more (map fixed_of (operands_with values params) ++ less) apart (more (map fixed_of (operands_with values params)) less fixed)))

-- ---- the pattern

entry_found : (values : List Value) (all : List ProblemEntry) (es : List ProblemEntry) (numbers : List ℕ) (place e : ℕ) (it : ProblemEntry) →
    map (λ entry. Some (entry_at values entry)) es ≡ map (slice_get all) numbers → slice_get numbers place ≡ Some e → slice_get all e ≡ Some it →
    (new : ProblemEntry) × (slice_get es place ≡ Some new) × (entry_at values new ≡ it)
entry_found values all [] [] place e it same at there = cc
entry_found values all [] (n ∷ numbers) place e it same at there = cc
entry_found values all (new ∷ es) [] place e it same at there = cc
entry_found values all (new ∷ es) (n ∷ numbers) zero e it same at there =
    let first : Some (entry_at values new) ≡ slice_get all n = cc in
    let number : n ≡ e = same_Some n e at in
    (new, refl, same_Some (entry_at values new) it (first ∙ (ap (slice_get all) number ∙ there)))
entry_found values all (new ∷ es) (n ∷ numbers) (suc place) e it same at there =
    let rest : map (λ entry. Some (entry_at values entry)) es ≡ map (slice_get all) numbers = cc in entry_found values all es numbers place e it rest at there

entry_is : (values : List Value) (new : ProblemEntry) → EntryAt values (entry_at values new) new
entry_is values new = record { query = query_is values new.query; row = row_is values new.row }

module _ (p g : Problem) (numbers : List ℕ) (values params : List Value) (pattern : IsPattern p numbers g values) where
  step_at : (assumed : List Atom) (step new : Step) → IsRenumbered numbers step new →
      StepAt values p (record { policy = p.policy; vars = g.vars; assumed = assumed; entries = g.entries; goal = g.goal }) step new
  step_at assumed (steps.Entry branch entry) new is = (
    is.0,
    record {
      of = λ it there. let found = entry_found values p.entries g.entries numbers is.0 entry it pattern.entries is.1 there in
          (found.0, found.1, subst (λ (x : ProblemEntry). EntryAt values x found.0) found.2 (entry_is values found.0));
    },
    is.2,
  )
  step_at assumed (steps.Key branch key left right) new is = is
  step_at assumed (steps.Link branch link fact) new is = is
  step_at assumed (steps.Rule branch rule part facts) new is = is
  step_at assumed (steps.View branch view part facts) new is = is
  step_at assumed (steps.Split branch atom) new is = is
  step_at assumed (steps.Absurd branch) new is = is
  step_at assumed (steps.Goal branch part facts) new is = is

  steps_at : (assumed : List Atom) (taken its : List Step) → AreRenumbered numbers taken its →
      AllZip (StepAt values p (record { policy = p.policy; vars = g.vars; assumed = assumed; entries = g.entries; goal = g.goal })) taken its
  steps_at assumed [] [] are = tt
  steps_at assumed [] (it ∷ its) are = absurd are
  steps_at assumed (step ∷ taken) [] are = absurd are
  steps_at assumed (step ∷ taken) (it ∷ its) are = (step_at assumed step it are.0, steps_at assumed taken its are.1)

  assumes_full : (less apart equal : List Atom) → HasParams p params → All CanBeAssumed (map fixed_of (operands_with values params) ++ less ++ apart ++ equal) →
      AssumesAt values p.assumed (map fixed_of (operands_with values params) ++ less ++ apart ++ equal)
  assumes_full less apart equal has can =
      let fixed : List Atom = map fixed_of (operands_with values params) in
      let full : List Atom = map fixed_of (operands_with values params) ++ less ++ apart ++ equal in
      let given = all_given full can in
      let fixes : Fixes values given.0 = record {
        of = λ n v is.
            let atom : Atom = record { op = Eq; left = operands.Var n; right = operands.Val v } in
            let there : Contains full atom =
            Contains-append_left (fixed ++ less ++ apart) equal atom (Contains-append_left (fixed ++ less) apart atom
            (Contains-append_left fixed less atom (variable_there values params n v is.is))) in
            contains_given (lesson_of []) full given.0 atom (Holds (record { op = Eq; left = terms.Var n; right = terms.Val v })) given.1 there refl;
      } in
      record { of = λ ls e. (given.0, given.1, lessons_among values (params_among p values params less apart equal has) ls given.0 e given.1, fixes) }

pub full_is_accepted : FullIsAccepted
full_is_accepted p g numbers values params kept renumbered question has pattern named are closes =
    let operands : List Valued = operands_with values params in
    let plain : All IsPlain (operands_with values params) = operands_plain values params in
    let twos : All BothPlain (pairs (operands_with values params)) = pairs_plain (operands_with values params) plain in
    let less = all_ones Less (pairs (operands_with values params)) in
    let apart = all_ones Apart (pairs (operands_with values params)) in
    let equal = all_ones Equal (pairs (operands_with values params)) in
    let fixed : List Atom = map fixed_of (operands_with values params) in
    let l : List Atom = flat_map those less.0 in
    let a : List Atom = flat_map those apart.0 in
    let e : List Atom = flat_map those equal.0 in
    let can : All CanBeAssumed (map fixed_of (operands_with values params) ++ flat_map those less.0 ++ flat_map those apart.0 ++ flat_map those equal.0) =
    All-append CanBeAssumed (fixed ++ l ++ a) e
    (All-append CanBeAssumed (fixed ++ l) a
    (All-append CanBeAssumed fixed l (fixed_can (operands_with values params) plain) (ones_can Less (pairs (operands_with values params)) less.0 twos less.1))
    (ones_can Apart (pairs (operands_with values params)) apart.0 twos apart.1))
    (ones_can Equal (pairs (operands_with values params)) equal.0 twos equal.1) in
    let goals : QueryAt values p.goal g.goal = subst (λ (q : Query). QueryAt values q g.goal) pattern.goal (query_is values g.goal) in
    let none : p.vars ≡ [] = ap (λ (q : Problem). q.vars) question.is in
    let stay : KindsStay p.vars g.vars = record { of = λ n kind at. let no : slice_get [] n ≡ Some kind = subst (λ (ks : List Kind). slice_get ks n ≡ Some kind) none at in absurd cc } in
    let full : List Atom = map fixed_of (operands_with values params) ++ flat_map those less.0 ++ flat_map those apart.0 ++ flat_map those equal.0 in
    let mine = closes_on values p g.vars full g.entries g.goal goals stay (assumes_full p g numbers values params pattern l a e has can) kept renumbered
    (steps_at p g numbers values params pattern full kept renumbered are) closes in
    record {
      fixed = fixed;
      less = l;
      apart = a;
      equal = e;
      full = record {
        fixed_are = refl;
        less_are = record { ones = less.0; each = less.1; new_is = refl };
        apart_are = record { ones = apart.0; each = apart.1; new_is = refl };
        equal_are = record { ones = equal.0; each = equal.1; new_is = refl };
      };
      accepted =
          subst (λ (policy : Policy). Closes (record { policy = policy; vars = g.vars; assumed = full; entries = g.entries; goal = g.goal }) renumbered) (sym pattern.policy) mine;
    }
