-- The rows that a query gives by each choice of rows are its answer's.
use Rattle.std.proofs.Common.{◌≡◌, ℕ, ℤ, ◌<ℤ◌, ◌≤ℤ◌, int_lt, int_le, Bool, true, false, cond, not, ◌&&◌, inl, inr, List, [], ◌∷◌, map, Option, Some, None, option_map, option_to_list, flat_map, refl, sym, ap, ap₂, ◌∙◌, subst, arith}
use Rattle.std.proofs.lemmas.Bool.Decides.{Decides-and, Decides-by_and, Decides-not}
use Rattle.std.proofs.lemmas.Int.{ints}
use Rattle.std.specs.Bool.{Decides}
use Rattle.std.specs.List.{All, Contains, list_all}
use Rattle.std.specs.Ordering.{eq_by_cmp}
use Rattle.ba_model.proofs.ElementLemmas.{Contains-cases, Contains-flat_map, Contains-head, Contains-into_flat_map, Contains-later, Contains-nil}
use Rattle.ba_model.specs.Meaning.{Compares, Gives, Holds, InAnswer, IsChoice, rows_of, value_of}
use Rattle.ba_model.specs.Order.{value_cmp}
use Rattle.ba_model.specs.OrderLaws.{value_decides}
use Rattle.ba_model.specs.declared.policy.Context.{Context}
use Rattle.ba_model.specs.declared.query.Atom.{Atom}
use Rattle.ba_model.specs.declared.query.Op.{Op}
use Rattle.ba_model.specs.declared.query.Op.TheVariants.{Eq, Ne, Lt, Le, IsNull, NotNull}
use Rattle.ba_model.specs.declared.query.Part.{Part}
use Rattle.ba_model.specs.declared.query.Query.{Query}
use Rattle.ba_model.specs.declared.value.RowSet.{RowSet}
use Rattle.ba_model.specs.declared.value.Value.{Value}
use Rattle.ba_model.specs.declared.value.Value.TheVariants.{Null, Int, Text}
use Rattle.ba_tables.specs.Broken.{is_null}
use Rattle.ba_tables.specs.Rules.{all_there, choices, compared, compares, given_by_part, given_from, holds, rows_given}

-- ---- atoms

null_decides : (a : Value) → Decides (is_null (Some a)) (a ≡ Null)
null_decides Null = (λ e. refl, λ e. refl)
null_decides (Int n) = (λ e. cc e, λ e. cc e)
null_decides (Text t) = (λ e. cc e, λ e. cc e)

less_decides : (n m : ℤ) → Decides (int_lt n m) (n <ℤ m)
less_decides n m = (λ e. grind (arith, ints), λ h. grind (arith, ints))

at_most_decides : (n m : ℤ) → Decides (int_le n m) (n ≤ℤ m)
at_most_decides n m = (λ e. grind (arith, ints), λ h. grind (arith, ints))

compares_decides : (op : Op) (a b : Value) → Decides (compares op a b) (Compares op a b)
compares_decides Eq a b = Decides-and (not (is_null (Some a))) (eq_by_cmp value_cmp a b) (Decides-not (is_null (Some a)) (null_decides a)) (value_decides a b)
compares_decides Ne a b =
    let both = Decides-and (not (is_null (Some b))) (not (eq_by_cmp value_cmp a b)) (Decides-not (is_null (Some b)) (null_decides b)) (Decides-not (eq_by_cmp value_cmp a b) (value_decides a b)) in
    let all = Decides-and (not (is_null (Some a))) (not (is_null (Some b)) && not (eq_by_cmp value_cmp a b)) (Decides-not (is_null (Some a)) (null_decides a)) both in
    (λ e. let h = all.0 e in (h.0, h.1.0, h.1.1), λ h. all.1 (h.0, (h.1, h.2)))
compares_decides Lt (Int n) (Int m) = less_decides n m
compares_decides Lt (Int n) Null = (λ e. cc e, λ h. absurd h)
compares_decides Lt (Int n) (Text t) = (λ e. cc e, λ h. absurd h)
compares_decides Lt Null b = (λ e. cc e, λ h. absurd h)
compares_decides Lt (Text s) b = (λ e. cc e, λ h. absurd h)
compares_decides Le (Int n) (Int m) = at_most_decides n m
compares_decides Le (Int n) Null = (λ e. cc e, λ h. absurd h)
compares_decides Le (Int n) (Text t) = (λ e. cc e, λ h. absurd h)
compares_decides Le Null b = (λ e. cc e, λ h. absurd h)
compares_decides Le (Text s) b = (λ e. cc e, λ h. absurd h)
compares_decides IsNull a b = null_decides a
compares_decides NotNull a b = Decides-not (is_null (Some a)) (null_decides a)

holds_told : (c : Context) (rows : List (List Value)) (atom : Atom) → holds c rows atom ≡ true → Holds c rows atom
holds_told c rows atom e = by (value_of c rows atom.left) refl (value_of c rows atom.right) refl e
  where
    by : (l : Option Value) → value_of c rows atom.left ≡ l → (r : Option Value) → value_of c rows atom.right ≡ r → compared atom.op l r ≡ true → Holds c rows atom
    by None t r u e = cc e
    by (Some a) t None u e = cc e
    by (Some a) t (Some b) u e = record { left = a; right = b; left_is = t; right_is = u; compared = (compares_decides atom.op a b).0 e }

holds_test : (c : Context) (rows : List (List Value)) (atom : Atom) → Holds c rows atom → holds c rows atom ≡ true
holds_test c rows atom h = ap₂ (compared atom.op) h.left_is h.right_is ∙ (compares_decides atom.op h.left h.right).1 h.compared

all_decides : (c : Context) (rows : List (List Value)) (atoms : List Atom) → Decides (list_all (holds c rows) atoms) (All (Holds c rows) atoms)
all_decides c rows atoms = Decides-by_and (holds c rows) (Holds c rows) (list_all (holds c rows)) (λ atom. (holds_told c rows atom, holds_test c rows atom)) refl (λ _ _. refl) atoms

-- ---- heads

there_told : (values : List (Option Value)) (row : List Value) → all_there values ≡ Some row → values ≡ map Some row
there_told [] [] e = refl
there_told [] (v ∷ row) e = cc e
there_told (None ∷ values) row e = cc e
there_told (Some v ∷ values) row e = by (all_there values) refl e (there_told values)
  where
    by : (o : Option (List Value)) → all_there values ≡ o → option_map (λ vs. v ∷ vs) o ≡ Some row → ((vs : List Value) → all_there values ≡ Some vs → values ≡ map Some vs) → Some v ∷ values ≡ map Some row
    by None t e more = cc e
    by (Some vs) t e more =
        let same : v ∷ vs ≡ row = cc e in
        ap (λ os. Some v ∷ os) (more vs t) ∙ ap (map Some) same

there_of : (row : List Value) → all_there (map Some row) ≡ Some row
there_of [] = refl
there_of (v ∷ row) = ap (option_map (λ vs. v ∷ vs)) (there_of row)

given_told : (c : Context) (part : Part) (rows : List (List Value)) (r : List Value) → given_from c part rows ≡ Some r → Gives c rows part r
given_told c part rows r e = by (list_all (holds c rows) part.conds) refl e
  where
    by : (b : Bool) → list_all (holds c rows) part.conds ≡ b → cond b (all_there (map (value_of c rows) part.head)) None ≡ Some r → Gives c rows part r
    by true t e = record { conds = (all_decides c rows part.conds).0 t; head = there_told (map (value_of c rows) part.head) r e }
    by false t e = cc e

given_test : (c : Context) (part : Part) (rows : List (List Value)) (r : List Value) → Gives c rows part r → given_from c part rows ≡ Some r
given_test c part rows r h =
    ap (λ b. cond b (all_there (map (value_of c rows) part.head)) None) ((all_decides c rows part.conds).1 h.conds) ∙ (ap all_there h.head ∙ there_of r)

-- ---- choices

pub map_told : {X Y : Type 0} (f : X → Y) (xs : List X) (y : Y) → Contains (map f xs) y → (x : X) × Contains xs x × (f x ≡ y)
map_told f [] y h = absurd (Contains-nil y h)
map_told f (x ∷ xs) y h =
    elim (Contains-cases (f x) (map f xs) y h) [
      | inl same ↦ (x, Contains-head x xs, same)
      | inr later ↦ let k = map_told f xs y later in (k.0, Contains-later x xs k.0 k.1, k.2)
    ]

pub map_test : {X Y : Type 0} (f : X → Y) (xs : List X) (x : X) → Contains xs x → Contains (map f xs) (f x)
map_test f [] x h = absurd (Contains-nil x h)
map_test f (y ∷ xs) x h =
    elim (Contains-cases y xs x h) [
      | inl same ↦ subst (λ q. Contains (f y ∷ map f xs) (f q)) same (Contains-head (f y) (map f xs))
      | inr later ↦ Contains-later (f y) (map f xs) (f x) (map_test f xs x later)
    ]

choice_told : (d : RowSet) (from : List ℕ) (rows : List (List Value)) → Contains (choices d from) rows → IsChoice d from rows
choice_told d [] rows h =
    elim (Contains-cases [] [] rows h) [
      | inl same ↦ subst (IsChoice d []) same tt
      | inr later ↦ absurd (Contains-nil rows later)
    ]
choice_told d (table ∷ from) rows h =
    let (row, there, within) = Contains-flat_map (λ first. map (λ rest. first ∷ rest) (choices d from)) (rows_of d table) rows h in
    let (rest, is, same) = map_told (λ rest. row ∷ rest) (choices d from) rows within in
    subst (IsChoice d (table ∷ from)) same (there, choice_told d from rest is)

choice_test : (d : RowSet) (from : List ℕ) (rows : List (List Value)) → IsChoice d from rows → Contains (choices d from) rows
choice_test d [] [] h = Contains-head [] []
choice_test d [] (row ∷ rows) h = absurd h
choice_test d (table ∷ from) [] h = absurd h
choice_test d (table ∷ from) (row ∷ rows) h =
    Contains-into_flat_map (λ first. map (λ rest. first ∷ rest) (choices d from)) (rows_of d table) row (row ∷ rows) h.0
    (map_test (λ rest. row ∷ rest) (choices d from) rows (choice_test d from rows h.1))

-- ---- answers

some_told : (o : Option (List Value)) (r : List Value) → Contains (option_to_list o) r → o ≡ Some r
some_told None r h = absurd (Contains-nil r h)
some_told (Some row) r h =
    elim (Contains-cases row [] r h) [
      | inl same ↦ ap Some same
      | inr later ↦ absurd (Contains-nil r later)
    ]

some_test : (o : Option (List Value)) (r : List Value) → o ≡ Some r → Contains (option_to_list o) r
some_test o r e = subst (λ x. Contains (option_to_list x) r) (sym e) (Contains-head r [])

pub answer_told : (q : Query) (c : Context) (d : RowSet) (r : List Value) → Contains (rows_given q c d) r → InAnswer q c d r
answer_told q c d r h =
    let (part, there, within) = Contains-flat_map (given_by_part c d) q.parts r h in
    let (rows, is, some) = Contains-flat_map (λ rows. option_to_list (given_from c part rows)) (choices d part.from) r within in
    (part, there, (rows, choice_told d part.from rows is, given_told c part rows r (some_told (given_from c part rows) r some)))

pub answer_test : (q : Query) (c : Context) (d : RowSet) (r : List Value) → InAnswer q c d r → Contains (rows_given q c d) r
answer_test q c d r (part, there, (rows, choice, gives)) =
    Contains-into_flat_map (given_by_part c d) q.parts part r there
    (Contains-into_flat_map (λ rows. option_to_list (given_from c part rows)) (choices d part.from) rows r (choice_test d part.from rows choice) (some_test (given_from c part rows) r (given_test c part rows r gives)))
