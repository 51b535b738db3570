-- Whether a row is in an answer is decided by going through the choices.
use Rattle.std.proofs.Common.{◌≡◌, ℕ, ℤ, ◌≤ℤ◌, ◌<ℤ◌, Bool, true, false, inl, inr, List, [], ◌∷◌, map, refl, sym, ap, subst}
use Rattle.std.proofs.Math.Dec.{T}
use Rattle.std.proofs.Math.Decide.{map_dec, ℕ_discrete}
use Rattle.std.proofs.Math.IntN.{ℤ_discrete}
use Rattle.std.proofs.lemmas.List.Elements.{All-cons, All-head, All-nil, All-tail}
use Rattle.std.specs.Int.Signed.{le_z, le_z_yes, lt_z, lt_z_yes}
use Rattle.std.specs.List.{All, Contains}
use Rattle.std.specs.Prelude.{Option, Some, None}
use Rattle.ba_model.proofs.ElementLemmas.{Contains-cases, Contains-head, Contains-later, Contains-nil}
use Rattle.ba_model.specs.Meaning.{Compares, Gives, Holds, InAnswer, InPart, IsChoice, rows_of, value_of}
use Rattle.ba_model.specs.declared.policy.Context.{Context}
use Rattle.ba_model.specs.declared.query.Atom.{Atom}
use Rattle.ba_model.specs.declared.query.Op.{Op}
use Rattle.ba_model.specs.declared.query.Op.TheVariants.{Eq, Ne, Lt, Le, IsNull, NotNull}
use Rattle.ba_model.specs.declared.query.Part.{Part}
use Rattle.ba_model.specs.declared.query.Query.{Query}
use Rattle.ba_model.specs.declared.value.RowSet.{RowSet}
use Rattle.ba_model.specs.declared.value.Value.{Value}
use Rattle.ba_model.specs.declared.value.Value.TheVariants.{Null, Int, Text}

-- ---- of any facts

dec_and : {A B : Type 0} → Dec A → Dec B → Dec (A × B)
dec_and (yes a) (yes b) = yes (a, b)
dec_and (yes a) (no f) = no (λ h. f h.1)
dec_and (no f) b = no (λ h. f h.0)

dec_not : {A : Type 0} → Dec A → Dec (¬ A)
dec_not (yes a) = no (λ f. f a)
dec_not (no f) = yes f

dec_test : (t : Bool) → Dec (T t)
dec_test true = yes tt
dec_test false = no (λ h. h)

dec_list : {X : Type 0} → ((x y : X) → Dec (x ≡ y)) → (xs ys : List X) → Dec (xs ≡ ys)
dec_list same [] [] = yes refl
dec_list same [] (y ∷ ys) = no (λ e. cc)
dec_list same (x ∷ xs) [] = no (λ e. cc)
dec_list same (x ∷ xs) (y ∷ ys) = map_dec (λ h. cc (h.0, h.1)) (λ e. (cc, cc)) (dec_and (same x y) (dec_list same xs ys))

dec_option : {X : Type 0} → ((x y : X) → Dec (x ≡ y)) → (o p : Option X) → Dec (o ≡ p)
dec_option same None None = yes refl
dec_option same None (Some y) = no (λ e. cc)
dec_option same (Some x) None = no (λ e. cc)
dec_option same (Some x) (Some y) = map_dec (ap Some) (λ e. cc) (same x y)

dec_all : {X : Type 0} (P : X → Type 0) → ((x : X) → Dec (P x)) → (xs : List X) → Dec (All P xs)
dec_all P test [] = yes (All-nil P)
dec_all P test (x ∷ xs) = map_dec (λ h. All-cons P x xs h.0 h.1) (λ h. (All-head P x xs h, All-tail P x xs h)) (dec_and (test x) (dec_all P test xs))

-- some element of a list
abbrev SomeOf : {X : Type 0} → (X → Type 0) → List X → Type 0
SomeOf {X} P xs = (x : X) × Contains xs x × P x

dec_some : {X : Type 0} (P : X → Type 0) → ((x : X) → Dec (P x)) → (xs : List X) → Dec (SomeOf P xs)
dec_some P test [] = no (λ h. Contains-nil h.0 h.1)
dec_some {X} P test (x ∷ xs) = by (test x) (dec_some P test xs)
  where
    by : Dec (P x) → Dec (SomeOf P xs) → Dec (SomeOf P (x ∷ xs))
    by (yes here) rest = yes (x, Contains-head x xs, here)
    by (no f) (yes later) = yes (later.0, Contains-later x xs later.0 later.1, later.2)
    by (no f) (no g) = no (λ h. elim (Contains-cases x xs h.0 h.1) [ inl same ↦ f (subst P (sym same) h.2) | inr later ↦ g (h.0, later, h.2) ])

-- ---- of values

dec_value : (v w : Value) → Dec (v ≡ w)
dec_value Null Null = yes refl
dec_value Null (Int m) = no (λ e. cc)
dec_value Null (Text u) = no (λ e. cc)
dec_value (Int n) Null = no (λ e. cc)
dec_value (Int n) (Int m) = map_dec (ap Int) (λ e. cc) (ℤ_discrete n m)
dec_value (Int n) (Text u) = no (λ e. cc)
dec_value (Text t) Null = no (λ e. cc)
dec_value (Text t) (Int m) = no (λ e. cc)
dec_value (Text t) (Text u) = map_dec (ap Text) (λ e. cc) (dec_list ℕ_discrete t u)

dec_less : (n m : ℤ) → Dec (n <ℤ m)
dec_less n m = map_dec lt_z_yes (λ h. h.lt) (dec_test (lt_z n m))

dec_at_most : (n m : ℤ) → Dec (n ≤ℤ m)
dec_at_most n m = map_dec le_z_yes (λ h. h.le) (dec_test (le_z n m))

dec_compares : (op : Op) (v w : Value) → Dec (Compares op v w)
dec_compares Eq v w = dec_and (dec_not (dec_value v Null)) (dec_value v w)
dec_compares Ne v w =
    map_dec (λ h. (h.0, h.1.0, h.1.1)) (λ h. (h.0, (h.1, h.2)))
    (dec_and (dec_not (dec_value v Null)) (dec_and (dec_not (dec_value w Null)) (dec_not (dec_value v w))))
dec_compares Lt (Int n) (Int m) = dec_less n m
dec_compares Lt (Int n) Null = no (λ h. h)
dec_compares Lt (Int n) (Text t) = no (λ h. h)
dec_compares Lt Null w = no (λ h. h)
dec_compares Lt (Text t) w = no (λ h. h)
dec_compares Le (Int n) (Int m) = dec_at_most n m
dec_compares Le (Int n) Null = no (λ h. h)
dec_compares Le (Int n) (Text t) = no (λ h. h)
dec_compares Le Null w = no (λ h. h)
dec_compares Le (Text t) w = no (λ h. h)
dec_compares IsNull v w = dec_value v Null
dec_compares NotNull v w = dec_not (dec_value v Null)

-- ---- of queries

lacks_left : (c : Context) (rows : List (List Value)) (atom : Atom) → value_of c rows atom.left ≡ None → Holds c rows atom → ⊥
lacks_left c rows atom e h = cc (h.left_is)

lacks_right : (c : Context) (rows : List (List Value)) (atom : Atom) → value_of c rows atom.right ≡ None → Holds c rows atom → ⊥
lacks_right c rows atom e h = cc (h.right_is)

some_same : {X : Type 0} {x y : X} (o : Option X) → o ≡ Some x → o ≡ Some y → x ≡ y
some_same o e f = cc

dec_holds : (c : Context) (rows : List (List Value)) (atom : Atom) → Dec (Holds c rows atom)
dec_holds c rows atom = by (value_of c rows atom.left) (value_of c rows atom.right) refl refl
  where
    by : (o p : Option Value) → value_of c rows atom.left ≡ o → value_of c rows atom.right ≡ p → Dec (Holds c rows atom)
    by None p e f = no (lacks_left c rows atom e)
    by (Some v) None e f = no (lacks_right c rows atom f)
    by (Some v) (Some w) e f =
        map_dec (λ h. record { left = v; right = w; left_is = e; right_is = f; compared = h })
        (λ h.
        subst (λ q. Compares atom.op q w) (some_same (value_of c rows atom.left) h.left_is e)
        (subst (λ q. Compares atom.op h.left q) (some_same (value_of c rows atom.right) h.right_is f) h.compared))
        (dec_compares atom.op v w)

dec_gives : (c : Context) (part : Part) (r : List Value) (rows : List (List Value)) → Dec (Gives c rows part r)
dec_gives c part r rows =
    map_dec (λ h. record { conds = h.0; head = h.1 }) (λ h. (h.conds, h.head))
    (dec_and (dec_all (Holds c rows) (dec_holds c rows) part.conds) (dec_list (dec_option dec_value) (map (value_of c rows) part.head) (map Some r)))

-- some choice of a row for each table
abbrev SomeChoice : RowSet → List ℕ → (List (List Value) → Type 0) → Type 0
SomeChoice d from P = (rows : List (List Value)) × IsChoice d from rows × P rows

-- the row with some choice for the other tables
abbrev RowFirst : RowSet → List ℕ → (List (List Value) → Type 0) → List Value → Type 0
RowFirst d from P row = SomeChoice d from (λ rows. P (row ∷ rows))

module _ (d : RowSet) where
  nothing_chosen : (P : List (List Value) → Type 0) → SomeChoice d [] P → P []
  nothing_chosen P ([], is, h) = h
  nothing_chosen P (row ∷ rows, is, h) = absurd is

  first_chosen : (table : ℕ) (from : List ℕ) (P : List (List Value) → Type 0) → SomeChoice d (table ∷ from) P → SomeOf (RowFirst d from P) (rows_of d table)
  first_chosen table from P ([], is, h) = absurd is
  first_chosen table from P (row ∷ rest, is, h) = (row, is.0, (rest, is.1, h))

  dec_choice : (from : List ℕ) (P : List (List Value) → Type 0) → ((rows : List (List Value)) → Dec (P rows)) → Dec (SomeChoice d from P)
  dec_choice [] P test = map_dec (λ h. ([], tt, h)) (nothing_chosen P) (test [])
  dec_choice (table ∷ from) P test =
      map_dec (λ h. (h.0 ∷ h.2.0, (h.1, h.2.1), h.2.2)) (first_chosen table from P)
      (dec_some (RowFirst d from P) (λ row. dec_choice from (λ rows. P (row ∷ rows)) (λ rows. test (row ∷ rows))) (rows_of d table))

-- whether the row is in the answer
pub dec_answer : (q : Query) (c : Context) (d : RowSet) (r : List Value) → Dec (InAnswer q c d r)
dec_answer q c d r =
    dec_some (λ part. InPart c d part r) (λ part. dec_choice d part.from (λ rows. Gives c rows part r) (dec_gives c part r)) q.parts
