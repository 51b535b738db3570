-- A draft without a fault is a query for its schema, parameters and variables, and no other draft is one.
use Rattle.std.proofs.Common.{◌≡◌, ◌≢◌, ◌∙◌, refl, sym, ap, ap₂, subst, ℕ, ◌≤◌, Bool, true, false, not, ◌&&◌, ◌==◌, nat_le, List, [], ◌∷◌, length, map, arith, All}
use Rattle.std.proofs.lemmas.Bool.Decides.{nat_tests}
use Rattle.std.proofs.lemmas.List.Elements.{All-weaker, All-cons, All-contains}
use Rattle.std.proofs.lemmas.List.Sums.{AllPass-from_list_all, list_all-from_AllPass}
use Rattle.std.specs.List.{Contains, list_all}
use Rattle.std.specs.Prelude.{Option, Some, None, is_some, slice_get}
use Rattle.ba_model.specs.Fit.{AtomFits, IsQuery, OpFits, PartFits, PartWithin, kind_of}
use Rattle.ba_model.specs.OrderLaws.{value_decides}
use Rattle.ba_model.specs.QueryFaults as faults
use Rattle.ba_model.specs.QueryFaults.{HasNoFault}
use Rattle.ba_model.specs.Limits.{most_atoms, most_head, most_part_tables, most_parts}
use Rattle.ba_model.specs.declared.query.Atom.{Atom}
use Rattle.ba_model.specs.declared.query.Op.{Op}
use Rattle.ba_model.specs.declared.query.Op.TheVariants.{Eq, Ne, Lt, Le, IsNull, NotNull}
use Rattle.ba_model.specs.declared.query.Operand.{Operand}
use Rattle.ba_model.specs.declared.query.Operand.TheVariants.{Col, Val, Param, Var}
use Rattle.ba_model.specs.declared.query.Part.{Part}
use Rattle.ba_model.specs.declared.query.Query.{Query}
use Rattle.ba_model.specs.declared.check_query.QueryFault.TheVariants.{BadTable, BadColumn, KindDiffers, OrderOnText, HeadDiffers, UnknownParam, TooMany}
use Rattle.ba_model.specs.declared.schema.Kind.{Kind}
use Rattle.ba_model.specs.declared.schema.Kind.TheVariants.{Int as IntKind, Text as TextKind}
use Rattle.ba_model.specs.declared.schema.Schema.{Schema}
use Rattle.ba_model.specs.declared.value.Value.TheVariants.{Null, Int, Text}

-- ---- tests

and_left : (a b : Bool) → (a && b) ≡ true → a ≡ true
and_left true b e = refl
and_left false b e = cc

and_right : (a b : Bool) → (a && b) ≡ true → b ≡ true
and_right true b e = e
and_right false b e = cc

and_both : (a b : Bool) → a ≡ true → b ≡ true → (a && b) ≡ true
and_both a b p q = rw (p, q) refl

not_true : (a : Bool) → not a ≡ true → a ≡ false
not_true true e = cc
not_true false e = refl

not_false : (a : Bool) → a ≡ false → not a ≡ true
not_false a e = rw e refl

all_from : {X : Type 0} (p : X → Bool) (P : X → Type 0) (xs : List X) → ((x : X) → p x ≡ true → P x) → list_all p xs ≡ true → All P xs
all_from p P xs f e = All-weaker (λ x. p x ≡ true) P f xs (AllPass-from_list_all p xs e)

all_to : {X : Type 0} (p : X → Bool) (P : X → Type 0) (xs : List X) → ((x : X) → P x → p x ≡ true) → All P xs → list_all p xs ≡ true
all_to p P xs f h = list_all-from_AllPass p xs (All-weaker P (λ x. p x ≡ true) f xs h)

all_contains : {X : Type 0} (p : X → Bool) (xs : List X) (x : X) → list_all p xs ≡ true → Contains xs x → p x ≡ true
all_contains p xs x e h = All-contains (λ y. p y ≡ true) xs x (AllPass-from_list_all p xs e) h

some_is : {X : Type 0} (o : Option X) → is_some o ≡ true → (x : X) × (o ≡ Some x)
some_is None e = cc
some_is (Some x) e = (x, refl)

is_there : {X : Type 0} (o : Option X) → is_some o ≡ true → o ≢ None
is_there None e h = cc
is_there (Some x) e h = cc

there_is : {X : Type 0} (o : Option X) → o ≢ None → is_some o ≡ true
there_is None h = absurd (h refl)
there_is (Some x) h = refl

some_there : {X : Type 0} (o : Option X) (x : X) → o ≡ Some x → is_some o ≡ true
some_there o x e = rw e refl

not_empty : {X : Type 0} (xs : List X) → not (faults.is_empty xs) ≡ true → xs ≢ []
not_empty [] e h = cc
not_empty (x ∷ xs) e h = cc

empty_not : {X : Type 0} (xs : List X) → xs ≢ [] → not (faults.is_empty xs) ≡ true
empty_not [] h = absurd (h refl)
empty_not (x ∷ xs) h = refl

le_from : (n m : ℕ) → nat_le n m ≡ true → n ≤ m
le_from n m e = grind (arith, nat_tests)

le_to : (n m : ℕ) → n ≤ m → nat_le n m ≡ true
le_to n m h = grind (arith, nat_tests)

-- ---- operands and kinds

numbers_equal : (n m : ℕ) → (n == m) ≡ true → n ≡ m
numbers_equal n m e = grind (arith, nat_tests)

equal_numbers : (n : ℕ) → (n == n) ≡ true
equal_numbers n = grind (arith, nat_tests)

same_is : (x y : Operand) → faults.same_operand x y ≡ true → x ≡ y
same_is (Col p k) (Col q l) e = ap₂ Col (numbers_equal p q (and_left (p == q) (k == l) e)) (numbers_equal k l (and_right (p == q) (k == l) e))
same_is (Col p k) (Val w) e = cc
same_is (Col p k) (Param m) e = cc
same_is (Col p k) (Var m) e = cc
same_is (Val v) (Col q l) e = cc
same_is (Val v) (Val w) e = ap Val ((value_decides v w).0 e)
same_is (Val v) (Param m) e = cc
same_is (Val v) (Var m) e = cc
same_is (Param n) (Col q l) e = cc
same_is (Param n) (Val w) e = cc
same_is (Param n) (Param m) e = ap Param (numbers_equal n m e)
same_is (Param n) (Var m) e = cc
same_is (Var n) (Col q l) e = cc
same_is (Var n) (Val w) e = cc
same_is (Var n) (Param m) e = cc
same_is (Var n) (Var m) e = ap Var (numbers_equal n m e)

same_itself : (x : Operand) → faults.same_operand x x ≡ true
same_itself (Col p k) = and_both (p == p) (k == k) (equal_numbers p) (equal_numbers k)
same_itself (Val v) = (value_decides v v).1 refl
same_itself (Param n) = equal_numbers n
same_itself (Var n) = equal_numbers n

agree_is : (k l : Kind) → faults.agree (Some k) (Some l) ≡ true → k ≡ l
agree_is IntKind IntKind e = refl
agree_is IntKind TextKind e = cc
agree_is TextKind IntKind e = cc
agree_is TextKind TextKind e = refl

agree_itself : (k : Kind) → faults.agree (Some k) (Some k) ≡ true
agree_itself IntKind = refl
agree_itself TextKind = refl

number_kind : (k : Kind) → faults.is_text (Some k) ≡ false → k ≡ IntKind
number_kind IntKind e = refl
number_kind TextKind e = cc

module _ (s : Schema) (params vars : List Kind) where
  -- an operand that is there, named and not NULL has a kind
  known : (from : List ℕ) (x : Operand) → faults.column_there s from x ≡ true → faults.is_null x ≡ false → faults.named params vars x ≡ true → (k : Kind) × (kind_of s params vars from x ≡ Some k)
  known from (Col place column) h n m = some_is (kind_of s [] [] from (Col place column)) h
  known from (Val Null) h n m = cc
  known from (Val (Int i)) h n m = (IntKind, refl)
  known from (Val (Text t)) h n m = (TextKind, refl)
  known from (Param i) h n m = some_is (slice_get params i) m
  known from (Var i) h n m = some_is (slice_get vars i) m

  -- and one that has a kind is there, named and not NULL
  column_known : (from : List ℕ) (x : Operand) (k : Kind) → kind_of s params vars from x ≡ Some k → faults.column_there s from x ≡ true
  column_known from (Col place column) k e = some_there (kind_of s [] [] from (Col place column)) k e
  column_known from (Val v) k e = refl
  column_known from (Param i) k e = refl
  column_known from (Var i) k e = refl

  null_known : (from : List ℕ) (x : Operand) (k : Kind) → kind_of s params vars from x ≡ Some k → faults.is_null x ≡ false
  null_known from (Col place column) k e = refl
  null_known from (Val Null) k e = cc
  null_known from (Val (Int i)) k e = refl
  null_known from (Val (Text t)) k e = refl
  null_known from (Param i) k e = refl
  null_known from (Var i) k e = refl

  name_known : (from : List ℕ) (x : Operand) (k : Kind) → kind_of s params vars from x ≡ Some k → faults.named params vars x ≡ true
  name_known from (Col place column) k e = refl
  name_known from (Val v) k e = refl
  name_known from (Param i) k e = some_there (slice_get params i) k e
  name_known from (Var i) k e = some_there (slice_get vars i) k e

  -- ---- atoms

  sides : (from : List ℕ) (x y : Operand) → faults.sides_agree s params vars from x y ≡ true → (faults.is_null x ≡ false) × (faults.is_null y ≡ false) × (faults.agree (kind_of s params vars from x) (kind_of s params vars from y) ≡ true)
  sides from x y e =
      let nulls = and_left (not (faults.is_null x) && not (faults.is_null y)) _ e in
      (not_true _ (and_left (not (faults.is_null x)) (not (faults.is_null y)) nulls), not_true _ (and_right (not (faults.is_null x)) (not (faults.is_null y)) nulls), and_right (not (faults.is_null x) && not (faults.is_null y)) _ e)

  -- the sides of a comparison have one kind
  one_kind : (from : List ℕ) (x y : Operand) → faults.column_there s from x ≡ true → faults.column_there s from y ≡ true → faults.named params vars x ≡ true → faults.named params vars y ≡ true → faults.sides_agree s params vars from x y ≡ true
      → (k : Kind) × (kind_of s params vars from x ≡ Some k) × (kind_of s params vars from y ≡ Some k)
  one_kind from x y cx cy nx ny e =
      let h = sides from x y e in
      let kx = known from x cx h.0 nx in
      let ky = known from y cy h.1 ny in
      let both : faults.agree (Some kx.0) (Some ky.0) ≡ true = subst (λ o. faults.agree o (Some ky.0) ≡ true) kx.1 (subst (λ o. faults.agree (kind_of s params vars from x) o ≡ true) ky.1 h.2) in
      (kx.0, kx.1, ky.1 ∙ ap Some (sym (agree_is kx.0 ky.0 both)))

  compared : (op : Op) (from : List ℕ) (x y : Operand) → ((k : Kind) → kind_of s params vars from x ≡ Some k → OpFits op k x y) → faults.column_there s from x ≡ true → faults.column_there s from y ≡ true → faults.named params vars x ≡ true → faults.named params vars y ≡ true → faults.sides_agree s params vars from x y ≡ true
      → AtomFits s params vars from (record { op = op; left = x; right = y })
  compared op from x y fits cx cy nx ny e =
      let h = one_kind from x y cx cy nx ny e in
      record { kind = h.0; left_is = h.1; right_is = h.2; op = fits h.0 h.1 }

  ordered : (from : List ℕ) (x y : Operand) (k : Kind) → (not (faults.is_text (kind_of s params vars from x)) && not (faults.is_text (kind_of s params vars from y))) ≡ true → kind_of s params vars from x ≡ Some k → k ≡ IntKind
  ordered from x y k e h =
      number_kind k (subst (λ o. faults.is_text o ≡ false) h (not_true _ (and_left (not (faults.is_text (kind_of s params vars from x))) _ e)))

  repeated : (op : Op) (from : List ℕ) (x y : Operand) → ((k : Kind) → y ≡ x → OpFits op k x y) → faults.column_there s from x ≡ true → faults.named params vars x ≡ true → (not (faults.is_null x) && faults.same_operand y x) ≡ true
      → AtomFits s params vars from (record { op = op; left = x; right = y })
  repeated op from x y fits cx nx e =
      let same : y ≡ x = same_is y x (and_right (not (faults.is_null x)) (faults.same_operand y x) e) in
      let k = known from x cx (not_true _ (and_left (not (faults.is_null x)) (faults.same_operand y x) e)) nx in
      record { kind = k.0; left_is = k.1; right_is = ap (kind_of s params vars from) same ∙ k.1; op = fits k.0 same }

  atom_fits_by : (op : Op) (from : List ℕ) (x y : Operand) → faults.column_there s from x ≡ true → faults.column_there s from y ≡ true → faults.named params vars x ≡ true → faults.named params vars y ≡ true → faults.atom_kinds s params vars from op x y ≡ true → faults.atom_order s params vars from (record { op = op; left = x; right = y }) ≡ true
      → AtomFits s params vars from (record { op = op; left = x; right = y })
  atom_fits_by Eq from x y cx cy nx ny e o = compared Eq from x y (λ k h. tt) cx cy nx ny e
  atom_fits_by Ne from x y cx cy nx ny e o = compared Ne from x y (λ k h. tt) cx cy nx ny e
  atom_fits_by Lt from x y cx cy nx ny e o = compared Lt from x y (λ k h. ordered from x y k o h) cx cy nx ny e
  atom_fits_by Le from x y cx cy nx ny e o = compared Le from x y (λ k h. ordered from x y k o h) cx cy nx ny e
  atom_fits_by IsNull from x y cx cy nx ny e o = repeated IsNull from x y (λ k h. h) cx nx e
  atom_fits_by NotNull from x y cx cy nx ny e o = repeated NotNull from x y (λ k h. h) cx nx e

  -- ---- heads

  head_kinds : (from : List ℕ) (xs : List Operand) → list_all (faults.column_there s from) xs ≡ true → list_all (λ x. not (faults.is_null x)) xs ≡ true → list_all (faults.named params vars) xs ≡ true → (ks : List Kind) × (map (kind_of s params vars from) xs ≡ map Some ks)
  head_kinds from [] c n m = ([], refl)
  head_kinds from (x ∷ xs) c n m =
      let k = known from x (and_left (faults.column_there s from x) _ c) (not_true _ (and_left (not (faults.is_null x)) _ n)) (and_left (faults.named params vars x) _ m) in
      let ks = head_kinds from xs (and_right (faults.column_there s from x) _ c) (and_right (not (faults.is_null x)) _ n) (and_right (faults.named params vars x) _ m) in
      (k.0 ∷ ks.0, ap₂ (λ a b. a ∷ b) k.1 ks.1)

  pub kinds_match : (from others : List ℕ) (xs ys : List Operand) (ks ls : List Kind) → map (kind_of s params vars from) xs ≡ map Some ks → map (kind_of s params vars others) ys ≡ map Some ls → faults.heads_match s params vars from xs others ys ≡ true → ks ≡ ls
  kinds_match from others [] [] [] [] p q e = refl
  kinds_match from others [] [] (k ∷ ks) ls p q e = cc
  kinds_match from others [] [] [] (l ∷ ls) p q e = cc
  kinds_match from others [] (y ∷ ys) ks ls p q e = cc
  kinds_match from others (x ∷ xs) [] ks ls p q e = cc
  kinds_match from others (x ∷ xs) (y ∷ ys) [] ls p q e = cc
  kinds_match from others (x ∷ xs) (y ∷ ys) (k ∷ ks) [] p q e = cc
  kinds_match from others (x ∷ xs) (y ∷ ys) (k ∷ ks) (l ∷ ls) p q e =
      let px : kind_of s params vars from x ≡ Some k = cc in
      let qy : kind_of s params vars others y ≡ Some l = cc in
      let pxs : map (kind_of s params vars from) xs ≡ map Some ks = cc in
      let qys : map (kind_of s params vars others) ys ≡ map Some ls = cc in
      let both : faults.agree (Some k) (Some l) ≡ true = subst (λ o. faults.agree o (Some l) ≡ true) px (subst (λ o. faults.agree (kind_of s params vars from x) o ≡ true) qy (and_left (faults.agree (kind_of s params vars from x) (kind_of s params vars others y)) _ e)) in
      ap₂ (λ a b. a ∷ b) (agree_is k l both) (kinds_match from others xs ys ks ls pxs qys (and_right (faults.agree (kind_of s params vars from x) (kind_of s params vars others y)) _ e))

  pub match_kinds : (from others : List ℕ) (xs ys : List Operand) (ks : List Kind) → map (kind_of s params vars from) xs ≡ map Some ks → map (kind_of s params vars others) ys ≡ map Some ks → faults.heads_match s params vars from xs others ys ≡ true
  match_kinds from others [] [] ks p q = refl
  match_kinds from others [] (y ∷ ys) [] p q = cc
  match_kinds from others [] (y ∷ ys) (k ∷ ks) p q = cc
  match_kinds from others (x ∷ xs) [] [] p q = cc
  match_kinds from others (x ∷ xs) [] (k ∷ ks) p q = cc
  match_kinds from others (x ∷ xs) (y ∷ ys) [] p q = cc
  match_kinds from others (x ∷ xs) (y ∷ ys) (k ∷ ks) p q =
      let px : kind_of s params vars from x ≡ Some k = cc in
      let qy : kind_of s params vars others y ≡ Some k = cc in
      let pxs : map (kind_of s params vars from) xs ≡ map Some ks = cc in
      let qys : map (kind_of s params vars others) ys ≡ map Some ks = cc in
      let both : faults.agree (kind_of s params vars from x) (kind_of s params vars others y) ≡ true = rw (px, qy) (agree_itself k) in
      and_both (faults.agree (kind_of s params vars from x) (kind_of s params vars others y)) _ both (match_kinds from others xs ys ks pxs qys)

  -- ---- parts

  -- a part without faults has kinds, and fits them
  pub part_kinds : (part : Part) → faults.columns_there s part ≡ true → faults.kinds_agree s params vars part ≡ true → faults.all_named params vars part ≡ true → (ks : List Kind) × (map (kind_of s params vars part.from) part.head ≡ map Some ks)
  part_kinds part c n m =
      head_kinds part.from part.head (and_right (list_all (faults.atom_columns s part.from) part.conds) _ c) (and_right (list_all (λ atom. faults.atom_kinds s params vars part.from atom.op atom.left atom.right) part.conds) _ n) (and_right (list_all (faults.atom_named params vars) part.conds) _ m)

  atom_fits : (from : List ℕ) (atom : Atom) → faults.atom_columns s from atom ≡ true → faults.atom_kinds s params vars from atom.op atom.left atom.right ≡ true → faults.atom_order s params vars from atom ≡ true → faults.atom_named params vars atom ≡ true → AtomFits s params vars from atom
  atom_fits from atom c n o m =
      atom_fits_by atom.op from atom.left atom.right (and_left (faults.column_there s from atom.left) _ c) (and_right (faults.column_there s from atom.left) _ c) (and_left (faults.named params vars atom.left) _ m) (and_right (faults.named params vars atom.left) _ m) n o

  all_atoms : (from : List ℕ) (atoms : List Atom) → list_all (faults.atom_columns s from) atoms ≡ true → list_all (λ atom. faults.atom_kinds s params vars from atom.op atom.left atom.right) atoms ≡ true → list_all (faults.atom_order s params vars from) atoms ≡ true → list_all (faults.atom_named params vars) atoms ≡ true → All (AtomFits s params vars from) atoms
  all_atoms from [] c n o m = λ k d below. absurd (omega arith)
  all_atoms from (atom ∷ atoms) c n o m =
      All-cons (AtomFits s params vars from) atom atoms
      (atom_fits from atom (and_left (faults.atom_columns s from atom) _ c) (and_left (faults.atom_kinds s params vars from atom.op atom.left atom.right) _ n) (and_left (faults.atom_order s params vars from atom) _ o) (and_left (faults.atom_named params vars atom) _ m))
      (all_atoms from atoms (and_right (faults.atom_columns s from atom) _ c) (and_right (faults.atom_kinds s params vars from atom.op atom.left atom.right) _ n) (and_right (faults.atom_order s params vars from atom) _ o) (and_right (faults.atom_named params vars atom) _ m))

  part_fits : (ks : List Kind) (p part : Part) → map (kind_of s params vars p.from) p.head ≡ map Some ks → faults.parts_match s params vars p part ≡ true → faults.tables_there s part ≡ true → faults.columns_there s part ≡ true → faults.kinds_agree s params vars part ≡ true → faults.orders_numbers s params vars part ≡ true → faults.all_named params vars part ≡ true → PartFits s params vars ks part
  part_fits ks p part h same t c n o m =
      let own = part_kinds part c n m in
      let is : ks ≡ own.0 = kinds_match p.from part.from p.head part.head ks own.0 h own.1 same in
      record {
        some_table = not_empty part.from (and_left (not (faults.is_empty part.from)) _ t);
        tables = all_from (λ table. is_some (slice_get s.tables table)) (λ table. slice_get s.tables table ≢ None) part.from (λ table e. is_there (slice_get s.tables table) e) (and_right (not (faults.is_empty part.from)) _ t);
        conds = all_atoms part.from part.conds (and_left (list_all (faults.atom_columns s part.from) part.conds) _ c) (and_left (list_all (λ atom. faults.atom_kinds s params vars part.from atom.op atom.left atom.right) part.conds) _ n) o (and_left (list_all (faults.atom_named params vars) part.conds) _ m);
        head = own.1 ∙ ap (λ ls. map Some ls) (sym is);
      }

  all_parts : (ks : List Kind) (p : Part) (parts : List Part) → map (kind_of s params vars p.from) p.head ≡ map Some ks → list_all (faults.parts_match s params vars p) parts ≡ true → list_all (faults.tables_there s) parts ≡ true → list_all (faults.columns_there s) parts ≡ true → list_all (faults.kinds_agree s params vars) parts ≡ true → list_all (faults.orders_numbers s params vars) parts ≡ true → list_all (faults.all_named params vars) parts ≡ true → All (PartFits s params vars ks) parts
  all_parts ks p [] h same t c n o m = λ k d below. absurd (omega arith)
  all_parts ks p (part ∷ parts) h same t c n o m =
      All-cons (PartFits s params vars ks) part parts
      (part_fits ks p part h (and_left (faults.parts_match s params vars p part) _ same) (and_left (faults.tables_there s part) _ t) (and_left (faults.columns_there s part) _ c) (and_left (faults.kinds_agree s params vars part) _ n) (and_left (faults.orders_numbers s params vars part) _ o) (and_left (faults.all_named params vars part) _ m))
      (all_parts ks p parts h (and_right (faults.parts_match s params vars p part) _ same) (and_right (faults.tables_there s part) _ t) (and_right (faults.columns_there s part) _ c) (and_right (faults.kinds_agree s params vars part) _ n) (and_right (faults.orders_numbers s params vars part) _ o) (and_right (faults.all_named params vars part) _ m))

  kinds_some : (part : Part) (ks : List Kind) → map (kind_of s params vars part.from) part.head ≡ map Some ks → part.head ≢ [] → ks ≢ []
  kinds_some part ks h some e = some (map_nil part.head ks (h ∙ ap (λ ls. map Some ls) e))
    where
      map_nil : (xs : List Operand) (ls : List Kind) → map (kind_of s params vars part.from) xs ≡ [] → xs ≡ []
      map_nil [] ls q = refl
      map_nil (x ∷ xs) ls q = cc

  part_within_is : (part : Part) → faults.part_within part ≡ true → PartWithin part
  part_within_is part e =
      let rest = and_right (nat_le (length part.from) most_part_tables) _ e in
      record {
        tables = le_from (length part.from) most_part_tables (and_left (nat_le (length part.from) most_part_tables) _ e);
        conds = le_from (length part.conds) most_atoms (and_left (nat_le (length part.conds) most_atoms) _ rest);
        head = le_from (length part.head) most_head (and_right (nat_le (length part.conds) most_atoms) _ rest);
      }

  some_fits : (parts : List Part) → HasNoFault s params vars parts → IsQuery s params vars (record { parts = parts })
  some_fits [] h = absurd (let e : false ≡ true = h HeadDiffers in cc)
  some_fits (p ∷ parts) h =
      let whole = p ∷ parts in
      let heads = and_right (list_all faults.has_head whole) _ (h HeadDiffers) in
      let first = and_left (faults.columns_there s p) _ (h BadColumn) in
      let own = part_kinds p first (and_left (faults.kinds_agree s params vars p) _ (h KindDiffers)) (and_left (faults.all_named params vars p) _ (h UnknownParam)) in
      let head : faults.has_head p ≡ true = and_left (faults.has_head p) _ (and_left (list_all faults.has_head whole) _ (h HeadDiffers)) in
      record {
        fits = record {
          kinds = own.0;
          some_kind = kinds_some p own.0 own.1 (not_empty p.head head);
          some_part = λ e. cc;
          parts = all_parts own.0 p whole own.1 (and_left (list_all (faults.parts_match s params vars p) whole) _ heads) (h BadTable) (h BadColumn) (h KindDiffers) (h OrderOnText) (h UnknownParam);
        };
        few_parts = le_from (length whole) most_parts (and_left (nat_le (length whole) most_parts) _ (h TooMany));
        within = all_from faults.part_within PartWithin whole part_within_is (and_right (nat_le (length whole) most_parts) _ (h TooMany));
      }

  -- ---- and back

  atom_columns_fit : (from : List ℕ) (atom : Atom) → AtomFits s params vars from atom → faults.atom_columns s from atom ≡ true
  atom_columns_fit from atom h = and_both (faults.column_there s from atom.left) _ (column_known from atom.left h.kind h.left_is) (column_known from atom.right h.kind h.right_is)

  atom_named_fit : (from : List ℕ) (atom : Atom) → AtomFits s params vars from atom → faults.atom_named params vars atom ≡ true
  atom_named_fit from atom h = and_both (faults.named params vars atom.left) _ (name_known from atom.left h.kind h.left_is) (name_known from atom.right h.kind h.right_is)

  sides_fit : (from : List ℕ) (x y : Operand) (k : Kind) → kind_of s params vars from x ≡ Some k → kind_of s params vars from y ≡ Some k → faults.sides_agree s params vars from x y ≡ true
  sides_fit from x y k p q =
      and_both (not (faults.is_null x) && not (faults.is_null y)) _
      (and_both (not (faults.is_null x)) _ (not_false _ (null_known from x k p)) (not_false _ (null_known from y k q)))
      (rw (p, q) (agree_itself k))

  repeated_fit : (from : List ℕ) (x y : Operand) (k : Kind) → kind_of s params vars from x ≡ Some k → y ≡ x → (not (faults.is_null x) && faults.same_operand y x) ≡ true
  repeated_fit from x y k p e = and_both (not (faults.is_null x)) _ (not_false _ (null_known from x k p)) (subst (λ z. faults.same_operand z x ≡ true) (sym e) (same_itself x))

  kinds_fit_by : (op : Op) (from : List ℕ) (x y : Operand) (k : Kind) → kind_of s params vars from x ≡ Some k → kind_of s params vars from y ≡ Some k → OpFits op k x y → faults.atom_kinds s params vars from op x y ≡ true
  kinds_fit_by Eq from x y k p q o = sides_fit from x y k p q
  kinds_fit_by Ne from x y k p q o = sides_fit from x y k p q
  kinds_fit_by Lt from x y k p q o = sides_fit from x y k p q
  kinds_fit_by Le from x y k p q o = sides_fit from x y k p q
  kinds_fit_by IsNull from x y k p q o = repeated_fit from x y k p o
  kinds_fit_by NotNull from x y k p q o = repeated_fit from x y k p o

  order_fit : (from : List ℕ) (x y : Operand) (k : Kind) → kind_of s params vars from x ≡ Some k → kind_of s params vars from y ≡ Some k → k ≡ IntKind → (not (faults.is_text (kind_of s params vars from x)) && not (faults.is_text (kind_of s params vars from y))) ≡ true
  order_fit from x y k p q e = rw (p, q, e) refl

  order_fit_by : (op : Op) (from : List ℕ) (x y : Operand) (k : Kind) → kind_of s params vars from x ≡ Some k → kind_of s params vars from y ≡ Some k → OpFits op k x y → faults.atom_order s params vars from (record { op = op; left = x; right = y }) ≡ true
  order_fit_by Eq from x y k p q o = refl
  order_fit_by Ne from x y k p q o = refl
  order_fit_by Lt from x y k p q o = order_fit from x y k p q o
  order_fit_by Le from x y k p q o = order_fit from x y k p q o
  order_fit_by IsNull from x y k p q o = refl
  order_fit_by NotNull from x y k p q o = refl

  head_fit : (p : Operand → Bool) (from : List ℕ) (xs : List Operand) (ks : List Kind) → ((x : Operand) (k : Kind) → kind_of s params vars from x ≡ Some k → p x ≡ true) → map (kind_of s params vars from) xs ≡ map Some ks → list_all p xs ≡ true
  head_fit p from [] ks f e = refl
  head_fit p from (x ∷ xs) [] f e = cc
  head_fit p from (x ∷ xs) (k ∷ ks) f e =
      let here : kind_of s params vars from x ≡ Some k = cc in
      let rest : map (kind_of s params vars from) xs ≡ map Some ks = cc in
      and_both (p x) (list_all p xs) (f x k here) (head_fit p from xs ks f rest)

  no_fault : (q : Query) → IsQuery s params vars q → HasNoFault s params vars q.parts
  no_fault q h BadTable =
      all_to (faults.tables_there s) (PartFits s params vars (h.fits).kinds) q.parts
      (λ part f. and_both (not (faults.is_empty part.from)) _ (empty_not part.from f.some_table) (all_to (λ table. is_some (slice_get s.tables table)) (λ table. slice_get s.tables table ≢ None) part.from (λ table e. there_is (slice_get s.tables table) e) f.tables))
      (h.fits).parts
  no_fault q h BadColumn =
      all_to (faults.columns_there s) (PartFits s params vars (h.fits).kinds) q.parts
      (λ part f. and_both (list_all (faults.atom_columns s part.from) part.conds) _ (all_to (faults.atom_columns s part.from) (AtomFits s params vars part.from) part.conds (atom_columns_fit part.from) f.conds) (head_fit (faults.column_there s part.from) part.from part.head (h.fits).kinds (column_known part.from) f.head))
      (h.fits).parts
  no_fault q h KindDiffers =
      all_to (faults.kinds_agree s params vars) (PartFits s params vars (h.fits).kinds) q.parts
      (λ part f. and_both (list_all (λ atom. faults.atom_kinds s params vars part.from atom.op atom.left atom.right) part.conds) _ (all_to (λ atom. faults.atom_kinds s params vars part.from atom.op atom.left atom.right) (AtomFits s params vars part.from) part.conds (λ atom a. kinds_fit_by atom.op part.from atom.left atom.right a.kind a.left_is a.right_is a.op) f.conds) (head_fit (λ x. not (faults.is_null x)) part.from part.head (h.fits).kinds (λ x k e. not_false (faults.is_null x) (null_known part.from x k e)) f.head))
      (h.fits).parts
  no_fault q h OrderOnText =
      all_to (faults.orders_numbers s params vars) (PartFits s params vars (h.fits).kinds) q.parts
      (λ part f. all_to (faults.atom_order s params vars part.from) (AtomFits s params vars part.from) part.conds (λ atom a. order_fit_by atom.op part.from atom.left atom.right a.kind a.left_is a.right_is a.op) f.conds)
      (h.fits).parts
  no_fault q h HeadDiffers =
      and_both (not (faults.is_empty q.parts)) _ (empty_not q.parts (h.fits).some_part)
      (and_both (list_all faults.has_head q.parts) _
      (all_to faults.has_head (PartFits s params vars (h.fits).kinds) q.parts (λ part f. empty_not part.head (λ e. (h.fits).some_kind (no_kinds part.from part.head (h.fits).kinds e f.head))) (h.fits).parts)
      (all_to (λ p. list_all (faults.parts_match s params vars p) q.parts) (PartFits s params vars (h.fits).kinds) q.parts
      (λ p f. all_to (faults.parts_match s params vars p) (PartFits s params vars (h.fits).kinds) q.parts (λ part g. match_kinds p.from part.from p.head part.head (h.fits).kinds f.head g.head) (h.fits).parts)
      (h.fits).parts))
    where
      no_kinds : (from : List ℕ) (xs : List Operand) (ks : List Kind) → xs ≡ [] → map (kind_of s params vars from) xs ≡ map Some ks → ks ≡ []
      no_kinds from xs [] e m = refl
      no_kinds from xs (k ∷ ks) e m = cc
  no_fault q h UnknownParam =
      all_to (faults.all_named params vars) (PartFits s params vars (h.fits).kinds) q.parts
      (λ part f. and_both (list_all (faults.atom_named params vars) part.conds) _ (all_to (faults.atom_named params vars) (AtomFits s params vars part.from) part.conds (atom_named_fit part.from) f.conds) (head_fit (faults.named params vars) part.from part.head (h.fits).kinds (name_known part.from) f.head))
      (h.fits).parts
  no_fault q h TooMany =
      and_both (nat_le (length q.parts) most_parts) _ (le_to (length q.parts) most_parts h.few_parts)
      (all_to faults.part_within PartWithin q.parts
      (λ part w. and_both (nat_le (length part.from) most_part_tables) _ (le_to _ _ w.tables) (and_both (nat_le (length part.conds) most_atoms) _ (le_to _ _ w.conds) (le_to _ _ w.head)))
      h.within)

-- a draft without a fault is a query
pub query_from_no_fault : (s : Schema) (params vars : List Kind) (q : Query) → HasNoFault s params vars q.parts → IsQuery s params vars q
query_from_no_fault s params vars q h = some_fits s params vars q.parts h

-- a query has no fault
pub no_fault_from_query : (s : Schema) (params vars : List Kind) (q : Query) → IsQuery s params vars q → HasNoFault s params vars q.parts
no_fault_from_query = no_fault
