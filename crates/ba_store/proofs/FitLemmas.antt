-- The tests of what a template's line says decide what they test.
use Rattle.std.proofs.Common.{◌≡◌, ◌∙◌, ℕ, ◌<◌, ◌≤◌, Bool, true, false, not, ◌&&◌, ◌||◌, ◌==◌, cond, inl, inr, List, [], ◌∷◌, length, map, refl, sym, ap, ap₂, subst, arith}
use Rattle.std.proofs.lemmas.Bool.{and_parts}
use Rattle.std.proofs.lemmas.Bool.Decides.{Decides-below_and, nat_tests}
use Rattle.std.specs.Bool.{Decides}
use Rattle.std.specs.List.{AllZip, Contains, list_all}
use Rattle.std.specs.Prelude.{◌≢◌, ◌↔◌, ◌⊎◌, IsTrue, Option, Some, None, Result, Ok, Err, is_some, slice_get}
use Rattle.ba_model.proofs.QueryLemmas.{no_fault_from_query, query_from_no_fault}
use Rattle.ba_model.proofs.TestLemmas.{or_cases, or_left, or_right}
use Rattle.ba_model.specs.Fit.{AtomFits, IsQuery, OpFits, kind_of, kinds_of}
use Rattle.ba_model.specs.OrderLaws.{value_decides}
use Rattle.ba_model.specs.QueryFaults as faults
use Rattle.ba_model.specs.QueryFaults.{HasNoFault}
use Rattle.ba_model.specs.declared.check_query.QueryFault.TheVariants.{BadTable, BadColumn, KindDiffers, OrderOnText, HeadDiffers, UnknownParam, TooMany}
use Rattle.ba_model.specs.declared.policy.Parameter.{Parameter}
use Rattle.ba_model.specs.declared.query.Atom.{Atom}
use Rattle.ba_model.specs.declared.query.Op.{Op}
use Rattle.ba_model.specs.declared.query.Op.TheVariants.{Eq, Ne, Lt, Le, IsNull, NotNull}
use Rattle.ba_model.specs.declared.query.Operand.{Operand}
use Rattle.ba_model.specs.declared.query.Operand.TheVariants.{Col, Val, Param, Var}
use Rattle.ba_model.specs.declared.query.Part.{Part}
use Rattle.ba_model.specs.declared.query.Query.{Query}
use Rattle.ba_model.specs.declared.schema.Kind.{Kind}
use Rattle.ba_model.specs.declared.schema.Kind.TheVariants.{Int as IntKind, Text as TextKind}
use Rattle.ba_model.specs.declared.schema.Schema.{Schema}
use Rattle.ba_model.specs.declared.value.Value.TheVariants.{Null, Int, Text}
use Rattle.ba_kernel.specs.Courses.{RowOperandFits}
use Rattle.ba_kernel.specs.Drafts.{MayStand, Stands, kind_in}
use Rattle.ba_kernel.specs.declared.problem.Problem.{Problem}
use Rattle.ba_template.proofs.StandLemmas.{problem_decides}
use Rattle.ba_template.specs.Standing.{in_problem}
use Rattle.ba_template.specs.Templates.{EachVarStands, operands_of_problem}
use Rattle.ba_store.specs.Fits.{is_assumed, is_query, may_stand, same_kind, stand_below, stands, vars_stand}
use Rattle.ba_store.specs.Reading.{checked, query_with}
use Rattle.ba_store.specs.declared.fault.StoreField.{StoreField}

both : (a b : Bool) → a ≡ true → b ≡ true → (a && b) ≡ true
both a b p q = rw (p, q) refl

not_true : (a : Bool) → not a ≡ true → a ≡ false
not_true true e = cc e
not_true false e = refl

some_is : {X : Type 0} (o : Option X) → is_some o ≡ true → (x : X) × (o ≡ Some x)
some_is None e = cc e
some_is (Some x) e = (x, refl)

some_same : {X : Type 0} (x y : X) → Some x ≡ Some y → x ≡ y
some_same x y e = cc e

-- ---- queries

pub query_tests : (s : Schema) (params vars : List Kind) (q : Query) → IsQuery s params vars q → is_query s params vars q.parts ≡ true
unfolding is_query
query_tests s params vars q h =
    let none = no_fault_from_query s params vars q h in
    both _ _ (none BadTable) (both _ _ (none BadColumn) (both _ _ (none KindDiffers) (both _ _ (none OrderOnText) (both _ _ (none HeadDiffers) (both _ _ (none UnknownParam) (none TooMany))))))

no_fault_by : (s : Schema) (params vars : List Kind) (parts : List Part) → list_all (faults.tables_there s) parts ≡ true → list_all (faults.columns_there s) parts ≡ true
    → list_all (faults.kinds_agree s params vars) parts ≡ true → list_all (faults.orders_numbers s params vars) parts ≡ true → faults.heads_agree s params vars parts ≡ true
    → list_all (faults.all_named params vars) parts ≡ true → faults.within parts ≡ true → HasNoFault s params vars parts
no_fault_by s params vars parts a b c d f g h BadTable = a
no_fault_by s params vars parts a b c d f g h BadColumn = b
no_fault_by s params vars parts a b c d f g h KindDiffers = c
no_fault_by s params vars parts a b c d f g h OrderOnText = d
no_fault_by s params vars parts a b c d f g h HeadDiffers = f
no_fault_by s params vars parts a b c d f g h UnknownParam = g
no_fault_by s params vars parts a b c d f g h TooMany = h

pub tests_query : (s : Schema) (params vars : List Kind) (parts : List Part) → is_query s params vars parts ≡ true → IsQuery s params vars (query_with parts)
unfolding is_query
tests_query s params vars parts e =
    let a = and_parts _ _ e in
    let b = and_parts _ _ a.1 in
    let c = and_parts _ _ b.1 in
    let d = and_parts _ _ c.1 in
    let f = and_parts _ _ d.1 in
    let g = and_parts _ _ f.1 in
    query_from_no_fault s params vars (query_with parts) (no_fault_by s params vars parts a.0 b.0 c.0 d.0 f.0 g.0 g.1)

pub is_checked : (field : StoreField) (schema : Schema) (params : List Parameter) (vars : List Kind) (parts : List Part) (q : Query) → IsQuery schema (kinds_of params) vars q → q.parts ≡ parts
    → checked field schema params vars parts ≡ Ok q
unfolding checked
is_checked field schema params vars parts q h e =
    let yes : is_query schema (kinds_of params) vars parts ≡ true = subst (λ ps. is_query schema (kinds_of params) vars ps ≡ true) e (query_tests schema (kinds_of params) vars q h) in
    rw yes (ap (λ ps. Ok (query_with ps)) (sym e))

pub not_checked : (field : StoreField) (schema : Schema) (params : List Parameter) (vars : List Kind) (parts : List Part) → ¬ (IsQuery schema (kinds_of params) vars (query_with parts))
    → checked field schema params vars parts ≡ Err field
unfolding checked
not_checked field schema params vars parts isnt = by (is_query schema (kinds_of params) vars parts) refl
  where
    by : (b : Bool) → is_query schema (kinds_of params) vars parts ≡ b → cond b (Ok (query_with parts)) (Err field) ≡ Err field
    by true e = absurd (isnt (tests_query schema (kinds_of params) vars parts e))
    by false e = refl

-- ---- rows

pub same_kind_is : (k l : Kind) → same_kind k l ≡ true → k ≡ l
same_kind_is IntKind IntKind e = refl
same_kind_is IntKind TextKind e = cc e
same_kind_is TextKind IntKind e = cc e
same_kind_is TextKind TextKind e = refl

same_kind_itself : (k : Kind) → same_kind k k ≡ true
same_kind_itself IntKind = refl
same_kind_itself TextKind = refl

null_is : (x : Operand) → faults.is_null x ≡ true → x ≡ Val Null
null_is (Col place column) e = cc e
null_is (Val Null) e = refl
null_is (Val (Int i)) e = cc e
null_is (Val (Text t)) e = cc e
null_is (Param i) e = cc e
null_is (Var i) e = cc e

module _ (p : Problem) where
  may_is : (kind own : Option Kind) (x : Operand) → kind_in p [] x ≡ own → may_stand kind own x ≡ true → MayStand p kind x
  may_is None own x o e = cc e
  may_is (Some k) None x o e = inl (null_is x e)
  may_is (Some k) (Some l) x o e =
      elim (or_cases (same_kind k l) (faults.is_null x) e) [
        | inl same ↦ inr (o ∙ ap Some (sym (same_kind_is k l same)))
        | inr null ↦ inl (null_is x null)
      ]

  may_said : (kind own : Option Kind) (x : Operand) → kind_in p [] x ≡ own → MayStand p kind x → may_stand kind own x ≡ true
  may_said None own x o h = absurd h
  may_said (Some k) None x o h =
      elim h [
        | inl null ↦ ap faults.is_null null
        | inr is ↦ let wrong : None ≡ Some k = sym o ∙ is in cc wrong
      ]
  may_said (Some k) (Some l) x o h =
      elim h [
        | inl null ↦ or_right (same_kind k l) (faults.is_null x) (ap faults.is_null null)
        | inr is ↦ or_left (same_kind k l) (faults.is_null x) (subst (λ m. same_kind k m ≡ true) (some_same k l (sym is ∙ o)) (same_kind_itself k))
      ]

  pub stands_is : (from : List ℕ) (head row : List Operand) → stands p.policy.schema (kinds_of p.policy.params) p.vars from head row ≡ true → Stands p from head row
  stands_is from [] [] e = tt
  stands_is from [] (y ∷ row) e = cc e
  stands_is from (x ∷ head) [] e = cc e
  stands_is from (x ∷ head) (y ∷ row) e =
      let h = and_parts _ _ e in
      (may_is (kind_in p from x) (kind_in p [] y) y refl h.0, stands_is from head row h.1)

  pub stands_said : (from : List ℕ) (head row : List Operand) → Stands p from head row → stands p.policy.schema (kinds_of p.policy.params) p.vars from head row ≡ true
  stands_said from [] [] h = refl
  stands_said from [] (y ∷ row) h = absurd h
  stands_said from (x ∷ head) [] h = absurd h
  stands_said from (x ∷ head) (y ∷ row) h = both _ _ (may_said (kind_in p from x) (kind_in p [] y) y refl h.0) (stands_said from head row h.1)

-- ---- atoms of a condition

pub numbers_equal : (n m : ℕ) → (n == m) ≡ true → n ≡ m
numbers_equal n m e = grind (arith, nat_tests)

equal_numbers : (n : ℕ) → (n == n) ≡ true
equal_numbers n = grind (arith, nat_tests)

same_is : (x y : Operand) → faults.same_operand x y ≡ true → x ≡ y
same_is (Col p k) (Col q l) e = let h = and_parts (p == q) (k == l) e in ap₂ Col (numbers_equal p q h.0) (numbers_equal k l h.1)
same_is (Col p k) (Val w) e = cc e
same_is (Col p k) (Param m) e = cc e
same_is (Col p k) (Var m) e = cc e
same_is (Val v) (Col q l) e = cc e
same_is (Val v) (Val w) e = ap Val ((value_decides v w).0 e)
same_is (Val v) (Param m) e = cc e
same_is (Val v) (Var m) e = cc e
same_is (Param n) (Col q l) e = cc e
same_is (Param n) (Val w) e = cc e
same_is (Param n) (Param m) e = ap Param (numbers_equal n m e)
same_is (Param n) (Var m) e = cc e
same_is (Var n) (Col q l) e = cc e
same_is (Var n) (Val w) e = cc e
same_is (Var n) (Param m) e = cc e
same_is (Var n) (Var m) e = ap Var (numbers_equal n m e)

same_itself : (x : Operand) → faults.same_operand x x ≡ true
same_itself (Col p k) = both (p == p) (k == k) (equal_numbers p) (equal_numbers k)
same_itself (Val v) = (value_decides v v).1 refl
same_itself (Param n) = equal_numbers n
same_itself (Var n) = equal_numbers n

agree_is : (k l : Kind) → faults.agree (Some k) (Some l) ≡ true → k ≡ l
agree_is IntKind IntKind e = refl
agree_is IntKind TextKind e = cc e
agree_is TextKind IntKind e = cc e
agree_is TextKind TextKind e = refl

agree_itself : (k : Kind) → faults.agree (Some k) (Some k) ≡ true
agree_itself IntKind = refl
agree_itself TextKind = refl

number_kind : (k : Kind) → faults.is_text (Some k) ≡ false → k ≡ IntKind
number_kind IntKind e = refl
number_kind TextKind e = cc e

module _ (s : Schema) (params vars : List Kind) where
  abbrev kind_at : Operand → Option Kind
  kind_at x = kind_of s params vars [] x

  not_null : (x : Operand) (k : Kind) → kind_at x ≡ Some k → faults.is_null x ≡ false
  not_null (Col place column) k e = refl
  not_null (Val Null) k e = cc e
  not_null (Val (Int i)) k e = refl
  not_null (Val (Text t)) k e = refl
  not_null (Param i) k e = refl
  not_null (Var i) k e = refl

  module _ (x y : Operand) (k l : Kind) (x_is : kind_at x ≡ Some k) (y_is : kind_at y ≡ Some l) where
    one_kind : faults.sides_agree s params vars [] x y ≡ true → l ≡ k
    one_kind e =
        let h = and_parts (not (faults.is_null x) && not (faults.is_null y)) _ e in
        let alike : faults.agree (Some k) (Some l) ≡ true = subst (λ o. faults.agree o (Some l) ≡ true) x_is (subst (λ o. faults.agree (kind_at x) o ≡ true) y_is h.1) in
        sym (agree_is k l alike)

    compared : (op : Op) → OpFits op k x y → faults.sides_agree s params vars [] x y ≡ true → AtomFits s params vars [] (record { op = op; left = x; right = y })
    compared op fits e = record { kind = k; left_is = x_is; right_is = y_is ∙ ap Some (one_kind e); op = fits }

    ordered : (not (faults.is_text (kind_at x)) && not (faults.is_text (kind_at y))) ≡ true → k ≡ IntKind
    ordered e = number_kind k (subst (λ o. faults.is_text o ≡ false) x_is (not_true _ (and_parts _ _ e).0))

    repeated : (op : Op) → (y ≡ x → OpFits op k x y) → (not (faults.is_null x) && faults.same_operand y x) ≡ true → AtomFits s params vars [] (record { op = op; left = x; right = y })
    repeated op fits e =
        let same : y ≡ x = same_is y x (and_parts _ _ e).1 in
        record { kind = k; left_is = x_is; right_is = ap kind_at same ∙ x_is; op = fits same }

    fits_by : (op : Op) → faults.atom_kinds s params vars [] op x y ≡ true → faults.atom_order s params vars [] (record { op = op; left = x; right = y }) ≡ true
        → AtomFits s params vars [] (record { op = op; left = x; right = y })
    fits_by Eq e o = compared Eq tt e
    fits_by Ne e o = compared Ne tt e
    fits_by Lt e o = compared Lt (ordered o) e
    fits_by Le e o = compared Le (ordered o) e
    fits_by IsNull e o = repeated IsNull (λ same. same) e
    fits_by NotNull e o = repeated NotNull (λ same. same) e

  pub assumed_is : (atom : Atom) → is_assumed s params vars atom ≡ true → AtomFits s params vars [] atom
  unfolding is_assumed
  assumed_is atom e =
      let a = and_parts _ _ e in
      let b = and_parts _ _ a.1 in
      let c = and_parts _ _ b.1 in
      let x = some_is (kind_at atom.left) a.0 in
      let y = some_is (kind_at atom.right) b.0 in
      fits_by atom.left atom.right x.0 y.0 x.1 y.1 atom.op c.0 c.1

  module _ (x y : Operand) (k : Kind) (x_is : kind_at x ≡ Some k) (y_is : kind_at y ≡ Some k) where
    sides : faults.sides_agree s params vars [] x y ≡ true
    sides = rw (not_null x k x_is, not_null y k y_is, x_is, y_is) (agree_itself k)

    again : y ≡ x → (not (faults.is_null x) && faults.same_operand y x) ≡ true
    again same = both _ _ (ap not (not_null x k x_is)) (subst (λ z. faults.same_operand y z ≡ true) same (same_itself y))

    kinds_by : (op : Op) → OpFits op k x y → faults.atom_kinds s params vars [] op x y ≡ true
    kinds_by Eq h = sides
    kinds_by Ne h = sides
    kinds_by Lt h = sides
    kinds_by Le h = sides
    kinds_by IsNull h = again h
    kinds_by NotNull h = again h

    numbers : k ≡ IntKind → (not (faults.is_text (kind_at x)) && not (faults.is_text (kind_at y))) ≡ true
    numbers is = rw (x_is, y_is, is) refl

    order_by : (op : Op) → OpFits op k x y → faults.atom_order s params vars [] (record { op = op; left = x; right = y }) ≡ true
    order_by Eq h = refl
    order_by Ne h = refl
    order_by Lt h = numbers h
    order_by Le h = numbers h
    order_by IsNull h = refl
    order_by NotNull h = refl

  pub assumed_said : (atom : Atom) → AtomFits s params vars [] atom → is_assumed s params vars atom ≡ true
  unfolding is_assumed
  assumed_said atom h =
      both _ _ (ap is_some h.left_is) (both _ _ (ap is_some h.right_is)
      (both _ _ (kinds_by atom.left atom.right h.kind h.left_is h.right_is atom.op h.op) (order_by atom.left atom.right h.kind h.left_is h.right_is atom.op h.op)))

-- ---- variables

below_decides : (p : Problem) (n : ℕ) → Decides (stand_below p n) ((k : ℕ) → k < n → Contains (operands_of_problem p) (Var k))
below_decides p n = Decides-below_and (λ k. in_problem k p) (λ k. Contains (operands_of_problem p) (Var k)) (stand_below p) (λ k. problem_decides k p) refl (λ m. refl) n

pub vars_is : (p : Problem) → vars_stand p ≡ true → EachVarStands p
unfolding vars_stand
vars_is p e = record { stands = (below_decides p (length p.vars)).0 e }

pub vars_said : (p : Problem) → EachVarStands p → vars_stand p ≡ true
unfolding vars_stand
vars_said p h = (below_decides p (length p.vars)).1 h.stands

pub told_stand : (p : Problem) (told : Bool) → (IsTrue told ↔ EachVarStands p) → told ≡ vars_stand p
told_stand p true h = sym (vars_said p (h.0 refl))
told_stand p false h = by (vars_stand p) refl
  where
    by : (b : Bool) → vars_stand p ≡ b → false ≡ b
    by true e = let wrong : IsTrue false = h.1 (vars_is p e) in cc wrong
    by false e = refl
