-- What is refused has the fault that it is refused by, and what is read has none.
use Rattle.std.proofs.Common.{◌≡◌, ℕ, ◌≤◌, Bool, true, false, not, ◌&&◌, ◌==◌, nat_le, nat_lt, count_by, List, [], ◌∷◌, ◌++◌, Option, Some, None, slice_get, option_and_then, Result, Ok, Err, refl, ap, subst, arith}
use Rattle.std.specs.List.{list_all, position}
use Rattle.std.specs.Str.{bytes_eq}
use Rattle.std.proofs.lemmas.Bool.Decides.{nat_tests}
use Rattle.ba_model.specs.Readings.{◌>>=◌, each, each_flat}
use Rattle.ba_model.specs.declared.policy.Parameter.{Parameter}
use Rattle.ba_model.specs.declared.query.Operand.{Operand}
use Rattle.ba_model.specs.declared.query.Operand.TheVariants.{Col, Val, Param}
use Rattle.ba_model.specs.declared.schema.Schema.{Schema}
use Rattle.ba_sql_syntax.specs.declared.written.Constant.{Constant}
use Rattle.ba_sql_syntax.specs.declared.written.Constant.TheVariants as constants
use Rattle.ba_sql_syntax.specs.declared.written.Heads.{Heads}
use Rattle.ba_sql_syntax.specs.declared.written.Heads.TheVariants as heads
use Rattle.ba_sql_syntax.specs.declared.written.Item.{Item}
use Rattle.ba_sql_syntax.specs.declared.written.Item.TheVariants as items
use Rattle.ba_sql_syntax.specs.declared.written.Named.{Named}
use Rattle.ba_sql_syntax.specs.declared.written.Node.{Node}
use Rattle.ba_sql_syntax.specs.declared.written.Node.TheVariants as nodes
use Rattle.ba_sql_syntax.specs.declared.written.Select.{Select}
use Rattle.ba_sql_syntax.specs.declared.written.Side.{Side}
use Rattle.ba_sql_syntax.specs.declared.written.Side.TheVariants as sides
use Rattle.ba_sql_syntax.specs.declared.written.Source.{Source}
use Rattle.ba_sql_syntax.specs.declared.written.Test.{Test}
use Rattle.ba_sql_syntax.specs.declared.written.Test.TheVariants as tests
use Rattle.ba_sql_query.specs.Errors.{lacks, rank}
use Rattle.ba_sql_query.specs.Names.{called, column_at, column_of, column_place, constant_of, has_column, meant, meant_by, numbered, only, operand_of, param_of, place_of, source_of, table_of}
use Rattle.ba_sql_query.specs.Resolve.{all_columns, constant_lacks, heads_lack, heads_of, item_lacks, item_of, lacks_over, names_lack, node_lacks, node_of, select_lacks, select_of, selects_of, side_lacks, source_columns, tables_of, test_lacks, test_of, text_lacks}
use Rattle.ba_sql_query.specs.declared.fault.ReadQueryFault.{ReadQueryFault}
use Rattle.ba_sql_query.specs.declared.fault.ReadQueryFault.TheVariants.{UnknownTable, UnknownColumn, Ambiguous, UnknownParam}
use Rattle.ba_sql_query.specs.declared.resolved.ResolvedNode.{ResolvedNode}
use Rattle.ba_sql_query.specs.declared.resolved.ResolvedNode.TheVariants as steps
use Rattle.ba_sql_query.specs.declared.resolved.ResolvedSelect.{ResolvedSelect}
use Rattle.ba_sql_query.specs.declared.resolved.ResolvedTest.TheVariants as resolved

-- a fault of names
pub record IsName (g : ReadQueryFault) : Type 0 where
  pub least : 3 ≤ rank g
  pub most : rank g ≤ 6

-- the test of lacks tells whether reading refuses
pub record Agrees {X : Type 0} (r : Result X ReadQueryFault) (l : ℕ → Bool) : Type 0 where
  pub ok : (x : X) → r ≡ Ok x → (n : ℕ) → l n ≡ true
  pub err : (g : ReadQueryFault) → r ≡ Err g → l (rank g) ≡ false
  pub name : (g : ReadQueryFault) → r ≡ Err g → IsName g

ok_err : {X : Type 0} {x : X} {g : ReadQueryFault} → ◌≡◌ {A = Result X ReadQueryFault} (Ok x) (Err g) → ⊥
ok_err e = cc

err_ok : {X : Type 0} {x : X} {g : ReadQueryFault} → ◌≡◌ {A = Result X ReadQueryFault} (Err g) (Ok x) → ⊥
err_ok e = cc

err_same : {X : Type 0} {f g : ReadQueryFault} → ◌≡◌ {A = Result X ReadQueryFault} (Err f) (Err g) → f ≡ g
err_same e = cc

equal : (n : ℕ) → not (n == n) ≡ false
equal n = grind (arith, nat_tests)

-- ---- combinations

atom_agrees : {X : Type 0} (r : Result X ReadQueryFault) → ((g : ReadQueryFault) → r ≡ Err g → IsName g) → Agrees r (λ n. lacks n r)
atom_agrees (Ok x) h = record { ok = λ y e n. refl; err = λ g e. absurd (ok_err e); name = h }
atom_agrees (Err f) h = record { ok = λ y e n. absurd (err_ok e); err = λ g e. subst (λ (k : ReadQueryFault). not (rank f == rank k) ≡ false) (err_same e) (equal (rank f)); name = h }

ok_agrees : {X : Type 0} (x : X) → Agrees (Ok x) (λ n. true)
ok_agrees x = record { ok = λ y e n. refl; err = λ g e. absurd (ok_err e); name = λ g e. absurd (ok_err e) }

then_agrees : {X Y : Type 0} (r : Result X ReadQueryFault) (f : X → Y) (l : ℕ → Bool) → Agrees r l → Agrees (r >>= λ x. Ok (f x)) l
then_agrees (Ok x) f l h = record { ok = λ y e. h.ok x refl; err = λ g e. absurd (ok_err e); name = λ g e. absurd (ok_err e) }
then_agrees (Err k) f l h = record {
  ok = λ y e. absurd (err_ok e);
  err = λ g e. h.err g (ap (λ (z : ReadQueryFault). Err z) (err_same e));
  name = λ g e. h.name g (ap (λ (z : ReadQueryFault). Err z) (err_same e));
}

and_true : (a b : Bool) → a ≡ true → b ≡ true → (a && b) ≡ true
and_true a b p q = rw (p, q) refl

and_false : (a b : Bool) → a ≡ false → (a && b) ≡ false
and_false a b p = rw p refl

and_later : (a b : Bool) → a ≡ true → b ≡ false → (a && b) ≡ false
and_later a b p q = rw (p, q) refl

both_agree : {X Y : Type 0} (r : Result X ReadQueryFault) (k : X → Result Y ReadQueryFault) (l m : ℕ → Bool) → Agrees r l → ((x : X) → Agrees (k x) m) → Agrees (r >>= k) (λ n. l n && m n)
both_agree (Ok x) k l m h g = record {
  ok = λ y e n. and_true (l n) (m n) (h.ok x refl n) ((g x).ok y e n);
  err = λ f e. and_later (l (rank f)) (m (rank f)) (h.ok x refl (rank f)) ((g x).err f e);
  name = λ f e. (g x).name f e;
}
both_agree (Err j) k l m h g = record {
  ok = λ y e n. absurd (err_ok e);
  err = λ f e. and_false (l (rank f)) (m (rank f)) (h.err f (ap (λ (z : ReadQueryFault). Err z) (err_same e)));
  name = λ f e. h.name f (ap (λ (z : ReadQueryFault). Err z) (err_same e));
}

each_agrees : {A B : Type 0} (f : A → Result B ReadQueryFault) (l : ℕ → A → Bool) → ((x : A) → Agrees (f x) (λ n. l n x)) → (xs : List A) → Agrees (each f xs) (λ n. list_all (l n) xs)
each_agrees f l h [] = ok_agrees []
each_agrees f l h (x ∷ xs) =
    both_agree (f x) (λ y. each f xs >>= λ ys. Ok (y ∷ ys)) (λ n. l n x) (λ n. list_all (l n) xs) (h x) (λ y. then_agrees (each f xs) (λ ys. y ∷ ys) (λ n. list_all (l n) xs) (each_agrees f l h xs))

flat_agrees : {A B : Type 0} (f : A → Result (List B) ReadQueryFault) (l : ℕ → A → Bool) → ((x : A) → Agrees (f x) (λ n. l n x)) → (xs : List A) → Agrees (each_flat f xs) (λ n. list_all (l n) xs)
flat_agrees f l h [] = ok_agrees []
flat_agrees f l h (x ∷ xs) =
    both_agree (f x) (λ y. each_flat f xs >>= λ ys. Ok (y ++ ys)) (λ n. l n x) (λ n. list_all (l n) xs) (h x) (λ y. then_agrees (each_flat f xs) (λ ys. y ++ ys) (λ n. list_all (l n) xs) (flat_agrees f l h xs))

-- ---- names

is_table : IsName UnknownTable
unfolding rank
is_table = record { least = omega arith; most = omega arith }

is_column : IsName UnknownColumn
unfolding rank
is_column = record { least = omega arith; most = omega arith }

is_ambiguous : IsName Ambiguous
unfolding rank
is_ambiguous = record { least = omega arith; most = omega arith }

is_param : IsName UnknownParam
unfolding rank
is_param = record { least = omega arith; most = omega arith }

numbered_name : (absent : ReadQueryFault) (o : Option ℕ) (g : ReadQueryFault) → IsName absent → numbered absent o ≡ Err g → IsName g
numbered_name absent None g h e = subst IsName (err_same e) h
numbered_name absent (Some n) g h e = at (nat_le n 0xffff_ffff) refl
  where
    at : (t : Bool) → nat_le n 0xffff_ffff ≡ t → IsName g
    at true q = absurd (ok_err (rw q at e))
    at false q = subst IsName (err_same (rw q at e)) h

only_name : {X : Type 0} (absent : ReadQueryFault) (p : X → Bool) (xs : List X) (g : ReadQueryFault) → IsName absent → only absent p xs ≡ Err g → IsName g
only_name absent p xs g h e = at (nat_lt 1 (count_by p xs)) refl
  where
    at : (t : Bool) → nat_lt 1 (count_by p xs) ≡ t → IsName g
    at true q = subst IsName (err_same (rw q at e)) is_ambiguous
    at false q = numbered_name absent (position p xs) g h (rw q at e)

bind_name : {X Y : Type 0} (r : Result X ReadQueryFault) (k : X → Result Y ReadQueryFault) (g : ReadQueryFault) → ((f : ReadQueryFault) → r ≡ Err f → IsName f) → ((x : X) → k x ≡ Err g → IsName g) → (r >>= k) ≡ Err g → IsName g
bind_name (Ok x) k g h l e = l x e
bind_name (Err f) k g h l e = h g (ap (λ (z : ReadQueryFault). Err z) (err_same e))

module _ (schema : Schema) (params : List Parameter) where
  table_name : (name : List ℕ) (g : ReadQueryFault) → table_of schema name ≡ Err g → IsName g
  unfolding table_of
  table_name name g e = numbered_name UnknownTable (position (λ table. bytes_eq table.name name) schema.tables) g is_table e

  abbrev as_param : ℕ → Result Operand ReadQueryFault
  as_param n = Ok (Param n)

  param_name : (name : List ℕ) (g : ReadQueryFault) → param_of params name ≡ Err g → IsName g
  unfolding param_of
  param_name name g e =
      bind_name (numbered UnknownParam (position (λ parameter. bytes_eq parameter.name name) params)) as_param g (λ f. numbered_name UnknownParam (position (λ parameter. bytes_eq parameter.name name) params) f is_param) (λ n k. absurd (ok_err k)) e

  source_name : (sources : List Source) (name : List ℕ) (g : ReadQueryFault) → source_of sources name ≡ Err g → IsName g
  unfolding source_of
  source_name sources name g e = only_name UnknownTable (λ source. bytes_eq (called source) name) sources g is_table e

  meant_name : (sources : List Source) (from : List ℕ) (qualifier : Option (List ℕ)) (column : List ℕ) (g : ReadQueryFault) → meant_by schema sources from qualifier column ≡ Err g → IsName g
  unfolding place_of
  meant_name sources from None column g e = only_name UnknownColumn (has_column schema column) from g is_column e
  meant_name sources from (Some q) column g e = source_name sources q g e

  abbrev as_column : ℕ → ℕ → Result Operand ReadQueryFault
  as_column place n = Ok (Col place n)

  at_name : (from : List ℕ) (name : List ℕ) (place : ℕ) (g : ReadQueryFault) → column_at schema from name place ≡ Err g → IsName g
  unfolding column_at
  at_name from name place g e =
      bind_name (numbered UnknownColumn (option_and_then (column_place schema name) (slice_get from place))) (as_column place) g
      (λ f. numbered_name UnknownColumn (option_and_then (column_place schema name) (slice_get from place)) f is_column) (λ n k. absurd (ok_err k)) e

  column_name : (sources : List Source) (from : List ℕ) (name : Named) (g : ReadQueryFault) → column_of schema sources from name ≡ Err g → IsName g
  unfolding column_of meant
  column_name sources from name g e =
      bind_name (meant schema sources from name) (column_at schema from name.column) g (meant_name sources from name.qualifier name.column) (λ place. at_name from name.column place g) e

  -- ---- what is read

  constant_agrees : (c : Constant) → Agrees (constant_of params c) (λ n. constant_lacks n params c)
  unfolding constant_of constant_lacks
  constant_agrees (constants.Value v) = ok_agrees (Val v)
  constant_agrees (constants.Param name) = atom_agrees (param_of params name) (param_name name)

  side_agrees : (sources : List Source) (from : List ℕ) (side : Side) → Agrees (operand_of schema params sources from side) (λ n. side_lacks n schema params sources from side)
  unfolding operand_of side_lacks
  side_agrees sources from (sides.Column name) = atom_agrees (column_of schema sources from name) (column_name sources from name)
  side_agrees sources from (sides.Constant c) = constant_agrees c

  test_agrees : (sources : List Source) (from : List ℕ) (t : Test) → Agrees (test_of schema params sources from t) (λ n. test_lacks n schema params sources from t)
  unfolding test_of test_lacks
  test_agrees sources from (tests.Compare op left right) =
      both_agree (operand_of schema params sources from left) (λ x. operand_of schema params sources from right >>= λ y. Ok (resolved.One (record { op = op; left = x; right = y })))
      (λ n. side_lacks n schema params sources from left) (λ n. side_lacks n schema params sources from right) (side_agrees sources from left)
      (λ x. then_agrees (operand_of schema params sources from right) (λ y. resolved.One (record { op = op; left = x; right = y })) (λ n. side_lacks n schema params sources from right) (side_agrees sources from right))
  test_agrees sources from (tests.Among side among) =
      both_agree (operand_of schema params sources from side) (λ x. each (constant_of params) among >>= λ ys. Ok (resolved.Among x ys))
      (λ n. side_lacks n schema params sources from side) (λ n. list_all (constant_lacks n params) among) (side_agrees sources from side)
      (λ x. then_agrees (each (constant_of params) among) (λ ys. resolved.Among x ys) (λ n. list_all (constant_lacks n params) among) (each_agrees (constant_of params) (λ n c. constant_lacks n params c) constant_agrees among))
  test_agrees sources from (tests.Null op side) =
      then_agrees (operand_of schema params sources from side) (λ x. resolved.One (record { op = op; left = x; right = x })) (λ n. side_lacks n schema params sources from side) (side_agrees sources from side)

  node_agrees : (sources : List Source) (from : List ℕ) (n : Node) → Agrees (node_of schema params sources from n) (λ k. node_lacks k schema params sources from n)
  unfolding node_of node_lacks
  node_agrees sources from (nodes.Test t) = then_agrees (test_of schema params sources from t) (λ x. steps.Test x) (λ n. test_lacks n schema params sources from t) (test_agrees sources from t)
  node_agrees sources from nodes.And = ok_agrees steps.And
  node_agrees sources from nodes.Or = ok_agrees steps.Or

  item_agrees : (sources : List Source) (from : List ℕ) (item : Item) → Agrees (item_of schema params sources from item) (λ n. item_lacks n schema params sources from item)
  unfolding item_of item_lacks
  item_agrees sources from (items.AllOf name) =
      then_agrees (source_of sources name) (source_columns schema from) (λ n. lacks n (source_of sources name)) (atom_agrees (source_of sources name) (source_name sources name))
  item_agrees sources from (items.One side) =
      then_agrees (operand_of schema params sources from side) (λ x. x ∷ []) (λ n. side_lacks n schema params sources from side) (side_agrees sources from side)

  heads_agree : (sources : List Source) (from : List ℕ) (hs : Heads) → Agrees (heads_of schema params sources from hs) (λ n. heads_lack n schema params sources from hs)
  unfolding heads_of heads_lack
  heads_agree sources from heads.All = ok_agrees (all_columns schema from)
  heads_agree sources from (heads.Items is) = flat_agrees (item_of schema params sources from) (λ n item. item_lacks n schema params sources from item) (item_agrees sources from) is

  each_name : {A B : Type 0} (f : A → Result B ReadQueryFault) → ((x : A) (g : ReadQueryFault) → f x ≡ Err g → IsName g) → (xs : List A) (g : ReadQueryFault) → each f xs ≡ Err g → IsName g
  each_name f h xs g e = (each_agrees f (λ n x. lacks n (f x)) (λ x. atom_agrees (f x) (h x)) xs).name g e

  tables_name : (sources : List Source) (g : ReadQueryFault) → tables_of schema sources ≡ Err g → IsName g
  unfolding tables_of
  tables_name [] g e = subst IsName (err_same e) is_table
  tables_name (s ∷ ss) g e = each_name (λ source. table_of schema source.table) (λ source. table_name source.table) (s ∷ ss) g e

  abbrev select_with : List ℕ → List Operand → List ResolvedNode → ResolvedSelect
  select_with from head condition = record { from = from; head = head; condition = condition }

  abbrev select_rest : Select → List ℕ → Result ResolvedSelect ReadQueryFault
  select_rest select from = heads_of schema params select.sources from select.heads >>= λ head. (each (node_of schema params select.sources from) select.condition >>= λ condition. Ok (select_with from head condition))

  rest_agrees : (select : Select) (from : List ℕ) → Agrees (select_rest select from) (λ n. names_lack n schema params select from)
  rest_agrees select from =
      both_agree (heads_of schema params select.sources from select.heads) (λ head. each (node_of schema params select.sources from) select.condition >>= λ condition. Ok (select_with from head condition))
      (λ n. heads_lack n schema params select.sources from select.heads) (λ n. list_all (node_lacks n schema params select.sources from) select.condition) (heads_agree select.sources from select.heads)
      (λ head. then_agrees (each (node_of schema params select.sources from) select.condition) (select_with from head) (λ n. list_all (node_lacks n schema params select.sources from) select.condition)
      (each_agrees (node_of schema params select.sources from) (λ n node. node_lacks n schema params select.sources from node) (node_agrees select.sources from) select.condition))

  over_agrees : (select : Select) (r : Result (List ℕ) ReadQueryFault) → ((g : ReadQueryFault) → r ≡ Err g → IsName g) → Agrees (r >>= select_rest select) (λ n. lacks_over n schema params select r)
  over_agrees select (Ok from) h = rest_agrees select from
  over_agrees select (Err f) h = record { ok = λ y e n. absurd (err_ok e); err = λ g e. subst (λ (k : ReadQueryFault). not (rank f == rank k) ≡ false) (err_same e) (equal (rank f)); name = λ g e. h g (ap (λ (z : ReadQueryFault). Err z) (err_same e)) }

  select_agrees : (select : Select) → Agrees (select_of schema params select) (λ n. select_lacks n schema params select)
  unfolding select_of select_lacks
  select_agrees select = over_agrees select (tables_of schema select.sources) (tables_name select.sources)

  pub selects_agree : (selects : List Select) → Agrees (selects_of schema params selects) (λ n. text_lacks n schema params selects)
  selects_agree selects = each_agrees (select_of schema params) (λ n select. select_lacks n schema params select) select_agrees selects
