-- What is resolved is there: tables, columns and parameters.
use Rattle.std.proofs.Common.{◌≡◌, ℕ, zero, suc, ◌+◌, ◌<◌, min, Bool, true, false, not, ◌&&◌, List, [], ◌∷◌, length, map, slice_get, Option, Some, None, is_some, option_and_then, option_map, Result, Ok, Err, refl, ap, subst, ◌∙◌, arith}
use Rattle.std.specs.List.{flat_map, list_all, position, range_with_len}
use Rattle.std.specs.Str.{bytes_eq}
use Rattle.std.proofs.lemmas.List.{length-map}
use Rattle.std.proofs.lemmas.List.Folds.{list_all-append}
use Rattle.ba_model.specs.Fit.{column_kind, kinds_of}
use Rattle.ba_model.specs.QueryFaults as faults
use Rattle.ba_model.specs.Readings.{◌>>=◌, each}
use Rattle.ba_model.specs.SchemaFaults.{columns_of, columns_or as table_columns}
use Rattle.ba_model.specs.declared.policy.Parameter.{Parameter}
use Rattle.ba_model.specs.declared.query.Atom.{Atom}
use Rattle.ba_model.specs.declared.query.Op.{Op}
use Rattle.ba_model.specs.declared.query.Operand.{Operand}
use Rattle.ba_model.specs.declared.query.Operand.TheVariants.{Col, Val, Param}
use Rattle.ba_model.specs.declared.schema.Column.{Column}
use Rattle.ba_model.specs.declared.schema.Schema.{Schema}
use Rattle.ba_model.specs.declared.schema.Table.{Table}
use Rattle.ba_sql_syntax.specs.declared.written.Constant.{Constant}
use Rattle.ba_sql_syntax.specs.declared.written.Constant.TheVariants as constants
use Rattle.ba_sql_syntax.specs.declared.written.Heads.{Heads}
use Rattle.ba_sql_syntax.specs.declared.written.Heads.TheVariants as heads
use Rattle.ba_sql_syntax.specs.declared.written.Item.{Item}
use Rattle.ba_sql_syntax.specs.declared.written.Item.TheVariants as items
use Rattle.ba_sql_syntax.specs.declared.written.Named.{Named}
use Rattle.ba_sql_syntax.specs.declared.written.Node.{Node}
use Rattle.ba_sql_syntax.specs.declared.written.Node.TheVariants as nodes
use Rattle.ba_sql_syntax.specs.declared.written.QueryText.{QueryText}
use Rattle.ba_sql_syntax.specs.declared.written.Select.{Select}
use Rattle.ba_sql_syntax.specs.declared.written.Side.{Side}
use Rattle.ba_sql_syntax.specs.declared.written.Side.TheVariants as sides
use Rattle.ba_sql_syntax.specs.declared.written.Source.{Source}
use Rattle.ba_sql_syntax.specs.declared.written.Test.{Test}
use Rattle.ba_sql_syntax.specs.declared.written.Test.TheVariants as tests
use Rattle.ba_sql_query.specs.Names.{column_at, column_of, column_place, constant_of, meant, numbered, operand_of, param_of, source_of, table_of}
use Rattle.ba_sql_query.specs.Parts.{equation, node_atoms, test_atoms, written_part}
use Rattle.ba_sql_query.specs.Resolve.{all_columns, columns_or, first_of_names, heads_of, item_of, names_of, node_of, numbers, or_first, select_of, selects_of, source_columns, tables_of, test_of}
use Rattle.ba_sql_query.specs.Resolved.{AreResolved}
use Rattle.ba_sql_query.specs.declared.fault.ReadQueryFault.{ReadQueryFault}
use Rattle.ba_sql_query.specs.declared.fault.ReadQueryFault.TheVariants.{UnknownTable, UnknownColumn, UnknownParam}
use Rattle.ba_sql_query.specs.declared.resolved.ResolvedNode.{ResolvedNode}
use Rattle.ba_sql_query.specs.declared.resolved.ResolvedNode.TheVariants as steps
use Rattle.ba_sql_query.specs.declared.resolved.ResolvedSelect.{ResolvedSelect}
use Rattle.ba_sql_query.specs.declared.resolved.ResolvedTest.{ResolvedTest}
use Rattle.ba_sql_query.specs.declared.resolved.ResolvedTest.TheVariants as resolved
use Rattle.ba_sql_query.proofs.ReadLemmas.{bind_ok, each_all, each_some, err_ok, flat_all, numbered_is, ok_same, position_below, there_below}
use Rattle.ba_sql_query.proofs.TransferLemmas.{all_flat}

pub and_both : (a b : Bool) → a ≡ true → b ≡ true → (a && b) ≡ true
and_both a b p q = rw (p, q) refl

pub and_left : (a b : Bool) → (a && b) ≡ true → a ≡ true
and_left true b e = refl
and_left false b e = cc

pub and_right : (a b : Bool) → (a && b) ≡ true → b ≡ true
and_right true b e = e
and_right false b e = cc

pub all_weaker : {X : Type 0} (p q : X → Bool) → ((x : X) → p x ≡ true → q x ≡ true) → (xs : List X) → list_all p xs ≡ true → list_all q xs ≡ true
all_weaker p q h [] e = refl
all_weaker p q h (x ∷ xs) e = and_both (q x) (list_all q xs) (h x (and_left (p x) (list_all p xs) e)) (all_weaker p q h xs (and_right (p x) (list_all p xs) e))

module _ (schema : Schema) (params : List Parameter) where
  -- the operand's column and parameter are there
  abbrev good : List ℕ → Operand → Bool
  good from x = faults.column_there schema from x && faults.named (kinds_of params) [] x

  abbrev good_atom : List ℕ → Atom → Bool
  good_atom from atom = good from atom.left && good from atom.right

  -- ---- parameters

  abbrev as_param : ℕ → Result Operand ReadQueryFault
  as_param n = Ok (Param n)

  param_good : (from : List ℕ) (name : List ℕ) (x : Operand) → param_of params name ≡ Ok x → good from x ≡ true
  unfolding param_of
  param_good from name x e =
      let p : Parameter → Bool = λ parameter. bytes_eq parameter.name name in
      let a = bind_ok (numbered UnknownParam (position (λ parameter. bytes_eq parameter.name name) params)) as_param x e in
      let place = numbered_is UnknownParam (position (λ parameter. bytes_eq parameter.name name) params) a.0 a.1 in
      let below = position_below (λ parameter. bytes_eq parameter.name name) params a.0 place in
      let size = length-map params (λ parameter. parameter.kind) in
      subst (λ (y : Operand). good from y ≡ true) (ok_same (Param a.0) x a.2) (there_below (kinds_of params) a.0 (omega (arith, below, size)))

  -- ---- columns

  kind_there : (o : Option Table) (n : ℕ) → n < length (table_columns o) → is_some (option_and_then (λ it. option_map (λ found. found.kind) (slice_get it.columns n)) o) ≡ true
  kind_there None n h = absurd (omega (arith, h))
  kind_there (Some table) n h = some_kind (slice_get table.columns n) (there_below table.columns n h)
    where
      some_kind : (o : Option Column) → is_some o ≡ true → is_some (option_map (λ found. found.kind) o) ≡ true
      some_kind None e = cc
      some_kind (Some c) e = refl

  column_good : (from : List ℕ) (place table n : ℕ) → slice_get from place ≡ Some table → n < length (columns_of schema.tables table) → good from (Col place n) ≡ true
  column_good from place table n e h =
      and_both (faults.column_there schema from (Col place n)) true (ap (λ (o : Option ℕ). is_some (option_and_then (λ t. column_kind schema t n) o)) e ∙ kind_there (slice_get schema.tables table) n h) refl

  found_at : (name : List ℕ) (o : Option ℕ) (n : ℕ) → option_and_then (column_place schema name) o ≡ Some n → (table : ℕ) × (o ≡ Some table) × (n < length (columns_of schema.tables table))
  found_at name None n e = cc
  found_at name (Some table) n e = (table, refl, position_below (λ column. bytes_eq column.name name) (columns_of schema.tables table) n e)

  at_good : (from : List ℕ) (name : List ℕ) (place : ℕ) (x : Operand) → column_at schema from name place ≡ Ok x → good from x ≡ true
  unfolding column_at
  at_good from name place x e =
      let column : ℕ → Result Operand ReadQueryFault = λ n. Ok (Col place n) in
      let a = bind_ok (numbered UnknownColumn (option_and_then (column_place schema name) (slice_get from place))) (λ n. Ok (Col place n)) x e in
      let f = found_at name (slice_get from place) a.0 (numbered_is UnknownColumn (option_and_then (column_place schema name) (slice_get from place)) a.0 a.1) in
      subst (λ (y : Operand). good from y ≡ true) (ok_same (Col place a.0) x a.2) (column_good from place f.0 a.0 f.1 f.2)

  named_good : (sources : List Source) (from : List ℕ) (name : Named) (x : Operand) → column_of schema sources from name ≡ Ok x → good from x ≡ true
  unfolding column_of
  named_good sources from name x e =
      let a = bind_ok (meant schema sources from name) (column_at schema from name.column) x e in
      at_good from name.column a.0 x a.2

  -- ---- operands

  constant_good : (from : List ℕ) (c : Constant) (x : Operand) → constant_of params c ≡ Ok x → good from x ≡ true
  unfolding constant_of
  constant_good from (constants.Value v) x e = subst (λ (y : Operand). good from y ≡ true) (ok_same (Val v) x e) refl
  constant_good from (constants.Param name) x e = param_good from name x e

  operand_good : (sources : List Source) (from : List ℕ) (side : Side) (x : Operand) → operand_of schema params sources from side ≡ Ok x → good from x ≡ true
  unfolding operand_of
  operand_good sources from (sides.Column name) x e = named_good sources from name x e
  operand_good sources from (sides.Constant c) x e = constant_good from c x e

  -- ---- what is put out

  all_range : (p : Operand → Bool) (f : ℕ → Operand) (a n : ℕ) → ((k : ℕ) → k < a + n → p (f k) ≡ true) → list_all p (map f (range_with_len a n)) ≡ true
  all_range p f a zero h = refl
  all_range p f a (suc n) h =
      and_both (p (f a)) (list_all p (map f (range_with_len (a + 1) n))) (h a (omega arith)) (all_range p f (a + 1) n (λ k lt. h k (omega (arith, lt))))

  source_good : (from : List ℕ) (place : ℕ) (o : Option ℕ) → slice_get from place ≡ o → list_all (good from) (map (Col place) (numbers (length (columns_or schema o)))) ≡ true
  source_good from place None e = refl
  source_good from place (Some table) e =
      all_range (good from) (Col place) 0 (min (length (columns_of schema.tables table)) 0xffff_ffff) (λ k lt. column_good from place table k e (omega (arith, lt)))

  sources_good : (from : List ℕ) (place : ℕ) → list_all (good from) (source_columns schema from place) ≡ true
  sources_good from place = source_good from place (slice_get from place) refl

  all_good : (from places : List ℕ) → list_all (good from) (flat_map (source_columns schema from) places) ≡ true
  all_good from [] = refl
  all_good from (place ∷ places) =
      list_all-append (good from) (source_columns schema from place) (flat_map (source_columns schema from) places) ∙ and_both (list_all (good from) (source_columns schema from place)) (list_all (good from) (flat_map (source_columns schema from) places)) (sources_good from place) (all_good from places)

  abbrev one_operand : Operand → Result (List Operand) ReadQueryFault
  one_operand x = Ok (x ∷ [])

  abbrev columns_there : List ℕ → ℕ → Result (List Operand) ReadQueryFault
  columns_there from place = Ok (source_columns schema from place)

  item_good : (sources : List Source) (from : List ℕ) (item : Item) (xs : List Operand) → item_of schema params sources from item ≡ Ok xs → list_all (good from) xs ≡ true
  unfolding item_of
  item_good sources from (items.AllOf name) xs e =
      let a = bind_ok (source_of sources name) (columns_there from) xs e in
      subst (λ (ys : List Operand). list_all (good from) ys ≡ true) (ok_same (source_columns schema from a.0) xs a.2) (sources_good from a.0)
  item_good sources from (items.One side) xs e =
      let a = bind_ok (operand_of schema params sources from side) one_operand xs e in
      subst (λ (ys : List Operand). list_all (good from) ys ≡ true) (ok_same (a.0 ∷ []) xs a.2) (and_both (good from a.0) true (operand_good sources from side a.0 a.1) refl)

  head_good : (sources : List Source) (from : List ℕ) (hs : Heads) (xs : List Operand) → heads_of schema params sources from hs ≡ Ok xs → list_all (good from) xs ≡ true
  unfolding heads_of
  head_good sources from heads.All xs e = subst (λ (ys : List Operand). list_all (good from) ys ≡ true) (ok_same (all_columns schema from) xs e) (all_good from (numbers (length from)))
  head_good sources from (heads.Items is) xs e = flat_all (item_of schema params sources from) (good from) (item_good sources from) is xs e

  -- ---- conditions

  abbrev compare_with : Op → Operand → Operand → Result ResolvedTest ReadQueryFault
  compare_with op x y = Ok (resolved.One (record { op = op; left = x; right = y }))

  abbrev compare_right : List Source → List ℕ → Op → Side → Operand → Result ResolvedTest ReadQueryFault
  compare_right sources from op right x = operand_of schema params sources from right >>= compare_with op x

  abbrev among_with : Operand → List Operand → Result ResolvedTest ReadQueryFault
  among_with x ys = Ok (resolved.Among x ys)

  abbrev among_these : List Constant → Operand → Result ResolvedTest ReadQueryFault
  among_these among x = each (constant_of params) among >>= among_with x

  abbrev null_with : Op → Operand → Result ResolvedTest ReadQueryFault
  null_with op x = Ok (resolved.One (record { op = op; left = x; right = x }))

  equations_good : (from : List ℕ) (x : Operand) (ys : List Operand) → good from x ≡ true → list_all (good from) ys ≡ true → list_all (good_atom from) (map (equation x) ys) ≡ true
  equations_good from x [] h g = refl
  equations_good from x (y ∷ ys) h g =
      and_both (good_atom from (equation x y)) (list_all (good_atom from) (map (equation x) ys)) (and_both (good from x) (good from y) h (and_left (good from y) (list_all (good from) ys) g))
      (equations_good from x ys h (and_right (good from y) (list_all (good from) ys) g))

  test_good : (sources : List Source) (from : List ℕ) (t : Test) (r : ResolvedTest) → test_of schema params sources from t ≡ Ok r → list_all (good_atom from) (test_atoms r) ≡ true
  unfolding test_of
  test_good sources from (tests.Compare op left right) r e =
      let a = bind_ok (operand_of schema params sources from left) (compare_right sources from op right) r e in
      let b = bind_ok (operand_of schema params sources from right) (compare_with op a.0) r a.2 in
      let both = and_both (good from a.0) (good from b.0) (operand_good sources from left a.0 a.1) (operand_good sources from right b.0 b.1) in
      subst (λ (q : ResolvedTest). list_all (good_atom from) (test_atoms q) ≡ true) (ok_same (resolved.One (record { op = op; left = a.0; right = b.0 })) r b.2) (and_both (good from a.0 && good from b.0) true both refl)
  test_good sources from (tests.Among side among) r e =
      let a = bind_ok (operand_of schema params sources from side) (among_these among) r e in
      let b = bind_ok (each (constant_of params) among) (among_with a.0) r a.2 in
      let ys = each_all (constant_of params) (good from) (constant_good from) among b.0 b.1 in
      subst (λ (q : ResolvedTest). list_all (good_atom from) (test_atoms q) ≡ true) (ok_same (resolved.Among a.0 b.0) r b.2) (equations_good from a.0 b.0 (operand_good sources from side a.0 a.1) ys)
  test_good sources from (tests.Null op side) r e =
      let a = bind_ok (operand_of schema params sources from side) (null_with op) r e in
      let one = operand_good sources from side a.0 a.1 in
      let both = and_both (good from a.0) (good from a.0) one one in
      subst (λ (q : ResolvedTest). list_all (good_atom from) (test_atoms q) ≡ true) (ok_same (resolved.One (record { op = op; left = a.0; right = a.0 })) r a.2) (and_both (good from a.0 && good from a.0) true both refl)

  abbrev as_node : ResolvedTest → Result ResolvedNode ReadQueryFault
  as_node t = Ok (steps.Test t)

  abbrev node_is_good : List ℕ → ResolvedNode → Bool
  node_is_good from n = list_all (good_atom from) (node_atoms n)

  node_good : (sources : List Source) (from : List ℕ) (n : Node) (r : ResolvedNode) → node_of schema params sources from n ≡ Ok r → node_is_good from r ≡ true
  unfolding node_of
  node_good sources from (nodes.Test t) r e =
      let a = bind_ok (test_of schema params sources from t) as_node r e in
      subst (λ (q : ResolvedNode). node_is_good from q ≡ true) (ok_same (steps.Test a.0) r a.2) (test_good sources from t a.0 a.1)
  node_good sources from nodes.And r e = subst (λ (q : ResolvedNode). node_is_good from q ≡ true) (ok_same steps.And r e) refl
  node_good sources from nodes.Or r e = subst (λ (q : ResolvedNode). node_is_good from q ≡ true) (ok_same steps.Or r e) refl

  -- ---- selects

  table_good : (source : Source) (n : ℕ) → table_of schema source.table ≡ Ok n → is_some (slice_get schema.tables n) ≡ true
  unfolding table_of
  table_good source n e =
      there_below schema.tables n (position_below (λ table. bytes_eq table.name source.table) schema.tables n (numbered_is UnknownTable (position (λ table. bytes_eq table.name source.table) schema.tables) n e))

  tables_good : (sources : List Source) (from : List ℕ) → tables_of schema sources ≡ Ok from → (not (faults.is_empty from) && list_all (λ t. is_some (slice_get schema.tables t)) from) ≡ true
  unfolding tables_of
  tables_good [] from e = absurd (err_ok from e)
  tables_good (s ∷ ss) from e =
      and_both (not (faults.is_empty from)) (list_all (λ t. is_some (slice_get schema.tables t)) from) (each_some (λ source. table_of schema source.table) s ss from e) (each_all (λ source. table_of schema source.table) (λ t. is_some (slice_get schema.tables t)) table_good (s ∷ ss) from e)

  pub record IsResolved (select : ResolvedSelect) : Type 0 where
    pub tables : faults.tables_there schema (written_part select) ≡ true
    pub atoms : list_all (good_atom select.from) (flat_map node_atoms select.condition) ≡ true
    pub head : list_all (good select.from) select.head ≡ true

  abbrev select_with : List ℕ → List Operand → List ResolvedNode → Result ResolvedSelect ReadQueryFault
  select_with from head condition = Ok (record { from = from; head = head; condition = condition })

  abbrev select_condition : Select → List ℕ → List Operand → Result ResolvedSelect ReadQueryFault
  select_condition select from head = each (node_of schema params select.sources from) select.condition >>= select_with from head

  abbrev select_head : Select → List ℕ → Result ResolvedSelect ReadQueryFault
  select_head select from = heads_of schema params select.sources from select.heads >>= select_condition select from

  select_good : (select : Select) (r : ResolvedSelect) → select_of schema params select ≡ Ok r → IsResolved r
  unfolding select_of
  select_good select r e =
      let a = bind_ok (tables_of schema select.sources) (select_head select) r e in
      let b = bind_ok (heads_of schema params select.sources a.0 select.heads) (select_condition select a.0) r a.2 in
      let c = bind_ok (each (node_of schema params select.sources a.0) select.condition) (select_with a.0 b.0) r b.2 in
      subst IsResolved (ok_same (record { from = a.0; head = b.0; condition = c.0 }) r c.2) (record {
        tables = tables_good select.sources a.0 a.1;
        atoms = all_flat (good_atom a.0) node_atoms c.0 ∙ each_all (node_of schema params select.sources a.0) (node_is_good a.0) (node_good select.sources a.0) select.condition c.0 c.1;
        head = head_good select.sources a.0 select.heads b.0 b.1;
      })

  atom_columns : (from : List ℕ) (atom : Atom) → good_atom from atom ≡ true → faults.atom_columns schema from atom ≡ true
  atom_columns from atom e =
      and_both (faults.column_there schema from atom.left) (faults.column_there schema from atom.right)
      (and_left (faults.column_there schema from atom.left) (faults.named (kinds_of params) [] atom.left) (and_left (good from atom.left) (good from atom.right) e))
      (and_left (faults.column_there schema from atom.right) (faults.named (kinds_of params) [] atom.right) (and_right (good from atom.left) (good from atom.right) e))

  atom_named : (from : List ℕ) (atom : Atom) → good_atom from atom ≡ true → faults.atom_named (kinds_of params) [] atom ≡ true
  atom_named from atom e =
      and_both (faults.named (kinds_of params) [] atom.left) (faults.named (kinds_of params) [] atom.right)
      (and_right (faults.column_there schema from atom.left) (faults.named (kinds_of params) [] atom.left) (and_left (good from atom.left) (good from atom.right) e))
      (and_right (faults.column_there schema from atom.right) (faults.named (kinds_of params) [] atom.right) (and_right (good from atom.left) (good from atom.right) e))

  select_columns : (s : ResolvedSelect) → IsResolved s → faults.columns_there schema (written_part s) ≡ true
  select_columns s h =
      and_both (list_all (faults.atom_columns schema s.from) (flat_map node_atoms s.condition)) (list_all (faults.column_there schema s.from) s.head)
      (all_weaker (good_atom s.from) (faults.atom_columns schema s.from) (atom_columns s.from) (flat_map node_atoms s.condition) h.atoms)
      (all_weaker (good s.from) (faults.column_there schema s.from) (λ x. and_left (faults.column_there schema s.from x) (faults.named (kinds_of params) [] x)) s.head h.head)

  select_named : (s : ResolvedSelect) → IsResolved s → faults.all_named (kinds_of params) [] (written_part s) ≡ true
  select_named s h =
      and_both (list_all (faults.atom_named (kinds_of params) []) (flat_map node_atoms s.condition)) (list_all (faults.named (kinds_of params) []) s.head)
      (all_weaker (good_atom s.from) (faults.atom_named (kinds_of params) []) (atom_named s.from) (flat_map node_atoms s.condition) h.atoms)
      (all_weaker (good s.from) (faults.named (kinds_of params) []) (λ x. and_right (faults.column_there schema s.from x) (faults.named (kinds_of params) [] x)) s.head h.head)

  pub selects_good : (selects : List Select) (rs : List ResolvedSelect) → selects_of schema params selects ≡ Ok rs → AreResolved schema params rs
  selects_good selects rs e = record {
    tables = each_all (select_of schema params) (λ s. faults.tables_there schema (written_part s)) (λ s r h. (select_good s r h).tables) selects rs e;
    columns = each_all (select_of schema params) (λ s. faults.columns_there schema (written_part s)) (λ s r h. select_columns r (select_good s r h)) selects rs e;
    named = each_all (select_of schema params) (λ s. faults.all_named (kinds_of params) [] (written_part s)) (λ s r h. select_named r (select_good s r h)) selects rs e;
  }

  first_ok : (r : Result (List ResolvedSelect) ReadQueryFault) (f : ReadQueryFault) (rs : List ResolvedSelect) → or_first r f ≡ Ok rs → r ≡ Ok rs
  first_ok (Ok xs) f rs e = e
  first_ok (Err g) f rs e = absurd (err_ok rs e)

  pub names_selects : (text : QueryText) (rs : List ResolvedSelect) → names_of schema params text ≡ Ok rs → selects_of schema params text.selects ≡ Ok rs
  unfolding names_of
  names_selects text rs e = first_ok (selects_of schema params text.selects) (first_of_names schema params text.selects) rs e

  pub names_good : (text : QueryText) (rs : List ResolvedSelect) → names_of schema params text ≡ Ok rs → AreResolved schema params rs
  names_good text rs e = selects_good text.selects rs (names_selects text rs e)
