-- Names by the functions, and in SQL's terms.
use Rattle.std.proofs.Common.{◌≡◌, ◌≢◌, ℕ, List, [], ◌∷◌, ◌++◌, slice_get, Option, Some, None, option_and_then, Result, Ok, refl, sym, ap, subst, ◌∙◌}
use Rattle.std.specs.Bool.{Decides}
use Rattle.std.specs.List.{AllZip, flat_map, position}
use Rattle.std.specs.Str.{bytes_eq}
use Rattle.std.proofs.lemmas.Slice.Eq.{bytes_eq-Decides}
use Rattle.ba_model.specs.Readings.{◌>>=◌, each, each_flat}
use Rattle.ba_model.specs.SchemaFaults.{columns_of}
use Rattle.ba_model.specs.declared.policy.Parameter.{Parameter}
use Rattle.ba_model.specs.declared.query.Op.{Op}
use Rattle.ba_model.specs.declared.query.Operand.{Operand}
use Rattle.ba_model.specs.declared.query.Operand.TheVariants.{Col, Val, Param}
use Rattle.ba_model.specs.declared.schema.Schema.{Schema}
use Rattle.ba_sql_syntax.specs.declared.written.Constant.{Constant}
use Rattle.ba_sql_syntax.specs.declared.written.Constant.TheVariants as constants
use Rattle.ba_sql_syntax.specs.declared.written.Heads.{Heads}
use Rattle.ba_sql_syntax.specs.declared.written.Heads.TheVariants as heads
use Rattle.ba_sql_syntax.specs.declared.written.Item.{Item}
use Rattle.ba_sql_syntax.specs.declared.written.Item.TheVariants as items
use Rattle.ba_sql_syntax.specs.declared.written.Named.{Named}
use Rattle.ba_sql_syntax.specs.declared.written.Node.{Node}
use Rattle.ba_sql_syntax.specs.declared.written.Node.TheVariants as nodes
use Rattle.ba_sql_syntax.specs.declared.written.Select.{Select}
use Rattle.ba_sql_syntax.specs.declared.written.Side.{Side}
use Rattle.ba_sql_syntax.specs.declared.written.Side.TheVariants as sides
use Rattle.ba_sql_syntax.specs.declared.written.Source.{Source}
use Rattle.ba_sql_syntax.specs.declared.written.Test.{Test}
use Rattle.ba_sql_syntax.specs.declared.written.Test.TheVariants as tests
use Rattle.ba_sql_query.specs.Names.{called, column_at, column_of, column_place, constant_of, has_column, meant, meant_by, numbered, operand_of, param_of, place_of, source_of, table_of}
use Rattle.ba_sql_query.specs.Reads.{HasColumn, HasParam, HasSome, HasTable, IsCalled, IsColumn, IsConstant, IsHead, IsItem, IsMeant, IsNode, IsOperand, IsSelectOf, IsTest}
use Rattle.ba_sql_query.specs.Resolve.{all_columns, heads_of, item_of, node_of, select_of, source_columns, tables_of, test_of}
use Rattle.ba_sql_query.specs.declared.fault.ReadQueryFault.{ReadQueryFault}
use Rattle.ba_sql_query.specs.declared.fault.ReadQueryFault.TheVariants.{UnknownTable, UnknownColumn, UnknownParam}
use Rattle.ba_sql_query.specs.declared.resolved.ResolvedNode.{ResolvedNode}
use Rattle.ba_sql_query.specs.declared.resolved.ResolvedNode.TheVariants as steps
use Rattle.ba_sql_query.specs.declared.resolved.ResolvedSelect.{ResolvedSelect}
use Rattle.ba_sql_query.specs.declared.resolved.ResolvedTest.{ResolvedTest}
use Rattle.ba_sql_query.specs.declared.resolved.ResolvedTest.TheVariants as resolved
use Rattle.ba_sql_query.proofs.PlaceLemmas.{first_complete, first_sound, only_complete, only_sound, some_at}
use Rattle.ba_sql_query.proofs.ReadLemmas.{bind_ok, each_cons, err_ok, flat_cons, ok_same}

-- ---- each

pub each_zip : {A B : Type 0} (f : A → Result B ReadQueryFault) (R : A → B → Type 0) → ((x : A) (y : B) → f x ≡ Ok y → R x y) → (xs : List A) (ys : List B) → each f xs ≡ Ok ys → AllZip R xs ys
each_zip f R h [] ys e = subst (AllZip R []) (ok_same [] ys e) tt
each_zip f R h (x ∷ xs) ys e =
    let c = each_cons f x xs ys e in
    subst (AllZip R (x ∷ xs)) c.2.2 (h x c.0 c.1, each_zip f R h xs c.2.0 c.2.1)

pub zip_each : {A B : Type 0} (f : A → Result B ReadQueryFault) (R : A → B → Type 0) → ((x : A) (y : B) → R x y → f x ≡ Ok y) → (xs : List A) (ys : List B) → AllZip R xs ys → each f xs ≡ Ok ys
zip_each f R h [] [] z = refl
zip_each f R h [] (y ∷ ys) z = absurd z
zip_each f R h (x ∷ xs) [] z = absurd z
zip_each f R h (x ∷ xs) (y ∷ ys) z = rw (h x y z.0) (rw (zip_each f R h xs ys z.1) refl)

abbrev joined : {B : Type 0} → List (List B) → List B
joined pieces = flat_map (λ piece. piece) pieces

flat_zip : {A B : Type 0} (f : A → Result (List B) ReadQueryFault) (R : A → List B → Type 0) → ((x : A) (y : List B) → f x ≡ Ok y → R x y) → (xs : List A) (ys : List B) → each_flat f xs ≡ Ok ys
    → (pieces : List (List B)) × AllZip R xs pieces × (joined pieces ≡ ys)
flat_zip f R h [] ys e = ([], tt, ok_same [] ys e)
flat_zip f R h (x ∷ xs) ys e =
    let c = flat_cons f x xs ys e in
    let more = flat_zip f R h xs c.2.0 c.2.1 in
    (c.0 ∷ more.0, (h x c.0 c.1, more.1), ap (λ zs. c.0 ++ zs) more.2 ∙ c.2.2)

zip_flat : {A B : Type 0} (f : A → Result (List B) ReadQueryFault) (R : A → List B → Type 0) → ((x : A) (y : List B) → R x y → f x ≡ Ok y) → (xs : List A) (pieces : List (List B)) → AllZip R xs pieces → each_flat f xs ≡ Ok (joined pieces)
zip_flat f R h [] [] z = refl
zip_flat f R h [] (y ∷ ys) z = absurd z
zip_flat f R h (x ∷ xs) [] z = absurd z
zip_flat f R h (x ∷ xs) (y ∷ ys) z = rw (h x y z.0) (rw (zip_flat f R h xs ys z.1) refl)

-- ---- tables and parameters

module _ (schema : Schema) (params : List Parameter) where
  table_sound : (name : List ℕ) (n : ℕ) → table_of schema name ≡ Ok n → HasTable schema name n
  unfolding table_of
  table_sound name n e = first_sound (λ table. bytes_eq table.name name) (λ table. table.name ≡ name) (λ table. bytes_eq-Decides table.name name) UnknownTable schema.tables n e

  table_complete : (name : List ℕ) (n : ℕ) → HasTable schema name n → table_of schema name ≡ Ok n
  unfolding table_of
  table_complete name n h = first_complete (λ table. bytes_eq table.name name) (λ table. table.name ≡ name) (λ table. bytes_eq-Decides table.name name) UnknownTable schema.tables n h

  abbrev as_param : ℕ → Result Operand ReadQueryFault
  as_param n = Ok (Param n)

  param_sound : (name : List ℕ) (x : Operand) → param_of params name ≡ Ok x → (n : ℕ) × HasParam params name n × (x ≡ Param n)
  unfolding param_of
  param_sound name x e =
      let a = bind_ok (numbered UnknownParam (position (λ parameter. bytes_eq parameter.name name) params)) as_param x e in
      (a.0, first_sound (λ parameter. bytes_eq parameter.name name) (λ parameter. parameter.name ≡ name) (λ parameter. bytes_eq-Decides parameter.name name) UnknownParam params a.0 a.1, sym (ok_same (Param a.0) x a.2))

  param_complete : (name : List ℕ) (x : Operand) → (n : ℕ) × HasParam params name n × (x ≡ Param n) → param_of params name ≡ Ok x
  unfolding param_of
  param_complete name x h =
      rw (first_complete (λ parameter. bytes_eq parameter.name name) (λ parameter. parameter.name ≡ name) (λ parameter. bytes_eq-Decides parameter.name name) UnknownParam params h.0 h.1)
      (ap (λ (y : Operand). Ok y) (sym h.2))

  -- ---- sources

  called_sound : (sources : List Source) (name : List ℕ) (n : ℕ) → source_of sources name ≡ Ok n → IsCalled sources name n
  unfolding source_of
  called_sound sources name n e = only_sound (λ source. bytes_eq (called source) name) (λ source. called source ≡ name) (λ source. bytes_eq-Decides (called source) name) UnknownTable sources n e

  called_complete : (sources : List Source) (name : List ℕ) (n : ℕ) → IsCalled sources name n → source_of sources name ≡ Ok n
  unfolding source_of
  called_complete sources name n h = only_complete (λ source. bytes_eq (called source) name) (λ source. called source ≡ name) (λ source. bytes_eq-Decides (called source) name) UnknownTable sources n h

  -- ---- columns

  has_decides : (name : List ℕ) (table : ℕ) → Decides (has_column schema name table) (HasSome schema name table)
  has_decides name table = some_at (λ column. bytes_eq column.name name) (λ column. column.name ≡ name) (λ column. bytes_eq-Decides column.name name) (columns_of schema.tables table)

  meant_sound : (sources : List Source) (from : List ℕ) (qualifier : Option (List ℕ)) (column : List ℕ) (n : ℕ) → meant_by schema sources from qualifier column ≡ Ok n → IsMeant schema sources from qualifier column n
  unfolding place_of
  meant_sound sources from None column n e = only_sound (has_column schema column) (HasSome schema column) (has_decides column) UnknownColumn from n e
  meant_sound sources from (Some q) column n e = called_sound sources q n e

  meant_complete : (sources : List Source) (from : List ℕ) (qualifier : Option (List ℕ)) (column : List ℕ) (n : ℕ) → IsMeant schema sources from qualifier column n → meant_by schema sources from qualifier column ≡ Ok n
  unfolding place_of
  meant_complete sources from None column n h = only_complete (has_column schema column) (HasSome schema column) (has_decides column) UnknownColumn from n h
  meant_complete sources from (Some q) column n h = called_complete sources q n h

  abbrev as_column : ℕ → ℕ → Result Operand ReadQueryFault
  as_column place n = Ok (Col place n)

  abbrev found_in : List ℕ → Option ℕ → Option ℕ
  found_in name o = option_and_then (column_place schema name) o

  found_sound : (name : List ℕ) (o : Option ℕ) (n : ℕ) → numbered UnknownColumn (found_in name o) ≡ Ok n → (table : ℕ) × (o ≡ Some table) × HasColumn schema table name n
  found_sound name None n e = absurd (err_ok n e)
  found_sound name (Some table) n e = (table, refl, first_sound (λ column. bytes_eq column.name name) (λ column. column.name ≡ name) (λ column. bytes_eq-Decides column.name name) UnknownColumn (columns_of schema.tables table) n e)

  found_complete : (name : List ℕ) (o : Option ℕ) (table n : ℕ) → o ≡ Some table → HasColumn schema table name n → numbered UnknownColumn (found_in name o) ≡ Ok n
  found_complete name o table n e h =
      rw e (first_complete (λ column. bytes_eq column.name name) (λ column. column.name ≡ name) (λ column. bytes_eq-Decides column.name name) UnknownColumn (columns_of schema.tables table) n h)

  column_sound : (sources : List Source) (from : List ℕ) (name : Named) (x : Operand) → column_of schema sources from name ≡ Ok x → IsColumn schema sources from name x
  unfolding column_of column_at meant
  column_sound sources from name x e =
      let a = bind_ok (meant schema sources from name) (column_at schema from name.column) x e in
      let b = bind_ok (numbered UnknownColumn (found_in name.column (slice_get from a.0))) (as_column a.0) x a.2 in
      let f = found_sound name.column (slice_get from a.0) b.0 b.1 in
      record { place = a.0; table = f.0; number = b.0; meant = meant_sound sources from name.qualifier name.column a.0 a.1; there = f.1; column = f.2; is = sym (ok_same (Col a.0 b.0) x b.2) }

  column_complete : (sources : List Source) (from : List ℕ) (name : Named) (x : Operand) → IsColumn schema sources from name x → column_of schema sources from name ≡ Ok x
  unfolding column_of column_at meant
  column_complete sources from name x h =
      rw (meant_complete sources from name.qualifier name.column h.place h.meant)
      (rw (found_complete name.column (slice_get from h.place) h.table h.number h.there h.column) (ap (λ (y : Operand). Ok y) (sym h.is)))

  -- ---- operands

  constant_sound : (c : Constant) (x : Operand) → constant_of params c ≡ Ok x → IsConstant params c x
  unfolding constant_of
  constant_sound (constants.Value v) x e = sym (ok_same (Val v) x e)
  constant_sound (constants.Param name) x e = param_sound name x e

  constant_complete : (c : Constant) (x : Operand) → IsConstant params c x → constant_of params c ≡ Ok x
  unfolding constant_of
  constant_complete (constants.Value v) x h = ap (λ (y : Operand). Ok y) (sym h)
  constant_complete (constants.Param name) x h = param_complete name x h

  operand_sound : (sources : List Source) (from : List ℕ) (side : Side) (x : Operand) → operand_of schema params sources from side ≡ Ok x → IsOperand schema params sources from side x
  unfolding operand_of
  operand_sound sources from (sides.Column name) x e = column_sound sources from name x e
  operand_sound sources from (sides.Constant c) x e = constant_sound c x e

  operand_complete : (sources : List Source) (from : List ℕ) (side : Side) (x : Operand) → IsOperand schema params sources from side x → operand_of schema params sources from side ≡ Ok x
  unfolding operand_of
  operand_complete sources from (sides.Column name) x h = column_complete sources from name x h
  operand_complete sources from (sides.Constant c) x h = constant_complete c x h

  -- ---- heads

  abbrev one_operand : Operand → Result (List Operand) ReadQueryFault
  one_operand x = Ok (x ∷ [])

  abbrev of_source : List ℕ → ℕ → Result (List Operand) ReadQueryFault
  of_source from place = Ok (source_columns schema from place)

  item_sound : (sources : List Source) (from : List ℕ) (item : Item) (xs : List Operand) → item_of schema params sources from item ≡ Ok xs → IsItem schema params sources from item xs
  unfolding item_of
  item_sound sources from (items.AllOf name) xs e =
      let a = bind_ok (source_of sources name) (of_source from) xs e in
      (a.0, called_sound sources name a.0 a.1, sym (ok_same (source_columns schema from a.0) xs a.2))
  item_sound sources from (items.One side) xs e =
      let a = bind_ok (operand_of schema params sources from side) one_operand xs e in
      (a.0, operand_sound sources from side a.0 a.1, sym (ok_same (a.0 ∷ []) xs a.2))

  item_complete : (sources : List Source) (from : List ℕ) (item : Item) (xs : List Operand) → IsItem schema params sources from item xs → item_of schema params sources from item ≡ Ok xs
  unfolding item_of
  item_complete sources from (items.AllOf name) xs h = rw (called_complete sources name h.0 h.1) (ap (λ (ys : List Operand). Ok ys) (sym h.2))
  item_complete sources from (items.One side) xs h = rw (operand_complete sources from side h.0 h.1) (ap (λ (ys : List Operand). Ok ys) (sym h.2))

  head_sound : (sources : List Source) (from : List ℕ) (hs : Heads) (xs : List Operand) → heads_of schema params sources from hs ≡ Ok xs → IsHead schema params sources from hs xs
  unfolding heads_of
  head_sound sources from heads.All xs e = sym (ok_same (all_columns schema from) xs e)
  head_sound sources from (heads.Items is) xs e = flat_zip (item_of schema params sources from) (IsItem schema params sources from) (item_sound sources from) is xs e

  head_complete : (sources : List Source) (from : List ℕ) (hs : Heads) (xs : List Operand) → IsHead schema params sources from hs xs → heads_of schema params sources from hs ≡ Ok xs
  unfolding heads_of
  head_complete sources from heads.All xs h = ap (λ (ys : List Operand). Ok ys) (sym h)
  head_complete sources from (heads.Items is) xs h =
      zip_flat (item_of schema params sources from) (IsItem schema params sources from) (item_complete sources from) is h.0 h.1 ∙ ap (λ (ys : List Operand). Ok ys) h.2

  -- ---- conditions

  abbrev compare_with : Op → Operand → Operand → Result ResolvedTest ReadQueryFault
  compare_with op x y = Ok (resolved.One (record { op = op; left = x; right = y }))

  abbrev compare_right : List Source → List ℕ → Op → Side → Operand → Result ResolvedTest ReadQueryFault
  compare_right sources from op right x = operand_of schema params sources from right >>= compare_with op x

  abbrev among_with : Operand → List Operand → Result ResolvedTest ReadQueryFault
  among_with x ys = Ok (resolved.Among x ys)

  abbrev among_these : List Constant → Operand → Result ResolvedTest ReadQueryFault
  among_these among x = each (constant_of params) among >>= among_with x

  abbrev null_with : Op → Operand → Result ResolvedTest ReadQueryFault
  null_with op x = Ok (resolved.One (record { op = op; left = x; right = x }))

  test_sound : (sources : List Source) (from : List ℕ) (t : Test) (r : ResolvedTest) → test_of schema params sources from t ≡ Ok r → IsTest schema params sources from t r
  unfolding test_of
  test_sound sources from (tests.Compare op left right) r e =
      let a = bind_ok (operand_of schema params sources from left) (compare_right sources from op right) r e in
      let b = bind_ok (operand_of schema params sources from right) (compare_with op a.0) r a.2 in
      (a.0, b.0, operand_sound sources from left a.0 a.1, operand_sound sources from right b.0 b.1, sym (ok_same (resolved.One (record { op = op; left = a.0; right = b.0 })) r b.2))
  test_sound sources from (tests.Among side among) r e =
      let a = bind_ok (operand_of schema params sources from side) (among_these among) r e in
      let b = bind_ok (each (constant_of params) among) (among_with a.0) r a.2 in
      (a.0, b.0, operand_sound sources from side a.0 a.1, each_zip (constant_of params) (IsConstant params) constant_sound among b.0 b.1, sym (ok_same (resolved.Among a.0 b.0) r b.2))
  test_sound sources from (tests.Null op side) r e =
      let a = bind_ok (operand_of schema params sources from side) (null_with op) r e in
      (a.0, operand_sound sources from side a.0 a.1, sym (ok_same (resolved.One (record { op = op; left = a.0; right = a.0 })) r a.2))

  test_complete : (sources : List Source) (from : List ℕ) (t : Test) (r : ResolvedTest) → IsTest schema params sources from t r → test_of schema params sources from t ≡ Ok r
  unfolding test_of
  test_complete sources from (tests.Compare op left right) r h =
      rw (operand_complete sources from left h.0 h.2) (rw (operand_complete sources from right h.1 h.3) (ap (λ (q : ResolvedTest). Ok q) (sym h.4)))
  test_complete sources from (tests.Among side among) r h =
      rw (operand_complete sources from side h.0 h.2) (rw (zip_each (constant_of params) (IsConstant params) constant_complete among h.1 h.3) (ap (λ (q : ResolvedTest). Ok q) (sym h.4)))
  test_complete sources from (tests.Null op side) r h = rw (operand_complete sources from side h.0 h.1) (ap (λ (q : ResolvedTest). Ok q) (sym h.2))

  abbrev as_node : ResolvedTest → Result ResolvedNode ReadQueryFault
  as_node t = Ok (steps.Test t)

  node_sound : (sources : List Source) (from : List ℕ) (n : Node) (r : ResolvedNode) → node_of schema params sources from n ≡ Ok r → IsNode schema params sources from n r
  unfolding node_of
  node_sound sources from (nodes.Test t) r e =
      let a = bind_ok (test_of schema params sources from t) as_node r e in
      (a.0, test_sound sources from t a.0 a.1, sym (ok_same (steps.Test a.0) r a.2))
  node_sound sources from nodes.And r e = sym (ok_same steps.And r e)
  node_sound sources from nodes.Or r e = sym (ok_same steps.Or r e)

  node_complete : (sources : List Source) (from : List ℕ) (n : Node) (r : ResolvedNode) → IsNode schema params sources from n r → node_of schema params sources from n ≡ Ok r
  unfolding node_of
  node_complete sources from (nodes.Test t) r h = rw (test_complete sources from t h.0 h.1) (ap (λ (q : ResolvedNode). Ok q) (sym h.2))
  node_complete sources from nodes.And r h = ap (λ (q : ResolvedNode). Ok q) (sym h)
  node_complete sources from nodes.Or r h = ap (λ (q : ResolvedNode). Ok q) (sym h)

  -- ---- selects

  some_source : (sources : List Source) (from : List ℕ) → tables_of schema sources ≡ Ok from → (sources ≢ []) × (each (λ source. table_of schema source.table) sources ≡ Ok from)
  unfolding tables_of
  some_source [] from e = absurd (err_ok from e)
  some_source (s ∷ ss) from e = (λ k. cc, e)

  from_sources : (sources : List Source) (from : List ℕ) → sources ≢ [] → each (λ source. table_of schema source.table) sources ≡ Ok from → tables_of schema sources ≡ Ok from
  unfolding tables_of
  from_sources [] from some e = absurd (some refl)
  from_sources (s ∷ ss) from some e = e

  abbrev select_with : List ℕ → List Operand → List ResolvedNode → Result ResolvedSelect ReadQueryFault
  select_with from head condition = Ok (record { from = from; head = head; condition = condition })

  abbrev select_condition : Select → List ℕ → List Operand → Result ResolvedSelect ReadQueryFault
  select_condition select from head = each (node_of schema params select.sources from) select.condition >>= select_with from head

  abbrev select_head : Select → List ℕ → Result ResolvedSelect ReadQueryFault
  select_head select from = heads_of schema params select.sources from select.heads >>= select_condition select from

  pub select_sound : (select : Select) (r : ResolvedSelect) → select_of schema params select ≡ Ok r → IsSelectOf schema params select r
  unfolding select_of
  select_sound select r e =
      let a = bind_ok (tables_of schema select.sources) (select_head select) r e in
      let b = bind_ok (heads_of schema params select.sources a.0 select.heads) (select_condition select a.0) r a.2 in
      let c = bind_ok (each (node_of schema params select.sources a.0) select.condition) (select_with a.0 b.0) r b.2 in
      let t = some_source select.sources a.0 a.1 in
      subst (IsSelectOf schema params select) (ok_same (record { from = a.0; head = b.0; condition = c.0 }) r c.2) (record {
        some_source = t.0;
        from = each_zip (λ source. table_of schema source.table) (λ source n. HasTable schema source.table n) (λ source n. table_sound source.table n) select.sources a.0 t.1;
        head = head_sound select.sources a.0 select.heads b.0 b.1;
        condition = each_zip (node_of schema params select.sources a.0) (IsNode schema params select.sources a.0) (node_sound select.sources a.0) select.condition c.0 c.1;
      })

  pub select_complete : (select : Select) (r : ResolvedSelect) → IsSelectOf schema params select r → select_of schema params select ≡ Ok r
  unfolding select_of
  select_complete select r h =
      let from : tables_of schema select.sources ≡ Ok r.from =
      from_sources select.sources r.from h.some_source (zip_each (λ source. table_of schema source.table) (λ source n. HasTable schema source.table n) (λ source n. table_complete source.table n) select.sources r.from h.from) in
      rw from (rw (head_complete select.sources r.from select.heads r.head h.head)
      (rw (zip_each (node_of schema params select.sources r.from) (IsNode schema params select.sources r.from) (node_complete select.sources r.from) select.condition r.condition h.condition) refl))
