-- A text with its names as numbers, or the first fault of its names.
use Rattle.std.specs.Prelude.{ℕ, Bool, true, not, ◌&&◌, ◌==◌, List, [], ◌∷◌, map, min, length, Option, Some, None, slice_get, Result, Ok, Err, if◌then◌else◌}
use Rattle.std.specs.List.{flat_map, list_all, range_with_len}
use Rattle.ba_model.specs.QueryFaults.{is_empty}
use Rattle.ba_model.specs.Readings.{◌>>=◌, each, each_flat}
use Rattle.ba_model.specs.SchemaFaults.{columns_of}
use Rattle.ba_model.specs.declared.policy.Parameter.{Parameter}
use Rattle.ba_model.specs.declared.query.Operand.{Operand}
use Rattle.ba_model.specs.declared.query.Operand.TheVariants.{Col}
use Rattle.ba_model.specs.declared.schema.Column.{Column}
use Rattle.ba_model.specs.declared.schema.Schema.{Schema}
use Rattle.ba_sql_syntax.specs.declared.written.Constant.{Constant}
use Rattle.ba_sql_syntax.specs.declared.written.Constant.TheVariants as constants
use Rattle.ba_sql_syntax.specs.declared.written.Heads.{Heads}
use Rattle.ba_sql_syntax.specs.declared.written.Heads.TheVariants as heads
use Rattle.ba_sql_syntax.specs.declared.written.Item.{Item}
use Rattle.ba_sql_syntax.specs.declared.written.Item.TheVariants as items
use Rattle.ba_sql_syntax.specs.declared.written.Node.{Node}
use Rattle.ba_sql_syntax.specs.declared.written.Node.TheVariants as nodes
use Rattle.ba_sql_syntax.specs.declared.written.QueryText.{QueryText}
use Rattle.ba_sql_syntax.specs.declared.written.Select.{Select}
use Rattle.ba_sql_syntax.specs.declared.written.Side.{Side}
use Rattle.ba_sql_syntax.specs.declared.written.Side.TheVariants as sides
use Rattle.ba_sql_syntax.specs.declared.written.Source.{Source}
use Rattle.ba_sql_syntax.specs.declared.written.Test.{Test}
use Rattle.ba_sql_syntax.specs.declared.written.Test.TheVariants as tests
use Rattle.ba_sql_query.specs.Errors.{lacks, rank}
use Rattle.ba_sql_query.specs.Names.{column_of, constant_of, operand_of, param_of, source_of, table_of}
use Rattle.ba_sql_query.specs.declared.fault.ReadQueryFault.{ReadQueryFault}
use Rattle.ba_sql_query.specs.declared.fault.ReadQueryFault.TheVariants.{UnknownTable, UnknownColumn, Ambiguous, UnknownParam}
use Rattle.ba_sql_query.specs.declared.resolved.ResolvedNode.{ResolvedNode}
use Rattle.ba_sql_query.specs.declared.resolved.ResolvedNode.TheVariants as steps
use Rattle.ba_sql_query.specs.declared.resolved.ResolvedSelect.{ResolvedSelect}
use Rattle.ba_sql_query.specs.declared.resolved.ResolvedTest.{ResolvedTest}
use Rattle.ba_sql_query.specs.declared.resolved.ResolvedTest.TheVariants as resolved

-- ---- what a select puts out

-- the first n numbers, of 32 bits
abbrev pub numbers : ℕ → List ℕ
numbers n = range_with_len 0 (min n 0xffff_ffff)

abbrev pub columns_or : Schema → Option ℕ → List Column
columns_or schema None = []
columns_or schema (Some table) = columns_of schema.tables table

-- all columns of the source at a place
abbrev pub source_columns : Schema → List ℕ → ℕ → List Operand
source_columns schema from place = map (Col place) (numbers (length (columns_or schema (slice_get from place))))

-- all columns of all sources
abbrev pub all_columns : Schema → List ℕ → List Operand
all_columns schema from = flat_map (source_columns schema from) (numbers (length from))

unfoldable pub item_of : Schema → List Parameter → List Source → List ℕ → Item → Result (List Operand) ReadQueryFault
item_of schema params sources from (items.AllOf name) = source_of sources name >>= λ place. Ok (source_columns schema from place)
item_of schema params sources from (items.One side) = operand_of schema params sources from side >>= λ x. Ok (x ∷ [])

unfoldable pub heads_of : Schema → List Parameter → List Source → List ℕ → Heads → Result (List Operand) ReadQueryFault
heads_of schema params sources from heads.All = Ok (all_columns schema from)
heads_of schema params sources from (heads.Items xs) = each_flat (item_of schema params sources from) xs

-- ---- conditions

unfoldable pub test_of : Schema → List Parameter → List Source → List ℕ → Test → Result ResolvedTest ReadQueryFault
test_of schema params sources from (tests.Compare op left right) =
    operand_of schema params sources from left >>= λ x. (operand_of schema params sources from right >>= λ y. Ok (resolved.One (record { op = op; left = x; right = y })))
test_of schema params sources from (tests.Among side among) =
    operand_of schema params sources from side >>= λ x. (each (constant_of params) among >>= λ ys. Ok (resolved.Among x ys))
test_of schema params sources from (tests.Null op side) =
    operand_of schema params sources from side >>= λ x. Ok (resolved.One (record { op = op; left = x; right = x }))

unfoldable pub node_of : Schema → List Parameter → List Source → List ℕ → Node → Result ResolvedNode ReadQueryFault
node_of schema params sources from (nodes.Test t) = test_of schema params sources from t >>= λ x. Ok (steps.Test x)
node_of schema params sources from nodes.And = Ok steps.And
node_of schema params sources from nodes.Or = Ok steps.Or

-- ---- selects

-- the numbers of the sources' tables; there is a source
unfoldable pub tables_of : Schema → List Source → Result (List ℕ) ReadQueryFault
tables_of schema sources = if is_empty sources then Err UnknownTable else each (λ source. table_of schema source.table) sources

unfoldable pub select_of : Schema → List Parameter → Select → Result ResolvedSelect ReadQueryFault
select_of schema params select = do
  from ← tables_of schema select.sources
  head ← heads_of schema params select.sources from select.heads
  condition ← each (node_of schema params select.sources from) select.condition
  Ok (record { from = from; head = head; condition = condition })

abbrev pub selects_of : Schema → List Parameter → List Select → Result (List ResolvedSelect) ReadQueryFault
selects_of schema params selects = each (select_of schema params) selects

-- ---- the first fault of the names: whether no name is refused by the fault of a rank

unfoldable pub constant_lacks : ℕ → List Parameter → Constant → Bool
constant_lacks n params (constants.Value v) = true
constant_lacks n params (constants.Param name) = lacks n (param_of params name)

unfoldable pub side_lacks : ℕ → Schema → List Parameter → List Source → List ℕ → Side → Bool
side_lacks n schema params sources from (sides.Column name) = lacks n (column_of schema sources from name)
side_lacks n schema params sources from (sides.Constant c) = constant_lacks n params c

unfoldable pub test_lacks : ℕ → Schema → List Parameter → List Source → List ℕ → Test → Bool
test_lacks n schema params sources from (tests.Compare op left right) = side_lacks n schema params sources from left && side_lacks n schema params sources from right
test_lacks n schema params sources from (tests.Among side among) = side_lacks n schema params sources from side && list_all (constant_lacks n params) among
test_lacks n schema params sources from (tests.Null op side) = side_lacks n schema params sources from side

unfoldable pub node_lacks : ℕ → Schema → List Parameter → List Source → List ℕ → Node → Bool
node_lacks n schema params sources from (nodes.Test t) = test_lacks n schema params sources from t
node_lacks n schema params sources from nodes.And = true
node_lacks n schema params sources from nodes.Or = true

unfoldable pub item_lacks : ℕ → Schema → List Parameter → List Source → List ℕ → Item → Bool
item_lacks n schema params sources from (items.AllOf name) = lacks n (source_of sources name)
item_lacks n schema params sources from (items.One side) = side_lacks n schema params sources from side

unfoldable pub heads_lack : ℕ → Schema → List Parameter → List Source → List ℕ → Heads → Bool
heads_lack n schema params sources from heads.All = true
heads_lack n schema params sources from (heads.Items xs) = list_all (item_lacks n schema params sources from) xs

-- beside its sources, once their tables are known
abbrev pub names_lack : ℕ → Schema → List Parameter → Select → List ℕ → Bool
names_lack n schema params select from =
    heads_lack n schema params select.sources from select.heads && list_all (node_lacks n schema params select.sources from) select.condition

abbrev pub lacks_over : ℕ → Schema → List Parameter → Select → Result (List ℕ) ReadQueryFault → Bool
lacks_over n schema params select (Ok from) = names_lack n schema params select from
lacks_over n schema params select (Err f) = not (rank f == n)

unfoldable pub select_lacks : ℕ → Schema → List Parameter → Select → Bool
select_lacks n schema params select = lacks_over n schema params select (tables_of schema select.sources)

abbrev pub text_lacks : ℕ → Schema → List Parameter → List Select → Bool
text_lacks n schema params selects = list_all (select_lacks n schema params) selects

-- the fault of least rank that refuses a name
unfoldable pub first_of_names : Schema → List Parameter → List Select → ReadQueryFault
first_of_names schema params selects =
    if not (text_lacks (rank UnknownTable) schema params selects) then UnknownTable
    else if not (text_lacks (rank UnknownColumn) schema params selects) then UnknownColumn
    else if not (text_lacks (rank Ambiguous) schema params selects) then Ambiguous
    else UnknownParam

abbrev pub or_first : Result (List ResolvedSelect) ReadQueryFault → ReadQueryFault → Result (List ResolvedSelect) ReadQueryFault
or_first (Ok selects) f = Ok selects
or_first (Err g) f = Err f

unfoldable pub names_of : Schema → List Parameter → QueryText → Result (List ResolvedSelect) ReadQueryFault
names_of schema params text = or_first (selects_of schema params text.selects) (first_of_names schema params text.selects)
