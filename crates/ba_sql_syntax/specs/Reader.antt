-- A query read from the left: what stands at the front, and the terminals behind it.
use Rattle.std.specs.Prelude.{ℕ, zero, suc, Bool, true, false, List, [], ◌∷◌, ◌++◌, length, Option, Some, None, Result, Ok, Err, if◌then◌else◌, ◌&&◌, ◌||◌}
use Rattle.ba_grammar.specs.Front.{ReadOf, begins, listed, past, skip, syntax}
use Rattle.ba_grammar.specs.declared.error.Syntax.{Syntax}
use Rattle.ba_lex.specs.declared.token.Sign.TheVariants.{LeftParen, RightParen, Comma, Dot, Semicolon, Star}
use Rattle.ba_model.specs.Readings.{◌>>=◌}
use Rattle.ba_model.specs.declared.query.Op.{Op}
use Rattle.ba_model.specs.declared.query.Op.TheVariants.{IsNull, NotNull}
use Rattle.ba_sql_syntax.specs.Grammar.{comparison, compared}
use Rattle.ba_sql_syntax.specs.Terminals.{Terminal, key, name, constant, sign, unsupported, is_key, is_sign}
use Rattle.ba_sql_syntax.specs.declared.compare.Comparison.{Comparison}
use Rattle.ba_sql_syntax.specs.declared.condition.Level.{Level}
use Rattle.ba_sql_syntax.specs.declared.condition.Turn.{Turn}
use Rattle.ba_sql_syntax.specs.declared.condition.Turn.TheVariants.{Want, Have}
use Rattle.ba_sql_syntax.specs.declared.word.Key.TheVariants.{Select, Distinct, From, Where, Join, Inner, Cross, On, As, And, Or, Union, In, Is, Not, Null as NullKey}
use Rattle.ba_sql_syntax.specs.declared.written.Constant.{Constant}
use Rattle.ba_sql_syntax.specs.declared.written.Heads.{Heads}
use Rattle.ba_sql_syntax.specs.declared.written.Heads.TheVariants.{All, Items}
use Rattle.ba_sql_syntax.specs.declared.written.Item.{Item}
use Rattle.ba_sql_syntax.specs.declared.written.Item.TheVariants.{AllOf, One}
use Rattle.ba_sql_syntax.specs.declared.written.Node.{Node}
use Rattle.ba_sql_syntax.specs.declared.written.Node.TheVariants.{Test as TestNode, And as AndNode, Or as OrNode}
use Rattle.ba_sql_syntax.specs.declared.written.QueryText.{QueryText}
use Rattle.ba_sql_syntax.specs.declared.written.Select.{Select as SelectText}
use Rattle.ba_sql_syntax.specs.declared.written.Side.{Side}
use Rattle.ba_sql_syntax.specs.declared.written.Side.TheVariants.{Column, Constant as ConstantSide}
use Rattle.ba_sql_syntax.specs.declared.written.Source.{Source}
use Rattle.ba_sql_syntax.specs.declared.written.Test.{Test}
use Rattle.ba_sql_syntax.specs.declared.written.Test.TheVariants.{Among, Null}

-- what was read, and the terminals behind it
abbrev pub Read : Type 0 → Type 0
Read A = ReadOf Terminal A

-- ---- one terminal

abbrev pub is_name : Terminal → Bool
is_name (name n) = true
is_name (key k) = false
is_name (constant c) = false
is_name (sign s) = false
is_name unsupported = false

abbrev pub name_of : Terminal → List Terminal → Read (List ℕ)
name_of (name n) rest = Ok (n, rest)
name_of (key k) rest = Err syntax
name_of (constant c) rest = Err syntax
name_of (sign s) rest = Err syntax
name_of unsupported rest = Err syntax

unfoldable pub name_at : List Terminal → Read (List ℕ)
name_at [] = Err syntax
name_at (t ∷ ts) = name_of t ts

abbrev pub constant_of : Terminal → List Terminal → Read Constant
constant_of (constant c) rest = Ok (c, rest)
constant_of (name n) rest = Err syntax
constant_of (key k) rest = Err syntax
constant_of (sign s) rest = Err syntax
constant_of unsupported rest = Err syntax

unfoldable pub constant_at : List Terminal → Read Constant
constant_at [] = Err syntax
constant_at (t ∷ ts) = constant_of t ts

-- ---- one step after the other, as long as there is one to take, but at most fuel of them

unfoldable pub run : {S : Type 0} → (S → Bool) → (S → Result S Syntax) → ℕ → S → Result S Syntax
run goes step zero here = Ok here
run goes step (suc fuel) here = if goes here then (step here >>= run goes step fuel) else Ok here

-- ---- names and sides

unfoldable pub alias_at : List Terminal → Read (Option (List ℕ))
alias_at ts =
    if begins (is_key As) ts then (do
      rest ← past (is_key As) ts
      n ← name_at rest
      Ok (Some n.0, n.1))
    else (if begins is_name ts then (do
      n ← name_at ts
      Ok (Some n.0, n.1))
    else Ok (None, ts))

unfoldable pub column_at : List Terminal → Read Side
column_at ts = do
  n ← name_at ts
  if begins (is_sign Dot) n.1 then (do
    rest ← past (is_sign Dot) n.1
    m ← name_at rest
    Ok (Column (record { qualifier = Some n.0; column = m.0 }), m.1))
      else Ok (Column (record { qualifier = None; column = n.0 }), n.1)

unfoldable pub side_at : List Terminal → Read Side
side_at ts =
    if begins is_name ts then column_at ts
    else (do
      c ← constant_at ts
      Ok (ConstantSide c.0, c.1))

-- ---- tests

abbrev pub some_comparison : Option Comparison → List Terminal → Read Comparison
some_comparison (Some c) rest = Ok (c, rest)
some_comparison None rest = Err syntax

abbrev pub comparison_of : Terminal → List Terminal → Read Comparison
comparison_of (sign s) rest = some_comparison (comparison s) rest
comparison_of (name n) rest = Err syntax
comparison_of (key k) rest = Err syntax
comparison_of (constant c) rest = Err syntax
comparison_of unsupported rest = Err syntax

unfoldable pub comparison_at : List Terminal → Read Comparison
comparison_at [] = Err syntax
comparison_at (t ∷ ts) = comparison_of t ts

unfoldable pub compared_at : Side → List Terminal → Read Test
compared_at left ts = do
  c ← comparison_at ts
  right ← side_at c.1
  Ok (compared c.0 left right.0, right.1)

unfoldable pub among_at : Side → List Terminal → Read Test
among_at side ts = do
  rest ← past (is_key In) ts
  rest ← past (is_sign LeftParen) rest
  among ← listed (is_sign Comma) constant_at rest
  rest ← past (is_sign RightParen) among.1
  Ok (Among side among.0, rest)

-- what IS tests: NOT NULL or NULL
abbrev pub null_op : List Terminal → Op
null_op ts = if begins (is_key Not) ts then NotNull else IsNull

unfoldable pub null_at : Side → List Terminal → Read Test
null_at side ts = do
  rest ← past (is_key Is) ts
  behind ← past (is_key NullKey) (skip (is_key Not) rest)
  Ok (Null (null_op rest) side, behind)

unfoldable pub test_at : List Terminal → Read Test
test_at ts = do
  side ← side_at ts
  if begins (is_key In) side.1 then among_at side.0 side.1
      else (if begins (is_key Is) side.1 then null_at side.0 side.1 else compared_at side.0 side.1)

-- ---- conditions: brackets that are open, the innermost first, and whether an operator waits in each

abbrev pub waiting : Bool → Node → List Node
waiting true node = node ∷ []
waiting false node = []

abbrev pub level : Bool → Bool → Level
level or and = record { or = or; and = and }

-- what was read of a condition
pub record Reading : Type 0 where
  pub levels : List Level
  pub turn : Turn
  pub nodes : List Node
  pub rest : List Terminal

abbrev pub reading : List Level → Turn → List Node → List Terminal → Reading
reading levels turn nodes rest = record { levels = levels; turn = turn; nodes = nodes; rest = rest }

-- a bracket or a test comes next
unfoldable pub want_step : List Level → Level → List Node → List Terminal → Result Reading Syntax
want_step levels top nodes ts =
    if begins (is_sign LeftParen) ts then (do
      rest ← past (is_sign LeftParen) ts
      Ok (reading (top ∷ levels) (Want (level false false)) nodes rest))
    else (do
      test ← test_at ts
      Ok (reading levels (Have top.or) (nodes ++ TestNode test.0 ∷ waiting top.and AndNode) test.1))

-- the innermost bracket is closed
abbrev pub close : List Level → List Node → List Terminal → Result Reading Syntax
close [] nodes rest = Err syntax
close (top ∷ levels) nodes rest = Ok (reading levels (Have top.or) (nodes ++ waiting top.and AndNode) rest)

-- AND, OR or a bracket that is closed comes next
unfoldable pub have_step : List Level → Bool → List Node → List Terminal → Result Reading Syntax
have_step levels or nodes ts =
    if begins (is_key And) ts then (do
      rest ← past (is_key And) ts
      Ok (reading levels (Want (level or true)) nodes rest))
    else (if begins (is_key Or) ts then (do
      rest ← past (is_key Or) ts
      Ok (reading levels (Want (level true false)) (nodes ++ waiting or OrNode) rest))
    else (do
      rest ← past (is_sign RightParen) ts
      close levels (nodes ++ waiting or OrNode) rest))

abbrev pub turn_step : Turn → List Level → List Node → List Terminal → Result Reading Syntax
turn_step (Want top) levels nodes ts = want_step levels top nodes ts
turn_step (Have or) levels nodes ts = have_step levels or nodes ts

abbrev pub condition_step : Reading → Result Reading Syntax
condition_step r = turn_step r.turn r.levels r.nodes r.rest

abbrev pub can_close : List Level → List Terminal → Bool
can_close [] ts = false
can_close (top ∷ levels) ts = begins (is_sign RightParen) ts

abbrev pub turn_goes : Turn → List Level → List Terminal → Bool
turn_goes (Want top) levels ts = true
turn_goes (Have or) levels ts = begins (is_key And) ts || begins (is_key Or) ts || can_close levels ts

abbrev pub condition_goes : Reading → Bool
condition_goes r = turn_goes r.turn r.levels r.rest

abbrev pub finished : List Level → Turn → List Node → List Terminal → Read (List Node)
finished [] (Have or) nodes rest = Ok (nodes ++ waiting or OrNode, rest)
finished [] (Want top) nodes rest = Err syntax
finished (l ∷ ls) turn nodes rest = Err syntax

abbrev pub finish : Reading → Read (List Node)
finish r = finished r.levels r.turn r.nodes r.rest

abbrev pub start : List Terminal → Reading
start ts = reading [] (Want (level false false)) [] ts

unfoldable pub condition_at : List Terminal → Read (List Node)
condition_at ts = run condition_goes condition_step (length ts) (start ts) >>= finish

-- ---- selects

abbrev pub and_also : List Node → List Node → List Node
and_also [] more = more
and_also (n ∷ ns) more = (n ∷ ns) ++ (more ++ AndNode ∷ [])

abbrev pub is_all_of : List Terminal → Bool
is_all_of (t ∷ u ∷ v ∷ ts) = is_sign Dot u && is_sign Star v
is_all_of (t ∷ u ∷ []) = false
is_all_of (t ∷ []) = false
is_all_of [] = false

unfoldable pub item_at : List Terminal → Read Item
item_at ts =
    if is_all_of ts then (do
      n ← name_at ts
      rest ← past (is_sign Dot) n.1
      rest ← past (is_sign Star) rest
      Ok (AllOf n.0, rest))
    else (do
      side ← side_at ts
      alias ← alias_at side.1
      Ok (One side.0, alias.1))

unfoldable pub heads_at : List Terminal → Read Heads
heads_at ts =
    if begins (is_sign Star) ts then (do
      rest ← past (is_sign Star) ts
      Ok (All, rest))
    else (do
      items ← listed (is_sign Comma) item_at ts
      Ok (Items items.0, items.1))

unfoldable pub source_at : List Terminal → Read Source
source_at ts = do
  table ← name_at ts
  alias ← alias_at table.1
  Ok (record { table = table.0; alias = alias.0 }, alias.1)

-- the sources so far, their conditions, and what is behind them
pub record Joined : Type 0 where
  pub sources : List Source
  pub condition : List Node
  pub rest : List Terminal

abbrev pub joined : List Source → List Node → List Terminal → Joined
joined sources condition rest = record { sources = sources; condition = condition; rest = rest }

-- a source without a condition
unfoldable pub free_source : List Source → List Node → List Terminal → Result Joined Syntax
free_source sources condition ts = do
  source ← source_at ts
  Ok (joined (sources ++ source.0 ∷ []) condition source.1)

-- JOIN source ON condition
unfoldable pub on_source : List Source → List Node → List Terminal → Result Joined Syntax
on_source sources condition ts = do
  rest ← past (is_key Join) ts
  source ← source_at rest
  rest ← past (is_key On) source.1
  more ← condition_at rest
  Ok (joined (sources ++ source.0 ∷ []) (and_also condition more.0) more.1)

unfoldable pub cross_source : List Source → List Node → List Terminal → Result Joined Syntax
cross_source sources condition ts = do
  rest ← past (is_key Cross) ts
  rest ← past (is_key Join) rest
  free_source sources condition rest

unfoldable pub next_source : List Source → List Node → List Terminal → Result Joined Syntax
next_source sources condition ts =
    if begins (is_sign Comma) ts then (past (is_sign Comma) ts >>= free_source sources condition)
    else (if begins (is_key Cross) ts then cross_source sources condition ts
    else on_source sources condition (skip (is_key Inner) ts))

abbrev pub join_step : Joined → Result Joined Syntax
join_step j = next_source j.sources j.condition j.rest

-- another source comes next
unfoldable pub has_source : List Terminal → Bool
has_source ts = begins (is_sign Comma) ts || begins (is_key Cross) ts || begins (is_key Inner) ts || begins (is_key Join) ts

abbrev pub join_goes : Joined → Bool
join_goes j = has_source j.rest

unfoldable pub sources_at : List Terminal → Result Joined Syntax
sources_at ts = do
  first ← source_at ts
  run join_goes join_step (length ts) (joined (first.0 ∷ []) [] first.1)

unfoldable pub where_at : List Node → List Terminal → Read (List Node)
where_at condition ts =
    if begins (is_key Where) ts then (do
      rest ← past (is_key Where) ts
      more ← condition_at rest
      Ok (and_also condition more.0, more.1))
    else Ok (condition, ts)

unfoldable pub select_at : List Terminal → Read SelectText
select_at ts = do
  rest ← past (is_key Select) ts
  heads ← heads_at (skip (is_key Distinct) rest)
  rest ← past (is_key From) heads.1
  sources ← sources_at rest
  condition ← where_at sources.condition sources.rest
  Ok (record { heads = heads.0; sources = sources.sources; condition = condition.0 }, condition.1)

abbrev pub union_goes : List SelectText × List Terminal → Bool
union_goes (selects, ts) = begins (is_key Union) ts

-- one more behind UNION
unfoldable pub union_step : List SelectText × List Terminal → Read (List SelectText)
union_step (selects, ts) = do
  rest ← past (is_key Union) ts
  select ← select_at (skip (is_key Distinct) rest)
  Ok (selects ++ select.0 ∷ [], select.1)

unfoldable pub selects_at : List Terminal → Read (List SelectText)
selects_at ts = do
  first ← select_at ts
  run union_goes union_step (length ts) (first.0 ∷ [], first.1)

-- nothing is left
abbrev pub ended : {A : Type 0} → A → List Terminal → Result A Syntax
ended x [] = Ok x
ended x (t ∷ ts) = Err syntax

unfoldable pub text_of : List Terminal → Result QueryText Syntax
text_of ts = do
  selects ← selects_at ts
  ended (record { selects = selects.0 }) (skip (is_sign Semicolon) selects.1)
