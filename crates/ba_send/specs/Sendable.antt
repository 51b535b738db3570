-- Which queries aren't sent under a context, and why.
use Rattle.std.specs.Prelude.{◌≡◌, ℕ, ◌<◌, ◌≤◌, Bool, false, true, ◌||◌, ◌&&◌, ◌==◌, not, List, length}
use Rattle.std.specs.List.{list_any}
use Rattle.std.specs.Option.{option_map_or}
use Rattle.ba_model.specs.declared.policy.Context.{Context}
use Rattle.ba_model.specs.declared.query.Atom.{Atom}
use Rattle.ba_model.specs.declared.query.Op.{Op}
use Rattle.ba_model.specs.declared.query.Op.TheVariants.{Eq, Ne, Lt, Le, IsNull, NotNull}
use Rattle.ba_model.specs.declared.query.Operand.{Operand}
use Rattle.ba_model.specs.declared.query.Operand.TheVariants.{Col, Val, Param, Var}
use Rattle.ba_model.specs.declared.query.Part.{Part}
use Rattle.ba_model.specs.declared.query.Query.{Query}
use Rattle.ba_model.specs.declared.schema.Schema.{Schema}
use Rattle.ba_model.specs.declared.value.Value.TheVariants.{Null, Int, Text}
use Rattle.ba_sql_print.specs.Printed.{column_at}
use Rattle.ba_target.specs.declared.target.Database.{Database}
use Rattle.ba_target.specs.declared.target.Database.TheVariants.{PostgreSql, Sqlite, MySql}
use Rattle.ba_target.specs.declared.target.Target.{Target}
use Rattle.ba_send.specs.Sent.{closed, most_sent_bytes, sent_bytes}
use Rattle.ba_send.specs.declared.fault.Unsendable.{Unsendable}
use Rattle.ba_send.specs.declared.fault.Unsendable.TheVariants.{NullTest, ZeroByte, TooLong}

-- ---- IS NULL of a column that has no NULL

-- it is a column of the part's tables in which the schema lets no NULL stand
abbrev pub is_filled : Schema → List ℕ → Operand → Bool
is_filled schema from (Col place column) =
    option_map_or (λ it. not it.nullable) (column_at schema from place column) false
is_filled schema from (Val value) = false
is_filled schema from (Param n) = false
is_filled schema from (Var n) = false

abbrev pub is_null : Op → Bool
is_null Eq = false
is_null Ne = false
is_null Lt = false
is_null Le = false
is_null IsNull = true
is_null NotNull = false

-- the atom says IS NULL of such a column
abbrev pub is_null_test : Schema → List ℕ → Atom → Bool
is_null_test schema from atom = is_null atom.op && is_filled schema from atom.left

abbrev pub part_has_null_test : Schema → Part → Bool
part_has_null_test schema part = list_any (is_null_test schema part.from) part.conds

abbrev pub query_has_null_test : Schema → Query → Bool
query_has_null_test schema query = list_any (part_has_null_test schema) query.parts

-- As it is judged, no row meets such a test. MySQL has some that do: those with a date of zeros,
-- and under a setting the one that was inserted last.
abbrev pub misreads : Database → Schema → Query → Bool
misreads PostgreSql schema query = false
misreads Sqlite schema query = false
misreads MySql schema query = query_has_null_test schema query

-- ---- texts with the byte 0

-- it is a text with the byte 0
abbrev pub has_zero : Operand → Bool
has_zero (Val Null) = false
has_zero (Val (Int n)) = false
has_zero (Val (Text text)) = list_any (λ b. b == 0) text
has_zero (Col place column) = false
has_zero (Param n) = false
has_zero (Var n) = false

abbrev pub atom_has_zero : Atom → Bool
atom_has_zero atom = has_zero atom.left || has_zero atom.right

abbrev pub part_has_zero : Part → Bool
part_has_zero part = list_any has_zero part.head || list_any atom_has_zero part.conds

abbrev pub query_has_zero : Query → Bool
query_has_zero query = list_any part_has_zero query.parts

-- ---- why a query isn't sent: the first of three reasons

abbrev pub IsUnsendable : Target → Schema → Context → Query → Unsendable → Type 0
IsUnsendable target schema context query NullTest =
    misreads target.database schema query ≡ true
IsUnsendable target schema context query ZeroByte =
    (misreads target.database schema query ≡ false)
    × (query_has_zero (closed context query) ≡ true)
IsUnsendable target schema context query TooLong =
    (misreads target.database schema query ≡ false)
    × (query_has_zero (closed context query) ≡ false)
    × (most_sent_bytes < length (sent_bytes target schema context query))

-- none of them
pub record IsSendable (target : Target) (schema : Schema) (context : Context) (query : Query) :
    Type 0 where
  pub read_as_judged : misreads target.database schema query ≡ false
  pub no_zero : query_has_zero (closed context query) ≡ false
  pub short : length (sent_bytes target schema context query) ≤ most_sent_bytes
