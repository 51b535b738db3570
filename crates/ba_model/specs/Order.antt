-- The order of values and of rows.
use Rattle.std.specs.Prelude.{List}
use Rattle.std.specs.Ordering.{nat_cmp, int_cmp}
use Rattle.std.specs.declared.cmp.Ordering.{Ordering}
use Rattle.std.specs.declared.cmp.Ordering.TheVariants.{Less, Equal, Greater}
use Rattle.std.specs.Cmp.Lexicographic.{slice_cmp}
use Rattle.ba_model.specs.declared.value.Value.{Value}
use Rattle.ba_model.specs.declared.value.Value.TheVariants.{Null, Int, Text}

-- NULL first, then whole numbers by value, then texts by bytes
abbrev pub value_cmp : Value → Value → Ordering
value_cmp Null Null = Equal
value_cmp Null (Int m) = Less
value_cmp Null (Text t) = Less
value_cmp (Int n) Null = Greater
value_cmp (Int n) (Int m) = int_cmp n m
value_cmp (Int n) (Text t) = Less
value_cmp (Text s) Null = Greater
value_cmp (Text s) (Int m) = Greater
value_cmp (Text s) (Text t) = slice_cmp nat_cmp s t

-- rows column by column, the shorter first where one begins the other
abbrev pub row_cmp : List Value → List Value → Ordering
row_cmp = slice_cmp value_cmp
