-- Names that stand once are found where they stand.
use Rattle.std.proofs.Common.{◌≡◌, ◌≢◌, ℕ, zero, suc, ◌+◌, ◌<◌, ◌≤◌, ◌^◌, Bool, true, false, cond, eqb, ltb, List, [], ◌∷◌, length, map, Option, Some, None, refl, sym, ap, subst, ◌∙◌, arith, eq-eqb, get_or}
use Rattle.std.specs.Cmp.Lexicographic.{pointwise}
use Rattle.std.specs.List.{AllByRecursion, IsDistinct, slice_get}
use Rattle.std.proofs.lemmas.Bool.{both_ways, ltb-false}
use Rattle.std.proofs.lemmas.Fmt.{decimal_injective}
use Rattle.std.proofs.lemmas.Option.{slice_get-get_or, slice_get_within}
use Rattle.std.specs.Fmt.{decimal}
use Rattle.ba_model.specs.SchemaFaults.{AreDistinct, AreTables, or_else, table_excess, tables_excess}
use Rattle.ba_model.specs.declared.limits.Counted.{Counted}
use Rattle.ba_model.specs.declared.limits.Counted.TheVariants.{Tables, Columns}
use Rattle.ba_model.specs.declared.check_schema.SchemaFault.TheVariants.{DuplicateColumn, DuplicateTable, TooMany}
use Rattle.ba_model.specs.declared.schema.Schema.{Schema}
use Rattle.ba_model.specs.declared.schema.Table.{Table}
use Rattle.ba_sql_query.specs.Names.{called}
use Rattle.ba_sql_query.specs.Reads.{HasTable, IsCalled, IsFirst}
use Rattle.ba_sql_syntax.specs.declared.written.Source.{Source}
use Rattle.ba_sql_print.specs.ReadBack.{AreNamedApart}
use Rattle.ba_sql_print.specs.Printed.{source_name}
use Rattle.ba_sql_print.proofs.WrittenLemmas.{written_source, written_sources}

text_itself : (n : List ℕ) → pointwise eqb n n ≡ true
text_itself [] = refl
text_itself (b ∷ bs) = rw (eq-eqb b b refl) (text_itself bs)

later_differs : {X : Type 0} (name : X → List ℕ) (called : List ℕ) (xs : List X) (j : ℕ) (y : X)
    → AllByRecursion (λ other. pointwise eqb called other ≡ false) (map name xs) → slice_get xs j ≡ Some y → name y ≢ called
later_differs name called [] j y h e same = cc
later_differs name called (x ∷ xs) zero y h e same =
    let is : name x ≡ called = ap name (some_same x y e) ∙ same in
    both_ways (pointwise eqb called (name x)) h.0 (ap (pointwise eqb called) is ∙ text_itself called)
  where
    some_same : {X : Type 0} (x y : X) → Some x ≡ Some y → x ≡ y
    some_same x y e = cc
later_differs name called (x ∷ xs) (suc j) y h e same = later_differs name called xs j y h.1 e same

-- two places have two names
apart : {X : Type 0} (name : X → List ℕ) (xs : List X) (i j : ℕ) (x y : X) → AreDistinct (map name xs) → i < j → slice_get xs i ≡ Some x
    → slice_get xs j ≡ Some y → name x ≡ name y → ⊥
unfolding IsDistinct
apart name [] i j x y h lt e f same = cc
apart name (z ∷ zs) zero zero x y h lt e f same = absurd (omega (arith, lt))
apart name (z ∷ zs) zero (suc j) x y h lt e f same = later_differs name (name z) zs j y h.0 f (sym same ∙ ap name (some_same z x e))
  where
    some_same : {X : Type 0} (x y : X) → Some x ≡ Some y → y ≡ x
    some_same x y e = cc
apart name (z ∷ zs) (suc i) zero x y h lt e f same = absurd (omega (arith, lt))
apart name (z ∷ zs) (suc i) (suc j) x y h lt e f same = apart name zs i j x y h.1 (omega (arith, lt)) e f same

pub first_so : {X : Type 0} (name : X → List ℕ) (xs : List X) (n : ℕ) (x : X) (sought : List ℕ) → AreDistinct (map name xs) → slice_get xs n ≡ Some x
    → sought ≡ name x → n < 2 ^ 32 → IsFirst (λ y. name y ≡ sought) xs n
first_so name xs n x sought h e is bits = record {
  here = (x, e, sym is);
  first = λ k lt other. apart name xs k n other.0 x h lt other.1 e (other.2 ∙ is);
  bits = bits;
}

-- ---- counts

some_none : {X : Type 0} {x : X} → Some x ≡ None → ⊥
some_none e = cc

none_so : (t : Bool) (what : Counted) (more : Option Counted) → cond t (Some what) more ≡ None → t ≡ false
none_so true what more e = absurd (some_none e)
none_so false what more e = refl

then_none : (t : Bool) (what : Counted) (more : Option Counted) → cond t (Some what) more ≡ None → more ≡ None
then_none true what more e = absurd (some_none e)
then_none false what more e = e

else_none : (o p : Option Counted) → or_else o p ≡ None → (o ≡ None) × (p ≡ None)
else_none None p e = (refl, e)
else_none (Some what) p e = absurd (some_none e)

few_columns : (tables : List Table) (n : ℕ) (table : Table) → tables_excess tables ≡ None → slice_get tables n ≡ Some table → length table.columns ≤ 32
few_columns [] n table e is = cc
few_columns (t ∷ ts) zero table e is =
    let h = else_none (table_excess t) (tables_excess ts) e in
    subst (λ (it : Table). length it.columns ≤ 32) (some_same t table is) (ltb-false 32 (length t.columns) (none_so (ltb 32 (length t.columns)) Columns _ h.0))
  where
    some_same : {X : Type 0} (x y : X) → Some x ≡ Some y → x ≡ y
    some_same x y e = cc
few_columns (t ∷ ts) (suc n) table e is = few_columns ts n table (else_none (table_excess t) (tables_excess ts) e).1 is

few_tables : (tables : List Table) → AreTables tables → length tables ≤ 64
few_tables tables h = ltb-false 64 (length tables) (none_so (ltb 64 (length tables)) Tables (tables_excess tables) (h.lacks (TooMany Tables 64)))

table_columns : (tables : List Table) (n : ℕ) (table : Table) → AreTables tables → slice_get tables n ≡ Some table → length table.columns ≤ 32
table_columns tables n table h is = few_columns tables n table (then_none (ltb 64 (length tables)) Tables (tables_excess tables) (h.lacks (TooMany Tables 64))) is

pub checked_apart : (tables : List Table) → AreTables tables → AreNamedApart tables
checked_apart tables h = record {
  tables = h.lacks DuplicateTable;
  columns = λ k d lt. (h.lacks DuplicateColumn k d lt).names;
  few_tables = omega (arith, few_tables tables h);
  few_columns = λ k d lt. let few = table_columns tables k (get_or tables k d) h (slice_get-get_or tables k d lt) in omega (arith, few);
}

-- ---- tables and columns

pub has_table : (s : Schema) (n : ℕ) (table : Table) (sought : List ℕ) → AreNamedApart s.tables → slice_get s.tables n ≡ Some table → sought ≡ table.name
    → HasTable s sought n
has_table s n table sought h is e =
    let small = slice_get_within s.tables n table is in
    first_so (λ (it : Table). it.name) s.tables n table sought h.tables is e (omega (arith, h.few_tables, small))

-- ---- sources

pub source_at : (s : Schema) (m : ℕ) (from : List ℕ) (k t : ℕ) → slice_get from k ≡ Some t
    → slice_get (written_sources s m from) k ≡ Some (written_source s (m + k) t)
source_at s m [] k t e = cc
source_at s m (x ∷ xs) zero t e = both_same m x (m + 0) t (let z : m ≡ m + 0 = omega arith in z) e
  where
    both_same : (a x b t : ℕ) → a ≡ b → Some x ≡ Some t → Some (written_source s a x) ≡ Some (written_source s b t)
    both_same a x b t p q = let r : x ≡ t = cc in ap (λ (n : ℕ). Some (written_source s n x)) p ∙ ap (λ (n : ℕ). Some (written_source s b n)) r
source_at s m (x ∷ xs) (suc k) t e = source_at s (suc m) xs k t e ∙ ap (λ (n : ℕ). Some (written_source s n t)) (let z : suc m + k ≡ m + suc k = omega arith in z)

pub source_called : (s : Schema) (m : ℕ) (from : List ℕ) (k : ℕ) (it : Source) → slice_get (written_sources s m from) k ≡ Some it
    → (k < length from) × (called it ≡ source_name (m + k))
source_called s m [] k it e = cc
source_called s m (x ∷ xs) zero it e = (omega arith, ap called (some_same (written_source s m x) it e) ∙ ap source_name (let z : m ≡ m + 0 = omega arith in z))
  where
    some_same : {X : Type 0} (x y : X) → Some x ≡ Some y → y ≡ x
    some_same x y e = cc
source_called s m (x ∷ xs) (suc k) it e =
    let more = source_called s (suc m) xs k it e in
    (omega (arith, more.0), more.1 ∙ ap source_name (let z : suc m + k ≡ m + suc k = omega arith in z))

names_same : (a b : ℕ) → a < 2 ^ 64 → b < 2 ^ 64 → source_name a ≡ source_name b → a ≡ b
names_same a b la lb e = decimal_injective a b la lb (tail (decimal a) (decimal b) e)
  where
    tail : (us vs : List ℕ) → 116 ∷ us ≡ 116 ∷ vs → us ≡ vs
    tail us vs e = cc

-- each source is called apart
pub is_called : (s : Schema) (from : List ℕ) (place t : ℕ) → length from ≤ 8 → slice_get from place ≡ Some t
    → IsCalled (written_sources s 0 from) (source_name place) place
is_called s from place t few is =
    let small = slice_get_within from place t is in
    record {
      here = (written_source s (0 + place) t, source_at s 0 from place t is, ap source_name (let z : 0 + place ≡ place = omega arith in z));
      only = λ k other.
          let it = source_called s 0 from k other.0 other.1 in
          let same : k ≡ 0 + k = omega arith in
          names_same k place (omega (arith, it.0, few)) (omega (arith, small, few)) (ap source_name same ∙ sym it.1 ∙ other.2);
      bits = omega (arith, small, few);
    }
