-- A checked query whose names and numbers can be written has a text of its words.
use Rattle.std.proofs.Common.{◌≡◌, ◌≢◌, ℕ, zero, suc, ◌≤◌, true, List, [], ◌∷◌, length, map, Option, Some, None, option_map, Ok, refl, ap, subst, ◌∙◌, arith}
use Rattle.std.specs.List.{All, slice_get}
use Rattle.std.specs.Option.{option_and_then}
use Rattle.std.proofs.lemmas.Bool.{le-ltb}
use Rattle.std.proofs.lemmas.Option.{slice_get_within}
use Rattle.ba_lex.specs.Spelling.{are_name_bytes, are_word_bytes, fits}
use Rattle.ba_lex.specs.Tokens.{tokens_from, tokens_of}
use Rattle.ba_lex.specs.declared.token.Token.{Token}
use Rattle.ba_model.specs.Fit.{PartFits, PartWithin, column_kind, kind_of, kinds_of}
use Rattle.ba_model.specs.declared.policy.Parameter.{Parameter}
use Rattle.ba_model.specs.declared.query.Operand.{Operand}
use Rattle.ba_model.specs.declared.query.Operand.TheVariants.{Col, Val, Param, Var}
use Rattle.ba_model.specs.declared.query.Part.{Part}
use Rattle.ba_model.specs.declared.query.Query.{Query}
use Rattle.ba_model.specs.declared.schema.Column.{Column}
use Rattle.ba_model.specs.declared.schema.Kind.{Kind}
use Rattle.ba_model.specs.declared.schema.Schema.{Schema}
use Rattle.ba_model.specs.declared.schema.Table.{Table}
use Rattle.ba_model.specs.declared.value.Value.TheVariants.{Null, Int, Text}
use Rattle.ba_sql_print.specs.Printed.{column_name, param_name, query_text, table_name}
use Rattle.ba_sql_print.specs.Spelling.{CanBeSpelled, HasSpelling, HasWords, IsInRange, PartInRange}
use Rattle.ba_sql_print.specs.Words.{query_words}
use Rattle.ba_sql_print.proofs.PrintedLemmas.{CanWrite, CanWritePart, query_spells}
use Rattle.ba_sql_print.proofs.SpellsLemmas.{lexed}

-- what holds of all elements holds of the one at a place
pub at_place : {X : Type 0} (P : X → Type 0) (xs : List X) (n : ℕ) (x : X) → All P xs → slice_get xs n ≡ Some x → P x
at_place P [] n x h e = cc
at_place P (y ∷ ys) zero x h e = subst P (same y x e) (h 0 y (omega arith))
  where
    same : {X : Type 0} (y x : X) → Some y ≡ Some x → y ≡ x
    same y x e = cc
at_place P (y ∷ ys) (suc n) x h e = at_place P ys n x (λ k d lt. h (suc k) d (omega (arith, lt))) e

-- what an operand of some kind stands for
pub then_some : {X Y : Type 0} (o : Option X) (f : X → Option Y) (y : Y) → option_and_then f o ≡ Some y → (x : X) × (o ≡ Some x) × (f x ≡ Some y)
then_some None f y e = cc
then_some (Some x) f y e = (x, refl, e)

pub map_some : {X Y : Type 0} (o : Option X) (f : X → Y) (y : Y) → option_map f o ≡ Some y → (x : X) × (o ≡ Some x) × (f x ≡ y)
map_some None f y e = cc
map_some (Some x) f y e = (x, refl, same (f x) y e)
  where
    same : {X : Type 0} (y x : X) → Some y ≡ Some x → y ≡ x
    same y x e = cc

-- the column that is meant
pub record ColumnThere (s : Schema) (from : List ℕ) (place column : ℕ) : Type 0 where
  pub number : ℕ
  pub table : Table
  pub it : Column
  pub from_is : slice_get from place ≡ Some number
  pub table_is : slice_get s.tables number ≡ Some table
  pub column_is : slice_get table.columns column ≡ Some it

pub column_there : (s : Schema) (params : List Kind) (from : List ℕ) (place column : ℕ) (k : Kind) → kind_of s params [] from (Col place column) ≡ Some k
    → ColumnThere s from place column
column_there s params from place column k e =
    let a = then_some (slice_get from place) (λ table. column_kind s table column) k e in
    let b = then_some (slice_get s.tables a.0) (λ (it : Table). option_map (λ (found : Column). found.kind) (slice_get it.columns column)) k a.2 in
    let c = map_some (slice_get b.0.columns column) (λ (found : Column). found.kind) k b.2 in
    record { number = a.0; table = b.0; it = c.0; from_is = a.1; table_is = b.1; column_is = c.1 }

pub column_called : (s : Schema) (from : List ℕ) (place column : ℕ) (h : ColumnThere s from place column) → column_name s from place column ≡ h.it.name
unfolding column_name
column_called s from place column h = rw (h.from_is, h.table_is, h.column_is) refl

pub table_called : (s : Schema) (number : ℕ) (table : Table) → slice_get s.tables number ≡ Some table → table_name s number ≡ table.name
unfolding table_name
table_called s number table e = rw e refl

pub param_called : (params : List Parameter) (n : ℕ) (it : Parameter) → slice_get params n ≡ Some it → param_name params n ≡ it.name
unfolding param_name
param_called params n it e = rw e refl

pub param_there : (params : List Parameter) (n : ℕ) (k : Kind) → slice_get (kinds_of params) n ≡ Some k → (it : Parameter) × (slice_get params n ≡ Some it)
param_there [] n k e = cc
param_there (p ∷ ps) zero k e = (p, refl)
param_there (p ∷ ps) (suc n) k e = param_there ps n k e

-- ---- from a query that has a spelling

operand_writes : (s : Schema) (p : List Parameter) (from : List ℕ) (k : Kind) (x : Operand) → All CanBeSpelled s.tables
    → All (λ (it : Parameter). are_word_bytes it.name ≡ true) p → length from ≤ 8
    → IsInRange x → kind_of s (kinds_of p) [] from x ≡ Some k → CanWrite s p from x
operand_writes s p from k (Col place column) tables params few range e =
    let h = column_there s (kinds_of p) from place column k e in
    let small = slice_get_within from place h.number h.from_is in
    let spelled = at_place CanBeSpelled s.tables h.number h.table tables h.table_is in (
      omega (arith, small, few),
      ap are_name_bytes (column_called s from place column h) ∙ at_place (λ (c : Column). are_name_bytes c.name ≡ true)
          h.table.columns column h.it spelled.columns h.column_is,
    )
operand_writes s p from k (Val Null) tables params few range e = tt
operand_writes s p from k (Val (Int n)) tables params few range e = range
operand_writes s p from k (Val (Text t)) tables params few range e = tt
operand_writes s p from k (Param n) tables params few range e =
    let h = param_there p n k e in
    ap are_word_bytes (param_called p n h.0 h.1) ∙ at_place (λ (it : Parameter). are_word_bytes it.name ≡ true) p n h.0 params h.1
operand_writes s p from k (Var n) tables params few range e = tt

-- each head has one of the kinds
pub head_kind : (s : Schema) (params : List Kind) (from : List ℕ) (head : List Operand) (kinds : List Kind)
    → map (kind_of s params [] from) head ≡ map Some kinds
    → All (λ x. (k : Kind) × (kind_of s params [] from x ≡ Some k)) head
head_kind s params from [] kinds e k d lt = absurd (omega (arith, lt))
head_kind s params from (x ∷ xs) [] e k d lt = absurd (none e)
  where
    none : {a : Option Kind} {as_ : List (Option Kind)} → a ∷ as_ ≡ [] → ⊥
    none e = cc
head_kind s params from (x ∷ xs) (y ∷ ys) e zero d lt = (y, first e)
  where
    first : {a b : Option Kind} {as_ bs : List (Option Kind)} → a ∷ as_ ≡ b ∷ bs → a ≡ b
    first e = cc
head_kind s params from (x ∷ xs) (y ∷ ys) e (suc k) d lt = head_kind s params from xs ys (rest e) k d (omega (arith, lt))
  where
    rest : {a b : Option Kind} {as_ bs : List (Option Kind)} → a ∷ as_ ≡ b ∷ bs → as_ ≡ bs
    rest e = cc

table_spelled : (s : Schema) (t : ℕ) → All CanBeSpelled s.tables → slice_get s.tables t ≢ None → are_name_bytes (table_name s t) ≡ true
table_spelled s t tables there = by (slice_get s.tables t) refl
  where
    by : (o : Option Table) → slice_get s.tables t ≡ o → are_name_bytes (table_name s t) ≡ true
    by None e = absurd (there e)
    by (Some table) e = ap are_name_bytes (table_called s t table e) ∙ (at_place CanBeSpelled s.tables t table tables e).name

pub part_writes : (s : Schema) (p : List Parameter) (kinds : List Kind) (part : Part) → All CanBeSpelled s.tables
    → All (λ (it : Parameter). are_word_bytes it.name ≡ true) p
    → PartFits s (kinds_of p) [] kinds part → PartWithin part → PartInRange part → CanWritePart s p part
part_writes s p kinds part tables params fits within range = record {
  few = omega (arith, within.tables);
  tables = λ k d lt. table_spelled s _ tables (fits.tables k d lt);
  conds = λ k d lt. record {
    left = operand_writes s p part.from (fits.conds k d lt).kind _ tables params within.tables (range.conds k d lt).left (fits.conds k d lt).left_is;
    right = operand_writes s p part.from (fits.conds k d lt).kind _ tables params within.tables (range.conds k d lt).right (fits.conds k d lt).right_is;
  };
  head = λ k d lt.
      let kind = head_kind s (kinds_of p) part.from part.head kinds fits.head k d lt in
      operand_writes s p part.from kind.0 _ tables params within.tables (range.head k d lt) kind.1;
}

not_too_long : (limit : ℕ) (bs : List ℕ) (ts : List Token) → length bs ≤ limit → tokens_from bs 0 0 ≡ Ok ts → tokens_of limit bs ≡ Ok ts
unfolding tokens_of
not_too_long limit bs ts le e = rw (le-ltb limit (length bs) le) e

pub printed_words : (s : Schema) (p : List Parameter) (query : Query) (limit : ℕ) → HasSpelling s p query → length (query_text s p query) ≤ limit
    → HasWords limit (query_text s p query) (query_words s p query)
printed_words s p query limit h le =
    let fits = h.checked.fits in
    let spelled = query_spells s p query (λ k d lt. part_writes s p fits.kinds _ h.table_names h.param_names (fits.parts k d lt) (h.checked.within k d lt)
    (h.parts k d lt)) in
    let read = lexed 0 spelled in
    record { tokens = read.tokens; read = not_too_long limit (query_text s p query) read.tokens le read.read; say = read.say }
