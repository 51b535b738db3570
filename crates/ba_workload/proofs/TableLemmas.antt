-- The table files read as the tables' rows.
use Rattle.std.proofs.Common.{◌≡◌, ◌∙◌, ℕ, zero, suc, pos, ◌+◌, ◌*◌, ◌%◌, ◌^◌, ◌<◌, ◌≤◌, ◌||◌, ◌&&◌, Bool, true, false, not, cond, inr, inl, List, [], ◌∷◌, ◌++◌, length, map, Ok, refl, sym, ap, ap₂, subst, arith, codes, decimal, length-append}
use Rattle.std.specs.List.{AllByRecursion, AllZip, flat_map, list_all, list_any}
use Rattle.std.specs.Str.{IsUtf8}
use Rattle.std.proofs.lemmas.Bool.{ne_eqb}
use Rattle.std.proofs.lemmas.Fmt.{IsAscii-decimal, decimal_by_steps, decimal_nonempty, digits_decimal, digits_value-decimal}
use Rattle.std.proofs.lemmas.List.Folds.{list_all-append, list_any-append}
use Rattle.std.proofs.lemmas.Nat.{mod_below}
use Rattle.std.proofs.lemmas.Str.{IsUtf8-append, IsUtf8-from_ascii}
use Rattle.json.proofs.Printed.Utf8.{IsUtf8-are_ascii}
use Rattle.csv.specs.Machine.{next_record}
use Rattle.csv.specs.Reading.{default_config, records, records_from, records_next, strip_bom}
use Rattle.csv.specs.Writing.{default_writer, field_text, fields_text, is_blank, needs_byte, quoted, read_back, row_body, row_text}
use Rattle.csv.specs.declared.parser.State.TheVariants as st
use Rattle.csv.proofs.RoundTrip.{read-write}
use Rattle.ba_model.specs.Limits.{most_rows}
use Rattle.ba_model.specs.declared.schema.Column.{Column}
use Rattle.ba_model.specs.declared.schema.Kind.TheVariants as kind
use Rattle.ba_model.specs.declared.schema.Table.{Table}
use Rattle.ba_model.specs.declared.value.Value.{Value}
use Rattle.ba_model.specs.declared.value.Value.TheVariants.{Int, Text}
use Rattle.ba_tables.proofs.NumberLemmas.{own}
use Rattle.ba_tables.proofs.SpellLemmas.{reads_as_spelled_is}
use Rattle.ba_tables.specs.Spelling.{SaysNull, Spells, SpellsRow}
use Rattle.ba_tables.specs.TableFile.{names_of, rows_of_file}
use Rattle.ba_workload.specs.Chosen.{attended, event_of, events, users}
use Rattle.ba_workload.specs.Lists.{all_of, each_of}
use Rattle.ba_workload.specs.Reads.{TablesReadBack}
use Rattle.ba_workload.specs.Standard.{attendances_table, column, events_table, users_table}
use Rattle.ba_workload.specs.Tables.{attendance_row, attendance_rows, attendances_of, attendances_text, duration_of, event_row, event_rows, events_text, field_of, line_of, lines_of, next_field, time_of, user_row, user_rows, users_text}

-- ---- lines of CSV

-- a field that needs no quotes
abbrev IsPlain : List ℕ → Type 0
IsPlain field = list_any (needs_byte default_writer) field ≡ false

field_plain : (field : List ℕ) → IsPlain field → field_text default_writer field ≡ field
field_plain field h = ap (λ b. cond b (quoted default_writer field) field) h

next_plain : (vs : List Value) → AllByRecursion (λ v. IsPlain (field_of v)) vs → fields_text default_writer (map field_of vs) ≡ flat_map next_field vs
unfolding fields_text
next_plain [] h = refl
next_plain (v ∷ vs) h = ap₂ (λ (xs ys : List ℕ). 44 ∷ (xs ++ ys)) (field_plain (field_of v) h.0) (next_plain vs h.1)

-- a line is what the writer writes for the fields, of which there are two or more
line_plain : (v w : Value) (vs : List Value) → AllByRecursion (λ x. IsPlain (field_of x)) (v ∷ w ∷ vs) → line_of (v ∷ w ∷ vs) ≡ row_text default_writer (map field_of (v ∷ w ∷ vs))
unfolding is_blank
line_plain v w vs h = sym (ap₂ (λ (xs ys : List ℕ). (xs ++ ys) ++ 10 ∷ []) (field_plain (field_of v) h.0) (next_plain (w ∷ vs) h.1))

-- ---- records

-- the text of records
texts : List (List (List ℕ)) → List ℕ
texts rows = flat_map (row_text default_writer) rows

no_more : (n : ℕ) → records_from default_config n st.StartRecord [] ≡ []
unfolding next_record records_from
no_more zero = refl
no_more (suc n) = refl

records_are : (rows : List (List (List ℕ))) (n : ℕ) → AllByRecursion (λ row. read_back row ≡ row) rows → length rows ≤ n → records_from default_config n st.StartRecord (texts rows) ≡ rows
unfolding records_from texts
records_are [] n h few = no_more n
records_are (row ∷ rows) zero h few = absurd (omega (arith, few))
records_are (row ∷ rows) (suc n) h few =
    ap (records_next (records_from default_config n)) (read-write row (texts rows)) ∙ ap₂ (λ (x : List (List ℕ)) (xs : List (List (List ℕ))). x ∷ xs) h.0 (records_are rows n h.1 (omega (arith, few)))

row_long : (row : List (List ℕ)) → 0 < length (row_text default_writer row)
row_long row =
    let quotes : List ℕ = cond (is_blank default_writer row) (34 ∷ 34 ∷ []) [] in
    let feed : List ℕ = 10 ∷ [] in
    let a = length-append (row_body default_writer row) (quotes ++ feed) in
    let b = length-append quotes feed in
    omega (arith, a, b)

texts_long : (rows : List (List (List ℕ))) → length rows ≤ length (texts rows)
unfolding texts
texts_long [] = omega arith
texts_long (row ∷ rows) =
    let a = length-append (row_text default_writer row) (texts rows) in
    let b = row_long row in
    let c = texts_long rows in
    omega (arith, a, b, c)

-- ---- a table's file

-- a row whose line is what the writer writes, and whose fields spell it
record IsGood (columns : List Column) (row : List Value) : Type 0 where
  written : line_of row ≡ row_text default_writer (map field_of row)
  back : read_back (map field_of row) ≡ map field_of row
  spells : SpellsRow columns (map field_of row) row

lines_are : (columns : List Column) (rows : List (List Value)) → AllByRecursion (IsGood columns) rows → lines_of rows ≡ texts (map (map field_of) rows)
unfolding texts
lines_are columns [] h = refl
lines_are columns (row ∷ rows) h = ap₂ (λ (xs ys : List ℕ). xs ++ ys) h.0.written (lines_are columns rows h.1)

backs : (columns : List Column) (rows : List (List Value)) → AllByRecursion (IsGood columns) rows → AllByRecursion (λ row. read_back row ≡ row) (map (map field_of) rows)
backs columns [] h = tt
backs columns (row ∷ rows) h = (h.0.back, backs columns rows h.1)

all_spell : (columns : List Column) (rows : List (List Value)) → AllByRecursion (IsGood columns) rows → AllZip (SpellsRow columns) (map (map field_of) rows) rows
all_spell columns [] h = tt
all_spell columns (row ∷ rows) h = (h.0.spells, all_spell columns rows h.1)

table_reads : (table : Table) (rows : List (List Value)) (text : List ℕ) → strip_bom text ≡ text → text ≡ row_text default_writer (names_of table.columns) ++ lines_of rows → read_back (names_of table.columns) ≡ names_of table.columns
    → AllByRecursion (IsGood table.columns) rows → length rows ≤ most_rows → rows_of_file table text ≡ Ok rows
unfolding texts
table_reads table rows text plain is header good few =
    let names = names_of table.columns in
    let lines = map (map field_of) rows in
    let whole : strip_bom text ≡ texts (names ∷ lines) = plain ∙ is ∙ ap (λ xs. row_text default_writer names ++ xs) (lines_are table.columns rows good) in
    let enough : length (names ∷ lines) ≤ length (texts (names ∷ lines)) + 1 = let long = texts_long (names ∷ lines) in omega (arith, long) in
    (reads_as_spelled_is table text rows).1 (record {
      lines = lines;
      header = ap (records default_config) whole ∙ records_are (names ∷ lines) (length (texts (names ∷ lines)) + 1) (header, backs table.columns rows good) enough;
      rows_are = all_spell table.columns rows good;
      few = few;
    })

-- ---- fields

both : (a b : Bool) → a ≡ true → b ≡ true → (a && b) ≡ true
both true b e f = f
both false b e f = cc e

none_any : (p : ℕ → Bool) (xs : List ℕ) → list_all (λ x. not (p x)) xs ≡ true → list_any p xs ≡ false
none_any p [] h = refl
none_any p (x ∷ xs) h = by (p x) h (none_any p xs)
  where
    by : (b : Bool) → (not b && list_all (λ y. not (p y)) xs) ≡ true → (list_all (λ y. not (p y)) xs ≡ true → list_any p xs ≡ false) → (b || list_any p xs) ≡ false
    by true h rest = cc h
    by false h rest = rest h

digit_plain : (n : ℕ) → n < 10 → not (needs_byte default_writer (48 + n)) ≡ true
digit_plain n small = rw (ne_eqb (48 + n) 44 (λ e. omega arith), ne_eqb (48 + n) 34 (λ e. omega arith), ne_eqb (48 + n) 13 (λ e. omega arith), ne_eqb (48 + n) 10 (λ e. omega arith)) refl

decimal_pass : (n : ℕ) → n < 2 ^ 64 → list_all (λ b. not (needs_byte default_writer b)) (decimal n) ≡ true
decimal_pass =
    let p : ℕ → Bool = λ b. not (needs_byte default_writer b) in
    decimal_by_steps (λ n ds. list_all p ds ≡ true) (λ n small. both (p (48 + n)) true (digit_plain n small) refl)
    (λ n ds big before. list_all-append p ds ((48 + n % 10) ∷ []) ∙ both (list_all p ds) (list_all p ((48 + n % 10) ∷ [])) before (both (p (48 + n % 10)) true (digit_plain (n % 10) (omega arith)) refl))

decimal_plain : (n : ℕ) → n < 2 ^ 64 → IsPlain (decimal n)
decimal_plain n h = none_any (needs_byte default_writer) (decimal n) (decimal_pass n h)

either : (a b : Bool) → a ≡ false → b ≡ false → (a || b) ≡ false
either a b e f = rw (e, f) refl

-- a letter and a number
named_plain : (letter : List ℕ) (n : ℕ) → IsPlain letter → n < 2 ^ 64 → IsPlain (letter ++ decimal n)
named_plain letter n l h = list_any-append (needs_byte default_writer) letter (decimal n) ∙ either _ _ l (decimal_plain n h)

named_utf8 : (letter : List ℕ) (n : ℕ) → IsUtf8 letter → n < 2 ^ 64 → IsUtf8 (letter ++ decimal n)
named_utf8 letter n l h = IsUtf8-append letter (decimal n) l (IsUtf8-from_ascii (decimal n) (IsAscii-decimal n h))

never_null : (name field : List ℕ) (k : _) → ¬ (SaysNull (column name k) field)
never_null name field k h = cc (h.may_be)

spells_number : (name : List ℕ) (n : ℕ) → n < 2 ^ 63 → Spells (column name kind.Int) (decimal n) (Int (pos n))
spells_number name n h =
    let small : n < 2 ^ 64 = omega (arith, h) in
    let value = digits_value-decimal own n small in
    inr (
      never_null name (decimal n) kind.Int,
      (
        pos n,
        inl (record {
          digits = record { some_digit = decimal_nonempty n small; digits = digits_decimal own n small };
          value = ap pos (sym value);
          fits = subst (λ m. m < 2 ^ 63) (sym value) h;
        }),
        refl,
      ),
    )

spells_text : (name field : List ℕ) → IsUtf8 field → Spells (column name kind.Text) field (Text field)
spells_text name field h = inr (never_null name field kind.Text, (h, refl))

-- ---- rows

user_good : (u : ℕ) → u ≤ users → IsGood users_table.columns (user_row u)
unfolding user_row is_blank
user_good u h =
    let small : u < 2 ^ 63 = omega (arith, h) in
    let wide : u < 2 ^ 64 = omega (arith, h) in
    record {
      written = line_plain (Int (pos u)) (Text (codes "u" ++ decimal u)) [] (decimal_plain u wide, (named_plain (codes "u") u refl wide, tt));
      back = refl;
      spells = (spells_number (codes "UId") u small, (spells_text (codes "Name") (codes "u" ++ decimal u) (named_utf8 (codes "u") u (IsUtf8-are_ascii (codes "u") refl) wide), tt));
    }

event_good : (e : ℕ) → e ≤ events → IsGood events_table.columns (event_row e)
unfolding event_row is_blank
event_good e h =
    let small : e < 2 ^ 63 = omega (arith, h) in
    let wide : e < 2 ^ 64 = omega (arith, h) in
    let days = mod_below e 7 (omega arith) in
    let long : duration_of e < 2 ^ 63 = omega (arith, days) in
    let longer : duration_of e < 2 ^ 64 = omega (arith, days) in
    record {
      written = line_plain (Int (pos e)) (Text (codes "e" ++ decimal e)) (Int (pos (duration_of e)) ∷ []) (decimal_plain e wide, (named_plain (codes "e") e refl wide, (decimal_plain (duration_of e) longer, tt)));
      back = refl;
      spells = (
        spells_number (codes "EId") e small,
        (spells_text (codes "Title") (codes "e" ++ decimal e) (named_utf8 (codes "e") e (IsUtf8-are_ascii (codes "e") refl) wide), (spells_number (codes "Duration") (duration_of e) long, tt)),
      );
    }

attendance_good : (u j : ℕ) → u ≤ users → j < attended → IsGood attendances_table.columns (attendance_row u j)
unfolding attendance_row is_blank
attendance_good u j h k =
    let which = mod_below (7 * u + 13 * j) events (omega arith) in
    let user : u < 2 ^ 63 = omega (arith, h) in
    let user_wide : u < 2 ^ 64 = omega (arith, h) in
    let event : event_of u j < 2 ^ 63 = omega (arith, which) in
    let event_wide : event_of u j < 2 ^ 64 = omega (arith, which) in
    let time : time_of u j < 2 ^ 63 = omega (arith, h, k) in
    let time_wide : time_of u j < 2 ^ 64 = omega (arith, h, k) in
    record {
      written = line_plain (Int (pos u)) (Int (pos (event_of u j))) (Int (pos (time_of u j)) ∷ []) (decimal_plain u user_wide, (decimal_plain (event_of u j) event_wide, (decimal_plain (time_of u j) time_wide, tt)));
      back = refl;
      spells = (spells_number (codes "UId") u user, (spells_number (codes "EId") (event_of u j) event, (spells_number (codes "At") (time_of u j) time, tt)));
    }

-- ---- all rows

each_is : {X : Type 0} (P : X → Type 0) (one : ℕ → X) (first n : ℕ) → ((k : ℕ) → k < first + n → P (one k)) → AllByRecursion P (each_of one first n)
unfolding each_of
each_is P one first zero h = tt
each_is P one first (suc n) h = (h first (omega arith), each_is P one (first + 1) n (λ k few. h k (omega (arith, few))))

pub append_all : {X : Type 0} (P : X → Type 0) (xs ys : List X) → AllByRecursion P xs → AllByRecursion P ys → AllByRecursion P (xs ++ ys)
append_all P [] ys h k = k
append_all P (x ∷ xs) ys h k = (h.0, append_all P xs ys h.1 k)

all_are : {X : Type 0} (P : X → Type 0) (some : ℕ → List X) (first n : ℕ) → ((k : ℕ) → k < first + n → AllByRecursion P (some k)) → AllByRecursion P (all_of some first n)
unfolding all_of
all_are P some first zero h = tt
all_are P some first (suc n) h = append_all P (some first) (all_of some (first + 1) n) (h first (omega arith)) (all_are P some (first + 1) n (λ k few. h k (omega (arith, few))))

length-each : {X : Type 0} (one : ℕ → X) (first n : ℕ) → length (each_of one first n) ≡ n
unfolding each_of
length-each one first zero = refl
length-each one first (suc n) = ap suc (length-each one (first + 1) n)

length-all : {X : Type 0} (some : ℕ → List X) (first n : ℕ) → ((k : ℕ) → length (some k) ≡ attended) → length (all_of some first n) ≡ 4 * n
unfolding all_of
length-all some first zero h = refl
length-all some first (suc n) h =
    let a = length-append (some first) (all_of some (first + 1) n) in
    let b = h first in
    let c = length-all some (first + 1) n h in
    omega (arith, a, b, c)

users_read : rows_of_file users_table users_text ≡ Ok user_rows
unfolding users_text strip_bom fields_text is_blank
users_read =
    table_reads users_table user_rows users_text refl refl refl (each_is (IsGood users_table.columns) user_row 1 users (λ k few. user_good k (omega (arith, few))))
    (let long = length-each user_row 1 users in omega (arith, long))

events_read : rows_of_file events_table events_text ≡ Ok event_rows
unfolding events_text strip_bom fields_text is_blank
events_read =
    table_reads events_table event_rows events_text refl refl refl (each_is (IsGood events_table.columns) event_row 1 events (λ k few. event_good k (omega (arith, few))))
    (let long = length-each event_row 1 events in omega (arith, long))

attendances_read : rows_of_file attendances_table attendances_text ≡ Ok attendance_rows
unfolding attendances_text strip_bom fields_text is_blank
attendances_read =
    table_reads attendances_table attendance_rows attendances_text refl refl refl
    (all_are (IsGood attendances_table.columns) attendances_of 1 users
    (λ u few. each_is (IsGood attendances_table.columns) (attendance_row u) 0 attended (λ j less. attendance_good u j (omega (arith, few)) (omega (arith, less)))))
    (let long = length-all attendances_of 1 users (λ u. length-each (attendance_row u) 0 attended) in omega (arith, long))

pub tables_read : TablesReadBack
tables_read = record { users = users_read; events = events_read; attendances = attendances_read }
