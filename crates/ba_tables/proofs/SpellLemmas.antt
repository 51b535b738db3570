-- A file reads as rows exactly where it spells them.
use Rattle.std.proofs.Common.{◌≡◌, ◌≢◌, ℕ, suc, ◌+◌, ◌-◌, ◌≤◌, ◌^◌, ◌==◌, inl, inr, Bool, true, false, cond, nat_le, List, [], ◌∷◌, length, drop, slice_index, Option, Some, None, Result, Ok, Err, refl, arith, ◌∙◌, sym, ap, subst, ℤ, pos, neg_ℤ}
use Rattle.std.proofs.lemmas.Bool.{eqb-true}
use Rattle.std.proofs.lemmas.Bool.Decides.{nat_tests}
use Rattle.std.proofs.lemmas.Fmt.{IsAscii-from_digits}
use Rattle.std.proofs.lemmas.Slice.Eq.{bytes_eq-Decides}
use Rattle.std.proofs.lemmas.Str.{IsUtf8-from_ascii, IsUtf8-from_is_utf8, is_utf8-from_IsUtf8}
use Rattle.std.specs.Cmp.Lexicographic.{pointwise_decides}
use Rattle.std.specs.List.{AllZip, list_all}
use Rattle.std.specs.Option.{ok_or, option_map}
use Rattle.std.specs.Str.{IsAscii, IsUtf8, is_utf8}
use Rattle.csv.specs.Reading.{default_config, records, strip_bom}
use Rattle.ba_model.specs.declared.schema.Column.{Column}
use Rattle.ba_model.specs.declared.schema.Kind.{Kind}
use Rattle.ba_model.specs.declared.schema.Kind.TheVariants.{Int as IntKind, Text as TextKind}
use Rattle.ba_model.specs.declared.schema.Table.{Table}
use Rattle.ba_model.specs.declared.value.Value.{Value}
use Rattle.ba_model.specs.declared.value.Value.TheVariants.{Null, Int}
use Rattle.ba_model.specs.Readings.{◌>>=◌}
use Rattle.ba_model.specs.Limits.{most_rows}
use Rattle.ba_tables.specs.Spelling.{IsDigits, ReadsAsSpelled, RowsAreUnique, Spells, SpellsNumber, SpellsOfKind, SpellsRow, SpellsTable}
use Rattle.ba_tables.specs.TableFile.{digits_up_to, is_header, names_of, number_of, row_at, rows_from, rows_of_file, rows_of_lines, rows_of_rest, says_null, some_value, value_at, values_from, within_limit}
use Rattle.ba_tables.specs.declared.fault.TableFault.{TableFault}
use Rattle.ba_tables.specs.declared.fault.TableFault.TheVariants.{BadHeader, BadNumber, TooMany}
use Rattle.ba_tables.proofs.AgreeLemmas.{both, halves}
use Rattle.ba_tables.proofs.FileFitLemmas.{row_told, went_through}
use Rattle.ba_tables.proofs.FrontLemmas.{row_is}
use Rattle.ba_tables.proofs.NumberLemmas.{minus_is, own, plain_is, spelled, spelled_told}
use Rattle.ba_tables.proofs.RowsLemmas.{file_is, lines_are, within}
use Rattle.ba_tables.proofs.ValueLemmas.{cons_ascii, null_is, null_test, null_text, null_told, some_is, some_test, some_told, value_same}

mapped : {X Y : Type 0} (f : X → Y) (o : Option X) (y : Y) → option_map f o ≡ Some y → (x : X) × (o ≡ Some x) × (f x ≡ y)
mapped f None y e = cc e
mapped f (Some x) y e = (x, refl, cc e)

-- numbers
begins : (field : List ℕ) → (slice_index field 0 == 45) ≡ true → field ≡ 45 ∷ drop 1 field
begins [] e = cc e
begins (c ∷ cs) e = let same : c ≡ 45 = eqb-true c 45 e in rw same refl

pub number_spells : (field : List ℕ) (n : ℤ) → number_of field ≡ Some n → SpellsNumber field n
number_spells field n e = by (slice_index field 0 == 45) refl
  where
    by : (b : Bool) → (slice_index field 0 == 45) ≡ b → SpellsNumber field n
    by true t =
        let m = mapped (λ k. neg_ℤ (pos k)) (digits_up_to (2 ^ 63) (drop 1 field)) n (sym (minus_is field (eqb-true _ _ t)) ∙ e) in
        let told = spelled_told (2 ^ 63) (drop 1 field) m.0 m.1 in
        inr (record {
          rest = drop 1 field;
          sign = begins field t;
          digits = record { some_digit = told.0.some_digit; digits = told.0.digits };
          value = sym m.2 ∙ ap (λ k. neg_ℤ (pos k)) told.1;
          fits = told.0.within;
        })
    by false t =
        let apart : slice_index field 0 ≢ 45 = λ same. cc (rw same at t) in
        let m = mapped (λ k. pos k) (digits_up_to (2 ^ 63 - 1) field) n (sym (plain_is field apart) ∙ e) in
        let told = spelled_told (2 ^ 63 - 1) field m.0 m.1 in
        let within = told.0.within in
        inl (record {
          digits = record { some_digit = told.0.some_digit; digits = told.0.digits };
          value = sym m.2 ∙ ap (λ k. pos k) told.1;
          fits = omega arith;
        })

no_minus : (field : List ℕ) → IsDigits field → slice_index field 0 ≢ 45
no_minus [] h e = absurd (let none = h.some_digit in omega arith)
no_minus (c ∷ cs) h e = let same : c ≡ 45 = e in cc (rw same at h.digits)

pub spells_number : (field : List ℕ) (n : ℤ) → SpellsNumber field n → number_of field ≡ Some n
spells_number field n (inl h) =
    let fits = h.fits in
    rw (plain_is field (no_minus field h.digits), spelled (2 ^ 63 - 1) field (record { digits = h.digits.digits; some_digit = h.digits.some_digit; within = omega arith })) (ap Some (sym h.value))
spells_number field n (inr h) =
    let first : slice_index field 0 ≡ 45 = rw h.sign refl in
    let rest : drop 1 field ≡ h.rest = rw h.sign refl in
    rw (minus_is field first, rest, spelled (2 ^ 63) h.rest (record { digits = h.digits.digits; some_digit = h.digits.some_digit; within = h.fits })) (ap Some (sym h.value))

digits_ascii : (text : List ℕ) → IsDigits text → IsAscii text
digits_ascii text h = IsAscii-from_digits text (own.to text h.digits)

number_text : (field : List ℕ) (n : ℤ) → SpellsNumber field n → IsUtf8 field
number_text field n (inl h) = IsUtf8-from_ascii field (digits_ascii field h.digits)
number_text field n (inr h) = rw h.sign (IsUtf8-from_ascii (45 ∷ h.rest) (cons_ascii 45 h.rest (omega arith) (digits_ascii h.rest h.digits)))

-- fields
filled : (o : Option ℤ) (fault : TableFault) (v : Value) → ok_or (option_map Int o) fault ≡ Ok v → (n : ℤ) × (o ≡ Some n) × (v ≡ Int n)
filled None fault v e = cc e
filled (Some n) fault v e = (n, refl, cc e)

some_spells : (row i : ℕ) (k : Kind) (f : List ℕ) (v : Value) → is_utf8 f ≡ true → some_value row i k f ≡ Ok v → SpellsOfKind k f v
some_spells row i IntKind f v t e = let h = filled (number_of f) (BadNumber row i) v e in (h.0, number_spells f h.0 h.1, h.2)
some_spells row i TextKind f v t e = (IsUtf8-from_is_utf8 f t, cc e)

spells_some : (row i : ℕ) (k : Kind) (f : List ℕ) (v : Value) → SpellsOfKind k f v → (is_utf8 f ≡ true) × (some_value row i k f ≡ Ok v)
spells_some row i IntKind f v h = (is_utf8-from_IsUtf8 f (number_text f h.0 h.1), rw (spells_number f h.0 h.1, h.2) refl)
spells_some row i TextKind f v h = (is_utf8-from_IsUtf8 f h.0, ap Ok (sym h.1))

pub field_spells : (row i : ℕ) (c : Column) (f : List ℕ) (v : Value) → is_utf8 f ≡ true → value_at row i c f ≡ Ok v → Spells c f v
field_spells row i c f v t e = by (says_null c f) refl
  where
    by : (b : Bool) → says_null c f ≡ b → Spells c f v
    by true n = inl (null_told c f n, sym (value_same Null v (sym (null_is row i c f n) ∙ e)))
    by false n = inr (some_told c f n, some_spells row i c.kind f v t (sym (some_is row i c f n) ∙ e))

pub spells_field : (row i : ℕ) (c : Column) (f : List ℕ) (v : Value) → Spells c f v → (is_utf8 f ≡ true) × (value_at row i c f ≡ Ok v)
spells_field row i c f v (inl h) = (is_utf8-from_IsUtf8 f (null_text c.kind f h.0.spelled), null_is row i c f (null_test c f h.0) ∙ ap Ok (sym h.1))
spells_field row i c f v (inr h) = let some = spells_some row i c.kind f v h.1 in (some.0, some_is row i c f (some_test c f h.0) ∙ some.1)

values_spell : (row i : ℕ) (cs : List Column) (fs : List (List ℕ)) (vs : List Value) → length fs ≡ length cs → list_all is_utf8 fs ≡ true → values_from row i cs fs ≡ Ok vs → SpellsRow cs fs vs
unfolding values_from
values_spell row i [] [] vs w t h = let none : [] ≡ vs = cc h in subst (λ x. SpellsRow [] [] x) none tt
values_spell row i [] (f ∷ fs) vs w t h = absurd (omega arith)
values_spell row i (c ∷ cs) [] vs w t h = absurd (omega arith)
values_spell row i (c ∷ cs) (f ∷ fs) vs w t h =
    let v = went_through (value_at row i c f) (λ v. values_from row (i + 1) cs fs >>= λ us. Ok (v ∷ us)) vs h in
    let us = went_through (values_from row (i + 1) cs fs) (λ us. Ok (v.0 ∷ us)) vs v.2 in
    let texts = halves (is_utf8 f) (list_all is_utf8 fs) t in
    let whole : v.0 ∷ us.0 ≡ vs = cc us.2 in
    subst (λ x. SpellsRow (c ∷ cs) (f ∷ fs) x) whole (field_spells row i c f v.0 texts.0 v.1, values_spell row (i + 1) cs fs us.0 (omega arith) texts.1 us.1)

pub spells_width : (cs : List Column) (fs : List (List ℕ)) (vs : List Value) → SpellsRow cs fs vs → length fs ≡ length cs
spells_width [] [] vs h = refl
spells_width [] (f ∷ fs) vs h = absurd h
spells_width (c ∷ cs) [] vs h = absurd h
spells_width (c ∷ cs) (f ∷ fs) [] h = absurd h
spells_width (c ∷ cs) (f ∷ fs) (v ∷ vs) h = ap suc (spells_width cs fs vs h.1)

spells_values : (row i : ℕ) (cs : List Column) (fs : List (List ℕ)) (vs : List Value) → SpellsRow cs fs vs → (list_all is_utf8 fs ≡ true) × (values_from row i cs fs ≡ Ok vs)
unfolding values_from
spells_values row i [] [] [] h = (refl, refl)
spells_values row i [] [] (v ∷ vs) h = absurd h
spells_values row i [] (f ∷ fs) vs h = absurd h
spells_values row i (c ∷ cs) [] vs h = absurd h
spells_values row i (c ∷ cs) (f ∷ fs) [] h = absurd h
spells_values row i (c ∷ cs) (f ∷ fs) (v ∷ vs) h =
    let one = spells_field row i c f v h.0 in
    let others = spells_values row (i + 1) cs fs vs h.1 in
    (both (is_utf8 f) (list_all is_utf8 fs) one.0 others.0, rw (one.1, others.1) refl)

-- rows
pub row_spells : (row : ℕ) (cs : List Column) (fs : List (List ℕ)) (vs : List Value) → row_at row cs fs ≡ Ok vs → SpellsRow cs fs vs
row_spells row cs fs vs h = let told = row_told row cs fs vs h in values_spell row 0 cs fs vs told.0 told.1 told.2

pub spells_row : (row : ℕ) (cs : List Column) (fs : List (List ℕ)) (vs : List Value) → SpellsRow cs fs vs → row_at row cs fs ≡ Ok vs
spells_row row cs fs vs h = let all = spells_values row 0 cs fs vs h in row_is row cs fs (spells_width cs fs vs h) all.0 ∙ all.1

pub rows_spell : (row : ℕ) (cs : List Column) (lines : List (List (List ℕ))) (rows : List (List Value)) → rows_from row cs lines ≡ Ok rows → AllZip (SpellsRow cs) lines rows
unfolding rows_from
rows_spell row cs [] rows h = let none : [] ≡ rows = cc h in subst (λ x. AllZip (SpellsRow cs) [] x) none tt
rows_spell row cs (line ∷ lines) rows h =
    let v = went_through (row_at row cs line) (λ v. rows_from (row + 1) cs lines >>= λ us. Ok (v ∷ us)) rows h in
    let us = went_through (rows_from (row + 1) cs lines) (λ us. Ok (v.0 ∷ us)) rows v.2 in
    let whole : v.0 ∷ us.0 ≡ rows = cc us.2 in
    subst (λ x. AllZip (SpellsRow cs) (line ∷ lines) x) whole (row_spells row cs line v.0 v.1, rows_spell (row + 1) cs lines us.0 us.1)

pub spells_rows : (row : ℕ) (cs : List Column) (lines : List (List (List ℕ))) (rows : List (List Value)) → AllZip (SpellsRow cs) lines rows → rows_from row cs lines ≡ Ok rows
unfolding rows_from
spells_rows row cs [] [] h = refl
spells_rows row cs [] (vs ∷ rows) h = absurd h
spells_rows row cs (line ∷ lines) [] h = absurd h
spells_rows row cs (line ∷ lines) (vs ∷ rows) h = rw (spells_row row cs line vs h.0, spells_rows (row + 1) cs lines rows h.1) refl

-- the file
pub header_told : (cs : List Column) (line : List (List ℕ)) → is_header cs line ≡ true → line ≡ names_of cs
header_told cs line e = (pointwise_decides bytes_eq-Decides line (names_of cs)).0 e

pub header_test : (cs : List Column) → is_header cs (names_of cs) ≡ true
header_test cs = (pointwise_decides bytes_eq-Decides (names_of cs) (names_of cs)).1 refl

passed : (all : List (List Value)) (rows : List (List Value)) → within_limit all ≡ Ok rows → (all ≡ rows) × (length all ≤ most_rows)
passed all rows e = by (nat_le (length all) most_rows) refl e
  where
    by : (b : Bool) → nat_le (length all) most_rows ≡ b → cond b (Ok all) (Err (TooMany most_rows)) ≡ Ok rows → (all ≡ rows) × (length all ≤ most_rows)
    by true t g = (cc g, grind (arith, nat_tests))
    by false t g = cc g

record Lines (cs : List Column) (all : List (List (List ℕ))) (rows : List (List Value)) : Type 0 where
  lines : List (List (List ℕ))
  header : all ≡ names_of cs ∷ lines
  rows_are : AllZip (SpellsRow cs) lines rows
  few : length rows ≤ most_rows

lines_spell : (cs : List Column) (all : List (List (List ℕ))) (rows : List (List Value)) → rows_of_lines cs all ≡ Ok rows → Lines cs all rows
unfolding rows_of_lines
lines_spell cs [] rows h = cc h
lines_spell cs (line ∷ lines) rows h = by (is_header cs line) refl h
  where
    by : (b : Bool) → is_header cs line ≡ b → cond b (rows_of_rest cs lines) (Err BadHeader) ≡ Ok rows → Lines cs (line ∷ lines) rows
    by true t g =
        let all = went_through (rows_from 1 cs lines) within_limit rows g in
        let p = passed all.0 rows all.2 in
        record {
          lines = lines;
          header = ap (λ l. l ∷ lines) (header_told cs line t);
          rows_are = rows_spell 1 cs lines rows (all.1 ∙ ap Ok p.0);
          few = subst (λ x. length x ≤ most_rows) p.0 p.1;
        }
    by false t g = cc g

spells_lines : (cs : List Column) (all lines : List (List (List ℕ))) (rows : List (List Value)) → all ≡ names_of cs ∷ lines → AllZip (SpellsRow cs) lines rows → length rows ≤ most_rows → rows_of_lines cs all ≡ Ok rows
spells_lines cs all lines rows e h few = rw (e, lines_are cs (names_of cs) lines, header_test cs, spells_rows 1 cs lines rows h, within (length rows) most_rows few) refl

file_spells : (table : Table) (bytes : List ℕ) (rows : List (List Value)) → rows_of_file table bytes ≡ Ok rows → SpellsTable table bytes rows
file_spells table bytes rows h =
    let all = lines_spell table.columns (records default_config (strip_bom bytes)) rows (sym (file_is table bytes) ∙ h) in
    record { lines = all.lines; header = all.header; rows_are = all.rows_are; few = all.few }

pub reads_as_spelled_is : ReadsAsSpelled
reads_as_spelled_is table bytes rows = (
  file_spells table bytes rows,
  λ h. file_is table bytes ∙ spells_lines table.columns (records default_config (strip_bom bytes)) h.lines rows h.header h.rows_are h.few,
)

pub rows_are_unique : RowsAreUnique
rows_are_unique table bytes rows others h k = same rows others (sym ((reads_as_spelled_is table bytes rows).1 h) ∙ (reads_as_spelled_is table bytes others).1 k)
  where
    same : (rows others : List (List Value)) → ◌≡◌ {A = Result (List (List Value)) TableFault} (Ok rows) (Ok others) → rows ≡ others
    same rows others e = cc e
