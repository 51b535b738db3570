-- The rows that a file reads as fit its table.
use Rattle.std.proofs.Common.{◌≡◌, ℕ, ◌+◌, ◌==◌, Bool, true, false, cond, not, List, [], ◌∷◌, length, Option, Some, None, Result, Ok, Err, refl, arith, ◌∙◌, sym, subst, ℤ}
use Rattle.std.proofs.lemmas.Bool.{and_parts, eqb-true}
use Rattle.std.proofs.lemmas.List.Elements.{All-cons, All-nil}
use Rattle.std.specs.List.{All, AllZip, list_all}
use Rattle.std.specs.Option.{ok_or, option_map}
use Rattle.std.specs.Result.{IfOk}
use Rattle.std.specs.Str.{is_utf8}
use Rattle.csv.specs.Reading.{default_config, records, strip_bom}
use Rattle.ba_model.specs.Conform.{IsOfColumn, IsOfKind, RowFits}
use Rattle.ba_model.specs.declared.schema.Column.{Column}
use Rattle.ba_model.specs.declared.schema.Kind.{Kind}
use Rattle.ba_model.specs.declared.schema.Kind.TheVariants.{Int as IntKind, Text as TextKind}
use Rattle.ba_model.specs.declared.schema.Table.{Table}
use Rattle.ba_model.specs.declared.value.Value.{Value}
use Rattle.ba_model.specs.declared.value.Value.TheVariants.{Null, Int, Text}
use Rattle.ba_model.specs.Readings.{◌>>=◌, Gives}
use Rattle.ba_tables.specs.TableFile.{is_header, is_null_text, number_of, row_at, rows_from, rows_of_file, rows_of_lines, rows_of_rest, says_null, some_value, value_at, values_from, within_limit}
use Rattle.ba_model.specs.declared.failure.Failure.{Failure}
use Rattle.ba_tables.specs.declared.fault.TableFault.{TableFault}
use Rattle.ba_tables.specs.declared.fault.TableFault.TheVariants.{BadHeader, BadWidth, BadUtf8, BadNumber}
use Rattle.ba_tables.proofs.ValueLemmas.{null_is, some_is, value_same}

-- what a step gave that went through
pub went_through : {A B : Type 0} (read : Result A TableFault) (f : A → Result B TableFault) (y : B) → (read >>= f) ≡ Ok y → (x : A) × (read ≡ Ok x) × (f x ≡ Ok y)
went_through (Ok x) f y h = (x, refl, h)
went_through (Err e) f y h = cc h

int_value : (o : Option ℤ) (fault : TableFault) (v : Value) → ok_or (option_map Int o) fault ≡ Ok v → (n : ℤ) × (Int n ≡ v)
int_value None fault v h = cc h
int_value (Some n) fault v h = (n, cc h)

some_fits : (row i : ℕ) (c : Column) (f : List ℕ) (v : Value) → some_value row i c.kind f ≡ Ok v → IsOfColumn c v
some_fits row i c f v h = by c.kind refl
  where
    by : (k : Kind) → c.kind ≡ k → IsOfColumn c v
    by IntKind e =
        let n = int_value (number_of f) (BadNumber row i) v (rw e at h) in
        subst (λ x. IsOfColumn c x) n.1 (let fits : IsOfKind c.kind (Int n.0) = rw e tt in fits)
    by TextKind e =
        let same : Ok (Text f) ≡ Ok v = rw e at h in
        subst (λ x. IsOfColumn c x) (let s : Text f ≡ v = cc same in s) (let fits : IsOfKind c.kind (Text f) = rw e tt in fits)

value_fits : (row i : ℕ) (c : Column) (f : List ℕ) (v : Value) → value_at row i c f ≡ Ok v → IsOfColumn c v
value_fits row i c f v h = by (says_null c f) refl
  where
    by : (b : Bool) → says_null c f ≡ b → IsOfColumn c v
    by true n =
        let fits : IsOfColumn c Null = (and_parts c.nullable (is_null_text c.kind f) n).0 in
        subst (λ x. IsOfColumn c x) (value_same Null v (sym (null_is row i c f n) ∙ h)) fits
    by false n = some_fits row i c f v (sym (some_is row i c f n) ∙ h)

values_fit : (row i : ℕ) (cs : List Column) (fs : List (List ℕ)) (vs : List Value) → length fs ≡ length cs → values_from row i cs fs ≡ Ok vs → AllZip IsOfColumn cs vs
unfolding values_from
values_fit row i [] fs vs w h = let none : [] ≡ vs = cc h in subst (λ x. AllZip IsOfColumn [] x) none tt
values_fit row i (c ∷ cs) [] vs w h = absurd (omega arith)
values_fit row i (c ∷ cs) (f ∷ fs) vs w h =
    let v = went_through (value_at row i c f) (λ v. values_from row (i + 1) cs fs >>= λ us. Ok (v ∷ us)) vs h in
    let us = went_through (values_from row (i + 1) cs fs) (λ us. Ok (v.0 ∷ us)) vs v.2 in
    let shorter : length fs ≡ length cs = omega arith in
    let whole : v.0 ∷ us.0 ≡ vs = cc us.2 in
    subst (λ x. AllZip IsOfColumn (c ∷ cs) x) whole (value_fits row i c f v.0 v.1, values_fit row (i + 1) cs fs us.0 shorter us.1)

-- what a row says that went through
pub row_told : (row : ℕ) (cs : List Column) (fs : List (List ℕ)) (vs : List Value) → row_at row cs fs ≡ Ok vs → (length fs ≡ length cs) × (list_all is_utf8 fs ≡ true) × (values_from row 0 cs fs ≡ Ok vs)
unfolding row_at
row_told row cs fs vs h = by (length fs == length cs) refl (list_all is_utf8 fs) refl h
  where
    by : (b : Bool) → (length fs == length cs) ≡ b → (d : Bool) → list_all is_utf8 fs ≡ d → cond (not b) (Err (BadWidth row)) (cond (not d) (Err (BadUtf8 row)) (values_from row 0 cs fs)) ≡ Ok vs
        → (length fs ≡ length cs) × (list_all is_utf8 fs ≡ true) × (values_from row 0 cs fs ≡ Ok vs)
    by true e true t g = (eqb-true _ _ e, t, g)
    by true e false t g = cc g
    by false e d t g = cc g

row_fits : (row : ℕ) (cs : List Column) (fs : List (List ℕ)) (vs : List Value) → row_at row cs fs ≡ Ok vs → AllZip IsOfColumn cs vs
row_fits row cs fs vs h = let told = row_told row cs fs vs h in values_fit row 0 cs fs vs told.0 told.2

rows_fit : (row : ℕ) (cs : List Column) (lines : List (List (List ℕ))) (rows : List (List Value)) → rows_from row cs lines ≡ Ok rows → All (AllZip IsOfColumn cs) rows
unfolding rows_from
rows_fit row cs [] rows h = let none : [] ≡ rows = cc h in subst (λ x. All (AllZip IsOfColumn cs) x) none (All-nil (AllZip IsOfColumn cs))
rows_fit row cs (line ∷ lines) rows h =
    let v = went_through (row_at row cs line) (λ v. rows_from (row + 1) cs lines >>= λ us. Ok (v ∷ us)) rows h in
    let us = went_through (rows_from (row + 1) cs lines) (λ us. Ok (v.0 ∷ us)) rows v.2 in
    let whole : v.0 ∷ us.0 ≡ rows = cc us.2 in
    subst (λ x. All (AllZip IsOfColumn cs) x) whole (All-cons (AllZip IsOfColumn cs) v.0 us.0 (row_fits row cs line v.0 v.1) (rows_fit (row + 1) cs lines us.0 us.1))

pub limit_passed : (b : Bool) (rows all : List (List Value)) (fault : TableFault) → cond b (Ok all) (Err fault) ≡ Ok rows → all ≡ rows
limit_passed true rows all fault h = cc h
limit_passed false rows all fault h = cc h

rest_fits : (cs : List Column) (lines : List (List (List ℕ))) (rows : List (List Value)) → rows_of_rest cs lines ≡ Ok rows → All (AllZip IsOfColumn cs) rows
rest_fits cs lines rows h =
    let all = went_through (rows_from 1 cs lines) within_limit rows h in
    subst (λ x. All (AllZip IsOfColumn cs) x) (limit_passed _ rows all.0 _ all.2) (rows_fit 1 cs lines all.0 all.1)

lines_fit : (cs : List Column) (lines : List (List (List ℕ))) (rows : List (List Value)) → rows_of_lines cs lines ≡ Ok rows → All (AllZip IsOfColumn cs) rows
unfolding rows_of_lines
lines_fit cs [] rows h = cc h
lines_fit cs (line ∷ lines) rows h = by (is_header cs line) h
  where
    by : (b : Bool) → cond b (rows_of_rest cs lines) (Err BadHeader) ≡ Ok rows → All (AllZip IsOfColumn cs) rows
    by true g = rest_fits cs lines rows g
    by false g = cc g

file_fits : (table : Table) (bytes : List ℕ) (rows : List (List Value)) → rows_of_file table bytes ≡ Ok rows → All (RowFits table) rows
unfolding rows_of_file
file_fits table bytes rows h = lines_fit table.columns (records default_config (strip_bom bytes)) rows h

pub result_fits : (table : Table) (bytes : List ℕ) (result : Result (List (List Value)) (Failure TableFault)) → Gives result (rows_of_file table bytes) → IfOk result (All (RowFits table))
result_fits table bytes (Ok rows) h = file_fits table bytes rows h
result_fits table bytes (Err e) h = tt
