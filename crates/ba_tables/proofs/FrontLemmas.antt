-- Values and rows, one after the other, as a loop reads them.
use Rattle.std.proofs.Common.{◌≡◌, ◌≢◌, ℕ, ◌+◌, ◌≤◌, true, false, List, [], ◌∷◌, ◌++◌, length, drop, Result, Ok, Err, Some, refl, ◌∙◌, sym, ap, append_assoc, eq-eqb}
use Rattle.std.proofs.lemmas.Bool.{ne_eqb}
use Rattle.std.proofs.lemmas.List.{append-nil, drop_all}
use Rattle.std.specs.List.{list_all}
use Rattle.std.specs.Prelude.{slice_get}
use Rattle.std.specs.Str.{is_utf8}
use Rattle.csv.specs.Records.{field_at}
use Rattle.ba_model.specs.declared.schema.Column.{Column}
use Rattle.ba_model.specs.declared.value.Value.{Value}
use Rattle.ba_model.specs.Readings.{◌>>=◌, Fails}
use Rattle.ba_tables.specs.TableFile.{row_at, value_at, values_from}
use Rattle.ba_model.specs.declared.failure.Failure.{Failure}
use Rattle.ba_model.specs.declared.failure.Failure.TheVariants.{NoMemory, Fault}
use Rattle.ba_tables.specs.declared.fault.TableFault.{TableFault}
use Rattle.ba_tables.specs.declared.fault.TableFault.TheVariants.{BadWidth, BadUtf8}
use Rattle.ba_tables.proofs.FieldLemmas.{drop_element, drop_field}

-- what was read before, and what is still read
abbrev pub with_front : {A : Type 0} → List A → Result (List A) TableFault → Result (List A) TableFault
with_front front read = read >>= λ xs. Ok (front ++ xs)

pub regroup : {A : Type 0} (front : List A) (x : A) (read : Result (List A) TableFault) → with_front front (read >>= λ xs. Ok (x ∷ xs)) ≡ with_front (front ++ x ∷ []) read
regroup front x (Ok xs) = ap Ok (simp append_assoc)
regroup front x (Err f) = refl

pub with_none : {A : Type 0} (read : Result (List A) TableFault) → with_front [] read ≡ read
with_none (Ok xs) = refl
with_none (Err f) = refl

-- one more value of a row
next_value : (front : List Value) (row column : ℕ) (c : Column) (cs : List Column) (f : List ℕ) (fs : List (List ℕ)) (v : Value) → value_at row column c f ≡ Ok v
    → with_front front (values_from row column (c ∷ cs) (f ∷ fs)) ≡ with_front (front ++ v ∷ []) (values_from row (column + 1) cs fs)
unfolding values_from
next_value front row column c cs f fs v h = rw h (regroup front v (values_from row (column + 1) cs fs))

bad_value : (e : Failure TableFault) (front : List Value) (row column : ℕ) (c : Column) (cs : List Column) (f : List ℕ) (fs : List (List ℕ)) → Fails e (value_at row column c f)
    → Fails e (with_front front (values_from row column (c ∷ cs) (f ∷ fs)))
unfolding values_from
bad_value NoMemory front row column c cs f fs h = tt
bad_value (Fault g) front row column c cs f fs h = rw h refl

no_value : (front : List Value) (row column : ℕ) (fs : List (List ℕ)) → with_front front (values_from row column [] fs) ≡ Ok front
unfolding values_from
no_value front row column fs = ap Ok (append-nil front)

-- the same at a place of the columns and the fields
pub next_value_at : (front : List Value) (row i : ℕ) (cs : List Column) (c : Column) (fs : List (List ℕ)) (f : List ℕ) (v : Value) (total : Result (List Value) TableFault)
    → slice_get cs i ≡ Some c → field_at fs i ≡ Some f → value_at row i c f ≡ Ok v
    → with_front front (values_from row i (drop i cs) (drop i fs)) ≡ total → with_front (front ++ v ∷ []) (values_from row (i + 1) (drop (i + 1) cs) (drop (i + 1) fs)) ≡ total
next_value_at front row i cs c fs f v total a b h so_far =
    sym (next_value front row i c (drop (i + 1) cs) f (drop (i + 1) fs) v h) ∙ rw (drop_field fs i f b, drop_element cs i c a) at so_far

pub bad_value_at : (e : Failure TableFault) (front : List Value) (row i : ℕ) (cs : List Column) (c : Column) (fs : List (List ℕ)) (f : List ℕ) (total : Result (List Value) TableFault)
    → slice_get cs i ≡ Some c → field_at fs i ≡ Some f → Fails e (value_at row i c f) → with_front front (values_from row i (drop i cs) (drop i fs)) ≡ total → Fails e total
bad_value_at e front row i cs c fs f total a b h so_far =
    let started = rw (drop_field fs i f b, drop_element cs i c a) at so_far in
    rw (← started) (bad_value e front row i c (drop (i + 1) cs) f (drop (i + 1) fs) h)

pub last_value_at : (front : List Value) (row i : ℕ) (cs : List Column) (fs : List (List ℕ)) (total : Result (List Value) TableFault) → length cs ≤ i → with_front front (values_from row i (drop i cs) (drop i fs)) ≡ total → total ≡ Ok front
last_value_at front row i cs fs total le so_far = sym (rw (drop_all i cs le) at so_far) ∙ no_value front row i (drop i fs)

-- a row whose width and bytes are right, and one whose aren't
pub row_is : (row : ℕ) (cs : List Column) (fs : List (List ℕ)) → length fs ≡ length cs → list_all is_utf8 fs ≡ true → row_at row cs fs ≡ values_from row 0 cs fs
unfolding row_at
row_is row cs fs e t = rw (e, t, eq-eqb (length cs) (length cs) refl) refl

pub other_width_is : (row : ℕ) (cs : List Column) (fs : List (List ℕ)) → length fs ≢ length cs → row_at row cs fs ≡ Err (BadWidth row)
unfolding row_at
other_width_is row cs fs n = rw (ne_eqb _ _ n) refl

pub no_text_is : (row : ℕ) (cs : List Column) (fs : List (List ℕ)) → length fs ≡ length cs → list_all is_utf8 fs ≡ false → row_at row cs fs ≡ Err (BadUtf8 row)
unfolding row_at
no_text_is row cs fs e t = rw (e, t, eq-eqb (length cs) (length cs) refl) refl
