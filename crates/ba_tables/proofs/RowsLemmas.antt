-- The rows of the records after the header, as a loop reads them.
use Rattle.std.proofs.Common.{◌≡◌, ℕ, ◌+◌, ◌-◌, ◌<◌, ◌≤◌, true, false, cond, nat_le, List, [], ◌∷◌, ◌++◌, length, take, Result, Ok, Err, refl, arith, ◌∙◌, sym, ap, length-append}
use Rattle.std.proofs.lemmas.Bool.Decides.{nat_tests}
use Rattle.std.proofs.lemmas.List.{append-nil, take-append-le, take_all}
use Rattle.csv.specs.Reading.{default_config, records, strip_bom}
use Rattle.ba_model.specs.declared.schema.Column.{Column}
use Rattle.ba_model.specs.declared.schema.Table.{Table}
use Rattle.ba_model.specs.declared.value.Value.{Value}
use Rattle.ba_model.specs.Readings.{◌>>=◌, Fails}
use Rattle.ba_model.specs.Limits.{most_rows}
use Rattle.ba_tables.specs.TableFile.{row_at, is_header, rows_from, rows_of_file, rows_of_lines, rows_of_rest, within_limit}
use Rattle.ba_model.specs.declared.failure.Failure.{Failure}
use Rattle.ba_model.specs.declared.failure.Failure.TheVariants.{NoMemory, Fault}
use Rattle.ba_tables.specs.declared.fault.TableFault.{TableFault}
use Rattle.ba_tables.specs.declared.fault.TableFault.TheVariants.{BadHeader, TooMany}
use Rattle.ba_tables.proofs.FrontLemmas.{regroup, with_front, with_none}

-- the rows before this one were read, and those within the limit are kept
pub record Kept (cs : List Column) (start lines : List (List (List ℕ))) (rows : List (List Value)) (row : ℕ) : Type 0 where
  pub all : List (List Value)
  pub kept : rows ≡ take most_rows all
  pub count : row ≡ length all + 1
  pub so_far : with_front all (rows_from row cs lines) ≡ rows_from 1 cs start

take_none : (n : ℕ) → ◌≡◌ {A = List (List Value)} [] (take n [])
take_none n = sym (take_all n [] (omega arith))

pub none_kept : (cs : List Column) (start : List (List (List ℕ))) → Kept cs start start [] 1
none_kept cs start = record {
  all = [];
  kept = take_none most_rows;
  count = omega arith;
  so_far = with_none (rows_from 1 cs start);
}

next_row : (front : List (List Value)) (row : ℕ) (cs : List Column) (line : List (List ℕ)) (rest : List (List (List ℕ))) (v : List Value) (total : Result (List (List Value)) TableFault) → row_at row cs line ≡ Ok v
    → with_front front (rows_from row cs (line ∷ rest)) ≡ total → with_front (front ++ v ∷ []) (rows_from (row + 1) cs rest) ≡ total
unfolding rows_from
next_row front row cs line rest v total h so_far = sym (regroup front v (rows_from (row + 1) cs rest)) ∙ rw h at so_far

count_next : (all : List (List Value)) (v : List Value) (row : ℕ) → row ≡ length all + 1 → row + 1 ≡ length (all ++ v ∷ []) + 1
count_next all v row e = omega (arith, length-append all (v ∷ []))

pub one_kept : (cs : List Column) (start lines rest : List (List (List ℕ))) (rows : List (List Value)) (row : ℕ) (line : List (List ℕ)) (v : List Value) → Kept cs start lines rows row → lines ≡ line ∷ rest → row_at row cs line ≡ Ok v
    → row ≤ most_rows → Kept cs start rest (rows ++ v ∷ []) (row + 1)
one_kept cs start lines rest rows row line v h e r within =
    let count = h.count in
    let short : length h.all ≤ most_rows = omega arith in
    let longer : length (h.all ++ v ∷ []) ≤ most_rows = omega (arith, length-append h.all (v ∷ [])) in
    record {
      all = h.all ++ v ∷ [];
      kept = rw (h.kept, take_all most_rows h.all short) (sym (take_all most_rows (h.all ++ v ∷ []) longer));
      count = count_next h.all v row count;
      so_far = next_row h.all row cs line rest v (rows_from 1 cs start) r (rw e at h.so_far);
    }

pub one_dropped : (cs : List Column) (start lines rest : List (List (List ℕ))) (rows : List (List Value)) (row : ℕ) (line : List (List ℕ)) (v : List Value) → Kept cs start lines rows row → lines ≡ line ∷ rest → row_at row cs line ≡ Ok v
    → most_rows < row → Kept cs start rest rows (row + 1)
one_dropped cs start lines rest rows row line v h e r above =
    let count = h.count in
    let long : most_rows ≤ length h.all = omega arith in
    record {
      all = h.all ++ v ∷ [];
      kept = h.kept ∙ sym (take-append-le most_rows h.all (v ∷ []) long);
      count = count_next h.all v row count;
      so_far = next_row h.all row cs line rest v (rows_from 1 cs start) r (rw e at h.so_far);
    }

bad_row : (e : Failure TableFault) (front : List (List Value)) (row : ℕ) (cs : List Column) (line : List (List ℕ)) (rest : List (List (List ℕ))) → Fails e (row_at row cs line) → Fails e (with_front front (rows_from row cs (line ∷ rest)))
unfolding rows_from
bad_row NoMemory front row cs line rest h = tt
bad_row (Fault f) front row cs line rest h = rw h refl

fails_further : (e : Failure TableFault) (read : Result (List (List Value)) TableFault) → Fails e read → Fails e (read >>= within_limit)
fails_further NoMemory read h = tt
fails_further (Fault f) read h = rw h refl

-- a bad row is the fault
pub bad_kept : (e : Failure TableFault) (cs : List Column) (start lines rest : List (List (List ℕ))) (rows : List (List Value)) (row : ℕ) (line : List (List ℕ)) → Kept cs start lines rows row → lines ≡ line ∷ rest → Fails e (row_at row cs line)
    → Fails e (rows_of_rest cs start)
bad_kept e cs start lines rest rows row line h same fails =
    let so_far = rw same at h.so_far in
    fails_further e (rows_from 1 cs start) (rw (← so_far) (bad_row e h.all row cs line rest fails))

no_rows : (front : List (List Value)) (row : ℕ) (cs : List Column) (total : Result (List (List Value)) TableFault) → with_front front (rows_from row cs []) ≡ total → total ≡ Ok front
unfolding rows_from
no_rows front row cs total so_far = sym so_far ∙ ap Ok (append-nil front)

pub within : (n m : ℕ) → n ≤ m → nat_le n m ≡ true
within n m h = grind (arith, nat_tests)

pub beyond : (n m : ℕ) → m < n → nat_le n m ≡ false
beyond n m h = grind (arith, nat_tests)

-- after the last row
pub all_kept : (cs : List Column) (start lines : List (List (List ℕ))) (rows : List (List Value)) (row : ℕ) → Kept cs start lines rows row → lines ≡ [] → row - 1 ≤ most_rows → rows_of_rest cs start ≡ Ok rows
all_kept cs start lines rows row h none few =
    let count = h.count in
    let short : length h.all ≤ most_rows = omega arith in
    rw (no_rows h.all row cs (rows_from 1 cs start) (rw none at h.so_far), within (length h.all) most_rows short, h.kept, take_all most_rows h.all short) refl

pub too_many : (cs : List Column) (start lines : List (List (List ℕ))) (rows : List (List Value)) (row : ℕ) → Kept cs start lines rows row → lines ≡ [] → most_rows < row - 1 → rows_of_rest cs start ≡ Err (TooMany most_rows)
too_many cs start lines rows row h none many =
    let count = h.count in
    let long : most_rows < length h.all = omega arith in
    rw (no_rows h.all row cs (rows_from 1 cs start) (rw none at h.so_far), beyond (length h.all) most_rows long) refl

-- the header
pub file_is : (table : Table) (bytes : List ℕ) → rows_of_file table bytes ≡ rows_of_lines table.columns (records default_config (strip_bom bytes))
unfolding rows_of_file
file_is table bytes = refl

pub lines_are : (cs : List Column) (line : List (List ℕ)) (rest : List (List (List ℕ))) → rows_of_lines cs (line ∷ rest) ≡ cond (is_header cs line) (rows_of_rest cs rest) (Err BadHeader)
unfolding rows_of_lines
lines_are cs line rest = refl

pub no_lines : (cs : List Column) → rows_of_lines cs [] ≡ Err BadHeader
unfolding rows_of_lines
no_lines cs = refl

pub no_header : (table : Table) (bytes : List ℕ) (lines : List (List (List ℕ))) → lines ≡ records default_config (strip_bom bytes) → lines ≡ [] → rows_of_file table bytes ≡ Err BadHeader
no_header table bytes lines e none = rw (file_is table bytes, ← e, none) (no_lines table.columns)

pub bad_header : (table : Table) (bytes : List ℕ) (lines : List (List (List ℕ))) (line : List (List ℕ)) (rest : List (List (List ℕ))) → lines ≡ records default_config (strip_bom bytes) → lines ≡ line ∷ rest → is_header table.columns line ≡ false
    → rows_of_file table bytes ≡ Err BadHeader
bad_header table bytes lines line rest e same no_name = rw (file_is table bytes, ← e, same, lines_are table.columns line rest, no_name) refl

pub good_header : (table : Table) (bytes : List ℕ) (lines : List (List (List ℕ))) (line : List (List ℕ)) (rest : List (List (List ℕ))) → lines ≡ records default_config (strip_bom bytes) → lines ≡ line ∷ rest → is_header table.columns line ≡ true
    → rows_of_file table bytes ≡ rows_of_rest table.columns rest
good_header table bytes lines line rest e same names = rw (file_is table bytes, ← e, same, lines_are table.columns line rest, names) refl
