-- A file's fault is told exactly where it has it as its first.
use Rattle.std.proofs.Common.{◌≡◌, ◌≢◌, ℕ, zero, suc, ◌+◌, ◌<◌, ◌==◌, Bool, true, false, cond, nat_le, List, [], ◌∷◌, ◌++◌, length, take, Option, Some, None, Result, Ok, Err, refl, arith, ◌∙◌, sym, ap, subst, ℤ}
use Rattle.std.proofs.lemmas.Bool.{eqb-false, eqb-true}
use Rattle.std.proofs.lemmas.Bool.Decides.{nat_tests}
use Rattle.std.proofs.lemmas.List.Elements.{All-cons, All-head, All-nil, All-tail}
use Rattle.std.proofs.lemmas.Str.{IsUtf8-from_is_utf8, is_utf8-from_IsUtf8}
use Rattle.std.specs.List.{All, AllZip, list_all}
use Rattle.std.specs.Option.{ok_or, option_map}
use Rattle.std.specs.Prelude.{slice_get}
use Rattle.std.specs.Str.{IsUtf8, is_utf8}
use Rattle.csv.specs.Reading.{default_config, records, strip_bom}
use Rattle.ba_model.specs.declared.schema.Column.{Column}
use Rattle.ba_model.specs.declared.schema.Kind.{Kind}
use Rattle.ba_model.specs.declared.schema.Kind.TheVariants.{Int as IntKind, Text as TextKind}
use Rattle.ba_model.specs.declared.schema.Table.{Table}
use Rattle.ba_model.specs.declared.value.Value.{Value}
use Rattle.ba_model.specs.declared.value.Value.TheVariants.{Null, Int}
use Rattle.ba_model.specs.Readings.{◌>>=◌}
use Rattle.ba_model.specs.Limits.{most_rows}
use Rattle.ba_tables.specs.FileFaults.{HasBadHeader, HasOtherWidth, HasTooMany, IsFirstBad, IsNoText, LacksNumber, TellsHeader, TellsNumber, TellsTooMany, TellsUtf8, TellsWidth}
use Rattle.ba_tables.specs.Spelling.{SaysNull, Spells, SpellsNumber, SpellsRow}
use Rattle.ba_tables.specs.TableFile.{is_header, names_of, number_of, row_at, rows_from, rows_of_file, rows_of_lines, rows_of_rest, says_null, some_value, value_at, values_from, within_limit}
use Rattle.ba_tables.specs.declared.fault.TableFault.{TableFault}
use Rattle.ba_tables.specs.declared.fault.TableFault.TheVariants.{BadHeader, BadWidth, BadUtf8, BadNumber, TooMany}
use Rattle.ba_tables.proofs.AgreeLemmas.{both, halves}
use Rattle.ba_tables.proofs.FrontLemmas.{no_text_is, other_width_is, row_is}
use Rattle.ba_tables.proofs.RowsLemmas.{beyond, file_is, lines_are, no_lines}
use Rattle.ba_tables.proofs.SpellLemmas.{field_spells, header_test, header_told, number_spells, row_spells, rows_spell, spells_field, spells_number, spells_row, spells_rows}
use Rattle.ba_tables.proofs.ValueLemmas.{null_is, some_is, some_test, some_told}

err_same : {A : Type 0} (f g : TableFault) → ◌≡◌ {A = Result A TableFault} (Err f) (Err g) → f ≡ g
err_same f g e = cc e

-- ---- UTF-8

all_text : (fs : List (List ℕ)) → list_all is_utf8 fs ≡ true → All IsUtf8 fs
all_text [] h = All-nil IsUtf8
all_text (f ∷ fs) h = let q = halves (is_utf8 f) (list_all is_utf8 fs) h in All-cons IsUtf8 f fs (IsUtf8-from_is_utf8 f q.0) (all_text fs q.1)

text_all : (fs : List (List ℕ)) → All IsUtf8 fs → list_all is_utf8 fs ≡ true
text_all [] h = refl
text_all (f ∷ fs) h = both (is_utf8 f) (list_all is_utf8 fs) (is_utf8-from_IsUtf8 f (All-head IsUtf8 f fs h)) (text_all fs (All-tail IsUtf8 f fs h))

not_both : (b : Bool) → b ≡ true → b ≡ false → ⊥
not_both true e f = cc f
not_both false e f = cc e

not_true : (b : Bool) → (b ≡ true → ⊥) → b ≡ false
not_true true h = absurd (h refl)
not_true false h = refl

-- ---- numbers

no_number : (field : List ℕ) → number_of field ≡ None → (n : ℤ) → SpellsNumber field n → ⊥
no_number field e n h = let some : Some n ≡ None = sym (spells_number field n h) ∙ e in cc some

none_read : (field : List ℕ) → ((n : ℤ) → ¬ SpellsNumber field n) → number_of field ≡ None
none_read field none = by (number_of field) refl
  where
    by : (o : Option ℤ) → number_of field ≡ o → o ≡ None
    by None e = refl
    by (Some n) e = absurd (none n (number_spells field n e))

-- the first number that is lacking, of columns and fields from a place on
record Lacks (k : ℕ) (cs : List Column) (fs : List (List ℕ)) : Type 0 where
  column : Column
  field : List ℕ
  is_column : slice_get cs k ≡ Some column
  is_field : slice_get fs k ≡ Some field
  kind : column.kind ≡ IntKind
  no_null : ¬ SaysNull column field
  no_number : (n : ℤ) → ¬ SpellsNumber field n
  values : List Value
  earlier : SpellsRow (take k cs) (take k fs) values

record LacksFrom (row i : ℕ) (cs : List Column) (fs : List (List ℕ)) (fault : TableFault) : Type 0 where
  k : ℕ
  is : fault ≡ BadNumber row (i + k)
  lacks : Lacks k cs fs

value_err : (row i : ℕ) (c : Column) (f : List ℕ) (fault : TableFault) → value_at row i c f ≡ Err fault → (¬ SaysNull c f) × (some_value row i c.kind f ≡ Err fault)
value_err row i c f fault e = by (says_null c f) refl
  where
    by : (b : Bool) → says_null c f ≡ b → (¬ SaysNull c f) × (some_value row i c.kind f ≡ Err fault)
    by true n = let wrong : ◌≡◌ {A = Result Value TableFault} (Ok Null) (Err fault) = sym (null_is row i c f n) ∙ e in cc wrong
    by false n = (some_told c f n, sym (some_is row i c f n) ∙ e)

err_value : (row i : ℕ) (c : Column) (f : List ℕ) → c.kind ≡ IntKind → ¬ SaysNull c f → ((n : ℤ) → ¬ SpellsNumber f n) → value_at row i c f ≡ Err (BadNumber row i)
err_value row i c f kind null none = some_is row i c f (some_test c f null) ∙ rw (kind, none_read f none) refl

lacks_here : (row i : ℕ) (c : Column) (cs : List Column) (f : List ℕ) (fs : List (List ℕ)) (fault : TableFault) → value_at row i c f ≡ Err fault → LacksFrom row i (c ∷ cs) (f ∷ fs) fault
lacks_here row i c cs f fs fault e = by c.kind refl told.1
  where
    told : (¬ SaysNull c f) × (some_value row i c.kind f ≡ Err fault)
    told = value_err row i c f fault e

    none : (o : Option ℤ) → ok_or (option_map Int o) (BadNumber row i) ≡ Err fault → (o ≡ None) × (fault ≡ BadNumber row (i + 0))
    none None e = let zero_is : i ≡ i + 0 = omega arith in (refl, sym (err_same (BadNumber row i) fault e) ∙ ap (BadNumber row) zero_is)
    none (Some n) e = cc e

    by : (k : Kind) → c.kind ≡ k → some_value row i k f ≡ Err fault → LacksFrom row i (c ∷ cs) (f ∷ fs) fault
    by TextKind k e = cc e
    by IntKind k e =
        let n = none (number_of f) e in
        record {
          k = 0;
          is = n.1;
          lacks = record { column = c; field = f; is_column = refl; is_field = refl; kind = k; no_null = told.0; no_number = no_number f n.0; values = []; earlier = tt };
        }

lacks_later : (row i : ℕ) (c : Column) (cs : List Column) (f : List ℕ) (fs : List (List ℕ)) (v : Value) (fault : TableFault) → Spells c f v → LacksFrom row (i + 1) cs fs fault → LacksFrom row i (c ∷ cs) (f ∷ fs) fault
lacks_later row i c cs f fs v fault s h =
    let l = h.lacks in
    let place : (i + 1) + h.k ≡ i + suc h.k = omega arith in
    record {
      k = suc h.k;
      is = h.is ∙ ap (BadNumber row) place;
      lacks = record { column = l.column; field = l.field; is_column = l.is_column; is_field = l.is_field; kind = l.kind; no_null = l.no_null; no_number = l.no_number; values = v ∷ l.values; earlier = (s, l.earlier) };
    }

values_lack : (row i : ℕ) (cs : List Column) (fs : List (List ℕ)) (fault : TableFault) → length fs ≡ length cs → list_all is_utf8 fs ≡ true → values_from row i cs fs ≡ Err fault → LacksFrom row i cs fs fault
unfolding values_from
values_lack row i [] [] fault w t e = cc e
values_lack row i [] (f ∷ fs) fault w t e = absurd (omega arith)
values_lack row i (c ∷ cs) [] fault w t e = absurd (omega arith)
values_lack row i (c ∷ cs) (f ∷ fs) fault w t e =
    by (value_at row i c f) refl (values_from row (i + 1) cs fs) refl (values_lack row (i + 1) cs fs fault (omega arith) texts.1) e
  where
    texts : (is_utf8 f ≡ true) × (list_all is_utf8 fs ≡ true)
    texts = halves (is_utf8 f) (list_all is_utf8 fs) t

    by : (r : Result Value TableFault) → value_at row i c f ≡ r → (q : Result (List Value) TableFault) → values_from row (i + 1) cs fs ≡ q
        → (values_from row (i + 1) cs fs ≡ Err fault → LacksFrom row (i + 1) cs fs fault) → (r >>= λ v. (q >>= λ vs. Ok (v ∷ vs))) ≡ Err fault → LacksFrom row i (c ∷ cs) (f ∷ fs) fault
    by (Err g) a q b more e = lacks_here row i c cs f fs fault (a ∙ ap Err (err_same g fault e))
    by (Ok v) a (Ok vs) b more e = cc e
    by (Ok v) a (Err g) b more e = lacks_later row i c cs f fs v fault (field_spells row i c f v texts.0 a) (more (b ∙ ap Err (err_same g fault e)))

lack_values : (row i k : ℕ) (cs : List Column) (fs : List (List ℕ)) (column : Column) (field : List ℕ) (vs : List Value) → slice_get cs k ≡ Some column → slice_get fs k ≡ Some field → column.kind ≡ IntKind
    → ¬ SaysNull column field → ((n : ℤ) → ¬ SpellsNumber field n) → SpellsRow (take k cs) (take k fs) vs → values_from row i cs fs ≡ Err (BadNumber row (i + k))
unfolding values_from
lack_values row i k [] fs column field vs a b kind null none h = cc a
lack_values row i k (c ∷ cs) [] column field vs a b kind null none h = cc b
lack_values row i zero (c ∷ cs) (f ∷ fs) column field vs a b kind null none h =
    let same : c ≡ column = cc a in
    let this : f ≡ field = cc b in
    let bad : value_at row i c f ≡ Err (BadNumber row i) =
    ap (λ (x : Column). value_at row i x f) same ∙ ap (λ (x : List ℕ). value_at row i column x) this ∙ err_value row i column field kind null none in
    let zero_is : i ≡ i + 0 = omega arith in
    rw bad (ap (λ (n : ℕ). Err (BadNumber row n)) zero_is)
lack_values row i (suc k) (c ∷ cs) (f ∷ fs) column field [] a b kind null none h = absurd h
lack_values row i (suc k) (c ∷ cs) (f ∷ fs) column field (v ∷ vs) a b kind null none h =
    let place : (i + 1) + k ≡ i + suc k = omega arith in
    rw ((spells_field row i c f v h.0).1, lack_values row (i + 1) k cs fs column field vs a b kind null none h.1) (ap (λ (n : ℕ). Err (BadNumber row n)) place)

-- ---- a row

abbrev pub RowFault : ℕ → List Column → List (List ℕ) → TableFault → Type 0
RowFault row cs line BadHeader = ⊥
RowFault row cs line (BadWidth r) = (r ≡ row) × HasOtherWidth cs line
RowFault row cs line (BadUtf8 r) = (r ≡ row) × IsNoText cs line
RowFault row cs line (BadNumber r k) = (r ≡ row) × LacksNumber k cs line
RowFault row cs line (TooMany n) = ⊥

row_lacks : (row : ℕ) (cs : List Column) (line : List (List ℕ)) (f : TableFault) → length line ≡ length cs → list_all is_utf8 line ≡ true → LacksFrom row 0 cs line f → RowFault row cs line f
row_lacks row cs line f w t h =
    let l = h.lacks in
    let place : 0 + h.k ≡ h.k = omega arith in
    subst (RowFault row cs line) (sym (h.is ∙ ap (BadNumber row) place)) (
      refl,
      record {
        width = w;
        text = all_text line t;
        column = l.column;
        field = l.field;
        is_column = l.is_column;
        is_field = l.is_field;
        kind = l.kind;
        no_null = l.no_null;
        no_number = l.no_number;
        values = l.values;
        earlier = l.earlier;
      },
    )

row_fault : (row : ℕ) (cs : List Column) (line : List (List ℕ)) (f : TableFault) → row_at row cs line ≡ Err f → RowFault row cs line f
row_fault row cs line f e = by (length line == length cs) refl (list_all is_utf8 line) refl
  where
    by : (b : Bool) → (length line == length cs) ≡ b → (d : Bool) → list_all is_utf8 line ≡ d → RowFault row cs line f
    by false w d t =
        let other = eqb-false (length line) (length cs) w in
        subst (RowFault row cs line) (err_same (BadWidth row) f (sym (other_width_is row cs line other) ∙ e)) (refl, other)
    by true w false t =
        let width = eqb-true (length line) (length cs) w in
        subst (RowFault row cs line) (err_same (BadUtf8 row) f (sym (no_text_is row cs line width t) ∙ e)) (refl, record { width = width; no_text = λ h. not_both (list_all is_utf8 line) (text_all line h) t })
    by true w true t =
        let width = eqb-true (length line) (length cs) w in
        row_lacks row cs line f width t (values_lack row 0 cs line f width t (sym (row_is row cs line width t) ∙ e))

fault_row : (row : ℕ) (cs : List Column) (line : List (List ℕ)) (f : TableFault) → RowFault row cs line f → row_at row cs line ≡ Err f
fault_row row cs line BadHeader h = absurd h
fault_row row cs line (TooMany n) h = absurd h
fault_row row cs line (BadWidth r) h = other_width_is row cs line h.1 ∙ ap (λ (n : ℕ). Err (BadWidth n)) (sym h.0)
fault_row row cs line (BadUtf8 r) h = no_text_is row cs line h.1.width (not_true (list_all is_utf8 line) (λ t. h.1.no_text (all_text line t))) ∙ ap (λ (n : ℕ). Err (BadUtf8 n)) (sym h.0)
fault_row row cs line (BadNumber r k) h =
    let l = h.1 in
    let place : 0 + k ≡ k = omega arith in
    row_is row cs line l.width (text_all line l.text)
    ∙ lack_values row 0 k cs line l.column l.field l.values l.is_column l.is_field l.kind l.no_null l.no_number l.earlier
    ∙ ap (λ (n : ℕ). Err (BadNumber row n)) place
    ∙ ap (λ (n : ℕ). Err (BadNumber n k)) (sym h.0)

-- ---- rows

record FirstBad (row : ℕ) (cs : List Column) (lines : List (List (List ℕ))) (f : TableFault) : Type 0 where
  before : List (List (List ℕ))
  line : List (List ℕ)
  after : List (List (List ℕ))
  rows : List (List Value)
  are : lines ≡ before ++ line ∷ after
  earlier : AllZip (SpellsRow cs) before rows
  bad : RowFault (row + length before) cs line f

bad_later : (row : ℕ) (cs : List Column) (line : List (List ℕ)) (lines : List (List (List ℕ))) (v : List Value) (f : TableFault) → SpellsRow cs line v → FirstBad (row + 1) cs lines f → FirstBad row cs (line ∷ lines) f
bad_later row cs line lines v f s h =
    let place : (row + 1) + length h.before ≡ row + suc (length h.before) = omega arith in
    record {
      before = line ∷ h.before;
      line = h.line;
      after = h.after;
      rows = v ∷ h.rows;
      are = ap (λ (ls : List (List (List ℕ))). line ∷ ls) h.are;
      earlier = (s, h.earlier);
      bad = rw place at h.bad;
    }

rows_bad : (row : ℕ) (cs : List Column) (lines : List (List (List ℕ))) (f : TableFault) → rows_from row cs lines ≡ Err f → FirstBad row cs lines f
unfolding rows_from
rows_bad row cs [] f e = cc e
rows_bad row cs (line ∷ lines) f e = by (row_at row cs line) refl (rows_from (row + 1) cs lines) refl (rows_bad (row + 1) cs lines f) e
  where
    by : (r : Result (List Value) TableFault) → row_at row cs line ≡ r → (q : Result (List (List Value)) TableFault) → rows_from (row + 1) cs lines ≡ q
        → (rows_from (row + 1) cs lines ≡ Err f → FirstBad (row + 1) cs lines f) → (r >>= λ v. (q >>= λ vs. Ok (v ∷ vs))) ≡ Err f → FirstBad row cs (line ∷ lines) f
    by (Err g) a q b more e =
        let zero_is : row ≡ row + 0 = omega arith in
        record { before = []; line = line; after = lines; rows = []; are = refl; earlier = tt; bad = rw zero_is at (row_fault row cs line f (a ∙ ap Err (err_same g f e))) }
    by (Ok v) a (Ok vs) b more e = cc e
    by (Ok v) a (Err g) b more e = bad_later row cs line lines v f (row_spells row cs line v a) (more (b ∙ ap Err (err_same g f e)))

bad_rows : (row : ℕ) (cs : List Column) (before : List (List (List ℕ))) (line : List (List ℕ)) (after : List (List (List ℕ))) (rows : List (List Value)) (f : TableFault) → AllZip (SpellsRow cs) before rows
    → RowFault (row + length before) cs line f → rows_from row cs (before ++ line ∷ after) ≡ Err f
unfolding rows_from
bad_rows row cs [] line after rows f h bad =
    let zero_is : row + 0 ≡ row = omega arith in
    rw (fault_row row cs line f (rw zero_is at bad)) refl
bad_rows row cs (first ∷ before) line after [] f h bad = absurd h
bad_rows row cs (first ∷ before) line after (v ∷ rows) f h bad =
    let place : row + suc (length before) ≡ (row + 1) + length before = omega arith in
    rw (spells_row row cs first v h.0, bad_rows (row + 1) cs before line after rows f h.1 (rw place at bad)) refl

-- ---- a file

abbrev pub FileFault : Table → List ℕ → TableFault → Type 0
FileFault table bytes BadHeader = HasBadHeader table bytes
FileFault table bytes (BadWidth row) = IsFirstBad HasOtherWidth table bytes row
FileFault table bytes (BadUtf8 row) = IsFirstBad IsNoText table bytes row
FileFault table bytes (BadNumber row column) = IsFirstBad (LacksNumber column) table bytes row
FileFault table bytes (TooMany limit) = (limit ≡ most_rows) × HasTooMany table bytes

first_bad : (Bad : List Column → List (List ℕ) → Type 0) (table : Table) (bytes : List ℕ) (lines : List (List (List ℕ))) (f : TableFault) (row : ℕ) (h : FirstBad 1 table.columns lines f)
    → records default_config (strip_bom bytes) ≡ names_of table.columns ∷ lines → row ≡ 1 + length h.before → Bad table.columns h.line → IsFirstBad Bad table bytes row
first_bad Bad table bytes lines f row h header number bad = record {
  before = h.before;
  line = h.line;
  after = h.after;
  are = header ∙ ap (λ (ls : List (List (List ℕ))). names_of table.columns ∷ ls) h.are;
  rows = h.rows;
  earlier = h.earlier;
  number = omega (arith, number);
  bad = bad;
}

file_bad : (table : Table) (bytes : List ℕ) (lines : List (List (List ℕ))) (f : TableFault) → records default_config (strip_bom bytes) ≡ names_of table.columns ∷ lines → FirstBad 1 table.columns lines f → FileFault table bytes f
file_bad table bytes lines BadHeader header h = absurd h.bad
file_bad table bytes lines (TooMany n) header h = absurd h.bad
file_bad table bytes lines (BadWidth row) header h = first_bad HasOtherWidth table bytes lines (BadWidth row) row h header h.bad.0 h.bad.1
file_bad table bytes lines (BadUtf8 row) header h = first_bad IsNoText table bytes lines (BadUtf8 row) row h header h.bad.0 h.bad.1
file_bad table bytes lines (BadNumber row column) header h = first_bad (LacksNumber column) table bytes lines (BadNumber row column) row h header h.bad.0 h.bad.1

file_many : (table : Table) (bytes : List ℕ) (lines : List (List (List ℕ))) (all : List (List Value)) (f : TableFault) → records default_config (strip_bom bytes) ≡ names_of table.columns ∷ lines
    → rows_from 1 table.columns lines ≡ Ok all → within_limit all ≡ Err f → FileFault table bytes f
file_many table bytes lines all f header read e = by (nat_le (length all) most_rows) refl e
  where
    by : (b : Bool) → nat_le (length all) most_rows ≡ b → cond b (Ok all) (Err (TooMany most_rows)) ≡ Err f → FileFault table bytes f
    by true t g = cc g
    by false t g =
        let above : most_rows < length all = grind (arith, nat_tests) in
        subst (FileFault table bytes) (err_same (TooMany most_rows) f g) (refl, record { lines = lines; header = header; rows = all; rows_are = rows_spell 1 table.columns lines all read; many = above })

rest_fault : (table : Table) (bytes : List ℕ) (lines : List (List (List ℕ))) (f : TableFault) → records default_config (strip_bom bytes) ≡ names_of table.columns ∷ lines → rows_of_rest table.columns lines ≡ Err f → FileFault table bytes f
rest_fault table bytes lines f header e = by (rows_from 1 table.columns lines) refl e
  where
    by : (r : Result (List (List Value)) TableFault) → rows_from 1 table.columns lines ≡ r → (r >>= within_limit) ≡ Err f → FileFault table bytes f
    by (Ok all) a g = file_many table bytes lines all f header a g
    by (Err k) a g = file_bad table bytes lines f header (rows_bad 1 table.columns lines f (a ∙ ap Err (err_same k f g)))

header_fault : (table : Table) (bytes : List ℕ) (f : TableFault) → BadHeader ≡ f → ((lines : List (List (List ℕ))) → records default_config (strip_bom bytes) ≢ names_of table.columns ∷ lines) → FileFault table bytes f
header_fault table bytes f e none = subst (FileFault table bytes) e (record { none = none })

lines_fault : (table : Table) (bytes : List ℕ) (lines : List (List (List ℕ))) (f : TableFault) → records default_config (strip_bom bytes) ≡ lines → rows_of_lines table.columns lines ≡ Err f → FileFault table bytes f
lines_fault table bytes [] f are e = header_fault table bytes f (err_same BadHeader f (sym (no_lines table.columns) ∙ e)) (λ lines h. let no : [] ≡ names_of table.columns ∷ lines = sym are ∙ h in cc no)
lines_fault table bytes (line ∷ lines) f are e = by (is_header table.columns line) refl
  where
    by : (b : Bool) → is_header table.columns line ≡ b → FileFault table bytes f
    by true t =
        let same = header_told table.columns line t in
        let read : cond (is_header table.columns line) (rows_of_rest table.columns lines) (Err BadHeader) ≡ Err f = sym (lines_are table.columns line lines) ∙ e in
        rest_fault table bytes lines f (are ∙ ap (λ (l : List (List ℕ)). l ∷ lines) same) (rw t at read)
    by false t =
        let read : cond (is_header table.columns line) (rows_of_rest table.columns lines) (Err BadHeader) ≡ Err f = sym (lines_are table.columns line lines) ∙ e in
        header_fault table bytes f (err_same BadHeader f (rw t at read)) (λ others h. other_header line lines others (sym are ∙ h) t)
      where
        other_header : (line : List (List ℕ)) (lines others : List (List (List ℕ))) → line ∷ lines ≡ names_of table.columns ∷ others → is_header table.columns line ≡ false → ⊥
        other_header line lines others h t = let same : line ≡ names_of table.columns = cc h in not_both (is_header table.columns line) (ap (is_header table.columns) same ∙ header_test table.columns) t

file_fault : (table : Table) (bytes : List ℕ) (f : TableFault) → rows_of_file table bytes ≡ Err f → FileFault table bytes f
file_fault table bytes f e = lines_fault table bytes (records default_config (strip_bom bytes)) f refl (sym (file_is table bytes) ∙ e)

-- behind a right header
rest_is : (table : Table) (bytes : List ℕ) (lines : List (List (List ℕ))) → records default_config (strip_bom bytes) ≡ names_of table.columns ∷ lines → rows_of_file table bytes ≡ rows_of_rest table.columns lines
rest_is table bytes lines header = rw (file_is table bytes, header, lines_are table.columns (names_of table.columns) lines, header_test table.columns) refl

header_file : (table : Table) (bytes : List ℕ) → HasBadHeader table bytes → rows_of_file table bytes ≡ Err BadHeader
header_file table bytes h = by (records default_config (strip_bom bytes)) refl
  where
    by : (all : List (List (List ℕ))) → records default_config (strip_bom bytes) ≡ all → rows_of_file table bytes ≡ Err BadHeader
    by [] e = file_is table bytes ∙ ap (rows_of_lines table.columns) e ∙ no_lines table.columns
    by (line ∷ lines) e = file_is table bytes ∙ ap (rows_of_lines table.columns) e ∙ lines_are table.columns line lines ∙ rw other refl
      where
        other : is_header table.columns line ≡ false
        other = not_true (is_header table.columns line) (λ t. h.none lines (e ∙ ap (λ (l : List (List ℕ)). l ∷ lines) (header_told table.columns line t)))

bad_file : (Bad : List Column → List (List ℕ) → Type 0) (table : Table) (bytes : List ℕ) (row : ℕ) (f : TableFault) (h : IsFirstBad Bad table bytes row) → RowFault (1 + length h.before) table.columns h.line f → rows_of_file table bytes ≡ Err f
bad_file Bad table bytes row f h bad =
    rest_is table bytes (h.before ++ h.line ∷ h.after) h.are
    ∙ ap (λ (r : Result (List (List Value)) TableFault). r >>= within_limit) (bad_rows 1 table.columns h.before h.line h.after h.rows f h.earlier bad)

numbered : (row : ℕ) (before : List (List (List ℕ))) → row ≡ length before + 1 → row ≡ 1 + length before
numbered row before e = omega (arith, e)

fault_file : (table : Table) (bytes : List ℕ) (f : TableFault) → FileFault table bytes f → rows_of_file table bytes ≡ Err f
fault_file table bytes BadHeader h = header_file table bytes h
fault_file table bytes (BadWidth row) h = bad_file HasOtherWidth table bytes row (BadWidth row) h (numbered row h.before h.number, h.bad)
fault_file table bytes (BadUtf8 row) h = bad_file IsNoText table bytes row (BadUtf8 row) h (numbered row h.before h.number, h.bad)
fault_file table bytes (BadNumber row column) h = bad_file (LacksNumber column) table bytes row (BadNumber row column) h (numbered row h.before h.number, h.bad)
fault_file table bytes (TooMany limit) h =
    let m = h.1 in
    rest_is table bytes m.lines m.header
    ∙ rw (spells_rows 1 table.columns m.lines m.rows m.rows_are, beyond (length m.rows) most_rows m.many) (ap (λ (n : ℕ). Err (TooMany n)) (sym h.0))

pub tells_header : TellsHeader
tells_header table bytes = (file_fault table bytes BadHeader, fault_file table bytes BadHeader)

pub tells_width : TellsWidth
tells_width table bytes row = (file_fault table bytes (BadWidth row), fault_file table bytes (BadWidth row))

pub tells_utf8 : TellsUtf8
tells_utf8 table bytes row = (file_fault table bytes (BadUtf8 row), fault_file table bytes (BadUtf8 row))

pub tells_number : TellsNumber
tells_number table bytes row column = (file_fault table bytes (BadNumber row column), fault_file table bytes (BadNumber row column))

pub tells_too_many : TellsTooMany
tells_too_many table bytes limit = (file_fault table bytes (TooMany limit), fault_file table bytes (TooMany limit))
