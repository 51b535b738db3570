-- Rows and pairs are read exactly where they are said.
use Rattle.std.proofs.Common.{◌≡◌, ◌∙◌, ◌&&◌, ℕ, ℤ, List, [], ◌∷◌, Bool, true, false, Option, Some, None, Result, Ok, Err, refl, sym, ap, subst, codes}
use Rattle.std.specs.List.{AllZip, Any, list_any}
use Rattle.std.specs.Str.{bytes_eq}
use Rattle.std.proofs.lemmas.List.Folds.{Any-from_list_any, list_any-from_Any}
use Rattle.std.proofs.lemmas.Slice.Eq.{bytes_eq-Decides}
use Rattle.serde_json.specs.Data.{Data, Members, Num, null, boolean, number, string, array, object, no_members, member}
use Rattle.serde_json.specs.Find.{as_i64, as_object, get}
use Rattle.ba_model.specs.Readings.{◌>>=◌, each}
use Rattle.ba_model.specs.declared.schema.Table.{Table}
use Rattle.ba_model.specs.declared.value.RowSet.{RowSet}
use Rattle.ba_model.specs.declared.value.Value.{Value}
use Rattle.ba_model.specs.declared.value.Value.TheVariants as value
use Rattle.ba_proof.proofs.EntrySaid.{object_is}
use Rattle.ba_proof.proofs.FitLemmas.{bound}
use Rattle.ba_proof.specs.Says.{HasField, SaysEach, SaysValue}
use Rattle.ba_refute.specs.declared.clause.Counterexample.{Counterexample}
use Rattle.ba_script.specs.Script.{given_from}
use Rattle.ba_printed.proofs.FieldLemmas.{both, choose, each_zip, field_is, field_said, formed, keys_3, listed, ok_is, said_list, zip_each}
use Rattle.ba_printed.specs.Reading.{are_tables, is_table, pair_form, pair_from, pair_keys, pair_of, pair_with, row_in, row_of, rows_of, set_from, set_in, set_of, set_with, table_of, value_given, value_of}
use Rattle.ba_printed.specs.Says.{HasTablesAlone, SaysPair, SaysRow, SaysRows, SaysTables}
use Rattle.ba_printed.specs.Shapes.{field, keys_are, or_form}
use Rattle.ba_printed.specs.declared.shapes.FormFault.{FormFault}
use Rattle.ba_printed.specs.declared.shapes.FormFault.TheVariants.{NoForm}

-- ---- values

whole_is : (num : Num) (v : Value) (o : Option ℤ) → as_i64 num ≡ o → value_given None (given_from None o) ≡ Ok v → SaysValue (number num) v
whole_is num v (Some n) is e = subst (SaysValue (number num)) (ok_is {F = FormFault} (value.Int n) v e) (num, refl, is)
whole_is num v None is e = cc e

value_is : (d : Data) (v : Value) → value_of d ≡ Ok v → SaysValue d v
unfolding value_of
value_is null v e = subst (SaysValue null) (ok_is {F = FormFault} value.Null v e) refl
value_is (boolean b) v e = cc e
value_is (number num) v e = whole_is num v (as_i64 num) refl e
value_is (string s) v e = subst (SaysValue (string s)) (ok_is {F = FormFault} (value.Text s) v e) refl
value_is (array ds) v e = cc e
value_is (object ms) v e = cc e

value_said : (d : Data) (v : Value) → SaysValue d v → value_of d ≡ Ok v
unfolding value_of
value_said d value.Null h = ap value_of h
value_said d (value.Int n) h = ap value_of h.1 ∙ ap (λ o. value_given None (given_from None o)) h.2
value_said d (value.Text s) h = ap value_of h

-- ---- rows

pub row_is : (d : Data) (row : List Value) → row_of d ≡ Ok row → SaysRow d row
unfolding row_of
row_is d row e = listed value_of SaysValue value_is d row e

pub row_said : (d : Data) (row : List Value) → SaysRow d row → row_of d ≡ Ok row
unfolding row_of
row_said d row h = said_list value_of SaysValue value_said d row h

pub rows_are : (d : Data) (rows : List (List Value)) → rows_of d ≡ Ok rows → SaysRows d rows
unfolding rows_of
rows_are d rows e = listed row_of SaysRow row_is d rows e

pub rows_said : (d : Data) (rows : List (List Value)) → SaysRows d rows → rows_of d ≡ Ok rows
unfolding rows_of
rows_said d rows h = said_list row_of SaysRow row_said d rows h

-- ---- databases

any_weaker : {X : Type 0} (P Q : X → Type 0) → ((x : X) → P x → Q x) → (xs : List X) → Any P xs → Any Q xs
any_weaker P Q f xs (k, x, below, is, h) = (k, x, below, is, f x h)

alone_is : (tables : List Table) (ms : Members) → are_tables tables ms ≡ true → HasTablesAlone tables ms
alone_is tables no_members e = tt
alone_is tables (member k d more) e =
    let two = both (list_any (is_table k) tables) (are_tables tables more) e in (
      any_weaker (λ table. is_table k table ≡ true) (λ (table : Table). table.name ≡ k) (λ table. (bytes_eq-Decides table.name k).0) tables (Any-from_list_any (is_table k) tables two.0),
      alone_is tables more two.1,
    )

alone_said : (tables : List Table) (ms : Members) → HasTablesAlone tables ms → are_tables tables ms ≡ true
alone_said tables no_members h = refl
alone_said tables (member k d more) h =
    let one : list_any (is_table k) tables ≡ true = list_any-from_Any (is_table k) tables
    (any_weaker (λ (table : Table). table.name ≡ k) (λ table. is_table k table ≡ true) (λ table. (bytes_eq-Decides table.name k).1) tables h.0) in
    rw (one, alone_said tables more h.1) refl

abbrev TableSaid : Data → Table → List (List Value) → Type 0
TableSaid d table rows = HasField SaysRows table.name d rows

table_is : (d : Data) (table : Table) (rows : List (List Value)) → table_of d table ≡ Ok rows → TableSaid d table rows
unfolding table_of
table_is d table rows e =
    let found = bound (field table.name d) rows_of rows e in
    record { value = found.0; there = formed (get table.name d) found.0 found.1; says = rows_are found.0 rows found.2 }

table_said : (d : Data) (table : Table) (rows : List (List Value)) → TableSaid d table rows → table_of d table ≡ Ok rows
unfolding table_of
table_said d table rows h = ap (λ r. r >>= rows_of) (field_said table.name d h.value h.there) ∙ rows_said h.value rows h.says

set_is : (tables : List Table) (d : Data) (set : RowSet) → set_of tables d ≡ Ok set → SaysTables tables d set
unfolding set_of
set_is tables d set e =
    let members = bound (or_form (as_object d)) (set_from tables d) set e in
    choose (SaysTables tables d set) (are_tables tables members.0) _ _ set members.2
    (λ b h. (let sets = bound (each (table_of d) tables) (λ it. Ok (set_with it)) set h in
    subst (SaysTables tables d) (ok_is {F = FormFault} (set_with sets.0) set sets.2)
    (record {
      members = members.0;
      is = object_is d members.0 (formed (as_object d) members.0 members.1);
      rows = each_zip (table_of d) (TableSaid d) (table_is d) tables sets.0 sets.1;
      no_other = alone_is tables members.0 b;
    })))
    (λ h. cc h)

set_said : (tables : List Table) (d : Data) (set : RowSet) → SaysTables tables d set → set_of tables d ≡ Ok set
unfolding set_of
set_said tables d set h =
    let there : or_form (as_object d) ≡ Ok h.members = ap (λ x. or_form (as_object x)) h.is in
    let alone : are_tables tables h.members ≡ true = alone_said tables h.members h.no_other in
    let sets : each (table_of d) tables ≡ Ok set.tables = zip_each (table_of d) (TableSaid d) (table_said d) tables set.tables h.rows in
    rw (there, alone, sets) refl

-- ---- pairs

abbrev pair_object : Data → Data → Data → Data
pair_object a b c = object (member (codes "one") a (member (codes "row") b (member (codes "two") c no_members)))

pair_there : (tables : List Table) (d a b c : Data) (pair : Counterexample) → d ≡ pair_object a b c → pair_from tables d ≡ Ok pair → SaysPair tables d pair
unfolding pair_from
pair_there tables d a b c pair is e =
    let in_one : get (codes "one") d ≡ Some a = ap (get (codes "one")) is in
    let in_row : get (codes "row") d ≡ Some b = ap (get (codes "row")) is in
    let in_two : get (codes "two") d ≡ Some c = ap (get (codes "two")) is in
    let row = bound (row_in (codes "row") d) (λ row. (set_in tables (codes "one") d >>= λ one. (set_in tables (codes "two") d >>= λ two. Ok (pair_with one two row)))) pair e in
    let one = bound (set_in tables (codes "one") d) (λ one. (set_in tables (codes "two") d >>= λ two. Ok (pair_with one two row.0))) pair row.2 in
    let two = bound (set_in tables (codes "two") d) (λ two. Ok (pair_with one.0 two row.0)) pair one.2 in
    let r = bound (field (codes "row") d) row_of row.0 row.1 in
    let o = bound (field (codes "one") d) (set_of tables) one.0 one.1 in
    let t = bound (field (codes "two") d) (set_of tables) two.0 two.1 in
    subst (SaysPair tables d) (ok_is {F = FormFault} (pair_with one.0 two.0 row.0) pair two.2)
    (record {
      a = a;
      b = b;
      c = c;
      is = is;
      one = set_is tables a one.0 (ap (set_of tables) (field_is (codes "one") d a o.0 in_one o.1) ∙ o.2);
      row = row_is b row.0 (ap row_of (field_is (codes "row") d b r.0 in_row r.1) ∙ r.2);
      two = set_is tables c two.0 (ap (set_of tables) (field_is (codes "two") d c t.0 in_two t.1) ∙ t.2);
    })

pub pair_is : (tables : List Table) (d : Data) (pair : Counterexample) → pair_of tables d ≡ Ok pair → SaysPair tables d pair
pair_is tables d pair e =
    let members = bound (or_form (as_object d)) (pair_form tables d) pair e in
    choose (SaysPair tables d pair) (keys_are pair_keys members.0) _ _ pair members.2
    (λ b h. (let keys = keys_3 (codes "one") (codes "row") (codes "two") members.0 b in
    pair_there tables d keys.0 keys.1 keys.2 pair (object_is d members.0 (formed (as_object d) members.0 members.1) ∙ ap object keys.3) h))
    (λ h. cc h)

pair_from_said : (tables : List Table) (d : Data) (pair : Counterexample) → SaysPair tables d pair → pair_from tables d ≡ Ok pair
unfolding pair_from
pair_from_said tables d pair h =
    let in_one : get (codes "one") d ≡ Some h.a = ap (get (codes "one")) h.is in
    let in_row : get (codes "row") d ≡ Some h.b = ap (get (codes "row")) h.is in
    let in_two : get (codes "two") d ≡ Some h.c = ap (get (codes "two")) h.is in
    let row : row_in (codes "row") d ≡ Ok pair.row = ap (λ r. r >>= row_of) (field_said (codes "row") d h.b in_row) ∙ row_said h.b pair.row h.row in
    let one : set_in tables (codes "one") d ≡ Ok pair.one = ap (λ r. r >>= set_of tables) (field_said (codes "one") d h.a in_one) ∙ set_said tables h.a pair.one h.one in
    let two : set_in tables (codes "two") d ≡ Ok pair.two = ap (λ r. r >>= set_of tables) (field_said (codes "two") d h.c in_two) ∙ set_said tables h.c pair.two h.two in
    rw (row, one, two) refl

pair_form_is : (tables : List Table) (a b c : Data) → pair_of tables (pair_object a b c) ≡ pair_from tables (pair_object a b c)
pair_form_is tables a b c = refl

pub pair_said : (tables : List Table) (d : Data) (pair : Counterexample) → SaysPair tables d pair → pair_of tables d ≡ Ok pair
pair_said tables d pair h =
    ap (pair_of tables) h.is ∙ (pair_form_is tables h.a h.b h.c ∙ (ap (pair_from tables) (sym h.is) ∙ pair_from_said tables d pair h))
