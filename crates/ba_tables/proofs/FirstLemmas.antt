-- The first broken key or link, as loops over keys, links and tables find it.
use Rattle.std.proofs.Common.{◌≡◌, ℕ, ◌+◌, ◌≤◌, List, [], ◌∷◌, length, drop, Some, None, refl, sym, ap, ◌∙◌, arith}
use Rattle.std.proofs.lemmas.List.{drop_all}
use Rattle.std.proofs.lemmas.Option.{slice_get-get_or, slice_get_within, unwrap_or-slice_get}
use Rattle.std.specs.List.{position_from}
use Rattle.std.specs.Prelude.{slice_get}
use Rattle.ba_model.specs.Meaning.{rows_of}
use Rattle.ba_model.specs.declared.schema.Link.{Link}
use Rattle.ba_model.specs.declared.schema.Table.{Table}
use Rattle.ba_model.specs.declared.value.RowSet.{RowSet}
use Rattle.ba_model.specs.declared.value.Value.{Value}
use Rattle.ba_tables.specs.Broken.{broken_key, broken_link, broken_table, clash_after, dangles}
use Rattle.ba_tables.specs.declared.broken.TablesFault.{TablesFault}
use Rattle.ba_tables.specs.declared.broken.TablesFault.TheVariants.{KeyBroken, LinkBroken}
use Rattle.ba_tables.proofs.FieldLemmas.{drop_element}

this_key : (table i first second : ℕ) (rows : List (List Value)) (key : List ℕ) (keys : List (List ℕ)) → clash_after key [] rows ≡ Some (first, second) → broken_key table i rows (key ∷ keys) ≡ Some (KeyBroken table i first second)
unfolding broken_key
this_key table i first second rows key keys e = rw e refl

next_key : (table i : ℕ) (rows : List (List Value)) (key : List ℕ) (keys : List (List ℕ)) → clash_after key [] rows ≡ None → broken_key table i rows (key ∷ keys) ≡ broken_key table (i + 1) rows keys
unfolding broken_key
next_key table i rows key keys e = rw e refl

no_key : (table i : ℕ) (rows : List (List Value)) → broken_key table i rows [] ≡ None
unfolding broken_key
no_key table i rows = refl

pub key_here : (table i first second : ℕ) (rows : List (List Value)) (keys : List (List ℕ)) (key : List ℕ) → slice_get keys i ≡ Some key → Some (first, second) ≡ clash_after key [] rows → broken_key table i rows (drop i keys) ≡ Some (KeyBroken table i first second)
key_here table i first second rows keys key e h = rw (drop_element keys i key e) (this_key table i first second rows key (drop (i + 1) keys) (sym h))

pub key_next : (table i : ℕ) (rows : List (List Value)) (keys : List (List ℕ)) (key : List ℕ) → slice_get keys i ≡ Some key → None ≡ clash_after key [] rows → broken_key table i rows (drop i keys) ≡ broken_key table (i + 1) rows (drop (i + 1) keys)
key_next table i rows keys key e h = rw (drop_element keys i key e) (next_key table i rows key (drop (i + 1) keys) (sym h))

pub keys_end : (table i : ℕ) (rows : List (List Value)) (keys : List (List ℕ)) → length keys ≤ i → broken_key table i rows (drop i keys) ≡ None
keys_end table i rows keys le = rw (drop_all i keys le) (no_key table i rows)

this_link : (table i row : ℕ) (d : RowSet) (rows : List (List Value)) (link : Link) (links : List Link) → position_from (dangles link (rows_of d link.target)) 1 rows ≡ Some row → broken_link table i d rows (link ∷ links) ≡ Some (LinkBroken table i row)
unfolding broken_link
this_link table i row d rows link links e = rw e refl

next_link : (table i : ℕ) (d : RowSet) (rows : List (List Value)) (link : Link) (links : List Link) → position_from (dangles link (rows_of d link.target)) 1 rows ≡ None → broken_link table i d rows (link ∷ links) ≡ broken_link table (i + 1) d rows links
unfolding broken_link
next_link table i d rows link links e = rw e refl

no_link : (table i : ℕ) (d : RowSet) (rows : List (List Value)) → broken_link table i d rows [] ≡ None
unfolding broken_link
no_link table i d rows = refl

pub link_here : (table i row : ℕ) (d : RowSet) (rows : List (List Value)) (links : List Link) (link : Link) → slice_get links i ≡ Some link → Some row ≡ position_from (dangles link (rows_of d link.target)) 1 rows → broken_link table i d rows (drop i links) ≡ Some (LinkBroken table i row)
link_here table i row d rows links link e h = rw (drop_element links i link e) (this_link table i row d rows link (drop (i + 1) links) (sym h))

pub link_next : (table i : ℕ) (d : RowSet) (rows : List (List Value)) (links : List Link) (link : Link) → slice_get links i ≡ Some link → None ≡ position_from (dangles link (rows_of d link.target)) 1 rows → broken_link table i d rows (drop i links) ≡ broken_link table (i + 1) d rows (drop (i + 1) links)
link_next table i d rows links link e h = rw (drop_element links i link e) (next_link table i d rows link (drop (i + 1) links) (sym h))

pub links_end : (table i : ℕ) (d : RowSet) (rows : List (List Value)) (links : List Link) → length links ≤ i → broken_link table i d rows (drop i links) ≡ None
links_end table i d rows links le = rw (drop_all i links le) (no_link table i d rows)

-- a table's keys, then its links, then the next table
first_key : (i : ℕ) (d : RowSet) (table : Table) (tables : List Table) (rows : List (List Value)) (lists : List (List (List Value))) (fault : TablesFault) → broken_key i 0 rows table.keys ≡ Some fault → broken_table i d (table ∷ tables) (rows ∷ lists) ≡ Some fault
unfolding broken_table
first_key i d table tables rows lists fault e = rw e refl

first_link : (i : ℕ) (d : RowSet) (table : Table) (tables : List Table) (rows : List (List Value)) (lists : List (List (List Value))) (fault : TablesFault) → broken_key i 0 rows table.keys ≡ None → broken_link i 0 d rows table.links ≡ Some fault
    → broken_table i d (table ∷ tables) (rows ∷ lists) ≡ Some fault
unfolding broken_table
first_link i d table tables rows lists fault e f = rw (e, f) refl

next_table : (i : ℕ) (d : RowSet) (table : Table) (tables : List Table) (rows : List (List Value)) (lists : List (List (List Value))) → broken_key i 0 rows table.keys ≡ None → broken_link i 0 d rows table.links ≡ None
    → broken_table i d (table ∷ tables) (rows ∷ lists) ≡ broken_table (i + 1) d tables lists
unfolding broken_table
next_table i d table tables rows lists e f = rw (e, f) refl

no_table : (i : ℕ) (d : RowSet) (lists : List (List (List Value))) → broken_table i d [] lists ≡ None
unfolding broken_table
no_table i d lists = refl

pub table_key : (i : ℕ) (d : RowSet) (tables : List Table) (lists : List (List (List Value))) (table : Table) (rows : List (List Value)) (fault : TablesFault) → slice_get tables i ≡ Some table → slice_get lists i ≡ Some rows → Some fault ≡ broken_key i 0 rows table.keys
    → broken_table i d (drop i tables) (drop i lists) ≡ Some fault
table_key i d tables lists table rows fault e f h = rw (drop_element tables i table e, drop_element lists i rows f) (first_key i d table (drop (i + 1) tables) rows (drop (i + 1) lists) fault (sym h))

pub table_link : (i : ℕ) (d : RowSet) (tables : List Table) (lists : List (List (List Value))) (table : Table) (rows : List (List Value)) (fault : TablesFault) → slice_get tables i ≡ Some table → slice_get lists i ≡ Some rows → None ≡ broken_key i 0 rows table.keys → Some fault ≡ broken_link i 0 d rows table.links
    → broken_table i d (drop i tables) (drop i lists) ≡ Some fault
table_link i d tables lists table rows fault e f h k = rw (drop_element tables i table e, drop_element lists i rows f) (first_link i d table (drop (i + 1) tables) rows (drop (i + 1) lists) fault (sym h) (sym k))

pub table_next : (i : ℕ) (d : RowSet) (tables : List Table) (lists : List (List (List Value))) (table : Table) (rows : List (List Value)) → slice_get tables i ≡ Some table → slice_get lists i ≡ Some rows → None ≡ broken_key i 0 rows table.keys → None ≡ broken_link i 0 d rows table.links
    → broken_table i d (drop i tables) (drop i lists) ≡ broken_table (i + 1) d (drop (i + 1) tables) (drop (i + 1) lists)
table_next i d tables lists table rows e f h k = rw (drop_element tables i table e, drop_element lists i rows f) (next_table i d table (drop (i + 1) tables) rows (drop (i + 1) lists) (sym h) (sym k))

pub tables_end : (i : ℕ) (d : RowSet) (tables : List Table) (lists : List (List (List Value))) → length tables ≤ i → broken_table i d (drop i tables) (drop i lists) ≡ None
tables_end i d tables lists le = rw (drop_all i tables le) (no_table i d (drop i lists))

pub list_there : (d : RowSet) (tables : List Table) (i : ℕ) (table : Table) → length d.tables ≡ length tables → slice_get tables i ≡ Some table → slice_get d.tables i ≡ Some (rows_of d i)
list_there d tables i table same e =
    let within = slice_get_within tables i table e in
    slice_get-get_or d.tables i [] (omega arith) ∙ ap Some (sym (unwrap_or-slice_get d.tables i []))
