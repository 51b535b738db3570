-- Rows that fit conform where no key and no link is broken and the rules hold.
use Rattle.std.proofs.Common.{◌≡◌, ℕ, zero, suc, ◌+◌, ◌<◌, Bool, true, false, not, ◌&&◌, nat_lt, List, [], ◌∷◌, ◌++◌, length, Option, Some, None, refl, sym, ◌∙◌, arith, append_assoc, length-append, subst}
use Rattle.std.proofs.lemmas.Bool.Decides.{nat_tests}
use Rattle.std.proofs.lemmas.List.Elements.{All-cons, All-nil}
use Rattle.std.proofs.lemmas.Option.{slice_get_read}
use Rattle.std.specs.List.{All, AllZip, list_any, position_from}
use Rattle.std.specs.Option.{option_map, option_or}
use Rattle.std.specs.Prelude.{slice_get}
use Rattle.ba_model.proofs.TestLemmas.{any_decides}
use Rattle.ba_model.specs.Conform.{Conforms, KeyHolds, LinkHolds, Match, RowFits, RuleHolds, TableConforms}
use Rattle.ba_model.specs.Meaning.{rows_of}
use Rattle.ba_model.specs.declared.schema.Link.{Link}
use Rattle.ba_model.specs.declared.schema.Schema.{Schema}
use Rattle.ba_model.specs.declared.schema.Table.{Table}
use Rattle.ba_model.specs.declared.value.RowSet.{RowSet}
use Rattle.ba_model.specs.declared.value.Value.{Value}
use Rattle.ba_tables.specs.Broken.{agrees, broken_key, broken_link, broken_table, clash_after, clashes, dangles, has_no_null}
use Rattle.ba_tables.specs.TableSet.{RowsFit}
use Rattle.ba_tables.specs.declared.broken.TablesFault.TheVariants.{KeyBroken, LinkBroken}
use Rattle.ba_tables.proofs.AgreeLemmas.{agrees_decides, both, no_null_along, no_null_test}
use Rattle.ba_tables.proofs.PositionLemmas.{position-none}

pub or_none : {X : Type 0} (a b : Option X) → option_or a b ≡ None → (a ≡ None) × (b ≡ None)
or_none None b e = (refl, e)
or_none (Some x) b e = cc e

pub map_none : {X Y : Type 0} (f : X → Y) (o : Option X) → option_map f o ≡ None → o ≡ None
map_none f None e = refl
map_none f (Some x) e = cc e

pub get_before : {X : Type 0} (xs ys : List X) (i : ℕ) (x : X) → i < length xs → slice_get (xs ++ ys) i ≡ Some x → slice_get xs i ≡ Some x
get_before [] ys i x h e = absurd (omega arith)
get_before (y ∷ xs) ys zero x h e = e
get_before (y ∷ xs) ys (suc i) x h e = get_before xs ys i x (omega arith) e

-- no row clashes with an earlier one
pub none_clashes : (key : List ℕ) (before rows : List (List Value)) (i j : ℕ) (earlier row : List Value) → clash_after key before rows ≡ None → i < length before + j → slice_get (before ++ rows) i ≡ Some earlier → slice_get rows j ≡ Some row → clashes key row earlier ≡ false
unfolding clash_after
none_clashes key before [] i j earlier row h less e f = cc f
none_clashes key before (first ∷ rows) i zero earlier row h less e f =
    let p = or_none (option_map (λ k. (k, length before + 1)) (position_from (clashes key first) 1 before)) (clash_after key (before ++ first ∷ []) rows) h in
    let same : first ≡ row = cc f in
    let here = position-none (clashes key first) 1 before i earlier (map_none (λ k. (k, length before + 1)) (position_from (clashes key first) 1 before) p.0) (get_before before (first ∷ rows) i earlier (omega arith) e) in
    subst (λ r. clashes key r earlier ≡ false) same here
none_clashes key before (first ∷ rows) i (suc j) earlier row h less e f =
    let p = or_none (option_map (λ k. (k, length before + 1)) (position_from (clashes key first) 1 before)) (clash_after key (before ++ first ∷ []) rows) h in
    none_clashes key (before ++ first ∷ []) rows i j earlier row p.1 (omega (arith, length-append before (first ∷ []))) (rw append_assoc e) f

never : (key : List ℕ) (row earlier : List Value) → clashes key row earlier ≡ false → has_no_null row key ≡ true → Match row key earlier key → ⊥
never key row earlier e n m = cc (sym e ∙ both (has_no_null row key) (agrees row key earlier key) n ((agrees_decides row key earlier key).1 m))

key_holds : (key : List ℕ) (rows : List (List Value)) → clash_after key [] rows ≡ None → KeyHolds rows key
key_holds key rows h r s (i, i_in, i_is) (j, j_in, j_is) no_null match =
    let at_i = slice_get_read rows (length rows) i r refl i_in (sym i_is) in
    let at_j = slice_get_read rows (length rows) j s refl j_in (sym j_is) in
    by at_i at_j (nat_lt i j) refl (nat_lt j i) refl
  where
    by : slice_get rows i ≡ Some r → slice_get rows j ≡ Some s → (b : Bool) → nat_lt i j ≡ b → (d : Bool) → nat_lt j i ≡ d → r ≡ s
    by at_i at_j true t d u =
        let less : i < j = grind (arith, nat_tests) in
        absurd (never key s r (none_clashes key [] rows i j r s h (omega arith) at_i at_j) (sym (no_null_along r key s key match) ∙ no_null_test r key no_null) (sym match))
    by at_i at_j false t true u =
        let less : j < i = grind (arith, nat_tests) in
        absurd (never key r s (none_clashes key [] rows j i s r h (omega arith) at_j at_i) (no_null_test r key no_null) match)
    by at_i at_j false t false u =
        let same : i ≡ j = grind (arith, nat_tests) in
        let one : Some r ≡ Some s = sym at_i ∙ rw same at_j in
        cc one

keys_hold : (table number : ℕ) (rows : List (List Value)) (keys : List (List ℕ)) → broken_key table number rows keys ≡ None → All (KeyHolds rows) keys
unfolding broken_key
keys_hold table number rows [] h = All-nil (KeyHolds rows)
keys_hold table number rows (key ∷ keys) h =
    let p = or_none (option_map (λ q. KeyBroken table number q.0 q.1) (clash_after key [] rows)) (broken_key table (number + 1) rows keys) h in
    All-cons (KeyHolds rows) key keys (key_holds key rows (map_none (λ q. KeyBroken table number q.0 q.1) (clash_after key [] rows) p.0)) (keys_hold table (number + 1) rows keys p.1)

not_false : (b : Bool) → not b ≡ false → b ≡ true
not_false true e = refl
not_false false e = cc e

and_first : (a b : Bool) → a ≡ true → (a && b) ≡ false → b ≡ false
and_first true b e f = f
and_first false b e f = cc e

pub link_holds : (d : RowSet) (rows : List (List Value)) (link : Link) → position_from (dangles link (rows_of d link.target)) 1 rows ≡ None → LinkHolds d rows link
link_holds d rows link h r (i, i_in, i_is) no_null =
    let at_i = slice_get_read rows (length rows) i r refl i_in (sym i_is) in
    let targets = rows_of d link.target in
    let here = position-none (dangles link targets) 1 rows i r h at_i in
    let some = not_false (list_any (λ target. agrees r link.columns target link.target_columns) targets) (and_first (has_no_null r link.columns) (not (list_any (λ target. agrees r link.columns target link.target_columns) targets)) (no_null_test r link.columns no_null) here) in
    (any_decides (λ target. agrees r link.columns target link.target_columns) (λ target. Match r link.columns target link.target_columns) (λ target. agrees_decides r link.columns target link.target_columns) targets).0 some

links_hold : (table number : ℕ) (d : RowSet) (rows : List (List Value)) (links : List Link) → broken_link table number d rows links ≡ None → All (LinkHolds d rows) links
unfolding broken_link
links_hold table number d rows [] h = All-nil (LinkHolds d rows)
links_hold table number d rows (link ∷ links) h =
    let p = or_none (option_map (λ row. LinkBroken table number row) (position_from (dangles link (rows_of d link.target)) 1 rows)) (broken_link table (number + 1) d rows links) h in
    All-cons (LinkHolds d rows) link links (link_holds d rows link (map_none (λ row. LinkBroken table number row) (position_from (dangles link (rows_of d link.target)) 1 rows) p.0)) (links_hold table (number + 1) d rows links p.1)

pub tables_conform : (number : ℕ) (d : RowSet) (tables : List Table) (lists : List (List (List Value))) → broken_table number d tables lists ≡ None → AllZip (λ table list. All (RowFits table) list) tables lists → AllZip (TableConforms d) tables lists
unfolding broken_table
tables_conform number d [] [] h fit = tt
tables_conform number d [] (rows ∷ lists) h fit = absurd fit
tables_conform number d (table ∷ tables) [] h fit = absurd fit
tables_conform number d (table ∷ tables) (rows ∷ lists) h fit =
    let p = or_none (option_or (broken_key number 0 rows table.keys) (broken_link number 0 d rows table.links)) (broken_table (number + 1) d tables lists) h in
    let q = or_none (broken_key number 0 rows table.keys) (broken_link number 0 d rows table.links) p.0 in (
      record { kinds = fit.0; keys = keys_hold number 0 rows table.keys q.0; links = links_hold number 0 d rows table.links q.1 },
      tables_conform (number + 1) d tables lists p.1 fit.1,
    )

pub unbroken_conforms : (s : Schema) (d : RowSet) → RowsFit s d → broken_table 0 d s.tables d.tables ≡ None → All (RuleHolds d) s.rules → Conforms s d
unbroken_conforms s d fit h rules = record { tables = tables_conform 0 d s.tables d.tables h fit.tables; rules = rules }
