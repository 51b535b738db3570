-- What was found is the first: a place that passes, a clash, a broken key, a broken link and a table with one.
use Rattle.std.proofs.Common.{◌≡◌, ℕ, zero, suc, ◌+◌, ◌<◌, ◌⊎◌, inl, inr, Bool, true, false, cond, List, [], ◌∷◌, ◌++◌, length, Option, Some, None, refl, ap, ◌∙◌, arith, subst, append_assoc, length-append}
use Rattle.std.proofs.lemmas.Option.{slice_get_within}
use Rattle.std.specs.List.{position_from}
use Rattle.std.specs.Option.{option_map, option_or}
use Rattle.std.specs.Prelude.{slice_get}
use Rattle.ba_model.specs.Meaning.{rows_of}
use Rattle.ba_model.specs.declared.schema.Link.{Link}
use Rattle.ba_model.specs.declared.schema.Table.{Table}
use Rattle.ba_model.specs.declared.value.RowSet.{RowSet}
use Rattle.ba_model.specs.declared.value.Value.{Value}
use Rattle.ba_tables.specs.Broken.{broken_key, broken_link, broken_table, clash_after, clashes, dangles}
use Rattle.ba_tables.specs.declared.broken.TablesFault.{TablesFault}
use Rattle.ba_tables.specs.declared.broken.TablesFault.TheVariants.{KeyBroken, LinkBroken}
use Rattle.ba_tables.proofs.ConformLemmas.{get_before, map_none, or_none}
use Rattle.ba_tables.proofs.PositionLemmas.{position-none}

pub record FoundAt {X : Type 0} (p : X → Bool) (n : ℕ) (xs : List X) (k : ℕ) : Type 0 where
  pub i : ℕ
  pub x : X
  pub place : k ≡ n + i
  pub is : slice_get xs i ≡ Some x
  pub passes : p x ≡ true
  pub earlier : (j : ℕ) (y : X) → j < i → slice_get xs j ≡ Some y → p y ≡ false

pub position-some : {X : Type 0} (p : X → Bool) (n : ℕ) (xs : List X) (k : ℕ) → position_from p n xs ≡ Some k → FoundAt p n xs k
position-some p n [] k e = cc e
position-some {X = X} p n (y ∷ ys) k e = by (p y) refl e (position-some p (n + 1) ys k)
  where
    by : (b : Bool) → p y ≡ b → cond b (Some n) (position_from p (n + 1) ys) ≡ Some k → (position_from p (n + 1) ys ≡ Some k → FoundAt p (n + 1) ys k) → FoundAt p n (y ∷ ys) k
    by true t f more =
        let same : n ≡ k = cc f in
        record { i = 0; x = y; place = omega arith; is = refl; passes = t; earlier = λ j z less at. absurd (omega arith) }
    by false t f more =
        let h = more f in
        let place = h.place in
        record { i = suc h.i; x = h.x; place = omega arith; is = h.is; passes = h.passes; earlier = before h }
      where
        before : (h : FoundAt p (n + 1) ys k) (j : ℕ) (z : X) → j < suc h.i → slice_get (y ∷ ys) j ≡ Some z → p z ≡ false
        before h zero z less at = let same : y ≡ z = cc at in rw (← same) t
        before h (suc j) z less at = h.earlier j z (omega arith) at

get_front : {X : Type 0} (xs ys : List X) (i : ℕ) (x : X) → slice_get xs i ≡ Some x → slice_get (xs ++ ys) i ≡ Some x
get_front [] ys i x e = cc e
get_front (y ∷ xs) ys zero x e = e
get_front (y ∷ xs) ys (suc i) x e = get_front xs ys i x e

same_pair : (a b c d : ℕ) → ◌≡◌ {A = Option (ℕ × ℕ)} (Some (a, b)) (Some (c, d)) → (a ≡ c) × (b ≡ d)
same_pair a b c d e = let p : ◌≡◌ {A = ℕ × ℕ} (a, b) (c, d) = cc e in (ap (λ q. q.0) p, ap (λ q. q.1) p)

-- a clash before which there is none, in the order of second rows and then of first rows
pub record FirstClash (key : List ℕ) (before rows : List (List Value)) (first second : ℕ) : Type 0 where
  pub i : ℕ
  pub j : ℕ
  pub earlier : List Value
  pub later : List Value
  pub first_is : first ≡ i + 1
  pub second_is : second ≡ length before + j + 1
  pub earlier_is : slice_get (before ++ rows) i ≡ Some earlier
  pub later_is : slice_get rows j ≡ Some later
  pub below : i < length before + j
  pub clash : clashes key later earlier ≡ true
  pub least_first : (k : ℕ) (row : List Value) → k < i → slice_get (before ++ rows) k ≡ Some row → clashes key later row ≡ false
  pub least_second : (m : ℕ) (row : List Value) (k : ℕ) (other : List Value) → m < j → slice_get rows m ≡ Some row → k < length before + m → slice_get (before ++ rows) k ≡ Some other → clashes key row other ≡ false

pub clash_first : (key : List ℕ) (before rows : List (List Value)) (first second : ℕ) → clash_after key before rows ≡ Some (first, second) → FirstClash key before rows first second
unfolding clash_after
clash_first key before [] first second e = cc e
clash_first key before (row ∷ rows) first second e = by (position_from (clashes key row) 1 before) refl e (clash_first key (before ++ row ∷ []) rows first second)
  where
    by : (o : Option ℕ) → position_from (clashes key row) 1 before ≡ o → option_or (option_map (λ k. (k, length before + 1)) o) (clash_after key (before ++ row ∷ []) rows) ≡ Some (first, second)
        → (clash_after key (before ++ row ∷ []) rows ≡ Some (first, second) → FirstClash key (before ++ row ∷ []) rows first second) → FirstClash key before (row ∷ rows) first second
    by (Some k) t f more =
        let found = position-some (clashes key row) 1 before k t in
        let place = found.place in
        let both = same_pair k (length before + 1) first second f in
        let one = both.0 in
        let two = both.1 in
        let inside = slice_get_within before found.i found.x found.is in
        record {
          i = found.i;
          j = 0;
          earlier = found.x;
          later = row;
          first_is = omega arith;
          second_is = omega arith;
          earlier_is = get_front before (row ∷ rows) found.i found.x found.is;
          later_is = refl;
          below = omega arith;
          clash = found.passes;
          least_first = λ m other less at. found.earlier m other less (get_before before (row ∷ rows) m other (omega arith) at);
          least_second = λ m r q other less. absurd (omega arith);
        }
    by None t f more =
        let h = more f in
        let second_is = h.second_is in
        let below = h.below in
        let longer = length-append before (row ∷ []) in
        record {
          i = h.i;
          j = suc h.j;
          earlier = h.earlier;
          later = h.later;
          first_is = h.first_is;
          second_is = omega arith;
          earlier_is = rw append_assoc at h.earlier_is;
          later_is = h.later_is;
          below = omega arith;
          clash = h.clash;
          least_first = λ m other less at. h.least_first m other less (rw append_assoc at);
          least_second = seconds h;
        }
      where
        seconds : (h : FirstClash key (before ++ row ∷ []) rows first second) (m : ℕ) (r : List Value) (k : ℕ) (other : List Value) → m < suc h.j → slice_get (row ∷ rows) m ≡ Some r → k < length before + m → slice_get (before ++ row ∷ rows) k ≡ Some other
            → clashes key r other ≡ false
        seconds h zero r k other less at under place =
            let same : row ≡ r = cc at in
            rw (← same) (position-none (clashes key row) 1 before k other t (get_before before (row ∷ rows) k other (omega arith) place))
        seconds h (suc m) r k other less at under place =
            let longer = length-append before (row ∷ []) in
            h.least_second m r k other (omega arith) at (omega arith) (rw append_assoc place)

-- a broken key before which there is none
pub record FirstKey (table n : ℕ) (rows : List (List Value)) (keys : List (List ℕ)) (fault : TablesFault) : Type 0 where
  pub i : ℕ
  pub number : ℕ
  pub key : List ℕ
  pub first : ℕ
  pub second : ℕ
  pub fault_is : fault ≡ KeyBroken table number first second
  pub place : number ≡ n + i
  pub key_is : slice_get keys i ≡ Some key
  pub clash : clash_after key [] rows ≡ Some (first, second)
  pub earlier : (k : ℕ) (other : List ℕ) → k < i → slice_get keys k ≡ Some other → clash_after other [] rows ≡ None

pub key_first : (table n : ℕ) (rows : List (List Value)) (keys : List (List ℕ)) (fault : TablesFault) → broken_key table n rows keys ≡ Some fault → FirstKey table n rows keys fault
unfolding broken_key
key_first table n rows [] fault e = cc e
key_first table n rows (key ∷ keys) fault e = by (clash_after key [] rows) refl e (key_first table (n + 1) rows keys fault)
  where
    by : (o : Option (ℕ × ℕ)) → clash_after key [] rows ≡ o → option_or (option_map (λ p. KeyBroken table n p.0 p.1) o) (broken_key table (n + 1) rows keys) ≡ Some fault → (broken_key table (n + 1) rows keys ≡ Some fault → FirstKey table (n + 1) rows keys fault)
        → FirstKey table n rows (key ∷ keys) fault
    by (Some p) t f more = record {
      i = 0;
      number = n;
      key = key;
      first = p.0;
      second = p.1;
      fault_is = cc f;
      place = omega arith;
      key_is = refl;
      clash = t;
      earlier = λ k other less. absurd (omega arith);
    }
    by None t f more =
        let h = more f in
        let place = h.place in
        record {
          i = suc h.i;
          number = h.number;
          key = h.key;
          first = h.first;
          second = h.second;
          fault_is = h.fault_is;
          place = omega arith;
          key_is = h.key_is;
          clash = h.clash;
          earlier = before h;
        }
      where
        before : (h : FirstKey table (n + 1) rows keys fault) (k : ℕ) (other : List ℕ) → k < suc h.i → slice_get (key ∷ keys) k ≡ Some other → clash_after other [] rows ≡ None
        before h zero other less at = let same : key ≡ other = cc at in rw (← same) t
        before h (suc k) other less at = h.earlier k other (omega arith) at

pub no_keys : (table n : ℕ) (rows : List (List Value)) (keys : List (List ℕ)) (k : ℕ) (key : List ℕ) → broken_key table n rows keys ≡ None → slice_get keys k ≡ Some key → clash_after key [] rows ≡ None
unfolding broken_key
no_keys table n rows [] k key e at = cc at
no_keys table n rows (other ∷ keys) zero key e at =
    let p = or_none (option_map (λ q. KeyBroken table n q.0 q.1) (clash_after other [] rows)) (broken_key table (n + 1) rows keys) e in
    let same : other ≡ key = cc at in
    rw (← same) (map_none (λ q. KeyBroken table n q.0 q.1) (clash_after other [] rows) p.0)
no_keys table n rows (other ∷ keys) (suc k) key e at =
    let p = or_none (option_map (λ q. KeyBroken table n q.0 q.1) (clash_after other [] rows)) (broken_key table (n + 1) rows keys) e in
    no_keys table (n + 1) rows keys k key p.1 at

-- a broken link before which there is none
pub record FirstLink (table n : ℕ) (d : RowSet) (rows : List (List Value)) (links : List Link) (fault : TablesFault) : Type 0 where
  pub i : ℕ
  pub number : ℕ
  pub link : Link
  pub row : ℕ
  pub fault_is : fault ≡ LinkBroken table number row
  pub place : number ≡ n + i
  pub link_is : slice_get links i ≡ Some link
  pub found : FoundAt (dangles link (rows_of d link.target)) 1 rows row
  pub earlier : (k : ℕ) (other : Link) → k < i → slice_get links k ≡ Some other → position_from (dangles other (rows_of d other.target)) 1 rows ≡ None

pub link_first : (table n : ℕ) (d : RowSet) (rows : List (List Value)) (links : List Link) (fault : TablesFault) → broken_link table n d rows links ≡ Some fault → FirstLink table n d rows links fault
unfolding broken_link
link_first table n d rows [] fault e = cc e
link_first table n d rows (link ∷ links) fault e = by (position_from (dangles link (rows_of d link.target)) 1 rows) refl e (link_first table (n + 1) d rows links fault)
  where
    by : (o : Option ℕ) → position_from (dangles link (rows_of d link.target)) 1 rows ≡ o → option_or (option_map (λ row. LinkBroken table n row) o) (broken_link table (n + 1) d rows links) ≡ Some fault
        → (broken_link table (n + 1) d rows links ≡ Some fault → FirstLink table (n + 1) d rows links fault) → FirstLink table n d rows (link ∷ links) fault
    by (Some row) t f more = record {
      i = 0;
      number = n;
      link = link;
      row = row;
      fault_is = cc f;
      place = omega arith;
      link_is = refl;
      found = position-some (dangles link (rows_of d link.target)) 1 rows row t;
      earlier = λ k other less. absurd (omega arith);
    }
    by None t f more =
        let h = more f in
        let place = h.place in
        record {
          i = suc h.i;
          number = h.number;
          link = h.link;
          row = h.row;
          fault_is = h.fault_is;
          place = omega arith;
          link_is = h.link_is;
          found = h.found;
          earlier = before h;
        }
      where
        before : (h : FirstLink table (n + 1) d rows links fault) (k : ℕ) (other : Link) → k < suc h.i → slice_get (link ∷ links) k ≡ Some other → position_from (dangles other (rows_of d other.target)) 1 rows ≡ None
        before h zero other less at = let same : link ≡ other = cc at in rw (← same) t
        before h (suc k) other less at = h.earlier k other (omega arith) at

pub no_links : (table n : ℕ) (d : RowSet) (rows : List (List Value)) (links : List Link) (k : ℕ) (link : Link) → broken_link table n d rows links ≡ None → slice_get links k ≡ Some link → position_from (dangles link (rows_of d link.target)) 1 rows ≡ None
unfolding broken_link
no_links table n d rows [] k link e at = cc at
no_links table n d rows (other ∷ links) zero link e at =
    let p = or_none (option_map (λ row. LinkBroken table n row) (position_from (dangles other (rows_of d other.target)) 1 rows)) (broken_link table (n + 1) d rows links) e in
    let same : other ≡ link = cc at in
    rw (← same) (map_none (λ row. LinkBroken table n row) (position_from (dangles other (rows_of d other.target)) 1 rows) p.0)
no_links table n d rows (other ∷ links) (suc k) link e at =
    let p = or_none (option_map (λ row. LinkBroken table n row) (position_from (dangles other (rows_of d other.target)) 1 rows)) (broken_link table (n + 1) d rows links) e in
    no_links table (n + 1) d rows links k link p.1 at

-- a table with no broken key and no broken link
pub record IsQuiet (number : ℕ) (d : RowSet) (table : Table) (rows : List (List Value)) : Type 0 where
  pub keys : broken_key number 0 rows table.keys ≡ None
  pub links : broken_link number 0 d rows table.links ≡ None

-- a table with a broken key or link, before which there is none
pub record FirstTable (n : ℕ) (d : RowSet) (tables : List Table) (lists : List (List (List Value))) (fault : TablesFault) : Type 0 where
  pub i : ℕ
  pub number : ℕ
  pub table : Table
  pub rows : List (List Value)
  pub place : number ≡ n + i
  pub table_is : slice_get tables i ≡ Some table
  pub rows_are : slice_get lists i ≡ Some rows
  pub fault_is : (broken_key number 0 rows table.keys ≡ Some fault) ⊎ ((broken_key number 0 rows table.keys ≡ None) × (broken_link number 0 d rows table.links ≡ Some fault))
  pub earlier : (k : ℕ) (other : Table) (list : List (List Value)) → k < i → slice_get tables k ≡ Some other → slice_get lists k ≡ Some list → IsQuiet (n + k) d other list

pub no_tables : (n : ℕ) (d : RowSet) (tables : List Table) (lists : List (List (List Value))) (k : ℕ) (table : Table) (rows : List (List Value)) → broken_table n d tables lists ≡ None → slice_get tables k ≡ Some table → slice_get lists k ≡ Some rows → IsQuiet (n + k) d table rows
unfolding broken_table
no_tables n d [] lists k table rows e at list = cc at
no_tables n d (other ∷ tables) [] k table rows e at list = cc list
no_tables n d (other ∷ tables) (first ∷ lists) zero table rows e at list =
    let p = or_none (option_or (broken_key n 0 first other.keys) (broken_link n 0 d first other.links)) (broken_table (n + 1) d tables lists) e in
    let q = or_none (broken_key n 0 first other.keys) (broken_link n 0 d first other.links) p.0 in
    let same : other ≡ table = cc at in
    let all : first ≡ rows = cc list in
    let here : n ≡ n + 0 = omega arith in
    rw (← here, ← same, ← all) (record { keys = q.0; links = q.1 })
no_tables n d (other ∷ tables) (first ∷ lists) (suc k) table rows e at list =
    let p = or_none (option_or (broken_key n 0 first other.keys) (broken_link n 0 d first other.links)) (broken_table (n + 1) d tables lists) e in
    let further : n + 1 + k ≡ n + suc k = omega arith in
    subst (λ number. IsQuiet number d table rows) further (no_tables (n + 1) d tables lists k table rows p.1 at list)

pub table_first : (n : ℕ) (d : RowSet) (tables : List Table) (lists : List (List (List Value))) (fault : TablesFault) → broken_table n d tables lists ≡ Some fault → FirstTable n d tables lists fault
unfolding broken_table
table_first n d [] lists fault e = cc e
table_first n d (table ∷ tables) [] fault e = cc e
table_first n d (table ∷ tables) (rows ∷ lists) fault e = by (broken_key n 0 rows table.keys) refl (broken_link n 0 d rows table.links) refl e (table_first (n + 1) d tables lists fault)
  where
    by : (o : Option TablesFault) → broken_key n 0 rows table.keys ≡ o → (q : Option TablesFault) → broken_link n 0 d rows table.links ≡ q → option_or (option_or o q) (broken_table (n + 1) d tables lists) ≡ Some fault
        → (broken_table (n + 1) d tables lists ≡ Some fault → FirstTable (n + 1) d tables lists fault) → FirstTable n d (table ∷ tables) (rows ∷ lists) fault
    by (Some f) t q u g more = record {
      i = 0;
      number = n;
      table = table;
      rows = rows;
      place = omega arith;
      table_is = refl;
      rows_are = refl;
      fault_is = inl (t ∙ g);
      earlier = λ k other list less. absurd (omega arith);
    }
    by None t (Some f) u g more = record {
      i = 0;
      number = n;
      table = table;
      rows = rows;
      place = omega arith;
      table_is = refl;
      rows_are = refl;
      fault_is = inr (t, u ∙ g);
      earlier = λ k other list less. absurd (omega arith);
    }
    by None t None u g more =
        let h = more g in
        let place = h.place in
        record {
          i = suc h.i;
          number = h.number;
          table = h.table;
          rows = h.rows;
          place = omega arith;
          table_is = h.table_is;
          rows_are = h.rows_are;
          fault_is = h.fault_is;
          earlier = before h;
        }
      where
        before : (h : FirstTable (n + 1) d tables lists fault) (k : ℕ) (other : Table) (list : List (List Value)) → k < suc h.i → slice_get (table ∷ tables) k ≡ Some other → slice_get (rows ∷ lists) k ≡ Some list → IsQuiet (n + k) d other list
        before h zero other list less at all =
            let same : table ≡ other = cc at in
            let both : rows ≡ list = cc all in
            let here : n ≡ n + 0 = omega arith in
            rw (← here, ← same, ← both) (record { keys = t; links = u })
        before h (suc k) other list less at all =
            let further : n + 1 + k ≡ n + suc k = omega arith in
            subst (λ number. IsQuiet number d other list) further (h.earlier k other list (omega arith) at all)
