-- The values of rows on some columns, as loops gather them.
use Rattle.std.proofs.Common.{◌≡◌, ℕ, zero, suc, ◌+◌, ◌≤◌, Bool, true, false, cond, not, ◌||◌, List, [], ◌∷◌, ◌++◌, length, drop, take, Option, Some, None, refl, sym, ap, ◌∙◌, append_assoc, add-one}
use Rattle.std.proofs.lemmas.List.{append-nil, drop_all}
use Rattle.std.specs.BTreeMap.{BTreeMap, IsEmpty, get}
use Rattle.std.specs.BTreeSet.{BTreeSet}
use Rattle.std.specs.BTreeSet as set
use Rattle.std.specs.List.{list_any, position_from}
use Rattle.std.specs.Option.{option_or, unwrap_or}
use Rattle.std.specs.Ordering.{eq_by_cmp}
use Rattle.std.specs.Prelude.{slice_get}
use Rattle.ba_model.specs.Order.{row_cmp}
use Rattle.ba_model.specs.declared.schema.Link.{Link}
use Rattle.ba_model.specs.declared.value.Value.{Value}
use Rattle.ba_model.specs.declared.value.Value.TheVariants.{Null}
use Rattle.ba_tables.specs.Broken.{agrees, clashes, dangles, has_no_null, is_null}
use Rattle.ba_tables.specs.Index.{IsIndex, has_values, key_values, values_on}
use Rattle.ba_tables.proofs.AgreeLemmas.{agrees_is, row_told}
use Rattle.ba_tables.proofs.FieldLemmas.{drop_element}
use Rattle.ba_tables.proofs.PositionLemmas.{position-push, position-same}

-- the values on the columns, of which those before a place were gathered and none is NULL
pub record Gathered (row : List Value) (columns : List ℕ) (i : ℕ) (values : List Value) : Type 0 where
  pub no_null : has_no_null row (drop i columns) ≡ has_no_null row columns
  pub so_far : values ++ values_on row (drop i columns) ≡ values_on row columns

pub none_gathered : (row : List Value) (columns : List ℕ) → Gathered row columns 0 []
none_gathered row columns = record { no_null = refl; so_far = refl }

pub one_gathered : (row : List Value) (columns : List ℕ) (i c : ℕ) (values : List Value) (o : Option Value) → Gathered row columns i values → slice_get columns i ≡ Some c → slice_get row c ≡ o → is_null o ≡ false → Gathered row columns (i + 1) (values ++ unwrap_or o Null ∷ [])
one_gathered row columns i c values o h e f n =
    let from = drop_element columns i c e in
    record {
      no_null = rw (from, f, n) at h.no_null;
      so_far = append_assoc values (unwrap_or o Null ∷ []) (values_on row (drop (i + 1) columns)) ∙ rw (from, f) at h.so_far;
    }

pub null_gathered : (row : List Value) (columns : List ℕ) (i c : ℕ) (values : List Value) (o : Option Value) → Gathered row columns i values → slice_get columns i ≡ Some c → slice_get row c ≡ o → is_null o ≡ true → ◌≡◌ {A = Option (List Value)} None (key_values row columns)
null_gathered row columns i c values o h e f n =
    let none : has_no_null row columns ≡ false = sym (rw (drop_element columns i c e, f, n) at h.no_null) in
    rw none refl

pub all_gathered : (row : List Value) (columns : List ℕ) (i : ℕ) (values : List Value) → Gathered row columns i values → length columns ≤ i → Some values ≡ key_values row columns
all_gathered row columns i values h le =
    let none : drop i columns ≡ [] = drop_all i columns le in
    let all : has_no_null row columns ≡ true = sym (rw none at h.no_null) in
    let same : values ≡ values_on row columns = sym (append-nil values) ∙ rw none at h.so_far in
    rw (all, ← same) refl

-- what the values of a row say
key_told : (row : List Value) (columns : List ℕ) (values : List Value) → Some values ≡ key_values row columns → (has_no_null row columns ≡ true) × (values ≡ values_on row columns)
key_told row columns values e = by (has_no_null row columns) refl e
  where
    by : (b : Bool) → has_no_null row columns ≡ b → ◌≡◌ {A = Option (List Value)} (Some values) (cond b (Some (values_on row columns)) None) → (has_no_null row columns ≡ true) × (values ≡ values_on row columns)
    by true t f = (t, cc f)
    by false t f = cc f

null_told : (row : List Value) (columns : List ℕ) → ◌≡◌ {A = Option (List Value)} None (key_values row columns) → has_no_null row columns ≡ false
null_told row columns e = by (has_no_null row columns) refl e
  where
    by : (b : Bool) → has_no_null row columns ≡ b → ◌≡◌ {A = Option (List Value)} None (cond b (Some (values_on row columns)) None) → has_no_null row columns ≡ false
    by true t f = cc f
    by false t f = t

take_next : {X : Type 0} (xs : List X) (i : ℕ) (x : X) → slice_get xs i ≡ Some x → take (suc i) xs ≡ take i xs ++ x ∷ []
take_next [] i x e = cc e
take_next (y ∷ xs) zero x e = let same : y ≡ x = cc e in cc
take_next (y ∷ xs) (suc i) x e = ap (λ ys. y ∷ ys) (take_next xs i x e)

pub take_one : {X : Type 0} (xs : List X) (i : ℕ) (x : X) → slice_get xs i ≡ Some x → take (i + 1) xs ≡ take i xs ++ x ∷ []
take_one xs i x e = rw add-one (take_next xs i x e)

-- the index of a link's target
pub none_indexed : (rows : List (List Value)) (columns : List ℕ) (index : BTreeSet (List Value)) → set.IsEmpty index → IsIndex (take 0 rows) columns index
none_indexed rows columns index e = record { has = λ values. rw e refl }

pub any_push : {X : Type 0} (p : X → Bool) (xs : List X) (x : X) → list_any p (xs ++ x ∷ []) ≡ (list_any p xs || p x)
any_push p [] x = or_false (p x)
  where
    or_false : (b : Bool) → (b || false) ≡ b
    or_false true = refl
    or_false false = refl
any_push p (y ∷ xs) x = by (p y) (any_push p xs x)
  where
    by : (b : Bool) → list_any p (xs ++ x ∷ []) ≡ (list_any p xs || p x) → (b || list_any p (xs ++ x ∷ [])) ≡ (b || list_any p xs || p x)
    by true e = refl
    by false e = e

or_none : (a b : Bool) → b ≡ false → a ≡ (a || b)
or_none true b e = refl
or_none false b e = sym e

pub or_swapped : (a b : Bool) → cond b true a ≡ (a || b)
or_swapped true true = refl
or_swapped true false = refl
or_swapped false true = refl
or_swapped false false = refl

pub null_indexed : (rows : List (List Value)) (columns : List ℕ) (i : ℕ) (row : List Value) (index : BTreeSet (List Value)) → IsIndex (take i rows) columns index → slice_get rows i ≡ Some row → ◌≡◌ {A = Option (List Value)} None (key_values row columns)
    → IsIndex (take (i + 1) rows) columns index
null_indexed rows columns i row index h e none = record {
  has = λ values.
      let no : has_values columns values row ≡ false = rw (null_told row columns none) refl in
      rw (take_one rows i row e, any_push (has_values columns values) (take i rows) row) (h.has values ∙ or_none (list_any (has_values columns values) (take i rows)) (has_values columns values row) no);
}

pub one_indexed : (rows : List (List Value)) (columns : List ℕ) (i : ℕ) (row values : List Value) (index after : BTreeSet (List Value)) → IsIndex (take i rows) columns index → slice_get rows i ≡ Some row → Some values ≡ key_values row columns
    → ((q : List Value) → set.contains row_cmp after q ≡ cond (eq_by_cmp row_cmp values q) true (set.contains row_cmp index q)) → IsIndex (take (i + 1) rows) columns after
one_indexed rows columns i row values index after h e some updates =
    let told = key_told row columns values some in
    record {
      has = λ q.
          let is : has_values columns q row ≡ eq_by_cmp row_cmp values q = rw (told.0, ← told.1) refl in
          updates q ∙ rw (take_one rows i row e, any_push (has_values columns q) (take i rows) row, is, h.has q) (or_swapped (list_any (has_values columns q) (take i rows)) (eq_by_cmp row_cmp values q));
    }

-- a row's target is there, or the row has none
pub no_target : (link : Link) (targets : List (List Value)) (row values : List Value) (index : BTreeSet (List Value)) → IsIndex targets link.target_columns index → Some values ≡ key_values row link.columns → dangles link targets row ≡ not (set.contains row_cmp index values)
no_target link targets row values index h some =
    let told = key_told row link.columns values some in
    let same : list_any (λ target. agrees row link.columns target link.target_columns) targets ≡ list_any (has_values link.target_columns values) targets =
    rw told.1 (λ i. list_any (λ target. agrees_is row link.columns target link.target_columns told.0 i) targets) in
    rw (told.0, same, h.has values) refl

pub null_dangles : (link : Link) (targets : List (List Value)) (row : List Value) → ◌≡◌ {A = Option (List Value)} None (key_values row link.columns) → dangles link targets row ≡ false
null_dangles link targets row none = rw (null_told row link.columns none) refl

-- the values that rows before have on a key, each with the first row that has them
pub record Seen (key : List ℕ) (before : List (List Value)) (seen : BTreeMap (List Value) ℕ) : Type 0 where
  pub at : (values : List Value) → get row_cmp seen values ≡ position_from (has_values key values) 1 before

pub none_seen : (key : List ℕ) (seen : BTreeMap (List Value) ℕ) → IsEmpty seen → Seen key [] seen
none_seen key seen e = record { at = λ values. rw e refl }

or_nothing : {X : Type 0} (o : Option X) → option_or o None ≡ o
or_nothing None = refl
or_nothing (Some x) = refl

pub null_seen : (key : List ℕ) (before : List (List Value)) (row : List Value) (seen : BTreeMap (List Value) ℕ) → Seen key before seen → ◌≡◌ {A = Option (List Value)} None (key_values row key) → Seen key (before ++ row ∷ []) seen
null_seen key before row seen h none = record {
  at = λ values.
      let no : has_values key values row ≡ false = rw (null_told row key none) refl in
      rw (position-push (has_values key values) 1 before row, no) (h.at values ∙ sym (or_nothing (position_from (has_values key values) 1 before)));
}

pub null_clashes : (key : List ℕ) (row : List Value) → ◌≡◌ {A = Option (List Value)} None (key_values row key) → (earlier : List Value) → clashes key row earlier ≡ false
null_clashes key row none earlier = rw (null_told row key none) refl

-- the first earlier row that the row clashes with is the first that has its values
pub clash_seen : (key : List ℕ) (before : List (List Value)) (row values : List Value) (seen : BTreeMap (List Value) ℕ) → Seen key before seen → Some values ≡ key_values row key → position_from (clashes key row) 1 before ≡ get row_cmp seen values
clash_seen key before row values seen h some =
    let told = key_told row key values some in
    position-same (clashes key row) (has_values key values) 1 before (λ earlier. rw (told.0, told.1) (agrees_is row key earlier key told.0)) ∙ sym (h.at values)

or_here : (b : Bool) (o : Option ℕ) (n : ℕ) → o ≡ None → b ≡ true → Some n ≡ option_or o (cond b (Some n) None)
or_here b o n e t = rw (e, t) refl

pub one_seen : (key : List ℕ) (before : List (List Value)) (row values : List Value) (number : ℕ) (seen after : BTreeMap (List Value) ℕ) → Seen key before seen → Some values ≡ key_values row key → number ≡ 1 + length before → None ≡ get row_cmp seen values
    → ((q : List Value) → get row_cmp after q ≡ cond (eq_by_cmp row_cmp values q) (Some number) (get row_cmp seen q)) → Seen key (before ++ row ∷ []) after
one_seen key before row values number seen after h some count new updates = record {
  at = λ q. rw (position-push (has_values key q) 1 before row, ← count) (updates q ∙ by q (eq_by_cmp row_cmp values q) refl);
}
  where
    by : (q : List Value) (b : Bool) → eq_by_cmp row_cmp values q ≡ b → cond (eq_by_cmp row_cmp values q) (Some number) (get row_cmp seen q) ≡ option_or (position_from (has_values key q) 1 before) (cond (has_values key q row) (Some number) None)
    by q b t =
        let told = key_told row key values some in
        let is : has_values key q row ≡ eq_by_cmp row_cmp values q = rw (told.0, ← told.1) refl in
        rw (is, t) (each q b t)
      where
        each : (q : List Value) (b : Bool) → eq_by_cmp row_cmp values q ≡ b → cond b (Some number) (get row_cmp seen q) ≡ option_or (position_from (has_values key q) 1 before) (cond b (Some number) None)
        each q true t =
            let same : values ≡ q = row_told values q t in
            let none : position_from (has_values key q) 1 before ≡ None = sym (h.at q) ∙ rw (← same) (sym new) in
            rw none refl
        each q false t = h.at q ∙ sym (or_nothing (position_from (has_values key q) 1 before))
