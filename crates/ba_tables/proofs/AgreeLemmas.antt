-- What the tests of rows on some columns say.
use Rattle.std.proofs.Common.{◌≡◌, ◌≢◌, ℕ, Bool, true, false, not, ◌&&◌, List, [], ◌∷◌, map, Option, Some, None, refl, sym, ap, ◌∙◌}
use Rattle.std.proofs.lemmas.List.Elements.{All-cons, All-head, All-nil, All-tail}
use Rattle.std.specs.Bool.{Decides}
use Rattle.std.specs.Cmp.Lexicographic.{pointwise_decides}
use Rattle.std.specs.List.{list_all}
use Rattle.std.specs.Option.{option_eq, unwrap_or}
use Rattle.std.specs.Ordering.{eq_by_cmp}
use Rattle.std.specs.Prelude.{slice_get}
use Rattle.ba_model.specs.Conform.{Match, NoNull}
use Rattle.ba_model.specs.Order.{row_cmp, value_cmp}
use Rattle.ba_model.specs.OrderLaws.{row_decides, row_ties, value_decides}
use Rattle.ba_model.specs.declared.value.Value.{Value}
use Rattle.ba_model.specs.declared.value.Value.TheVariants.{Null, Int, Text}
use Rattle.ba_tables.specs.Broken.{agrees, has_no_null, is_null}
use Rattle.ba_tables.specs.Index.{has_values, values_on}

pub both : (a b : Bool) → a ≡ true → b ≡ true → (a && b) ≡ true
both true b e f = f
both false b e f = cc e

pub halves : (a b : Bool) → (a && b) ≡ true → (a ≡ true) × (b ≡ true)
halves true b e = (refl, e)
halves false b e = cc e

pub same_bool : (a b : Bool) → (a ≡ true → b ≡ true) → (b ≡ true → a ≡ true) → a ≡ b
same_bool true b to from = sym (to refl)
same_bool false true to from = from refl
same_bool false false to from = refl

not_null_told : (o : Option Value) → not (is_null o) ≡ true → o ≢ Some Null
not_null_told None e h = cc h
not_null_told (Some Null) e h = cc e
not_null_told (Some (Int n)) e h = cc h
not_null_told (Some (Text t)) e h = cc h

not_null_test : (o : Option Value) → o ≢ Some Null → not (is_null o) ≡ true
not_null_test None n = refl
not_null_test (Some Null) n = absurd (n refl)
not_null_test (Some (Int m)) n = refl
not_null_test (Some (Text t)) n = refl

pub no_null_told : (row : List Value) (columns : List ℕ) → has_no_null row columns ≡ true → NoNull row columns
no_null_told row [] e = All-nil (λ column. slice_get row column ≢ Some Null)
no_null_told row (c ∷ cs) e =
    let p = halves (not (is_null (slice_get row c))) (has_no_null row cs) e in
    All-cons (λ column. slice_get row column ≢ Some Null) c cs (not_null_told (slice_get row c) p.0) (no_null_told row cs p.1)

pub no_null_test : (row : List Value) (columns : List ℕ) → NoNull row columns → has_no_null row columns ≡ true
no_null_test row [] h = refl
no_null_test row (c ∷ cs) h =
    both (not (is_null (slice_get row c))) (has_no_null row cs) (not_null_test (slice_get row c) (All-head (λ column. slice_get row column ≢ Some Null) c cs h)) (no_null_test row cs (All-tail (λ column. slice_get row column ≢ Some Null) c cs h))

option_decides : (x y : Option Value) → Decides (option_eq (eq_by_cmp value_cmp) x y) (x ≡ y)
option_decides None None = (λ e. refl, λ e. refl)
option_decides None (Some v) = (λ e. cc e, λ e. cc e)
option_decides (Some v) None = (λ e. cc e, λ e. cc e)
option_decides (Some v) (Some w) = (λ e. ap Some ((value_decides v w).0 e), λ e. (value_decides v w).1 (let s : v ≡ w = cc e in s))

pub agrees_decides : (row : List Value) (columns : List ℕ) (other : List Value) (others : List ℕ) → Decides (agrees row columns other others) (Match row columns other others)
agrees_decides row columns other others = pointwise_decides option_decides (map (slice_get row) columns) (map (slice_get other) others)

pub row_test : (x y : List Value) → x ≡ y → eq_by_cmp row_cmp x y ≡ true
row_test x y e = sym (row_ties x y) ∙ (row_decides x y).1 e

pub row_told : (x y : List Value) → eq_by_cmp row_cmp x y ≡ true → x ≡ y
row_told x y e = (row_decides x y).0 (row_ties x y ∙ e)

-- the tests by the values that stand on the columns
pub no_null_is : (row : List Value) (columns : List ℕ) → has_no_null row columns ≡ list_all (λ o. not (is_null o)) (map (slice_get row) columns)
no_null_is row [] = refl
no_null_is row (c ∷ cs) = ap (λ b. not (is_null (slice_get row c)) && b) (no_null_is row cs)

values_are : (row : List Value) (columns : List ℕ) → values_on row columns ≡ map (λ o. unwrap_or o Null) (map (slice_get row) columns)
values_are row [] = refl
values_are row (c ∷ cs) = ap (λ vs. unwrap_or (slice_get row c) Null ∷ vs) (values_are row cs)

pub no_null_along : (row : List Value) (columns : List ℕ) (other : List Value) (others : List ℕ) → Match row columns other others → has_no_null row columns ≡ has_no_null other others
no_null_along row columns other others h = no_null_is row columns ∙ (ap (list_all (λ o. not (is_null o))) h ∙ sym (no_null_is other others))

values_along : (row : List Value) (columns : List ℕ) (other : List Value) (others : List ℕ) → Match row columns other others → values_on other others ≡ values_on row columns
values_along row columns other others h = values_are other others ∙ (ap (map (λ o. unwrap_or o Null)) (sym h) ∙ sym (values_are row columns))

same_option : (x y : Option Value) → not (is_null x) ≡ true → not (is_null y) ≡ true → unwrap_or x Null ≡ unwrap_or y Null → x ≡ y
same_option None None p q e = refl
same_option None (Some Null) p q e = cc q
same_option None (Some (Int n)) p q e = cc e
same_option None (Some (Text t)) p q e = cc e
same_option (Some Null) y p q e = cc p
same_option (Some (Int n)) None p q e = cc e
same_option (Some (Text t)) None p q e = cc e
same_option (Some v) (Some w) p q e = ap Some e

same_options : (xs ys : List (Option Value)) → list_all (λ o. not (is_null o)) xs ≡ true → list_all (λ o. not (is_null o)) ys ≡ true → map (λ o. unwrap_or o Null) xs ≡ map (λ o. unwrap_or o Null) ys → xs ≡ ys
same_options [] [] p q e = refl
same_options [] (y ∷ ys) p q e = cc e
same_options (x ∷ xs) [] p q e = cc e
same_options (x ∷ xs) (y ∷ ys) p q e =
    let p2 = halves (not (is_null x)) (list_all (λ o. not (is_null o)) xs) p in
    let q2 = halves (not (is_null y)) (list_all (λ o. not (is_null o)) ys) q in
    let first : unwrap_or x Null ≡ unwrap_or y Null = cc e in
    let rest : map (λ o. unwrap_or o Null) xs ≡ map (λ o. unwrap_or o Null) ys = cc e in
    let a : x ≡ y = same_option x y p2.0 q2.0 first in
    let b : xs ≡ ys = same_options xs ys p2.1 q2.1 rest in
    cc

match_from : (row : List Value) (columns : List ℕ) (other : List Value) (others : List ℕ) → has_no_null row columns ≡ true → has_no_null other others ≡ true → values_on other others ≡ values_on row columns → Match row columns other others
match_from row columns other others p q e =
    same_options (map (slice_get row) columns) (map (slice_get other) others) (sym (no_null_is row columns) ∙ p) (sym (no_null_is other others) ∙ q) (sym (values_are row columns) ∙ (sym e ∙ values_are other others))

-- a row with no NULL on the columns agrees with those that have its values
pub agrees_is : (row : List Value) (columns : List ℕ) (other : List Value) (others : List ℕ) → has_no_null row columns ≡ true → agrees row columns other others ≡ has_values others (values_on row columns) other
agrees_is row columns other others p =
    same_bool (agrees row columns other others) (has_values others (values_on row columns) other)
    (λ e.
    let h = (agrees_decides row columns other others).0 e in
    both (has_no_null other others) (eq_by_cmp row_cmp (values_on other others) (values_on row columns)) (sym (no_null_along row columns other others h) ∙ p) (row_test (values_on other others) (values_on row columns) (values_along row columns other others h)))
    (λ e.
    let t = halves (has_no_null other others) (eq_by_cmp row_cmp (values_on other others) (values_on row columns)) e in
    (agrees_decides row columns other others).1 (match_from row columns other others p t.0 (row_told (values_on other others) (values_on row columns) t.1)))
