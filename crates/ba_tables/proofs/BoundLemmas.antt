-- A row whose values on a link's columns an order of the targets has as a front has a target.
use Rattle.std.proofs.Common.{◌≡◌, ℕ, zero, suc, ◌<◌, Bool, true, false, not, ◌&&◌, ◌==◌, List, [], ◌∷◌, length, map, take, Option, Some, None, refl, sym, ap, ◌∙◌, subst, arith}
use Rattle.std.proofs.lemmas.List.{length-map, take_all}
use Rattle.std.proofs.lemmas.List.Elements.{All-head}
use Rattle.std.proofs.lemmas.Option.{slice_get-get_or}
use Rattle.std.proofs.Math.ListN.{get_or}
use Rattle.std.specs.List.{list_all, list_any, position_from}
use Rattle.std.specs.Option.{unwrap_or}
use Rattle.std.specs.Ordering.{eq_by_cmp}
use Rattle.std.specs.Prelude.{slice_get}
use Rattle.ba_index.specs.Orders.{values_at, HasFront, HaveFront}
use Rattle.ba_index.specs.declared.order.Order.{Order}
use Rattle.ba_model.specs.Meaning.{rows_of}
use Rattle.ba_model.specs.Order.{row_cmp}
use Rattle.ba_model.specs.declared.schema.Link.{Link}
use Rattle.ba_model.specs.declared.value.RowSet.{RowSet}
use Rattle.ba_model.specs.declared.value.Value.{Value}
use Rattle.ba_model.specs.declared.value.Value.TheVariants.{Null}
use Rattle.ba_tables.specs.Broken.{agrees, dangles, has_no_null, is_null}
use Rattle.ba_tables.specs.Index.{values_on}
use Rattle.ba_tables.proofs.AgreeLemmas.{agrees_is, both, halves, no_null_is, row_test}
use Rattle.ba_tables.proofs.TwinLemmas.{values_there}

-- no value is NULL
abbrev full : List Value → Bool
full = list_all (λ v. not (is_null (Some v)))

key_is : (row : List Value) (columns : List ℕ) (key : List Value) → map (slice_get row) columns ≡ map Some key → key ≡ values_on row columns
key_is row [] [] e = refl
key_is row [] (v ∷ key) e = cc e
key_is row (c ∷ columns) [] e = cc e
key_is row (c ∷ columns) (v ∷ key) e =
    let first : slice_get row c ≡ Some v = cc e in
    let rest : map (slice_get row) columns ≡ map Some key = cc e in
    let own : unwrap_or (slice_get row c) Null ≡ v = ap (λ (o : Option Value). unwrap_or o Null) first in
    let others : key ≡ values_on row columns = key_is row columns key rest in
    cc

all_some : (key : List Value) → list_all (λ o. not (is_null o)) (map Some key) ≡ full key
all_some [] = refl
all_some (v ∷ key) = ap (λ b. not (is_null (Some v)) && b) (all_some key)

key_full : (row : List Value) (columns : List ℕ) (key : List Value) → map (slice_get row) columns ≡ map Some key → has_no_null row columns ≡ true → full key ≡ true
key_full row columns key e whole = sym (all_some key) ∙ (ap (list_all (λ o. not (is_null o))) (sym e) ∙ (sym (no_null_is row columns) ∙ whole))

value_full : (o : Option Value) → not (is_null (Some (unwrap_or o Null))) ≡ true → not (is_null o) ≡ true
value_full None e = refl
value_full (Some v) e = e

values_full : (target : List Value) (columns : List ℕ) → full (values_on target columns) ≡ true → has_no_null target columns ≡ true
values_full target [] e = refl
values_full target (c ∷ columns) e =
    let p = halves (not (is_null (Some (unwrap_or (slice_get target c) Null)))) (full (values_on target columns)) e in
    both (not (is_null (slice_get target c))) (has_no_null target columns) (value_full (slice_get target c) p.0) (values_full target columns p.1)

any_at : {X : Type 0} (p : X → Bool) (xs : List X) (n : ℕ) (x : X) → slice_get xs n ≡ Some x → p x ≡ true → list_any p xs ≡ true
any_at p [] n x e t = cc e
any_at p (y ∷ xs) zero x e t = let same : y ≡ x = cc e in rw (same, t) refl
any_at p (y ∷ xs) (suc n) x e t = or_later (p y) (list_any p xs) (any_at p xs n x e t)
  where
    or_later : (a b : Bool) → b ≡ true → (Rattle.std.specs.Prelude.◌||◌ a b) ≡ true
    or_later true b h = refl
    or_later false b h = h

-- the order's number with the key as its front is that of a target
target_at : (link : Link) (targets : List (List Value)) (row key : List Value) (n : ℕ) (target : List Value) → map (slice_get row) link.columns ≡ map Some key → has_no_null row link.columns ≡ true → slice_get targets n ≡ Some target → values_at targets link.target_columns n ≡ key → dangles link targets row ≡ false
target_at link targets row key n target e whole at front =
    let own = key_is row link.columns key e in
    let its : values_on target link.target_columns ≡ key = sym (values_there targets link.target_columns n target at) ∙ front in
    let fully = values_full target link.target_columns (subst (λ vs. full vs ≡ true) (sym its) (key_full row link.columns key e whole)) in
    let same = row_test (values_on target link.target_columns) (values_on row link.columns) (its ∙ own) in
    let agree : agrees row link.columns target link.target_columns ≡ true = agrees_is row link.columns target link.target_columns whole ∙ both (has_no_null target link.target_columns) (eq_by_cmp row_cmp (values_on target link.target_columns) (values_on row link.columns)) fully same in
    let any = any_at (λ it. agrees row link.columns it link.target_columns) targets n target at agree in
    rw (whole, any) refl

front_taken : (columns others : List ℕ) (key : List Value) (row : List Value) → map (slice_get row) columns ≡ map Some key → length columns ≡ length others → take (length key) others ≡ others
front_taken columns others key row e same =
    let long : length columns ≡ length key = sym (length-map columns (slice_get row)) ∙ (ap length e ∙ length-map key Some) in
    take_all (length key) others (omega arith)

pub bound_here : (link : Link) (targets : List (List Value)) (row key : List Value) (order : Order) (found : List ℕ) → map (slice_get row) link.columns ≡ map Some key → has_no_null row link.columns ≡ true → order.columns ≡ link.target_columns → length link.columns ≡ length link.target_columns
    → HaveFront targets order key found → (length found == 0) ≡ false → dangles link targets row ≡ false
bound_here link targets row key order [] e whole its width h some = cc some
bound_here link targets row key order (n ∷ found) e whole its width h some =
    let within = All-head (λ number. number < length targets) n found h.below in
    let front = All-head (HasFront targets order.columns key) n found h.sound in
    let all : take (length key) order.columns ≡ link.target_columns = ap (take (length key)) its ∙ front_taken link.columns link.target_columns key row e width in
    target_at link targets row key n (get_or targets n []) e whole (slice_get-get_or targets n [] within) (subst (λ cs. values_at targets cs n ≡ key) all front)

-- a row with a NULL
pub null_bound : (link : Link) (targets : List (List Value)) (row : List Value) → has_no_null row link.columns ≡ false → dangles link targets row ≡ false
null_bound link targets row e = rw e refl

not_false : (b : Bool) → not b ≡ true → b ≡ false
not_false true e = cc e
not_false false e = refl

pub bound_told : (link : Link) (targets : List (List Value)) (row key : List Value) (order : Order) (found : List ℕ) (empty : Bool) → map (slice_get row) link.columns ≡ map Some key → has_no_null row link.columns ≡ true → order.columns ≡ link.target_columns → length link.columns ≡ length link.target_columns
    → HaveFront targets order key found → empty ≡ (length found == 0) → not empty ≡ true → dangles link targets row ≡ false
bound_told link targets row key order found empty e whole its width h is t = bound_here link targets row key order found e whole its width h (sym is ∙ not_false empty t)

pub null_bound_told : (link : Link) (targets : List (List Value)) (row : List Value) (columns : List ℕ) (whole : Bool) → columns ≡ link.columns → whole ≡ has_no_null row columns → whole ≡ false → dangles link targets row ≡ false
null_bound_told link targets row columns whole are is told = null_bound link targets row (subst (λ cs. has_no_null row cs ≡ false) are (sym is ∙ told))

pub dangles_none_told : (d : RowSet) (table : ℕ) (link : Link) (own targets : List (List Value)) (none : Bool) → none ≡ true → (none ≡ true → position_from (dangles link targets) 1 own ≡ None) → own ≡ rows_of d table → targets ≡ rows_of d link.target
    → None ≡ position_from (dangles link (rows_of d link.target)) 1 (rows_of d table)
dangles_none_told d table link own targets none told h e f =
    sym (subst (λ rs. position_from (dangles link (rows_of d link.target)) 1 rs ≡ None) e (subst (λ ts. position_from (dangles link ts) 1 own ≡ None) f (h told)))

pub key_seen : (row : List Value) (columns its : List ℕ) (key seen : List Value) → columns ≡ its → map (slice_get row) columns ≡ map Some key → key ≡ seen → map (slice_get row) its ≡ map Some seen
key_seen row columns its key seen e told f = subst (λ cs. map (slice_get row) cs ≡ map Some seen) e (subst (λ vs. map (slice_get row) columns ≡ map Some vs) f told)
