-- The order of values, and that of rows, is total, and in it only equal values tie.
use Rattle.std.proofs.Common.{◌≡◌, List, refl, sym, ap, ◌∙◌}
use Rattle.std.specs.Bool.{Decides}
use Rattle.std.specs.Cmp.{IsTotalOrder, IsEquivalence, eq_by_cmp_equiv, signed_Decides, int_cmp_total}
use Rattle.std.specs.Cmp.Lexicographic.{lists_total, lists_ties, pointwise, pointwise_decides, texts_ties, bytes_decides, nat_list_cmp_total}
use Rattle.std.specs.Ordering.{eq_by_cmp, is_eq}
use Rattle.std.specs.declared.cmp.Ordering.TheVariants.{Less, Equal}
use Rattle.ba_model.specs.Order.{value_cmp, row_cmp}
use Rattle.ba_model.specs.declared.value.Value.{Value}
use Rattle.ba_model.specs.declared.value.Value.TheVariants.{Null, Int, Text}

value_antisymm : (x y : Value) → value_cmp x y ≡ Rattle.std.specs.Ordering.ordering_reverse (value_cmp y x)
value_antisymm Null Null = refl
value_antisymm Null (Int m) = refl
value_antisymm Null (Text t) = refl
value_antisymm (Int n) Null = refl
value_antisymm (Int n) (Int m) = int_cmp_total.antisymm n m
value_antisymm (Int n) (Text t) = refl
value_antisymm (Text s) Null = refl
value_antisymm (Text s) (Int m) = refl
value_antisymm (Text s) (Text t) = nat_list_cmp_total.antisymm s t

value_trans : (x y z : Value) → value_cmp x y ≡ Less → value_cmp y z ≡ Less → value_cmp x z ≡ Less
value_trans Null Null z p q = cc
value_trans Null (Int m) Null p q = cc
value_trans Null (Text t) Null p q = cc
value_trans Null y (Int k) p q = refl
value_trans Null y (Text u) p q = refl
value_trans (Int n) Null z p q = cc
value_trans (Text s) Null z p q = cc
value_trans (Int n) (Int m) Null p q = cc
value_trans (Int n) (Text t) Null p q = cc
value_trans (Text s) (Text t) Null p q = cc
value_trans (Int n) (Int m) (Int k) p q = int_cmp_total.trans n m k p q
value_trans (Int n) y (Text t) p q = refl
value_trans (Int n) (Text s) (Int k) p q = cc
value_trans (Text s) (Int m) z p q = cc
value_trans (Text s) (Text t) (Int k) p q = q
value_trans (Text s) (Text t) (Text u) p q = nat_list_cmp_total.trans s t u p q

value_congr : (x y z : Value) → value_cmp x y ≡ Equal → value_cmp x z ≡ value_cmp y z
value_congr Null Null z p = refl
value_congr Null (Int m) z p = cc
value_congr Null (Text t) z p = cc
value_congr (Int n) Null z p = cc
value_congr (Int n) (Int m) Null p = refl
value_congr (Int n) (Int m) (Int k) p = int_cmp_total.congr n m k p
value_congr (Int n) (Int m) (Text t) p = refl
value_congr (Int n) (Text t) z p = cc
value_congr (Text s) Null z p = cc
value_congr (Text s) (Int m) z p = cc
value_congr (Text s) (Text t) Null p = refl
value_congr (Text s) (Text t) (Int k) p = refl
value_congr (Text s) (Text t) (Text u) p = nat_list_cmp_total.congr s t u p

pub value_total : IsTotalOrder value_cmp
value_total = record { antisymm = value_antisymm; trans = value_trans; congr = value_congr }

pub value_decides : (x y : Value) → Decides (eq_by_cmp value_cmp x y) (x ≡ y)
value_decides Null Null = (λ e. refl, λ e. refl)
value_decides Null (Int m) = (λ e. cc, λ e. cc)
value_decides Null (Text t) = (λ e. cc, λ e. cc)
value_decides (Int n) Null = (λ e. cc, λ e. cc)
value_decides (Int n) (Int m) = (λ e. ap Int ((signed_Decides n m).0 e), λ e. (signed_Decides n m).1 cc)
value_decides (Int n) (Text t) = (λ e. cc, λ e. cc)
value_decides (Text s) Null = (λ e. cc, λ e. cc)
value_decides (Text s) (Int m) = (λ e. cc, λ e. cc)
value_decides (Text s) (Text t) = (
  λ e. ap Text ((bytes_decides s t).0 (texts_ties s t ∙ e)),
  λ e. sym (texts_ties s t) ∙ (bytes_decides s t).1 cc,
)

pub value_equiv : IsEquivalence (eq_by_cmp value_cmp)
value_equiv = eq_by_cmp_equiv value_total

pub row_total : IsTotalOrder row_cmp
row_total = lists_total value_total

pub row_decides : (x y : List Value) → Decides (pointwise (eq_by_cmp value_cmp) x y) (x ≡ y)
row_decides = pointwise_decides value_decides

-- rows tie just where the test of their values does
pub row_ties : (x y : List Value) → pointwise (eq_by_cmp value_cmp) x y ≡ eq_by_cmp row_cmp x y
row_ties = lists_ties value_cmp (λ x y. refl)

-- rows that tie are equal
pub row_equal : (x y : List Value) → row_cmp x y ≡ Equal → x ≡ y
row_equal x y e = (row_decides x y).0 (row_ties x y ∙ ap is_eq e)
