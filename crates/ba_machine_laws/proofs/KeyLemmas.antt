-- Places of a list that grows; and entries by rising numbers: one put in, one taken out, and that look-ups tell them.
use Rattle.std.proofs.Common.{◌≡◌, ◌≢◌, ◌∙◌, ◌<◌, ℕ, zero, suc, Bool, true, false, cond, not, ◌&&◌, T, List, [], ◌∷◌, ◌++◌, None, Some, Ordering, Less, Equal, Greater, ap, is_eq, is_lt, nat_cmp, refl, slice_get, subst, sym}
use Rattle.std.proofs.lemmas.Option.{none-some}
use Rattle.std.specs.BTreeMap.{is_at}
use Rattle.std.specs.Cmp.{nat_cmp_total, ranks, tied_itself}
use Rattle.std.specs.FinMap.Entries.{below_all, find, find-put, find-where_key, is_sorted, is_sorted-put, is_sorted-where_key, put, same_entries, where_key}
use Rattle.std.specs.List.{AllByRecursion}
use Rattle.std.specs.List.Sorted.{IsStrictlySortedBy}
use Rattle.std.specs.Map.{keys_of, lookup}
use Rattle.std.specs.Ordering.{MatchOrdering, eq_by_cmp}

-- ---- places

-- what is added behind leaves each place
pub get_before : {X : Type 0} (xs ys : List X) (n : ℕ) (x : X) → slice_get xs n ≡ Some x → slice_get (xs ++ ys) n ≡ Some x
get_before [] ys n x e = absurd (none-some x e)
get_before (y ∷ xs) ys zero x e = e
get_before (y ∷ xs) ys (suc n) x e = get_before xs ys n x e

-- ---- numbers

-- numbers that tie are equal
tied : (x y : ℕ) → nat_cmp x y ≡ Equal → x ≡ y
tied x y e = subst (λ r. MatchOrdering r (x < y) (x ≡ y) (y < x)) e (ranks x y)

ties : (x : ℕ) → eq_by_cmp nat_cmp x x ≡ true
ties x = ap is_eq (tied_itself nat_cmp_total x)

apart : (x y : ℕ) → x ≢ y → eq_by_cmp nat_cmp x y ≡ false
apart x y differ = by (nat_cmp x y) refl
  where
    by : (r : Ordering) → nat_cmp x y ≡ r → is_eq r ≡ false
    by Less e = refl
    by Equal e = absurd (differ (tied x y e))
    by Greater e = refl

-- the number isn't this one
abbrev is_other : ℕ → ℕ → Bool
is_other k x = not (eq_by_cmp nat_cmp k x)

-- ---- rising entries, by either word

both : (a b : Bool) → T a → T b → T (a && b)
both true b p q = q
both false b p q = p

first : (a b : Bool) → T (a && b) → T a
first true b p = tt
first false b p = p

second : (a b : Bool) → T (a && b) → T b
second true b p = p
second false b p = absurd p

less : (r : Ordering) → T (is_lt r) → r ≡ Less
less Less p = refl
less Equal p = absurd p
less Greater p = absurd p

module _ {X : Type 0} where
  below : (x : ℕ) (es : List (ℕ × X)) → AllByRecursion (λ y. nat_cmp x y ≡ Less) (keys_of es) → T (below_all nat_cmp x es)
  below x [] h = tt
  below x (e ∷ es) h = both _ _ (subst (λ r. T (is_lt r)) (sym h.0) tt) (below x es h.1)

  rises : (es : List (ℕ × X)) → IsStrictlySortedBy nat_cmp (keys_of es) → T (is_sorted nat_cmp es)
  unfolding IsStrictlySortedBy
  rises [] h = tt
  rises (e ∷ es) h = both _ _ (below e.0 es h.0) (rises es h.1)

  all_above : (x : ℕ) (es : List (ℕ × X)) → T (below_all nat_cmp x es) → AllByRecursion (λ y. nat_cmp x y ≡ Less) (keys_of es)
  all_above x [] h = tt
  all_above x (e ∷ es) h = (less (nat_cmp x e.0) (first _ _ h), all_above x es (second _ _ h))

  risen : (es : List (ℕ × X)) → T (is_sorted nat_cmp es) → IsStrictlySortedBy nat_cmp (keys_of es)
  unfolding IsStrictlySortedBy
  risen [] h = tt
  risen (e ∷ es) h = (all_above e.0 es (first _ _ h), risen es (second _ _ h))

  found : (q : ℕ) (es : List (ℕ × X)) → lookup (is_at (nat_cmp q)) es ≡ find nat_cmp q es
  found q [] = refl
  found q (e ∷ es) = ap (λ o. cond (is_eq (nat_cmp q e.0)) (Some e.1) o) (found q es)

  -- ---- one entry is put in

  abbrev pub with_entry : ℕ → X → List (ℕ × X) → List (ℕ × X)
  with_entry k v es = put nat_cmp k v es

  pub with_rises : (k : ℕ) (v : X) (es : List (ℕ × X)) → IsStrictlySortedBy nat_cmp (keys_of es) → IsStrictlySortedBy nat_cmp (keys_of (with_entry k v es))
  with_rises k v es h = risen (with_entry k v es) (is_sorted-put nat_cmp nat_cmp_total k v es (rises es h))

  with_at : (q k : ℕ) (v : X) (es : List (ℕ × X)) (b : Bool) → eq_by_cmp nat_cmp q k ≡ b → lookup (is_at (nat_cmp q)) (with_entry k v es) ≡ cond b (Some v) (find nat_cmp q es)
  with_at q k v es b e = found q (with_entry k v es) ∙ find-put nat_cmp nat_cmp_total q k v es ∙ ap (λ t. cond t (Some v) (find nat_cmp q es)) e

  pub with_here : (k : ℕ) (v : X) (es : List (ℕ × X)) → lookup (is_at (nat_cmp k)) (with_entry k v es) ≡ Some v
  with_here k v es = with_at k k v es true (ties k)

  pub with_others : (k : ℕ) (v : X) (es : List (ℕ × X)) (j : ℕ) → j ≢ k → lookup (is_at (nat_cmp j)) (with_entry k v es) ≡ lookup (is_at (nat_cmp j)) es
  with_others k v es j differ = with_at j k v es false (apart j k differ) ∙ sym (found j es)

  -- ---- the entry of a number is taken out

  abbrev pub without : ℕ → List (ℕ × X) → List (ℕ × X)
  without k es = where_key nat_cmp (is_other k) es

  pub without_rises : (k : ℕ) (es : List (ℕ × X)) → IsStrictlySortedBy nat_cmp (keys_of es) → IsStrictlySortedBy nat_cmp (keys_of (without k es))
  without_rises k es h = risen (without k es) (is_sorted-where_key nat_cmp (is_other k) es (rises es h))

  without_at : (q k : ℕ) (es : List (ℕ × X)) (b : Bool) → is_other k q ≡ b → lookup (is_at (nat_cmp q)) (without k es) ≡ cond b (find nat_cmp q es) None
  without_at q k es b e =
      found q (without k es)
      ∙ find-where_key nat_cmp (is_other k) q (λ x t. ap (is_other k) (sym (tied q x t))) es
      ∙ ap (λ t. cond t (find nat_cmp q es) None) e

  pub without_here : (k : ℕ) (es : List (ℕ × X)) → lookup (is_at (nat_cmp k)) (without k es) ≡ None
  without_here k es = without_at k k es false (ap not (ties k))

  pub without_others : (k : ℕ) (es : List (ℕ × X)) (j : ℕ) → j ≢ k → lookup (is_at (nat_cmp j)) (without k es) ≡ lookup (is_at (nat_cmp j)) es
  without_others k es j differ = without_at j k es true (ap not (apart k j (λ e. differ (sym e)))) ∙ sym (found j es)

  -- ---- look-ups tell rising entries

  pub one_list : (es fs : List (ℕ × X)) → IsStrictlySortedBy nat_cmp (keys_of es) → IsStrictlySortedBy nat_cmp (keys_of fs) → ((q : ℕ) → lookup (is_at (nat_cmp q)) es ≡ lookup (is_at (nat_cmp q)) fs) → es ≡ fs
  one_list es fs g h same = same_entries nat_cmp nat_cmp_total tied es fs (rises es g) (rises fs h) (λ q. sym (found q es) ∙ same q ∙ found q fs)
