-- How many rows are told, and when the pairs of them are within the limit.
use Rattle.std.proofs.Common.{◌≡◌, ◌∙◌, ℕ, zero, suc, ◌+◌, ◌*◌, ◌<◌, ◌≤◌, Bool, IsTrue, inl, inr, List, length, min, take, sym, ap, subst, arith}
use Rattle.std.proofs.Math.Nat.{add_comm, le-mul_of_pos_right, min-eq_left, min-eq_right, mul_comm, zero-mul}
use Rattle.std.proofs.lemmas.Bool.{cases_lt}
use Rattle.std.proofs.lemmas.List.Sums.{sum_by_more}
use Rattle.std.proofs.lemmas.Option.{get_or_from_slice_get, slice_get_within}
use Rattle.std.specs.Prelude.{◌↔◌, Some, slice_get}
use Rattle.ba_comply.specs.declared.trace.TraceEntry.{TraceEntry}
use Rattle.ba_clash.specs.Clash.{AreFew, most_compared, told_rows}

-- ---- sums that stop at a number

min_add : (most a b : ℕ) → min (min a most + b) most ≡ min (a + b) most
min_add most a b =
    elim (cases_lt a most) [
      | inl low ↦
          let le : a ≤ most = omega (arith, low) in
          ap (λ x. min (x + b) most) (min-eq_left le)
      | inr high ↦
          let sum : most ≤ most + b = omega arith in
          let all : most ≤ a + b = omega (arith, high) in
          ap (λ x. min (x + b) most) (min-eq_right high)
          ∙ (min-eq_right sum ∙ sym (min-eq_right all))
    ]

min_both : (most a b : ℕ) → min (min a most + min b most) most ≡ min (a + b) most
min_both most a b =
    min_add most a (min b most)
    ∙ (ap (λ x. min x most) (add_comm a (min b most))
    ∙ (min_add most b a ∙ ap (λ x. min x most) (add_comm b a)))

-- the rows of one entry more
one_more : (entries : List TraceEntry) (t : ℕ) (it : TraceEntry) → slice_get entries t ≡ Some it
    → told_rows (take (t + 1) entries) ≡ told_rows (take t entries) + length it.rows
one_more entries t it is =
    sum_by_more (λ (x : TraceEntry). length x.rows) entries t it (slice_get_within entries t it is)
    ∙ ap (λ (x : TraceEntry). told_rows (take t entries) + length x.rows)
    (get_or_from_slice_get entries t it it is)

pub rows_more : (most : ℕ) (entries : List TraceEntry) (t : ℕ) (it : TraceEntry) (old new : ℕ)
    → slice_get entries t ≡ Some it → old ≡ min (told_rows (take t entries)) most
    → new ≡ min (old + length it.rows) most → new ≡ min (told_rows (take (t + 1) entries)) most
rows_more most entries t it old new is old_is new_is =
    new_is ∙ (ap (λ x. min (x + length it.rows) most) old_is
    ∙ (min_add most (told_rows (take t entries)) (length it.rows)
    ∙ ap (λ x. min x most) (sym (one_more entries t it is))))

-- ---- the limit

large : (limit n m : ℕ) → zero < n → limit < m → limit < n * m
large limit n m some more =
    let le : m ≤ n * m = subst (λ x. m ≤ x) (mul_comm m n) (le-mul_of_pos_right m some) in
    omega (arith, le, more)

large_min : (most limit n : ℕ) → limit < most → limit < n → limit < min n most
large_min most limit n low more =
    elim (cases_lt n most) [
      | inl below ↦
          let le : n ≤ most = omega (arith, below) in
          subst (λ x. limit < x) (sym (min-eq_left le)) more
      | inr above ↦ subst (λ x. limit < x) (sym (min-eq_right above)) low
    ]

not_both : (limit n : ℕ) → limit < n → n ≤ limit → ⊥
not_both limit n more less = omega (arith, more, less)

within_min : (most limit n : ℕ) → limit < most → (min n most ≤ limit) ↔ (n ≤ limit)
within_min most limit n low =
    elim (cases_lt n most) [
      | inl below ↦
          let le : n ≤ most = omega (arith, below) in (
            λ h. subst (λ x. x ≤ limit) (min-eq_left le) h,
            λ h. subst (λ x. x ≤ limit) (sym (min-eq_left le)) h,
          )
      | inr above ↦ (
        λ h. absurd (not_both limit most low (subst (λ x. x ≤ limit) (min-eq_right above) h)),
        λ h. absurd (omega (arith, low, above, h)),
      )
    ]

-- the pairs of so many rows with all rows, of which there are as many or more
pairs : (most limit n all : ℕ) → limit < most → n ≤ all
    → (min (min n most * min all most) most ≤ limit) ↔ (n * all ≤ limit)
pairs most limit zero all low within =
    let none : min zero most ≡ zero = min-eq_left (omega arith) in
    let left : min (min zero most * min all most) most ≡ zero =
    ap (λ x. min (x * min all most) most) none
    ∙ (ap (λ x. min x most) (zero-mul (min all most)) ∙ none) in (
      λ h. subst (λ x. x ≤ limit) (sym (zero-mul all)) (omega arith),
      λ h. subst (λ x. x ≤ limit) (sym left) (omega arith),
    )
pairs most limit (suc n) all low within =
    elim (cases_lt limit all) [
      | inl more ↦
          let some : zero < min (suc n) most =
          large_min most zero (suc n) (omega (arith, low)) (omega arith) in
          let left : limit < min (min (suc n) most * min all most) most =
          large_min most limit (min (suc n) most * min all most) low
          (large limit (min (suc n) most) (min all most) some
          (large_min most limit all low more)) in
          let right : limit < suc n * all = large limit (suc n) all (omega arith) more in (
            λ h. absurd (not_both limit (min (min (suc n) most * min all most) most) left h),
            λ h. absurd (not_both limit (suc n * all) right h),
          )
      | inr few ↦
          let n_is : min (suc n) most ≡ suc n = min-eq_left (omega (arith, within, few, low)) in
          let all_is : min all most ≡ all = min-eq_left (omega (arith, few, low)) in
          subst (λ x. (min (x * min all most) most ≤ limit) ↔ (suc n * all ≤ limit)) (sym n_is)
          (subst (λ x. (min (suc n * x) most ≤ limit) ↔ (suc n * all ≤ limit)) (sym all_is)
          (within_min most limit (suc n * all) low))
    ]

few_pairs : (most limit old new : ℕ) → limit < most
    → (min (min new most * min (min old most + min new most) most) most ≤ limit)
    ↔ (new * (old + new) ≤ limit)
few_pairs most limit old new low =
    subst (λ x. (min (min new most * x) most ≤ limit) ↔ (new * (old + new) ≤ limit))
    (sym (min_both most old new)) (pairs most limit new (old + new) low (omega arith))

-- the counts that stop at a number larger than the limit tell whether the pairs are few
pub few_by : (most : ℕ) (old new : List TraceEntry) (old_rows new_rows : ℕ) (b : Bool)
    → most_compared < most → old_rows ≡ min (told_rows old) most
    → new_rows ≡ min (told_rows new) most
    → (IsTrue b ↔ (min (new_rows * min (old_rows + new_rows) most) most ≤ most_compared))
    → (IsTrue b ↔ AreFew old new)
few_by most old new old_rows new_rows b low old_is new_is tells =
    let told : IsTrue b
    ↔ (min (min (told_rows new) most
    * min (min (told_rows old) most + min (told_rows new) most) most) most ≤ most_compared) =
    subst (λ x. IsTrue b ↔ (min (x * min (min (told_rows old) most + x) most) most ≤ most_compared))
    new_is
    (subst (λ x. IsTrue b ↔ (min (new_rows * min (x + new_rows) most) most ≤ most_compared)) old_is
    tells) in
    let few = few_pairs most most_compared (told_rows old) (told_rows new) low in
    (λ h. few.0 (told.0 h), λ h. told.1 (few.1 h))
