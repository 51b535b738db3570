-- What is counted over the calls of all lanes.
use Rattle.std.proofs.Common.{◌≡◌, ◌≢◌, ◌∙◌, ℕ, zero, suc, ◌+◌, ◌-◌, ◌<◌, ◌≤◌, ◌==◌, ◌⊎◌, inl, inr, Bool, cond, List, [], ◌∷◌, All, ap, arith, count_by, flat_map, length, map, refl, subst, sym}
use Rattle.std.proofs.lemmas.List.Elements.{All-head, All-tail}
use Rattle.std.proofs.lemmas.List.Sums.{sum_by-append, sum_by-cons}
use Rattle.std.specs.List.{filter, sum_by}
use Rattle.ba_lanes.specs.Lanes.{AreOfLanes, of_lane, total}
use Rattle.ba_turn.specs.History.{calls_by, entry_of, number_of}
use Rattle.ba_top.proofs.HistoryLemmas.{differ_false, same_or_not, same_true}

-- ---- sums over the numbers below another

total_same : (f g : ℕ → ℕ) (w : ℕ) → ((k : ℕ) → k < w → f k ≡ g k) → total f w ≡ total g w
total_same f g zero same = refl
total_same f g (suc w) same = let h = total_same f g w (λ k low. same k (omega (arith, low))) in let e = same w (omega arith) in omega (arith, h, e)

total_zero : (w : ℕ) → total (λ k. 0) w ≡ 0
total_zero zero = refl
total_zero (suc w) = let h = total_zero w in omega (arith, h)

-- one term is more by c
total_more : (f g : ℕ → ℕ) (l c w : ℕ) → l < w → g l ≡ c + f l → ((k : ℕ) → l ≢ k → g k ≡ f k) → total g w ≡ c + total f w
total_more f g l c zero low here there = absurd (omega (arith, low))
total_more f g l c (suc w) low here there = by (λ differ. total_more f g l c w (omega (arith, low, differ)) here there) (same_or_not l w)
  where
    by : (l ≢ w → total g w ≡ c + total f w) → (l ≡ w) ⊎ (l ≢ w) → total g w + g w ≡ c + (total f w + f w)
    by before (inl e) =
        let h : total g w ≡ total f w = total_same g f w (λ k below. there k (λ same. omega (arith, same, e, below))) in
        let is : g w ≡ c + f w = subst (λ z. g z ≡ c + f z) e here in
        omega (arith, h, is)
    by before (inr differ) = let h = before differ in let e = there w differ in omega (arith, h, e)

-- ---- what stands beside the lines of lanes

module _ {L X : Type 0} (lane : L → ℕ) (g : X → ℕ) (w : ℕ) (low : (line : L) → lane line < w) where
  pub lanes_sum : (lines : List L) (xs : List X) → length xs ≡ length lines → total (λ k. sum_by g (of_lane lane k lines xs)) w ≡ sum_by g xs
  lanes_sum [] [] long = total_zero w
  lanes_sum [] (x ∷ xs) long = absurd (omega (arith, long))
  lanes_sum (line ∷ lines) [] long = absurd (omega (arith, long))
  lanes_sum (line ∷ lines) (x ∷ xs) long =
      total_more (λ k. sum_by g (of_lane lane k lines xs)) (λ k. sum_by g (of_lane lane k (line ∷ lines) (x ∷ xs))) (lane line) (g x) w (low line) here there
      ∙ ap (λ n. g x + n) (lanes_sum lines xs (omega (arith, long))) ∙ sym (sum_by-cons g x xs)
    where
      here : sum_by g (of_lane lane (lane line) (line ∷ lines) (x ∷ xs)) ≡ g x + sum_by g (of_lane lane (lane line) lines xs)
      here = ap (λ t. sum_by g (cond t (x ∷ of_lane lane (lane line) lines xs) (of_lane lane (lane line) lines xs))) (same_true (lane line)) ∙ sum_by-cons g x (of_lane lane (lane line) lines xs)

      there : (k : ℕ) → lane line ≢ k → sum_by g (of_lane lane k (line ∷ lines) (x ∷ xs)) ≡ sum_by g (of_lane lane k lines xs)
      there k differ = ap (λ t. sum_by g (cond t (x ∷ of_lane lane k lines xs) (of_lane lane k lines xs))) (differ_false (lane line) k differ)

-- ---- histories

module _ {E : Type 0} (p : E → Bool) where
  abbrev those : ℕ → List (ℕ × E) → List (ℕ × E)
  those n log = filter (λ c. number_of c == n) log

  abbrev counts : ℕ × E → ℕ
  counts c = cond (p (entry_of c)) 1 0

  own_call : (c : ℕ × E) (log : List (ℕ × E)) (n : ℕ) → number_of c ≡ n → count_by p (calls_by n (c ∷ log)) ≡ counts c + count_by p (calls_by n log)
  own_call c log n e =
      ap (λ t. count_by p (map entry_of (cond t (c ∷ those n log) (those n log)))) (ap (λ z. z == n) e ∙ same_true n)
      ∙ sum_by-cons (λ x. cond (p x) 1 0) (entry_of c) (calls_by n log)

  other_call : (c : ℕ × E) (log : List (ℕ × E)) (n : ℕ) → number_of c ≢ n → count_by p (calls_by n (c ∷ log)) ≡ count_by p (calls_by n log)
  other_call c log n differ = ap (λ t. count_by p (map entry_of (cond t (c ∷ those n log) (those n log)))) (differ_false (number_of c) n differ)

  log_sum : (lanes : ℕ) (log : List (ℕ × E)) → All (λ n. (0 < n) × (n ≤ lanes)) (map number_of log) → total (λ k. count_by p (calls_by (k + 1) log)) lanes ≡ count_by p (map entry_of log)
  log_sum lanes [] all = total_zero lanes
  log_sum lanes (c ∷ log) all =
      let first : (0 < number_of c) × (number_of c ≤ lanes) = All-head (λ n. (0 < n) × (n ≤ lanes)) (number_of c) (map number_of log) all in
      let some = first.0 in
      let few = first.1 in
      total_more (λ k. count_by p (calls_by (k + 1) log)) (λ k. count_by p (calls_by (k + 1) (c ∷ log))) (number_of c - 1) (counts c) lanes (omega (arith, some, few))
      (own_call c log (number_of c - 1 + 1) (omega (arith, some)))
      (λ k differ. other_call c log (k + 1) (λ same. differ (omega (arith, same))))
      ∙ ap (λ n. counts c + n) (log_sum lanes log (All-tail (λ n. (0 < n) × (n ≤ lanes)) (number_of c) (map number_of log) all))
      ∙ sym (sum_by-cons (λ x. cond (p x) 1 0) (entry_of c) (map entry_of log))

  module _ {X : Type 0} (f : X → List E) where
    abbrev count_in : X → ℕ
    count_in x = count_by p (f x)

    pub count_flat : (xs : List X) → count_by p (flat_map f xs) ≡ sum_by count_in xs
    count_flat [] = refl
    count_flat (x ∷ xs) =
        sum_by-append (λ e. cond (p e) 1 0) (f x) (flat_map f xs) ∙ ap (λ n. count_in x + n) (count_flat xs) ∙ sym (sum_by-cons count_in x xs)

    total_flat : (lists : ℕ → List X) (w : ℕ) → total (λ k. count_by p (flat_map f (lists k))) w ≡ total (λ k. sum_by count_in (lists k)) w
    total_flat lists w = total_same (λ k. count_by p (flat_map f (lists k))) (λ k. sum_by count_in (lists k)) w (λ k below. count_flat (lists k))

    -- the calls of lanes' lines, and those of the history
    pub calls_counted : {L : Type 0} (lane : L → ℕ) (w : ℕ) (low : (line : L) → lane line < w) (lines : List L) (xs : List X) (calls : List E) (numbers : List ℕ) → length xs ≡ length lines
        → AreOfLanes [] w (λ k. flat_map f (of_lane lane k lines xs)) calls numbers → count_by p calls ≡ sum_by count_in xs
    calls_counted lane w low lines xs calls numbers long h =
        ap (count_by p) h.calls_are
        ∙ sym (log_sum w h.log h.no_others)
        ∙ total_same (λ k. count_by p (calls_by (k + 1) h.log)) (λ k. count_by p (flat_map f (of_lane lane k lines xs))) w (λ k below. ap (count_by p) (h.each k below))
        ∙ total_flat (λ k. of_lane lane k lines xs) w
        ∙ lanes_sum lane count_in w low lines xs long
