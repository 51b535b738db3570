-- What follows for lines that lanes carry.
use Rattle.std.proofs.Common.{◌≡◌, ◌≢◌, ◌∙◌, refl, sym, ap, subst, ℕ, suc, zero, ◌+◌, ◌*◌, ◌<◌, ◌≤◌, ◌⊎◌, inl, inr, Bool, true, false, ◌==◌, List, [], ◌∷◌, ◌++◌, length, map, cond, append-nil, arith, get_or, take}
use Rattle.std.proofs.lemmas.Bool.{eqb-false, eqb-true}
use Rattle.std.proofs.lemmas.List.{length-take, take_more}
use Rattle.std.proofs.lemmas.List.Elements.{filter-append}
use Rattle.std.proofs.lemmas.List.Sums.{sum_by-cons}
use Rattle.std.specs.Prelude.{Contains, count_by, sum_by}
use Rattle.ba_lanes.specs.Lanes.{EachAfter, lines_of, of_lane, total}

-- ---- numbers

pub same_true : (k : ℕ) → (k == k) ≡ true
same_true k = by (k == k) refl
  where
    by : (t : Bool) → (k == k) ≡ t → (k == k) ≡ true
    by true e = e
    by false e = absurd (eqb-false k k e refl)

pub differ_false : (a b : ℕ) → a ≢ b → (a == b) ≡ false
differ_false a b differ = by (a == b) refl
  where
    by : (t : Bool) → (a == b) ≡ t → (a == b) ≡ false
    by true e = absurd (differ (eqb-true a b e))
    by false e = e

-- two numbers are the same, or not
pub same_or_not : (a b : ℕ) → (a ≡ b) ⊎ (a ≢ b)
same_or_not a b = by (a == b) refl
  where
    by : (t : Bool) → (a == b) ≡ t → (a ≡ b) ⊎ (a ≢ b)
    by true e = inl (eqb-true a b e)
    by false e = inr (eqb-false a b e)

pub nothing_more : {X : Type 0} (xs : List X) → xs ++ [] ≡ xs
nothing_more xs = append-nil xs

-- ---- sums over the numbers below another

pub total_front : (f : ℕ → ℕ) (n w : ℕ) → n < w → total f n + f n ≤ total f w
total_front f n zero low = absurd (omega (arith, low))
total_front f n (suc w) low = by (λ differ. total_front f n w (omega (arith, low, differ))) (same_or_not n w)
  where
    by : (n ≢ w → total f n + f n ≤ total f w) → (n ≡ w) ⊎ (n ≢ w) → total f n + f n ≤ total f w + f w
    by before (inl e) = subst (λ z. total f n + f n ≤ total f z + f z) e (omega arith)
    by before (inr differ) = let h = before differ in omega (arith, h)

total_same : (f g : ℕ → ℕ) (w : ℕ) → ((k : ℕ) → k < w → f k ≡ g k) → total f w ≡ total g w
total_same f g zero same = refl
total_same f g (suc w) same = let h = total_same f g w (λ k low. same k (omega (arith, low))) in let e = same w (omega arith) in omega (arith, h, e)

total_zero : (w : ℕ) → total (λ k. 0) w ≡ 0
total_zero zero = refl
total_zero (suc w) = let h = total_zero w in omega (arith, h)

-- one term is more by c
total_more : (f g : ℕ → ℕ) (l c w : ℕ) → l < w → g l ≡ c + f l → ((k : ℕ) → l ≢ k → g k ≡ f k) → total g w ≡ c + total f w
total_more f g l c zero low here there = absurd (omega (arith, low))
total_more f g l c (suc w) low here there = by (λ differ. total_more f g l c w (omega (arith, low, differ)) here there) (same_or_not l w)
  where
    by : (l ≢ w → total g w ≡ c + total f w) → (l ≡ w) ⊎ (l ≢ w) → total g w + g w ≡ c + (total f w + f w)
    by before (inl e) =
        let h : total g w ≡ total f w = total_same g f w (λ k below. there k (λ same. omega (arith, same, e, below))) in
        let is : g w ≡ c + f w = subst (λ z. g z ≡ c + f z) e here in
        omega (arith, h, is)
    by before (inr differ) = let h = before differ in let e = there w differ in omega (arith, h, e)

pub total_twice : (f : ℕ → ℕ) (w : ℕ) → total (λ k. 2 * f k) w ≡ 2 * total f w
total_twice f zero = refl
total_twice f (suc w) = let h = total_twice f w in omega (arith, h)

-- ---- lines and what stands beside them

module _ {L : Type 0} (lane : L → ℕ) where
  pub own_line : (line : L) (lines : List L) → lines_of lane (lane line) (line ∷ lines) ≡ line ∷ lines_of lane (lane line) lines
  own_line line lines = ap (λ t. cond t (line ∷ lines_of lane (lane line) lines) (lines_of lane (lane line) lines)) (same_true (lane line))

  pub other_line : (k : ℕ) (line : L) (lines : List L) → lane line ≢ k → lines_of lane k (line ∷ lines) ≡ lines_of lane k lines
  other_line k line lines differ = ap (λ t. cond t (line ∷ lines_of lane k lines) (lines_of lane k lines)) (differ_false (lane line) k differ)

  -- of the first lines, one more: of the lane, or not
  pub mine_short : (k : ℕ) (lines : List L) → length (lines_of lane k lines) ≤ length lines
  mine_short k [] = omega arith
  mine_short k (line ∷ lines) = by (mine_short k lines) (lane line == k)
    where
      by : length (lines_of lane k lines) ≤ length lines → (t : Bool) → length (cond t (line ∷ lines_of lane k lines) (lines_of lane k lines)) ≤ length (line ∷ lines)
      by h true = omega (arith, h)
      by h false = omega (arith, h)

  pub own_taken : (k : ℕ) (lines : List L) (i : ℕ) (line : L) → i < length lines → line ≡ get_or lines i line → lane line ≡ k → lines_of lane k (take (i + 1) lines) ≡ lines_of lane k (take i lines) ++ line ∷ []
  own_taken k lines i line below at mine =
      ap (lines_of lane k) (take_more lines i line below ∙ ap (λ z. take i lines ++ z ∷ []) (sym at)) ∙ filter-append (λ z. lane z == k) (take i lines) (line ∷ [])
      ∙ ap (λ z. lines_of lane k (take i lines) ++ z) (subst (λ z. lines_of lane z (line ∷ []) ≡ line ∷ []) mine (own_line line []))

  pub other_taken : (k : ℕ) (lines : List L) (i : ℕ) (line : L) → i < length lines → line ≡ get_or lines i line → lane line ≢ k → lines_of lane k (take (i + 1) lines) ≡ lines_of lane k (take i lines)
  other_taken k lines i line below at differ =
      ap (lines_of lane k) (take_more lines i line below ∙ ap (λ z. take i lines ++ z ∷ []) (sym at)) ∙ filter-append (λ z. lane z == k) (take i lines) (line ∷ [])
      ∙ ap (λ z. lines_of lane k (take i lines) ++ z) (other_line k line [] differ) ∙ append-nil (lines_of lane k (take i lines))

  pub taken_short : (k : ℕ) (lines : List L) (i : ℕ) → i < length lines → length (lines_of lane k (take i lines)) < length lines
  taken_short k lines i below = let short = mine_short k (take i lines) in let long = length-take i lines in omega (arith, short, long, below)

  -- the lines of all lanes are all lines
  pub sums_sum : (f : L → ℕ) (w : ℕ) (lines : List L) → ((line : L) → lane line < w) → total (λ k. sum_by f (lines_of lane k lines)) w ≡ sum_by f lines
  sums_sum f w [] low = total_zero w
  sums_sum f w (line ∷ lines) low =
      let c = f line in
      let g : ℕ → ℕ = λ k. sum_by f (lines_of lane k lines) in
      total_more g (λ k. sum_by f (lines_of lane k (line ∷ lines))) (lane line) c w (low line)
      (ap (sum_by f) (own_line line lines) ∙ sum_by-cons f line (lines_of lane (lane line) lines)) (λ k differ. ap (sum_by f) (other_line k line lines differ))
      ∙ ap (λ z. c + z) (sums_sum f w lines low) ∙ sym (sum_by-cons f line lines)

  pub counts_sum : (p : L → Bool) (w : ℕ) (lines : List L) → ((line : L) → lane line < w) → total (λ k. count_by p (lines_of lane k lines)) w ≡ count_by p lines
  counts_sum p w [] low = total_zero w
  counts_sum p w (line ∷ lines) low =
      let c = cond (p line) 1 0 in
      let f : ℕ → ℕ = λ k. count_by p (lines_of lane k lines) in
      total_more f (λ k. count_by p (lines_of lane k (line ∷ lines))) (lane line) c w (low line)
      (ap (count_by p) (own_line line lines) ∙ sum_by-cons (λ y. cond (p y) 1 0) line (lines_of lane (lane line) lines)) (λ k differ. ap (count_by p) (other_line k line lines differ))
      ∙ ap (λ z. c + z) (counts_sum p w lines low) ∙ sym (sum_by-cons (λ y. cond (p y) 1 0) line lines)

  module _ {X : Type 0} where
    pub own_cons : (line : L) (lines : List L) (x : X) (xs : List X) → of_lane lane (lane line) (line ∷ lines) (x ∷ xs) ≡ x ∷ of_lane lane (lane line) lines xs
    own_cons line lines x xs = ap (λ t. cond t (x ∷ of_lane lane (lane line) lines xs) (of_lane lane (lane line) lines xs)) (same_true (lane line))

    pub other_cons : (k : ℕ) (line : L) (lines : List L) (x : X) (xs : List X) → lane line ≢ k → of_lane lane k (line ∷ lines) (x ∷ xs) ≡ of_lane lane k lines xs
    other_cons k line lines x xs differ = ap (λ t. cond t (x ∷ of_lane lane k lines xs) (of_lane lane k lines xs)) (differ_false (lane line) k differ)

    -- one more line at the end: of the lane, or not
    pub own_end : (k : ℕ) (lines : List L) (xs : List X) (line : L) (x : X) → length xs ≡ length lines → lane line ≡ k → of_lane lane k (lines ++ line ∷ []) (xs ++ x ∷ []) ≡ of_lane lane k lines xs ++ x ∷ []
    own_end k [] [] line x long is = subst (λ z. of_lane lane z (line ∷ []) (x ∷ []) ≡ x ∷ []) is (own_cons line [] x [])
    own_end k [] (y ∷ xs) line x long is = absurd (omega (arith, long))
    own_end k (l ∷ lines) [] line x long is = absurd (omega (arith, long))
    own_end k (l ∷ lines) (y ∷ xs) line x long is = by (own_end k lines xs line x (omega (arith, long)) is) (lane l == k)
      where
        by : of_lane lane k (lines ++ line ∷ []) (xs ++ x ∷ []) ≡ of_lane lane k lines xs ++ x ∷ [] → (t : Bool) → cond t (y ∷ of_lane lane k (lines ++ line ∷ []) (xs ++ x ∷ [])) (of_lane lane k (lines ++ line ∷ []) (xs ++ x ∷ [])) ≡ cond t (y ∷ of_lane lane k lines xs) (of_lane lane k lines xs) ++ x ∷ []
        by h true = ap (λ z. y ∷ z) h
        by h false = h

    pub other_end : (k : ℕ) (lines : List L) (xs : List X) (line : L) (x : X) → length xs ≡ length lines → lane line ≢ k → of_lane lane k (lines ++ line ∷ []) (xs ++ x ∷ []) ≡ of_lane lane k lines xs
    other_end k [] [] line x long differ = other_cons k line [] x [] differ
    other_end k [] (y ∷ xs) line x long differ = absurd (omega (arith, long))
    other_end k (l ∷ lines) [] line x long differ = absurd (omega (arith, long))
    other_end k (l ∷ lines) (y ∷ xs) line x long differ = ap (λ z. cond (lane l == k) (y ∷ z) z) (other_end k lines xs line x (omega (arith, long)) differ)

    -- the lists beside the lines of each lane determine the whole list
    pub determined : (w : ℕ) (lines : List L) (a b : List X) → length a ≡ length lines → length b ≡ length lines → ((line : L) → lane line < w) →
        ((k : ℕ) → k < w → of_lane lane k lines a ≡ of_lane lane k lines b) → a ≡ b
    determined w [] [] [] la lb low same = refl
    determined w [] (x ∷ a) b la lb low same = absurd (omega (arith, la))
    determined w [] [] (y ∷ b) la lb low same = absurd (omega (arith, lb))
    determined w (line ∷ lines) [] b la lb low same = absurd (omega (arith, la))
    determined w (line ∷ lines) (x ∷ a) [] la lb low same = absurd (omega (arith, lb))
    determined w (line ∷ lines) (x ∷ a) (y ∷ b) la lb low same =
        let first : x ≡ y = ap (get_or_first x) heads in
        λ i. first i ∷ determined w lines a b (omega (arith, la)) (omega (arith, lb)) low rest i
      where
        get_or_first : X → List X → X
        get_or_first d [] = d
        get_or_first d (z ∷ zs) = z

        behind : List X → List X
        behind [] = []
        behind (z ∷ zs) = zs

        heads : x ∷ of_lane lane (lane line) lines a ≡ y ∷ of_lane lane (lane line) lines b
        heads = sym (own_cons line lines x a) ∙ same (lane line) (low line) ∙ own_cons line lines y b

        tails : of_lane lane (lane line) lines a ≡ of_lane lane (lane line) lines b
        tails = ap behind heads

        rest : (k : ℕ) → k < w → of_lane lane k lines a ≡ of_lane lane k lines b
        rest k below = by (same_or_not (lane line) k)
          where
            by : (lane line ≡ k) ⊎ (lane line ≢ k) → of_lane lane k lines a ≡ of_lane lane k lines b
            by (inl e) = subst (λ z. of_lane lane z lines a ≡ of_lane lane z lines b) e tails
            by (inr differ) = sym (other_cons k line lines x a differ) ∙ same k below ∙ other_cons k line lines y b differ

    -- an element stands among those of its line's lane
    pub in_its_lane : (w : ℕ) (lines : List L) (xs : List X) (x : X) → length xs ≡ length lines → ((line : L) → lane line < w) → Contains xs x → (k : ℕ) × (k < w) × Contains (of_lane lane k lines xs) x
    in_its_lane w [] [] x long low h = let none = h.1 in absurd (omega (arith, none))
    in_its_lane w [] (y ∷ xs) x long low h = absurd (omega (arith, long))
    in_its_lane w (line ∷ lines) [] x long low h = absurd (omega (arith, long))
    in_its_lane w (line ∷ lines) (y ∷ xs) x long low h = at (in_its_lane w lines xs x (omega (arith, long)) low) h.0 h.1 h.2
      where
        grow : (k : ℕ) → Contains (of_lane lane k lines xs) x → Contains (of_lane lane k (line ∷ lines) (y ∷ xs)) x
        grow k there = by (lane line == k)
          where
            by : (t : Bool) → Contains (cond t (y ∷ of_lane lane k lines xs) (of_lane lane k lines xs)) x
            by true = let inside = there.1 in (suc there.0, omega (arith, inside), there.2)
            by false = there

        at : (Contains xs x → (k : ℕ) × (k < w) × Contains (of_lane lane k lines xs) x) → (i : ℕ) → i < length (y ∷ xs) → get_or (y ∷ xs) i x ≡ x → (k : ℕ) × (k < w) × Contains (of_lane lane k (line ∷ lines) (y ∷ xs)) x
        at behind zero inside e =
            let first : Contains (y ∷ of_lane lane (lane line) lines xs) x = (0, omega arith, e) in
            (lane line, low line, subst (λ z. Contains z x) (sym (own_cons line lines y xs)) first)
        at behind (suc i) inside e = let found = behind (i, omega (arith, inside), e) in (found.0, found.1, grow found.0 found.2)

  pub of_lane_map : {X Y : Type 0} (f : X → Y) (k : ℕ) (lines : List L) (xs : List X) → of_lane lane k lines (map f xs) ≡ map f (of_lane lane k lines xs)
  of_lane_map f k [] xs = refl
  of_lane_map f k (line ∷ lines) [] = refl
  of_lane_map f k (line ∷ lines) (x ∷ xs) = by (of_lane_map f k lines xs) (lane line == k)
    where
      by : of_lane lane k lines (map f xs) ≡ map f (of_lane lane k lines xs) → (t : Bool) → cond t (f x ∷ of_lane lane k lines (map f xs)) (of_lane lane k lines (map f xs)) ≡ map f (cond t (x ∷ of_lane lane k lines xs) (of_lane lane k lines xs))
      by h true = ap (λ z. f x ∷ z) h
      by h false = h

-- ---- what each lane does makes what becomes of all lines

module _ {L D : Type 0} (lane : L → ℕ) (w : ℕ) (low : (line : L) → lane line < w) (P : List D → L → D → Type 0) (Sees : ℕ → List D → List D → Type 0)
    (lift : (own all : List D) (line : L) (it : D) → Sees (lane line) own all → P own line it → P all line it)
    (sees_own : (own all : List D) (line : L) (it : D) → Sees (lane line) own all → P own line it → Sees (lane line) (own ++ it ∷ []) (all ++ it ∷ []))
    (sees_other : (k : ℕ) (own all earlier : List D) (line : L) (it : D) → Sees k own all → lane line ≢ k → P earlier line it → Sees k own (all ++ it ∷ [])) where
  pub record Merged (earlier : List D) (lines : List L) (own : ℕ → List D) : Type 0 where
    pub its : List D
    pub served : EachAfter P earlier lines its
    pub each : (k : ℕ) → k < w → of_lane lane k lines its ≡ own k

  none_left : (earlier its : List D) → EachAfter P earlier [] its → [] ≡ its
  none_left earlier [] h = refl
  none_left earlier (it ∷ its) h = absurd h

  -- what each lane did before, and does behind one line of its own
  abbrev one_more : {A : Type 0} → (A → A) → (ℕ → A) → ℕ → ℕ → A
  one_more change f k j = cond (k == j) (change (f j)) (f j)

  more_own : {A : Type 0} (change : A → A) (f : ℕ → A) (k : ℕ) → one_more change f k k ≡ change (f k)
  more_own change f k = ap (λ t. cond t (change (f k)) (f k)) (same_true k)

  more_other : {A : Type 0} (change : A → A) (f : ℕ → A) (k j : ℕ) → k ≢ j → one_more change f k j ≡ f j
  more_other change f k j differ = ap (λ t. cond t (change (f j)) (f j)) (differ_false k j differ)

  module _ (line : L) (lines : List L) (earlier : List D) (before own : ℕ → List D) (sees : (k : ℕ) → k < w → Sees k (before k) earlier)
      (does : (k : ℕ) → k < w → EachAfter P (before k) (lines_of lane k (line ∷ lines)) (own k)) (it : D) (its : List D) (own_is : own (lane line) ≡ it ∷ its)
      (served : P (before (lane line)) line it) (rest : EachAfter P (before (lane line) ++ it ∷ []) (lines_of lane (lane line) lines) its) where
    abbrev before_then : ℕ → List D
    before_then = one_more (λ z. z ++ it ∷ []) before (lane line)

    abbrev own_then : ℕ → List D
    own_then = one_more (λ z. its) own (lane line)

    sees_then : (k : ℕ) → k < w → Sees k (before_then k) (earlier ++ it ∷ [])
    sees_then k below = by (same_or_not (lane line) k)
      where
        by : (lane line ≡ k) ⊎ (lane line ≢ k) → Sees k (before_then k) (earlier ++ it ∷ [])
        by (inl e) = subst (λ z. Sees z (before_then z) (earlier ++ it ∷ [])) e
            (subst (λ z. Sees (lane line) z (earlier ++ it ∷ [])) (sym (more_own (λ z. z ++ it ∷ []) before (lane line))) (sees_own (before (lane line)) earlier line it (sees (lane line) (low line)) served))
        by (inr differ) = subst (λ z. Sees k z (earlier ++ it ∷ [])) (sym (more_other (λ z. z ++ it ∷ []) before (lane line) k differ)) (sees_other k (before k) earlier (before (lane line)) line it (sees k below) differ served)

    does_then : (k : ℕ) → k < w → EachAfter P (before_then k) (lines_of lane k lines) (own_then k)
    does_then k below = by (same_or_not (lane line) k)
      where
        by : (lane line ≡ k) ⊎ (lane line ≢ k) → EachAfter P (before_then k) (lines_of lane k lines) (own_then k)
        by (inl e) = subst (λ z. EachAfter P (before_then z) (lines_of lane z lines) (own_then z)) e
            (subst (λ z. EachAfter P z (lines_of lane (lane line) lines) (own_then (lane line))) (sym (more_own (λ z. z ++ it ∷ []) before (lane line)))
            (subst (EachAfter P (before (lane line) ++ it ∷ []) (lines_of lane (lane line) lines)) (sym (more_own (λ z. its) own (lane line))) rest))
        by (inr differ) =
            subst (λ z. EachAfter P z (lines_of lane k lines) (own_then k)) (sym (more_other (λ z. z ++ it ∷ []) before (lane line) k differ))
            (subst (EachAfter P (before k) (lines_of lane k lines)) (sym (more_other (λ z. its) own (lane line) k differ))
            (subst (λ z. EachAfter P (before k) z (own k)) (other_line lane k line lines differ) (does k below)))

    with_first : Merged (earlier ++ it ∷ []) lines own_then → Merged earlier (line ∷ lines) own
    with_first further = record {
      its = it ∷ further.its;
      served = (lift (before (lane line)) earlier line it (sees (lane line) (low line)) served, further.served);
      each = λ k below. each k below (same_or_not (lane line) k);
    }
      where
        each : (k : ℕ) → k < w → (lane line ≡ k) ⊎ (lane line ≢ k) → of_lane lane k (line ∷ lines) (it ∷ further.its) ≡ own k
        each k below (inl e) =
            subst (λ z. of_lane lane z (line ∷ lines) (it ∷ further.its) ≡ own z) e
            (own_cons lane line lines it further.its ∙ ap (λ z. it ∷ z) (further.each (lane line) (low line) ∙ more_own (λ z. its) own (lane line)) ∙ sym own_is)
        each k below (inr differ) = other_cons lane k line lines it further.its differ ∙ further.each k below ∙ more_other (λ z. its) own (lane line) k differ

  pub merged : (lines : List L) (earlier : List D) (before own : ℕ → List D) → ((k : ℕ) → k < w → Sees k (before k) earlier) → ((k : ℕ) → k < w → EachAfter P (before k) (lines_of lane k lines) (own k)) → Merged earlier lines own
  merged [] earlier before own sees does = record { its = []; served = tt; each = λ k below. none_left (before k) (own k) (does k below) }
  merged (line ∷ lines) earlier before own sees does = first (merged lines) (own (lane line)) refl (subst (λ z. EachAfter P (before (lane line)) z (own (lane line))) (own_line lane line lines) (does (lane line) (low line)))
    where
      first : ((earlier : List D) (before own : ℕ → List D) → ((k : ℕ) → k < w → Sees k (before k) earlier) → ((k : ℕ) → k < w → EachAfter P (before k) (lines_of lane k lines) (own k)) → Merged earlier lines own) →
          (its : List D) → own (lane line) ≡ its → EachAfter P (before (lane line)) (line ∷ lines_of lane (lane line) lines) its → Merged earlier (line ∷ lines) own
      first behind [] is h = absurd h
      first behind (it ∷ its) is (h, rest) =
          with_first line lines earlier before own sees does it its is h rest
          (behind (earlier ++ it ∷ []) (before_then line lines earlier before own sees does it its is h rest) (own_then line lines earlier before own sees does it its is h rest)
          (sees_then line lines earlier before own sees does it its is h rest) (does_then line lines earlier before own sees does it its is h rest))
