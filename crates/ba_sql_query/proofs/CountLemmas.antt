-- What is counted is how many members there are, and the atoms of the longest.
use Rattle.std.proofs.Common.{◌≡◌, zero-mul, mul-zero, if◌then◌else◌, ℕ, zero, suc, ◌+◌, ◌*◌, ◌<◌, ◌≤◌, ◌==◌, Bool, true, false, nat_le, ◌&&◌, List, [], ◌∷◌, ◌++◌, length, map, take, get_or, ◌^◌, ◌-◌, min, max, refl, sym, ap, ap₂, subst, ◌∙◌, arith}
use Rattle.std.specs.List.{list_all}
use Rattle.std.proofs.lemmas.Bool.{le-leb, leb-false, leb-true}
use Rattle.std.proofs.lemmas.Bool.Decides.{nat_tests}
use Rattle.std.proofs.lemmas.List.{length-append, length-map}
use Rattle.std.proofs.lemmas.List.Folds.{list_all-append}
use Rattle.ba_model.specs.Limits.{most_atoms, most_head, most_part_tables}
use Rattle.ba_model.specs.declared.query.Atom.{Atom}
use Rattle.ba_model.specs.QueryFaults as faults
use Rattle.ba_model.specs.declared.query.Operand.{Operand}
use Rattle.ba_model.specs.declared.query.Part.{Part}
use Rattle.ba_sql_query.specs.Parts.{after, alternatives, both_top, count_after, count_both, count_either, count_join, count_of, count_run, count_sum, count_top, equation, fits_by, join_top, longest, measure, members, part_of, parts_of, product, run, select_parts, top_of}
use Rattle.ba_sql_query.specs.declared.count.Count.{Count}
use Rattle.ba_sql_query.specs.declared.resolved.ResolvedNode.{ResolvedNode}
use Rattle.ba_sql_query.specs.declared.resolved.ResolvedNode.TheVariants as steps
use Rattle.ba_sql_query.specs.declared.resolved.ResolvedSelect.{ResolvedSelect}
use Rattle.ba_sql_query.specs.declared.resolved.ResolvedTest.{ResolvedTest}
use Rattle.ba_sql_query.specs.declared.resolved.ResolvedTest.TheVariants.{One, Among}
use Rattle.ba_sql_query.proofs.StackLemmas.{flat_more}

abbrev count_with : ℕ → ℕ → Count
count_with p l = record { parts = p; longest = l }

-- ---- a test

longest_equations : (side : Operand) (among : List Operand) → min (longest (map (λ c. equation side c ∷ []) among)) 65 ≡ min (length among) 1
longest_equations side [] = refl
longest_equations side (c ∷ []) = refl
longest_equations side (c ∷ d ∷ cs) = let more = longest_equations side (d ∷ cs) in omega (arith, more)

pub test_count : (t : ResolvedTest) → count_of t ≡ measure (alternatives t)
test_count (One atom) = refl
test_count (Among side among) =
    ap₂ count_with (ap (λ (n : ℕ). min n 33) (sym (length-map among (λ c. equation side c ∷ [])))) (sym (longest_equations side among))

-- ---- OR

longest_append : (xs ys : List (List Atom)) → longest (xs ++ ys) ≡ max (longest xs) (longest ys)
longest_append [] ys = omega arith
longest_append (x ∷ xs) ys = let more = longest_append xs ys in omega (arith, more)

sum_held : (a b : ℕ) → min (min a 33 + min b 33) 33 ≡ min (a + b) 33
sum_held a b = omega arith

max_held : (a b : ℕ) → max (min a 65) (min b 65) ≡ min (max a b) 65
max_held a b = omega arith

pub either_count : (a b : List (List Atom)) → count_either (measure a) (measure b) ≡ measure (a ++ b)
either_count a b =
    ap₂ count_with (sum_held (length a) (length b) ∙ ap (λ (n : ℕ). min n 33) (sym (length-append a b)))
    (max_held (longest a) (longest b) ∙ ap (λ (n : ℕ). min n 65) (sym (longest_append a b)))

-- ---- AND

length_product : (a b : List (List Atom)) → length (product a b) ≡ length a * length b
length_product [] b = sym (zero-mul (length b))
length_product (x ∷ xs) b =
    length-append (map (λ y. x ++ y) b) (product xs b) ∙ ap₂ (λ (n m : ℕ). n + m) (length-map b (λ y. x ++ y)) (length_product xs b) ∙ step (length xs) (length b)
  where
    step : (n m : ℕ) → m + n * m ≡ suc n * m
    step n m = grind arith

longest_with : (x y : List Atom) (ys : List (List Atom)) → longest (map (λ z. x ++ z) (y ∷ ys)) ≡ length x + longest (y ∷ ys)
longest_with x y [] = let e = length-append x y in omega (arith, e)
longest_with x y (z ∷ zs) = let e = length-append x y in let more = longest_with x z zs in omega (arith, e, more)

longest_product : (x : List Atom) (xs : List (List Atom)) (y : List Atom) (ys : List (List Atom)) → longest (product (x ∷ xs) (y ∷ ys)) ≡ longest (x ∷ xs) + longest (y ∷ ys)
longest_product x [] y ys =
    let e = longest_append (map (λ z. x ++ z) (y ∷ ys)) [] in
    let f = longest_with x y ys in
    omega (arith, e, f)
longest_product x (z ∷ zs) y ys =
    let e = longest_append (map (λ w. x ++ w) (y ∷ ys)) (product (z ∷ zs) (y ∷ ys)) in
    let f = longest_with x y ys in
    let more = longest_product z zs y ys in
    omega (arith, e, f, more)

right_of : (a b : ℕ) → a * suc b ≡ a * b + a
right_of a b = grind arith

left_of : (a b : ℕ) → suc a * b ≡ a * b + b
left_of a b = grind arith

product_held : (a b : ℕ) → min (min a 33 * min b 33) 33 ≡ min (a * b) 33
product_held zero b = let e = zero-mul b in let f = zero-mul (min b 33) in omega (arith, e, f)
product_held (suc a) zero = let e = mul-zero (suc a) in let f = mul-zero (min (suc a) 33) in omega (arith, e, f)
product_held (suc a) (suc b) = at (nat_le 33 (suc a)) (nat_le 33 (suc b)) refl refl
  where
    many : (n m : ℕ) → 33 ≤ n → 33 ≤ n * suc m
    many n m h = let e = right_of n m in omega (arith, h, e)

    times_many : (n m : ℕ) → 33 ≤ m → 33 ≤ suc n * m
    times_many n m h = let e = left_of n m in omega (arith, h, e)

    all_many : (p q : ℕ) → 33 ≤ p → 33 ≤ q → min p 33 ≡ min q 33
    all_many p q h k = omega (arith, h, k)

    at : (t u : Bool) → nat_le 33 (suc a) ≡ t → nat_le 33 (suc b) ≡ u → min (min (suc a) 33 * min (suc b) 33) 33 ≡ min (suc a * suc b) 33
    at true u h k =
        let le = leb-true 33 (suc a) h in
        let e : min (suc a) 33 ≡ 33 = omega (arith, le) in
        let f : min (suc b) 33 ≡ suc (min b 32) = omega arith in
        rw (e, f) (all_many (33 * suc (min b 32)) (suc a * suc b) (many 33 (min b 32) (omega arith)) (many (suc a) b le))
    at false true h k =
        let le = leb-true 33 (suc b) k in
        let e : min (suc b) 33 ≡ 33 = omega (arith, le) in
        let f : min (suc a) 33 ≡ suc (min a 32) = omega arith in
        rw (e, f) (all_many (suc (min a 32) * 33) (suc a * suc b) (times_many (min a 32) 33 (omega arith)) (times_many a (suc b) le))
    at false false h k =
        let lt = leb-false 33 (suc a) h in
        let lu = leb-false 33 (suc b) k in
        let e : min (suc a) 33 ≡ suc a = omega (arith, lt) in
        let f : min (suc b) 33 ≡ suc b = omega (arith, lu) in
        rw (e, f) refl

not_zero : (n : ℕ) → (suc n == 0) ≡ false
not_zero n = grind (arith, nat_tests)

-- of no members the longest has no atoms
no_members : (a : List (List Atom)) → longest (product a []) ≡ 0
no_members [] = refl
no_members (x ∷ xs) = no_members xs

longest_held : (a b : List (List Atom)) → (if min (length a) 33 * min (length b) 33 == 0 then 0 else min (min (longest a) 65 + min (longest b) 65) 65) ≡ min (longest (product a b)) 65
longest_held [] b = let e = zero-mul (min (length b) 33) in rw e refl
longest_held (x ∷ xs) [] = let e = mul-zero (min (length (x ∷ xs)) 33) in rw (e, no_members xs) refl
longest_held (x ∷ xs) (y ∷ ys) = some (min (length (x ∷ xs)) 33) (min (length (y ∷ ys)) 33) (longest (x ∷ xs)) (longest (y ∷ ys)) (longest (product (x ∷ xs) (y ∷ ys))) (omega arith) (omega arith) (longest_product x xs y ys)
  where
    some : (p q l m n : ℕ) → 1 ≤ p → 1 ≤ q → n ≡ l + m → (if p * q == 0 then 0 else min (min l 65 + min m 65) 65) ≡ min n 65
    some zero q l m n h k e = absurd (omega (arith, h))
    some (suc p) zero l m n h k e = absurd (omega (arith, k))
    some (suc p) (suc q) l m n h k e =
        let f : suc p * suc q ≡ suc (suc p * q + p) = let g = right_of (suc p) q in omega (arith, g) in
        rw (f, not_zero (suc p * q + p)) (omega (arith, e))

pub both_count : (a b : List (List Atom)) → count_both (measure a) (measure b) ≡ measure (product a b)
both_count a b =
    ap₂ count_with (product_held (length a) (length b) ∙ ap (λ (n : ℕ). min n 33) (sym (length_product a b))) (longest_held a b)

-- ---- stacks

join_count : (stack : List (List (List Atom))) → count_join (map measure stack) ≡ map measure (join_top stack)
join_count [] = refl
join_count (b ∷ []) = refl
join_count (b ∷ a ∷ stack) = ap (λ c. c ∷ map measure stack) (both_count a b)

sum_count : (stack : List (List (List Atom))) → count_sum (map measure stack) ≡ map measure (both_top stack)
sum_count [] = refl
sum_count (b ∷ []) = refl
sum_count (b ∷ a ∷ stack) = ap (λ c. c ∷ map measure stack) (either_count a b)

after_count : (n : ResolvedNode) (stack : List (List (List Atom))) → count_after n (map measure stack) ≡ map measure (after n stack)
unfolding after count_after
after_count (steps.Test t) stack = ap (λ c. c ∷ map measure stack) (test_count t)
after_count steps.And stack = join_count stack
after_count steps.Or stack = sum_count stack

run_count : (ns : List ResolvedNode) (stack : List (List (List Atom))) → count_run ns (map measure stack) ≡ map measure (run ns stack)
run_count [] stack = refl
run_count (n ∷ ns) stack = ap (count_run ns) (after_count n stack) ∙ run_count ns (after n stack)

top_count : (stack : List (List (List Atom))) → count_top (map measure stack) ≡ measure (top_of stack)
top_count [] = refl
top_count (ms ∷ stack) = refl

pub members_count : (ns : List ResolvedNode) → count_top (count_run ns []) ≡ measure (members ns)
unfolding members
members_count ns = ap count_top (run_count ns []) ∙ top_count (run ns [])

-- ---- the limits of a select's parts

above : (n : ℕ) → 64 < n → nat_le n 64 ≡ false
above n h = grind (arith, nat_tests)

limit_max : (a b : ℕ) → nat_le (min (max a b) 65) 64 ≡ (nat_le a 64 && nat_le (min b 65) 64)
limit_max a b = at (nat_le a 64) (nat_le (min b 65) 64) refl refl
  where
    at : (t u : Bool) → nat_le a 64 ≡ t → nat_le (min b 65) 64 ≡ u → nat_le (min (max a b) 65) 64 ≡ (t && u)
    at true true h k = let p = leb-true a 64 h in let q = leb-true (min b 65) 64 k in le-leb (min (max a b) 65) 64 (omega (arith, p, q))
    at true false h k = let q = leb-false (min b 65) 64 k in above (min (max a b) 65) (omega (arith, q))
    at false u h k = let p = leb-false a 64 h in above (min (max a b) 65) (omega (arith, p))

both_limits : (f a b h : Bool) → (f && ((a && b) && h)) ≡ ((f && (a && h)) && (f && (b && h)))
both_limits false a b h = refl
both_limits true false b h = refl
both_limits true true false true = refl
both_limits true true false false = refl
both_limits true true true true = refl
both_limits true true true false = refl

and_true_limit : (f a h : Bool) → (f && ((a && true) && h)) ≡ ((f && (a && h)) && true)
and_true_limit false a h = refl
and_true_limit true false h = refl
and_true_limit true true true = refl
and_true_limit true true false = refl

some_parts : (k : ℕ) → (min (suc k) 33 == 0) ≡ false
some_parts k = grind (arith, nat_tests)

abbrev limits_by : ResolvedSelect → Bool → Bool
limits_by select b = nat_le (length select.from) most_part_tables && (b && nat_le (length select.head) most_head)

fits_some : (select : ResolvedSelect) (k l : ℕ) → fits_by select (count_with (min (suc k) 33) l) ≡ limits_by select (nat_le l most_atoms)
fits_some select k l = rw (some_parts k) refl

within_by : (select : ResolvedSelect) (ms : List (List Atom)) → fits_by select (measure ms) ≡ list_all faults.part_within (map (part_of select) ms)
within_by select [] = refl
within_by select (m ∷ []) = rw (limit_max (length m) 0) (and_true_limit (nat_le (length select.from) most_part_tables) (nat_le (length m) most_atoms) (nat_le (length select.head) most_head))
within_by select (m ∷ n ∷ ns) =
    fits_some select (suc (length ns)) (min (longest (m ∷ n ∷ ns)) 65)
    ∙ ap (limits_by select) (limit_max (length m) (longest (n ∷ ns)))
    ∙ both_limits (nat_le (length select.from) most_part_tables) (nat_le (length m) most_atoms) (nat_le (min (longest (n ∷ ns)) 65) most_atoms) (nat_le (length select.head) most_head)
    ∙ ap (λ (b : Bool). faults.part_within (part_of select m) && b) (sym (fits_some select (length ns) (min (longest (n ∷ ns)) 65)) ∙ within_by select (n ∷ ns))

pub fits_count : (select : ResolvedSelect) → fits_by select (measure (members select.condition)) ≡ list_all faults.part_within (select_parts select)
unfolding select_parts
fits_count select = within_by select (members select.condition)

-- ---- all selects

pub record SizeSoFar (parts : ℕ) (fits : Bool) (seen : List Part) : Type 0 where
  pub parts_are : parts ≡ min (length seen) 33
  pub fits_is : fits ≡ list_all faults.part_within seen

parts_held : (p q n m : ℕ) → p ≡ min n 33 → q ≡ min m 33 → min (min (q + p) (2 ^ 64 - 1)) 33 ≡ min (n + m) 33
parts_held p q n m e f = omega (arith, e, f)

pub fits_then : (select : ResolvedSelect) (count : Count) (fits fit new : Bool) → fits ≡ true → fit ≡ fits_by select count → new ≡ fit → new ≡ (fits && fits_by select count)
fits_then select count fits fit new e f g = rw e (g ∙ f)

pub fits_else : (select : ResolvedSelect) (count : Count) (fits new : Bool) → fits ≡ false → new ≡ fits → new ≡ (fits && fits_by select count)
fits_else select count fits new e f = rw e (f ∙ e)

parts_length : (s : ResolvedSelect) → length (select_parts s) ≡ length (members s.condition)
unfolding select_parts
parts_length s = length-map (members s.condition) (part_of s)

pub size_goes_on : (ss : List ResolvedSelect) (i : ℕ) (s : ResolvedSelect) (parts sum parts2 : ℕ) (fits fits2 : Bool) (count : Count) → i < length ss → s ≡ get_or ss i s → SizeSoFar parts fits (parts_of (take i ss))
    → count ≡ measure (members s.condition) → sum ≡ min (count.parts + parts) (2 ^ 64 - 1) → parts2 ≡ min sum 33 → fits2 ≡ (fits && fits_by s count) → SizeSoFar parts2 fits2 (parts_of (take (i + 1) ss))
size_goes_on ss i s parts sum parts2 fits fits2 count lt is so c h g f =
    let ps = parts_of (take i ss) in
    let more : ps ++ select_parts s ≡ parts_of (take (i + 1) ss) = flat_more select_parts ss i s ps (ps ++ select_parts s) (select_parts s) lt is refl refl refl in
    let size : length (select_parts s) ≡ length (members s.condition) = parts_length s in
    let held : count.parts ≡ min (length (select_parts s)) 33 = ap (λ (x : Count). x.parts) c ∙ ap (λ (n : ℕ). min n 33) (sym size) in
    subst (SizeSoFar parts2 fits2) more (record {
      parts_are = g ∙ ap (λ (n : ℕ). min n 33) h ∙ parts_held parts count.parts (length ps) (length (select_parts s)) so.parts_are held ∙ ap (λ (n : ℕ). min n 33) (sym (length-append ps (select_parts s)));
      fits_is = f ∙ ap₂ (λ (a b : Bool). a && b) so.fits_is (ap (fits_by s) c ∙ fits_count s) ∙ sym (list_all-append faults.part_within ps (select_parts s));
    })
