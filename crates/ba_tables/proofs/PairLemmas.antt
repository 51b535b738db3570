-- A link over its distinct pairs tests what it tests over all of them.
use Rattle.std.proofs.Common.{◌≡◌, ℕ, zero, suc, ◌+◌, ◌≤◌, Bool, true, false, cond, not, ◌&&◌, ◌||◌, ◌==◌, List, [], ◌∷◌, ◌++◌, length, map, take, drop, Option, Some, refl, sym, ap, ◌∙◌, subst, arith, append_assoc}
use Rattle.std.proofs.lemmas.Bool.Decides.{nat_tests}
use Rattle.std.proofs.lemmas.List.{append-nil, drop_all}
use Rattle.std.proofs.lemmas.List.Folds.{list_all-append}
use Rattle.std.specs.BTreeSet.{BTreeSet}
use Rattle.std.specs.BTreeSet as set
use Rattle.std.specs.List.{IsDistinct, AllByRecursion, list_all, list_any, position_from, zip}
use Rattle.std.specs.Option.{option_eq}
use Rattle.std.specs.Ordering.{eq_by_cmp, is_eq, nat_cmp, ordering_then}
use Rattle.std.specs.declared.cmp.Ordering.{Ordering}
use Rattle.std.specs.Prelude.{slice_get}
use Rattle.ba_model.specs.Meaning.{rows_of}
use Rattle.ba_model.specs.Order.{value_cmp}
use Rattle.ba_model.specs.declared.schema.Link.{Link}
use Rattle.ba_model.specs.declared.value.RowSet.{RowSet}
use Rattle.ba_model.specs.declared.value.Value.{Value}
use Rattle.ba_tables.specs.Breaks.{BreaksLink}
use Rattle.ba_tables.specs.Broken.{agrees, dangles, has_no_null, is_null}
use Rattle.ba_tables.specs.Pairs.{CountsPairsOnce, firsts_after, of_pairs, pairs_of, same_pair, with_pairs_once}
use Rattle.ba_tables.proofs.AgreeLemmas.{agrees_decides, both, halves, no_null_test, no_null_told}
use Rattle.ba_tables.proofs.FieldLemmas.{drop_element}
use Rattle.ba_tables.proofs.IndexLemmas.{any_push, or_swapped, take_one}

-- ---- the tests by pairs

pair_told : (p q : ℕ × ℕ) → same_pair p q ≡ true → p ≡ q
pair_told p q same =
    let h = halves (p.0 == q.0) (p.1 == q.1) same in
    let first : p.0 ≡ q.0 = grind (arith, nat_tests, h.0) in
    let second : p.1 ≡ q.1 = grind (arith, nat_tests, h.1) in
    λ i. (first i, second i)

-- the test of a pair that stands among some that pass
same_passes : (p : ℕ × ℕ → Bool) (pair q : ℕ × ℕ) → same_pair pair q ≡ true → p q ≡ true → p pair ≡ true
same_passes p pair q same pass = ap p (pair_told pair q same) ∙ pass

among_passes : (p : ℕ × ℕ → Bool) (pair : ℕ × ℕ) (before : List (ℕ × ℕ)) → list_any (same_pair pair) before ≡ true → list_all p before ≡ true → p pair ≡ true
among_passes p pair [] there all = cc there
among_passes p pair (q ∷ before) there all = by (same_pair pair q) refl there (λ h. among_passes p pair before h (halves (p q) (list_all p before) all).1)
  where
    by : (b : Bool) → same_pair pair q ≡ b → (b || list_any (same_pair pair) before) ≡ true → (list_any (same_pair pair) before ≡ true → p pair ≡ true) → p pair ≡ true
    by true same h later = same_passes p pair q same (halves (p q) (list_all p before) all).0
    by false other h later = later h

all_more : (p : ℕ × ℕ → Bool) (before : List (ℕ × ℕ)) (pair : ℕ × ℕ) → list_all p before ≡ true → p pair ≡ true → list_all p (before ++ pair ∷ []) ≡ true
all_more p before pair all pass = list_all-append p before (pair ∷ []) ∙ both (list_all p before) (list_all p (pair ∷ [])) all (both (p pair) true pass refl)

-- what each pair has to pass, the first ones have to
firsts_pass : (p : ℕ × ℕ → Bool) (before pairs : List (ℕ × ℕ)) → list_all p before ≡ true → list_all p (firsts_after before pairs) ≡ list_all p pairs
unfolding firsts_after
firsts_pass p before [] all = refl
firsts_pass p before (pair ∷ pairs) all = by (list_any (same_pair pair) before) refl (p pair) refl (λ pass. firsts_pass p (before ++ pair ∷ []) pairs (all_more p before pair all pass))
  where
    by : (there : Bool) → list_any (same_pair pair) before ≡ there → (pass : Bool) → p pair ≡ pass → (p pair ≡ true → list_all p (firsts_after (before ++ pair ∷ []) pairs) ≡ list_all p pairs)
        → list_all p (cond there (firsts_after (before ++ pair ∷ []) pairs) (pair ∷ firsts_after (before ++ pair ∷ []) pairs)) ≡ (p pair && list_all p pairs)
    by true t pass e rest = let own = among_passes p pair before t all in rw own (rest own)
    by false t true e rest = rw e (rest e)
    by false t false e rest = rw e refl

no_null_paired : (row : List Value) (pairs : List (ℕ × ℕ)) → has_no_null row (map (λ p. p.0) pairs) ≡ list_all (λ p. not (is_null (slice_get row p.0))) pairs
no_null_paired row [] = refl
no_null_paired row (pair ∷ pairs) = ap (λ b. not (is_null (slice_get row pair.0)) && b) (no_null_paired row pairs)

agrees_paired : (row target : List Value) (pairs : List (ℕ × ℕ)) → agrees row (map (λ p. p.0) pairs) target (map (λ p. p.1) pairs) ≡ list_all (λ p. option_eq (eq_by_cmp value_cmp) (slice_get row p.0) (slice_get target p.1)) pairs
agrees_paired row target [] = refl
agrees_paired row target (pair ∷ pairs) = ap (λ b. option_eq (eq_by_cmp value_cmp) (slice_get row pair.0) (slice_get target pair.1) && b) (agrees_paired row target pairs)

columns_paired : (columns others : List ℕ) → length columns ≡ length others → map (λ p. p.0) (zip columns others) ≡ columns
columns_paired [] others e = refl
columns_paired (c ∷ columns) [] e = absurd (omega arith)
columns_paired (c ∷ columns) (o ∷ others) e = ap (λ cs. c ∷ cs) (columns_paired columns others (omega arith))

others_paired : (columns others : List ℕ) → length columns ≡ length others → map (λ p. p.1) (zip columns others) ≡ others
others_paired [] [] e = refl
others_paired [] (o ∷ others) e = absurd (omega arith)
others_paired (c ∷ columns) [] e = absurd (omega arith)
others_paired (c ∷ columns) (o ∷ others) e = ap (λ os. o ∷ os) (others_paired columns others (omega arith))

-- ---- the same rows pass

no_null_once : (link : Link) (row : List Value) → has_no_null row (with_pairs_once link).columns ≡ has_no_null row link.columns
no_null_once link row = by (length link.columns == length link.target_columns) refl
  where
    by : (b : Bool) → (length link.columns == length link.target_columns) ≡ b → has_no_null row (cond b (of_pairs link.target (firsts_after [] (pairs_of link))) link).columns ≡ has_no_null row link.columns
    by false t = refl
    by true t =
        let even : length link.columns ≡ length link.target_columns = grind (arith, nat_tests, t) in
        no_null_paired row (firsts_after [] (pairs_of link)) ∙ (firsts_pass (λ p. not (is_null (slice_get row p.0))) [] (pairs_of link) refl ∙ (sym (no_null_paired row (pairs_of link)) ∙ ap (has_no_null row) (columns_paired link.columns link.target_columns even)))

agrees_once : (link : Link) (row target : List Value) → agrees row (with_pairs_once link).columns target (with_pairs_once link).target_columns ≡ agrees row link.columns target link.target_columns
agrees_once link row target = by (length link.columns == length link.target_columns) refl
  where
    once : Bool → Link
    once b = cond b (of_pairs link.target (firsts_after [] (pairs_of link))) link

    by : (b : Bool) → (length link.columns == length link.target_columns) ≡ b → agrees row (once b).columns target (once b).target_columns ≡ agrees row link.columns target link.target_columns
    by false t = refl
    by true t =
        let even : length link.columns ≡ length link.target_columns = grind (arith, nat_tests, t) in
        agrees_paired row target (firsts_after [] (pairs_of link)) ∙ (firsts_pass (λ p. option_eq (eq_by_cmp value_cmp) (slice_get row p.0) (slice_get target p.1)) [] (pairs_of link) refl
        ∙ (sym (agrees_paired row target (pairs_of link)) ∙ (ap (λ cs. agrees row cs target (map (λ p. p.1) (pairs_of link))) (columns_paired link.columns link.target_columns even) ∙ ap (agrees row link.columns target) (others_paired link.columns link.target_columns even))))

target_once : (link : Link) → (with_pairs_once link).target ≡ link.target
target_once link = by (length link.columns == length link.target_columns)
  where
    by : (b : Bool) → (cond b (of_pairs link.target (firsts_after [] (pairs_of link))) link).target ≡ link.target
    by true = refl
    by false = refl

dangles_once : (link : Link) (targets : List (List Value)) (row : List Value) → dangles (with_pairs_once link) targets row ≡ dangles link targets row
dangles_once link targets row = λ i. no_null_once link row i && not (list_any (λ target. agrees_once link row target i) targets)

pub first_once : (d : RowSet) (table : ℕ) (link once : Link) (found : Option ℕ) → once ≡ with_pairs_once link → found ≡ position_from (dangles once (rows_of d once.target)) 1 (rows_of d table) → found ≡ position_from (dangles link (rows_of d link.target)) 1 (rows_of d table)
first_once d table link once found is e =
    subst (λ (it : Link). found ≡ position_from (dangles it (rows_of d it.target)) 1 (rows_of d table)) is e
    ∙ (ap (λ target. position_from (dangles (with_pairs_once link) (rows_of d target)) 1 (rows_of d table)) (target_once link)
    ∙ (λ i. position_from (λ row. dangles_once link (rows_of d link.target) row i) 1 (rows_of d table)))

-- ---- the law

breaks_once : (d : RowSet) (rows : List (List Value)) (link it : Link) (number : ℕ) → ((row : List Value) → has_no_null row it.columns ≡ has_no_null row link.columns) → ((row target : List Value) → agrees row it.columns target it.target_columns ≡ agrees row link.columns target link.target_columns)
    → it.target ≡ link.target → BreaksLink d rows it number → BreaksLink d rows link number
breaks_once d rows link it number nulls agree aims h = record {
  row = h.row;
  row_is = h.row_is;
  no_null = no_null_told h.row link.columns (sym (nulls h.row) ∙ no_null_test h.row it.columns h.no_null);
  no_target = λ target has equal.
      h.no_target target (rw aims has) ((agrees_decides h.row it.columns target it.target_columns).0 (agree h.row target ∙ (agrees_decides h.row link.columns target link.target_columns).1 equal));
}

or_left : (a b : Bool) → a ≡ true → (a || b) ≡ true
or_left true b e = refl
or_left false b e = cc e

or_right : (a b : Bool) → b ≡ true → (a || b) ≡ true
or_right true b e = refl
or_right false b e = e

still_among : (before : List (ℕ × ℕ)) (q pair : ℕ × ℕ) → list_any (same_pair q) before ≡ true → list_any (same_pair q) (before ++ pair ∷ []) ≡ true
still_among before q pair there = any_push (same_pair q) before pair ∙ or_left (list_any (same_pair q) before) (same_pair q pair) there

now_among : (before : List (ℕ × ℕ)) (pair : ℕ × ℕ) → list_any (same_pair pair) (before ++ pair ∷ []) ≡ true
now_among before pair = any_push (same_pair pair) before pair ∙ or_right (list_any (same_pair pair) before) (same_pair pair pair) (let a : (pair.0 == pair.0) ≡ true = grind (arith, nat_tests) in let b : (pair.1 == pair.1) ≡ true = grind (arith, nat_tests) in both (pair.0 == pair.0) (pair.1 == pair.1) a b)

-- no pair that stands before is a first one after it
none_again : (before pairs : List (ℕ × ℕ)) (q : ℕ × ℕ) → list_any (same_pair q) before ≡ true → AllByRecursion (λ p. same_pair q p ≡ false) (firsts_after before pairs)
unfolding firsts_after
none_again before [] q there = tt
none_again before (pair ∷ pairs) q there = by (list_any (same_pair pair) before) refl (none_again (before ++ pair ∷ []) pairs q (still_among before q pair there))
  where
    apart : (b : Bool) → same_pair q pair ≡ b → list_any (same_pair pair) before ≡ false → same_pair q pair ≡ false
    apart false e f = e
    apart true e f = cc (sym f ∙ subst (λ p. list_any (same_pair p) before ≡ true) (pair_told q pair e) there)

    by : (b : Bool) → list_any (same_pair pair) before ≡ b → AllByRecursion (λ p. same_pair q p ≡ false) (firsts_after (before ++ pair ∷ []) pairs) → AllByRecursion (λ p. same_pair q p ≡ false) (cond b (firsts_after (before ++ pair ∷ []) pairs) (pair ∷ firsts_after (before ++ pair ∷ []) pairs))
    by true t rest = rest
    by false t rest = (apart (same_pair q pair) refl t, rest)

firsts_distinct : (before pairs : List (ℕ × ℕ)) → IsDistinct same_pair (firsts_after before pairs)
unfolding firsts_after IsDistinct
firsts_distinct before [] = tt
firsts_distinct before (pair ∷ pairs) = by (list_any (same_pair pair) before) (firsts_distinct (before ++ pair ∷ []) pairs)
  where
    by : (b : Bool) → IsDistinct same_pair (firsts_after (before ++ pair ∷ []) pairs) → IsDistinct same_pair (cond b (firsts_after (before ++ pair ∷ []) pairs) (pair ∷ firsts_after (before ++ pair ∷ []) pairs))
    by true rest = rest
    by false rest = (none_again (before ++ pair ∷ []) pairs pair (now_among before pair), rest)

zipped : (pairs : List (ℕ × ℕ)) → zip (map (λ p. p.0) pairs) (map (λ p. p.1) pairs) ≡ pairs
zipped [] = refl
zipped (pair ∷ pairs) = ap (λ ps. pair ∷ ps) (zipped pairs)

pairs_distinct : (link : Link) → length link.columns ≡ length link.target_columns → IsDistinct same_pair (pairs_of (with_pairs_once link))
pairs_distinct link even = by (length link.columns == length link.target_columns) refl
  where
    by : (b : Bool) → (length link.columns == length link.target_columns) ≡ b → IsDistinct same_pair (pairs_of (cond b (of_pairs link.target (firsts_after [] (pairs_of link))) link))
    by true t = subst (IsDistinct same_pair) (sym (zipped (firsts_after [] (pairs_of link)))) (firsts_distinct [] (pairs_of link))
    by false t = absurd (let h : (length link.columns == length link.target_columns) ≡ true = grind (arith, nat_tests, even) in cc (sym t ∙ h))

pub counts_pairs_once : CountsPairsOnce
counts_pairs_once = record {
  same = λ d rows link number. (
    breaks_once d rows link (with_pairs_once link) number (no_null_once link) (agrees_once link) (target_once link),
    breaks_once d rows (with_pairs_once link) link number (λ row. sym (no_null_once link row)) (λ row target. sym (agrees_once link row target)) (sym (target_once link)),
  );
  once = pairs_distinct;
}

-- ---- how the pairs are gathered

abbrev pub pair_cmp : ℕ × ℕ → ℕ × ℕ → Ordering
pair_cmp p q = ordering_then (nat_cmp p.0 q.0) (nat_cmp p.1 q.1)

same_is : (p q : ℕ × ℕ) → eq_by_cmp pair_cmp p q ≡ same_pair q p
same_is p q = by (p.0) (p.1) (q.0) (q.1)
  where
    by : (a b c d : ℕ) → is_eq (ordering_then (nat_cmp a c) (nat_cmp b d)) ≡ ((c == a) && (d == b))
    by a b c d = grind (arith, nat_tests)

-- the pairs before a place were gathered, each once
pub record PairsGathered (link : Link) (i : ℕ) (seen : BTreeSet (ℕ × ℕ)) (columns others : List ℕ) : Type 0 where
  pub seen_is : (q : ℕ × ℕ) → set.contains pair_cmp seen q ≡ list_any (same_pair q) (take i (pairs_of link))
  pub columns_are : columns ++ map (λ p. p.0) (firsts_after (take i (pairs_of link)) (drop i (pairs_of link))) ≡ map (λ p. p.0) (firsts_after [] (pairs_of link))
  pub others_are : others ++ map (λ p. p.1) (firsts_after (take i (pairs_of link)) (drop i (pairs_of link))) ≡ map (λ p. p.1) (firsts_after [] (pairs_of link))

pub no_pairs_yet : (link : Link) (seen : BTreeSet (ℕ × ℕ)) → set.IsEmpty seen → PairsGathered link 0 seen [] []
no_pairs_yet link seen e = record { seen_is = λ q. rw e refl; columns_are = refl; others_are = refl }

pair_at : (xs ys : List ℕ) (i x y : ℕ) → slice_get xs i ≡ Some x → slice_get ys i ≡ Some y → slice_get (zip xs ys) i ≡ Some (x, y)
pair_at [] ys i x y e f = cc e
pair_at (a ∷ xs) [] i x y e f = cc f
pair_at (a ∷ xs) (b ∷ ys) zero x y e f = let one : a ≡ x = cc e in let two : b ≡ y = cc f in cc
pair_at (a ∷ xs) (b ∷ ys) (suc i) x y e f = pair_at xs ys i x y e f

seen_more : (link : Link) (i : ℕ) (pair : ℕ × ℕ) (seen after : BTreeSet (ℕ × ℕ)) → ((q : ℕ × ℕ) → set.contains pair_cmp seen q ≡ list_any (same_pair q) (take i (pairs_of link))) → slice_get (pairs_of link) i ≡ Some pair
    → ((q : ℕ × ℕ) → set.contains pair_cmp after q ≡ cond (eq_by_cmp pair_cmp pair q) true (set.contains pair_cmp seen q)) → (q : ℕ × ℕ) → set.contains pair_cmp after q ≡ list_any (same_pair q) (take (i + 1) (pairs_of link))
seen_more link i pair seen after h at updates q =
    updates q ∙ rw (take_one (pairs_of link) i pair at, any_push (same_pair q) (take i (pairs_of link)) pair, same_is pair q, h q) (or_swapped (list_any (same_pair q) (take i (pairs_of link))) (same_pair q pair))

-- what is left of the first ones, a pair on
first_next : (before pairs : List (ℕ × ℕ)) (pair : ℕ × ℕ) (there : Bool) → list_any (same_pair pair) before ≡ there → firsts_after before (pair ∷ pairs) ≡ cond there (firsts_after (before ++ pair ∷ []) pairs) (pair ∷ firsts_after (before ++ pair ∷ []) pairs)
unfolding firsts_after
first_next before pairs pair there e = rw e refl

left_next : (pairs : List (ℕ × ℕ)) (i : ℕ) (pair : ℕ × ℕ) (there : Bool) → slice_get pairs i ≡ Some pair → list_any (same_pair pair) (take i pairs) ≡ there
    → firsts_after (take i pairs) (drop i pairs) ≡ cond there (firsts_after (take (i + 1) pairs) (drop (i + 1) pairs)) (pair ∷ firsts_after (take (i + 1) pairs) (drop (i + 1) pairs))
left_next pairs i pair there at e = rw (drop_element pairs i pair at, take_one pairs i pair at) (first_next (take i pairs) (drop (i + 1) pairs) pair there e)

pub pair_again : (link : Link) (i c o : ℕ) (seen after : BTreeSet (ℕ × ℕ)) (columns others : List ℕ) (added : Bool) → PairsGathered link i seen columns others → slice_get link.columns i ≡ Some c → slice_get link.target_columns i ≡ Some o
    → added ≡ not (set.contains pair_cmp seen (c, o)) → added ≡ false → ((q : ℕ × ℕ) → set.contains pair_cmp after q ≡ cond (eq_by_cmp pair_cmp (c, o) q) true (set.contains pair_cmp seen q)) → PairsGathered link (i + 1) after columns others
pair_again link i c o seen after columns others added h e f is old updates =
    let at = pair_at link.columns link.target_columns i c o e f in
    let next = left_next (pairs_of link) i (c, o) true at (sym (h.seen_is (c, o)) ∙ not_false (set.contains pair_cmp seen (c, o)) (sym is ∙ old)) in
    record {
      seen_is = seen_more link i (c, o) seen after h.seen_is at updates;
      columns_are = ap (λ ps. columns ++ map (λ p. p.0) ps) (sym next) ∙ h.columns_are;
      others_are = ap (λ ps. others ++ map (λ p. p.1) ps) (sym next) ∙ h.others_are;
    }
  where
    not_false : (b : Bool) → not b ≡ false → b ≡ true
    not_false true e = refl
    not_false false e = cc e

pub pair_new : (link : Link) (i c o : ℕ) (seen after : BTreeSet (ℕ × ℕ)) (columns others : List ℕ) (added : Bool) → PairsGathered link i seen columns others → slice_get link.columns i ≡ Some c → slice_get link.target_columns i ≡ Some o
    → added ≡ not (set.contains pair_cmp seen (c, o)) → added ≡ true → ((q : ℕ × ℕ) → set.contains pair_cmp after q ≡ cond (eq_by_cmp pair_cmp (c, o) q) true (set.contains pair_cmp seen q)) → PairsGathered link (i + 1) after (columns ++ c ∷ []) (others ++ o ∷ [])
pair_new link i c o seen after columns others added h e f is new updates =
    let at = pair_at link.columns link.target_columns i c o e f in
    let next = left_next (pairs_of link) i (c, o) false at (sym (h.seen_is (c, o)) ∙ not_true (set.contains pair_cmp seen (c, o)) (sym is ∙ new)) in
    record {
      seen_is = seen_more link i (c, o) seen after h.seen_is at updates;
      columns_are = append_assoc columns (c ∷ []) _ ∙ (ap (λ ps. columns ++ map (λ p. p.0) ps) (sym next) ∙ h.columns_are);
      others_are = append_assoc others (o ∷ []) _ ∙ (ap (λ ps. others ++ map (λ p. p.1) ps) (sym next) ∙ h.others_are);
    }
  where
    not_true : (b : Bool) → not b ≡ true → b ≡ false
    not_true false e = refl
    not_true true e = cc e

zip_length : (xs ys : List ℕ) → length (zip xs ys) ≤ length xs
zip_length [] ys = omega arith
zip_length (x ∷ xs) [] = omega arith
zip_length (x ∷ xs) (y ∷ ys) = let h = zip_length xs ys in omega arith

none_left : (before : List (ℕ × ℕ)) → firsts_after before [] ≡ []
unfolding firsts_after
none_left before = refl

pub pairs_gathered : (link : Link) (i : ℕ) (seen : BTreeSet (ℕ × ℕ)) (columns others : List ℕ) → PairsGathered link i seen columns others → length link.columns ≤ i → length link.columns ≡ length link.target_columns
    → ◌≡◌ {A = Link} (record { columns = columns; target = link.target; target_columns = others }) (with_pairs_once link)
pairs_gathered link i seen columns others h end even =
    let short = zip_length link.columns link.target_columns in
    let done : drop i (pairs_of link) ≡ [] = drop_all i (pairs_of link) (omega (arith, end, short)) in
    let none : firsts_after (take i (pairs_of link)) (drop i (pairs_of link)) ≡ [] = rw done (none_left (take i (pairs_of link))) in
    let one : columns ≡ map (λ p. p.0) (firsts_after [] (pairs_of link)) = sym (append-nil columns) ∙ (ap (λ ps. columns ++ map (λ p. p.0) ps) (sym none) ∙ h.columns_are) in
    let two : others ≡ map (λ p. p.1) (firsts_after [] (pairs_of link)) = sym (append-nil others) ∙ (ap (λ ps. others ++ map (λ p. p.1) ps) (sym none) ∙ h.others_are) in
    let test : (length link.columns == length link.target_columns) ≡ true = grind (arith, nat_tests, even) in
    rw test (λ k. record { columns = one k; target = link.target; target_columns = two k })

pub pairs_as_they_are : (link once : Link) → ¬ (length link.columns ≡ length link.target_columns) → once ≡ link → once ≡ with_pairs_once link
pairs_as_they_are link once odd e =
    let test : (length link.columns == length link.target_columns) ≡ false = grind (arith, nat_tests, odd) in
    rw test e
