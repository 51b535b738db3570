-- The first row of a rising list that isn't in another one, as one walk through both finds it.
use Rattle.std.proofs.Common.{◌≡◌, ℕ, zero, suc, ◌+◌, ◌<◌, ◌≤◌, ◌↔◌, IsTrue, Bool, true, false, List, [], ◌∷◌, length, drop, get_or, Option, Some, None, refl, sym, ap, ◌∙◌, subst, arith, nat_lt}
use Rattle.std.proofs.lemmas.Bool.Decides.{nat_tests}
use Rattle.std.proofs.lemmas.List.{drop_all}
use Rattle.std.proofs.lemmas.List.Elements.{All-contains, All-from_recursion}
use Rattle.std.proofs.lemmas.Option.{slice_get-get_or, slice_get_within}
use Rattle.std.specs.Cmp.{tied_itself}
use Rattle.std.specs.List.{Contains, position_from}
use Rattle.std.specs.List.Sorted.{IsStrictlySortedBy}
use Rattle.std.specs.Ordering.{is_gt, is_lt}
use Rattle.std.specs.Prelude.{slice_get}
use Rattle.std.specs.declared.cmp.Ordering.{Ordering}
use Rattle.std.specs.declared.cmp.Ordering.TheVariants.{Less, Equal, Greater}
use Rattle.ba_model.specs.Conform.{no_context}
use Rattle.ba_model.specs.Meaning.{IsAnswer}
use Rattle.ba_model.specs.Order.{row_cmp}
use Rattle.ba_model.specs.OrderLaws.{row_total}
use Rattle.ba_model.specs.declared.policy.Context.{Context}
use Rattle.ba_model.specs.declared.query.Query.{Query}
use Rattle.ba_model.specs.declared.schema.Rule.{Rule}
use Rattle.ba_model.specs.declared.value.RowSet.{RowSet}
use Rattle.ba_model.specs.declared.value.Value.{Value}
use Rattle.ba_tables.specs.Breaks.{BreaksRule}
use Rattle.ba_tables.specs.Rules.{IsFirstFrom, is_missing, least_breaking}
use Rattle.ba_tables.proofs.FoundLemmas.{FoundAt, position-some}
use Rattle.ba_tables.proofs.PositionLemmas.{position-here, position-next, position-none}
use Rattle.ba_tables.proofs.RuleLemmas.{BreaksFirst, breaking_is, breaking_none_is, missing_test, missing_told, number_of, there_at, there_test}

some_is : {X : Type 0} {x y : X} → Some x ≡ Some y → x ≡ y
some_is e = cc e

-- in a strictly rising list an earlier row is before a later one
pub rising_less : (rows : List (List Value)) (i j : ℕ) (x y : List Value) → IsStrictlySortedBy row_cmp rows → i < j → slice_get rows i ≡ Some x → slice_get rows j ≡ Some y → row_cmp x y ≡ Less
unfolding IsStrictlySortedBy
rising_less [] i j x y up less e f = cc f
rising_less (row ∷ rows) i zero x y up less e f = absurd (omega arith)
rising_less (row ∷ rows) (suc i) (suc j) x y up less e f = rising_less rows i j x y up.1 (omega arith) e f
rising_less (row ∷ rows) zero (suc j) x y up less e f =
    let above : row_cmp row y ≡ Less = All-contains (λ z. row_cmp row z ≡ Less) rows y (All-from_recursion (λ z. row_cmp row z ≡ Less) rows up.0) (there_at rows j y f) in
    let it : row ≡ x = cc e in
    subst (λ z. row_cmp z y ≡ Less) it above

pub not_itself : (row : List Value) → row_cmp row row ≡ Less → ⊥
not_itself row e = let tie : row_cmp row row ≡ Equal = tied_itself row_total row in let both : Less ≡ Equal = sym e ∙ tie in cc both

-- ---- the first row, from a number on, that isn't before another

-- the rows from a number up to another stand before the row
abbrev pub AllBefore : List (List Value) → ℕ → List Value → ℕ → Type 0
AllBefore rows from row at = (k : ℕ) (other : List Value) → from ≤ k → k < at → slice_get rows k ≡ Some other → row_cmp other row ≡ Less

pub none_before : (rows : List (List Value)) (from : ℕ) (row : List Value) → AllBefore rows from row from
none_before rows from row k other le less is = absurd (omega arith)

less_told : (o : Ordering) → is_lt o ≡ true → o ≡ Less
less_told Less e = refl
less_told Equal e = cc e
less_told Greater e = cc e

pub first_here : (rows : List (List Value)) (from at : ℕ) (row it : List Value) → AllBefore rows from row at → slice_get rows at ≡ Some it → is_lt (row_cmp it row) ≡ false → IsFirstFrom rows from row at
first_here rows from at row it before here e = record {
  before = before;
  there = λ other is less.
      let same : it ≡ other = some_is (sym here ∙ is) in
      let told : is_lt (row_cmp it row) ≡ true = ap is_lt (subst (λ z. row_cmp z row ≡ Less) (sym same) less) in
      cc (sym told ∙ e);
}

pub first_next : (rows : List (List Value)) (from at : ℕ) (row it : List Value) → AllBefore rows from row at → slice_get rows at ≡ Some it → is_lt (row_cmp it row) ≡ true → AllBefore rows from row (at + 1)
first_next rows from at row it before here e k other le less is = by (nat_lt k at) refl
  where
    by : (b : Bool) → nat_lt k at ≡ b → row_cmp other row ≡ Less
    by true t = let below : k < at = grind (arith, nat_tests) in before k other le below is
    by false t =
        let level : k ≡ at = grind (arith, nat_tests) in
        let same : it ≡ other = some_is (sym here ∙ subst (λ m. slice_get rows m ≡ Some other) level is) in
        subst (λ z. row_cmp z row ≡ Less) same (less_told (row_cmp it row) e)

pub first_end : (rows : List (List Value)) (from at : ℕ) (row : List Value) → AllBefore rows from row at → length rows ≤ at → IsFirstFrom rows from row (length rows)
first_end rows from at row before end = record {
  before = λ k other le less is. before k other le (omega arith) is;
  there = λ other is less. let within : length rows < length rows = slice_get_within rows (length rows) other is in omega arith;
}

-- ---- tests

true_is : IsTrue true
true_is = cc

pub told_true : (b : Bool) (P : Type 0) → (IsTrue b ↔ P) → b ≡ true → P
told_true true P d e = d.0 true_is
told_true false P d e = cc e

pub told_false : (b : Bool) (P : Type 0) → (IsTrue b ↔ P) → b ≡ false → P → ⊥
told_false true P d e p = cc e
told_false false P d e p = let t = d.1 p in cc

-- ---- the walk

-- the walk has come to these numbers: none of the left rows before is missing, and the right rows before are before the left rows left
pub record Walked (left right : List (List Value)) (i at : ℕ) : Type 0 where
  pub so_far : position_from (is_missing right) i (drop i left) ≡ position_from (is_missing right) 0 left
  pub below : (k j : ℕ) (x y : List Value) → k < at → i ≤ j → slice_get right k ≡ Some x → slice_get left j ≡ Some y → row_cmp x y ≡ Less

pub none_walked : (left right : List (List Value)) → Walked left right 0 0
none_walked left right = record { so_far = refl; below = λ k j x y less le a b. absurd (omega arith) }

-- a right row before the new place is before the left row
passed : (left right : List (List Value)) (i at to : ℕ) (row : List Value) → Walked left right i at → slice_get left i ≡ Some row → IsFirstFrom right at row to → (k : ℕ) (x : List Value) → k < to → slice_get right k ≡ Some x → row_cmp x row ≡ Less
passed left right i at to row h there first k x less is = by (nat_lt k at) refl
  where
    by : (b : Bool) → nat_lt k at ≡ b → row_cmp x row ≡ Less
    by true t = let below : k < at = grind (arith, nat_tests) in h.below k i x row below (omega arith) is there
    by false t = let from : at ≤ k = grind (arith, nat_tests) in first.before k x from less is

pub one_walked : (left right : List (List Value)) (i at to : ℕ) (row : List Value) → IsStrictlySortedBy row_cmp left → Walked left right i at → slice_get left i ≡ Some row → IsFirstFrom right at row to → slice_get right to ≡ Some row → Walked left right (i + 1) to
one_walked left right i at to row up h there first is = record {
  so_far = sym (position-next (is_missing right) i left i row there (there_test right row (there_at right to row is))) ∙ h.so_far;
  below = λ k j x y less le a b.
      row_total.trans x row y (passed left right i at to row h there first k x less a) (rising_less left i j row y up (omega arith) there b);
}

-- the left row isn't the right one at the new place, so it is missing
not_there : (left right : List (List Value)) (i at to : ℕ) (row : List Value) → IsStrictlySortedBy row_cmp right → Walked left right i at → slice_get left i ≡ Some row → IsFirstFrom right at row to → (slice_get right to ≡ Some row → ⊥) → Contains right row → ⊥
not_there left right i at to row up h there first n has = let (k, is) = number_of right row has in by k is (nat_lt k to) refl (nat_lt to k) refl
  where
    by : (k : ℕ) → slice_get right k ≡ Some row → (b : Bool) → nat_lt k to ≡ b → (e : Bool) → nat_lt to k ≡ e → ⊥
    by k is true t e u = let less : k < to = grind (arith, nat_tests) in not_itself row (passed left right i at to row h there first k row less is)
    by k is false t true u =
        let more : to < k = grind (arith, nat_tests) in
        let within : k < length right = slice_get_within right k row is in
        let here : slice_get right to ≡ Some (get_or right to []) = slice_get-get_or right to [] (omega arith) in
        first.there (get_or right to []) here (rising_less right to k (get_or right to []) row up more here is)
    by k is false t false u =
        let same : k ≡ to = grind (arith, nat_tests) in
        n (subst (λ m. slice_get right m ≡ Some row) same is)

pub missing_here : (left right : List (List Value)) (i at to : ℕ) (row : List Value) → IsStrictlySortedBy row_cmp right → Walked left right i at → slice_get left i ≡ Some row → IsFirstFrom right at row to → (slice_get right to ≡ Some row → ⊥) → Some i ≡ position_from (is_missing right) 0 left
missing_here left right i at to row up h there first n =
    sym (position-here (is_missing right) i left i row there (missing_test right row (not_there left right i at to row up h there first n))) ∙ h.so_far

pub none_missing : (left right : List (List Value)) (i at : ℕ) → Walked left right i at → length left ≤ i → None ≡ position_from (is_missing right) 0 left
none_missing left right i at h le = sym (ap (position_from (is_missing right) i) (drop_all i left le)) ∙ h.so_far

-- ---- of answers

pub found_within : (left right : List (List Value)) (i : ℕ) → Some i ≡ position_from (is_missing right) 0 left → i < length left
found_within left right i e =
    let f = position-some (is_missing right) 0 left i (sym e) in
    let place = f.place in
    let within = slice_get_within left f.i f.x f.is in
    omega arith

not_false : (b : Bool) → b ≡ true → b ≡ false → ⊥
not_false true t e = cc e
not_false false t e = cc t

-- the first row of the left answer that the right one hasn't is the least that breaks the rule
pub found_least : (d : RowSet) (rule : Rule) (left right : List (List Value)) (i : ℕ) (row : List Value) → IsAnswer rule.left no_context d left → IsAnswer rule.right no_context d right → Some i ≡ position_from (is_missing right) 0 left → slice_get left i ≡ Some row → Some row ≡ least_breaking d rule
found_least d rule left right i row is_left is_right e at = sym (breaking_is d rule row (by (position-some (is_missing right) 0 left i (sym e))))
  where
    by : FoundAt (is_missing right) 0 left i → BreaksFirst d rule row
    by f =
        let place = f.place in
        let level : f.i ≡ i = omega arith in
        let here : slice_get left f.i ≡ Some row = subst (λ m. slice_get left m ≡ Some row) (sym level) at in
        let same : f.x ≡ row = some_is (sym f.is ∙ here) in
        let missing : is_missing right row ≡ true = subst (λ x. is_missing right x ≡ true) same f.passes in
        record {
          breaks = record { left = is_left.sound row (there_at left i row at); not_right = λ h. missing_told right row missing (is_right.complete row h) };
          least_is = λ other b. later f other b (number_of left other (is_left.complete other b.left));
        }
      where
        later : (f : FoundAt (is_missing right) 0 left i) (other : List Value) → BreaksRule d rule other → (k : ℕ) × (slice_get left k ≡ Some other) → is_gt (row_cmp row other) ≡ false
        later f other b (k, is) = cases (nat_lt k i) refl (nat_lt i k) refl
          where
            lacks : is_missing right other ≡ true
            lacks = missing_test right other (λ h. b.not_right (is_right.sound other h))

            cases : (s : Bool) → nat_lt k i ≡ s → (t : Bool) → nat_lt i k ≡ t → is_gt (row_cmp row other) ≡ false
            cases true u t v =
                let place = f.place in
                let less : k < i = grind (arith, nat_tests) in
                absurd (not_false (is_missing right other) lacks (f.earlier k other (omega arith) is))
            cases false u true v =
                let more : i < k = grind (arith, nat_tests) in
                ap is_gt (rising_less left i k row other is_left.rising more at is)
            cases false u false v =
                let level : k ≡ i = grind (arith, nat_tests) in
                let same : row ≡ other = some_is (sym at ∙ subst (λ m. slice_get left m ≡ Some other) level is) in
                subst (λ q. is_gt (row_cmp row q) ≡ false) same (ap is_gt (tied_itself row_total row))

-- an answer under a context that is no context
pub answer_as : (q : Query) (c : Context) (d : RowSet) (rows seen : List (List Value)) → c ≡ no_context → seen ≡ rows → IsAnswer q c d rows → IsAnswer q no_context d seen
answer_as q c d rows seen e f h = subst (λ x. IsAnswer q x d seen) e (subst (IsAnswer q c d) (sym f) h)

pub none_least : (d : RowSet) (rule : Rule) (left right : List (List Value)) → IsAnswer rule.left no_context d left → IsAnswer rule.right no_context d right → None ≡ position_from (is_missing right) 0 left → None ≡ least_breaking d rule
none_least d rule left right is_left is_right e =
    sym
    (breaking_none_is d rule
    (λ other b.
    let (k, is) = number_of left other (is_left.complete other b.left) in
    not_false (is_missing right other) (missing_test right other (λ h. b.not_right (is_right.sound other h))) (position-none (is_missing right) 0 left k other (sym e) is)))
