-- The first broken rule and the least row that breaks it.
use Rattle.std.proofs.Common.{◌≡◌, ℕ, zero, suc, ◌+◌, ◌<◌, ◌≤◌, ◌⊎◌, Bool, true, false, cond, not, inl, inr, List, [], ◌∷◌, length, filter, drop, get_or, Option, Some, None, refl, sym, ap, ◌∙◌, subst, arith, nat_lt}
use Rattle.std.proofs.lemmas.Bool.Decides.{nat_tests}
use Rattle.std.proofs.lemmas.List.{drop_all}
use Rattle.std.proofs.lemmas.List.Elements.{All-cons, All-contains, All-from_recursion, All-nil}
use Rattle.std.proofs.lemmas.Option.{slice_get-get_or, slice_get_read, slice_get_within}
use Rattle.std.specs.Bool.{Decides}
use Rattle.std.specs.Cmp.{tied_itself, upto}
use Rattle.std.specs.List.{All, Contains, list_any, position_from}
use Rattle.std.specs.List.Sorted.{IsStrictlySortedBy}
use Rattle.std.specs.Option.{option_map, option_or}
use Rattle.std.specs.Ordering.{eq_by_cmp, is_gt, is_lt, ordering_reverse}
use Rattle.std.specs.Prelude.{slice_get}
use Rattle.std.specs.declared.cmp.Ordering.{Ordering}
use Rattle.std.specs.declared.cmp.Ordering.TheVariants.{Less, Equal, Greater}
use Rattle.ba_model.proofs.ElementLemmas.{Contains-cases, Contains-head, Contains-later, Contains-nil}
use Rattle.ba_model.proofs.TestLemmas.{any_decides}
use Rattle.ba_model.specs.Conform.{RuleHolds, no_context}
use Rattle.ba_model.specs.Meaning.{InAnswer, IsAnswer}
use Rattle.ba_model.specs.Order.{row_cmp}
use Rattle.ba_model.specs.OrderLaws.{row_equal, row_total}
use Rattle.ba_model.specs.declared.schema.Rule.{Rule}
use Rattle.ba_model.specs.declared.value.RowSet.{RowSet}
use Rattle.ba_model.specs.declared.value.Value.{Value}
use Rattle.ba_tables.specs.Breaks.{BreaksRule}
use Rattle.ba_tables.specs.Rules.{breaking, broken_rule, has_row, is_missing, least, least_breaking, lesser, rows_given}
use Rattle.ba_tables.specs.declared.broken.TablesFault.{TablesFault}
use Rattle.ba_tables.specs.declared.broken.TablesFault.TheVariants.{RuleBroken}
use Rattle.ba_tables.proofs.AgreeLemmas.{row_test, row_told}
use Rattle.ba_tables.proofs.ConformLemmas.{map_none, or_none}
use Rattle.ba_tables.proofs.FieldLemmas.{drop_element}
use Rattle.ba_tables.proofs.GivenLemmas.{answer_test, answer_told}

-- ---- rows in a list

pub has_decides : (rows : List (List Value)) (row : List Value) → Decides (has_row rows row) (Contains rows row)
has_decides rows row =
    let some = any_decides (eq_by_cmp row_cmp row) (λ other. row ≡ other) (λ other. (row_told row other, row_test row other)) rows in
    (λ e. let h = some.0 e in subst (Contains rows) (sym h.2) h.1, λ h. some.1 (row, h, refl))

not_both : (b : Bool) → b ≡ true → not b ≡ true → ⊥
not_both true t e = cc e
not_both false t e = cc t

not_so : (b : Bool) → (b ≡ true → ⊥) → not b ≡ true
not_so true n = absurd (n refl)
not_so false n = refl

so : (b : Bool) → not b ≡ false → b ≡ true
so true e = refl
so false e = cc e

pub missing_told : (rows : List (List Value)) (row : List Value) → is_missing rows row ≡ true → Contains rows row → ⊥
missing_told rows row e h = not_both (has_row rows row) ((has_decides rows row).1 h) e

pub missing_test : (rows : List (List Value)) (row : List Value) → (Contains rows row → ⊥) → is_missing rows row ≡ true
missing_test rows row n = not_so (has_row rows row) (λ t. n ((has_decides rows row).0 t))

pub there_test : (rows : List (List Value)) (row : List Value) → Contains rows row → is_missing rows row ≡ false
there_test rows row h = ap not ((has_decides rows row).1 h)

pub number_of : {X : Type 0} (xs : List X) (x : X) → Contains xs x → (k : ℕ) × (slice_get xs k ≡ Some x)
number_of xs x (k, below, at) = (k, slice_get_read xs (length xs) k x refl below (sym at))

pub there_at : {X : Type 0} (xs : List X) (n : ℕ) (x : X) → slice_get xs n ≡ Some x → Contains xs x
there_at [] n x e = cc e
there_at (y ∷ xs) zero x e = (0, omega arith, cc e)
there_at (y ∷ xs) (suc n) x e = let h = there_at xs n x e in (suc h.0, omega arith, h.2)

filter_told : (p : List Value → Bool) (xs : List (List Value)) (x : List Value) → Contains (filter p xs) x → Contains xs x × (p x ≡ true)
filter_told p [] x h = absurd (Contains-nil x h)
filter_told p (y ∷ xs) x h = by (p y) refl h (filter_told p xs x)
  where
    by : (b : Bool) → p y ≡ b → Contains (cond b (y ∷ filter p xs) (filter p xs)) x → (Contains (filter p xs) x → Contains xs x × (p x ≡ true)) → Contains (y ∷ xs) x × (p x ≡ true)
    by true t g more =
        elim (Contains-cases y (filter p xs) x g) [
          | inl same ↦ (subst (Contains (y ∷ xs)) same (Contains-head y xs), subst (λ q. p q ≡ true) same t)
          | inr later ↦ let k = more later in (Contains-later y xs x k.0, k.1)
        ]
    by false t g more = let k = more g in (Contains-later y xs x k.0, k.1)

filter_test : (p : List Value → Bool) (xs : List (List Value)) (x : List Value) → Contains xs x → p x ≡ true → Contains (filter p xs) x
filter_test p [] x h e = absurd (Contains-nil x h)
filter_test p (y ∷ xs) x h e = by (p y) refl (Contains-cases y xs x h) (λ later. filter_test p xs x later e)
  where
    by : (b : Bool) → p y ≡ b → (y ≡ x) ⊎ Contains xs x → (Contains xs x → Contains (filter p xs) x) → Contains (cond b (y ∷ filter p xs) (filter p xs)) x
    by true t (inl same) more = subst (Contains (y ∷ filter p xs)) same (Contains-head y (filter p xs))
    by true t (inr later) more = Contains-later y (filter p xs) x (more later)
    by false t (inl same) more = let no : p x ≡ false = subst (λ q. p q ≡ false) same t in cc (sym no ∙ e)
    by false t (inr later) more = more later

-- ---- the least of rows

record IsLeast (rows : List (List Value)) (row : List Value) : Type 0 where
  there : Contains rows row
  least_is : (other : List Value) → Contains rows other → is_gt (row_cmp row other) ≡ false

less_upto : (o : Ordering) → is_lt o ≡ true → is_gt o ≡ false
less_upto Less e = refl
less_upto Equal e = refl
less_upto Greater e = cc e

turned : (o p : Ordering) → p ≡ ordering_reverse o → is_lt o ≡ false → is_gt p ≡ false
turned Less p e f = cc f
turned Equal p e f = ap is_gt e
turned Greater p e f = ap is_gt e

none_left : (rows : List (List Value)) (other : List Value) → least rows ≡ None → Contains rows other → ⊥
none_left [] other e h = Contains-nil other h
none_left (row ∷ rows) other e h = cc e

least_told : (rows : List (List Value)) (m : List Value) → least rows ≡ Some m → IsLeast rows m
least_told [] m e = cc e
least_told (row ∷ rows) m e = by (least rows) refl e (least_told rows)
  where
    first : (other : List Value) → row ≡ other → is_gt (row_cmp row other) ≡ false
    first other is = subst (λ q. is_gt (row_cmp row q) ≡ false) is (ap is_gt (tied_itself row_total row))

    pick : (k : List Value) (b : Bool) → is_lt (row_cmp k row) ≡ b → cond b k row ≡ m → IsLeast rows k → IsLeast (row ∷ rows) m
    pick k true u same h =
        subst (IsLeast (row ∷ rows)) same
        (record {
          there = Contains-later row rows k h.there;
          least_is = λ other g. elim (Contains-cases row rows other g) [
            | inl is ↦ subst (λ q. is_gt (row_cmp k q) ≡ false) is (less_upto (row_cmp k row) u)
            | inr later ↦ h.least_is other later
          ];
        })
    pick k false u same h =
        subst (IsLeast (row ∷ rows)) same
        (record {
          there = Contains-head row rows;
          least_is = λ other g. elim (Contains-cases row rows other g) [
            | inl is ↦ first other is
            | inr later ↦ upto row_total row k other (turned (row_cmp k row) (row_cmp row k) (row_total.antisymm row k) u) (h.least_is other later)
          ];
        })

    by : (o : Option (List Value)) → least rows ≡ o → Some (lesser row o) ≡ Some m → ((k : List Value) → least rows ≡ Some k → IsLeast rows k) → IsLeast (row ∷ rows) m
    by None t f more =
        let same : row ≡ m = cc f in
        subst (IsLeast (row ∷ rows)) same
        (record {
          there = Contains-head row rows;
          least_is = λ other g. elim (Contains-cases row rows other g) [
            | inl is ↦ first other is
            | inr later ↦ absurd (none_left rows other t later)
          ];
        })
    by (Some k) t f more =
        let same : lesser row (Some k) ≡ m = cc f in
        pick k (is_lt (row_cmp k row)) refl same (more k t)

tie_upto : (r s : Ordering) → r ≡ ordering_reverse s → is_gt r ≡ false → is_gt s ≡ false → r ≡ Equal
tie_upto Less Greater e p q = cc q
tie_upto Less Less e p q = cc e
tie_upto Less Equal e p q = cc e
tie_upto Equal s e p q = refl
tie_upto Greater s e p q = cc p

pub same_least : (a b : List Value) → is_gt (row_cmp a b) ≡ false → is_gt (row_cmp b a) ≡ false → a ≡ b
same_least a b p q = row_equal a b (tie_upto (row_cmp a b) (row_cmp b a) (row_total.antisymm a b) p q)

-- ---- the rows that break a rule

breaks_told : (d : RowSet) (rule : Rule) (row : List Value) → Contains (breaking d rule) row → BreaksRule d rule row
breaks_told d rule row h =
    let k = filter_told (is_missing (rows_given rule.right no_context d)) (rows_given rule.left no_context d) row h in
    record {
      left = answer_told rule.left no_context d row k.0;
      not_right = λ in_right. missing_told (rows_given rule.right no_context d) row k.1 (answer_test rule.right no_context d row in_right);
    }

breaks_test : (d : RowSet) (rule : Rule) (row : List Value) → BreaksRule d rule row → Contains (breaking d rule) row
breaks_test d rule row h =
    filter_test (is_missing (rows_given rule.right no_context d)) (rows_given rule.left no_context d) row (answer_test rule.left no_context d row h.left)
    (missing_test (rows_given rule.right no_context d) row (λ there. h.not_right (answer_told rule.right no_context d row there)))

-- the row breaks the rule, and no lesser one does
pub record BreaksFirst (d : RowSet) (rule : Rule) (row : List Value) : Type 0 where
  pub breaks : BreaksRule d rule row
  pub least_is : (other : List Value) → BreaksRule d rule other → is_gt (row_cmp row other) ≡ false

pub breaking_told : (d : RowSet) (rule : Rule) (row : List Value) → least_breaking d rule ≡ Some row → BreaksFirst d rule row
unfolding least_breaking
breaking_told d rule row e =
    let h = least_told (breaking d rule) row e in
    record {
      breaks = breaks_told d rule row h.there;
      least_is = λ other b. h.least_is other (breaks_test d rule other b);
    }

pub breaking_none : (d : RowSet) (rule : Rule) (row : List Value) → least_breaking d rule ≡ None → BreaksRule d rule row → ⊥
unfolding least_breaking
breaking_none d rule row e h = none_left (breaking d rule) row e (breaks_test d rule row h)

pub breaking_is : (d : RowSet) (rule : Rule) (row : List Value) → BreaksFirst d rule row → least_breaking d rule ≡ Some row
breaking_is d rule row h = by (least_breaking d rule) refl
  where
    by : (o : Option (List Value)) → least_breaking d rule ≡ o → least_breaking d rule ≡ Some row
    by None e = absurd (breaking_none d rule row e h.breaks)
    by (Some m) e =
        let k = breaking_told d rule m e in
        e ∙ ap Some (same_least m row (k.least_is row h.breaks) (h.least_is m k.breaks))

pub breaking_none_is : (d : RowSet) (rule : Rule) → ((row : List Value) → BreaksRule d rule row → ⊥) → least_breaking d rule ≡ None
breaking_none_is d rule n = by (least_breaking d rule) refl
  where
    by : (o : Option (List Value)) → least_breaking d rule ≡ o → least_breaking d rule ≡ None
    by None e = e
    by (Some m) e = absurd (n m (breaking_told d rule m e).breaks)

-- a rule holds exactly where no row breaks it
pub unbroken_holds : (d : RowSet) (rule : Rule) → least_breaking d rule ≡ None → RuleHolds d rule
unbroken_holds d rule e r in_left = by (is_missing (rows_given rule.right no_context d) r) refl
  where
    by : (b : Bool) → is_missing (rows_given rule.right no_context d) r ≡ b → InAnswer rule.right no_context d r
    by true t = absurd (breaking_none d rule r e (record { left = in_left; not_right = λ in_right. missing_told (rows_given rule.right no_context d) r t (answer_test rule.right no_context d r in_right) }))
    by false t = answer_told rule.right no_context d r ((has_decides (rows_given rule.right no_context d) r).0 (so (has_row (rows_given rule.right no_context d) r) t))

pub holds_unbroken : (d : RowSet) (rule : Rule) → RuleHolds d rule → least_breaking d rule ≡ None
holds_unbroken d rule h = breaking_none_is d rule (λ r b. b.not_right (h r b.left))

-- ---- the first broken rule

pub rules_hold : (number : ℕ) (d : RowSet) (rules : List Rule) → broken_rule number d rules ≡ None → All (RuleHolds d) rules
unfolding broken_rule
rules_hold number d [] e = All-nil (RuleHolds d)
rules_hold number d (rule ∷ rules) e =
    let p = or_none (option_map (λ row. RuleBroken number row) (least_breaking d rule)) (broken_rule (number + 1) d rules) e in
    All-cons (RuleHolds d) rule rules (unbroken_holds d rule (map_none (λ row. RuleBroken number row) (least_breaking d rule) p.0)) (rules_hold (number + 1) d rules p.1)

next_rule : (number : ℕ) (d : RowSet) (rule : Rule) (rules : List Rule) → least_breaking d rule ≡ None → broken_rule number d (rule ∷ rules) ≡ broken_rule (number + 1) d rules
unfolding broken_rule
next_rule number d rule rules e = rw e refl

this_rule : (number : ℕ) (d : RowSet) (row : List Value) (rule : Rule) (rules : List Rule) → least_breaking d rule ≡ Some row → broken_rule number d (rule ∷ rules) ≡ Some (RuleBroken number row)
unfolding broken_rule
this_rule number d row rule rules e = rw e refl

no_rule : (number : ℕ) (d : RowSet) → broken_rule number d [] ≡ None
unfolding broken_rule
no_rule number d = refl

pub rules_unbroken : (number : ℕ) (d : RowSet) (rules : List Rule) → ((k : ℕ) (rule : Rule) → slice_get rules k ≡ Some rule → RuleHolds d rule) → broken_rule number d rules ≡ None
rules_unbroken number d [] h = no_rule number d
rules_unbroken number d (rule ∷ rules) h =
    next_rule number d rule rules (holds_unbroken d rule (h 0 rule refl)) ∙ rules_unbroken (number + 1) d rules (λ k other at. h (suc k) other at)

pub no_rules : (number : ℕ) (d : RowSet) (rules : List Rule) (k : ℕ) (rule : Rule) → broken_rule number d rules ≡ None → slice_get rules k ≡ Some rule → least_breaking d rule ≡ None
unfolding broken_rule
no_rules number d [] k rule e at = cc at
no_rules number d (first ∷ rules) zero rule e at =
    let p = or_none (option_map (λ row. RuleBroken number row) (least_breaking d first)) (broken_rule (number + 1) d rules) e in
    let same : first ≡ rule = cc at in
    subst (λ r. least_breaking d r ≡ None) same (map_none (λ row. RuleBroken number row) (least_breaking d first) p.0)
no_rules number d (first ∷ rules) (suc k) rule e at =
    let p = or_none (option_map (λ row. RuleBroken number row) (least_breaking d first)) (broken_rule (number + 1) d rules) e in
    no_rules (number + 1) d rules k rule p.1 at

pub record FirstRule (number : ℕ) (d : RowSet) (rules : List Rule) (fault : TablesFault) : Type 0 where
  pub i : ℕ
  pub number_is : ℕ
  pub place : number_is ≡ number + i
  pub rule : Rule
  pub rule_is : slice_get rules i ≡ Some rule
  pub row : List Value
  pub row_is : least_breaking d rule ≡ Some row
  pub fault_is : fault ≡ RuleBroken number_is row
  pub earlier : (k : ℕ) (other : Rule) → k < i → slice_get rules k ≡ Some other → least_breaking d other ≡ None

pub rule_first : (number : ℕ) (d : RowSet) (rules : List Rule) (fault : TablesFault) → broken_rule number d rules ≡ Some fault → FirstRule number d rules fault
unfolding broken_rule
rule_first number d [] fault e = cc e
rule_first number d (rule ∷ rules) fault e = by (least_breaking d rule) refl e (rule_first (number + 1) d rules fault)
  where
    before : (h : FirstRule (number + 1) d rules fault) → least_breaking d rule ≡ None → (k : ℕ) (other : Rule) → k < suc h.i → slice_get (rule ∷ rules) k ≡ Some other → least_breaking d other ≡ None
    before h none zero other less at = let same : rule ≡ other = cc at in subst (λ r. least_breaking d r ≡ None) same none
    before h none (suc k) other less at = h.earlier k other (omega arith) at

    by : (o : Option (List Value)) → least_breaking d rule ≡ o → option_or (option_map (λ row. RuleBroken number row) o) (broken_rule (number + 1) d rules) ≡ Some fault → (broken_rule (number + 1) d rules ≡ Some fault → FirstRule (number + 1) d rules fault)
        → FirstRule number d (rule ∷ rules) fault
    by (Some row) t f more =
        let same : RuleBroken number row ≡ fault = cc f in
        record { i = 0; number_is = number; place = omega arith; rule = rule; rule_is = refl; row = row; row_is = t; fault_is = sym same; earlier = λ k other less at. absurd (omega arith) }
    by None t f more =
        let h = more f in
        let place = h.place in
        record { i = suc h.i; number_is = h.number_is; place = omega arith; rule = h.rule; rule_is = h.rule_is; row = h.row; row_is = h.row_is; fault_is = h.fault_is; earlier = before h t }

-- as a loop over the rules finds it
pub rule_here : (i : ℕ) (d : RowSet) (row : List Value) (rules : List Rule) (rule : Rule) → slice_get rules i ≡ Some rule → Some row ≡ least_breaking d rule → broken_rule i d (drop i rules) ≡ Some (RuleBroken i row)
rule_here i d row rules rule at e = ap (broken_rule i d) (drop_element rules i rule at) ∙ this_rule i d row rule (drop (i + 1) rules) (sym e)

pub rule_next : (i : ℕ) (d : RowSet) (rules : List Rule) (rule : Rule) → slice_get rules i ≡ Some rule → None ≡ least_breaking d rule → broken_rule i d (drop i rules) ≡ broken_rule (i + 1) d (drop (i + 1) rules)
rule_next i d rules rule at e = ap (broken_rule i d) (drop_element rules i rule at) ∙ next_rule i d rule (drop (i + 1) rules) (sym e)

pub rules_end : (i : ℕ) (d : RowSet) (rules : List Rule) → length rules ≤ i → broken_rule i d (drop i rules) ≡ None
rules_end i d rules le = ap (broken_rule i d) (drop_all i rules le) ∙ no_rule i d
