-- Columns that may hold NULL, by the function and in SQL's terms.
use Rattle.std.proofs.Common.{◌≡◌, inl, inr, ℕ, zero, suc, ◌<◌, Bool, true, false, not, ◌||◌, List, [], ◌∷◌, length, Contains, is_some, refl, sym, ◌∙◌, arith}
use Rattle.std.specs.Cmp.Lexicographic.{nat_list_eq_equiv}
use Rattle.std.specs.List.{list_any, position, slice_index_or}
use Rattle.std.specs.Prelude.{◌↔◌, IsTrue}
use Rattle.std.proofs.lemmas.Bool.{false_from_ne_true, not_from_false, not-true}
use Rattle.std.proofs.lemmas.Map.Views.{Contains-from_any, list_any-from_Contains}
use Rattle.ba_sql_ddl.specs.Laws.{IsNotNull}
use Rattle.ba_sql_ddl.specs.Meaning.{column_of, is_not_null, is_not_null_rule, primary_names}
use Rattle.ba_sql_ddl.specs.Numbers.{once, same_name}
use Rattle.ba_sql_ddl.specs.declared.written.ColumnRule.{ColumnRule}
use Rattle.ba_sql_ddl.specs.declared.written.ColumnRule.TheVariants.{NotNull, Null, PrimaryKey, Unique, References}
use Rattle.ba_sql_ddl.specs.declared.written.ColumnText.{ColumnText}
use Rattle.ba_sql_ddl.specs.declared.written.TableText.{TableText}
use Rattle.ba_sql_ddl.proofs.NumberLemmas.{any_once, name_same, some_position}

-- ---- one column

further : (r : ColumnRule) (rs : List ColumnRule) → Contains rs NotNull → Contains (r ∷ rs) NotNull
further r rs c = (suc c.0, omega (arith, c.1), c.2)

rule_there : (rs : List ColumnRule) → list_any is_not_null_rule rs ≡ true → Contains rs NotNull
rule_there [] e = cc
rule_there (NotNull ∷ rs) e = (0, omega arith, refl)
rule_there (Null ∷ rs) e = further Null rs (rule_there rs e)
rule_there (PrimaryKey ∷ rs) e = further PrimaryKey rs (rule_there rs e)
rule_there (Unique ∷ rs) e = further Unique rs (rule_there rs e)
rule_there (References t ts ∷ rs) e = further (References t ts) rs (rule_there rs e)

or_right : (a b : Bool) → b ≡ true → (a || b) ≡ true
or_right true b e = refl
or_right false b e = e

there_rule : (rs : List ColumnRule) (n : ℕ) → n < length rs → slice_index_or rs n NotNull ≡ NotNull → list_any is_not_null_rule rs ≡ true
there_rule [] n lt e = absurd (omega (arith, lt))
there_rule (r ∷ rs) zero lt e = rw e refl
there_rule (r ∷ rs) (suc n) lt e = or_right (is_not_null_rule r) (list_any is_not_null_rule rs) (there_rule rs n (omega (arith, lt)) e)

abbrev primary : TableText → List (List ℕ)
primary t = once (primary_names t.items)

in_primary : (t : TableText) (c : ColumnText) → is_some (position (same_name c.name) (primary t)) ≡ list_any (same_name c.name) (primary_names t.items)
in_primary t c = some_position c.name (primary t) ∙ any_once c.name (primary_names t.items)

not_null_sound : (t : TableText) (c : ColumnText) → is_not_null (primary t) c ≡ true → IsNotNull t c
not_null_sound t c e = at (list_any is_not_null_rule c.rules) refl e
  where
    at : (b : Bool) → list_any is_not_null_rule c.rules ≡ b → (b || is_some (position (same_name c.name) (primary t))) ≡ true → IsNotNull t c
    at true h e = inl (rule_there c.rules h)
    at false h e = inr (Contains-from_any {eq = same_name} name_same c.name (primary_names t.items) (sym (in_primary t c) ∙ e))

not_null_complete : (t : TableText) (c : ColumnText) → IsNotNull t c → is_not_null (primary t) c ≡ true
not_null_complete t c (inl h) = rw (there_rule c.rules h.0 h.1 h.2) refl
not_null_complete t c (inr h) =
    or_right (list_any is_not_null_rule c.rules) (is_some (position (same_name c.name) (primary t))) (in_primary t c ∙ list_any-from_Contains nat_list_eq_equiv c.name (primary_names t.items) h)

null_sound : (t : TableText) (c : ColumnText) → is_not_null (primary t) c ≡ false → ¬ IsNotNull t c
null_sound t c e h = let wrong : true ≡ false = sym (not_null_complete t c h) ∙ e in cc

null_complete : (t : TableText) (c : ColumnText) → ¬ IsNotNull t c → is_not_null (primary t) c ≡ false
null_complete t c h = false_from_ne_true (is_not_null (primary t) c) (λ e. h (not_null_sound t c e))

-- ---- what its column says

pub nullable_said : (t : TableText) (c : ColumnText) → IsTrue (column_of (primary t) c).nullable ↔ (¬ IsNotNull t c)
nullable_said t c = (λ e. null_sound t c (not-true (is_not_null (primary t) c) e), λ h. not_from_false (is_not_null (primary t) c) (null_complete t c h))

pub nullable_is : (t : TableText) (c : ColumnText) (b : Bool) → (IsTrue b ↔ (¬ IsNotNull t c)) → b ≡ not (is_not_null (primary t) c)
nullable_is t c true h = sym (not_from_false (is_not_null (primary t) c) (null_complete t c (h.0 refl)))
nullable_is t c false h = at (is_not_null (primary t) c) refl
  where
    at : (n : Bool) → is_not_null (primary t) c ≡ n → false ≡ not n
    at true e = refl
    at false e = h.1 (null_sound t c e)
