-- Checking tells the first broken key, link or rule, and passes where none is broken.
use Rattle.std.proofs.Common.{◌≡◌, ℕ, ◌<◌, ◌≤◌, ◌⊎◌, inl, inr, Bool, true, false, List, [], Option, Some, None, Ok, Err, refl, sym, ap, ap₂, ◌∙◌, subst, nat_lt, arith}
use Rattle.std.proofs.lemmas.Bool.Decides.{nat_tests}
use Rattle.std.proofs.lemmas.List.Elements.{All-contains}
use Rattle.std.specs.List.{All}
use Rattle.std.specs.List.Sorted.{IsStrictlySortedBy}
use Rattle.std.specs.Option.{option_or}
use Rattle.std.specs.Ordering.{is_gt, ordering_reverse}
use Rattle.std.specs.declared.cmp.Ordering.{Ordering}
use Rattle.std.specs.declared.cmp.Ordering.TheVariants.{Less, Equal, Greater}
use Rattle.ba_model.specs.Conform.{Conforms, RuleHolds}
use Rattle.ba_model.specs.Order.{row_cmp}
use Rattle.ba_model.specs.OrderLaws.{row_total}
use Rattle.ba_model.specs.declared.schema.Schema.{Schema}
use Rattle.ba_model.specs.declared.value.RowSet.{RowSet}
use Rattle.ba_tables.specs.Breaks.{Before, IsBroken, IsFirstBroken, TellsFirstBroken}
use Rattle.ba_tables.specs.Broken.{broken_table}
use Rattle.ba_tables.specs.Checked.{checked, first_fault, tables_unless}
use Rattle.ba_tables.specs.Rules.{broken_rule}
use Rattle.ba_tables.specs.TableSet.{RowsFit, TableSet}
use Rattle.ba_tables.specs.declared.broken.TablesFault.{TablesFault}
use Rattle.ba_tables.specs.declared.broken.TablesFault.TheVariants.{KeyBroken, LinkBroken, RuleBroken}
use Rattle.ba_tables.proofs.ConformLemmas.{or_none, unbroken_conforms}
use Rattle.ba_tables.proofs.FirstBrokenLemmas.{first_broken, first_rule, quiet_fault}
use Rattle.ba_tables.proofs.FoundLemmas.{no_tables}
use Rattle.ba_tables.proofs.RuleLemmas.{rules_hold, rules_unbroken, same_least, there_at}
use Rattle.ba_tables.proofs.UnbrokenLemmas.{tables_unbroken}

first_told : (s : Schema) (d : RowSet) (fault : TablesFault) → first_fault s d ≡ Some fault → IsFirstBroken s d fault
unfolding first_fault
first_told s d fault e = by (broken_table 0 d s.tables d.tables) refl e
  where
    by : (o : Option TablesFault) → broken_table 0 d s.tables d.tables ≡ o → option_or o (broken_rule 0 d s.rules) ≡ Some fault → IsFirstBroken s d fault
    by (Some f) t g = first_broken s d fault (t ∙ g)
    by None t g = first_rule s d fault (λ number table rows at. no_tables 0 d s.tables d.tables number table rows t at.table_is at.rows_are) g

none_fault : (s : Schema) (d : RowSet) → first_fault s d ≡ None → (broken_table 0 d s.tables d.tables ≡ None) × (broken_rule 0 d s.rules ≡ None)
unfolding first_fault
none_fault s d e = or_none (broken_table 0 d s.tables d.tables) (broken_rule 0 d s.rules) e

fault_none : (s : Schema) (d : RowSet) → broken_table 0 d s.tables d.tables ≡ None → broken_rule 0 d s.rules ≡ None → first_fault s d ≡ None
unfolding first_fault
fault_none s d e f = ap₂ option_or e f

nothing_broken : (s : Schema) (d : RowSet) → first_fault s d ≡ None → (fault : TablesFault) → IsBroken s d fault → ⊥
nothing_broken s d e fault =
    let p = none_fault s d e in
    quiet_fault s d fault (λ number table rows at. no_tables 0 d s.tables d.tables number table rows p.0 at.table_is at.rows_are) p.1

none_conforms : (s : Schema) (d : RowSet) → RowsFit s d → first_fault s d ≡ None → Conforms s d
none_conforms s d fit e = let p = none_fault s d e in unbroken_conforms s d fit p.0 (rules_hold 0 d s.rules p.1)

-- the same of rows and a schema that are told in other words
pub seen_conforms : (s t : Schema) (d e : RowSet) → t ≡ s → e ≡ d → RowsFit s d → None ≡ first_fault t e → Conforms s d
seen_conforms s t d e f g fit h = none_conforms s d fit (sym (subst (λ x. None ≡ first_fault x d) f (subst (λ x. None ≡ first_fault t x) g h)))

conforms_none : (s : Schema) (d : RowSet) → All (IsStrictlySortedBy row_cmp) d.tables → Conforms s d → first_fault s d ≡ None
conforms_none s d rising h =
    fault_none s d (tables_unbroken (record { tables = s.tables; rules = [] }) d refl rising h.tables)
    (rules_unbroken 0 d s.rules (λ k rule at. All-contains (RuleHolds d) s.rules rule h.rules (there_at s.rules k rule at)))

-- ---- of two faults of which neither is before the other

alike : (a b : ℕ) → (a < b → ⊥) → (b < a → ⊥) → a ≡ b
alike a b n m = by (nat_lt a b) refl (nat_lt b a) refl
  where
    by : (s : Bool) → nat_lt a b ≡ s → (t : Bool) → nat_lt b a ≡ t → a ≡ b
    by true e t f = let less : a < b = grind (arith, nat_tests) in absurd (n less)
    by false e true f = let less : b < a = grind (arith, nat_tests) in absurd (m less)
    by false e false f = grind (arith, nat_tests)

apart : (a b : ℕ) → (a ≤ b → ⊥) → (b < a → ⊥) → ⊥
apart a b n m = by (nat_lt b a) refl
  where
    by : (s : Bool) → nat_lt b a ≡ s → ⊥
    by true e = let less : b < a = grind (arith, nat_tests) in m less
    by false e = let le : a ≤ b = grind (arith, nat_tests) in n le

upto_not : (o p : Ordering) → p ≡ ordering_reverse o → (p ≡ Less → ⊥) → is_gt o ≡ false
upto_not Less p e n = refl
upto_not Equal p e n = refl
upto_not Greater p e n = absurd (n e)

same_first : (f g : TablesFault) → (Before f g → ⊥) → (Before g f → ⊥) → f ≡ g
same_first (KeyBroken t k a b) (KeyBroken u l c e) n m =
    let one : t ≡ u = alike t u (λ h. n (inl h)) (λ h. m (inl h)) in
    let two : k ≡ l = alike k l (λ h. n (inr (one, inl h))) (λ h. m (inr (sym one, inl h))) in
    let three : b ≡ e = alike b e (λ h. n (inr (one, inr (two, inl h)))) (λ h. m (inr (sym one, inr (sym two, inl h)))) in
    let four : a ≡ c = alike a c (λ h. n (inr (one, inr (two, inr (three, h))))) (λ h. m (inr (sym one, inr (sym two, inr (sym three, h))))) in
    λ i. KeyBroken (one i) (two i) (four i) (three i)
same_first (KeyBroken t k a b) (LinkBroken u l j) n m = absurd (apart t u n m)
same_first (LinkBroken t k i) (KeyBroken u l c e) n m = absurd (apart u t m n)
same_first (LinkBroken t k i) (LinkBroken u l j) n m =
    let one : t ≡ u = alike t u (λ h. n (inl h)) (λ h. m (inl h)) in
    let two : k ≡ l = alike k l (λ h. n (inr (one, inl h))) (λ h. m (inr (sym one, inl h))) in
    let three : i ≡ j = alike i j (λ h. n (inr (one, inr (two, h)))) (λ h. m (inr (sym one, inr (sym two, h)))) in
    λ p. LinkBroken (one p) (two p) (three p)
same_first (KeyBroken t k a b) (RuleBroken u r) n m = absurd (n tt)
same_first (LinkBroken t k i) (RuleBroken u r) n m = absurd (n tt)
same_first (RuleBroken u r) (KeyBroken t k a b) n m = absurd (m tt)
same_first (RuleBroken u r) (LinkBroken t k i) n m = absurd (m tt)
same_first (RuleBroken t r) (RuleBroken u q) n m =
    let one : t ≡ u = alike t u (λ h. n (inl h)) (λ h. m (inl h)) in
    let two : r ≡ q =
    same_least r q (upto_not (row_cmp r q) (row_cmp q r) (row_total.antisymm q r) (λ h. m (inr (sym one, h))))
    (upto_not (row_cmp q r) (row_cmp r q) (row_total.antisymm r q) (λ h. n (inr (one, h)))) in
    λ i. RuleBroken (one i) (two i)

-- ---- the law

fault_told : (s : Schema) (d : RowSet) (o : Option TablesFault) (fault : TablesFault) → tables_unless s d o ≡ Err fault → o ≡ Some fault
fault_told s d None fault e = cc e
fault_told s d (Some f) fault e = cc e

none_told : (s : Schema) (d : RowSet) (o : Option TablesFault) (tables : TableSet) → tables_unless s d o ≡ Ok tables → o ≡ None
none_told s d None tables e = refl
none_told s d (Some f) tables e = cc e

only_fault : (s : Schema) (d : RowSet) (fault : TablesFault) → IsFirstBroken s d fault → checked s d ≡ Err fault
only_fault s d fault h = by (first_fault s d) refl
  where
    by : (o : Option TablesFault) → first_fault s d ≡ o → checked s d ≡ Err fault
    by None e = absurd (nothing_broken s d e fault h.broken)
    by (Some f) e =
        let g = first_told s d f e in
        ap (tables_unless s d) (e ∙ ap Some (same_first f fault (h.first f g.broken) (g.first fault h.broken)))

pub tells_first_broken : TellsFirstBroken
tells_first_broken = record {
  told = λ s d fault e. first_told s d fault (fault_told s d (first_fault s d) fault e);
  passed = λ s d tables e. nothing_broken s d (none_told s d (first_fault s d) tables e);
  only = only_fault;
  conforms = λ s d tables fit e. none_conforms s d fit (none_told s d (first_fault s d) tables e);
  kept = λ s d rising h. ap (tables_unless s d) (conforms_none s d rising h);
}
