-- Strictly rising rows that fit conform exactly where no key and no link is broken.
use Rattle.std.proofs.Common.{◌≡◌, ◌≢◌, ℕ, zero, suc, ◌<◌, Bool, true, false, not, IsTrue, ◌↔◌, List, [], ◌∷◌, Option, Some, None, refl, sym, ◌∙◌, arith, subst}
use Rattle.std.proofs.lemmas.List.Elements.{All-cons, All-contains, All-from_recursion, All-head, All-tail}
use Rattle.std.specs.Ordering.{ordering_reverse}
use Rattle.std.specs.List.{All, AllZip, Contains}
use Rattle.std.specs.List.Sorted.{IsStrictlySortedBy}
use Rattle.std.specs.Prelude.{is_some, slice_get}
use Rattle.std.specs.declared.cmp.Ordering.{Ordering}
use Rattle.std.specs.declared.cmp.Ordering.TheVariants.{Less, Equal, Greater}
use Rattle.ba_model.proofs.FitLemmas.{AllZip-at}
use Rattle.ba_model.specs.Conform.{IsOfColumn, KeyHolds, LinkHolds, TableConforms}
use Rattle.ba_model.specs.Order.{row_cmp}
use Rattle.ba_model.specs.OrderLaws.{row_total}
use Rattle.ba_model.specs.declared.schema.Column.{Column}
use Rattle.ba_model.specs.declared.schema.Schema.{Schema}
use Rattle.ba_model.specs.declared.schema.Table.{Table}
use Rattle.ba_model.specs.declared.value.RowSet.{RowSet}
use Rattle.ba_model.specs.declared.value.Value.{Value}
use Rattle.ba_tables.specs.Breaks.{IsBroken}
use Rattle.ba_tables.specs.Broken.{broken_table}
use Rattle.ba_tables.specs.TableSet.{ListsFit}
use Rattle.ba_tables.specs.declared.broken.TablesFault.{TablesFault}
use Rattle.ba_tables.specs.declared.broken.TablesFault.TheVariants.{KeyBroken, LinkBroken, RuleBroken}
use Rattle.ba_tables.proofs.ConformLemmas.{tables_conform}
use Rattle.ba_tables.proofs.FirstBrokenLemmas.{first_broken}
use Rattle.ba_tables.proofs.MissingLemmas.{not_itself, rising_less}
use Rattle.ba_tables.proofs.RuleLemmas.{there_at}

-- a list of elements that are tested one after another
pub all_step : {X : Type 0} (P : X → Type 0) (x : X) (xs : List X) (b : Bool) → P x → (IsTrue b ↔ All P xs) → IsTrue b ↔ All P (x ∷ xs)
all_step P x xs b p d = (λ t. All-cons P x xs p (d.0 t), λ h. d.1 (All-tail P x xs h))

pub all_stop : {X : Type 0} (P : X → Type 0) (x : X) (xs : List X) → (P x → ⊥) → IsTrue false ↔ All P (x ∷ xs)
all_stop P x xs n = (λ t. cc, λ h. absurd (n (All-head P x xs h)))

some_is : {X : Type 0} {x y : X} → Some x ≡ Some y → x ≡ y
some_is e = cc e

-- in a strictly rising list an earlier row is another one
rising_differs : (rows : List (List Value)) (i j : ℕ) (x y : List Value) → IsStrictlySortedBy row_cmp rows → i < j → slice_get rows i ≡ Some x → slice_get rows j ≡ Some y → x ≢ y
rising_differs rows i j x y up less e f same = not_itself x (subst (λ z. row_cmp x z ≡ Less) (sym same) (rising_less rows i j x y up less e f))

no_element : {X : Type 0} (xs : List X) (n : ℕ) (x : X) → xs ≡ [] → slice_get xs n ≡ Some x → ⊥
no_element [] n x e at = cc at
no_element (y ∷ xs) n x e at = cc e

-- tables that conform have no broken key and no broken link, and without rules nothing is broken
unbroken : (s : Schema) (d : RowSet) → s.rules ≡ [] → AllZip (TableConforms d) s.tables d.tables → All (IsStrictlySortedBy row_cmp) d.tables → (fault : TablesFault) → IsBroken s d fault → ⊥
unbroken s d none conform rising (KeyBroken number key first second) (table, rows, columns, at, key_is, breaks) =
    let list = AllZip-at (TableConforms d) s.tables d.tables number table conform at.table_is in
    let same : list.0 ≡ rows = some_is (sym list.1 ∙ at.rows_are) in
    let its = subst (TableConforms d table) same list.2 in
    let holds = All-contains (KeyHolds rows) table.keys columns its.keys (there_at table.keys key columns key_is) in
    let (i, first_is, earlier_at) = breaks.earlier_is in
    let (j, second_is, later_at) = breaks.later_is in
    let equal = holds breaks.later breaks.earlier (there_at rows j breaks.later later_at) (there_at rows i breaks.earlier earlier_at) breaks.no_null breaks.equal in
    rising_differs rows i j breaks.earlier breaks.later (All-contains (IsStrictlySortedBy row_cmp) d.tables rows rising (there_at d.tables number rows at.rows_are)) (omega (arith, first_is, second_is, breaks.before)) earlier_at later_at (sym equal)
unbroken s d none conform rising (LinkBroken number link row) (table, rows, it, at, link_is, breaks) =
    let list = AllZip-at (TableConforms d) s.tables d.tables number table conform at.table_is in
    let same : list.0 ≡ rows = some_is (sym list.1 ∙ at.rows_are) in
    let its = subst (TableConforms d table) same list.2 in
    let holds = All-contains (LinkHolds d rows) table.links it its.links (there_at table.links link it link_is) in
    let (i, row_is, row_at) = breaks.row_is in
    let (target, there, match) = holds breaks.row (there_at rows i breaks.row row_at) breaks.no_null in
    breaks.no_target target there match
unbroken s d none conform rising (RuleBroken number row) (rule, at, breaks) = no_element s.rules number rule none at

fit_of : (d : RowSet) (tables : List Table) (lists : List (List (List Value))) → AllZip (TableConforms d) tables lists → ListsFit tables lists
fit_of d [] [] h = tt
fit_of d [] (rows ∷ lists) h = absurd h
fit_of d (table ∷ tables) [] h = absurd h
fit_of d (table ∷ tables) (rows ∷ lists) h = ((h.0).kinds, fit_of d tables lists h.1)

-- what the two tests say together
pub conform_unfit : (s : Schema) (d : RowSet) → (IsTrue false ↔ ListsFit s.tables d.tables) → IsTrue false ↔ AllZip (TableConforms d) s.tables d.tables
conform_unfit s d fit = (λ t. cc, λ h. fit.1 (fit_of d s.tables d.tables h))

-- tables without rules that conform, of strictly rising rows
pub tables_unbroken : (s : Schema) (d : RowSet) → s.rules ≡ [] → All (IsStrictlySortedBy row_cmp) d.tables → AllZip (TableConforms d) s.tables d.tables → broken_table 0 d s.tables d.tables ≡ None
tables_unbroken s d none rising h = by (broken_table 0 d s.tables d.tables) refl
  where
    by : (o : Option TablesFault) → broken_table 0 d s.tables d.tables ≡ o → broken_table 0 d s.tables d.tables ≡ None
    by None e = e
    by (Some fault) e = absurd (unbroken s d none h rising fault (first_broken s d fault e).broken)

pub conform_tested : (s : Schema) (d : RowSet) (b : Bool) → s.rules ≡ [] → ListsFit s.tables d.tables → All (IsStrictlySortedBy row_cmp) d.tables → (IsTrue b ↔ (broken_table 0 d s.tables d.tables ≡ None)) → IsTrue b ↔ AllZip (TableConforms d) s.tables d.tables
conform_tested s d b none fit rising d_none =
    (λ t. tables_conform 0 d s.tables d.tables (d_none.0 t) fit, λ h. d_none.1 (tables_unbroken s d none rising h))

-- a test of the fit of lists that are told in other words
pub fit_test : {tables seen : List Table} {lists shown : List (List (List Value))} (b d : Bool) → b ≡ d → seen ≡ tables → shown ≡ lists → (IsTrue b ↔ ListsFit seen shown) → IsTrue d ↔ ListsFit tables lists
fit_test {tables} {seen} {lists} {shown} b d e f g h =
    subst (λ x. IsTrue x ↔ ListsFit tables lists) e (subst (λ x. IsTrue b ↔ ListsFit tables x) g (subst (λ x. IsTrue b ↔ ListsFit x shown) f h))

-- a test whether nothing was found
pub none_test : {X : Type 0} {found : Option X} (b : Bool) (told : Option X) → told ≡ found → is_some told ≡ not b → IsTrue b ↔ (found ≡ None)
none_test true None e n = (λ t. sym e, λ h. cc)
none_test true (Some x) e n = cc n
none_test false None e n = cc n
none_test false (Some x) e n = (λ t. cc, λ h. cc (e ∙ h))

pub is_true : IsTrue true
is_true = cc

-- a test of the fit of a row that is told in other words
pub fits_seen : {columns seen : List Column} {row item shown : List Value} (b : Bool) → b ≡ true → seen ≡ columns → shown ≡ item → item ≡ row → (IsTrue b ↔ AllZip IsOfColumn seen shown) → AllZip IsOfColumn columns row
fits_seen {columns} {seen} {row} {item} {shown} b e f g k h =
    subst (AllZip IsOfColumn columns) (g ∙ k) (subst (λ x. AllZip IsOfColumn x shown) f (h.0 (subst IsTrue (sym e) is_true)))
