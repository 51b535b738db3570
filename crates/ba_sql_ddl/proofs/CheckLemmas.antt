-- The first fault of a draft, by the function and as the model tells it.
use Rattle.std.proofs.Common.{◌≡◌, ◌∙◌, ℕ, ◌<◌, Bool, true, false, not, nat_eq, List, [], ◌∷◌, Option, Some, None, Result, Ok, Err, refl, sym, ap, subst, lit<, arith}
use Rattle.std.specs.Prelude.{IfErr, IfOk}
use Rattle.std.specs.List.{AllByRecursion, IsDistinct, list_all, list_any}
use Rattle.std.proofs.lemmas.Bool.{and_from, and_parts, false_from_ne_true, not_from_false, not-true, or_from, or_parts}
use Rattle.std.proofs.lemmas.List.Elements.{All-from_recursion, recursion_from_All}
use Rattle.std.proofs.lemmas.Option.{slice_get_past}
use Rattle.ba_model.specs.Readings.{Fails, Gives, OfFault}
use Rattle.ba_model.specs.RuleFaults.{IsSchema, IsSchemaFault}
use Rattle.ba_model.specs.SchemaFaults.{AreTables, ColumnsDistinct, IsFirstFault, Lacks, column_names, columns_there, kinds_agree, rank, some_columns, table_names, targets_there, widths_agree}
use Rattle.ba_model.specs.declared.limits.Counted.{Counted}
use Rattle.ba_model.specs.declared.check_schema.SchemaFault.{SchemaFault}
use Rattle.ba_model.specs.declared.check_schema.SchemaFault.TheVariants.{DuplicateTable, DuplicateColumn, UnknownTable, UnknownColumn, WidthDiffers, KindDiffers, EmptyKey, TooMany, Rule as OfRule}
use Rattle.ba_model.specs.declared.failure.Failure.{Failure}
use Rattle.ba_model.specs.declared.failure.Failure.TheVariants.{NoMemory, Fault}
use Rattle.ba_model.specs.declared.schema.Rule.{Rule}
use Rattle.ba_model.specs.declared.schema.Schema.{Schema}
use Rattle.ba_model.specs.declared.schema.Table.{Table}
use Rattle.ba_sql_ddl.specs.Check.{are_distinct, columns_distinct, first_fault, schema, well_formed}
use Rattle.ba_sql_ddl.specs.Numbers.{same_name}

-- ---- the tests of names and keys

no_other : {A : Type 0} (p : A → Bool) (ys : List A) → list_any p ys ≡ false → AllByRecursion (λ y. p y ≡ false) ys
no_other p [] h = tt
no_other p (y ∷ ys) h = let q = or_parts (p y) (list_any p ys) h in (q.0, no_other p ys q.1)

other_none : {A : Type 0} (p : A → Bool) (ys : List A) → AllByRecursion (λ y. p y ≡ false) ys → list_any p ys ≡ false
other_none p [] h = refl
other_none p (y ∷ ys) h = or_from (p y) (list_any p ys) h.0 (other_none p ys h.1)

pub distinct_sound : {A : Type 0} (eq : A → A → Bool) (xs : List A) → are_distinct eq xs ≡ true → IsDistinct eq xs
unfolding IsDistinct
distinct_sound eq [] h = tt
distinct_sound eq (x ∷ xs) h =
    let p = and_parts (not (list_any (eq x) xs)) (are_distinct eq xs) h in
    (no_other (eq x) xs (not-true (list_any (eq x) xs) p.0), distinct_sound eq xs p.1)

pub distinct_complete : {A : Type 0} (eq : A → A → Bool) (xs : List A) → IsDistinct eq xs → are_distinct eq xs ≡ true
unfolding IsDistinct
distinct_complete eq [] h = refl
distinct_complete eq (x ∷ xs) h =
    and_from (not (list_any (eq x) xs)) (are_distinct eq xs) (not_from_false (list_any (eq x) xs) (other_none (eq x) xs h.0)) (distinct_complete eq xs h.1)

all_sound : {A : Type 0} (P : A → Type 0) (p : A → Bool) → ((x : A) → p x ≡ true → P x) → (xs : List A) → list_all p xs ≡ true → AllByRecursion P xs
all_sound P p sound [] h = tt
all_sound P p sound (x ∷ xs) h = let q = and_parts (p x) (list_all p xs) h in (sound x q.0, all_sound P p sound xs q.1)

all_complete : {A : Type 0} (P : A → Type 0) (p : A → Bool) → ((x : A) → P x → p x ≡ true) → (xs : List A) → AllByRecursion P xs → list_all p xs ≡ true
all_complete P p complete [] h = refl
all_complete P p complete (x ∷ xs) h = and_from (p x) (list_all p xs) (complete x h.0) (all_complete P p complete xs h.1)

columns_sound : (t : Table) → columns_distinct t ≡ true → ColumnsDistinct t
columns_sound t h =
    let p = and_parts (are_distinct same_name (column_names t.columns)) (list_all (are_distinct nat_eq) t.keys) h in
    record {
      names = distinct_sound same_name (column_names t.columns) p.0;
      keys = All-from_recursion (IsDistinct nat_eq) t.keys (all_sound (IsDistinct nat_eq) (are_distinct nat_eq) (distinct_sound nat_eq) t.keys p.1);
    }

columns_complete : (t : Table) → ColumnsDistinct t → columns_distinct t ≡ true
columns_complete t h =
    and_from (are_distinct same_name (column_names t.columns)) (list_all (are_distinct nat_eq) t.keys) (distinct_complete same_name (column_names t.columns) h.names)
    (all_complete (IsDistinct nat_eq) (are_distinct nat_eq) (distinct_complete nat_eq) t.keys (recursion_from_All (IsDistinct nat_eq) t.keys h.keys))

pub table_names_tell : (tables : List Table) → Lacks DuplicateTable tables → are_distinct same_name (table_names tables) ≡ true
table_names_tell tables h = distinct_complete same_name (table_names tables) h

table_names_fail : (tables : List Table) → ¬ Lacks DuplicateTable tables → are_distinct same_name (table_names tables) ≡ false
table_names_fail tables h = false_from_ne_true (are_distinct same_name (table_names tables)) (λ e. h (distinct_sound same_name (table_names tables) e))

pub columns_tell : (tables : List Table) → Lacks DuplicateColumn tables → list_all columns_distinct tables ≡ true
columns_tell tables h = all_complete ColumnsDistinct columns_distinct columns_complete tables (recursion_from_All ColumnsDistinct tables h)

columns_fail : (tables : List Table) → ¬ Lacks DuplicateColumn tables → list_all columns_distinct tables ≡ false
columns_fail tables h = false_from_ne_true (list_all columns_distinct tables) (λ e. h (All-from_recursion ColumnsDistinct tables (all_sound ColumnsDistinct columns_distinct columns_sound tables e)))

pub names_told : (tables : List Table) → are_distinct same_name (table_names tables) ≡ true → Lacks DuplicateTable tables
names_told tables e = distinct_sound same_name (table_names tables) e

pub columns_told : (tables : List Table) → list_all columns_distinct tables ≡ true → Lacks DuplicateColumn tables
columns_told tables e = All-from_recursion ColumnsDistinct tables (all_sound ColumnsDistinct columns_distinct columns_sound tables e)

-- ---- the first fault

pub no_fault : (tables : List Table) → AreTables tables → first_fault tables ≡ None
unfolding first_fault
no_fault tables h =
    rw (table_names_tell tables (h.lacks DuplicateTable))
    (rw (columns_tell tables (h.lacks DuplicateColumn))
    (rw (h.lacks UnknownTable) (rw (h.lacks UnknownColumn) (rw (h.lacks WidthDiffers) (rw (h.lacks KindDiffers) (rw (h.lacks EmptyKey) (rw (h.lacks (TooMany Rattle.ba_model.specs.declared.limits.Counted.TheVariants.Tables 0)) refl)))))))

below : (f g : SchemaFault) (tables : List Table) → IsFirstFault f tables → rank g < rank f → Lacks g tables
below f g tables h lt = h.first g lt

pub the_fault : (f : SchemaFault) (tables : List Table) → IsFirstFault f tables → first_fault tables ≡ Some f
unfolding first_fault
the_fault DuplicateTable tables h = rw (table_names_fail tables h.has) refl
the_fault DuplicateColumn tables h =
    rw (table_names_tell tables (below DuplicateColumn DuplicateTable tables h (lit< tt))) (rw (columns_fail tables h.has) refl)
the_fault UnknownTable tables h =
    rw (table_names_tell tables (below UnknownTable DuplicateTable tables h (lit< tt)))
    (rw (columns_tell tables (below UnknownTable DuplicateColumn tables h (lit< tt)))
    (rw (false_from_ne_true (list_all (targets_there tables) tables) h.has) refl))
the_fault UnknownColumn tables h =
    rw (table_names_tell tables (below UnknownColumn DuplicateTable tables h (lit< tt)))
    (rw (columns_tell tables (below UnknownColumn DuplicateColumn tables h (lit< tt)))
    (rw (below UnknownColumn UnknownTable tables h (lit< tt))
    (rw (false_from_ne_true (list_all (columns_there tables) tables) h.has) refl)))
the_fault WidthDiffers tables h =
    rw (table_names_tell tables (below WidthDiffers DuplicateTable tables h (lit< tt)))
    (rw (columns_tell tables (below WidthDiffers DuplicateColumn tables h (lit< tt)))
    (rw (below WidthDiffers UnknownTable tables h (lit< tt))
    (rw (below WidthDiffers UnknownColumn tables h (lit< tt))
    (rw (false_from_ne_true (list_all widths_agree tables) h.has) refl))))
the_fault KindDiffers tables h =
    rw (table_names_tell tables (below KindDiffers DuplicateTable tables h (lit< tt)))
    (rw (columns_tell tables (below KindDiffers DuplicateColumn tables h (lit< tt)))
    (rw (below KindDiffers UnknownTable tables h (lit< tt))
    (rw (below KindDiffers UnknownColumn tables h (lit< tt))
    (rw (below KindDiffers WidthDiffers tables h (lit< tt))
    (rw (false_from_ne_true (list_all (kinds_agree tables) tables) h.has) refl)))))
the_fault EmptyKey tables h =
    rw (table_names_tell tables (below EmptyKey DuplicateTable tables h (lit< tt)))
    (rw (columns_tell tables (below EmptyKey DuplicateColumn tables h (lit< tt)))
    (rw (below EmptyKey UnknownTable tables h (lit< tt))
    (rw (below EmptyKey UnknownColumn tables h (lit< tt))
    (rw (below EmptyKey WidthDiffers tables h (lit< tt))
    (rw (below EmptyKey KindDiffers tables h (lit< tt))
    (rw (false_from_ne_true (list_all some_columns tables) h.has) refl))))))
the_fault (TooMany what limit) tables h =
    rw (table_names_tell tables (below (TooMany what limit) DuplicateTable tables h (lit< tt)))
    (rw (columns_tell tables (below (TooMany what limit) DuplicateColumn tables h (lit< tt)))
    (rw (below (TooMany what limit) UnknownTable tables h (lit< tt))
    (rw (below (TooMany what limit) UnknownColumn tables h (lit< tt))
    (rw (below (TooMany what limit) WidthDiffers tables h (lit< tt))
    (rw (below (TooMany what limit) KindDiffers tables h (lit< tt))
    (rw (below (TooMany what limit) EmptyKey tables h (lit< tt))
    (rw h.has.0 (ap (λ (n : ℕ). Some (TooMany what n)) (sym h.has.1)))))))))
the_fault (OfRule rule fault) tables h = absurd h.has

-- ---- the schema, or the fault

tables_give : (tables : List Table) (s : Schema) → AreTables s.tables → s.tables ≡ tables → s.rules ≡ [] → well_formed tables ≡ Ok s
tables_give tables s are same rules =
    rw (no_fault tables (subst AreTables same are)) (λ i. Ok (record { tables = sym same i; rules = sym rules i }))

fault_fails : (tables : List Table) (e : Failure SchemaFault) → OfFault e (λ f. IsFirstFault f tables) → Fails e (well_formed tables)
fault_fails tables NoMemory h = tt
fault_fails tables (Fault f) h = rw (the_fault f tables h) refl

-- without rules a fault is of the tables
without_rules : (tables : List Table) (f : SchemaFault) → IsSchemaFault (schema tables) f → IsFirstFault f tables
without_rules tables _ (IsSchemaFault.of_tables first) = first
without_rules tables _ (IsSchemaFault.too_many are more) = absurd (omega (arith, more))
without_rules tables _ (IsSchemaFault.of_rule {number} are few unfit) = absurd (none unfit.rule (sym (slice_get_past [] number (omega arith)) ∙ unfit.there))
  where
    none : (rule : Rule) → ◌≡◌ {A = Option Rule} None (Some rule) → ⊥
    none rule e = cc

fault_of_tables : (tables : List Table) (e : Failure SchemaFault) → OfFault e (IsSchemaFault (schema tables)) → OfFault e (λ f. IsFirstFault f tables)
fault_of_tables tables NoMemory h = tt
fault_of_tables tables (Fault f) h = without_rules tables f h

pub check_gives : (tables : List Table) (rules : List Rule) (r : Result Schema (Failure SchemaFault)) → rules ≡ []
    → IfOk r (λ s. s ≡ record { tables = tables; rules = rules }) → IfOk r IsSchema
    → IfErr r (λ e. OfFault e (IsSchemaFault (record { tables = tables; rules = rules }))) → Gives r (well_formed tables)
check_gives tables rules (Ok s) none content is fault =
    tables_give tables s is.tables (ap (λ (z : Schema). z.tables) content) (ap (λ (z : Schema). z.rules) content ∙ none)
check_gives tables rules (Err e) none content is fault =
    fault_fails tables e (fault_of_tables tables e (subst (λ rs. OfFault e (IsSchemaFault (record { tables = tables; rules = rs }))) none fault))
