-- What the first fault of a draft tells.
use Rattle.std.proofs.Common.{◌≡◌, ℕ, zero, suc, ◌<◌, Bool, true, false, not, cond, nat_eq, List, Option, Some, None, Result, Ok, Err, refl, sym, subst, ◌∙◌, arith}
use Rattle.std.specs.Prelude.{IfOk}
use Rattle.std.specs.List.{list_all}
use Rattle.std.proofs.lemmas.Bool.{eqb-false, eqb-true, false≢true}
use Rattle.ba_model.specs.Readings.{Gives}
use Rattle.ba_model.specs.Limits.{limit_of}
use Rattle.ba_model.specs.SchemaFaults.{AreTables, IsFirstFault, Lacks, columns_there, excess, kinds_agree, rank, some_columns, table_names, targets_there, widths_agree}
use Rattle.ba_model.specs.declared.limits.Counted.{Counted}
use Rattle.ba_model.specs.declared.check_schema.SchemaFault.{SchemaFault}
use Rattle.ba_model.specs.declared.check_schema.SchemaFault.TheVariants.{DuplicateTable, DuplicateColumn, UnknownTable, UnknownColumn, WidthDiffers, KindDiffers, EmptyKey, TooMany, Rule}
use Rattle.ba_model.specs.declared.failure.Failure.{Failure}
use Rattle.ba_model.specs.declared.schema.Schema.{Schema}
use Rattle.ba_model.specs.declared.schema.Table.{Table}
use Rattle.ba_sql_ddl.specs.Check.{are_distinct, checked, columns_distinct, first_fault, schema, too_many}
use Rattle.ba_sql_ddl.specs.Inclusions.{with_rules}
use Rattle.ba_sql_ddl.specs.Numbers.{same_name}
use Rattle.ba_sql_ddl.specs.Written.{InclusionText}
use Rattle.ba_sql_ddl.specs.declared.fault.DdlFault.{DdlFault}
use Rattle.ba_sql_ddl.specs.declared.fault.DdlFault.TheVariants.{Schema as SchemaFaulty}
use Rattle.ba_sql_ddl.proofs.CheckLemmas.{columns_tell, names_told, columns_told, table_names_tell}
use Rattle.ba_sql_ddl.proofs.InclusionLemmas.{with_tables}

-- what a fault of a rank lacks
abbrev Level : List Table → ℕ → Type 0
Level tables zero = Lacks DuplicateTable tables
Level tables (suc zero) = Lacks DuplicateColumn tables
Level tables (suc (suc zero)) = list_all (targets_there tables) tables ≡ true
Level tables (suc (suc (suc zero))) = list_all (columns_there tables) tables ≡ true
Level tables (suc (suc (suc (suc zero)))) = list_all widths_agree tables ≡ true
Level tables (suc (suc (suc (suc (suc zero))))) = list_all (kinds_agree tables) tables ≡ true
Level tables (suc (suc (suc (suc (suc (suc zero)))))) = list_all some_columns tables ≡ true
Level tables (suc (suc (suc (suc (suc (suc (suc n))))))) = excess tables ≡ None

lacks_of : (f : SchemaFault) (tables : List Table) → Level tables (rank f) → Lacks f tables
lacks_of DuplicateTable tables h = h
lacks_of DuplicateColumn tables h = h
lacks_of UnknownTable tables h = h
lacks_of UnknownColumn tables h = h
lacks_of WidthDiffers tables h = h
lacks_of KindDiffers tables h = h
lacks_of EmptyKey tables h = h
lacks_of (TooMany what limit) tables h = h
lacks_of (Rule rule fault) tables h = tt

abbrev Levels : List Table → ℕ → Type 0
Levels tables zero = Unit {0}
Levels tables (suc n) = Levels tables n × Level tables n

level : (tables : List Table) (n m : ℕ) → Levels tables n → m < n → Level tables m
level tables zero m h lt = absurd (omega (arith, lt))
level tables (suc n) m h lt = at (nat_eq m n) refl (level tables n m h.0)
  where
    at : (b : Bool) → nat_eq m n ≡ b → (m < n → Level tables m) → Level tables m
    at true e below = subst (Level tables) (sym (eqb-true m n e)) h.1
    at false e below = let differs = eqb-false m n e in below (omega (arith, lt, differs))

first : (f : SchemaFault) (tables : List Table) → Levels tables (rank f) → (g : SchemaFault) → rank g < rank f → Lacks g tables
first f tables h g lt = lacks_of g tables (level tables (rank f) (rank g) h lt)

rank_below : (f : SchemaFault) → rank f < 9
rank_below DuplicateTable = omega arith
rank_below DuplicateColumn = omega arith
rank_below UnknownTable = omega arith
rank_below UnknownColumn = omega arith
rank_below WidthDiffers = omega arith
rank_below KindDiffers = omega arith
rank_below EmptyKey = omega arith
rank_below (TooMany what limit) = omega arith
rank_below (Rule rule fault) = omega arith

abbrev pub Told : Option SchemaFault → List Table → Type 0
Told None tables = AreTables tables
Told (Some f) tables = IsFirstFault f tables

not_both : (b : Bool) → b ≡ false → b ≡ true → ⊥
not_both b e h = false≢true (sym e ∙ h)

last_told : (o : Option Counted) (tables : List Table) → excess tables ≡ o → Levels tables 7 → Told (too_many o) tables
last_told None tables e h = record { lacks = λ (f : SchemaFault). lacks_of f tables (level tables 9 (rank f) ((h, e), e) (rank_below f)) }
last_told (Some what) tables e h = record { has = (e, refl); first = first (TooMany what (limit_of what)) tables h }

abbrev result : List Table → Bool → Bool → Bool → Bool → Bool → Bool → Bool → Option SchemaFault
result tables a b c d f g k =
    cond (not a) (Some DuplicateTable) (cond (not b) (Some DuplicateColumn) (cond (not c) (Some UnknownTable) (cond (not d) (Some UnknownColumn) (cond (not f) (Some WidthDiffers) (cond (not g) (Some KindDiffers) (cond (not k) (Some EmptyKey) (too_many (excess tables))))))))

pub told : (tables : List Table) → Told (first_fault tables) tables
unfolding first_fault
told tables =
    at (are_distinct same_name (table_names tables)) (list_all columns_distinct tables) (list_all (targets_there tables) tables) (list_all (columns_there tables) tables) (list_all widths_agree tables) (list_all (kinds_agree tables) tables)
    (list_all some_columns tables) refl refl refl refl refl refl refl
  where
    at : (a b c d f g k : Bool) → are_distinct same_name (table_names tables) ≡ a → list_all columns_distinct tables ≡ b → list_all (targets_there tables) tables ≡ c → list_all (columns_there tables) tables ≡ d → list_all widths_agree tables ≡ f
        → list_all (kinds_agree tables) tables ≡ g → list_all some_columns tables ≡ k → Told (result tables a b c d f g k) tables
    at false b c d f g k ha hb hc hd hf hg hk = record { has = λ h. not_both (are_distinct same_name (table_names tables)) ha (table_names_tell tables h); first = first DuplicateTable tables tt }
    at true false c d f g k ha hb hc hd hf hg hk =
        record { has = λ h. not_both (list_all columns_distinct tables) hb (columns_tell tables h); first = first DuplicateColumn tables (tt, names_told tables ha) }
    at true true false d f g k ha hb hc hd hf hg hk =
        record { has = not_both (list_all (targets_there tables) tables) hc; first = first UnknownTable tables ((tt, names_told tables ha), columns_told tables hb) }
    at true true true false f g k ha hb hc hd hf hg hk =
        record { has = not_both (list_all (columns_there tables) tables) hd; first = first UnknownColumn tables (((tt, names_told tables ha), columns_told tables hb), hc) }
    at true true true true false g k ha hb hc hd hf hg hk =
        record { has = not_both (list_all widths_agree tables) hf; first = first WidthDiffers tables ((((tt, names_told tables ha), columns_told tables hb), hc), hd) }
    at true true true true true false k ha hb hc hd hf hg hk =
        record { has = not_both (list_all (kinds_agree tables) tables) hg; first = first KindDiffers tables (((((tt, names_told tables ha), columns_told tables hb), hc), hd), hf) }
    at true true true true true true false ha hb hc hd hf hg hk =
        record { has = not_both (list_all some_columns tables) hk; first = first EmptyKey tables ((((((tt, names_told tables ha), columns_told tables hb), hc), hd), hf), hg) }
    at true true true true true true true ha hb hc hd hf hg hk =
        last_told (excess tables) tables refl (((((((tt, names_told tables ha), columns_told tables hb), hc), hd), hf), hg), hk)

-- ---- a schema that was checked

-- it has no rules yet
pub record IsChecked (tables : List Table) (s : Schema) : Type 0 where
  pub none : first_fault tables ≡ None
  pub tables_are : AreTables tables
  pub is : s ≡ schema tables

pub is_checked : (tables : List Table) (s : Schema) → checked tables ≡ Ok s → IsChecked tables s
unfolding checked
is_checked tables s e = at (first_fault tables) refl
  where
    same : (t : Schema) → ◌≡◌ {A = Result Schema DdlFault} (Ok t) (Ok s) → s ≡ t
    same t e = cc

    at : (f : Option SchemaFault) → first_fault tables ≡ f → IsChecked tables s
    at (Some f) k = let wrong : ◌≡◌ {A = Result Schema DdlFault} (Err (SchemaFaulty f)) (Ok s) = rw k at e in cc
    at None k =
        let is : ◌≡◌ {A = Result Schema DdlFault} (Ok (schema tables)) (Ok s) = rw k at e in
        record { none = k; tables_are = subst (λ (o : Option SchemaFault). Told o tables) k (told tables); is = same (schema tables) is }

pub checked_tables : (tables : List Table) (s : Schema) → checked tables ≡ Ok s → AreTables s.tables
checked_tables tables s e = let c = is_checked tables s e in subst (λ (t : Schema). AreTables t.tables) (sym c.is) c.tables_are

pub read_tables : (tables : List Table) (s : Schema) (texts : List InclusionText) (r : Result Schema (Failure DdlFault)) → checked tables ≡ Ok s → Gives r (with_rules s texts) → IfOk r (λ t. AreTables t.tables)
read_tables tables s texts r e g = with_tables s texts r (checked_tables tables s e) g
