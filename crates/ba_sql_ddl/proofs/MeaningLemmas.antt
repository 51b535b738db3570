-- What written tables mean, by the function and in SQL's terms.
use Rattle.std.proofs.Common.{◌≡◌, ℕ, zero, suc, ◌<◌, ◌≤◌, Bool, true, false, not, nat_lt, List, [], ◌∷◌, length, map, slice_get, Option, Some, None, is_some, option_map, refl, sym, ap, subst, ◌∙◌, arith}
use Rattle.std.specs.List.{AllByRecursion, AllZip, IsDistinct, flat_map, list_all}
use Rattle.std.proofs.lemmas.Bool.{and_parts, false≢true, ltb-false}
use Rattle.std.proofs.lemmas.List.{length-map}
use Rattle.std.proofs.lemmas.List.Elements.{recursion_from_All}
use Rattle.std.proofs.lemmas.Option.{slice_get-map, slice_get_past}
use Rattle.ba_model.specs.SchemaFaults.{AreTables, ColumnsDistinct, column_names, columns_of, columns_or, columns_there, excess, has_columns, link_columns_there, or_else, table_excess, table_names, tables_excess, targets_there}
use Rattle.ba_model.specs.declared.limits.Counted.{Counted}
use Rattle.ba_model.specs.declared.limits.Counted.TheVariants.{Tables, Columns}
use Rattle.ba_model.specs.declared.check_schema.SchemaFault.TheVariants.{DuplicateTable, DuplicateColumn, UnknownTable, UnknownColumn, TooMany}
use Rattle.ba_model.specs.declared.schema.Column.{Column}
use Rattle.ba_model.specs.declared.schema.Link.{Link}
use Rattle.ba_model.specs.declared.schema.Table.{Table}
use Rattle.ba_sql_ddl.specs.Laws.{AreNumbersOf, IsColumn, IsLink, IsTableOf}
use Rattle.ba_sql_ddl.specs.Meaning.{LinkText, column_of, columns_in, draft_of, is_not_null, key_of, keys_in, link_of, links_in, names_in, primary_names, scope_of, table_of}
use Rattle.ba_sql_ddl.specs.Numbers.{number, number_in, number_there, once, same_name}
use Rattle.ba_sql_ddl.specs.declared.draft.Scope.{Scope}
use Rattle.ba_sql_ddl.specs.declared.written.ColumnText.{ColumnText}
use Rattle.ba_sql_ddl.specs.declared.written.TableItem.{TableItem}
use Rattle.ba_sql_ddl.specs.declared.written.TableItem.TheVariants.{Column as ColumnItem, Constraint as ConstraintItem}
use Rattle.ba_sql_ddl.specs.declared.written.TableText.{TableText}
use Rattle.ba_sql_ddl.proofs.NullLemmas.{nullable_is, nullable_said}
use Rattle.ba_sql_ddl.proofs.NumberLemmas.{AllBelow, IsShort, columns_complete, columns_sound, key_complete, key_sound, number_complete, number_sound, once_distinct}

-- ---- names of tables and columns

abbrev text_names : List TableText → List (List ℕ)
text_names texts = map (λ t. t.name) texts

names_columns : (p : List (List ℕ)) (items : List TableItem) → column_names (map (column_of p) (columns_in items)) ≡ names_in items
names_columns p [] = refl
names_columns p (ColumnItem c ∷ items) = ap (λ (ns : List (List ℕ)). c.name ∷ ns) (names_columns p items)
names_columns p (ConstraintItem c ∷ items) = names_columns p items

names_tables : (scope : Scope) (texts : List TableText) → table_names (map (table_of scope) texts) ≡ text_names texts
names_tables scope [] = refl
names_tables scope (t ∷ ts) = ap (λ (ns : List (List ℕ)). t.name ∷ ns) (names_tables scope ts)

columns_count : (p : List (List ℕ)) (items : List TableItem) → length (map (column_of p) (columns_in items)) ≡ length (names_in items)
columns_count p items = sym (length-map (map (column_of p) (columns_in items)) (λ c. c.name)) ∙ ap length (names_columns p items)

-- ---- what well-formed tables have

pub record Facts (tables : List Table) (t : Table) : Type 0 where
  pub distinct : IsDistinct same_name (column_names t.columns)
  pub few : length t.columns ≤ 32
  pub targets : targets_there tables t ≡ true
  pub columns : columns_there tables t ≡ true

few_columns : (t : Table) → table_excess t ≡ None → length t.columns ≤ 32
few_columns t e = at (nat_lt 32 (length t.columns)) refl
  where
    at : (b : Bool) → nat_lt 32 (length t.columns) ≡ b → length t.columns ≤ 32
    at false h = ltb-false 32 (length t.columns) h
    at true h = let wrong : ◌≡◌ {A = Option Counted} (Some Columns) None = rw h at e in cc

none_left : (a b : Option Counted) → or_else a b ≡ None → (a ≡ None) × (b ≡ None)
none_left None b e = (refl, e)
none_left (Some what) b e = cc

facts_each : (tables ts : List Table) → AllByRecursion ColumnsDistinct ts → list_all (targets_there tables) ts ≡ true → list_all (columns_there tables) ts ≡ true → tables_excess ts ≡ None → AllByRecursion (Facts tables) ts
facts_each tables [] d t c e = tt
facts_each tables (x ∷ xs) d t c e =
    let ts = and_parts (targets_there tables x) (list_all (targets_there tables) xs) t in
    let cs = and_parts (columns_there tables x) (list_all (columns_there tables) xs) c in
    let es = none_left (table_excess x) (tables_excess xs) e in
    (record { distinct = d.0.names; few = few_columns x es.0; targets = ts.0; columns = cs.0 }, facts_each tables xs d.1 ts.1 cs.1 es.1)

few_tables : (tables : List Table) → excess tables ≡ None → (length tables ≤ 64) × (tables_excess tables ≡ None)
few_tables tables e = at (nat_lt 64 (length tables)) refl
  where
    at : (b : Bool) → nat_lt 64 (length tables) ≡ b → (length tables ≤ 64) × (tables_excess tables ≡ None)
    at false h = (ltb-false 64 (length tables) h, rw h at e)
    at true h = let wrong : ◌≡◌ {A = Option Counted} (Some Tables) None = rw h at e in cc

pub record Formed (tables : List Table) : Type 0 where
  pub distinct : IsDistinct same_name (table_names tables)
  pub few : length tables ≤ 64
  pub each : AllByRecursion (Facts tables) tables

pub formed : (tables : List Table) → AreTables tables → Formed tables
formed tables h =
    let e = few_tables tables (h.lacks (TooMany Tables 0)) in
    record { distinct = h.lacks DuplicateTable; few = e.0; each = facts_each tables tables (recursion_from_All ColumnsDistinct tables (h.lacks DuplicateColumn)) (h.lacks UnknownTable) (h.lacks UnknownColumn) e.1 }

-- a written table whose names are distinct and few
pub record Good (t : TableText) : Type 0 where
  pub distinct : IsDistinct same_name (names_in t.items)
  pub short : IsShort (names_in t.items)

good_of : (scope : Scope) (tables : List Table) (t : TableText) → Facts tables (table_of scope t) → Good t
good_of scope tables t f =
    let few = f.few in
    record { distinct = subst (IsDistinct same_name) (names_columns (once (primary_names t.items)) t.items) f.distinct; short = omega (arith, few, columns_count (once (primary_names t.items)) t.items) }

goods : (scope : Scope) (tables : List Table) (ts : List TableText) → AllByRecursion (Facts tables) (map (table_of scope) ts) → AllByRecursion Good ts
goods scope tables [] h = tt
goods scope tables (t ∷ ts) h = (good_of scope tables t h.0, goods scope tables ts h.1)

all_at : {A : Type 0} (P : A → Type 0) (xs : List A) (n : ℕ) (x : A) → AllByRecursion P xs → slice_get xs n ≡ Some x → P x
all_at {A} P [] n x h e =
    let none : slice_get {X = A} [] n ≡ None = slice_get_past {X = A} [] n (omega arith) in
    let wrong : ◌≡◌ {A = Option A} None (Some x) = sym none ∙ e in
    cc
all_at P (y ∷ ys) zero x h e = let same : y ≡ x = cc in subst P same h.0
all_at P (y ∷ ys) (suc n) x h e = all_at P ys n x h.1 e

-- ---- numbers that are there

within : {A : Type 0} (xs : List A) (n : ℕ) → is_some (slice_get xs n) ≡ true → n < length xs
within {A} [] n e =
    let none : slice_get {X = A} [] n ≡ None = slice_get_past {X = A} [] n (omega arith) in
    absurd (false≢true (sym (ap is_some none) ∙ e))
within (x ∷ xs) zero e = omega arith
within (x ∷ xs) (suc n) e = let more = within xs n e in omega (arith, more)

all_below : (columns : List Column) (most : ℕ) (ns : List ℕ) → length columns ≡ most → has_columns columns ns ≡ true → AllBelow most ns
all_below columns most [] e h = tt
all_below columns most (n ∷ ns) e h =
    let p = and_parts (is_some (slice_get columns n)) (has_columns columns ns) h in
    let lt = within columns n p.0 in
    (omega (arith, lt, e), all_below columns most ns e p.1)

keys_sound : (columns : List Column) (names : List (List ℕ)) (ks : List (List (List ℕ))) → length columns ≡ length names → IsShort names → list_all (has_columns columns) (map (key_of names) ks) ≡ true → AllZip (AreNumbersOf names) ks (map (key_of names) ks)
keys_sound columns names [] e short h = tt
keys_sound columns names (k ∷ ks) e short h =
    let p = and_parts (has_columns columns (key_of names k)) (list_all (has_columns columns) (map (key_of names) ks)) h in
    (key_sound names k short (all_below columns (length names) (key_of names k) e p.0), keys_sound columns names ks e short p.1)

keys_complete : (names : List (List ℕ)) (ks : List (List (List ℕ))) (keys : List (List ℕ)) → IsShort names → IsDistinct same_name names → AllZip (AreNumbersOf names) ks keys → keys ≡ map (key_of names) ks
keys_complete names [] [] short d h = refl
keys_complete names [] (k ∷ ks) short d h = absurd h
keys_complete names (k ∷ ks) [] short d h = absurd h
keys_complete names (k ∷ ks) (n ∷ ns) short d h =
    ap (λ (x : List ℕ). x ∷ ns) (key_complete names k n short d h.0) ∙ ap (λ (xs : List (List ℕ)). key_of names k ∷ xs) (keys_complete names ks ns short d h.1)

-- ---- links

-- the names of all tables are distinct and few, and so are those of the columns of each
pub record GoodTexts (texts : List TableText) : Type 0 where
  pub distinct : IsDistinct same_name (text_names texts)
  pub short : IsShort (text_names texts)
  pub each : AllByRecursion Good texts

scope_tables : (texts : List TableText) → GoodTexts texts → (scope_of texts).tables ≡ text_names texts
scope_tables texts g = once_distinct (text_names texts) g.distinct

text_at : (texts : List TableText) (n : ℕ) (name : List ℕ) → slice_get (text_names texts) n ≡ Some name → (t : TableText) × (slice_get texts n ≡ Some t) × (t.name ≡ name)
text_at texts n name e = at (slice_get texts n) refl (sym (slice_get-map (λ (t : TableText). t.name) texts n) ∙ e)
  where
    at : (o : Option TableText) → slice_get texts n ≡ o → option_map (λ (t : TableText). t.name) o ≡ Some name → (t : TableText) × (slice_get texts n ≡ Some t) × (t.name ≡ name)
    at None h e = cc
    at (Some t) h e = let same : t.name ≡ name = cc in (t, h, same)

scope_columns : (texts : List TableText) (n : ℕ) (t : TableText) → slice_get texts n ≡ Some t → Good t → slice_get (scope_of texts).columns n ≡ Some (names_in t.items)
scope_columns texts n t e g =
    slice_get-map (λ (u : TableText). once (names_in u.items)) texts n ∙ ap (option_map (λ (u : TableText). once (names_in u.items))) e ∙ ap (λ (ns : List (List ℕ)). Some ns) (once_distinct (names_in t.items) g.distinct)

target_number : (texts : List TableText) (n : ℕ) (t : TableText) (name : List ℕ) → slice_get texts n ≡ Some t → Good t → number_in (scope_of texts).columns n name ≡ number (names_in t.items) name
target_number texts n t name e g = ap (λ (o : Option (List (List ℕ))). number_there o name) (scope_columns texts n t e g)

target_numbers : (texts : List TableText) (n : ℕ) (t : TableText) (names : List (List ℕ)) → slice_get texts n ≡ Some t → Good t → map (number_in (scope_of texts).columns n) names ≡ map (number (names_in t.items)) names
target_numbers texts n t [] e g = refl
target_numbers texts n t (m ∷ ms) e g =
    ap (λ (x : ℕ). x ∷ map (number_in (scope_of texts).columns n) ms) (target_number texts n t m e g) ∙ ap (λ (xs : List ℕ). number (names_in t.items) m ∷ xs) (target_numbers texts n t ms e g)

table_count : (texts : List TableText) → length (map (table_of (scope_of texts)) texts) ≡ length (text_names texts)
table_count texts = length-map texts (table_of (scope_of texts)) ∙ sym (length-map texts (λ (t : TableText). t.name))

link_sound : (texts : List TableText) (t : TableText) (names : List (List ℕ)) (columns : List Column) (l : LinkText) → names ≡ names_in t.items → length columns ≡ length names → IsShort names → GoodTexts texts
    → is_some (slice_get (map (table_of (scope_of texts)) texts) (link_of (scope_of texts) names l).target) ≡ true
    → has_columns columns (link_of (scope_of texts) names l).columns ≡ true
    → has_columns (columns_of (map (table_of (scope_of texts)) texts) (link_of (scope_of texts) names l).target) (link_of (scope_of texts) names l).target_columns ≡ true
    → IsLink texts t l (link_of (scope_of texts) names l)
link_sound texts t names columns l own count short g there cols targets =
    let scope = scope_of texts in
    let n : ℕ = number scope.tables l.table in
    let lt : n < length (map (table_of scope) texts) = within (map (table_of scope) texts) n there in
    let same : number scope.tables l.table ≡ number (text_names texts) l.table = ap (λ (ns : List (List ℕ)). number ns l.table) (scope_tables texts g) in
    let below : number (text_names texts) l.table < length (text_names texts) = omega (arith, lt, same, table_count texts) in
    let named : slice_get (text_names texts) (number (text_names texts) l.table) ≡ Some l.table = number_sound (text_names texts) l.table (length (text_names texts)) g.short (omega arith) below in
    let found = text_at texts n l.table (ap (slice_get (text_names texts)) same ∙ named) in
    let good = all_at Good texts n found.0 g.each found.1 in
    let names_there : List (List ℕ) = names_in found.0.items in
    let table_there : slice_get (map (table_of scope) texts) n ≡ Some (table_of scope found.0) = slice_get-map (table_of scope) texts n ∙ ap (option_map (table_of scope)) found.1 in
    let columns_there : columns_of (map (table_of scope) texts) n ≡ (table_of scope found.0).columns = ap columns_or table_there in
    let numbers : map (number_in scope.columns n) l.targets ≡ map (number names_there) l.targets = target_numbers texts n found.0 l.targets found.1 good in
    let has : has_columns (table_of scope found.0).columns (map (number names_there) l.targets) ≡ true =
    ap (λ (cs : List Column). has_columns cs (map (number names_there) l.targets)) (sym columns_there) ∙ ap (has_columns (columns_of (map (table_of scope) texts) n)) (sym numbers) ∙ targets in
    let are : AreNumbersOf names_there l.targets (map (number names_there) l.targets) =
    columns_sound names_there l.targets good.short (all_below (table_of scope found.0).columns (length names_there) (map (number names_there) l.targets) (columns_count (once (primary_names found.0.items)) found.0.items) has) in
    record {
      columns = subst (λ (ns : List (List ℕ)). AreNumbersOf ns l.columns (map (number names) l.columns)) own (columns_sound names l.columns short (all_below columns (length names) (map (number names) l.columns) count cols));
      target = found.0;
      is_there = found.1;
      named = found.2;
      targets = subst (AreNumbersOf names_there l.targets) (sym numbers) are;
    }

links_sound : (texts : List TableText) (t : TableText) (names : List (List ℕ)) (table : Table) (ls : List LinkText) → names ≡ names_in t.items → length table.columns ≡ length names → IsShort names → GoodTexts texts
    → list_all (λ (link : Link). is_some (slice_get (map (table_of (scope_of texts)) texts) link.target)) (map (link_of (scope_of texts) names) ls) ≡ true
    → list_all (link_columns_there (map (table_of (scope_of texts)) texts) table) (map (link_of (scope_of texts) names) ls) ≡ true
    → AllZip (IsLink texts t) ls (map (link_of (scope_of texts) names) ls)
links_sound texts t names table [] own count short g a b = tt
links_sound texts t names table (l ∷ ls) own count short g a b =
    let link : Link = link_of (scope_of texts) names l in
    let tables : List Table = map (table_of (scope_of texts)) texts in
    let p = and_parts (is_some (slice_get tables link.target)) (list_all (λ (link : Link). is_some (slice_get tables link.target)) (map (link_of (scope_of texts) names) ls)) a in
    let q = and_parts (link_columns_there tables table link) (list_all (link_columns_there tables table) (map (link_of (scope_of texts) names) ls)) b in
    let r = and_parts (has_columns table.columns link.columns) (has_columns (columns_of tables link.target) link.target_columns) q.0 in
    (link_sound texts t names table.columns l own count short g p.0 r.0 r.1, links_sound texts t names table ls own count short g p.1 q.1)

link_complete : (texts : List TableText) (t : TableText) (l : LinkText) (link : Link) → Good t → GoodTexts texts → IsLink texts t l link → link ≡ link_of (scope_of texts) (names_in t.items) l
link_complete texts t l link own g h =
    let scope = scope_of texts in
    let good = all_at Good texts link.target h.target g.each h.is_there in
    let named : slice_get (text_names texts) link.target ≡ Some l.table = slice_get-map (λ (u : TableText). u.name) texts link.target ∙ ap (option_map (λ (u : TableText). u.name)) h.is_there ∙ ap (λ (n : List ℕ). Some n) h.named in
    let same : number scope.tables l.table ≡ link.target =
    ap (λ (ns : List (List ℕ)). number ns l.table) (scope_tables texts g) ∙ number_complete (text_names texts) l.table (length (text_names texts)) link.target g.short g.distinct named in
    let columns : link.columns ≡ map (number (names_in t.items)) l.columns = columns_complete (names_in t.items) l.columns link.columns own.short own.distinct h.columns in
    let numbers : link.target_columns ≡ map (number (names_in h.target.items)) l.targets = columns_complete (names_in h.target.items) l.targets link.target_columns good.short good.distinct h.targets in
    let targets : link.target_columns ≡ map (number_in scope.columns (number scope.tables l.table)) l.targets =
    numbers ∙ sym (target_numbers texts link.target h.target l.targets h.is_there good) ∙ ap (λ (n : ℕ). map (number_in scope.columns n) l.targets) (sym same) in
    λ i. record { columns = columns i; target = sym same i; target_columns = targets i }

links_complete : (texts : List TableText) (t : TableText) (ls : List LinkText) (links : List Link) → Good t → GoodTexts texts → AllZip (IsLink texts t) ls links → links ≡ map (link_of (scope_of texts) (names_in t.items)) ls
links_complete texts t [] [] own g h = refl
links_complete texts t [] (k ∷ ks) own g h = absurd h
links_complete texts t (l ∷ ls) [] own g h = absurd h
links_complete texts t (l ∷ ls) (k ∷ ks) own g h =
    ap (λ (x : Link). x ∷ ks) (link_complete texts t l k own g h.0) ∙ ap (λ (xs : List Link). link_of (scope_of texts) (names_in t.items) l ∷ xs) (links_complete texts t ls ks own g h.1)

-- ---- columns

columns_mean : (t : TableText) (cs : List ColumnText) → AllZip (IsColumn t) cs (map (column_of (once (primary_names t.items))) cs)
columns_mean t [] = tt
columns_mean t (c ∷ cs) = (record { name = refl; kind = refl; nullable = nullable_said t c }, columns_mean t cs)

columns_meant : (t : TableText) (cs : List ColumnText) (columns : List Column) → AllZip (IsColumn t) cs columns → columns ≡ map (column_of (once (primary_names t.items))) cs
columns_meant t [] [] z = refl
columns_meant t [] (x ∷ xs) z = absurd z
columns_meant t (c ∷ cs) [] z = absurd z
columns_meant t (c ∷ cs) (x ∷ xs) z =
    let p : List (List ℕ) = once (primary_names t.items) in
    let null : x.nullable ≡ not (is_not_null p c) = nullable_is t c x.nullable z.0.nullable in
    let name = z.0.name in
    let kind = z.0.kind in
    let one : x ≡ column_of p c = λ i. record { name = name i; kind = kind i; nullable = null i } in
    ap (λ (y : Column). y ∷ xs) one ∙ ap (λ (ys : List Column). column_of p c ∷ ys) (columns_meant t cs xs z.1)

-- ---- tables

table_sound : (texts : List TableText) (t : TableText) → GoodTexts texts → Good t → Facts (map (table_of (scope_of texts)) texts) (table_of (scope_of texts) t) → IsTableOf texts t (table_of (scope_of texts) t)
table_sound texts t g good f =
    let scope = scope_of texts in
    let names : List (List ℕ) = once (names_in t.items) in
    let own : names ≡ names_in t.items = once_distinct (names_in t.items) good.distinct in
    let table : Table = table_of scope t in
    let count : length table.columns ≡ length names = columns_count (once (primary_names t.items)) t.items ∙ ap length (sym own) in
    let short : IsShort names = subst IsShort (sym own) good.short in
    let there = and_parts (list_all (has_columns table.columns) table.keys) (list_all (link_columns_there (map (table_of scope) texts) table) table.links) f.columns in
    record {
      name = refl;
      columns = columns_mean t (columns_in t.items);
      keys = subst (λ (ns : List (List ℕ)). AllZip (AreNumbersOf ns) (flat_map keys_in t.items) table.keys) own (keys_sound table.columns names (flat_map keys_in t.items) count short there.0);
      links = links_sound texts t names table (flat_map links_in t.items) own count short g f.targets there.1;
    }

tables_each : (texts ts : List TableText) → GoodTexts texts → AllByRecursion Good ts → AllByRecursion (Facts (map (table_of (scope_of texts)) texts)) (map (table_of (scope_of texts)) ts)
    → AllZip (IsTableOf texts) ts (map (table_of (scope_of texts)) ts)
tables_each texts [] g goods facts = tt
tables_each texts (t ∷ ts) g goods facts = (table_sound texts t g goods.0 facts.0, tables_each texts ts g goods.1 facts.1)

pub tables_sound : (texts : List TableText) → AreTables (draft_of texts) → AllZip (IsTableOf texts) texts (draft_of texts)
unfolding draft_of
tables_sound texts are =
    let tables : List Table = map (table_of (scope_of texts)) texts in
    let f = formed tables are in
    let few = f.few in
    let each : AllByRecursion Good texts = goods (scope_of texts) tables texts f.each in
    let g : GoodTexts texts = record { distinct = subst (IsDistinct same_name) (names_tables (scope_of texts) texts) f.distinct; short = omega (arith, few, table_count texts); each = each } in
    tables_each texts texts g each f.each

table_complete : (texts : List TableText) (t : TableText) (table : Table) → GoodTexts texts → Good t → IsTableOf texts t table → table ≡ table_of (scope_of texts) t
table_complete texts t table g good h =
    let scope = scope_of texts in
    let own : names_in t.items ≡ once (names_in t.items) = sym (once_distinct (names_in t.items) good.distinct) in
    let name = h.name in
    let columns : table.columns ≡ map (column_of (once (primary_names t.items))) (columns_in t.items) = columns_meant t (columns_in t.items) table.columns h.columns in
    let keys : table.keys ≡ map (key_of (once (names_in t.items))) (flat_map keys_in t.items) =
    keys_complete (names_in t.items) (flat_map keys_in t.items) table.keys good.short good.distinct h.keys ∙ ap (λ (ns : List (List ℕ)). map (key_of ns) (flat_map keys_in t.items)) own in
    let links : table.links ≡ map (link_of scope (once (names_in t.items))) (flat_map links_in t.items) =
    links_complete texts t (flat_map links_in t.items) table.links good g h.links ∙ ap (λ (ns : List (List ℕ)). map (link_of scope ns) (flat_map links_in t.items)) own in
    λ i. record { name = name i; columns = columns i; keys = keys i; links = links i }

column_texts : (items : List TableItem) → map (λ (c : ColumnText). c.name) (columns_in items) ≡ names_in items
column_texts [] = refl
column_texts (ColumnItem c ∷ items) = ap (λ (ns : List (List ℕ)). c.name ∷ ns) (column_texts items)
column_texts (ConstraintItem c ∷ items) = column_texts items

zip_names : (t : TableText) (cs : List ColumnText) (columns : List Column) → AllZip (IsColumn t) cs columns → column_names columns ≡ map (λ (c : ColumnText). c.name) cs
zip_names t [] [] h = refl
zip_names t [] (x ∷ xs) h = absurd h
zip_names t (c ∷ cs) [] h = absurd h
zip_names t (c ∷ cs) (x ∷ xs) h = ap (λ (n : List ℕ). n ∷ column_names xs) h.0.name ∙ ap (λ (ns : List (List ℕ)). c.name ∷ ns) (zip_names t cs xs h.1)

good_written : (texts : List TableText) (t : TableText) (tables : List Table) (table : Table) → Facts tables table → IsTableOf texts t table → Good t
good_written texts t tables table f h =
    let names : column_names table.columns ≡ names_in t.items = zip_names t (columns_in t.items) table.columns h.columns ∙ column_texts t.items in
    let few = f.few in
    let count : length table.columns ≡ length (names_in t.items) = sym (length-map table.columns (λ c. c.name)) ∙ ap length names in
    record { distinct = subst (IsDistinct same_name) names f.distinct; short = omega (arith, few, count) }

goods_written : (texts ts : List TableText) (tables us : List Table) → AllByRecursion (Facts tables) us → AllZip (IsTableOf texts) ts us → AllByRecursion Good ts
goods_written texts [] tables us f h = tt
goods_written texts (t ∷ ts) tables [] f h = absurd h
goods_written texts (t ∷ ts) tables (u ∷ us) f h = (good_written texts t tables u f.0 h.0, goods_written texts ts tables us f.1 h.1)

names_written : (texts ts : List TableText) (us : List Table) → AllZip (IsTableOf texts) ts us → table_names us ≡ text_names ts
names_written texts [] [] h = refl
names_written texts [] (u ∷ us) h = absurd h
names_written texts (t ∷ ts) [] h = absurd h
names_written texts (t ∷ ts) (u ∷ us) h = ap (λ (n : List ℕ). n ∷ table_names us) h.0.name ∙ ap (λ (ns : List (List ℕ)). t.name ∷ ns) (names_written texts ts us h.1)

each_complete : (texts ts : List TableText) (us : List Table) → GoodTexts texts → AllByRecursion Good ts → AllZip (IsTableOf texts) ts us → us ≡ map (table_of (scope_of texts)) ts
each_complete texts [] [] g goods h = refl
each_complete texts [] (u ∷ us) g goods h = absurd h
each_complete texts (t ∷ ts) [] g goods h = absurd h
each_complete texts (t ∷ ts) (u ∷ us) g goods h =
    ap (λ (x : Table). x ∷ us) (table_complete texts t u g goods.0 h.0) ∙ ap (λ (xs : List Table). table_of (scope_of texts) t ∷ xs) (each_complete texts ts us g goods.1 h.1)

pub tables_complete : (texts : List TableText) (tables : List Table) → AreTables tables → AllZip (IsTableOf texts) texts tables → tables ≡ draft_of texts
unfolding draft_of
tables_complete texts tables are h =
    let f = formed tables are in
    let few = f.few in
    let each : AllByRecursion Good texts = goods_written texts texts tables tables f.each h in
    let names : table_names tables ≡ text_names texts = names_written texts texts tables h in
    let count : length tables ≡ length (text_names texts) = sym (length-map tables (λ (t : Table). t.name)) ∙ ap length names in
    let g : GoodTexts texts = record { distinct = subst (IsDistinct same_name) names f.distinct; short = omega (arith, few, count); each = each } in
    each_complete texts texts tables g each h
