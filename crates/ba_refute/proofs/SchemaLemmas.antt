-- Columns of keys and links of checked tables.
use Rattle.std.proofs.Common.{◌≡◌, Bool, true, false, ◌&&◌, ℕ, List, Contains, Option, Some, None, refl}
use Rattle.std.proofs.lemmas.List.Elements.{All-contains}
use Rattle.std.proofs.lemmas.List.Sums.{AllPass-from_list_all}
use Rattle.std.specs.List.{list_all, All}
use Rattle.std.specs.Prelude.{is_some, slice_get}
use Rattle.ba_kernel.proofs.AskedLemmas.{checked_links_fit}
use Rattle.ba_kernel.proofs.StepFits.{Contains-at}
use Rattle.ba_kernel.specs.Courses.{LinkFits}
use Rattle.ba_model.specs.SchemaFaults.{AreTables, columns_of, columns_there, has_columns, kinds_agree, kinds_match, link_columns_there, link_kinds}
use Rattle.ba_model.specs.declared.check_schema.SchemaFault.TheVariants.{KindDiffers, UnknownColumn}
use Rattle.ba_model.specs.declared.schema.Column.{Column}
use Rattle.ba_model.specs.declared.schema.Link.{Link}
use Rattle.ba_model.specs.declared.schema.Schema.{Schema}
use Rattle.ba_model.specs.declared.schema.Table.{Table}

and_both : (b d : Bool) → (b && d) ≡ true → (b ≡ true) × (d ≡ true)
and_both true d e = (refl, e)
and_both false d e = cc

some_there : {X : Type 0} (o : Option X) → is_some o ≡ true → (x : X) × (o ≡ Some x)
some_there None e = cc
some_there (Some x) e = (x, refl)

-- the columns of these numbers are there
abbrev pub AreColumns : List Column → List ℕ → Type 0
AreColumns columns numbers = (n : ℕ) → Contains numbers n → (column : Column) × (slice_get columns n ≡ Some column)

columns_are : (columns : List Column) (numbers : List ℕ) → has_columns columns numbers ≡ true → AreColumns columns numbers
columns_are columns numbers e n h =
    some_there (slice_get columns n) (All-contains (λ n. is_some (slice_get columns n) ≡ true) numbers n (AllPass-from_list_all (λ n. is_some (slice_get columns n)) numbers e) h)

module _ (s : Schema) (are : AreTables s.tables) (t : Table) (n : ℕ) (at : slice_get s.tables n ≡ Some t) where
  table_columns : (list_all (has_columns t.columns) t.keys ≡ true) × (list_all (link_columns_there s.tables t) t.links ≡ true)
  table_columns =
      and_both (list_all (has_columns t.columns) t.keys) (list_all (link_columns_there s.tables t) t.links)
      (All-contains (λ t. columns_there s.tables t ≡ true) s.tables t (AllPass-from_list_all (columns_there s.tables) s.tables (are.lacks UnknownColumn)) (Contains-at s.tables n t at))

  pub key_columns : (key : List ℕ) → Contains t.keys key → AreColumns t.columns key
  key_columns key h =
      columns_are t.columns key (All-contains (λ k. has_columns t.columns k ≡ true) t.keys key (AllPass-from_list_all (has_columns t.columns) t.keys table_columns.0) h)

  pub link_columns : (link : Link) → Contains t.links link → AreColumns t.columns link.columns
  link_columns link h =
      let both = All-contains (λ l. link_columns_there s.tables t l ≡ true) t.links link (AllPass-from_list_all (link_columns_there s.tables t) t.links table_columns.1) h in
      columns_are t.columns link.columns (and_both (has_columns t.columns link.columns) (has_columns (columns_of s.tables link.target) link.target_columns) both).0

  pub link_fits : (link : Link) → Contains t.links link → LinkFits s link
  link_fits link h =
      All-contains (LinkFits s) t.links link
      (All-contains (λ (t : Table). All (LinkFits s) t.links) s.tables t (checked_links_fit s are) (Contains-at s.tables n t at)) h

  -- each column of a link has the kind of its target column
  pub link_kinds_are : (link : Link) → Contains t.links link → kinds_match t.columns (columns_of s.tables link.target) link.columns link.target_columns ≡ true
  link_kinds_are link h =
      let all = All-contains (λ t. kinds_agree s.tables t ≡ true) s.tables t (AllPass-from_list_all (kinds_agree s.tables) s.tables (are.lacks KindDiffers)) (Contains-at s.tables n t at) in
      All-contains (λ l. link_kinds s.tables t l ≡ true) t.links link (AllPass-from_list_all (link_kinds s.tables t) t.links all) h
