-- Parts of the draft.
use Rattle.std.proofs.Common.{◌≡◌, ℕ, List, map, ap, ◌∙◌}
use Rattle.std.specs.List.{flat_map}
use Rattle.ba_model.specs.declared.schema.Column.{Column}
use Rattle.ba_model.specs.declared.schema.Link.{Link}
use Rattle.ba_sql_ddl.specs.Meaning.{column_of, columns_in, key_of, keys_in, link_of, links_in, names_in, primary_names, table_of}
use Rattle.ba_sql_ddl.specs.Numbers.{once}
use Rattle.ba_sql_ddl.specs.declared.draft.Scope.{Scope}
use Rattle.ba_sql_ddl.specs.declared.written.TableItem.{TableItem}
use Rattle.ba_sql_ddl.specs.declared.written.TableText.{TableText}

pub table_is : (scope : Scope) (t : TableText) (items : List TableItem) (names : List (List ℕ)) (name : List ℕ) (columns : List Column) (keys : List (List ℕ)) (links : List Link) → items ≡ t.items → names ≡ once (names_in items) → name ≡ t.name
    → columns ≡ map (column_of (once (primary_names items))) (columns_in items) → keys ≡ map (key_of names) (flat_map keys_in items) → links ≡ map (link_of scope names) (flat_map links_in items)
    → record { name = name; columns = columns; keys = keys; links = links } ≡ table_of scope t
table_is scope t items names name columns keys links is e n c k l =
    let cs : columns ≡ map (column_of (once (primary_names t.items))) (columns_in t.items) = c ∙ ap (λ (its : List TableItem). map (column_of (once (primary_names its))) (columns_in its)) is in
    let ks : keys ≡ map (key_of (once (names_in t.items))) (flat_map keys_in t.items) = k ∙ ap (λ (ns : List (List ℕ)). map (key_of ns) (flat_map keys_in items)) e ∙ ap (λ (its : List TableItem). map (key_of (once (names_in its))) (flat_map keys_in its)) is in
    let ls : links ≡ map (link_of scope (once (names_in t.items))) (flat_map links_in t.items) = l ∙ ap (λ (ns : List (List ℕ)). map (link_of scope ns) (flat_map links_in items)) e ∙ ap (λ (its : List TableItem). map (link_of scope (once (names_in its))) (flat_map links_in its)) is in
    λ i. record { name = n i; columns = cs i; keys = ks i; links = ls i }
