-- The kinds of all atoms, test by test.
use Rattle.std.proofs.Common.{◌≡◌, ℕ, Bool, true, false, not, List, [], refl, sym, ◌∙◌}
use Rattle.std.specs.List.{flat_map, list_all}
use Rattle.ba_model.specs.Fit.{kinds_of}
use Rattle.ba_model.specs.QueryFaults as faults
use Rattle.ba_model.specs.declared.policy.Parameter.{Parameter}
use Rattle.ba_model.specs.declared.query.Operand.{Operand}
use Rattle.ba_model.specs.declared.schema.Schema.{Schema}
use Rattle.ba_sql_query.specs.Meaning.{atom_kinds}
use Rattle.ba_sql_query.specs.Parts.{equation, node_atoms, test_atoms, written_part}
use Rattle.ba_sql_query.specs.declared.resolved.ResolvedSelect.{ResolvedSelect}
use Rattle.ba_sql_query.specs.declared.resolved.ResolvedTest.{ResolvedTest}
use Rattle.ba_sql_query.specs.declared.resolved.ResolvedTest.TheVariants.{Among}
use Rattle.ba_sql_query.proofs.TransferLemmas.{all_flat, all_map, all_true}

module _ (schema : Schema) (params : List Parameter) where
  pub among_kinds : (from : List ℕ) (test : ResolvedTest) (side : Operand) (among : List Operand) (b : Bool) → test ≡ Among side among
      → b ≡ list_all (λ c. atom_kinds schema params from (equation side c)) among → b ≡ list_all (atom_kinds schema params from) (test_atoms test)
  among_kinds from test side among b e h = rw e (h ∙ sym (all_map (atom_kinds schema params from) (equation side) among))

  pub among_order : (from : List ℕ) (test : ResolvedTest) (side : Operand) (among : List Operand) → test ≡ Among side among
      → true ≡ list_all (faults.atom_order schema (kinds_of params) [] from) (test_atoms test)
  among_order from test side among e =
      rw e (sym (all_map (faults.atom_order schema (kinds_of params) [] from) (equation side) among
      ∙ all_true (λ c. faults.atom_order schema (kinds_of params) [] from (equation side c)) among (λ c. refl)))

  pub order_of_select : (select : ResolvedSelect) (b : Bool) → b ≡ list_all (λ node. list_all (faults.atom_order schema (kinds_of params) [] select.from) (node_atoms node)) select.condition
      → b ≡ faults.orders_numbers schema (kinds_of params) [] (written_part select)
  order_of_select select b h = h ∙ sym (all_flat (faults.atom_order schema (kinds_of params) [] select.from) node_atoms select.condition)

  abbrev conds_agree : ResolvedSelect → Bool
  conds_agree select = list_all (λ node. list_all (atom_kinds schema params select.from) (node_atoms node)) select.condition

  pub kinds_true : (select : ResolvedSelect) (a b : Bool) → a ≡ conds_agree select → a ≡ true → b ≡ list_all (λ x. not (faults.is_null x)) select.head
      → b ≡ faults.kinds_agree schema (kinds_of params) [] (written_part select)
  kinds_true select a b h t g =
      let e : list_all (atom_kinds schema params select.from) (flat_map node_atoms select.condition) ≡ true =
      all_flat (atom_kinds schema params select.from) node_atoms select.condition ∙ sym h ∙ t in
      rw e g

  pub kinds_false : (select : ResolvedSelect) (a : Bool) → a ≡ conds_agree select → a ≡ false → a ≡ faults.kinds_agree schema (kinds_of params) [] (written_part select)
  kinds_false select a h t =
      let e : list_all (atom_kinds schema params select.from) (flat_map node_atoms select.condition) ≡ false =
      all_flat (atom_kinds schema params select.from) node_atoms select.condition ∙ sym h ∙ t in
      rw e t
