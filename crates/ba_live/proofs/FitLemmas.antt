-- The entries of told rows fit the policy.
use Rattle.std.proofs.Common.{◌≡◌, ◌≢◌, ◌∙◌, ℕ, inl, inr, List, [], ◌∷◌, map, refl, sym, subst}
use Rattle.std.proofs.lemmas.List.Elements.{All-contains}
use Rattle.std.specs.List.{All, AllZip, Contains}
use Rattle.std.specs.Prelude.{Option, Some, None, slice_get, option_and_then}
use Rattle.ba_comply.proofs.ComplyLemmas.{All-from_contains}
use Rattle.ba_kernel.specs.Asked.{MayBeOfKind, RecordFits}
use Rattle.ba_model.proofs.ElementLemmas.{Contains-head}
use Rattle.ba_model.proofs.FitLemmas.{AllZip-at}
use Rattle.ba_model.specs.Conform.{IsOfColumn, IsOfKind}
use Rattle.ba_model.specs.Fit.{ContextFits, IsQuery, PartFits, kind_of, kind_of_value, kinds_of}
use Rattle.ba_model.specs.declared.policy.Context.{Context}
use Rattle.ba_model.specs.declared.policy.Policy.{Policy}
use Rattle.ba_model.specs.declared.query.Operand.{Operand}
use Rattle.ba_model.specs.declared.query.Operand.TheVariants.{Col, Val, Param, Var}
use Rattle.ba_model.specs.declared.query.Part.{Part}
use Rattle.ba_model.specs.declared.query.Query.{Query}
use Rattle.ba_model.specs.declared.schema.Column.{Column}
use Rattle.ba_model.specs.declared.schema.Kind.{Kind}
use Rattle.ba_model.specs.declared.schema.Kind.TheVariants.{Int as IntKind, Text as TextKind}
use Rattle.ba_model.specs.declared.schema.Schema.{Schema}
use Rattle.ba_model.specs.declared.schema.Table.{Table}
use Rattle.ba_model.specs.declared.value.Value.{Value}
use Rattle.ba_model.specs.declared.value.Value.TheVariants.{Null, Int, Text}
use Rattle.ba_parts.proofs.RowLemmas.{chosen_within}
use Rattle.ba_parts.proofs.UnionLemmas.{alone_query}
use Rattle.ba_parts.specs.Parts.{CanBeOf, Chosen, IsHeadOf, MayStand, column_at, recorded_under}
use Rattle.ba_parts.specs.Parts.Chosen.{nothing, taken, left_out}
use Rattle.ba_parts.specs.Recording.{IsEntryOf, IsUnder}
use Rattle.ba_live.specs.Laws.{EntriesFit}

-- ---- values

some_is : {X : Type 0} (a b : X) → Some a ≡ Some b → a ≡ b
some_is a b e = cc

column_value : (column : Column) (v : Value) → IsOfColumn column v → MayBeOfKind column.kind v
column_value column Null h = inr refl
column_value column (Int n) h = inl h
column_value column (Text t) h = inl h

value_kind : (v : Value) (k : Kind) → kind_of_value v ≡ Some k → IsOfKind k v
value_kind Null k e = cc
value_kind (Int n) k e = let h : IntKind ≡ k = cc in subst (λ q. IsOfKind q (Int n)) h tt
value_kind (Text t) k e = let h : TextKind ≡ k = cc in subst (λ q. IsOfKind q (Text t)) h tt

and_then_is : {A B : Type 0} (f : A → Option B) (o : Option A) (b : B) → option_and_then f o ≡ Some b → (a : A) × (o ≡ Some a) × (f a ≡ Some b)
and_then_is f None b e = cc
and_then_is f (Some a) b e = (a, refl, e)

-- the column that is there has its kind
column_has_kind : (s : Schema) (params vars : List Kind) (from : List ℕ) (place column : ℕ) (it : Column) → column_at s from place column ≡ Some it → kind_of s params vars from (Col place column) ≡ Some it.kind
column_has_kind s params vars from place column it at =
    let t = and_then_is (λ t. option_and_then (λ table. slice_get table.columns column) (slice_get s.tables t)) (slice_get from place) it at in
    let table = and_then_is (λ (table : Table). slice_get table.columns column) (slice_get s.tables t.0) it t.2 in
    kind_at s params vars from place column t.0 table.0 it t.1 table.1 table.2
  where
    kind_at : (s : Schema) (params vars : List Kind) (from : List ℕ) (place column t : ℕ) (table : Table) (it : Column) → slice_get from place ≡ Some t → slice_get s.tables t ≡ Some table → slice_get table.columns column ≡ Some it
        → kind_of s params vars from (Col place column) ≡ Some it.kind
    kind_at s params vars from place column t table it at there is = rw (at, there, is) refl

module _ (s : Schema) (params : List Kind) (c : Context) (context : ContextFits params c) (part : Part) (row : List Value) where
  head_kind : (x : Operand) (v : Value) (k : Kind) → IsHeadOf s c part row x v → kind_of s params [] part.from x ≡ Some k → MayBeOfKind k v
  head_kind (Col place column) v k h e =
      let stands : MayStand s part.from (Col place column) v = h.stands in
      let same : (stands.0).kind ≡ k = some_is (stands.0).kind k (sym (column_has_kind s params [] part.from place column stands.0 stands.1) ∙ e) in
      subst (λ q. MayBeOfKind q v) same (column_value stands.0 v stands.2)
  head_kind (Val w) v k h e = inl (subst (λ q. IsOfKind k q) (some_is w v h.told) (value_kind w k e))
  head_kind (Param n) v k h e =
      let its = AllZip-at IsOfKind params c.values n k context e in
      inl (subst (λ q. IsOfKind k q) (some_is its.0 v (sym its.1 ∙ h.told)) its.2)
  head_kind (Var n) v k h e = let no : ⊥ = none_is v h.told in absurd no
    where
      none_is : (v : Value) → None ≡ Some v → ⊥
      none_is v e = cc

  row_kinds : (head : List Operand) (values : List Value) (kinds : List Kind) → AllZip (IsHeadOf s c part row) head values → map (kind_of s params [] part.from) head ≡ map Some kinds → AllZip MayBeOfKind kinds values
  row_kinds [] [] [] h e = tt
  row_kinds [] [] (k ∷ kinds) h e = cc
  row_kinds [] (v ∷ values) kinds h e = absurd h
  row_kinds (x ∷ head) [] kinds h e = absurd h
  row_kinds (x ∷ head) (v ∷ values) [] h e = cc
  row_kinds (x ∷ head) (v ∷ values) (k ∷ kinds) h e = (
    head_kind x v k h.0 (first (kind_of s params [] part.from x) (Some k) (map (kind_of s params [] part.from) head) (map Some kinds) e),
    row_kinds head values kinds h.1 (rest (kind_of s params [] part.from x) (Some k) (map (kind_of s params [] part.from) head) (map Some kinds) e),
  )
    where
      first : {X : Type 0} (a b : X) (xs ys : List X) → a ∷ xs ≡ b ∷ ys → a ≡ b
      first a b xs ys e = cc

      rest : {X : Type 0} (a b : X) (xs ys : List X) → a ∷ xs ≡ b ∷ ys → xs ≡ ys
      rest a b xs ys e = cc

-- ---- rows

chosen_is : {X : Type 0} (P : X → Type 0) {xs ys : List X} (x : X) → Chosen P xs ys → Contains ys x → P x
chosen_is P x nothing there = absurd (Rattle.ba_model.proofs.ElementLemmas.Contains-nil x there)
chosen_is P x (taken {x = y} {xs = xs} {ys = ys} p more) there =
    elim (Rattle.ba_model.proofs.ElementLemmas.Contains-cases y ys x there) [
      | inl same ↦ subst P same p
      | inr later ↦ chosen_is P x more later
    ]
chosen_is P x (left_out {x = y} {xs = xs} {ys = ys} p more) there = chosen_is P x more there

-- a part of the question that the row can be of
record HasPart (s : Schema) (c : Context) (q : Query) (row : List Value) : Type 0 where
  part : Part
  there : Contains q.parts part
  can : CanBeOf s c row part

has_part : (s : Schema) (c : Context) (q : Query) (row : List Value) (parts : List Part) → Chosen (CanBeOf s c row) q.parts parts → parts ≢ [] → HasPart s c q row
has_part s c q row [] chosen some = absurd (some refl)
has_part s c q row (part ∷ parts) chosen some =
    record {
      part = part;
      there = chosen_within (CanBeOf s c row) part chosen (Contains-head part parts);
      can = chosen_is (CanBeOf s c row) part chosen (Contains-head part parts);
    }

module _ (policy : Policy) (c : Context) (q : Query) (asked : IsQuery policy.schema (kinds_of policy.params) [] q) (context : ContextFits (kinds_of policy.params) c) where
  row_of_kinds : (row : List Value) (under : Query) → IsUnder policy.schema c q row under → AllZip MayBeOfKind asked.fits.kinds row
  row_of_kinds row under is =
      let has = has_part policy.schema c q row is.parts is.chosen is.some in
      let fits = All-contains (PartFits policy.schema (kinds_of policy.params) [] asked.fits.kinds) q.parts has.part asked.fits.parts has.there in
      row_kinds policy.schema (kinds_of policy.params) c context has.part row has.part.head row asked.fits.kinds has.can.head fits.head

  under_query : (row : List Value) (parts : List Part) → Chosen (CanBeOf policy.schema c row) q.parts parts → (it : IsQuery policy.schema (kinds_of policy.params) [] (recorded_under q parts)) × (it.fits.kinds ≡ asked.fits.kinds)
  under_query row [] chosen = (asked, refl)
  under_query row (part ∷ []) chosen =
      alone_query policy.schema (kinds_of policy.params) [] q asked part (chosen_within (CanBeOf policy.schema c row) part chosen (Contains-head part []))
  under_query row (part ∷ other ∷ more) chosen = (asked, refl)

  entry_query : (row : List Value) (under : Query) → IsUnder policy.schema c q row under → (it : IsQuery policy.schema (kinds_of policy.params) [] under) × (it.fits.kinds ≡ asked.fits.kinds)
  entry_query row under is =
      subst (λ (other : Query). (it : IsQuery policy.schema (kinds_of policy.params) [] other) × (it.fits.kinds ≡ asked.fits.kinds)) (sym is.under_is) (under_query row is.parts is.chosen)

  entry_fits : (rows : List (List Value)) (query : Query) (entry_rows : List (List Value)) → entry_rows ≢ [] → All (λ row. IsUnder policy.schema c q row query) entry_rows → RecordFits policy (record { query = query; rows = entry_rows })
  entry_fits rows query [] some under = absurd (some refl)
  entry_fits rows query (row ∷ more) some under =
      let first = All-contains (λ r. IsUnder policy.schema c q r query) (row ∷ more) row under (Contains-head row more) in
      let it = entry_query row query first in
      record {
        query = it.0;
        rows = All-from_contains (AllZip MayBeOfKind (it.0).fits.kinds) (row ∷ more)
            (λ r there.
            subst (λ (kinds : List Kind). AllZip MayBeOfKind kinds r) (sym it.1)
            (row_of_kinds r query (All-contains (λ one. IsUnder policy.schema c q one query) (row ∷ more) r under there)));
      }

pub entries_fit : EntriesFit
entries_fit policy c q rows entries asked context are =
    All-from_contains (RecordFits policy) entries
    (λ entry there.
    let is = All-contains (IsEntryOf policy.schema c q rows) entries entry are.only there in
    entry_fits policy c q asked context rows entry.query entry.rows is.some is.under)
