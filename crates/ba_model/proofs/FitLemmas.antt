-- An operand that fits has a value in each conforming database: NULL, or one of its kind.
use Rattle.std.proofs.Common.{◌≡◌, ◌⊎◌, inl, inr, ℕ, zero, suc, List, [], ◌∷◌, refl, ap, subst}
use Rattle.std.proofs.lemmas.List.Elements.{All-contains}
use Rattle.std.specs.List.{AllZip, Contains}
use Rattle.std.specs.Option.{option_map}
use Rattle.std.specs.Prelude.{Option, Some, None, slice_get, option_and_then, unwrap_or}
use Rattle.ba_model.specs.Conform.{Conforms, IsOfColumn, IsOfKind, RowFits, TableConforms}
use Rattle.ba_model.specs.Fit.{ContextFits, column_kind, kind_of, kind_of_value}
use Rattle.ba_model.specs.Meaning.{IsChoice, rows_of, value_of}
use Rattle.ba_model.specs.declared.policy.Context.{Context}
use Rattle.ba_model.specs.declared.query.Operand.{Operand}
use Rattle.ba_model.specs.declared.query.Operand.TheVariants.{Col, Val, Param, Var}
use Rattle.ba_model.specs.declared.schema.Column.{Column}
use Rattle.ba_model.specs.declared.schema.Kind.{Kind}
use Rattle.ba_model.specs.declared.schema.Kind.TheVariants.{Int as IntKind, Text as TextKind}
use Rattle.ba_model.specs.declared.schema.Schema.{Schema}
use Rattle.ba_model.specs.declared.value.RowSet.{RowSet}
use Rattle.ba_model.specs.declared.value.Value.{Value}
use Rattle.ba_model.specs.declared.value.Value.TheVariants.{Null, Int, Text}

-- what stands in the second list at a place of the first
pub AllZip-at : {A B : Type 0} (R : A → B → Type 0) (xs : List A) (ys : List B) (i : ℕ) (x : A) → AllZip R xs ys → slice_get xs i ≡ Some x → (y : B) × (slice_get ys i ≡ Some y) × R x y
AllZip-at R [] ys i x h e = cc
AllZip-at R (a ∷ xs) [] i x h e = absurd h
AllZip-at R (a ∷ xs) (b ∷ ys) zero x h e = (b, refl, subst (λ q. R q b) (let k : a ≡ x = cc in k) h.0)
AllZip-at R (a ∷ xs) (b ∷ ys) (suc i) x h e = AllZip-at R xs ys i x h.1 e

and_then_is : {A B : Type 0} (f : A → Option B) (o : Option A) (b : B) → option_and_then f o ≡ Some b → (a : A) × (o ≡ Some a) × (f a ≡ Some b)
and_then_is f None b e = cc
and_then_is f (Some a) b e = (a, refl, e)

map_is : {A B : Type 0} (f : A → B) (o : Option A) (b : B) → option_map f o ≡ Some b → (a : A) × (o ≡ Some a) × (f a ≡ b)
map_is f None b e = cc
map_is f (Some a) b e = (a, refl, cc)

-- the value is NULL or of the kind
abbrev pub HasKind : Kind → Value → Type 0
HasKind k v = (v ≡ Null) ⊎ IsOfKind k v

value_of_kind : (v : Value) (k : Kind) → kind_of_value v ≡ Some k → IsOfKind k v
value_of_kind Null k e = cc
value_of_kind (Int n) k e = let h : IntKind ≡ k = cc in subst (λ q. IsOfKind q (Int n)) h tt
value_of_kind (Text t) k e = let h : TextKind ≡ k = cc in subst (λ q. IsOfKind q (Text t)) h tt

column_value : (column : Column) (v : Value) → IsOfColumn column v → HasKind column.kind v
column_value column Null h = inl refl
column_value column (Int n) h = inr h
column_value column (Text t) h = inr h

pub has_value : (s : Schema) (params : List Kind) (c : Context) (d : RowSet) (from : List ℕ) (rows : List (List Value)) → Conforms s d → ContextFits params c → IsChoice d from rows → (x : Operand) (k : Kind) → kind_of s params [] from x ≡ Some k → (v : Value) × (value_of c rows x ≡ Some v) × HasKind k v
has_value s params c d from rows conforms fits chosen (Col place column) k e =
    let t = and_then_is (λ t. column_kind s t column) (slice_get from place) k e in
    let table = and_then_is (λ table. option_map (λ col. col.kind) (slice_get table.columns column)) (slice_get s.tables t.0) k t.2 in
    let col = map_is (λ col. col.kind) (slice_get (table.0).columns column) k table.2 in
    let row = AllZip-at (λ t row. Contains (rows_of d t) row) from rows place t.0 chosen t.1 in
    let list = AllZip-at (TableConforms d) s.tables d.tables t.0 table.0 conforms.tables table.1 in
    let is_list : rows_of d t.0 ≡ list.0 = ap (λ o. unwrap_or o []) list.1 in
    let here : Contains list.0 row.0 = subst (λ rs. Contains rs row.0) is_list row.2 in
    let kinds : RowFits table.0 row.0 = All-contains (RowFits table.0) list.0 row.0 (list.2).kinds here in
    let v = AllZip-at IsOfColumn (table.0).columns row.0 column col.0 kinds col.1 in
    (v.0, rw row.1 v.1, subst (λ q. HasKind q v.0) col.2 (column_value col.0 v.0 v.2))
has_value s params c d from rows conforms fits chosen (Val v) k e = (v, refl, inr (value_of_kind v k e))
has_value s params c d from rows conforms fits chosen (Param n) k e =
    let v = AllZip-at IsOfKind params c.values n k fits e in (v.0, v.1, inr v.2)
has_value s params c d from rows conforms fits chosen (Var n) k e = elim (none_is n k e) [ ]
  where
    none_is : (n : ℕ) (k : Kind) → slice_get [] n ≡ Some k → ⊥
    none_is n k e = cc
