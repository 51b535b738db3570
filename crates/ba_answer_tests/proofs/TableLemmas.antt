-- Rows of three tables.
use Rattle.std.proofs.Common.{◌≡◌, ◌∙◌, ℕ, List, [], ◌∷◌, ap, arith, length, subst, sym}
use Rattle.std.specs.Prelude.{All, IfSome, slice_get}
use Rattle.ba_model.specs.Conform.{RowFits}
use Rattle.ba_model.specs.declared.schema.Schema.{Schema}
use Rattle.ba_model.specs.declared.schema.Table.{Table}
use Rattle.ba_model.specs.declared.value.Value.{Value}
use Rattle.ba_tables.specs.TableSet.{ListsFit, RowsFit}

-- the rows fit the table of the number
abbrev pub FitAt : List Table → ℕ → List (List Value) → Type 0
FitAt tables n rows = IfSome (slice_get tables n) (λ it. All (RowFits it) rows)

three_fit : (tables : List Table) (a b c : List (List Value)) → length tables ≡ 3 → FitAt tables 0 a → FitAt tables 1 b → FitAt tables 2 c → ListsFit tables (a ∷ b ∷ c ∷ [])
three_fit [] a b c e p q r = absurd (omega arith)
three_fit (t ∷ []) a b c e p q r = absurd (omega arith)
three_fit (t ∷ u ∷ []) a b c e p q r = absurd (omega arith)
three_fit (t ∷ u ∷ w ∷ []) a b c e p q r = (p, (q, (r, tt)))
three_fit (t ∷ u ∷ w ∷ x ∷ tables) a b c e p q r = absurd (omega arith)

pub rows_fit : (s s0 s1 s2 s3 : Schema) (a b c : List (List Value)) (items : List (List (List Value))) → s0 ≡ s → s1 ≡ s → s2 ≡ s → s3 ≡ s → length s0.tables ≡ 3
    → FitAt s1.tables 0 a → FitAt s2.tables 1 b → FitAt s3.tables 2 c → items ≡ a ∷ b ∷ c ∷ [] → RowsFit s (record { tables = items })
rows_fit s s0 s1 s2 s3 a b c items e0 e1 e2 e3 three p q r is = record {
  tables = subst (ListsFit s.tables) (sym is)
      (three_fit s.tables a b c (ap (λ (x : Schema). length x.tables) (sym e0) ∙ three) (subst (λ (x : Schema). FitAt x.tables 0 a) e1 p)
      (subst (λ (x : Schema). FitAt x.tables 1 b) e2 q) (subst (λ (x : Schema). FitAt x.tables 2 c) e3 r));
}
