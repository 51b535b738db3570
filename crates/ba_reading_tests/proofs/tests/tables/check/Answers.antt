use Rattle.std.proofs.Common.{◌≡◌, ◌∙◌, List, [], ◌∷◌, length, sym, arith}
use Rattle.std.specs.List.{All, AllZip}
use Rattle.std.specs.Option.{IfSome}
use Rattle.std.specs.Prelude.{slice_get}
use Rattle.ba_model.specs.Conform.{RowFits}
use Rattle.ba_model.specs.declared.schema.Table.{Table}
use Rattle.ba_model.specs.declared.value.Value.{Value}
use Rattle.ba_reading_tests.proofs.tests.tables.check.Goals as goal

both_fit : (tables : List Table) (first second : List (List Value)) → length tables ≡ 2 → IfSome (slice_get tables 0) (λ it. All (RowFits it) first) → IfSome (slice_get tables 1) (λ it. All (RowFits it) second)
    → AllZip (λ table list. All (RowFits table) list) tables (first ∷ second ∷ [])
both_fit [] first second e a b = absurd (omega arith)
both_fit (s ∷ []) first second e a b = absurd (omega arith)
both_fit (s ∷ t ∷ []) first second e a b = (a, (b, tt))
both_fit (s ∷ t ∷ u ∷ rest) first second e a b = absurd (omega arith)

pub check-requires : goal.check-requires
check-requires c =
    record {
      tables = rw (c.in_ok-schema.ensures, c.from_vec-tables.ensures, c.in_ok-vec.ensures.items)
          (both_fit c.in-Ok.schema.tables c.in-Ok-read_table.first c.in-Ok-read_table-2.second (sym c.len.ensures ∙ c.if-len-ne2.false) c.in-Ok-read_table.ensures.fits c.in-Ok-read_table-2.ensures.fits);
    }
