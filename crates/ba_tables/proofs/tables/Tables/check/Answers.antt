use Rattle.std.proofs.Common.{◌≡◌, ◌∙◌, sym, subst, length}
use Rattle.std.proofs.lemmas.Slice.Zip.{AllZip-long}
use Rattle.ba_tables.proofs.CheckedLemmas.{seen_conforms}
use Rattle.ba_tables.proofs.tables.Tables.check.Goals as goal

pub first_fault-requires : goal.first_fault-requires
first_fault-requires c =
    subst (λ d. length d.tables ≡ length c.deref-2.result.now.tables) (sym c.in_ok-rows.ensures) (subst (λ s. length c.args.rows.tables ≡ length s.tables) (sym c.deref-2.ensures) (AllZip-long _ c.args.schema.now.tables c.args.rows.tables c.requires.tables))

pub invariant_of-result : goal.invariant_of-result
invariant_of-result c =
    rw (c.in_ok-schema.ensures, c.in_ok-rows.ensures)
    (seen_conforms c.args.schema.now c.deref-2.result.now c.args.rows c.in_ok-rows.rows c.deref-2.ensures c.in_ok-rows.ensures c.requires (sym c.in_default.is ∙ c.in_ok-fault.ensures))
