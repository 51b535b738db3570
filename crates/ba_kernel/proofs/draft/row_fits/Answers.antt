use Rattle.std.proofs.Common.{◌≡◌}
use Rattle.std.specs.Prelude.{Some, None, slice_get}
use Rattle.ba_kernel.proofs.DraftLemmas.{row_tells, some_first}
use Rattle.ba_kernel.proofs.draft.row_fits.Goals as goal

pub returns-in-Some : goal.returns-in-Some
returns-in-Some c =
    let there : slice_get c.args.entry.now.query.parts 0 ≡ Some c.in-Some.part.now = cc (c.deref.ensures, c.in-Some.ensures) in
    row_tells c.args.problem.now c.args.entry.now c.in-Some.part.now _ _ _ _ there c.requires c.as_slice.ensures c.as_slice-in-Some.ensures
    c.as_slice-in-Some-2.ensures c.stands.ensures

pub returns-in-None : goal.returns-in-None
returns-in-None c =
    let gone : slice_get c.args.entry.now.query.parts 0 ≡ None = cc (c.deref.ensures, c.in-None.ensures) in
    absurd (some_first c.args.problem.now c.args.entry.now c.requires gone)
