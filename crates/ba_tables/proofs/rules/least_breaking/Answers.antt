use Rattle.std.proofs.Common.{◌≡◌, ◌<◌, ◌∙◌, Some, ap, length, slice_get, subst, sym}
use Rattle.ba_tables.proofs.MissingLemmas.{answer_as, found_least, found_within, none_least}
use Rattle.ba_tables.proofs.rules.least_breaking.Goals as goal

pub returns-in_default : goal.returns-in_default
returns-in_default c =
    none_least c.args.rows.now c.args.rule.now c.as_slice.result.now c.as_slice-2.result.now
    (answer_as c.args.rule.now.left c.args.context.now c.args.rows.now c.in_ok-left.left c.as_slice.result.now c.requires c.as_slice.ensures c.in_ok-left.ensures)
    (answer_as c.args.rule.now.right c.args.context.now c.args.rows.now c.in_ok-right.right c.as_slice-2.result.now c.requires c.as_slice-2.ensures c.in_ok-right.ensures)
    (sym c.in_default.is ∙ c.first_missing.ensures)

pub get-requires : goal.get-requires
get-requires c =
    subst (λ rows. c.in-Some.i < length rows) c.as_slice.ensures (found_within c.as_slice.result.now c.as_slice-2.result.now c.in-Some.i (sym c.in-Some.is ∙ c.first_missing.ensures))

pub returns : goal.returns
returns c =
    ap Some c.in_ok-row.ensures
    ∙ found_least c.args.rows.now c.args.rule.now c.as_slice.result.now c.as_slice-2.result.now c.in-Some.i c.get.result.now
    (answer_as c.args.rule.now.left c.args.context.now c.args.rows.now c.in_ok-left.left c.as_slice.result.now c.requires c.as_slice.ensures c.in_ok-left.ensures)
    (answer_as c.args.rule.now.right c.args.context.now c.args.rows.now c.in_ok-right.right c.as_slice-2.result.now c.requires c.as_slice-2.ensures c.in_ok-right.ensures)
    (sym c.in-Some.is ∙ c.first_missing.ensures) (subst (λ rows. slice_get rows c.in-Some.i ≡ Some c.get.result.now) (sym c.as_slice.ensures) c.get.ensures)
