use Rattle.std.proofs.Common.{◌≡◌, sym, subst, IsTrue}
use Rattle.std.specs.Prelude.{Some, slice_get}
use Rattle.ba_model.proofs.RuleLemmas.{fit_matches, rule_fits, some_first}
use Rattle.ba_model.proofs.check_schema.heads_match.Goals as goal

pub returns-in-Some-Some : goal.returns-in-Some-Some
returns-in-Some-Some c =
    let s = c.args.schema.now in
    let part = c.in-Some-Some.part.now in
    let other = c.in-Some-Some.other.now in
    let one : slice_get c.args.left.now.parts 0 ≡ Some part = sym c.in-Some-Some.ensures in
    let two : slice_get c.args.right.now.parts 0 ≡ Some other = sym c.in-Some-Some.ensures' in (
      λ e. rule_fits s c.args.left.now c.args.right.now part other c.requires.left c.requires.right one two (subst IsTrue c.parts_match.ensures e),
      λ h. subst IsTrue (sym c.parts_match.ensures) (fit_matches s c.args.left.now c.args.right.now part other one two h),
    )

pub returns-in_default-2 : goal.returns-in_default-2
returns-in_default-2 c = (
  λ e. absurd (some_first c.args.schema.now c.args.left.now c.requires.left (sym c.in_default.ensures)),
  λ h. absurd (some_first c.args.schema.now c.args.left.now c.requires.left (sym c.in_default.ensures)),
)
