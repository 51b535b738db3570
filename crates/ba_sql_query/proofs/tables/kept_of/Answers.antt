use Rattle.std.proofs.Common.{◌∙◌, Global, Vec, ap, slice_index, arith}
use Rattle.std.proofs.lemmas.List.{get_or_default}
use Rattle.ba_sql_query.specs.declared.tables.Kept.{Kept}
use Rattle.ba_sql_query.proofs.TellLemmas.{keeps_all, keeps_none, keeps_passed, keeps_pushed}
use Rattle.ba_sql_query.proofs.tables.kept_of.Goals as goal
use Rattle.ba_sql_query.proofs.tables.kept_of.Goals.{then-times_kept-lt2+in_ok-push, else-times_kept-lt2}

pub loop-place-init : goal.loop-place-init
loop-place-init c = keeps_none c.args.tables.now c.new-kept.result.items c.new-kept.ensures.items

pub loop-place-preserved : goal.loop-place-preserved
loop-place-preserved c =
    elim c.if-times_kept-lt2.branch [
      | then-times_kept-lt2+in_ok-push w ↦
          keeps_pushed c.args.tables.now c.loop-place.place (slice_index c.args.tables.now c.loop-place.place) c.loop-place.kept.items _ c.loop-place.invariant c.loop-place-test.true (get_or_default c.args.tables.now c.loop-place.place 0 (slice_index c.args.tables.now c.loop-place.place) c.loop-place-test.true) (ap (λ (v : Vec Kept Global). v.items) w.kept-is ∙ w.in_ok-push.ensures.items)
      | else-times_kept-lt2 w ↦
          keeps_passed c.args.tables.now c.loop-place.place (slice_index c.args.tables.now c.loop-place.place) c.loop-place.kept.items _ c.loop-place.invariant c.loop-place-test.true (get_or_default c.args.tables.now c.loop-place.place 0 (slice_index c.args.tables.now c.loop-place.place) c.loop-place-test.true) (ap (λ (v : Vec Kept Global). v.items) w.kept-is) (let counts = rw c.deref.ensures.value at c.times_kept.ensures in omega (arith, counts, w.if-times_kept-lt2.false))
    ]

pub returns : goal.returns
returns c = keeps_all c.args.tables.now c.loop-place.place c.loop-place.kept.items c.loop-place.invariant c.loop-place-test.false
