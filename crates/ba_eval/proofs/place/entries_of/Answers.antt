use Rattle.std.proofs.Common.{◌+◌, ap, ◌∙◌, subst, sym, arith}
use Rattle.ba_eval.specs.Index.{Entered}
use Rattle.ba_eval.proofs.EntryLemmas.{entered, none_entered, not_entered}
use Rattle.ba_eval.proofs.place.entries_of.Goals as goal
use Rattle.ba_eval.proofs.place.entries_of.Goals.{in-Some+in_ok-push-in-Some, in-None}

pub loop-number-init : goal.loop-number-init
loop-number-init g c = record {
  entries = subst (Entered c.args.search.now.ctx.now c.args.search.now.part.now.conds c.args.at c.args.rows.now c.args.ties.now 0) (sym c.new-entries.ensures.items) (none_entered _ _ _ _ _);
  steps = omega arith;
}

pub loop-number-preserved : goal.loop-number-preserved
loop-number-preserved g c =
    let is = c.in_ok-entry.ensures in
    record {
      entries =
          elim c.match-entry.branch [
            | in-Some+in_ok-push-in-Some w ↦
                entered _ _ _ _ _ _ _ c.read_row-row.ensures.row _ c.loop-number.invariant.entries w.in-Some.own _ (rw w.in-Some.is at is) (ap (λ v. v.items) w.entries-is ∙ w.in_ok-push-in-Some.ensures.items)
            | in-None w ↦
                subst (λ v. Entered c.args.search.now.ctx.now c.args.search.now.part.now.conds c.args.at c.args.rows.now c.args.ties.now (c.loop-number.number + 1) v.items) (sym w.entries-is) (not_entered _ _ _ _ _ _ _ c.read_row-row.ensures.row _ c.loop-number.invariant.entries (rw w.in-None.is at is))
          ];
      steps = omega (arith, c.loop-number.invariant.steps, c.read_row-row.ensures.steps);
    }
