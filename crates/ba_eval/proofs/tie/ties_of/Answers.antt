use Rattle.std.proofs.Common.{◌+◌, ap, ◌∙◌, subst, sym, take}
use Rattle.ba_eval.specs.Index.{AreTies}
use Rattle.ba_eval.proofs.TieLemmas.{tie_more, no_tie_more}
use Rattle.ba_eval.proofs.tie.ties_of.Goals as goal
use Rattle.ba_eval.proofs.tie.ties_of.Goals.{in-Some+in_ok-push-in-Some, in-None}

pub loop-atom-preserved : goal.loop-atom-preserved
loop-atom-preserved c =
    let is = c.tie_of.ensures in
    elim c.match-tie_of.branch [
      | in-Some+in_ok-push-in-Some w ↦
          tie_more _ _ _ _ c.loop-atom-test.true c.atom-item.is _ c.loop-atom.invariant w.in-Some.tie _ (rw w.in-Some.is at is) (ap (λ v. v.items) w.ties-is ∙ w.in_ok-push-in-Some.ensures.items)
      | in-None w ↦
          subst (λ v. AreTies c.args.at (take (c.loop-atom.atom-index + 1) c.args.atoms.now) v.items) (sym w.ties-is) (no_tie_more _ _ _ _ c.loop-atom-test.true c.atom-item.is _ c.loop-atom.invariant (rw w.in-None.is at is))
    ]
