use Rattle.std.proofs.Common.{◌≤◌, arith, length, subst}
use Rattle.ba_general.proofs.KeptLemmas.{leaves_few, leaves_front, out_leaves}
use Rattle.ba_general.proofs.TwoRunsLemmas.{earlier_stays}
use Rattle.ba_general.specs.Leaving.{IsLeftOut, Leaves, MaybeIs, middle}
use Rattle.ba_general.proofs.leaving.+leave.Goals as goal

pub returns-then-first-end-clause-leaves : goal.returns-then-first-end-clause-leaves
returns-then-first-end-clause-leaves t c = Leaves.none c.if-first-end.true

pub returns-in-Some-clause-leaves : goal.returns-in-Some-clause-leaves
returns-in-Some-clause-leaves t c =
    out_leaves c.args.problem.now c.args.taken.now.steps c.in-Some.rest c.in_ok-taken.field-0.steps c.args.first c.args.end (omega (arith, c.if-first-end.false))
    (subst (MaybeIs (IsLeftOut c.args.problem.now c.args.taken.now.steps c.args.first c.args.end)) c.in-Some.is c.in_ok-rest.ensures) c.in_ok-taken.ensures.steps

pub returns-then-end-first-eq1-clause-leaves : goal.returns-then-end-first-eq1-clause-leaves
returns-then-end-first-eq1-clause-leaves t c =
    Leaves.stays c.if-end-first-eq1.true
    (subst (MaybeIs (IsLeftOut c.args.problem.now c.args.taken.now.steps c.args.first c.args.end)) c.in_default.is c.in_ok-rest.ensures)

pub leave-requires-2 : goal.leave-requires-2
leave-requires-2 t c =
    let first = c.args.first in
    let end = c.args.end in
    let old = c.args.taken.now.steps in
    let new = c.leave.new.taken.steps in
    let few : length c.leave.new.taken.steps ≤ length c.args.taken.now.steps =
    leaves_few c.args.problem.now old (middle first end) end new c.in_ok-gone.ensures.leaves in
    let below : middle c.args.first c.args.end ≤ length c.args.taken.now.steps = omega (arith, c.requires.there, c.if-first-end.false) in
    let there : middle c.args.first c.args.end ≤ length c.leave.new.taken.steps =
    leaves_front c.args.problem.now old (middle first end) end (middle first end) new c.in_ok-gone.ensures.leaves (omega arith) below in
    let refused = subst (MaybeIs (IsLeftOut c.args.problem.now c.args.taken.now.steps c.args.first c.args.end)) c.in_default.is c.in_ok-rest.ensures in (
      omega (arith, c.decreases, c.if-first-end.false, c.if-end-first-eq1.false),
      (
        c.requires.fits,
        (
          omega (arith, few, c.requires.few),
          (
            c.in_ok-gone.ensures.made,
            (
              there,
              λ gone.
                  earlier_stays c.args.problem.now old new first end (omega (arith, c.if-first-end.false, c.if-end-first-eq1.false)) c.requires.there refused
                  (c.in_ok-gone.ensures.gone gone),
            ),
          ),
        ),
      ),
    )

pub returns-clause-leaves : goal.returns-clause-leaves
returns-clause-leaves t c =
    Leaves.halves (omega (arith, c.if-first-end.false, c.if-end-first-eq1.false))
    (subst (MaybeIs (IsLeftOut c.args.problem.now c.args.taken.now.steps c.args.first c.args.end)) c.in_default.is c.in_ok-rest.ensures)
    c.in_ok-gone.ensures.leaves c.in_ok-leave.ensures.leaves
