use Rattle.std.proofs.Common.{◌∷◌, ◌++◌, below_more, sym, ap, ◌∙◌, subst, arith}
use Rattle.std.proofs.lemmas.Grind.{common_steps}
use Rattle.ba_direct.proofs.SearchLemmas.{first_here, first_further, from_false, from_true, none_left, on_true, tried_one}
use Rattle.ba_direct.specs.Cover.{CoversBy, PairsTables}
use Rattle.ba_direct.proofs.pairing.+pair.Goals as goal
use Rattle.ba_direct.proofs.pairing.+pair.Goals.{then-may_pair+in_ok-push+in_ok-pair+else-branch, else-may_pair}

pub returns-then-len-places-clause-found : goal.returns-then-len-places-clause-found
returns-then-len-places-clause-found t c =
    on_true c.covers_by.result _
    (λ yes. first_here _ _ _ _ (subst (CoversBy c.args.ctx.now c.args.view.now c.args.part.now) c.deref.ensures.value (c.covers_by.ensures.0 yes)))

pub returns-then-branch-clause-found : goal.returns-then-branch-clause-found
returns-then-branch-clause-found t c =
    first_further _ _ _ _ c.loop-place.to.items c.push.new.self.items _ c.loop-place.place (λ e. c.if-len-places.false (grind (arith, common_steps, e))) c.loop-place.invariant.tried c.loop-place.invariant.kept c.in_ok-push.ensures.items (from_true _ _ c.if-branch.true c.in_ok-pair.ensures.found)

pub loop-place-preserved : goal.loop-place-preserved
loop-place-preserved t c =
    elim c.if-may_pair.branch [
      | then-may_pair+in_ok-push+in_ok-pair+else-branch w ↦
          let same = from_false _ _ (w.if-branch).false (w.in_ok-pair.ensures).kept in
          record {
            kept = grind (arith, common_steps, same);
            tried = record {
              none = below_more _ _ c.loop-place.invariant.tried.none (tried_one _ _ _ _ _ _ _ c.loop-place.invariant.kept (w.in_ok-push.ensures).items (from_false _ _ (w.if-branch).false (w.in_ok-pair.ensures).none));
            };
          }
      | else-may_pair w ↦
          record {
            kept = ap (λ v. v.items) w.to-is ∙ c.loop-place.invariant.kept;
            tried = record {
              none = below_more _ _ c.loop-place.invariant.tried.none (λ more h. (w.if-may_pair).ensures more (subst (λ xs. PairsTables c.args.view.now c.args.part.now (xs ++ c.loop-place.place ∷ more)) (sym (c.deref-in-loop-place.ensures.value ∙ c.loop-place.invariant.kept)) h.pairs));
            };
          }
    ]

pub returns-clause-none : goal.returns-clause-none
returns-clause-none t c = none_left _ _ _ _ (λ e. c.if-len-places.false (grind (arith, common_steps, e))) (record { none = λ place below. c.loop-place.invariant.tried.none place (omega arith) })
