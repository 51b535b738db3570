use Rattle.std.proofs.Common.{◌≡◌, ◌∙◌, ap, subst, sym, not, true, false, Bool, take}
use Rattle.std.specs.List.{list_any}
use Rattle.ba_model.proofs.DistinctLemmas.{repeats}
use Rattle.ba_model.proofs.check_schema.are_distinct.Goals as goal

-- what isn't new stands there already
stands : (b d : Bool) → b ≡ not d → b ≡ false → d ≡ true
stands b true e h = Rattle.std.proofs.Common.refl
stands b false e h = cc

pub returns-then-not-is_new : goal.returns-then-not-is_new
returns-then-not-is_new g c = (
  λ e. cc,
  λ h.
      let eq = g.T.PartialEq.eq in
      let there : list_any (eq c.in_ok-copy.field-0) c.loop-item.seen.keys ≡ true = stands _ _ c.in_ok-is_new.ensures.added c.if-not-is_new.true in
      let so_far : list_any (eq c.item-item.result) (take c.loop-item.item-index c.args.items.now) ≡ true = subst (λ x. list_any (eq x) (take c.loop-item.item-index c.args.items.now) ≡ true) c.in_ok-copy.ensures (subst (λ ks. list_any (eq c.in_ok-copy.field-0) ks ≡ true) c.loop-item.invariant there) in
      absurd (repeats eq g.met.T.Eq.laws.symm c.args.items.now c.loop-item.item-index c.item-item.result c.loop-item-test.true c.item-item.is so_far h),
)
