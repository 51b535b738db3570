use Rattle.std.proofs.Common.{◌≡◌, ◌+◌, ◌≤◌, ◌++◌, ◌∷◌, [], arith, length, subst, sym}
use Rattle.ba_instant.proofs.AlikeLemmas.{likes_all, likes_more, likes_push}
use Rattle.ba_instant.specs.Spreads.{AreLikesBelow}
use Rattle.ba_instant.proofs.alike.likes_of.Goals as goal
use Rattle.ba_instant.proofs.alike.likes_of.Goals.{then-is_another+in_ok-push-2, else-is_another}

pub loop-other-preserved : goal.loop-other-preserved
loop-other-preserved c =
    elim c.if-is_another.branch [
      | then-is_another+in_ok-push-2 w ↦
          let e : c.if-is_another.likes.items ≡ c.loop-other.likes.items ++ c.loop-other.other ∷ [] = cc (w.likes-is, w.in_ok-push-2.ensures.items) in
          subst (λ xs. AreLikesBelow c.args.branch.now c.args.fact xs (c.loop-other.other + 1)) (sym e)
          (likes_push c.args.branch.now c.args.fact c.loop-other.likes.items c.loop-other.other (c.is_another.ensures.0 w.if-is_another.true).1 c.loop-other.invariant)
      | else-is_another w ↦
          let e : c.if-is_another.likes.items ≡ c.loop-other.likes.items = cc (w.likes-is) in
          subst (λ xs. AreLikesBelow c.args.branch.now c.args.fact xs (c.loop-other.other + 1)) (sym e)
          (likes_more c.args.branch.now c.args.fact c.loop-other.likes.items c.loop-other.other (λ h. let t = c.is_another.ensures.1 h in cc) c.loop-other.invariant)
    ]

pub returns : goal.returns
returns c =
    likes_all c.args.branch.now c.args.fact c.loop-other.likes.items c.loop-other.other
    (let e : length c.args.branch.now.facts ≤ c.loop-other.other = grind arith in e) c.loop-other.invariant
