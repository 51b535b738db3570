use Rattle.std.proofs.Common.{◌≡◌, ◌+◌, sym, subst, arith, length}
use Rattle.std.proofs.lemmas.Grind.{common_steps}
use Rattle.ba_facts.specs.Members.{AreMembersBelow}
use Rattle.ba_facts.proofs.ClassLemmas.{label_below}
use Rattle.ba_facts.proofs.MemberLemmas.{more_below, none_below, same_below}
use Rattle.ba_facts.proofs.web.Web.members_of.Goals as goal
use Rattle.ba_facts.proofs.web.Web.members_of.Goals.{then-same+in_ok-add_any, else-same}

pub loop-n-init : goal.loop-n-init
loop-n-init c =
    let below = label_below c.label-n.ensures in
    (grind (arith, common_steps, below), subst (AreMembersBelow c.args.self.now.names c.args.self.now.classes.merges c.args.x c.label-n.result) (sym c.new-members.ensures.items) (none_below c.args.self.now.names c.args.self.now.classes.merges c.args.x c.label-n.result c.label-n.ensures))

pub loop-n-preserved : goal.loop-n-preserved
loop-n-preserved c =
    elim c.if-same.branch [
      | then-same+in_ok-add_any w ↦ (
        let t = c.loop-n-test.true in omega (arith, t),
        subst (AreMembersBelow c.args.self.now.names c.args.self.now.classes.merges c.args.x (c.loop-n.n + 1)) (let e : w.add_any.new.members.items ≡ c.if-same.members.items = cc in e)
            (more_below c.args.self.now.names c.args.self.now.classes.merges c.args.x c.loop-n.n c.loop-n.members.items c.loop-n.invariant.1 w.unknown.result w.add_any.new.members.items (c.same.ensures.0 w.if-same.true) w.unknown.ensures w.in_ok-add_any.ensures),
      )
      | else-same w ↦ (
        let t = c.loop-n-test.true in omega (arith, t),
        subst (AreMembersBelow c.args.self.now.names c.args.self.now.classes.merges c.args.x (c.loop-n.n + 1)) (let e : c.loop-n.members.items ≡ c.if-same.members.items = cc in e)
            (same_below c.args.self.now.names c.args.self.now.classes.merges c.args.x c.loop-n.n c.loop-n.members.items c.loop-n.invariant.1 (λ h. let t = c.same.ensures.1 h in let f = w.if-same.false in cc)),
      )
    ]

pub returns : goal.returns
returns c =
    let done = c.loop-n-test.false in
    let most = c.loop-n.invariant.0 in
    let same : c.loop-n.n ≡ length c.args.self.now.names = grind (arith, common_steps, done, most) in
    subst (λ end. AreMembersBelow c.args.self.now.names c.args.self.now.classes.merges c.args.x end c.loop-n.members.items) same c.loop-n.invariant.1
