use Rattle.std.proofs.Common.{sym, ◌∙◌}
use Rattle.ba_script.specs.Contexts.{given_for}
use Rattle.ba_script.proofs.ContextLemmas.{found_member, passed_member}
use Rattle.ba_script.proofs.context.given_for.Goals as goal

pub returns-then-is_called : goal.returns-then-is_called
returns-then-is_called c =
    let name = c.args.name.now in
    let members = c.args.members.now in
    found_member name members c.loop-member.member-index c.member-item.result (given_for name members) c.loop-member-test.true c.member-item.is c.loop-member.invariant
    (sym c.is_called.ensures ∙ c.if-is_called.true)

pub loop-member-preserved : goal.loop-member-preserved
loop-member-preserved c =
    let name = c.args.name.now in
    let members = c.args.members.now in
    passed_member name members c.loop-member.member-index c.member-item.result (given_for name members) c.loop-member-test.true c.member-item.is c.loop-member.invariant
    (sym c.is_called.ensures ∙ c.if-is_called.false)
