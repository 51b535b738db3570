use Rattle.std.proofs.Common.{IsTrue, [], subst}
use Rattle.ba_instant.proofs.PartnerLemmas.{front_all, front_more}
use Rattle.ba_instant.specs.Partners.{Gains, IsEqualOn}
use Rattle.ba_instant.proofs.partners.equal_facts.Goals as goal

pub loop-columns-preserved : goal.loop-columns-preserved
loop-columns-preserved c =
    let b = c.args.branch.now in
    let f = c.args.fact.now in
    let told : IsTrue c.in_ok-add_equal.field-0 = let yes = c.if-not-branch.false in cc in
    let more : Gains c.loop-columns.facts.items c.add_equal.new.facts.items (IsEqualOn b f c.columns-item.result) =
    subst (λ columns. Gains c.loop-columns.facts.items c.add_equal.new.facts.items (IsEqualOn b f columns)) c.as_slice.ensures (c.in_ok-add_equal.ensures told) in
    front_more (IsEqualOn b f) c.args.keys.now c.loop-columns.columns-index c.columns-item.result [] c.loop-columns.facts.items c.add_equal.new.facts.items c.loop-columns-test.true c.columns-item.is
    c.loop-columns.invariant more

pub returns : goal.returns
returns c =
    (front_all (IsEqualOn c.args.branch.now c.args.fact.now) c.args.keys.now c.loop-columns.columns-index [] c.loop-columns.facts.items c.loop-columns-test.false c.loop-columns.invariant).gains
