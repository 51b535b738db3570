use Rattle.std.proofs.Common.{◌≡◌, ◌∙◌, [], ◌∷◌, List, length, sym}
use Rattle.ba_model.specs.declared.query.Atom.{Atom}
use Rattle.std.specs.Prelude.{IfOk}
use Rattle.std.proofs.Common.{Result, Ok, Err}
use Rattle.ba_sql_query.specs.Parts.{members}
use Rattle.ba_sql_query.proofs.StackLemmas.{members_none, members_top, run_goes_on}
use Rattle.ba_sql_query.proofs.expand.members.Goals as goal

pub loop-node-preserved : goal.loop-node-preserved
loop-node-preserved c = run_goes_on c.args.condition.now c.loop-node.node-index c.node-item.result _ _ c.loop-node-test.true c.node-item.is c.loop-node.invariant c.in_ok-after.ensures

pub returns-in-Some : goal.returns-in-Some
returns-in-Some c = members_top c.args.condition.now c.loop-node.node-index c.loop-node.stack.items _ c.in-Some.members c.loop-node-test.false c.loop-node.invariant c.in-Some.ensures.items

same_members : {E : Type 0} (r : Result (List (List Atom)) E) (xs : List Atom) (ms : List (List Atom)) → IfOk r (λ list. list ≡ xs ∷ []) → xs ≡ [] → [] ∷ [] ≡ ms → IfOk r (λ list. list ≡ ms)
same_members (Ok list) xs ms h e g = h ∙ rw e g
same_members (Err e) xs ms h f g = tt

pub returns : goal.returns
returns c =
    let size : length c.loop-node.stack.items ≡ 0 = sym c.loop-node.stack.ok.0 ∙ c.in-None.ensures.cases.0 in
    same_members c.one.result _ (members c.args.condition.now) c.one.ensures c.new.ensures (members_none c.args.condition.now c.loop-node.node-index c.loop-node.stack.items c.loop-node-test.false c.loop-node.invariant size)
