use Rattle.std.proofs.Common.{◌∙◌, ap, arith, length, sym}
use Rattle.std.proofs.lemmas.Bool.{false≢true}
use Rattle.ba_refute.proofs.UnknownLemmas.{nodes_all, nodes_more, nodes_pass}
use Rattle.ba_refute.proofs.unknowns.nodes.Goals as goal
use Rattle.ba_refute.proofs.unknowns.nodes.Goals.{then-is_node+in_ok-push, else-is_node}

pub loop-n-preserved : goal.loop-n-preserved
loop-n-preserved c =
    let k = c.args.known.now in
    elim c.if-is_node.branch [
      | then-is_node+in_ok-push w ↦ rw (w.nodes-is, w.in_ok-push.ensures.items) (nodes_more k c.loop-n.n c.loop-n.nodes.items c.loop-n.invariant (c.is_node.ensures.0 w.if-is_node.true))
      | else-is_node w ↦ rw w.nodes-is (nodes_pass k c.loop-n.n c.loop-n.nodes.items c.loop-n.invariant (λ h. false≢true (sym w.if-is_node.false ∙ c.is_node.ensures.1 h)))
    ]

pub returns-clause-exact : goal.returns-clause-exact
returns-clause-exact c =
    nodes_all c.args.known.now c.loop-n.n c.loop-n.nodes.items
    (omega (arith, c.loop-n-test.false, c.in_ok-count.ensures, ap length c.unknowns.ensures)) c.loop-n.invariant
