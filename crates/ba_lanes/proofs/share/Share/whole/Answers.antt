use Rattle.std.proofs.Common.{◌∙◌, ◌++◌, ◌∷◌, [], ap, arith, length, subst, sym, take}
use Rattle.std.proofs.lemmas.List.{length-take, take_all, take_more}
use Rattle.std.specs.Prelude.{All}
use Rattle.ba_lanes.proofs.ShareLemmas.{AsksFew, few_before, few_here, share_more, share_small}
use Rattle.ba_lanes.specs.Serving.{IsShare}
use Rattle.ba_lanes.proofs.share.Share.whole.Goals as goal

pub add-requires-clause-lines : goal.add-requires-clause-lines
add-requires-clause-lines c =
    let items = c.as_slice-said-items.result.now in
    let short = length-take c.loop-said.said-index items in
    let below = c.loop-said-test.true in
    let few = c.requires.few in
    let long = ap length c.as_slice-said-items.ensures in
    let so_far = c.loop-said.invariant.lines_are in
    omega (arith, short, below, few, long, so_far)

pub add-requires-clause-few : goal.add-requires-clause-few
add-requires-clause-few c =
    let all = subst (All AsksFew) (sym c.as_slice-said-items.ensures) c.requires.asks in
    few_here c.as_slice-said-items.result.now c.loop-said.said-index c.said-item.result c.loop-said-test.true c.said-item.is all

pub add-requires-clause-calls : goal.add-requires-clause-calls
add-requires-clause-calls c =
    let all = subst (All AsksFew) (sym c.as_slice-said-items.ensures) c.requires.asks in
    share_small (take c.loop-said.said-index c.as_slice-said-items.result.now) c.loop-said.share c.loop-said.invariant (few_before c.as_slice-said-items.result.now c.loop-said.said-index all)

pub loop-said-preserved : goal.loop-said-preserved
loop-said-preserved c =
    let items = c.as_slice-said-items.result.now in
    subst (λ z. IsShare z c.add.new.self) (sym (take_more items c.loop-said.said-index c.said-item.result c.loop-said-test.true ∙ ap (λ z. take c.loop-said.said-index items ++ z ∷ []) (sym c.said-item.is)))
    (share_more (take c.loop-said.said-index items) c.said-item.result c.loop-said.share c.add.new.self c.loop-said.invariant c.add.ensures.lines c.add.ensures.calls c.add.ensures.looks)

pub returns : goal.returns
returns c = subst (λ z. IsShare z c.loop-said.share) (take_all c.loop-said.said-index c.as_slice-said-items.result.now c.loop-said-test.false ∙ c.as_slice-said-items.ensures) c.loop-said.invariant
