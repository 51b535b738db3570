use Rattle.std.proofs.Common.{sym, ◌∙◌, subst}
use Rattle.ba_direct.proofs.ResultLemmas.{first_of_pairings, none_of_pairings, none_of_tables}
use Rattle.ba_direct.proofs.SearchLemmas.{from_false, from_true}
use Rattle.ba_direct.specs.Search.{IsFirstBy, IsFirstFrom, NoneFrom}
use Rattle.ba_direct.proofs.search.cover_by.Goals as goal

pub returns-then-len : goal.returns-then-len
returns-then-len c =
    none_of_tables c.args.policy.now c.args.ctx.now c.args.part.now c.args.view c.get.result.now c.get.ensures c.in-Some.only.now c.in-Some.ensures
    (λ same. c.if-len.true (c.len.ensures ∙ (same ∙ sym c.len-2.ensures)))

pub returns-then-branch : goal.returns-then-branch
returns-then-branch c =
    let found = from_true _ _ c.if-branch.true c.in_ok-pair.ensures.found in
    let begun = subst (λ xs. IsFirstFrom c.args.ctx.now c.in-Some.only.now c.args.part.now xs c.pair.new.to.items) c.new-to.ensures.items found in
    subst (λ to. IsFirstBy c.args.policy.now c.args.ctx.now c.args.part.now c.args.view (record { view = c.args.view; places = to })) (sym c.from_vec-places.ensures)
    (first_of_pairings c.args.policy.now c.args.ctx.now c.args.part.now c.args.view c.get.result.now c.get.ensures c.in-Some.only.now c.in-Some.ensures c.pair.new.to.items begun)

pub returns-else-branch : goal.returns-else-branch
returns-else-branch c =
    none_of_pairings c.args.policy.now c.args.ctx.now c.args.part.now c.args.view c.get.result.now c.get.ensures c.in-Some.only.now c.in-Some.ensures
    (subst (NoneFrom c.args.ctx.now c.in-Some.only.now c.args.part.now) c.new-to.ensures.items (from_false _ _ c.if-branch.false c.in_ok-pair.ensures.none))
