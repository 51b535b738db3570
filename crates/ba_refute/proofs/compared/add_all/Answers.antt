use Rattle.std.proofs.Common.{Contains, inl, inr, subst, sym, ⊎_elim}
use Rattle.std.proofs.lemmas.List.{take_all}
use Rattle.ba_refute.proofs.ComparedLemmas.{all_next}
use Rattle.ba_refute.proofs.compared.add_all.Goals as goal

pub loop-unknown-preserved : goal.loop-unknown-preserved
loop-unknown-preserved c =
    all_next c.args.found.now.keys c.loop-unknown.found.keys c.add.new.found.keys c.args.unknowns.now c.loop-unknown.unknown-index c.loop-unknown-test.true
    c.loop-unknown.invariant c.in_ok-add.ensures

pub returns : goal.returns
returns c = λ n h.
    c.loop-unknown.invariant n (⊎_elim
    (λ (was : Contains c.args.found.now.keys n). inl was)
    (λ (is : Contains c.args.unknowns.now n).
    inr (subst (λ xs. Contains xs n) (sym (take_all c.loop-unknown.unknown-index c.args.unknowns.now c.loop-unknown-test.false)) is))
    h)
