use Rattle.std.proofs.Common.{ℕ, List, get_or, subst, sym}
use Rattle.std.proofs.lemmas.List.{get_or_default}
use Rattle.std.specs.List.{AllZip}
use Rattle.ba_kernel.proofs.BuildLemmas.{zip_more}
use Rattle.ba_general.proofs.GapLemmas.{none_all}
use Rattle.ba_general.specs.Leaving.{IsClosedUp}
use Rattle.ba_general.proofs.gap.Gap.facts.Goals as goal

pub returns-in-None : goal.returns-in-None
returns-in-None c =
    let items : List ℕ = c.as_slice-fact-items.result.now in
    let fact : ℕ = get_or c.as_slice-fact-items.result.now c.loop-fact.fact-index 0 in
    λ moved h. none_all (IsClosedUp c.args.self.facts) items c.loop-fact.fact-index fact c.loop-fact-test.true
    (get_or_default items c.loop-fact.fact-index 0 fact c.loop-fact-test.true) c.in-None.ensures moved
    (subst (λ xs. AllZip (IsClosedUp c.args.self.facts) xs moved) (sym c.as_slice-fact-items.ensures) h)

pub loop-fact-preserved : goal.loop-fact-preserved
loop-fact-preserved c =
    let items : List ℕ = c.as_slice-fact-items.result.now in
    let fact : ℕ = get_or c.as_slice-fact-items.result.now c.loop-fact.fact-index 0 in
    zip_more (IsClosedUp c.args.self.facts) items c.loop-fact.fact-index fact c.loop-fact.all c.push.new.self c.in-Some.moved c.loop-fact-test.true
    (get_or_default items c.loop-fact.fact-index 0 fact c.loop-fact-test.true) c.loop-fact.invariant c.in-Some.ensures c.in_ok-push-in-Some.ensures.ok
