use Rattle.std.proofs.Common.{◌≡◌, ◌+◌, ◌-◌, ◌/◌, Some, arith, length, subst}
use Rattle.std.specs.List.{slice_get}
use Rattle.ba_facts.specs.declared.term.Fact.{Fact}
use Rattle.ba_facts.specs.declared.term.Term.TheVariants.{Unknown}
use Rattle.ba_facts.proofs.LaidLemmas.{none_before, none_from, none_past, only_at}
use Rattle.ba_facts.proofs.branch.Branch.holder.Goals as goal

pub loop-end-init : goal.loop-end-init
loop-end-init c = record {
  up = omega arith;
  within = (let all = c.len-end.ensures in omega (arith, all));
  before = λ i less h. omega (arith, less);
  behind = none_past c.args.self.now.facts c.args.unknown c.len-end.result c.len-end.ensures;
}

pub loop-end-preserved-then-begin-unknown : goal.loop-end-preserved-then-begin-unknown
loop-end-preserved-then-begin-unknown c =
    let b = c.args.self.now in
    let up = c.loop-end.invariant.up in
    let some = c.loop-end-test.true in
    let low = c.if-begin-unknown.true in
    record {
      up = omega (arith, up, some);
      within = c.loop-end.invariant.within;
      before = none_before b.facts (length b.known.unknowns) c.args.unknown c.requires (c.loop-end.first + (c.loop-end.end - c.loop-end.first) / 2) c.in-Some.begin c.get.result.now c.get.ensures (subst (λ (fact : Fact). slice_get fact.terms 0 ≡ Some (Unknown c.in-Some.begin)) c.deref.ensures ((c.first_of.ensures c.in-Some.begin).0 c.in-Some.is)) (omega (arith, low));
      behind = c.loop-end.invariant.behind;
    }

pub loop-end-preserved : goal.loop-end-preserved
loop-end-preserved c =
    let b = c.args.self.now in
    let up = c.loop-end.invariant.up in
    let within = c.loop-end.invariant.within in
    let some = c.loop-end-test.true in
    let late = c.if-begin-unknown.false in
    record {
      up = omega (arith, up, some);
      within = omega (arith, up, within, some);
      before = c.loop-end.invariant.before;
      behind = none_from b.facts (length b.known.unknowns) c.args.unknown c.requires (c.loop-end.first + (c.loop-end.end - c.loop-end.first) / 2) c.in-Some.begin c.get.result.now c.get.ensures (subst (λ (fact : Fact). slice_get fact.terms 0 ≡ Some (Unknown c.in-Some.begin)) c.deref.ensures ((c.first_of.ensures c.in-Some.begin).0 c.in-Some.is)) (omega (arith, late));
    }

pub returns : goal.returns
returns c =
    let b = c.args.self.now in
    let done = c.loop-end-test.false in
    only_at b.facts (length b.known.unknowns) c.args.unknown c.requires c.loop-end.first c.holder_at.result c.loop-end.invariant.before
    (λ i least h. c.loop-end.invariant.behind i (omega (arith, done, least)) h) c.holder_at.ensures
