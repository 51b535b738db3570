use Rattle.std.proofs.Common.{below_more, refl}
use Rattle.ba_kernel.proofs.PassLemmas.{mapping_all, mapping_differs, mapping_fails}
use Rattle.ba_facts.specs.Matches.{IsFactOf}
use Rattle.ba_kernel.proofs.passes.mapping.is_mapping.Goals as goal

pub returns-then-from-facts : goal.returns-then-from-facts
returns-then-from-facts c = (
  λ e. cc,
  λ h. absurd (mapping_differs (IsFactOf c.args.branch.now c.args.side) c.args.from.now c.args.facts.now c.if-from-facts.true h),
)

pub returns-then-not-is_fact : goal.returns-then-not-is_fact
returns-then-not-is_fact c = (
  λ e. cc,
  λ h. absurd (mapping_fails (IsFactOf c.args.branch.now c.args.side) c.args.from.now c.args.facts.now c.loop-i.i c.loop-i-test.true
      (λ it. let t = c.is_fact.ensures.1 it in cc) h),
)

pub loop-i-preserved : goal.loop-i-preserved
loop-i-preserved c = below_more _ _ c.loop-i.invariant (c.is_fact.ensures.0 c.if-not-is_fact.false)

pub returns : goal.returns
returns c = (
  λ e. mapping_all (IsFactOf c.args.branch.now c.args.side) c.args.from.now c.args.facts.now c.loop-i.i c.if-from-facts.false
      c.loop-i-test.false c.loop-i.invariant,
  λ h. refl,
)
