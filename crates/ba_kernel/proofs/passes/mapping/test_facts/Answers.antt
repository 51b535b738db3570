use Rattle.ba_kernel.proofs.PassLemmas.{facts_hidden, facts_other}
use Rattle.ba_kernel.proofs.passes.mapping.test_facts.Goals as goal

pub returns-then-not-is_mapping : goal.returns-then-not-is_mapping
returns-then-not-is_mapping c = facts_other _ _ _ _ _ c.as_slice.ensures (λ h. let t = c.is_mapping.ensures.1 h in cc)

pub returns-in-Some : goal.returns-in-Some
returns-in-Some c = facts_hidden _ _ _ _ _ c.as_slice.ensures c.in-Some.n (c.is_mapping.ensures.0 c.if-not-is_mapping.false) c.in-Some.ensures
