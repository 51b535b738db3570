use Rattle.ba_input.proofs.InputLemmas.{policy_is}
use Rattle.ba_input.proofs.proof_input.proof_at.Goals as goal

pub returns-in-Ok-clause-checkable : goal.returns-in-Ok-clause-checkable
returns-in-Ok-clause-checkable c = record {
  problem = c.in-Ok.ensures.fits (policy_is c.args.policy.now c.requires.views c.requires.tables c.requires.rules);
  few = c.in-Ok.ensures.few;
}
