use Rattle.std.proofs.Common.{◌∙◌}
use Rattle.ba_proof.specs.Checked.{IsPolicy}
use Rattle.ba_kernel_tests.proofs.PolicyLemmas.{is_policy, of_value}
use Rattle.ba_kernel_tests.proofs.tests.files.policy_of.Goals as goal

pub returns : goal.returns
returns c =
    of_value IsPolicy c.new-2.result c.in-Ok-read_policy.policy c.new-2.ensures
    (is_policy c.in-Ok-read_policy.policy c.in-Ok.schema (c.in-Ok-read_policy.ensures.same ∙ c.in_ok-schema.ensures) c.in-Ok-read_policy.ensures.fits c.in-Ok.ensures.tables
    c.in-Ok.ensures.rules)
