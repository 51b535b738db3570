-- A policy that was read for a schema that was read.
use Rattle.std.proofs.Common.{◌≡◌, subst, sym}
use Rattle.ba_kernel.specs.Drafts.{IsChecked}
use Rattle.ba_kernel.specs.Asked.{CheckedLinksFit}
use Rattle.ba_model.specs.Fit.{PolicyFits}
use Rattle.ba_model.specs.RuleFaults.{AreRules}
use Rattle.ba_model.specs.SchemaFaults.{AreTables}
use Rattle.ba_model.specs.declared.policy.Policy.{Policy}
use Rattle.ba_model.specs.declared.schema.Schema.{Schema}

-- it is a checked one
pub is_checked : CheckedLinksFit → (policy : Policy) (schema : Schema) → policy.schema ≡ schema → PolicyFits policy → AreTables schema.tables → AreRules schema → IsChecked policy
is_checked law policy schema same fits tables rules =
    let own : AreRules policy.schema = subst AreRules (sym same) rules in
    record {
      links = law policy.schema (subst (λ (s : Schema). AreTables s.tables) (sym same) tables);
      rules = own.fit;
      policy_fits = fits;
    }
