-- A policy that was read for a schema that was read.
use Rattle.std.proofs.Common.{◌≡◌, Result, Ok, Err, subst, sym}
use Rattle.std.specs.Result.{IfOk}
use Rattle.ba_model.specs.Fit.{PolicyFits}
use Rattle.ba_model.specs.RuleFaults.{AreRules}
use Rattle.ba_model.specs.SchemaFaults.{AreTables}
use Rattle.ba_model.specs.declared.policy.Policy.{Policy}
use Rattle.ba_model.specs.declared.schema.Schema.{Schema}
use Rattle.ba_proof.specs.Checked.{IsPolicy}

-- the schema is the one that was read
pub is_policy : (policy : Policy) (schema : Schema) → policy.schema ≡ schema → PolicyFits policy → AreTables schema.tables → AreRules schema → IsPolicy policy
is_policy policy schema same fits tables rules =
    let own : AreRules policy.schema = subst AreRules (sym same) rules in
    record {
      tables = subst (λ (s : Schema). AreTables s.tables) (sym same) tables;
      rules = own.fit;
      views = fits;
    }

-- what holds of the value holds of what is in its cell
pub of_value : {X E : Type 0} (P : X → Type 0) (r : Result X E) (it : X) → IfOk r (λ x. x ≡ it) → P it → IfOk r P
of_value P (Ok x) it is h = subst P (sym is) h
of_value P (Err e) it is h = tt
