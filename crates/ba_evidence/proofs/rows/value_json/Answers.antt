use Rattle.std.proofs.Common.{◌∙◌}
use Rattle.std.proofs.lemmas.Result.{IfOk-weaker}
use Rattle.ba_evidence.proofs.JsonLemmas.{same_value}
use Rattle.ba_evidence.proofs.rows.value_json.Goals as goal

pub returns-clause-json : goal.returns-clause-json
returns-clause-json c = IfOk-weaker c.value_json.result _ _ (λ v h. h ∙ same_value c.args.value.now) c.value_json.ensures.json
