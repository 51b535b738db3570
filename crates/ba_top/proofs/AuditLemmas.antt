-- What an audit finds of an output of a run of an input.
use Rattle.std.proofs.Common.{◌≡◌, ◌∷◌, ◌<◌, ◌≤◌, ◌^◌, sym, subst, ℕ, List, length, arith}
use Rattle.std.proofs.lemmas.List.Elements.{All-cons, All-weaker}
use Rattle.std.specs.List.{All}
use Rattle.ba_audit.specs.Audits.{IsSet, IsSound, TellsAudited, TellsFault, output_of}
use Rattle.ba_audit.specs.Audits as audits
use Rattle.ba_input.specs.Inputs.{IsInput}
use Rattle.ba_input.specs.Published.{IsSetOf}
use Rattle.ba_input.specs.declared.input.Input.{Input}
use Rattle.ba_model.specs.Limits.{most_lines}
use Rattle.ba_model.specs.Readings.{OfFault}
use Rattle.ba_model.specs.declared.failure.Failure.{Failure}
use Rattle.ba_model.specs.declared.failure.Failure.TheVariants.{Fault as FailedBy}
use Rattle.ba_tables.specs.TableSet.{TableSet}
use Rattle.ba_top.specs.Auditing.{IsFailed, IsPassing, output_for}
use Rattle.ba_wire.specs.declared.audit.AuditFault.{AuditFault}
use Rattle.ba_wire.specs.declared.audit.Audited.{Audited}

-- the input is one that can be audited against
pub audit_input : (input : Input) (sets : List TableSet) → IsInput input → sets ≡ input.tables ∷ input.published → audits.IsInput input.policy sets input.script.entries
audit_input input sets is same = record {
  checked = record { fits = is.policy; tables = is.tables_are; rules = is.rules };
  sets_are = subst (All (IsSet input.policy)) (sym same)
      (All-cons (IsSet input.policy) input.tables input.published (record { schema = is.schema; conform = is.conform })
      (All-weaker (IsSetOf input.policy.schema) (IsSet input.policy) (λ it h. record { schema = h.schema_is; conform = h.conform }) input.published is.sets));
  contexts = is.script.contexts;
  reads = is.script.reads;
}

pub few_entries : (input : Input) → IsInput input → length input.script.entries < 2 ^ 32
few_entries input is = let few : length input.script.entries ≤ most_lines = is.script.few_entries in omega (arith, few)

-- an output that passes is sound
pub passes : (input : Input) (sets : List TableSet) (slice bytes : List ℕ) (audited : Audited) → sets ≡ input.tables ∷ input.published → slice ≡ bytes → TellsAudited (output_of input.policy sets input.script slice) audited → IsSound (output_of input.policy sets input.script slice)
    → IsPassing (output_for input bytes) audited
passes input sets slice bytes audited same whole tells sound = subst (λ z. IsPassing (output_of input.policy (input.tables ∷ input.published) input.script z) audited) whole
    (subst (λ z. IsPassing (output_of input.policy z input.script slice) audited) same (record { tells = tells; sound = sound }))

-- one that doesn't has the fault
pub fails : (input : Input) (sets : List TableSet) (slice bytes : List ℕ) (e : Failure AuditFault) (fault : AuditFault) → e ≡ FailedBy fault → sets ≡ input.tables ∷ input.published → slice ≡ bytes → OfFault e (TellsFault (output_of input.policy sets input.script slice))
    → IsFailed input bytes fault
fails input sets slice bytes e fault is same whole tells =
    let told : TellsFault (output_of input.policy sets input.script slice) fault = subst (λ z. OfFault z (TellsFault (output_of input.policy sets input.script slice))) is tells in
    subst (λ z. TellsFault (output_of input.policy (input.tables ∷ input.published) input.script z) fault) whole (subst (λ z. TellsFault (output_of input.policy z input.script slice) fault) same told)
