use Rattle.std.proofs.Common.{subst}
use Rattle.std.specs.Prelude.{IfErr}
use Rattle.ba_model.specs.Readings.{OfFault}
use Rattle.ba_model.specs.SchemaFaults.{IsFirstFault}
use Rattle.ba_model.proofs.RuleLemmas.{told_of_tables}
use Rattle.ba_model.proofs.check_schema.draft_tables_fault.Goals as goal

pub returns-clause-fault : goal.returns-clause-fault
returns-clause-fault c =
    told_of_tables c.args.draft.now c.tables_fault.result
    (subst (λ tables. IfErr c.tables_fault.result (λ e. OfFault e (λ fault. IsFirstFault fault tables))) c.as_slice.ensures c.tables_fault.ensures.fault)
