use Rattle.std.proofs.Common.{◌∙◌, [], ◌∷◌, ap, subst, sym}
use Rattle.ba_comply.specs.declared.trace.TraceEntry.{TraceEntry}
use Rattle.ba_audit.specs.Tests.{MeetsAll, MeetsAnswer, TellsFirst}
use Rattle.ba_wire.specs.declared.audit.AuditReason.TheVariants.{By, Rows, Proof}
use Rattle.ba_audit.proofs.AskLemmas.{added_fits}
use Rattle.ba_audit.proofs.heard.hear_answer.Goals as goal

pub returns-in_ok-rows-in-None-clause-heard : goal.returns-in_ok-rows-in-None-clause-heard
returns-in_ok-rows-in-None-clause-heard c =
    let policy = c.args.policy.now in
    let asker = c.args.asker.now in
    let q = c.args.query in
    let it = c.args.evidence.now in
    let rows = c.args.rows.now in
    let all : MeetsAll (MeetsAnswer policy asker q it rows) = subst (TellsFirst (MeetsAnswer policy asker q it rows)) c.in-None.is c.in_ok-unmet.ensures.first in
    let same = c.in_ok-unmet.ensures.same c.in-None.is in (
      all,
      ap (λ r. let entry : TraceEntry = record { query = q; rows = r } in entry ∷ []) (c.in_ok-rows-in-None.ensures ∙ sym same),
      (all.meets Rows, c.evidence_is_strong.ensures policy asker q it c.requires.fits (all.meets By) (all.meets Proof)),
    )

pub returns-in_ok-rows-in-None-clause-fitting : goal.returns-in_ok-rows-in-None-clause-fitting
returns-in_ok-rows-in-None-clause-fitting c =
    let policy = c.args.policy.now in
    let asker = c.args.asker.now in
    let q = c.args.query in
    let rows = c.args.rows.now in
    let all : MeetsAll (MeetsAnswer policy asker q c.args.evidence.now rows) = subst (TellsFirst (MeetsAnswer policy asker q c.args.evidence.now rows)) c.in-None.is c.in_ok-unmet.ensures.first in
    added_fits c.answers_are_records.ensures policy asker q rows c.in_ok-rows-in-None.rows (c.in_ok-rows-in-None.ensures ∙ sym (c.in_ok-unmet.ensures.same c.in-None.is)) c.requires.fits c.requires.asker (all.meets Rows)
