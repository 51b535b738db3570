use Rattle.std.proofs.Common.{◌≡◌, ◌∙◌, ◌++◌, List, ap, length, sym, take}
use Rattle.std.proofs.Math.Seq.{take-append_seam}
use Rattle.ba_comply.specs.declared.trace.TraceEntry.{TraceEntry}
use Rattle.ba_live.proofs.BookLemmas.{after_error}
use Rattle.ba_live.specs.declared.open.Open.{Open}
use Rattle.ba_live.proofs.open.Open.record.Goals as goal

pub returns-in_err-push-clause-err : goal.returns-in_err-push-clause-err
returns-in_err-push-clause-err c =
    let old = c.args.self.now in
    let now : Open = c.loop-entry.self in
    let done : List TraceEntry = c.loop-entry.yielded in
    let rest = c.loop-entry.entry-iterator.rest.items in
    let front : take (length done) c.args.entries.items ≡ done = ap (take (length done)) c.loop-entry.invariant.1 ∙ take-append_seam done rest in
    after_error c.from_residual.result
    (record {
      count = length done;
      new_is =
          ap (λ t. record now { trace = t }) c.in_err-push.ensures.err
          ∙ (c.loop-entry.invariant.0 ∙ ap (λ es. record old { trace = old.trace ++ es }) (sym front));
    })
