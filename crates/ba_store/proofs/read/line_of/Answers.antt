use Rattle.std.proofs.lemmas.Result.{err_from_is_err_and}
use Rattle.ba_store.proofs.LineLemmas.{line_loads, line_unread}
use Rattle.ba_store.proofs.LoadLemmas.{draft_fits, draft_passes, widened_ok}
use Rattle.ba_store.specs.Loads.{at_line}
use Rattle.ba_store.specs.Reading.{draft_of}
use Rattle.ba_store.proofs.read.line_of.Goals as goal

pub template_at-requires : goal.template_at-requires
template_at-requires c =
    let policy = c.args.policy.now in
    let draft = c.in_ok-draft.draft in
    let passes = draft_passes policy c.args.bytes.now draft (widened_ok (at_line c.args.line) (draft_of policy c.args.bytes.now) draft c.in_ok-draft.ensures) in
    record { fits = draft_fits policy draft.problem draft.steps c.requires passes; few = passes.few_steps; stands = passes.stands }

pub returns : goal.returns
returns c = line_loads c.args.policy.now c.args.line c.args.bytes.now c.in_ok-draft.draft c.template_at.result c.in_ok-draft.ensures c.template_at.ensures

pub returns-in_err-draft : goal.returns-in_err-draft
returns-in_err-draft c =
    let p = err_from_is_err_and c.from_residual.result c.from_residual.ensures.1 in
    rw (p.1, p.2) (line_unread c.args.policy.now c.args.line c.args.bytes.now c.in_err-draft.field-0.0 c.in_err-draft.ensures)
