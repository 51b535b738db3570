use Rattle.ba_top.proofs.KeyLemmas.{legal_keys}
use Rattle.ba_top.proofs.top.run_input.Goals as goal

pub end_run-requires-clause-many : goal.end_run-requires-clause-many
end_run-requires-clause-many g c = c.in-Ok.ensures.many

pub end_run-requires-clause-keys : goal.end_run-requires-clause-keys
end_run-requires-clause-keys g c = legal_keys c.args.input.now c.in-Ok.journal c.in-Ok.ensures.legal

pub returns-in-Ok : goal.returns-in-Ok
returns-in-Ok g c = (c.in-Ok.ensures.legal, c.in-Ok.ensures.headline, c.end_run.ensures.ends, c.end_run.ensures.closed, c.end_run.ensures.written)
