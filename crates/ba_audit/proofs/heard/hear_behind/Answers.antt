use Rattle.ba_audit.proofs.ReadLemmas.{form_within}
use Rattle.ba_audit.proofs.heard.hear_behind.Goals as goal

pub hear_read-requires-clause-within : goal.hear_read-requires-clause-within
hear_read-requires-clause-within c = form_within c.args.policy.now c.args.entry.now c.in-Read.is c.args.line.now c.requires.form
