use Rattle.std.proofs.Common.{sym}
use Rattle.ba_policy.proofs.ReadingLemmas.{kept_small}
use Rattle.ba_policy.proofs.draft.finish.Goals as goal

pub returns-clause-small : goal.returns-clause-small
returns-clause-small c = kept_small c.args.schema.now c.args.draft (sym c.in_default.ensures)
