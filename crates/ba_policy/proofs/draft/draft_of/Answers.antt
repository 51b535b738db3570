use Rattle.std.proofs.Common.{◌≡◌, map}
use Rattle.ba_policy.specs.Meaning.{params_in}
use Rattle.ba_policy.specs.Statements.{seen}
use Rattle.ba_policy.proofs.LoopLemmas.{keys_fit_at_end}
use Rattle.ba_policy.proofs.draft.draft_of.Goals as goal

pub returns-clause-keys : goal.returns-clause-keys
returns-clause-keys c =
    let all_are : c.as_slice.result.now ≡ params_in (map seen c.args.statements.now) = cc (c.as_slice.ensures, c.in_ok-all.ensures) in
    keys_fit_at_end c.args.schema.now c.as_slice.result.now (map seen c.args.statements.now) c.add_all.result all_are c.add_all.ensures.exact c.add_all.ensures.keys
