use Rattle.ba_store.proofs.ResultLemmas.{is_checked, loads_few, loads_of_policy, loads_strong}
use Rattle.ba_store.proofs.read.read_templates.Goals as goal

pub loaded-requires : goal.loaded-requires
loaded-requires c = is_checked c.checked_links_fit.ensures c.args.policy.now c.requires.views c.requires.tables c.requires.rules

pub returns-clause-of_policy : goal.returns-clause-of_policy
returns-clause-of_policy c = loads_of_policy c.args.policy.now c.args.bytes.now c.loaded.result c.loaded.ensures

pub returns-clause-few : goal.returns-clause-few
returns-clause-few c = loads_few c.args.policy.now c.args.bytes.now c.loaded.result c.loaded.ensures

pub returns-clause-strong : goal.returns-clause-strong
returns-clause-strong c =
    loads_strong c.args.policy.now c.args.bytes.now c.closed_is_strong.ensures
    (is_checked c.checked_links_fit.ensures c.args.policy.now c.requires.views c.requires.tables c.requires.rules) c.loaded.result c.loaded.ensures
