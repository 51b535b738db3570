use Rattle.std.proofs.Common.{map}
use Rattle.ba_policy.proofs.FitLemmas.{key_keeps_views, param_given, param_keeps_keys, view_keeps_keys}
use Rattle.ba_policy.proofs.draft.add.Goals as goal

pub returns-in-Param-clause-fits : goal.returns-in-Param-clause-fits
returns-in-Param-clause-fits c = param_given c.args.schema.now c.args.draft.now c.add_param.new.draft c.in-Param.name.now c.in-Param.kind c.add_param.result c.add_param.ensures c.requires.views

pub returns-in-Param-clause-keys_fit : goal.returns-in-Param-clause-keys_fit
returns-in-Param-clause-keys_fit c = param_keeps_keys c.args.schema.now c.args.all.now c.args.draft.now c.add_param.new.draft c.in-Param.name.now c.in-Param.kind c.add_param.result c.add_param.ensures c.requires.keys

pub returns-in-View-clause-keys_fit : goal.returns-in-View-clause-keys_fit
returns-in-View-clause-keys_fit c = view_keeps_keys c.args.schema.now c.args.all.now c.args.draft.now c.add_view.new.draft c.in-View.name.now c.in-View.words.now c.add_view.result c.add_view.ensures.exact c.requires.keys

pub returns-in-Key-clause-fits : goal.returns-in-Key-clause-fits
returns-in-Key-clause-fits c =
    key_keeps_views c.args.schema.now c.args.all.now c.args.draft.now c.add_key.new.draft c.in-Key.name.now c.as_slice.result.now (map (λ words. words.now) c.as_slice-in-Key.result.now) c.add_key.result c.add_key.ensures.exact c.requires.views
