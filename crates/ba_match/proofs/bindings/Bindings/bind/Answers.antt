use Rattle.ba_match.proofs.BindingLemmas.{bind_free}
use Rattle.ba_match.proofs.bindings.Bindings.bind.Goals as goal

pub returns : goal.returns
returns c =
    bind_free c.args.self.now c.args.n c.args.value.now c.in_ok-value.value c.fix.new.self c.in_default.ensures c.in_ok-value.ensures c.fix.ensures
