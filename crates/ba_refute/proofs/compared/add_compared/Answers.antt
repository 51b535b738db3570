use Rattle.ba_refute.proofs.ComparedLemmas.{more_both, on_ok}
use Rattle.ba_refute.proofs.compared.add_compared.Goals as goal

pub returns : goal.returns
returns c =
    on_ok c.add_class-2.result
    (λ right. more_both c.args.known.now c.args.atom.now c.args.found.now.keys c.add_class.new.found.keys c.add_class-2.new.found.keys c.in_ok-add_class.ensures right)
    c.add_class-2.ensures
