use Rattle.ba_general.proofs.NamesLemmas.{atom_by_one, one_repeats}
use Rattle.ba_general.proofs.naming.Naming.one_sided.Goals as goal

pub returns-clause-names : goal.returns-clause-names
returns-clause-names c =
    atom_by_one c.args.self.now c.operand.new.self c.args.atom.now c.in_ok-left.left c.in_ok-right.right c.requires.one c.requires.asked c.in_ok-right.ensures c.in_ok-left.ensures

pub returns-clause-repeats : goal.returns-clause-repeats
returns-clause-repeats c = one_repeats c.args.atom.now.op c.in_ok-left.left c.in_ok-right.right c.in_ok-right.ensures
