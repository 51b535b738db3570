use Rattle.ba_general.proofs.NamesLemmas.{atom_by_two, two_repeats}
use Rattle.ba_general.proofs.naming.Naming.two_sided.Goals as goal

pub returns-clause-names : goal.returns-clause-names
returns-clause-names c =
    atom_by_two c.args.self.now c.operand.new.self c.operand-2.new.self c.args.atom.now c.in_ok-left.left c.in_ok-right.right c.requires.two c.in_ok-left.ensures c.in_ok-right.ensures

pub returns-clause-repeats : goal.returns-clause-repeats
returns-clause-repeats c = two_repeats c.args.atom.now.op c.in_ok-left.left c.in_ok-right.right c.requires.two
