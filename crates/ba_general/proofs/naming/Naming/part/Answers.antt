use Rattle.std.proofs.Common.{subst}
use Rattle.ba_general.proofs.NamesLemmas.{part_named}
use Rattle.ba_general.specs.Patterns.{NamesAtoms, NamesOperands}
use Rattle.ba_general.proofs.naming.Naming.part.Goals as goal

pub returns-clause-names : goal.returns-clause-names
returns-clause-names c =
    part_named c.args.self.now c.operands.new.self c.atoms.new.self c.args.part.now (record { from = c.in_ok-copy.field-0; conds = c.in_ok-conds.conds; head = c.in_ok-head.head })
    c.in_ok-copy.ensures
    (subst (λ xs. NamesOperands c.args.self.now xs c.operands.new.self c.in_ok-head.head) c.as_slice.ensures c.in_ok-head.ensures)
    (subst (λ xs. NamesAtoms c.operands.new.self xs c.atoms.new.self c.in_ok-conds.conds) c.as_slice-2.ensures c.in_ok-conds.ensures.names)
