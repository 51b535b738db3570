use Rattle.ba_match.proofs.TestedLemmas.{from_of, lent_conds, part_of, untold}
use Rattle.ba_match.proofs.tested.part_becomes.Goals as goal

pub returns-then-not-same : goal.returns-then-not-same
returns-then-not-same c =
    untold c.same.result c.if-not-same.true (λ p. c.same.ensures.1 (from_of c.args.values.now c.args.pattern.now c.args.part.now p))

pub returns-then-not-atoms_become : goal.returns-then-not-atoms_become
returns-then-not-atoms_become c =
    untold c.atoms_become.result c.if-not-atoms_become.true
    (λ p. c.atoms_become.ensures.1 (lent_conds c.args.values.now c.args.pattern.now c.args.part.now c.as_slice.result.now c.as_slice-2.result.now c.as_slice.ensures c.as_slice-2.ensures p))

pub returns : goal.returns
returns c =
    part_of c.args.values.now c.args.pattern.now c.args.part.now c.as_slice.result.now c.as_slice-2.result.now c.as_slice.ensures c.as_slice-2.ensures
    c.as_slice-3.result.now c.as_slice-4.result.now c.as_slice-3.ensures c.as_slice-4.ensures c.operands_become.result
    (c.same.ensures.0 c.if-not-same.false) (c.atoms_become.ensures.0 c.if-not-atoms_become.false) c.operands_become.ensures
