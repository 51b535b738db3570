use Rattle.ba_kernel.proofs.BuildLemmas.{all_at, gives_all, gives_more}
use Rattle.ba_kernel.specs.Effects.{rows_at}
use Rattle.ba_facts.specs.Matches.{term_of}
use Rattle.ba_kernel.specs.Tidy.{HasTerm}
use Rattle.ba_kernel.proofs.cases.terms.operand_row.Goals as goal

pub operand_term-requires : goal.operand_term-requires
operand_term-requires c =
    all_at (HasTerm (rows_at c.args.branch.now c.args.facts.now)) c.args.operands.now c.loop-operand.operand-index c.operand-item.result
    c.requires c.loop-operand-test.true c.operand-item.is

pub loop-operand-preserved : goal.loop-operand-preserved
loop-operand-preserved c =
    gives_more (term_of (rows_at c.args.branch.now c.args.facts.now)) c.args.operands.now c.loop-operand.operand-index c.operand-item.result
    c.loop-operand.row.items c.push.new.self.items c.in_ok-operand_term.field-0 c.loop-operand-test.true c.operand-item.is
    c.loop-operand.invariant c.in_ok-operand_term.ensures c.in_ok-push.ensures.items

pub returns : goal.returns
returns c =
    gives_all (term_of (rows_at c.args.branch.now c.args.facts.now)) c.args.operands.now c.loop-operand.operand-index c.loop-operand.row.items
    c.loop-operand-test.false c.loop-operand.invariant
