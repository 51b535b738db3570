use Rattle.std.proofs.Common.{[], subst, IsTrue}
use Rattle.ba_model.specs.QueryFaults.{HasNoFault, IsFirstFault}
use Rattle.ba_model.specs.RuleFaults.IsRuleFault.{left, right, heads}
use Rattle.ba_model.proofs.QueryLemmas.{query_from_no_fault}
use Rattle.ba_model.proofs.check_schema.rule_fault.Goals as goal

pub returns-in-Err : goal.returns-in-Err
returns-in-Err c = left (subst (λ parts. IsFirstFault c.in-Err.fault c.args.schema.now [] [] parts) c.as_slice.ensures c.in-Err.ensures.first)

pub returns-in-Err-fault_of : goal.returns-in-Err-fault_of
returns-in-Err-fault_of c =
    right (query_from_no_fault c.args.schema.now [] [] c.args.rule.now.left (subst (λ parts. HasNoFault c.args.schema.now [] [] parts) c.as_slice.ensures c.in_default.ensures.ok))
    (subst (λ parts. IsFirstFault c.in-Err-fault_of.fault c.args.schema.now [] [] parts) c.as_slice-2.ensures c.in-Err-fault_of.ensures.first)

pub heads_match-requires-clause-left : goal.heads_match-requires-clause-left
heads_match-requires-clause-left c =
    query_from_no_fault c.args.schema.now [] [] c.args.rule.now.left (subst (λ parts. HasNoFault c.args.schema.now [] [] parts) c.as_slice.ensures c.in_default.ensures.ok)

pub heads_match-requires-clause-right : goal.heads_match-requires-clause-right
heads_match-requires-clause-right c =
    query_from_no_fault c.args.schema.now [] [] c.args.rule.now.right (subst (λ parts. HasNoFault c.args.schema.now [] [] parts) c.as_slice-2.ensures c.in_default-fault_of.ensures.ok)

pub returns-then-heads_match : goal.returns-then-heads_match
returns-then-heads_match c = c.heads_match.ensures.0 c.if-heads_match.true

pub returns-else-heads_match : goal.returns-else-heads_match
returns-else-heads_match c =
    heads
    (query_from_no_fault c.args.schema.now [] [] c.args.rule.now.left (subst (λ parts. HasNoFault c.args.schema.now [] [] parts) c.as_slice.ensures c.in_default.ensures.ok))
    (query_from_no_fault c.args.schema.now [] [] c.args.rule.now.right (subst (λ parts. HasNoFault c.args.schema.now [] [] parts) c.as_slice-2.ensures c.in_default-fault_of.ensures.ok))
    (λ h. let told : IsTrue c.heads_match.result = c.heads_match.ensures.1 h in let not = c.if-heads_match.false in cc)
