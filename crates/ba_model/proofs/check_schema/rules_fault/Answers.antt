use Rattle.std.proofs.Common.{◌≡◌, ◌<◌, ◌≤◌, All, length, refl, subst, take}
use Rattle.std.proofs.lemmas.List.{take_all}
use Rattle.std.proofs.lemmas.List.Elements.{All-more}
use Rattle.std.proofs.lemmas.Option.{slice_get_read}
use Rattle.std.specs.Prelude.{Some, slice_get}
use Rattle.ba_model.specs.RuleFaults.{RuleFits}
use Rattle.ba_model.specs.RuleFaults.IsSchemaFault.{of_rule, too_many}
use Rattle.ba_model.proofs.check_schema.rules_fault.Goals as goal

pub returns-then-rules-gt-MAX_RULES-clause-fault : goal.returns-then-rules-gt-MAX_RULES-clause-fault
returns-then-rules-gt-MAX_RULES-clause-fault c = too_many c.requires (subst (λ rules. 64 < length rules) c.as_slice-rules.ensures c.if-rules-gt-MAX_RULES.true)

pub returns-in-Some-clause-fault : goal.returns-in-Some-clause-fault
returns-in-Some-clause-fault c =
    let rules = c.as_slice-rules.result.now in
    let n = c.loop-number.number in
    let rule = c.index-rules-number.result in
    of_rule c.requires (subst (λ rs. length rs ≤ 64) c.as_slice-rules.ensures c.if-rules-gt-MAX_RULES.false) (record {
      rule = rule;
      there = subst (λ rs. slice_get rs n ≡ Some rule) c.as_slice-rules.ensures (slice_get_read rules (length rules) n rule refl c.loop-number-test.true c.index-rules-number.is);
      is = c.in-Some.ensures;
      before = subst (λ rs. All (RuleFits c.args.schema.now) (take n rs)) c.as_slice-rules.ensures c.loop-number.invariant;
    })

pub loop-number-preserved : goal.loop-number-preserved
loop-number-preserved c =
    All-more (RuleFits c.args.schema.now) c.as_slice-rules.result.now c.loop-number.number c.index-rules-number.result c.loop-number-test.true c.loop-number.invariant
    (subst (RuleFits c.args.schema.now) c.index-rules-number.is c.in_default.ensures)

pub returns-clause-ok : goal.returns-clause-ok
returns-clause-ok c = record {
  tables = c.requires;
  rules = record {
    few = subst (λ rules. length rules ≤ 64) c.as_slice-rules.ensures c.if-rules-gt-MAX_RULES.false;
    fit =
        subst (All (RuleFits c.args.schema.now)) c.as_slice-rules.ensures
        (subst (All (RuleFits c.args.schema.now)) (take_all c.loop-number.number c.as_slice-rules.result.now c.loop-number-test.false) c.loop-number.invariant);
  };
}
