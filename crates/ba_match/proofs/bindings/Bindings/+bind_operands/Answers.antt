use Rattle.std.proofs.Common.{◌≡◌, ◌∷◌}
use Rattle.ba_kernel.specs.Problems.{operand_at}
use Rattle.ba_match.proofs.BindingLemmas.{list_step}
use Rattle.ba_match.proofs.bindings.Bindings.+bind_operands.Goals as goal

pub returns-else-not-told : goal.returns-else-not-told
returns-else-not-told t c =
    let at = c.in-Some-Some in
    let ps : c.args.patterns.now ≡ at.pattern.now ∷ at.patterns.now = at.ensures.cases.0 in
    let xs : c.args.operands.now ≡ at.operand.now ∷ at.operands.now = at.ensures'.cases.0 in
    list_step operand_at c.args.self.now at.pattern.now at.operand.now c.args.patterns.now at.patterns.now c.args.operands.now at.operands.now ps xs c.bind_operands.result
    c.bind_operand.new.self c.bind_operands.new.self c.in_ok-told-in-Some-Some.told c.if-not-told.false c.in_ok-told-in-Some-Some.ensures c.bind_operands.ensures
