use Rattle.std.proofs.Common.{◌≡◌, ◌∷◌}
use Rattle.ba_kernel.specs.Problems.{part_at}
use Rattle.ba_match.proofs.BindingLemmas.{list_step}
use Rattle.ba_match.proofs.bindings.Bindings.+bind_parts.Goals as goal

pub returns-else-not-told : goal.returns-else-not-told
returns-else-not-told t c =
    let at = c.in-Some-Some in
    let ps : c.args.patterns.now ≡ at.pattern.now ∷ at.patterns.now = at.ensures.cases.0 in
    let xs : c.args.parts.now ≡ at.part.now ∷ at.parts.now = at.ensures'.cases.0 in
    list_step part_at c.args.self.now at.pattern.now at.part.now c.args.patterns.now at.patterns.now c.args.parts.now at.parts.now ps xs c.bind_parts.result
    c.bind_part.new.self c.bind_parts.new.self c.in_ok-told-in-Some-Some.told c.if-not-told.false c.in_ok-told-in-Some-Some.ensures c.bind_parts.ensures
