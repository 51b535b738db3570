use Rattle.std.proofs.Common.{◌≡◌, ◌∷◌, List, ap, map}
use Rattle.std.specs.Prelude.{Some}
use Rattle.ba_model.specs.declared.query.Operand.{Operand}
use Rattle.ba_model.specs.declared.value.Value.{Value}
use Rattle.ba_kernel.specs.Problems.{fixed_value}
use Rattle.ba_template.specs.Found.{with_values}
use Rattle.ba_match.proofs.BindingLemmas.{list_step}
use Rattle.ba_match.proofs.bindings.Bindings.+bind_row.Goals as goal

pub returns-else-not-told : goal.returns-else-not-told
returns-else-not-told t c =
    let at = c.in-Some-Some in
    let ps : c.args.patterns.now ≡ at.pattern.now ∷ at.patterns.now = at.ensures.cases.0 in
    let xs : c.args.row.now ≡ at.value.now ∷ at.row.now = at.ensures'.cases.0 in
    list_step (λ (v : List Value) (x : Operand). fixed_value (with_values c.args.ctx.now v) x) c.args.self.now at.pattern.now (Some at.value.now) c.args.patterns.now
    at.patterns.now (map Some c.args.row.now) (map Some at.row.now) ps (ap (map Some) xs) c.bind_row.result c.bind_value.new.self c.bind_row.new.self
    c.in_ok-told-in-Some-Some.told c.if-not-told.false c.in_ok-told-in-Some-Some.ensures c.bind_row.ensures
