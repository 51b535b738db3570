use Rattle.std.proofs.Common.{◌≡◌, ◌∙◌, sym, ap}
use Rattle.std.specs.Prelude.{Some, None, slice_get}
use Rattle.ba_match.proofs.BindingLemmas.{bind_fixed, bind_past}
use Rattle.ba_match.proofs.bindings.Bindings.is_fixed_to.Goals as goal

pub returns-in-None : goal.returns-in-None
returns-in-None c =
    let e : slice_get c.args.self.now c.args.n ≡ None = cc (c.in-None.ensures) in
    bind_past c.args.self.now c.args.n c.args.value.now c.args.self.now e

pub returns-in-Some-None : goal.returns-in-Some-None
returns-in-Some-None c = cc (c.in-Some-None.ensures, c.in-Some-None.field-0-is)

pub returns-in-Some-Some : goal.returns-in-Some-Some
returns-in-Some-Some c =
    let e : slice_get c.args.self.now c.args.n ≡ Some (Some c.in-Some-Some.fixed) = sym c.in-Some-Some.ensures ∙ ap Some c.in-Some-Some.field-0-is in
    bind_fixed c.args.self.now c.args.n c.args.value.now c.in-Some-Some.fixed c.same.result e c.same.ensures.0 c.same.ensures.1
