use Rattle.std.proofs.Common.{◌≡◌, ℤ, rules, subst}
use Rattle.std.proofs.lemmas.Int.{to_z-of_z}
use Rattle.std.specs.BTreeSet.{contains}
use Rattle.std.specs.Int.{w128}
use Rattle.std.specs.Ordering.{int_cmp}
use mir.Val.{SFits}
use Rattle.ba_refute.proofs.UsedLemmas.{has_told}
use Rattle.ba_refute.proofs.used.Used.has.Goals as goal

pub returns : goal.returns
returns c =
    let number : ℤ = c.args.number in
    let fits : SFits w128 number = search rules in
    let is : c.contains.result ≡ contains int_cmp c.self.inside.numbers number =
    subst (λ (z : ℤ). c.contains.result ≡ contains int_cmp c.self.inside.numbers z) (to_z-of_z w128 number fits) c.contains.ensures in
    rw (← c.self.view_is) (has_told c.self.inside.numbers number c.contains.result is)
