use Rattle.std.proofs.Common.{◌≡◌, ◌∷◌}
use Rattle.ba_kernel.specs.Problems.{atom_at}
use Rattle.ba_match.proofs.BindingLemmas.{list_step}
use Rattle.ba_match.proofs.bindings.Bindings.+bind_atoms.Goals as goal

pub returns-else-not-told : goal.returns-else-not-told
returns-else-not-told t c =
    let at = c.in-Some-Some in
    let ps : c.args.patterns.now ≡ at.pattern.now ∷ at.patterns.now = at.ensures.cases.0 in
    let xs : c.args.atoms.now ≡ at.atom.now ∷ at.atoms.now = at.ensures'.cases.0 in
    list_step atom_at c.args.self.now at.pattern.now at.atom.now c.args.patterns.now at.patterns.now c.args.atoms.now at.atoms.now ps xs c.bind_atoms.result
    c.bind_atom.new.self c.bind_atoms.new.self c.in_ok-told-in-Some-Some.told c.if-not-told.false c.in_ok-told-in-Some-Some.ensures c.bind_atoms.ensures
