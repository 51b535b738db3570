use Rattle.std.proofs.Common.{◌≡◌, ◌<◌, ◌≤◌, ◌++◌, ap, arith, length, sym, ◌∙◌}
use Rattle.ba_general.proofs.DroppingLemmas.{kept_more, kept_whole}
use Rattle.ba_general.specs.Dropping.{atom_if}
use Rattle.ba_general.proofs.dropping.Pass.kept_atoms.Goals as goal

pub loop-n-preserved : goal.loop-n-preserved
loop-n-preserved c =
    let wide : length c.args.kept.now.items ≡ length c.args.self.now.atoms.items = c.requires in
    let below : c.loop-n.n < length c.args.self.now.atoms.items = omega (arith, c.len-n-end.ensures, c.args.self.now.atoms.ok.0) in
    c.in_ok-add_if.ensures ∙
    (ap (λ xs. xs ++ atom_if c.index.result.now c.index-in-loop-n.result.now) c.loop-n.invariant ∙
    sym (kept_more c.args.self.now.atoms.items c.args.kept.now.items c.loop-n.n c.index.result.now c.index-in-loop-n.result.now wide below c.index.ensures c.index-in-loop-n.ensures))

pub returns : goal.returns
returns c =
    let wide : length c.args.kept.now.items ≡ length c.args.self.now.atoms.items = c.requires in
    let past : length c.args.self.now.atoms.items ≤ c.loop-n.n = omega (arith, c.len-n-end.ensures, c.args.self.now.atoms.ok.0) in
    c.loop-n.invariant ∙ kept_whole c.args.self.now.atoms.items c.args.kept.now.items c.loop-n.n wide past
