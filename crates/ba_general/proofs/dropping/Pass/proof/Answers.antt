use Rattle.std.proofs.Common.{◌≡◌, sym, ◌∙◌}
use Rattle.std.specs.Cmp.{booleans_Decides}
use Rattle.std.specs.Cmp.Lexicographic.{pointwise_decides}
use Rattle.ba_general.proofs.GuessLemmas.{guess_proof}
use Rattle.ba_general.proofs.dropping.Pass.proof.Goals as goal

pub returns-then-eq : goal.returns-then-eq
returns-then-eq c =
    let self = c.args.self.now in
    let same : c.in-Some-guess.field-0.kept.items ≡ c.args.self.now.kept.items =
    (pointwise_decides booleans_Decides c.in-Some-guess.field-0.kept.items c.args.self.now.kept.items).0 (sym c.eq.ensures ∙ c.if-eq.true) in
    guess_proof self.pattern.now.problem self.steps.now self.atoms.items self.kept.items c.args.guess c.in-Some-guess.field-0 c.in-Some-guess.is same c.requires.guess
