use Rattle.std.proofs.Common.{subst, sym, ◌∙◌}
use Rattle.std.specs.Prelude.{◌↔◌}
use Rattle.ba_general.proofs.AtOnceLemmas.{proof_told}
use Rattle.ba_general.proofs.WholePassLemmas.{all_fit}
use Rattle.ba_general.proofs.OneFullLemmas.{accepted_fully}
use Rattle.ba_general.specs.Conditions.{AtomsFit, IsAcceptedFully}
use Rattle.ba_general.specs.Dropping.{IsAccepted, kept_atoms}
use Rattle.ba_general.specs.Patterns.{assuming}
use Rattle.ba_general.proofs.dropping.is_accepted.Goals as goal

pub tried-requires-clause-atoms : goal.tried-requires-clause-atoms
tried-requires-clause-atoms c =
    let pass = c.in_ok-pass.pass in
    subst (λ p. AtomsFit p.now.problem c.in_ok-pass.pass.atoms.items) (sym c.in_ok-pass.ensures.of.0)
    (all_fit c.args.pattern.now pass.atoms.items pass.ends c.requires.fits c.in_ok-pass.ensures.full.full)

pub returns : goal.returns
returns c =
    let pass = c.in_ok-pass.pass in
    let it = c.args.pattern.now in
    let all = c.in_ok-pass.ensures in
    let both : IsAccepted c.in_ok-pass.pass.pattern.now.problem c.in_ok-pass.pass.steps.now (kept_atoms c.in_ok-pass.pass.atoms.items c.in_ok-pass.pass.kept.items)
    ↔ IsAcceptedFully c.args.pattern.now.problem c.args.pattern.now.operands c.args.steps.now =
    subst (λ p. IsAccepted p.now.problem c.in_ok-pass.pass.steps.now (kept_atoms c.in_ok-pass.pass.atoms.items c.in_ok-pass.pass.kept.items)
    ↔ IsAcceptedFully c.args.pattern.now.problem c.args.pattern.now.operands c.args.steps.now) (sym all.of.0)
    (subst (λ s. IsAccepted c.args.pattern.now.problem s.now (kept_atoms c.in_ok-pass.pass.atoms.items c.in_ok-pass.pass.kept.items)
    ↔ IsAcceptedFully c.args.pattern.now.problem c.args.pattern.now.operands c.args.steps.now) (sym all.of.1)
    (accepted_fully it.problem it.operands c.args.steps.now pass.atoms.items pass.kept.items pass.ends all.full)) in
    let told = proof_told (assuming c.in_ok-pass.pass.pattern.now.problem (kept_atoms c.in_ok-pass.pass.atoms.items c.in_ok-pass.pass.kept.items)) c.in_ok-pass.pass.steps.now
    c.in_ok-proof.proof c.in_ok-proof.ensures in
    ((λ yes. both.0 (told.0 (sym c.is_some.ensures ∙ yes))), (λ accepted. c.is_some.ensures ∙ told.1 (both.1 accepted)))
