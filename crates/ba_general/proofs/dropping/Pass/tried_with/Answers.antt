use Rattle.std.proofs.Common.{[], subst, sym}
use Rattle.ba_kernel.specs.Courses.{ProblemFits}
use Rattle.ba_kernel.specs.declared.problem.Problem.{Problem}
use Rattle.ba_model.specs.Fit.{AtomFits, kinds_of}
use Rattle.ba_general.proofs.FullFitsLemmas.{assuming_fits, kept_fit}
use Rattle.ba_general.specs.Conditions.{AtomsFit}
use Rattle.ba_general.proofs.dropping.Pass.tried_with.Goals as goal

pub proof_by-requires-clause-fits : goal.proof_by-requires-clause-fits
proof_by-requires-clause-fits c =
    let g : Problem = c.args.self.now.pattern.now.problem in
    subst ProblemFits (sym c.in_ok-problem.ensures)
    (assuming_fits g c.in_ok-assumed.assumed c.requires.fits.problem
    (subst (AtomsFit g) (sym c.in_ok-assumed.ensures)
    (kept_fit (AtomFits g.policy.schema (kinds_of g.policy.params) g.vars []) c.args.self.now.atoms.items c.args.kept.now.items c.requires.atoms)))
