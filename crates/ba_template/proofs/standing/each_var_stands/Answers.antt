use Rattle.std.proofs.Common.{◌≡◌, ◌∙◌, arith, below_more, refl, sym, true}
use Rattle.ba_template.proofs.StandLemmas.{problem_decides}
use Rattle.ba_template.specs.Standing.{in_problem}
use Rattle.ba_template.proofs.standing.each_var_stands.Goals as goal

pub returns-then-not-in_problem : goal.returns-then-not-in_problem
returns-then-not-in_problem c = (
  λ e. absurd (cc),
  λ h. let stands : in_problem c.loop-n.n c.args.problem.now ≡ true =
      (problem_decides c.loop-n.n c.args.problem.now).1 (h.stands c.loop-n.n (omega arith)) in cc,
)

pub loop-n-preserved : goal.loop-n-preserved
loop-n-preserved c = below_more _ _ c.loop-n.invariant (sym c.in_problem.ensures ∙ c.if-not-in_problem.false)

pub returns : goal.returns
returns c = (
  λ e. record {
    stands = λ n below. (problem_decides n c.args.problem.now).0 (c.loop-n.invariant n (omega arith));
  },
  λ h. refl,
)
