-- What the parts of an image say together.
use Rattle.std.proofs.Common.{◌≡◌, ◌∙◌, ℕ, ℤ, List, All, length, Result, Ok, Err, Option, Some, None, subst, sym, refl}
use Rattle.std.specs.Result.{IfOk}
use Rattle.ba_facts.specs.declared.branch.Branch.{Branch}
use Rattle.ba_kernel.specs.declared.problem.Problem.{Problem}
use Rattle.ba_refute.specs.Counterexamples.{IsPairStored}
use Rattle.ba_refute.specs.Images.{IsImage}
use Rattle.ba_refute.specs.OfEquations.{AreSmall}
use Rattle.ba_refute.specs.Refutals.{IsCounterexampleTo, IsTested, TellsTried}
use Rattle.ba_refute.specs.declared.clause.Clause.TheVariants.{Value as ValueClause}
use Rattle.ba_refute.specs.declared.clause.Counterexample.{Counterexample}
use Rattle.ba_refute.specs.declared.question.Question.{Question}
use Rattle.ba_refute.specs.declared.refutal.Tried.{Tried}
use Rattle.ba_refute.specs.declared.refutal.Tried.TheVariants.{Pair, Stuck}

-- a number past 64 bits is the first that the image doesn't meet
pub stuck_by_value : (asked : Question) (p : Problem) (b : Branch) (it : Counterexample) → IsImage p asked.context.now b it → AreSmall p b → (IsPairStored it → ⊥) → TellsTried asked p b (Stuck ValueClause)
stuck_by_value asked p b it image small wide = (it, image, record { unmet = wide; before = λ other less. absurd (omega (Rattle.std.proofs.Common.arith, less)) }, small)

-- what is tested of the pair is so of the image
pub tried_by_test : {E : Type 0} (asked : Question) (p : Problem) (b : Branch) (it : Counterexample) (tested : Result Tried E) → IsImage p asked.context.now b it → AreSmall p b → IfOk tested (IsTested asked it) → IfOk tested (TellsTried asked p b)
tried_by_test asked p b it (Err e) image small h = h
tried_by_test asked p b it (Ok (Pair found)) image small h = (subst (IsImage p asked.context.now b) (sym h.0) image, subst (IsCounterexampleTo asked) (sym h.0) h.1)
tried_by_test asked p b it (Ok (Stuck clause)) image small h = (it, image, h, small)
