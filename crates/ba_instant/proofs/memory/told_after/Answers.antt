use Rattle.std.proofs.Common.{◌≡◌, ◌∙◌, subst, sym}
use Rattle.std.specs.Prelude.{Some}
use Rattle.ba_instant.proofs.ToldLemmas.{none_told, on_it, stays_there}
use Rattle.ba_instant.specs.ToldSteps.{on_branch}
use Rattle.ba_kernel.specs.Courses.{IsOpen}
use Rattle.ba_instant.proofs.memory.told_after.Goals as goal

pub add_told-requires : goal.add_told-requires
add_told-requires c = λ b open_.
    let is : on_branch c.args.number c.args.step.now ≡ Some c.in-Some.here = sym c.in_ok-here.ensures ∙ c.in-Some.is in
    stays_there c.args.then.now.problem b c.args.number c.args.step.now c.in-Some.here c.args.told is
    (c.requires b (subst (λ n. IsOpen c.args.then.now.slots n b) (on_it c.args.number c.args.step.now c.in-Some.here is) open_))

pub returns-in_ok-add_told-in-Some : goal.returns-in_ok-add_told-in-Some
returns-in_ok-add_told-in-Some c = λ b open_.
    let is : on_branch c.args.number c.args.step.now ≡ Some c.in-Some.here = sym c.in_ok-here.ensures ∙ c.in-Some.is in
    c.in_ok-add_told-in-Some.ensures b (subst (λ n. IsOpen c.args.then.now.slots n b) (sym (on_it c.args.number c.args.step.now c.in-Some.here is)) open_)

pub returns-then-is_none : goal.returns-then-is_none
returns-then-is_none c = λ b open_. none_told c.args.then.now.problem b c.none.result c.none.ensures
