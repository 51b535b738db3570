use Rattle.std.proofs.Common.{ap, arith, length, subst, sym}
use Rattle.std.proofs.lemmas.List.{length_push}
use Rattle.ba_instant.proofs.NextLemmas.{passed, quiet_after, searches_on, waiting_after}
use Rattle.ba_instant.proofs.ToldLemmas.{memory_moves}
use Rattle.ba_instant.specs.ToldSteps.{IsMoved}
use Rattle.ba_instant.proofs.ends.take.Goals as goal

pub moved-requires-clause-passes : goal.moved-requires-clause-passes
moved-requires-clause-passes c = passed c.args.pick c.args.search c.args.due c.requires.taken

pub move_on-requires : goal.move_on-requires
move_on-requires c =
    subst (λ step. IsMoved c.in_ok-then.then step c.beside-waiting.result.memory) (sym c.in_ok-step.ensures)
    (subst (IsMoved c.in_ok-then.then c.args.due.found.step) (sym c.beside-waiting.ensures.memory)
    (memory_moves c.args.search c.in_ok-then.then c.args.due.found.step c.args.before.memory c.requires.before.memory c.in_ok-then.ensures.taken c.in_ok-then.ensures.problem))

pub keep_quiet-requires-clause-waiting : goal.keep_quiet-requires-clause-waiting
keep_quiet-requires-clause-waiting c =
    waiting_after c.args.pick c.args.search c.args.due c.requires.taken c.left_after.ensures.fits c.requires.searches c.in_ok-then.then _ c.in_ok-left.left c.beside-waiting.ensures.below
    c.beside-waiting.ensures.but c.beside-waiting.ensures.agenda c.beside-waiting.ensures.next c.in_ok-left.ensures.left c.in_ok-then.ensures.taken c.in_ok-then.ensures.problem
    c.in_ok-move_on.ensures

pub keep_quiet-requires-clause-quiet : goal.keep_quiet-requires-clause-quiet
keep_quiet-requires-clause-quiet c =
    quiet_after c.args.pick c.args.search c.args.due c.requires.taken c.left_after.ensures.fits c.requires.searches c.in_ok-then.then _ c.quiet_round-quiet.result c.beside-waiting.ensures.below
    c.beside-waiting.ensures.but c.quiet_round-quiet.ensures c.in_ok-then.ensures.taken c.in_ok-then.ensures.problem

pub returns : goal.returns
returns c = record {
  problem = c.in_ok-then.ensures.problem;
  searches = searches_on c.args.pick c.args.search c.args.due c.requires.taken c.in_ok-then.then c.requires.searches c.in_ok-then.ensures.taken c.in_ok-then.ensures.steps c.in_ok-then.ensures.problem;
  waiting_ = c.in_ok-keep_quiet.ensures;
  count = omega (arith, ap length c.in_ok-then.ensures.steps, length_push c.args.search.steps c.args.due.found.step);
}
