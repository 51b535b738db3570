use Rattle.std.proofs.Common.{Err}
use Rattle.std.proofs.lemmas.Result.{err_from_is_err_and}
use Rattle.ba_plan.specs.declared.stop.Stop.TheVariants.{NoMemory}
use Rattle.ba_input.proofs.InputLemmas.{sets_count, sets_err, sets_fit, sets_memory, sets_step}
use Rattle.ba_input.proofs.run_input.read_sets.Goals as goal

pub returns-in_err-found-clause-follows : goal.returns-in_err-found-clause-follows
returns-in_err-found-clause-follows g c =
    let seen = g.F.Files.seen in
    let before = c.loop-entry in
    let p = err_from_is_err_and c.from_residual.result c.from_residual.ensures.1 in
    let e = c.in_err-found.field-0.0 in
    rw (p.1, p.2) (before.invariant.follows (seen c.read_set.new.files) (Err e)
    (sets_err c.args.schema.now c.args.entries.now before.sets before.entry-index c.entry-item.result (seen before.files) (seen c.read_set.new.files) e c.loop-entry-test.true c.entry-item.is c.in_err-found.ensures.follows))

pub returns-in_err-keep_found-clause-follows : goal.returns-in_err-keep_found-clause-follows
returns-in_err-keep_found-clause-follows g c =
    let seen = g.F.Files.seen in
    let before = c.loop-entry in
    let p = err_from_is_err_and c.from_residual-in_err-keep_found.result c.from_residual-in_err-keep_found.ensures.1 in
    rw (p.1, p.2) (before.invariant.follows (seen c.read_set.new.files) (Err NoMemory)
    (sets_memory c.args.schema.now c.args.entries.now before.sets before.entry-index c.entry-item.result c.in_ok-found.found (seen before.files) (seen c.read_set.new.files) c.loop-entry-test.true c.entry-item.is c.in_ok-found.ensures.follows))

pub loop-entry-preserved : goal.loop-entry-preserved
loop-entry-preserved g c =
    let seen = g.F.Files.seen in
    let before = c.loop-entry in record {
      follows = λ t r h.
          before.invariant.follows t r
          (sets_step c.args.schema.now c.args.entries.now before.sets c.keep_found.new.sets before.entry-index c.entry-item.result c.in_ok-found.found (seen before.files) (seen c.read_set.new.files) t r
          c.loop-entry-test.true c.entry-item.is c.in_ok-found.ensures.follows c.in_ok-keep_found.ensures h);
      sets = sets_fit c.args.schema.now before.sets c.keep_found.new.sets c.in_ok-found.found before.invariant.sets c.in_ok-found.ensures.set c.in_ok-keep_found.ensures;
      count = sets_count c.args.entries.now before.sets c.keep_found.new.sets before.entry-index c.entry-item.result c.in_ok-found.found c.loop-entry-test.true c.entry-item.is before.invariant.count c.in_ok-found.ensures.count c.in_ok-keep_found.ensures;
    }
