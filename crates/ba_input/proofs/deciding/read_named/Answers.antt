use Rattle.std.proofs.Common.{Err, Ok}
use Rattle.std.proofs.lemmas.Result.{err_from_is_err_and}
use Rattle.ba_input.proofs.DecidingLemmas.{named_err, named_for, named_ok}
use Rattle.ba_input.proofs.deciding.read_named.Goals as goal

pub returns-in_err-policy-clause-reads : goal.returns-in_err-policy-clause-reads
returns-in_err-policy-clause-reads g c =
    let seen = g.F.Files.seen in
    let p = err_from_is_err_and c.from_residual.result c.from_residual.ensures.1 in
    let e = c.in_err-policy.field-0.0 in
    rw (p.1, p.2) (named_err c.args.named.now c.as_str.result.now c.as_str-2.result.now (seen c.args.files.now) (seen c.read_policy.new.files) e c.as_str.ensures c.as_str-2.ensures c.in_err-policy.ensures.follows)

pub returns-in_err-loaded-clause-reads : goal.returns-in_err-loaded-clause-reads
returns-in_err-loaded-clause-reads g c =
    let seen = g.F.Files.seen in
    let p = err_from_is_err_and c.from_residual-in_err-loaded.result c.from_residual-in_err-loaded.ensures.1 in
    let e = c.in_err-loaded.field-0.0 in
    rw (p.1, p.2) (named_ok c.args.named.now c.as_str.result.now c.as_str-2.result.now (seen c.args.files.now) (seen c.read_policy.new.files) (seen c.read_given.new.files) c.in_ok-policy.policy (Err e) c.as_str.ensures c.as_str-2.ensures c.in_ok-policy.ensures.follows c.in_err-loaded.ensures.loads)

pub returns-clause-reads : goal.returns-clause-reads
returns-clause-reads g c =
    let seen = g.F.Files.seen in
    named_for c.args.target c.args.named.now (seen c.args.files.now) (seen c.read_given.new.files) c.in_ok-policy.policy c.in_ok-loaded.loaded c.requires.target
    (named_ok c.args.named.now c.as_str.result.now c.as_str-2.result.now (seen c.args.files.now) (seen c.read_policy.new.files) (seen c.read_given.new.files) c.in_ok-policy.policy (Ok c.in_ok-loaded.loaded) c.as_str.ensures c.as_str-2.ensures c.in_ok-policy.ensures.follows c.in_ok-loaded.ensures.loads)
