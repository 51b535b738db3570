use Rattle.std.proofs.Common.{ap}
use Rattle.std.proofs.lemmas.Result.{err_from_is_err_and}
use Rattle.ba_model.specs.declared.policy.Policy.{Policy}
use Rattle.ba_input.specs.Reading.{Names}
use Rattle.ba_input.proofs.InputLemmas.{published_err, published_ok}
use Rattle.ba_input.proofs.run_input.read_published.Goals as goal

pub returns-in_err-published-clause-follows : goal.returns-in_err-published-clause-follows
returns-in_err-published-clause-follows g c =
    let seen = g.F.Files.seen in
    let p = err_from_is_err_and c.from_residual.result c.from_residual.ensures.1 in
    let e = c.in_err-published.field-0.0 in
    let named = c.args.named.now in
    let names : Names = record { schema = named.schema.now; policy = named.policy.now; tables = named.tables.now; script = named.script.now; workers = named.workers; budget = named.budget; orders = named.orders } in
    rw (p.1, p.2) (published_err names c.args.policy c.args.tables c.args.script c.deref.result.now.schema c.as_slice.result.now (seen c.args.files.now) (seen c.read_sets.new.files) e
    (ap (λ (policy : Policy). policy.schema) c.deref.ensures) c.as_slice.ensures c.in_err-published.ensures.follows)

pub returns-clause-follows : goal.returns-clause-follows
returns-clause-follows g c =
    let seen = g.F.Files.seen in
    let named = c.args.named.now in
    let names : Names = record { schema = named.schema.now; policy = named.policy.now; tables = named.tables.now; script = named.script.now; workers = named.workers; budget = named.budget; orders = named.orders } in
    published_ok names c.args.policy c.args.tables c.args.script c.deref.result.now.schema c.as_slice.result.now c.in_ok-published.published c.new-loaded.result (seen c.args.files.now) (seen c.read_sets.new.files)
    (ap (λ (policy : Policy). policy.schema) c.deref.ensures) c.as_slice.ensures c.new-loaded.ensures c.in_ok-published.ensures.follows
