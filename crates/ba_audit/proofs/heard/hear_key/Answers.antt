use Rattle.std.proofs.Common.{refl}
use Rattle.ba_audit.specs.Lines.{queries_read}
use Rattle.ba_audit.proofs.ReadLemmas.{heard_queries, key_fits, key_within, queries_are, questions_fit}
use Rattle.ba_audit.proofs.heard.hear_key.Goals as goal

pub get-key-requires : goal.get-key-requires
get-key-requires c = key_within c.args.policy.now c.deref.result.now c.args.policy.now c.deref.ensures refl c.args.key c.args.arguments.now c.requires.read

pub key_queries-requires-clause-key : goal.key_queries-requires-clause-key
key_queries-requires-clause-key c =
    key_fits c.args.policy.now c.deref.result.now c.deref-2.result.now c.deref.ensures c.deref-2.ensures c.args.key c.args.arguments.now c.get-key.result.now c.get-key.ensures c.requires.checked

pub returns-clause-heard : goal.returns-clause-heard
returns-clause-heard c =
    let policy = c.args.policy.now in
    let asker = c.args.asker.now in
    let qs = queries_read policy c.args.key c.args.arguments.now in
    let seen = c.in_ok-queries.queries in
    let same = queries_are policy c.deref.result.now c.deref-2.result.now c.deref.ensures c.deref-2.ensures c.args.key c.args.arguments.now c.get-key.result.now c.get-key.ensures seen c.in_ok-queries.ensures.are in
    let fit = questions_fit policy c.deref.result.now c.deref-2.result.now c.deref.ensures c.deref-2.ensures c.args.key c.args.arguments.now asker seen c.requires.checked c.requires.asker c.in_ok-queries.ensures.fit in
    heard_queries c.evidence_is_strong.ensures policy asker qs seen same c.args.line.now c.requires.within fit c.in_ok-unmet.unmet c.in_ok-unmet.ensures c.in-None.is
