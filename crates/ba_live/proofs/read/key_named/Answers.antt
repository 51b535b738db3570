use Rattle.std.proofs.Common.{◌∙◌, sym}
use Rattle.ba_live.proofs.KeyLemmas.{found_key, passed_key}
use Rattle.ba_live.specs.Steps.{key_named}
use Rattle.ba_live.proofs.read.key_named.Goals as goal

pub returns-then-is_called : goal.returns-then-is_called
returns-then-is_called c =
    let name = c.args.name.now in
    let keys = c.args.keys.now in
    found_key name keys c.loop-key.key-index c.key-item.result (key_named name keys) c.loop-key-test.true c.key-item.is c.loop-key.invariant
    (sym c.is_called.ensures ∙ c.if-is_called.true)

pub loop-key-preserved : goal.loop-key-preserved
loop-key-preserved c =
    let name = c.args.name.now in
    let keys = c.args.keys.now in
    passed_key name keys c.loop-key.key-index c.key-item.result (key_named name keys) c.loop-key-test.true c.key-item.is c.loop-key.invariant
    (sym c.is_called.ensures ∙ c.if-is_called.false)
