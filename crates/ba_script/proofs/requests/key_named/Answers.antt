use Rattle.std.proofs.Common.{◌∙◌, sym}
use Rattle.ba_script.specs.Reading.{key_from}
use Rattle.ba_script.proofs.KeyLemmas.{found_here, none_left, passed_key}
use Rattle.ba_script.proofs.requests.key_named.Goals as goal

pub returns-then-is_called : goal.returns-then-is_called
returns-then-is_called c =
    let keys = c.args.keys.now in
    let name = c.args.name.now in
    found_here keys name c.loop-number.number _ (key_from 0 name keys) c.loop-number-test.true c.index-keys-number.is c.loop-number.invariant
    (sym c.is_called.ensures ∙ c.if-is_called.true)

pub returns : goal.returns
returns c =
    let keys = c.args.keys.now in
    let name = c.args.name.now in
    none_left keys name c.loop-number.number (key_from 0 name keys) c.loop-number-test.false c.loop-number.invariant

pub loop-number-preserved : goal.loop-number-preserved
loop-number-preserved c =
    let keys = c.args.keys.now in
    let name = c.args.name.now in
    passed_key keys name c.loop-number.number _ (key_from 0 name keys) c.loop-number-test.true c.index-keys-number.is c.loop-number.invariant
    (sym c.is_called.ensures ∙ c.if-is_called.false)
