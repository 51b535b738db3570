use Rattle.std.proofs.Common.{◌∙◌, sym, arith}
use Rattle.ba_model.specs.Meaning.{rows_of}
use Rattle.ba_tables.proofs.FirstLemmas.{key_here, key_next, keys_end}
use Rattle.ba_tables.proofs.broken.broken_key.Goals as goal

pub returns-in-Some : goal.returns-in-Some
returns-in-Some c =
    sym (key_here c.args.table c.loop-key.key c.in-Some.first c.in-Some.second (rows_of c.args.rows.now c.args.table) c.args.keys.now c.get-columns.result.now c.get-columns.ensures (sym c.in-Some.is ∙ c.in_ok-first.ensures)) ∙ c.loop-key.invariant

pub loop-key-preserved : goal.loop-key-preserved
loop-key-preserved c =
    sym (key_next c.args.table c.loop-key.key (rows_of c.args.rows.now c.args.table) c.args.keys.now c.get-columns.result.now c.get-columns.ensures (sym c.in_default-2.is ∙ c.in_ok-first.ensures)) ∙ c.loop-key.invariant

pub returns : goal.returns
returns c =
    let h = c.in-Ok.ensures in
    sym (keys_end c.args.table c.loop-key.key (rows_of c.args.rows.now c.args.table) c.args.keys.now (omega (arith, h.1, c.len.ensures))) ∙ c.loop-key.invariant
