use Rattle.std.proofs.lemmas.Result.{IfOk-weaker}
use Rattle.std.proofs.lemmas.Str.{IsUtf8-string_bytes}
use Rattle.std.specs.Prelude.{string_bytes}
use Rattle.serde_json.specs.View.{view}
use Rattle.ba_script_print.proofs.WriteLemmas.{has_text, ok_both, text_is}
use Rattle.ba_script_print.proofs.text.entry_text.Goals as goal

pub returns-clause-text : goal.returns-clause-text
returns-clause-text c =
    IfOk-weaker c.to_string.result _ _
    (λ text writes. text_is c.args.params.now c.args.keys.now c.args.entry.now (view c.in_ok-json.json) (string_bytes text) c.in_ok-json.ensures.json writes) c.to_string.ensures.text

pub returns-clause-has : goal.returns-clause-has
returns-clause-has c =
    ok_both c.to_string.result _ _ _
    (λ text writes reading. has_text c.args.params.now c.args.keys.now c.args.entry.now (view c.in_ok-json.json) (string_bytes text) c.in_ok-json.ensures.json c.in_ok-json.ensures.bits (IsUtf8-string_bytes text) writes reading)
    c.to_string.ensures.text c.to_string.ensures.reads_back
