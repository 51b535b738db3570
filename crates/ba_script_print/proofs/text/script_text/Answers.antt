use Rattle.std.proofs.Common.{string_bytes}
use Rattle.ba_script_print.proofs.ReadBackLemmas.{text_back}
use Rattle.ba_script_print.proofs.WriteLemmas.{ok_both}
use Rattle.ba_script_print.proofs.text.script_text.Goals as goal

pub returns-clause-reads_back : goal.returns-clause-reads_back
returns-clause-reads_back c =
    ok_both c.entries_text.result _ _ _
    (λ text is have. text_back c.args.params.now c.as_slice.result.now c.args.keys.now c.as_slice-2.result.now c.args.script.now c.as_slice-3.result.now (string_bytes text) c.as_slice.ensures c.as_slice-2.ensures c.as_slice-3.ensures is have)
    c.entries_text.ensures.text c.entries_text.ensures.have
