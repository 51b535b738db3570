use Rattle.std.proofs.Common.{◌∙◌, All, rules, subst}
use Rattle.std.proofs.lemmas.List.{take_all}
use Rattle.ba_script_print.proofs.WriteLemmas.{have_more, line_more}
use Rattle.ba_script_print.specs.ReadBack.{HasText}
use Rattle.ba_script_print.proofs.text.entries_text.Goals as goal

pub loop-entry-preserved : goal.loop-entry-preserved
loop-entry-preserved c = (
  line_more c.args.params.now c.args.keys.now c.args.entries.now c.loop-entry.entry-index c.entry-item.result c.loop-entry-test.true c.entry-item.is _ _ _ _ c.loop-entry.invariant.0
      (c.as_str.ensures.value ∙ c.in_ok-line.ensures.text) c.in_ok-push_str.ensures.bytes c.in_ok-push_str-2.ensures.bytes,
  have_more c.args.params.now c.args.keys.now c.args.entries.now c.loop-entry.entry-index c.entry-item.result c.loop-entry-test.true c.entry-item.is c.loop-entry.invariant.1 c.in_ok-line.ensures.has,
)

pub returns-clause-have : goal.returns-clause-have
returns-clause-have c = subst (All (HasText c.args.params.now c.args.keys.now)) (take_all c.loop-entry.entry-index c.args.entries.now (search rules)) c.loop-entry.invariant.1
