use Rattle.std.proofs.Common.{◌∙◌, ◌≤◌, [], List, ℕ, ap, ap₂, subst, sym}
use Rattle.ba_model.specs.declared.policy.CacheKey.{CacheKey}
use Rattle.ba_model.specs.declared.policy.Parameter.{Parameter}
use Rattle.ba_script.proofs.FitLemmas.{is_script}
use Rattle.ba_script.proofs.SaysLemmas.{script_of_entries}
use Rattle.ba_script.specs.Reading.{entries_from, script_with}
use Rattle.ba_script.proofs.read.read_script.Goals as goal

pub returns-clause-script : goal.returns-clause-script
returns-clause-script c =
    let params = c.args.params.now in
    let keys = c.args.keys.now in
    let bytes = c.args.bytes.now in
    let entries = c.in_ok-entries.entries in
    is_script params keys bytes (script_with entries)
    (script_of_entries params keys bytes entries (subst (λ (n : ℕ). n ≤ 65536) c.count_lines.ensures c.if-count_lines-gt-MAX_LINES.false)
    (ap₂ (λ (ps : List Parameter) (ls : List (List ℕ)). entries_from ps keys [] ls) (sym c.as_slice.ensures) (sym c.script_lines.ensures)
    ∙ ap (λ (ks : List CacheKey). entries_from c.as_slice.result.now ks [] c.script_lines.result) (sym c.as_slice-2.ensures) ∙ c.in_ok-entries.ensures))
