use Rattle.std.proofs.Common.{◌<◌, ◌≤◌, ℕ, List, subst}
use Rattle.ba_model.specs.Limits.{most_templates}
use Rattle.ba_store.proofs.LineLemmas.{file_loads}
use Rattle.ba_store.specs.Loads.{Answers, LinesLoad, many}
use Rattle.ba_store.proofs.read.loaded.Goals as goal

pub returns-then-count_lines-gt-MAX_TEMPLATES : goal.returns-then-count_lines-gt-MAX_TEMPLATES
returns-then-count_lines-gt-MAX_TEMPLATES c = many (subst (λ (n : ℕ). most_templates < n) c.count_lines.ensures c.if-count_lines-gt-MAX_TEMPLATES.true)

pub returns : goal.returns
returns c =
    file_loads c.args.policy.now c.args.bytes.now c.lines_of.result (subst (λ (n : ℕ). n ≤ most_templates) c.count_lines.ensures c.if-count_lines-gt-MAX_TEMPLATES.false)
    (subst (λ (lines : List (List ℕ)). Answers c.lines_of.result (LinesLoad c.args.policy.now lines)) c.script_lines.ensures c.lines_of.ensures)
