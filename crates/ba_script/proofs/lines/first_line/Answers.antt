use Rattle.std.proofs.Common.{rules, ◌∙◌, ◌+◌, List, ℕ, ◌∷◌, length, ap₂, sym}
use Rattle.std.proofs.lemmas.List.{take_all, drop_all}
use Rattle.ba_script.specs.Lines.{script_lines}
use Rattle.ba_script.proofs.LineLemmas.{ended_line, from_on, last_line}
use Rattle.ba_script.proofs.lines.first_line.Goals as goal

pub returns-in-Some : goal.returns-in-Some
returns-in-Some c =
    let bytes = c.args.bytes.now in
    ended_line bytes c.in-Some.end (sym c.line_end.ensures ∙ c.in-Some.is)
    ∙ ap₂ (λ (line after : List ℕ). line ∷ script_lines after) (sym c.without_return.ensures) (sym (from_on bytes (c.in-Some.end + 1)))

pub returns-in-None : goal.returns-in-None
returns-in-None c =
    let bytes = c.args.bytes.now in
    last_line bytes c.requires (sym c.line_end.ensures ∙ c.in-None.is)
    ∙ ap₂ (λ (line after : List ℕ). line ∷ script_lines after) (sym (c.split_at.ensures.front ∙ take_all (length bytes) bytes (search rules))) (sym (c.split_at.ensures.back ∙ drop_all (length bytes) bytes (search rules)))
