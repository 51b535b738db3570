use Rattle.std.proofs.Common.{rules, ◌∙◌, List, ℕ, ◌∷◌, length, ap₂, sym}
use Rattle.std.proofs.lemmas.List.{take_all, drop_all}
use Rattle.ba_top.specs.Text.{lines_of}
use Rattle.ba_top.proofs.LineLemmas.{ended_line, last_line}
use Rattle.ba_top.proofs.print.first_line.Goals as goal

pub returns-in-Some-clause-lines : goal.returns-in-Some-clause-lines
returns-in-Some-clause-lines c =
    let bytes = c.args.bytes.now in
    ended_line bytes c.in-Some.end (sym c.line_end.ensures ∙ c.in-Some.is)
    ∙ ap₂ (λ (line behind : List ℕ). line ∷ lines_of behind) (sym c.split_at.ensures.front) (sym c.split_at.ensures.back)

pub returns-in-None-clause-lines : goal.returns-in-None-clause-lines
returns-in-None-clause-lines c =
    let bytes = c.args.bytes.now in
    last_line bytes c.requires (sym c.line_end.ensures ∙ c.in-None.is)
    ∙ ap₂ (λ (line behind : List ℕ). line ∷ lines_of behind) (sym (c.split_at-in-None.ensures.front ∙ take_all (length bytes) bytes (search rules))) (sym (c.split_at-in-None.ensures.back ∙ drop_all (length bytes) bytes (search rules)))
