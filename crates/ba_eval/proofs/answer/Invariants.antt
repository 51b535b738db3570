use Rattle.ba_eval.proofs.answer.Given as goal

-- the ledger is that of the blank
abbrev pub ghosts-answer_with : goal.ghosts-answer_with
ghosts-answer_with a = record { name = a.blank.name; parts = a.blank.parts }
