use Rattle.ba_answer_tests.proofs.tests.steps.answer_of_law.Given as goal

-- the ledger is that of the blank
abbrev pub ghosts-answer_by : goal.ghosts-answer_by
ghosts-answer_by a = record { name = a.blank.name; parts = a.blank.parts }
