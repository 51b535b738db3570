use Rattle.ba_eval.proofs.answer_indexed.Given as goal

-- the ledger is that of the blank
abbrev pub ghosts-answer_unbounded : goal.ghosts-answer_unbounded
ghosts-answer_unbounded a = record { name = a.blank.name; parts = a.blank.parts }
