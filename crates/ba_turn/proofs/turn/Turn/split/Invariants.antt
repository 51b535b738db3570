use Rattle.ba_turn.proofs.turn.Turn.split.Given as goal

abbrev pub ghosts-split_share : goal.ghosts-split_share
ghosts-split_share g a = record { share = a.allowance }
