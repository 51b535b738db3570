use Rattle.std.proofs.Common.{take}
use Rattle.ba_live.specs.Books.{ForgetsAll}
use Rattle.ba_live.proofs.books.Questions.forget_all.Given as goal

-- the questions of the lines so far are forgotten
abbrev pub invariant-loop-line : goal.invariant-loop-line
invariant-loop-line l = ForgetsAll (take l.line-index l.lines) l.initial.self l.self
