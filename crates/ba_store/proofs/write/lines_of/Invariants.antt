use Rattle.std.proofs.Common.{◌≡◌, All, take}
use Rattle.ba_store.specs.ReadBack.{HasText}
use Rattle.ba_store.specs.Written.{text_of}
use Rattle.ba_store.proofs.write.lines_of.Given as goal

-- the lines so far, of which each is its template's
abbrev pub invariant-loop-template : goal.invariant-loop-template
invariant-loop-template l = (l.bytes.items ≡ text_of (take l.template-index l.templates)) × All HasText (take l.template-index l.templates)
