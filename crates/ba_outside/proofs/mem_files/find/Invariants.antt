use Rattle.std.proofs.Common.{◌≡◌, drop}
use Rattle.ba_outside.specs.MemFiles.{held_in}
use Rattle.ba_outside.proofs.mem_files.find.Given as goal

-- no earlier file has the name
abbrev pub invariant-loop-file : goal.invariant-loop-file
invariant-loop-file l = held_in l.files l.name ≡ held_in (drop l.file-index l.files) l.name
