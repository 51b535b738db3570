-- Counts over several calls.
use Rattle.std.proofs.Common.{◌≤◌, ℕ, inl, inr, Option, Some, None, List, arith}
use Rattle.ba_outside.specs.Causes.{Rose, RoseBeyond}
use Rattle.ba_outside.specs.Files.{PassesLimit}
use Rattle.ba_outside.specs.Seen.{Contents}

-- a count that rose in the end rose in all
pub rose_after : (a b c : ℕ) → a ≤ b → Rose b c → Rose a c
rose_after a b c h (inl more) = inl (omega arith)
rose_after a b c h (inr last) = inr last

pub rose_beyond_after : (n a b c : ℕ) → a ≤ b → RoseBeyond n b c → RoseBeyond n a c
rose_beyond_after n a b c h (inl more) = inl (omega arith)
rose_beyond_after n a b c h (inr last) = inr last

-- a file that passed the limit in the end passed it in all
pub passes_after : (held : Option Contents) (name : List ℕ) (n a b c : ℕ) → a ≤ b → PassesLimit held name n b c → PassesLimit held name n a c
passes_after None name n a b c h passes = rose_beyond_after n a b c h passes
passes_after (Some contents) name n a b c h passes = passes
