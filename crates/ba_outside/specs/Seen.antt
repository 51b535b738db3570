-- What contracts see of files and of a sink.
use Rattle.std.specs.Prelude.{ℕ, List, Option}

-- names to the bytes that they hold; a name without any is no file
abbrev pub Contents : Type 0
Contents = List ℕ → Option (List ℕ)

-- files: what they hold, where that is told; the names asked for, in order; how many bytes were
-- taken; how often a file has failed
pub record FilesSeen : Type 0 where
  pub held : Option Contents
  pub asked : List (List ℕ)
  pub taken : ℕ
  pub faults : ℕ

-- a sink: what was written, and the pieces that were handed to it, in order, where these are told;
-- how often a write has failed
pub record SinkSeen : Type 0 where
  pub written : Option (List ℕ)
  pub pieces : Option (List (List ℕ))
  pub faults : ℕ
