-- What contracts see of a source of lines.
use Rattle.std.specs.Prelude.{ℕ, List, Option}

-- a source: the lines that are left, without their line feeds, where that is told; how many lines
-- were taken; how often reading has failed
pub record SourceSeen : Type 0 where
  pub left : Option (List (List ℕ))
  pub taken : ℕ
  pub faults : ℕ
