-- Classes that are made with the first term.
use Rattle.std.specs.Prelude.{[], Option, Some, None}
use Rattle.ba_classes.specs.Merged.{Merged}

abbrev pub merged_of : Option Merged → Merged
merged_of None = record { terms = 0; merges = [] }
merged_of (Some classes) = classes
