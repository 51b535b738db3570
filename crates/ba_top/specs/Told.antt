-- What is told of a run: what it writes.
use Rattle.std.specs.Prelude.{List, [], ◌∷◌, ◌++◌, ℕ, map}
use Rattle.ba_input.specs.declared.input.Input.{Input}
use Rattle.ba_input.specs.declared.task.Told.{Told}
use Rattle.ba_input.specs.declared.task.Told.TheVariants as told
use Rattle.ba_lanes.specs.Legal.{left_templates}
use Rattle.ba_lanes.specs.declared.journal.Entry.{Entry}
use Rattle.ba_lanes.specs.declared.journal.Journal.{Journal}
use Rattle.ba_store.specs.Written.{line_of as template_bytes}
use Rattle.ba_top.specs.Evidence.{AllClose, evident_bytes}
use Rattle.ba_top.specs.Text.{entry_bytes, total_bytes}

-- what is told of an entry behind the earlier ones: its line, or its line with its evidence, or
-- nothing where lines aren't told
abbrev pub told_of : Told → Input → List Entry → Entry → List (List ℕ)
told_of told.Lines input earlier entry = entry_bytes input earlier entry ∷ []
told_of told.Proofs input earlier entry = evident_bytes input earlier entry ∷ []
told_of told.Summary input earlier entry = []
told_of told.Templates input earlier entry = []

-- what is told of entries behind the earlier ones, one after another
abbrev pub told_after : Told → Input → List Entry → List Entry → List (List ℕ)
told_after told input earlier [] = []
told_after told input earlier (entry ∷ entries) =
    told_of told input earlier entry ++ told_after told input (earlier ++ entry ∷ []) entries

-- what is told at the end: the summary; or the templates that the shelves' histories leave, each by
-- its line in a template file
abbrev pub told_end : Told → Journal → List (List ℕ)
told_end told.Lines journal = total_bytes journal.entries ∷ []
told_end told.Proofs journal = total_bytes journal.entries ∷ []
told_end told.Summary journal = total_bytes journal.entries ∷ []
told_end told.Templates journal = map template_bytes (left_templates journal)

-- what is told of a run: of each entry in turn, and then what is told at the end
abbrev pub told_lines : Told → Input → Journal → List (List ℕ)
told_lines told input journal =
    told_after told input [] journal.entries ++ told_end told journal

-- where proofs are told, the steps that are told of answers by templates close their questions'
-- problems
abbrev pub TellsClosed : Told → Input → Journal → Type 0
TellsClosed told.Lines input journal = Unit {0}
TellsClosed told.Proofs input journal = AllClose input [] journal.entries
TellsClosed told.Summary input journal = Unit {0}
TellsClosed told.Templates input journal = Unit {0}
