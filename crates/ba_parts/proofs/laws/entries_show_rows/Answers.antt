use Rattle.ba_parts.proofs.EntryLemmas.{entries_show_rows}
use Rattle.ba_parts.proofs.laws.entries_show_rows.Goals as goal

pub returns : goal.returns
returns c = entries_show_rows
