use Rattle.std.proofs.Common.{◌≡◌, All, take, string_bytes}
use Rattle.ba_script_print.specs.ReadBack.{HasText}
use Rattle.ba_script_print.specs.Texts.{entries_text}
use Rattle.ba_script_print.proofs.text.entries_text.Given as goal

-- the lines so far, of which each is its entry's
abbrev pub invariant-loop-entry : goal.invariant-loop-entry
invariant-loop-entry l = (string_bytes l.text ≡ entries_text l.params l.keys (take l.entry-index l.entries)) × All (HasText l.params l.keys) (take l.entry-index l.entries)
