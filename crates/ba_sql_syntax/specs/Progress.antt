-- What was read of a condition, as its reader keeps it.
use Rattle.std.specs.Prelude.{List, reverse}
use Rattle.ba_sql_syntax.specs.Reader.{Reading, reading}
use Rattle.ba_sql_syntax.specs.Terminals.{Terminal}
use Rattle.ba_sql_syntax.specs.declared.condition.Progress.{Progress}

-- with the terminals that are left
abbrev pub progress : Progress → List Terminal → Reading
progress p rest = reading (reverse p.stack.items) p.turn p.nodes rest
