-- The order of the faults, and those of the tokens and the grammar as faults of a query.
use Rattle.std.specs.Prelude.{ℕ, Bool, true, not, ◌==◌, Result, Ok, Err}
use Rattle.ba_lex.specs.declared.token.LexFault.{LexFault}
use Rattle.ba_sql_syntax.specs.declared.fault.SyntaxFault.{SyntaxFault}
use Rattle.ba_sql_syntax.specs.declared.fault.SyntaxFault.TheVariants as syntax
use Rattle.ba_sql_query.specs.declared.fault.ReadQueryFault.{ReadQueryFault}
use Rattle.ba_sql_query.specs.declared.fault.ReadQueryFault.TheVariants.{Lex, Unsupported, Syntax, UnknownTable, UnknownColumn, Ambiguous, UnknownParam, KindDiffers, OrderOnText, HeadDiffers, TooMany}

-- where a fault stands in the order
unfoldable pub rank : ReadQueryFault → ℕ
rank (Lex f) = 0
rank (Unsupported w) = 1
rank Syntax = 2
rank UnknownTable = 3
rank UnknownColumn = 4
rank Ambiguous = 5
rank UnknownParam = 6
rank KindDiffers = 7
rank OrderOnText = 8
rank HeadDiffers = 9
rank TooMany = 10

-- it isn't refused by a fault of this rank
abbrev pub lacks : {X : Type 0} → ℕ → Result X ReadQueryFault → Bool
lacks n (Ok x) = true
lacks n (Err f) = not (rank f == n)

-- ---- the faults of the tokens and of the grammar

abbrev pub lex_fault : LexFault → ReadQueryFault
lex_fault f = Lex f

abbrev pub syntax_fault : SyntaxFault → ReadQueryFault
syntax_fault (syntax.Unsupported w) = Unsupported w
syntax_fault syntax.Syntax = Syntax
