-- What the words of a query say, or why they are none.
use Rattle.std.specs.Prelude.{◌≡◌, ◌↔◌, ℕ, List, All, Option, Some, None, Result, Ok, Err}
use Rattle.ba_grammar.specs.declared.error.Syntax.{Syntax}
use Rattle.ba_lex.specs.declared.token.Lexeme.{Lexeme}
use Rattle.ba_model.specs.Readings.{widened}
use Rattle.ba_sql_syntax.specs.Grammar.{HasTree, IsQueryText}
use Rattle.ba_sql_syntax.specs.Reader.{text_of}
use Rattle.ba_sql_syntax.specs.Scan.{IsFirstUnsupported, IsSupported, nothing, scan}
use Rattle.ba_sql_syntax.specs.Terminals.{terminals}
use Rattle.ba_sql_syntax.specs.declared.fault.SyntaxFault.{SyntaxFault}
use Rattle.ba_sql_syntax.specs.declared.fault.SyntaxFault.TheVariants.{Unsupported, Syntax as syntax}
use Rattle.ba_sql_syntax.specs.declared.written.QueryText.{QueryText}

abbrev pub or_syntax : Result QueryText Syntax → Result QueryText SyntaxFault
or_syntax = widened (λ e. syntax)

abbrev pub if_supported : Option (List ℕ) → Result QueryText SyntaxFault → Result QueryText SyntaxFault
if_supported (Some called) read = Err (Unsupported called)
if_supported None read = read

-- first the scan, then the grammar
unfoldable pub written_of : List Lexeme → Result QueryText SyntaxFault
written_of words = if_supported (scan nothing words) (or_syntax (text_of (terminals words)))

-- words without an unsupported one are read as the grammar says
abbrev pub ReadsGrammar : Type 0
ReadsGrammar = (words : List Lexeme) (text : QueryText) → written_of words ≡ Ok text ↔ IsSupported words × IsQueryText text words

-- and as one text at most
abbrev pub ReadsOne : Type 0
ReadsOne = (words : List Lexeme) (text other : QueryText) → IsQueryText text words → IsQueryText other words → text ≡ other

-- of unsupported words the first is told
abbrev pub TellsFirst : Type 0
TellsFirst = (words : List Lexeme) (called : List ℕ) → written_of words ≡ Err (Unsupported called) ↔ IsFirstUnsupported words called

-- all other words are refused
abbrev pub RefusesOthers : Type 0
RefusesOthers = (words : List Lexeme) → written_of words ≡ Err syntax ↔ IsSupported words × ((text : QueryText) → IsQueryText text words → ⊥)

-- each select's condition is empty, or a tree in postfix order
abbrev pub HaveTrees : QueryText → Type 0
HaveTrees text = All (λ select. HasTree select.condition) text.selects
