-- How faults of query texts and of steps are printed.
use Rattle.std.specs.Prelude.{ℕ, List, ◌∷◌, ◌++◌, codes}
use Rattle.std.specs.Fmt.{decimal}
use Rattle.ba_kernel.specs.declared.step.StepFault.{StepFault}
use Rattle.ba_kernel.specs.declared.step.StepFault.TheVariants.{NoBranch, BadFact, BadRule, CondNotShown, HeadDiffers, NotAbsurd}
use Rattle.ba_lex.specs.declared.token.LexFault.{LexFault}
use Rattle.ba_lex.specs.declared.token.LexFault.TheVariants.{TooLong, BadByte, OpenQuote, NumberTooLarge}
use Rattle.ba_sql_query.specs.declared.fault.ReadQueryFault.{ReadQueryFault}
use Rattle.ba_sql_query.specs.declared.fault.ReadQueryFault.TheVariants as query

-- two words with a blank between them
infixr 10 ◌␣◌
abbrev pub ◌␣◌ : List ℕ → List ℕ → List ℕ
word ␣ words = word ++ 32 ∷ words

abbrev pub lex_name : LexFault → List ℕ
lex_name TooLong = codes "too_long"
lex_name BadByte = codes "bad_byte"
lex_name OpenQuote = codes "open_quote"
lex_name NumberTooLarge = codes "number_too_large"

unfoldable pub fault_name : ReadQueryFault → List ℕ
fault_name (query.Lex fault) = lex_name fault
fault_name (query.Unsupported word) = codes "unsupported"
fault_name query.Syntax = codes "syntax"
fault_name query.UnknownTable = codes "unknown_table"
fault_name query.UnknownColumn = codes "unknown_column"
fault_name query.Ambiguous = codes "ambiguous"
fault_name query.UnknownParam = codes "unknown_param"
fault_name query.KindDiffers = codes "kind_differs"
fault_name query.OrderOnText = codes "order_on_text"
fault_name query.HeadDiffers = codes "head_differs"
fault_name query.TooMany = codes "too_many"

-- the name of a fault, and behind it the word of what isn't supported
unfoldable pub fault_words : ReadQueryFault → List ℕ
fault_words (query.Unsupported word) = codes "unsupported" ␣ word
fault_words (query.Lex fault) = fault_name (query.Lex fault)
fault_words query.Syntax = fault_name query.Syntax
fault_words query.UnknownTable = fault_name query.UnknownTable
fault_words query.UnknownColumn = fault_name query.UnknownColumn
fault_words query.Ambiguous = fault_name query.Ambiguous
fault_words query.UnknownParam = fault_name query.UnknownParam
fault_words query.KindDiffers = fault_name query.KindDiffers
fault_words query.OrderOnText = fault_name query.OrderOnText
fault_words query.HeadDiffers = fault_name query.HeadDiffers
fault_words query.TooMany = fault_name query.TooMany

-- why a step isn't accepted, with the number of the condition or of the column
unfoldable pub step_fault_text : StepFault → List ℕ
step_fault_text NoBranch = codes "branch"
step_fault_text BadFact = codes "fact"
step_fault_text BadRule = codes "rule"
step_fault_text (CondNotShown number) = codes "cond" ␣ decimal number
step_fault_text (HeadDiffers number) = codes "head" ␣ decimal number
step_fault_text NotAbsurd = codes "absurd"
