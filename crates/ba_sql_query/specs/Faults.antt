-- Which fault of a text is told: the first of the order.
use Rattle.std.specs.Prelude.{◌≡◌, ◌≢◌, ℕ, ◌<◌, true, List, [], map, Ok, Err}
use Rattle.std.specs.List.{AllZip, flat_map}
use Rattle.ba_lex.specs.Tokens.{lexemes_of, tokens_of}
use Rattle.ba_lex.specs.declared.token.Lexeme.{Lexeme}
use Rattle.ba_lex.specs.declared.token.Token.{Token}
use Rattle.ba_model.specs.Fit.{kinds_of}
use Rattle.ba_model.specs.QueryFaults as faults
use Rattle.ba_model.specs.declared.check_query.QueryFault.{QueryFault}
use Rattle.ba_model.specs.declared.check_query.QueryFault.TheVariants as drafts
use Rattle.ba_model.specs.Limits.{most_query_bytes}
use Rattle.ba_model.specs.declared.policy.Parameter.{Parameter}
use Rattle.ba_model.specs.declared.query.Part.{Part}
use Rattle.ba_model.specs.declared.schema.Schema.{Schema}
use Rattle.ba_sql_syntax.specs.Grammar.{IsQueryText}
use Rattle.ba_sql_syntax.specs.Scan.{IsFirstUnsupported, IsSupported}
use Rattle.ba_sql_syntax.specs.declared.written.QueryText.{QueryText}
use Rattle.ba_sql_query.specs.Errors.{rank}
use Rattle.ba_sql_query.specs.Reads.{HasParts, HaveOneHead, IsSelectOf}
use Rattle.ba_sql_query.specs.Parts.{written_part}
use Rattle.ba_sql_query.specs.Resolve.{text_lacks}
use Rattle.ba_sql_query.specs.Texts.{query_of}
use Rattle.ba_sql_query.specs.declared.fault.ReadQueryFault.{ReadQueryFault}
use Rattle.ba_sql_query.specs.declared.fault.ReadQueryFault.TheVariants.{Lex, Unsupported, Syntax, UnknownTable, UnknownColumn, Ambiguous, UnknownParam, KindDiffers, OrderOnText, HeadDiffers, TooMany}
use Rattle.ba_sql_query.specs.declared.resolved.ResolvedSelect.{ResolvedSelect}

-- the text's tokens say the words
pub record HasWords (text : List ℕ) (words : List Lexeme) : Type 0 where
  pub tokens : List Token
  pub are : tokens_of most_query_bytes text ≡ Ok tokens
  pub say : lexemes_of tokens ≡ words

-- its words are supported, and spell what is written
pub record Writes (text : List ℕ) (written : QueryText) : Type 0 where
  pub words : List Lexeme
  pub has : HasWords text words
  pub supported : IsSupported words
  pub form : IsQueryText written words

-- no name in it is refused by the fault of this rank
pub record NamesLack (n : ℕ) (schema : Schema) (params : List Parameter) (text : List ℕ) : Type 0 where
  pub written : QueryText
  pub writes : Writes text written
  pub lacks : text_lacks n schema params written.selects ≡ true

-- each name means what is there
pub record Resolves (schema : Schema) (params : List Parameter) (text : List ℕ) (selects : List ResolvedSelect) : Type 0 where
  pub written : QueryText
  pub writes : Writes text written
  pub names : AllZip (IsSelectOf schema params) written.selects selects

-- the query as it is written, one part a select with all its tests, is without the fault
pub record DraftLacks (f : QueryFault) (schema : Schema) (params : List Parameter) (text : List ℕ) : Type 0 where
  pub selects : List ResolvedSelect
  pub resolves : Resolves schema params text selects
  pub lacks : faults.Lacks f schema (kinds_of params) [] (map written_part selects)

-- the parts of the selects
pub record HasAllParts (schema : Schema) (params : List Parameter) (text : List ℕ) (selects : List ResolvedSelect) (parts : List Part) : Type 0 where
  pub resolves : Resolves schema params text selects
  pub pieces : List (List Part)
  pub forms : AllZip HasParts selects pieces
  pub are : parts ≡ flat_map (λ piece. piece) pieces

-- the heads are alike, and there is a part
pub record HeadsLack (schema : Schema) (params : List Parameter) (text : List ℕ) : Type 0 where
  pub selects : List ResolvedSelect
  pub parts : List Part
  pub has : HasAllParts schema params text selects parts
  pub heads : HaveOneHead schema params selects
  pub some : parts ≢ []

-- no count is above its limit
pub record CountsLack (schema : Schema) (params : List Parameter) (text : List ℕ) : Type 0 where
  pub selects : List ResolvedSelect
  pub parts : List Part
  pub has : HasAllParts schema params text selects parts
  pub few : faults.Lacks drafts.TooMany schema (kinds_of params) [] parts

-- the text is without the fault
abbrev pub Lacks : ReadQueryFault → Schema → List Parameter → List ℕ → Type 0
Lacks (Lex f) schema params text = (words : List Lexeme) × HasWords text words
Lacks (Unsupported w) schema params text = (words : List Lexeme) × HasWords text words × IsSupported words
Lacks Syntax schema params text = (written : QueryText) × Writes text written
Lacks UnknownTable schema params text = NamesLack (rank UnknownTable) schema params text
Lacks UnknownColumn schema params text = NamesLack (rank UnknownColumn) schema params text
Lacks Ambiguous schema params text = NamesLack (rank Ambiguous) schema params text
Lacks UnknownParam schema params text = NamesLack (rank UnknownParam) schema params text
Lacks KindDiffers schema params text = DraftLacks drafts.KindDiffers schema params text
Lacks OrderOnText schema params text = DraftLacks drafts.OrderOnText schema params text
Lacks HeadDiffers schema params text = HeadsLack schema params text
Lacks TooMany schema params text = CountsLack schema params text

-- it has the fault; of unsupported words that is the first
abbrev pub Has : ReadQueryFault → Schema → List Parameter → List ℕ → Type 0
Has (Lex f) schema params text = tokens_of most_query_bytes text ≡ Err f
Has (Unsupported w) schema params text = (words : List Lexeme) × HasWords text words × IsFirstUnsupported words w
Has Syntax schema params text = ¬ Lacks Syntax schema params text
Has UnknownTable schema params text = ¬ Lacks UnknownTable schema params text
Has UnknownColumn schema params text = ¬ Lacks UnknownColumn schema params text
Has Ambiguous schema params text = ¬ Lacks Ambiguous schema params text
Has UnknownParam schema params text = ¬ Lacks UnknownParam schema params text
Has KindDiffers schema params text = ¬ Lacks KindDiffers schema params text
Has OrderOnText schema params text = ¬ Lacks OrderOnText schema params text
Has HeadDiffers schema params text = ¬ Lacks HeadDiffers schema params text
Has TooMany schema params text = ¬ Lacks TooMany schema params text

-- the first fault of the order that the text has
pub record IsFirstFault (f : ReadQueryFault) (schema : Schema) (params : List Parameter) (text : List ℕ) : Type 0 where
  pub has : Has f schema params text
  pub first : (g : ReadQueryFault) → rank g < rank f → Lacks g schema params text

-- a text that isn't read is refused by its first fault
abbrev pub TellsFirst : Type 0
TellsFirst = (schema : Schema) (params : List Parameter) (text : List ℕ) (f : ReadQueryFault) → query_of schema params text ≡ Err f → IsFirstFault f schema params text
