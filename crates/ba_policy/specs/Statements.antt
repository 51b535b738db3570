-- The grammar of policies: which words are statements.
use Rattle.std.specs.Prelude.{◌≡◌, ◌≢◌, ℕ, List, [], ◌∷◌, ◌++◌, map, All, codes}
use Rattle.ba_grammar.specs.Items.{AreSpelled, Item, Spells, with_commas}
use Rattle.ba_grammar.specs.Items.Item.{any, keyword, sign}
use Rattle.ba_lex.specs.declared.token.Lexeme.{Lexeme}
use Rattle.ba_lex.specs.declared.token.Lexeme.TheVariants.{Sign as SignWord}
use Rattle.ba_lex.specs.declared.token.Sign.TheVariants.{LeftParen, RightParen, Semicolon}
use Rattle.ba_model.specs.declared.policy.Parameter.{Parameter}
use Rattle.ba_model.specs.declared.schema.Kind.{Kind}
use Rattle.ba_model.specs.declared.schema.Kind.TheVariants.{Int as IntKind, Text as TextKind}
use Rattle.ba_policy.specs.declared.statement.Statement.{Statement}
use Rattle.ba_policy.specs.declared.statement.Statement.TheVariants.{Param, View, Key}

-- a statement as it is written: PARAM name kind, CREATE VIEW name AS words, or CREATE KEY name (arguments) AS the words of each query
pub data StatementText : Type 0 where
  param : List ℕ → Kind → StatementText
  view : List ℕ → List Lexeme → StatementText
  key : List ℕ → List Parameter → List (List Lexeme) → StatementText

-- what the program's statement stands for
abbrev pub seen : Statement → StatementText
seen (Param name kind) = param name.now kind
seen (View name words) = view name.now words.now
seen (Key name arguments queries) = key name.now arguments (map (λ words. words.now) queries)

abbrev pub parameter : List ℕ → Kind → Parameter
parameter name kind = record { name = name; kind = kind }

abbrev pub kind_word : Kind → List ℕ
kind_word IntKind = codes "INT"
kind_word TextKind = codes "TEXT"

-- PARAM Word ( INT | TEXT ) ";"
abbrev pub param_items : List ℕ → Kind → List Item
param_items name kind = keyword (codes "PARAM") ∷ any name ∷ keyword (kind_word kind) ∷ sign Semicolon ∷ []

-- CREATE VIEW Word AS
abbrev pub view_items : List ℕ → List Item
view_items name = keyword (codes "CREATE") ∷ keyword (codes "VIEW") ∷ any name ∷ keyword (codes "AS") ∷ []

-- Word ( INT | TEXT )
abbrev pub argument_items : Parameter → List Item
argument_items it = any it.name ∷ keyword (kind_word it.kind) ∷ []

-- CREATE KEY Word "(" [ Word ( INT | TEXT ) { "," Word ( INT | TEXT ) } ] ")" AS
abbrev pub key_items : List ℕ → List Parameter → List Item
key_items name arguments =
    keyword (codes "CREATE") ∷ keyword (codes "KEY") ∷ any name ∷ sign LeftParen ∷ (with_commas (map argument_items arguments) ++ sign RightParen ∷ keyword (codes "AS") ∷ [])

-- the words up to the next `;`
pub record IsView (name : List ℕ) (query words : List Lexeme) : Type 0 where
  pub front : List Lexeme
  pub spelled : AreSpelled (view_items name) front
  pub no_end : All (λ x. x ≢ SignWord Semicolon) query
  pub are : words ≡ front ++ (query ++ SignWord Semicolon ∷ [])

abbrev pub IsAlso : Lexeme → Type 0
IsAlso = Spells (keyword (codes "ALSO"))

-- the words of the queries, one behind the other, with the word ALSO between each two of them and in none
abbrev pub AreQueries : List (List Lexeme) → List Lexeme → Type 0
AreQueries [] words = ⊥
AreQueries (query ∷ []) words = All (λ x. ¬ IsAlso x) query × (words ≡ query)
AreQueries (query ∷ next ∷ queries) words = (also : Lexeme) × (rest : List Lexeme) × IsAlso also × All (λ x. ¬ IsAlso x) query × (words ≡ query ++ also ∷ rest) × AreQueries (next ∷ queries) rest

-- the words of the queries are those up to the next `;`
pub record IsKey (name : List ℕ) (arguments : List Parameter) (queries : List (List Lexeme)) (words : List Lexeme) : Type 0 where
  pub front : List Lexeme
  pub behind : List Lexeme
  pub spelled : AreSpelled (key_items name arguments) front
  pub queries_are : AreQueries queries behind
  pub no_end : All (λ x. x ≢ SignWord Semicolon) behind
  pub are : words ≡ front ++ (behind ++ SignWord Semicolon ∷ [])

abbrev pub IsStatement : StatementText → List Lexeme → Type 0
IsStatement (param name kind) words = AreSpelled (param_items name kind) words
IsStatement (view name query) words = IsView name query words
IsStatement (key name arguments queries) words = IsKey name arguments queries words

-- the words are these statements, one after the other
abbrev pub AreStatements : List StatementText → List Lexeme → Type 0
AreStatements [] words = words ≡ []
AreStatements (s ∷ ss) words = (first : List Lexeme) × (rest : List Lexeme) × IsStatement s first × (words ≡ first ++ rest) × AreStatements ss rest
