-- Which policy a file is.
use Rattle.std.specs.Prelude.{◌≡◌, ◌≢◌, ◌≤◌, ◌<◌, ◌+◌, ◌⊎◌, ◌↔◌, ℕ, List, [], ◌∷◌, ◌++◌, map, length, All, AllPairs, Any, Contains, Ok, Err}
use Rattle.std.specs.List.{AllZip}
use Rattle.ba_lex.specs.Tokens.{file_tokens_of, lexemes_of}
use Rattle.ba_lex.specs.declared.token.LexFault.{LexFault}
use Rattle.ba_lex.specs.declared.token.Lexeme.{Lexeme}
use Rattle.ba_lex.specs.declared.token.Token.{Token}
use Rattle.ba_model.specs.Limits.{most_cache_keys, most_key_queries, most_params, most_text_bytes, most_views}
use Rattle.ba_model.specs.declared.policy.CacheKey.{CacheKey}
use Rattle.ba_model.specs.declared.policy.Parameter.{Parameter}
use Rattle.ba_model.specs.declared.policy.Policy.{Policy}
use Rattle.ba_model.specs.declared.policy.View.{View}
use Rattle.ba_model.specs.declared.query.Query.{Query}
use Rattle.ba_model.specs.declared.schema.Schema.{Schema}
use Rattle.ba_policy.specs.Meaning.{IsSmall, params_in, scope_of}
use Rattle.ba_policy.specs.Reading.{policy_of}
use Rattle.ba_policy.specs.Statements.{AreStatements, StatementText, parameter}
use Rattle.ba_policy.specs.Statements.StatementText.{param, view, key}
use Rattle.ba_model.specs.declared.limits.Counted.{Counted}
use Rattle.ba_model.specs.declared.limits.Counted.TheVariants.{CacheKeys, KeyQueries, Params, Views}
use Rattle.ba_policy.specs.declared.error.PolicyFault.{PolicyFault}
use Rattle.ba_policy.specs.declared.error.PolicyFault.TheVariants.{Lex, Syntax, DuplicateKey, DuplicateParam, DuplicateView, Key as KeyFault, View as ViewFault, TooMany}
use Rattle.ba_sql_query.specs.Texts.{query_of_words}
use Rattle.ba_sql_query.specs.declared.fault.ReadQueryFault.{ReadQueryFault}

-- the file has at most most_text_bytes bytes, and its tokens' words are these statements
pub record IsWrittenPolicy (bytes : List ℕ) (statements : List StatementText) : Type 0 where
  pub tokens : List Token
  pub read : file_tokens_of most_text_bytes bytes ≡ Ok tokens
  pub written : AreStatements statements (lexemes_of tokens)

-- a view as it is written, and the parameters that are declared before it
pub record ViewText : Type 0 where
  pub name : List ℕ
  pub words : List Lexeme
  pub params : List Parameter

-- the views of statements that stand behind the declarations of these parameters
abbrev pub views_in : List Parameter → List StatementText → List ViewText
views_in before [] = []
views_in before (param name kind ∷ ss) = views_in (before ++ parameter name kind ∷ []) ss
views_in before (view name words ∷ ss) = record { name = name; words = words; params = before } ∷ views_in before ss
views_in before (key name arguments queries ∷ ss) = views_in before ss

-- a cache key as it is written, and the parameters that are declared before it
pub record KeyText : Type 0 where
  pub name : List ℕ
  pub arguments : List Parameter
  pub queries : List (List Lexeme)
  pub params : List Parameter

-- the cache keys of statements that stand behind the declarations of these parameters
abbrev pub keys_in : List Parameter → List StatementText → List KeyText
keys_in before [] = []
keys_in before (param name kind ∷ ss) = keys_in (before ++ parameter name kind ∷ []) ss
keys_in before (view name words ∷ ss) = keys_in before ss
keys_in before (key name arguments queries ∷ ss) = record { name = name; arguments = arguments; queries = queries; params = before } ∷ keys_in before ss

pub record IsViewOf (schema : Schema) (text : ViewText) (it : View) : Type 0 where
  pub name : it.name ≡ text.name
  pub query : query_of_words schema text.params text.words ≡ Ok it.query

abbrev pub AllDiffer : List (List ℕ) → Type 0
AllDiffer = AllPairs (λ a b. a ≢ b)

abbrev pub names_of : List Parameter → List (List ℕ)
names_of = map (λ p. p.name)

-- the words are this query, with these parameters
abbrev pub Reads : Schema → List Parameter → List Lexeme → Query → Type 0
Reads schema params words query = query_of_words schema params words ≡ Ok query

-- The key has the arguments that are written, whose names differ from one another and from those of the parameters before, and its
-- queries are read with these parameters and the arguments. The policy's parameters are all.
pub record IsKeyOf (schema : Schema) (all : List Parameter) (text : KeyText) (it : CacheKey) : Type 0 where
  pub name : it.name ≡ text.name
  pub arguments : it.arguments ≡ text.arguments
  pub differ : AllDiffer (names_of text.params ++ names_of text.arguments)
  pub queries : AllZip (Reads schema (scope_of all (length text.params) text.arguments)) text.queries it.queries

-- The statements declare these parameters, views and cache keys, no two parameters, no two views and no two keys of one name. They are
-- some of the policy's statements, whose parameters are all.
pub record Declare (schema : Schema) (all : List Parameter) (statements : List StatementText) (params : List Parameter) (views : List View) (keys : List CacheKey) : Type 0 where
  pub are : params ≡ params_in statements
  pub differ : AllDiffer (names_of params)
  pub made : AllZip (IsViewOf schema) (views_in [] statements) views
  pub views_differ : AllDiffer (map (λ v. v.name) views)
  pub keys_made : AllZip (IsKeyOf schema all) (keys_in [] statements) keys
  pub keys_differ : AllDiffer (map (λ k. k.name) keys)

pub record ReadsPolicy (schema : Schema) (bytes : List ℕ) (policy : Policy) : Type 0 where
  pub statements : List StatementText
  pub written : IsWrittenPolicy bytes statements
  pub same : policy.schema ≡ schema
  pub declared : Declare schema policy.params statements policy.params policy.views policy.keys
  pub few_views : length policy.views ≤ most_views
  pub few_params : length policy.params ≤ most_params
  pub few_keys : length policy.keys ≤ most_cache_keys
  pub small_keys : All (IsSmall policy.params) policy.keys

-- ---- faults

-- More than most_views views; or at most those, and more than most_cache_keys keys; or at most those too, and a key with more than
-- most_key_queries queries; or no such key, and more than most_params parameters, with the arguments of a key or without.
abbrev pub Exceeds : List Parameter → List View → List CacheKey → Counted → ℕ → Type 0
Exceeds params views keys Views limit = (most_views < length views) × (limit ≡ most_views)
Exceeds params views keys CacheKeys limit = (length views ≤ most_views) × (most_cache_keys < length keys) × (limit ≡ most_cache_keys)
Exceeds params views keys KeyQueries limit =
    (length views ≤ most_views) × (length keys ≤ most_cache_keys) × Any (λ it. most_key_queries < length it.queries) keys × (limit ≡ most_key_queries)
Exceeds params views keys Params limit =
    (length views ≤ most_views) × (length keys ≤ most_cache_keys) × All (λ it. length it.queries ≤ most_key_queries) keys
    × ((most_params < length params) ⊎ Any (λ it. most_params < length params + length it.arguments) keys) × (limit ≡ most_params)
Exceeds params views keys _ limit = ⊥

-- a fault of one statement
abbrev pub IsOfStatement : PolicyFault → Type 0
IsOfStatement (Lex f) = ⊥
IsOfStatement Syntax = ⊥
IsOfStatement (DuplicateParam name) = Unit {0}
IsOfStatement (DuplicateView name) = Unit {0}
IsOfStatement (ViewFault name f) = Unit {0}
IsOfStatement (DuplicateKey name) = Unit {0}
IsOfStatement (KeyFault name f) = Unit {0}
IsOfStatement (TooMany what limit) = ⊥

-- the tokens' words aren't statements
pub record HasNoForm (bytes : List ℕ) : Type 0 where
  pub tokens : List Token
  pub read : file_tokens_of most_text_bytes bytes ≡ Ok tokens
  pub none : (statements : List StatementText) → ¬ AreStatements statements (lexemes_of tokens)

-- the first argument that has one of these names, or the name of an argument before it, has this name
pub record Repeats (names : List (List ℕ)) (arguments : List Parameter) (name : List ℕ) : Type 0 where
  pub before : List Parameter
  pub it : Parameter
  pub after : List Parameter
  pub are : arguments ≡ before ++ it ∷ after
  pub named : it.name ≡ name
  pub there : Contains (names ++ names_of before) name
  pub differ : AllDiffer (names ++ names_of before)

-- the first of the texts that is no query has this fault
pub record HasBadQuery (schema : Schema) (params : List Parameter) (texts : List (List Lexeme)) (fault : ReadQueryFault) : Type 0 where
  pub before : List (List Lexeme)
  pub words : List Lexeme
  pub after : List (List Lexeme)
  pub queries : List Query
  pub are : texts ≡ before ++ words ∷ after
  pub good : AllZip (Reads schema params) before queries
  pub bad : query_of_words schema params words ≡ Err fault

-- the key has this fault where these parameters and keys are declared before it
abbrev pub KeyRefused : Schema → List Parameter → List Parameter → List CacheKey → List ℕ → List Parameter → List (List Lexeme) → PolicyFault → Type 0
KeyRefused schema all params keys name arguments queries (DuplicateParam other) = Repeats (names_of params) arguments other
KeyRefused schema all params keys name arguments queries (DuplicateKey other) =
    AllDiffer (names_of params ++ names_of arguments) × Contains (map (λ k. k.name) keys) name × (other ≡ name)
KeyRefused schema all params keys name arguments queries (KeyFault other f) =
    AllDiffer (names_of params ++ names_of arguments) × (¬ Contains (map (λ k. k.name) keys) name) × (other ≡ name) × HasBadQuery schema (scope_of all (length params) arguments) queries f
KeyRefused schema all params keys name arguments queries (DuplicateView other) = ⊥
KeyRefused schema all params keys name arguments queries (ViewFault other f) = ⊥
KeyRefused schema all params keys name arguments queries (Lex f) = ⊥
KeyRefused schema all params keys name arguments queries Syntax = ⊥
KeyRefused schema all params keys name arguments queries (TooMany what limit) = ⊥

-- the statement has this fault where these parameters, views and keys are declared before it
abbrev pub Refuses : Schema → List Parameter → List Parameter → List View → List CacheKey → StatementText → PolicyFault → Type 0
Refuses schema all params views keys (param name kind) fault = Contains (names_of params) name × (fault ≡ DuplicateParam name)
Refuses schema all params views keys (view name words) (DuplicateView other) = Contains (map (λ v. v.name) views) name × (other ≡ name)
Refuses schema all params views keys (view name words) (ViewFault other f) = (¬ Contains (map (λ v. v.name) views) name) × (other ≡ name) × (query_of_words schema params words ≡ Err f)
Refuses schema all params views keys (view name words) (Lex f) = ⊥
Refuses schema all params views keys (view name words) Syntax = ⊥
Refuses schema all params views keys (view name words) (DuplicateParam other) = ⊥
Refuses schema all params views keys (view name words) (DuplicateKey other) = ⊥
Refuses schema all params views keys (view name words) (KeyFault other f) = ⊥
Refuses schema all params views keys (view name words) (TooMany what limit) = ⊥
Refuses schema all params views keys (key name arguments queries) fault = KeyRefused schema all params keys name arguments queries fault

-- the first statement that has a fault has this one: those before it declare parameters, views and keys
pub record HasStatementFault (schema : Schema) (bytes : List ℕ) (fault : PolicyFault) : Type 0 where
  pub before : List StatementText
  pub statement : StatementText
  pub after : List StatementText
  pub params : List Parameter
  pub views : List View
  pub keys : List CacheKey
  pub written : IsWrittenPolicy bytes (before ++ statement ∷ after)
  pub declared : Declare schema (params_in (before ++ statement ∷ after)) before params views keys
  pub refused : Refuses schema (params_in (before ++ statement ∷ after)) params views keys statement fault

-- all statements declare parameters, views and keys, but there are too many
pub record HasTooMany (schema : Schema) (bytes : List ℕ) (what : Counted) (limit : ℕ) : Type 0 where
  pub statements : List StatementText
  pub params : List Parameter
  pub views : List View
  pub keys : List CacheKey
  pub written : IsWrittenPolicy bytes statements
  pub declared : Declare schema params statements params views keys
  pub many : Exceeds params views keys what limit

-- ---- the laws

abbrev pub PolicyReading : Type 0
PolicyReading = (schema : Schema) (bytes : List ℕ) (policy : Policy) → (policy_of schema bytes ≡ Ok policy) ↔ ReadsPolicy schema bytes policy

abbrev pub PolicyIsUnique : Type 0
PolicyIsUnique = (schema : Schema) (bytes : List ℕ) (p q : Policy) → ReadsPolicy schema bytes p → ReadsPolicy schema bytes q → p ≡ q

abbrev pub LexFaultReading : Type 0
LexFaultReading = (schema : Schema) (bytes : List ℕ) (fault : LexFault) → (policy_of schema bytes ≡ Err (Lex fault)) ↔ (file_tokens_of most_text_bytes bytes ≡ Err fault)

abbrev pub SyntaxReading : Type 0
SyntaxReading = (schema : Schema) (bytes : List ℕ) → (policy_of schema bytes ≡ Err Syntax) ↔ HasNoForm bytes

abbrev pub StatementFaultReading : Type 0
StatementFaultReading = (schema : Schema) (bytes : List ℕ) (fault : PolicyFault) → IsOfStatement fault → (policy_of schema bytes ≡ Err fault) ↔ HasStatementFault schema bytes fault

abbrev pub TooManyReading : Type 0
TooManyReading = (schema : Schema) (bytes : List ℕ) (what : Counted) (limit : ℕ) → (policy_of schema bytes ≡ Err (TooMany what limit)) ↔ HasTooMany schema bytes what limit
