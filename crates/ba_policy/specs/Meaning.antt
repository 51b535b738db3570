-- What statements declare, in order.
use Rattle.std.specs.Prelude.{ℕ, ◌+◌, ◌≤◌, Bool, nat_eq, nat_lt, ◌||◌, List, [], ◌∷◌, ◌++◌, map, length, take, drop, All, Option, Some, None, Result, Ok, Err, if◌then◌else◌}
use Rattle.std.specs.Cmp.Lexicographic.{pointwise}
use Rattle.std.specs.List.{list_any}
use Rattle.ba_lex.specs.declared.token.Lexeme.{Lexeme}
use Rattle.ba_model.specs.Fit.{IsQuery, kinds_of}
use Rattle.ba_model.specs.Readings.{◌>>=◌}
use Rattle.ba_model.specs.Limits.{most_cache_keys, most_key_queries, most_params, most_views}
use Rattle.ba_model.specs.declared.policy.CacheKey.{CacheKey}
use Rattle.ba_model.specs.declared.policy.Parameter.{Parameter}
use Rattle.ba_model.specs.declared.policy.Policy.{Policy}
use Rattle.ba_model.specs.declared.query.Query.{Query}
use Rattle.ba_model.specs.declared.schema.Kind.{Kind}
use Rattle.ba_model.specs.declared.schema.Schema.{Schema}
use Rattle.ba_policy.specs.Statements.{StatementText, parameter}
use Rattle.ba_policy.specs.Statements.StatementText.{param, view, key}
use Rattle.ba_policy.specs.declared.draft.Draft.{Draft}
use Rattle.ba_model.specs.declared.limits.Counted.TheVariants.{CacheKeys, KeyQueries, Params, Views}
use Rattle.ba_policy.specs.declared.error.PolicyFault.{PolicyFault}
use Rattle.ba_policy.specs.declared.error.PolicyFault.TheVariants.{DuplicateKey, DuplicateParam, DuplicateView, Key as KeyFault, View as ViewFault, TooMany}
use Rattle.ba_sql_query.specs.Texts.{query_of_words}
use Rattle.ba_sql_query.specs.declared.fault.ReadQueryFault.{ReadQueryFault}

abbrev pub same_name : List ℕ → List ℕ → Bool
same_name = pointwise nat_eq

-- the parameters that statements declare, in order
abbrev pub params_in : List StatementText → List Parameter
params_in [] = []
params_in (param name kind ∷ ss) = parameter name kind ∷ params_in ss
params_in (view name words ∷ ss) = params_in ss
params_in (key name arguments queries ∷ ss) = params_in ss

abbrev pub nothing : Draft
nothing = record { params = []; views = []; keys = []; param_names = []; view_names = []; key_names = [] }

abbrev pub with_param : Draft → List ℕ → Kind → Draft
with_param d name kind = record d { params = d.params ++ parameter name kind ∷ []; param_names = d.param_names ++ name ∷ [] }

abbrev pub with_query : Draft → List ℕ → Query → Draft
with_query d name query = record d { views = d.views ++ record { name = name; query = query } ∷ []; view_names = d.view_names ++ name ∷ [] }

abbrev pub with_view : Draft → List ℕ → Result Query ReadQueryFault → Result Draft PolicyFault
with_view d name (Ok query) = Ok (with_query d name query)
with_view d name (Err f) = Err (ViewFault name f)

abbrev pub param_added : Draft → List ℕ → Kind → Result Draft PolicyFault
param_added d name kind = if list_any (same_name name) d.param_names then Err (DuplicateParam name) else Ok (with_param d name kind)

-- a view sees the parameters that are declared before it
abbrev pub view_added : Schema → Draft → List ℕ → List Lexeme → Result Draft PolicyFault
view_added schema d name words = if list_any (same_name name) d.view_names then Err (DuplicateView name) else with_view d name (query_of_words schema d.params words)

-- ---- cache keys

-- no query can name it, since a name isn't empty
abbrev pub unnamed : Parameter → Parameter
unnamed it = parameter [] it.kind

-- What the queries of a key may name: the first n of the policy's parameters, which are declared before it, and its arguments. The
-- parameters that are declared later keep their places between them, without names.
abbrev pub scope_of : List Parameter → ℕ → List Parameter → List Parameter
scope_of all n arguments = take n all ++ (map unnamed (drop n all) ++ arguments)

-- the name of the first argument that has one of these names, or the name of an argument before it
unfoldable pub first_repeat : List (List ℕ) → List Parameter → Option (List ℕ)
first_repeat names [] = None
first_repeat names (it ∷ arguments) = if list_any (same_name it.name) names then Some it.name else first_repeat (names ++ it.name ∷ []) arguments

-- the queries, or the fault of the first that is none
unfoldable pub queries_of : Schema → List Parameter → List (List Lexeme) → Result (List Query) ReadQueryFault
queries_of schema params [] = Ok []
queries_of schema params (words ∷ more) = do
  query ← query_of_words schema params words
  queries ← queries_of schema params more
  Ok (query ∷ queries)

abbrev pub with_queries : Draft → List ℕ → List Parameter → List Query → Draft
with_queries d name arguments queries = record d { keys = d.keys ++ record { name = name; arguments = arguments; queries = queries } ∷ []; key_names = d.key_names ++ name ∷ [] }

abbrev pub with_key : Draft → List ℕ → List Parameter → Result (List Query) ReadQueryFault → Result Draft PolicyFault
with_key d name arguments (Ok queries) = Ok (with_queries d name arguments queries)
with_key d name arguments (Err f) = Err (KeyFault name f)

abbrev pub key_named : Schema → List Parameter → Draft → List ℕ → List Parameter → List (List Lexeme) → Result Draft PolicyFault
key_named schema all d name arguments queries =
    if list_any (same_name name) d.key_names then Err (DuplicateKey name)
    else with_key d name arguments (queries_of schema (scope_of all (length d.params) arguments) queries)

abbrev pub unless_repeated : Option (List ℕ) → Result Draft PolicyFault → Result Draft PolicyFault
unless_repeated None r = r
unless_repeated (Some name) r = Err (DuplicateParam name)

-- the policy's parameters are all
abbrev pub key_added : Schema → List Parameter → Draft → List ℕ → List Parameter → List (List Lexeme) → Result Draft PolicyFault
key_added schema all d name arguments queries = unless_repeated (first_repeat d.param_names arguments) (key_named schema all d name arguments queries)

-- ---- all statements

abbrev pub added : Schema → List Parameter → Draft → StatementText → Result Draft PolicyFault
added schema all d (param name kind) = param_added d name kind
added schema all d (view name words) = view_added schema d name words
added schema all d (key name arguments queries) = key_added schema all d name arguments queries

abbrev pub all_added : Schema → List Parameter → Draft → List StatementText → Result Draft PolicyFault
all_added schema all d [] = Ok d
all_added schema all d (s ∷ ss) = added schema all d s >>= λ e. all_added schema all e ss

abbrev pub many_queries : CacheKey → Bool
many_queries it = nat_lt most_key_queries (length it.queries)

abbrev pub many_arguments : List Parameter → CacheKey → Bool
many_arguments params it = nat_lt most_params (length params + length it.arguments)

-- More than most_views views, or else more than most_cache_keys keys, or else more than most_key_queries queries of a key, or else
-- more than most_params parameters, those of the policy and the arguments of a key taken together.
abbrev pub excess : Draft → Option PolicyFault
excess d =
    if nat_lt most_views (length d.views) then Some (TooMany Views most_views)
    else (if nat_lt most_cache_keys (length d.keys) then Some (TooMany CacheKeys most_cache_keys)
    else (if list_any many_queries d.keys then Some (TooMany KeyQueries most_key_queries)
    else (if nat_lt most_params (length d.params) || list_any (many_arguments d.params) d.keys then Some (TooMany Params most_params) else None)))

abbrev pub policy : Schema → Draft → Policy
policy schema d = record { schema = schema; params = d.params; views = d.views; keys = d.keys }

abbrev pub unless : Option PolicyFault → Policy → Result Policy PolicyFault
unless None p = Ok p
unless (Some f) p = Err f

abbrev pub finished : Schema → Draft → Result Policy PolicyFault
finished schema d = unless (excess d) (policy schema d)

-- the queries of the views so far fit the schema and the parameters so far, and are within the limits
pub record DraftFits (schema : Schema) (d : Draft) : Type 0 where
  pub views : All (λ it. IsQuery schema (kinds_of d.params) [] it.query) d.views

-- the queries behind the keys fit the schema and the parameters with the key's arguments, and are within the limits
abbrev pub KeysFit : Schema → List Parameter → List CacheKey → Type 0
KeysFit schema params = All (λ it. All (IsQuery schema (kinds_of (params ++ it.arguments)) []) it.queries)

-- the counts of a key are within the limits, its arguments taken together with the policy's parameters
pub record IsSmall (params : List Parameter) (it : CacheKey) : Type 0 where
  pub queries : length it.queries ≤ most_key_queries
  pub arguments : length params + length it.arguments ≤ most_params
