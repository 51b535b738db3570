-- A file, by the function and as a relation.
use Rattle.std.proofs.Common.{◌≡◌, ℕ, ◌+◌, ◌<◌, ◌≤◌, Bool, true, false, nat_lt, ◌||◌, List, [], ◌∷◌, ◌++◌, length, All, Option, None, Result, Ok, Err, refl, sym, ap, subst, ◌∙◌, arith, inl, inr, ◌⊎◌}
use Rattle.std.specs.List.{Any, list_any}
use Rattle.std.proofs.lemmas.Bool.{ltb-false, ltb-true, lt-ltb, or_cases, or_from, or_left, or_parts, or_right}
use Rattle.std.proofs.lemmas.List.Elements.{All-cons, All-nil, All-weaker}
use Rattle.std.proofs.lemmas.List.Folds.{Any-from_list_any, list_any-from_Any, list_any_none}
use Rattle.ba_grammar.specs.declared.error.Syntax.{Syntax as OfGrammar}
use Rattle.ba_lex.specs.Tokens.{file_tokens_of, lexemes_of}
use Rattle.ba_lex.specs.declared.token.LexFault.{LexFault}
use Rattle.ba_lex.specs.declared.token.Token.{Token}
use Rattle.ba_model.specs.Limits.{most_cache_keys, most_key_queries, most_params, most_text_bytes, most_views}
use Rattle.ba_model.specs.declared.policy.CacheKey.{CacheKey}
use Rattle.ba_model.specs.declared.policy.Parameter.{Parameter}
use Rattle.ba_model.specs.declared.policy.Policy.{Policy}
use Rattle.ba_model.specs.declared.policy.View.{View}
use Rattle.ba_model.specs.declared.schema.Schema.{Schema}
use Rattle.ba_policy.specs.Laws.{Declare, Exceeds, HasNoForm, HasStatementFault, HasTooMany, IsOfStatement, IsWrittenPolicy, ReadsPolicy, Refuses}
use Rattle.ba_policy.specs.Meaning.{IsSmall, all_added, excess, finished, many_arguments, many_queries, nothing, params_in, policy, unless}
use Rattle.ba_policy.specs.Reader.{statements_at}
use Rattle.ba_policy.specs.Reading.{policy_of, policy_of_statements}
use Rattle.ba_policy.specs.Statements.{AreStatements, StatementText}
use Rattle.ba_policy.specs.declared.draft.Draft.{Draft}
use Rattle.ba_model.specs.declared.limits.Counted.{Counted}
use Rattle.ba_model.specs.declared.limits.Counted.TheVariants.{CacheKeys, KeyQueries, Params, Views}
use Rattle.ba_policy.specs.declared.error.PolicyFault.{PolicyFault}
use Rattle.ba_policy.specs.declared.error.PolicyFault.TheVariants.{Lex, Syntax, TooMany}
use Rattle.ba_policy.proofs.DeclareLemmas.{declare_complete, declare_sound, draft, of_statement, params_are, refused_complete, refused_sound, stops_complete, stops_sound, tracks_sound}
use Rattle.ba_policy.proofs.StatementLemmas.{statements_complete, statements_sound}

-- ---- counts

not_above : (m n : ℕ) → n ≤ m → nat_lt m n ≡ false
not_above m n le = at (nat_lt m n) refl
  where
    above_within : (m n : ℕ) → m < n → n ≤ m → ⊥
    above_within m n lt le = omega arith

    at : (b : Bool) → nat_lt m n ≡ b → nat_lt m n ≡ false
    at false h = h
    at true h = absurd (above_within m n (ltb-true m n h) le)

module _ {X : Type 0} (m : ℕ) (count : X → ℕ) where
  some_above : (xs : List X) → list_any (λ x. nat_lt m (count x)) xs ≡ true → Any (λ x. m < count x) xs
  some_above xs h = let a = Any-from_list_any (λ x. nat_lt m (count x)) xs h in (a.0, a.1, a.2, a.3, ltb-true m (count a.1) a.4)

  above_some : (xs : List X) → Any (λ x. m < count x) xs → list_any (λ x. nat_lt m (count x)) xs ≡ true
  above_some xs a = list_any-from_Any (λ x. nat_lt m (count x)) xs (a.0, a.1, a.2, a.3, lt-ltb m (count a.1) a.4)

  none_above : (xs : List X) → list_any (λ x. nat_lt m (count x)) xs ≡ false → All (λ x. count x ≤ m) xs
  none_above [] h = All-nil (λ x. count x ≤ m)
  none_above (x ∷ xs) h =
      let p = or_parts (nat_lt m (count x)) (list_any (λ x. nat_lt m (count x)) xs) h in
      All-cons (λ x. count x ≤ m) x xs (ltb-false m (count x) p.0) (none_above xs p.1)

  above_none : (xs : List X) → All (λ x. count x ≤ m) xs → list_any (λ x. nat_lt m (count x)) xs ≡ false
  above_none xs h = list_any_none (λ x. nat_lt m (count x)) xs (All-weaker (λ x. count x ≤ m) (λ x. nat_lt m (count x) ≡ false) (λ x le. not_above m (count x) le) xs h)

abbrev queries_count : CacheKey → ℕ
queries_count it = length it.queries

abbrev arguments_count : List Parameter → CacheKey → ℕ
arguments_count params it = length params + length it.arguments

abbrev FewQueries : List CacheKey → Type 0
FewQueries keys = All (λ it. length it.queries ≤ most_key_queries) keys

abbrev FewArguments : List Parameter → List CacheKey → Type 0
FewArguments params keys = All (λ it. length params + length it.arguments ≤ most_params) keys

small_keys : (params : List Parameter) (keys : List CacheKey) → FewQueries keys → FewArguments params keys → All (IsSmall params) keys
small_keys params keys queries arguments = λ k d lt. record { queries = queries k d lt; arguments = arguments k d lt }

record Within (d : Draft) : Type 0 where
  views : length d.views ≤ most_views
  keys : length d.keys ≤ most_cache_keys
  queries : FewQueries d.keys
  params : length d.params ≤ most_params
  arguments : FewArguments d.params d.keys

abbrev DraftExceeds : Draft → Counted → ℕ → Type 0
DraftExceeds d = Exceeds d.params d.views d.keys

data Finish (schema : Schema) (d : Draft) : Type 0 where
  fine : Within d → finished schema d ≡ Ok (policy schema d) → Finish schema d
  many : (what : Counted) (limit : ℕ) → DraftExceeds d what limit → finished schema d ≡ Err (TooMany what limit) → Finish schema d

-- more parameters than the limit, alone or with a key's arguments
abbrev ManyParams : Draft → Type 0
ManyParams d = (most_params < length d.params) ⊎ Any (λ it. most_params < length d.params + length it.arguments) d.keys

many_params : (d : Draft) → (nat_lt most_params (length d.params) || list_any (many_arguments d.params) d.keys) ≡ true → ManyParams d
many_params d h = elim (or_cases (nat_lt most_params (length d.params)) (list_any (many_arguments d.params) d.keys) h) [
  | inl a ↦ inl (ltb-true most_params (length d.params) a)
  | inr b ↦ inr (some_above most_params (arguments_count d.params) d.keys b)
]

params_many : (d : Draft) → ManyParams d → (nat_lt most_params (length d.params) || list_any (many_arguments d.params) d.keys) ≡ true
params_many d (inl a) = or_left (nat_lt most_params (length d.params)) (list_any (many_arguments d.params) d.keys) (lt-ltb most_params (length d.params) a)
params_many d (inr b) = or_right (nat_lt most_params (length d.params)) (list_any (many_arguments d.params) d.keys) (above_some most_params (arguments_count d.params) d.keys b)

finish : (schema : Schema) (d : Draft) → Finish schema d
finish schema d = at (nat_lt most_views (length d.views)) (nat_lt most_cache_keys (length d.keys)) (list_any many_queries d.keys) (nat_lt most_params (length d.params) || list_any (many_arguments d.params) d.keys) refl refl refl refl
  where
    at : (a b c e : Bool) → nat_lt most_views (length d.views) ≡ a → nat_lt most_cache_keys (length d.keys) ≡ b → list_any many_queries d.keys ≡ c → (nat_lt most_params (length d.params) || list_any (many_arguments d.params) d.keys) ≡ e → Finish schema d
    at true b c e ha hb hc he = many Views most_views (ltb-true most_views (length d.views) ha, refl) (rw ha refl)
    at false true c e ha hb hc he = many CacheKeys most_cache_keys (ltb-false most_views (length d.views) ha, ltb-true most_cache_keys (length d.keys) hb, refl) (rw (ha, hb) refl)
    at false false true e ha hb hc he =
        many KeyQueries most_key_queries (ltb-false most_views (length d.views) ha, ltb-false most_cache_keys (length d.keys) hb, some_above most_key_queries queries_count d.keys hc, refl) (rw (ha, hb, hc) refl)
    at false false false true ha hb hc he =
        many Params most_params (ltb-false most_views (length d.views) ha, ltb-false most_cache_keys (length d.keys) hb, none_above most_key_queries queries_count d.keys hc, many_params d he, refl) (rw (ha, hb, hc, he) refl)
    at false false false false ha hb hc he =
        let p = or_parts (nat_lt most_params (length d.params)) (list_any (many_arguments d.params) d.keys) he in
        fine
        (record {
          views = ltb-false most_views (length d.views) ha;
          keys = ltb-false most_cache_keys (length d.keys) hb;
          queries = none_above most_key_queries queries_count d.keys hc;
          params = ltb-false most_params (length d.params) p.0;
          arguments = none_above most_params (arguments_count d.params) d.keys p.1;
        })
        (rw (ha, hb, hc, he) refl)

-- a draft without excess has small keys
pub kept_small : (schema : Schema) (d : Draft) → excess d ≡ None → All (IsSmall d.params) d.keys
kept_small schema d none = of (finish schema d)
  where
    no_policy : (p : Policy) (f : PolicyFault) → ◌≡◌ {A = Result Policy PolicyFault} (Ok p) (Err f) → ⊥
    no_policy p f e = cc

    of : Finish schema d → All (IsSmall d.params) d.keys
    of (fine w is) = small_keys d.params d.keys w.queries w.arguments
    of (many what limit over is) = absurd (no_policy (policy schema d) (TooMany what limit) (sym (ap (λ (o : Option PolicyFault). unless o (policy schema d)) none) ∙ is))

within : (schema : Schema) (d : Draft) → Within d → finished schema d ≡ Ok (policy schema d)
within schema d h =
    let few : (nat_lt most_params (length d.params) || list_any (many_arguments d.params) d.keys) ≡ false =
    or_from (nat_lt most_params (length d.params)) (list_any (many_arguments d.params) d.keys) (not_above most_params (length d.params) h.params) (above_none most_params (arguments_count d.params) d.keys h.arguments) in
    rw (not_above most_views (length d.views) h.views, not_above most_cache_keys (length d.keys) h.keys, above_none most_key_queries queries_count d.keys h.queries, few) refl

above : (schema : Schema) (d : Draft) (what : Counted) (limit : ℕ) → DraftExceeds d what limit → finished schema d ≡ Err (TooMany what limit)
above schema d Views limit h = rw (lt-ltb most_views (length d.views) h.0) (ap (λ (n : ℕ). Err (TooMany Views n)) (sym h.1))
above schema d CacheKeys limit h = rw (not_above most_views (length d.views) h.0, lt-ltb most_cache_keys (length d.keys) h.1) (ap (λ (n : ℕ). Err (TooMany CacheKeys n)) (sym h.2))
above schema d KeyQueries limit h =
    rw (not_above most_views (length d.views) h.0, not_above most_cache_keys (length d.keys) h.1, above_some most_key_queries queries_count d.keys h.2) (ap (λ (n : ℕ). Err (TooMany KeyQueries n)) (sym h.3))
above schema d Params limit h =
    rw (not_above most_views (length d.views) h.0, not_above most_cache_keys (length d.keys) h.1, above_none most_key_queries queries_count d.keys h.2, params_many d h.3) (ap (λ (n : ℕ). Err (TooMany Params n)) (sym h.4))
above schema d _ limit h = absurd h

-- ---- what the file gives, case by case

record Written (bytes : List ℕ) (ss : List StatementText) : Type 0 where
  tokens : List Token
  read : file_tokens_of most_text_bytes bytes ≡ Ok tokens
  parsed : statements_at (lexemes_of tokens) ≡ Ok ss

gives_lex : (schema : Schema) (bytes : List ℕ) (f : LexFault) → file_tokens_of most_text_bytes bytes ≡ Err f → policy_of schema bytes ≡ Err (Lex f)
unfolding policy_of
gives_lex schema bytes f e = rw e refl

gives_syntax : (schema : Schema) (bytes : List ℕ) (tokens : List Token) (s : OfGrammar) → file_tokens_of most_text_bytes bytes ≡ Ok tokens → statements_at (lexemes_of tokens) ≡ Err s → policy_of schema bytes ≡ Err Syntax
unfolding policy_of
gives_syntax schema bytes tokens s r e = rw (r, e) refl

gives_fault : (schema : Schema) (bytes : List ℕ) (ss : List StatementText) (f : PolicyFault) → Written bytes ss → all_added schema (params_in ss) nothing ss ≡ Err f → policy_of schema bytes ≡ Err f
unfolding policy_of policy_of_statements
gives_fault schema bytes ss f w e = rw (w.read, w.parsed, e) refl

gives_finished : (schema : Schema) (bytes : List ℕ) (ss : List StatementText) (d : Draft) → Written bytes ss → all_added schema (params_in ss) nothing ss ≡ Ok d → policy_of schema bytes ≡ finished schema d
unfolding policy_of policy_of_statements
gives_finished schema bytes ss d w e = rw (w.read, w.parsed, e) refl

data Outcome (schema : Schema) (bytes : List ℕ) : Type 0 where
  lex : (f : LexFault) → file_tokens_of most_text_bytes bytes ≡ Err f → policy_of schema bytes ≡ Err (Lex f) → Outcome schema bytes
  syntax : (tokens : List Token) (s : OfGrammar) → file_tokens_of most_text_bytes bytes ≡ Ok tokens → statements_at (lexemes_of tokens) ≡ Err s → policy_of schema bytes ≡ Err Syntax → Outcome schema bytes
  fault : (ss : List StatementText) (f : PolicyFault) → Written bytes ss → all_added schema (params_in ss) nothing ss ≡ Err f → IsOfStatement f → policy_of schema bytes ≡ Err f → Outcome schema bytes
  many : (ss : List StatementText) (d : Draft) (what : Counted) (limit : ℕ) → Written bytes ss → all_added schema (params_in ss) nothing ss ≡ Ok d → DraftExceeds d what limit → policy_of schema bytes ≡ Err (TooMany what limit) → Outcome schema bytes
  right : (ss : List StatementText) (d : Draft) → Written bytes ss → all_added schema (params_in ss) nothing ss ≡ Ok d → Within d → policy_of schema bytes ≡ Ok (policy schema d) → Outcome schema bytes

outcome : (schema : Schema) (bytes : List ℕ) → Outcome schema bytes
outcome schema bytes = of_tokens (file_tokens_of most_text_bytes bytes) refl
  where
    of_finish : (ss : List StatementText) (d : Draft) → Written bytes ss → all_added schema (params_in ss) nothing ss ≡ Ok d → Finish schema d → Outcome schema bytes
    of_finish ss d w e (fine few h) = right ss d w e few (gives_finished schema bytes ss d w e ∙ h)
    of_finish ss d w e (many what limit x h) = many ss d what limit w e x (gives_finished schema bytes ss d w e ∙ h)

    of_added : (ss : List StatementText) → Written bytes ss → (r : Result Draft PolicyFault) → all_added schema (params_in ss) nothing ss ≡ r → Outcome schema bytes
    of_added ss w (Ok d) e = of_finish ss d w e (finish schema d)
    of_added ss w (Err f) e =
        let stop = stops_sound schema (params_in ss) nothing ss f e in
        fault ss f w e (of_statement schema (params_in ss) stop.at stop.statement f stop.refused) (gives_fault schema bytes ss f w e)

    of_statements : (tokens : List Token) → file_tokens_of most_text_bytes bytes ≡ Ok tokens → (r : Result (List StatementText) OfGrammar) → statements_at (lexemes_of tokens) ≡ r → Outcome schema bytes
    of_statements tokens r (Err s) e = syntax tokens s r e (gives_syntax schema bytes tokens s r e)
    of_statements tokens r (Ok ss) e = of_added ss (record { tokens = tokens; read = r; parsed = e }) (all_added schema (params_in ss) nothing ss) refl

    of_tokens : (r : Result (List Token) LexFault) → file_tokens_of most_text_bytes bytes ≡ r → Outcome schema bytes
    of_tokens (Err f) e = lex f e (gives_lex schema bytes f e)
    of_tokens (Ok tokens) e = of_statements tokens e (statements_at (lexemes_of tokens)) refl

-- ---- all statements, whose parameters are those of the policy

declared_sound : (schema : Schema) (ss : List StatementText) (d : Draft) → all_added schema (params_in ss) nothing ss ≡ Ok d → Declare schema d.params ss d.params d.views d.keys
declared_sound schema ss d h =
    subst (λ (ps : List Parameter). Declare schema ps ss d.params d.views d.keys) (sym (params_are schema (params_in ss) ss d h)) (declare_sound schema (params_in ss) ss d h)

declared_complete : (schema : Schema) (ss : List StatementText) (params : List Parameter) (views : List View) (keys : List CacheKey) → Declare schema params ss params views keys → all_added schema (params_in ss) nothing ss ≡ Ok (draft params views keys)
declared_complete schema ss params views keys h =
    declare_complete schema (params_in ss) ss params views keys (subst (λ (ps : List Parameter). Declare schema ps ss params views keys) h.are h)

-- ---- written policies

written_sound : (bytes : List ℕ) (ss : List StatementText) → Written bytes ss → IsWrittenPolicy bytes ss
written_sound bytes ss w = record { tokens = w.tokens; read = w.read; written = statements_sound (lexemes_of w.tokens) ss w.parsed }

written_complete : (bytes : List ℕ) (ss : List StatementText) → IsWrittenPolicy bytes ss → Written bytes ss
written_complete bytes ss h = record { tokens = h.tokens; read = h.read; parsed = statements_complete (lexemes_of h.tokens) ss h.written }

-- ---- the laws

policies : (p q : Policy) → ◌≡◌ {A = Result Policy PolicyFault} (Ok p) (Ok q) → p ≡ q
policies p q e = cc

same_fault : (f g : PolicyFault) → ◌≡◌ {A = Result Policy PolicyFault} (Err f) (Err g) → f ≡ g
same_fault f g e = cc

pub policy_sound : (schema : Schema) (bytes : List ℕ) (p : Policy) → policy_of schema bytes ≡ Ok p → ReadsPolicy schema bytes p
policy_sound schema bytes p e = of (outcome schema bytes)
  where
    of : Outcome schema bytes → ReadsPolicy schema bytes p
    of (lex f h g) = let wrong = sym g ∙ e in cc
    of (syntax tokens s r h g) = let wrong = sym g ∙ e in cc
    of (fault ss f w h is g) = let wrong = sym g ∙ e in cc
    of (many ss d what limit w h x g) = let wrong = sym g ∙ e in cc
    of (right ss d w h few g) =
        subst (ReadsPolicy schema bytes) (policies (policy schema d) p (sym g ∙ e))
        (record {
          statements = ss;
          written = written_sound bytes ss w;
          same = refl;
          declared = declared_sound schema ss d h;
          few_views = few.views;
          few_params = few.params;
          few_keys = few.keys;
          small_keys = small_keys d.params d.keys few.queries few.arguments;
        })

pub policy_complete : (schema : Schema) (bytes : List ℕ) (p : Policy) → ReadsPolicy schema bytes p → policy_of schema bytes ≡ Ok p
policy_complete schema bytes p h =
    let d : Draft = draft p.params p.views p.keys in
    let same = h.same in
    let small = h.small_keys in
    gives_finished schema bytes h.statements d (written_complete bytes h.statements h.written) (declared_complete schema h.statements p.params p.views p.keys h.declared)
    ∙ within schema d (record { views = h.few_views; keys = h.few_keys; queries = λ k d lt. (small k d lt).queries; params = h.few_params; arguments = λ k d lt. (small k d lt).arguments })
    ∙ (λ i. Ok (record { schema = sym same i; params = p.params; views = p.views; keys = p.keys }))

pub one_policy : (schema : Schema) (bytes : List ℕ) (p q : Policy) → ReadsPolicy schema bytes p → ReadsPolicy schema bytes q → p ≡ q
one_policy schema bytes p q a b = policies p q (sym (policy_complete schema bytes p a) ∙ policy_complete schema bytes q b)

pub lex_sound : (schema : Schema) (bytes : List ℕ) (f : LexFault) → policy_of schema bytes ≡ Err (Lex f) → file_tokens_of most_text_bytes bytes ≡ Err f
lex_sound schema bytes f e = of (outcome schema bytes)
  where
    of : Outcome schema bytes → file_tokens_of most_text_bytes bytes ≡ Err f
    of (lex x h g) = let both = sym g ∙ e in let same : x ≡ f = cc in h ∙ ap (λ (y : LexFault). Err y) same
    of (syntax tokens s r h g) = let wrong = sym g ∙ e in cc
    of (fault ss x w h is g) = absurd (subst IsOfStatement (same_fault x (Lex f) (sym g ∙ e)) is)
    of (many ss d what limit w h x g) = let wrong = sym g ∙ e in cc
    of (right ss d w h few g) = let wrong = sym g ∙ e in cc

pub lex_complete : (schema : Schema) (bytes : List ℕ) (f : LexFault) → file_tokens_of most_text_bytes bytes ≡ Err f → policy_of schema bytes ≡ Err (Lex f)
lex_complete schema bytes f e = gives_lex schema bytes f e

pub syntax_sound : (schema : Schema) (bytes : List ℕ) → policy_of schema bytes ≡ Err Syntax → HasNoForm bytes
syntax_sound schema bytes e = of (outcome schema bytes)
  where
    of : Outcome schema bytes → HasNoForm bytes
    of (lex x h g) = let wrong = sym g ∙ e in cc
    of (syntax tokens s r h g) = record { tokens = tokens; read = r; none = λ (ss : List StatementText) (a : AreStatements ss (lexemes_of tokens)). refused ss (sym h ∙ statements_complete (lexemes_of tokens) ss a) }
      where
        refused : (ss : List StatementText) → ◌≡◌ {A = Result (List StatementText) OfGrammar} (Err s) (Ok ss) → ⊥
        refused ss e = cc
    of (fault ss x w h is g) = absurd (subst IsOfStatement (same_fault x Syntax (sym g ∙ e)) is)
    of (many ss d what limit w h x g) = let wrong = sym g ∙ e in cc
    of (right ss d w h few g) = let wrong = sym g ∙ e in cc

pub syntax_complete : (schema : Schema) (bytes : List ℕ) → HasNoForm bytes → policy_of schema bytes ≡ Err Syntax
syntax_complete schema bytes h = of (statements_at (lexemes_of h.tokens)) refl
  where
    of : (r : Result (List StatementText) OfGrammar) → statements_at (lexemes_of h.tokens) ≡ r → policy_of schema bytes ≡ Err Syntax
    of (Err s) e = gives_syntax schema bytes h.tokens s h.read e
    of (Ok ss) e = absurd (h.none ss (statements_sound (lexemes_of h.tokens) ss e))

pub statement_sound : (schema : Schema) (bytes : List ℕ) (f : PolicyFault) → IsOfStatement f → policy_of schema bytes ≡ Err f → HasStatementFault schema bytes f
statement_sound schema bytes f is e = of (outcome schema bytes)
  where
    of : Outcome schema bytes → HasStatementFault schema bytes f
    of (lex x h g) = absurd (subst IsOfStatement (same_fault f (Lex x) (sym e ∙ g)) is)
    of (syntax tokens s r h g) = absurd (subst IsOfStatement (same_fault f Syntax (sym e ∙ g)) is)
    of (fault ss x w h ok g) =
        let stop = stops_sound schema (params_in ss) nothing ss f (h ∙ ap (λ (y : PolicyFault). Err y) (same_fault x f (sym g ∙ e))) in
        let all_are : params_in ss ≡ params_in (stop.before ++ stop.statement ∷ stop.after) = ap params_in stop.are in
        record {
          before = stop.before;
          statement = stop.statement;
          after = stop.after;
          params = stop.at.params;
          views = stop.at.views;
          keys = stop.at.keys;
          written = subst (IsWrittenPolicy bytes) stop.are (written_sound bytes ss w);
          declared = subst (λ (ps : List Parameter). Declare schema ps stop.before stop.at.params stop.at.views stop.at.keys) all_are (declare_sound schema (params_in ss) stop.before stop.at stop.reaches);
          refused =
              subst (λ (ps : List Parameter). Refuses schema ps stop.at.params stop.at.views stop.at.keys stop.statement f) all_are
              (refused_sound schema (params_in ss) stop.at stop.statement f (tracks_sound schema (params_in ss) stop.before stop.at stop.reaches) stop.refused);
        }
    of (many ss d what limit w h x g) = absurd (subst IsOfStatement (same_fault f (TooMany what limit) (sym e ∙ g)) is)
    of (right ss d w h few g) = let wrong = sym g ∙ e in cc

pub statement_complete : (schema : Schema) (bytes : List ℕ) (f : PolicyFault) → HasStatementFault schema bytes f → policy_of schema bytes ≡ Err f
statement_complete schema bytes f h =
    let ss : List StatementText = h.before ++ h.statement ∷ h.after in
    gives_fault schema bytes ss f (written_complete bytes ss h.written)
    (stops_complete schema (params_in ss) nothing (draft h.params h.views h.keys) h.before h.after h.statement f (declare_complete schema (params_in ss) h.before h.params h.views h.keys h.declared)
    (refused_complete schema (params_in ss) h.params h.views h.keys h.statement f h.refused))

pub many_sound : (schema : Schema) (bytes : List ℕ) (what : Counted) (limit : ℕ) → policy_of schema bytes ≡ Err (TooMany what limit) → HasTooMany schema bytes what limit
many_sound schema bytes what limit e = of (outcome schema bytes)
  where
    of : Outcome schema bytes → HasTooMany schema bytes what limit
    of (lex x h g) = let wrong = sym g ∙ e in cc
    of (syntax tokens s r h g) = let wrong = sym g ∙ e in cc
    of (fault ss x w h is g) = absurd (subst IsOfStatement (same_fault x (TooMany what limit) (sym g ∙ e)) is)
    of (many ss d k n w h x g) =
        let both = same_fault (TooMany k n) (TooMany what limit) (sym g ∙ e) in
        let kept : k ≡ what = cc in
        let most : n ≡ limit = cc in
        record {
          statements = ss;
          params = d.params;
          views = d.views;
          keys = d.keys;
          written = written_sound bytes ss w;
          declared = declared_sound schema ss d h;
          many = subst (λ (m : ℕ). DraftExceeds d what m) most (subst (λ (j : Counted). DraftExceeds d j n) kept x);
        }
    of (right ss d w h few g) = let wrong = sym g ∙ e in cc

pub many_complete : (schema : Schema) (bytes : List ℕ) (what : Counted) (limit : ℕ) → HasTooMany schema bytes what limit → policy_of schema bytes ≡ Err (TooMany what limit)
many_complete schema bytes what limit h =
    let d : Draft = draft h.params h.views h.keys in
    gives_finished schema bytes h.statements d (written_complete bytes h.statements h.written) (declared_complete schema h.statements h.params h.views h.keys h.declared) ∙ above schema d what limit h.many

-- ---- what a policy that is finished is like

pub finished_small : (schema : Schema) (d : Draft) (p : Policy) → finished schema d ≡ Ok p → All (IsSmall p.params) p.keys
finished_small schema d p e = of (finish schema d)
  where
    of : Finish schema d → All (IsSmall p.params) p.keys
    of (fine few g) = subst (λ (q : Policy). All (IsSmall q.params) q.keys) (policies (policy schema d) p (sym g ∙ e)) (small_keys d.params d.keys few.queries few.arguments)
    of (many what limit x g) = let wrong = sym g ∙ e in cc
