-- What statements declare, by the function and as a relation.
use Rattle.std.proofs.Common.{◌≡◌, ℕ, ◌<◌, Bool, true, false, List, [], ◌∷◌, ◌++◌, length, take, map, get_or, Contains, Option, Some, None, Result, Ok, Err, refl, sym, ap, subst, ◌∙◌, append_assoc, arith}
use Rattle.std.specs.Cmp.Lexicographic.{nat_list_eq_equiv}
use Rattle.std.specs.List.{AllByRecursion, AllZip, IsDistinct, list_any}
use Rattle.std.proofs.lemmas.Bool.{false_from_ne_true, false≢true, or_parts}
use Rattle.std.proofs.lemmas.List.{append-nil, length-append, map-append}
use Rattle.std.proofs.lemmas.Map.Made.{AllPairs-from_IsDistinct, IsDistinct-from_AllPairs}
use Rattle.std.proofs.lemmas.Map.Views.{Contains-from_any, list_any-from_Contains}
use Rattle.std.proofs.lemmas.Slice.Eq.{bytes_eq-Decides}
use Rattle.ba_lex.specs.declared.token.Lexeme.{Lexeme}
use Rattle.ba_model.proofs.DistinctLemmas.{repeats}
use Rattle.ba_model.specs.Readings.{◌>>=◌}
use Rattle.ba_model.specs.declared.policy.CacheKey.{CacheKey}
use Rattle.ba_model.specs.declared.policy.Parameter.{Parameter}
use Rattle.ba_model.specs.declared.policy.View.{View}
use Rattle.ba_model.specs.declared.query.Query.{Query}
use Rattle.ba_model.specs.declared.schema.Kind.{Kind}
use Rattle.ba_model.specs.declared.schema.Schema.{Schema}
use Rattle.ba_policy.specs.Laws.{AllDiffer, Declare, HasBadQuery, IsKeyOf, IsOfStatement, IsViewOf, KeyRefused, Reads, Refuses, Repeats, keys_in, names_of, views_in}
use Rattle.ba_policy.specs.Meaning.{added, all_added, first_repeat, key_added, key_named, nothing, param_added, params_in, queries_of, same_name, scope_of, unless_repeated, view_added, with_key, with_param, with_queries, with_query, with_view}
use Rattle.ba_policy.specs.Statements.{StatementText, parameter}
use Rattle.ba_policy.specs.Statements.StatementText.{key, param, view}
use Rattle.ba_policy.specs.declared.draft.Draft.{Draft}
use Rattle.ba_policy.specs.declared.error.PolicyFault.{PolicyFault}
use Rattle.ba_policy.specs.declared.error.PolicyFault.TheVariants.{Lex, Syntax, DuplicateKey, DuplicateParam, DuplicateView, Key as KeyFault, View as ViewFault, TooMany}
use Rattle.ba_sql_query.specs.Texts.{query_of_words}
use Rattle.ba_sql_query.specs.declared.fault.ReadQueryFault.{ReadQueryFault}

abbrev param_names : List Parameter → List (List ℕ)
param_names params = map (λ p. p.name) params

abbrev view_names : List View → List (List ℕ)
view_names views = map (λ v. v.name) views

abbrev key_names : List CacheKey → List (List ℕ)
key_names keys = map (λ k. k.name) keys

name_same : (a b : List ℕ) → same_name a b ≡ true → a ≡ b
name_same a b h = (bytes_eq-Decides a b).0 h

-- ---- distinct names

new_name : (ks : List (List ℕ)) (x : List ℕ) → IsDistinct same_name ks → list_any (same_name x) ks ≡ false → IsDistinct same_name (ks ++ x ∷ [])
unfolding IsDistinct
new_name [] x d h = (tt, tt)
new_name (k ∷ ks) x d h =
    let p = or_parts (same_name x k) (list_any (same_name x) ks) h in
    (put ks d.0, new_name ks x d.1 p.1)
  where
    put : (ys : List (List ℕ)) → AllByRecursion (λ y. same_name k y ≡ false) ys → AllByRecursion (λ y. same_name k y ≡ false) (ys ++ x ∷ [])
    put [] a = (nat_list_eq_equiv.symm k x ∙ (or_parts (same_name x k) (list_any (same_name x) ks) h).0, tt)
    put (y ∷ ys) a = (a.0, put ys a.1)

take_length : {A : Type 0} (xs ys : List A) → take (length xs) (xs ++ ys) ≡ xs
take_length [] ys = refl
take_length (x ∷ xs) ys = ap (λ r. x ∷ r) (take_length xs ys)

at_length : {A : Type 0} (xs ys : List A) (y : A) → get_or (xs ++ y ∷ ys) (length xs) y ≡ y
at_length [] ys y = refl
at_length (x ∷ xs) ys y = at_length xs ys y

not_before : (ks : List (List ℕ)) (x : List ℕ) (xs : List (List ℕ)) → IsDistinct same_name (ks ++ x ∷ xs) → list_any (same_name x) ks ≡ false
not_before ks x xs h =
    let lt : length ks < length (ks ++ x ∷ xs) = omega (arith, length-append ks (x ∷ xs)) in
    false_from_ne_true (list_any (same_name x) ks)
    (λ found. repeats same_name nat_list_eq_equiv.symm (ks ++ x ∷ xs) (length ks) x lt (sym (at_length ks xs x)) (rw (take_length ks (x ∷ xs)) found) h)

differ : (names : List (List ℕ)) → IsDistinct same_name names → AllDiffer names
differ names h = AllPairs-from_IsDistinct bytes_eq-Decides names h

distinct : (names : List (List ℕ)) → AllDiffer names → IsDistinct same_name names
distinct names h = IsDistinct-from_AllPairs bytes_eq-Decides names h

contained : (names : List (List ℕ)) (n : List ℕ) → list_any (same_name n) names ≡ true → Contains names n
contained names n e = Contains-from_any {eq = same_name} name_same n names e

contains : (names : List (List ℕ)) (n : List ℕ) → Contains names n → list_any (same_name n) names ≡ true
contains names n c = list_any-from_Contains nat_list_eq_equiv n names c

-- ---- arguments

not_there : (names : List (List ℕ)) (n : List ℕ) → ¬ Contains names n → list_any (same_name n) names ≡ false
not_there names n h = false_from_ne_true (list_any (same_name n) names) (λ e. h (contained names n e))

no_repeat_sound : (arguments : List Parameter) (names : List (List ℕ)) → IsDistinct same_name names → first_repeat names arguments ≡ None → IsDistinct same_name (names ++ param_names arguments)
unfolding first_repeat
no_repeat_sound [] names d h = subst (IsDistinct same_name) (sym (append-nil names)) d
no_repeat_sound (a ∷ others) names d h = at (list_any (same_name a.name) names) refl (no_repeat_sound others (names ++ a.name ∷ []))
  where
    at : (t : Bool) → list_any (same_name a.name) names ≡ t
        → (IsDistinct same_name (names ++ a.name ∷ []) → first_repeat (names ++ a.name ∷ []) others ≡ None → IsDistinct same_name ((names ++ a.name ∷ []) ++ param_names others))
        → IsDistinct same_name (names ++ a.name ∷ param_names others)
    at true g below = let wrong : ◌≡◌ {A = Option (List ℕ)} (Some a.name) None = rw g at h in cc
    at false g below =
        subst (IsDistinct same_name) (append_assoc names (a.name ∷ []) (param_names others)) (below (new_name names a.name d g) (rw g at h))

no_repeat_complete : (arguments : List Parameter) (names : List (List ℕ)) → IsDistinct same_name (names ++ param_names arguments) → first_repeat names arguments ≡ None
unfolding first_repeat
no_repeat_complete [] names d = refl
no_repeat_complete (a ∷ others) names d =
    rw (not_before names a.name (param_names others) d) (no_repeat_complete others (names ++ a.name ∷ []) (subst (IsDistinct same_name) (sym (append_assoc names (a.name ∷ []) (param_names others))) d))

one_more_name : (names : List (List ℕ)) (a : Parameter) (before : List Parameter) → (names ++ a.name ∷ []) ++ param_names before ≡ names ++ param_names (a ∷ before)
one_more_name names a before = append_assoc names (a.name ∷ []) (param_names before)

repeat_sound : (arguments : List Parameter) (names : List (List ℕ)) (n : List ℕ) → IsDistinct same_name names → first_repeat names arguments ≡ Some n → Repeats names arguments n
unfolding first_repeat
repeat_sound [] names n d h = cc
repeat_sound (a ∷ others) names n d h = at (list_any (same_name a.name) names) refl (repeat_sound others (names ++ a.name ∷ []) n)
  where
    at : (t : Bool) → list_any (same_name a.name) names ≡ t
        → (IsDistinct same_name (names ++ a.name ∷ []) → first_repeat (names ++ a.name ∷ []) others ≡ Some n → Repeats (names ++ a.name ∷ []) others n)
        → Repeats names (a ∷ others) n
    at true g below =
        let found : ◌≡◌ {A = Option (List ℕ)} (Some a.name) (Some n) = rw g at h in
        let named : a.name ≡ n = cc in
        record {
          before = [];
          it = a;
          after = others;
          are = refl;
          named = named;
          there = subst (λ (ns : List (List ℕ)). Contains ns n) (sym (append-nil names)) (subst (Contains names) named (contained names a.name g));
          differ = differ (names ++ []) (subst (IsDistinct same_name) (sym (append-nil names)) d);
        }
    at false g below =
        let r = below (new_name names a.name d g) (rw g at h) in
        record {
          before = a ∷ r.before;
          it = r.it;
          after = r.after;
          are = ap (λ (xs : List Parameter). a ∷ xs) r.are;
          named = r.named;
          there = subst (λ (ns : List (List ℕ)). Contains ns n) (one_more_name names a r.before) r.there;
          differ = subst AllDiffer (one_more_name names a r.before) r.differ;
        }

repeat_of : (before after : List Parameter) (it : Parameter) (names : List (List ℕ)) → IsDistinct same_name (names ++ param_names before) → Contains (names ++ param_names before) it.name → first_repeat names (before ++ it ∷ after) ≡ Some it.name
unfolding first_repeat
repeat_of [] after it names d c = rw (contains names it.name (subst (λ (ns : List (List ℕ)). Contains ns it.name) (append-nil names) c)) refl
repeat_of (b ∷ bs) after it names d c =
    rw (not_before names b.name (param_names bs) d)
    (repeat_of bs after it (names ++ b.name ∷ []) (subst (IsDistinct same_name) (sym (one_more_name names b bs)) d) (subst (λ (ns : List (List ℕ)). Contains ns it.name) (sym (one_more_name names b bs)) c))

repeat_complete : (arguments : List Parameter) (names : List (List ℕ)) (n : List ℕ) → Repeats names arguments n → first_repeat names arguments ≡ Some n
repeat_complete arguments names n r =
    ap (first_repeat names) r.are
    ∙ repeat_of r.before r.after r.it names (distinct (names ++ param_names r.before) r.differ) (subst (Contains (names ++ param_names r.before)) (sym r.named) r.there)
    ∙ ap (λ (x : List ℕ). Some x) r.named

-- ---- the queries of a key

ok_queries : (a b : List Query) → ◌≡◌ {A = Result (List Query) ReadQueryFault} (Ok a) (Ok b) → a ≡ b
ok_queries a b e = cc

same_query_fault : (a b : ReadQueryFault) → ◌≡◌ {A = Result (List Query) ReadQueryFault} (Err a) (Err b) → a ≡ b
same_query_fault a b e = cc

abbrev put_query : Query → List Query → Result (List Query) ReadQueryFault
put_query q qs = Ok (q ∷ qs)

module _ (schema : Schema) (params : List Parameter) where
  queries_sound : (texts : List (List Lexeme)) (qs : List Query) → queries_of schema params texts ≡ Ok qs → AllZip (Reads schema params) texts qs
  unfolding queries_of
  queries_sound [] qs h = subst (AllZip (Reads schema params) []) (ok_queries [] qs h) tt
  queries_sound (w ∷ ws) qs h = of (query_of_words schema params w) refl h (queries_sound ws)
    where
      rest : (q : Query) → query_of_words schema params w ≡ Ok q → (r : Result (List Query) ReadQueryFault) → queries_of schema params ws ≡ r → (r >>= put_query q) ≡ Ok qs
          → ((more : List Query) → queries_of schema params ws ≡ Ok more → AllZip (Reads schema params) ws more) → AllZip (Reads schema params) (w ∷ ws) qs
      rest q is (Ok more) read h below = subst (AllZip (Reads schema params) (w ∷ ws)) (ok_queries (q ∷ more) qs h) (is, below more read)
      rest q is (Err f) read h below = cc

      of : (r : Result Query ReadQueryFault) → query_of_words schema params w ≡ r → (r >>= λ q. (queries_of schema params ws >>= put_query q)) ≡ Ok qs
          → ((more : List Query) → queries_of schema params ws ≡ Ok more → AllZip (Reads schema params) ws more) → AllZip (Reads schema params) (w ∷ ws) qs
      of (Ok q) is h below = rest q is (queries_of schema params ws) refl h below
      of (Err f) is h below = cc

  queries_complete : (texts : List (List Lexeme)) (qs : List Query) → AllZip (Reads schema params) texts qs → queries_of schema params texts ≡ Ok qs
  unfolding queries_of
  queries_complete [] [] h = refl
  queries_complete [] (q ∷ qs) h = absurd h
  queries_complete (w ∷ ws) [] h = absurd h
  queries_complete (w ∷ ws) (q ∷ qs) h = rw (h.0, queries_complete ws qs h.1) refl

  bad_sound : (texts : List (List Lexeme)) (f : ReadQueryFault) → queries_of schema params texts ≡ Err f → HasBadQuery schema params texts f
  unfolding queries_of
  bad_sound [] f h = cc
  bad_sound (w ∷ ws) f h = of (query_of_words schema params w) refl h (bad_sound ws f)
    where
      rest : (q : Query) → query_of_words schema params w ≡ Ok q → (r : Result (List Query) ReadQueryFault) → queries_of schema params ws ≡ r → (r >>= put_query q) ≡ Err f
          → (queries_of schema params ws ≡ Err f → HasBadQuery schema params ws f) → HasBadQuery schema params (w ∷ ws) f
      rest q is (Ok more) read h below = cc
      rest q is (Err g) read h below =
          let b = below (read ∙ h) in
          record { before = w ∷ b.before; words = b.words; after = b.after; queries = q ∷ b.queries; are = ap (λ (xs : List (List Lexeme)). w ∷ xs) b.are; good = (is, b.good); bad = b.bad }

      of : (r : Result Query ReadQueryFault) → query_of_words schema params w ≡ r → (r >>= λ q. (queries_of schema params ws >>= put_query q)) ≡ Err f
          → (queries_of schema params ws ≡ Err f → HasBadQuery schema params ws f) → HasBadQuery schema params (w ∷ ws) f
      of (Ok q) is h below = rest q is (queries_of schema params ws) refl h below
      of (Err g) is h below =
          record { before = []; words = w; after = ws; queries = []; are = refl; good = tt; bad = is ∙ ap (λ (x : ReadQueryFault). Err x) (same_query_fault g f h) }

  bad_of : (before after : List (List Lexeme)) (words : List Lexeme) (qs : List Query) (f : ReadQueryFault) → AllZip (Reads schema params) before qs → query_of_words schema params words ≡ Err f → queries_of schema params (before ++ words ∷ after) ≡ Err f
  unfolding queries_of
  bad_of [] after words qs f good bad = rw bad refl
  bad_of (w ∷ ws) after words [] f good bad = absurd good
  bad_of (w ∷ ws) after words (q ∷ qs) f good bad = rw (good.0, bad_of ws after words qs f good.1 bad) refl

  bad_complete : (texts : List (List Lexeme)) (f : ReadQueryFault) → HasBadQuery schema params texts f → queries_of schema params texts ≡ Err f
  bad_complete texts f b = ap (queries_of schema params) b.are ∙ bad_of b.before b.after b.words b.queries f b.good b.bad

-- ---- drafts

-- the names of a draft are those of its parameters, views and keys, each once
pub record Tracks (d : Draft) : Type 0 where
  pub params : d.param_names ≡ param_names d.params
  pub views : d.view_names ≡ view_names d.views
  pub keys : d.key_names ≡ key_names d.keys
  pub differ : IsDistinct same_name (param_names d.params)
  pub views_differ : IsDistinct same_name (view_names d.views)
  pub keys_differ : IsDistinct same_name (key_names d.keys)

pub nothing_tracks : Tracks nothing
unfolding IsDistinct
nothing_tracks = record { params = refl; views = refl; keys = refl; differ = tt; views_differ = tt; keys_differ = tt }

param_tracks : (d : Draft) (n : List ℕ) (k : Kind) → Tracks d → list_any (same_name n) d.param_names ≡ false → Tracks (with_param d n k)
param_tracks d n k t h =
    let more : param_names (d.params ++ parameter n k ∷ []) ≡ param_names d.params ++ n ∷ [] = map-append (λ (p : Parameter). p.name) d.params (parameter n k ∷ []) in
    let new : list_any (same_name n) (param_names d.params) ≡ false = ap (list_any (same_name n)) (sym t.params) ∙ h in
    record {
      params = ap (λ (ns : List (List ℕ)). ns ++ n ∷ []) t.params ∙ sym more;
      views = t.views;
      keys = t.keys;
      differ = subst (IsDistinct same_name) (sym more) (new_name (param_names d.params) n t.differ new);
      views_differ = t.views_differ;
      keys_differ = t.keys_differ;
    }

view_tracks : (d : Draft) (n : List ℕ) (q : Query) → Tracks d → list_any (same_name n) d.view_names ≡ false → Tracks (with_query d n q)
view_tracks d n q t h =
    let v : View = record { name = n; query = q } in
    let more : view_names (d.views ++ v ∷ []) ≡ view_names d.views ++ n ∷ [] = map-append (λ (v : View). v.name) d.views (v ∷ []) in
    let new : list_any (same_name n) (view_names d.views) ≡ false = ap (list_any (same_name n)) (sym t.views) ∙ h in
    record {
      params = t.params;
      views = ap (λ (ns : List (List ℕ)). ns ++ n ∷ []) t.views ∙ sym more;
      keys = t.keys;
      differ = t.differ;
      views_differ = subst (IsDistinct same_name) (sym more) (new_name (view_names d.views) n t.views_differ new);
      keys_differ = t.keys_differ;
    }

key_tracks : (d : Draft) (n : List ℕ) (ps : List Parameter) (qs : List Query) → Tracks d → list_any (same_name n) d.key_names ≡ false → Tracks (with_queries d n ps qs)
key_tracks d n ps qs t h =
    let k : CacheKey = record { name = n; arguments = ps; queries = qs } in
    let more : key_names (d.keys ++ k ∷ []) ≡ key_names d.keys ++ n ∷ [] = map-append (λ (k : CacheKey). k.name) d.keys (k ∷ []) in
    let new : list_any (same_name n) (key_names d.keys) ≡ false = ap (list_any (same_name n)) (sym t.keys) ∙ h in
    record {
      params = t.params;
      views = t.views;
      keys = ap (λ (ns : List (List ℕ)). ns ++ n ∷ []) t.keys ∙ sym more;
      differ = t.differ;
      views_differ = t.views_differ;
      keys_differ = subst (IsDistinct same_name) (sym more) (new_name (key_names d.keys) n t.keys_differ new);
    }

-- ---- results

drafts : (a b : Draft) → ◌≡◌ {A = Result Draft PolicyFault} (Ok a) (Ok b) → a ≡ b
drafts a b e = cc

faults : (a b : PolicyFault) → ◌≡◌ {A = Result Draft PolicyFault} (Err a) (Err b) → a ≡ b
faults a b e = cc

no_draft : (a : Draft) (f : PolicyFault) → ◌≡◌ {A = Result Draft PolicyFault} (Err f) (Ok a) → ⊥
no_draft a f e = cc

-- ---- one statement that declares something

pub record ParamAdded (d e : Draft) (n : List ℕ) (k : Kind) : Type 0 where
  pub new : list_any (same_name n) d.param_names ≡ false
  pub is : with_param d n k ≡ e

pub param_is : (d e : Draft) (n : List ℕ) (k : Kind) → param_added d n k ≡ Ok e → ParamAdded d e n k
param_is d e n k h = at (list_any (same_name n) d.param_names) refl
  where
    at : (t : Bool) → list_any (same_name n) d.param_names ≡ t → ParamAdded d e n k
    at false g = record { new = g; is = drafts (with_param d n k) e (rw g at h) }
    at true g = absurd (no_draft e (DuplicateParam n) (rw g at h))

pub record ViewAdded (schema : Schema) (d e : Draft) (n : List ℕ) (ws : List Lexeme) : Type 0 where
  pub new : list_any (same_name n) d.view_names ≡ false
  pub query : Query
  pub reads : query_of_words schema d.params ws ≡ Ok query
  pub is : with_query d n query ≡ e

pub view_is : (schema : Schema) (d e : Draft) (n : List ℕ) (ws : List Lexeme) → view_added schema d n ws ≡ Ok e → ViewAdded schema d e n ws
view_is schema d e n ws h = at (list_any (same_name n) d.view_names) refl
  where
    of : list_any (same_name n) d.view_names ≡ false → (r : Result Query ReadQueryFault) → query_of_words schema d.params ws ≡ r → with_view d n r ≡ Ok e → ViewAdded schema d e n ws
    of g (Ok q) is h = record { new = g; query = q; reads = is; is = drafts (with_query d n q) e h }
    of g (Err f) is h = absurd (no_draft e (ViewFault n f) h)

    at : (t : Bool) → list_any (same_name n) d.view_names ≡ t → ViewAdded schema d e n ws
    at false g = of g (query_of_words schema d.params ws) refl (rw g at h)
    at true g = absurd (no_draft e (DuplicateView n) (rw g at h))

pub record KeyAdded (schema : Schema) (all : List Parameter) (d e : Draft) (n : List ℕ) (ps : List Parameter) (ws : List (List Lexeme)) : Type 0 where
  pub apart : first_repeat d.param_names ps ≡ None
  pub new : list_any (same_name n) d.key_names ≡ false
  queries : List Query
  pub reads : queries_of schema (scope_of all (length d.params) ps) ws ≡ Ok queries
  pub is : with_queries d n ps queries ≡ e

pub key_is : (schema : Schema) (all : List Parameter) (d e : Draft) (n : List ℕ) (ps : List Parameter) (ws : List (List Lexeme)) → key_added schema all d n ps ws ≡ Ok e → KeyAdded schema all d e n ps ws
key_is schema all d e n ps ws h = apart (first_repeat d.param_names ps) refl h
  where
    of : first_repeat d.param_names ps ≡ None → list_any (same_name n) d.key_names ≡ false → (r : Result (List Query) ReadQueryFault) → queries_of schema (scope_of all (length d.params) ps) ws ≡ r → with_key d n ps r ≡ Ok e → KeyAdded schema all d e n ps ws
    of a g (Ok qs) is h = record { apart = a; new = g; queries = qs; reads = is; is = drafts (with_queries d n ps qs) e h }
    of a g (Err f) is h = absurd (no_draft e (KeyFault n f) h)

    at : first_repeat d.param_names ps ≡ None → (t : Bool) → list_any (same_name n) d.key_names ≡ t → key_named schema all d n ps ws ≡ Ok e → KeyAdded schema all d e n ps ws
    at a false g h = of a g (queries_of schema (scope_of all (length d.params) ps) ws) refl (rw g at h)
    at a true g h = absurd (no_draft e (DuplicateKey n) (rw g at h))

    apart : (o : Option (List ℕ)) → first_repeat d.param_names ps ≡ o → unless_repeated o (key_named schema all d n ps ws) ≡ Ok e → KeyAdded schema all d e n ps ws
    apart None a h = at a (list_any (same_name n) d.key_names) refl h
    apart (Some m) a h = absurd (no_draft e (DuplicateParam m) h)

-- ---- several statements that declare something

pub record Adds (schema : Schema) (all : List Parameter) (d e : Draft) (ss : List StatementText) : Type 0 where
  pub params : e.params ≡ d.params ++ params_in ss
  pub made : List View
  pub views : e.views ≡ d.views ++ made
  pub are : AllZip (IsViewOf schema) (views_in d.params ss) made
  pub made_keys : List CacheKey
  pub keys : e.keys ≡ d.keys ++ made_keys
  pub keys_are : AllZip (IsKeyOf schema all) (keys_in d.params ss) made_keys
  pub tracks : Tracks e

abbrev and_then : Schema → List Parameter → List StatementText → Draft → Result Draft PolicyFault
and_then schema all ss d = all_added schema all d ss

bind_draft : (r : Result Draft PolicyFault) (f : Draft → Result Draft PolicyFault) (e : Draft) → (r >>= f) ≡ Ok e → (d : Draft) × (r ≡ Ok d) × (f d ≡ Ok e)
bind_draft (Ok d) f e h = (d, refl, h)
bind_draft (Err x) f e h = cc

-- the names of the parameters and of a key's arguments differ exactly where no argument repeats one
apart_sound : (d : Draft) (ps : List Parameter) → Tracks d → first_repeat d.param_names ps ≡ None → AllDiffer (names_of d.params ++ names_of ps)
apart_sound d ps t a =
    differ (param_names d.params ++ param_names ps) (no_repeat_sound ps (param_names d.params) t.differ (ap (λ (ns : List (List ℕ)). first_repeat ns ps) (sym t.params) ∙ a))

apart_complete : (d : Draft) (ps : List Parameter) → Tracks d → AllDiffer (names_of d.params ++ names_of ps) → first_repeat d.param_names ps ≡ None
apart_complete d ps t a = ap (λ (ns : List (List ℕ)). first_repeat ns ps) t.params ∙ no_repeat_complete ps (param_names d.params) (distinct (param_names d.params ++ param_names ps) a)

pub adds_sound : (schema : Schema) (all : List Parameter) (d e : Draft) (ss : List StatementText) → Tracks d → all_added schema all d ss ≡ Ok e → Adds schema all d e ss
adds_sound schema all d e [] t h =
    subst (λ (x : Draft). Adds schema all d x []) (drafts d e h)
    (record { params = sym (append-nil d.params); made = []; views = sym (append-nil d.views); are = tt; made_keys = []; keys = sym (append-nil d.keys); keys_are = tt; tracks = t })
adds_sound schema all d e (param n k ∷ ss) t h =
    let a = bind_draft (param_added d n k) (and_then schema all ss) e h in
    let p = param_is d a.0 n k a.1 in
    let rest : all_added schema all (with_param d n k) ss ≡ Ok e = ap (and_then schema all ss) p.is ∙ a.2 in
    let r = adds_sound schema all (with_param d n k) e ss (param_tracks d n k t p.new) rest in
    record {
      params = r.params ∙ append_assoc d.params (parameter n k ∷ []) (params_in ss);
      made = r.made;
      views = r.views;
      are = r.are;
      made_keys = r.made_keys;
      keys = r.keys;
      keys_are = r.keys_are;
      tracks = r.tracks;
    }
adds_sound schema all d e (view n ws ∷ ss) t h =
    let a = bind_draft (view_added schema d n ws) (and_then schema all ss) e h in
    let v = view_is schema d a.0 n ws a.1 in
    let q : Query = v.query in
    let it : View = record { name = n; query = q } in
    let rest : all_added schema all (with_query d n q) ss ≡ Ok e = ap (and_then schema all ss) v.is ∙ a.2 in
    let r = adds_sound schema all (with_query d n q) e ss (view_tracks d n q t v.new) rest in
    record {
      params = r.params;
      made = it ∷ r.made;
      views = r.views ∙ append_assoc d.views (it ∷ []) r.made;
      are = (record { name = refl; query = v.reads }, r.are);
      made_keys = r.made_keys;
      keys = r.keys;
      keys_are = r.keys_are;
      tracks = r.tracks;
    }
adds_sound schema all d e (key n ps ws ∷ ss) t h =
    let a = bind_draft (key_added schema all d n ps ws) (and_then schema all ss) e h in
    let k = key_is schema all d a.0 n ps ws a.1 in
    let qs : List Query = k.queries in
    let it : CacheKey = record { name = n; arguments = ps; queries = qs } in
    let rest : all_added schema all (with_queries d n ps qs) ss ≡ Ok e = ap (and_then schema all ss) k.is ∙ a.2 in
    let r = adds_sound schema all (with_queries d n ps qs) e ss (key_tracks d n ps qs t k.new) rest in
    record {
      params = r.params;
      made = r.made;
      views = r.views;
      are = r.are;
      made_keys = it ∷ r.made_keys;
      keys = r.keys ∙ append_assoc d.keys (it ∷ []) r.made_keys;
      keys_are = (record { name = refl; arguments = refl; differ = apart_sound d ps t k.apart; queries = queries_sound schema (scope_of all (length d.params) ps) ws qs k.reads }, r.keys_are);
      tracks = r.tracks;
    }

-- the draft of these parameters, views and keys
abbrev pub draft : List Parameter → List View → List CacheKey → Draft
draft params views keys = record { params = params; views = views; keys = keys; param_names = param_names params; view_names = view_names views; key_names = key_names keys }

tracked : (d : Draft) → Tracks d → d ≡ draft d.params d.views d.keys
tracked d t =
    let p = t.params in
    let v = t.views in
    let k = t.keys in
    λ i. record { params = d.params; views = d.views; keys = d.keys; param_names = p i; view_names = v i; key_names = k i }

key_same : (m : CacheKey) (n : List ℕ) (ps : List Parameter) → m.name ≡ n → m.arguments ≡ ps → ◌≡◌ {A = CacheKey} (record { name = n; arguments = ps; queries = m.queries }) m
key_same m n ps named arguments = λ i. record { name = sym named i; arguments = sym arguments i; queries = m.queries }

pub adds_complete : (schema : Schema) (all : List Parameter) (d : Draft) (ss : List StatementText) (made : List View) (keys : List CacheKey) → Tracks d → AllZip (IsViewOf schema) (views_in d.params ss) made → AllZip (IsKeyOf schema all) (keys_in d.params ss) keys
    → IsDistinct same_name (param_names (d.params ++ params_in ss)) → IsDistinct same_name (view_names (d.views ++ made)) → IsDistinct same_name (key_names (d.keys ++ keys))
    → all_added schema all d ss ≡ Ok (draft (d.params ++ params_in ss) (d.views ++ made) (d.keys ++ keys))
adds_complete schema all d [] [] [] t are ks ps vs ds =
    ap (λ (x : Draft). Ok x) (tracked d t) ∙ (λ i. Ok (draft (sym (append-nil d.params) i) (sym (append-nil d.views) i) (sym (append-nil d.keys) i)))
adds_complete schema all d [] (m ∷ ms) keys t are ks ps vs ds = absurd are
adds_complete schema all d [] [] (k ∷ keys) t are ks ps vs ds = absurd ks
adds_complete schema all d (param n k ∷ ss) made keys t are ks ps vs ds =
    let more : d.params ++ parameter n k ∷ params_in ss ≡ (d.params ++ parameter n k ∷ []) ++ params_in ss = sym (append_assoc d.params (parameter n k ∷ []) (params_in ss)) in
    let names : param_names (d.params ++ parameter n k ∷ params_in ss) ≡ param_names d.params ++ n ∷ param_names (params_in ss) = map-append (λ (p : Parameter). p.name) d.params (parameter n k ∷ params_in ss) in
    let new : list_any (same_name n) d.param_names ≡ false = ap (list_any (same_name n)) t.params ∙ not_before (param_names d.params) n (param_names (params_in ss)) (subst (IsDistinct same_name) names ps) in
    let rest = adds_complete schema all (with_param d n k) ss made keys (param_tracks d n k t new) are ks (subst (λ (xs : List Parameter). IsDistinct same_name (param_names xs)) more ps) vs ds in
    let step : param_added d n k ≡ Ok (with_param d n k) = rw new refl in
    ap (λ (r : Result Draft PolicyFault). r >>= and_then schema all ss) step ∙ rest ∙ (λ i. Ok (draft (sym more i) (d.views ++ made) (d.keys ++ keys)))
adds_complete schema all d (view n ws ∷ ss) [] keys t are ks ps vs ds = absurd are
adds_complete schema all d (view n ws ∷ ss) (m ∷ ms) keys t are ks ps vs ds =
    let v = are.0 in
    let it : View = record { name = n; query = m.query } in
    let named = v.name in
    let same : it ≡ m = λ i. record { name = sym named i; query = m.query } in
    let more : d.views ++ m ∷ ms ≡ (d.views ++ it ∷ []) ++ ms = ap (λ (x : View). d.views ++ x ∷ ms) (sym same) ∙ sym (append_assoc d.views (it ∷ []) ms) in
    let names : view_names (d.views ++ m ∷ ms) ≡ view_names d.views ++ n ∷ view_names ms =
    map-append (λ (v : View). v.name) d.views (m ∷ ms) ∙ ap (λ (x : List ℕ). view_names d.views ++ x ∷ view_names ms) named in
    let new : list_any (same_name n) d.view_names ≡ false = ap (list_any (same_name n)) t.views ∙ not_before (view_names d.views) n (view_names ms) (subst (IsDistinct same_name) names vs) in
    let rest = adds_complete schema all (with_query d n m.query) ss ms keys (view_tracks d n m.query t new) are.1 ks ps (subst (λ (xs : List View). IsDistinct same_name (view_names xs)) more vs) ds in
    let step : view_added schema d n ws ≡ Ok (with_query d n m.query) = rw (new, v.query) refl in
    ap (λ (r : Result Draft PolicyFault). r >>= and_then schema all ss) step ∙ rest ∙ (λ i. Ok (draft (d.params ++ params_in ss) (sym more i) (d.keys ++ keys)))
adds_complete schema all d (key n others ws ∷ ss) made [] t are ks ps vs ds = absurd ks
adds_complete schema all d (key n others ws ∷ ss) made (m ∷ ms) t are ks ps vs ds =
    let k = ks.0 in
    let it : CacheKey = record { name = n; arguments = others; queries = m.queries } in
    let named = k.name in
    let same : it ≡ m = key_same m n others named k.arguments in
    let more : d.keys ++ m ∷ ms ≡ (d.keys ++ it ∷ []) ++ ms = ap (λ (x : CacheKey). d.keys ++ x ∷ ms) (sym same) ∙ sym (append_assoc d.keys (it ∷ []) ms) in
    let names : key_names (d.keys ++ m ∷ ms) ≡ key_names d.keys ++ n ∷ key_names ms =
    map-append (λ (k : CacheKey). k.name) d.keys (m ∷ ms) ∙ ap (λ (x : List ℕ). key_names d.keys ++ x ∷ key_names ms) named in
    let new : list_any (same_name n) d.key_names ≡ false = ap (list_any (same_name n)) t.keys ∙ not_before (key_names d.keys) n (key_names ms) (subst (IsDistinct same_name) names ds) in
    let rest = adds_complete schema all (with_queries d n others m.queries) ss made ms (key_tracks d n others m.queries t new) are ks.1 ps vs (subst (λ (xs : List CacheKey). IsDistinct same_name (key_names xs)) more ds) in
    let step : key_added schema all d n others ws ≡ Ok (with_queries d n others m.queries) =
    rw (apart_complete d others t k.differ) (rw new (rw (queries_complete schema (scope_of all (length d.params) others) ws m.queries k.queries) refl)) in
    ap (λ (r : Result Draft PolicyFault). r >>= and_then schema all ss) step ∙ rest ∙ (λ i. Ok (draft (d.params ++ params_in ss) (d.views ++ made) (sym more i)))

-- ---- from nothing

pub declare_sound : (schema : Schema) (all : List Parameter) (ss : List StatementText) (e : Draft) → all_added schema all nothing ss ≡ Ok e → Declare schema all ss e.params e.views e.keys
declare_sound schema all ss e h =
    let a = adds_sound schema all nothing e ss nothing_tracks h in
    let t = a.tracks in
    record {
      are = a.params;
      differ = differ (param_names e.params) t.differ;
      made = subst (AllZip (IsViewOf schema) (views_in [] ss)) (sym a.views) a.are;
      views_differ = differ (view_names e.views) t.views_differ;
      keys_made = subst (AllZip (IsKeyOf schema all) (keys_in [] ss)) (sym a.keys) a.keys_are;
      keys_differ = differ (key_names e.keys) t.keys_differ;
    }

pub tracks_sound : (schema : Schema) (all : List Parameter) (ss : List StatementText) (e : Draft) → all_added schema all nothing ss ≡ Ok e → Tracks e
tracks_sound schema all ss e h = (adds_sound schema all nothing e ss nothing_tracks h).tracks

pub params_are : (schema : Schema) (all : List Parameter) (ss : List StatementText) (e : Draft) → all_added schema all nothing ss ≡ Ok e → e.params ≡ params_in ss
params_are schema all ss e h = (adds_sound schema all nothing e ss nothing_tracks h).params

pub declare_complete : (schema : Schema) (all : List Parameter) (ss : List StatementText) (params : List Parameter) (views : List View) (keys : List CacheKey) → Declare schema all ss params views keys → all_added schema all nothing ss ≡ Ok (draft params views keys)
declare_complete schema all ss params views keys h =
    let are = h.are in
    let ps : IsDistinct same_name (param_names (params_in ss)) = subst (λ (xs : List Parameter). IsDistinct same_name (param_names xs)) are (distinct (param_names params) h.differ) in
    adds_complete schema all nothing ss views keys nothing_tracks h.made h.keys_made ps (distinct (view_names views) h.views_differ) (distinct (key_names keys) h.keys_differ) ∙ (λ i. Ok (draft (sym are i) views keys))

-- ---- the first statement with a fault

pub record Stops (schema : Schema) (all : List Parameter) (d : Draft) (ss : List StatementText) (f : PolicyFault) : Type 0 where
  pub before : List StatementText
  pub statement : StatementText
  pub after : List StatementText
  pub at : Draft
  pub are : ss ≡ before ++ statement ∷ after
  pub reaches : all_added schema all d before ≡ Ok at
  pub refused : added schema all at statement ≡ Err f

pub stops_sound : (schema : Schema) (all : List Parameter) (d : Draft) (ss : List StatementText) (f : PolicyFault) → all_added schema all d ss ≡ Err f → Stops schema all d ss f
stops_sound schema all d [] f h = cc
stops_sound schema all d (s ∷ ss) f h = of (added schema all d s) refl h (λ (e : Draft). stops_sound schema all e ss f)
  where
    of : (r : Result Draft PolicyFault) → added schema all d s ≡ r → (r >>= and_then schema all ss) ≡ Err f → ((e : Draft) → all_added schema all e ss ≡ Err f → Stops schema all e ss f) → Stops schema all d (s ∷ ss) f
    of (Err g) is h below = record { before = []; statement = s; after = ss; at = d; are = refl; reaches = refl; refused = is ∙ ap (λ (x : PolicyFault). Err x) (faults g f h) }
    of (Ok e) is h below =
        let r = below e h in
        record {
          before = s ∷ r.before;
          statement = r.statement;
          after = r.after;
          at = r.at;
          are = ap (λ (xs : List StatementText). s ∷ xs) r.are;
          reaches = ap (λ (x : Result Draft PolicyFault). x >>= and_then schema all r.before) is ∙ r.reaches;
          refused = r.refused;
        }

pub stops_complete : (schema : Schema) (all : List Parameter) (d at : Draft) (before after : List StatementText) (s : StatementText) (f : PolicyFault) → all_added schema all d before ≡ Ok at → added schema all at s ≡ Err f → all_added schema all d (before ++ s ∷ after) ≡ Err f
stops_complete schema all d at [] after s f reaches refused =
    let same : added schema all d s ≡ Err f = ap (λ (x : Draft). added schema all x s) (drafts d at reaches) ∙ refused in
    ap (λ (x : Result Draft PolicyFault). x >>= and_then schema all after) same
stops_complete schema all d at (b ∷ bs) after s f reaches refused =
    let a = bind_draft (added schema all d b) (and_then schema all bs) at reaches in
    ap (λ (x : Result Draft PolicyFault). x >>= and_then schema all (bs ++ s ∷ after)) a.1 ∙ stops_complete schema all a.0 at bs after s f a.2 refused

-- ---- what a statement is refused for

param_refused : (d : Draft) (n : List ℕ) (k : Kind) (f : PolicyFault) → Tracks d → param_added d n k ≡ Err f → Contains (param_names d.params) n × (f ≡ DuplicateParam n)
param_refused d n k f t h = at (list_any (same_name n) d.param_names) refl
  where
    at : (b : Bool) → list_any (same_name n) d.param_names ≡ b → Contains (param_names d.params) n × (f ≡ DuplicateParam n)
    at true g = (contained (param_names d.params) n (ap (list_any (same_name n)) (sym t.params) ∙ g), faults f (DuplicateParam n) (sym (rw g at h)))
    at false g = let wrong : ◌≡◌ {A = Result Draft PolicyFault} (Ok (with_param d n k)) (Err f) = rw g at h in cc

module _ (schema : Schema) (all : List Parameter) (d : Draft) where
  abbrev DraftRefuses : StatementText → PolicyFault → Type 0
  DraftRefuses s f = Refuses schema all d.params d.views d.keys s f

  view_refused : (n : List ℕ) (ws : List Lexeme) (f : PolicyFault) → Tracks d → view_added schema d n ws ≡ Err f → DraftRefuses (view n ws) f
  view_refused n ws f t h = at (list_any (same_name n) d.view_names) refl
    where
      missing : list_any (same_name n) d.view_names ≡ false → ¬ Contains (view_names d.views) n
      missing g c = false≢true (sym g ∙ ap (list_any (same_name n)) t.views ∙ contains (view_names d.views) n c)

      of : list_any (same_name n) d.view_names ≡ false → (r : Result Query ReadQueryFault) → query_of_words schema d.params ws ≡ r → with_view d n r ≡ Err f → DraftRefuses (view n ws) f
      of g (Ok q) is h = let wrong : ◌≡◌ {A = Result Draft PolicyFault} (Ok (with_query d n q)) (Err f) = h in cc
      of g (Err x) is h = subst (DraftRefuses (view n ws)) (faults (ViewFault n x) f h) (missing g, refl, is)

      at : (b : Bool) → list_any (same_name n) d.view_names ≡ b → DraftRefuses (view n ws) f
      at true g =
          subst (DraftRefuses (view n ws)) (faults (DuplicateView n) f (rw g at h)) (contained (view_names d.views) n (ap (list_any (same_name n)) (sym t.views) ∙ g), refl)
      at false g = of g (query_of_words schema d.params ws) refl (rw g at h)

  key_refused : (n : List ℕ) (ps : List Parameter) (ws : List (List Lexeme)) (f : PolicyFault) → Tracks d → key_added schema all d n ps ws ≡ Err f → DraftRefuses (key n ps ws) f
  key_refused n ps ws f t h = apart (first_repeat d.param_names ps) refl h
    where
      missing : list_any (same_name n) d.key_names ≡ false → ¬ Contains (key_names d.keys) n
      missing g c = false≢true (sym g ∙ ap (list_any (same_name n)) t.keys ∙ contains (key_names d.keys) n c)

      of : first_repeat d.param_names ps ≡ None → list_any (same_name n) d.key_names ≡ false → (r : Result (List Query) ReadQueryFault) → queries_of schema (scope_of all (length d.params) ps) ws ≡ r → with_key d n ps r ≡ Err f → DraftRefuses (key n ps ws) f
      of a g (Ok qs) is h = let wrong : ◌≡◌ {A = Result Draft PolicyFault} (Ok (with_queries d n ps qs)) (Err f) = h in cc
      of a g (Err x) is h =
          subst (DraftRefuses (key n ps ws)) (faults (KeyFault n x) f h) (apart_sound d ps t a, missing g, refl, bad_sound schema (scope_of all (length d.params) ps) ws x is)

      at : first_repeat d.param_names ps ≡ None → (b : Bool) → list_any (same_name n) d.key_names ≡ b → key_named schema all d n ps ws ≡ Err f → DraftRefuses (key n ps ws) f
      at a true g h =
          subst (DraftRefuses (key n ps ws)) (faults (DuplicateKey n) f (rw g at h)) (apart_sound d ps t a, contained (key_names d.keys) n (ap (list_any (same_name n)) (sym t.keys) ∙ g), refl)
      at a false g h = of a g (queries_of schema (scope_of all (length d.params) ps) ws) refl (rw g at h)

      apart : (o : Option (List ℕ)) → first_repeat d.param_names ps ≡ o → unless_repeated o (key_named schema all d n ps ws) ≡ Err f → DraftRefuses (key n ps ws) f
      apart None a h = at a (list_any (same_name n) d.key_names) refl h
      apart (Some m) a h =
          subst (DraftRefuses (key n ps ws)) (faults (DuplicateParam m) f h) (repeat_sound ps (param_names d.params) m t.differ (ap (λ (ns : List (List ℕ)). first_repeat ns ps) (sym t.params) ∙ a))

pub refused_sound : (schema : Schema) (all : List Parameter) (d : Draft) (s : StatementText) (f : PolicyFault) → Tracks d → added schema all d s ≡ Err f → Refuses schema all d.params d.views d.keys s f
refused_sound schema all d (param n k) f t h = param_refused d n k f t h
refused_sound schema all d (view n ws) f t h = view_refused schema all d n ws f t h
refused_sound schema all d (key n ps ws) f t h = key_refused schema all d n ps ws f t h

key_refused_complete : (schema : Schema) (all params : List Parameter) (views : List View) (keys : List CacheKey) (n : List ℕ) (ps : List Parameter) (ws : List (List Lexeme)) (f : PolicyFault) → KeyRefused schema all params keys n ps ws f → key_added schema all (draft params views keys) n ps ws ≡ Err f
key_refused_complete schema all params views keys n ps ws (DuplicateParam other) h = rw (repeat_complete ps (param_names params) other h) refl
key_refused_complete schema all params views keys n ps ws (DuplicateKey other) h =
    rw (no_repeat_complete ps (param_names params) (distinct (param_names params ++ param_names ps) h.0)) (rw (contains (key_names keys) n h.1) (ap (λ (x : List ℕ). Err (DuplicateKey x)) (sym h.2)))
key_refused_complete schema all params views keys n ps ws (KeyFault other g) h =
    rw (no_repeat_complete ps (param_names params) (distinct (param_names params ++ param_names ps) h.0))
    (rw (not_there (key_names keys) n h.1) (rw (bad_complete schema (scope_of all (length params) ps) ws g h.3) (ap (λ (x : List ℕ). Err (KeyFault x g)) (sym h.2))))
key_refused_complete schema all params views keys n ps ws (DuplicateView other) h = absurd h
key_refused_complete schema all params views keys n ps ws (ViewFault other g) h = absurd h
key_refused_complete schema all params views keys n ps ws (Lex g) h = absurd h
key_refused_complete schema all params views keys n ps ws Syntax h = absurd h
key_refused_complete schema all params views keys n ps ws (TooMany what limit) h = absurd h

pub refused_complete : (schema : Schema) (all params : List Parameter) (views : List View) (keys : List CacheKey) (s : StatementText) (f : PolicyFault) → Refuses schema all params views keys s f → added schema all (draft params views keys) s ≡ Err f
refused_complete schema all params views keys (param n k) f h = rw (contains (param_names params) n h.0) (ap (λ (x : PolicyFault). Err x) (sym h.1))
refused_complete schema all params views keys (view n ws) (DuplicateView other) h = rw (contains (view_names views) n h.0) (ap (λ (x : List ℕ). Err (DuplicateView x)) (sym h.1))
refused_complete schema all params views keys (view n ws) (ViewFault other g) h = rw (not_there (view_names views) n h.0, h.2) (ap (λ (x : List ℕ). Err (ViewFault x g)) (sym h.1))
refused_complete schema all params views keys (view n ws) (Lex g) h = absurd h
refused_complete schema all params views keys (view n ws) Syntax h = absurd h
refused_complete schema all params views keys (view n ws) (DuplicateParam other) h = absurd h
refused_complete schema all params views keys (view n ws) (DuplicateKey other) h = absurd h
refused_complete schema all params views keys (view n ws) (KeyFault other g) h = absurd h
refused_complete schema all params views keys (view n ws) (TooMany what limit) h = absurd h
refused_complete schema all params views keys (key n ps ws) f h = key_refused_complete schema all params views keys n ps ws f h

-- a statement is refused for a fault of statements
pub of_statement : (schema : Schema) (all : List Parameter) (d : Draft) (s : StatementText) (f : PolicyFault) → added schema all d s ≡ Err f → IsOfStatement f
of_statement schema all d (param n k) f h = at (list_any (same_name n) d.param_names) refl
  where
    at : (b : Bool) → list_any (same_name n) d.param_names ≡ b → IsOfStatement f
    at true g = subst IsOfStatement (faults (DuplicateParam n) f (rw g at h)) tt
    at false g = let wrong : ◌≡◌ {A = Result Draft PolicyFault} (Ok (with_param d n k)) (Err f) = rw g at h in cc
of_statement schema all d (view n ws) f h = at (list_any (same_name n) d.view_names) refl
  where
    of : (r : Result Query ReadQueryFault) → with_view d n r ≡ Err f → IsOfStatement f
    of (Ok q) h = let wrong : ◌≡◌ {A = Result Draft PolicyFault} (Ok (with_query d n q)) (Err f) = h in cc
    of (Err x) h = subst IsOfStatement (faults (ViewFault n x) f h) tt

    at : (b : Bool) → list_any (same_name n) d.view_names ≡ b → IsOfStatement f
    at true g = subst IsOfStatement (faults (DuplicateView n) f (rw g at h)) tt
    at false g = of (query_of_words schema d.params ws) (rw g at h)
of_statement schema all d (key n ps ws) f h = apart (first_repeat d.param_names ps) h
  where
    of : (r : Result (List Query) ReadQueryFault) → with_key d n ps r ≡ Err f → IsOfStatement f
    of (Ok qs) h = let wrong : ◌≡◌ {A = Result Draft PolicyFault} (Ok (with_queries d n ps qs)) (Err f) = h in cc
    of (Err x) h = subst IsOfStatement (faults (KeyFault n x) f h) tt

    at : (b : Bool) → list_any (same_name n) d.key_names ≡ b → key_named schema all d n ps ws ≡ Err f → IsOfStatement f
    at true g h = subst IsOfStatement (faults (DuplicateKey n) f (rw g at h)) tt
    at false g h = of (queries_of schema (scope_of all (length d.params) ps) ws) (rw g at h)

    apart : (o : Option (List ℕ)) → unless_repeated o (key_named schema all d n ps ws) ≡ Err f → IsOfStatement f
    apart None h = at (list_any (same_name n) d.key_names) refl h
    apart (Some m) h = subst IsOfStatement (faults (DuplicateParam m) f h) tt
