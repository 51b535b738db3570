-- The arguments and queries of keys, as the loops find them.
use Rattle.std.proofs.Common.{◌≡◌, ℕ, zero, suc, ◌+◌, ◌-◌, ◌<◌, ◌≤◌, Bool, true, false, not, ◌||◌, cond, nat_lt, codes, List, [], ◌∷◌, ◌++◌, length, take, drop, get_or, map, All, Some, None, Result, Ok, Err, refl, sym, ap, subst, ◌∙◌, append_assoc, arith}
use Rattle.std.specs.List.{list_any}
use Rattle.std.proofs.lemmas.Bool.{ltb-false, ltb-true, or_parts}
use Rattle.std.proofs.lemmas.List.{append-nil, drop_all, drop_more, get_or-drop, length-append, length-drop, length-take, map-append, take_all, take_more}
use Rattle.std.proofs.lemmas.List.Elements.{All-nil, All-push, All-weaker}
use Rattle.std.proofs.lemmas.List.Folds.{list_any-append}
use Rattle.indexmap.specs.IndexSet.{insert_key}
use Rattle.ba_grammar.specs.Front.{is_keyword}
use Rattle.ba_lex.specs.declared.token.Lexeme.{Lexeme}
use Rattle.ba_model.specs.Fit.{IsQuery, KeyFits, kinds_of}
use Rattle.ba_model.specs.Readings.{◌>>=◌, Fails}
use Rattle.ba_model.specs.declared.failure.Failure.{Failure}
use Rattle.ba_model.specs.declared.failure.Failure.TheVariants.{NoMemory, Fault}
use Rattle.ba_model.specs.declared.policy.CacheKey.{CacheKey}
use Rattle.ba_model.specs.declared.policy.Parameter.{Parameter}
use Rattle.ba_model.specs.declared.policy.Policy.{Policy}
use Rattle.ba_model.specs.declared.query.Query.{Query}
use Rattle.ba_model.specs.declared.schema.Kind.{Kind}
use Rattle.ba_model.specs.declared.schema.Schema.{Schema}
use Rattle.ba_policy.specs.Meaning.{KeysFit, first_repeat, queries_of, same_name, scope_of, unnamed}
use Rattle.ba_policy.specs.Reader.{parted, parted_from}
use Rattle.ba_sql_query.specs.Texts.{query_of_words}
use Rattle.ba_sql_query.specs.declared.fault.ReadQueryFault.{ReadQueryFault}

-- ---- the words between the words ALSO

-- the queries before start are found, and there is no ALSO from start to i
pub record PartingAt (found : List (List Lexeme)) (start i : ℕ) (words : List Lexeme) : Type 0 where
  pub within : start ≤ i
  pub so_far : found ++ parted_from (take (i - start) (drop start words)) (drop i words) ≡ parted words

pub parting_start : (words : List Lexeme) → PartingAt [] 0 0 words
parting_start words = record { within = omega arith; so_far = refl }

split : (words : List Lexeme) (i : ℕ) (x : Lexeme) → i < length words → x ≡ get_or words i x → drop i words ≡ x ∷ drop (i + 1) words
split words i x lt is = drop_more words i x lt ∙ ap (λ (y : Lexeme). y ∷ drop (i + 1) words) (sym is)

nothing_between : (words : List Lexeme) (i : ℕ) → take (i + 1 - (i + 1)) (drop (i + 1) words) ≡ []
nothing_between words i = let none : i + 1 - (i + 1) ≡ 0 = omega arith in rw none refl

parting_ends_one : (found found2 : List (List Lexeme)) (query : List Lexeme) (start i : ℕ) (words : List Lexeme) (x : Lexeme) → PartingAt found start i words → i < length words → x ≡ get_or words i x → is_keyword (codes "ALSO") x ≡ true
    → query ≡ take (i - start) (drop start words) → found2 ≡ found ++ query ∷ [] → PartingAt found2 (i + 1) (i + 1) words
unfolding parted_from
parting_ends_one found found2 query start i words x at lt is also query_is more = record {
  within = omega arith;
  so_far =
      let was : found ++ parted_from (take (i - start) (drop start words)) (x ∷ drop (i + 1) words) ≡ parted words = rw (split words i x lt is) at at.so_far in
      let step : parted_from (take (i - start) (drop start words)) (x ∷ drop (i + 1) words) ≡ query ∷ parted_from [] (drop (i + 1) words) =
      rw also (ap (λ (q : List Lexeme). q ∷ parted_from [] (drop (i + 1) words)) (sym query_is)) in
      ap (λ (q : List Lexeme). found2 ++ parted_from q (drop (i + 1) words)) (nothing_between words i)
      ∙ ap (λ (qs : List (List Lexeme)). qs ++ parted_from [] (drop (i + 1) words)) more
      ∙ append_assoc found (query ∷ []) (parted_from [] (drop (i + 1) words))
      ∙ ap (λ (qs : List (List Lexeme)). found ++ qs) (sym step)
      ∙ was;
}

one_more : (words : List Lexeme) (start i : ℕ) (x : Lexeme) → start ≤ i → i < length words → x ≡ get_or words i x → take (i + 1 - start) (drop start words) ≡ take (i - start) (drop start words) ++ x ∷ []
one_more words start i x within lt is =
    let count : i + 1 - start ≡ (i - start) + 1 = omega (arith, within) in
    let place : start + (i - start) ≡ i = omega (arith, within) in
    let there : get_or (drop start words) (i - start) x ≡ x = get_or-drop start words (i - start) x ∙ ap (λ (n : ℕ). get_or words n x) place ∙ sym is in
    let inside : i - start < length (drop start words) = omega (arith, within, lt, length-drop start words) in
    ap (λ (n : ℕ). take n (drop start words)) count ∙ take_more (drop start words) (i - start) x inside ∙ ap (λ (y : Lexeme). take (i - start) (drop start words) ++ y ∷ []) there

parting_goes_on : (found : List (List Lexeme)) (start i : ℕ) (words : List Lexeme) (x : Lexeme) → PartingAt found start i words → i < length words → x ≡ get_or words i x → is_keyword (codes "ALSO") x ≡ false → PartingAt found start (i + 1) words
unfolding parted_from
parting_goes_on found start i words x at lt is also = record {
  within = omega (arith, at.within);
  so_far =
      let was : found ++ parted_from (take (i - start) (drop start words)) (x ∷ drop (i + 1) words) ≡ parted words = rw (split words i x lt is) at at.so_far in
      ap (λ (q : List Lexeme). found ++ parted_from q (drop (i + 1) words)) (one_more words start i x at.within lt is)
      ∙ ap (λ (qs : List (List Lexeme)). found ++ qs) (sym (step (take (i - start) (drop start words)) (drop (i + 1) words)))
      ∙ was;
}
  where
    step : (front rest : List Lexeme) → parted_from front (x ∷ rest) ≡ parted_from (front ++ x ∷ []) rest
    step front rest = rw also refl

parting_over : (found found2 : List (List Lexeme)) (query : List Lexeme) (start i : ℕ) (words : List Lexeme) → PartingAt found start i words → length words ≤ i → query ≡ drop start words → found2 ≡ found ++ query ∷ [] → found2 ≡ parted words
unfolding parted_from
parting_over found found2 query start i words at le query_is more =
    let all : take (i - start) (drop start words) ≡ drop start words = take_all (i - start) (drop start words) (omega (arith, le, length-drop start words)) in
    let was : found ++ parted_from (drop start words) [] ≡ parted words = rw (all, drop_all i words le) at at.so_far in
    more ∙ ap (λ (q : List Lexeme). found ++ q ∷ []) query_is ∙ was

module _ {A : Type 0} (f : A → List Lexeme) (words : List Lexeme) where
  shown_more : (found found2 : List A) (query : A) → found2 ≡ found ++ query ∷ [] → map f found2 ≡ map f found ++ f query ∷ []
  shown_more found found2 query more = ap (map f) more ∙ map-append f found (query ∷ [])

  pub parted_one : (found found2 : List A) (query : A) (start start2 i : ℕ) (x : Lexeme) → PartingAt (map f found) start i words → i < length words → x ≡ get_or words i x → is_keyword (codes "ALSO") x ≡ true → found2 ≡ found ++ query ∷ []
      → f query ≡ take (i - start) (drop start words) → start2 ≡ i + 1 → PartingAt (map f found2) start2 (i + 1) words
  parted_one found found2 query start start2 i x at lt is also more query_is start_is =
      subst (λ (s : ℕ). PartingAt (map f found2) s (i + 1) words) (sym start_is) (parting_ends_one (map f found) (map f found2) (f query) start i words x at lt is also query_is (shown_more found found2 query more))

  pub parted_on : (found found2 : List A) (start start2 i : ℕ) (x : Lexeme) → PartingAt (map f found) start i words → i < length words → x ≡ get_or words i x → is_keyword (codes "ALSO") x ≡ false → found2 ≡ found → start2 ≡ start → PartingAt (map f found2) start2 (i + 1) words
  parted_on found found2 start start2 i x at lt is also found_is start_is =
      subst (λ (s : ℕ). PartingAt (map f found2) s (i + 1) words) (sym start_is)
      (subst (λ (qs : List A). PartingAt (map f qs) start (i + 1) words) (sym found_is) (parting_goes_on (map f found) start i words x at lt is also))

  pub parted_over : (found found2 : List A) (query : A) (start i : ℕ) → PartingAt (map f found) start i words → length words ≤ i → found2 ≡ found ++ query ∷ [] → f query ≡ drop start words → map f found2 ≡ parted words
  parted_over found found2 query start i at le more query_is = parting_over (map f found) (map f found2) (f query) start i words at le query_is (shown_more found found2 query more)

-- ---- arguments that repeat a name

pub repeats_here : (params before : List (List ℕ)) (n : List ℕ) (known new : Bool) → known ≡ list_any (same_name n) params → new ≡ not (list_any (same_name n) before) → (known || not new) ≡ list_any (same_name n) (params ++ before)
repeats_here params before n known new k e =
    rw (k, e) (ap (λ (b : Bool). list_any (same_name n) params || b) (not_not (list_any (same_name n) before)) ∙ sym (list_any-append (same_name n) params before))
  where
    not_not : (b : Bool) → not (not b) ≡ b
    not_not true = refl
    not_not false = refl

pub new_added : (params before : List (List ℕ)) (n : List ℕ) → list_any (same_name n) (params ++ before) ≡ false → insert_key same_name before n ≡ before ++ n ∷ []
new_added params before n h =
    let p = or_parts (list_any (same_name n) params) (list_any (same_name n) before) (sym (list_any-append (same_name n) params before) ∙ h) in
    rw p.1 refl

pub record RepeatingAt (params before : List (List ℕ)) (arguments : List Parameter) (i : ℕ) : Type 0 where
  pub so_far : first_repeat (params ++ before) (drop i arguments) ≡ first_repeat params arguments

pub repeating_start : (params : List (List ℕ)) (arguments : List Parameter) → RepeatingAt params [] arguments 0
repeating_start params arguments = record { so_far = ap (λ (ns : List (List ℕ)). first_repeat ns arguments) (append-nil params) }

argument_split : (arguments : List Parameter) (i : ℕ) (a : Parameter) → i < length arguments → a ≡ get_or arguments i a → drop i arguments ≡ a ∷ drop (i + 1) arguments
argument_split arguments i a lt is = drop_more arguments i a lt ∙ ap (λ (y : Parameter). y ∷ drop (i + 1) arguments) (sym is)

pub repeating_found : (params before : List (List ℕ)) (arguments : List Parameter) (i : ℕ) (a : Parameter) → RepeatingAt params before arguments i → i < length arguments → a ≡ get_or arguments i a → list_any (same_name a.name) (params ++ before) ≡ true
    → first_repeat params arguments ≡ Some a.name
unfolding first_repeat
repeating_found params before arguments i a at lt is found = sym (rw (argument_split arguments i a lt is, found) at at.so_far)

pub repeating_goes_on : (params before before2 : List (List ℕ)) (arguments : List Parameter) (i : ℕ) (a : Parameter) → RepeatingAt params before arguments i → i < length arguments → a ≡ get_or arguments i a → list_any (same_name a.name) (params ++ before) ≡ false
    → before2 ≡ before ++ a.name ∷ [] → RepeatingAt params before2 arguments (i + 1)
unfolding first_repeat
repeating_goes_on params before before2 arguments i a at lt is none more = record {
  so_far =
      ap (λ (ns : List (List ℕ)). first_repeat (params ++ ns) (drop (i + 1) arguments)) more
      ∙ ap (λ (ns : List (List ℕ)). first_repeat ns (drop (i + 1) arguments)) (sym (append_assoc params before (a.name ∷ [])))
      ∙ (rw (argument_split arguments i a lt is, none) at at.so_far);
}

pub repeating_over : (params before : List (List ℕ)) (arguments : List Parameter) (i : ℕ) → RepeatingAt params before arguments i → length arguments ≤ i → first_repeat params arguments ≡ None
unfolding first_repeat
repeating_over params before arguments i at le = sym (rw (drop_all i arguments le) at at.so_far)

-- ---- the parameters that a query may name

abbrev pub declared_in : ℕ → List Parameter → List Parameter
declared_in n all = take n all ++ map unnamed (drop n all)

unnamed_size : (all : List Parameter) → length (map unnamed all) ≡ length all
unnamed_size [] = refl
unnamed_size (p ∷ ps) = ap suc (unnamed_size ps)

declared_size : (n : ℕ) (all : List Parameter) → length (declared_in n all) ≡ length all
declared_size n all = omega (arith, length-append (take n all) (map unnamed (drop n all)), unnamed_size (drop n all), length-drop n all, length-take n all)

unnamed_at : (all : List Parameter) (i : ℕ) (x d : Parameter) → i < length all → x ≡ get_or all i x → get_or (map unnamed all) i d ≡ unnamed x
unnamed_at [] i x d lt is = absurd (omega (arith, lt))
unnamed_at (p ∷ ps) zero x d lt is = ap unnamed (sym is)
unnamed_at (p ∷ ps) (suc i) x d lt is = unnamed_at ps i x d (omega (arith, lt)) is

named_at : (n : ℕ) (all : List Parameter) (i : ℕ) (x d : Parameter) → i < length all → x ≡ get_or all i x → i < n → get_or (declared_in n all) i d ≡ x
named_at n [] i x d lt is under = absurd (omega (arith, lt))
named_at zero (p ∷ ps) i x d lt is under = absurd (omega (arith, under))
named_at (suc n) (p ∷ ps) zero x d lt is under = sym is
named_at (suc n) (p ∷ ps) (suc i) x d lt is under = named_at n ps i x d (omega (arith, lt)) is (omega (arith, under))

hidden_at : (n : ℕ) (all : List Parameter) (i : ℕ) (x d : Parameter) → i < length all → x ≡ get_or all i x → n ≤ i → get_or (declared_in n all) i d ≡ unnamed x
hidden_at n [] i x d lt is over = absurd (omega (arith, lt))
hidden_at zero (p ∷ ps) i x d lt is over = unnamed_at (p ∷ ps) i x d lt is
hidden_at (suc n) (p ∷ ps) zero x d lt is over = absurd (omega (arith, over))
hidden_at (suc n) (p ∷ ps) (suc i) x d lt is over = hidden_at n ps i x d (omega (arith, lt)) is (omega (arith, over))

declared_at : (n : ℕ) (all : List Parameter) (i : ℕ) (x it : Parameter) → i < length all → x ≡ get_or all i x → it ≡ cond (nat_lt i n) x (unnamed x) → get_or (declared_in n all) i it ≡ it
declared_at n all i x it lt is made = at (nat_lt i n) refl
  where
    at : (b : Bool) → nat_lt i n ≡ b → get_or (declared_in n all) i it ≡ it
    at true h = named_at n all i x it lt is (ltb-true i n h) ∙ sym (rw h at made)
    at false h = hidden_at n all i x it lt is (ltb-false i n h) ∙ sym (rw h at made)

pub declared_more : (n : ℕ) (all : List Parameter) (i : ℕ) (x it : Parameter) (found found2 : List Parameter) → found ≡ take i (declared_in n all) → i < length all → x ≡ get_or all i x → it ≡ cond (nat_lt i n) x (unnamed x) → found2 ≡ found ++ it ∷ []
    → found2 ≡ take (i + 1) (declared_in n all)
declared_more n all i x it found found2 so_far lt is made more =
    let size = declared_size n all in
    more ∙ ap (λ (ps : List Parameter). ps ++ it ∷ []) so_far
    ∙ sym (take_more (declared_in n all) i it (omega (arith, size, lt)) ∙ ap (λ (y : Parameter). take i (declared_in n all) ++ y ∷ []) (declared_at n all i x it lt is made))

pub declared_over : (n : ℕ) (all : List Parameter) (i : ℕ) (found : List Parameter) → found ≡ take i (declared_in n all) → length all ≤ i → found ≡ declared_in n all
declared_over n all i found so_far le = let size = declared_size n all in so_far ∙ take_all i (declared_in n all) (omega (arith, size, le))

-- ---- the queries of a key

abbrev onto : List Query → Result (List Query) ReadQueryFault → Result (List Query) ReadQueryFault
onto found read = read >>= λ qs. Ok (found ++ qs)

onto_more : (found : List Query) (q : Query) (read : Result (List Query) ReadQueryFault) → onto found (read >>= λ qs. Ok (q ∷ qs)) ≡ onto (found ++ q ∷ []) read
onto_more found q (Ok qs) = ap (λ (xs : List Query). Ok xs) (sym (append_assoc found (q ∷ []) qs))
onto_more found q (Err e) = refl

onto_none : (read : Result (List Query) ReadQueryFault) → onto [] read ≡ read
onto_none (Ok qs) = refl
onto_none (Err e) = refl

module _ {A : Type 0} (words_of : A → List Lexeme) (schema : Schema) (params : List Parameter) (texts : List A) where
  abbrev read_at : ℕ → Result (List Query) ReadQueryFault
  read_at i = queries_of schema params (map words_of (drop i texts))

  pub record ReadingAt (found : List Query) (i : ℕ) : Type 0 where
    pub so_far : onto found (queries_of schema params (map words_of (drop i texts))) ≡ queries_of schema params (map words_of texts)
    pub fit : All (IsQuery schema (kinds_of params) []) found

  pub reading_start : ReadingAt [] 0
  reading_start = record { so_far = onto_none (queries_of schema params (map words_of texts)); fit = All-nil (IsQuery schema (kinds_of params) []) }

  text_split : (i : ℕ) (x : A) → i < length texts → x ≡ get_or texts i x → drop i texts ≡ x ∷ drop (i + 1) texts
  text_split i x lt is = drop_more texts i x lt ∙ ap (λ (y : A). y ∷ drop (i + 1) texts) (sym is)

  pub reading_more : (found found2 : List Query) (i : ℕ) (x : A) (q : Query) → ReadingAt found i → i < length texts → x ≡ get_or texts i x → query_of_words schema params (words_of x) ≡ Ok q → IsQuery schema (kinds_of params) [] q → found2 ≡ found ++ q ∷ [] → ReadingAt found2 (i + 1)
  unfolding queries_of
  reading_more found found2 i x q at lt is read fits more = record {
    so_far = rw more (sym (onto_more found q (read_at (i + 1))) ∙ (rw (text_split i x lt is, read) at at.so_far));
    fit = rw more (All-push (IsQuery schema (kinds_of params) []) found q at.fit fits);
  }

  pub reading_fails : (found : List Query) (i : ℕ) (x : A) (err : Failure ReadQueryFault) → ReadingAt found i → i < length texts → x ≡ get_or texts i x → Fails err (query_of_words schema params (words_of x)) → Fails err (queries_of schema params (map words_of texts))
  unfolding queries_of
  reading_fails found i x NoMemory at lt is h = tt
  reading_fails found i x (Fault f) at lt is h = sym (rw (text_split i x lt is, h) at at.so_far)

  pub reading_over : (found : List Query) (i : ℕ) → ReadingAt found i → length texts ≤ i → queries_of schema params (map words_of texts) ≡ Ok found
  unfolding queries_of
  reading_over found i at le = sym (rw (drop_all i texts le) at at.so_far) ∙ ap (λ (xs : List Query). Ok xs) (append-nil found)

-- ---- keys fit

unnamed_kinds : (all arguments : List Parameter) → kinds_of (map unnamed all ++ arguments) ≡ kinds_of (all ++ arguments)
unnamed_kinds [] arguments = refl
unnamed_kinds (p ∷ ps) arguments = ap (λ (ks : List Kind). p.kind ∷ ks) (unnamed_kinds ps arguments)

pub scope_kinds : (all : List Parameter) (n : ℕ) (arguments : List Parameter) → kinds_of (scope_of all n arguments) ≡ kinds_of (all ++ arguments)
scope_kinds [] zero arguments = refl
scope_kinds [] (suc n) arguments = refl
scope_kinds (p ∷ ps) zero arguments = unnamed_kinds (p ∷ ps) arguments
scope_kinds (p ∷ ps) (suc n) arguments = ap (λ (ks : List Kind). p.kind ∷ ks) (scope_kinds ps n arguments)

pub keys_fit_more : (schema : Schema) (all : List Parameter) (keys keys2 : List CacheKey) (made : CacheKey) (scope : List Parameter) (n : ℕ) → KeysFit schema all keys → scope ≡ scope_of all n made.arguments → All (IsQuery schema (kinds_of scope) []) made.queries
    → keys2 ≡ keys ++ made ∷ [] → KeysFit schema all keys2
keys_fit_more schema all keys keys2 made scope n fit scope_is queries more =
    let kinds : kinds_of scope ≡ kinds_of (all ++ made.arguments) = ap kinds_of scope_is ∙ scope_kinds all n made.arguments in
    subst (KeysFit schema all) (sym more)
    (All-push (λ it. All (IsQuery schema (kinds_of (all ++ it.arguments)) []) it.queries) keys made fit (subst (λ (ks : List Kind). All (IsQuery schema ks []) made.queries) kinds queries))

pub keys_fit_policy : (schema : Schema) (params : List Parameter) (keys : List CacheKey) (policy : Policy) → KeysFit schema params keys → policy.schema ≡ schema → policy.params ≡ params → policy.keys ≡ keys → All (KeyFits policy) policy.keys
keys_fit_policy schema params keys policy fit schema_is params_is keys_is =
    subst (All (KeyFits policy)) (sym keys_is)
    (All-weaker (λ it. All (IsQuery schema (kinds_of (params ++ it.arguments)) []) it.queries) (KeyFits policy) (λ it h. record { queries = moved it h }) keys fit)
  where
    moved : (it : CacheKey) → All (IsQuery schema (kinds_of (params ++ it.arguments)) []) it.queries → All (IsQuery policy.schema (kinds_of (policy.params ++ it.arguments)) []) it.queries
    moved it h =
        subst (λ (s : Schema). All (IsQuery s (kinds_of (policy.params ++ it.arguments)) []) it.queries) (sym schema_is)
        (subst (λ (ps : List Parameter). All (IsQuery schema (kinds_of (ps ++ it.arguments)) []) it.queries) (sym params_is) h)
