-- A text by the function, and in SQL's terms.
use Rattle.std.proofs.Common.{◌≡◌, ◌≢◌, ℕ, Bool, true, not, List, [], ◌∷◌, ◌++◌, map, Option, Some, None, Result, Ok, Err, refl, sym, ap, ap₂, subst, ◌∙◌}
use Rattle.std.specs.Prelude.{IfOk}
use Rattle.std.specs.List.{AllByRecursion, AllZip, flat_map, list_all}
use Rattle.std.proofs.lemmas.List.Elements.{All-from_recursion, recursion_from_All}
use Rattle.ba_lex.specs.Tokens.{lexemes_of, tokens_of}
use Rattle.ba_lex.specs.declared.token.Lexeme.{Lexeme}
use Rattle.ba_model.proofs.QueryLemmas.{kinds_match}
use Rattle.ba_model.specs.Fit.{kind_of, kinds_of}
use Rattle.ba_model.specs.QueryFaults as faults
use Rattle.ba_model.specs.Readings.{Gives, widened}
use Rattle.ba_model.specs.declared.failure.Failure.{Failure}
use Rattle.ba_model.specs.Limits.{most_query_bytes}
use Rattle.ba_model.specs.declared.policy.Parameter.{Parameter}
use Rattle.ba_model.specs.declared.query.Operand.{Operand}
use Rattle.ba_model.specs.declared.query.Part.{Part}
use Rattle.ba_model.specs.declared.query.Query.{Query}
use Rattle.ba_model.specs.declared.schema.Kind.{Kind}
use Rattle.ba_model.specs.declared.schema.Schema.{Schema}
use Rattle.ba_sql_syntax.specs.Grammar.{HasTree}
use Rattle.ba_sql_syntax.specs.Written.{HaveTrees, written_of}
use Rattle.ba_sql_syntax.specs.declared.written.QueryText.{QueryText}
use Rattle.ba_sql_syntax.specs.declared.written.Select.{Select}
use Rattle.ba_sql_syntax.proofs.TextLemmas.{written_complete, written_sound, written_trees}
use Rattle.ba_sql_query.specs.Errors.{lex_fault, syntax_fault}
use Rattle.ba_sql_query.specs.Meaning.{fault_of, heads_agree, kind_in, kinds_agree, orders_numbers, query_of_parts, query_of_selects, query_of_written, unless}
use Rattle.ba_sql_query.specs.Parts.{members, part_of, parts_of, select_parts, written_part}
use Rattle.ba_sql_query.specs.Reads.{HasParts, HaveOneHead, IsQueryOf, IsSelectOf, ReadsQuery, ReadsWords}
use Rattle.ba_sql_query.specs.Resolve.{first_of_names, names_of, or_first, select_of}
use Rattle.ba_sql_query.specs.Resolved.{AreResolved}
use Rattle.ba_sql_query.specs.Texts.{query_of, query_of_words}
use Rattle.ba_sql_query.specs.declared.fault.ReadQueryFault.{ReadQueryFault}
use Rattle.ba_sql_query.specs.declared.resolved.ResolvedSelect.{ResolvedSelect}
use Rattle.ba_sql_query.proofs.NameLemmas.{each_zip, select_complete, select_sound, zip_each}
use Rattle.ba_sql_query.proofs.PartsLemmas.{HasNone, Known, agree_itself, first_known, known, none_from}
use Rattle.ba_sql_query.proofs.ReadLemmas.{bind_ok, err_ok, ok_same, widened_ok}
use Rattle.ba_sql_query.proofs.ResolvedLemmas.{and_both, and_left, and_right, names_good, names_selects}
use Rattle.ba_sql_query.proofs.TransferLemmas.{all_map}
use Rattle.ba_sql_query.proofs.TreeLemmas.{form_members, form_of}

-- ---- parts

abbrev joined : {B : Type 0} → List (List B) → List B
joined pieces = flat_map (λ piece. piece) pieces

pub joined_map : (selects : List ResolvedSelect) → joined (map select_parts selects) ≡ parts_of selects
joined_map [] = refl
joined_map (s ∷ ss) = ap (λ ps. select_parts s ++ ps) (joined_map ss)

has_parts : (schema : Schema) (params : List Parameter) (select : Select) (s : ResolvedSelect) → HasTree select.condition → IsSelectOf schema params select s → HasParts s (select_parts s)
unfolding select_parts
has_parts schema params select s tree h = record { members = members s.condition; form = form_of schema params select s tree h; are = refl }

pub all_parts : (schema : Schema) (params : List Parameter) (selects : List Select) (ss : List ResolvedSelect) → AllByRecursion (λ select. HasTree select.condition) selects → AllZip (IsSelectOf schema params) selects ss → AllZip HasParts ss (map select_parts ss)
all_parts schema params [] [] t z = tt
all_parts schema params [] (s ∷ ss) t z = absurd z
all_parts schema params (x ∷ xs) [] t z = absurd z
all_parts schema params (x ∷ xs) (s ∷ ss) t z = (has_parts schema params x s t.0 z.0, all_parts schema params xs ss t.1 z.1)

parts_are : (s : ResolvedSelect) (parts : List Part) → HasParts s parts → select_parts s ≡ parts
unfolding select_parts
parts_are s parts h = ap (map (part_of s)) (form_members s.condition h.members h.form) ∙ sym h.are

pub joined_parts : (ss : List ResolvedSelect) (parts : List (List Part)) → AllZip HasParts ss parts → parts_of ss ≡ joined parts
joined_parts [] [] z = refl
joined_parts [] (p ∷ ps) z = absurd z
joined_parts (s ∷ ss) [] z = absurd z
joined_parts (s ∷ ss) (p ∷ ps) z = ap₂ (λ (xs ys : List Part). xs ++ ys) (parts_are s p z.0) (joined_parts ss ps z.1)

-- ---- heads

module _ (schema : Schema) (params : List Parameter) where
  abbrev kinds : ResolvedSelect → List (Option Kind)
  kinds s = map (kind_in schema params s) s.head

  abbrev alike : ResolvedSelect → ResolvedSelect → Bool
  alike s t = faults.parts_match schema (kinds_of params) [] (written_part s) (written_part t)

  -- selects whose heads are like that of one, and that have no faults of names and kinds, have its kinds
  all_same : (s : ResolvedSelect) → Known schema params s → (ss : List ResolvedSelect) → list_all (λ t. faults.columns_there schema (written_part t)) ss ≡ true → kinds_agree schema params ss ≡ true → list_all (λ t. faults.all_named (kinds_of params) [] (written_part t)) ss ≡ true
      → list_all (alike s) ss ≡ true → AllByRecursion (λ t. kinds t ≡ kinds s) ss
  all_same s k [] c n m e = tt
  all_same s k (t ∷ ts) c n m e =
      let l =
      known schema params t (and_left (faults.columns_there schema (written_part t)) (list_all (λ u. faults.columns_there schema (written_part u)) ts) c)
      (and_left (faults.kinds_agree schema (kinds_of params) [] (written_part t)) (kinds_agree schema params ts) n)
      (and_left (faults.all_named (kinds_of params) [] (written_part t)) (list_all (λ u. faults.all_named (kinds_of params) [] (written_part u)) ts) m) in
      let same : k.0 ≡ l.0 = kinds_match schema (kinds_of params) [] s.from t.from s.head t.head k.0 l.0 k.1 l.1 (and_left (alike s t) (list_all (alike s) ts) e) in (
        l.1 ∙ ap (λ (ks : List Kind). map Some ks) (sym same) ∙ sym k.1,
        all_same s k ts (and_right (faults.columns_there schema (written_part t)) (list_all (λ u. faults.columns_there schema (written_part u)) ts) c)
            (and_right (faults.kinds_agree schema (kinds_of params) [] (written_part t)) (kinds_agree schema params ts) n)
            (and_right (faults.all_named (kinds_of params) [] (written_part t)) (list_all (λ u. faults.all_named (kinds_of params) [] (written_part u)) ts) m) (and_right (alike s t) (list_all (alike s) ts) e),
      )

  match_from : (from others : List ℕ) (xs ys : List Operand) → map (kind_of schema (kinds_of params) [] from) xs ≡ map (kind_of schema (kinds_of params) [] others) ys → faults.heads_match schema (kinds_of params) [] from xs others ys ≡ true
  match_from from others [] [] e = refl
  match_from from others [] (y ∷ ys) e = cc
  match_from from others (x ∷ xs) [] e = cc
  match_from from others (x ∷ xs) (y ∷ ys) e =
      let here : kind_of schema (kinds_of params) [] from x ≡ kind_of schema (kinds_of params) [] others y = cc in
      and_both (faults.agree (kind_of schema (kinds_of params) [] from x) (kind_of schema (kinds_of params) [] others y)) (faults.heads_match schema (kinds_of params) [] from xs others ys)
      (subst (λ (o : Option Kind). faults.agree (kind_of schema (kinds_of params) [] from x) o ≡ true) here (agree_itself schema params (kind_of schema (kinds_of params) [] from x)))
      (match_from from others xs ys cc)

  same_all : (s : ResolvedSelect) (ks : List (Option Kind)) (ss : List ResolvedSelect) → kinds s ≡ ks → AllByRecursion (λ t. kinds t ≡ ks) ss → list_all (alike s) ss ≡ true
  same_all s ks [] e h = refl
  same_all s ks (t ∷ ts) e h = and_both (alike s t) (list_all (alike s) ts) (match_from s.from t.from s.head t.head (e ∙ sym h.0)) (same_all s ks ts e h.1)

  some_kinds : (f : Operand → Option Kind) (xs : List Operand) → not (faults.is_empty xs) ≡ true → map f xs ≢ []
  some_kinds f [] e h = cc
  some_kinds f (x ∷ xs) e h = cc

  kinds_some : (f : Operand → Option Kind) (xs : List Operand) → map f xs ≢ [] → not (faults.is_empty xs) ≡ true
  kinds_some f [] h = absurd (h refl)
  kinds_some f (x ∷ xs) h = refl

  pub heads_sound : (ss : List ResolvedSelect) → AreResolved schema params ss → kinds_agree schema params ss ≡ true → heads_agree schema params ss ≡ true → HaveOneHead schema params ss
  heads_sound [] r n e = cc
  heads_sound (s ∷ ss) r n e = record {
    kinds = kinds s;
    some_kind = some_kinds (kind_in schema params s) s.head (and_left (not (faults.is_empty s.head)) (list_all (alike s) ss) e);
    some_select = λ k. cc;
    heads = All-from_recursion (λ t. kinds t ≡ kinds s) (s ∷ ss) (
      refl,
      all_same s (first_known schema params s ss r n) ss (and_right (faults.columns_there schema (written_part s)) (list_all (λ t. faults.columns_there schema (written_part t)) ss) r.columns)
          (and_right (faults.kinds_agree schema (kinds_of params) [] (written_part s)) (kinds_agree schema params ss) n)
          (and_right (faults.all_named (kinds_of params) [] (written_part s)) (list_all (λ t. faults.all_named (kinds_of params) [] (written_part t)) ss) r.named)
          (and_right (not (faults.is_empty s.head)) (list_all (alike s) ss) e),
    );
  }

  pub heads_complete : (ss : List ResolvedSelect) → HaveOneHead schema params ss → heads_agree schema params ss ≡ true
  heads_complete [] h = absurd (h.some_select refl)
  heads_complete (s ∷ ss) h =
      let all = recursion_from_All (λ t. kinds t ≡ h.kinds) (s ∷ ss) h.heads in
      and_both (not (faults.is_empty s.head)) (list_all (alike s) ss)
      (kinds_some (kind_in schema params s) s.head (λ k. h.some_kind (sym all.0 ∙ k)))
      (same_all s h.kinds ss all.0 all.1)

  -- ---- all tests

  from_none : (ss : List ResolvedSelect) → HasNone schema params ss → fault_of schema params ss ≡ None
  unfolding fault_of
  from_none ss h = rw (h.kinds, h.orders, h.heads, h.some, h.within) refl

  pub kinds_lacks : (ss : List ResolvedSelect) → list_all (faults.kinds_agree schema (kinds_of params) []) (map written_part ss) ≡ kinds_agree schema params ss
  kinds_lacks ss = all_map (faults.kinds_agree schema (kinds_of params) []) written_part ss

  pub orders_lacks : (ss : List ResolvedSelect) → list_all (faults.orders_numbers schema (kinds_of params) []) (map written_part ss) ≡ orders_numbers schema params ss
  orders_lacks ss = all_map (faults.orders_numbers schema (kinds_of params) []) written_part ss

  pub not_empty : {X : Type 0} (xs : List X) → not (faults.is_empty xs) ≡ true → xs ≢ []
  not_empty [] e h = cc
  not_empty (x ∷ xs) e h = cc

  pub empty_not : {X : Type 0} (xs : List X) → xs ≢ [] → not (faults.is_empty xs) ≡ true
  empty_not [] h = absurd (h refl)
  empty_not (x ∷ xs) h = refl

  unless_ok : (o : Option ReadQueryFault) (p q : Query) → unless o p ≡ Ok q → (o ≡ None) × (p ≡ q)
  unless_ok None p q e = (refl, ok_same p q e)
  unless_ok (Some f) p q e = absurd (err_ok q e)

  names_complete : (text : QueryText) (ss : List ResolvedSelect) → AllZip (IsSelectOf schema params) text.selects ss → names_of schema params text ≡ Ok ss
  unfolding names_of
  names_complete text ss z =
      ap (λ (r : Result (List ResolvedSelect) ReadQueryFault). or_first r (first_of_names schema params text.selects)) (zip_each (select_of schema params) (IsSelectOf schema params) (select_complete schema params) text.selects ss z)

  pub meaning_sound : (text : QueryText) (q : Query) → HaveTrees text → query_of_written schema params text ≡ Ok q → IsQueryOf schema params text q
  unfolding query_of_written
  meaning_sound text q trees e =
      let a = bind_ok (names_of schema params text) (query_of_selects schema params) q e in
      let names = each_zip (select_of schema params) (IsSelectOf schema params) (select_sound schema params) text.selects a.0 (names_selects schema params text a.0 a.1) in
      let b = unless_ok (fault_of schema params a.0) (query_of_parts (parts_of a.0)) q a.2 in
      let none = none_from schema params a.0 b.0 in
      let parts : parts_of a.0 ≡ q.parts = ap (λ (x : Query). x.parts) b.1 in
      record {
        selects = a.0;
        names = names;
        parts = map select_parts a.0;
        forms = all_parts schema params text.selects a.0 (recursion_from_All (λ select. HasTree select.condition) text.selects trees) names;
        made = sym parts ∙ sym (joined_map a.0);
        kinds = kinds_lacks a.0 ∙ none.kinds;
        orders = orders_lacks a.0 ∙ none.orders;
        heads = heads_sound a.0 (names_good schema params text a.0 a.1) none.kinds none.heads;
        some_part = subst (λ (ps : List Part). ps ≢ []) parts (not_empty (parts_of a.0) none.some);
        few = subst (λ (ps : List Part). faults.within ps ≡ true) parts none.within;
      }

  pub meaning_complete : (text : QueryText) (q : Query) → IsQueryOf schema params text q → query_of_written schema params text ≡ Ok q
  unfolding query_of_written
  meaning_complete text q h =
      let parts : parts_of h.selects ≡ q.parts = joined_parts h.selects h.parts h.forms ∙ sym h.made in
      let none : HasNone schema params h.selects = record {
        kinds = sym (kinds_lacks h.selects) ∙ h.kinds;
        orders = sym (orders_lacks h.selects) ∙ h.orders;
        heads = heads_complete h.selects h.heads;
        some = empty_not (parts_of h.selects) (subst (λ (ps : List Part). ps ≢ []) (sym parts) h.some_part);
        within = subst (λ (ps : List Part). faults.within ps ≡ true) (sym parts) h.few;
      } in
      rw (names_complete text h.selects h.names) (rw (from_none h.selects none) (λ i. Ok (record { parts = parts i })))

  -- ---- words and texts

  pub words_sound : (words : List Lexeme) (q : Query) → query_of_words schema params words ≡ Ok q → ReadsWords schema params words q
  unfolding query_of_words
  words_sound words q e =
      let a = bind_ok (widened syntax_fault (written_of words)) (query_of_written schema params) q e in
      let w = widened_ok syntax_fault (written_of words) a.0 a.1 in
      let s = written_sound words a.0 w in
      record { supported = s.0; written = a.0; form = s.1; means = meaning_sound a.0 q (written_trees words (Ok a.0) w) a.2 }

  pub words_complete : (words : List Lexeme) (q : Query) → ReadsWords schema params words q → query_of_words schema params words ≡ Ok q
  unfolding query_of_words
  words_complete words q h = rw (written_complete words h.written (h.supported, h.form)) (meaning_complete h.written q h.means)

  pub text_sound : (text : List ℕ) (q : Query) → query_of schema params text ≡ Ok q → ReadsQuery schema params text q
  unfolding query_of
  text_sound text q e =
      let a = bind_ok (widened lex_fault (tokens_of most_query_bytes text)) (λ tokens. query_of_words schema params (lexemes_of tokens)) q e in
      record { tokens = a.0; are = widened_ok lex_fault (tokens_of most_query_bytes text) a.0 a.1; reads = words_sound (lexemes_of a.0) q a.2 }

  pub text_complete : (text : List ℕ) (q : Query) → ReadsQuery schema params text q → query_of schema params text ≡ Ok q
  unfolding query_of
  text_complete text q h = rw h.are (words_complete (lexemes_of h.tokens) q h.reads)

  pub one_query : (text : List ℕ) (p q : Query) → ReadsQuery schema params text p → ReadsQuery schema params text q → p ≡ q
  one_query text p q a b = ok_same p q (sym (text_complete text p a) ∙ text_complete text q b)

-- what a reader returned, against what the text reads as
pub reads : {X F : Type 0} (r : Result X (Failure F)) (read : Result X F) (P : X → Type 0) → Gives r read → ((x : X) → read ≡ Ok x → P x) → IfOk r P
reads (Ok x) read P g sound = sound x g
reads (Err e) read P g sound = tt
