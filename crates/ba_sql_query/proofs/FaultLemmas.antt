-- The fault that is told is the first of the order.
use Rattle.std.proofs.Common.{◌≡◌, ◌≢◌, ℕ, ◌<◌, ◌≤◌, Bool, true, false, not, ◌&&◌, List, [], map, Option, Some, None, Result, Ok, Err, refl, sym, ap, subst, ◌∙◌, arith}
use Rattle.std.specs.List.{AllZip, list_all}
use Rattle.std.proofs.lemmas.List.Elements.{recursion_from_All}
use Rattle.ba_grammar.specs.declared.error.Syntax.{Syntax as NoGrammar}
use Rattle.ba_lex.specs.Tokens.{lexemes_of, tokens_of}
use Rattle.ba_lex.specs.declared.token.LexFault.{LexFault}
use Rattle.ba_lex.specs.declared.token.Lexeme.{Lexeme}
use Rattle.ba_lex.specs.declared.token.Token.{Token}
use Rattle.ba_model.specs.Fit.{kinds_of}
use Rattle.ba_model.specs.QueryFaults as faults
use Rattle.ba_model.specs.Readings.{◌>>=◌, widened}
use Rattle.ba_model.specs.declared.check_query.QueryFault.TheVariants as drafts
use Rattle.ba_model.specs.Limits.{most_query_bytes}
use Rattle.ba_model.specs.declared.policy.Parameter.{Parameter}
use Rattle.ba_model.specs.declared.query.Part.{Part}
use Rattle.ba_model.specs.declared.query.Query.{Query}
use Rattle.ba_model.specs.declared.schema.Schema.{Schema}
use Rattle.ba_sql_syntax.specs.Grammar.{HasTree, IsQueryText}
use Rattle.ba_sql_syntax.specs.Reader.{text_of}
use Rattle.ba_sql_syntax.specs.Scan.{IsSupported, nothing, scan}
use Rattle.ba_sql_syntax.specs.Terminals.{terminals}
use Rattle.ba_sql_syntax.specs.Written.{HaveTrees, if_supported, or_syntax, written_of}
use Rattle.ba_sql_syntax.specs.declared.fault.SyntaxFault.{SyntaxFault}
use Rattle.ba_sql_syntax.specs.declared.fault.SyntaxFault.TheVariants as syntax
use Rattle.ba_sql_syntax.specs.declared.written.QueryText.{QueryText}
use Rattle.ba_sql_syntax.proofs.ScanLemmas.{scanned_none}
use Rattle.ba_sql_syntax.proofs.TextLemmas.{one_text, unsupported_sound, written_complete, written_sound, written_trees}
use Rattle.ba_sql_query.specs.Errors.{lex_fault, rank, syntax_fault}
use Rattle.ba_sql_query.specs.Faults.{CountsLack, DraftLacks, HasAllParts, HasWords, HeadsLack, IsFirstFault, Lacks, NamesLack, Resolves, Writes}
use Rattle.ba_sql_query.specs.Meaning.{fault_of, heads_agree, kinds_agree, orders_numbers, query_of_parts, query_of_selects, query_of_written, unless}
use Rattle.ba_sql_query.specs.Parts.{parts_of, select_parts, written_part}
use Rattle.ba_sql_query.specs.Reads.{HaveOneHead, IsSelectOf}
use Rattle.ba_sql_query.specs.Resolve.{first_of_names, names_of, or_first, select_of, selects_of, text_lacks}
use Rattle.ba_sql_query.specs.Texts.{query_of, query_of_words}
use Rattle.ba_sql_query.specs.declared.fault.ReadQueryFault.{ReadQueryFault}
use Rattle.ba_sql_query.specs.declared.fault.ReadQueryFault.TheVariants.{Lex, Unsupported, Syntax, UnknownTable, UnknownColumn, Ambiguous, UnknownParam, KindDiffers, OrderOnText, HeadDiffers, TooMany}
use Rattle.ba_sql_query.specs.declared.resolved.ResolvedSelect.{ResolvedSelect}
use Rattle.ba_sql_query.proofs.LackLemmas.{selects_agree}
use Rattle.ba_sql_query.proofs.NameLemmas.{each_zip, select_complete, select_sound, zip_each}
use Rattle.ba_sql_query.proofs.ReadLemmas.{ok_same}
use Rattle.ba_sql_query.proofs.ReadingLemmas.{all_parts, empty_not, heads_complete, heads_sound, joined_map, joined_parts, kinds_lacks, not_empty, orders_lacks}
use Rattle.ba_sql_query.proofs.ResolvedLemmas.{and_both, selects_good}

true_false : true ≡ false → ⊥
true_false e = cc

err_same : {X : Type 0} {f g : ReadQueryFault} → ◌≡◌ {A = Result X ReadQueryFault} (Err f) (Err g) → f ≡ g
err_same e = cc

ok_err : {X : Type 0} {x : X} {g : ReadQueryFault} → ◌≡◌ {A = Result X ReadQueryFault} (Ok x) (Err g) → ⊥
ok_err e = cc

module _ (schema : Schema) (params : List Parameter) (text : List ℕ) where
  -- ---- one reading

  same_words : (r : Result (List Token) LexFault) (ts us : List Token) → r ≡ Ok ts → r ≡ Ok us → ts ≡ us
  same_words r ts us e f = same ts us (sym e ∙ f)
    where
      same : (a b : List Token) → ◌≡◌ {A = Result (List Token) LexFault} (Ok a) (Ok b) → a ≡ b
      same a b e = cc

  words_one : (ws vs : List Lexeme) → HasWords text ws → HasWords text vs → ws ≡ vs
  words_one ws vs a b = sym a.say ∙ ap lexemes_of (same_words (tokens_of most_query_bytes text) a.tokens b.tokens a.are b.are) ∙ b.say

  writes_one : (t u : QueryText) → Writes text t → Writes text u → t ≡ u
  writes_one t u a b =
      one_text a.words t u a.form (subst (λ (ws : List Lexeme). IsQueryText u ws) (words_one b.words a.words b.has a.has) b.form)

  resolves_one : (ss rs : List ResolvedSelect) → Resolves schema params text ss → Resolves schema params text rs → ss ≡ rs
  resolves_one ss rs a b =
      let same : b.written ≡ a.written = writes_one b.written a.written b.writes a.writes in
      let z = subst (λ (t : QueryText). AllZip (IsSelectOf schema params) t.selects rs) same b.names in
      ok_same ss rs
      (sym (zip_each (select_of schema params) (IsSelectOf schema params) (select_complete schema params) a.written.selects ss a.names)
      ∙ zip_each (select_of schema params) (IsSelectOf schema params) (select_complete schema params) a.written.selects rs z)

  -- ---- the order

  pub record Ladder (k : ℕ) : Type 0 where
    pub lex : 0 < k → (words : List Lexeme) × HasWords text words
    pub supported : 1 < k → (words : List Lexeme) × HasWords text words × IsSupported words
    pub written : 2 < k → (t : QueryText) × Writes text t
    pub table : 3 < k → NamesLack 3 schema params text
    pub column : 4 < k → NamesLack 4 schema params text
    pub ambiguous : 5 < k → NamesLack 5 schema params text
    pub param : 6 < k → NamesLack 6 schema params text
    pub kinds : 7 < k → DraftLacks drafts.KindDiffers schema params text
    pub orders : 8 < k → DraftLacks drafts.OrderOnText schema params text
    pub heads : 9 < k → HeadsLack schema params text
    pub most : k ≤ 10

  first_of : (k : ℕ) → Ladder k → (g : ReadQueryFault) → rank g < k → Lacks g schema params text
  unfolding rank
  first_of k l (Lex x) lt = l.lex lt
  first_of k l (Unsupported w) lt = l.supported lt
  first_of k l Syntax lt = l.written lt
  first_of k l UnknownTable lt = l.table lt
  first_of k l UnknownColumn lt = l.column lt
  first_of k l Ambiguous lt = l.ambiguous lt
  first_of k l UnknownParam lt = l.param lt
  first_of k l KindDiffers lt = l.kinds lt
  first_of k l OrderOnText lt = l.orders lt
  first_of k l HeadDiffers lt = l.heads lt
  first_of k l TooMany lt = let most = l.most in absurd (omega (arith, lt, most))

  -- ---- tokens and grammar

  at_tokens : (x : LexFault) → tokens_of most_query_bytes text ≡ Err x → IsFirstFault (Lex x) schema params text
  unfolding rank
  at_tokens x e = record { has = e; first = λ g lt. absurd (omega (arith, lt)) }

  at_unsupported : (words : List Lexeme) (w : List ℕ) → HasWords text words → written_of words ≡ Err (syntax.Unsupported w) → IsFirstFault (Unsupported w) schema params text
  unfolding rank
  at_unsupported words w has e = record {
    has = (words, has, unsupported_sound words w e);
    first = first_of 1 (record {
      lex = λ h. (words, has);
      supported = λ h. absurd (omega (arith, h));
      written = λ h. absurd (omega (arith, h));
      table = λ h. absurd (omega (arith, h));
      column = λ h. absurd (omega (arith, h));
      ambiguous = λ h. absurd (omega (arith, h));
      param = λ h. absurd (omega (arith, h));
      kinds = λ h. absurd (omega (arith, h));
      orders = λ h. absurd (omega (arith, h));
      heads = λ h. absurd (omega (arith, h));
      most = omega arith;
    });
  }

  -- the scan found nothing
  scanned : (o : Option (List ℕ)) (r : Result QueryText NoGrammar) → if_supported o (or_syntax r) ≡ Err syntax.Syntax → o ≡ None
  scanned None r e = refl
  scanned (Some w) r e = cc

  is_supported : (words : List Lexeme) → written_of words ≡ Err syntax.Syntax → IsSupported words
  unfolding written_of
  is_supported words e = scanned_none words (scanned (scan nothing words) (text_of (terminals words)) e)

  ok_fault : {x : QueryText} {s : SyntaxFault} → ◌≡◌ {A = Result QueryText SyntaxFault} (Ok x) (Err s) → ⊥
  ok_fault e = cc

  at_syntax : (words : List Lexeme) → HasWords text words → written_of words ≡ Err syntax.Syntax → IsFirstFault Syntax schema params text
  unfolding rank
  at_syntax words has e =
      let supported = is_supported words e in
      record {
        has = λ h.
            let form = subst (λ (ws : List Lexeme). IsQueryText h.0 ws) (words_one h.1.words words h.1.has has) h.1.form in
            ok_fault (sym (written_complete words h.0 (supported, form)) ∙ e);
        first = first_of 2 (record {
          lex = λ h. (words, has);
          supported = λ h. (words, has, supported);
          written = λ h. absurd (omega (arith, h));
          table = λ h. absurd (omega (arith, h));
          column = λ h. absurd (omega (arith, h));
          ambiguous = λ h. absurd (omega (arith, h));
          param = λ h. absurd (omega (arith, h));
          kinds = λ h. absurd (omega (arith, h));
          orders = λ h. absurd (omega (arith, h));
          heads = λ h. absurd (omega (arith, h));
          most = omega arith;
        });
      }

  -- ---- names

  -- what is written, up to the names whose ranks are below k
  up_to : (k : ℕ) (t : QueryText) → Writes text t → k ≤ 7 → (3 < k → text_lacks 3 schema params t.selects ≡ true) → (4 < k → text_lacks 4 schema params t.selects ≡ true)
      → (5 < k → text_lacks 5 schema params t.selects ≡ true) → (6 < k → text_lacks 6 schema params t.selects ≡ true) → Ladder k
  up_to k t w most a b c d = record {
    lex = λ h. (w.words, w.has);
    supported = λ h. (w.words, w.has, w.supported);
    written = λ h. (t, w);
    table = λ h. record { written = t; writes = w; lacks = a h };
    column = λ h. record { written = t; writes = w; lacks = b h };
    ambiguous = λ h. record { written = t; writes = w; lacks = c h };
    param = λ h. record { written = t; writes = w; lacks = d h };
    kinds = λ h. absurd (omega (arith, h, most));
    orders = λ h. absurd (omega (arith, h, most));
    heads = λ h. absurd (omega (arith, h, most));
    most = omega (arith, most);
  }

  refused : (n : ℕ) (t : QueryText) → Writes text t → text_lacks n schema params t.selects ≡ false → NamesLack n schema params text → ⊥
  refused n t w e h =
      true_false (sym (subst (λ (u : QueryText). text_lacks n schema params u.selects ≡ true) (writes_one h.written t h.writes w) h.lacks) ∙ e)

  last_name : (k : ℕ) (t : QueryText) → text_lacks k schema params t.selects ≡ false → 3 ≤ k → k ≤ 6 → text_lacks 3 schema params t.selects ≡ true → text_lacks 4 schema params t.selects ≡ true → text_lacks 5 schema params t.selects ≡ true → text_lacks 6 schema params t.selects ≡ false
  last_name k t e lo hi a b c =
      let not3 : k ≢ 3 = λ s. true_false (sym a ∙ subst (λ n. text_lacks n schema params t.selects ≡ false) s e) in
      let not4 : k ≢ 4 = λ s. true_false (sym b ∙ subst (λ n. text_lacks n schema params t.selects ≡ false) s e) in
      let not5 : k ≢ 5 = λ s. true_false (sym c ∙ subst (λ n. text_lacks n schema params t.selects ≡ false) s e) in
      let six : k ≡ 6 = omega (arith, lo, hi, not3, not4, not5) in
      subst (λ n. text_lacks n schema params t.selects ≡ false) six e

  pub at_names : (t : QueryText) (g : ReadQueryFault) → Writes text t → selects_of schema params t.selects ≡ Err g → IsFirstFault (first_of_names schema params t.selects) schema params text
  unfolding rank first_of_names
  at_names t g w e = at (text_lacks 3 schema params t.selects) (text_lacks 4 schema params t.selects) (text_lacks 5 schema params t.selects) refl refl refl
    where
      at : (a b c : Bool) → text_lacks 3 schema params t.selects ≡ a → text_lacks 4 schema params t.selects ≡ b → text_lacks 5 schema params t.selects ≡ c → IsFirstFault (first_of_names schema params t.selects) schema params text
      at false b c p q r =
          rw p (record {
            has = refused 3 t w p;
            first = first_of 3 (up_to 3 t w (omega arith) (λ h. absurd (omega (arith, h))) (λ h. absurd (omega (arith, h))) (λ h. absurd (omega (arith, h))) (λ h. absurd (omega (arith, h))));
          })
      at true false c p q r =
          rw (p, q) (record {
            has = refused 4 t w q;
            first = first_of 4 (up_to 4 t w (omega arith) (λ h. p) (λ h. absurd (omega (arith, h))) (λ h. absurd (omega (arith, h))) (λ h. absurd (omega (arith, h))));
          })
      at true true false p q r =
          rw (p, q, r) (record {
            has = refused 5 t w r;
            first = first_of 5 (up_to 5 t w (omega arith) (λ h. p) (λ h. q) (λ h. absurd (omega (arith, h))) (λ h. absurd (omega (arith, h))));
          })
      at true true true p q r =
          let agrees = selects_agree schema params t.selects in
          let name = agrees.name g e in
          rw (p, q, r) (record {
            has = refused 6 t w (last_name (rank g) t (agrees.err g e) name.least name.most p q r);
            first = first_of 6 (up_to 6 t w (omega arith) (λ h. p) (λ h. q) (λ h. r) (λ h. absurd (omega (arith, h))));
          })

  -- ---- kinds, heads and counts

  -- what is known once the names are resolved
  record Found (t : QueryText) (ss : List ResolvedSelect) : Type 0 where
    pub writes : Writes text t
    pub trees : HaveTrees t
    pub selects : selects_of schema params t.selects ≡ Ok ss

  module _ (t : QueryText) (ss : List ResolvedSelect) (found : Found t ss) where
    names : AllZip (IsSelectOf schema params) t.selects ss
    names = each_zip (select_of schema params) (IsSelectOf schema params) (select_sound schema params) t.selects ss found.selects

    resolves : Resolves schema params text ss
    resolves = record { written = t; writes = found.writes; names = names }

    has_parts : HasAllParts schema params text ss (parts_of ss)
    has_parts = record {
      resolves = resolves;
      pieces = map select_parts ss;
      forms = all_parts schema params t.selects ss (recursion_from_All (λ select. HasTree select.condition) t.selects found.trees) names;
      are = sym (joined_map ss);
    }

    lacks_name : (n : ℕ) → NamesLack n schema params text
    lacks_name n = record { written = t; writes = found.writes; lacks = (selects_agree schema params t.selects).ok ss found.selects n }

    kinds_lack : kinds_agree schema params ss ≡ true → DraftLacks drafts.KindDiffers schema params text
    kinds_lack e = record { selects = ss; resolves = resolves; lacks = kinds_lacks schema params ss ∙ e }

    orders_lack : orders_numbers schema params ss ≡ true → DraftLacks drafts.OrderOnText schema params text
    orders_lack e = record { selects = ss; resolves = resolves; lacks = orders_lacks schema params ss ∙ e }

    heads_lack : kinds_agree schema params ss ≡ true → heads_agree schema params ss ≡ true → not (faults.is_empty (parts_of ss)) ≡ true → HeadsLack schema params text
    heads_lack n e f = record { selects = ss; parts = parts_of ss; has = has_parts; heads = heads_sound schema params ss (selects_good schema params t.selects ss found.selects) n e; some = not_empty schema params (parts_of ss) f }

    -- up to the faults of names
    from : (k : ℕ) → k ≤ 10 → (7 < k → DraftLacks drafts.KindDiffers schema params text) → (8 < k → DraftLacks drafts.OrderOnText schema params text) → (9 < k → HeadsLack schema params text) → Ladder k
    from k most a b c = record {
      lex = λ h. (found.writes.words, found.writes.has);
      supported = λ h. (found.writes.words, found.writes.has, found.writes.supported);
      written = λ h. (t, found.writes);
      table = λ h. lacks_name 3;
      column = λ h. lacks_name 4;
      ambiguous = λ h. lacks_name 5;
      param = λ h. lacks_name 6;
      kinds = a;
      orders = b;
      heads = c;
      most = most;
    }

    kinds_differ : kinds_agree schema params ss ≡ false → DraftLacks drafts.KindDiffers schema params text → ⊥
    kinds_differ e h =
        let same = resolves_one h.selects ss h.resolves resolves in
        true_false (sym (subst (λ (rs : List ResolvedSelect). list_all (faults.kinds_agree schema (kinds_of params) []) (map written_part rs) ≡ true) same h.lacks) ∙ kinds_lacks schema params ss ∙ e)

    orders_differ : orders_numbers schema params ss ≡ false → DraftLacks drafts.OrderOnText schema params text → ⊥
    orders_differ e h =
        let same = resolves_one h.selects ss h.resolves resolves in
        true_false (sym (subst (λ (rs : List ResolvedSelect). list_all (faults.orders_numbers schema (kinds_of params) []) (map written_part rs) ≡ true) same h.lacks) ∙ orders_lacks schema params ss ∙ e)

    same_parts : (rs : List ResolvedSelect) (parts : List Part) → HasAllParts schema params text rs parts → (rs ≡ ss) × (parts ≡ parts_of ss)
    same_parts rs parts h =
        let same = resolves_one rs ss h.resolves resolves in
        (same, h.are ∙ sym (joined_parts rs h.pieces h.forms) ∙ ap parts_of same)

    heads_differ : (heads_agree schema params ss && not (faults.is_empty (parts_of ss))) ≡ false → HeadsLack schema params text → ⊥
    heads_differ e h =
        let same = same_parts h.selects h.parts h.has in
        let heads = heads_complete schema params ss (subst (λ (rs : List ResolvedSelect). HaveOneHead schema params rs) same.0 h.heads) in
        let some = empty_not schema params (parts_of ss) (subst (λ (ps : List Part). ps ≢ []) same.1 h.some) in
        true_false (sym (and_both (heads_agree schema params ss) (not (faults.is_empty (parts_of ss))) heads some) ∙ e)

    counts_differ : faults.within (parts_of ss) ≡ false → CountsLack schema params text → ⊥
    counts_differ e h =
        let same = same_parts h.selects h.parts h.has in
        true_false (sym (subst (λ (ps : List Part). faults.within ps ≡ true) same.1 h.few) ∙ e)

    some_same : (f g : ReadQueryFault) → Some f ≡ Some g → f ≡ g
    some_same f g e = cc

    at_selects : (f : ReadQueryFault) → fault_of schema params ss ≡ Some f → IsFirstFault f schema params text
    unfolding fault_of rank
    at_selects f e = at (kinds_agree schema params ss) (orders_numbers schema params ss) (heads_agree schema params ss) (not (faults.is_empty (parts_of ss))) (faults.within (parts_of ss)) refl refl refl refl refl
      where
        told : (g : ReadQueryFault) → Some g ≡ Some f → IsFirstFault g schema params text → IsFirstFault f schema params text
        told g h first = subst (λ (k : ReadQueryFault). IsFirstFault k schema params text) (some_same g f h) first

        no_heads : (c d : Bool) → kinds_agree schema params ss ≡ true → orders_numbers schema params ss ≡ true → (heads_agree schema params ss && not (faults.is_empty (parts_of ss))) ≡ false → IsFirstFault HeadDiffers schema params text
        no_heads c d p q r = record { has = heads_differ r; first = first_of 9 (from 9 (omega arith) (λ h. kinds_lack p) (λ h. orders_lack q) (λ h. absurd (omega (arith, h)))) }

        at : (a b c d m : Bool) → kinds_agree schema params ss ≡ a → orders_numbers schema params ss ≡ b → heads_agree schema params ss ≡ c → not (faults.is_empty (parts_of ss)) ≡ d → faults.within (parts_of ss) ≡ m → IsFirstFault f schema params text
        at false b c d m p q r s u =
            told KindDiffers (rw p at e) (record { has = kinds_differ p; first = first_of 7 (from 7 (omega arith) (λ h. absurd (omega (arith, h))) (λ h. absurd (omega (arith, h))) (λ h. absurd (omega (arith, h)))) })
        at true false c d m p q r s u =
            told OrderOnText (rw (p, q) at e) (record { has = orders_differ q; first = first_of 8 (from 8 (omega arith) (λ h. kinds_lack p) (λ h. absurd (omega (arith, h))) (λ h. absurd (omega (arith, h)))) })
        at true true false d m p q r s u = told HeadDiffers (rw (p, q, r) at e) (no_heads false d p q (rw r refl))
        at true true true false m p q r s u = told HeadDiffers (rw (p, q, r, s) at e) (no_heads true false p q (rw (r, s) refl))
        at true true true true false p q r s u =
            told TooMany (rw (p, q, r, s, u) at e) (record { has = counts_differ u; first = first_of 10 (from 10 (omega arith) (λ h. kinds_lack p) (λ h. orders_lack q) (λ h. heads_lack p r s)) })
        at true true true true true p q r s u = let h = rw (p, q, r, s, u) at e in cc

  -- ---- all stages

  unless_err : (o : Option ReadQueryFault) (q : Query) (f : ReadQueryFault) → unless o q ≡ Err f → o ≡ Some f
  unless_err None q f e = absurd (ok_err e)
  unless_err (Some g) q f e = ap Some (err_same e)

  of_selects : (t : QueryText) (f : ReadQueryFault) → Writes text t → HaveTrees t → (r : Result (List ResolvedSelect) ReadQueryFault) → selects_of schema params t.selects ≡ r
      → (or_first r (first_of_names schema params t.selects) >>= query_of_selects schema params) ≡ Err f → IsFirstFault f schema params text
  of_selects t f w trees (Ok ss) e h = at_selects t ss (record { writes = w; trees = trees; selects = e }) f (unless_err (fault_of schema params ss) (query_of_parts (parts_of ss)) f h)
  of_selects t f w trees (Err g) e h = subst (λ (k : ReadQueryFault). IsFirstFault k schema params text) (err_same h) (at_names t g w e)

  of_written : (t : QueryText) (f : ReadQueryFault) → Writes text t → HaveTrees t → query_of_written schema params t ≡ Err f → IsFirstFault f schema params text
  unfolding query_of_written names_of
  of_written t f w trees h = of_selects t f w trees (selects_of schema params t.selects) refl h

  of_syntax : (words : List Lexeme) (f : ReadQueryFault) → HasWords text words → (r : Result QueryText SyntaxFault) → written_of words ≡ r → (widened syntax_fault r >>= query_of_written schema params) ≡ Err f → IsFirstFault f schema params text
  of_syntax words f has (Ok t) e h =
      let s = written_sound words t e in
      of_written t f (record { words = words; has = has; supported = s.0; form = s.1 }) (written_trees words (Ok t) e) h
  of_syntax words f has (Err (syntax.Unsupported w)) e h = subst (λ (k : ReadQueryFault). IsFirstFault k schema params text) (err_same h) (at_unsupported words w has e)
  of_syntax words f has (Err syntax.Syntax) e h = subst (λ (k : ReadQueryFault). IsFirstFault k schema params text) (err_same h) (at_syntax words has e)

  of_words : (words : List Lexeme) (f : ReadQueryFault) → HasWords text words → query_of_words schema params words ≡ Err f → IsFirstFault f schema params text
  unfolding query_of_words
  of_words words f has h = of_syntax words f has (written_of words) refl h

  of_tokens : (f : ReadQueryFault) (r : Result (List Token) LexFault) → tokens_of most_query_bytes text ≡ r → (widened lex_fault r >>= λ tokens. query_of_words schema params (lexemes_of tokens)) ≡ Err f → IsFirstFault f schema params text
  of_tokens f (Ok ts) e h = of_words (lexemes_of ts) f (record { tokens = ts; are = e; say = refl }) h
  of_tokens f (Err x) e h = subst (λ (k : ReadQueryFault). IsFirstFault k schema params text) (err_same h) (at_tokens x e)

  pub first_fault : (f : ReadQueryFault) → query_of schema params text ≡ Err f → IsFirstFault f schema params text
  unfolding query_of
  first_fault f h = of_tokens f (tokens_of most_query_bytes text) refl h
