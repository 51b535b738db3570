-- Whole texts: what is read is spelled so, and what is spelled so is read.
use Rattle.std.proofs.Common.{◌≡◌, ℕ, ◌≤◌, Bool, true, false, cond, List, [], ◌∷◌, ◌++◌, length, Option, Some, None, inl, inr, Result, Ok, Err, refl, sym, ap, subst, ◌∙◌, append_assoc, arith, length-append}
use Rattle.std.specs.List.{AllByRecursion}
use Rattle.std.specs.Prelude.{IfOk}
use Rattle.std.proofs.lemmas.List.{append-nil}
use Rattle.std.proofs.lemmas.List.Elements.{All-from_recursion}
use Rattle.ba_grammar.specs.Front.{begins, past, skip}
use Rattle.ba_model.specs.Readings.{◌>>=◌, Gives}
use Rattle.ba_grammar.specs.declared.error.Syntax.{Syntax}
use Rattle.ba_grammar.proofs.WordLemmas.{bind_ok, err_ok, ok_same}
use Rattle.ba_lex.specs.declared.token.Lexeme.{Lexeme}
use Rattle.ba_lex.specs.declared.token.Sign.TheVariants.{Semicolon}
use Rattle.ba_sql_syntax.specs.Grammar.{AreSelects, Cond, HasTree, IsDistinct, IsQuery, IsQueryText, IsSelect, nodes_of}
use Rattle.ba_sql_syntax.specs.Grammar.AreSelects.{first as first_select, union}
use Rattle.ba_sql_syntax.specs.Grammar.IsQuery.{plain, semicolon}
use Rattle.ba_sql_syntax.specs.Grammar.IsSelect.{select}
use Rattle.ba_sql_syntax.specs.Reader.{Read, ended, has_source, run, select_at, selects_at, text_of, union_goes, union_step}
use Rattle.ba_sql_syntax.specs.Scan.{IsFirstUnsupported, IsSupported, nothing, scan}
use Rattle.ba_sql_syntax.specs.Terminals.{Terminal, is_key, is_sign, key, sign, terminals}
use Rattle.ba_sql_syntax.specs.Written.{HaveTrees, if_supported, or_syntax, written_of}
use Rattle.ba_model.specs.declared.failure.Failure.{Failure}
use Rattle.ba_sql_syntax.specs.declared.fault.SyntaxFault.{SyntaxFault}
use Rattle.ba_sql_syntax.specs.declared.fault.SyntaxFault.TheVariants.{Unsupported, Syntax as syntax}
use Rattle.ba_sql_syntax.specs.declared.word.Key.TheVariants.{Distinct, Union}
use Rattle.ba_sql_syntax.specs.declared.written.QueryText.{QueryText}
use Rattle.ba_sql_syntax.specs.declared.written.Select.{Select as SelectText}
use Rattle.ba_sql_syntax.proofs.FrontLemmas.{IsSound, Moves, Spelled, is_sign_so, moves_then, past_key, run_keeps, run_moves}
use Rattle.ba_sql_syntax.proofs.FrontLemmas.Moves.{go, stay}
use Rattle.ba_sql_syntax.proofs.ScanLemmas.{first_scan, scanned_none, scanned_some, supported_scan}
use Rattle.ba_sql_syntax.proofs.SelectLemmas.{EndsSelect, distinct_read, distinct_skipped, select_complete, select_sound}

-- ---- selects

abbrev union_end : List SelectText → SelectText × List Terminal → Read (List SelectText)
union_end ss s = Ok (ss ++ s.0 ∷ [], s.1)

abbrev union_select : List SelectText → List Terminal → Read (List SelectText)
union_select ss rest = select_at (skip (is_key Distinct) rest) >>= union_end ss

union_all : (ts u r r1 r2 rest ds vs : List Terminal) → ts ≡ u ++ r → r ≡ key Union ∷ r1 → r1 ≡ ds ++ r2 → r2 ≡ vs ++ rest
    → ts ≡ (u ++ key Union ∷ (ds ++ vs)) ++ rest
union_all ts u r r1 r2 rest ds vs e f g h = rw (e, f, g, h) (simp append_assoc)

union_keeps : (ts : List Terminal) (s t : List SelectText × List Terminal) → union_step s ≡ Ok t → Spelled AreSelects s.0 ts s.1 → Spelled AreSelects t.0 ts t.1
unfolding union_step
union_keeps ts s t e h =
    let a = bind_ok (past (is_key Union) s.1) (union_select s.0) t e in
    let b = bind_ok (select_at (skip (is_key Distinct) a.0)) (union_end s.0) t a.2 in
    let d = distinct_read a.0 in
    let i = select_sound (skip (is_key Distinct) a.0) b.0 b.1 in
    subst (λ (q : List SelectText × List Terminal). Spelled AreSelects q.0 ts q.1) (ok_same (s.0 ++ b.0.0 ∷ [], b.0.1) t b.2) (record {
      us = h.us ++ key Union ∷ (d.ds ++ i.us);
      is = union h.is d.is i.is;
      all = union_all ts h.us s.1 a.0 (skip (is_key Distinct) a.0) b.0.1 d.ds i.us h.all (past_key Union s.1 a.0 a.1) d.all i.all;
    })

abbrev selects_run : List Terminal → SelectText × List Terminal → Read (List SelectText)
selects_run ts s = run union_goes union_step (length ts) (s.0 ∷ [], s.1)

selects_sound : IsSound selects_at AreSelects
unfolding selects_at
selects_sound ts p e =
    let a = bind_ok (select_at ts) (selects_run ts) p e in
    let i = select_sound ts a.0 a.1 in
    run_keeps union_goes union_step (λ s. Spelled AreSelects s.0 ts s.1) (λ s t g f h. union_keeps ts s t f h) (length ts) (a.0.0 ∷ [], a.0.1) p a.2 (record { us = i.us; is = first_select i.is; all = i.all })

abbrev left : List SelectText × List Terminal → ℕ
left s = length s.1

abbrev Goes : List SelectText × List Terminal → List SelectText × List Terminal → Type 0
Goes = Moves left union_goes union_step

record Begun (ts : List Terminal) (ss : List SelectText) (rest : List Terminal) : Type 0 where
  first : SelectText
  behind_it : List Terminal
  read : select_at ts ≡ Ok (first, behind_it)
  size : length behind_it ≤ length ts
  moves : Goes (first ∷ [], behind_it) (ss, rest)

-- a select's words begin with SELECT
select_not_distinct : {s : SelectText} {us : List Terminal} → IsSelect s us → (rest : List Terminal) → begins (is_key Distinct) (us ++ rest) ≡ false
select_not_distinct (select i h a w) rest = refl

union_moves : (ss : List SelectText) (s : SelectText) (ds vs rest : List Terminal) → IsDistinct ds → IsSelect s vs → EndsSelect rest
    → Goes (ss, key Union ∷ (ds ++ (vs ++ rest))) (ss ++ s ∷ [], rest)
unfolding union_step
union_moves ss s ds vs rest d i ends =
    go refl (rw (distinct_skipped d (vs ++ rest) (select_not_distinct i rest)) (rw (select_complete s vs rest i ends) refl)) (omega (arith, length-append ds (vs ++ rest), length-append vs rest)) stay

union_ends : (ts : List Terminal) → EndsSelect (key Union ∷ ts)
unfolding has_source
union_ends ts = record { part = record { named = record { dot = refl; as_ = refl; name_ = refl }; condition = record { dot = refl; and_ = refl; or_ = refl } }; source_ = refl; where_so = refl }

semicolon_ends : (ts : List Terminal) → EndsSelect (sign Semicolon ∷ ts)
unfolding has_source
semicolon_ends ts = record { part = record { named = record { dot = refl; as_ = refl; name_ = refl }; condition = record { dot = refl; and_ = refl; or_ = refl } }; source_ = refl; where_so = refl }

nothing_ends : EndsSelect []
unfolding has_source
nothing_ends = record { part = record { named = record { dot = refl; as_ = refl; name_ = refl }; condition = record { dot = refl; and_ = refl; or_ = refl } }; source_ = refl; where_so = refl }

union_groups : (us ds vs rest : List Terminal) → (us ++ key Union ∷ (ds ++ vs)) ++ rest ≡ us ++ key Union ∷ (ds ++ (vs ++ rest))
union_groups us ds vs rest = simp append_assoc

selects_begun : {ss : List SelectText} {us : List Terminal} → AreSelects ss us → (rest : List Terminal) → EndsSelect rest → Begun (us ++ rest) ss rest
selects_begun (first_select {s = s} {us = us} i) rest ends =
    record { first = s; behind_it = rest; read = select_complete s us rest i ends; size = omega (arith, length-append us rest); moves = stay }
selects_begun (union {ss = ss} {s = s} {us = us} {ds = ds} {vs = vs} a d i) rest ends =
    let b = selects_begun a (key Union ∷ (ds ++ (vs ++ rest))) (union_ends (ds ++ (vs ++ rest))) in
    let same = union_groups us ds vs rest in
    record {
      first = b.first;
      behind_it = b.behind_it;
      read = ap select_at same ∙ b.read;
      size = rw same b.size;
      moves = moves_then left union_goes union_step b.moves (union_moves ss s ds vs rest d i ends);
    }

selects_complete : (ss : List SelectText) (us rest : List Terminal) → AreSelects ss us → EndsSelect rest → begins (is_key Union) rest ≡ false
    → selects_at (us ++ rest) ≡ Ok (ss, rest)
unfolding selects_at
selects_complete ss us rest a ends stop =
    let b = selects_begun a rest ends in
    rw b.read (run_moves left union_goes union_step b.moves stop (length (us ++ rest)) b.size)

-- ---- texts

abbrev text_with : List SelectText → QueryText
text_with ss = record { selects = ss }

abbrev text_end : List SelectText × List Terminal → Result QueryText Syntax
text_end s = ended (text_with s.0) (skip (is_sign Semicolon) s.1)

ended_so : (ts us rest : List Terminal) (ss : List SelectText) (text : QueryText) → AreSelects ss us → ts ≡ us ++ rest
    → ended (text_with ss) (skip (is_sign Semicolon) rest) ≡ Ok text → IsQuery text ts
ended_so ts us [] ss text are all e =
    subst (λ (q : QueryText). IsQuery q ts) (ok_same (text_with ss) text e) (subst (IsQuery (text_with ss)) (sym (all ∙ append-nil us)) (plain are))
ended_so ts us (t ∷ []) ss text are all e = at (is_sign Semicolon t) refl e
  where
    at : (b : Bool) → is_sign Semicolon t ≡ b → ended (text_with ss) (cond b [] (t ∷ [])) ≡ Ok text → IsQuery text ts
    at true h e =
        subst (λ (q : QueryText). IsQuery q ts) (ok_same (text_with ss) text e) (subst (IsQuery (text_with ss)) (sym (all ∙ ap (λ (x : Terminal). us ++ x ∷ []) (is_sign_so Semicolon t h))) (semicolon are))
    at false h e = absurd (err_ok text e)
ended_so ts us (t ∷ u ∷ rest) ss text are all e = at (is_sign Semicolon t) e
  where
    at : (b : Bool) → ended (text_with ss) (cond b (u ∷ rest) (t ∷ u ∷ rest)) ≡ Ok text → IsQuery text ts
    at true e = absurd (err_ok text e)
    at false e = absurd (err_ok text e)

pub text_sound : (ts : List Terminal) (text : QueryText) → text_of ts ≡ Ok text → IsQuery text ts
unfolding text_of
text_sound ts text e =
    let a = bind_ok (selects_at ts) text_end text e in
    let s = selects_sound ts a.0 a.1 in
    ended_so ts s.us a.0.1 a.0.0 text s.is s.all a.2

pub text_complete : {text : QueryText} {ts : List Terminal} → IsQuery text ts → text_of ts ≡ Ok text
unfolding text_of
text_complete (plain {ss = ss} {us = us} a) = rw (ap selects_at (sym (append-nil us)) ∙ selects_complete ss us [] a nothing_ends refl) refl
text_complete (semicolon {ss = ss} {us = us} a) = rw (selects_complete ss us (sign Semicolon ∷ []) a (semicolon_ends []) refl) refl

-- ---- trees

tree_of : (o : Option Cond) → HasTree (nodes_of o)
tree_of None = inl refl
tree_of (Some c) = inr (c, refl)

abbrev SelectTree : SelectText → Type 0
SelectTree s = HasTree s.condition

select_tree : {s : SelectText} {us : List Terminal} → IsSelect s us → SelectTree s
select_tree (select {c = c} i h a w) = tree_of c

one_more : {X : Type 0} (P : X → Type 0) (xs : List X) (x : X) → AllByRecursion P xs → P x → AllByRecursion P (xs ++ x ∷ [])
one_more P [] x h p = (p, tt)
one_more P (y ∷ ys) x h p = (h.0, one_more P ys x h.1 p)

selects_trees : {ss : List SelectText} {us : List Terminal} → AreSelects ss us → AllByRecursion SelectTree ss
selects_trees (first_select i) = (select_tree i, tt)
selects_trees (union {ss = ss} {s = s} a d i) = one_more SelectTree ss s (selects_trees a) (select_tree i)

query_trees : {text : QueryText} {ts : List Terminal} → IsQuery text ts → HaveTrees text
query_trees (plain {ss = ss} a) = All-from_recursion SelectTree ss (selects_trees a)
query_trees (semicolon {ss = ss} a) = All-from_recursion SelectTree ss (selects_trees a)

-- ---- the scan and the grammar

top_ok : (o : Option (List ℕ)) (r : Result QueryText Syntax) (text : QueryText) → if_supported o (or_syntax r) ≡ Ok text → (o ≡ None) × (r ≡ Ok text)
top_ok (Some called) r text e = cc
top_ok None (Err f) text e = cc
top_ok None (Ok found) text e = (refl, ap Ok (found_same found text e))
  where
    found_same : (a b : QueryText) → ◌≡◌ {A = Result QueryText SyntaxFault} (Ok a) (Ok b) → a ≡ b
    found_same a b e = cc

top_err : (o : Option (List ℕ)) (r : Result QueryText Syntax) (called : List ℕ) → if_supported o (or_syntax r) ≡ Err (Unsupported called) → o ≡ Some called
top_err (Some name) r called e = ap Some (name_same name called e)
  where
    name_same : (a b : List ℕ) → ◌≡◌ {A = Result QueryText SyntaxFault} (Err (Unsupported a)) (Err (Unsupported b)) → a ≡ b
    name_same a b e = cc
top_err None (Ok text) called e = cc
top_err None (Err f) called e = cc

pub written_sound : (words : List Lexeme) (text : QueryText) → written_of words ≡ Ok text → IsSupported words × IsQueryText text words
unfolding written_of
written_sound words text e =
    let t = top_ok (scan nothing words) (text_of (terminals words)) text e in
    (scanned_none words t.0, text_sound (terminals words) text t.1)

pub written_complete : (words : List Lexeme) (text : QueryText) → IsSupported words × IsQueryText text words → written_of words ≡ Ok text
unfolding written_of
written_complete words text h = rw (supported_scan words h.0, text_complete h.1) refl

pub one_text : (words : List Lexeme) (text other : QueryText) → IsQueryText text words → IsQueryText other words → text ≡ other
one_text words text other h k = ok_same text other (sym (text_complete h) ∙ text_complete k)

pub unsupported_sound : (words : List Lexeme) (called : List ℕ) → written_of words ≡ Err (Unsupported called) → IsFirstUnsupported words called
unfolding written_of
unsupported_sound words called e = scanned_some words called (top_err (scan nothing words) (text_of (terminals words)) called e)

pub unsupported_complete : (words : List Lexeme) (called : List ℕ) → IsFirstUnsupported words called → written_of words ≡ Err (Unsupported called)
unfolding written_of
unsupported_complete words called h = rw (first_scan words called h) refl

top_syntax : (o : Option (List ℕ)) (r : Result QueryText Syntax) → if_supported o (or_syntax r) ≡ Err syntax → o ≡ None
top_syntax (Some called) r e = cc
top_syntax None r e = refl

ok_no_err : (r : Result QueryText SyntaxFault) (text : QueryText) (fault : SyntaxFault) → r ≡ Ok text → r ≡ Err fault → ⊥
ok_no_err (Ok found) text fault e f = cc
ok_no_err (Err other) text fault e f = cc

pub refused_sound : (words : List Lexeme) → written_of words ≡ Err syntax → IsSupported words × ((text : QueryText) → IsQueryText text words → ⊥)
unfolding written_of
refused_sound words e =
    let supported = scanned_none words (top_syntax (scan nothing words) (text_of (terminals words)) e) in
    (supported, λ text h. ok_no_err (written_of words) text syntax (written_complete words text (supported, h)) e)

pub refused_complete : (words : List Lexeme) → IsSupported words × ((text : QueryText) → IsQueryText text words → ⊥) → written_of words ≡ Err syntax
unfolding written_of
refused_complete words h = rw (supported_scan words h.0) (at (text_of (terminals words)) refl)
  where
    at : (r : Result QueryText Syntax) → text_of (terminals words) ≡ r → or_syntax r ≡ Err syntax
    at (Ok text) e = absurd (h.1 text (text_sound (terminals words) text e))
    at (Err f) e = refl

pub written_trees : (words : List Lexeme) (r : Result QueryText (Failure SyntaxFault)) → Gives r (written_of words) → IfOk r HaveTrees
written_trees words (Ok text) h = query_trees (written_sound words text h).1
written_trees words (Err e) h = tt
