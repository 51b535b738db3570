-- Aliases, sides and tests: what is read is spelled so, and what is spelled so is read.
use Rattle.std.proofs.Common.{◌≡◌, ℕ, ◌<◌, Bool, true, false, cond, List, [], ◌∷◌, ◌++◌, length, Option, Some, None, Ok, refl, sym, ap, subst, ◌∙◌, append_assoc, arith, length-append}
use Rattle.ba_grammar.specs.Front.{begins, listed, past, skip}
use Rattle.ba_model.specs.Readings.{◌>>=◌}
use Rattle.ba_model.specs.declared.query.Op.{Op}
use Rattle.ba_model.specs.declared.query.Op.TheVariants.{IsNull, NotNull}
use Rattle.ba_grammar.proofs.WordLemmas.{bind_ok, err_ok, ok_same}
use Rattle.ba_lex.specs.declared.token.Sign.{Sign}
use Rattle.ba_lex.specs.declared.token.Sign.TheVariants.{LeftParen, RightParen, Comma, Dot, Semicolon, Star, Equal, NotEqual, BangEqual, Less, LessEqual, Greater, GreaterEqual, Plus, Minus, Slash, Percent}
use Rattle.ba_sql_syntax.specs.Grammar.{IsAlias, IsConstant, IsSide, IsTest, compared, comparison}
use Rattle.ba_sql_syntax.specs.Grammar.IsAlias.{none as no_alias, plain as plain_alias, behind_as}
use Rattle.ba_sql_syntax.specs.Grammar.IsConstant.{literal as literal_constant}
use Rattle.ba_sql_syntax.specs.Grammar.IsSide.{qualified, plain as plain_side, literal as literal_side}
use Rattle.ba_sql_syntax.specs.Grammar.IsTest.{compare, among, null, not_null}
use Rattle.ba_sql_syntax.specs.Reader.{Read, alias_at, among_at, column_at, compared_at, comparison_at, constant_at, is_name, name_at, null_at, null_op, side_at, some_comparison, test_at}
use Rattle.ba_sql_syntax.specs.Terminals.{Terminal, constant, is_key, is_sign, key, name, sign, unsupported}
use Rattle.ba_sql_syntax.specs.declared.compare.Comparison.{Comparison}
use Rattle.ba_sql_syntax.specs.declared.word.Key.TheVariants.{As, In, Is, Not, Null as NullKey}
use Rattle.ba_sql_syntax.specs.declared.written.Constant.{Constant}
use Rattle.ba_sql_syntax.specs.declared.written.Side.{Side}
use Rattle.ba_sql_syntax.specs.declared.written.Side.TheVariants.{Column, Constant as ConstantSide}
use Rattle.ba_sql_syntax.specs.declared.written.Test.{Test}
use Rattle.ba_sql_syntax.specs.declared.written.Test.TheVariants.{Among, Null}
use Rattle.ba_sql_syntax.proofs.FrontLemmas.{IsComplete, IsSound, Spelled, constant_read, listed_complete, listed_sound, name_read, past_key, past_sign, skipped_key}

-- ---- what ends a side, and a name behind one

pub record EndsSide (ts : List Terminal) : Type 0 where
  pub dot : begins (is_sign Dot) ts ≡ false

pub record EndsName (ts : List Terminal) : Type 0 where
  pub dot : begins (is_sign Dot) ts ≡ false
  pub as_ : begins (is_key As) ts ≡ false
  pub name_ : begins is_name ts ≡ false

pub ends_side : (ts : List Terminal) → EndsName ts → EndsSide ts
ends_side ts e = record { dot = e.dot }

-- ---- aliases

abbrev some_alias : List ℕ × List Terminal → Read (Option (List ℕ))
some_alias n = Ok (Some n.0, n.1)

abbrev named_alias : List Terminal → Read (Option (List ℕ))
named_alias rest = name_at rest >>= some_alias

alias_behind_as : (ts : List Terminal) (p : Option (List ℕ) × List Terminal) → (past (is_key As) ts >>= named_alias) ≡ Ok p → Spelled IsAlias p.0 ts p.1
alias_behind_as ts p e =
    let a = bind_ok (past (is_key As) ts) named_alias p e in
    let b = bind_ok (name_at a.0) some_alias p a.2 in
    subst (λ (q : Option (List ℕ) × List Terminal). Spelled IsAlias q.0 ts q.1) (ok_same (Some b.0.0, b.0.1) p b.2) (record {
      us = key As ∷ name b.0.0 ∷ [];
      is = behind_as;
      all = past_key As ts a.0 a.1 ∙ ap (λ (r : List Terminal). key As ∷ r) (name_read a.0 b.0 b.1);
    })

alias_plain : (ts : List Terminal) (p : Option (List ℕ) × List Terminal) → named_alias ts ≡ Ok p → Spelled IsAlias p.0 ts p.1
alias_plain ts p e =
    let b = bind_ok (name_at ts) some_alias p e in
    subst (λ (q : Option (List ℕ) × List Terminal). Spelled IsAlias q.0 ts q.1) (ok_same (Some b.0.0, b.0.1) p b.2) (record {
      us = name b.0.0 ∷ [];
      is = plain_alias;
      all = name_read ts b.0 b.1;
    })

alias_chosen : (s t : Bool) (ts : List Terminal) (p : Option (List ℕ) × List Terminal)
    → cond s (past (is_key As) ts >>= named_alias) (cond t (named_alias ts) (Ok (None, ts))) ≡ Ok p → Spelled IsAlias p.0 ts p.1
alias_chosen true t ts p e = alias_behind_as ts p e
alias_chosen false true ts p e = alias_plain ts p e
alias_chosen false false ts p e =
    subst (λ (q : Option (List ℕ) × List Terminal). Spelled IsAlias q.0 ts q.1) (ok_same (None, ts) p e) (record { us = []; is = no_alias; all = refl })

pub alias_sound : IsSound alias_at IsAlias
unfolding alias_at
alias_sound ts p e = alias_chosen (begins (is_key As) ts) (begins is_name ts) ts p e

pub alias_complete : IsComplete alias_at IsAlias EndsName
unfolding alias_at name_at
alias_complete _ _ rest no_alias ends = rw (ends.as_, ends.name_) refl
alias_complete _ _ rest plain_alias ends = refl
alias_complete _ _ rest behind_as ends = refl

-- ---- sides

abbrev behind_dot : List ℕ → List ℕ × List Terminal → Read Side
behind_dot n m = Ok (Column (record { qualifier = Some n; column = m.0 }), m.1)

abbrev dotted : List ℕ → List Terminal → Read Side
dotted n rest = name_at rest >>= behind_dot n

abbrev column_end : List ℕ × List Terminal → Read Side
column_end n = cond (begins (is_sign Dot) n.1) (past (is_sign Dot) n.1 >>= dotted n.0) (Ok (Column (record { qualifier = None; column = n.0 }), n.1))

column_behind : (b : Bool) (ts rest : List Terminal) (n : List ℕ) (p : Side × List Terminal) → ts ≡ name n ∷ rest
    → cond b (past (is_sign Dot) rest >>= dotted n) (Ok (Column (record { qualifier = None; column = n }), rest)) ≡ Ok p → Spelled IsSide p.0 ts p.1
column_behind true ts rest n p at e =
    let a = bind_ok (past (is_sign Dot) rest) (dotted n) p e in
    let b = bind_ok (name_at a.0) (behind_dot n) p a.2 in
    subst (λ (q : Side × List Terminal). Spelled IsSide q.0 ts q.1) (ok_same (Column (record { qualifier = Some n; column = b.0.0 }), b.0.1) p b.2) (record {
      us = name n ∷ sign Dot ∷ name b.0.0 ∷ [];
      is = qualified;
      all = at ∙ ap (λ (r : List Terminal). name n ∷ r) (past_sign Dot rest a.0 a.1) ∙ ap (λ (r : List Terminal). name n ∷ sign Dot ∷ r) (name_read a.0 b.0 b.1);
    })
column_behind false ts rest n p at e =
    subst (λ (q : Side × List Terminal). Spelled IsSide q.0 ts q.1) (ok_same (Column (record { qualifier = None; column = n }), rest) p e) (record { us = name n ∷ []; is = plain_side; all = at })

column_sound : IsSound column_at IsSide
unfolding column_at
column_sound ts p e =
    let a = bind_ok (name_at ts) column_end p e in
    column_behind (begins (is_sign Dot) a.0.1) ts a.0.1 a.0.0 p (name_read ts a.0 a.1) a.2

abbrev side_end : Constant × List Terminal → Read Side
side_end c = Ok (ConstantSide c.0, c.1)

side_chosen : (b : Bool) (ts : List Terminal) (p : Side × List Terminal) → cond b (column_at ts) (constant_at ts >>= side_end) ≡ Ok p
    → Spelled IsSide p.0 ts p.1
side_chosen true ts p e = column_sound ts p e
side_chosen false ts p e =
    let a = bind_ok (constant_at ts) side_end p e in
    subst (λ (q : Side × List Terminal). Spelled IsSide q.0 ts q.1) (ok_same (ConstantSide a.0.0, a.0.1) p a.2) (record { us = constant a.0.0 ∷ []; is = literal_side; all = constant_read ts a.0 a.1 })

pub side_sound : IsSound side_at IsSide
unfolding side_at
side_sound ts p e = side_chosen (begins is_name ts) ts p e

pub side_complete : IsComplete side_at IsSide EndsSide
unfolding side_at column_at name_at constant_at
side_complete _ _ rest qualified ends = refl
side_complete _ _ rest plain_side ends = rw ends.dot refl
side_complete _ _ rest literal_side ends = refl

-- a name or a constant stands first
pub data First : List Terminal → Type 0 where
  by_name : {n : List ℕ} {ts : List Terminal} → First (name n ∷ ts)
  by_constant : {c : Constant} {ts : List Terminal} → First (constant c ∷ ts)

pub side_first : {s : Side} {us : List Terminal} → IsSide s us → (rest : List Terminal) → First (us ++ rest)
side_first qualified rest = by_name
side_first plain_side rest = by_name
side_first literal_side rest = by_constant

pub first_no_sign : (s : Sign) {ts : List Terminal} → First ts → begins (is_sign s) ts ≡ false
first_no_sign s by_name = refl
first_no_sign s by_constant = refl

-- ---- tests

constant_sound : IsSound constant_at IsConstant
constant_sound ts p e = record { us = constant p.0 ∷ []; is = literal_constant; all = constant_read ts p e }

constant_complete : IsComplete constant_at IsConstant EndsSide
unfolding constant_at
constant_complete _ _ rest literal_constant ends = refl

compared_so : (ts : List Terminal) (q : Comparison × List Terminal) → comparison_at ts ≡ Ok q → (s : Sign) × (ts ≡ sign s ∷ q.1) × (comparison s ≡ Some q.0)
unfolding comparison_at
compared_so [] q e = absurd (err_ok q e)
compared_so (sign s ∷ ts) q e = at (comparison s) refl e
  where
    at : (o : Option Comparison) → comparison s ≡ o → some_comparison o ts ≡ Ok q → (t : Sign) × (sign s ∷ ts ≡ sign t ∷ q.1) × (comparison t ≡ Some q.0)
    at (Some c) h e =
        let same = ok_same (c, ts) q e in
        (s, ap (λ (r : Comparison × List Terminal). sign s ∷ r.1) same, h ∙ ap (λ (r : Comparison × List Terminal). Some r.0) same)
    at None h e = absurd (err_ok q e)
compared_so (name n ∷ ts) q e = absurd (err_ok q e)
compared_so (constant c ∷ ts) q e = absurd (err_ok q e)
compared_so (key k ∷ ts) q e = absurd (err_ok q e)
compared_so (unsupported ∷ ts) q e = absurd (err_ok q e)

abbrev compared_end : Comparison → Side → Side × List Terminal → Read Test
compared_end c left right = Ok (compared c left right.0, right.1)

abbrev compared_right : Side → Comparison × List Terminal → Read Test
compared_right left c = side_at c.1 >>= compared_end c.0 left

compared_sound : (ts rest us : List Terminal) (a : Side) (p : Test × List Terminal) → IsSide a us → ts ≡ us ++ rest → compared_at a rest ≡ Ok p
    → Spelled IsTest p.0 ts p.1
unfolding compared_at
compared_sound ts rest us a p is all e =
    let c = bind_ok (comparison_at rest) (compared_right a) p e in
    let d = bind_ok (side_at c.0.1) (compared_end c.0.0 a) p c.2 in
    let s = compared_so rest c.0 c.1 in
    let b = side_sound c.0.1 d.0 d.1 in
    let whole : rest ≡ sign s.0 ∷ (b.us ++ d.0.1) = s.1 ∙ ap (λ (r : List Terminal). sign s.0 ∷ r) b.all in
    subst (λ (q : Test × List Terminal). Spelled IsTest q.0 ts q.1) (ok_same (compared c.0.0 a d.0.0, d.0.1) p d.2) (record {
      us = us ++ sign s.0 ∷ b.us;
      is = compare s.0 c.0.0 is s.2 b.is;
      all = all ∙ ap (λ (r : List Terminal). us ++ r) whole ∙ sym (append_assoc us (sign s.0 ∷ b.us) d.0.1);
    })

abbrev among_end : Side → List Constant → List Terminal → Read Test
among_end a cs rest = Ok (Among a cs, rest)

abbrev among_close : Side → List Constant × List Terminal → Read Test
among_close a cs = past (is_sign RightParen) cs.1 >>= among_end a cs.0

abbrev among_list : Side → List Terminal → Read Test
among_list a rest = listed (is_sign Comma) constant_at rest >>= among_close a

abbrev among_open : Side → List Terminal → Read Test
among_open a rest = past (is_sign LeftParen) rest >>= among_list a

among_all : (us vs rest : List Terminal)
    → us ++ key In ∷ sign LeftParen ∷ (vs ++ sign RightParen ∷ rest) ≡ (us ++ key In ∷ sign LeftParen ∷ (vs ++ sign RightParen ∷ [])) ++ rest
among_all us vs rest =
    sym (append_assoc us (key In ∷ sign LeftParen ∷ (vs ++ sign RightParen ∷ [])) rest
    ∙ ap (λ (r : List Terminal). us ++ key In ∷ sign LeftParen ∷ r) (append_assoc vs (sign RightParen ∷ []) rest))

among_sound : (ts rest us : List Terminal) (a : Side) (p : Test × List Terminal) → IsSide a us → ts ≡ us ++ rest → among_at a rest ≡ Ok p
    → Spelled IsTest p.0 ts p.1
unfolding among_at
among_sound ts rest us a p is all e =
    let b = bind_ok (past (is_key In) rest) (among_open a) p e in
    let c = bind_ok (past (is_sign LeftParen) b.0) (among_list a) p b.2 in
    let d = bind_ok (listed (is_sign Comma) constant_at c.0) (among_close a) p c.2 in
    let f = bind_ok (past (is_sign RightParen) d.0.1) (among_end a d.0.0) p d.2 in
    let l = listed_sound constant_at IsConstant constant_sound c.0 d.0 d.1 in
    let close : d.0.1 ≡ sign RightParen ∷ f.0 = past_sign RightParen d.0.1 f.0 f.1 in
    let inside : c.0 ≡ l.us ++ sign RightParen ∷ f.0 = l.all ∙ ap (λ (r : List Terminal). l.us ++ r) close in
    let whole : rest ≡ key In ∷ sign LeftParen ∷ (l.us ++ sign RightParen ∷ f.0) =
    past_key In rest b.0 b.1 ∙ ap (λ (r : List Terminal). key In ∷ r) (past_sign LeftParen b.0 c.0 c.1) ∙ ap (λ (r : List Terminal). key In ∷ sign LeftParen ∷ r) inside in
    subst (λ (q : Test × List Terminal). Spelled IsTest q.0 ts q.1) (ok_same (Among a d.0.0, f.0) p f.2) (record {
      us = us ++ key In ∷ sign LeftParen ∷ (l.us ++ sign RightParen ∷ []);
      is = among is l.is;
      all = all ∙ ap (λ (r : List Terminal). us ++ r) whole ∙ among_all us l.us f.0;
    })

abbrev null_end : Side → Op → List Terminal → Read Test
null_end a op rest = Ok (Null op a, rest)

abbrev null_behind : Side → List Terminal → Read Test
null_behind a rest = past (is_key NullKey) (skip (is_key Not) rest) >>= null_end a (null_op rest)

null_spelled : (b : Bool) (ts us rest more behind : List Terminal) (a : Side) → begins (is_key Not) more ≡ b → IsSide a us → ts ≡ us ++ rest
    → rest ≡ key Is ∷ more → skip (is_key Not) more ≡ key NullKey ∷ behind → Spelled IsTest (Null (cond b NotNull IsNull) a) ts behind
null_spelled true ts us rest more behind a begun is all e f =
    let there : more ≡ key Not ∷ key NullKey ∷ behind = (skipped_key Not more true begun).0 refl ∙ ap (λ (r : List Terminal). key Not ∷ r) f in
    let whole : rest ≡ key Is ∷ key Not ∷ key NullKey ∷ behind = e ∙ ap (λ (r : List Terminal). key Is ∷ r) there in
    record {
      us = us ++ key Is ∷ key Not ∷ key NullKey ∷ [];
      is = not_null is;
      all = all ∙ ap (λ (r : List Terminal). us ++ r) whole ∙ sym (append_assoc us (key Is ∷ key Not ∷ key NullKey ∷ []) behind);
    }
null_spelled false ts us rest more behind a begun is all e f =
    let there : more ≡ key NullKey ∷ behind = (skipped_key Not more false begun).1 refl ∙ f in
    let whole : rest ≡ key Is ∷ key NullKey ∷ behind = e ∙ ap (λ (r : List Terminal). key Is ∷ r) there in
    record {
      us = us ++ key Is ∷ key NullKey ∷ [];
      is = null is;
      all = all ∙ ap (λ (r : List Terminal). us ++ r) whole ∙ sym (append_assoc us (key Is ∷ key NullKey ∷ []) behind);
    }

null_sound : (ts rest us : List Terminal) (a : Side) (p : Test × List Terminal) → IsSide a us → ts ≡ us ++ rest → null_at a rest ≡ Ok p
    → Spelled IsTest p.0 ts p.1
unfolding null_at
null_sound ts rest us a p is all e =
    let b = bind_ok (past (is_key Is) rest) (null_behind a) p e in
    let c = bind_ok (past (is_key NullKey) (skip (is_key Not) b.0)) (null_end a (null_op b.0)) p b.2 in
    subst (λ (q : Test × List Terminal). Spelled IsTest q.0 ts q.1) (ok_same (Null (null_op b.0) a, c.0) p c.2)
    (null_spelled (begins (is_key Not) b.0) ts us rest b.0 c.0 a refl is all (past_key Is rest b.0 b.1) (past_key NullKey (skip (is_key Not) b.0) c.0 c.1))

abbrev test_end : Side × List Terminal → Read Test
test_end a = cond (begins (is_key In) a.1) (among_at a.0 a.1) (cond (begins (is_key Is) a.1) (null_at a.0 a.1) (compared_at a.0 a.1))

test_chosen : (b c : Bool) (ts rest us : List Terminal) (a : Side) (p : Test × List Terminal) → IsSide a us → ts ≡ us ++ rest
    → cond b (among_at a rest) (cond c (null_at a rest) (compared_at a rest)) ≡ Ok p → Spelled IsTest p.0 ts p.1
test_chosen true c ts rest us a p is all e = among_sound ts rest us a p is all e
test_chosen false true ts rest us a p is all e = null_sound ts rest us a p is all e
test_chosen false false ts rest us a p is all e = compared_sound ts rest us a p is all e

pub test_sound : IsSound test_at IsTest
unfolding test_at
test_sound ts p e =
    let a = bind_ok (side_at ts) test_end p e in
    let s = side_sound ts a.0 a.1 in
    test_chosen (begins (is_key In) a.0.1) (begins (is_key Is) a.0.1) ts a.0.1 s.us a.0.0 p s.is s.all a.2

-- a sign that compares is no dot
no_dot : (s : Sign) (c : Comparison) → comparison s ≡ Some c → is_sign Dot (sign s) ≡ false
no_dot Equal c e = refl
no_dot NotEqual c e = refl
no_dot BangEqual c e = refl
no_dot Less c e = refl
no_dot LessEqual c e = refl
no_dot Greater c e = refl
no_dot GreaterEqual c e = refl
no_dot LeftParen c e = refl
no_dot RightParen c e = refl
no_dot Comma c e = refl
no_dot Dot c e = cc
no_dot Semicolon c e = refl
no_dot Star c e = refl
no_dot Plus c e = refl
no_dot Minus c e = refl
no_dot Slash c e = refl
no_dot Percent c e = refl

pub test_complete : IsComplete test_at IsTest EndsSide
unfolding test_at compared_at comparison_at among_at null_at
test_complete _ _ rest (compare {a} {b} {us} {vs} s c i e j) ends =
    let left = side_complete a us (sign s ∷ (vs ++ rest)) i (record { dot = no_dot s c e }) in
    let right = side_complete b vs rest j ends in
    rw (append_assoc us (sign s ∷ vs) rest) (rw left (rw e (rw right refl)))
test_complete _ _ rest (among {a} {cs} {us} {vs} i l) ends =
    let left = side_complete a us (key In ∷ sign LeftParen ∷ (vs ++ sign RightParen ∷ rest)) i (record { dot = refl }) in
    let list = listed_complete constant_at IsConstant EndsSide constant_complete (λ ts. record { dot = refl }) cs vs (sign RightParen ∷ rest) l (record { dot = refl }) refl in
    rw (← among_all us vs rest) (rw left (rw list refl))
test_complete _ _ rest (null {a} {us} i) ends =
    let left = side_complete a us (key Is ∷ key NullKey ∷ rest) i (record { dot = refl }) in
    rw (append_assoc us (key Is ∷ key NullKey ∷ []) rest) (rw left refl)
test_complete _ _ rest (not_null {a} {us} i) ends =
    let left = side_complete a us (key Is ∷ key Not ∷ key NullKey ∷ rest) i (record { dot = refl }) in
    rw (append_assoc us (key Is ∷ key Not ∷ key NullKey ∷ []) rest) (rw left refl)

pub test_first : {t : Test} {us : List Terminal} → IsTest t us → (rest : List Terminal) → First (us ++ rest)
test_first (compare {a} {b} {us} {vs} s c i e j) rest = subst First (sym (append_assoc us (sign s ∷ vs) rest)) (side_first i (sign s ∷ (vs ++ rest)))
test_first (among {a} {cs} {us} {vs} i l) rest = subst First (among_all us vs rest) (side_first i (key In ∷ sign LeftParen ∷ (vs ++ sign RightParen ∷ rest)))
test_first (null {a} {us} i) rest = subst First (sym (append_assoc us (key Is ∷ key NullKey ∷ []) rest)) (side_first i (key Is ∷ key NullKey ∷ rest))
test_first (not_null {a} {us} i) rest =
    subst First (sym (append_assoc us (key Is ∷ key Not ∷ key NullKey ∷ []) rest)) (side_first i (key Is ∷ key Not ∷ key NullKey ∷ rest))

pub test_size : {t : Test} {us : List Terminal} → IsTest t us → 0 < length us
test_size (compare {a} {b} {us} {vs} s c i e j) = omega (arith, length-append us (sign s ∷ vs))
test_size (among {a} {cs} {us} {vs} i l) = omega (arith, length-append us (key In ∷ sign LeftParen ∷ (vs ++ sign RightParen ∷ [])))
test_size (null {a} {us} i) = omega (arith, length-append us (key Is ∷ key NullKey ∷ []))
test_size (not_null {a} {us} i) = omega (arith, length-append us (key Is ∷ key Not ∷ key NullKey ∷ []))
