-- The scan tells the first that isn't supported.
use Rattle.std.proofs.Common.{◌≡◌, ℕ, suc, ◌≤◌, Bool, true, false, not, ◌&&◌, ◌||◌, cond, List, [], ◌∷◌, ◌++◌, length, map, Option, Some, None, ◌⊎◌, inl, inr, codes, refl, sym, ap, subst, ◌∙◌, append-nil, arith}
use Rattle.std.specs.Char.{to_ascii_lowercase}
use Rattle.std.specs.List.{list_any}
use Rattle.std.specs.Str.{bytes_eq}
use Rattle.std.proofs.lemmas.Bool.{and_parts, not-true}
use Rattle.std.proofs.lemmas.Slice.Eq.{bytes_eq-Decides}
use Rattle.ba_grammar.specs.Front.{begins, is_keyword}
use Rattle.ba_grammar.specs.Items.{is_among}
use Rattle.ba_lex.specs.Spelling.{sign_bytes}
use Rattle.ba_lex.specs.Word.{is_word}
use Rattle.ba_lex.specs.declared.token.Lexeme.{Lexeme}
use Rattle.ba_lex.specs.declared.token.Lexeme.TheVariants.{Word, Quoted, Number, Text, Param, Sign as SignWord}
use Rattle.ba_lex.specs.declared.token.Sign.{Sign}
use Rattle.ba_sql_syntax.specs.Scan.{HasUnsupported, IsFirstUnsupported, IsInNullTest, IsNullTest, IsSupported, IsUnsupportedThere, after, begins_bracket, begins_null, ends_bracket, in_null_test, is_arithmetic, is_refused, nothing, or_else, scan, unsupported_there, upper}
use Rattle.ba_sql_syntax.specs.Scan.IsNullTest.{is_null, is_not_null}
use Rattle.ba_sql_syntax.specs.Scan.IsUnsupportedThere.{reserved, arithmetic, subquery, call}
use Rattle.ba_sql_syntax.specs.Terminals.{has_meaning, is_unsupported, unsupported_words}
use Rattle.ba_sql_syntax.specs.declared.scan.Behind.{Behind}

-- ---- truths

either_true : (a b : Bool) → (a || b) ≡ true → (a ≡ true) ⊎ (b ≡ true)
either_true true b h = inl refl
either_true false b h = inr h

or_left : (a b : Bool) → a ≡ true → (a || b) ≡ true
or_left a b h = rw h refl

or_right : (a b : Bool) → b ≡ true → (a || b) ≡ true
or_right true b h = refl
or_right false b h = h

and_both : (a b : Bool) → a ≡ true → b ≡ true → (a && b) ≡ true
and_both a b h k = rw (h, k) refl

false_true : false ≡ true → ⊥
false_true e = cc

not_both : (a : Bool) → not a ≡ true → a ≡ true → ⊥
not_both true h k = cc
not_both false h k = cc

-- ---- lists

heads_same : (x y : Lexeme) (xs ys : List Lexeme) → x ∷ xs ≡ y ∷ ys → x ≡ y
heads_same x y xs ys e = cc

tails_same : (x y : Lexeme) (xs ys : List Lexeme) → x ∷ xs ≡ y ∷ ys → xs ≡ ys
tails_same x y xs ys e = cc

no_nil : (front : List Lexeme) (x : Lexeme) (rest : List Lexeme) → ◌≡◌ {A = List Lexeme} [] (front ++ x ∷ rest) → ⊥
no_nil [] x rest e = cc
no_nil (y ∷ ys) x rest e = cc

-- ---- behind words that were passed

-- behind what one stands once these are passed
abbrev pub passed : Behind → List Lexeme → Behind
passed behind [] = behind
passed behind (x ∷ xs) = passed (after behind x) xs

passed_append : (behind : Behind) (xs ys : List Lexeme) → passed behind (xs ++ ys) ≡ passed (passed behind xs) ys
passed_append behind [] ys = refl
passed_append behind (x ∷ xs) ys = passed_append (after behind x) xs ys

bracket_so : (behind : Behind) (front : List Lexeme) → (passed behind front).bracket ≡ ends_bracket behind.bracket front
bracket_so behind [] = refl
bracket_so behind (x ∷ xs) = bracket_so (after behind x) xs

-- IS is the last
data EndsIs (behind : Behind) : List Lexeme → Type 0 where
  is_before : behind.is ≡ true → EndsIs behind []
  is_last : (earlier : List Lexeme) (i : Lexeme) → is_keyword (codes "IS") i ≡ true → EndsIs behind (earlier ++ i ∷ [])

ends_is : (behind : Behind) (front : List Lexeme) → (passed behind front).is ≡ true → EndsIs behind front
ends_is behind [] h = is_before h
ends_is behind (x ∷ xs) h = at (ends_is (after behind x) xs h)
  where
    at : {ys : List Lexeme} → EndsIs (after behind x) ys → EndsIs behind (x ∷ ys)
    at (is_before k) = is_last [] x k
    at (is_last earlier i k) = is_last (x ∷ earlier) i k

-- IS NOT are the last
data EndsIsNot (behind : Behind) : List Lexeme → Type 0 where
  both_before : behind.is_not ≡ true → EndsIsNot behind []
  not_last : {o : Lexeme} → behind.is ≡ true → is_keyword (codes "NOT") o ≡ true → EndsIsNot behind (o ∷ [])
  both_last : (earlier : List Lexeme) (i o : Lexeme) → is_keyword (codes "IS") i ≡ true → is_keyword (codes "NOT") o ≡ true
      → EndsIsNot behind (earlier ++ i ∷ o ∷ [])

ends_is_not : (behind : Behind) (front : List Lexeme) → (passed behind front).is_not ≡ true → EndsIsNot behind front
ends_is_not behind [] h = both_before h
ends_is_not behind (x ∷ xs) h = at (ends_is_not (after behind x) xs h)
  where
    at : {ys : List Lexeme} → EndsIsNot (after behind x) ys → EndsIsNot behind (x ∷ ys)
    at (both_before k) = let p = and_parts behind.is (is_keyword (codes "NOT") x) k in not_last p.0 p.1
    at (not_last {o} h k) = both_last [] x o h k
    at (both_last earlier i o h k) = both_last (x ∷ earlier) i o h k

record LastIs (front : List Lexeme) : Type 0 where
  earlier : List Lexeme
  i : Lexeme
  is : is_keyword (codes "IS") i ≡ true
  all : front ≡ earlier ++ i ∷ []

last_is : (front : List Lexeme) → (passed nothing front).is ≡ true → LastIs front
last_is front h = at (ends_is nothing front h)
  where
    at : {ys : List Lexeme} → EndsIs nothing ys → LastIs ys
    at (is_before k) = absurd (false_true k)
    at (is_last earlier i k) = record { earlier = earlier; i = i; is = k; all = refl }

record LastIsNot (front : List Lexeme) : Type 0 where
  earlier : List Lexeme
  i : Lexeme
  o : Lexeme
  is : is_keyword (codes "IS") i ≡ true
  is_not : is_keyword (codes "NOT") o ≡ true
  all : front ≡ earlier ++ i ∷ o ∷ []

last_is_not : (front : List Lexeme) → (passed nothing front).is_not ≡ true → LastIsNot front
last_is_not front h = at (ends_is_not nothing front h)
  where
    at : {ys : List Lexeme} → EndsIsNot nothing ys → LastIsNot ys
    at (both_before k) = absurd (false_true k)
    at (not_last h k) = absurd (false_true h)
    at (both_last earlier i o h k) = record { earlier = earlier; i = i; o = o; is = h; is_not = k; all = refl }

-- ---- one of an IS NULL or of an IS NOT NULL

one_of : (a b c d e f g : Bool) → ((a && b) || ((c && (d && e)) || ((c || f) && g))) ≡ true
    → ((a ≡ true) × (b ≡ true)) ⊎ (((c ≡ true) × (d ≡ true) × (e ≡ true)) ⊎ (((c ≡ true) ⊎ (f ≡ true)) × (g ≡ true)))
one_of a b c d e f g h = by (either_true (a && b) ((c && (d && e)) || ((c || f) && g)) h)
  where
    middle_or_last : ((c && (d && e)) ≡ true) ⊎ (((c || f) && g) ≡ true)
        → ((a ≡ true) × (b ≡ true)) ⊎ (((c ≡ true) × (d ≡ true) × (e ≡ true)) ⊎ (((c ≡ true) ⊎ (f ≡ true)) × (g ≡ true)))
    middle_or_last (inl k) = let p = and_parts c (d && e) k in let q = and_parts d e p.1 in inr (inl (p.0, q.0, q.1))
    middle_or_last (inr k) = let p = and_parts (c || f) g k in inr (inr (either_true c f p.0, p.1))

    by : ((a && b) ≡ true) ⊎ (((c && (d && e)) || ((c || f) && g)) ≡ true)
        → ((a ≡ true) × (b ≡ true)) ⊎ (((c ≡ true) × (d ≡ true) × (e ≡ true)) ⊎ (((c ≡ true) ⊎ (f ≡ true)) × (g ≡ true)))
    by (inl k) = inl (and_parts a b k)
    by (inr k) = middle_or_last (either_true (c && (d && e)) ((c || f) && g) k)

module _ (front : List Lexeme) (w : List ℕ) where
  first_so : (rest : List Lexeme) → is_word w (codes "IS") ≡ true → begins_null rest ≡ true → IsInNullTest front (Word w) rest
  unfolding begins_null
  first_so [] h k = absurd (false_true k)
  first_so (x ∷ xs) h k = at xs (either_true (is_keyword (codes "NULL") x) (is_keyword (codes "NOT") x && begins (is_keyword (codes "NULL")) xs) k)
    where
      at : (ys : List Lexeme) → (is_keyword (codes "NULL") x ≡ true) ⊎ ((is_keyword (codes "NOT") x && begins (is_keyword (codes "NULL")) ys) ≡ true)
          → IsInNullTest front (Word w) (x ∷ ys)
      at ys (inl n) =
          record { earlier = front; before = []; behind = x ∷ []; later = ys; front_is = sym (append-nil front); rest_is = refl; test = is_null h n }
      at [] (inr p) = absurd (false_true (and_parts (is_keyword (codes "NOT") x) false p).1)
      at (y ∷ ys) (inr p) =
          let q = and_parts (is_keyword (codes "NOT") x) (is_keyword (codes "NULL") y) p in
          record { earlier = front; before = []; behind = x ∷ y ∷ []; later = ys; front_is = sym (append-nil front); rest_is = refl; test = is_not_null h q.0 q.1 }

  middle_so : (rest : List Lexeme) → (passed nothing front).is ≡ true → is_word w (codes "NOT") ≡ true → begins (is_keyword (codes "NULL")) rest ≡ true
      → IsInNullTest front (Word w) rest
  middle_so [] h k n = absurd (false_true n)
  middle_so (y ∷ ys) h k n =
      let l = last_is front h in
      record { earlier = l.earlier; before = l.i ∷ []; behind = y ∷ []; later = ys; front_is = l.all; rest_is = refl; test = is_not_null l.is k n }

  last_so : (rest : List Lexeme) → ((passed nothing front).is ≡ true) ⊎ ((passed nothing front).is_not ≡ true) → is_word w (codes "NULL") ≡ true
      → IsInNullTest front (Word w) rest
  last_so rest (inl h) n =
      let l = last_is front h in
      record { earlier = l.earlier; before = l.i ∷ []; behind = []; later = rest; front_is = l.all; rest_is = refl; test = is_null l.is n }
  last_so rest (inr h) n =
      let l = last_is_not front h in
      record { earlier = l.earlier; before = l.i ∷ l.o ∷ []; behind = []; later = rest; front_is = l.all; rest_is = refl; test = is_not_null l.is l.is_not n }

  pub null_test_sound : (rest : List Lexeme) → in_null_test (passed nothing front) w rest ≡ true → IsInNullTest front (Word w) rest
  unfolding in_null_test
  null_test_sound rest h =
      at (one_of (is_word w (codes "IS")) (begins_null rest) (passed nothing front).is (is_word w (codes "NOT")) (begins (is_keyword (codes "NULL")) rest)
      (passed nothing front).is_not (is_word w (codes "NULL")) h)
    where
      at : ((is_word w (codes "IS") ≡ true) × (begins_null rest ≡ true))
          ⊎ ((((passed nothing front).is ≡ true) × (is_word w (codes "NOT") ≡ true) × (begins (is_keyword (codes "NULL")) rest ≡ true))
          ⊎ ((((passed nothing front).is ≡ true) ⊎ ((passed nothing front).is_not ≡ true)) × (is_word w (codes "NULL") ≡ true)))
          → IsInNullTest front (Word w) rest
      at (inl p) = first_so rest p.0 p.1
      at (inr (inl p)) = middle_so rest p.0 p.1 p.2
      at (inr (inr p)) = last_so rest p.0 p.1

keyword_so : (k : List ℕ) (x y : Lexeme) → x ≡ y → is_keyword k x ≡ true → is_keyword k y ≡ true
keyword_so k x y e h = subst (λ (z : Lexeme). is_keyword k z ≡ true) e h

-- by the words of the test that stand before and behind
null_test_by : (behind : Behind) (w : List ℕ) (later : List Lexeme) {ws : List Lexeme} → IsNullTest ws → (before rest : List Lexeme)
    → ws ≡ before ++ Word w ∷ rest → in_null_test (passed behind before) w (rest ++ later) ≡ true
unfolding in_null_test begins_null
null_test_by b w later (is_null {i} {n} h k) [] [] e = cc
null_test_by b w later (is_null {i} {n} h k) [] (y ∷ []) e =
    let p : is_word w (codes "IS") ≡ true = keyword_so (codes "IS") i (Word w) (heads_same i (Word w) (n ∷ []) (y ∷ []) e) h in
    let q : is_keyword (codes "NULL") y ≡ true = keyword_so (codes "NULL") n y (heads_same n y [] [] (tails_same i (Word w) (n ∷ []) (y ∷ []) e)) k in
    or_left _ _ (and_both _ _ p (or_left _ _ q))
null_test_by b w later (is_null {i} {n} h k) [] (y ∷ z ∷ zs) e = cc
null_test_by b w later (is_null {i} {n} h k) (x ∷ []) [] e =
    let p : is_keyword (codes "IS") x ≡ true = keyword_so (codes "IS") i x (heads_same i x (n ∷ []) (Word w ∷ []) e) h in
    let q : is_word w (codes "NULL") ≡ true = keyword_so (codes "NULL") n (Word w) (heads_same n (Word w) [] [] (tails_same i x (n ∷ []) (Word w ∷ []) e)) k in
    or_right _ _ (or_right _ _ (and_both _ _ (or_left _ _ p) q))
null_test_by b w later (is_null {i} {n} h k) (x ∷ []) (y ∷ ys) e = cc
null_test_by b w later (is_null {i} {n} h k) (x ∷ y ∷ before) rest e =
    absurd (no_nil before (Word w) rest (tails_same n y [] (before ++ Word w ∷ rest) (tails_same i x (n ∷ []) (y ∷ (before ++ Word w ∷ rest)) e)))
null_test_by b w later (is_not_null {i} {o} {n} h j k) [] [] e = cc
null_test_by b w later (is_not_null {i} {o} {n} h j k) [] (y ∷ []) e = cc
null_test_by b w later (is_not_null {i} {o} {n} h j k) [] (y ∷ z ∷ []) e =
    let p : is_word w (codes "IS") ≡ true = keyword_so (codes "IS") i (Word w) (heads_same i (Word w) (o ∷ n ∷ []) (y ∷ z ∷ []) e) h in
    let t = tails_same i (Word w) (o ∷ n ∷ []) (y ∷ z ∷ []) e in
    let q : is_keyword (codes "NOT") y ≡ true = keyword_so (codes "NOT") o y (heads_same o y (n ∷ []) (z ∷ []) t) j in
    let r : is_keyword (codes "NULL") z ≡ true = keyword_so (codes "NULL") n z (heads_same n z [] [] (tails_same o y (n ∷ []) (z ∷ []) t)) k in
    or_left _ _ (and_both _ _ p (or_right _ _ (and_both _ _ q r)))
null_test_by b w later (is_not_null {i} {o} {n} h j k) [] (y ∷ z ∷ u ∷ us) e = cc
null_test_by b w later (is_not_null {i} {o} {n} h j k) (x ∷ []) [] e = cc
null_test_by b w later (is_not_null {i} {o} {n} h j k) (x ∷ []) (y ∷ []) e =
    let p : is_keyword (codes "IS") x ≡ true = keyword_so (codes "IS") i x (heads_same i x (o ∷ n ∷ []) (Word w ∷ y ∷ []) e) h in
    let t = tails_same i x (o ∷ n ∷ []) (Word w ∷ y ∷ []) e in
    let q : is_word w (codes "NOT") ≡ true = keyword_so (codes "NOT") o (Word w) (heads_same o (Word w) (n ∷ []) (y ∷ []) t) j in
    let r : is_keyword (codes "NULL") y ≡ true = keyword_so (codes "NULL") n y (heads_same n y [] [] (tails_same o (Word w) (n ∷ []) (y ∷ []) t)) k in
    or_right _ _ (or_left _ _ (and_both _ _ p (and_both _ _ q r)))
null_test_by b w later (is_not_null {i} {o} {n} h j k) (x ∷ []) (y ∷ z ∷ zs) e = cc
null_test_by b w later (is_not_null {i} {o} {n} h j k) (x ∷ y ∷ []) [] e =
    let p : is_keyword (codes "IS") x ≡ true = keyword_so (codes "IS") i x (heads_same i x (o ∷ n ∷ []) (y ∷ Word w ∷ []) e) h in
    let t = tails_same i x (o ∷ n ∷ []) (y ∷ Word w ∷ []) e in
    let q : is_keyword (codes "NOT") y ≡ true = keyword_so (codes "NOT") o y (heads_same o y (n ∷ []) (Word w ∷ []) t) j in
    let r : is_word w (codes "NULL") ≡ true = keyword_so (codes "NULL") n (Word w) (heads_same n (Word w) [] [] (tails_same o y (n ∷ []) (Word w ∷ []) t)) k in
    let first : Bool = is_word w (codes "IS") && begins_null later in
    let is_then : Bool = is_keyword (codes "IS") y in
    let middle : Bool = is_then && (is_word w (codes "NOT") && begins (is_keyword (codes "NULL")) later) in
    let both : Bool = is_keyword (codes "IS") x && is_keyword (codes "NOT") y in
    let last : Bool = (is_then || both) && is_word w (codes "NULL") in
    or_right first (middle || last) (or_right middle last (and_both (is_then || both) (is_word w (codes "NULL")) (or_right is_then both (and_both _ _ p q)) r))
null_test_by b w later (is_not_null {i} {o} {n} h j k) (x ∷ y ∷ []) (z ∷ zs) e = cc
null_test_by b w later (is_not_null {i} {o} {n} h j k) (x ∷ y ∷ z ∷ before) rest e =
    let t = tails_same i x (o ∷ n ∷ []) (y ∷ z ∷ (before ++ Word w ∷ rest)) e in
    let u = tails_same o y (n ∷ []) (z ∷ (before ++ Word w ∷ rest)) t in
    absurd (no_nil before (Word w) rest (tails_same n z [] (before ++ Word w ∷ rest) u))

pub null_test_complete : (front : List Lexeme) (w : List ℕ) (rest : List Lexeme) → IsInNullTest front (Word w) rest
    → in_null_test (passed nothing front) w rest ≡ true
null_test_complete front w rest h =
    let there : passed nothing front ≡ passed (passed nothing h.earlier) h.before = ap (passed nothing) h.front_is ∙ passed_append nothing h.earlier h.before in
    ap (λ (b : Behind). in_null_test b w rest) there ∙ ap (in_null_test (passed (passed nothing h.earlier) h.before) w) h.rest_is
    ∙ null_test_by (passed nothing h.earlier) w h.later h.test h.before h.behind refl

-- ---- one in its place

some_same : (x y : List ℕ) → ◌≡◌ {A = Option (List ℕ)} (Some x) (Some y) → x ≡ y
some_same x y e = cc

none_some : (x : List ℕ) → ◌≡◌ {A = Option (List ℕ)} None (Some x) → ⊥
none_some x e = cc

-- SELECT isn't one of the unsupported words
select_supported : (w : List ℕ) → is_word w (codes "SELECT") ≡ true → is_unsupported w ≡ false
unfolding is_word is_unsupported is_among
select_supported w h =
    ap (λ (small : List ℕ). list_any (λ k. bytes_eq small (map to_ascii_lowercase k)) unsupported_words)
    ((bytes_eq-Decides (map to_ascii_lowercase w) (map to_ascii_lowercase (codes "SELECT"))).0 h)

refused_so : (front : List Lexeme) (w : List ℕ) (rest : List Lexeme) (t : Bool) → is_unsupported w ≡ t → is_refused (passed nothing front) w rest ≡ true
    → IsUnsupportedThere front rest (Word w) (upper w)
unfolding is_refused
refused_so front w rest true e h =
    let alone : not (in_null_test (passed nothing front) w rest) ≡ true = rw e at h in
    reserved e (λ k. not_both (in_null_test (passed nothing front) w rest) alone (null_test_complete front w rest k))
refused_so front w rest false e h =
    at (either_true ((passed nothing front).bracket && is_word w (codes "SELECT")) (begins_bracket rest && not (has_meaning w)) (rw e at h))
  where
    at : (((passed nothing front).bracket && is_word w (codes "SELECT")) ≡ true) ⊎ ((begins_bracket rest && not (has_meaning w)) ≡ true)
        → IsUnsupportedThere front rest (Word w) (upper w)
    at (inl p) =
        let q = and_parts (passed nothing front).bracket (is_word w (codes "SELECT")) p in
        subquery (sym (bracket_so nothing front) ∙ q.0) q.1
    at (inr p) =
        let q = and_parts (begins_bracket rest) (not (has_meaning w)) p in
        call q.0 (not-true (has_meaning w) q.1) e

word_so : (front : List Lexeme) (w : List ℕ) (rest : List Lexeme) (called : List ℕ) (t : Bool) → is_refused (passed nothing front) w rest ≡ t
    → cond t (Some (upper w)) None ≡ Some called → IsUnsupportedThere front rest (Word w) called
word_so front w rest called true e h =
    subst (IsUnsupportedThere front rest (Word w)) (some_same (upper w) called h) (refused_so front w rest (is_unsupported w) refl e)
word_so front w rest called false e h = absurd (none_some called h)

sign_so : (front rest : List Lexeme) (s : Sign) (called : List ℕ) (t : Bool) → is_arithmetic s ≡ t
    → cond (is_arithmetic s) (Some (sign_bytes s)) None ≡ Some called → IsUnsupportedThere front rest (SignWord s) called
sign_so front rest s called true e h = subst (IsUnsupportedThere front rest (SignWord s)) (some_same (sign_bytes s) called (rw e at h)) (arithmetic e)
sign_so front rest s called false e h = absurd (none_some called (rw e at h))

there_sound : (front : List Lexeme) (x : Lexeme) (rest : List Lexeme) (called : List ℕ) → unsupported_there (passed nothing front) x rest ≡ Some called
    → IsUnsupportedThere front rest x called
there_sound front (Word w) rest called h = word_so front w rest called (is_refused (passed nothing front) w rest) refl h
there_sound front (SignWord s) rest called h = sign_so front rest s called (is_arithmetic s) refl h
there_sound front (Quoted n) rest called h = absurd (none_some called h)
there_sound front (Number n) rest called h = absurd (none_some called h)
there_sound front (Text t) rest called h = absurd (none_some called h)
there_sound front (Param p) rest called h = absurd (none_some called h)

not_in_test : (front : List Lexeme) (w : List ℕ) (rest : List Lexeme) → (IsInNullTest front (Word w) rest → ⊥)
    → not (in_null_test (passed nothing front) w rest) ≡ true
not_in_test front w rest none = at (in_null_test (passed nothing front) w rest) refl
  where
    at : (t : Bool) → in_null_test (passed nothing front) w rest ≡ t → not t ≡ true
    at true h = absurd (none (null_test_sound front w rest h))
    at false h = refl

reserved_refused : (front : List Lexeme) (w : List ℕ) (rest : List Lexeme) → is_unsupported w ≡ true → (IsInNullTest front (Word w) rest → ⊥)
    → is_refused (passed nothing front) w rest ≡ true
unfolding is_refused
reserved_refused front w rest e none = rw e (not_in_test front w rest none)

subquery_refused : (front : List Lexeme) (w : List ℕ) (rest : List Lexeme) → ends_bracket false front ≡ true → is_word w (codes "SELECT") ≡ true
    → is_refused (passed nothing front) w rest ≡ true
unfolding is_refused
subquery_refused front w rest b s = rw (select_supported w s) (or_left _ _ (and_both _ _ (bracket_so nothing front ∙ b) s))

call_refused : (front : List Lexeme) (w : List ℕ) (rest : List Lexeme) → begins_bracket rest ≡ true → has_meaning w ≡ false → is_unsupported w ≡ false
    → is_refused (passed nothing front) w rest ≡ true
unfolding is_refused
call_refused front w rest b m u = rw u (or_right _ _ (and_both _ _ b (rw m refl)))

told : (w : List ℕ) (t : Bool) → t ≡ true → cond t (Some (upper w)) None ≡ Some (upper w)
told w t e = rw e refl

there_complete : (front : List Lexeme) (x : Lexeme) (rest : List Lexeme) (called : List ℕ) → IsUnsupportedThere front rest x called
    → unsupported_there (passed nothing front) x rest ≡ Some called
there_complete front _ rest _ (reserved {w = w} e none) = told w (is_refused (passed nothing front) w rest) (reserved_refused front w rest e none)
there_complete front _ rest _ (arithmetic {s = s} e) = rw e refl
there_complete front _ rest _ (subquery {w = w} b s) = told w (is_refused (passed nothing front) w rest) (subquery_refused front w rest b s)
there_complete front _ rest _ (call {w = w} b m u) = told w (is_refused (passed nothing front) w rest) (call_refused front w rest b m u)

-- ---- behind some words

record From (behind : Behind) (words front : List Lexeme) (called : List ℕ) : Type 0 where
  lexeme : Lexeme
  rest : List Lexeme
  all : words ≡ front ++ lexeme ∷ rest
  there : unsupported_there (passed behind front) lexeme rest ≡ Some called

record FirstFrom (behind : Behind) (words : List Lexeme) (called : List ℕ) : Type 0 where
  front : List Lexeme
  here : From behind words front called
  first : (other : List Lexeme) (name : List ℕ) → From behind words other name → length front ≤ length other

-- what isn't there at the front stands behind it
from_tail : (behind : Behind) (x : Lexeme) (xs front : List Lexeme) (called : List ℕ) → From behind (x ∷ xs) front called
    → unsupported_there behind x xs ≡ None
    → (other : List Lexeme) × (front ≡ x ∷ other) × From (after behind x) xs other called
from_tail behind x xs [] called f n =
    let same = heads_same x f.lexeme xs f.rest f.all in
    let tail = tails_same x f.lexeme xs f.rest f.all in
    absurd (none_some called (sym n ∙ ap (λ (y : Lexeme). unsupported_there behind y xs) same ∙ ap (λ (ys : List Lexeme). unsupported_there behind f.lexeme ys) tail ∙ f.there))
from_tail behind x xs (y ∷ ys) called f n =
    let same = heads_same x y xs (ys ++ f.lexeme ∷ f.rest) f.all in
    let tail = tails_same x y xs (ys ++ f.lexeme ∷ f.rest) f.all in (
      ys,
      ap (λ (z : Lexeme). z ∷ ys) (sym same),
      record {
        lexeme = f.lexeme;
        rest = f.rest;
        all = tail;
        there = subst (λ (z : Lexeme). unsupported_there (passed (after behind z) ys) f.lexeme f.rest ≡ Some called) (sym same) f.there;
      },
    )

scan_none : (behind : Behind) (words : List Lexeme) → scan behind words ≡ None → (front : List Lexeme) (called : List ℕ) → From behind words front called → ⊥
unfolding scan
scan_none behind [] e front called f = no_nil front f.lexeme f.rest f.all
scan_none behind (x ∷ xs) e front called f = at (unsupported_there behind x xs) refl e (scan_none (after behind x) xs)
  where
    at : (o : Option (List ℕ)) → unsupported_there behind x xs ≡ o → or_else o (scan (after behind x) xs) ≡ None
        → (scan (after behind x) xs ≡ None → (other : List Lexeme) (name : List ℕ) → From (after behind x) xs other name → ⊥) → ⊥
    at (Some c) h e next = none_some c (sym e)
    at None h e next = let t = from_tail behind x xs front called f h in next e t.0 called t.2

scan_some : (behind : Behind) (words : List Lexeme) (called : List ℕ) → scan behind words ≡ Some called → FirstFrom behind words called
unfolding scan
scan_some behind [] called e = absurd (none_some called e)
scan_some behind (x ∷ xs) called e = at (unsupported_there behind x xs) refl e (scan_some (after behind x) xs called)
  where
    at : (o : Option (List ℕ)) → unsupported_there behind x xs ≡ o → or_else o (scan (after behind x) xs) ≡ Some called
        → (scan (after behind x) xs ≡ Some called → FirstFrom (after behind x) xs called) → FirstFrom behind (x ∷ xs) called
    at (Some c) h e next = record {
      front = [];
      here = record { lexeme = x; rest = xs; all = refl; there = h ∙ e };
      first = λ other name f. omega arith;
    }
    at None h e next =
        let n = next e in
        record {
          front = x ∷ n.front;
          here = record { lexeme = n.here.lexeme; rest = n.here.rest; all = ap (λ (r : List Lexeme). x ∷ r) n.here.all; there = n.here.there };
          first = λ other name f. later n other name (from_tail behind x xs other name f h);
        }
      where
        later : (n : FirstFrom (after behind x) xs called) (other : List Lexeme) (name : List ℕ)
            → (tail : List Lexeme) × (other ≡ x ∷ tail) × From (after behind x) xs tail name → suc (length n.front) ≤ length other
        later n other name t = let least = n.first t.0 name t.2 in let size = ap length t.1 in omega (arith, least, size)

-- ---- the whole

told_from : (words front : List Lexeme) (called : List ℕ) → HasUnsupported words front called → From nothing words front called
told_from words front called h = record { lexeme = h.lexeme; rest = h.rest; all = h.all; there = there_complete front h.lexeme h.rest called h.there }

from_told : (words front : List Lexeme) (called : List ℕ) → From nothing words front called → HasUnsupported words front called
from_told words front called f = record { lexeme = f.lexeme; rest = f.rest; all = f.all; there = there_sound front f.lexeme f.rest called f.there }

pub scanned_none : (words : List Lexeme) → scan nothing words ≡ None → IsSupported words
scanned_none words e = record { none = λ front called h. scan_none nothing words e front called (told_from words front called h) }

pub scanned_some : (words : List Lexeme) (called : List ℕ) → scan nothing words ≡ Some called → IsFirstUnsupported words called
scanned_some words called e =
    let f = scan_some nothing words called e in
    record {
      front = f.front;
      here = from_told words f.front called f.here;
      first = λ other name h. f.first other name (told_from words other name h);
    }

pub supported_scan : (words : List Lexeme) → IsSupported words → scan nothing words ≡ None
supported_scan words s = at (scan nothing words) refl
  where
    at : (o : Option (List ℕ)) → scan nothing words ≡ o → scan nothing words ≡ None
    at None e = e
    at (Some called) e = let f = scanned_some words called e in absurd (s.none f.front called f.here)

-- two ways to split words at one place are the same
split_same : (f g : List Lexeme) (x y : Lexeme) (r s : List Lexeme) → f ++ x ∷ r ≡ g ++ y ∷ s → length f ≡ length g → (f ≡ g) × (x ≡ y) × (r ≡ s)
split_same [] [] x y r s e n = (refl, heads_same x y r s e, tails_same x y r s e)
split_same [] (z ∷ g) x y r s e n = absurd (omega (arith, n))
split_same (z ∷ f) [] x y r s e n = absurd (omega (arith, n))
split_same (z ∷ f) (v ∷ g) x y r s e n =
    let same = heads_same z v (f ++ x ∷ r) (g ++ y ∷ s) e in
    let more = split_same f g x y r s (tails_same z v (f ++ x ∷ r) (g ++ y ∷ s) e) (omega (arith, n)) in
    (ap (λ (a : Lexeme). a ∷ f) same ∙ ap (λ (a : List Lexeme). v ∷ a) more.0, more.1, more.2)

one_name : (words front other : List Lexeme) (called name : List ℕ) → HasUnsupported words front called → HasUnsupported words other name
    → length front ≡ length other → called ≡ name
one_name words front other called name h k n =
    let s = split_same front other h.lexeme k.lexeme h.rest k.rest (sym h.all ∙ k.all) n in
    let p = there_complete front h.lexeme h.rest called h.there in
    let q = there_complete other k.lexeme k.rest name k.there in
    let same : unsupported_there (passed nothing front) h.lexeme h.rest ≡ unsupported_there (passed nothing other) k.lexeme k.rest =
    λ i. unsupported_there (passed nothing (s.0 i)) (s.1 i) (s.2 i) in
    some_same called name (sym p ∙ same ∙ q)

pub first_scan : (words : List Lexeme) (called : List ℕ) → IsFirstUnsupported words called → scan nothing words ≡ Some called
first_scan words called f = at (scan nothing words) refl
  where
    at : (o : Option (List ℕ)) → scan nothing words ≡ o → scan nothing words ≡ Some called
    at None e = let s = scanned_none words e in absurd (s.none f.front called f.here)
    at (Some name) e =
        let g = scanned_some words name e in
        let a = f.first g.front name g.here in
        let b = g.first f.front called f.here in
        let same : length g.front ≡ length f.front = omega (arith, a, b) in
        e ∙ ap Some (one_name words g.front f.front name called g.here f.here same)
