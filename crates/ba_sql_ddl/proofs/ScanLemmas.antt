-- The first unsupported word outside of the queries of inclusion rules, by the function and as a relation.
use Rattle.std.proofs.Common.{◌≡◌, ℕ, zero, suc, ◌+◌, ◌-◌, ◌<◌, ◌≤◌, Bool, true, false, List, [], ◌∷◌, ◌++◌, length, drop, get_or, map, option_map, is_some, All, Contains, Option, Some, None, refl, sym, ap, subst, ◌∙◌, arith}
use Rattle.std.specs.Char.{to_ascii_lowercase, to_ascii_uppercase}
use Rattle.std.specs.List.{AllByRecursion, slice_index_or}
use Rattle.std.proofs.lemmas.Bool.{false≢true}
use Rattle.std.proofs.lemmas.List.{length-append}
use Rattle.std.proofs.lemmas.List.Elements.{All-from_recursion, recursion_from_All}
use Rattle.std.proofs.lemmas.Slice.Eq.{bytes_eq-Decides}
use Rattle.ba_grammar.specs.Front.{is_sign}
use Rattle.ba_grammar.specs.Items.{Item}
use Rattle.ba_grammar.proofs.WordLemmas.{sign_spelled}
use Rattle.ba_lex.specs.Word.{is_word}
use Rattle.ba_lex.specs.declared.token.Lexeme.{Lexeme}
use Rattle.ba_lex.specs.declared.token.Lexeme.TheVariants.{Word, Quoted, Number, Text, Param, Sign as SignWord}
use Rattle.ba_lex.specs.declared.token.Sign.TheVariants.{Semicolon}
use Rattle.ba_sql_ddl.specs.Brackets.{from_close}
use Rattle.ba_sql_ddl.specs.Reader.{behind_rule, behind_within}
use Rattle.ba_sql_ddl.specs.Scan.{AreOutside, AreScanned, AreSupported, HasFirst, IsFirstUnsupported, IsSupported, IsUnsupported, PastQueries, behind_word, first_unsupported, keyword_of, or_later, past_left, past_queries, past_right, scan, scan_from, unsupported_keyword, unsupported_of}
use Rattle.ba_sql_ddl.specs.Written.{Begins, rule_opens, unsupported, within_opens}
use Rattle.ba_sql_ddl.proofs.BracketLemmas.{from_close_size, is_no_sign, leaves, left_is, no_sign}
use Rattle.ba_sql_ddl.proofs.StatementLemmas.{rule_complete, rule_sound, within_complete, within_sound}

-- ---- a word's keyword

abbrev IsKeywordOf : List (List ℕ) → List ℕ → List ℕ → Type 0
IsKeywordOf ks word k = Contains ks k × (is_word word k ≡ true)

further : (j : List ℕ) (js : List (List ℕ)) (k : List ℕ) → Contains js k → Contains (j ∷ js) k
further j js k c = (suc c.0, omega (arith, c.1), c.2)

keyword_sound : (ks : List (List ℕ)) (word k : List ℕ) → keyword_of ks word ≡ Some k → IsKeywordOf ks word k
keyword_sound [] word k e = cc
keyword_sound (j ∷ js) word k e = at (is_word word j) refl (keyword_sound js word k)
  where
    at : (t : Bool) → is_word word j ≡ t → (keyword_of js word ≡ Some k → IsKeywordOf js word k) → IsKeywordOf (j ∷ js) word k
    at true h below = let same : j ≡ k = some_same j k (rw h at e) in ((0, omega arith, same), subst (λ (w : List ℕ). is_word word w ≡ true) same h)
      where
        some_same : (a b : List ℕ) → ◌≡◌ {A = Option (List ℕ)} (Some a) (Some b) → a ≡ b
        some_same a b e = cc
    at false h below = let r = below (rw h at e) in (further j js k r.0, r.1)

-- a word that is one of the keywords has a first one
keyword_there : (ks : List (List ℕ)) (word k : List ℕ) (n : ℕ) → n < length ks → slice_index_or ks n k ≡ k → is_word word k ≡ true → (j : List ℕ) × (keyword_of ks word ≡ Some j)
keyword_there [] word k n lt e h = absurd (omega (arith, lt))
keyword_there (j ∷ js) word k zero lt e h = let same : is_word word j ≡ true = subst (λ (w : List ℕ). is_word word w ≡ true) (sym e) h in (j, rw same refl)
keyword_there (j ∷ js) word k (suc n) lt e h = at (is_word word j) refl (keyword_there js word k n (omega (arith, lt)) e h)
  where
    at : (t : Bool) → is_word word j ≡ t → (i : List ℕ) × (keyword_of js word ≡ Some i) → (i : List ℕ) × (keyword_of (j ∷ js) word ≡ Some i)
    at true g r = (j, rw g refl)
    at false g r = (r.0, rw g r.1)

-- the keywords are in upper case, so that one word is at most one of them
abbrev upper_of_lower : List ℕ → List ℕ
upper_of_lower w = map to_ascii_uppercase (map to_ascii_lowercase w)

in_upper_case : AllByRecursion (λ k. upper_of_lower k ≡ k) unsupported
in_upper_case = (refl, (refl, (refl, (refl, (refl, (refl, (refl, (refl, (refl, (refl, (refl, (refl, (refl, tt)))))))))))))

upper_at : (ks : List (List ℕ)) (k : List ℕ) → AllByRecursion (λ k. upper_of_lower k ≡ k) ks → (n : ℕ) → n < length ks → slice_index_or ks n k ≡ k → upper_of_lower k ≡ k
upper_at [] k h n lt e = absurd (omega (arith, lt))
upper_at (j ∷ js) k h zero lt e = subst (λ (w : List ℕ). upper_of_lower w ≡ w) e h.0
upper_at (j ∷ js) k h (suc n) lt e = upper_at js k h.1 n (omega (arith, lt)) e

lower_same : (word k : List ℕ) → is_word word k ≡ true → map to_ascii_lowercase word ≡ map to_ascii_lowercase k
unfolding is_word
lower_same word k h = (bytes_eq-Decides (map to_ascii_lowercase word) (map to_ascii_lowercase k)).0 h

one_keyword : (word j k : List ℕ) → IsKeywordOf unsupported word j → IsKeywordOf unsupported word k → j ≡ k
one_keyword word j k a b =
    let lower : map to_ascii_lowercase j ≡ map to_ascii_lowercase k = sym (lower_same word j a.1) ∙ lower_same word k b.1 in
    sym (upper_at unsupported j in_upper_case a.0.0 a.0.1 a.0.2) ∙ ap (map to_ascii_uppercase) lower ∙ upper_at unsupported k in_upper_case b.0.0 b.0.1 b.0.2

-- ---- a lexeme

lexeme_sound : (x : Lexeme) (k : List ℕ) → unsupported_of x ≡ Some k → IsUnsupported k x
unfolding unsupported_keyword
lexeme_sound (Word w) k e = let r = keyword_sound unsupported w k e in record { word = w; is = refl; among = r.0; same = r.1 }
lexeme_sound (Quoted n) k e = cc
lexeme_sound (Number n) k e = cc
lexeme_sound (Text t) k e = cc
lexeme_sound (Param p) k e = cc
lexeme_sound (SignWord s) k e = cc

lexeme_complete : (x : Lexeme) (k : List ℕ) → IsUnsupported k x → unsupported_of x ≡ Some k
unfolding unsupported_keyword
lexeme_complete x k u =
    let found = keyword_there unsupported u.word k u.among.0 u.among.1 u.among.2 u.same in
    let same : found.0 ≡ k = one_keyword u.word found.0 k (keyword_sound unsupported u.word found.0 found.1) (u.among, u.same) in
    ap unsupported_of u.is ∙ found.1 ∙ ap (λ (w : List ℕ). Some w) same

lexeme_supported : (x : Lexeme) → unsupported_of x ≡ None → IsSupported x
lexeme_supported x e = record { none = λ (k : List ℕ) (u : IsUnsupported k x). none_some k (sym e ∙ lexeme_complete x k u) }
  where
    none_some : (k : List ℕ) → ◌≡◌ {A = Option (List ℕ)} None (Some k) → ⊥
    none_some k e = cc

lexeme_none : (x : Lexeme) → IsSupported x → unsupported_of x ≡ None
lexeme_none x s = at (unsupported_of x) refl
  where
    at : (o : Option (List ℕ)) → unsupported_of x ≡ o → unsupported_of x ≡ None
    at None e = e
    at (Some k) e = absurd (s.none k (lexeme_sound x k e))

-- ---- the words

supported_each : (words : List Lexeme) → first_unsupported words ≡ None → AllByRecursion IsSupported words
supported_each [] e = tt
supported_each (x ∷ xs) e = at (unsupported_of x) refl (supported_each xs)
  where
    at : (o : Option (List ℕ)) → unsupported_of x ≡ o → (first_unsupported xs ≡ None → AllByRecursion IsSupported xs) → AllByRecursion IsSupported (x ∷ xs)
    at None h below = (lexeme_supported x h, below (rw h at e))
    at (Some k) h below = let wrong : ◌≡◌ {A = Option (List ℕ)} (Some k) None = rw h at e in cc

each_supported : (words : List Lexeme) → AllByRecursion IsSupported words → first_unsupported words ≡ None
each_supported [] h = refl
each_supported (x ∷ xs) h = rw (lexeme_none x h.0) (each_supported xs h.1)

listed_sound : (words : List Lexeme) → first_unsupported words ≡ None → All IsSupported words
listed_sound words e = All-from_recursion IsSupported words (supported_each words e)

listed_complete : (words : List Lexeme) → All IsSupported words → first_unsupported words ≡ None
listed_complete words h = each_supported words (recursion_from_All IsSupported words h)

-- the same with the parts before it by recursion
record IsFirst (k : List ℕ) (words : List Lexeme) : Type 0 where
  before : List Lexeme
  word : Lexeme
  after : List Lexeme
  are : words ≡ before ++ word ∷ after
  earlier : AllByRecursion IsSupported before
  this : IsUnsupported k word

first_there : (words : List Lexeme) (k : List ℕ) → first_unsupported words ≡ Some k → IsFirst k words
first_there [] k e = cc
first_there (x ∷ xs) k e = at (unsupported_of x) refl (first_there xs k)
  where
    at : (o : Option (List ℕ)) → unsupported_of x ≡ o → (first_unsupported xs ≡ Some k → IsFirst k xs) → IsFirst k (x ∷ xs)
    at None h below =
        let r = below (rw h at e) in
        record { before = x ∷ r.before; word = r.word; after = r.after; are = ap (λ (ws : List Lexeme). x ∷ ws) r.are; earlier = (lexeme_supported x h, r.earlier); this = r.this }
    at (Some j) h below =
        let found : ◌≡◌ {A = Option (List ℕ)} (Some j) (Some k) = rw h at e in
        let same : j ≡ k = cc in
        record { before = []; word = x; after = xs; are = refl; earlier = tt; this = lexeme_sound x k (h ∙ ap (λ (w : List ℕ). Some w) same) }

first_behind : (before : List Lexeme) (x : Lexeme) (after : List Lexeme) (k : List ℕ) → AllByRecursion IsSupported before → unsupported_of x ≡ Some k → first_unsupported (before ++ x ∷ after) ≡ Some k
first_behind [] x after k h e = rw e refl
first_behind (b ∷ bs) x after k h e = rw (lexeme_none b h.0) (first_behind bs x after k h.1 e)

first_there_is : (words : List Lexeme) (k : List ℕ) → first_unsupported words ≡ Some k → IsFirstUnsupported k words
first_there_is words k e =
    let r = first_there words k e in
    record { before = r.before; word = r.word; after = r.after; are = r.are; supported = All-from_recursion IsSupported r.before r.earlier; unsupported = r.this }

first_is_there : (words : List Lexeme) (k : List ℕ) → IsFirstUnsupported k words → first_unsupported words ≡ Some k
first_is_there words k r =
    ap first_unsupported r.are ∙ first_behind r.before r.word r.after k (recursion_from_All IsSupported r.before r.supported) (lexeme_complete r.word k r.unsupported)

-- ---- the words behind the queries of a rule

not_opened : {A : Type 0} (o : Option A) (P : A → Type 0) → o ≡ None → ((a : A) → P a → o ≡ Some a) → (a : A) → ¬ P a
not_opened {A} o P e complete a p = none_some a (sym e ∙ complete a p)
  where
    none_some : (a : A) → ◌≡◌ {A = Option A} None (Some a) → ⊥
    none_some a e = cc

-- what the function leaves is behind the queries
past_sound : (words : List Lexeme) → PastQueries words (past_queries words)
unfolding past_queries
past_sound words = at (behind_rule words) refl
  where
    of : (left : List Lexeme) → Begins rule_opens words left → (o : Option (List Lexeme)) → behind_within (from_close left) ≡ o → PastQueries words (past_right o (from_close left))
    of left opens None e = PastQueries.one opens (leaves left) (not_opened (behind_within (from_close left)) (Begins within_opens (from_close left)) e (within_complete (from_close left)))
    of left opens (Some right) e = PastQueries.two opens (leaves left) (within_sound (from_close left) right e) (leaves right)

    at : (o : Option (List Lexeme)) → behind_rule words ≡ o → PastQueries words (past_left o words)
    at None e = PastQueries.none (not_opened (behind_rule words) (Begins rule_opens words) e (rule_complete words))
    at (Some left) e = of left (rule_sound words left e) (behind_within (from_close left)) refl

-- and what is behind them is left by the function
not_behind : (o : Option (List Lexeme)) (rest : List Lexeme) → ((a : List Lexeme) → o ≡ Some a → ⊥) → past_right o rest ≡ rest
not_behind None rest h = refl
not_behind (Some a) rest h = absurd (h a refl)

not_before : (o : Option (List Lexeme)) (words : List Lexeme) → ((a : List Lexeme) → o ≡ Some a → ⊥) → past_left o words ≡ words
not_before None words h = refl
not_before (Some a) words h = absurd (h a refl)

past_is : (words rest : List Lexeme) → PastQueries words rest → past_queries words ≡ rest
unfolding past_queries
past_is _ _ (PastQueries.none {words} others) = not_before (behind_rule words) words (λ left e. others left (rule_sound words left e))
past_is _ _ (PastQueries.one {words} {left} {rest} opens l others) =
    let is : from_close left ≡ rest = left_is left rest l in
    ap (λ (o : Option (List Lexeme)). past_left o words) (rule_complete words left opens)
    ∙ ap (λ (r : List Lexeme). past_right (behind_within r) r) is
    ∙ not_behind (behind_within rest) rest (λ right e. others right (within_sound rest right e))
past_is _ _ (PastQueries.two {words} {left} {middle} {right} {rest} opens l within r) =
    let is : from_close left ≡ middle = left_is left middle l in
    ap (λ (o : Option (List Lexeme)). past_left o words) (rule_complete words left opens)
    ∙ ap (λ (m : List Lexeme). past_right (behind_within m) m) is
    ∙ ap (λ (o : Option (List Lexeme)). past_right o middle) (within_complete middle right within)
    ∙ left_is right rest r

-- nothing is added
begins_size : (is : List Item) (words rest : List Lexeme) → Begins is words rest → length rest ≤ length words
begins_size is words rest h = let size = ap length h.are in omega (arith, size, length-append h.front rest)

past_size : (words : List Lexeme) → length (past_queries words) ≤ length words
unfolding past_queries
past_size words = at (behind_rule words) refl
  where
    of : (left : List Lexeme) → length left ≤ length words → (o : Option (List Lexeme)) → behind_within (from_close left) ≡ o → length (past_right o (from_close left)) ≤ length words
    of left le None e = let size = from_close_size left in omega (arith, le, size)
    of left le (Some right) e =
        let size = from_close_size left in
        let begins = begins_size within_opens (from_close left) right (within_sound (from_close left) right e) in
        let last = from_close_size right in
        omega (arith, le, size, begins, last)

    at : (o : Option (List Lexeme)) → behind_rule words ≡ o → length (past_left o words) ≤ length words
    at None e = omega arith
    at (Some left) e = of left (begins_size rule_opens words left (rule_sound words left e)) (behind_within (from_close left)) refl

-- ---- the words outside

-- there are such words, of at most so many
record Outside (words : List Lexeme) : Type 0 where
  outside : List Lexeme
  are : AreOutside words outside

outside_of : (most : ℕ) (words : List Lexeme) → length words ≤ most → Outside words
outside_of most [] le = record { outside = []; are = AreOutside.none }
outside_of zero (x ∷ xs) le = absurd (omega (arith, le))
outside_of (suc most) (x ∷ xs) le = at (is_sign Semicolon x) refl (outside_of most)
  where
    at : (t : Bool) → is_sign Semicolon x ≡ t → ((ws : List Lexeme) → length ws ≤ most → Outside ws) → Outside (x ∷ xs)
    at true h below =
        let size = past_size xs in
        let r = below (past_queries xs) (omega (arith, le, size)) in
        subst (λ (y : Lexeme). Outside (y ∷ xs)) (sym (sign_spelled Semicolon x h)) (record { outside = SignWord Semicolon ∷ r.outside; are = AreOutside.ends (past_sound xs) r.are })
    at false h below =
        let r = below xs (omega (arith, le)) in
        record { outside = x ∷ r.outside; are = AreOutside.word (no_sign Semicolon x h) r.are }

-- a text has such words
scanned_of : (words : List Lexeme) → (scanned : List Lexeme) × AreScanned words scanned
scanned_of words =
    let r = outside_of (length (past_queries words)) (past_queries words) (omega arith) in
    (r.outside, record { rest = past_queries words; begins = past_sound words; outside = r.are })

nothing_left : (fuel : ℕ) → scan_from fuel [] ≡ None
unfolding scan_from
nothing_left zero = refl
nothing_left (suc fuel) = refl

-- the function finds the first of these words
scan_is : (fuel : ℕ) (words outside : List Lexeme) → length words ≤ fuel → AreOutside words outside → scan_from fuel words ≡ first_unsupported outside
unfolding scan_from
scan_is fuel _ _ le AreOutside.none = nothing_left fuel
scan_is zero _ _ le (AreOutside.word {x} {xs} {outside} differs h) = absurd (omega (arith, le))
scan_is (suc fuel) _ _ le (AreOutside.word {x} {xs} {outside} differs h) =
    let below = scan_is fuel xs outside (omega (arith, le)) h in
    rw (is_no_sign Semicolon x differs) (ap (or_later (unsupported_of x)) below)
scan_is zero _ _ le (AreOutside.ends {xs} {rest} {outside} p h) = absurd (omega (arith, le))
scan_is (suc fuel) _ _ le (AreOutside.ends {xs} {rest} {outside} p h) =
    let is : past_queries xs ≡ rest = past_is xs rest p in
    let size = past_size xs in
    let same = ap length is in
    let below = scan_is fuel rest outside (omega (arith, le, size, same)) h in
    ap (scan_from fuel) is ∙ below

scan_scanned : (words scanned : List Lexeme) → AreScanned words scanned → scan words ≡ first_unsupported scanned
unfolding scan
scan_scanned words scanned h =
    let is : past_queries words ≡ h.rest = past_is words h.rest h.begins in
    let size = past_size words in
    let same = ap length is in
    ap (scan_from (length words)) is ∙ scan_is (length words) h.rest scanned (omega (arith, size, same)) h.outside

-- ---- the laws

pub supported_sound : (words : List Lexeme) → scan words ≡ None → AreSupported words
supported_sound words e =
    let s = scanned_of words in
    record { scanned = s.0; are = s.1; each = listed_sound s.0 (sym (scan_scanned words s.0 s.1) ∙ e) }

pub supported_complete : (words : List Lexeme) → AreSupported words → scan words ≡ None
supported_complete words h = scan_scanned words h.scanned h.are ∙ listed_complete h.scanned h.each

pub first_sound : (words : List Lexeme) (k : List ℕ) → scan words ≡ Some k → HasFirst k words
first_sound words k e =
    let s = scanned_of words in
    record { scanned = s.0; are = s.1; first = first_there_is s.0 k (sym (scan_scanned words s.0 s.1) ∙ e) }

pub first_complete : (words : List Lexeme) (k : List ℕ) → HasFirst k words → scan words ≡ Some k
first_complete words k h = scan_scanned words h.scanned h.are ∙ first_is_there h.scanned k h.first

-- ---- the loop

-- where the loop is: what the words that are left give
pub record ScanAt (most i : ℕ) (rest : List Lexeme) (total : Option (List ℕ)) : Type 0 where
  pub so_far : scan_from (most - i) rest ≡ total

split : (most i : ℕ) → i < most → most - i ≡ suc (most - (i + 1))
split most i lt = omega arith

pub scan_start : (words : List Lexeme) → ScanAt (length words) 0 (past_queries words) (scan words)
unfolding scan
scan_start words = let fuel : length words - 0 ≡ length words = omega arith in record { so_far = ap (λ (n : ℕ). scan_from n (past_queries words)) fuel }

pub scan_ends : (most i : ℕ) (rest : List Lexeme) (total : Option (List ℕ)) → ScanAt most i rest total → rest ≡ [] → None ≡ total
scan_ends most i rest total at e = sym (ap (scan_from (most - i)) e ∙ nothing_left (most - i)) ∙ at.so_far

pub scan_finds : (most i : ℕ) (x : Lexeme) (rest behind : List Lexeme) (k : List ℕ) (total : Option (List ℕ)) → ScanAt most i rest total → i < most → rest ≡ x ∷ behind → unsupported_of x ≡ Some k → Some k ≡ total
unfolding scan_from
scan_finds most i x rest behind k total at lt e h = sym (rw (split most i lt, e, h) refl) ∙ at.so_far

pub scan_goes_on : (most i : ℕ) (x : Lexeme) (rest behind next : List Lexeme) (total : Option (List ℕ)) → ScanAt most i rest total → i < most → rest ≡ x ∷ behind → unsupported_of x ≡ None → next ≡ behind_word x behind → ScanAt most (i + 1) next total
unfolding scan_from
scan_goes_on most i x rest behind next total at lt e h n = record { so_far = rw n (sym (rw (split most i lt, e, h) refl) ∙ at.so_far) }

pub scan_over : (most i : ℕ) (rest : List Lexeme) (total : Option (List ℕ)) → ScanAt most i rest total → most ≤ i → None ≡ total
unfolding scan_from
scan_over most i rest total at le = let fuel : most - i ≡ 0 = omega arith in sym (ap (λ (n : ℕ). scan_from n rest) fuel) ∙ at.so_far

-- the same for what the program finds in a word

front : (rest : List Lexeme) (x : Lexeme) → 1 ≤ length rest → x ≡ get_or rest 0 x → rest ≡ x ∷ drop 1 rest
front [] x le is = absurd (omega (arith, le))
front (y ∷ ys) x le is = ap (λ (z : Lexeme). z ∷ ys) (sym is)

pub scan_stops : {A : Type 0} (f : A → List ℕ) (o : Option A) (most i : ℕ) (x : Lexeme) (rest : List Lexeme) (total : Option (List ℕ)) → ScanAt most i rest total → i < most → 1 ≤ length rest → x ≡ get_or rest 0 x
    → option_map f o ≡ unsupported_of x → true ≡ is_some o → option_map f o ≡ total
scan_stops f None most i x rest total at lt le is e t = absurd (false≢true (sym t))
scan_stops f (Some a) most i x rest total at lt le is e t = scan_finds most i x rest (drop 1 rest) (f a) total at lt (front rest x le is) (sym e)

pub scan_continues : {A : Type 0} (f : A → List ℕ) (o : Option A) (most i : ℕ) (x : Lexeme) (rest next : List Lexeme) (total : Option (List ℕ)) → ScanAt most i rest total → i < most → 1 ≤ length rest → x ≡ get_or rest 0 x
    → option_map f o ≡ unsupported_of x → false ≡ is_some o → next ≡ behind_word x (drop 1 rest) → ScanAt most (i + 1) next total
scan_continues f None most i x rest next total at lt le is e t n = scan_goes_on most i x rest (drop 1 rest) next total at lt (front rest x le is) (sym e) n
scan_continues f (Some a) most i x rest next total at lt le is e t n = absurd (false≢true t)
