-- The words of a sent query are supported: a bracket opens behind WHERE and AND alone, before a side
-- of a comparison.
use Rattle.std.proofs.Common.{◌≡◌, ℕ, zero, suc, ◌+◌, ◌<◌, ◌^◌, Bool, true, false, not, ◌&&◌, List, [], ◌∷◌, ◌++◌, length, map, codes, Option, Some, None, refl, ap, ◌∙◌, append_assoc, arith}
use Rattle.std.specs.List.{All, flat_map}
use Rattle.std.proofs.lemmas.Bool.{and_parts, not-true}
use Rattle.ba_grammar.specs.Front.{begins, is_keyword, is_sign}
use Rattle.ba_grammar.specs.Items.{is_among}
use Rattle.ba_lex.specs.Word.{is_word}
use Rattle.ba_lex.specs.declared.token.Lexeme.{Lexeme}
use Rattle.ba_lex.specs.declared.token.Lexeme.TheVariants as lexemes
use Rattle.ba_lex.specs.declared.token.Sign.TheVariants.{LeftParen, RightParen, Comma, Dot, Semicolon, Star, Equal, NotEqual, BangEqual, Less, LessEqual, Greater, GreaterEqual, Plus, Minus, Slash, Percent}
use Rattle.ba_model.specs.Fit.{AtomFits, kind_of}
use Rattle.ba_model.specs.declared.query.Atom.{Atom}
use Rattle.ba_model.specs.declared.query.Op.{Op}
use Rattle.ba_model.specs.declared.query.Op.TheVariants.{Eq, Ne, Lt, Le, IsNull, NotNull}
use Rattle.ba_model.specs.declared.query.Operand.{Operand}
use Rattle.ba_model.specs.declared.query.Operand.TheVariants.{Col, Val, Param, Var}
use Rattle.ba_model.specs.declared.query.Part.{Part}
use Rattle.ba_model.specs.declared.query.Query.{Query}
use Rattle.ba_model.specs.declared.schema.Kind.{Kind}
use Rattle.ba_model.specs.declared.schema.Schema.{Schema}
use Rattle.ba_model.specs.declared.value.Value.TheVariants.{Null, Int, Text}
use Rattle.ba_sql_syntax.specs.Scan.{IsSupported, after, begins_bracket, begins_null, in_null_test, is_refused, nothing, or_else, scan, unsupported_there}
use Rattle.ba_sql_syntax.specs.Terminals.{has_meaning, is_unsupported}
use Rattle.ba_sql_syntax.specs.declared.scan.Behind.{Behind}
use Rattle.ba_sql_syntax.proofs.ScanLemmas.{scanned_none}
use Rattle.ba_sql_print.specs.Printed.{source_name}
use Rattle.ba_sql_print.specs.Words.{atom_words, compared_words, from_words, heads_words, joined_words, keyword, operand_words, source_words, source_words_from, value_words}
use Rattle.ba_sql_print.proofs.PrintedLemmas.{CanWrite, CanWriteAtom}
use Rattle.ba_sql_print.proofs.SupportedLemmas.{stands_free}
use Rattle.ba_sql_print.proofs.WritableLemmas.{head_kind}
use Rattle.ba_sql_print.proofs.WrittenLemmas.{CanReadPart, source_supported}
use Rattle.ba_send.specs.Sent.{has_several}
use Rattle.ba_send.proofs.UnitLemmas.{bracketed, distinct_words, select_words, selected_words, sent_words, where_in_brackets}

abbrev is_ : Lexeme
is_ = keyword (codes "IS")

abbrev not_ : Lexeme
not_ = keyword (codes "NOT")

abbrev null_ : Lexeme
null_ = keyword (codes "NULL")

-- neither SELECT nor a bracket
abbrev begins_side : List Lexeme → Bool
begins_side [] = true
begins_side (x ∷ xs) = not (is_keyword (codes "SELECT") x) && not (is_sign LeftParen x)

-- Words with each IS, NOT and NULL in an IS NULL or in an IS NOT NULL, and each opening bracket
-- behind a word that may stand there.
data Free : List Lexeme → Type 0 where
  free_end : Free []
  free_next : {x : Lexeme} {xs : List Lexeme} → stands_free x ≡ true → Free xs → Free (x ∷ xs)
  free_close : {xs : List Lexeme} → Free xs → Free (lexemes.Sign RightParen ∷ xs)
  free_open : {w : List ℕ} {xs : List Lexeme} → is_unsupported w ≡ false → has_meaning w ≡ true → begins_side xs ≡ true → Free xs
      → Free (keyword w ∷ lexemes.Sign LeftParen ∷ xs)
  free_null : {xs : List Lexeme} → Free xs → Free (is_ ∷ null_ ∷ xs)
  free_not_null : {xs : List Lexeme} → Free xs → Free (is_ ∷ not_ ∷ null_ ∷ xs)

no_bracket : (x : Lexeme) → stands_free x ≡ true → is_sign LeftParen x ≡ false
no_bracket (lexemes.Word w) h = refl
no_bracket (lexemes.Quoted n) h = refl
no_bracket (lexemes.Number n) h = refl
no_bracket (lexemes.Text t) h = refl
no_bracket (lexemes.Param p) h = refl
no_bracket (lexemes.Sign LeftParen) h = cc
no_bracket (lexemes.Sign RightParen) h = refl
no_bracket (lexemes.Sign Comma) h = refl
no_bracket (lexemes.Sign Dot) h = refl
no_bracket (lexemes.Sign Semicolon) h = refl
no_bracket (lexemes.Sign Star) h = refl
no_bracket (lexemes.Sign Equal) h = refl
no_bracket (lexemes.Sign NotEqual) h = refl
no_bracket (lexemes.Sign BangEqual) h = refl
no_bracket (lexemes.Sign Less) h = refl
no_bracket (lexemes.Sign LessEqual) h = refl
no_bracket (lexemes.Sign Greater) h = refl
no_bracket (lexemes.Sign GreaterEqual) h = refl
no_bracket (lexemes.Sign Plus) h = refl
no_bracket (lexemes.Sign Minus) h = refl
no_bracket (lexemes.Sign Slash) h = refl
no_bracket (lexemes.Sign Percent) h = refl

begins_free : {xs : List Lexeme} → Free xs → begins_bracket xs ≡ false
begins_free free_end = refl
begins_free (free_next {x} h k) = no_bracket x h
begins_free (free_close k) = refl
begins_free (free_open u m b k) = refl
begins_free (free_null k) = refl
begins_free (free_not_null k) = refl

-- ---- what may stand behind what

-- behind a bracket it isn't SELECT
abbrev Allows : Behind → List Lexeme → Type 0
Allows behind xs = (behind.bracket && begins (is_keyword (codes "SELECT")) xs) ≡ false

word_free : (behind : Behind) (w : List ℕ) (xs : List Lexeme) → (behind.bracket && is_word w (codes "SELECT")) ≡ false → begins_bracket xs ≡ false
    → is_unsupported w ≡ false → is_refused behind w xs ≡ false
unfolding is_refused
word_free behind w xs b c u = rw (u, b, c) refl

word_opens : (behind : Behind) (w : List ℕ) (xs : List Lexeme) → (behind.bracket && is_word w (codes "SELECT")) ≡ false → has_meaning w ≡ true
    → is_unsupported w ≡ false → is_refused behind w (lexemes.Sign LeftParen ∷ xs) ≡ false
unfolding is_refused
word_opens behind w xs b m u = rw (u, b, m) refl

free_there : (behind : Behind) (x : Lexeme) (xs : List Lexeme) → Allows behind (x ∷ xs) → begins_bracket xs ≡ false → stands_free x ≡ true
    → unsupported_there behind x xs ≡ None
free_there behind (lexemes.Word w) xs b c h = rw (word_free behind w xs b c (not-true (is_unsupported w) h)) refl
free_there behind (lexemes.Quoted n) xs b c h = refl
free_there behind (lexemes.Number n) xs b c h = refl
free_there behind (lexemes.Text t) xs b c h = refl
free_there behind (lexemes.Param p) xs b c h = refl
free_there behind (lexemes.Sign LeftParen) xs b c h = refl
free_there behind (lexemes.Sign RightParen) xs b c h = refl
free_there behind (lexemes.Sign Comma) xs b c h = refl
free_there behind (lexemes.Sign Dot) xs b c h = refl
free_there behind (lexemes.Sign Semicolon) xs b c h = refl
free_there behind (lexemes.Sign Star) xs b c h = refl
free_there behind (lexemes.Sign Equal) xs b c h = refl
free_there behind (lexemes.Sign NotEqual) xs b c h = refl
free_there behind (lexemes.Sign BangEqual) xs b c h = refl
free_there behind (lexemes.Sign Less) xs b c h = refl
free_there behind (lexemes.Sign LessEqual) xs b c h = refl
free_there behind (lexemes.Sign Greater) xs b c h = refl
free_there behind (lexemes.Sign GreaterEqual) xs b c h = refl
free_there behind (lexemes.Sign Plus) xs b c h = cc
free_there behind (lexemes.Sign Minus) xs b c h = cc
free_there behind (lexemes.Sign Slash) xs b c h = cc
free_there behind (lexemes.Sign Percent) xs b c h = cc

-- ---- IS NULL and IS NOT NULL

is_before_null : (behind : Behind) (xs : List Lexeme) → is_refused behind (codes "IS") (null_ ∷ xs) ≡ false
unfolding is_refused is_unsupported is_among is_word in_null_test begins_null
is_before_null behind xs = refl

is_before_not_null : (behind : Behind) (xs : List Lexeme) → is_refused behind (codes "IS") (not_ ∷ null_ ∷ xs) ≡ false
unfolding is_refused is_unsupported is_among is_word in_null_test begins_null
is_before_not_null behind xs = refl

not_between : (behind : Behind) (xs : List Lexeme) → is_refused (after behind is_) (codes "NOT") (null_ ∷ xs) ≡ false
unfolding is_refused is_unsupported is_among is_word in_null_test begins_null
not_between behind xs = refl

null_behind_is : (behind : Behind) (xs : List Lexeme) → is_refused (after behind is_) (codes "NULL") xs ≡ false
unfolding is_refused is_unsupported is_among is_word in_null_test begins_null
null_behind_is behind xs = refl

null_behind_not : (behind : Behind) (xs : List Lexeme) → is_refused (after (after behind is_) not_) (codes "NULL") xs ≡ false
unfolding is_refused is_unsupported is_among is_word in_null_test begins_null
null_behind_not behind xs = refl

-- ---- the scan finds nothing

passes : (behind : Behind) (x : Lexeme) (xs : List Lexeme) → unsupported_there behind x xs ≡ None → scan (after behind x) xs ≡ None → scan behind (x ∷ xs) ≡ None
unfolding scan
passes behind x xs e next = ap (λ (o : Option (List ℕ)). or_else o (scan (after behind x) xs)) e ∙ next

word_passes : (behind : Behind) (w : List ℕ) (xs : List Lexeme) → is_refused behind w xs ≡ false → scan (after behind (keyword w)) xs ≡ None
    → scan behind (keyword w ∷ xs) ≡ None
word_passes behind w xs e next = passes behind (keyword w) xs (rw e refl) next

-- behind what is no bracket all is allowed
allows_any : (behind : Behind) (x : Lexeme) (xs : List Lexeme) → is_sign LeftParen x ≡ false → Allows (after behind x) xs
allows_any behind x xs h = rw h refl

side_allowed : (xs : List Lexeme) → begins_side xs ≡ true → begins (is_keyword (codes "SELECT")) xs ≡ false
side_allowed [] h = refl
side_allowed (x ∷ xs) h = not-true (is_keyword (codes "SELECT") x) (and_parts (not (is_keyword (codes "SELECT") x)) (not (is_sign LeftParen x)) h).0

scan_free : {xs : List Lexeme} → Free xs → (behind : Behind) → Allows behind xs → scan behind xs ≡ None
unfolding scan
scan_free free_end behind b = refl
scan_free (free_next {x} {xs} h k) behind b =
    passes behind x xs (free_there behind x xs b (begins_free k) h) (scan_free k (after behind x) (allows_any behind x xs (no_bracket x h)))
scan_free (free_close {xs} k) behind b = passes behind (lexemes.Sign RightParen) xs refl (scan_free k (after behind (lexemes.Sign RightParen)) refl)
scan_free (free_open {w} {xs} u m s k) behind b =
    word_passes behind w (lexemes.Sign LeftParen ∷ xs) (word_opens behind w xs b m u)
    (passes (after behind (keyword w)) (lexemes.Sign LeftParen) xs refl
    (scan_free k (after (after behind (keyword w)) (lexemes.Sign LeftParen)) (side_allowed xs s)))
scan_free (free_null {xs} k) behind b =
    word_passes behind (codes "IS") (null_ ∷ xs) (is_before_null behind xs)
    (word_passes (after behind is_) (codes "NULL") xs (null_behind_is behind xs) (scan_free k (after (after behind is_) null_) refl))
scan_free (free_not_null {xs} k) behind b =
    word_passes behind (codes "IS") (not_ ∷ null_ ∷ xs) (is_before_not_null behind xs)
    (word_passes (after behind is_) (codes "NOT") (null_ ∷ xs) (not_between behind xs)
    (word_passes (after (after behind is_) not_) (codes "NULL") xs (null_behind_not behind xs) (scan_free k (after (after (after behind is_) not_) null_) refl)))

-- ---- the words are free

begins_append : (xs ys : List Lexeme) → begins_side xs ≡ true → begins_side ys ≡ true → begins_side (xs ++ ys) ≡ true
begins_append [] ys h k = k
begins_append (x ∷ xs) ys h k = h

free_append : {xs ys : List Lexeme} → Free xs → Free ys → begins_side ys ≡ true → Free (xs ++ ys)
free_append free_end k b = k
free_append (free_next x h) k b = free_next x (free_append h k b)
free_append (free_close h) k b = free_close (free_append h k b)
free_append {ys = ys} (free_open {w} {xs} u m s h) k b = free_open u m (begins_append xs ys s b) (free_append h k b)
free_append (free_null h) k b = free_null (free_append h k b)
free_append (free_not_null h) k b = free_not_null (free_append h k b)

free_joined : (x : Lexeme) (gs : List (List Lexeme)) → stands_free x ≡ true → is_keyword (codes "SELECT") x ≡ false → All Free gs → Free (joined_words x gs)
free_joined x [] h s all = free_end
free_joined x (g ∷ gs) h s all = free_append (all 0 g (omega arith)) (following gs (λ k d lt. all (suc k) d (omega (arith, lt)))) (begins gs)
  where
    begins : (gs : List (List Lexeme)) → begins_side (flat_map (λ g. (x ∷ []) ++ g) gs) ≡ true
    begins [] = refl
    begins (g ∷ gs) = rw (s, no_bracket x h) refl

    following : (gs : List (List Lexeme)) → All Free gs → Free (flat_map (λ g. (x ∷ []) ++ g) gs)
    following [] all = free_end
    following (g ∷ gs) all = free_next h (free_append (all 0 g (omega arith)) (following gs (λ k d lt. all (suc k) d (omega (arith, lt)))) (begins gs))

free_map : {A : Type 0} (f : A → List Lexeme) (xs : List A) → All (λ a. Free (f a)) xs → All Free (map f xs)
free_map f [] h k d lt = absurd (omega (arith, lt))
free_map f (x ∷ xs) h zero d lt = h 0 x (omega arith)
free_map f (x ∷ xs) h (suc k) d lt = free_map f xs (λ j e le. h (suc j) e (omega (arith, le))) k d (omega (arith, lt))

select_free : stands_free (keyword (codes "SELECT")) ≡ true
unfolding is_unsupported is_among is_word
select_free = refl

distinct_free : stands_free (keyword (codes "DISTINCT")) ≡ true
unfolding is_unsupported is_among is_word
distinct_free = refl

from_free : stands_free (keyword (codes "FROM")) ≡ true
unfolding is_unsupported is_among is_word
from_free = refl

union_free : stands_free (keyword (codes "UNION")) ≡ true
unfolding is_unsupported is_among is_word
union_free = refl

union_no_select : is_keyword (codes "SELECT") (keyword (codes "UNION")) ≡ false
unfolding is_word
union_no_select = refl

where_supported : is_unsupported (codes "WHERE") ≡ false
unfolding is_unsupported is_among is_word
where_supported = refl

where_means : has_meaning (codes "WHERE") ≡ true
unfolding has_meaning is_among is_word
where_means = refl

and_supported : is_unsupported (codes "AND") ≡ false
unfolding is_unsupported is_among is_word
and_supported = refl

and_means : has_meaning (codes "AND") ≡ true
unfolding has_meaning is_among is_word
and_means = refl

source_free : (place : ℕ) → place < 2 ^ 64 → stands_free (lexemes.Word (source_name place)) ≡ true
source_free place small = ap not (source_supported place small)

-- ---- operands and atoms

source_no_select : (place : ℕ) → is_keyword (codes "SELECT") (lexemes.Word (source_name place)) ≡ false
unfolding is_word
source_no_select place = refl

operand_free : (s : Schema) (f : List ℕ) (k : Kind) (x : Operand) → CanWrite s [] f x → kind_of s [] [] f x ≡ Some k → Free (operand_words s [] f x)
unfolding operand_words value_words
operand_free s f k (Col place column) w e = free_next (source_free place w.0) (free_next refl (free_next refl free_end))
operand_free s f k (Val Null) w e = cc
operand_free s f k (Val (Int n)) w e = free_next refl free_end
operand_free s f k (Val (Text t)) w e = free_next refl free_end
operand_free s f k (Param n) w e = free_next refl free_end
operand_free s f k (Var n) w e = cc

-- it begins as a side, whatever stands behind it
operand_begins : (s : Schema) (f : List ℕ) (k : Kind) (x : Operand) (rest : List Lexeme) → kind_of s [] [] f x ≡ Some k
    → begins_side (operand_words s [] f x ++ rest) ≡ true
unfolding operand_words value_words
operand_begins s f k (Col place column) rest e = rw (source_no_select place) refl
operand_begins s f k (Val Null) rest e = cc
operand_begins s f k (Val (Int n)) rest e = refl
operand_begins s f k (Val (Text t)) rest e = refl
operand_begins s f k (Param n) rest e = refl
operand_begins s f k (Var n) rest e = cc

null_free : Free (is_ ∷ null_ ∷ lexemes.Sign RightParen ∷ [])
null_free = free_null (free_close free_end)

not_null_free : Free (is_ ∷ not_ ∷ null_ ∷ lexemes.Sign RightParen ∷ [])
not_null_free = free_not_null (free_close free_end)

is_begins : (xs : List Lexeme) → begins_side (is_ ∷ xs) ≡ true
unfolding is_word
is_begins xs = refl

by_sign : (x : Lexeme) (us vs : List Lexeme) → stands_free x ≡ true → begins_side (x ∷ []) ≡ true → Free us → Free vs
    → Free ((us ++ x ∷ vs) ++ lexemes.Sign RightParen ∷ [])
by_sign x us vs h b k l = free_append (free_append k (free_next h l) b) (free_close free_end) refl

compared_free : (op : Op) (us vs : List Lexeme) → Free us → Free vs → Free (compared_words op us vs ++ lexemes.Sign RightParen ∷ [])
unfolding compared_words
compared_free Eq us vs h k = by_sign (lexemes.Sign Equal) us vs refl refl h k
compared_free Ne us vs h k = by_sign (lexemes.Sign NotEqual) us vs refl refl h k
compared_free Lt us vs h k = by_sign (lexemes.Sign Less) us vs refl refl h k
compared_free Le us vs h k = by_sign (lexemes.Sign LessEqual) us vs refl refl h k
compared_free IsNull us vs h k = free_append (free_append h (free_null free_end) (is_begins (null_ ∷ []))) (free_close free_end) refl
compared_free NotNull us vs h k = free_append (free_append h (free_not_null free_end) (is_begins (not_ ∷ null_ ∷ []))) (free_close free_end) refl

compared_begins : (op : Op) (us vs ws : List Lexeme) → ((rest : List Lexeme) → begins_side (us ++ rest) ≡ true) → begins_side (compared_words op us vs ++ ws) ≡ true
unfolding compared_words
compared_begins Eq us vs ws h = ap begins_side (append_assoc us (lexemes.Sign Equal ∷ vs) ws) ∙ h _
compared_begins Ne us vs ws h = ap begins_side (append_assoc us (lexemes.Sign NotEqual ∷ vs) ws) ∙ h _
compared_begins Lt us vs ws h = ap begins_side (append_assoc us (lexemes.Sign Less ∷ vs) ws) ∙ h _
compared_begins Le us vs ws h = ap begins_side (append_assoc us (lexemes.Sign LessEqual ∷ vs) ws) ∙ h _
compared_begins IsNull us vs ws h = ap begins_side (append_assoc us (is_ ∷ null_ ∷ []) ws) ∙ h _
compared_begins NotNull us vs ws h = ap begins_side (append_assoc us (is_ ∷ not_ ∷ null_ ∷ []) ws) ∙ h _

-- behind a word that may stand before its bracket
atom_free : (s : Schema) (f : List ℕ) (w : List ℕ) (atom : Atom) → is_unsupported w ≡ false → has_meaning w ≡ true → CanWriteAtom s [] f atom
    → AtomFits s [] [] f atom → Free (keyword w ∷ bracketed s f atom)
unfolding atom_words
atom_free s f w atom u m can fits =
    free_open u m
    (compared_begins atom.op _ _ _ (λ rest. operand_begins s f fits.kind atom.left rest fits.left_is))
    (compared_free atom.op _ _ (operand_free s f fits.kind atom.left can.left fits.left_is) (operand_free s f fits.kind atom.right can.right fits.right_is))

-- ---- parts

sources_free : (s : Schema) (place : ℕ) (from : List ℕ) → place + length from < 2 ^ 64 → All Free (source_words_from s place from)
unfolding source_words
sources_free s place [] small k d lt = absurd (omega (arith, lt))
sources_free s place (t ∷ ts) small zero d lt = free_next refl (free_next (source_free place (omega (arith, small))) free_end)
sources_free s place (t ∷ ts) small (suc k) d lt = sources_free s (suc place) ts (omega (arith, small)) k d (omega (arith, lt))

ands_begin : (s : Schema) (f : List ℕ) (atoms : List Atom) → begins_side (flat_map (λ g. (keyword (codes "AND") ∷ []) ++ g) (map (bracketed s f) atoms)) ≡ true
unfolding is_word
ands_begin s f [] = refl
ands_begin s f (a ∷ more) = refl

-- the atoms behind the first
ands_free : (s : Schema) (f : List ℕ) (atoms : List Atom) → All (CanWriteAtom s [] f) atoms → All (AtomFits s [] [] f) atoms
    → Free (flat_map (λ g. (keyword (codes "AND") ∷ []) ++ g) (map (bracketed s f) atoms))
ands_free s f [] can fits = free_end
ands_free s f (a ∷ more) can fits =
    free_append (atom_free s f (codes "AND") a and_supported and_means (can 0 a (omega arith)) (fits 0 a (omega arith)))
    (ands_free s f more (λ k d lt. can (suc k) d (omega (arith, lt))) (λ k d lt. fits (suc k) d (omega (arith, lt)))) (ands_begin s f more)

where_free : (s : Schema) (f : List ℕ) (atoms : List Atom) → All (CanWriteAtom s [] f) atoms → All (AtomFits s [] [] f) atoms → Free (where_in_brackets s f atoms)
unfolding where_in_brackets
where_free s f [] can fits = free_end
where_free s f (a ∷ more) can fits =
    free_append (atom_free s f (codes "WHERE") a where_supported where_means (can 0 a (omega arith)) (fits 0 a (omega arith)))
    (ands_free s f more (λ k d lt. can (suc k) d (omega (arith, lt))) (λ k d lt. fits (suc k) d (omega (arith, lt)))) (ands_begin s f more)

where_begins : (s : Schema) (f : List ℕ) (atoms : List Atom) → begins_side (where_in_brackets s f atoms) ≡ true
unfolding where_in_brackets is_word
where_begins s f [] = refl
where_begins s f (a ∷ more) = refl

distinct_is_free : (several : Bool) → Free (distinct_words several)
distinct_is_free false = free_next distinct_free free_end
distinct_is_free true = free_end

from_begins : (xs : List Lexeme) → begins_side (keyword (codes "FROM") ∷ xs) ≡ true
unfolding is_word
from_begins xs = refl

operands_begin : (s : Schema) (f : List ℕ) (head : List Operand) (rest : List Lexeme) → All (λ x. (k : Kind) × (kind_of s [] [] f x ≡ Some k)) head
    → begins_side rest ≡ true → begins_side (heads_words s [] f head ++ rest) ≡ true
unfolding heads_words
operands_begin s f [] rest kinds h = h
operands_begin s f (x ∷ xs) rest kinds h =
    let kind = kinds 0 x (omega arith) in
    ap begins_side (append_assoc (operand_words s [] f x) _ rest) ∙ operand_begins s f kind.0 x _ kind.1

select_is_free : (s : Schema) (several : Bool) (part : Part) → CanReadPart s [] part → Free (select_words s several part)
unfolding selected_words heads_words from_words
select_is_free s several part h =
    let kinds = head_kind s [] part.from part.head h.kinds h.fits.head in
    let heads = free_joined (lexemes.Sign Comma) (map (operand_words s [] part.from) part.head) refl refl
    (free_map (operand_words s [] part.from) part.head (λ k d lt. operand_free s part.from (kinds k d lt).0 _ (h.writes.head k d lt) (kinds k d lt).1)) in
    let sources = free_joined (lexemes.Sign Comma) (source_words_from s 0 part.from) refl refl (sources_free s 0 part.from (omega (arith, h.writes.few))) in
    let condition = where_free s part.from part.conds h.writes.conds h.fits.conds in
    let behind : List Lexeme = from_words s part.from ++ where_in_brackets s part.from part.conds in
    let from = free_next from_free (free_append sources condition (where_begins s part.from part.conds)) in
    free_next select_free
    (free_append (distinct_is_free several) (free_append heads from (from_begins behind)) (operands_begin s part.from part.head (keyword (codes "FROM") ∷ behind) kinds (from_begins behind)))

pub query_supported : (s : Schema) (q : Query) → All (CanReadPart s []) q.parts → IsSupported (sent_words s q)
unfolding sent_words
query_supported s q h =
    scanned_none (joined_words (keyword (codes "UNION")) (map (select_words s (has_several q)) q.parts))
    (scan_free (free_joined (keyword (codes "UNION")) (map (select_words s (has_several q)) q.parts) union_free union_no_select
    (free_map (select_words s (has_several q)) q.parts (λ k d lt. select_is_free s (has_several q) _ (h k d lt)))) nothing refl)
