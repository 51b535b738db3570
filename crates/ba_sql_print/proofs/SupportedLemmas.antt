-- The words of a printed query are supported.
use Rattle.std.proofs.Common.{◌≡◌, ℕ, zero, suc, ◌+◌, ◌<◌, ◌^◌, Bool, true, false, not, List, [], ◌∷◌, ◌++◌, length, map, codes, Option, Some, None, refl, ap, ◌∙◌, arith}
use Rattle.std.specs.List.{All, flat_map}
use Rattle.std.proofs.lemmas.Bool.{not-true}
use Rattle.ba_grammar.specs.Front.{is_sign}
use Rattle.ba_grammar.specs.Items.{is_among}
use Rattle.ba_lex.specs.Word.{is_word}
use Rattle.ba_lex.specs.declared.token.Lexeme.{Lexeme}
use Rattle.ba_lex.specs.declared.token.Lexeme.TheVariants as lexemes
use Rattle.ba_lex.specs.declared.token.Sign.TheVariants.{LeftParen, RightParen, Comma, Dot, Semicolon, Star, Equal, NotEqual, BangEqual, Less, LessEqual, Greater, GreaterEqual, Plus, Minus, Slash, Percent}
use Rattle.ba_model.specs.Fit.{AtomFits, kind_of, kinds_of}
use Rattle.ba_model.specs.declared.policy.Parameter.{Parameter}
use Rattle.ba_model.specs.declared.query.Atom.{Atom}
use Rattle.ba_model.specs.declared.query.Op.{Op}
use Rattle.ba_model.specs.declared.query.Op.TheVariants.{Eq, Ne, Lt, Le, IsNull, NotNull}
use Rattle.ba_model.specs.declared.query.Operand.{Operand}
use Rattle.ba_model.specs.declared.query.Operand.TheVariants.{Col, Val, Param, Var}
use Rattle.ba_model.specs.declared.query.Part.{Part}
use Rattle.ba_model.specs.declared.query.Query.{Query}
use Rattle.ba_model.specs.declared.schema.Kind.{Kind}
use Rattle.ba_model.specs.declared.schema.Schema.{Schema}
use Rattle.ba_model.specs.declared.value.Value.TheVariants.{Null, Int, Text}
use Rattle.ba_sql_syntax.specs.Scan.{IsSupported, after, begins_bracket, begins_null, in_null_test, is_refused, nothing, or_else, scan, unsupported_there}
use Rattle.ba_sql_syntax.specs.Terminals.{is_unsupported}
use Rattle.ba_sql_syntax.specs.declared.scan.Behind.{Behind}
use Rattle.ba_sql_syntax.proofs.ScanLemmas.{scanned_none}
use Rattle.ba_sql_print.specs.Printed.{source_name}
use Rattle.ba_sql_print.specs.Words.{atom_words, compared_words, from_words, heads_words, joined_words, keyword, operand_words, part_words, query_words, source_words, source_words_from, value_words, where_words}
use Rattle.ba_sql_print.proofs.PrintedLemmas.{CanWrite, CanWriteAtom}
use Rattle.ba_sql_print.proofs.WritableLemmas.{head_kind}
use Rattle.ba_sql_print.proofs.WrittenLemmas.{CanReadPart, source_supported}

-- no bracket, and supported wherever it stands away from one
abbrev pub stands_free : Lexeme → Bool
stands_free (lexemes.Word w) = not (is_unsupported w)
stands_free (lexemes.Quoted n) = true
stands_free (lexemes.Number n) = true
stands_free (lexemes.Text t) = true
stands_free (lexemes.Param p) = true
stands_free (lexemes.Sign Comma) = true
stands_free (lexemes.Sign Dot) = true
stands_free (lexemes.Sign Equal) = true
stands_free (lexemes.Sign NotEqual) = true
stands_free (lexemes.Sign Less) = true
stands_free (lexemes.Sign LessEqual) = true
stands_free (lexemes.Sign LeftParen) = false
stands_free (lexemes.Sign RightParen) = false
stands_free (lexemes.Sign Semicolon) = false
stands_free (lexemes.Sign Star) = false
stands_free (lexemes.Sign BangEqual) = false
stands_free (lexemes.Sign Greater) = false
stands_free (lexemes.Sign GreaterEqual) = false
stands_free (lexemes.Sign Plus) = false
stands_free (lexemes.Sign Minus) = false
stands_free (lexemes.Sign Slash) = false
stands_free (lexemes.Sign Percent) = false

no_bracket : (x : Lexeme) → stands_free x ≡ true → is_sign LeftParen x ≡ false
no_bracket (lexemes.Word w) h = refl
no_bracket (lexemes.Quoted n) h = refl
no_bracket (lexemes.Number n) h = refl
no_bracket (lexemes.Text t) h = refl
no_bracket (lexemes.Param p) h = refl
no_bracket (lexemes.Sign LeftParen) h = cc
no_bracket (lexemes.Sign RightParen) h = refl
no_bracket (lexemes.Sign Comma) h = refl
no_bracket (lexemes.Sign Dot) h = refl
no_bracket (lexemes.Sign Semicolon) h = refl
no_bracket (lexemes.Sign Star) h = refl
no_bracket (lexemes.Sign Equal) h = refl
no_bracket (lexemes.Sign NotEqual) h = refl
no_bracket (lexemes.Sign BangEqual) h = refl
no_bracket (lexemes.Sign Less) h = refl
no_bracket (lexemes.Sign LessEqual) h = refl
no_bracket (lexemes.Sign Greater) h = refl
no_bracket (lexemes.Sign GreaterEqual) h = refl
no_bracket (lexemes.Sign Plus) h = refl
no_bracket (lexemes.Sign Minus) h = refl
no_bracket (lexemes.Sign Slash) h = refl
no_bracket (lexemes.Sign Percent) h = refl

-- words that are no brackets, with each IS, NOT and NULL in an IS NULL or in an IS NOT NULL
data Free : List Lexeme → Type 0 where
  free_end : Free []
  free_next : {x : Lexeme} {xs : List Lexeme} → stands_free x ≡ true → Free xs → Free (x ∷ xs)
  free_null : {xs : List Lexeme} → Free xs → Free (keyword (codes "IS") ∷ keyword (codes "NULL") ∷ xs)
  free_not_null : {xs : List Lexeme} → Free xs → Free (keyword (codes "IS") ∷ keyword (codes "NOT") ∷ keyword (codes "NULL") ∷ xs)

begins_free : {xs : List Lexeme} → Free xs → begins_bracket xs ≡ false
begins_free free_end = refl
begins_free (free_next {x} h k) = no_bracket x h
begins_free (free_null k) = refl
begins_free (free_not_null k) = refl

word_free : (behind : Behind) (w : List ℕ) (xs : List Lexeme) → behind.bracket ≡ false → begins_bracket xs ≡ false → is_unsupported w ≡ false
    → is_refused behind w xs ≡ false
unfolding is_refused
word_free behind w xs b c u = rw (u, b, c) refl

free_there : (behind : Behind) (x : Lexeme) (xs : List Lexeme) → behind.bracket ≡ false → begins_bracket xs ≡ false → stands_free x ≡ true
    → unsupported_there behind x xs ≡ None
free_there behind (lexemes.Word w) xs b c h = rw (word_free behind w xs b c (not-true (is_unsupported w) h)) refl
free_there behind (lexemes.Quoted n) xs b c h = refl
free_there behind (lexemes.Number n) xs b c h = refl
free_there behind (lexemes.Text t) xs b c h = refl
free_there behind (lexemes.Param p) xs b c h = refl
free_there behind (lexemes.Sign LeftParen) xs b c h = refl
free_there behind (lexemes.Sign RightParen) xs b c h = refl
free_there behind (lexemes.Sign Comma) xs b c h = refl
free_there behind (lexemes.Sign Dot) xs b c h = refl
free_there behind (lexemes.Sign Semicolon) xs b c h = refl
free_there behind (lexemes.Sign Star) xs b c h = refl
free_there behind (lexemes.Sign Equal) xs b c h = refl
free_there behind (lexemes.Sign NotEqual) xs b c h = refl
free_there behind (lexemes.Sign BangEqual) xs b c h = refl
free_there behind (lexemes.Sign Less) xs b c h = refl
free_there behind (lexemes.Sign LessEqual) xs b c h = refl
free_there behind (lexemes.Sign Greater) xs b c h = refl
free_there behind (lexemes.Sign GreaterEqual) xs b c h = refl
free_there behind (lexemes.Sign Plus) xs b c h = cc
free_there behind (lexemes.Sign Minus) xs b c h = cc
free_there behind (lexemes.Sign Slash) xs b c h = cc
free_there behind (lexemes.Sign Percent) xs b c h = cc

-- ---- IS NULL and IS NOT NULL

abbrev is_ : Lexeme
is_ = keyword (codes "IS")

abbrev not_ : Lexeme
not_ = keyword (codes "NOT")

abbrev null_ : Lexeme
null_ = keyword (codes "NULL")

is_before_null : (behind : Behind) (xs : List Lexeme) → is_refused behind (codes "IS") (null_ ∷ xs) ≡ false
unfolding is_refused is_unsupported is_among is_word in_null_test begins_null
is_before_null behind xs = refl

is_before_not_null : (behind : Behind) (xs : List Lexeme) → is_refused behind (codes "IS") (not_ ∷ null_ ∷ xs) ≡ false
unfolding is_refused is_unsupported is_among is_word in_null_test begins_null
is_before_not_null behind xs = refl

not_between : (behind : Behind) (xs : List Lexeme) → is_refused (after behind is_) (codes "NOT") (null_ ∷ xs) ≡ false
unfolding is_refused is_unsupported is_among is_word in_null_test begins_null
not_between behind xs = refl

null_behind_is : (behind : Behind) (xs : List Lexeme) → is_refused (after behind is_) (codes "NULL") xs ≡ false
unfolding is_refused is_unsupported is_among is_word in_null_test begins_null
null_behind_is behind xs = refl

null_behind_not : (behind : Behind) (xs : List Lexeme) → is_refused (after (after behind is_) not_) (codes "NULL") xs ≡ false
unfolding is_refused is_unsupported is_among is_word in_null_test begins_null
null_behind_not behind xs = refl

-- ---- the scan finds nothing

passes : (behind : Behind) (x : Lexeme) (xs : List Lexeme) → unsupported_there behind x xs ≡ None → scan (after behind x) xs ≡ None → scan behind (x ∷ xs) ≡ None
unfolding scan
passes behind x xs e next = ap (λ (o : Option (List ℕ)). or_else o (scan (after behind x) xs)) e ∙ next

word_passes : (behind : Behind) (w : List ℕ) (xs : List Lexeme) → is_refused behind w xs ≡ false → scan (after behind (keyword w)) xs ≡ None
    → scan behind (keyword w ∷ xs) ≡ None
word_passes behind w xs e next = passes behind (keyword w) xs (rw e refl) next

scan_free : {xs : List Lexeme} → Free xs → (behind : Behind) → behind.bracket ≡ false → scan behind xs ≡ None
unfolding scan
scan_free free_end behind b = refl
scan_free (free_next {x} {xs} h k) behind b = passes behind x xs (free_there behind x xs b (begins_free k) h) (scan_free k (after behind x) (no_bracket x h))
scan_free (free_null {xs} k) behind b =
    word_passes behind (codes "IS") (null_ ∷ xs) (is_before_null behind xs)
    (word_passes (after behind is_) (codes "NULL") xs (null_behind_is behind xs) (scan_free k (after (after behind is_) null_) refl))
scan_free (free_not_null {xs} k) behind b =
    word_passes behind (codes "IS") (not_ ∷ null_ ∷ xs) (is_before_not_null behind xs)
    (word_passes (after behind is_) (codes "NOT") (null_ ∷ xs) (not_between behind xs)
    (word_passes (after (after behind is_) not_) (codes "NULL") xs (null_behind_not behind xs) (scan_free k (after (after (after behind is_) not_) null_) refl)))

-- ---- the words are free

free_append : {xs ys : List Lexeme} → Free xs → Free ys → Free (xs ++ ys)
free_append free_end k = k
free_append (free_next x h) k = free_next x (free_append h k)
free_append (free_null h) k = free_null (free_append h k)
free_append (free_not_null h) k = free_not_null (free_append h k)

free_between : {us vs : List Lexeme} (x : Lexeme) → stands_free x ≡ true → Free us → Free vs → Free (us ++ x ∷ vs)
free_between x s h k = free_append h (free_next s k)

free_following : (x : Lexeme) (gs : List (List Lexeme)) → stands_free x ≡ true → All Free gs → Free (flat_map (λ g. (x ∷ []) ++ g) gs)
free_following x [] h all = free_end
free_following x (g ∷ gs) h all = free_next h (free_append (all 0 g (omega arith)) (free_following x gs h (λ k d lt. all (suc k) d (omega (arith, lt)))))

free_joined : (x : Lexeme) (gs : List (List Lexeme)) → stands_free x ≡ true → All Free gs → Free (joined_words x gs)
free_joined x [] h all = free_end
free_joined x (g ∷ gs) h all = free_append (all 0 g (omega arith)) (free_following x gs h (λ k d lt. all (suc k) d (omega (arith, lt))))

free_map : {A : Type 0} (f : A → List Lexeme) (xs : List A) → All (λ a. Free (f a)) xs → All Free (map f xs)
free_map f [] h k d lt = absurd (omega (arith, lt))
free_map f (x ∷ xs) h zero d lt = h 0 x (omega arith)
free_map f (x ∷ xs) h (suc k) d lt = free_map f xs (λ j e le. h (suc j) e (omega (arith, le))) k d (omega (arith, lt))

select_free : stands_free (keyword (codes "SELECT")) ≡ true
unfolding is_unsupported is_among is_word
select_free = refl

from_free : stands_free (keyword (codes "FROM")) ≡ true
unfolding is_unsupported is_among is_word
from_free = refl

where_free : stands_free (keyword (codes "WHERE")) ≡ true
unfolding is_unsupported is_among is_word
where_free = refl

and_free : stands_free (keyword (codes "AND")) ≡ true
unfolding is_unsupported is_among is_word
and_free = refl

union_free : stands_free (keyword (codes "UNION")) ≡ true
unfolding is_unsupported is_among is_word
union_free = refl

source_free : (place : ℕ) → place < 2 ^ 64 → stands_free (lexemes.Word (source_name place)) ≡ true
source_free place small = ap not (source_supported place small)

operand_free : (s : Schema) (p : List Parameter) (f : List ℕ) (params : List Kind) (k : Kind) (x : Operand) → CanWrite s p f x
    → kind_of s params [] f x ≡ Some k → Free (operand_words s p f x)
unfolding operand_words value_words
operand_free s p f params k (Col place column) w e = free_next (source_free place w.0) (free_next refl (free_next refl free_end))
operand_free s p f params k (Val Null) w e = cc
operand_free s p f params k (Val (Int n)) w e = free_next refl free_end
operand_free s p f params k (Val (Text t)) w e = free_next refl free_end
operand_free s p f params k (Param n) w e = free_next refl free_end
operand_free s p f params k (Var n) w e = cc

compared_free : (op : Op) (us vs : List Lexeme) → Free us → Free vs → Free (compared_words op us vs)
unfolding compared_words
compared_free Eq us vs h k = free_between (lexemes.Sign Equal) refl h k
compared_free Ne us vs h k = free_between (lexemes.Sign NotEqual) refl h k
compared_free Lt us vs h k = free_between (lexemes.Sign Less) refl h k
compared_free Le us vs h k = free_between (lexemes.Sign LessEqual) refl h k
compared_free IsNull us vs h k = free_append h (free_null free_end)
compared_free NotNull us vs h k = free_append h (free_not_null free_end)

atom_free : (s : Schema) (p : List Parameter) (f : List ℕ) (params : List Kind) (atom : Atom) → CanWriteAtom s p f atom → AtomFits s params [] f atom
    → Free (atom_words s p f atom)
unfolding atom_words
atom_free s p f params atom w fits = compared_free atom.op _ _ (operand_free s p f params fits.kind atom.left w.left fits.left_is)
    (operand_free s p f params fits.kind atom.right w.right fits.right_is)

sources_free : (s : Schema) (place : ℕ) (from : List ℕ) → place + length from < 2 ^ 64 → All Free (source_words_from s place from)
unfolding source_words
sources_free s place [] small k d lt = absurd (omega (arith, lt))
sources_free s place (t ∷ ts) small zero d lt = free_next refl (free_next (source_free place (omega (arith, small))) free_end)
sources_free s place (t ∷ ts) small (suc k) d lt = sources_free s (suc place) ts (omega (arith, small)) k d (omega (arith, lt))

where_words_free : (s : Schema) (p : List Parameter) (f : List ℕ) (atoms : List Atom) → All (λ a. Free (atom_words s p f a)) atoms
    → Free (where_words s p f atoms)
unfolding where_words
where_words_free s p f [] h = free_end
where_words_free s p f (a ∷ more) h =
    free_next where_free (free_joined (keyword (codes "AND")) (map (atom_words s p f) (a ∷ more)) and_free (free_map (atom_words s p f) (a ∷ more) h))

part_free : (s : Schema) (p : List Parameter) (part : Part) → CanReadPart s p part → Free (part_words s p part)
unfolding part_words heads_words from_words
part_free s p part h =
    let kinds = head_kind s (kinds_of p) part.from part.head h.kinds h.fits.head in
    let heads = free_joined (lexemes.Sign Comma) (map (operand_words s p part.from) part.head) refl
    (free_map (operand_words s p part.from) part.head
    (λ k d lt. operand_free s p part.from (kinds_of p) (kinds k d lt).0 _ (h.writes.head k d lt) (kinds k d lt).1)) in
    let sources = free_joined (lexemes.Sign Comma) (source_words_from s 0 part.from) refl (sources_free s 0 part.from (omega (arith, h.writes.few))) in
    let condition = where_words_free s p part.from part.conds
    (λ k d lt. atom_free s p part.from (kinds_of p) _ (h.writes.conds k d lt) (h.fits.conds k d lt)) in
    free_next select_free (free_append heads (free_next from_free (free_append sources condition)))

pub query_supported : (s : Schema) (p : List Parameter) (q : Query) → All (CanReadPart s p) q.parts → IsSupported (query_words s p q)
unfolding query_words
query_supported s p q h =
    scanned_none (joined_words (keyword (codes "UNION")) (map (part_words s p) q.parts))
    (scan_free (free_joined (keyword (codes "UNION")) (map (part_words s p) q.parts) union_free (free_map (part_words s p) q.parts (λ k d lt. part_free s p _ (h k d lt))))
    nothing refl)
