-- The pieces of a query's text have the query's words: those of its written form, with DISTINCT and
-- brackets.
use Rattle.std.proofs.Common.{◌≡◌, ℕ, suc, ◌+◌, ◌<◌, ◌^◌, Bool, true, false, cond, List, [], ◌∷◌, ◌++◌, length, map, codes, Option, Some, None, refl, sym, ap, subst, ◌∙◌, arith, append_assoc, append-nil, eq-eqb}
use Rattle.std.specs.List.{All, AllZip, flat_map}
use Rattle.std.specs.Str.{bytes_eq}
use Rattle.ba_grammar.specs.Front.{is_sign}
use Rattle.ba_lex.specs.Spelling.{are_name_bytes, doubled, fits}
use Rattle.ba_lex.specs.Word.{is_word}
use Rattle.ba_lex.specs.declared.token.Lexeme.{Lexeme}
use Rattle.ba_lex.specs.declared.token.Lexeme.TheVariants as lexemes
use Rattle.ba_lex.specs.declared.token.Sign.{Sign}
use Rattle.ba_lex.specs.declared.token.Sign.TheVariants.{LeftParen, RightParen, Comma, Dot, Equal, NotEqual, Less, LessEqual}
use Rattle.ba_model.specs.Fit.{AtomFits, kind_of}
use Rattle.ba_model.specs.declared.query.Atom.{Atom}
use Rattle.ba_model.specs.declared.query.Op.{Op}
use Rattle.ba_model.specs.declared.query.Op.TheVariants.{Eq, Ne, Lt, Le, IsNull, NotNull}
use Rattle.ba_model.specs.declared.query.Operand.{Operand}
use Rattle.ba_model.specs.declared.query.Operand.TheVariants.{Col, Val, Param, Var}
use Rattle.ba_model.specs.declared.query.Part.{Part}
use Rattle.ba_model.specs.declared.query.Query.{Query}
use Rattle.ba_model.specs.declared.schema.Kind.{Kind}
use Rattle.ba_model.specs.declared.schema.Schema.{Schema}
use Rattle.ba_model.specs.declared.value.Value.TheVariants.{Null, Int, Text}
use Rattle.ba_sql_print.specs.Printed.{column_name, source_name, table_name}
use Rattle.ba_sql_print.specs.Words.{atom_words, compared_words, from_words, heads_words, joined_words, keyword, operand_words, source_words, source_words_from, value_words}
use Rattle.ba_sql_print.proofs.PrintedLemmas.{CanWrite, CanWriteAtom}
use Rattle.ba_sql_print.proofs.SpellsLemmas.{Stands}
use Rattle.ba_sql_print.proofs.StandsLemmas.{equal_stands, less_equal_stands, less_stands, not_equal_stands, number_stands, source_stands, text_stands, word_stands}
use Rattle.ba_sql_print.proofs.TokenLemmas.{comma_found}
use Rattle.ba_sql_print.proofs.WritableLemmas.{head_kind}
use Rattle.ba_sql_print.proofs.WrittenLemmas.{CanReadPart}
use Rattle.ba_target.specs.declared.target.Database.{Database}
use Rattle.ba_target.specs.declared.target.Database.TheVariants.{PostgreSql, Sqlite, MySql}
use Rattle.ba_target.specs.declared.target.Target.{Target}
use Rattle.ba_send.specs.ReadBack.{form_said, names_read, texts_read, without_namespace}
use Rattle.ba_send.specs.ReadBack.Form.{plain}
use Rattle.ba_send.specs.Sent.{Piece, atom_pieces, distinct_pieces, following, from_pieces, has_several, heads_pieces, hex_piece, if_right, is_exact, joined, lexeme_text, operand_pieces, part_pieces, piece_text, selected_pieces, sign, sign_pieces, source_pieces, sources_from, table_in, text_pieces, value_pieces, where_pieces, word}
use Rattle.ba_send.specs.Texts.{has_backslash, hex, is_plain, slashed}
use Rattle.ba_send.proofs.FormLemmas.{unhex_hex, unslashed_slashed}
use Rattle.ba_send.proofs.FoundLemmas.{left_stands, letter_e_found, letter_x_found, name_stands, right_stands}
use Rattle.ba_send.proofs.LexLemmas.{Says, says_append, says_before, says_dot, says_token}
use Rattle.ba_send.proofs.SendsLemmas.{Reads, Sends, append, more_says, name_kept, no_form_sign, nothing, one, piece, plain_number, plain_quoted, plain_sign, plain_text, plain_word, texts_kept}

-- ---- the words

abbrev pub bracketed : Schema → List ℕ → Atom → List Lexeme
bracketed s f atom = lexemes.Sign LeftParen ∷ (atom_words s [] f atom ++ lexemes.Sign RightParen ∷ [])

unfoldable pub where_in_brackets : Schema → List ℕ → List Atom → List Lexeme
where_in_brackets s f [] = []
where_in_brackets s f (atom ∷ atoms) = keyword (codes "WHERE") ∷ joined_words (keyword (codes "AND")) (map (bracketed s f) (atom ∷ atoms))

abbrev pub distinct_words : Bool → List Lexeme
distinct_words false = keyword (codes "DISTINCT") ∷ []
distinct_words true = []

unfoldable pub selected_words : Schema → Bool → Part → List Lexeme
selected_words s several part =
    distinct_words several ++ (heads_words s [] part.from part.head
    ++ keyword (codes "FROM") ∷ (from_words s part.from ++ where_in_brackets s part.from part.conds))

abbrev pub select_words : Schema → Bool → Part → List Lexeme
select_words s several part = keyword (codes "SELECT") ∷ selected_words s several part

unfoldable pub sent_words : Schema → Query → List Lexeme
sent_words s q = joined_words (keyword (codes "UNION")) (map (select_words s (has_several q)) q.parts)

-- ---- lists

following_sends : (d : Database) (o : Option (List ℕ)) (p : Piece) (x : Lexeme) → Sends d o (p ∷ []) (x ∷ []) → (gs : List (List Piece)) (ws : List (List Lexeme))
    → AllZip (Sends d o) gs ws → Sends d o (following p gs) (flat_map (λ w. (x ∷ []) ++ w) ws)
following_sends d o p x h [] [] all = nothing d o
following_sends d o p x h [] (w ∷ ws) all = absurd all
following_sends d o p x h (g ∷ gs) [] all = absurd all
following_sends d o p x h (g ∷ gs) (w ∷ ws) all =
    append d o (p ∷ g) (following p gs) (x ∷ w) (flat_map (λ v. (x ∷ []) ++ v) ws) (append d o (p ∷ []) g (x ∷ []) w h all.0)
    (following_sends d o p x h gs ws all.1)

joined_sends : (d : Database) (o : Option (List ℕ)) (p : Piece) (x : Lexeme) → Sends d o (p ∷ []) (x ∷ []) → (gs : List (List Piece)) (ws : List (List Lexeme))
    → AllZip (Sends d o) gs ws → Sends d o (joined p gs) (joined_words x ws)
unfolding joined
joined_sends d o p x h [] [] all = nothing d o
joined_sends d o p x h [] (w ∷ ws) all = absurd all
joined_sends d o p x h (g ∷ gs) [] all = absurd all
joined_sends d o p x h (g ∷ gs) (w ∷ ws) all =
    append d o g (following p gs) w (flat_map (λ v. (x ∷ []) ++ v) ws) all.0 (following_sends d o p x h gs ws all.1)

each_sends : {A : Type 0} (d : Database) (o : Option (List ℕ)) (f : A → List Piece) (g : A → List Lexeme) (xs : List A) → All (λ a. Sends d o (f a) (g a)) xs
    → AllZip (Sends d o) (map f xs) (map g xs)
each_sends d o f g [] h = tt
each_sends d o f g (x ∷ xs) h = (h 0 x (omega arith), each_sends d o f g xs (λ k e lt. h (suc k) e (omega (arith, lt))))

-- ---- words and signs

word_sends : (d : Database) (o : Option (List ℕ)) (w : List ℕ) → Stands w (lexemes.Word w) → is_word w (codes "E") ≡ false → is_word w (codes "X") ≡ false
    → is_word w (codes "_utf8mb4") ≡ false → Sends d o (word w ∷ []) (keyword w ∷ [])
word_sends d o w stands e x u = one d o (lexemes.Word w) stands (plain_word w e x u)

select_sends : (d : Database) (o : Option (List ℕ)) → Sends d o (word (codes "SELECT") ∷ []) (keyword (codes "SELECT") ∷ [])
unfolding is_word
select_sends d o = word_sends d o (codes "SELECT") (word_stands (codes "SELECT") refl) refl refl refl

distinct_sends : (d : Database) (o : Option (List ℕ)) → Sends d o (word (codes "DISTINCT") ∷ []) (keyword (codes "DISTINCT") ∷ [])
unfolding is_word
distinct_sends d o = word_sends d o (codes "DISTINCT") (word_stands (codes "DISTINCT") refl) refl refl refl

from_sends : (d : Database) (o : Option (List ℕ)) → Sends d o (word (codes "FROM") ∷ []) (keyword (codes "FROM") ∷ [])
unfolding is_word
from_sends d o = word_sends d o (codes "FROM") (word_stands (codes "FROM") refl) refl refl refl

where_sends : (d : Database) (o : Option (List ℕ)) → Sends d o (word (codes "WHERE") ∷ []) (keyword (codes "WHERE") ∷ [])
unfolding is_word
where_sends d o = word_sends d o (codes "WHERE") (word_stands (codes "WHERE") refl) refl refl refl

and_sends : (d : Database) (o : Option (List ℕ)) → Sends d o (word (codes "AND") ∷ []) (keyword (codes "AND") ∷ [])
unfolding is_word
and_sends d o = word_sends d o (codes "AND") (word_stands (codes "AND") refl) refl refl refl

union_sends : (d : Database) (o : Option (List ℕ)) → Sends d o (word (codes "UNION") ∷ []) (keyword (codes "UNION") ∷ [])
unfolding is_word
union_sends d o = word_sends d o (codes "UNION") (word_stands (codes "UNION") refl) refl refl refl

is_sends : (d : Database) (o : Option (List ℕ)) → Sends d o (word (codes "IS") ∷ []) (keyword (codes "IS") ∷ [])
unfolding is_word
is_sends d o = word_sends d o (codes "IS") (word_stands (codes "IS") refl) refl refl refl

not_sends : (d : Database) (o : Option (List ℕ)) → Sends d o (word (codes "NOT") ∷ []) (keyword (codes "NOT") ∷ [])
unfolding is_word
not_sends d o = word_sends d o (codes "NOT") (word_stands (codes "NOT") refl) refl refl refl

null_sends : (d : Database) (o : Option (List ℕ)) → Sends d o (word (codes "NULL") ∷ []) (keyword (codes "NULL") ∷ [])
unfolding is_word
null_sends d o = word_sends d o (codes "NULL") (word_stands (codes "NULL") refl) refl refl refl

sign_sends : (d : Database) (o : Option (List ℕ)) (s : Sign) → Stands (lexeme_text d (lexemes.Sign s)) (lexemes.Sign s) → is_sign Dot (lexemes.Sign s) ≡ false
    → Sends d o (sign s ∷ []) (lexemes.Sign s ∷ [])
sign_sends d o s stands undotted = one d o (lexemes.Sign s) stands (plain_sign s undotted)

comma_stands : Stands (44 ∷ []) (lexemes.Sign Comma)
comma_stands = record { spelled = refl; in_range = refl; found = λ rest ends. comma_found rest }

comma_sends : (d : Database) (o : Option (List ℕ)) → Sends d o (sign Comma ∷ []) (lexemes.Sign Comma ∷ [])
comma_sends d o = sign_sends d o Comma comma_stands refl

-- ---- what a source is called

source_word : (d : Database) (rest : List Lexeme) (place : ℕ) → form_said d (lexemes.Word (source_name place)) rest ≡ None
unfolding form_said is_word
source_word PostgreSql rest place = refl
source_word Sqlite rest place = refl
source_word MySql rest place = refl

called_sends : (d : Database) (o : Option (List ℕ)) (place : ℕ) → place < 2 ^ 64 → Sends d o (word (source_name place) ∷ []) (lexemes.Word (source_name place) ∷ [])
called_sends d o place small =
    one d o (lexemes.Word (source_name place)) (source_stands place small) (record { no_form = λ e rest. source_word e rest place; no_dot = refl })

-- ---- columns

word_kept : (o : Option (List ℕ)) (w : List ℕ) (rest : List Lexeme) → names_read o (lexemes.Word w ∷ rest) ≡ lexemes.Word w ∷ names_read o rest
unfolding without_namespace
word_kept None w rest = refl
word_kept (Some called) w rest = refl

sign_kept : (o : Option (List ℕ)) (s : Sign) (rest : List Lexeme) → names_read o (lexemes.Sign s ∷ rest) ≡ lexemes.Sign s ∷ names_read o rest
unfolding without_namespace
sign_kept None s rest = refl
sign_kept (Some called) s rest = refl

quoted_kept : (d : Database) (n : List ℕ) (rest : List Lexeme) → texts_read d plain (lexemes.Quoted n ∷ rest) ≡ lexemes.Quoted n ∷ texts_read d plain rest
quoted_kept d n rest = texts_kept d (lexemes.Quoted n) rest ((plain_quoted n).no_form d rest)

dot_kept : (d : Database) (rest : List Lexeme) → texts_read d plain (lexemes.Sign Dot ∷ rest) ≡ lexemes.Sign Dot ∷ texts_read d plain rest
dot_kept d rest = texts_kept d (lexemes.Sign Dot) rest (no_form_sign d Dot rest)

column_reads : (d : Database) (o : Option (List ℕ)) (place : ℕ) (n : List ℕ)
    → Reads d o (lexemes.Word (source_name place) ∷ lexemes.Sign Dot ∷ lexemes.Quoted n ∷ []) (lexemes.Word (source_name place) ∷ lexemes.Sign Dot ∷ lexemes.Quoted n ∷ [])
column_reads d o place n = record {
  mid = lexemes.Word (source_name place) ∷ lexemes.Sign Dot ∷ lexemes.Quoted n ∷ [];
  texts = λ rest. texts_kept d (lexemes.Word (source_name place)) (lexemes.Sign Dot ∷ lexemes.Quoted n ∷ rest) (source_word d _ place)
      ∙ ap (λ (xs : List Lexeme). lexemes.Word (source_name place) ∷ xs)
      (dot_kept d (lexemes.Quoted n ∷ rest) ∙ ap (λ (xs : List Lexeme). lexemes.Sign Dot ∷ xs) (quoted_kept d n rest));
  names = λ rest no. word_kept o (source_name place) (lexemes.Sign Dot ∷ lexemes.Quoted n ∷ rest)
      ∙ ap (λ (xs : List Lexeme). lexemes.Word (source_name place) ∷ xs)
      (sign_kept o Dot (lexemes.Quoted n ∷ rest) ∙ ap (λ (xs : List Lexeme). lexemes.Sign Dot ∷ xs) (name_kept o (lexemes.Quoted n) rest no));
  starts = λ rest no. refl;
}

column_sends : (d : Database) (o : Option (List ℕ)) (place : ℕ) (n : List ℕ) → place < 2 ^ 64 → are_name_bytes n ≡ true
    → Sends d o ((lexemes.Word (source_name place) ∷ lexemes.Sign Dot ∷ lexemes.Quoted n ∷ []) ∷ [])
    (lexemes.Word (source_name place) ∷ lexemes.Sign Dot ∷ lexemes.Quoted n ∷ [])
column_sends d o place n small h =
    let name : List ℕ = lexeme_text d (lexemes.Quoted n) in
    piece d o (lexemes.Word (source_name place) ∷ lexemes.Sign Dot ∷ lexemes.Quoted n ∷ []) (source_name place ++ 46 ∷ name) _
    (ap (λ (t : List ℕ). source_name place ++ 46 ∷ t) (append-nil name))
    (says_append (source_name place) (46 ∷ name) _ _ (says_token (source_name place) _ (source_stands place small))
    (says_dot name _ (says_token name _ (name_stands d n h))) (λ rest ends. refl))
    (column_reads d o place n)

-- ---- texts

escaped_reads : (o : Option (List ℕ)) (t : List ℕ) → Reads PostgreSql o (lexemes.Word (codes "E") ∷ lexemes.Text (slashed t) ∷ []) (lexemes.Text t ∷ [])
unfolding texts_read form_said is_word
escaped_reads o t = record {
  mid = lexemes.Text t ∷ [];
  texts = λ rest. ap (λ (u : List ℕ). lexemes.Text u ∷ texts_read PostgreSql plain rest) (unslashed_slashed t);
  names = λ rest no. name_kept o (lexemes.Text t) rest no;
  starts = λ rest no. refl;
}

digits_read : (rest : List Lexeme) (t : List ℕ)
    → texts_read MySql plain (lexemes.Word (codes "X") ∷ lexemes.Text (hex t) ∷ rest) ≡ lexemes.Text t ∷ texts_read MySql plain rest
unfolding texts_read form_said is_word
digits_read rest t = ap (λ (u : List ℕ). lexemes.Text u ∷ texts_read MySql plain rest) (unhex_hex t)

digits_reads : (o : Option (List ℕ)) (t : List ℕ) → Reads MySql o (hex_piece t) (lexemes.Text t ∷ [])
digits_reads o t = record {
  mid = lexemes.Text t ∷ [];
  texts = λ rest. digits_read rest t;
  names = λ rest no. name_kept o (lexemes.Text t) rest no;
  starts = λ rest no. refl;
}

named_digits_read : (rest : List Lexeme) (t : List ℕ)
    → texts_read MySql plain (lexemes.Word (codes "_utf8mb4") ∷ lexemes.Word (codes "X") ∷ lexemes.Text (hex t) ∷ rest)
    ≡ texts_read MySql plain (lexemes.Word (codes "X") ∷ lexemes.Text (hex t) ∷ rest)
unfolding texts_read form_said is_word
named_digits_read rest t = refl

named_digits_reads : (o : Option (List ℕ)) (t : List ℕ) → Reads MySql o (lexemes.Word (codes "_utf8mb4") ∷ hex_piece t) (lexemes.Text t ∷ [])
named_digits_reads o t = record {
  mid = lexemes.Text t ∷ [];
  texts = λ rest. named_digits_read rest t ∙ digits_read rest t;
  names = λ rest no. name_kept o (lexemes.Text t) rest no;
  starts = λ rest no. refl;
}

text_says : (t : List ℕ) → Says (39 ∷ (doubled t ++ 39 ∷ [])) (lexemes.Text t ∷ [])
text_says t = says_token (39 ∷ (doubled t ++ 39 ∷ [])) (lexemes.Text t) (text_stands t)

escaped_says : (t : List ℕ) → Says (69 ∷ 39 ∷ (doubled t ++ 39 ∷ [])) (lexemes.Word (codes "E") ∷ lexemes.Text t ∷ [])
escaped_says t = says_before (codes "E") (39 ∷ (doubled t ++ 39 ∷ [])) (lexemes.Word (codes "E")) _ (refl, refl) refl (λ rest. letter_e_found _) (text_says t)

digits_says : (t : List ℕ) → Says (88 ∷ 39 ∷ (doubled t ++ 39 ∷ [])) (lexemes.Word (codes "X") ∷ lexemes.Text t ∷ [])
digits_says t = says_before (codes "X") (39 ∷ (doubled t ++ 39 ∷ [])) (lexemes.Word (codes "X")) _ (refl, refl) refl (λ rest. letter_x_found _) (text_says t)

plain_sends : (d : Database) (o : Option (List ℕ)) (t : List ℕ) → Sends d o ((lexemes.Text t ∷ []) ∷ []) (lexemes.Text t ∷ [])
plain_sends d o t = one d o (lexemes.Text t) (text_stands t) (plain_text t)

escaped_sends : (o : Option (List ℕ)) (t : List ℕ) → Sends PostgreSql o ((lexemes.Word (codes "E") ∷ lexemes.Text (slashed t) ∷ []) ∷ []) (lexemes.Text t ∷ [])
escaped_sends o t =
    piece PostgreSql o (lexemes.Word (codes "E") ∷ lexemes.Text (slashed t) ∷ []) (69 ∷ 39 ∷ (doubled (slashed t) ++ 39 ∷ [])) (lexemes.Text t ∷ [])
    (ap (λ (u : List ℕ). 69 ∷ u) (append-nil (39 ∷ (doubled (slashed t) ++ 39 ∷ [])))) (escaped_says (slashed t)) (escaped_reads o t)

hex_is : (t : List ℕ) → piece_text MySql (hex_piece t) ≡ 88 ∷ 39 ∷ (doubled (hex t) ++ 39 ∷ [])
hex_is t = ap (λ (u : List ℕ). 88 ∷ u) (append-nil (39 ∷ (doubled (hex t) ++ 39 ∷ [])))

digits_sends : (o : Option (List ℕ)) (t : List ℕ) → Sends MySql o (hex_piece t ∷ []) (lexemes.Text t ∷ [])
digits_sends o t = piece MySql o (hex_piece t) (88 ∷ 39 ∷ (doubled (hex t) ++ 39 ∷ [])) (lexemes.Text t ∷ []) (hex_is t) (digits_says (hex t)) (digits_reads o t)

named_digits_sends : (o : Option (List ℕ)) (t : List ℕ) → Sends MySql o (word (codes "_utf8mb4") ∷ hex_piece t ∷ []) (lexemes.Text t ∷ [])
named_digits_sends o t = record {
  says = more_says MySql (word (codes "_utf8mb4")) (hex_piece t) (codes "_utf8mb4") (88 ∷ 39 ∷ (doubled (hex t) ++ 39 ∷ [])) refl (hex_is t)
      (says_token (codes "_utf8mb4") (lexemes.Word (codes "_utf8mb4")) (word_stands (codes "_utf8mb4") refl)) (digits_says (hex t));
  reads = named_digits_reads o t;
}

pub text_sends : (d : Database) (o : Option (List ℕ)) (exact : Bool) (t : List ℕ) → Sends d o (text_pieces d exact t) (lexemes.Text t ∷ [])
unfolding text_pieces
text_sends PostgreSql o exact t = by (has_backslash t)
  where
    by : (k : Bool) → Sends PostgreSql o (cond k ((lexemes.Word (codes "E") ∷ lexemes.Text (slashed t) ∷ []) ∷ []) ((lexemes.Text t ∷ []) ∷ [])) (lexemes.Text t ∷ [])
    by true = escaped_sends o t
    by false = plain_sends PostgreSql o t
text_sends Sqlite o exact t = plain_sends Sqlite o t
text_sends MySql o true t = digits_sends o t
text_sends MySql o false t = by (is_plain t)
  where
    by : (k : Bool) → Sends MySql o (cond k ((lexemes.Text t ∷ []) ∷ []) (word (codes "_utf8mb4") ∷ hex_piece t ∷ [])) (lexemes.Text t ∷ [])
    by true = plain_sends MySql o t
    by false = named_digits_sends o t

-- ---- operands

operand_sends : (d : Database) (o : Option (List ℕ)) (s : Schema) (f : List ℕ) (exact : Bool) (k : Kind) (x : Operand) → CanWrite s [] f x
    → kind_of s [] [] f x ≡ Some k → Sends d o (operand_pieces d s f exact x) (operand_words s [] f x)
unfolding operand_pieces value_pieces operand_words value_words
operand_sends d o s f exact k (Col place column) w e = column_sends d o place (column_name s f place column) w.0 w.1
operand_sends d o s f exact k (Val Null) w e = cc
operand_sends d o s f exact k (Val (Int n)) w e = one d o (lexemes.Number n) (number_stands n w) (plain_number n)
operand_sends d o s f exact k (Val (Text t)) w e = text_sends d o exact t
operand_sends d o s f exact k (Param n) w e = cc
operand_sends d o s f exact k (Var n) w e = cc

-- ---- atoms

right_sends : (d : Database) (o : Option (List ℕ)) → Sends d o (sign RightParen ∷ []) (lexemes.Sign RightParen ∷ [])
right_sends d o = sign_sends d o RightParen right_stands refl

-- a sign between two sides, and the bracket
by_sign : (d : Database) (o : Option (List ℕ)) (s : Sign) (ls rs : List Piece) (lw rw_ : List Lexeme) → Sends d o (sign s ∷ []) (lexemes.Sign s ∷ []) → Sends d o ls lw → Sends d o rs rw_
    → Sends d o (ls ++ sign s ∷ (rs ++ sign RightParen ∷ [])) ((lw ++ lexemes.Sign s ∷ rw_) ++ lexemes.Sign RightParen ∷ [])
by_sign d o s ls rs lw rw_ h l r =
    subst (Sends d o (ls ++ sign s ∷ (rs ++ sign RightParen ∷ []))) (sym (append_assoc lw (lexemes.Sign s ∷ rw_) (lexemes.Sign RightParen ∷ [])))
    (append d o ls (sign s ∷ (rs ++ sign RightParen ∷ [])) lw (lexemes.Sign s ∷ (rw_ ++ lexemes.Sign RightParen ∷ [])) l
    (append d o (sign s ∷ []) (rs ++ sign RightParen ∷ []) (lexemes.Sign s ∷ []) (rw_ ++ lexemes.Sign RightParen ∷ []) h
    (append d o rs (sign RightParen ∷ []) rw_ (lexemes.Sign RightParen ∷ []) r (right_sends d o))))

compared_sends : (d : Database) (o : Option (List ℕ)) (op : Op) (ls rs : List Piece) (lw rw_ : List Lexeme) → Sends d o ls lw → Sends d o rs rw_
    → Sends d o (ls ++ (sign_pieces op ++ (if_right op rs ++ sign RightParen ∷ []))) (compared_words op lw rw_ ++ lexemes.Sign RightParen ∷ [])
unfolding sign_pieces compared_words
compared_sends d o Eq ls rs lw rw_ l r = by_sign d o Equal ls rs lw rw_ (sign_sends d o Equal equal_stands refl) l r
compared_sends d o Ne ls rs lw rw_ l r = by_sign d o NotEqual ls rs lw rw_ (sign_sends d o NotEqual not_equal_stands refl) l r
compared_sends d o Lt ls rs lw rw_ l r = by_sign d o Less ls rs lw rw_ (sign_sends d o Less less_stands refl) l r
compared_sends d o Le ls rs lw rw_ l r = by_sign d o LessEqual ls rs lw rw_ (sign_sends d o LessEqual less_equal_stands refl) l r
compared_sends d o IsNull ls rs lw rw_ l r =
    subst (Sends d o (ls ++ word (codes "IS") ∷ word (codes "NULL") ∷ sign RightParen ∷ []))
    (sym (append_assoc lw (keyword (codes "IS") ∷ keyword (codes "NULL") ∷ []) (lexemes.Sign RightParen ∷ [])))
    (append d o ls _ lw (keyword (codes "IS") ∷ keyword (codes "NULL") ∷ lexemes.Sign RightParen ∷ []) l
    (append d o (word (codes "IS") ∷ []) _ _ _ (is_sends d o) (append d o (word (codes "NULL") ∷ []) _ _ _ (null_sends d o) (right_sends d o))))
compared_sends d o NotNull ls rs lw rw_ l r =
    subst (Sends d o (ls ++ word (codes "IS") ∷ word (codes "NOT") ∷ word (codes "NULL") ∷ sign RightParen ∷ []))
    (sym (append_assoc lw (keyword (codes "IS") ∷ keyword (codes "NOT") ∷ keyword (codes "NULL") ∷ []) (lexemes.Sign RightParen ∷ [])))
    (append d o ls _ lw (keyword (codes "IS") ∷ keyword (codes "NOT") ∷ keyword (codes "NULL") ∷ lexemes.Sign RightParen ∷ []) l
    (append d o (word (codes "IS") ∷ []) _ _ _ (is_sends d o)
    (append d o (word (codes "NOT") ∷ []) _ _ _ (not_sends d o) (append d o (word (codes "NULL") ∷ []) _ _ _ (null_sends d o) (right_sends d o)))))

atom_sends : (d : Database) (o : Option (List ℕ)) (s : Schema) (f : List ℕ) (atom : Atom) → CanWriteAtom s [] f atom → AtomFits s [] [] f atom
    → Sends d o (atom_pieces d s f atom) (bracketed s f atom)
unfolding atom_pieces atom_words
atom_sends d o s f atom w fits =
    append d o (sign LeftParen ∷ []) _ (lexemes.Sign LeftParen ∷ []) _ (sign_sends d o LeftParen left_stands refl)
    (compared_sends d o atom.op _ _ _ _ (operand_sends d o s f (is_exact atom) fits.kind atom.left w.left fits.left_is)
    (operand_sends d o s f (is_exact atom) fits.kind atom.right w.right fits.right_is))

-- ---- sources

bytes_same : (n : List ℕ) → bytes_eq n n ≡ true
bytes_same [] = refl
bytes_same (b ∷ bs) = rw (eq-eqb b b refl) (bytes_same bs)

-- the name of the namespace can stand in quotes, if there is one
abbrev pub CanQualify : Option (List ℕ) → Type 0
CanQualify None = Unit {0}
CanQualify (Some namespace) = are_name_bytes namespace ≡ true

qualified_reads : (d : Database) (m n : List ℕ) → Reads d (Some m) (lexemes.Quoted m ∷ lexemes.Sign Dot ∷ lexemes.Quoted n ∷ []) (lexemes.Quoted n ∷ [])
unfolding without_namespace
qualified_reads d m n = record {
  mid = lexemes.Quoted m ∷ lexemes.Sign Dot ∷ lexemes.Quoted n ∷ [];
  texts = λ rest. quoted_kept d m (lexemes.Sign Dot ∷ lexemes.Quoted n ∷ rest)
      ∙ ap (λ (xs : List Lexeme). lexemes.Quoted m ∷ xs)
      (dot_kept d (lexemes.Quoted n ∷ rest) ∙ ap (λ (xs : List Lexeme). lexemes.Sign Dot ∷ xs) (quoted_kept d n rest));
  names = λ rest no. rw (bytes_same m) (name_kept (Some m) (lexemes.Quoted n) rest no);
  starts = λ rest no. refl;
}

qualified_sends : (d : Database) (m n : List ℕ) → are_name_bytes m ≡ true → are_name_bytes n ≡ true
    → Sends d (Some m) ((lexemes.Quoted m ∷ lexemes.Sign Dot ∷ lexemes.Quoted n ∷ []) ∷ []) (lexemes.Quoted n ∷ [])
qualified_sends d m n hm hn =
    let outer : List ℕ = lexeme_text d (lexemes.Quoted m) in
    let name : List ℕ = lexeme_text d (lexemes.Quoted n) in
    piece d (Some m) (lexemes.Quoted m ∷ lexemes.Sign Dot ∷ lexemes.Quoted n ∷ []) (outer ++ 46 ∷ name) _
    (ap (λ (t : List ℕ). outer ++ 46 ∷ t) (append-nil name))
    (says_append outer (46 ∷ name) _ _ (says_token outer _ (name_stands d m hm)) (says_dot name _ (says_token name _ (name_stands d n hn))) (λ rest ends. refl))
    (qualified_reads d m n)

table_sends : (d : Database) (o : Option (List ℕ)) (n : List ℕ) → CanQualify o → are_name_bytes n ≡ true → Sends d o (table_in o n ∷ []) (lexemes.Quoted n ∷ [])
table_sends d None n h hn = one d None (lexemes.Quoted n) (name_stands d n hn) (plain_quoted n)
table_sends d (Some m) n h hn = qualified_sends d m n h hn

source_sends : (target : Target) (s : Schema) (place table : ℕ) → CanQualify target.namespace → place < 2 ^ 64 → are_name_bytes (table_name s table) ≡ true
    → Sends target.database target.namespace (source_pieces target s place table) (source_words s place table)
unfolding source_pieces source_words
source_sends target s place table can small h =
    append target.database target.namespace (table_in target.namespace (table_name s table) ∷ []) (word (source_name place) ∷ []) _ _
    (table_sends target.database target.namespace (table_name s table) can h) (called_sends target.database target.namespace place small)

sources_send : (target : Target) (s : Schema) (place : ℕ) (from : List ℕ) → CanQualify target.namespace → place + length from < 2 ^ 64
    → All (λ t. are_name_bytes (table_name s t) ≡ true) from
    → AllZip (Sends target.database target.namespace) (sources_from target s place from) (source_words_from s place from)
sources_send target s place [] can small h = tt
sources_send target s place (t ∷ ts) can small h = (
  source_sends target s place t can (omega (arith, small)) (h 0 t (omega arith)),
  sources_send target s (suc place) ts can (omega (arith, small)) (λ k d lt. h (suc k) d (omega (arith, lt))),
)

-- ---- parts

distinct_send : (d : Database) (o : Option (List ℕ)) (several : Bool) → Sends d o (distinct_pieces several) (distinct_words several)
distinct_send d o false = distinct_sends d o
distinct_send d o true = nothing d o

where_send : (d : Database) (o : Option (List ℕ)) (s : Schema) (f : List ℕ) (atoms : List Atom) → All (λ a. Sends d o (atom_pieces d s f a) (bracketed s f a)) atoms
    → Sends d o (where_pieces d s f atoms) (where_in_brackets s f atoms)
unfolding where_pieces where_in_brackets
where_send d o s f [] h = nothing d o
where_send d o s f (a ∷ more) h =
    append d o (word (codes "WHERE") ∷ []) _ (keyword (codes "WHERE") ∷ []) _ (where_sends d o)
    (joined_sends d o (word (codes "AND")) (keyword (codes "AND")) (and_sends d o) (map (atom_pieces d s f) (a ∷ more)) (map (bracketed s f) (a ∷ more))
    (each_sends d o (atom_pieces d s f) (bracketed s f) (a ∷ more) h))

pub selected_sends : (target : Target) (s : Schema) (several : Bool) (part : Part) → CanQualify target.namespace → CanReadPart s [] part
    → Sends target.database target.namespace (selected_pieces target s several part) (selected_words s several part)
unfolding selected_pieces selected_words heads_pieces heads_words from_pieces from_words
selected_sends target s several part can h =
    let d : Database = target.database in
    let o : Option (List ℕ) = target.namespace in
    let kinds = head_kind s [] part.from part.head h.kinds h.fits.head in
    let heads = joined_sends d o (sign Comma) (lexemes.Sign Comma) (comma_sends d o) (map (operand_pieces d s part.from several) part.head)
    (map (operand_words s [] part.from) part.head)
    (each_sends d o (operand_pieces d s part.from several) (operand_words s [] part.from) part.head
    (λ k e lt. operand_sends d o s part.from several (kinds k e lt).0 _ (h.writes.head k e lt) (kinds k e lt).1)) in
    let sources = joined_sends d o (sign Comma) (lexemes.Sign Comma) (comma_sends d o) (sources_from target s 0 part.from) (source_words_from s 0 part.from)
    (sources_send target s 0 part.from can (omega (arith, h.writes.few)) h.writes.tables) in
    let condition = where_send d o s part.from part.conds (λ k e lt. atom_sends d o s part.from _ (h.writes.conds k e lt) (h.fits.conds k e lt)) in
    append d o (distinct_pieces several) _ (distinct_words several) _ (distinct_send d o several)
    (append d o _ _ _ _ heads
    (append d o (word (codes "FROM") ∷ []) _ (keyword (codes "FROM") ∷ []) _ (from_sends d o) (append d o _ _ _ _ sources condition)))

part_sends : (target : Target) (s : Schema) (several : Bool) (part : Part) → CanQualify target.namespace → CanReadPart s [] part
    → Sends target.database target.namespace (part_pieces target s several part) (select_words s several part)
part_sends target s several part can h =
    append target.database target.namespace (word (codes "SELECT") ∷ []) _ (keyword (codes "SELECT") ∷ []) _ (select_sends target.database target.namespace)
    (selected_sends target s several part can h)

-- ---- behind the first word

pub next_sends : (target : Target) (s : Schema) (several : Bool) (parts : List Part) → CanQualify target.namespace → All (CanReadPart s []) parts
    → Sends target.database target.namespace (following (word (codes "UNION")) (map (part_pieces target s several) parts))
    (flat_map (λ w. (keyword (codes "UNION") ∷ []) ++ w) (map (select_words s several) parts))
next_sends target s several parts can h =
    let d : Database = target.database in
    let o : Option (List ℕ) = target.namespace in
    following_sends d o (word (codes "UNION")) (keyword (codes "UNION")) (union_sends d o) (map (part_pieces target s several) parts) (map (select_words s several) parts)
    (each_sends d o (part_pieces target s several) (select_words s several) parts (λ k e lt. part_sends target s several _ can (h k e lt)))
