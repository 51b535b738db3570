-- What pieces are as text.
use Rattle.std.proofs.Common.{◌≡◌, ℕ, ℤ, List, [], ◌∷◌, ◌++◌, Option, codes, refl, sym, ap, ◌∙◌, append-nil}
use Rattle.std.specs.Fmt.{signed_decimal}
use Rattle.ba_lex.specs.Spelling.{doubled}
use Rattle.ba_lex.specs.declared.token.Lexeme.TheVariants as lexemes
use Rattle.ba_lex.specs.declared.token.Sign.TheVariants.{LeftParen, RightParen, Comma, Dot}
use Rattle.ba_model.specs.declared.schema.Schema.{Schema}
use Rattle.ba_sql_print.specs.Printed.{column_name, source_name}
use Rattle.ba_target.specs.declared.target.Database.{Database}
use Rattle.ba_send.specs.Sent.{Piece, column_piece, hex_piece, lexeme_text, piece_text, pieces_text, sign, table_in, word}
use Rattle.ba_send.specs.Texts.{hex}
use Rattle.ba_send.proofs.FormLemmas.{doubled_hex}
use Rattle.ba_send.proofs.GrowLemmas.{grows_two, text_one}

pub comma_text : (d : Database) → pieces_text d (sign Comma ∷ []) ≡ codes " ,"
unfolding pieces_text
comma_text d = refl

pub left_text : (d : Database) → pieces_text d (sign LeftParen ∷ []) ≡ codes " ("
unfolding pieces_text
left_text d = refl

pub right_text : (d : Database) → pieces_text d (sign RightParen ∷ []) ≡ codes " )"
unfolding pieces_text
right_text d = refl

pub and_text : (d : Database) → pieces_text d (word (codes "AND") ∷ []) ≡ codes " AND"
unfolding pieces_text
and_text d = refl

pub where_text : (d : Database) → pieces_text d (word (codes "WHERE") ∷ []) ≡ codes " WHERE"
unfolding pieces_text
where_text d = refl

pub from_text : (d : Database) → pieces_text d (word (codes "FROM") ∷ []) ≡ codes " FROM"
unfolding pieces_text
from_text d = refl

pub select_text : (d : Database) → pieces_text d (word (codes "SELECT") ∷ []) ≡ codes " SELECT"
unfolding pieces_text
select_text d = refl

pub union_text : (d : Database) → pieces_text d (word (codes "UNION") ∷ []) ≡ codes " UNION"
unfolding pieces_text
union_text d = refl

pub charset_text : (d : Database) → pieces_text d (word (codes "_utf8mb4") ∷ []) ≡ codes " _utf8mb4"
unfolding pieces_text
charset_text d = refl

pub distinct_text : (d : Database) → pieces_text d (word (codes "DISTINCT") ∷ []) ≡ codes " DISTINCT"
unfolding pieces_text
distinct_text d = refl

pub null_text : (d : Database) → pieces_text d (word (codes "NULL") ∷ []) ≡ codes " NULL"
unfolding pieces_text
null_text d = refl

pub number_text : (d : Database) (n : ℤ) → pieces_text d ((lexemes.Number n ∷ []) ∷ []) ≡ codes " " ++ signed_decimal n
number_text d n = text_one d (lexemes.Number n ∷ []) ∙ ap (λ (t : List ℕ). 32 ∷ t) (append-nil (signed_decimal n))

pub called_text : (d : Database) (place : ℕ) → pieces_text d (word (source_name place) ∷ []) ≡ codes " " ++ source_name place
called_text d place = text_one d (word (source_name place)) ∙ ap (λ (t : List ℕ). 32 ∷ t) (append-nil (source_name place))

pub quoted_text : (d : Database) (t : List ℕ) → pieces_text d ((lexemes.Text t ∷ []) ∷ []) ≡ codes " '" ++ (doubled t ++ codes "'")
quoted_text d t = text_one d (lexemes.Text t ∷ []) ∙ ap (λ (u : List ℕ). 32 ∷ u) (append-nil (39 ∷ (doubled t ++ 39 ∷ [])))

pub escaped_text : (d : Database) (t : List ℕ)
    → pieces_text d ((lexemes.Word (codes "E") ∷ lexemes.Text t ∷ []) ∷ []) ≡ codes " E'" ++ (doubled t ++ codes "'")
escaped_text d t =
    text_one d (lexemes.Word (codes "E") ∷ lexemes.Text t ∷ []) ∙ ap (λ (u : List ℕ). 32 ∷ 69 ∷ u) (append-nil (39 ∷ (doubled t ++ 39 ∷ [])))

pub digits_text : (d : Database) (t : List ℕ) → pieces_text d (hex_piece t ∷ []) ≡ codes " X'" ++ (hex t ++ codes "'")
digits_text d t =
    text_one d (hex_piece t) ∙ ap (λ (u : List ℕ). 32 ∷ 88 ∷ u) (append-nil (39 ∷ (doubled (hex t) ++ 39 ∷ [])))
    ∙ ap (λ (u : List ℕ). 32 ∷ 88 ∷ 39 ∷ (u ++ 39 ∷ [])) (doubled_hex t)

pub table_text : (d : Database) (o : Option (List ℕ)) (n : List ℕ) → pieces_text d (table_in o n ∷ []) ≡ codes " " ++ piece_text d (table_in o n)
table_text d o n = text_one d (table_in o n)

pub one_name : (d : Database) (n : List ℕ) → piece_text d (lexemes.Quoted n ∷ []) ≡ lexeme_text d (lexemes.Quoted n)
one_name d n = append-nil (lexeme_text d (lexemes.Quoted n))

pub two_names : (d : Database) (m n : List ℕ)
    → piece_text d (lexemes.Quoted m ∷ lexemes.Sign Dot ∷ lexemes.Quoted n ∷ [])
    ≡ lexeme_text d (lexemes.Quoted m) ++ (codes "." ++ lexeme_text d (lexemes.Quoted n))
two_names d m n = ap (λ (t : List ℕ). lexeme_text d (lexemes.Quoted m) ++ 46 ∷ t) (append-nil (lexeme_text d (lexemes.Quoted n)))

pub column_text : (d : Database) (s : Schema) (from : List ℕ) (place column : ℕ)
    → pieces_text d (column_piece s from place column ∷ [])
    ≡ (codes " " ++ source_name place) ++ (codes "." ++ lexeme_text d (lexemes.Quoted (column_name s from place column)))
column_text d s from place column =
    text_one d (column_piece s from place column)
    ∙ ap (λ (t : List ℕ). 32 ∷ (source_name place ++ 46 ∷ t)) (append-nil (lexeme_text d (lexemes.Quoted (column_name s from place column))))

-- SELECT, and what follows it
pub select_more : (d : Database) (o a b : List ℕ) (ps : List Piece) → a ≡ o ++ codes " SELECT" → b ≡ a ++ pieces_text d ps
    → b ≡ o ++ pieces_text d (word (codes "SELECT") ∷ ps)
select_more d o a b ps e f = grows_two d o a b (word (codes "SELECT") ∷ []) ps (e ∙ ap (λ (t : List ℕ). o ++ t) (sym (select_text d))) f
