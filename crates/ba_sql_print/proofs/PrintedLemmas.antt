-- The text of a query is spelled by its words.
use Rattle.std.proofs.Common.{◌≡◌, ℕ, suc, ◌+◌, ◌<◌, ◌^◌, true, List, [], ◌∷◌, ◌++◌, length, map, codes, refl, sym, subst, arith, append_assoc, append-nil}
use Rattle.std.specs.List.{All, AllZip, flat_map}
use Rattle.std.proofs.lemmas.Bool.{ne_eqb}
use Rattle.ba_lex.specs.Spelling.{are_name_bytes, are_word_bytes, fits}
use Rattle.ba_lex.specs.declared.token.Lexeme.{Lexeme}
use Rattle.ba_lex.specs.declared.token.Lexeme.TheVariants as lexemes
use Rattle.ba_lex.specs.declared.token.Sign.TheVariants.{Comma}
use Rattle.ba_model.specs.declared.policy.Parameter.{Parameter}
use Rattle.ba_model.specs.declared.query.Atom.{Atom}
use Rattle.ba_model.specs.declared.query.Op.{Op}
use Rattle.ba_model.specs.declared.query.Op.TheVariants.{Eq, Ne, Lt, Le, IsNull, NotNull}
use Rattle.ba_model.specs.declared.query.Operand.{Operand}
use Rattle.ba_model.specs.declared.query.Operand.TheVariants.{Col, Val, Param, Var}
use Rattle.ba_model.specs.declared.query.Part.{Part}
use Rattle.ba_model.specs.declared.query.Query.{Query}
use Rattle.ba_model.specs.declared.schema.Schema.{Schema}
use Rattle.ba_model.specs.declared.value.Value.TheVariants.{Null, Int, Text}
use Rattle.ba_sql_print.specs.Printed.{atom_text, column_name, compared_text, conditions_text, from_text, heads_text, joined, operand_text, param_name, part_text, query_text, quoted, source_name, source_text, sources_from, table_name, value_text, where_text}
use Rattle.ba_sql_print.specs.Words.{atom_words, compared_words, from_words, heads_words, joined_words, keyword, operand_words, part_words, query_words, source_words, source_words_from, value_words, where_words}
use Rattle.ba_sql_print.proofs.ListLemmas.{name_first}
use Rattle.ba_sql_print.proofs.SpellsLemmas.{Spells, Stands, append}
use Rattle.ba_sql_print.proofs.SpellsLemmas.Spells.{blank, comma, dot, next, nothing}
use Rattle.ba_sql_print.proofs.StandsLemmas.{equal_stands, less_equal_stands, less_stands, not_equal_stands, number_stands, param_stands, quoted_stands, source_stands, text_stands, word_stands}
use Rattle.ba_sql_print.proofs.TokenLemmas.{Breaks}

-- ---- lists

-- a text between two others that is one word
pub record Separates (between : List ℕ) (x : Lexeme) : Type 0 where
  pub breaks : (bs : List ℕ) → Breaks (between ++ bs)
  pub spells : {bs : List ℕ} {xs : List Lexeme} → Spells bs xs → Spells (between ++ bs) (x ∷ xs)

pub record Following (bs : List ℕ) (xs : List Lexeme) : Type 0 where
  pub spells : Spells bs xs
  pub breaks : Breaks bs

following : (between : List ℕ) (x : Lexeme) → Separates between x → (texts : List (List ℕ)) (groups : List (List Lexeme)) → AllZip Spells texts groups
    → Following (flat_map (λ t. between ++ t) texts) (flat_map (λ g. (x ∷ []) ++ g) groups)
following between x by [] [] h = record { spells = nothing; breaks = tt }
following between x by [] (g ∷ gs) h = absurd h
following between x by (t ∷ ts) [] h = absurd h
following between x by (t ∷ ts) (g ∷ gs) h =
    let more = following between x by ts gs h.1 in
    let rest : List ℕ = flat_map (λ u. between ++ u) ts in
    subst (λ (bs : List ℕ). Following bs (x ∷ (g ++ flat_map (λ k. (x ∷ []) ++ k) gs))) (sym (append_assoc between t rest))
    (record { spells = by.spells (append h.0 more.spells more.breaks); breaks = by.breaks (t ++ rest) })

joined_spells : (between : List ℕ) (x : Lexeme) → Separates between x → (texts : List (List ℕ)) (groups : List (List Lexeme)) → AllZip Spells texts groups
    → Spells (joined between texts) (joined_words x groups)
joined_spells between x by [] [] h = nothing
joined_spells between x by [] (g ∷ gs) h = absurd h
joined_spells between x by (t ∷ ts) [] h = absurd h
joined_spells between x by (t ∷ ts) (g ∷ gs) h = let more = following between x by ts gs h.1 in append h.0 more.spells more.breaks

each_spells : {A : Type 0} (f : A → List ℕ) (g : A → List Lexeme) (xs : List A) → All (λ a. Spells (f a) (g a)) xs → AllZip Spells (map f xs) (map g xs)
each_spells f g [] h = tt
each_spells f g (x ∷ xs) h = (h 0 x (omega arith), each_spells f g xs (λ k d lt. h (suc k) d (omega (arith, lt))))

joined_each : {A : Type 0} (between : List ℕ) (x : Lexeme) → Separates between x → (f : A → List ℕ) (g : A → List Lexeme) (xs : List A)
    → All (λ a. Spells (f a) (g a)) xs
    → Spells (joined between (map f xs)) (joined_words x (map g xs))
joined_each between x by f g xs h = joined_spells between x by (map f xs) (map g xs) (each_spells f g xs h)

comma_separates : Separates (codes ", ") (lexemes.Sign Comma)
comma_separates = record { breaks = λ bs. refl; spells = λ h. comma (blank h) }

and_separates : Separates (codes " AND ") (keyword (codes "AND"))
and_separates = record {
  breaks = λ bs. refl;
  spells = λ {bs} h. blank
      (next (codes "AND") (32 ∷ bs) (keyword (codes "AND")) (word_stands (codes "AND") refl) refl refl (blank h));
}

from_separates : Separates (codes " FROM ") (keyword (codes "FROM"))
from_separates = record {
  breaks = λ bs. refl;
  spells = λ {bs} h. blank
      (next (codes "FROM") (32 ∷ bs) (keyword (codes "FROM")) (word_stands (codes "FROM") refl) refl refl (blank h));
}

where_separates : Separates (codes " WHERE ") (keyword (codes "WHERE"))
where_separates = record {
  breaks = λ bs. refl;
  spells = λ {bs} h. blank
      (next (codes "WHERE") (32 ∷ bs) (keyword (codes "WHERE")) (word_stands (codes "WHERE") refl) refl refl (blank h));
}

union_separates : Separates (codes " UNION ") (keyword (codes "UNION"))
union_separates = record {
  breaks = λ bs. refl;
  spells = λ {bs} h. blank
      (next (codes "UNION") (32 ∷ bs) (keyword (codes "UNION")) (word_stands (codes "UNION") refl) refl refl (blank h));
}

select_first : (bs : List ℕ) (xs : List Lexeme) → Spells bs xs → Spells (codes "SELECT " ++ bs) (keyword (codes "SELECT") ∷ xs)
select_first bs xs h = next (codes "SELECT") (32 ∷ bs) (keyword (codes "SELECT")) (word_stands (codes "SELECT") refl) refl refl (blank h)

-- ---- operands

alone : (s : List ℕ) (x : Lexeme) → Stands s x → Spells s (x ∷ [])
alone s x h = next s [] x h tt (sym (append-nil s)) nothing

-- what can be written
abbrev pub CanWrite : Schema → List Parameter → List ℕ → Operand → Type 0
CanWrite s p f (Col place column) = (place < 2 ^ 64) × (are_name_bytes (column_name s f place column) ≡ true)
CanWrite s p f (Val Null) = Unit {0}
CanWrite s p f (Val (Int n)) = fits n ≡ true
CanWrite s p f (Val (Text t)) = Unit {0}
CanWrite s p f (Param n) = are_word_bytes (param_name p n) ≡ true
CanWrite s p f (Var n) = Unit {0}

pub operand_spells : (s : Schema) (p : List Parameter) (f : List ℕ) (x : Operand) → CanWrite s p f x → Spells (operand_text s p f x) (operand_words s p f x)
unfolding operand_text operand_words value_text value_words
operand_spells s p f (Col place column) h =
    next (source_name place) (46 ∷ quoted (column_name s f place column)) (lexemes.Word (source_name place)) (source_stands place h.0) refl refl
    (dot (alone (quoted (column_name s f place column)) (lexemes.Quoted (column_name s f place column)) (quoted_stands (column_name s f place column) h.1)))
operand_spells s p f (Val Null) h = alone (codes "NULL") (keyword (codes "NULL")) (word_stands (codes "NULL") refl)
operand_spells s p f (Val (Int n)) h = alone _ (lexemes.Number n) (number_stands n h)
operand_spells s p f (Val (Text t)) h = alone _ (lexemes.Text t) (text_stands t)
operand_spells s p f (Param n) h = alone _ (lexemes.Param (param_name p n)) (param_stands (param_name p n) h)
operand_spells s p f (Var n) h = nothing

sign_between : (left right s : List ℕ) (xs ys : List Lexeme) (x : Lexeme) → Stands s x → Spells left xs → Spells right ys
    → Spells (left ++ 32 ∷ (s ++ 32 ∷ right)) (xs ++ x ∷ ys)
sign_between left right s xs ys x h l r = append l (blank (next s (32 ∷ right) x h refl refl (blank r))) refl

null_words : Spells (codes " IS NULL") (keyword (codes "IS") ∷ keyword (codes "NULL") ∷ [])
null_words = blank (next (codes "IS") (codes " NULL") (keyword (codes "IS")) (word_stands (codes "IS") refl) refl refl
    (blank (alone (codes "NULL") (keyword (codes "NULL")) (word_stands (codes "NULL") refl))))

not_null_words : Spells (codes " IS NOT NULL") (keyword (codes "IS") ∷ keyword (codes "NOT") ∷ keyword (codes "NULL") ∷ [])
not_null_words =
    blank (next (codes "IS") (codes " NOT NULL") (keyword (codes "IS")) (word_stands (codes "IS") refl) refl refl
    (blank (next (codes "NOT") (codes " NULL") (keyword (codes "NOT")) (word_stands (codes "NOT") refl) refl refl
    (blank (alone (codes "NULL") (keyword (codes "NULL")) (word_stands (codes "NULL") refl))))))

compared_spells : (op : Op) (left right : List ℕ) (xs ys : List Lexeme) → Spells left xs → Spells right ys
    → Spells (compared_text op left right) (compared_words op xs ys)
unfolding compared_text compared_words
compared_spells Eq left right xs ys l r = sign_between left right (61 ∷ []) xs ys _ equal_stands l r
compared_spells Ne left right xs ys l r = sign_between left right (60 ∷ 62 ∷ []) xs ys _ not_equal_stands l r
compared_spells Lt left right xs ys l r = sign_between left right (60 ∷ []) xs ys _ less_stands l r
compared_spells Le left right xs ys l r = sign_between left right (60 ∷ 61 ∷ []) xs ys _ less_equal_stands l r
compared_spells IsNull left right xs ys l r = append l null_words refl
compared_spells NotNull left right xs ys l r = append l not_null_words refl

pub record CanWriteAtom (s : Schema) (p : List Parameter) (f : List ℕ) (atom : Atom) : Type 0 where
  pub left : CanWrite s p f atom.left
  pub right : CanWrite s p f atom.right

atom_spells : (s : Schema) (p : List Parameter) (f : List ℕ) (atom : Atom) → CanWriteAtom s p f atom → Spells (atom_text s p f atom) (atom_words s p f atom)
unfolding atom_text atom_words
atom_spells s p f atom h = compared_spells atom.op _ _ _ _ (operand_spells s p f atom.left h.left) (operand_spells s p f atom.right h.right)

-- ---- parts

source_spells : (s : Schema) (place table : ℕ) → place < 2 ^ 64 → are_name_bytes (table_name s table) ≡ true
    → Spells (source_text s place table) (source_words s place table)
unfolding source_text source_words
source_spells s place table small h =
    next (quoted (table_name s table)) (32 ∷ source_name place) (lexemes.Quoted (table_name s table)) (quoted_stands (table_name s table) h) refl
    (name_first (table_name s table) (32 ∷ source_name place))
    (blank (alone (source_name place) (lexemes.Word (source_name place)) (source_stands place small)))

sources_spell : (s : Schema) (place : ℕ) (from : List ℕ) → place + length from < 2 ^ 64 → All (λ t. are_name_bytes (table_name s t) ≡ true) from
    → AllZip Spells (sources_from s place from) (source_words_from s place from)
sources_spell s place [] small h = tt
sources_spell s place (t ∷ ts) small h = (
  source_spells s place t (omega (arith, small)) (h 0 t (omega arith)),
  sources_spell s (suc place) ts
      (omega (arith, small)) (λ k d lt. h (suc k) d (omega (arith, lt))),
)

pub record CanWritePart (s : Schema) (p : List Parameter) (part : Part) : Type 0 where
  pub few : length part.from < 2 ^ 64
  pub tables : All (λ t. are_name_bytes (table_name s t) ≡ true) part.from
  pub conds : All (CanWriteAtom s p part.from) part.conds
  pub head : All (CanWrite s p part.from) part.head

where_some : (s : Schema) (p : List Parameter) (f : List ℕ) (a : Atom) (more : List Atom)
    → where_text s p f (a ∷ more) ≡ codes " WHERE " ++ joined (codes " AND ") (map (atom_text s p f) (a ∷ more))
unfolding where_text conditions_text
where_some s p f a more = rw (ne_eqb (suc (length more)) 0 (λ e. absurd (omega (arith, e)))) refl

where_following : (s : Schema) (p : List Parameter) (f : List ℕ) (atoms : List Atom) → All (CanWriteAtom s p f) atoms
    → Following (where_text s p f atoms) (where_words s p f atoms)
unfolding where_text where_words
where_following s p f [] h = record { spells = nothing; breaks = tt }
where_following s p f (a ∷ more) h =
    let words : List Lexeme = joined_words (keyword (codes "AND")) (map (atom_words s p f) (a ∷ more)) in
    let spelled : Spells (joined (codes " AND ") (map (atom_text s p f) (a ∷ more))) words = joined_each (codes " AND ") (keyword (codes "AND")) and_separates
    (atom_text s p f) (atom_words s p f) (a ∷ more) (λ k d lt. atom_spells s p f _ (h k d lt)) in
    subst (λ (bs : List ℕ). Following bs (keyword (codes "WHERE") ∷ words)) (sym (where_some s p f a more))
    (record { spells = where_separates.spells spelled; breaks = refl })

pub part_spells : (s : Schema) (p : List Parameter) (part : Part) → CanWritePart s p part → Spells (part_text s p part) (part_words s p part)
unfolding part_text part_words heads_text heads_words from_text from_words
part_spells s p part h =
    let heads = joined_each (codes ", ") (lexemes.Sign Comma) comma_separates (operand_text s p part.from) (operand_words s p part.from) part.head
    (λ k d lt. operand_spells s p part.from _ (h.head k d lt)) in
    let sources = joined_spells (codes ", ") (lexemes.Sign Comma) comma_separates (sources_from s 0 part.from) (source_words_from s 0 part.from)
    (sources_spell s 0 part.from (omega (arith, h.few)) h.tables) in
    let condition = where_following s p part.from part.conds h.conds in
    select_first _ _ (append heads (from_separates.spells (append sources condition.spells condition.breaks)) refl)

pub query_spells : (s : Schema) (p : List Parameter) (query : Query) → All (CanWritePart s p) query.parts
    → Spells (query_text s p query) (query_words s p query)
unfolding query_text query_words
query_spells s p query h =
    joined_each (codes " UNION ") (keyword (codes "UNION")) union_separates (part_text s p) (part_words s p) query.parts (λ k d lt. part_spells s p _ (h k d lt))
