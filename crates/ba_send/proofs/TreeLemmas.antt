-- The words of a sent query are of the grammar, and spell its written form: neither DISTINCT nor
-- brackets show in it.
use Rattle.std.proofs.Common.{◌≡◌, ◌≢◌, ℕ, suc, ◌+◌, ◌<◌, ◌^◌, Bool, true, false, eqb, nat_le, List, [], ◌∷◌, ◌++◌, length, map, codes, Option, Some, None, refl, sym, ap, subst, ◌∙◌, arith, append_assoc, append-nil}
use Rattle.std.specs.Char.{to_ascii_lowercase}
use Rattle.std.specs.Fmt.{decimal}
use Rattle.std.specs.List.{All, AllZip, flat_map, list_all}
use Rattle.std.proofs.lemmas.Bool.{and_parts, leb-true, lt-ltb, ne_eqb}
use Rattle.std.proofs.lemmas.List.{map-append}
use Rattle.ba_lex.specs.Spelling.{are_digits, is_digit}
use Rattle.ba_lex.specs.Word.{is_word}
use Rattle.ba_lex.specs.declared.token.Lexeme.{Lexeme}
use Rattle.ba_lex.specs.declared.token.Lexeme.TheVariants as lexemes
use Rattle.ba_lex.specs.declared.token.Sign.{Sign}
use Rattle.ba_lex.specs.declared.token.Sign.TheVariants.{LeftParen, RightParen, Comma, Dot, Equal, NotEqual, Less, LessEqual}
use Rattle.ba_grammar.specs.Items.{is_among}
use Rattle.ba_model.specs.Fit.{AtomFits, kind_of}
use Rattle.ba_model.specs.declared.schema.Kind.{Kind}
use Rattle.ba_model.specs.declared.query.Atom.{Atom}
use Rattle.ba_model.specs.declared.query.Op.{Op}
use Rattle.ba_model.specs.declared.query.Op.TheVariants.{Eq, Ne, Lt, Le, IsNull, NotNull}
use Rattle.ba_model.specs.declared.query.Operand.{Operand}
use Rattle.ba_model.specs.declared.query.Operand.TheVariants.{Col, Val, Param, Var}
use Rattle.ba_model.specs.declared.query.Part.{Part}
use Rattle.ba_model.specs.declared.query.Query.{Query}
use Rattle.ba_model.specs.declared.schema.Schema.{Schema}
use Rattle.ba_model.specs.declared.value.Value.TheVariants.{Null, Int, Text}
use Rattle.ba_sql_syntax.specs.Grammar.{AreSelects, AreSources, Cond, IsConj, IsDistinct, IsItem, IsListed, IsPrim, IsQueryText, IsSelect, IsSide, IsSource, IsTest, IsWhere, both, comparison, test}
use Rattle.ba_sql_syntax.specs.Grammar.AreSelects.{first as first_select, union}
use Rattle.ba_sql_syntax.specs.Grammar.AreSources.{first as first_source, comma}
use Rattle.ba_sql_syntax.specs.Grammar.IsAlias.{none as no_alias, plain as plain_alias}
use Rattle.ba_sql_syntax.specs.Grammar.IsCond.{conj}
use Rattle.ba_sql_syntax.specs.Grammar.IsConj.{prim, and}
use Rattle.ba_sql_syntax.specs.Grammar.IsDistinct.{none as not_distinct, distinct}
use Rattle.ba_sql_syntax.specs.Grammar.IsHeads.{items}
use Rattle.ba_sql_syntax.specs.Grammar.IsItem.{one as one_item}
use Rattle.ba_sql_syntax.specs.Grammar.IsListed.{one as one_listed, more as more_listed}
use Rattle.ba_sql_syntax.specs.Grammar.IsPrim.{brackets, of_test}
use Rattle.ba_sql_syntax.specs.Grammar.IsQuery.{plain as plain_query}
use Rattle.ba_sql_syntax.specs.Grammar.IsSelect.{select}
use Rattle.ba_sql_syntax.specs.Grammar.IsSide.{qualified, literal}
use Rattle.ba_sql_syntax.specs.Grammar.IsSource.{source}
use Rattle.ba_sql_syntax.specs.Grammar.IsTest.{compare, null, not_null}
use Rattle.ba_sql_syntax.specs.Grammar.IsWhere.{none as no_where, where_}
use Rattle.ba_sql_syntax.specs.Terminals.{terminal, terminals, word_terminal, is_unsupported}
use Rattle.ba_sql_syntax.specs.declared.word.Terminal.{Terminal}
use Rattle.ba_sql_syntax.specs.declared.word.Terminal.TheVariants.{Key as key, Name as name, Sign as sign}
use Rattle.ba_sql_syntax.specs.declared.word.Key.TheVariants as keys
use Rattle.ba_sql_syntax.specs.declared.written.Item.TheVariants.{One}
use Rattle.ba_sql_syntax.specs.declared.written.Side.{Side}
use Rattle.ba_sql_syntax.specs.declared.written.Test.{Test}
use Rattle.ba_sql_syntax.specs.declared.written.Test.TheVariants.{Compare, Null as NullTest}
use Rattle.ba_sql_print.specs.Printed.{column_name, source_name, table_name}
use Rattle.ba_sql_print.specs.Words.{atom_words, compared_words, from_words, heads_words, joined_words, keyword, operand_words, source_words, source_words_from, value_words}
use Rattle.ba_sql_print.proofs.PrintedLemmas.{CanWrite, CanWriteAtom}
use Rattle.ba_sql_print.proofs.StandsLemmas.{decimal_digits}
use Rattle.ba_sql_print.proofs.WritableLemmas.{head_kind}
use Rattle.ba_sql_print.proofs.WrittenLemmas.{CanReadPart, and_tree, tree_of, written_by, written_query, written_select, written_side, written_source, written_sources, written_test}
use Rattle.ba_send.specs.Sent.{has_several}
use Rattle.ba_send.proofs.UnitLemmas.{bracketed, distinct_words, select_words, selected_words, sent_words, where_in_brackets}

-- ---- words

select_key : word_terminal (codes "SELECT") ≡ key keys.Select
unfolding word_terminal is_word
select_key = refl

distinct_key : word_terminal (codes "DISTINCT") ≡ key keys.Distinct
unfolding word_terminal is_word
distinct_key = refl

from_key : word_terminal (codes "FROM") ≡ key keys.From
unfolding word_terminal is_word
from_key = refl

where_key : word_terminal (codes "WHERE") ≡ key keys.Where
unfolding word_terminal is_word
where_key = refl

and_key : word_terminal (codes "AND") ≡ key keys.And
unfolding word_terminal is_word
and_key = refl

union_key : word_terminal (codes "UNION") ≡ key keys.Union
unfolding word_terminal is_word
union_key = refl

null_keys : terminals (keyword (codes "IS") ∷ keyword (codes "NULL") ∷ []) ≡ key keys.Is ∷ key keys.Null ∷ []
unfolding word_terminal is_word
null_keys = refl

not_null_keys : terminals (keyword (codes "IS") ∷ keyword (codes "NOT") ∷ keyword (codes "NULL") ∷ []) ≡ key keys.Is ∷ key keys.Not ∷ key keys.Null ∷ []
unfolding word_terminal is_word
not_null_keys = refl

-- t and digits is no reserved word
digit_is_no_r : (d : ℕ) → is_digit d ≡ true → eqb (to_ascii_lowercase d) 114 ≡ false
digit_is_no_r d h =
    let most = leb-true d 57 (and_parts (nat_le 48 d) (nat_le d 57) h).1 in
    let small : d < 65 = omega (arith, most) in
    let lower : to_ascii_lowercase d ≡ d = rw (lt-ltb d 65 small) refl in
    rw lower (ne_eqb d 114 (λ e. absurd (omega (arith, e, most))))

digits_are_name : (ds : List ℕ) → are_digits ds ≡ true → word_terminal (116 ∷ ds) ≡ name (116 ∷ ds)
unfolding word_terminal is_word is_unsupported is_among
digits_are_name [] h = cc
digits_are_name (d ∷ ds) h = rw (digit_is_no_r d (and_parts (is_digit d) (list_all is_digit ds) h).0) refl

source_terminal : (place : ℕ) → place < 2 ^ 64 → word_terminal (source_name place) ≡ name (source_name place)
source_terminal place small = digits_are_name (decimal place) (decimal_digits place small)

-- ---- lists

gather : {X : Type 0} (P : List X → List Terminal → Type 0) (Q : X → List Terminal → Type 0) (between : Lexeme) (t : Terminal) → terminal between ≡ t
    → ((xs : List X) (us : List Terminal) (x : X) (vs : List Terminal) → P xs us → Q x vs → P (xs ++ x ∷ []) (us ++ t ∷ vs))
    → (ys : List X) (us : List Terminal) (xs : List X) (gs : List (List Lexeme)) → P ys us → AllZip (λ x g. Q x (terminals g)) xs gs
    → P (ys ++ xs) (us ++ terminals (flat_map (λ g. (between ∷ []) ++ g) gs))
gather {X} P Q between t is step ys us [] [] h all = subst (λ (zs : List X). P zs (us ++ [])) (sym (append-nil ys)) (subst (P ys) (sym (append-nil us)) h)
gather P Q between t is step ys us [] (g ∷ gs) h all = absurd all
gather P Q between t is step ys us (x ∷ xs) [] h all = absurd all
gather {X} P Q between t is step ys us (x ∷ xs) (g ∷ gs) h all =
    let more = gather P Q between t is step (ys ++ x ∷ []) (us ++ t ∷ terminals g) xs gs (step ys us x (terminals g) h all.0) all.1 in
    let rest : List Lexeme = flat_map (λ k. (between ∷ []) ++ k) gs in
    let words : (us ++ t ∷ terminals g) ++ terminals rest ≡ us ++ terminal between ∷ terminals (g ++ rest) =
    append_assoc us (t ∷ terminals g) (terminals rest) ∙ ap (λ (ts : List Terminal). us ++ t ∷ ts) (sym (map-append terminal g rest)) ∙ ap
    (λ (z : Terminal). us ++ z ∷ terminals (g ++ rest)) (sym is) in
    subst (λ (zs : List X). P zs (us ++ terminal between ∷ terminals (g ++ rest))) (append_assoc ys (x ∷ []) xs) (subst (P ((ys ++ x ∷ []) ++ xs)) words more)

gather_all : {X : Type 0} (P : List X → List Terminal → Type 0) (Q : X → List Terminal → Type 0) (between : Lexeme) (t : Terminal) → terminal between ≡ t
    → ((xs : List X) (us : List Terminal) (x : X) (vs : List Terminal) → P xs us → Q x vs → P (xs ++ x ∷ []) (us ++ t ∷ vs))
    → ((x : X) (vs : List Terminal) → Q x vs → P (x ∷ []) vs)
    → (xs : List X) (gs : List (List Lexeme)) → xs ≢ [] → AllZip (λ x g. Q x (terminals g)) xs gs → P xs (terminals (joined_words between gs))
gather_all P Q between t is step start [] gs some all = absurd (some refl)
gather_all P Q between t is step start (x ∷ xs) [] some all = absurd all
gather_all P Q between t is step start (x ∷ xs) (g ∷ gs) some all =
    subst (P (x ∷ xs)) (sym (map-append terminal g (flat_map (λ k. (between ∷ []) ++ k) gs)))
    (gather P Q between t is step (x ∷ []) (terminals g) xs gs (start x (terminals g) all.0) all.1)

zip_maps : {A X : Type 0} (Q : X → List Terminal → Type 0) (f : A → X) (g : A → List Lexeme) (xs : List A) → All (λ a. Q (f a) (terminals (g a))) xs
    → AllZip (λ x k. Q x (terminals k)) (map f xs) (map g xs)
zip_maps Q f g [] h = tt
zip_maps Q f g (x ∷ xs) h = (h 0 x (omega arith), zip_maps Q f g xs (λ k d lt. h (suc k) d (omega (arith, lt))))

-- ---- sides and tests

side_is : (s : Schema) (f : List ℕ) (k : Kind) (x : Operand) → CanWrite s [] f x → kind_of s [] [] f x ≡ Some k
    → IsSide (written_side s [] f x) (terminals (operand_words s [] f x))
unfolding operand_words value_words
side_is s f k (Col place column) w e =
    subst (λ (t : Terminal). IsSide (written_side s [] f (Col place column)) (t ∷ sign Dot ∷ name (column_name s f place column) ∷ []))
    (sym (source_terminal place w.0)) qualified
side_is s f k (Val Null) w e = cc
side_is s f k (Val (Int n)) w e = literal
side_is s f k (Val (Text t)) w e = literal
side_is s f k (Param n) w e = literal
side_is s f k (Var n) w e = cc

test_by : (g : Sign) (op : Op) (a b : Side) (us vs : List Lexeme) → comparison g ≡ Some (record { op = op; turned = false }) → IsSide a (terminals us)
    → IsSide b (terminals vs)
    → IsTest (Compare op a b) (terminals (us ++ lexemes.Sign g ∷ vs))
test_by g op a b us vs e h k = subst (IsTest (Compare op a b)) (sym (map-append terminal us (lexemes.Sign g ∷ vs)))
    (compare g (record { op = op; turned = false }) h e k)

compared_is : (op : Op) (a b : Side) (us vs : List Lexeme) → IsSide a (terminals us) → IsSide b (terminals vs)
    → IsTest (written_by op a b) (terminals (compared_words op us vs))
unfolding compared_words
compared_is Eq a b us vs h k = test_by Equal Eq a b us vs refl h k
compared_is Ne a b us vs h k = test_by NotEqual Ne a b us vs refl h k
compared_is Lt a b us vs h k = test_by Less Lt a b us vs refl h k
compared_is Le a b us vs h k = test_by LessEqual Le a b us vs refl h k
compared_is IsNull a b us vs h k =
    let words : List Lexeme = keyword (codes "IS") ∷ keyword (codes "NULL") ∷ [] in
    subst (IsTest (NullTest IsNull a)) (sym (map-append terminal us words ∙ ap (λ (ts : List Terminal). terminals us ++ ts) null_keys)) (null h)
compared_is NotNull a b us vs h k =
    let words : List Lexeme = keyword (codes "IS") ∷ keyword (codes "NOT") ∷ keyword (codes "NULL") ∷ [] in
    subst (IsTest (NullTest NotNull a)) (sym (map-append terminal us words ∙ ap (λ (ts : List Terminal). terminals us ++ ts) not_null_keys)) (not_null h)

test_is : (s : Schema) (f : List ℕ) (atom : Atom) → CanWriteAtom s [] f atom → AtomFits s [] [] f atom
    → IsTest (written_test s [] f atom) (terminals (atom_words s [] f atom))
unfolding atom_words
test_is s f atom w fits =
    compared_is atom.op _ _ _ _ (side_is s f fits.kind atom.left w.left fits.left_is) (side_is s f fits.kind atom.right w.right fits.right_is)

-- ---- heads and sources

item_is : (s : Side) (us : List Terminal) → IsSide s us → IsItem (One s) us
item_is s us h = subst (IsItem (One s)) (append-nil us) (one_item h no_alias)

source_is : (s : Schema) (place table : ℕ) → place < 2 ^ 64 → IsSource (written_source s place table) (terminals (source_words s place table))
unfolding source_words
source_is s place table small =
    subst (λ (t : Terminal). IsSource (written_source s place table) (name (table_name s table) ∷ t ∷ [])) (sym (source_terminal place small)) (source plain_alias)

sources_are : (s : Schema) (place : ℕ) (from : List ℕ) → place + length from < 2 ^ 64
    → AllZip (λ x g. IsSource x (terminals g)) (written_sources s place from) (source_words_from s place from)
sources_are s place [] small = tt
sources_are s place (t ∷ ts) small = (source_is s place t (omega (arith, small)), sources_are s (suc place) ts (omega (arith, small)))

-- ---- conditions, each test in brackets

-- the words of a test in brackets
abbrev IsBracketed : Test → List Terminal → Type 0
IsBracketed t us = (vs : List Terminal) × (us ≡ sign LeftParen ∷ (vs ++ sign RightParen ∷ [])) × IsTest t vs

bracketed_is : (s : Schema) (f : List ℕ) (atom : Atom) → IsTest (written_test s [] f atom) (terminals (atom_words s [] f atom))
    → IsBracketed (written_test s [] f atom) (terminals (bracketed s f atom))
bracketed_is s f atom h = (
  terminals (atom_words s [] f atom),
  ap (λ (ts : List Terminal). sign LeftParen ∷ ts) (map-append terminal (atom_words s [] f atom) (lexemes.Sign RightParen ∷ [])),
  h,
)

prim_is : (t : Test) (us : List Terminal) → IsBracketed t us → IsPrim (test t) us
prim_is t us h = subst (IsPrim (test t)) (sym h.1) (brackets (conj (prim (of_test h.2))))

and_gather : (c : Cond) (us : List Terminal) (ts : List Test) (gs : List (List Lexeme)) → IsConj c us → AllZip (λ t g. IsBracketed t (terminals g)) ts gs
    → IsConj (and_tree c ts) (us ++ terminals (flat_map (λ g. (keyword (codes "AND") ∷ []) ++ g) gs))
and_gather c us [] [] h all = subst (IsConj c) (sym (append-nil us)) h
and_gather c us [] (g ∷ gs) h all = absurd all
and_gather c us (t ∷ ts) [] h all = absurd all
and_gather c us (t ∷ ts) (g ∷ gs) h all =
    let more = and_gather (both c (test t)) (us ++ key keys.And ∷ terminals g) ts gs (and h (prim_is t (terminals g) all.0)) all.1 in
    let rest : List Lexeme = flat_map (λ k. (keyword (codes "AND") ∷ []) ++ k) gs in
    let words : (us ++ key keys.And ∷ terminals g) ++ terminals rest ≡ us ++ word_terminal (codes "AND") ∷ terminals (g ++ rest) =
    append_assoc us (key keys.And ∷ terminals g) (terminals rest) ∙ ap (λ (ts : List Terminal). us ++ key keys.And ∷ ts) (sym (map-append terminal g rest))
    ∙ ap (λ (z : Terminal). us ++ z ∷ terminals (g ++ rest)) (sym and_key) in
    subst (IsConj (and_tree (both c (test t)) ts)) words more

where_is : (s : Schema) (f : List ℕ) (atoms : List Atom) → All (λ a. IsBracketed (written_test s [] f a) (terminals (bracketed s f a))) atoms
    → IsWhere None (tree_of (map (written_test s [] f) atoms)) (terminals (where_in_brackets s f atoms))
unfolding where_in_brackets
where_is s f [] h = no_where
where_is s f (a ∷ more) h =
    let ts : List Test = map (written_test s [] f) more in
    let gs : List (List Lexeme) = map (bracketed s f) more in
    let first : List Lexeme = bracketed s f a in
    let rest : List Lexeme = flat_map (λ g. (keyword (codes "AND") ∷ []) ++ g) gs in
    let tests = zip_maps IsBracketed (written_test s [] f) (bracketed s f) (a ∷ more) h in
    let conj_is : IsConj (and_tree (test (written_test s [] f a)) ts) (terminals (first ++ rest)) =
    subst (IsConj (and_tree (test (written_test s [] f a)) ts)) (sym (map-append terminal first rest))
    (and_gather (test (written_test s [] f a)) (terminals first) ts gs (prim (prim_is (written_test s [] f a) (terminals first) tests.0)) tests.1) in
    subst (λ (t : Terminal). IsWhere None (Some (and_tree (test (written_test s [] f a)) ts)) (t ∷ terminals (first ++ rest))) (sym where_key)
    (where_ (conj conj_is))

-- ---- selects

distinct_is : (several : Bool) → IsDistinct (terminals (distinct_words several))
distinct_is false = subst (λ (t : Terminal). IsDistinct (t ∷ [])) (sym distinct_key) distinct
distinct_is true = not_distinct

map_some_kind : {A B : Type 0} (f : A → B) (xs : List A) (ys : List Kind) (g : A → Option Kind) → map g xs ≡ map Some ys → ys ≢ [] → map f xs ≢ []
map_some_kind f [] [] g e some h = some refl
map_some_kind f [] (y ∷ ys) g e some h = cc
map_some_kind f (x ∷ xs) ys g e some h = cc

select_terminals : (ds hs vs ws : List Lexeme)
    → terminals (keyword (codes "SELECT") ∷ (ds ++ (hs ++ keyword (codes "FROM") ∷ (vs ++ ws))))
    ≡ key keys.Select ∷ ((terminals ds ++ terminals hs) ++ key keys.From ∷ (terminals vs ++ terminals ws))
select_terminals ds hs vs ws =
    ap (λ (t : Terminal). t ∷ terminals (ds ++ (hs ++ keyword (codes "FROM") ∷ (vs ++ ws)))) select_key
    ∙ ap (λ (ts : List Terminal). key keys.Select ∷ ts)
    (map-append terminal ds (hs ++ keyword (codes "FROM") ∷ (vs ++ ws))
    ∙ ap (λ (ts : List Terminal). terminals ds ++ ts)
    (map-append terminal hs (keyword (codes "FROM") ∷ (vs ++ ws)) ∙ ap (λ (t : Terminal). terminals hs ++ t ∷ terminals (vs ++ ws)) from_key
    ∙ ap (λ (ts : List Terminal). terminals hs ++ key keys.From ∷ ts) (map-append terminal vs ws))
    ∙ sym (append_assoc (terminals ds) (terminals hs) (key keys.From ∷ (terminals vs ++ terminals ws))))

no_sources : (s : Schema) (place : ℕ) (from : List ℕ) → from ≢ [] → written_sources s place from ≢ []
no_sources s place [] h e = h refl
no_sources s place (t ∷ ts) h e = cc

select_is : (s : Schema) (several : Bool) (part : Part) → CanReadPart s [] part → IsSelect (written_select s [] part) (terminals (select_words s several part))
unfolding selected_words heads_words from_words
select_is s several part h =
    let kinds = head_kind s [] part.from part.head h.kinds h.fits.head in
    let items_are = gather_all (IsListed IsItem) IsItem (lexemes.Sign Comma) (sign Comma) refl (λ xs us x vs k l. more_listed k l) (λ x vs k. one_listed k)
    (map (λ x. One (written_side s [] part.from x)) part.head) (map (operand_words s [] part.from) part.head)
    (map_some_kind (λ x. One (written_side s [] part.from x)) part.head h.kinds (kind_of s [] [] part.from) h.fits.head h.some_kind)
    (zip_maps IsItem (λ x. One (written_side s [] part.from x)) (operand_words s [] part.from) part.head
    (λ k d lt. item_is _ _ (side_is s part.from (kinds k d lt).0 _ (h.writes.head k d lt) (kinds k d lt).1))) in
    let sources_is = gather_all (λ ss us. AreSources ss None us) IsSource (lexemes.Sign Comma) (sign Comma) refl (λ xs us x vs k l. comma k l)
    (λ x vs k. first_source k)
    (written_sources s 0 part.from) (source_words_from s 0 part.from) (no_sources s 0 part.from h.fits.some_table)
    (sources_are s 0 part.from (omega (arith, h.writes.few))) in
    let where_are = where_is s part.from part.conds
    (λ k d lt. bracketed_is s part.from _ (test_is s part.from _ (h.writes.conds k d lt) (h.fits.conds k d lt))) in
    subst (IsSelect (written_select s [] part)) (sym (select_terminals (distinct_words several) _ _ _)) (select (distinct_is several) (items items_are) sources_is where_are)

pub query_is : (s : Schema) (q : Query) → q.parts ≢ [] → All (CanReadPart s []) q.parts → IsQueryText (written_query s [] q) (sent_words s q)
unfolding sent_words
query_is s q some h =
    plain_query (gather_all AreSelects IsSelect (keyword (codes "UNION")) (key keys.Union) union_key (λ xs us x vs k l. union k not_distinct l)
    (λ x vs k. first_select k)
    (map (written_select s []) q.parts) (map (select_words s (has_several q)) q.parts) (map_some_part q.parts some)
    (zip_maps IsSelect (written_select s []) (select_words s (has_several q)) q.parts (λ k d lt. select_is s (has_several q) _ (h k d lt))))
  where
    map_some_part : (parts : List Part) → parts ≢ [] → map (written_select s []) parts ≢ []
    map_some_part [] none e = none refl
    map_some_part (x ∷ xs) none e = cc
