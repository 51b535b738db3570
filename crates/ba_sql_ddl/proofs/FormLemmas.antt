-- A written table: what is read is spelled so, and what is spelled so is read.
use Rattle.std.proofs.Common.{◌≡◌, ◌≢◌, ℕ, ℤ, Bool, true, false, List, [], ◌∷◌, ◌++◌, map, codes, Option, Some, None, Ok, refl, ap, subst, ◌∙◌}
use Rattle.std.specs.List.{AllByRecursion}
use Rattle.std.specs.Char.{to_ascii_lowercase}
use Rattle.std.specs.Str.{bytes_eq}
use Rattle.std.proofs.lemmas.Slice.Eq.{bytes_eq-Decides}
use Rattle.ba_model.specs.Readings.{◌>>=◌}
use Rattle.ba_grammar.specs.Front.{Read, begins, is_keyword, is_sign, listed, number_at, past}
use Rattle.ba_grammar.specs.Items.{Spells, with_commas}
use Rattle.ba_grammar.specs.Items.Item.{keyword, name, number, sign}
use Rattle.ba_grammar.proofs.ListedLemmas.{IsComplete, IsSound, ReadsListed, listed_complete, listed_sound}
use Rattle.ba_grammar.proofs.WordLemmas.{Takes, bind_ok, err_ok, keyword_spelled, name_read, number_read, ok_same, parts, past_keyword, past_sign, spelled_keyword, takes_keyword, takes_name, takes_number, takes_sign, then}
use Rattle.ba_lex.specs.Word.{is_word}
use Rattle.ba_lex.specs.declared.token.Lexeme.{Lexeme}
use Rattle.ba_lex.specs.declared.token.Sign.TheVariants.{Comma, LeftParen, RightParen}
use Rattle.ba_sql_ddl.specs.Reader.{ddl_name_at, names_at, not_null_at, primary_key_at, references_at, rule_at, size_at, type_at, type_word_at}
use Rattle.ba_sql_ddl.specs.Written.{IsColumnRule, name_items, names_items, reserved, rule_items, size_items, type_items, type_word}
use Rattle.ba_sql_ddl.specs.declared.written.ColumnRule.{ColumnRule}
use Rattle.ba_sql_ddl.specs.declared.written.ColumnRule.TheVariants.{NotNull, Null, PrimaryKey, Unique, References}
use Rattle.ba_sql_ddl.specs.declared.written.TypeText.{TypeText}
use Rattle.ba_sql_ddl.specs.declared.written.TypeWord.{TypeWord}
use Rattle.ba_sql_ddl.specs.declared.written.TypeWord.TheVariants.{Int, Integer, BigInt, SmallInt, Text, VarChar, Char}

-- ---- words that aren't other words

-- a keyword is no other one that differs from it in lower case
pub other_keyword : (k j : List ℕ) (x : Lexeme) → Spells (keyword k) x → bytes_eq (map to_ascii_lowercase k) (map to_ascii_lowercase j) ≡ false → is_keyword j x ≡ false
unfolding is_word
other_keyword k j x h differ =
    let same : map to_ascii_lowercase h.0 ≡ map to_ascii_lowercase k = (bytes_eq-Decides (map to_ascii_lowercase h.0) (map to_ascii_lowercase k)).0 h.2 in
    rw h.1 (ap (λ (w : List ℕ). bytes_eq w (map to_ascii_lowercase j)) same ∙ differ)

-- what begins with a keyword doesn't begin with another
pub begins_other : (k j : List ℕ) (x : Lexeme) (words xs : List Lexeme) → words ≡ x ∷ xs → Spells (keyword k) x → bytes_eq (map to_ascii_lowercase k) (map to_ascii_lowercase j) ≡ false → begins (is_keyword j) words ≡ false
begins_other k j x words xs e h differ = rw e (other_keyword k j x h differ)

pub begins_this : (k : List ℕ) (x : Lexeme) (words xs : List Lexeme) → words ≡ x ∷ xs → Spells (keyword k) x → begins (is_keyword k) words ≡ true
begins_this k x words xs e h = rw e (spelled_keyword k x h)

pub last_word : (x : Lexeme) (words xs rest : List Lexeme) → words ≡ x ∷ xs → xs ≡ rest → words ≡ x ∷ rest
last_word x words xs rest e f = e ∙ ap (λ (r : List Lexeme). x ∷ r) f

-- ---- names in brackets

abbrev pub Always : {X : Type 0} → X → Type 0
Always x = Unit {0}

pub always : {X : Type 0} (xs : List X) → AllByRecursion Always xs
always [] = tt
always (x ∷ xs) = (tt, always xs)

name_sound : IsSound ddl_name_at name_items Always
name_sound words rest w e = (takes_name reserved words rest w e, tt)

name_complete : IsComplete ddl_name_at name_items Always
name_complete words rest w t u = name_read reserved words rest t.0 w (last_word t.0 words t.1 rest t.2 t.4) t.3

pub record IsNamesRead (words : List Lexeme) (p : List (List ℕ) × List Lexeme) : Type 0 where
  pub takes : Takes (names_items p.0) words p.1
  pub some : p.0 ≢ []

abbrev names_end : List (List ℕ) → List Lexeme → Read (List (List ℕ))
names_end ns rest = Ok (ns, rest)

abbrev names_right : List (List ℕ) × List Lexeme → Read (List (List ℕ))
names_right ns = past (is_sign RightParen) ns.1 >>= names_end ns.0

abbrev names_left : List Lexeme → Read (List (List ℕ))
names_left rest = listed (is_sign Comma) ddl_name_at rest >>= names_right

pub names_sound : (words : List Lexeme) (p : List (List ℕ) × List Lexeme) → names_at words ≡ Ok p → IsNamesRead words p
unfolding names_at
names_sound words p e =
    let a = bind_ok (past (is_sign LeftParen) words) names_left p e in
    let b = bind_ok (listed (is_sign Comma) ddl_name_at a.0) names_right p a.2 in
    let c = bind_ok (past (is_sign RightParen) b.0.1) (names_end b.0.0) p b.2 in
    let read = listed_sound ddl_name_at name_items Always name_sound a.0 b.0.1 b.0.0 b.1 in
    let made : Takes (names_items b.0.0) words c.0 =
    then (sign LeftParen ∷ []) (with_commas (map name_items b.0.0) ++ sign RightParen ∷ []) words a.0 c.0 (takes_sign LeftParen words a.0 a.1)
    (then (with_commas (map name_items b.0.0)) (sign RightParen ∷ []) a.0 b.0.1 c.0 read.takes (takes_sign RightParen b.0.1 c.0 c.1)) in
    subst (IsNamesRead words) (ok_same (b.0.0, c.0) p c.2) (record { takes = made; some = read.some })

sign_no_comma : (x : Lexeme) (words xs : List Lexeme) → words ≡ x ∷ xs → Spells (sign RightParen) x → begins (is_sign Comma) words ≡ false
sign_no_comma x words xs e h = rw (e, h) refl

pub names_complete : (words rest : List Lexeme) (ns : List (List ℕ)) → Takes (names_items ns) words rest → ns ≢ [] → names_at words ≡ Ok (ns, rest)
unfolding names_at
names_complete words rest ns t some =
    let p = parts (with_commas (map name_items ns)) (sign RightParen ∷ []) t.1 rest t.4 in
    let r = p.2 in
    let names : ReadsListed name_items Always t.1 p.0 ns = record { some = some; takes = p.1; each = always ns } in
    let left_is : past (is_sign LeftParen) words ≡ Ok t.1 = past_sign LeftParen t.0 words t.1 t.2 t.3 in
    let names_are : listed (is_sign Comma) ddl_name_at t.1 ≡ Ok (ns, p.0) = listed_complete ddl_name_at name_items Always name_complete t.1 p.0 ns names (sign_no_comma r.0 p.0 r.1 r.2 r.3) in
    let right_is : past (is_sign RightParen) p.0 ≡ Ok rest = past_sign RightParen r.0 p.0 rest (last_word r.0 p.0 r.1 rest r.2 r.4) r.3 in
    rw left_is (rw names_are (rw right_is refl))

-- ---- a type

abbrev IsSizeRead : List Lexeme → Option ℤ × List Lexeme → Type 0
IsSizeRead words p = Takes (size_items p.0) words p.1

abbrev size_end : ℤ → List Lexeme → Read (Option ℤ)
size_end n rest = Ok (Some n, rest)

abbrev size_right : ℤ × List Lexeme → Read (Option ℤ)
size_right n = past (is_sign RightParen) n.1 >>= size_end n.0

abbrev size_left : List Lexeme → Read (Option ℤ)
size_left rest = number_at rest >>= size_right

size_found : (words : List Lexeme) (p : Option ℤ × List Lexeme) → (past (is_sign LeftParen) words >>= size_left) ≡ Ok p → IsSizeRead words p
size_found words p e =
    let a = bind_ok (past (is_sign LeftParen) words) size_left p e in
    let b = bind_ok (number_at a.0) size_right p a.2 in
    let c = bind_ok (past (is_sign RightParen) b.0.1) (size_end b.0.0) p b.2 in
    let made : Takes (size_items (Some b.0.0)) words c.0 =
    then (sign LeftParen ∷ []) (number b.0.0 ∷ sign RightParen ∷ []) words a.0 c.0 (takes_sign LeftParen words a.0 a.1)
    (then (number b.0.0 ∷ []) (sign RightParen ∷ []) a.0 b.0.1 c.0 (takes_number a.0 b.0.1 b.0.0 b.1) (takes_sign RightParen b.0.1 c.0 c.1)) in
    subst (IsSizeRead words) (ok_same (Some b.0.0, c.0) p c.2) made

size_sound : (words : List Lexeme) (p : Option ℤ × List Lexeme) → size_at words ≡ Ok p → IsSizeRead words p
unfolding size_at
size_sound words p e = at (begins (is_sign LeftParen) words) refl
  where
    at : (t : Bool) → begins (is_sign LeftParen) words ≡ t → IsSizeRead words p
    at true h = size_found words p (rw h at e)
    at false h = subst (IsSizeRead words) (ok_same (None, words) p (rw h at e)) refl

size_complete : (words rest : List Lexeme) (size : Option ℤ) → Takes (size_items size) words rest → begins (is_sign LeftParen) rest ≡ false → size_at words ≡ Ok (size, rest)
unfolding size_at
size_complete words rest None t stop = rw t (rw stop refl)
size_complete words rest (Some n) t stop =
    let m = t.4 in
    let r = m.4 in
    let begins_so : begins (is_sign LeftParen) words ≡ true = begins_sign t.0 words t.1 t.2 t.3 in
    let left_is : past (is_sign LeftParen) words ≡ Ok t.1 = past_sign LeftParen t.0 words t.1 t.2 t.3 in
    let number_is : number_at t.1 ≡ Ok (n, m.1) = number_read t.1 m.1 m.0 n m.2 m.3 in
    let right_is : past (is_sign RightParen) m.1 ≡ Ok rest = past_sign RightParen r.0 m.1 rest (last_word r.0 m.1 r.1 rest r.2 r.4) r.3 in
    rw begins_so (rw left_is (rw number_is (rw right_is refl)))
  where
    begins_sign : (x : Lexeme) (words xs : List Lexeme) → words ≡ x ∷ xs → Spells (sign LeftParen) x → begins (is_sign LeftParen) words ≡ true
    begins_sign x words xs e h = rw (e, h) refl

abbrev IsTypeWordRead : List Lexeme → TypeWord × List Lexeme → Type 0
IsTypeWordRead words p = Takes (keyword (type_word p.0) ∷ []) words p.1

one_word : (w : TypeWord) (x : Lexeme) (xs : List Lexeme) (p : TypeWord × List Lexeme) → is_keyword (type_word w) x ≡ true → (w, xs) ≡ p → IsTypeWordRead (x ∷ xs) p
one_word w x xs p h e = subst (IsTypeWordRead (x ∷ xs)) e (x, xs, refl, keyword_spelled (type_word w) x h, refl)

type_word_sound : (words : List Lexeme) (p : TypeWord × List Lexeme) → type_word_at words ≡ Ok p → IsTypeWordRead words p
unfolding type_word_at
type_word_sound [] p e = absurd (err_ok p e)
type_word_sound (x ∷ xs) p e =
    at (is_keyword (codes "INT") x) (is_keyword (codes "INTEGER") x) (is_keyword (codes "BIGINT") x) (is_keyword (codes "SMALLINT") x) (is_keyword (codes "TEXT") x) (is_keyword (codes "VARCHAR") x) (is_keyword (codes "CHAR") x) refl refl refl refl refl refl refl
  where
    at : (a b c d f g k : Bool) → is_keyword (codes "INT") x ≡ a → is_keyword (codes "INTEGER") x ≡ b → is_keyword (codes "BIGINT") x ≡ c → is_keyword (codes "SMALLINT") x ≡ d → is_keyword (codes "TEXT") x ≡ f → is_keyword (codes "VARCHAR") x ≡ g → is_keyword (codes "CHAR") x ≡ k
        → IsTypeWordRead (x ∷ xs) p
    at true b c d f g k ha hb hc hd hf hg hk = one_word Int x xs p ha (ok_same (Int, xs) p (rw ha at e))
    at false true c d f g k ha hb hc hd hf hg hk = one_word Integer x xs p hb (ok_same (Integer, xs) p (rw (ha, hb) at e))
    at false false true d f g k ha hb hc hd hf hg hk = one_word BigInt x xs p hc (ok_same (BigInt, xs) p (rw (ha, hb, hc) at e))
    at false false false true f g k ha hb hc hd hf hg hk = one_word SmallInt x xs p hd (ok_same (SmallInt, xs) p (rw (ha, hb, hc, hd) at e))
    at false false false false true g k ha hb hc hd hf hg hk = one_word Text x xs p hf (ok_same (Text, xs) p (rw (ha, hb, hc, hd, hf) at e))
    at false false false false false true k ha hb hc hd hf hg hk = one_word VarChar x xs p hg (ok_same (VarChar, xs) p (rw (ha, hb, hc, hd, hf, hg) at e))
    at false false false false false false true ha hb hc hd hf hg hk = one_word Char x xs p hk (ok_same (Char, xs) p (rw (ha, hb, hc, hd, hf, hg, hk) at e))
    at false false false false false false false ha hb hc hd hf hg hk = absurd (err_ok p (rw (ha, hb, hc, hd, hf, hg, hk) at e))

type_word_complete : (words xs : List Lexeme) (x : Lexeme) (w : TypeWord) → words ≡ x ∷ xs → Spells (keyword (type_word w)) x → type_word_at words ≡ Ok (w, xs)
unfolding type_word_at
type_word_complete words xs x Int e h = rw (e, spelled_keyword (codes "INT") x h) refl
type_word_complete words xs x Integer e h = rw (e, other_keyword (codes "INTEGER") (codes "INT") x h refl, spelled_keyword (codes "INTEGER") x h) refl
type_word_complete words xs x BigInt e h =
    rw (e, other_keyword (codes "BIGINT") (codes "INT") x h refl, other_keyword (codes "BIGINT") (codes "INTEGER") x h refl, spelled_keyword (codes "BIGINT") x h) refl
type_word_complete words xs x SmallInt e h =
    rw (e, other_keyword (codes "SMALLINT") (codes "INT") x h refl, other_keyword (codes "SMALLINT") (codes "INTEGER") x h refl, other_keyword (codes "SMALLINT") (codes "BIGINT") x h refl, spelled_keyword (codes "SMALLINT") x h) refl
type_word_complete words xs x Text e h =
    rw (e, other_keyword (codes "TEXT") (codes "INT") x h refl, other_keyword (codes "TEXT") (codes "INTEGER") x h refl, other_keyword (codes "TEXT") (codes "BIGINT") x h refl, other_keyword (codes "TEXT") (codes "SMALLINT") x h refl, spelled_keyword (codes "TEXT") x h) refl
type_word_complete words xs x VarChar e h =
    rw (
      e,
      other_keyword (codes "VARCHAR") (codes "INT") x h refl,
      other_keyword (codes "VARCHAR") (codes "INTEGER") x h refl,
      other_keyword (codes "VARCHAR") (codes "BIGINT") x h refl,
      other_keyword (codes "VARCHAR") (codes "SMALLINT") x h refl,
      other_keyword (codes "VARCHAR") (codes "TEXT") x h refl,
      spelled_keyword (codes "VARCHAR") x h,
    ) refl
type_word_complete words xs x Char e h =
    rw (
      e,
      other_keyword (codes "CHAR") (codes "INT") x h refl,
      other_keyword (codes "CHAR") (codes "INTEGER") x h refl,
      other_keyword (codes "CHAR") (codes "BIGINT") x h refl,
      other_keyword (codes "CHAR") (codes "SMALLINT") x h refl,
      other_keyword (codes "CHAR") (codes "TEXT") x h refl,
      other_keyword (codes "CHAR") (codes "VARCHAR") x h refl,
      spelled_keyword (codes "CHAR") x h,
    ) refl

abbrev pub IsTypeRead : List Lexeme → TypeText × List Lexeme → Type 0
IsTypeRead words p = Takes (type_items p.0) words p.1

abbrev type_end : TypeWord → Option ℤ × List Lexeme → Read TypeText
type_end word size = Ok (record { word = word; size = size.0 }, size.1)

abbrev type_size : TypeWord × List Lexeme → Read TypeText
type_size word = size_at word.1 >>= type_end word.0

pub type_sound : (words : List Lexeme) (p : TypeText × List Lexeme) → type_at words ≡ Ok p → IsTypeRead words p
unfolding type_at
type_sound words p e =
    let a = bind_ok (type_word_at words) type_size p e in
    let b = bind_ok (size_at a.0.1) (type_end a.0.0) p a.2 in
    let t : TypeText = record { word = a.0.0; size = b.0.0 } in
    let made : Takes (type_items t) words b.0.1 = then (keyword (type_word a.0.0) ∷ []) (size_items b.0.0) words a.0.1 b.0.1 (type_word_sound words a.0 a.1) (size_sound a.0.1 b.0 b.1) in
    subst (IsTypeRead words) (ok_same (t, b.0.1) p b.2) made

pub type_complete : (words rest : List Lexeme) (t : TypeText) → Takes (type_items t) words rest → begins (is_sign LeftParen) rest ≡ false → type_at words ≡ Ok (t, rest)
unfolding type_at
type_complete words rest t h stop = rw (type_word_complete words h.1 h.0 t.word h.2 h.3) (rw (size_complete h.1 rest t.size h.4 stop) refl)

-- ---- a rule of a column

abbrev pub IsRuleRead : List Lexeme → ColumnRule × List Lexeme → Type 0
IsRuleRead words p = Takes (rule_items p.0) words p.1 × IsColumnRule p.0

abbrev rule_end : ColumnRule → List Lexeme → Read ColumnRule
rule_end r rest = Ok (r, rest)

-- two keywords
two_words : (k j : List ℕ) (r : ColumnRule) (words : List Lexeme) (p : ColumnRule × List Lexeme) → (past (is_keyword k) words >>= λ rest. (past (is_keyword j) rest >>= rule_end r)) ≡ Ok p
    → (mid : List Lexeme) × Takes (keyword k ∷ keyword j ∷ []) words mid × ((r, mid) ≡ p)
two_words k j r words p e =
    let a = bind_ok (past (is_keyword k) words) (λ rest. past (is_keyword j) rest >>= rule_end r) p e in
    let b = bind_ok (past (is_keyword j) a.0) (rule_end r) p a.2 in
    (b.0, then (keyword k ∷ []) (keyword j ∷ []) words a.0 b.0 (takes_keyword k words a.0 a.1) (takes_keyword j a.0 b.0 b.1), ok_same (r, b.0) p b.2)

one_keyword : (k : List ℕ) (r : ColumnRule) (words : List Lexeme) (p : ColumnRule × List Lexeme) → (past (is_keyword k) words >>= rule_end r) ≡ Ok p → (mid : List Lexeme) × Takes (keyword k ∷ []) words mid × ((r, mid) ≡ p)
one_keyword k r words p e = let a = bind_ok (past (is_keyword k) words) (rule_end r) p e in (a.0, takes_keyword k words a.0 a.1, ok_same (r, a.0) p a.2)

abbrev references_end : List ℕ → List (List ℕ) × List Lexeme → Read ColumnRule
references_end table targets = Ok (References table targets.0, targets.1)

abbrev references_targets : List ℕ × List Lexeme → Read ColumnRule
references_targets table = names_at table.1 >>= references_end table.0

abbrev references_table : List Lexeme → Read ColumnRule
references_table rest = ddl_name_at rest >>= references_targets

references_sound : (words : List Lexeme) (p : ColumnRule × List Lexeme) → references_at words ≡ Ok p → IsRuleRead words p
unfolding references_at
references_sound words p e =
    let a = bind_ok (past (is_keyword (codes "REFERENCES")) words) references_table p e in
    let b = bind_ok (ddl_name_at a.0) references_targets p a.2 in
    let c = bind_ok (names_at b.0.1) (references_end b.0.0) p b.2 in
    let read = names_sound b.0.1 c.0 c.1 in
    let made : Takes (rule_items (References b.0.0 c.0.0)) words c.0.1 =
    then (keyword (codes "REFERENCES") ∷ []) (name reserved b.0.0 ∷ names_items c.0.0) words a.0 c.0.1 (takes_keyword (codes "REFERENCES") words a.0 a.1)
    (then (name reserved b.0.0 ∷ []) (names_items c.0.0) a.0 b.0.1 c.0.1 (takes_name reserved a.0 b.0.1 b.0.0 b.1) read.takes) in
    subst (IsRuleRead words) (ok_same (References b.0.0 c.0.0, c.0.1) p c.2) (made, read.some)

pub rule_sound : (words : List Lexeme) (p : ColumnRule × List Lexeme) → rule_at words ≡ Ok p → IsRuleRead words p
unfolding rule_at not_null_at primary_key_at
rule_sound words p e =
    at (begins (is_keyword (codes "NOT")) words) (begins (is_keyword (codes "NULL")) words) (begins (is_keyword (codes "PRIMARY")) words) (begins (is_keyword (codes "UNIQUE")) words) refl refl refl refl
  where
    at : (a b c d : Bool) → begins (is_keyword (codes "NOT")) words ≡ a → begins (is_keyword (codes "NULL")) words ≡ b → begins (is_keyword (codes "PRIMARY")) words ≡ c → begins (is_keyword (codes "UNIQUE")) words ≡ d → IsRuleRead words p
    at true b c d ha hb hc hd = let r = two_words (codes "NOT") (codes "NULL") NotNull words p (rw ha at e) in subst (IsRuleRead words) r.2 (r.1, tt)
    at false true c d ha hb hc hd = let r = one_keyword (codes "NULL") Null words p (rw (ha, hb) at e) in subst (IsRuleRead words) r.2 (r.1, tt)
    at false false true d ha hb hc hd = let r = two_words (codes "PRIMARY") (codes "KEY") PrimaryKey words p (rw (ha, hb, hc) at e) in subst (IsRuleRead words) r.2 (r.1, tt)
    at false false false true ha hb hc hd = let r = one_keyword (codes "UNIQUE") Unique words p (rw (ha, hb, hc, hd) at e) in subst (IsRuleRead words) r.2 (r.1, tt)
    at false false false false ha hb hc hd = references_sound words p (rw (ha, hb, hc, hd) at e)

-- what isn't these four keywords
not_others : (k : List ℕ) (x : Lexeme) (words xs : List Lexeme) → words ≡ x ∷ xs → Spells (keyword k) x → bytes_eq (map to_ascii_lowercase k) (map to_ascii_lowercase (codes "NOT")) ≡ false → begins (is_keyword (codes "NOT")) words ≡ false
not_others k x words xs e h differ = begins_other k (codes "NOT") x words xs e h differ

pub rule_complete : (words rest : List Lexeme) (r : ColumnRule) → Takes (rule_items r) words rest → IsColumnRule r → rule_at words ≡ Ok (r, rest)
unfolding rule_at not_null_at primary_key_at references_at
rule_complete words rest NotNull t u =
    let n = t.4 in
    rw (begins_this (codes "NOT") t.0 words t.1 t.2 t.3) (rw (past_keyword (codes "NOT") t.0 words t.1 t.2 t.3) (rw (past_keyword (codes "NULL") n.0 t.1 rest (last_word n.0 t.1 n.1 rest n.2 n.4) n.3) refl))
rule_complete words rest Null t u =
    rw (begins_other (codes "NULL") (codes "NOT") t.0 words t.1 t.2 t.3 refl, begins_this (codes "NULL") t.0 words t.1 t.2 t.3) (rw (past_keyword (codes "NULL") t.0 words rest (last_word t.0 words t.1 rest t.2 t.4) t.3) refl)
rule_complete words rest PrimaryKey t u =
    let n = t.4 in
    rw (begins_other (codes "PRIMARY") (codes "NOT") t.0 words t.1 t.2 t.3 refl, begins_other (codes "PRIMARY") (codes "NULL") t.0 words t.1 t.2 t.3 refl, begins_this (codes "PRIMARY") t.0 words t.1 t.2 t.3)
    (rw (past_keyword (codes "PRIMARY") t.0 words t.1 t.2 t.3) (rw (past_keyword (codes "KEY") n.0 t.1 rest (last_word n.0 t.1 n.1 rest n.2 n.4) n.3) refl))
rule_complete words rest Unique t u =
    rw (
      begins_other (codes "UNIQUE") (codes "NOT") t.0 words t.1 t.2 t.3 refl,
      begins_other (codes "UNIQUE") (codes "NULL") t.0 words t.1 t.2 t.3 refl,
      begins_other (codes "UNIQUE") (codes "PRIMARY") t.0 words t.1 t.2 t.3 refl,
      begins_this (codes "UNIQUE") t.0 words t.1 t.2 t.3,
    ) (rw (past_keyword (codes "UNIQUE") t.0 words rest (last_word t.0 words t.1 rest t.2 t.4) t.3) refl)
rule_complete words rest (References table targets) t some =
    let n = t.4 in
    rw (
      begins_other (codes "REFERENCES") (codes "NOT") t.0 words t.1 t.2 t.3 refl,
      begins_other (codes "REFERENCES") (codes "NULL") t.0 words t.1 t.2 t.3 refl,
      begins_other (codes "REFERENCES") (codes "PRIMARY") t.0 words t.1 t.2 t.3 refl,
      begins_other (codes "REFERENCES") (codes "UNIQUE") t.0 words t.1 t.2 t.3 refl,
    )
    (rw (past_keyword (codes "REFERENCES") t.0 words t.1 t.2 t.3) (rw (name_read reserved t.1 n.1 n.0 table n.2 n.3) (rw (names_complete n.1 rest targets n.4 some) refl)))
