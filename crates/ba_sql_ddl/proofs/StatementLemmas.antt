-- Statements: what is read is written so, and what is written so is read.
use Rattle.std.proofs.Common.{◌≡◌, ◌≢◌, ℕ, zero, suc, ◌≤◌, Bool, true, false, List, [], ◌∷◌, ◌++◌, length, drop, codes, Option, Some, None, Result, Ok, refl, sym, ap, subst, ◌∙◌, arith}
use Rattle.std.proofs.lemmas.List.{length-append}
use Rattle.ba_grammar.specs.Front.{Read, all, begins, is_keyword, is_sign}
use Rattle.ba_grammar.specs.Items.{AreSpelled, Item}
use Rattle.ba_grammar.specs.Items.Item.{keyword, sign}
use Rattle.ba_grammar.specs.declared.error.Syntax.{Syntax}
use Rattle.ba_grammar.proofs.WordLemmas.{Takes, bind_ok, err_ok, keyword_spelled, ok_same, sign_spelled, spelled_keyword, spelled_sign}
use Rattle.ba_lex.specs.declared.token.Lexeme.{Lexeme}
use Rattle.ba_lex.specs.declared.token.Sign.TheVariants.{LeftParen, RightParen, Semicolon}
use Rattle.ba_model.specs.Readings.{◌>>=◌}
use Rattle.ba_sql_ddl.specs.Brackets.{AreBalanced, closing, from_close, inside}
use Rattle.ba_sql_ddl.specs.Reader.{behind_end, behind_rule, behind_within, inclusion_at, or_syntax, statement_at, statements_at, table_at}
use Rattle.ba_sql_ddl.specs.Written.{AreStatements, Begins, InclusionText, IsInclusion, IsStatement, StatementText, rule_ends, rule_opens, table_items, within_opens}
use Rattle.ba_sql_ddl.specs.Written.StatementText.{inclusion, table}
use Rattle.ba_sql_ddl.specs.declared.written.TableText.{TableText}
use Rattle.ba_sql_ddl.proofs.BracketLemmas.{from_close_is, inside_balanced, inside_is, whole}
use Rattle.ba_sql_ddl.proofs.FormLemmas.{other_keyword}
use Rattle.ba_sql_ddl.proofs.TableLemmas.{table_complete, table_sound}

some_same : {A : Type 0} (a b : A) → ◌≡◌ {A = Option A} (Some a) (Some b) → a ≡ b
some_same a b e = cc

none_some : {A : Type 0} (a : A) → ◌≡◌ {A = Option A} None (Some a) → ⊥
none_some a e = cc

-- ---- items at the front

pub takes_begins : (is : List Item) (words rest : List Lexeme) → Takes is words rest → Begins is words rest
takes_begins [] words rest h = record { front = []; spelled = tt; are = h }
takes_begins (i ∷ is) words rest h =
    let f = takes_begins is h.1 rest h.4 in
    record { front = h.0 ∷ f.front; spelled = (h.3, f.spelled); are = h.2 ∙ ap (λ (r : List Lexeme). h.0 ∷ r) f.are }

front_takes : (is : List Item) (front rest : List Lexeme) → AreSpelled is front → Takes is (front ++ rest) rest
front_takes [] [] rest h = refl
front_takes [] (x ∷ xs) rest h = absurd h
front_takes (i ∷ is) [] rest h = absurd h
front_takes (i ∷ is) (x ∷ xs) rest h = (x, xs ++ rest, refl, h.0, front_takes is xs rest h.1)

pub begins_takes : (is : List Item) (words rest : List Lexeme) → Begins is words rest → Takes is words rest
begins_takes is words rest h = subst (λ (ws : List Lexeme). Takes is ws rest) (sym h.are) (front_takes is h.front rest h.spelled)

-- ---- RULE "("

rule_found : (x y : Lexeme) (r rest : List Lexeme) → behind_rule (x ∷ y ∷ r) ≡ Some rest → Begins rule_opens (x ∷ y ∷ r) rest
unfolding behind_rule
rule_found x y r rest e = at (is_keyword (codes "RULE") x) refl (is_sign LeftParen y) refl
  where
    at : (a : Bool) → is_keyword (codes "RULE") x ≡ a → (b : Bool) → is_sign LeftParen y ≡ b → Begins rule_opens (x ∷ y ∷ r) rest
    at true h true k =
        let same = some_same r rest (rw (h, k) at e) in
        record { front = x ∷ y ∷ []; spelled = (keyword_spelled (codes "RULE") x h, (sign_spelled LeftParen y k, tt)); are = ap (λ (q : List Lexeme). x ∷ y ∷ q) same }
    at true h false k = absurd (none_some rest (rw (h, k) at e))
    at false h b k = absurd (none_some rest (rw h at e))

pub rule_sound : (words rest : List Lexeme) → behind_rule words ≡ Some rest → Begins rule_opens words rest
unfolding behind_rule
rule_sound [] rest e = absurd (none_some rest e)
rule_sound (x ∷ []) rest e = absurd (none_some rest e)
rule_sound (x ∷ y ∷ r) rest e = rule_found x y r rest e

rule_at : (front rest : List Lexeme) → AreSpelled rule_opens front → behind_rule (front ++ rest) ≡ Some rest
unfolding behind_rule
rule_at [] rest h = absurd h
rule_at (x ∷ []) rest h = absurd h.1
rule_at (x ∷ y ∷ []) rest h = rw (spelled_keyword (codes "RULE") x h.0, spelled_sign LeftParen y h.1.0) refl
rule_at (x ∷ y ∷ z ∷ zs) rest h = absurd h.1.1

pub rule_complete : (words rest : List Lexeme) → Begins rule_opens words rest → behind_rule words ≡ Some rest
rule_complete words rest h = ap behind_rule h.are ∙ rule_at h.front rest h.spelled

-- ---- ")" WITHIN "("

within_found : (x y z : Lexeme) (r rest : List Lexeme) → behind_within (x ∷ y ∷ z ∷ r) ≡ Some rest → Begins within_opens (x ∷ y ∷ z ∷ r) rest
unfolding behind_within
within_found x y z r rest e = at (is_sign RightParen x) refl (is_keyword (codes "WITHIN") y) refl (is_sign LeftParen z) refl
  where
    at : (a : Bool) → is_sign RightParen x ≡ a → (b : Bool) → is_keyword (codes "WITHIN") y ≡ b → (c : Bool) → is_sign LeftParen z ≡ c → Begins within_opens (x ∷ y ∷ z ∷ r) rest
    at true h true k true l =
        let same = some_same r rest (rw (h, k, l) at e) in
        record {
          front = x ∷ y ∷ z ∷ [];
          spelled = (sign_spelled RightParen x h, (keyword_spelled (codes "WITHIN") y k, (sign_spelled LeftParen z l, tt)));
          are = ap (λ (q : List Lexeme). x ∷ y ∷ z ∷ q) same;
        }
    at true h true k false l = absurd (none_some rest (rw (h, k, l) at e))
    at true h false k c l = absurd (none_some rest (rw (h, k) at e))
    at false h b k c l = absurd (none_some rest (rw h at e))

pub within_sound : (words rest : List Lexeme) → behind_within words ≡ Some rest → Begins within_opens words rest
unfolding behind_within
within_sound [] rest e = absurd (none_some rest e)
within_sound (x ∷ []) rest e = absurd (none_some rest e)
within_sound (x ∷ y ∷ []) rest e = absurd (none_some rest e)
within_sound (x ∷ y ∷ z ∷ r) rest e = within_found x y z r rest e

within_at : (front rest : List Lexeme) → AreSpelled within_opens front → behind_within (front ++ rest) ≡ Some rest
unfolding behind_within
within_at [] rest h = absurd h
within_at (x ∷ []) rest h = absurd h.1
within_at (x ∷ y ∷ []) rest h = absurd h.1.1
within_at (x ∷ y ∷ z ∷ []) rest h = rw (spelled_sign RightParen x h.0, spelled_keyword (codes "WITHIN") y h.1.0, spelled_sign LeftParen z h.1.1.0) refl
within_at (x ∷ y ∷ z ∷ w ∷ ws) rest h = absurd h.1.1.1

pub within_complete : (words rest : List Lexeme) → Begins within_opens words rest → behind_within words ≡ Some rest
within_complete words rest h = ap behind_within h.are ∙ within_at h.front rest h.spelled

-- ---- ")" ";"

end_found : (x y : Lexeme) (r rest : List Lexeme) → behind_end (x ∷ y ∷ r) ≡ Some rest → Begins rule_ends (x ∷ y ∷ r) rest
unfolding behind_end
end_found x y r rest e = at (is_sign RightParen x) refl (is_sign Semicolon y) refl
  where
    at : (a : Bool) → is_sign RightParen x ≡ a → (b : Bool) → is_sign Semicolon y ≡ b → Begins rule_ends (x ∷ y ∷ r) rest
    at true h true k =
        let same = some_same r rest (rw (h, k) at e) in
        record { front = x ∷ y ∷ []; spelled = (sign_spelled RightParen x h, (sign_spelled Semicolon y k, tt)); are = ap (λ (q : List Lexeme). x ∷ y ∷ q) same }
    at true h false k = absurd (none_some rest (rw (h, k) at e))
    at false h b k = absurd (none_some rest (rw h at e))

end_sound : (words rest : List Lexeme) → behind_end words ≡ Some rest → Begins rule_ends words rest
unfolding behind_end
end_sound [] rest e = absurd (none_some rest e)
end_sound (x ∷ []) rest e = absurd (none_some rest e)
end_sound (x ∷ y ∷ r) rest e = end_found x y r rest e

end_at : (front rest : List Lexeme) → AreSpelled rule_ends front → behind_end (front ++ rest) ≡ Some rest
unfolding behind_end
end_at [] rest h = absurd h
end_at (x ∷ []) rest h = absurd h.1
end_at (x ∷ y ∷ []) rest h = rw (spelled_sign RightParen x h.0, spelled_sign Semicolon y h.1.0) refl
end_at (x ∷ y ∷ z ∷ zs) rest h = absurd h.1.1

end_complete : (words rest : List Lexeme) → Begins rule_ends words rest → behind_end words ≡ Some rest
end_complete words rest h = ap behind_end h.are ∙ end_at h.front rest h.spelled

-- ---- an inclusion rule

-- what begins so begins with a bracket that closes
begins_closing : (words rest : List Lexeme) → Begins within_opens words rest → (others : List Lexeme) × (words ≡ closing ∷ others)
begins_closing words rest h = at h.front h.spelled h.are
  where
    at : (front : List Lexeme) → AreSpelled within_opens front → words ≡ front ++ rest → (others : List Lexeme) × (words ≡ closing ∷ others)
    at [] s e = absurd s
    at (x ∷ xs) s e = (xs ++ rest, e ∙ ap (λ (y : Lexeme). y ∷ (xs ++ rest)) s.0)

ends_closing : (words rest : List Lexeme) → Begins rule_ends words rest → (others : List Lexeme) × (words ≡ closing ∷ others)
ends_closing words rest h = at h.front h.spelled h.are
  where
    at : (front : List Lexeme) → AreSpelled rule_ends front → words ≡ front ++ rest → (others : List Lexeme) × (words ≡ closing ∷ others)
    at [] s e = absurd s
    at (x ∷ xs) s e = (xs ++ rest, e ∙ ap (λ (y : Lexeme). y ∷ (xs ++ rest)) s.0)

some_words : (words others : List Lexeme) (x : Lexeme) → words ≡ x ∷ others → words ≢ []
some_words words others x e f = no_words x others (sym e ∙ f)
  where
    no_words : (y : Lexeme) (ys : List Lexeme) → y ∷ ys ≡ [] → ⊥
    no_words y ys g = cc

syntax_ok : (o : Option (List Lexeme)) (rest : List Lexeme) → or_syntax o ≡ Ok rest → o ≡ Some rest
syntax_ok None rest e = absurd (err_ok rest e)
syntax_ok (Some r) rest e = ap (λ (q : List Lexeme). Some q) (ok_same r rest e)

abbrev text_of : List Lexeme → List Lexeme → InclusionText
text_of left right = record { left = inside left; right = inside right }

abbrev end_of : List Lexeme → List Lexeme → List Lexeme → Read InclusionText
end_of left right rest = Ok (text_of left right, rest)

abbrev right_of : List Lexeme → List Lexeme → Read InclusionText
right_of left right = or_syntax (behind_end (from_close right)) >>= end_of left right

abbrev left_of : List Lexeme → Read InclusionText
left_of left = or_syntax (behind_within (from_close left)) >>= right_of left

pub inclusion_sound : (words : List Lexeme) (p : InclusionText × List Lexeme) → inclusion_at words ≡ Ok p → IsInclusion p.0 words p.1
unfolding inclusion_at
inclusion_sound words p e =
    let a = bind_ok (or_syntax (behind_rule words)) left_of p e in
    let b = bind_ok (or_syntax (behind_within (from_close a.0))) (right_of a.0) p a.2 in
    let c = bind_ok (or_syntax (behind_end (from_close b.0))) (end_of a.0 b.0) p b.2 in
    let opens = rule_sound words a.0 (syntax_ok (behind_rule words) a.0 a.1) in
    let within = within_sound (from_close a.0) b.0 (syntax_ok (behind_within (from_close a.0)) b.0 b.1) in
    let ends = end_sound (from_close b.0) c.0 (syntax_ok (behind_end (from_close b.0)) c.0 c.1) in
    let l = begins_closing (from_close a.0) b.0 within in
    let r = ends_closing (from_close b.0) c.0 ends in
    subst (λ (q : InclusionText × List Lexeme). IsInclusion q.0 words q.1) (ok_same (text_of a.0 b.0, c.0) p c.2) (record {
      middle = from_close a.0;
      back = from_close b.0;
      opens = subst (λ (ws : List Lexeme). Begins rule_opens words ws) (whole a.0) opens;
      left = inside_balanced a.0 (some_words (from_close a.0) l.0 closing l.1);
      within = subst (λ (ws : List Lexeme). Begins within_opens (from_close a.0) ws) (whole b.0) within;
      right = inside_balanced b.0 (some_words (from_close b.0) r.0 closing r.1);
      ends = ends;
    })

-- the words inside and behind, where balanced words stand before a bracket that closes
inside_front : (q back others : List Lexeme) → AreBalanced q → back ≡ closing ∷ others → inside (q ++ back) ≡ q
inside_front q back others b e = ap (λ (r : List Lexeme). inside (q ++ r)) e ∙ inside_is q others b

behind_front : (q back others : List Lexeme) → AreBalanced q → back ≡ closing ∷ others → from_close (q ++ back) ≡ back
behind_front q back others b e = ap (λ (r : List Lexeme). from_close (q ++ r)) e ∙ from_close_is q others b ∙ sym e

pub inclusion_complete : (words rest : List Lexeme) (text : InclusionText) → IsInclusion text words rest → inclusion_at words ≡ Ok (text, rest)
unfolding inclusion_at
inclusion_complete words rest text h =
    let l = begins_closing h.middle (text.right ++ h.back) h.within in
    let r = ends_closing h.back rest h.ends in
    let left : inside (text.left ++ h.middle) ≡ text.left = inside_front text.left h.middle l.0 h.left l.1 in
    let right : inside (text.right ++ h.back) ≡ text.right = inside_front text.right h.back r.0 h.right r.1 in
    let opens : behind_rule words ≡ Some (text.left ++ h.middle) = rule_complete words (text.left ++ h.middle) h.opens in
    let within : behind_within (from_close (text.left ++ h.middle)) ≡ Some (text.right ++ h.back) =
    ap behind_within (behind_front text.left h.middle l.0 h.left l.1) ∙ within_complete h.middle (text.right ++ h.back) h.within in
    let ends : behind_end (from_close (text.right ++ h.back)) ≡ Some rest = ap behind_end (behind_front text.right h.back r.0 h.right r.1) ∙ end_complete h.back rest h.ends in
    rw opens (rw within (rw ends (λ i. Ok (record { left = left i; right = right i }, rest))))

-- ---- a statement

pub record IsRead (words : List Lexeme) (p : StatementText × List Lexeme) : Type 0 where
  pub is : IsStatement p.0 words p.1

abbrev of_table : TableText × List Lexeme → Read StatementText
of_table t = Ok (table t.0, t.1)

abbrev of_inclusion : InclusionText × List Lexeme → Read StatementText
of_inclusion i = Ok (inclusion i.0, i.1)

statement_sound : (words : List Lexeme) (p : StatementText × List Lexeme) → statement_at words ≡ Ok p → IsRead words p
unfolding statement_at
statement_sound words p e = at (begins (is_keyword (codes "RULE")) words) refl
  where
    at : (t : Bool) → begins (is_keyword (codes "RULE")) words ≡ t → IsRead words p
    at true h =
        let a = bind_ok (inclusion_at words) of_inclusion p (rw h at e) in
        subst (IsRead words) (ok_same (inclusion a.0.0, a.0.1) p a.2) (record { is = inclusion_sound words a.0 a.1 })
    at false h =
        let a = bind_ok (table_at words) of_table p (rw h at e) in
        let t = table_sound words a.0.1 a.0.0 a.1 in
        subst (IsRead words) (ok_same (table a.0.0, a.0.1) p a.2) (record { is = (t.1, takes_begins (table_items a.0.0) words a.0.1 t.0) })

rule_begins : (words rest : List Lexeme) → Begins rule_opens words rest → begins (is_keyword (codes "RULE")) words ≡ true
rule_begins words rest h = at h.front h.spelled h.are
  where
    at : (front : List Lexeme) → AreSpelled rule_opens front → words ≡ front ++ rest → begins (is_keyword (codes "RULE")) words ≡ true
    at [] s e = absurd s
    at (x ∷ xs) s e = rw e (spelled_keyword (codes "RULE") x s.0)

statement_complete : (s : StatementText) (words rest : List Lexeme) → IsStatement s words rest → statement_at words ≡ Ok (s, rest)
unfolding statement_at
statement_complete (table t) words rest h =
    let k = begins_takes (table_items t) words rest h.1 in
    let other : begins (is_keyword (codes "RULE")) words ≡ false = rw (k.2, other_keyword (codes "CREATE") (codes "RULE") k.0 k.3 refl) refl in
    rw (other, table_complete words rest t k h.0) refl
statement_complete (inclusion i) words rest h = rw (rule_begins words (i.left ++ h.middle) h.opens, inclusion_complete words rest i h) refl

-- ---- all of the words

abbrev put_all : StatementText → List StatementText → Result (List StatementText) Syntax
put_all x ys = Ok (x ∷ ys)

abbrev and_all : ℕ → StatementText × List Lexeme → Result (List StatementText) Syntax
and_all fuel x = all statement_at fuel x.1 >>= put_all x.0

all_sound : (fuel : ℕ) (words : List Lexeme) (ss : List StatementText) → all statement_at fuel words ≡ Ok ss → AreStatements ss words
unfolding all
all_sound fuel [] ss e = subst (λ (xs : List StatementText). AreStatements xs []) (ok_same [] ss e) refl
all_sound zero (w ∷ ws) ss e = absurd (err_ok ss e)
all_sound (suc fuel) (w ∷ ws) ss e =
    let a = bind_ok (statement_at (w ∷ ws)) (and_all fuel) ss e in
    let b = bind_ok (all statement_at fuel a.0.1) (put_all a.0.0) ss a.2 in
    let s = statement_sound (w ∷ ws) a.0 a.1 in
    subst (λ (xs : List StatementText). AreStatements xs (w ∷ ws)) (ok_same (a.0.0 ∷ b.0) ss b.2) (a.0.1, s.is, all_sound fuel a.0.1 b.0 b.1)

-- a statement has a word, and those behind it are fewer
record Shrinks (words rest : List Lexeme) : Type 0 where
  word : Lexeme
  others : List Lexeme
  are : words ≡ word ∷ others
  fewer : length rest ≤ length others

front_shrinks : (i : Item) (is : List Item) (words mid rest : List Lexeme) → Begins (i ∷ is) words mid → length rest ≤ length mid → Shrinks words rest
front_shrinks i is words mid rest h le = at h.front h.spelled h.are
  where
    at : (front : List Lexeme) → AreSpelled (i ∷ is) front → words ≡ front ++ mid → Shrinks words rest
    at [] s e = absurd s
    at (x ∷ xs) s e = record { word = x; others = xs ++ mid; are = e; fewer = omega (arith, le, length-append xs mid) }

begins_size : (is : List Item) (words rest : List Lexeme) → Begins is words rest → length rest ≤ length words
begins_size is words rest h = let size = ap length h.are in omega (arith, size, length-append h.front rest)

shrinks : (s : StatementText) (words rest : List Lexeme) → IsStatement s words rest → Shrinks words rest
shrinks (table t) words rest h = front_shrinks (keyword (codes "CREATE")) (drop 1 (table_items t)) words rest rest h.1 (omega arith)
shrinks (inclusion i) words rest h =
    let back = begins_size rule_ends h.back rest h.ends in
    let middle = begins_size within_opens h.middle (i.right ++ h.back) h.within in
    front_shrinks (keyword (codes "RULE")) (sign LeftParen ∷ []) words (i.left ++ h.middle) rest h.opens (omega (arith, back, middle, length-append i.right h.back, length-append i.left h.middle))

all_complete : (ss : List StatementText) (fuel : ℕ) (words : List Lexeme) → length words ≤ fuel → AreStatements ss words → all statement_at fuel words ≡ Ok ss
unfolding all
all_complete [] fuel words le h = rw h refl
all_complete (s ∷ ss) zero words le h =
    let some = shrinks s words h.0 h.1 in
    let size = ap length some.are in
    absurd (omega (arith, le, size))
all_complete (s ∷ ss) (suc fuel) words le h =
    let some = shrinks s words h.0 h.1 in
    let size = ap length some.are in
    let fewer = some.fewer in
    let left : length h.0 ≤ fuel = omega (arith, le, size, fewer) in
    let read : statement_at (some.word ∷ some.others) ≡ Ok (s, h.0) = ap statement_at (sym some.are) ∙ statement_complete s words h.0 h.1 in
    rw some.are (rw read (rw (all_complete ss fuel h.0 left h.2) refl))

pub statements_sound : (words : List Lexeme) (ss : List StatementText) → statements_at words ≡ Ok ss → AreStatements ss words
statements_sound words ss e = all_sound (length words) words ss e

pub statements_complete : (words : List Lexeme) (ss : List StatementText) → AreStatements ss words → statements_at words ≡ Ok ss
statements_complete words ss h = all_complete ss (length words) words (omega arith) h
