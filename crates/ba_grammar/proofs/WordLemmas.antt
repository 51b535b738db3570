-- What is read at the front is spelled so, and what is spelled so is read.
use Rattle.std.proofs.Common.{◌≡◌, ℕ, zero, suc, ◌+◌, ℤ, Bool, true, false, cond, List, [], ◌∷◌, ◌++◌, length, Result, Ok, Err, refl, sym, ap, subst, ◌∙◌, arith, inl, inr}
use Rattle.std.proofs.lemmas.Bool.{eqb-true, eq-eqb}
use Rattle.ba_lex.specs.declared.token.Lexeme.{Lexeme}
use Rattle.ba_lex.specs.declared.token.Lexeme.TheVariants.{Word, Quoted, Number, Text, Param, Sign as SignWord}
use Rattle.ba_lex.specs.declared.token.Sign.{Sign}
use Rattle.ba_lex.specs.declared.token.Sign.TheVariants.{LeftParen, RightParen, Comma, Dot, Semicolon, Star, Equal, NotEqual, BangEqual, Less, LessEqual, Greater, GreaterEqual, Plus, Minus, Slash, Percent}
use Rattle.ba_model.specs.Readings.{◌>>=◌}
use Rattle.ba_grammar.specs.Items.{AreSpelled, Item, Spells, is_among, sign_number}
use Rattle.ba_grammar.specs.Items.Item.{any, keyword, name, number, sign}
use Rattle.ba_grammar.specs.Front.{any_at, begins, is_keyword, is_sign, name_at, number_at, past, syntax}
use Rattle.ba_grammar.specs.declared.error.Syntax.{Syntax}

pub bind_ok : {A B : Type 0} (r : Result A Syntax) (f : A → Result B Syntax) (y : B) → (r >>= f) ≡ Ok y → (x : A) × (r ≡ Ok x) × (f x ≡ Ok y)
bind_ok (Ok x) f y e = (x, refl, e)
bind_ok (Err r) f y e = cc

pub ok_same : {A : Type 0} (x y : A) → ◌≡◌ {A = Result A Syntax} (Ok x) (Ok y) → x ≡ y
ok_same x y e = cc

pub err_ok : {A : Type 0} (y : A) → ◌≡◌ {A = Result A Syntax} (Err syntax) (Ok y) → ⊥
err_ok y e = cc

-- ---- the items stand at the front of the words, and behind them the rest

abbrev pub Takes : List Item → List Lexeme → List Lexeme → Type 0
Takes [] words rest = words ≡ rest
Takes (item ∷ items) words rest = (x : Lexeme) × (xs : List Lexeme) × (words ≡ x ∷ xs) × Spells item x × Takes items xs rest

pub then : (is js : List Item) (words mid rest : List Lexeme) → Takes is words mid → Takes js mid rest → Takes (is ++ js) words rest
then [] js words mid rest h k = subst (λ (w : List Lexeme). Takes js w rest) (sym h) k
then (i ∷ is) js words mid rest h k = (h.0, h.1, h.2, h.3, then is js h.1 mid rest h.4 k)

pub parts : (is js : List Item) (words rest : List Lexeme) → Takes (is ++ js) words rest → (mid : List Lexeme) × Takes is words mid × Takes js mid rest
parts [] js words rest h = (words, refl, h)
parts (i ∷ is) js words rest h = let p = parts is js h.1 rest h.4 in (p.0, (h.0, h.1, h.2, h.3, p.1), p.2)

pub to_spelled : (is : List Item) (words : List Lexeme) → Takes is words [] → AreSpelled is words
to_spelled [] words h = subst (AreSpelled []) (sym h) tt
to_spelled (i ∷ is) words h = subst (AreSpelled (i ∷ is)) (sym h.2) (h.3, to_spelled is h.1 h.4)

pub from_spelled : (is : List Item) (words : List Lexeme) → AreSpelled is words → Takes is words []
from_spelled [] [] h = refl
from_spelled [] (x ∷ xs) h = absurd h
from_spelled (i ∷ is) [] h = absurd h
from_spelled (i ∷ is) (x ∷ xs) h = (x, xs, refl, h.0, from_spelled is xs h.1)

pub takes_size : (is : List Item) (words rest : List Lexeme) → Takes is words rest → length words ≡ length is + length rest
takes_size [] words rest h = let e = ap length h in omega (arith, e)
takes_size (i ∷ is) words rest h = let e = ap length h.2 in let more = takes_size is h.1 rest h.4 in omega (arith, e, more)

-- ---- one word

pub keyword_spelled : (k : List ℕ) (x : Lexeme) → is_keyword k x ≡ true → Spells (keyword k) x
keyword_spelled k (Word w) h = (w, refl, h)
keyword_spelled k (Quoted n) h = cc
keyword_spelled k (Number n) h = cc
keyword_spelled k (Text t) h = cc
keyword_spelled k (Param p) h = cc
keyword_spelled k (SignWord s) h = cc

pub spelled_keyword : (k : List ℕ) (x : Lexeme) → Spells (keyword k) x → is_keyword k x ≡ true
spelled_keyword k x h = rw h.1 h.2

abbrev sign_from : ℕ → Sign
sign_from zero = LeftParen
sign_from (suc zero) = RightParen
sign_from (suc (suc zero)) = Comma
sign_from (suc (suc (suc zero))) = Dot
sign_from (suc (suc (suc (suc zero)))) = Semicolon
sign_from (suc (suc (suc (suc (suc zero))))) = Star
sign_from (suc (suc (suc (suc (suc (suc zero)))))) = Equal
sign_from (suc (suc (suc (suc (suc (suc (suc zero))))))) = NotEqual
sign_from (suc (suc (suc (suc (suc (suc (suc (suc zero)))))))) = BangEqual
sign_from (suc (suc (suc (suc (suc (suc (suc (suc (suc zero))))))))) = Less
sign_from (suc (suc (suc (suc (suc (suc (suc (suc (suc (suc zero)))))))))) = LessEqual
sign_from (suc (suc (suc (suc (suc (suc (suc (suc (suc (suc (suc zero))))))))))) = Greater
sign_from (suc (suc (suc (suc (suc (suc (suc (suc (suc (suc (suc (suc zero)))))))))))) = GreaterEqual
sign_from (suc (suc (suc (suc (suc (suc (suc (suc (suc (suc (suc (suc (suc zero))))))))))))) = Plus
sign_from (suc (suc (suc (suc (suc (suc (suc (suc (suc (suc (suc (suc (suc (suc zero)))))))))))))) = Minus
sign_from (suc (suc (suc (suc (suc (suc (suc (suc (suc (suc (suc (suc (suc (suc (suc zero))))))))))))))) = Slash
sign_from _ = Percent

sign_back : (s : Sign) → sign_from (sign_number s) ≡ s
sign_back LeftParen = refl
sign_back RightParen = refl
sign_back Comma = refl
sign_back Dot = refl
sign_back Semicolon = refl
sign_back Star = refl
sign_back Equal = refl
sign_back NotEqual = refl
sign_back BangEqual = refl
sign_back Less = refl
sign_back LessEqual = refl
sign_back Greater = refl
sign_back GreaterEqual = refl
sign_back Plus = refl
sign_back Minus = refl
sign_back Slash = refl
sign_back Percent = refl

pub sign_spelled : (s : Sign) (x : Lexeme) → is_sign s x ≡ true → Spells (sign s) x
sign_spelled s (SignWord t) h = ap SignWord (sym (sign_back t) ∙ ap sign_from (eqb-true (sign_number t) (sign_number s) h) ∙ sign_back s)
sign_spelled s (Word w) h = cc
sign_spelled s (Quoted n) h = cc
sign_spelled s (Number n) h = cc
sign_spelled s (Text t) h = cc
sign_spelled s (Param p) h = cc

pub spelled_sign : (s : Sign) (x : Lexeme) → Spells (sign s) x → is_sign s x ≡ true
spelled_sign s x h = rw h (eq-eqb (sign_number s) (sign_number s) refl)

past_is : (test : Lexeme → Bool) (words rest : List Lexeme) → past test words ≡ Ok rest → (x : Lexeme) × (words ≡ x ∷ rest) × (test x ≡ true)
past_is test [] rest e = cc
past_is test (x ∷ xs) rest e = at (test x) refl
  where
    at : (t : Bool) → test x ≡ t → (y : Lexeme) × (x ∷ xs ≡ y ∷ rest) × (test y ≡ true)
    at true h = (x, ap (λ (r : List Lexeme). x ∷ r) (ok_same xs rest (rw h at e)), h)
    at false h = absurd (err_ok rest (rw h at e))

pub takes_keyword : (k : List ℕ) (words rest : List Lexeme) → past (is_keyword k) words ≡ Ok rest → Takes (keyword k ∷ []) words rest
takes_keyword k words rest e = let p = past_is (is_keyword k) words rest e in (p.0, rest, p.1, keyword_spelled k p.0 p.2, refl)

pub past_keyword : (k : List ℕ) (x : Lexeme) (words xs : List Lexeme) → words ≡ x ∷ xs → Spells (keyword k) x → past (is_keyword k) words ≡ Ok xs
past_keyword k x words xs e h = rw e (rw (spelled_keyword k x h) refl)

pub takes_sign : (s : Sign) (words rest : List Lexeme) → past (is_sign s) words ≡ Ok rest → Takes (sign s ∷ []) words rest
takes_sign s words rest e = let p = past_is (is_sign s) words rest e in (p.0, rest, p.1, sign_spelled s p.0 p.2, refl)

pub past_sign : (s : Sign) (x : Lexeme) (words xs : List Lexeme) → words ≡ x ∷ xs → Spells (sign s) x → past (is_sign s) words ≡ Ok xs
past_sign s x words xs e h = rw e (rw (spelled_sign s x h) refl)

-- a keyword is no sign, a sign no keyword, and what begins with one doesn't begin with the other
pub keyword_no_sign : (k : List ℕ) (s : Sign) (x : Lexeme) (words xs : List Lexeme) → words ≡ x ∷ xs → Spells (keyword k) x → begins (is_sign s) words ≡ false
keyword_no_sign k s x words xs e h = rw (e, h.1) refl

pub sign_no_keyword : (k : List ℕ) (s : Sign) (x : Lexeme) (words xs : List Lexeme) → words ≡ x ∷ xs → Spells (sign s) x → begins (is_keyword k) words ≡ false
sign_no_keyword k s x words xs e h = rw (e, h) refl

pub takes_any : (words rest : List Lexeme) (w : List ℕ) → any_at words ≡ Ok (w, rest) → Takes (any w ∷ []) words rest
unfolding any_at
takes_any [] rest w e = cc
takes_any (Word v ∷ xs) rest w e = let same = ok_same (v, xs) (w, rest) e in (Word v, xs, refl, ap (λ (p : List ℕ × List Lexeme). Word p.0) same, ap (λ (p : List ℕ × List Lexeme). p.1) same)
takes_any (Quoted n ∷ xs) rest w e = cc
takes_any (Number n ∷ xs) rest w e = cc
takes_any (Text t ∷ xs) rest w e = cc
takes_any (Param p ∷ xs) rest w e = cc
takes_any (SignWord s ∷ xs) rest w e = cc

pub any_read : (words xs : List Lexeme) (x : Lexeme) (w : List ℕ) → words ≡ x ∷ xs → x ≡ Word w → any_at words ≡ Ok (w, xs)
unfolding any_at
any_read words xs x w e h = rw (e, h) refl

-- a word that isn't reserved
named : (reserved : List (List ℕ)) (xs rest : List Lexeme) (v w : List ℕ) → (t : Bool) → is_among reserved v ≡ t → cond {A = Result (List ℕ × List Lexeme) Syntax} t (Err syntax) (Ok (v, xs)) ≡ Ok (w, rest) → Takes (name reserved w ∷ []) (Word v ∷ xs) rest
named reserved xs rest v w true h e = absurd (err_ok (w, rest) e)
named reserved xs rest v w false h e =
    let same : (v, xs) ≡ (w, rest) = ok_same (v, xs) (w, rest) e in
    let free : is_among reserved w ≡ false = ap (λ (q : List ℕ × List Lexeme). is_among reserved q.0) (sym same) ∙ h in
    (Word v, xs, refl, inl (ap (λ (q : List ℕ × List Lexeme). Word q.0) same, free), ap (λ (q : List ℕ × List Lexeme). q.1) same)

pub takes_name : (reserved : List (List ℕ)) (words rest : List Lexeme) (w : List ℕ) → name_at reserved words ≡ Ok (w, rest) → Takes (name reserved w ∷ []) words rest
unfolding name_at
takes_name reserved [] rest w e = cc
takes_name reserved (Word v ∷ xs) rest w e = named reserved xs rest v w (is_among reserved v) refl e
takes_name reserved (Quoted n ∷ xs) rest w e =
    let same = ok_same (n, xs) (w, rest) e in (Quoted n, xs, refl, inr (ap (λ (p : List ℕ × List Lexeme). Quoted p.0) same), ap (λ (p : List ℕ × List Lexeme). p.1) same)
takes_name reserved (Number n ∷ xs) rest w e = cc
takes_name reserved (Text t ∷ xs) rest w e = cc
takes_name reserved (Param p ∷ xs) rest w e = cc
takes_name reserved (SignWord s ∷ xs) rest w e = cc

pub name_read : (reserved : List (List ℕ)) (words xs : List Lexeme) (x : Lexeme) (w : List ℕ) → words ≡ x ∷ xs → Spells (name reserved w) x → name_at reserved words ≡ Ok (w, xs)
unfolding name_at
name_read reserved words xs x w e (inl h) = rw (e, h.0) (rw h.1 refl)
name_read reserved words xs x w e (inr h) = rw (e, h) refl

pub takes_number : (words rest : List Lexeme) (n : ℤ) → number_at words ≡ Ok (n, rest) → Takes (number n ∷ []) words rest
unfolding number_at
takes_number [] rest w e = cc
takes_number (Number v ∷ xs) rest w e = let same = ok_same (v, xs) (w, rest) e in (Number v, xs, refl, ap (λ (p : ℤ × List Lexeme). Number p.0) same, ap (λ (p : ℤ × List Lexeme). p.1) same)
takes_number (Word n ∷ xs) rest w e = cc
takes_number (Quoted n ∷ xs) rest w e = cc
takes_number (Text t ∷ xs) rest w e = cc
takes_number (Param p ∷ xs) rest w e = cc
takes_number (SignWord s ∷ xs) rest w e = cc

pub number_read : (words xs : List Lexeme) (x : Lexeme) (n : ℤ) → words ≡ x ∷ xs → x ≡ Number n → number_at words ≡ Ok (n, xs)
unfolding number_at
number_read words xs x n e h = rw (e, h) refl
