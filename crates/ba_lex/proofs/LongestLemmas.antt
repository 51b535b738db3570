-- What stands at the front is at least as long as each token that begins there.
use Rattle.std.proofs.Common.{◌≡◌, ℕ, suc, ◌+◌, ◌<◌, ◌≤◌, ℤ, pos, neg_ℤ, Bool, true, false, not, ◌&&◌, eqb, nat_le, List, [], ◌∷◌, ◌++◌, length, take, Option, Some, None, option_map, ◌⊎◌, inl, inr, refl, sym, ap, subst, ◌∙◌, arith, append_assoc, length-append, eq-eqb}
use Rattle.std.specs.List.{list_all, prefix_len}
use Rattle.std.specs.Option.{option_map_or}
use Rattle.std.proofs.lemmas.Bool.{and_parts, both_ways, cond_both, eqb-true, or_cases}
use Rattle.std.proofs.lemmas.Bool.Decides.{nat_tests}
use Rattle.std.proofs.lemmas.List.{take_at}
use Rattle.ba_lex.specs.Spelling.{IsToken, SpellsName, SpellsNumber, are_digits, are_name_bytes, are_word_bytes, digits_value, doubled, is_blank, is_digit, is_letter, is_name_byte, is_name_quote, is_word_byte, sign_bytes}
use Rattle.ba_lex.specs.Tokens.{dash, front, name, name_of_len, pair_after, param, shape_of, sign, sign_of_len, single, text, text_len}
use Rattle.ba_lex.specs.declared.front.Piece.{Piece}
use Rattle.ba_lex.specs.declared.front.Piece.TheVariants.{Gap, Found, Bad}
use Rattle.ba_lex.specs.declared.front.Shape.{Shape}
use Rattle.ba_lex.specs.declared.front.Shape.TheVariants as shapes
use Rattle.ba_lex.specs.declared.token.LexFault.{LexFault}
use Rattle.ba_lex.specs.declared.token.LexFault.TheVariants.{TooLong, BadByte, OpenQuote, NumberTooLarge}
use Rattle.ba_lex.specs.declared.token.Lexeme.{Lexeme}
use Rattle.ba_lex.specs.declared.token.Lexeme.TheVariants as lexemes
use Rattle.ba_lex.specs.declared.token.Sign.{Sign}
use Rattle.ba_lex.specs.declared.token.Sign.TheVariants.{LeftParen, RightParen, Comma, Dot, Semicolon, Star, Equal, NotEqual, BangEqual, Less, LessEqual, Greater, GreaterEqual, Plus, Minus, Slash, Percent}

-- Where a token of this shape and k bytes begins with b, what stands at the front is of the shape and as long, or longer. A comment may stand
-- there only where b is a dash, and a quote without its end only where the token is a text.
abbrev pub ReachesBad : Shape → LexFault → Type 0
ReachesBad shape TooLong = ⊥
ReachesBad shape BadByte = ⊥
ReachesBad shape NumberTooLarge = ⊥
ReachesBad shape OpenQuote = shape ≡ shapes.Text

abbrev pub Reaches : ℕ → ℕ → Shape → Piece → Type 0
Reaches b k shape (Gap n) = b ≡ 45
Reaches b k shape (Bad f) = ReachesBad shape f
Reaches b k shape (Found found n) = ((found ≡ shape) × (k ≤ n)) ⊎ (k < n)

-- a run is at least as long as a front that passes
runs : (p : ℕ → Bool) (xs ys : List ℕ) → list_all p xs ≡ true → length xs ≤ prefix_len p (xs ++ ys)
runs p [] ys h = omega arith
runs p (x ∷ xs) ys h =
    let q = and_parts (p x) (list_all p xs) h in
    let more = runs p xs ys q.1 in
    rw q.0 (omega (arith, more))

blank_or_letter : (b : ℕ) → is_blank b ≡ true → is_letter b ≡ true → ⊥
blank_or_letter b h e = grind (arith, nat_tests)

blank_or_digit : (b : ℕ) → is_blank b ≡ true → is_digit b ≡ true → ⊥
blank_or_digit b h e = grind (arith, nat_tests)

digit_or_dash : (b : ℕ) → is_digit b ≡ true → eqb b 45 ≡ true → ⊥
digit_or_dash b h e = grind (arith, nat_tests)

letter_or_digit : (b : ℕ) → is_letter b ≡ true → is_digit b ≡ true → ⊥
letter_or_digit b h e = grind (arith, nat_tests)

word_reaches : (w more : List ℕ) (b : ℕ) (bs : List ℕ) → are_word_bytes w ≡ true → b ∷ bs ≡ w ++ more → Reaches b (length w) shapes.Word (front b bs)
unfolding front
word_reaches [] more b bs h e = cc
word_reaches (c ∷ ws) more b bs h e =
    let q = and_parts (is_letter c) (list_all is_word_byte ws) h in
    let head : b ≡ c = cc in
    let tail : bs ≡ ws ++ more = cc in
    rw (head, tail)
    (cond_both (is_blank c) _ _ (Reaches c (suc (length ws)) shapes.Word) (λ s. absurd (blank_or_letter c s q.0))
    (λ _. cond_both (is_letter c) _ _ (Reaches c (suc (length ws)) shapes.Word) (λ _. inl (refl, omega (arith, runs is_word_byte ws more q.1))) (λ no. absurd (both_ways (is_letter c) no q.0))))

digits_reach : (ds more : List ℕ) (b : ℕ) (bs : List ℕ) → are_digits ds ≡ true → b ∷ bs ≡ ds ++ more → Reaches b (length ds) shapes.Number (front b bs)
unfolding front
digits_reach [] more b bs h e = cc
digits_reach (c ∷ cs) more b bs h e =
    let q = and_parts (is_digit c) (list_all is_digit cs) h in
    let head : b ≡ c = cc in
    let tail : bs ≡ cs ++ more = cc in
    rw (head, tail)
    (cond_both (is_blank c) _ _ (Reaches c (suc (length cs)) shapes.Number) (λ s. absurd (blank_or_digit c s q.0))
    (λ _. cond_both (is_letter c) _ _ (Reaches c (suc (length cs)) shapes.Number) (λ l. absurd (letter_or_digit c l q.0))
    (λ _. cond_both (is_digit c) _ _ (Reaches c (suc (length cs)) shapes.Number) (λ _. inl (refl, omega (arith, runs is_digit cs more q.1))) (λ no. absurd (both_ways (is_digit c) no q.0)))))

minus_reaches : (ds more bs : List ℕ) → are_digits ds ≡ true → bs ≡ ds ++ more → Reaches 45 (suc (length ds)) shapes.Number (dash bs)
minus_reaches [] more bs h e = cc
minus_reaches (c ∷ cs) more bs h e =
    let q = and_parts (is_digit c) (list_all is_digit cs) h in
    rw e
    (cond_both (eqb c 45) _ _ (Reaches 45 (suc (suc (length cs))) shapes.Number) (λ d. absurd (digit_or_dash c q.0 d))
    (λ _. cond_both (is_digit c) _ _ (Reaches 45 (suc (suc (length cs))) shapes.Number) (λ _. inl (refl, omega (arith, runs is_digit cs more q.1))) (λ no. absurd (both_ways (is_digit c) no q.0))))

-- no byte of a quoted name is its quote
not_quote : (q : ℕ) → is_name_quote q ≡ true → (b : ℕ) → is_name_byte b ≡ true → not (eqb b q) ≡ true
not_quote q h b e = at (or_cases (eqb q 34) (eqb q 96) h)
  where
    at : (eqb q 34 ≡ true) ⊎ (eqb q 96 ≡ true) → not (eqb b q) ≡ true
    at (inl s) = rw (eqb-true q 34 s) (and_parts (nat_le 32 b && nat_le b 126) (not (eqb b 34)) (and_parts (nat_le 32 b && nat_le b 126 && not (eqb b 34)) (not (eqb b 96)) e).0).1
    at (inr s) = rw (eqb-true q 96 s) (and_parts (nat_le 32 b && nat_le b 126 && not (eqb b 34)) (not (eqb b 96)) e).1

all_weaker : (p r : ℕ → Bool) → ((b : ℕ) → p b ≡ true → r b ≡ true) → (xs : List ℕ) → list_all p xs ≡ true → list_all r xs ≡ true
all_weaker p r each [] h = refl
all_weaker p r each (b ∷ bs) h = let q = and_parts (p b) (list_all p bs) h in rw (each b q.0) (all_weaker p r each bs q.1)

name_bytes : (w : List ℕ) → are_name_bytes w ≡ true → list_all is_name_byte w ≡ true
name_bytes [] h = refl
name_bytes (b ∷ bs) h = h

-- a run ends at the first byte that doesn't pass
run_ends : (p : ℕ → Bool) (xs ys : List ℕ) (y : ℕ) → list_all p xs ≡ true → p y ≡ false → prefix_len p (xs ++ y ∷ ys) ≡ length xs
run_ends p [] ys y h e = rw e refl
run_ends p (x ∷ xs) ys y h e = let q = and_parts (p x) (list_all p xs) h in let more = run_ends p xs ys y q.1 e in rw q.0 (omega (arith, more))

name_reaches : (q : ℕ) (w more bs : List ℕ) → is_name_quote q ≡ true → are_name_bytes w ≡ true → bs ≡ w ++ q ∷ more → Reaches q (length w + 2) shapes.Quoted (name q bs)
name_reaches q w more bs h are e = by (prefix_len (λ b. not (eqb b q)) bs) long
  where
    is_end : not (eqb q q) ≡ false
    is_end = rw (eq-eqb q q refl) refl

    long : prefix_len (λ b. not (eqb b q)) bs ≡ length w
    long = rw e (run_ends (λ b. not (eqb b q)) w more q (all_weaker is_name_byte (λ b. not (eqb b q)) (not_quote q h) w (name_bytes w are)) is_end)

    size : length bs ≡ length w + suc (length more)
    size = ap length e ∙ length-append w (q ∷ more)

    taken : (n : ℕ) → n ≡ length w → are_name_bytes (take n bs) ≡ true
    taken n same = ap are_name_bytes (ap (take n) e ∙ take_at w (q ∷ more) n (sym same)) ∙ are

    by : (n : ℕ) → n ≡ length w → Reaches q (length w + 2) shapes.Quoted (name_of_len n bs)
    by n same = cond_both (eqb n (length bs)) _ _ (Reaches q (length w + 2) shapes.Quoted) (λ all. absurd (omega (arith, eqb-true n (length bs) all, same, size)))
        (λ _. cond_both (are_name_bytes (take n bs)) _ _ (Reaches q (length w + 2) shapes.Quoted) (λ _. inl (refl, omega (arith, same))) (λ no. absurd (both_ways (are_name_bytes (take n bs)) no (taken n same))))

at_34 : (bs : List ℕ) (k : ℕ) (shape : Shape) → Reaches 34 k shape (name 34 bs) → Reaches 34 k shape (front 34 bs)
unfolding front
at_34 bs k shape h = h

at_96 : (bs : List ℕ) (k : ℕ) (shape : Shape) → Reaches 96 k shape (name 96 bs) → Reaches 96 k shape (front 96 bs)
unfolding front
at_96 bs k shape h = h

quoted_reaches : (s w more : List ℕ) (b : ℕ) (bs : List ℕ) → SpellsName s w → b ∷ bs ≡ s ++ more → Reaches b (length s) shapes.Quoted (front b bs)
quoted_reaches s w more b bs h e = at (or_cases (eqb h.quote 34) (eqb h.quote 96) h.is_quote)
  where
    whole : b ∷ bs ≡ h.quote ∷ (w ++ h.quote ∷ more)
    whole = e ∙ ap (λ (t : List ℕ). t ++ more) h.all ∙ ap (λ (t : List ℕ). h.quote ∷ t) (append_assoc w (h.quote ∷ []) more)

    tail : bs ≡ w ++ h.quote ∷ more
    tail = let f = whole in cc

    head : b ≡ h.quote
    head = let f = whole in cc

    size : length s ≡ length w + 2
    size = let l = ap length h.all in omega (arith, l, length-append w (h.quote ∷ []))

    reach : Reaches h.quote (length s) shapes.Quoted (name h.quote bs)
    reach = rw size (name_reaches h.quote w more bs h.is_quote h.are tail)

    at : (eqb h.quote 34 ≡ true) ⊎ (eqb h.quote 96 ≡ true) → Reaches b (length s) shapes.Quoted (front b bs)
    at (inl k) = let q = eqb-true h.quote 34 k in rw (head, q) (at_34 bs (length s) shapes.Quoted (rw q at reach))
    at (inr k) = let q = eqb-true h.quote 96 k in rw (head, q) (at_96 bs (length s) shapes.Quoted (rw q at reach))

suc_some : (o : Option ℕ) (n : ℕ) → option_map suc o ≡ Some n → (m : ℕ) × (o ≡ Some m) × (n ≡ suc m)
suc_some None n e = cc
suc_some (Some m) n e = (m, refl, cc)

-- a text that begins with a doubled one is as long or longer
text_reaches : (t more : List ℕ) (n : ℕ) → text_len false (doubled t ++ 39 ∷ more) ≡ Some n → length (doubled t) + 1 ≤ n
unfolding text_len
text_reaches [] more n e = let f = suc_some (text_len true more) n e in let k = f.2 in omega arith
text_reaches (b ∷ t) more n e = at (eqb b 39) refl (text_reaches t more)
  where
    at : (c : Bool) → eqb b 39 ≡ c → ((m : ℕ) → text_len false (doubled t ++ 39 ∷ more) ≡ Some m → length (doubled t) + 1 ≤ m) → length (doubled (b ∷ t)) + 1 ≤ n
    at true s next =
        let f = suc_some (text_len true (39 ∷ (doubled t ++ 39 ∷ more))) n (rw s at e) in
        let g = suc_some (text_len false (doubled t ++ 39 ∷ more)) f.0 f.1 in
        let le = next g.0 g.1 in
        rw s (omega (arith, f.2, g.2, le))
    at false s next =
        let f = suc_some (text_len false (doubled t ++ 39 ∷ more)) n (rw s at (rw s at e)) in
        let le = next f.0 f.1 in
        rw s (omega (arith, f.2, le))

at_39 : (bs : List ℕ) (k : ℕ) (shape : Shape) → Reaches 39 k shape (text bs) → Reaches 39 k shape (front 39 bs)
unfolding front
at_39 bs k shape h = h

text_is_long : (t more bs : List ℕ) → bs ≡ doubled t ++ 39 ∷ more → Reaches 39 (length (doubled t) + 2) shapes.Text (text bs)
text_is_long t more bs e = by (text_len false bs) refl
  where
    by : (o : Option ℕ) → text_len false bs ≡ o → Reaches 39 (length (doubled t) + 2) shapes.Text (option_map_or (λ n. Found shapes.Text (n + 1)) o (Bad OpenQuote))
    by None f = refl
    by (Some n) f = let le = text_reaches t more n (ap (text_len false) (sym e) ∙ f) in inl (refl, omega (arith, le))

quote_reaches : (s t more : List ℕ) (b : ℕ) (bs : List ℕ) → s ≡ 39 ∷ (doubled t ++ 39 ∷ []) → b ∷ bs ≡ s ++ more → Reaches b (length s) shapes.Text (front b bs)
quote_reaches s t more b bs h e =
    let whole : b ∷ bs ≡ 39 ∷ (doubled t ++ 39 ∷ more) = e ∙ ap (λ (u : List ℕ). u ++ more) h ∙ ap (λ (u : List ℕ). 39 ∷ u) (append_assoc (doubled t) (39 ∷ []) more) in
    let head : b ≡ 39 = cc in
    let tail : bs ≡ doubled t ++ 39 ∷ more = cc in
    let l = ap length h in
    let size : length s ≡ length (doubled t) + 2 = omega (arith, l, length-append (doubled t) (39 ∷ [])) in
    rw (head, size) (at_39 bs (length (doubled t) + 2) shapes.Text (text_is_long t more bs tail))

at_63 : (bs : List ℕ) (k : ℕ) (shape : Shape) → Reaches 63 k shape (param bs) → Reaches 63 k shape (front 63 bs)
unfolding front
at_63 bs k shape h = h

param_reaches : (w more bs : List ℕ) → are_word_bytes w ≡ true → bs ≡ w ++ more → Reaches 63 (suc (length w)) shapes.Param (param bs)
param_reaches [] more bs h e = cc
param_reaches (c ∷ ws) more bs h e =
    let q = and_parts (is_letter c) (list_all is_word_byte ws) h in
    rw e (cond_both (is_letter c) _ _ (Reaches 63 (suc (suc (length ws))) shapes.Param) (λ _. inl (refl, omega (arith, runs is_word_byte ws more q.1))) (λ no. absurd (both_ways (is_letter c) no q.0)))

at_45 : (bs : List ℕ) (k : ℕ) (shape : Shape) → Reaches 45 k shape (dash bs) → Reaches 45 k shape (front 45 bs)
unfolding front
at_45 bs k shape h = h

pair_60_62 : (more : List ℕ) → Reaches 60 2 (shapes.Sign NotEqual) (front 60 (62 ∷ more))
unfolding front
pair_60_62 more = inl (refl, omega arith)

pair_60_61 : (more : List ℕ) → Reaches 60 2 (shapes.Sign LessEqual) (front 60 (61 ∷ more))
unfolding front
pair_60_61 more = inl (refl, omega arith)

pair_62_61 : (more : List ℕ) → Reaches 62 2 (shapes.Sign GreaterEqual) (front 62 (61 ∷ more))
unfolding front
pair_62_61 more = inl (refl, omega arith)

pair_33_61 : (more : List ℕ) → Reaches 33 2 (shapes.Sign BangEqual) (front 33 (61 ∷ more))
unfolding front
pair_33_61 more = inl (refl, omega arith)

at_two : (x y : ℕ) (sign : Sign) (more : List ℕ) (b : ℕ) (bs : List ℕ) → b ∷ bs ≡ x ∷ y ∷ more → Reaches x 2 (shapes.Sign sign) (front x (y ∷ more)) → Reaches b 2 (shapes.Sign sign) (front b bs)
at_two x y sign more b bs e h =
    let head : x ≡ b = cc in
    let tail : y ∷ more ≡ bs = cc in
    subst (λ (r : List ℕ). Reaches b 2 (shapes.Sign sign) (front b r)) tail (subst (λ (n : ℕ). Reaches n 2 (shapes.Sign sign) (front n (y ∷ more))) head h)

-- a sign of one byte, or a longer one
alone_or_longer : (b : ℕ) (bs : List ℕ) (x : Sign) → single b ≡ Some x → Reaches b 1 (shapes.Sign x) (sign b bs)
alone_or_longer b [] x h = rw h (inl (refl, omega arith))
alone_or_longer b (c ∷ cs) x h = by (pair_after b c)
  where
    by : (o : Option Sign) → Reaches b 1 (shapes.Sign x) (sign_of_len o 2 (sign_of_len (single b) 1 (Bad BadByte)))
    by None = rw h (inl (refl, omega arith))
    by (Some y) = inr (omega arith)

dash_alone : (bs : List ℕ) → Reaches 45 1 (shapes.Sign Minus) (dash bs)
dash_alone [] = inl (refl, omega arith)
dash_alone (c ∷ cs) =
    cond_both (eqb c 45) _ _ (Reaches 45 1 (shapes.Sign Minus)) (λ _. refl)
    (λ _. cond_both (is_digit c) _ _ (Reaches 45 1 (shapes.Sign Minus)) (λ _. inr (omega arith)) (λ _. inl (refl, omega arith)))

at_one : (x : ℕ) (sign : Sign) (more : List ℕ) (b : ℕ) (bs : List ℕ) → b ∷ bs ≡ x ∷ more → Reaches x 1 (shapes.Sign sign) (front x bs) → Reaches b 1 (shapes.Sign sign) (front b bs)
at_one x sign more b bs e h = let head : x ≡ b = cc in subst (λ (n : ℕ). Reaches n 1 (shapes.Sign sign) (front n bs)) head h

sign_reaches : (x : Sign) (more : List ℕ) (b : ℕ) (bs : List ℕ) → b ∷ bs ≡ sign_bytes x ++ more → Reaches b (length (sign_bytes x)) (shapes.Sign x) (front b bs)
unfolding front
sign_reaches LeftParen more b bs e = at_one 40 LeftParen more b bs e (alone_or_longer 40 bs LeftParen refl)
sign_reaches RightParen more b bs e = at_one 41 RightParen more b bs e (alone_or_longer 41 bs RightParen refl)
sign_reaches Comma more b bs e = at_one 44 Comma more b bs e (alone_or_longer 44 bs Comma refl)
sign_reaches Dot more b bs e = at_one 46 Dot more b bs e (alone_or_longer 46 bs Dot refl)
sign_reaches Semicolon more b bs e = at_one 59 Semicolon more b bs e (alone_or_longer 59 bs Semicolon refl)
sign_reaches Star more b bs e = at_one 42 Star more b bs e (alone_or_longer 42 bs Star refl)
sign_reaches Equal more b bs e = at_one 61 Equal more b bs e (alone_or_longer 61 bs Equal refl)
sign_reaches NotEqual more b bs e = at_two 60 62 NotEqual more b bs e (pair_60_62 more)
sign_reaches BangEqual more b bs e = at_two 33 61 BangEqual more b bs e (pair_33_61 more)
sign_reaches Less more b bs e = at_one 60 Less more b bs e (alone_or_longer 60 bs Less refl)
sign_reaches LessEqual more b bs e = at_two 60 61 LessEqual more b bs e (pair_60_61 more)
sign_reaches Greater more b bs e = at_one 62 Greater more b bs e (alone_or_longer 62 bs Greater refl)
sign_reaches GreaterEqual more b bs e = at_two 62 61 GreaterEqual more b bs e (pair_62_61 more)
sign_reaches Plus more b bs e = at_one 43 Plus more b bs e (alone_or_longer 43 bs Plus refl)
sign_reaches Minus more b bs e = at_one 45 Minus more b bs e (at_45 bs 1 (shapes.Sign Minus) (dash_alone bs))
sign_reaches Slash more b bs e = at_one 47 Slash more b bs e (alone_or_longer 47 bs Slash refl)
sign_reaches Percent more b bs e = at_one 37 Percent more b bs e (alone_or_longer 37 bs Percent refl)

number_reaches : (s more : List ℕ) (n : ℤ) (b : ℕ) (bs : List ℕ) → SpellsNumber s n → b ∷ bs ≡ s ++ more → Reaches b (length s) shapes.Number (front b bs)
number_reaches s more n b bs h e = by h.sign
  where
    by : ((s ≡ h.digits) × (n ≡ pos (digits_value h.digits))) ⊎ ((s ≡ 45 ∷ h.digits) × (n ≡ neg_ℤ (pos (digits_value h.digits)))) → Reaches b (length s) shapes.Number (front b bs)
    by (inl f) = rw f.0 (digits_reach h.digits more b bs h.are (e ∙ ap (λ (u : List ℕ). u ++ more) f.0))
    by (inr f) =
        let whole : b ∷ bs ≡ 45 ∷ (h.digits ++ more) = e ∙ ap (λ (u : List ℕ). u ++ more) f.0 in
        let head : b ≡ 45 = cc in
        let tail : bs ≡ h.digits ++ more = cc in
        rw (f.0, head) (at_45 bs (suc (length h.digits)) shapes.Number (minus_reaches h.digits more bs h.are tail))

pub token_reaches : (s more : List ℕ) (y : Lexeme) (b : ℕ) (bs : List ℕ) → IsToken s y → b ∷ bs ≡ s ++ more → Reaches b (length s) (shape_of y) (front b bs)
token_reaches s more (lexemes.Word w) b bs h e = rw h.1 (word_reaches w more b bs h.0 (e ∙ ap (λ (u : List ℕ). u ++ more) h.1))
token_reaches s more (lexemes.Quoted w) b bs h e = quoted_reaches s w more b bs h e
token_reaches s more (lexemes.Number n) b bs h e = number_reaches s more n b bs h e
token_reaches s more (lexemes.Text t) b bs h e = quote_reaches s t more b bs h e
token_reaches s more (lexemes.Param w) b bs h e =
    let whole : b ∷ bs ≡ 63 ∷ (w ++ more) = e ∙ ap (λ (u : List ℕ). u ++ more) h.1 in
    let head : b ≡ 63 = cc in
    let tail : bs ≡ w ++ more = cc in
    rw (h.1, head) (at_63 bs (suc (length w)) shapes.Param (param_reaches w more bs h.0 tail))
token_reaches s more (lexemes.Sign x) b bs h e = rw h (sign_reaches x more b bs (e ∙ ap (λ (u : List ℕ). u ++ more) h))
