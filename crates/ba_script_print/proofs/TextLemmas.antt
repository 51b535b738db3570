-- A compact text is one line: it has no byte below a blank, so no line feed and no carriage return.
use Rattle.std.proofs.Common.{◌≡◌, ◌∙◌, ℕ, zero, suc, ℤ, pos, negsuc, ◌+◌, ◌-◌, ◌%◌, ◌/◌, ◌<◌, ◌==◌, ◌&&◌, ◌||◌, Bool, true, false, cond, nat_lt, List, [], ◌∷◌, ◌++◌, length, get_or, take, decimal, refl, ap, arith, append_assoc}
use Rattle.std.specs.Char.{digit_char}
use Rattle.std.specs.Fmt.{signed_decimal}
use Rattle.std.specs.List.{AllByRecursion, list_all, slice_split}
use Rattle.std.specs.Str.Lines.{lines_of_parts, strip_carriage_return}
use Rattle.std.proofs.lemmas.Bool.{and_parts, eqb-true, lt-ltb, ltb-false, ltb-true, ne_eqb}
use Rattle.std.proofs.lemmas.List.Elements.{All-from_recursion}
use Rattle.std.proofs.lemmas.List.Folds.{list_all-append}
use Rattle.std.proofs.lemmas.List.Splits.{length-slice_split, slice_split_at}
use Rattle.std.specs.Fmt.{digit_glyph, digits, digits_onto}
use Rattle.json.specs.Print.{escape, escape_byte, escape_letter, quoted}
use Rattle.serde_json.specs.Data.{Data, Num, Items, Members, unsigned, negative, float, null, boolean, number, string, array, object, no_items, item, no_members, member}
use Rattle.serde_json.specs.Written.{comma_if, compact_text, items_text, members_text, number_text}
use Rattle.ba_script.specs.Lines.{script_lines}

-- a byte that no line feed and no carriage return is
abbrev pub is_inner : ℕ → Bool
is_inner b = nat_lt 31 b

abbrev pub IsInner : List ℕ → Type 0
IsInner bytes = list_all is_inner bytes ≡ true

both : (a b : Bool) → a ≡ true → b ≡ true → (a && b) ≡ true
both true b e f = f
both false b e f = cc e

all_of_both : (xs ys : List ℕ) → IsInner xs → IsInner ys → IsInner (xs ++ ys)
all_of_both xs ys e f = list_all-append is_inner xs ys ∙ both (list_all is_inner xs) (list_all is_inner ys) e f

inner : (b : ℕ) → 31 < b → is_inner b ≡ true
inner b h = lt-ltb 31 b h

-- ---- numbers

glyph_inner : (d : ℕ) → is_inner (digit_glyph false d) ≡ true
glyph_inner d = by (nat_lt d 10)
  where
    by : (b : Bool) → is_inner (cond b (48 + d) (87 + d)) ≡ true
    by true = inner (48 + d) (omega arith)
    by false = inner (87 + d) (omega arith)

digits_inner : (k n : ℕ) (acc : List ℕ) → IsInner acc → IsInner (digits_onto k 10 false n acc)
digits_inner zero n acc h = h
digits_inner (suc k) n acc h = by (n / 10 == 0) (digits_inner k (n / 10) (digit_glyph false (n % 10) ∷ acc) more)
  where
    more : IsInner (digit_glyph false (n % 10) ∷ acc)
    more = both (is_inner (digit_glyph false (n % 10))) (list_all is_inner acc) (glyph_inner (n % 10)) h

    by : (b : Bool) → IsInner (digits_onto k 10 false (n / 10) (digit_glyph false (n % 10) ∷ acc))
        → IsInner (cond b (digit_glyph false (n % 10) ∷ acc) (digits_onto k 10 false (n / 10) (digit_glyph false (n % 10) ∷ acc)))
    by true rest = more
    by false rest = rest

decimal_inner : (n : ℕ) → IsInner (decimal n)
unfolding digits
decimal_inner n = digits_inner 64 n [] refl

signed_inner : (z : ℤ) → IsInner (signed_decimal z)
signed_inner (pos n) = decimal_inner n
signed_inner (negsuc n) = both true (list_all is_inner (decimal (suc n))) refl (decimal_inner (suc n))

number_inner : (n : Num) → IsInner (number_text n)
number_inner (unsigned n) = decimal_inner n
number_inner (negative z) = signed_inner z
number_inner (float x) = refl

-- ---- texts

char_inner : (d : ℕ) → is_inner (digit_char d) ≡ true
char_inner d = by (nat_lt d 10)
  where
    by : (b : Bool) → is_inner (cond b (48 + d) (87 + d)) ≡ true
    by true = inner (48 + d) (omega arith)
    by false = inner (87 + d) (omega arith)

-- a letter that there is
letter_inner : (x : ℕ) → nat_lt 0 (escape_letter x) ≡ true → is_inner (escape_letter x) ≡ true
letter_inner x e = by (x == 34) (x == 92) refl refl e
  where
    other : (b c d f g : Bool) → nat_lt 0 (cond b 98 (cond c 102 (cond d 110 (cond f 114 (cond g 116 0))))) ≡ true
        → is_inner (cond b 98 (cond c 102 (cond d 110 (cond f 114 (cond g 116 0))))) ≡ true
    other true c d f g h = refl
    other false true d f g h = refl
    other false false true f g h = refl
    other false false false true g h = refl
    other false false false false true h = refl
    other false false false false false h = cc h

    by : (b c : Bool) → (x == 34) ≡ b → (x == 92) ≡ c
        → nat_lt 0 (cond (b || c) x (cond (x == 8) 98 (cond (x == 12) 102 (cond (x == 10) 110 (cond (x == 13) 114 (cond (x == 9) 116 0)))))) ≡ true
        → is_inner (cond (b || c) x (cond (x == 8) 98 (cond (x == 12) 102 (cond (x == 10) 110 (cond (x == 13) 114 (cond (x == 9) 116 0)))))) ≡ true
    by true c s t h = let same : x ≡ 34 = eqb-true x 34 s in inner x (omega (arith, same))
    by false true s t h = let same : x ≡ 92 = eqb-true x 92 t in inner x (omega (arith, same))
    by false false s t h = other (x == 8) (x == 12) (x == 10) (x == 13) (x == 9) h

byte_inner : (x : ℕ) → IsInner (escape_byte x)
unfolding escape_byte
byte_inner x = by (nat_lt 0 (escape_letter x)) (nat_lt x 32) refl refl
  where
    at_least : nat_lt x 32 ≡ false → 31 < x
    at_least e = let h = ltb-false x 32 e in omega (arith, h)

    by : (b c : Bool) → nat_lt 0 (escape_letter x) ≡ b → nat_lt x 32 ≡ c
        → IsInner (cond b (92 ∷ escape_letter x ∷ []) (cond c (92 ∷ 117 ∷ 48 ∷ 48 ∷ digit_char (x / 16) ∷ digit_char (x % 16) ∷ []) (x ∷ [])))
    by true c s t = both (is_inner (escape_letter x)) true (letter_inner x s) refl
    by false true s t = both (is_inner (digit_char (x / 16))) (is_inner (digit_char (x % 16)) && true) (char_inner (x / 16)) (both (is_inner (digit_char (x % 16))) true (char_inner (x % 16)) refl)
    by false false s t = both (is_inner x) true (inner x (at_least t)) refl

escape_inner : (s : List ℕ) → IsInner (escape s)
escape_inner [] = refl
escape_inner (x ∷ s) = all_of_both (escape_byte x) (escape s) (byte_inner x) (escape_inner s)

quoted_inner : (s : List ℕ) → IsInner (quoted s)
quoted_inner s = all_of_both (escape s) (34 ∷ []) (escape_inner s) refl

comma_inner : (b : Bool) → IsInner (comma_if b)
comma_inner true = refl
comma_inner false = refl

-- ---- values

mutual
  pub text_inner : (d : Data) → IsInner (compact_text d)
  text_inner null = refl
  text_inner (boolean true) = refl
  text_inner (boolean false) = refl
  text_inner (number n) = number_inner n
  text_inner (string s) = quoted_inner s
  text_inner (array ds) = items_inner false ds
  text_inner (object ms) = members_inner false ms

  items_inner : (b : Bool) (ds : Items) → IsInner (items_text b ds)
  items_inner b no_items = refl
  items_inner b (item d ds) =
      all_of_both (comma_if b) (compact_text d ++ items_text true ds) (comma_inner b) (all_of_both (compact_text d) (items_text true ds) (text_inner d) (items_inner true ds))

  members_inner : (b : Bool) (ms : Members) → IsInner (members_text b ms)
  members_inner b no_members = refl
  members_inner b (member k d ms) =
      all_of_both (comma_if b) (quoted k ++ 58 ∷ (compact_text d ++ members_text true ms)) (comma_inner b)
      (all_of_both (quoted k) (58 ∷ (compact_text d ++ members_text true ms)) (quoted_inner k)
      (all_of_both (compact_text d) (members_text true ms) (text_inner d) (members_inner true ms)))

-- ---- lines

inner_at : (xs : List ℕ) (i : ℕ) → IsInner xs → i < length xs → 31 < get_or xs i 0
inner_at [] i e h = absurd (omega (arith, h))
inner_at (x ∷ xs) zero e h = ltb-true 31 x (and_parts (is_inner x) (list_all is_inner xs) e).0
inner_at (x ∷ xs) (suc i) e h = inner_at xs i (and_parts (is_inner x) (list_all is_inner xs) e).1 (omega (arith, h))

stripped : (xs : List ℕ) → IsInner xs → strip_carriage_return xs ≡ xs
stripped [] e = refl
stripped (x ∷ xs) e =
    let last = inner_at (x ∷ xs) (length (x ∷ xs) - 1) e (omega arith) in
    let value = get_or (x ∷ xs) (length (x ∷ xs) - 1) 0 in
    let no_return : (value == 13) ≡ false = ne_eqb value 13 (λ is. omega (arith, is, last)) in
    ap (λ b. cond b (take (length (x ∷ xs) - 1) (x ∷ xs)) (x ∷ xs)) no_return

no_feed : (xs : List ℕ) → IsInner xs → AllByRecursion (λ x. (x == 10) ≡ false) xs
no_feed [] e = tt
no_feed (x ∷ xs) e =
    let p = and_parts (is_inner x) (list_all is_inner xs) e in
    let here = ltb-true 31 x p.0 in
    (ne_eqb x 10 (λ is. omega (arith, is, here)), no_feed xs p.1)

onward : (x : List ℕ) (parts : List (List ℕ)) → 0 < length parts → lines_of_parts (x ∷ parts) ≡ strip_carriage_return x ∷ lines_of_parts parts
onward x [] h = absurd (omega arith)
onward x (y ∷ more) h = refl

-- a line before its line feed, and what stands behind
pub line_first : (line rest : List ℕ) → IsInner line → script_lines ((line ++ 10 ∷ []) ++ rest) ≡ line ∷ script_lines rest
line_first line rest e =
    let parts = slice_split_at (λ b. b == 10) line 10 rest (All-from_recursion _ line (no_feed line e)) refl in
    let more : 0 < length (slice_split (λ b. b == 10) rest) = omega (arith, length-slice_split (λ b. b == 10) rest) in
    ap script_lines (append_assoc line (10 ∷ []) rest) ∙ ap lines_of_parts parts ∙ onward line (slice_split (λ b. b == 10) rest) more ∙ ap (λ l. l ∷ script_lines rest) (stripped line e)
