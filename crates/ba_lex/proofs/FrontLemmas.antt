-- What stands at the front is a spelling of its shape.
use Rattle.std.proofs.Common.{◌≡◌, ◌≢◌, ℕ, suc, ◌+◌, ◌<◌, ◌≤◌, pos, neg_ℤ, Bool, true, false, not, eqb, List, [], ◌∷◌, ◌++◌, length, take, drop, get_or, ◌⊎◌, Option, Some, None, option_map, inl, inr, refl, sym, ap, subst, ◌∙◌, arith, add-one}
use Rattle.std.specs.List.{All, list_all, prefix_len}
use Rattle.std.specs.Option.{IfSome, option_map_or}
use Rattle.std.proofs.Math.Numerals.{one-add}
use Rattle.std.proofs.lemmas.Bool.{and_from, cond_both, eqb-false, eqb-true, not-false}
use Rattle.std.proofs.lemmas.List.{length-append, take-append-drop, take_more}
use Rattle.std.proofs.lemmas.List.Elements.{All-cons, All-nil}
use Rattle.std.proofs.lemmas.List.Folds.{length-prefix_len}
use Rattle.ba_lex.specs.Faults.{IsOpenName, IsOpenQuote}
use Rattle.ba_lex.specs.Reading.{EndsLine, is_line}
use Rattle.std.proofs.lemmas.List.Sums.{prefix_len-le-length, prefix_len_stops}
use Rattle.ba_lex.specs.Spelling.{are_digits, are_name_bytes, digits_value, doubled, is_blank, is_digit, is_letter, is_name_quote, is_word_byte, sign_bytes}
use Rattle.ba_lex.specs.Tokens.{IsOfShape, dash, front, name, name_of_len, pair_after, param, shape_of, sign, sign_of_len, single, text, text_len}
use Rattle.ba_lex.specs.declared.front.Piece.{Piece}
use Rattle.ba_lex.specs.declared.front.Piece.TheVariants.{Gap, Found, Bad}
use Rattle.ba_lex.specs.declared.front.Shape.{Shape}
use Rattle.ba_lex.specs.declared.front.Shape.TheVariants as shapes
use Rattle.ba_lex.specs.declared.token.LexFault.{LexFault}
use Rattle.ba_lex.specs.declared.token.LexFault.TheVariants.{TooLong, BadByte, OpenQuote, NumberTooLarge}
use Rattle.ba_lex.specs.declared.token.Lexeme.TheVariants as lexemes
use Rattle.ba_lex.specs.declared.token.Sign.{Sign}
use Rattle.ba_lex.specs.declared.token.Sign.TheVariants.{Minus}

-- a token of this shape takes n of the bytes
pub record Takes (b : ℕ) (bs : List ℕ) (shape : Shape) (n : ℕ) : Type 0 where
  pub some : 0 < n
  pub within : n ≤ suc (length bs)
  pub spelled : IsOfShape shape (take n (b ∷ bs))

-- a comment takes n of the bytes
pub record TakesComment (b : ℕ) (bs : List ℕ) (n : ℕ) : Type 0 where
  pub line : List ℕ
  pub rest : List ℕ
  pub is : is_line line ≡ true
  pub ends : EndsLine rest
  pub all : b ∷ bs ≡ 45 ∷ 45 ∷ (line ++ rest)
  pub size : n ≡ length line + 2

abbrev pub TakesGap : ℕ → List ℕ → ℕ → Type 0
TakesGap b bs n = ((is_blank b ≡ true) × (n ≡ 1)) ⊎ TakesComment b bs n

pub gap_size : (b : ℕ) (bs : List ℕ) (n : ℕ) → TakesGap b bs n → (0 < n) × (n ≤ suc (length bs))
gap_size b bs n (inl h) = let e = h.1 in (omega arith, omega arith)
gap_size b bs n (inr h) =
    let size = h.size in
    let whole : suc (length bs) ≡ suc (suc (length (h.line ++ h.rest))) = ap length h.all in
    (omega arith, omega (arith, whole, length-append h.line h.rest))

-- of faults only these two stand at the front by themselves
abbrev pub GoodBad : LexFault → List ℕ → Type 0
GoodBad TooLong bytes = ⊥
GoodBad NumberTooLarge bytes = ⊥
GoodBad BadByte bytes = Unit {0}
GoodBad OpenQuote bytes = IsOpenQuote bytes

abbrev pub Good : ℕ → List ℕ → Piece → Type 0
Good b bs (Gap n) = TakesGap b bs n
Good b bs (Bad f) = GoodBad f (b ∷ bs)
Good b bs (Found shape n) = Takes b bs shape n

plus_two : (n : ℕ) → n + 2 ≡ suc (suc n)
plus_two n = omega arith

all_taken : (p : ℕ → Bool) (bs : List ℕ) → list_all p (take (prefix_len p bs) bs) ≡ true
all_taken p [] = refl
all_taken p (b ∷ bs) = at (p b) refl (all_taken p bs)
  where
    at : (t : Bool) → p b ≡ t → list_all p (take (prefix_len p bs) bs) ≡ true → list_all p (take (prefix_len p (b ∷ bs)) (b ∷ bs)) ≡ true
    at true e more = rw (e, one-add (prefix_len p bs)) (rw e more)
    at false e more = rw e refl

word_good : (b : ℕ) (bs : List ℕ) → is_letter b ≡ true → Takes b bs shapes.Word (prefix_len is_word_byte bs + 1)
word_good b bs h =
    let short = prefix_len-le-length is_word_byte bs in
    record {
      some = omega arith;
      within = omega arith;
      spelled = rw (add-one (prefix_len is_word_byte bs)) (record {
        lexeme = lexemes.Word (b ∷ take (prefix_len is_word_byte bs) bs);
        is_shape = refl;
        spelled = (and_from (is_letter b) (list_all is_word_byte (take (prefix_len is_word_byte bs) bs)) h (all_taken is_word_byte bs), refl);
      });
    }

digits_good : (b : ℕ) (bs : List ℕ) → is_digit b ≡ true → are_digits (b ∷ take (prefix_len is_digit bs) bs) ≡ true
digits_good b bs h = and_from (is_digit b) (list_all is_digit (take (prefix_len is_digit bs) bs)) h (all_taken is_digit bs)

number_good : (b : ℕ) (bs : List ℕ) → is_digit b ≡ true → Takes b bs shapes.Number (prefix_len is_digit bs + 1)
number_good b bs h =
    let short = prefix_len-le-length is_digit bs in
    let ds : List ℕ = b ∷ take (prefix_len is_digit bs) bs in
    record {
      some = omega arith;
      within = omega arith;
      spelled = rw (add-one (prefix_len is_digit bs)) (record {
        lexeme = lexemes.Number (pos (digits_value ds));
        is_shape = refl;
        spelled = record { digits = ds; are = digits_good b bs h; sign = inl (refl, refl) };
      });
    }

minus_good : (b : ℕ) (bs : List ℕ) → is_digit b ≡ true → Takes 45 (b ∷ bs) shapes.Number (prefix_len is_digit bs + 2)
minus_good b bs h =
    let short = prefix_len-le-length is_digit bs in
    let ds : List ℕ = b ∷ take (prefix_len is_digit bs) bs in
    record {
      some = omega arith;
      within = omega arith;
      spelled = rw (plus_two (prefix_len is_digit bs)) (record {
        lexeme = lexemes.Number (neg_ℤ (pos (digits_value ds)));
        is_shape = negative (digits_value ds);
        spelled = record { digits = ds; are = digits_good b bs h; sign = inr (refl, refl) };
      });
    }
  where
    negative : (n : ℕ) → shape_of (lexemes.Number (neg_ℤ (pos n))) ≡ shapes.Number
    negative n = refl

sign_good : (b : ℕ) (bs : List ℕ) (x : Sign) (n : ℕ) → 0 < n → n ≤ suc (length bs) → sign_bytes x ≡ take n (b ∷ bs) → Takes b bs (shapes.Sign x) n
sign_good b bs x n some within e = record { some = some; within = within; spelled = record { lexeme = lexemes.Sign x; is_shape = refl; spelled = sym e } }

ends_line : (bs : List ℕ) → EndsLine (drop (prefix_len (λ b. not (eqb b 10)) bs) bs)
ends_line [] = tt
ends_line (b ∷ bs) = at (not (eqb b 10)) refl (ends_line bs)
  where
    at : (t : Bool) → not (eqb b 10) ≡ t → EndsLine (drop (prefix_len (λ d. not (eqb d 10)) bs) bs) → EndsLine (drop (prefix_len (λ d. not (eqb d 10)) (b ∷ bs)) (b ∷ bs))
    at true e more = rw (e, one-add (prefix_len (λ d. not (eqb d 10)) bs)) more
    at false e more = rw e (eqb-true b 10 (not-false (eqb b 10) e))

comment_good : (c : ℕ) (cs : List ℕ) → eqb c 45 ≡ true → TakesComment 45 (c ∷ cs) (prefix_len (λ d. not (eqb d 10)) cs + 2)
comment_good c cs e =
    let p : ℕ = prefix_len (λ d. not (eqb d 10)) cs in
    record {
      line = take p cs;
      rest = drop p cs;
      is = all_taken (λ d. not (eqb d 10)) cs;
      ends = ends_line cs;
      all = ap (λ (x : ℕ). 45 ∷ x ∷ cs) (eqb-true c 45 e) ∙ ap (λ (r : List ℕ). 45 ∷ 45 ∷ r) (sym (take-append-drop p cs));
      size = ap (λ (k : ℕ). k + 2) (sym (length-prefix_len (λ d. not (eqb d 10)) cs));
    }

dash_good : (bs : List ℕ) → Good 45 bs (dash bs)
dash_good [] = sign_good 45 [] Minus 1 (omega arith) (omega arith) refl
dash_good (c ∷ cs) =
    cond_both (eqb c 45) _ _ (Good 45 (c ∷ cs))
    (λ e. inr (comment_good c cs e))
    (λ e. cond_both (is_digit c) _ _ (Good 45 (c ∷ cs)) (λ d. minus_good c cs d) (λ d. sign_good 45 (c ∷ cs) Minus 1 (omega arith) (omega arith) refl))

name_takes : (q : ℕ) (bs : List ℕ) (n : ℕ) → n ≡ prefix_len (λ b. not (eqb b q)) bs → (n ≡ length bs → ⊥) → is_name_quote q ≡ true → are_name_bytes (take n bs) ≡ true → Takes q bs shapes.Quoted (n + 2)
name_takes q bs n e has_end is_quote are =
    let short : n ≤ length bs = rw e (prefix_len-le-length (λ b. not (eqb b q)) bs) in
    let there : n < length bs = omega (arith, short, has_end) in
    let stop : not (eqb (get_or bs n 0) q) ≡ false = rw (sym e) at (prefix_len_stops (λ b. not (eqb b q)) bs 0 (rw (sym e) there)) in
    let same : get_or bs n 0 ≡ q = eqb-true (get_or bs n 0) q (not-false (eqb (get_or bs n 0) q) stop) in
    let all : take (suc n) bs ≡ take n bs ++ q ∷ [] = ap (λ (k : ℕ). take k bs) (sym (add-one n)) ∙ take_more bs n 0 there ∙ ap (λ (b : ℕ). take n bs ++ b ∷ []) same in
    record {
      some = omega arith;
      within = omega arith;
      spelled = rw (plus_two n) (record {
        lexeme = lexemes.Quoted (take n bs);
        is_shape = refl;
        spelled = record { quote = q; is_quote = is_quote; are = are; all = ap (λ (r : List ℕ). q ∷ r) all };
      });
    }

-- a run of all bytes
run_all : (q : ℕ) (bs : List ℕ) → prefix_len (λ b. not (eqb b q)) bs ≡ length bs → All (λ b. b ≢ q) bs
run_all q [] h = All-nil (λ b. b ≢ q)
run_all q (b ∷ bs) h = at (eqb b q) refl (run_all q bs)
  where
    no_zero : (n : ℕ) → 0 ≡ suc n → ⊥
    no_zero n e = omega arith

    less : (n m : ℕ) → 1 + n ≡ suc m → n ≡ m
    less n m e = omega arith

    at : (t : Bool) → eqb b q ≡ t → (prefix_len (λ d. not (eqb d q)) bs ≡ length bs → All (λ d. d ≢ q) bs) → All (λ d. d ≢ q) (b ∷ bs)
    at true e more = absurd (no_zero (length bs) (rw e at h))
    at false e more = All-cons (λ d. d ≢ q) b bs (eqb-false b q e) (more (less _ _ (rw e at h)))

open_name : (q : ℕ) (bs : List ℕ) → is_name_quote q ≡ true → prefix_len (λ b. not (eqb b q)) bs ≡ length bs → IsOpenName (q ∷ bs)
open_name q bs h e = record { quote = q; behind = bs; is_quote = h; all = refl; no_end = run_all q bs e }

name_good : (q : ℕ) (bs : List ℕ) → is_name_quote q ≡ true → Good q bs (name q bs)
name_good q bs h = by (prefix_len (λ b. not (eqb b q)) bs) refl
  where
    by : (n : ℕ) → n ≡ prefix_len (λ b. not (eqb b q)) bs → Good q bs (name_of_len n bs)
    by n e = cond_both (eqb n (length bs)) _ _ (Good q bs) (λ a. inr (open_name q bs h (sym e ∙ eqb-true n (length bs) a)))
        (λ a. cond_both (are_name_bytes (take n bs)) _ _ (Good q bs) (λ d. name_takes q bs n e (eqb-false n (length bs) a) h d) (λ d. tt))

-- a quote that was read is still to be counted
abbrev lead : Bool → List ℕ
lead true = 39 ∷ []
lead false = []

pub record SpellsText (q : Bool) (bs : List ℕ) (n : ℕ) : Type 0 where
  pub text : List ℕ
  pub all : lead q ++ take n bs ≡ doubled text ++ 39 ∷ []
  pub within : n ≤ length bs

suc_some : (o : Option ℕ) (n : ℕ) → option_map suc o ≡ Some n → (m : ℕ) × (o ≡ Some m) × (n ≡ suc m)
suc_some None n e = cc
suc_some (Some m) n e = (m, refl, cc)

none_taken : (bs : List ℕ) (n : ℕ) → Some 0 ≡ Some n → SpellsText true bs n
none_taken bs n e = subst (SpellsText true bs) zero_is (record { text = []; all = refl; within = omega arith })
  where
    zero_is : 0 ≡ n
    zero_is = cc

text_spelled : (bs : List ℕ) (q : Bool) (n : ℕ) → text_len q bs ≡ Some n → SpellsText q bs n
unfolding text_len
text_spelled [] true n e = none_taken [] n e
text_spelled [] false n e = cc
text_spelled (b ∷ bs) true n e = at (eqb b 39) refl (text_spelled bs false)
  where
    at : (t : Bool) → eqb b 39 ≡ t → ((m : ℕ) → text_len false bs ≡ Some m → SpellsText false bs m) → SpellsText true (b ∷ bs) n
    at true s more =
        let f = suc_some (text_len false bs) n (rw s at e) in
        let m = more f.0 f.1 in
        let same = eqb-true b 39 s in
        subst (SpellsText true (b ∷ bs)) (sym f.2) (record {
          text = 39 ∷ m.text;
          all = ap (λ (x : ℕ). 39 ∷ x ∷ take f.0 bs) same ∙ ap (λ (r : List ℕ). 39 ∷ 39 ∷ r) m.all;
          within = omega (arith, m.within);
        })
    at false s more = none_taken (b ∷ bs) n (rw s at e)
text_spelled (b ∷ bs) false n e = at (eqb b 39) refl (text_spelled bs)
  where
    at : (t : Bool) → eqb b 39 ≡ t → ((q : Bool) (m : ℕ) → text_len q bs ≡ Some m → SpellsText q bs m) → SpellsText false (b ∷ bs) n
    at true s more =
        let f = suc_some (text_len true bs) n (rw s at e) in
        let m = more true f.0 f.1 in
        subst (SpellsText false (b ∷ bs)) (sym f.2) (record {
          text = m.text;
          all = ap (λ (x : ℕ). x ∷ take f.0 bs) (eqb-true b 39 s) ∙ m.all;
          within = omega (arith, m.within);
        })
    at false s more =
        let f = suc_some (text_len false bs) n (rw s at e) in
        let m = more false f.0 f.1 in
        subst (SpellsText false (b ∷ bs)) (sym f.2) (record {
          text = b ∷ m.text;
          all = rw s (ap (λ (r : List ℕ). b ∷ r) m.all);
          within = omega (arith, m.within);
        })

suc_none : (o : Option ℕ) → option_map suc o ≡ None → o ≡ None
suc_none None e = refl
suc_none (Some n) e = cc

-- without its end a text has all its quotes doubled
text_open : (bs : List ℕ) (q : Bool) → text_len q bs ≡ None → (inside : List ℕ) × (lead q ++ bs ≡ doubled inside)
unfolding text_len
text_open [] true e = cc
text_open [] false e = ([], refl)
text_open (b ∷ bs) true e = at (eqb b 39) refl (text_open bs false)
  where
    at : (t : Bool) → eqb b 39 ≡ t → (text_len false bs ≡ None → (inside : List ℕ) × (bs ≡ doubled inside)) → (inside : List ℕ) × (39 ∷ b ∷ bs ≡ doubled inside)
    at true s more =
        let o = more (suc_none (text_len false bs) (rw s at e)) in
        (39 ∷ o.0, ap (λ (x : ℕ). 39 ∷ x ∷ bs) (eqb-true b 39 s) ∙ ap (λ (r : List ℕ). 39 ∷ 39 ∷ r) o.1)
    at false s more = let k = rw s at e in cc
text_open (b ∷ bs) false e = at (eqb b 39) refl (text_open bs)
  where
    at : (t : Bool) → eqb b 39 ≡ t → ((q : Bool) → text_len q bs ≡ None → (inside : List ℕ) × (lead q ++ bs ≡ doubled inside)) → (inside : List ℕ) × (b ∷ bs ≡ doubled inside)
    at true s more =
        let o = more true (suc_none (text_len true bs) (rw s at e)) in
        (o.0, ap (λ (x : ℕ). x ∷ bs) (eqb-true b 39 s) ∙ o.1)
    at false s more =
        let o = more false (suc_none (text_len false bs) (rw s at e)) in
        (b ∷ o.0, rw s (ap (λ (r : List ℕ). b ∷ r) o.1))

text_good : (bs : List ℕ) → Good 39 bs (text bs)
text_good bs = by (text_len false bs) refl
  where
    by : (o : Option ℕ) → text_len false bs ≡ o → Good 39 bs (option_map_or (λ n. Found shapes.Text (n + 1)) o (Bad OpenQuote))
    by None e = let o = text_open bs false e in inl (record { inside = o.0; all = ap (λ (r : List ℕ). 39 ∷ r) o.1 })
    by (Some n) e =
        let s = text_spelled bs false n e in
        record {
          some = omega arith;
          within = omega (arith, s.within);
          spelled = rw (add-one n) (record { lexeme = lexemes.Text s.text; is_shape = refl; spelled = ap (λ (r : List ℕ). 39 ∷ r) s.all });
        }

param_good : (bs : List ℕ) → Good 63 bs (param bs)
param_good [] = tt
param_good (c ∷ cs) = cond_both (is_letter c) _ _ (Good 63 (c ∷ cs)) (λ h. found h) (λ h. tt)
  where
    found : is_letter c ≡ true → Takes 63 (c ∷ cs) shapes.Param (prefix_len is_word_byte cs + 2)
    found h =
        let short = prefix_len-le-length is_word_byte cs in
        record {
          some = omega arith;
          within = omega arith;
          spelled = rw (plus_two (prefix_len is_word_byte cs)) (record {
            lexeme = lexemes.Param (c ∷ take (prefix_len is_word_byte cs) cs);
            is_shape = refl;
            spelled = (and_from (is_letter c) (list_all is_word_byte (take (prefix_len is_word_byte cs) cs)) h (all_taken is_word_byte cs), refl);
          });
        }

two : (b c x y : ℕ) → eqb b x ≡ true → eqb c y ≡ true → x ∷ y ∷ [] ≡ b ∷ c ∷ []
two b c x y e f = let p = eqb-true b x e in let q = eqb-true c y f in cc

one : (b x : ℕ) → eqb b x ≡ true → x ∷ [] ≡ b ∷ []
one b x e = let p = eqb-true b x e in cc

pair_spelled : (b c : ℕ) → IfSome (pair_after b c) (λ x. sign_bytes x ≡ b ∷ c ∷ [])
pair_spelled b c =
    let P : Option Sign → Type 0 = λ o. IfSome o (λ x. sign_bytes x ≡ b ∷ c ∷ []) in
    cond_both (eqb b 60) _ _ P
    (λ e. cond_both (eqb c 62) _ _ P (λ f. two b c 60 62 e f) (λ _. cond_both (eqb c 61) _ _ P (λ f. two b c 60 61 e f) (λ _. tt)))
    (λ _. cond_both (eqb b 62) _ _ P
    (λ e. cond_both (eqb c 61) _ _ P (λ f. two b c 62 61 e f) (λ _. tt))
    (λ _. cond_both (eqb b 33) _ _ P
    (λ e. cond_both (eqb c 61) _ _ P (λ f. two b c 33 61 e f) (λ _. tt))
    (λ _. tt)))

single_spelled : (b : ℕ) → IfSome (single b) (λ x. sign_bytes x ≡ b ∷ [])
single_spelled b =
    let P : Option Sign → Type 0 = λ o. IfSome o (λ x. sign_bytes x ≡ b ∷ []) in
    cond_both (eqb b 40) _ _ P (one b 40)
    (λ _. cond_both (eqb b 41) _ _ P (one b 41)
    (λ _. cond_both (eqb b 44) _ _ P (one b 44)
    (λ _. cond_both (eqb b 46) _ _ P (one b 46)
    (λ _. cond_both (eqb b 59) _ _ P (one b 59)
    (λ _. cond_both (eqb b 42) _ _ P (one b 42)
    (λ _. cond_both (eqb b 61) _ _ P (one b 61)
    (λ _. cond_both (eqb b 60) _ _ P (one b 60)
    (λ _. cond_both (eqb b 62) _ _ P (one b 62)
    (λ _. cond_both (eqb b 43) _ _ P (one b 43)
    (λ _. cond_both (eqb b 47) _ _ P (one b 47)
    (λ _. cond_both (eqb b 37) _ _ P (one b 37)
    (λ _. tt))))))))))))

one_good : (b : ℕ) (bs : List ℕ) → Good b bs (sign_of_len (single b) 1 (Bad BadByte))
one_good b bs = by (single b) (single_spelled b)
  where
    by : (o : Option Sign) → IfSome o (λ x. sign_bytes x ≡ b ∷ []) → Good b bs (sign_of_len o 1 (Bad BadByte))
    by None h = tt
    by (Some x) h = sign_good b bs x 1 (omega arith) (omega arith) h

sign_is_good : (b : ℕ) (bs : List ℕ) → Good b bs (sign b bs)
sign_is_good b [] = one_good b []
sign_is_good b (c ∷ cs) = by (pair_after b c) (pair_spelled b c)
  where
    by : (o : Option Sign) → IfSome o (λ x. sign_bytes x ≡ b ∷ c ∷ []) → Good b (c ∷ cs) (sign_of_len o 2 (sign_of_len (single b) 1 (Bad BadByte)))
    by None h = one_good b (c ∷ cs)
    by (Some x) h = sign_good b (c ∷ cs) x 2 (omega arith) (omega arith) h

at_byte : (b x : ℕ) (bs : List ℕ) (piece : Piece) → eqb b x ≡ true → Good x bs piece → Good b bs piece
at_byte b x bs piece e h = subst (λ (n : ℕ). Good n bs piece) (sym (eqb-true b x e)) h

pub front_good : (b : ℕ) (bs : List ℕ) → Good b bs (front b bs)
unfolding front
front_good b bs =
    cond_both (is_blank b) _ _ (Good b bs) (λ h. inl (h, refl))
    (λ _. cond_both (is_letter b) _ _ (Good b bs) (word_good b bs)
    (λ _. cond_both (is_digit b) _ _ (Good b bs) (number_good b bs)
    (λ _. cond_both (eqb b 45) _ _ (Good b bs) (λ e. at_byte b 45 bs (dash bs) e (dash_good bs))
    (λ _. cond_both (is_name_quote b) _ _ (Good b bs) (name_good b bs)
    (λ _. cond_both (eqb b 39) _ _ (Good b bs) (λ e. at_byte b 39 bs (text bs) e (text_good bs))
    (λ _. cond_both (eqb b 63) _ _ (Good b bs) (λ e. at_byte b 63 bs (param bs) e (param_good bs))
    (λ _. sign_is_good b bs)))))))
