-- The tokens that a text has are read, and the fault that it has is told.
use Rattle.std.proofs.Common.{◌≡◌, ℕ, suc, ◌+◌, ◌-◌, ◌<◌, ◌≤◌, ℤ, Bool, true, false, not, eqb, List, [], ◌∷◌, ◌++◌, length, take, drop, Result, Ok, Err, ◌⊎◌, inl, inr, refl, sym, ap, ◌∙◌, append_assoc, arith}
use Rattle.std.specs.List.{prefix_len}
use Rattle.std.proofs.lemmas.Bool.{and_parts, eqb-false}
use Rattle.std.proofs.lemmas.List.{drop_at, length-append, length-take, take-append-drop, take_at}
use Rattle.ba_lex.specs.Faults.{Begins, IsOpenQuote, IsOpenText}
use Rattle.ba_lex.specs.Reading.{EndsLine, IsLongest, ReadsTo, is_line}
use Rattle.ba_lex.specs.Reading.ReadsTo.{blank, comment, next, nothing}
use Rattle.ba_lex.specs.Spelling.{IsToken, doubled, fits, is_blank, is_in_range, is_name_quote}
use Rattle.ba_model.specs.Readings.{◌>>=◌}
use Rattle.ba_lex.specs.Tokens.{front, lexeme_of, shape_of, token, tokens_from}
use Rattle.ba_lex.specs.declared.front.Piece.{Piece}
use Rattle.ba_lex.specs.declared.front.Piece.TheVariants.{Gap, Found, Bad}
use Rattle.ba_lex.specs.declared.front.Shape.{Shape}
use Rattle.ba_lex.specs.declared.front.Shape.TheVariants as shapes
use Rattle.ba_lex.specs.declared.token.LexFault.{LexFault}
use Rattle.ba_lex.specs.declared.token.LexFault.TheVariants.{TooLong, BadByte, OpenQuote, NumberTooLarge}
use Rattle.ba_lex.specs.declared.token.Lexeme.{Lexeme}
use Rattle.ba_lex.specs.declared.token.Lexeme.TheVariants as lexemes
use Rattle.ba_lex.specs.declared.token.Sign.TheVariants.{Minus}
use Rattle.ba_lex.specs.declared.token.Token.{Token}
use Rattle.ba_lex.proofs.DecodeLemmas.{checked, lexeme_of-token}
use Rattle.ba_lex.proofs.FrontLemmas.{Good, front_good}
use Rattle.ba_lex.proofs.LongestLemmas.{Reaches, token_reaches}
use Rattle.ba_lex.proofs.LoopLemmas.{skip, with_found, with_none}
use Rattle.ba_lex.proofs.OpenLemmas.{blank_front, open_front}
use Rattle.ba_lex.proofs.ReadingLemmas.{after_comment}
use Rattle.ba_lex.proofs.ShapeLemmas.{token_edges}

-- ---- what stands at the front where the longest token does

text_of : (s : List ℕ) (x : Lexeme) → shape_of x ≡ shapes.Text → IsToken s x → (t : List ℕ) × (s ≡ 39 ∷ (doubled t ++ 39 ∷ []))
text_of s (lexemes.Text t) e h = (t, h)
text_of s (lexemes.Word w) e h = cc
text_of s (lexemes.Quoted w) e h = cc
text_of s (lexemes.Number n) e h = cc
text_of s (lexemes.Param w) e h = cc
text_of s (lexemes.Sign x) e h = cc

-- a text that ends where another goes on leaves one without its end
half : (u t rest : List ℕ) → doubled u ≡ doubled t ++ 39 ∷ rest → IsOpenText rest
half [] [] rest e = cc
half (c ∷ u) [] rest e = at (eqb c 39) refl
  where
    at : (k : Bool) → eqb c 39 ≡ k → IsOpenText rest
    at true q = let f : 39 ∷ 39 ∷ doubled u ≡ 39 ∷ rest = rw q at e in record { inside = u; all = cc }
    at false q = let f : c ∷ doubled u ≡ 39 ∷ rest = rw q at e in absurd (eqb-false c 39 q cc)
half [] (d ∷ t) rest e = at (eqb d 39) refl
  where
    at : (k : Bool) → eqb d 39 ≡ k → IsOpenText rest
    at true q = let f : [] ≡ 39 ∷ 39 ∷ (doubled t ++ 39 ∷ rest) = rw q at e in cc
    at false q = let f : [] ≡ d ∷ (doubled t ++ 39 ∷ rest) = rw q at e in cc
half (c ∷ u) (d ∷ t) rest e = at (eqb c 39) refl (eqb d 39) refl (half u t rest)
  where
    at : (k : Bool) → eqb c 39 ≡ k → (m : Bool) → eqb d 39 ≡ m → (doubled u ≡ doubled t ++ 39 ∷ rest → IsOpenText rest) → IsOpenText rest
    at true p true q more = let f : 39 ∷ 39 ∷ doubled u ≡ 39 ∷ 39 ∷ (doubled t ++ 39 ∷ rest) = rw q at (rw p at e) in more cc
    at true p false q more = let f : 39 ∷ 39 ∷ doubled u ≡ d ∷ (doubled t ++ 39 ∷ rest) = rw q at (rw p at e) in absurd (eqb-false d 39 q cc)
    at false p true q more = let f : c ∷ doubled u ≡ 39 ∷ 39 ∷ (doubled t ++ 39 ∷ rest) = rw q at (rw p at e) in absurd (eqb-false c 39 p cc)
    at false p false q more = let f : c ∷ doubled u ≡ d ∷ (doubled t ++ 39 ∷ rest) = rw q at (rw p at e) in more cc

-- the token itself, or, where its text goes on without an end, so does what is behind it
abbrev pub Stands : ℕ → List ℕ → List ℕ → List ℕ → Lexeme → Type 0
Stands b bs s rest x = (front b bs ≡ Found (shape_of x) (length s)) ⊎ ((front b bs ≡ Bad OpenQuote) × IsOpenText rest × (shape_of x ≡ shapes.Text))

stands : (b : ℕ) (bs s rest : List ℕ) (x : Lexeme) → IsToken s x → IsLongest s rest → b ∷ bs ≡ s ++ rest → Stands b bs s rest x
stands b bs s rest x h long e = by (front b bs) refl (front_good b bs) (token_reaches s rest x b bs h e)
  where
    goes_on : (inside : List ℕ) → b ∷ bs ≡ 39 ∷ doubled inside → shape_of x ≡ shapes.Text → IsOpenText rest
    goes_on inside all is =
        let t = text_of s x is h in
        let whole : 39 ∷ doubled inside ≡ 39 ∷ ((doubled t.0 ++ 39 ∷ []) ++ rest) = sym all ∙ e ∙ ap (λ (r : List ℕ). r ++ rest) t.1 in
        let tail : doubled inside ≡ (doubled t.0 ++ 39 ∷ []) ++ rest = cc in
        half inside t.0 rest (tail ∙ simp append_assoc)

    first : (q : ℕ) (behind : List ℕ) → is_name_quote q ≡ true → b ∷ bs ≡ q ∷ behind → shape_of x ≡ shapes.Text → ⊥
    first q behind k all is =
        let t = text_of s x is h in
        let whole : q ∷ behind ≡ 39 ∷ ((doubled t.0 ++ 39 ∷ []) ++ rest) = sym all ∙ e ∙ ap (λ (r : List ℕ). r ++ rest) t.1 in
        let same : q ≡ 39 = cc in
        let no : is_name_quote 39 ≡ true = rw same at k in
        cc

    by : (p : Piece) → front b bs ≡ p → Good b bs p → Reaches b (length s) (shape_of x) p → Stands b bs s rest x
    by (Gap n) is (inl g) r = let no : is_blank 45 ≡ true = rw r at g.0 in cc
    by (Gap n) is (inr g) r = absurd (long.no_comment (g.line ++ g.rest) (sym e ∙ g.all))
    by (Bad TooLong) is g r = absurd r
    by (Bad BadByte) is g r = absurd r
    by (Bad NumberTooLarge) is g r = absurd r
    by (Bad OpenQuote) is (inl g) r = inr (is, goes_on g.inside g.all r, r)
    by (Bad OpenQuote) is (inr g) r = absurd (first g.quote g.behind g.is_quote g.all r)
    by (Found shape n) is g r = found r
      where
        short : n ≤ length s
        short =
            let within = g.within in
            let le = long.token (take n (b ∷ bs)) (drop n (b ∷ bs)) g.spelled.lexeme g.spelled.spelled (sym e ∙ sym (take-append-drop n (b ∷ bs))) in
            omega (arith, le, length-take n (b ∷ bs))

        found : ((shape ≡ shape_of x) × (length s ≤ n)) ⊎ (length s < n) → Stands b bs s rest x
        found (inl f) = let same : n ≡ length s = omega (arith, short, f.1) in inl (is ∙ ap (λ (k : Shape). Found k n) f.0 ∙ ap (Found (shape_of x)) same)
        found (inr f) = absurd (omega (arith, short, f))

-- ---- what is read from a place on

from_gap : (b : ℕ) (bs : List ℕ) (at n : ℕ) → front b bs ≡ Gap n → tokens_from (b ∷ bs) 0 at ≡ tokens_from bs (n - 1) (at + 1)
unfolding tokens_from
from_gap b bs at n is = rw is refl

from_bad : (b : ℕ) (bs : List ℕ) (at : ℕ) (f : LexFault) → front b bs ≡ Bad f → tokens_from (b ∷ bs) 0 at ≡ Err f
unfolding tokens_from
from_bad b bs at f is = rw is refl

from_found : (b : ℕ) (bs : List ℕ) (at n : ℕ) (shape : Shape) (r : Result Lexeme LexFault) → front b bs ≡ Found shape n → lexeme_of shape (take n (b ∷ bs)) ≡ r
    → tokens_from (b ∷ bs) 0 at ≡ (r >>= λ x. (tokens_from bs (n - 1) (at + 1) >>= λ ts. Ok (token x at (at + n) ∷ ts)))
unfolding tokens_from
from_found b bs at n shape r is e = rw is (rw e refl)

open_from : (bytes : List ℕ) (at : ℕ) → IsOpenQuote bytes → tokens_from bytes 0 at ≡ Err OpenQuote
open_from [] at (inl h) = let all = h.all in cc
open_from [] at (inr h) = let all = h.all in cc
open_from (b ∷ bs) at h = from_bad b bs at OpenQuote (open_front b bs h)

line_len : (line rest : List ℕ) → is_line line ≡ true → EndsLine rest → prefix_len (λ c. not (eqb c 10)) (line ++ rest) ≡ length line
line_len [] [] h ends = refl
line_len [] (c ∷ cs) h ends = rw ends refl
line_len (c ∷ line) rest h ends = let q = and_parts (not (eqb c 10)) (is_line line) h in rw q.0 (let more = line_len line rest q.1 ends in omega (arith, more))

comment_front : (line rest : List ℕ) → is_line line ≡ true → EndsLine rest → front 45 (45 ∷ (line ++ rest)) ≡ Gap (length line + 2)
unfolding front
comment_front line rest h ends = ap (λ (k : ℕ). Gap (k + 2)) (line_len line rest h ends)

comment_from : (bytes line rest : List ℕ) (at : ℕ) → is_line line ≡ true → EndsLine rest → bytes ≡ 45 ∷ 45 ∷ (line ++ rest) → tokens_from bytes 0 at ≡ tokens_from rest 0 (at + (length line + 2))
comment_from bytes line rest at h ends all =
    ap (λ (r : List ℕ). tokens_from r 0 at) all
    ∙ from_gap 45 (45 ∷ (line ++ rest)) at (length line + 2) (comment_front line rest h ends)
    ∙ after_comment 45 (45 ∷ (line ++ rest)) at (length line + 2) (record { line = line; rest = rest; is = h; ends = ends; all = refl; size = refl })

-- behind the token
behind : (b : ℕ) (bs s rest : List ℕ) (at : ℕ) → 0 < length s → b ∷ bs ≡ s ++ rest → tokens_from bs (length s - 1) (at + 1) ≡ tokens_from rest 0 (at + length s)
behind b bs s rest at some e =
    let parted : suc (length s - 1) ≡ length s = omega arith in
    let place : (at + 1) + (length s - 1) ≡ at + length s = omega arith in
    skip bs (length s - 1) (at + 1)
    ∙ ap (λ (r : List ℕ). tokens_from r 0 ((at + 1) + (length s - 1))) (ap (λ (k : ℕ). drop k (b ∷ bs)) parted ∙ ap (drop (length s)) e ∙ drop_at s rest (length s) refl)
    ∙ ap (tokens_from rest 0) place

lexed : (b : ℕ) (bs s rest : List ℕ) (x : Lexeme) → IsToken s x → b ∷ bs ≡ s ++ rest → lexeme_of (shape_of x) (take (length s) (b ∷ bs)) ≡ checked x
lexed b bs s rest x h e = ap (lexeme_of (shape_of x)) (ap (take (length s)) e ∙ take_at s rest (length s) refl) ∙ lexeme_of-token s x h

one_more : (t : Token) (ts : List Token) (r : Result (List Token) LexFault) → (with_found ts r >>= λ us. Ok (t ∷ us)) ≡ with_found (t ∷ ts) r
one_more t ts (Ok us) = refl
one_more t ts (Err f) = refl

stays : (t : Token) (ts : List Token) (r : Result (List Token) LexFault) (f : LexFault) → with_found ts r ≡ Err f → with_found (t ∷ ts) r ≡ Err f
stays t ts (Ok us) f e = cc
stays t ts (Err g) f e = e

next_from : (bytes s rest : List ℕ) (at : ℕ) (x : Lexeme) (ts : List Token) (r : Result (List Token) LexFault) → IsToken s x → is_in_range x ≡ true → IsLongest s rest → bytes ≡ s ++ rest
    → tokens_from rest 0 (at + length s) ≡ with_found ts r → tokens_from bytes 0 at ≡ with_found (token x at (at + length s) ∷ ts) r
next_from [] s rest at x ts r h fit long e more = let some = (token_edges s x h).some in absurd (omega (arith, ap length e, length-append s rest, some))
next_from (b ∷ bs) s rest at x ts r h fit long e more = by (stands b bs s rest x h long e)
  where
    t : Token
    t = token x at (at + length s)

    ok : checked x ≡ Ok x
    ok = rw fit refl

    by : Stands b bs s rest x → tokens_from (b ∷ bs) 0 at ≡ with_found (t ∷ ts) r
    by (inl is) =
        from_found b bs at (length s) (shape_of x) (Ok x) is (lexed b bs s rest x h e ∙ ok)
        ∙ ap (λ (read : Result (List Token) LexFault). read >>= λ us. Ok (t ∷ us)) (behind b bs s rest at (token_edges s x h).some e ∙ more)
        ∙ one_more t ts r
    by (inr is) = from_bad b bs at OpenQuote is.0 ∙ sym (stays t ts r OpenQuote (sym more ∙ open_from rest (at + length s) (inl is.1)))

-- whatever what is left reads as, wherever it stands
abbrev pub From : List ℕ → Result (List Token) LexFault → Type 0
From left r = (at : ℕ) → tokens_from left 0 at ≡ r

pub complete : {left : List ℕ} {at : ℕ} {bytes : List ℕ} {ts : List Token} (r : Result (List Token) LexFault) → From left r → ReadsTo left at bytes ts → tokens_from bytes 0 at ≡ with_found ts r
complete {left} {at} r f nothing = f at ∙ sym (with_none r)
complete {left} {at} r f (blank {b} {bs} h more) = from_gap b bs at 1 (blank_front b bs h) ∙ complete r f more
complete {left} {at} {bytes} r f (comment line rest h ends all more) = comment_from bytes line rest at h ends all ∙ complete r f more
complete {left} {at} {bytes} r f (next {ts} s rest x h fit long all more) = next_from bytes s rest at x ts r h fit long all (complete r f more)

-- ---- where a fault begins, it is told

bad_from : (b : ℕ) (bs : List ℕ) (at : ℕ) → is_blank b ≡ false → ((s rest : List ℕ) (x : Lexeme) → IsToken s x → b ∷ bs ≡ s ++ rest → ⊥) → (IsOpenQuote (b ∷ bs) → ⊥) → tokens_from (b ∷ bs) 0 at ≡ Err BadByte
bad_from b bs at no_blank no_token no_quote = by (front b bs) refl (front_good b bs)
  where
    by : (p : Piece) → front b bs ≡ p → Good b bs p → tokens_from (b ∷ bs) 0 at ≡ Err BadByte
    by (Gap n) is (inl g) = let no : true ≡ false = sym g.0 ∙ no_blank in cc
    by (Gap n) is (inr g) = absurd (no_token (45 ∷ []) (45 ∷ (g.line ++ g.rest)) (lexemes.Sign Minus) refl g.all)
    by (Bad TooLong) is g = absurd g
    by (Bad NumberTooLarge) is g = absurd g
    by (Bad OpenQuote) is g = absurd (no_quote g)
    by (Bad BadByte) is g = from_bad b bs at BadByte is
    by (Found shape n) is g = absurd (no_token (take n (b ∷ bs)) (drop n (b ∷ bs)) g.spelled.lexeme g.spelled.spelled (sym (take-append-drop n (b ∷ bs))))

large_from : (bytes s rest : List ℕ) (n : ℤ) (at : ℕ) → IsToken s (lexemes.Number n) → IsLongest s rest → bytes ≡ s ++ rest → fits n ≡ false → tokens_from bytes 0 at ≡ Err NumberTooLarge
large_from [] s rest n at h long e past = let some = (token_edges s (lexemes.Number n) h).some in absurd (omega (arith, ap length e, length-append s rest, some))
large_from (b ∷ bs) s rest n at h long e past = by (stands b bs s rest (lexemes.Number n) h long e)
  where
    x : Lexeme
    x = lexemes.Number n

    err : checked x ≡ Err NumberTooLarge
    err = rw past refl

    by : Stands b bs s rest x → tokens_from (b ∷ bs) 0 at ≡ Err NumberTooLarge
    by (inl is) = from_found b bs at (length s) (shape_of x) (Err NumberTooLarge) is (lexed b bs s rest x h e ∙ err)
    by (inr is) = let no = is.2 in cc

pub fault_from : (f : LexFault) (left : List ℕ) → Begins f left → From left (Err f)
fault_from TooLong left h at = absurd h
fault_from OpenQuote left h at = open_from left at h
fault_from NumberTooLarge left h at = large_from left h.spelling h.rest h.number at h.spelled h.longest h.all h.past
fault_from BadByte left h at = by left h.all h.no_token h.no_quote
  where
    by : (left : List ℕ) → left ≡ h.byte ∷ h.behind → ((s rest : List ℕ) (x : Lexeme) → IsToken s x → left ≡ s ++ rest → ⊥) → (IsOpenQuote left → ⊥) → tokens_from left 0 at ≡ Err BadByte
    by [] e no_token no_quote = cc
    by (b ∷ bs) e no_token no_quote =
        let head : b ≡ h.byte = cc in
        bad_from b bs at (ap is_blank head ∙ h.no_blank) no_token no_quote
