-- What is read are the tokens of the text.
use Rattle.std.proofs.Common.{◌≡◌, ℕ, zero, suc, ◌+◌, ◌-◌, ◌<◌, ◌≤◌, Bool, true, false, List, [], ◌∷◌, ◌++◌, length, take, drop, Result, Ok, Err, inl, inr, refl, sym, ap, subst, ◌∙◌, arith}
use Rattle.std.proofs.lemmas.List.{drop_at, length-append, length-drop, length-take, take-append-drop}
use Rattle.ba_lex.specs.Faults.{Begins}
use Rattle.ba_lex.specs.Reading.{IsLongest, Reads, ReadsTo}
use Rattle.ba_lex.specs.Reading.ReadsTo.{blank, comment, next, nothing}
use Rattle.ba_lex.specs.Spelling.{IsToken, is_blank, is_in_range}
use Rattle.ba_model.specs.Readings.{◌>>=◌}
use Rattle.ba_lex.specs.Tokens.{front, lexeme_of, shape_of, token, tokens_from, with_front}
use Rattle.ba_lex.specs.declared.front.Piece.{Piece}
use Rattle.ba_lex.specs.declared.front.Piece.TheVariants.{Gap, Found, Bad}
use Rattle.ba_lex.specs.declared.front.Shape.{Shape}
use Rattle.ba_lex.specs.declared.token.LexFault.{LexFault}
use Rattle.ba_lex.specs.declared.token.LexFault.TheVariants.{TooLong, BadByte, OpenQuote, NumberTooLarge}
use Rattle.ba_lex.specs.declared.token.Lexeme.{Lexeme}
use Rattle.ba_lex.specs.declared.token.Token.{Token}
use Rattle.ba_lex.proofs.DecodeLemmas.{says, unsaid}
use Rattle.ba_lex.proofs.FrontLemmas.{Good, GoodBad, Takes, TakesComment, TakesGap, front_good}
use Rattle.ba_lex.proofs.LongestLemmas.{Reaches, token_reaches}
use Rattle.ba_lex.proofs.LoopLemmas.{skip}
use Rattle.ba_lex.proofs.OpenLemmas.{blank_front, open_front}

dashes : (more : List ℕ) (shape : Shape) (n : ℕ) → front 45 (45 ∷ more) ≡ Found shape n → ⊥
unfolding front
dashes more shape n e = cc

longest : (b : ℕ) (bs s rest : List ℕ) (shape : Shape) → s ++ rest ≡ b ∷ bs → front b bs ≡ Found shape (length s) → IsLongest s rest
longest b bs s rest shape all is = record {
  token = λ other more y h e. no_longer (length other) (shape_of y) (subst (Reaches b (length other) (shape_of y)) is (token_reaches other more y b bs h (sym all ∙ e)));
  no_comment = λ more e. commented more (sym all ∙ e);
}
  where
    no_longer : (k : ℕ) (other : Shape) → Reaches b k other (Found shape (length s)) → k ≤ length s
    no_longer k other (inl h) = h.1
    no_longer k other (inr h) = omega arith

    commented : (more : List ℕ) → b ∷ bs ≡ 45 ∷ 45 ∷ more → ⊥
    commented more e =
        let head : b ≡ 45 = cc in
        let tail : bs ≡ 45 ∷ more = cc in
        dashes more shape (length s) (ap (λ (r : List ℕ). front 45 r) (sym tail) ∙ ap (λ (n : ℕ). front n bs) (sym head) ∙ is)

-- a comment is read as one
pub after_comment : (b : ℕ) (bs : List ℕ) (at n : ℕ) (h : TakesComment b bs n) → tokens_from bs (n - 1) (at + 1) ≡ tokens_from h.rest 0 (at + (length h.line + 2))
after_comment b bs at n h =
    let tail : bs ≡ (45 ∷ h.line) ++ h.rest = behind in
    let size : length (45 ∷ h.line) ≡ n - 1 = omega (arith, h.size) in
    let place : (at + 1) + (n - 1) ≡ at + (length h.line + 2) = omega (arith, h.size) in
    skip bs (n - 1) (at + 1)
    ∙ ap (λ (r : List ℕ). tokens_from r 0 ((at + 1) + (n - 1))) (ap (drop (n - 1)) tail ∙ drop_at (45 ∷ h.line) h.rest (n - 1) size)
    ∙ ap (tokens_from h.rest 0) place
  where
    behind : bs ≡ (45 ∷ h.line) ++ h.rest
    behind = let all = h.all in cc

-- the bytes have these tokens up to what is left, which begins with the fault
pub record Stops (fault : LexFault) (at : ℕ) (bytes : List ℕ) : Type 0 where
  pub tokens : List Token
  pub left : List ℕ
  pub before : ReadsTo left at bytes tokens
  pub here : Begins fault left

-- what reading gives is so
abbrev pub Told : ℕ → List ℕ → Result (List Token) LexFault → Type 0
Told at bytes (Ok ts) = Reads at bytes ts
Told at bytes (Err f) = Stops f at bytes

blank_told : (b : ℕ) (bs : List ℕ) (at : ℕ) (r : Result (List Token) LexFault) → is_blank b ≡ true → Told (at + 1) bs r → Told at (b ∷ bs) r
blank_told b bs at (Ok ts) h t = blank h t
blank_told b bs at (Err f) h t = record { tokens = t.tokens; left = t.left; before = blank h t.before; here = t.here }

comment_told : (b : ℕ) (bs : List ℕ) (at n : ℕ) (r : Result (List Token) LexFault) (h : TakesComment b bs n) → Told (at + (length h.line + 2)) h.rest r → Told at (b ∷ bs) r
comment_told b bs at n (Ok ts) h t = comment h.line h.rest h.is h.ends h.all t
comment_told b bs at n (Err f) h t = record { tokens = t.tokens; left = t.left; before = comment h.line h.rest h.is h.ends h.all t.before; here = t.here }

-- a token stands before what is read next
abbrev pub Stands : List ℕ → List ℕ → List ℕ → Lexeme → Type 0
Stands bytes s rest x = IsToken s x × (is_in_range x ≡ true) × IsLongest s rest × (bytes ≡ s ++ rest)

token_told : (bytes s rest : List ℕ) (x : Lexeme) (at : ℕ) (r : Result (List Token) LexFault) → Stands bytes s rest x → Told (at + length s) rest r → Told at bytes (r >>= λ us. Ok (token x at (at + length s) ∷ us))
token_told bytes s rest x at (Ok ts) h t = next s rest x h.0 h.1 h.2 h.3 t
token_told bytes s rest x at (Err f) h t = record { tokens = token x at (at + length s) ∷ t.tokens; left = t.left; before = next s rest x h.0 h.1 h.2 h.3 t.before; here = t.here }

-- what is shorter than some length is read so
abbrev pub SoundBelow : ℕ → Type 0
SoundBelow fuel = (rest : List ℕ) (place : ℕ) → length rest ≤ fuel → Told place rest (tokens_from rest 0 place)

gap_read : (fuel b : ℕ) (bs : List ℕ) (at n : ℕ) → length bs ≤ fuel → TakesGap b bs n → SoundBelow fuel → Told at (b ∷ bs) (tokens_from bs (n - 1) (at + 1))
gap_read fuel b bs at n le (inl h) below =
    let zero_is : 0 ≡ n - 1 = omega (arith, h.1) in
    subst (λ (k : ℕ). Told at (b ∷ bs) (tokens_from bs k (at + 1))) zero_is (blank_told b bs at (tokens_from bs 0 (at + 1)) h.0 (below bs (at + 1) le))
gap_read fuel b bs at n le (inr h) below =
    let whole : suc (length bs) ≡ suc (suc (length (h.line ++ h.rest))) = ap length h.all in
    let short : length h.rest ≤ fuel = omega (arith, whole, length-append h.line h.rest) in
    let place : ℕ = at + (length h.line + 2) in
    subst (Told at (b ∷ bs)) (sym (after_comment b bs at n h)) (comment_told b bs at n (tokens_from h.rest 0 place) h (below h.rest place short))

-- where a byte begins no gap and no token, a fault begins
bad_begins : (b : ℕ) (bs : List ℕ) (f : LexFault) → front b bs ≡ Bad f → GoodBad f (b ∷ bs) → Begins f (b ∷ bs)
bad_begins b bs TooLong is h = absurd h
bad_begins b bs NumberTooLarge is h = absurd h
bad_begins b bs OpenQuote is h = h
bad_begins b bs BadByte is h = record {
  byte = b;
  behind = bs;
  all = refl;
  no_blank = not_true (is_blank b) (λ s. gap_bad (sym (blank_front b bs s) ∙ is));
  no_token = λ s rest x t e. subst (Reaches b (length s) (shape_of x)) is (token_reaches s rest x b bs t e);
  no_quote = λ q. open_bad (sym (open_front b bs q) ∙ is);
}
  where
    gap_bad : Gap 1 ≡ Bad BadByte → ⊥
    gap_bad e = cc

    open_bad : Bad OpenQuote ≡ Bad BadByte → ⊥
    open_bad e = cc

    not_true : (t : Bool) → (t ≡ true → ⊥) → t ≡ false
    not_true true h = absurd (h refl)
    not_true false h = refl

-- the bytes that are left behind n of them
record Split (b : ℕ) (bs : List ℕ) (n at : ℕ) : Type 0 where
  size : length (take n (b ∷ bs)) ≡ n
  all : take n (b ∷ bs) ++ drop n (b ∷ bs) ≡ b ∷ bs
  there : tokens_from bs (n - 1) (at + 1) ≡ tokens_from (drop n (b ∷ bs)) 0 (at + n)
  shorter : length (drop n (b ∷ bs)) ≤ length bs

split : (b : ℕ) (bs : List ℕ) (n at : ℕ) → 0 < n → n ≤ suc (length bs) → Split b bs n at
split b bs n at some within =
    let parted : suc (n - 1) ≡ n = omega arith in
    let place : (at + 1) + (n - 1) ≡ at + n = omega arith in
    record {
      size = omega (arith, length-take n (b ∷ bs));
      all = take-append-drop n (b ∷ bs);
      there = skip bs (n - 1) (at + 1) ∙ ap (λ (r : List ℕ). tokens_from r 0 ((at + 1) + (n - 1))) (ap (λ (k : ℕ). drop k (b ∷ bs)) parted) ∙ ap (tokens_from (drop n (b ∷ bs)) 0) place;
      shorter = omega (arith, length-drop n (b ∷ bs));
    }

token_read : (fuel b : ℕ) (bs : List ℕ) (at n : ℕ) (shape : Shape) → length bs ≤ fuel → front b bs ≡ Found shape n → Takes b bs shape n → SoundBelow fuel
    → Told at (b ∷ bs) (lexeme_of shape (take n (b ∷ bs)) >>= λ x. (tokens_from bs (n - 1) (at + 1) >>= λ us. Ok (token x at (at + n) ∷ us)))
token_read fuel b bs at n shape le is good below = by (lexeme_of shape s) refl
  where
    s : List ℕ
    s = take n (b ∷ bs)

    rest : List ℕ
    rest = drop n (b ∷ bs)

    parts : Split b bs n at
    parts = split b bs n at good.some good.within

    long : IsLongest s rest
    long = longest b bs s rest shape parts.all (is ∙ ap (Found shape) (sym parts.size))

    short : length rest ≤ fuel
    short = omega (arith, parts.shorter, le)

    ends : (m : ℕ) (x : Lexeme) → m ≡ n → Told at (b ∷ bs) (tokens_from rest 0 (at + m) >>= λ us. Ok (token x at (at + m) ∷ us))
        → Told at (b ∷ bs) (tokens_from bs (n - 1) (at + 1) >>= λ us. Ok (token x at (at + n) ∷ us))
    ends m x e t = rw parts.there (rw e at t)

    by : (r : Result Lexeme LexFault) → lexeme_of shape s ≡ r → Told at (b ∷ bs) (r >>= λ x. (tokens_from bs (n - 1) (at + 1) >>= λ us. Ok (token x at (at + n) ∷ us)))
    by (Ok x) e =
        let said = says s shape x good.spelled e in
        ends (length s) x parts.size (token_told (b ∷ bs) s rest x at (tokens_from rest 0 (at + length s)) (said.spelled, said.in_range, long, sym parts.all) (below rest (at + length s) short))
    by (Err f) e =
        let past = unsaid s shape f good.spelled e in
        record {
          tokens = [];
          left = b ∷ bs;
          before = nothing;
          here = subst (λ (g : LexFault). Begins g (b ∷ bs)) (sym past.fault) (record {
            spelling = s;
            rest = rest;
            number = past.number;
            all = sym parts.all;
            spelled = past.spelled;
            longest = long;
            past = past.past;
          });
        }

pub sound : (fuel : ℕ) → SoundBelow fuel
unfolding tokens_from
sound fuel [] at le = nothing
sound zero (b ∷ bs) at le = absurd (omega (arith, le))
sound (suc fuel) (b ∷ bs) at le = by (front b bs) refl (front_good b bs) (sound fuel)
  where
    shorter : length bs ≤ fuel
    shorter = omega (arith, le)

    by : (p : Piece) → front b bs ≡ p → Good b bs p → SoundBelow fuel → Told at (b ∷ bs) (with_front p (b ∷ bs) at (tokens_from bs))
    by (Bad f) is good below = record { tokens = []; left = b ∷ bs; before = nothing; here = bad_begins b bs f is good }
    by (Gap n) is good below = gap_read fuel b bs at n shorter good below
    by (Found shape n) is good below = token_read fuel b bs at n shape shorter is good below

pub told : (text : List ℕ) → Told 0 text (tokens_from text 0 0)
told text = sound (length text) text 0 (omega arith)
