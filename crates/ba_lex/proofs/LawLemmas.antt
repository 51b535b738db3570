-- The laws of the reading of tokens.
use Rattle.std.proofs.Common.{◌≡◌, ℕ, ◌<◌, ◌≤◌, Bool, true, false, ltb, List, [], length, Result, Ok, Err, ◌⊎◌, inl, inr, refl, sym, ap, subst, ◌∙◌, le-ltb}
use Rattle.std.proofs.lemmas.Bool.{lt-ltb, ltb-false, ltb-true}
use Rattle.std.proofs.lemmas.List.{append-nil}
use Rattle.std.proofs.lemmas.Str.{IsUtf8-from_is_utf8, is_utf8-from_IsUtf8}
use Rattle.std.specs.Str.{IsUtf8, is_utf8}
use Rattle.ba_lex.specs.Faults.{HasFault, HasFileFault, StopsAt, TellsFileFault, TellsTextFault}
use Rattle.ba_lex.specs.Reading.{FileReading, HasTokens, Reads, TextReading, TokensAreUnique}
use Rattle.ba_lex.specs.Tokens.{file_tokens_of, tokens_from, tokens_of}
use Rattle.ba_lex.specs.declared.token.LexFault.{LexFault}
use Rattle.ba_lex.specs.declared.token.LexFault.TheVariants.{TooLong, BadByte, OpenQuote, NumberTooLarge}
use Rattle.ba_lex.specs.declared.token.Token.{Token}
use Rattle.ba_lex.proofs.CompleteLemmas.{From, complete, fault_from}
use Rattle.ba_lex.proofs.ReadingLemmas.{Stops, Told, told}

-- ---- without a limit

read_told : (text : List ℕ) (ts : List Token) → tokens_from text 0 0 ≡ Ok ts → Reads 0 text ts
read_told text ts e = subst (Told 0 text) e (told text)

fault_told : (text : List ℕ) (f : LexFault) → tokens_from text 0 0 ≡ Err f → StopsAt f text
fault_told text f e = let s : Stops f 0 text = subst (Told 0 text) e (told text) in record { tokens = s.tokens; left = s.left; before = s.before; here = s.here }

none_left : From [] (Ok [])
unfolding tokens_from
none_left at = refl

told_read : (text : List ℕ) (ts : List Token) → Reads 0 text ts → tokens_from text 0 0 ≡ Ok ts
told_read text ts h = complete (Ok []) none_left h ∙ ap Ok (append-nil ts)

told_fault : (text : List ℕ) (f : LexFault) → StopsAt f text → tokens_from text 0 0 ≡ Err f
told_fault text f h = complete (Err f) (fault_from f h.left h.here) h.before

-- ---- with one

long_is : (limit : ℕ) (text : List ℕ) → limit < length text → tokens_of limit text ≡ Err TooLong
unfolding tokens_of
long_is limit text h = rw (lt-ltb limit (length text) h) refl

short_is : (limit : ℕ) (text : List ℕ) → length text ≤ limit → tokens_of limit text ≡ tokens_from text 0 0
unfolding tokens_of
short_is limit text h = rw (le-ltb limit (length text) h) refl

long_file_is : (limit : ℕ) (bytes : List ℕ) → limit < length bytes → file_tokens_of limit bytes ≡ Err TooLong
unfolding file_tokens_of
long_file_is limit bytes h = rw (lt-ltb limit (length bytes) h) refl

text_file_is : (limit : ℕ) (bytes : List ℕ) → length bytes ≤ limit → IsUtf8 bytes → file_tokens_of limit bytes ≡ tokens_from bytes 0 0
unfolding file_tokens_of
text_file_is limit bytes h u = rw (le-ltb limit (length bytes) h, is_utf8-from_IsUtf8 bytes u) refl

other_file_is : (limit : ℕ) (bytes : List ℕ) → length bytes ≤ limit → is_utf8 bytes ≡ false → file_tokens_of limit bytes ≡ Err BadByte
unfolding file_tokens_of
other_file_is limit bytes h u = rw (le-ltb limit (length bytes) h, u) refl

err_ok : (f : LexFault) (ts : List Token) → ◌≡◌ {A = Result (List Token) LexFault} (Err f) (Ok ts) → ⊥
err_ok f ts e = cc

err_same : (f g : LexFault) → ◌≡◌ {A = Result (List Token) LexFault} (Err f) (Err g) → f ≡ g
err_same f g e = cc

-- the two sides of the limit
sides : (limit : ℕ) (text : List ℕ) → (limit < length text) ⊎ (length text ≤ limit)
sides limit text = by (ltb limit (length text)) refl
  where
    by : (t : Bool) → ltb limit (length text) ≡ t → (limit < length text) ⊎ (length text ≤ limit)
    by true e = inl (ltb-true limit (length text) e)
    by false e = inr (ltb-false limit (length text) e)

-- ---- texts

read_text : (limit : ℕ) (text : List ℕ) (ts : List Token) → tokens_of limit text ≡ Ok ts → HasTokens limit text ts
read_text limit text ts e = by (sides limit text)
  where
    by : (limit < length text) ⊎ (length text ≤ limit) → HasTokens limit text ts
    by (inl h) = absurd (err_ok TooLong ts (sym (long_is limit text h) ∙ e))
    by (inr h) = record { within = h; are = read_told text ts (sym (short_is limit text h) ∙ e) }

pub text_reading : TextReading
text_reading limit text ts = (read_text limit text ts, λ h. short_is limit text h.within ∙ told_read text ts h.are)

pub tokens_are_unique : TokensAreUnique
tokens_are_unique text ts us h k = same ts us (sym (told_read text ts h) ∙ told_read text us k)
  where
    same : (ts us : List Token) → ◌≡◌ {A = Result (List Token) LexFault} (Ok ts) (Ok us) → ts ≡ us
    same ts us e = cc

has_long : (limit : ℕ) (text : List ℕ) (f : LexFault) → limit < length text → TooLong ≡ f → HasFault limit text f
has_long limit text f h e = subst (HasFault limit text) e h

has_short : (limit : ℕ) (text : List ℕ) (f : LexFault) → length text ≤ limit → StopsAt f text → HasFault limit text f
has_short limit text TooLong h s = absurd s.here
has_short limit text BadByte h s = (h, s)
has_short limit text OpenQuote h s = (h, s)
has_short limit text NumberTooLarge h s = (h, s)

text_fault : (limit : ℕ) (text : List ℕ) (f : LexFault) → tokens_of limit text ≡ Err f → HasFault limit text f
text_fault limit text f e = by (sides limit text)
  where
    by : (limit < length text) ⊎ (length text ≤ limit) → HasFault limit text f
    by (inl h) = has_long limit text f h (err_same TooLong f (sym (long_is limit text h) ∙ e))
    by (inr h) = has_short limit text f h (fault_told text f (sym (short_is limit text h) ∙ e))

fault_text : (limit : ℕ) (text : List ℕ) (f : LexFault) → HasFault limit text f → tokens_of limit text ≡ Err f
fault_text limit text TooLong h = long_is limit text h
fault_text limit text BadByte h = short_is limit text h.0 ∙ told_fault text BadByte h.1
fault_text limit text OpenQuote h = short_is limit text h.0 ∙ told_fault text OpenQuote h.1
fault_text limit text NumberTooLarge h = short_is limit text h.0 ∙ told_fault text NumberTooLarge h.1

pub tells_text_fault : TellsTextFault
tells_text_fault limit text f = (text_fault limit text f, fault_text limit text f)

-- ---- files

is_text_or_not : (bytes : List ℕ) → IsUtf8 bytes ⊎ (is_utf8 bytes ≡ false)
is_text_or_not bytes = by (is_utf8 bytes) refl
  where
    by : (t : Bool) → is_utf8 bytes ≡ t → IsUtf8 bytes ⊎ (is_utf8 bytes ≡ false)
    by true e = inl (IsUtf8-from_is_utf8 bytes e)
    by false e = inr e

not_text : (bytes : List ℕ) → is_utf8 bytes ≡ false → IsUtf8 bytes → ⊥
not_text bytes e u = let no : true ≡ false = sym (is_utf8-from_IsUtf8 bytes u) ∙ e in cc

read_file : (limit : ℕ) (bytes : List ℕ) (ts : List Token) → file_tokens_of limit bytes ≡ Ok ts → IsUtf8 bytes × HasTokens limit bytes ts
read_file limit bytes ts e = by (sides limit bytes) (is_text_or_not bytes)
  where
    by : (limit < length bytes) ⊎ (length bytes ≤ limit) → IsUtf8 bytes ⊎ (is_utf8 bytes ≡ false) → IsUtf8 bytes × HasTokens limit bytes ts
    by (inl h) u = absurd (err_ok TooLong ts (sym (long_file_is limit bytes h) ∙ e))
    by (inr h) (inl u) = (u, record { within = h; are = read_told bytes ts (sym (text_file_is limit bytes h u) ∙ e) })
    by (inr h) (inr u) = absurd (err_ok BadByte ts (sym (other_file_is limit bytes h u) ∙ e))

pub file_reading : FileReading
file_reading limit bytes ts = (read_file limit bytes ts, λ h. text_file_is limit bytes h.1.within h.0 ∙ told_read bytes ts h.1.are)

has_long_file : (limit : ℕ) (bytes : List ℕ) (f : LexFault) → limit < length bytes → TooLong ≡ f → HasFileFault limit bytes f
has_long_file limit bytes f h e = subst (HasFileFault limit bytes) e h

has_other_file : (limit : ℕ) (bytes : List ℕ) (f : LexFault) → length bytes ≤ limit → (¬ IsUtf8 bytes) → BadByte ≡ f → HasFileFault limit bytes f
has_other_file limit bytes f h other e = subst (HasFileFault limit bytes) e (h, inl other)

has_text_file : (limit : ℕ) (bytes : List ℕ) (f : LexFault) → length bytes ≤ limit → IsUtf8 bytes → StopsAt f bytes → HasFileFault limit bytes f
has_text_file limit bytes TooLong h u s = absurd s.here
has_text_file limit bytes BadByte h u s = (h, inr s)
has_text_file limit bytes OpenQuote h u s = (h, u, s)
has_text_file limit bytes NumberTooLarge h u s = (h, u, s)

file_fault : (limit : ℕ) (bytes : List ℕ) (f : LexFault) → file_tokens_of limit bytes ≡ Err f → HasFileFault limit bytes f
file_fault limit bytes f e = by (sides limit bytes) (is_text_or_not bytes)
  where
    by : (limit < length bytes) ⊎ (length bytes ≤ limit) → IsUtf8 bytes ⊎ (is_utf8 bytes ≡ false) → HasFileFault limit bytes f
    by (inl h) u = has_long_file limit bytes f h (err_same TooLong f (sym (long_file_is limit bytes h) ∙ e))
    by (inr h) (inl u) = has_text_file limit bytes f h u (fault_told bytes f (sym (text_file_is limit bytes h u) ∙ e))
    by (inr h) (inr u) = has_other_file limit bytes f h (not_text bytes u) (err_same BadByte f (sym (other_file_is limit bytes h u) ∙ e))

bad_file : (limit : ℕ) (bytes : List ℕ) → length bytes ≤ limit → (¬ IsUtf8 bytes) ⊎ StopsAt BadByte bytes → IsUtf8 bytes ⊎ (is_utf8 bytes ≡ false) → file_tokens_of limit bytes ≡ Err BadByte
bad_file limit bytes h s (inr u) = other_file_is limit bytes h u
bad_file limit bytes h (inl other) (inl u) = absurd (other u)
bad_file limit bytes h (inr s) (inl u) = text_file_is limit bytes h u ∙ told_fault bytes BadByte s

fault_file : (limit : ℕ) (bytes : List ℕ) (f : LexFault) → HasFileFault limit bytes f → file_tokens_of limit bytes ≡ Err f
fault_file limit bytes TooLong h = long_file_is limit bytes h
fault_file limit bytes BadByte h = bad_file limit bytes h.0 h.1 (is_text_or_not bytes)
fault_file limit bytes OpenQuote h = text_file_is limit bytes h.0 h.1 ∙ told_fault bytes OpenQuote h.2
fault_file limit bytes NumberTooLarge h = text_file_is limit bytes h.0 h.1 ∙ told_fault bytes NumberTooLarge h.2

pub tells_file_fault : TellsFileFault
tells_file_fault limit bytes f = (file_fault limit bytes f, fault_file limit bytes f)
