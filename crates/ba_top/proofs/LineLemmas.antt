-- The lines of a text, from its front on.
use Rattle.std.proofs.Common.{◌≡◌, refl, sym, ap, subst, ℕ, zero, suc, ◌+◌, ◌<◌, ◌≤◌, ◌==◌, Bool, true, false, not, cond, List, [], ◌∷◌, length, take, drop, Option, Some, None, Result, Err, nat_lt, add-one, arith}
use Rattle.std.proofs.lemmas.Bool.{ltb-true, ltb-false}
use Rattle.std.specs.List.{onto_first, position, position_or_len}
use Rattle.ba_outside.specs.Seen.{SinkSeen}
use Rattle.ba_outside.specs.declared.sink.WriteFail.{WriteFail}
use Rattle.ba_plan.proofs.SendingLines.{lines_err, lines_none, lines_then}
use Rattle.ba_plan.specs.Sent.{SentLines, WroteLines}
use Rattle.ba_top.specs.Text.{lines_of}

-- the first line feed's place, or the length
abbrev end_of : List ℕ → ℕ
end_of bytes = position_or_len (λ b. b == 10) bytes

first_step : (byte : ℕ) (bytes : List ℕ) (n : ℕ) (b : Bool) → ((m : ℕ) → end_of bytes ≡ m → m < length bytes → lines_of bytes ≡ take (suc m) bytes ∷ lines_of (drop (suc m) bytes))
    → cond (not b) (1 + end_of bytes) 0 ≡ n → n < length (byte ∷ bytes) → cond b ((byte ∷ []) ∷ lines_of bytes) (onto_first byte (lines_of bytes)) ≡ take (suc n) (byte ∷ bytes) ∷ lines_of (drop (suc n) (byte ∷ bytes))
first_step byte bytes zero true rest e below = refl
first_step byte bytes (suc n) true rest e below = absurd (omega arith)
first_step byte bytes zero false rest e below = absurd (omega arith)
first_step byte bytes (suc n) false rest e below = ap (onto_first byte) (rest n (omega arith) (omega arith))

first_at : (bytes : List ℕ) (n : ℕ) → end_of bytes ≡ n → n < length bytes → lines_of bytes ≡ take (suc n) bytes ∷ lines_of (drop (suc n) bytes)
first_at [] n e below = absurd (omega arith)
first_at (byte ∷ bytes) n e below = first_step byte bytes n (byte == 10) (first_at bytes) e below

found_at : (b : Bool) (first n : ℕ) → cond b (Some first) None ≡ Some n → (b ≡ true) × (first ≡ n)
found_at true first n e = (refl, cc e)
found_at false first n e = cc e

not_found : (b : Bool) (first : ℕ) → ◌≡◌ {A = Option ℕ} (cond b (Some first) None) None → b ≡ false
not_found true first e = cc e
not_found false first e = refl

-- a line feed at this place ends the first line
pub ended_line : (bytes : List ℕ) (n : ℕ) → position (λ b. b == 10) bytes ≡ Some n → lines_of bytes ≡ take (n + 1) bytes ∷ lines_of (drop (n + 1) bytes)
ended_line bytes n e =
    let found = found_at (nat_lt (end_of bytes) (length bytes)) (end_of bytes) n e in
    let within : end_of bytes < length bytes = ltb-true _ _ found.0 in
    subst (λ z. lines_of bytes ≡ take z bytes ∷ lines_of (drop z bytes)) (sym (add-one n)) (first_at bytes n found.1 (subst (λ z. z < length bytes) found.1 within))

last_step : (byte : ℕ) (bytes : List ℕ) (b : Bool) → length (byte ∷ bytes) ≤ cond (not b) (1 + end_of bytes) 0 → (length bytes ≤ end_of bytes → onto_first byte (lines_of bytes) ≡ (byte ∷ bytes) ∷ [])
    → cond b ((byte ∷ []) ∷ lines_of bytes) (onto_first byte (lines_of bytes)) ≡ (byte ∷ bytes) ∷ []
last_step byte bytes true short rest = absurd (omega arith)
last_step byte bytes false short rest = rest (omega arith)

last_at : (byte : ℕ) (bytes : List ℕ) → length (byte ∷ bytes) ≤ end_of (byte ∷ bytes) → lines_of (byte ∷ bytes) ≡ (byte ∷ bytes) ∷ []
last_at byte [] short = last_step byte [] (byte == 10) short (λ h. refl)
last_at byte (next ∷ bytes) short = last_step byte (next ∷ bytes) (byte == 10) short (λ h. ap (onto_first byte) (last_at next bytes h))

-- without a line feed, and with a byte, there is one line
pub last_line : (bytes : List ℕ) → 0 < length bytes → position (λ b. b == 10) bytes ≡ None → lines_of bytes ≡ bytes ∷ []
last_line [] some e = absurd (omega arith)
last_line (byte ∷ bytes) some e =
    last_at byte bytes (ltb-false _ _ (not_found (nat_lt (end_of (byte ∷ bytes)) (length (byte ∷ bytes))) (end_of (byte ∷ bytes)) e))

-- ---- sent one after another

-- the first line was written, and the rest became of this
pub line_then : {X : Type 0} (bytes line behind : List ℕ) (s m t : SinkSeen) (r : Result X WriteFail) → lines_of bytes ≡ line ∷ lines_of behind
    → WroteLines (line ∷ []) s m → SentLines (lines_of behind) m t r → SentLines (lines_of bytes) s t r
line_then bytes line behind s m t r is wrote rest = subst (λ z. SentLines z s t r) (sym is) (lines_then s m t (line ∷ []) (lines_of behind) r wrote rest)

-- the first line wasn't written
pub line_err : (X Y : Type 0) (bytes line behind : List ℕ) (s t : SinkSeen) (e : WriteFail) → lines_of bytes ≡ line ∷ lines_of behind
    → SentLines {X = X} (line ∷ []) s t (Err e) → SentLines {X = Y} (lines_of bytes) s t (Err e)
line_err X Y bytes line behind s t e is sent = subst (λ z. SentLines {X = Y} z s t (Err e)) (sym is) (lines_err X Y s t (line ∷ []) (lines_of behind) e sent)

-- no line is left
pub no_line : (bytes : List ℕ) (s : SinkSeen) → length bytes ≡ 0 → WroteLines (lines_of bytes) s s
no_line [] s none = lines_none s
no_line (byte ∷ bytes) s none = absurd (omega arith)
