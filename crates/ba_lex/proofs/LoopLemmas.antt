-- Tokens one after the other, as the loop reads them.
use Rattle.std.proofs.Common.{◌≡◌, ℕ, zero, suc, ◌+◌, ◌-◌, ◌<◌, ◌≤◌, List, [], ◌∷◌, ◌++◌, length, drop, take, get_or, Result, Ok, Err, refl, sym, ap, subst, ◌∙◌, append_assoc, arith}
use Rattle.std.proofs.lemmas.List.{append-nil, drop-drop, drop_all, drop_more, get_or-drop, get_or-take, length-drop, length-take, take_rest}
use Rattle.std.proofs.lemmas.Str.{IsCharBoundary-after_ascii, IsCharBoundary-before_ascii, IsUtf8-between}
use Rattle.std.specs.Str.{IsUtf8}
use Rattle.ba_lex.proofs.FrontLemmas.{Good, Takes, TakesGap, front_good, gap_size}
use Rattle.ba_lex.proofs.ShapeLemmas.{shape_edges}
use Rattle.ba_lex.specs.declared.front.Piece.{Piece}
use Rattle.ba_lex.specs.declared.front.Piece.TheVariants.{Gap, Found, Bad}
use Rattle.ba_lex.specs.declared.front.Shape.{Shape}
use Rattle.ba_model.specs.declared.failure.Failure.{Failure}
use Rattle.ba_model.specs.declared.failure.Failure.TheVariants.{NoMemory, Fault}
use Rattle.ba_lex.specs.declared.token.LexFault.{LexFault}
use Rattle.ba_lex.specs.declared.token.Lexeme.{Lexeme}
use Rattle.ba_lex.specs.declared.token.Token.{Token}
use Rattle.ba_model.specs.Readings.{◌>>=◌, Fails}
use Rattle.ba_lex.specs.Tokens.{IsOfShape, front, lexeme_of, token, tokens_from, with_front}

abbrev pub with_found : List Token → Result (List Token) LexFault → Result (List Token) LexFault
with_found before read = read >>= λ ts. Ok (before ++ ts)

regroup : (before : List Token) (t : Token) (read : Result (List Token) LexFault) → with_found before (read >>= λ ts. Ok (t ∷ ts)) ≡ with_found (before ++ t ∷ []) read
regroup before t (Ok ts) = ap Ok (simp append_assoc)
regroup before t (Err f) = refl

pub with_none : (read : Result (List Token) LexFault) → with_found [] read ≡ read
with_none (Ok ts) = refl
with_none (Err f) = refl

pub skip : (bs : List ℕ) (k at : ℕ) → tokens_from bs k at ≡ tokens_from (drop k bs) 0 (at + k)
unfolding tokens_from
skip [] zero at = refl
skip [] (suc k) at = refl
skip (b ∷ bs) zero at = let e : at ≡ at + 0 = omega arith in ap (tokens_from (b ∷ bs) 0) e
skip (b ∷ bs) (suc k) at = let e : (at + 1) + k ≡ at + suc k = omega arith in skip bs k (at + 1) ∙ ap (tokens_from (drop k bs) 0) e

-- what follows n bytes from a place
after : (bytes : List ℕ) (at n : ℕ) → 0 < n → tokens_from (drop (at + 1) bytes) (n - 1) (at + 1) ≡ tokens_from (drop (at + n) bytes) 0 (at + n)
after bytes at n some =
    let e : (at + 1) + (n - 1) ≡ at + n = omega arith in
    skip (drop (at + 1) bytes) (n - 1) (at + 1)
    ∙ ap (λ (r : List ℕ). tokens_from r 0 ((at + 1) + (n - 1))) (drop-drop (n - 1) (at + 1) bytes)
    ∙ ap (λ (k : ℕ). tokens_from (drop k bytes) 0 k) e

pub starts : (bytes : List ℕ) → with_found [] (tokens_from (drop 0 bytes) 0 0) ≡ tokens_from bytes 0 0
starts bytes = with_none (tokens_from bytes 0 0)

-- a turn of the loop, by what stands at its place
pub record Turn (before : List Token) (bytes : List ℕ) (at : ℕ) (piece : Piece) (total : Result (List Token) LexFault) : Type 0 where
  pub lt : at < length bytes
  pub is : piece ≡ front (get_or bytes at 0) (drop (at + 1) bytes)
  pub so_far : with_found before (tokens_from (drop at bytes) 0 at) ≡ total

turn_is : (before : List Token) (bytes : List ℕ) (at : ℕ) (piece : Piece) (total : Result (List Token) LexFault) → Turn before bytes at piece total
    → with_found before (with_front piece (drop at bytes) at (tokens_from (drop (at + 1) bytes))) ≡ total
unfolding tokens_from
turn_is before bytes at piece total t =
    let b : ℕ = get_or bytes at 0 in
    let rest : List ℕ = drop (at + 1) bytes in
    let there : drop at bytes ≡ b ∷ rest = drop_more bytes at 0 t.lt in
    rw (t.is, there) (sym (ap (λ (r : List ℕ). with_found before (tokens_from r 0 at)) there) ∙ t.so_far)

pub bad : (before : List Token) (bytes : List ℕ) (at : ℕ) (fault : LexFault) (total : Result (List Token) LexFault) → Turn before bytes at (Bad fault) total → total ≡ Err fault
bad before bytes at fault total t = sym (turn_is before bytes at (Bad fault) total t)

pub gap : (before : List Token) (bytes : List ℕ) (at n : ℕ) (total : Result (List Token) LexFault) → 0 < n → Turn before bytes at (Gap n) total
    → with_found before (tokens_from (drop (at + n) bytes) 0 (at + n)) ≡ total
gap before bytes at n total some t = ap (with_found before) (sym (after bytes at n some)) ∙ turn_is before bytes at (Gap n) total t

pub found : (before : List Token) (bytes : List ℕ) (at n : ℕ) (shape : Shape) (x : Lexeme) (total : Result (List Token) LexFault) → 0 < n → Turn before bytes at (Found shape n) total
    → lexeme_of shape (take n (drop at bytes)) ≡ Ok x
    → with_found (before ++ token x at (at + n) ∷ []) (tokens_from (drop (at + n) bytes) 0 (at + n)) ≡ total
found before bytes at n shape x total some t e =
    let rest : Result (List Token) LexFault = tokens_from (drop (at + 1) bytes) (n - 1) (at + 1) in
    ap (with_found (before ++ token x at (at + n) ∷ [])) (sym (after bytes at n some))
    ∙ sym (regroup before (token x at (at + n)) rest)
    ∙ (rw e at (turn_is before bytes at (Found shape n) total t))

pub unfound : (before : List Token) (bytes : List ℕ) (at n : ℕ) (shape : Shape) (e : Failure LexFault) (total : Result (List Token) LexFault) → Turn before bytes at (Found shape n) total
    → Fails e (lexeme_of shape (take n (drop at bytes))) → Fails e total
unfound before bytes at n shape NoMemory total t f = tt
unfound before bytes at n shape (Fault fault) total t f = sym (rw f at (turn_is before bytes at (Found shape n) total t))

pub over : (before : List Token) (bytes : List ℕ) (at : ℕ) (total : Result (List Token) LexFault) → length bytes ≤ at → with_found before (tokens_from (drop at bytes) 0 at) ≡ total → total ≡ Ok before
unfolding tokens_from
over before bytes at total le so_far = sym (rw (drop_all at bytes le) at so_far) ∙ ap Ok (append-nil before)

-- what the code reads at a place is a turn
pub turn_at : (before : List Token) (bytes : List ℕ) (at : ℕ) (piece : Piece) → at < length bytes → piece ≡ front (get_or bytes at 0) (take (length bytes - (at + 1)) (drop (at + 1) bytes))
    → with_found before (tokens_from (drop at bytes) 0 at) ≡ tokens_from bytes 0 0 → Turn before bytes at piece (tokens_from bytes 0 0)
turn_at before bytes at piece lt is so_far = record { lt = lt; is = is ∙ ap (front (get_or bytes at 0)) (take_rest bytes (at + 1)); so_far = so_far }

-- a piece is within the bytes
pub record GapFits (bytes : List ℕ) (at n : ℕ) : Type 0 where
  pub some : 0 < n
  pub within : at + n ≤ length bytes

pub record FoundFits (bytes : List ℕ) (at : ℕ) (shape : Shape) (n : ℕ) : Type 0 where
  pub some : 0 < n
  pub within : at + n ≤ length bytes
  pub spelled : IsOfShape shape (take ((at + n) - at) (drop at bytes))

size : (bytes : List ℕ) (at : ℕ) → at < length bytes → suc (length (drop (at + 1) bytes)) + at ≡ length bytes
size bytes at lt = omega (arith, length-drop (at + 1) bytes)

pub gap_fits : (before : List Token) (bytes : List ℕ) (at n : ℕ) (total : Result (List Token) LexFault) → Turn before bytes at (Gap n) total → GapFits bytes at n
gap_fits before bytes at n total t =
    let h : TakesGap (get_or bytes at 0) (drop (at + 1) bytes) n = subst (Good (get_or bytes at 0) (drop (at + 1) bytes)) (sym t.is) (front_good (get_or bytes at 0) (drop (at + 1) bytes)) in
    let g = gap_size (get_or bytes at 0) (drop (at + 1) bytes) n h in
    record { some = g.0; within = omega (arith, g.1, size bytes at t.lt) }

pub found_fits : (before : List Token) (bytes : List ℕ) (at n : ℕ) (shape : Shape) (total : Result (List Token) LexFault) → Turn before bytes at (Found shape n) total → FoundFits bytes at shape n
found_fits before bytes at n shape total t =
    let g : Takes (get_or bytes at 0) (drop (at + 1) bytes) shape n = subst (Good (get_or bytes at 0) (drop (at + 1) bytes)) (sym t.is) (front_good (get_or bytes at 0) (drop (at + 1) bytes)) in
    let e : (at + n) - at ≡ n = omega arith in
    record {
      some = g.some;
      within = omega (arith, g.within, size bytes at t.lt);
      spelled = rw (e, drop_more bytes at 0 t.lt) g.spelled;
    }

pub found_utf8 : (bytes : List ℕ) (at n : ℕ) (shape : Shape) → IsUtf8 bytes → FoundFits bytes at shape n → IsUtf8 (take ((at + n) - at) (drop at bytes))
found_utf8 bytes at n shape u f =
    let e : (at + n) - at ≡ n = omega arith in
    let some = f.some in
    let within = f.within in
    let edges = shape_edges shape (take ((at + n) - at) (drop at bytes)) f.spelled in
    let same : length (take ((at + n) - at) (drop at bytes)) ≡ n = omega (arith, length-take ((at + n) - at) (drop at bytes), length-drop at bytes) in
    let first : get_or bytes at 0 ≡ get_or (take ((at + n) - at) (drop at bytes)) 0 0 = first_is bytes at n some in
    let last : get_or bytes (at + (n - 1)) 0 ≡ get_or (take ((at + n) - at) (drop at bytes)) (n - 1) 0 = last_is bytes at n some in
    let end : (at + (n - 1)) + 1 ≡ at + n = omega arith in
    let low : get_or bytes at 0 < 128 = omega (arith, edges.first, first) in
    let high : get_or bytes (at + (n - 1)) 0 < 128 = omega (arith, rw same at edges.last, last) in
    IsUtf8-between bytes at (at + n) u (omega arith) (IsCharBoundary-before_ascii bytes at (omega arith) low)
    (rw end at (IsCharBoundary-after_ascii bytes (at + (n - 1)) u (omega arith) high))
  where
    first_is : (bytes : List ℕ) (at n : ℕ) → 0 < n → get_or bytes at 0 ≡ get_or (take ((at + n) - at) (drop at bytes)) 0 0
    first_is bytes at n some =
        let e : 0 < (at + n) - at = omega arith in
        let z : at + 0 ≡ at = omega arith in
        sym (get_or-take ((at + n) - at) (drop at bytes) 0 0 e ∙ get_or-drop at bytes 0 0 ∙ ap (λ (k : ℕ). get_or bytes k 0) z)

    last_is : (bytes : List ℕ) (at n : ℕ) → 0 < n → get_or bytes (at + (n - 1)) 0 ≡ get_or (take ((at + n) - at) (drop at bytes)) (n - 1) 0
    last_is bytes at n some =
        let e : n - 1 < (at + n) - at = omega arith in
        sym (get_or-take ((at + n) - at) (drop at bytes) (n - 1) 0 e ∙ get_or-drop at bytes (n - 1) 0)
