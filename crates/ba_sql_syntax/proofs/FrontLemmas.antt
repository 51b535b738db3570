-- What is read at the front is spelled so; steps that are taken.
use Rattle.std.proofs.Common.{◌≡◌, ℕ, zero, suc, ◌<◌, ◌≤◌, Bool, true, false, cond, List, [], ◌∷◌, ◌++◌, length, Result, Ok, Err, refl, sym, ap, subst, ◌∙◌, append_assoc, arith, length-append}
use Rattle.std.proofs.lemmas.Bool.{eqb-true}
use Rattle.std.proofs.lemmas.List.{append-nil}
use Rattle.ba_grammar.specs.Front.{begins, listed, more, past, skip, syntax}
use Rattle.ba_model.specs.Readings.{◌>>=◌}
use Rattle.ba_grammar.specs.declared.error.Syntax.{Syntax}
use Rattle.ba_grammar.proofs.SeveralLemmas.{onto, onto_more}
use Rattle.ba_grammar.proofs.WordLemmas.{bind_ok, err_ok, ok_same, sign_spelled}
use Rattle.ba_lex.specs.declared.token.Lexeme.TheVariants as lexemes
use Rattle.ba_lex.specs.declared.token.Lexeme.{Lexeme}
use Rattle.ba_lex.specs.declared.token.Sign.{Sign}
use Rattle.ba_lex.specs.declared.token.Sign.TheVariants.{Comma}
use Rattle.ba_sql_syntax.specs.Grammar.{IsListed}
use Rattle.ba_sql_syntax.specs.Grammar.IsListed.{one, more as more_listed}
use Rattle.ba_sql_syntax.specs.Reader.{Read, constant_at, name_at, run}
use Rattle.ba_sql_syntax.specs.Terminals.{Terminal, constant, is_key, is_sign, key, key_number, name, sign, unsupported}
use Rattle.ba_sql_syntax.specs.declared.word.Key.{Key}
use Rattle.ba_sql_syntax.specs.declared.word.Key.TheVariants.{Select, Distinct, From, Where, Join, Inner, Cross, On, As, And, Or, Union, In, Is as IsKey, Not as NotKey, Null as NullKey}
use Rattle.ba_sql_syntax.specs.declared.written.Constant.{Constant}

-- ---- one terminal

abbrev key_from : ℕ → Key
key_from zero = Select
key_from (suc zero) = Distinct
key_from (suc (suc zero)) = From
key_from (suc (suc (suc zero))) = Where
key_from (suc (suc (suc (suc zero)))) = Join
key_from (suc (suc (suc (suc (suc zero))))) = Inner
key_from (suc (suc (suc (suc (suc (suc zero)))))) = Cross
key_from (suc (suc (suc (suc (suc (suc (suc zero))))))) = On
key_from (suc (suc (suc (suc (suc (suc (suc (suc zero)))))))) = As
key_from (suc (suc (suc (suc (suc (suc (suc (suc (suc zero))))))))) = And
key_from (suc (suc (suc (suc (suc (suc (suc (suc (suc (suc zero)))))))))) = Or
key_from (suc (suc (suc (suc (suc (suc (suc (suc (suc (suc (suc zero))))))))))) = Union
key_from (suc (suc (suc (suc (suc (suc (suc (suc (suc (suc (suc (suc zero)))))))))))) = In
key_from (suc (suc (suc (suc (suc (suc (suc (suc (suc (suc (suc (suc (suc zero))))))))))))) = IsKey
key_from (suc (suc (suc (suc (suc (suc (suc (suc (suc (suc (suc (suc (suc (suc zero)))))))))))))) = NotKey
key_from _ = NullKey

key_back : (k : Key) → key_from (key_number k) ≡ k
key_back Select = refl
key_back Distinct = refl
key_back From = refl
key_back Where = refl
key_back Join = refl
key_back Inner = refl
key_back Cross = refl
key_back On = refl
key_back As = refl
key_back And = refl
key_back Or = refl
key_back Union = refl
key_back In = refl
key_back IsKey = refl
key_back NotKey = refl
key_back NullKey = refl

is_key_so : (k : Key) (t : Terminal) → is_key k t ≡ true → t ≡ key k
is_key_so k (key j) h = ap key (sym (key_back j) ∙ ap key_from (eqb-true (key_number j) (key_number k) h) ∙ key_back k)
is_key_so k (name n) h = cc
is_key_so k (constant c) h = cc
is_key_so k (sign s) h = cc
is_key_so k unsupported h = cc

sign_so : (s t : Sign) → ◌≡◌ {A = Lexeme} (lexemes.Sign t) (lexemes.Sign s) → sign t ≡ sign s
sign_so s t e = cc

pub is_sign_so : (s : Sign) (t : Terminal) → is_sign s t ≡ true → t ≡ sign s
is_sign_so s (sign t) h = sign_so s t (sign_spelled s (lexemes.Sign t) h)
is_sign_so s (name n) h = cc
is_sign_so s (constant c) h = cc
is_sign_so s (key k) h = cc
is_sign_so s unsupported h = cc

-- the test takes no other terminal
abbrev Only : (Terminal → Bool) → Terminal → Type 0
Only test x = (t : Terminal) → test t ≡ true → t ≡ x

past_only : (test : Terminal → Bool) (x : Terminal) → Only test x → (ts rest : List Terminal) → past test ts ≡ Ok rest → ts ≡ x ∷ rest
past_only test x only [] rest e = absurd (err_ok rest e)
past_only test x only (t ∷ ts) rest e = at (test t) refl
  where
    at : (b : Bool) → test t ≡ b → t ∷ ts ≡ x ∷ rest
    at true h = rw (only t h, ok_same ts rest (rw h at e)) refl
    at false h = absurd (err_ok rest (rw h at e))

pub past_key : (k : Key) (ts rest : List Terminal) → past (is_key k) ts ≡ Ok rest → ts ≡ key k ∷ rest
past_key k ts rest e = past_only (is_key k) (key k) (is_key_so k) ts rest e

pub past_sign : (s : Sign) (ts rest : List Terminal) → past (is_sign s) ts ≡ Ok rest → ts ≡ sign s ∷ rest
past_sign s ts rest e = past_only (is_sign s) (sign s) (is_sign_so s) ts rest e

-- what is skipped is the one terminal, or nothing
pub skipped_key : (k : Key) (ts : List Terminal) (b : Bool) → begins (is_key k) ts ≡ b
    → (b ≡ true → ts ≡ key k ∷ skip (is_key k) ts) × (b ≡ false → ts ≡ skip (is_key k) ts)
skipped_key k [] b e = (λ h. absurd (no b e h), λ h. refl)
  where
    no : (b : Bool) → false ≡ b → b ≡ true → ⊥
    no b e h = cc
skipped_key k (t ∷ ts) b e = (λ h. rw (e ∙ h) (ap (λ (x : Terminal). x ∷ ts) (is_key_so k t (e ∙ h))), λ h. rw (e ∙ h) refl)

pub skips_none : (test : Terminal → Bool) (ts : List Terminal) → begins test ts ≡ false → skip test ts ≡ ts
skips_none test [] h = refl
skips_none test (t ∷ ts) h = rw h refl

pub name_read : (ts : List Terminal) (p : List ℕ × List Terminal) → name_at ts ≡ Ok p → ts ≡ name p.0 ∷ p.1
unfolding name_at
name_read [] p e = absurd (err_ok p e)
name_read (name n ∷ ts) p e = ap (λ (q : List ℕ × List Terminal). name q.0 ∷ q.1) (ok_same (n, ts) p e)
name_read (constant c ∷ ts) p e = absurd (err_ok p e)
name_read (key k ∷ ts) p e = absurd (err_ok p e)
name_read (sign s ∷ ts) p e = absurd (err_ok p e)
name_read (unsupported ∷ ts) p e = absurd (err_ok p e)

pub constant_read : (ts : List Terminal) (p : Constant × List Terminal) → constant_at ts ≡ Ok p → ts ≡ constant p.0 ∷ p.1
unfolding constant_at
constant_read [] p e = absurd (err_ok p e)
constant_read (constant c ∷ ts) p e = ap (λ (q : Constant × List Terminal). constant q.0 ∷ q.1) (ok_same (c, ts) p e)
constant_read (name n ∷ ts) p e = absurd (err_ok p e)
constant_read (key k ∷ ts) p e = absurd (err_ok p e)
constant_read (sign s ∷ ts) p e = absurd (err_ok p e)
constant_read (unsupported ∷ ts) p e = absurd (err_ok p e)

-- ---- what is read is spelled, and what is spelled is read, where what follows ends it

pub record Spelled {X : Type 0} (Is : X → List Terminal → Type 0) (x : X) (ts rest : List Terminal) : Type 0 where
  pub us : List Terminal
  pub is : Is x us
  pub all : ts ≡ us ++ rest

abbrev pub IsSound : {X : Type 0} → (List Terminal → Read X) → (X → List Terminal → Type 0) → Type 0
IsSound {X} item Is = (ts : List Terminal) (p : X × List Terminal) → item ts ≡ Ok p → Spelled Is p.0 ts p.1

abbrev pub IsComplete : {X : Type 0} → (List Terminal → Read X) → (X → List Terminal → Type 0) → (List Terminal → Type 0) → Type 0
IsComplete {X} item Is Ends = (x : X) (us rest : List Terminal) → Is x us → Ends rest → item (us ++ rest) ≡ Ok (x, rest)

-- ---- steps

module _ {S : Type 0} (left : S → ℕ) (goes : S → Bool) (step : S → Result S Syntax) where
  -- steps that are taken, each over some terminals
  pub data Moves : S → S → Type 0 where
    stay : {s : S} → Moves s s
    go : {s t u : S} → goes s ≡ true → step s ≡ Ok t → left t < left s → Moves t u → Moves s u

  pub moves_then : {s t u : S} → Moves s t → Moves t u → Moves s u
  moves_then stay n = n
  moves_then (go g e lt m) n = go g e lt (moves_then m n)

  pub run_moves : {s u : S} → Moves s u → goes u ≡ false → (fuel : ℕ) → left s ≤ fuel → run goes step fuel s ≡ Ok u
  unfolding run
  run_moves stay stop zero le = refl
  run_moves stay stop (suc fuel) le = rw stop refl
  run_moves (go g e lt m) stop zero le = absurd (omega (arith, lt, le))
  run_moves (go g e lt m) stop (suc fuel) le = rw (g, e) (run_moves m stop fuel (omega (arith, lt, le)))

kept : {S : Type 0} (goes : S → Bool) (step : S → Result S Syntax) (P : S → Type 0) → ((s t : S) → goes s ≡ true → step s ≡ Ok t → P s → P t)
    → (after : S → Result S Syntax) → ((t u : S) → after t ≡ Ok u → P t → P u)
    → (s u : S) (b : Bool) → goes s ≡ b → cond b (step s >>= after) (Ok s) ≡ Ok u → P s → P u
kept goes step P keeps after next s u true h e p = let b = bind_ok (step s) after u e in next b.0 u b.2 (keeps s b.0 h b.1 p)
kept goes step P keeps after next s u false h e p = subst P (ok_same s u e) p

-- what each step keeps stays
pub run_keeps : {S : Type 0} (goes : S → Bool) (step : S → Result S Syntax) (P : S → Type 0) → ((s t : S) → goes s ≡ true → step s ≡ Ok t → P s → P t)
    → (fuel : ℕ) (s u : S) → run goes step fuel s ≡ Ok u → P s → P u
unfolding run
run_keeps goes step P keeps zero s u e p = subst P (ok_same s u e) p
run_keeps goes step P keeps (suc fuel) s u e p = kept goes step P keeps (run goes step fuel) (run_keeps goes step P keeps fuel) s u (goes s) refl e p

-- ---- lists

shorter : (vs rest : List Terminal) → length rest < suc (length (vs ++ rest))
shorter vs rest = omega (arith, length-append vs rest)

abbrev rest_length : {X : Type 0} → X × List Terminal → ℕ
rest_length p = length p.1

abbrev comma_goes : {X : Type 0} → List X × List Terminal → Bool
comma_goes s = begins (is_sign Comma) s.1

-- one more behind a comma
abbrev comma_step : {X : Type 0} → (List Terminal → Read X) → List X × List Terminal → Read (List X)
comma_step item s = past (is_sign Comma) s.1 >>= λ rest. (item rest >>= λ x. Ok (s.0 ++ x.0 ∷ [], x.1))

-- the others, step by step
more_runs : {X : Type 0} (item : List Terminal → Read X) (fuel : ℕ) (found : List X) (ts : List Terminal)
    → run comma_goes (comma_step item) fuel (found, ts) ≡ onto found (more (is_sign Comma) item fuel ts)
unfolding run more
more_runs item zero found ts = ap (λ xs. Ok (xs, ts)) (sym (append-nil found))
more_runs item (suc fuel) found [] = ap (λ xs. Ok (xs, [])) (sym (append-nil found))
more_runs {X} item (suc fuel) found (t ∷ ts) = at (is_sign Comma t) (more_runs item fuel)
  where
    one_more : (r : Read X)
        → ((found : List X) (ts : List Terminal) → run comma_goes (comma_step item) fuel (found, ts) ≡ onto found (more (is_sign Comma) item fuel ts))
        → ((r >>= λ x. Ok (found ++ x.0 ∷ [], x.1)) >>= run comma_goes (comma_step item) fuel)
        ≡ onto found (r >>= λ x. (more (is_sign Comma) item fuel x.1 >>= λ y. Ok (x.0 ∷ y.0, y.1)))
    one_more (Ok x) below = below (found ++ x.0 ∷ []) x.1 ∙ sym (onto_more found x.0 (more (is_sign Comma) item fuel x.1))
    one_more (Err e) below = refl

    at : (b : Bool)
        → ((found : List X) (ts : List Terminal) → run comma_goes (comma_step item) fuel (found, ts) ≡ onto found (more (is_sign Comma) item fuel ts))
        → cond b ((cond b (Ok ts) (Err syntax) >>= λ rest. (item rest >>= λ x. Ok (found ++ x.0 ∷ [], x.1))) >>= run comma_goes (comma_step item) fuel) (Ok (found, t ∷ ts))
        ≡ onto found (cond b (item ts >>= λ x. (more (is_sign Comma) item fuel x.1 >>= λ y. Ok (x.0 ∷ y.0, y.1))) (Ok ([], t ∷ ts)))
    at true below = one_more (item ts) below
    at false below = ap (λ xs. Ok (xs, t ∷ ts)) (sym (append-nil found))

module _ {X : Type 0} (item : List Terminal → Read X) (Is : X → List Terminal → Type 0) where
  comma_keeps : IsSound item Is → (ts : List Terminal) (s t : List X × List Terminal) → comma_step item s ≡ Ok t → Spelled (IsListed Is) s.0 ts s.1
      → Spelled (IsListed Is) t.0 ts t.1
  comma_keeps sound ts s t e h =
      let a = bind_ok (past (is_sign Comma) s.1) (λ rest. item rest >>= λ x. Ok (s.0 ++ x.0 ∷ [], x.1)) t e in
      let b = bind_ok (item a.0) (λ x. Ok (s.0 ++ x.0 ∷ [], x.1)) t a.2 in
      let i = sound a.0 b.0 b.1 in
      let comma : s.1 ≡ sign Comma ∷ (i.us ++ b.0.1) = past_sign Comma s.1 a.0 a.1 ∙ ap (λ (r : List Terminal). sign Comma ∷ r) i.all in
      subst (λ (q : List X × List Terminal). Spelled (IsListed Is) q.0 ts q.1) (ok_same (s.0 ++ b.0.0 ∷ [], b.0.1) t b.2) (record {
        us = h.us ++ sign Comma ∷ i.us;
        is = more_listed h.is i.is;
        all = h.all ∙ ap (λ (r : List Terminal). h.us ++ r) comma ∙ sym (append_assoc h.us (sign Comma ∷ i.us) b.0.1);
      })

  pub listed_sound : IsSound item Is → IsSound (listed (is_sign Comma) item) (IsListed Is)
  listed_sound sound ts p e =
      let a = bind_ok (item ts) (λ first. more (is_sign Comma) item (length ts) first.1 >>= λ y. Ok (first.0 ∷ y.0, y.1)) p e in
      let ran : run comma_goes (comma_step item) (length ts) (a.0.0 ∷ [], a.0.1) ≡ Ok p = more_runs item (length ts) (a.0.0 ∷ []) a.0.1 ∙ a.2 in
      let i = sound ts a.0 a.1 in
      run_keeps comma_goes (comma_step item) (λ s. Spelled (IsListed Is) s.0 ts s.1) (λ s t g f h. comma_keeps sound ts s t f h) (length ts) (a.0.0 ∷ [], a.0.1) p ran (record { us = i.us; is = one i.is; all = i.all })

-- the first is read, and then the others
record Begun {X : Type 0} (item : List Terminal → Read X) (ts : List Terminal) (xs : List X) (rest : List Terminal) : Type 0 where
  first : X
  behind : List Terminal
  read : item ts ≡ Ok (first, behind)
  size : length behind ≤ length ts
  moves : Moves rest_length comma_goes (comma_step item) (first ∷ [], behind) (xs, rest)

module _ {X : Type 0} (item : List Terminal → Read X) (Is : X → List Terminal → Type 0) (Ends : List Terminal → Type 0) where
  comma_moves : IsComplete item Is Ends → (xs : List X) (x : X) (vs rest : List Terminal) → Is x vs → Ends rest
      → Moves rest_length comma_goes (comma_step item) (xs, sign Comma ∷ (vs ++ rest)) (xs ++ x ∷ [], rest)
  comma_moves complete xs x vs rest i ends = go refl (rw (complete x vs rest i ends) refl) (shorter vs rest) stay

  listed_begun : IsComplete item Is Ends → ((ts : List Terminal) → Ends (sign Comma ∷ ts)) → {xs : List X} {us : List Terminal} → IsListed Is xs us
      → (rest : List Terminal) → Ends rest → Begun item (us ++ rest) xs rest
  listed_begun complete commas (one {x} {us} i) rest ends = record {
    first = x;
    behind = rest;
    read = complete x us rest i ends;
    size = omega (arith, length-append us rest);
    moves = stay;
  }
  listed_begun complete commas (more_listed {xs} {x} {us} {vs} l i) rest ends =
      let b = listed_begun complete commas l (sign Comma ∷ (vs ++ rest)) (commas (vs ++ rest)) in
      let same = append_assoc us (sign Comma ∷ vs) rest in
      record {
        first = b.first;
        behind = b.behind;
        read = ap item same ∙ b.read;
        size = rw same b.size;
        moves = moves_then rest_length comma_goes (comma_step item) b.moves (comma_moves complete xs x vs rest i ends);
      }

  pub listed_complete : IsComplete item Is Ends → ((ts : List Terminal) → Ends (sign Comma ∷ ts)) → (xs : List X) (us rest : List Terminal)
      → IsListed Is xs us → Ends rest → begins (is_sign Comma) rest ≡ false → listed (is_sign Comma) item (us ++ rest) ≡ Ok (xs, rest)
  listed_complete complete commas xs us rest l ends stop =
      let b = listed_begun complete commas l rest ends in
      rw b.read (sym (more_runs item (length (us ++ rest)) (b.first ∷ []) b.behind) ∙ run_moves rest_length comma_goes (comma_step item) b.moves stop (length (us ++ rest)) b.size)
