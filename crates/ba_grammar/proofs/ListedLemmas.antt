-- Several of one sort, each spelled by its items: what is read is spelled so, and what is spelled so is read.
use Rattle.std.proofs.Common.{◌≡◌, ◌≢◌, ℕ, zero, suc, ◌≤◌, Bool, true, false, List, [], ◌∷◌, length, map, Result, Ok, refl, sym, ap, subst, ◌∙◌, arith}
use Rattle.std.specs.List.{AllByRecursion, flat_map}
use Rattle.std.proofs.lemmas.List.{length-append}
use Rattle.ba_lex.specs.declared.token.Lexeme.{Lexeme}
use Rattle.ba_lex.specs.declared.token.Sign.TheVariants.{Comma}
use Rattle.ba_model.specs.Readings.{◌>>=◌}
use Rattle.ba_grammar.specs.Items.{Item, after_commas, with_commas}
use Rattle.ba_grammar.specs.Front.{Read, all, begins, is_sign, listed, more}
use Rattle.ba_grammar.specs.declared.error.Syntax.{Syntax}
use Rattle.ba_grammar.proofs.WordLemmas.{Takes, bind_ok, err_ok, ok_same, parts, sign_spelled, spelled_sign, takes_size, then}

-- what item reads is spelled by items_of it, and is as P says; and what is spelled so, as P says, is read
module _ {X : Type 0} (item : List Lexeme → Read X) (items_of : X → List Item) (P : X → Type 0) where
  abbrev pub IsSound : Type 0
  IsSound = (words rest : List Lexeme) (x : X) → item words ≡ Ok (x, rest) → Takes (items_of x) words rest × P x

  abbrev pub IsComplete : Type 0
  IsComplete = (words rest : List Lexeme) (x : X) → Takes (items_of x) words rest → P x → item words ≡ Ok (x, rest)

  -- one of them begins with a word
  abbrev pub HasWord : Type 0
  HasWord = (x : X) → (first : Item) × (others : List Item) × (items_of x ≡ first ∷ others)

-- one more in front of what is read
abbrev put : {X : Type 0} → X → List X × List Lexeme → Read (List X)
put x y = Ok (x ∷ y.0, y.1)

abbrev put_all : {X : Type 0} → X → List X → Result (List X) Syntax
put_all x ys = Ok (x ∷ ys)

abbrev and_more : {X : Type 0} → (List Lexeme → Read X) → ℕ → X × List Lexeme → Read (List X)
and_more item fuel x = more (is_sign Comma) item fuel x.1 >>= put x.0

abbrev and_all : {X : Type 0} → (List Lexeme → Read X) → ℕ → X × List Lexeme → Result (List X) Syntax
and_all item fuel x = all item fuel x.1 >>= put_all x.0

-- what is read behind commas
pub record ReadsMore {X : Type 0} (items_of : X → List Item) (P : X → Type 0) (words rest : List Lexeme) (xs : List X) : Type 0 where
  pub takes : Takes (after_commas (map items_of xs)) words rest
  pub each : AllByRecursion P xs

module _ {X : Type 0} (item : List Lexeme → Read X) (items_of : X → List Item) (P : X → Type 0) where
  nothing_more : (words rest : List Lexeme) (xs : List X) → ◌≡◌ {A = Read (List X)} (Ok ([], words)) (Ok (xs, rest)) → ReadsMore items_of P words rest xs
  nothing_more words rest xs e =
      subst (λ (p : List X × List Lexeme). ReadsMore items_of P words p.1 p.0) (ok_same ([], words) (xs, rest) e) (record { takes = refl; each = tt })

  one_more : (c : Lexeme) (cs behind mid : List Lexeme) (x : X) (xs : List X) → is_sign Comma c ≡ true → Takes (items_of x) cs behind → P x → ReadsMore items_of P behind mid xs → ReadsMore items_of P (c ∷ cs) mid (x ∷ xs)
  one_more c cs behind mid x xs comma takes p r = record {
    takes = (c, cs, refl, sign_spelled Comma c comma, then (items_of x) (after_commas (map items_of xs)) cs behind mid takes r.takes);
    each = (p, r.each);
  }

  abbrev SoundBelow : ℕ → Type 0
  SoundBelow fuel = (words rest : List Lexeme) (xs : List X) → more (is_sign Comma) item fuel words ≡ Ok (xs, rest) → ReadsMore items_of P words rest xs

  pub more_sound : IsSound item items_of P → (fuel : ℕ) (words rest : List Lexeme) (xs : List X) → more (is_sign Comma) item fuel words ≡ Ok (xs, rest) → ReadsMore items_of P words rest xs
  unfolding more
  more_sound sound zero words rest xs e = nothing_more words rest xs e
  more_sound sound (suc fuel) [] rest xs e = nothing_more [] rest xs e
  more_sound sound (suc fuel) (c ∷ cs) rest xs e = at (is_sign Comma c) refl (more_sound sound fuel)
    where
      taken : is_sign Comma c ≡ true → ((item cs >>= and_more item fuel) ≡ Ok (xs, rest)) → SoundBelow fuel → ReadsMore items_of P (c ∷ cs) rest xs
      taken comma f below =
          let a = bind_ok (item cs) (and_more item fuel) (xs, rest) f in
          let b = bind_ok (more (is_sign Comma) item fuel a.0.1) (put a.0.0) (xs, rest) a.2 in
          let s = sound cs a.0.1 a.0.0 a.1 in
          let r = below a.0.1 b.0.1 b.0.0 b.1 in
          subst (λ (p : List X × List Lexeme). ReadsMore items_of P (c ∷ cs) p.1 p.0) (ok_same (a.0.0 ∷ b.0.0, b.0.1) (xs, rest) b.2) (one_more c cs a.0.1 b.0.1 a.0.0 b.0.0 comma s.0 s.1 r)

      at : (t : Bool) → is_sign Comma c ≡ t → SoundBelow fuel → ReadsMore items_of P (c ∷ cs) rest xs
      at true h below = taken h (rw h at e) below
      at false h below = nothing_more (c ∷ cs) rest xs (rw h at e)

  pub more_complete : IsComplete item items_of P → (xs : List X) (fuel : ℕ) (words rest : List Lexeme) → length xs ≤ fuel → Takes (after_commas (map items_of xs)) words rest → AllByRecursion P xs → begins (is_sign Comma) rest ≡ false → more (is_sign Comma) item fuel words ≡ Ok (xs, rest)
  unfolding more
  more_complete complete [] zero words rest le t ps stop = ap (λ (r : List Lexeme). Ok ([], r)) t
  more_complete complete [] (suc fuel) words rest le t ps stop = rw t (rw stop refl)
  more_complete complete (x ∷ xs) zero words rest le t ps stop = absurd (omega (arith, le))
  more_complete complete (x ∷ xs) (suc fuel) words rest le t ps stop =
      let p = parts (items_of x) (after_commas (map items_of xs)) t.1 rest t.4 in
      rw t.2 (rw (spelled_sign Comma t.0 t.3) (rw (complete t.1 p.0 x p.1 ps.0) (rw (more_complete complete xs fuel p.0 rest (omega (arith, le)) p.2 ps.1 stop) refl)))

  commas_size : (xs : List X) → length xs ≤ length (after_commas (map items_of xs))
  commas_size [] = omega arith
  commas_size (x ∷ xs) = let more = commas_size xs in omega (arith, more, length-append (items_of x) (after_commas (map items_of xs)))

-- what is read as a list with commas: some of them
pub record ReadsListed {X : Type 0} (items_of : X → List Item) (P : X → Type 0) (words rest : List Lexeme) (xs : List X) : Type 0 where
  pub some : xs ≢ []
  pub takes : Takes (with_commas (map items_of xs)) words rest
  pub each : AllByRecursion P xs

some_of : {X : Type 0} (x : X) (xs : List X) → x ∷ xs ≢ []
some_of x xs e = cc

module _ {X : Type 0} (item : List Lexeme → Read X) (items_of : X → List Item) (P : X → Type 0) where
  pub listed_sound : IsSound item items_of P → (words rest : List Lexeme) (xs : List X) → listed (is_sign Comma) item words ≡ Ok (xs, rest) → ReadsListed items_of P words rest xs
  listed_sound sound words rest xs e =
      let a = bind_ok (item words) (and_more item (length words)) (xs, rest) e in
      let b = bind_ok (more (is_sign Comma) item (length words) a.0.1) (put a.0.0) (xs, rest) a.2 in
      let s = sound words a.0.1 a.0.0 a.1 in
      let r = more_sound item items_of P sound (length words) a.0.1 b.0.1 b.0.0 b.1 in
      subst (λ (p : List X × List Lexeme). ReadsListed items_of P words p.1 p.0) (ok_same (a.0.0 ∷ b.0.0, b.0.1) (xs, rest) b.2) (record {
        some = some_of a.0.0 b.0.0;
        takes = then (items_of a.0.0) (after_commas (map items_of b.0.0)) words a.0.1 b.0.1 s.0 r.takes;
        each = (s.1, r.each);
      })

  pub listed_complete : IsComplete item items_of P → (words rest : List Lexeme) (xs : List X) → ReadsListed items_of P words rest xs → begins (is_sign Comma) rest ≡ false → listed (is_sign Comma) item words ≡ Ok (xs, rest)
  listed_complete complete words rest [] r stop = absurd (r.some refl)
  listed_complete complete words rest (x ∷ xs) r stop =
      let p = parts (items_of x) (after_commas (map items_of xs)) words rest r.takes in
      let front = takes_size (items_of x) words p.0 p.1 in
      let behind = takes_size (after_commas (map items_of xs)) p.0 rest p.2 in
      let fuel : length xs ≤ length words = omega (arith, front, behind, commas_size item items_of P xs) in
      rw (complete words p.0 x p.1 r.each.0) (rw (more_complete item items_of P complete xs (length words) p.0 rest fuel p.2 r.each.1 stop) refl)

-- all of the words
pub record ReadsAll {X : Type 0} (items_of : X → List Item) (P : X → Type 0) (words : List Lexeme) (xs : List X) : Type 0 where
  pub takes : Takes (flat_map items_of xs) words []
  pub each : AllByRecursion P xs

module _ {X : Type 0} (item : List Lexeme → Read X) (items_of : X → List Item) (P : X → Type 0) where
  pub all_sound : IsSound item items_of P → (fuel : ℕ) (words : List Lexeme) (xs : List X) → all item fuel words ≡ Ok xs → ReadsAll items_of P words xs
  unfolding all
  all_sound sound fuel [] xs e = subst (ReadsAll items_of P []) (ok_same [] xs e) (record { takes = refl; each = tt })
  all_sound sound zero (w ∷ ws) xs e = absurd (err_ok xs e)
  all_sound sound (suc fuel) (w ∷ ws) xs e =
      let a = bind_ok (item (w ∷ ws)) (and_all item fuel) xs e in
      let b = bind_ok (all item fuel a.0.1) (put_all a.0.0) xs a.2 in
      let s = sound (w ∷ ws) a.0.1 a.0.0 a.1 in
      let r = all_sound sound fuel a.0.1 b.0 b.1 in
      subst (ReadsAll items_of P (w ∷ ws)) (ok_same (a.0.0 ∷ b.0) xs b.2) (record {
        takes = then (items_of a.0.0) (flat_map items_of b.0) (w ∷ ws) a.0.1 [] s.0 r.takes;
        each = (s.1, r.each);
      })

  first_word : HasWord item items_of P → (x : X) (words mid : List Lexeme) → Takes (items_of x) words mid → (w : Lexeme) × (ws : List Lexeme) × (words ≡ w ∷ ws)
  first_word has x words mid t =
      let h = has x in
      let u : Takes (h.0 ∷ h.1) words mid = subst (λ (is : List Item). Takes is words mid) h.2 t in
      (u.0, u.1, u.2)

  pub all_complete : HasWord item items_of P → IsComplete item items_of P → (xs : List X) (fuel : ℕ) (words : List Lexeme) → length xs ≤ fuel → ReadsAll items_of P words xs → all item fuel words ≡ Ok xs
  unfolding all
  all_complete has complete [] fuel words le r = rw r.takes refl
  all_complete has complete (x ∷ xs) zero words le r = absurd (omega (arith, le))
  all_complete has complete (x ∷ xs) (suc fuel) words le r =
      let p = parts (items_of x) (flat_map items_of xs) words [] r.takes in
      let f = first_word has x words p.0 p.1 in
      let below = all_complete has complete xs fuel p.0 (omega (arith, le)) (record { takes = p.2; each = r.each.1 }) in
      let read : item (f.0 ∷ f.1) ≡ Ok (x, p.0) = ap item (sym f.2) ∙ complete words p.0 x p.1 r.each.0 in
      rw f.2 (rw read (rw below refl))

  items_size : HasWord item items_of P → (xs : List X) → length xs ≤ length (flat_map items_of xs)
  items_size has [] = omega arith
  items_size has (x ∷ xs) =
      let more = items_size has xs in
      let some = ap length (has x).2 in
      omega (arith, more, some, length-append (items_of x) (flat_map items_of xs))

  pub all_read : HasWord item items_of P → IsComplete item items_of P → (words : List Lexeme) (xs : List X) → ReadsAll items_of P words xs → all item (length words) words ≡ Ok xs
  all_read has complete words xs r =
      all_complete has complete xs (length words) words (omega (arith, takes_size (flat_map items_of xs) words [] r.takes, items_size has xs)) r
