-- What a legal history of the versions tells of the tables that were published and pinned.
use Rattle.std.proofs.Common.{◌≡◌, ◌≢◌, ◌∙◌, ℕ, zero, suc, ◌+◌, ◌<◌, ◌≤◌, ◌==◌, ◌⊎◌, inl, inr, Bool, true, false, true≢false, cond, List, [], ◌∷◌, ◌++◌, All, Contains, Some, ap, arith, count_by, length, refl, slice_get, subst, sym}
use Rattle.std.proofs.lemmas.Bool.{eqb-false, eqb-true}
use Rattle.std.proofs.lemmas.List.Elements.{All-get_or, Contains-push_cases}
use Rattle.std.proofs.lemmas.List.Sums.{sum_by_push}
use Rattle.std.proofs.lemmas.Option.{get_or_from_slice_get, slice_get_within}
use Rattle.ba_lanes.specs.Legal.{pin_of}
use Rattle.ba_tables.specs.TableSet.{TableSet}
use Rattle.ba_versions.specs.Calls as versions
use Rattle.ba_versions.specs.Reads.{published}
use Rattle.ba_versions.specs.declared.call.VersionCall.{VersionCall}
use Rattle.ba_versions.specs.declared.call.VersionCall.TheVariants.{Publish, Pin, Refused}

-- ---- numbers and places

pub same_true : (k : ℕ) → (k == k) ≡ true
same_true k = by (k == k) refl
  where
    by : (t : Bool) → (k == k) ≡ t → (k == k) ≡ true
    by true e = e
    by false e = absurd (eqb-false k k e refl)

pub differ_false : (a b : ℕ) → a ≢ b → (a == b) ≡ false
differ_false a b differ = by (a == b) refl
  where
    by : (t : Bool) → (a == b) ≡ t → (a == b) ≡ false
    by true e = absurd (differ (eqb-true a b e))
    by false e = e

pub same_or_not : (a b : ℕ) → (a ≡ b) ⊎ (a ≢ b)
same_or_not a b = by (a == b) refl
  where
    by : (t : Bool) → (a == b) ≡ t → (a ≡ b) ⊎ (a ≢ b)
    by true e = inl (eqb-true a b e)
    by false e = inr (eqb-false a b e)

pub get_front : {X : Type 0} (xs ys : List X) (n : ℕ) (x : X) → slice_get xs n ≡ Some x → slice_get (xs ++ ys) n ≡ Some x
get_front [] ys n x e = absurd (cc)
get_front (y ∷ xs) ys zero x e = e
get_front (y ∷ xs) ys (suc n) x e = get_front xs ys n x e

pub get_end : {X : Type 0} (xs : List X) (x : X) → slice_get (xs ++ x ∷ []) (length xs) ≡ Some x
get_end [] x = refl
get_end (y ∷ xs) x = get_end xs x

pub get_middle : {X : Type 0} (xs : List X) (x : X) (ys : List X) → slice_get (xs ++ x ∷ ys) (length xs) ≡ Some x
get_middle [] x ys = refl
get_middle (y ∷ xs) x ys = get_middle xs x ys

-- what holds of all holds of one of them
pub all_at : {X : Type 0} (P : X → Type 0) (xs : List X) (n : ℕ) (x : X) → All P xs → slice_get xs n ≡ Some x → P x
all_at P xs n x all at = subst P (get_or_from_slice_get xs n x x at) (All-get_or P xs n x (slice_get_within xs n x at) all)

pub length_push : {X : Type 0} (xs : List X) (y : X) → length (xs ++ y ∷ []) ≡ length xs + 1
length_push [] y = refl
length_push (x ∷ xs) y = let h = length_push xs y in omega (arith, h)

-- ---- calls that publish

-- it publishes, as the version n
abbrev pub is_as : ℕ → VersionCall → Bool
is_as n (Publish tables m) = m == n
is_as n (Pin m tables) = false
is_as n Refused = false

abbrev pub is_publication : VersionCall → Bool
is_publication (Publish tables m) = true
is_publication (Pin m tables) = false
is_publication Refused = false

abbrev number_in : VersionCall → ℕ
number_in (Publish tables m) = m
number_in (Pin m tables) = m
number_in Refused = 0

abbrev value_in : TableSet → VersionCall → TableSet
value_in other (Publish tables m) = tables.value
value_in other (Pin m tables) = tables.value
value_in other Refused = other

-- what a legal history tells of its publications and pins
pub record AreMade (opening : TableSet) (made : List VersionCall) (list : List TableSet) : Type 0 where
  pub first : slice_get list 0 ≡ Some opening
  pub long : length list ≡ count_by is_publication made + 1
  pub published_there : (tables : TableSet) (n : ℕ) → Contains made (published tables n) → (0 < n) × (n < length list) × (slice_get list n ≡ Some tables)
  pub pinned_there : (n : ℕ) (tables : TableSet) → Contains made (pin_of n tables) → slice_get list n ≡ Some tables
  pub once : (n : ℕ) → count_by (is_as n) made ≤ 1
  pub none_past : (n : ℕ) → length list ≤ n → count_by (is_as n) made ≡ 0
  pub each : (n : ℕ) → 0 < n → n < length list → count_by (is_as n) made ≡ 1

nothing : {X : Type 0} (x : X) → Contains [] x → ⊥
nothing x h = let low = h.1 in omega (arith, low)

module _ (opening : TableSet) (made : List VersionCall) (old : List TableSet) (earlier : AreMade opening made old) where
  -- a call that publishes nothing
  quiet : (it : VersionCall) (new : List TableSet) → new ≡ old → is_publication it ≡ false → ((n : ℕ) → is_as n it ≡ false)
      → ((n : ℕ) (tables : TableSet) → it ≡ pin_of n tables → slice_get old n ≡ Some tables) → AreMade opening (made ++ it ∷ []) new
  quiet it new same none never pins = subst (AreMade opening (made ++ it ∷ [])) (sym same) (record {
    first = earlier.first;
    long = let e = earlier.long in let c = counted is_publication none in omega (arith, e, c);
    published_there = λ tables n h. there tables n (Contains-push_cases made it (published tables n) h);
    pinned_there = λ n tables h. pinned n tables (Contains-push_cases made it (pin_of n tables) h);
    once = λ n. let e = earlier.once n in let c = counted (is_as n) (never n) in omega (arith, e, c);
    none_past = λ n past. counted (is_as n) (never n) ∙ earlier.none_past n past;
    each = λ n some low. counted (is_as n) (never n) ∙ earlier.each n some low;
  })
    where
      counted : (p : VersionCall → Bool) → p it ≡ false → count_by p (made ++ it ∷ []) ≡ count_by p made
      counted p e = sum_by_push (λ c. cond (p c) 1 0) made it ∙ ap (λ b. count_by p made + cond b 1 0) e ∙ omega arith

      there : (tables : TableSet) (n : ℕ) → Contains made (published tables n) ⊎ (it ≡ published tables n) → (0 < n) × (n < length old) × (slice_get old n ≡ Some tables)
      there tables n (inl h) = earlier.published_there tables n h
      there tables n (inr e) = absurd (true≢false (sym (ap is_publication e) ∙ none))

      pinned : (n : ℕ) (tables : TableSet) → Contains made (pin_of n tables) ⊎ (it ≡ pin_of n tables) → slice_get old n ≡ Some tables
      pinned n tables (inl h) = earlier.pinned_there n tables h
      pinned n tables (inr e) = pins n tables e

  -- one that publishes these tables
  module _ (it : VersionCall) (value : TableSet) (m : ℕ) (new : List TableSet) (publishes : is_publication it ≡ true) (as_is : (n : ℕ) → is_as n it ≡ (m == n)) (number_is : number_in it ≡ m)
      (value_is : value_in opening it ≡ value) (number : m ≡ length old) (appended : new ≡ old ++ value ∷ []) where
    some_old : 0 < length old
    some_old = let e = earlier.long in omega (arith, e)

    counted : (p : VersionCall → Bool) → count_by p (made ++ it ∷ []) ≡ count_by p made + cond (p it) 1 0
    counted p = sum_by_push (λ c. cond (p c) 1 0) made it

    other : (n : ℕ) → m ≢ n → count_by (is_as n) (made ++ it ∷ []) ≡ count_by (is_as n) made
    other n differ = counted (is_as n) ∙ ap (λ b. count_by (is_as n) made + cond b 1 0) (as_is n ∙ differ_false m n differ) ∙ omega arith

    own : (n : ℕ) → m ≡ n → count_by (is_as n) (made ++ it ∷ []) ≡ 1
    own n same =
        let none : count_by (is_as n) made ≡ 0 = earlier.none_past n (omega (arith, number, same)) in
        let here : (m == n) ≡ true = subst (λ z. (m == z) ≡ true) same (same_true m) in
        counted (is_as n) ∙ ap (λ b. count_by (is_as n) made + cond b 1 0) (as_is n ∙ here) ∙ omega (arith, none)

    one : (n : ℕ) → (m ≡ n) ⊎ (m ≢ n) → count_by (is_as n) (made ++ it ∷ []) ≤ 1
    one n (inl same) = let e = own n same in omega (arith, e)
    one n (inr differ) = let e = other n differ in let h = earlier.once n in omega (arith, e, h)

    here : (n : ℕ) → 0 < n → n < length (old ++ value ∷ []) → (m ≡ n) ⊎ (m ≢ n) → count_by (is_as n) (made ++ it ∷ []) ≡ 1
    here n some low (inl same) = own n same
    here n some low (inr differ) = let l = length_push old value in other n differ ∙ earlier.each n some (below n differ low l)
      where
        below : (n : ℕ) → m ≢ n → n < length (old ++ value ∷ []) → length (old ++ value ∷ []) ≡ length old + 1 → n < length old
        below n differ low l = at (same_or_not (length old) n)
          where
            at : (length old ≡ n) ⊎ (length old ≢ n) → n < length old
            at (inl e) = absurd (differ (number ∙ e))
            at (inr e) = omega (arith, low, l, e)

    there : (tables : TableSet) (n : ℕ) → Contains made (published tables n) ⊎ (it ≡ published tables n) → (0 < n) × (n < length (old ++ value ∷ [])) × (slice_get (old ++ value ∷ []) n ≡ Some tables)
    there tables n (inl h) =
        let e = earlier.published_there tables n h in
        let a = e.0 in
        let b = e.1 in
        let l = length_push old value in
        (a, omega (arith, b, l), get_front old (value ∷ []) n tables e.2)
    there tables n (inr e) =
        let at : m ≡ n = sym number_is ∙ ap number_in e in
        let same : value ≡ tables = sym value_is ∙ ap (value_in opening) e in
        let l = length_push old value in (
          omega (arith, at, number, some_old),
          omega (arith, at, number, l),
          subst (λ z. slice_get (old ++ value ∷ []) z ≡ Some tables) (sym number ∙ at) (get_end old value ∙ ap Some same),
        )

    pinned : (n : ℕ) (tables : TableSet) → Contains made (pin_of n tables) ⊎ (it ≡ pin_of n tables) → slice_get (old ++ value ∷ []) n ≡ Some tables
    pinned n tables (inl h) = get_front old (value ∷ []) n tables (earlier.pinned_there n tables h)
    pinned n tables (inr e) = absurd (true≢false (sym publishes ∙ ap is_publication e))

    adds : AreMade opening (made ++ it ∷ []) new
    adds = subst (AreMade opening (made ++ it ∷ [])) (sym appended) (record {
      first = get_front old (value ∷ []) 0 opening earlier.first;
      long =
          let e = earlier.long in
          let c : count_by is_publication (made ++ it ∷ []) ≡ count_by is_publication made + 1 = counted is_publication ∙ ap (λ b. count_by is_publication made + cond b 1 0) publishes in
          let l = length_push old value in
          omega (arith, e, c, l);
      published_there = λ tables n h. there tables n (Contains-push_cases made it (published tables n) h);
      pinned_there = λ n tables h. pinned n tables (Contains-push_cases made it (pin_of n tables) h);
      once = λ n. one n (same_or_not m n);
      none_past = λ n past.
          let l = length_push old value in
          other n (λ same. omega (arith, past, l, number, same)) ∙ earlier.none_past n (omega (arith, past, l));
      each = λ n some low. here n some low (same_or_not m n);
    })

  one_more : (it : VersionCall) (new : List TableSet) → versions.Steps opening old it new → AreMade opening (made ++ it ∷ []) new
  one_more (Publish told m) new step = adds (Publish told m) told.value m new refl (λ n. refl) refl refl step.number step.appended
  one_more (Pin m told) new step = quiet (Pin m told) new step.same refl (λ n. refl) pins
    where
      pins : (n : ℕ) (tables : TableSet) → Pin m told ≡ pin_of n tables → slice_get old n ≡ Some tables
      pins n tables e = subst (λ z. slice_get old z ≡ Some tables) (ap number_in e) (step.there ∙ ap (λ z. Some (value_in opening z)) e)
  one_more Refused new step = quiet Refused new step refl (λ n. refl) pins
    where
      pins : (n : ℕ) (tables : TableSet) → Refused ≡ pin_of n tables → slice_get old n ≡ Some tables
      pins n tables e = cc e

pub are_made : (opening : TableSet) {made : List VersionCall} {list : List TableSet} → versions.Legal opening made list → AreMade opening made list
are_made opening (versions.start v) = record {
  first = refl;
  long = refl;
  published_there = λ tables n h. absurd (nothing (published tables n) h);
  pinned_there = λ n tables h. absurd (nothing (pin_of n tables) h);
  once = λ n. omega arith;
  none_past = λ n past. refl;
  each = λ n some low. absurd (omega (arith, some, low));
}
are_made opening (versions.next {calls = made} {old = old} {new = new} it before step) = one_more opening made old (are_made opening before) it new step
