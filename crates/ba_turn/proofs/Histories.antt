-- Histories with numbers.
use mathlib.Core.List.{IsPrefix}
use mathlib.Core.Logic.{dite}
use native.Mathlib.Decide.{ℕ_discrete, dec_le}
use Rattle.std.proofs.Common.{◌≡◌, ◌≢◌, ℕ, suc, ◌+◌, ◌<◌, ◌≤◌, Bool, true, false, cond, ⊎_elim, List, [], ◌∷◌, ◌++◌, map, length, sym, lt_of_not-le, refl, ap, ◌∙◌, subst, arith, append-nil, eq-eqb, ne_eqb, ◌==◌}
use Rattle.std.specs.List.{filter, sum_by, All, Contains, slice_index_or}
use Rattle.std.proofs.lemmas.List.{map-append}
use Rattle.std.proofs.lemmas.List.Elements.{filter-append, All-cons, All-head, All-tail}
use Rattle.std.proofs.lemmas.List.Sums.{sum_by-cons}
use Rattle.std.proofs.lemmas.Bool.Decides.{leb_tells}
use Rattle.ba_turn.specs.History.{calls_by, number_of, entry_of, HasCalls, AreDistinct, longer_of, shorter_of}
use Rattle.ba_turn.specs.Rule.{Scene, IsJoined, AllJoined}
use Rattle.ba_turn.proofs.Lists.{prefix_self, in_tail}

-- a number as a weight: 1 where it is the other
abbrev hit : ℕ → ℕ → ℕ
hit n m = cond (n == m) 1 0

none_made : (ns : List ℕ) → sum_by (λ n. 0) ns ≡ 0
none_made [] = refl
none_made (n ∷ ns) = let a = sum_by-cons (λ (m : ℕ). 0) n ns in let rest = none_made ns in omega arith

-- a number that stands nowhere, and one that stands once
stands_nowhere : (n : ℕ) (ns : List ℕ) → All (λ m. n ≢ m) ns → sum_by (λ m. hit n m) ns ≡ 0
stands_nowhere n [] other = refl
stands_nowhere n (m ∷ ms) other =
    let a = sum_by-cons (λ (k : ℕ). hit n k) m ms in
    let here : hit n m ≡ 0 = ap (λ (b : Bool). cond b 1 0) (ne_eqb n m (All-head (λ k. n ≢ k) m ms other)) in
    let rest = stands_nowhere n ms (All-tail (λ k. n ≢ k) m ms other) in
    omega arith

stands_once : (n : ℕ) (ns : List ℕ) → AreDistinct ns → Contains ns n → sum_by (λ m. hit n m) ns ≡ 1
stands_once n [] apart at = absurd (let low = at.1 in omega arith)
stands_once n (m ∷ ms) apart at =
    let a = sum_by-cons (λ (k : ℕ). hit n k) m ms in
    let others : All (λ k. m ≢ k) ms = λ k d within. apart 0 (suc k) d (omega arith) (omega arith) in
    dite (ℕ_discrete n m)
    (λ e. let here : hit n m ≡ 1 = ap (λ (b : Bool). cond b 1 0) (eq-eqb n m e) in
    let rest = stands_nowhere n ms (subst (λ (i : ℕ). All (λ k. i ≢ k) ms) (sym e) others) in
    omega arith)
    (λ ne. let here : hit n m ≡ 0 = ap (λ (b : Bool). cond b 1 0) (ne_eqb n m ne) in
    let rest = stands_once n ms (λ i j d lt within. apart (suc i) (suc j) d (omega arith) (omega arith)) (in_tail n m ms ne at) in
    omega arith)

nil_before : {A : Type 0} (xs ys : List A) → xs ++ ys ≡ [] → xs ≡ []
nil_before [] ys e = refl
nil_before (x ∷ xs) ys e = cc

module _ {E : Type 0} where
  calls_more : (n : ℕ) (l m : List (ℕ × E)) → calls_by n (l ++ m) ≡ calls_by n l ++ calls_by n m
  calls_more n l m = ap (map entry_of) (filter-append (λ (c : ℕ × E). number_of c == n) l m) ∙ map-append entry_of (filter (λ (c : ℕ × E). number_of c == n) l) (filter (λ (c : ℕ × E). number_of c == n) m)

  -- a call of the number n, and of another
  pub calls_here : (n : ℕ) (l : List (ℕ × E)) (e : E) → calls_by n (l ++ (n, e) ∷ []) ≡ calls_by n l ++ e ∷ []
  calls_here n l e = calls_more n l ((n, e) ∷ []) ∙ ap (λ (b : Bool). calls_by n l ++ map entry_of (cond b ((n, e) ∷ []) [])) (eq-eqb n n refl)

  pub calls_else : (n m : ℕ) (l : List (ℕ × E)) (e : E) → m ≢ n → calls_by n (l ++ (m, e) ∷ []) ≡ calls_by n l
  calls_else n m l e ne = calls_more n l ((m, e) ∷ []) ∙ (ap (λ (b : Bool). calls_by n l ++ map entry_of (cond b ((m, e) ∷ []) [])) (ne_eqb m n ne) ∙ append-nil (calls_by n l))

  -- where a number made no call, each call has another
  no_call : (n : ℕ) (l : List (ℕ × E)) → calls_by n l ≡ [] → All (λ m. m ≢ n) (map number_of l)
  no_call n [] none = λ k d within. absurd (omega arith)
  no_call n (c ∷ cs) none =
      let first : (b : Bool) → (c.0 == n) ≡ b → calls_by n (c ∷ cs) ≡ map entry_of (cond b (c ∷ filter (λ (t : ℕ × E). number_of t == n) cs) (filter (λ (t : ℕ × E). number_of t == n) cs)) = λ b is. ap (λ (z : Bool). map entry_of (cond z (c ∷ filter (λ (t : ℕ × E). number_of t == n) cs) (filter (λ (t : ℕ × E). number_of t == n) cs))) is in
      dite (ℕ_discrete c.0 n)
      (λ e. absurd (let some : c.1 ∷ calls_by n cs ≡ [] = sym (first true (eq-eqb c.0 n e)) ∙ none in cc))
      (λ ne. All-cons (λ m. m ≢ n) c.0 (map number_of cs) ne (no_call n cs (sym (first false (ne_eqb c.0 n ne)) ∙ none)))

  -- each call of the beginning of a history has a number up to the last, where no greater number made a call
  pub numbers_within : (last : ℕ) (seen log : List (ℕ × E)) → IsPrefix seen log → ((n : ℕ) → last < n → calls_by n log ≡ []) → All (λ m. m ≤ last) (map number_of seen)
  numbers_within last seen log p fresh k d within =
      let n : ℕ = slice_index_or (map number_of seen) k d in
      dite (dec_le n last) (λ low. low) (λ high. absurd (
      let none : calls_by n (seen ++ p.0) ≡ [] = ap (calls_by n) p.1 ∙ fresh n (lt_of_not-le high) in
      no_call n seen (nil_before (calls_by n seen) (calls_by n p.0) (sym (calls_more n seen p.0) ∙ none)) k d within refl
      ))

  -- a history has as many calls as its numbers made, where these differ and each call has one of them
  one_more : (c : ℕ × E) (cs : List (ℕ × E)) (n : ℕ) → length (calls_by n (c ∷ cs)) ≡ hit c.0 n + length (calls_by n cs)
  one_more c cs n = elim (c.0 == n) as (λ b. length (map entry_of (cond b (c ∷ filter (λ (t : ℕ × E). number_of t == n) cs) (filter (λ (t : ℕ × E). number_of t == n) cs))) ≡ cond b 1 0 + length (calls_by n cs)) [ true ↦ omega arith | false ↦ omega arith ]

  sums_more : (c : ℕ × E) (cs : List (ℕ × E)) (ns : List ℕ) → sum_by (λ n. length (calls_by n (c ∷ cs))) ns ≡ sum_by (λ n. hit c.0 n) ns + sum_by (λ n. length (calls_by n cs)) ns
  sums_more c cs [] = refl
  sums_more c cs (n ∷ ns) =
      let one = one_more c cs n in
      let rest = sums_more c cs ns in
      let a = sum_by-cons (λ (m : ℕ). length (calls_by m (c ∷ cs))) n ns in
      let b = sum_by-cons (λ (m : ℕ). hit c.0 m) n ns in
      let d = sum_by-cons (λ (m : ℕ). length (calls_by m cs)) n ns in
      omega arith

  pub counted : (log : List (ℕ × E)) (ns : List ℕ) → AreDistinct ns → All (Contains ns) (map number_of log) → sum_by (λ n. length (calls_by n log)) ns ≡ length log
  counted [] ns apart all = none_made ns
  counted (c ∷ cs) ns apart all =
      let one = stands_once c.0 ns apart (All-head (Contains ns) c.0 (map number_of cs) all) in
      let rest = counted cs ns apart (All-tail (Contains ns) c.0 (map number_of cs) all) in
      let both = sums_more c cs ns in
      omega arith

  pub entries_more : (l : List (ℕ × E)) (n : ℕ) (e : E) → map entry_of (l ++ (n, e) ∷ []) ≡ map entry_of l ++ e ∷ []
  entries_more l n e = map-append entry_of l ((n, e) ∷ [])

  pub numbers_more : (l : List (ℕ × E)) (n : ℕ) (e : E) → map number_of (l ++ (n, e) ∷ []) ≡ map number_of l ++ n ∷ []
  numbers_more l n e = map-append number_of l ((n, e) ∷ [])

  pub longer_either : (P : List (ℕ × E) → List (ℕ × E) → Type 0) (a b : List (ℕ × E)) → (length a ≤ length b → P b a) → (length b < length a → P a b) → P (longer_of a b) (shorter_of a b)
  longer_either P a b small large = ⊎_elim
      (λ t. subst (λ (c : Bool). P (cond c b a) (cond c a b)) (sym t.0) (small t.1))
      (λ t. subst (λ (c : Bool). P (cond c b a) (cond c a b)) (sym t.0) (large t.1))
      (leb_tells (length a) (length b))

  -- both histories begin the longer one, where the shorter does
  pub both_begin : (a b : List (ℕ × E)) → (length (shorter_of a b) ≤ length (longer_of a b) → IsPrefix (shorter_of a b) (longer_of a b)) → IsPrefix a (longer_of a b) × IsPrefix b (longer_of a b)
  both_begin a b = longer_either (λ l m. (length m ≤ length l → IsPrefix m l) → IsPrefix a l × IsPrefix b l) a b
      (λ h f. (f h, prefix_self b))
      (λ h f. (prefix_self a, f (omega arith)))

module _ {S E : Type 0} where
  pub joined_map : (x y : Scene S E) (l : List (ℕ × List E)) → ((n : ℕ) (cs : List E) → IsJoined x n cs → IsJoined y n cs) → AllJoined x l → AllJoined y l
  joined_map x y [] f h = tt
  joined_map x y (k ∷ ks) f h = (f k.0 k.1 h.0, joined_map x y ks f h.1)

  pub joined_calls : (x : Scene S E) (log : List (ℕ × E)) (l : List (ℕ × List E)) → x.log ≡ log → AllJoined x l → HasCalls log l
  joined_calls x log [] is h = tt
  joined_calls x log (k ∷ ks) is h = let c = h.0.calls_are in (ap (calls_by k.0) (sym is) ∙ c, joined_calls x log ks is h.1)

  -- the numbers that were joined are known, and no seat has one of them
  pub joined_known : (x : Scene S E) (l : List (ℕ × List E)) → AllJoined x l → All (λ m. m ≤ x.last) (map number_of l)
  joined_known x [] h = λ k d within. absurd (omega arith)
  joined_known x (k ∷ ks) h = All-cons (λ m. m ≤ x.last) k.0 (map number_of ks) h.0.known (joined_known x ks h.1)

  pub joined_else : (x : Scene S E) (n : ℕ) (l : List (ℕ × List E)) → 0 < x.place n → AllJoined x l → All (λ m. n ≢ m) (map number_of l)
  joined_else x n [] seated h = λ k d within. absurd (omega arith)
  joined_else x n (k ∷ ks) seated h = All-cons (λ m. n ≢ m) k.0 (map number_of ks) (λ e. let free = h.0.free in let same : x.place n ≡ x.place k.0 = ap x.place e in absurd (omega arith)) (joined_else x n ks seated h.1)

  -- the calls of the passes that were joined, by the log and by what was counted
  pub joined_sum : (x : Scene S E) (l : List (ℕ × List E)) → AllJoined x l → sum_by (λ n. length (calls_by n x.log)) (map number_of l) ≡ sum_by (λ k. length k.1) l
  joined_sum x [] h = refl
  joined_sum x (k ∷ ks) h =
      let a = sum_by-cons (λ (n : ℕ). length (calls_by n x.log)) k.0 (map number_of ks) in
      let b = sum_by-cons (λ (j : ℕ × List E). length j.1) k ks in
      let one : length (calls_by k.0 x.log) ≡ length k.1 = ap (λ (l : List E). length l) h.0.calls_are in
      let rest = joined_sum x ks h.1 in
      omega arith
