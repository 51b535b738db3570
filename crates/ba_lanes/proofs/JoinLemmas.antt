-- The history that the passes of all lanes leave, once they were split off one pass and joined into it.
use mathlib.Core.List.{IsPrefix, map-append}
use Rattle.std.proofs.Common.{◌≡◌, ◌≢◌, ◌∙◌, refl, sym, ap, subst, ℕ, suc, zero, ◌+◌, ◌<◌, ◌≤◌, ◌==◌, ◌⊎◌, inl, inr, Bool, true, false, List, [], ◌∷◌, ◌++◌, length, map, filter, cond, get_or, append-nil, append_assoc, length-append, arith}
use Rattle.std.proofs.lemmas.Bool.{eqb-false, eqb-true}
use Rattle.std.proofs.lemmas.List.{length-map}
use Rattle.std.proofs.lemmas.List.Elements.{All-cons, All-head, All-nil, All-tail}
use Rattle.std.specs.Prelude.{All, Contains, nat_le}
use Rattle.ba_lanes.specs.Lanes.{AreOfLanes, HasJoined, HasSplit, SeesFirst, by_opening}
use Rattle.ba_lanes.proofs.LineLemmas.{differ_false, same_true}
use Rattle.ba_turn.specs.History.{HasCalls, calls_by, entry_of, longer_of, number_of}
use Rattle.ba_turn.specs.Knowing.{HasAllCalls, SumsToAllowance, after_join, after_split, opening_known, split_known}
use Rattle.ba_turn.specs.Passes.{MakesCall}
use Rattle.ba_turn.specs.declared.known.Known.{Known}

-- ---- elements

contains_first : {X : Type 0} (x : X) (xs : List X) → Contains (x ∷ xs) x
contains_first x xs = (0, omega arith, refl)

contains_rest : {X : Type 0} (x y : X) (xs : List X) → Contains xs x → Contains (y ∷ xs) x
contains_rest x y xs h = let low = h.1 in (suc h.0, omega (arith, low), h.2)

-- a call of one pass stands in the whole history
pub told_by : {E : Type 0} (n : ℕ) (log : List (ℕ × E)) (call : E) → Contains (calls_by n log) call → Contains (map entry_of log) call
told_by n [] call h = h
told_by n (c ∷ log) call h = by (told_by n log call) (number_of c == n) h
  where
    at : (Contains (calls_by n log) call → Contains (map entry_of log) call) → (k : ℕ) → k < length (c.1 ∷ calls_by n log) → get_or (c.1 ∷ calls_by n log) k call ≡ call → Contains (c.1 ∷ map entry_of log) call
    at behind zero low e = (0, omega arith, e)
    at behind (suc k) low e = contains_rest call c.1 (map entry_of log) (behind (k, omega (arith, low), e))

    by : (Contains (calls_by n log) call → Contains (map entry_of log) call) → (t : Bool) →
        Contains (map entry_of (cond t (c ∷ filter (λ x. number_of x == n) log) (filter (λ x. number_of x == n) log))) call → Contains (map entry_of (c ∷ log)) call
    by behind true there = at behind there.0 there.1 there.2
    by behind false there = contains_rest call c.1 (map entry_of log) (behind there)

-- of a call's number the history has just the calls beside it
calls_beside : {E : Type 0} (log : List (ℕ × E)) (ks : List (ℕ × List E)) (c : ℕ × List E) → HasCalls log ks → Contains ks c → calls_by c.0 log ≡ c.1
calls_beside log ks c has h = at ks has h.0 h.1 h.2
  where
    at : (l : List (ℕ × List _)) → HasCalls log l → (k : ℕ) → k < length l → get_or l k c ≡ c → calls_by c.0 log ≡ c.1
    at [] has k low e = absurd (omega (arith, low))
    at (x ∷ l) has zero low e = subst (λ z. calls_by z.0 log ≡ z.1) e has.0
    at (x ∷ l) has (suc k) low e = at l has.1 k (omega (arith, low)) e

-- a number of a call is one of the pass that made it, and none is the opening pass's
one_of : (P : ℕ → Type 0) (ns : List ℕ) → All P ns → (n : ℕ) → n ≢ 0 → Contains (0 ∷ ns) n → P n
one_of P ns all n some h = at h.0 h.1 h.2
  where
    in_all : (l : List ℕ) → All P l → (k : ℕ) → k < length l → get_or l k n ≡ n → P n
    in_all [] all k low e = absurd (omega (arith, low))
    in_all (x ∷ l) all zero low e = subst P e (All-head P x l all)
    in_all (x ∷ l) all (suc k) low e = in_all l (All-tail P x l all) k (omega (arith, low)) e

    at : (k : ℕ) → k < length (0 ∷ ns) → get_or (0 ∷ ns) k n ≡ n → P n
    at zero low e = absurd (some (sym e))
    at (suc k) low e = in_all ns all k (omega (arith, low)) e

module _ {E : Type 0} where
  none_first : (c : ℕ × E) (log : List (ℕ × E)) → calls_by 0 (c ∷ log) ≡ [] → c.0 ≢ 0
  none_first c log none same =
      let is : calls_by 0 (c ∷ log) ≡ c.1 ∷ calls_by 0 log = ap (λ t. map entry_of (cond t (c ∷ filter (λ x. number_of x == 0) log) (filter (λ x. number_of x == 0) log))) (ap (λ n. n == 0) same ∙ same_true 0) in
      let e : c.1 ∷ calls_by 0 log ≡ [] = sym is ∙ none in
      cc

  none_behind : (c : ℕ × E) (log : List (ℕ × E)) → calls_by 0 (c ∷ log) ≡ [] → calls_by 0 log ≡ []
  none_behind c log none = by (c.0 == 0) none
    where
      by : (t : Bool) → map entry_of (cond t (c ∷ filter (λ x. number_of x == 0) log) (filter (λ x. number_of x == 0) log)) ≡ [] → calls_by 0 log ≡ []
      by true e = absurd (cc)
      by false e = e

  others : (P : ℕ → Type 0) (ns : List ℕ) → All P ns → (log : List (ℕ × E)) → calls_by 0 log ≡ [] → All (Contains (0 ∷ ns)) (map number_of log) → All P (map number_of log)
  others P ns all [] none inside = All-nil P
  others P ns all (c ∷ log) none inside =
      All-cons P c.0 (map number_of log) (one_of P ns all c.0 (none_first c log none) (All-head (Contains (0 ∷ ns)) c.0 (map number_of log) inside))
      (others P ns all log (none_behind c log none) (All-tail (Contains (0 ∷ ns)) c.0 (map number_of log) inside))

  numbers_all : (P : ℕ → Type 0) (ks : List (ℕ × List E)) → All (λ c. P c.0) ks → All P (map number_of ks)
  numbers_all P [] all = All-nil P
  numbers_all P (k ∷ ks) all = All-cons P k.0 (map number_of ks) (All-head (λ c. P c.0) k ks all) (numbers_all P ks (All-tail (λ c. P c.0) k ks all))

  more_allowed : (n : ℕ) (ks : List (ℕ × List E)) → All (λ c. (0 < c.0) × (c.0 ≤ n)) ks → All (λ c. (0 < c.0) × (c.0 ≤ n + 1)) ks
  more_allowed n [] all = All-nil (λ c. (0 < c.0) × (c.0 ≤ n + 1))
  more_allowed n (k ∷ ks) all =
      let first = All-head (λ c. (0 < c.0) × (c.0 ≤ n)) k ks all in
      let most = first.1 in
      All-cons (λ c. (0 < c.0) × (c.0 ≤ n + 1)) k ks (first.0, omega (arith, most)) (more_allowed n ks (All-tail (λ c. (0 < c.0) × (c.0 ≤ n)) k ks all))

same_or_less : (k j : ℕ) → k < j + 1 → (k ≡ j) ⊎ (k < j)
same_or_less k j low = by (k == j) refl
  where
    by : (t : Bool) → (k == j) ≡ t → (k ≡ j) ⊎ (k < j)
    by true e = inl (eqb-true k j e)
    by false e = let differ = eqb-false k j e in inr (omega (arith, low, differ))

abbrev InLanes : ℕ → ℕ → Type 0
InLanes lanes n = (0 < n) × (n ≤ lanes)

-- ---- the calls of the opening pass in front

module _ {E : Type 0} where
  -- they are of no other pass
  behind_opening : (n : ℕ) (opening : List E) (log : List (ℕ × E)) → 0 ≢ n → calls_by n (by_opening opening ++ log) ≡ calls_by n log
  behind_opening n [] log differ = refl
  behind_opening n (c ∷ cs) log differ =
      let rest = filter (λ x. number_of x == n) (by_opening cs ++ log) in
      ap (λ t. map entry_of (cond t ((0, c) ∷ rest) rest)) (differ_false 0 n differ) ∙ behind_opening n cs log differ

  opening_own : (opening : List E) (log : List (ℕ × E)) → calls_by 0 (by_opening opening ++ log) ≡ opening ++ calls_by 0 log
  opening_own [] log = refl
  opening_own (c ∷ cs) log =
      let rest = filter (λ x. number_of x == 0) (by_opening cs ++ log) in
      ap (λ t. map entry_of (cond t ((0, c) ∷ rest) rest)) (same_true 0) ∙ ap (λ z. c ∷ z) (opening_own cs log)

  none_added : (xs ys : List E) → xs ++ ys ≡ xs → ys ≡ []
  none_added [] ys e = e
  none_added (x ∷ xs) ys e = let rest : xs ++ ys ≡ xs = cc in none_added xs ys rest

  -- so where they are all that the pass made, the others are none of its own
  none_behind_opening : (opening : List E) (log : List (ℕ × E)) → calls_by 0 (by_opening opening ++ log) ≡ opening → calls_by 0 log ≡ []
  none_behind_opening opening log own = none_added opening (calls_by 0 log) (sym (opening_own opening log) ∙ own)

  all_behind : (P : ℕ → Type 0) (opening : List E) (log : List (ℕ × E)) → All P (map number_of (by_opening opening ++ log)) → All P (map number_of log)
  all_behind P [] log all = all
  all_behind P (c ∷ cs) log all = all_behind P cs log (All-tail P 0 (map number_of (by_opening cs ++ log)) all)

  longer_first : (opening : List E) (a b x y : List (ℕ × E)) → a ≡ by_opening opening ++ x → b ≡ by_opening opening ++ y → (rest : List (ℕ × E)) × (longer_of a b ≡ by_opening opening ++ rest)
  longer_first opening a b x y a_is b_is = by (nat_le (length a) (length b))
    where
      by : (t : Bool) → (rest : List (ℕ × _)) × (cond t b a ≡ by_opening opening ++ rest)
      by true = (y, b_is)
      by false = (x, a_is)

-- the pass that was split off has seen them, and sees them still once it has seen more
pub sees_split : {S E : Type 0} (opening : List E) (splits a : ℕ) (v w : Known S E) → HasSplit opening splits v → w ≡ split_known a v → SeesFirst opening w
sees_split opening splits a v w h is = subst (SeesFirst opening) (sym is) (record { others = h.first.others; seen = h.first.seen })

pub sees_still : {S E : Type 0} (opening : List E) (v w : Known S E) → SeesFirst opening v → IsPrefix v.seen w.seen → SeesFirst opening w
sees_still opening v w h more = record {
  others = h.others ++ more.0;
  seen = sym more.1 ∙ ap (λ z. z ++ more.0) h.seen ∙ append_assoc (by_opening opening) h.others more.0;
}

-- where the opening pass made none, each pass has seen them
pub sees_none : {S E : Type 0} (v : Known S E) → SeesFirst [] v
sees_none v = record { others = v.seen; seen = refl }

sees_joined : {S E : Type 0} (opening : List E) (v o : Known S E) → SeesFirst opening v → SeesFirst opening o → SeesFirst opening (after_join v o)
sees_joined opening v o a b = let it = longer_first opening v.seen o.seen a.others b.others a.seen b.seen in record { others = it.0; seen = it.1 }

-- ---- the opening pass alone

-- What the opening pass knows once it has made these calls, before it splits off any pass: they are all that it has seen.
pub record IsAlone {S E : Type 0} (opening : List E) (allowance : ℕ) (v : Known S E) : Type 0 where
  pub number : v.number ≡ 0
  pub splits : v.splits ≡ 0
  pub joined : v.joined ≡ []
  pub made : v.made ≡ opening
  pub seen : v.seen ≡ by_opening opening
  pub left : v.left + length opening ≡ allowance
  pub allowance_is : v.allowance ≡ allowance

pub alone_first : {S E : Type 0} (start : S) (allowance : ℕ) (v : Known S E) → v ≡ opening_known start allowance → IsAlone [] allowance v
alone_first start allowance v is =
    subst (IsAlone [] allowance) (sym is) (record { number = refl; splits = refl; joined = refl; made = refl; seen = refl; left = omega arith; allowance_is = refl })

nothing_else : {X : Type 0} (xs : List X) → length xs ≡ 0 → xs ≡ []
nothing_else [] e = refl
nothing_else (x ∷ xs) e = absurd (omega (arith, e))

-- one call more: no other stands between it and the earlier ones, since what is left and what was called sum to the allowance
pub alone_more : {S E : Type 0} (opening : List E) (allowance : ℕ) (v w : Known S E) (e : E) → IsAlone opening allowance v → MakesCall v w e → IsAlone (opening ++ e ∷ []) allowance w
alone_more {S} {E} opening allowance v w e h call = record {
  number = call.number ∙ h.number;
  splits = call.splits ∙ h.splits;
  joined = call.joined ∙ h.joined;
  made = call.made ∙ ap (λ z. z ++ e ∷ []) h.made;
  seen = last
      ∙ ap (λ z. z ++ (v.number, e) ∷ []) (sym front ∙ ap (λ z. v.seen ++ z) (nothing_else rest none) ∙ append-nil v.seen ∙ h.seen)
      ∙ ap (λ n. by_opening opening ++ (n, e) ∷ []) h.number ∙ sym (map-append (λ c. (0, c)) opening (e ∷ []));
  left = omega (arith, before, spent, long);
  allowance_is = call.allowance ∙ h.allowance_is;
}
  where
    between : List (ℕ × E)
    between = call.seen.0

    rest : List (ℕ × E)
    rest = call.seen.1.0

    front : v.seen ++ rest ≡ between
    front = call.seen.1.1

    last : w.seen ≡ between ++ (v.number, e) ∷ []
    last = call.seen.2

    before : v.left + length opening ≡ allowance
    before = h.left

    spent : w.left + 1 ≡ v.left
    spent = call.left

    long : length (opening ++ e ∷ []) ≡ length opening + 1
    long = length-append opening (e ∷ [])

    none : length rest ≡ 0
    none =
        let sums : w.left + length w.seen ≡ allowance =
        call.sums (call.number ∙ h.number) (call.splits ∙ h.splits ∙ sym (ap length (call.joined ∙ h.joined))) ∙ call.allowance ∙ h.allowance_is in
        let all : length w.seen ≡ length between + 1 = ap length last ∙ length-append between ((v.number, e) ∷ []) in
        let parts : length between ≡ length v.seen + length rest = sym (ap length front) ∙ length-append v.seen rest in
        let earlier : length v.seen ≡ length opening = ap length h.seen ∙ length-map opening (λ c. (0, c)) in
        omega (arith, before, spent, sums, all, parts, earlier)

pub alone_split : {S E : Type 0} (opening : List E) (allowance : ℕ) (v : Known S E) → IsAlone opening allowance v → HasSplit opening 0 v
alone_split opening allowance v h = record {
  number = h.number;
  splits_are = h.splits;
  made = h.made;
  joined = h.joined;
  first = record { others = []; seen = h.seen ∙ sym (append-nil (by_opening opening)) };
}

-- ---- splits and joins

pub split_first : {S E : Type 0} (start : S) (allowance : ℕ) (v : Known S E) → v ≡ opening_known start allowance → HasSplit [] 0 v
split_first start allowance v is = subst (HasSplit [] 0) (sym is) (record { number = refl; splits_are = refl; made = refl; joined = refl; first = record { others = []; seen = refl } })

pub split_more : {S E : Type 0} (opening : List E) (splits a : ℕ) (v w : Known S E) → HasSplit opening splits v → w ≡ after_split a v → HasSplit opening (splits + 1) w
split_more opening splits a v w h is = subst (HasSplit opening (splits + 1)) (sym is) (record {
  number = h.number;
  splits_are = ap (λ n. n + 1) h.splits_are;
  made = h.made;
  joined = h.joined;
  first = record { others = h.first.others; seen = h.first.seen };
})

-- the calls of each lane may be told otherwise
pub of_lanes_same : {E : Type 0} (opening : List E) (lanes : ℕ) (f g : ℕ → List E) (calls : List E) (numbers : List ℕ) → ((k : ℕ) → k < lanes → f k ≡ g k) → AreOfLanes opening lanes f calls numbers → AreOfLanes opening lanes g calls numbers
of_lanes_same opening lanes f g calls numbers same h = record {
  log = h.log;
  calls_are = h.calls_are;
  numbers_are = h.numbers_are;
  each = λ k low. h.each k low ∙ same k low;
  no_others = h.no_others;
}

module _ {S E : Type 0} (opening : List E) (calls_of_lane : ℕ → List E) where
  pub joined_none : (splits : ℕ) (v : Known S E) → HasSplit opening splits v → HasJoined opening splits 0 calls_of_lane v
  joined_none splits v h = record {
    number = h.number;
    splits_are = h.splits_are;
    made = h.made;
    many = ap length h.joined;
    each = λ k low. absurd (omega (arith, low));
    only = subst (All (λ c. (0 < c.0) × (c.0 ≤ 0))) (sym h.joined) (All-nil (λ c. (0 < c.0) × (c.0 ≤ 0)));
    first = h.first;
  }

  pub joined_more : (splits joined : ℕ) (v o w : Known S E) → HasJoined opening splits joined calls_of_lane v → o.number ≡ joined + 1 → o.made ≡ calls_of_lane joined → SeesFirst opening o → w ≡ after_join v o →
      HasJoined opening splits (joined + 1) calls_of_lane w
  joined_more splits joined v o w h number made first is = subst (HasJoined opening splits (joined + 1) calls_of_lane) (sym is) (record {
    number = h.number;
    splits_are = h.splits_are;
    made = h.made;
    many = let many = h.many in omega (arith, many);
    each = λ k low. each k low (same_or_less k joined low);
    only = All-cons (λ c. (0 < c.0) × (c.0 ≤ joined + 1)) (o.number, o.made) v.joined (omega (arith, number), omega (arith, number)) (more_allowed joined v.joined h.only);
    first = sees_joined opening v o h.first first;
  })
    where
      each : (k : ℕ) → k < joined + 1 → (k ≡ joined) ⊎ (k < joined) → Contains ((o.number, o.made) ∷ v.joined) (k + 1, calls_of_lane k)
      each k low (inl e) =
          subst (λ z. Contains ((o.number, o.made) ∷ v.joined) (z + 1, calls_of_lane z)) (sym e)
          (subst (Contains ((o.number, o.made) ∷ v.joined)) (λ i. (number i, made i)) (contains_first (o.number, o.made) v.joined))
      each k low (inr less) = contains_rest (k + 1, calls_of_lane k) (o.number, o.made) v.joined (h.each k less)

  -- all of the allowance was spent, or has come back
  pub joined_whole : (lanes : ℕ) (v : Known S E) → HasJoined opening lanes lanes calls_of_lane v → SumsToAllowance v → v.left + length v.seen ≡ v.allowance
  joined_whole lanes v h sums = sums h.number (h.splits_are ∙ sym h.many)

  pub joined_calls : (lanes : ℕ) (v : Known S E) → HasJoined opening lanes lanes calls_of_lane v → calls_by v.number v.seen ≡ v.made → HasCalls v.seen v.joined → HasAllCalls v → (calls : List E) (numbers : List ℕ) →
      calls ≡ map entry_of v.seen → numbers ≡ map number_of v.seen → AreOfLanes opening lanes calls_of_lane calls numbers
  joined_calls lanes v h own has whole calls numbers calls_are numbers_are = record {
    log = h.first.others;
    calls_are = calls_are ∙ ap (map entry_of) h.first.seen;
    numbers_are = numbers_are ∙ ap (map number_of) h.first.seen;
    each = λ k low.
        sym (behind_opening (k + 1) opening h.first.others (λ e. omega (arith, e))) ∙ ap (calls_by (k + 1)) (sym h.first.seen)
        ∙ calls_beside v.seen v.joined (k + 1, calls_of_lane k) has (h.each k low);
    no_others =
        others (InLanes lanes) (map number_of v.joined) (numbers_all (InLanes lanes) v.joined h.only) h.first.others
        (none_behind_opening opening h.first.others (sym (ap (calls_by 0) h.first.seen) ∙ ap (λ n. calls_by n v.seen) (sym h.number) ∙ own ∙ h.made))
        (all_behind (Contains (0 ∷ map number_of v.joined)) opening h.first.others
        (subst (λ z. All (Contains (0 ∷ map number_of v.joined)) (map number_of z)) h.first.seen
        (subst (λ n. All (Contains (n ∷ map number_of v.joined)) (map number_of v.seen)) h.number (whole.each h.number (h.splits_are ∙ sym h.many)))));
  }
