-- Lists of what one number more gives.
use Rattle.std.proofs.Common.{◌≡◌, ◌∙◌, ℕ, zero, suc, ◌+◌, ◌-◌, ◌*◌, ◌≤◌, List, [], ◌∷◌, ◌++◌, map, refl, sym, ap, ap₂, arith, add-one, append_assoc}
use Rattle.std.specs.List.{flat_map, range_with_len}
use Rattle.std.proofs.lemmas.List.{append-nil}
use Rattle.std.proofs.lemmas.List.Concat.{flat_map-append}
use Rattle.ba_workload.specs.Chosen.{attended, event_at, event_of, user_of, users}
use Rattle.ba_workload.specs.Draws.{drawn, next, state_after}
use Rattle.ba_workload.specs.Lists.{all_of, each_of}
use Rattle.ba_workload.specs.Script.{entries_of, request_entries}

range-more : (a n : ℕ) → range_with_len a (suc n) ≡ range_with_len a n ++ (a + n) ∷ []
range-more a zero = let e : a ≡ a + 0 = omega arith in ap (λ x. x ∷ []) e
range-more a (suc n) = let e : a + 1 + n ≡ a + suc n = omega arith in ap (λ xs. a ∷ xs) (range-more (a + 1) n) ∙ ap (λ x. a ∷ (range_with_len (a + 1) n ++ x ∷ [])) e

map-more : {X : Type 0} (one : ℕ → X) (ks : List ℕ) (k : ℕ) → map one (ks ++ k ∷ []) ≡ map one ks ++ one k ∷ []
map-more one [] k = refl
map-more one (j ∷ ks) k = ap (λ xs. one j ∷ xs) (map-more one ks k)

each-more : {X : Type 0} (one : ℕ → X) (first n : ℕ) → each_of one first (n + 1) ≡ each_of one first n ++ one (first + n) ∷ []
unfolding each_of
each-more one first n = ap (λ k. map one (range_with_len first k)) (add-one n) ∙ ap (map one) (range-more first n) ∙ map-more one (range_with_len first n) (first + n)

all-more : {X : Type 0} (some : ℕ → List X) (first n : ℕ) → all_of some first (n + 1) ≡ all_of some first n ++ some (first + n)
unfolding all_of
all-more some first n =
    ap (λ k. flat_map some (range_with_len first k)) (add-one n) ∙ ap (flat_map some) (range-more first n) ∙ flat_map-append some (range_with_len first n) ((first + n) ∷ [])
    ∙ ap (λ xs. flat_map some (range_with_len first n) ++ xs) (append-nil (some (first + n)))

-- ---- from none on

pub each-none : {X : Type 0} (one : ℕ → X) (first : ℕ) → each_of one first 0 ≡ []
unfolding each_of
each-none one first = refl

pub all-none : {X : Type 0} (some : ℕ → List X) (first : ℕ) → all_of some first 0 ≡ []
unfolding all_of
all-none some first = refl

-- ---- up to below k, where the first is 1

pub each_put : {X : Type 0} (one : ℕ → X) (k : ℕ) (old new : List X) (x : X) → 1 ≤ k → new ≡ old ++ x ∷ [] → old ≡ each_of one 1 (k - 1) → x ≡ one k → new ≡ each_of one 1 (k + 1 - 1)
each_put one k old new x some put before this =
    let here : 1 + (k - 1) ≡ k = omega arith in
    let next : k + 1 - 1 ≡ k - 1 + 1 = omega arith in
    put ∙ ap₂ (λ xs y. xs ++ y ∷ []) before this ∙ ap (λ j. each_of one 1 (k - 1) ++ one j ∷ []) (sym here) ∙ sym (each-more one 1 (k - 1)) ∙ ap (each_of one 1) (sym next)

pub all_put : {X : Type 0} (some : ℕ → List X) (k : ℕ) (old new xs : List X) → 1 ≤ k → new ≡ old ++ xs → old ≡ all_of some 1 (k - 1) → xs ≡ some k → new ≡ all_of some 1 (k + 1 - 1)
all_put some k old new xs more put before this =
    let here : 1 + (k - 1) ≡ k = omega arith in
    let next : k + 1 - 1 ≡ k - 1 + 1 = omega arith in
    put ∙ ap₂ (λ ys zs. ys ++ zs) before this ∙ ap (λ j. all_of some 1 (k - 1) ++ some j) (sym here) ∙ sym (all-more some 1 (k - 1)) ∙ ap (all_of some 1) (sym next)

-- ---- up to below k, where the first is 0

pub each_put_behind : {X : Type 0} (one : ℕ → X) (k : ℕ) (start old new : List X) (x : X) → new ≡ old ++ x ∷ [] → old ≡ start ++ each_of one 0 k → x ≡ one k → new ≡ start ++ each_of one 0 (k + 1)
each_put_behind one k start old new x put before this =
    let here : 0 + k ≡ k = omega arith in
    put ∙ ap₂ (λ xs y. xs ++ y ∷ []) before this ∙ append_assoc start (each_of one 0 k) (one k ∷ []) ∙ ap (λ j. start ++ (each_of one 0 k ++ one j ∷ [])) (sym here)
    ∙ ap (λ xs. start ++ xs) (sym (each-more one 0 k))

pub all_put_from_none : {X : Type 0} (some : ℕ → List X) (k : ℕ) (old new xs : List X) → new ≡ old ++ xs → old ≡ all_of some 0 k → xs ≡ some k → new ≡ all_of some 0 (k + 1)
all_put_from_none some k old new xs put before this =
    let here : 0 + k ≡ k = omega arith in
    put ∙ ap₂ (λ ys zs. ys ++ zs) before this ∙ ap (λ j. all_of some 0 k ++ some j) (sym here) ∙ sym (all-more some 0 k)

-- ---- draws

-- two more
two-more : (seed k : ℕ) → state_after seed (2 * (k + 1)) ≡ next (next (state_after seed (2 * k)))
two-more seed k = let e : 2 * (k + 1) ≡ suc (suc (2 * k)) = omega arith in ap (state_after seed) e

pub two-on : (seed k old new : ℕ) → new ≡ next (next old) → old ≡ state_after seed (2 * k) → new ≡ state_after seed (2 * (k + 1))
two-on seed k old new moves is = moves ∙ ap (λ x. next (next x)) is ∙ sym (two-more seed k)

-- a request by its two draws
pub request_drawn : (seed k old user event : ℕ) → old ≡ state_after seed (2 * k) → user ≡ 1 + drawn users (next old) → event ≡ event_of user (drawn attended (next (next old)))
    → request_entries k user event ≡ entries_of seed k
request_drawn seed k old user event is who what =
    let first : user ≡ user_of seed k = who ∙ ap (λ x. 1 + drawn users (next x)) is ∙ ap (λ i. 1 + drawn users (state_after seed i)) (sym (add-one (2 * k))) in
    let e : 2 * k + 1 + 1 ≡ suc (suc (2 * k)) = omega arith in
    let second : event ≡ event_at seed k = what ∙ ap₂ (λ u x. event_of u (drawn attended (next (next x)))) first is ∙ ap (λ i. event_of (user_of seed k) (drawn attended (state_after seed i))) (sym e) in
    ap₂ (λ u e. request_entries k u e) first second
