-- The numbers of templates that calls on shelves added, and these calls one by one.
use Rattle.std.proofs.Common.{◌≡◌, ◌≢◌, ◌∙◌, ℕ, zero, suc, ◌<◌, ◌==◌, ◌&&◌, Bool, true, false, cond, List, [], ◌∷◌, ◌++◌, All, Contains, ap, ap₂, arith, flat_map, inl, inr, length, map, refl, subst, sym, ◌⊎◌}
use Rattle.std.proofs.lemmas.Bool.Decides.{eqb_tells}
use Rattle.std.proofs.lemmas.List.Concat.{flat_map-append}
use Rattle.std.proofs.lemmas.List.Elements.{All-append, All-cons, All-head, All-nil, All-tail}
use Rattle.std.proofs.lemmas.List.Sums.{sum_by-cons}
use Rattle.ba_machine_laws.specs.Shelves.{templates_of}
use Rattle.ba_cache.specs.Rows.{count_added, is_added}
use Rattle.ba_cache.specs.declared.call.Admit.TheVariants.{Added, Known}
use Rattle.ba_cache.specs.declared.call.ShelfCall.{ShelfCall}
use Rattle.ba_cache.specs.declared.call.ShelfCall.TheVariants as calls
use Rattle.ba_machine_laws.proofs.BetweenLemmas.{same_true}
use Rattle.ba_machine_laws.proofs.HistoryLemmas.{OnShelf}
use Rattle.ba_machine_laws.specs.OneWorker.{Addition, addition_by, additions_of, place_among}
use Rattle.ba_session.specs.Passing.{ShelfCalls, calls_on}

-- ---- as many as are counted

pub counted : (made : List ShelfCall) → length (templates_of made) ≡ count_added made
counted [] = refl
counted (calls.Look shape found ∷ made) =
    let rest = counted made in
    let one = sum_by-cons (λ c. cond (is_added c) 1 0) (calls.Look shape found) made in
    omega (arith, rest, one)
counted (calls.Admit t (Added id) ∷ made) =
    let rest = counted made in
    let one = sum_by-cons (λ c. cond (is_added c) 1 0) (calls.Admit t (Added id)) made in
    omega (arith, rest, one)
counted (calls.Admit t (Known id) ∷ made) =
    let rest = counted made in
    let one = sum_by-cons (λ c. cond (is_added c) 1 0) (calls.Admit t (Known id)) made in
    omega (arith, rest, one)
counted (calls.Refused ∷ made) =
    let rest = counted made in
    let one = sum_by-cons (λ c. cond (is_added c) 1 0) calls.Refused made in
    omega (arith, rest, one)

-- ---- numbers

contains_first : {X : Type 0} (x : X) (xs : List X) → Contains (x ∷ xs) x
contains_first x xs = (0, omega arith, refl)

contains_rest : {X : Type 0} (x y : X) (xs : List X) → Contains xs x → Contains (y ∷ xs) x
contains_rest x y xs h = let low = h.1 in (suc h.0, omega (arith, low), h.2)

-- a template that is new comes behind the earlier ones
pub place_new : (its rest : List Addition) (shard id : ℕ) → (Contains its (shard, id) → ⊥) → place_among (its ++ (shard, id) ∷ rest) shard id ≡ length its
place_new [] rest shard id fresh =
    (λ i. cond (same_true shard shard refl i && same_true id id refl i) zero (suc (place_among rest shard id)))
place_new (it ∷ its) rest shard id fresh =
    by (eqb_tells it.0 shard) (eqb_tells it.1 id)
    ∙ ap suc (place_new its rest shard id (λ h. fresh (contains_rest (shard, id) it its h)))
  where
    later : ℕ
    later = place_among (its ++ (shard, id) ∷ rest) shard id

    by : (((it.0 == shard) ≡ true) × (it.0 ≡ shard)) ⊎ (((it.0 == shard) ≡ false) × (it.0 ≢ shard)) → (((it.1 == id) ≡ true) × (it.1 ≡ id)) ⊎ (((it.1 == id) ≡ false) × (it.1 ≢ id)) →
        cond ((it.0 == shard) && (it.1 == id)) zero (suc (place_among (its ++ (shard, id) ∷ rest) shard id)) ≡ suc (place_among (its ++ (shard, id) ∷ rest) shard id)
    by (inl a) (inl b) = absurd (fresh (subst (λ z. Contains (it ∷ its) z) (λ i. (a.1 i, b.1 i)) (contains_first it its)))
    by (inl a) (inr b) = λ i. cond (a.0 i && b.0 i) zero (suc (place_among (its ++ (shard, id) ∷ rest) shard id))
    by (inr a) b = λ i. cond (a.0 i && (it.1 == id)) zero (suc (place_among (its ++ (shard, id) ∷ rest) shard id))

-- ---- calls, one by one

-- a call, with the shard of its shelf
abbrev pub Made : Type 0
Made = ℕ × ShelfCall

-- the template that it added
abbrev pub addition_at : Made → List Addition
addition_at c = addition_by c.0 c.1

-- the call, if it is one on the shelf k
abbrev pub call_on : ℕ → Made → List ShelfCall
call_on k c = cond (c.0 == k) (c.1 ∷ []) []

abbrev pub calls_at : ℕ → List Made → List ShelfCall
calls_at k cs = flat_map (call_on k) cs

abbrev pub each_of : ShelfCalls → List Made
each_of made = map (λ c. (made.shard, c)) made.calls

abbrev pub flat : List ShelfCalls → List Made
flat its = flat_map each_of its

-- each is on one of the eight shelves
abbrev pub IsLow : Made → Type 0
IsLow c = c.0 < 8

additions_each : (shard : ℕ) (made : List ShelfCall) → flat_map (addition_by shard) made ≡ flat_map addition_at (map (λ c. (shard, c)) made)
additions_each shard [] = refl
additions_each shard (c ∷ made) = ap (λ z. addition_by shard c ++ z) (additions_each shard made)

pub additions_flat : (its : List ShelfCalls) → additions_of its ≡ flat_map addition_at (flat its)
additions_flat [] = refl
additions_flat (m ∷ its) = ap₂ (λ a b. a ++ b) (additions_each m.shard m.calls) (additions_flat its) ∙ sym (flat_map-append addition_at (each_of m) (flat its))

on_each : (t : Bool) (made : List ShelfCall) → cond t made [] ≡ flat_map (λ c. cond t (c ∷ []) []) made
on_each true [] = refl
on_each true (c ∷ made) = ap (λ z. c ∷ z) (on_each true made)
on_each false [] = refl
on_each false (c ∷ made) = on_each false made

on_shard : (k shard : ℕ) (made : List ShelfCall) → flat_map (λ c. cond (shard == k) (c ∷ []) []) made ≡ calls_at k (map (λ c. (shard, c)) made)
on_shard k shard [] = refl
on_shard k shard (c ∷ made) = ap (λ z. cond (shard == k) (c ∷ []) [] ++ z) (on_shard k shard made)

pub on_flat : (k : ℕ) (its : List ShelfCalls) → flat_map (λ made. calls_on k made) its ≡ calls_at k (flat its)
on_flat k [] = refl
on_flat k (m ∷ its) = ap₂ (λ a b. a ++ b) (on_each (m.shard == k) m.calls ∙ on_shard k m.shard m.calls) (on_flat k its) ∙ sym (flat_map-append (call_on k) (each_of m) (flat its))

low_each : (shard : ℕ) (made : List ShelfCall) → shard < 8 → All IsLow (map (λ c. (shard, c)) made)
low_each shard [] low = All-nil IsLow
low_each shard (c ∷ made) low = All-cons IsLow (shard, c) (map (λ c. (shard, c)) made) low (low_each shard made low)

low_of : (m : ShelfCalls) → OnShelf m → All IsLow (each_of m)
low_of m (inl none) = subst (λ z. All IsLow (map (λ c. (m.shard, c)) z)) (sym none) (All-nil IsLow)
low_of m (inr low) = low_each m.shard m.calls low

pub low_flat : (its : List ShelfCalls) → All OnShelf its → All IsLow (flat its)
low_flat [] all = All-nil IsLow
low_flat (m ∷ its) all = All-append IsLow (each_of m) (flat its) (low_of m (All-head OnShelf m its all)) (low_flat its (All-tail OnShelf m its all))
