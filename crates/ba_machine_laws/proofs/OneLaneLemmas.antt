-- The histories of a journal of one worker are the calls of its lines, and each front of a legal history is legal.
use mathlib.Core.List.{map-append}
use Rattle.std.proofs.Common.{◌≡◌, ◌∙◌, ℕ, zero, suc, ◌<◌, ◌≤◌, ◌==◌, cond, filter, List, [], ◌∷◌, ◌++◌, All, ap, append-nil, append_assoc, arith, drop, flat_map, get_or, inl, inr, length, map, refl, subst, sym, take, ◌⊎◌}
use Rattle.std.proofs.lemmas.List.{same_from_push}
use Rattle.std.proofs.lemmas.List.Concat.{flat_map-append}
use Rattle.std.proofs.lemmas.List.Elements.{All-head, All-tail, All-weaker}
use Rattle.ba_cache.specs.Rows as shelves
use Rattle.ba_cache.specs.Rows.{Row, count_added}
use Rattle.ba_cache.specs.declared.call.ShelfCall.{ShelfCall}
use Rattle.ba_input.specs.declared.input.Input.{Input}
use Rattle.ba_lanes.proofs.MergeLemmas.{lane_low}
use Rattle.ba_lanes.specs.Lanes.{AreOfLanes, by_opening, of_lane}
use Rattle.ba_lanes.specs.Legal.{LineDone, done_in, lane_of}
use Rattle.ba_machine_laws.proofs.BetweenLemmas.{same_true}
use Rattle.ba_machine_laws.proofs.ScriptLemmas.{last_of}
use Rattle.ba_script.specs.declared.entry.ScriptEntry.{ScriptEntry}
use Rattle.ba_tables.specs.TableSet.{TableSet}
use Rattle.ba_turn.specs.History.{calls_by, entry_of, number_of}
use Rattle.ba_versions.specs.Calls as versions
use Rattle.ba_versions.specs.declared.call.VersionCall.{VersionCall}
use Rattle.ba_versions.specs.declared.call.VersionCall.TheVariants as call

-- ---- one lane

of_one_lane : {L X : Type 0} (lane : L → ℕ) (lines : List L) (xs : List X) → length xs ≡ length lines → ((line : L) → lane line ≡ 0) → of_lane lane 0 lines xs ≡ xs
of_one_lane lane [] [] long all = refl
of_one_lane lane [] (x ∷ xs) long all = absurd (omega (arith, long))
of_one_lane lane (line ∷ lines) [] long all = absurd (omega (arith, long))
of_one_lane lane (line ∷ lines) (x ∷ xs) long all =
    ap (λ t. cond t (x ∷ of_lane lane 0 lines xs) (of_lane lane 0 lines xs)) (same_true (lane line) 0 (all line))
    ∙ ap (λ z. x ∷ z) (of_one_lane lane lines xs (omega (arith, long)) all)

abbrev IsOne : ℕ → Type 0
IsOne n = (0 < n) × (n ≤ 1)

all_of_one : {E : Type 0} (log : List (ℕ × E)) → All IsOne (map number_of log) → calls_by 1 log ≡ map entry_of log
all_of_one [] all = refl
all_of_one (c ∷ log) all =
    let here = All-head IsOne c.0 (map number_of log) all in
    let low = here.0 in
    let high = here.1 in
    ap (λ t. map entry_of (cond t (c ∷ filter (λ x. number_of x == 1) log) (filter (λ x. number_of x == 1) log))) (same_true c.0 1 (omega (arith, low, high)))
    ∙ ap (λ z. c.1 ∷ z) (all_of_one log (All-tail IsOne c.0 (map number_of log) all))

entries_opening : {E : Type 0} (opening : List E) → map entry_of (by_opening opening) ≡ opening
entries_opening [] = refl
entries_opening (c ∷ cs) = ap (λ z. c ∷ z) (entries_opening cs)

-- the history is the calls of the opening pass, and behind them those of the lines, in their order
pub one_history : {E : Type 0} (opening : List E) (input : Input) (served : List LineDone) (f : LineDone → List E) (made : List E) (numbers : List ℕ) →
    input.workers ≡ 1 → length served ≡ length input.script.entries → AreOfLanes opening input.workers (λ k. flat_map f (done_in input served k)) made numbers → made ≡ opening ++ flat_map f served
one_history opening input served f made numbers one long h =
    let some : 0 < input.workers = omega (arith, one) in
    let all : All IsOne (map number_of h.log) =
    All-weaker (λ n. (0 < n) × (n ≤ input.workers)) IsOne (λ n it. (it.0, upto n it.1)) (map number_of h.log) h.no_others in
    h.calls_are ∙ map-append entry_of (by_opening opening) h.log ∙ ap (λ z. z ++ map entry_of h.log) (entries_opening opening)
    ∙ ap (λ z. opening ++ z) (sym (all_of_one h.log all) ∙ h.each 0 some ∙ ap (flat_map f) (of_one_lane (lane_of input.workers) input.script.entries served long (λ line. first line)))
  where
    upto : (n : ℕ) → n ≤ input.workers → n ≤ 1
    upto n below = omega (arith, below, one)

    first : (line : ScriptEntry) → lane_of input.workers line ≡ 0
    first line = let low = lane_low input (omega (arith, one)) line in omega (arith, low, one)

-- one shelf among all
pub one_part : {X : Type 0} (xs : List X) (k : ℕ) (d : X) → k < length xs → take 1 (drop k xs) ≡ get_or xs k d ∷ []
one_part [] k d low = absurd (omega (arith, low))
one_part (x ∷ xs) zero d low = refl
one_part (x ∷ xs) (suc k) d low = one_part xs k d (omega (arith, low))

-- ---- fronts of the history of a shelf

never : {X : Type 0} (xs : List X) (x : X) (ys : List X) → [] ≡ xs ++ x ∷ ys → ⊥
never [] x ys e = cc
never (y ∷ xs) x ys e = cc

no_front : {X : Type 0} (xs ys : List X) → [] ≡ xs ++ ys → [] ≡ xs
no_front [] ys e = refl
no_front (x ∷ xs) ys e = absurd (never [] x (xs ++ ys) e)

-- a front of these calls is legal
abbrev pub IsFront : List ShelfCall → Type 0
IsFront xs = (rows : List Row) × shelves.Legal xs rows

shelf_by : (made xs ys : List ShelfCall) (c : ShelfCall) (new : List Row) → shelves.Legal (made ++ c ∷ []) new → ((zs : List ShelfCall) → made ≡ xs ++ zs → IsFront xs) → made ++ c ∷ [] ≡ xs ++ ys →
    (ys ≡ []) ⊎ ((zs : List ShelfCall) × (z : ShelfCall) × (ys ≡ zs ++ z ∷ [])) → IsFront xs
shelf_by made xs ys c new whole behind e (inl none) = (new, subst (λ z. shelves.Legal z new) (e ∙ ap (λ z. xs ++ z) none ∙ append-nil xs) whole)
shelf_by made xs ys c new whole behind e (inr (zs, z, are)) =
    behind zs (same_from_push made (xs ++ zs) c z (e ∙ ap (λ z. xs ++ z) are ∙ sym (append_assoc xs zs (z ∷ [])))).0

pub shelf_front : {all : List ShelfCall} {rows : List Row} → shelves.Legal all rows → (xs ys : List ShelfCall) → all ≡ xs ++ ys → IsFront xs
shelf_front shelves.start xs ys e = ([], subst (λ z. shelves.Legal z []) (no_front xs ys e) shelves.start)
shelf_front (shelves.next {made = made} {old = old} {new = new} c before step) xs ys e =
    shelf_by made xs ys c new (shelves.next c before step) (λ zs e. shelf_front before xs zs e) e (last_of ys)

-- the last call, after the others
pub record IsLast (xs : List ShelfCall) (c : ShelfCall) : Type 0 where
  pub old : List Row
  pub new : List Row
  pub step : shelves.Steps (count_added xs) old c new

pub shelf_last : {all : List ShelfCall} {rows : List Row} → shelves.Legal all rows → (xs : List ShelfCall) (c : ShelfCall) → all ≡ xs ++ c ∷ [] → IsLast xs c
shelf_last shelves.start xs c e = absurd (never xs c [] e)
shelf_last (shelves.next {made = made} {old = old} {new = new} it before step) xs c e =
    let same = same_from_push made xs it c e in
    record {
      old = old;
      new = new;
      step = subst (λ z. shelves.Steps (count_added z) old c new) same.0 (subst (λ z. shelves.Steps (count_added made) old z new) same.1 step);
    }

-- ---- fronts of the history of the versions

-- the tables that a call published
abbrev pub tables_in : VersionCall → List TableSet
tables_in (call.Publish told n) = told.value ∷ []
tables_in (call.Pin n told) = []
tables_in call.Refused = []

-- what the calls left is the opening tables and what was published
pub list_is : (opening : TableSet) {made : List VersionCall} {list : List TableSet} → versions.Legal opening made list → list ≡ opening ∷ flat_map tables_in made
list_is opening (versions.start v) = refl
list_is opening (versions.next {calls = made} {old = old} {new = new} it before step) =
    by it step ∙ ap (λ z. z ++ tables_in it) (list_is opening before)
    ∙ ap (λ z. opening ∷ z) (sym (flat_map-append tables_in made (it ∷ []) ∙ ap (λ more. flat_map tables_in made ++ more) (append-nil (tables_in it))))
  where
    by : (it : VersionCall) → versions.Steps opening old it new → new ≡ old ++ tables_in it
    by (call.Publish told n) s = s.appended
    by (call.Pin n told) s = s.same ∙ sym (append-nil old)
    by call.Refused s = s ∙ sym (append-nil old)

-- the call takes what the others left
pub record IsCall (opening : TableSet) (xs : List VersionCall) (c : VersionCall) : Type 0 where
  pub new : List TableSet
  pub step : versions.Steps opening (opening ∷ flat_map tables_in xs) c new

version_by : (opening : TableSet) (made xs ys : List VersionCall) (it c : VersionCall) (old new : List TableSet) → versions.Legal opening made old → versions.Steps opening old it new →
    ((zs : List VersionCall) → made ≡ xs ++ c ∷ zs → IsCall opening xs c) → made ++ it ∷ [] ≡ xs ++ c ∷ ys → (ys ≡ []) ⊎ ((zs : List VersionCall) × (z : VersionCall) × (ys ≡ zs ++ z ∷ [])) → IsCall opening xs c
version_by opening made xs ys it c old new before step behind e (inl none) =
    let same = same_from_push made xs it c (e ∙ ap (λ z. xs ++ c ∷ z) none) in
    let left : old ≡ opening ∷ flat_map tables_in xs = list_is opening before ∙ ap (λ z. opening ∷ flat_map tables_in z) same.0 in
    record { new = new; step = subst (λ z. versions.Steps opening z c new) left (subst (λ z. versions.Steps opening old z new) same.1 step) }
version_by opening made xs ys it c old new before step behind e (inr (zs, z, are)) =
    behind zs (same_from_push made (xs ++ c ∷ zs) it z (e ∙ ap (λ z. xs ++ c ∷ z) are ∙ sym (append_assoc xs (c ∷ zs) (z ∷ [])))).0

pub version_call : (opening : TableSet) {all : List VersionCall} {list : List TableSet} → versions.Legal opening all list → (xs ys : List VersionCall) (c : VersionCall) → all ≡ xs ++ c ∷ ys → IsCall opening xs c
version_call opening (versions.start v) xs ys c e = absurd (never xs c ys e)
version_call opening (versions.next {calls = made} {old = old} {new = new} it before step) xs ys c e =
    version_by opening made xs ys it c old new before step (λ zs e. version_call opening before xs zs c e) e (last_of ys)
