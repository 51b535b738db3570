-- Passes at their places: what they know where one is added or changed.
use Rattle.std.proofs.Common.{◌≡◌, ◌≢◌, ◌∙◌, ℕ, ◌+◌, ◌%◌, ◌<◌, ◌≤◌, List, [], ◌∷◌, ◌++◌, length, map, drop, get_or, set, get_or-set_same, get_or-set_other, refl, ap, subst, sym, arith}
use mathlib.Core.Logic.{dite}
use native.Mathlib.Decide.{ℕ_discrete}
use Rattle.std.proofs.lemmas.List.{drop-drop, get_or-drop, get_or-map, get_or_append_left, get_or_push, get_or_read, length-map, map-set, map_push}
use Rattle.ba_turn.specs.Knowing.{spent_known}
use Rattle.ba_turn.specs.History.{entry_of}
use Rattle.ba_turn.specs.Passes.{IsFree, MakesCall, known_by}
use Rattle.ba_cache.specs.declared.call.ShelfCall.{ShelfCall}
use Rattle.ba_cache.specs.Passes.{CallsIn, IsLegal, ShelfKnown, ShelfPass, ShelfTurn, known_in}

-- ---- what is left of a list

-- its first is the element there
pub first_left : {A : Type 0} (l : List A) (n : ℕ) (x : A) (rest : List A) → drop n l ≡ x ∷ rest → x ≡ get_or l n x
first_left {A} l n x rest is =
    let none : n + 0 ≡ n = omega arith in
    sym (ap (λ (r : List A). get_or r 0 x) is) ∙ get_or-drop n l 0 x ∙ ap (λ (k : ℕ). get_or l k x) none

pub more_left : {A : Type 0} (l : List A) (n : ℕ) (x : A) (rest : List A) → drop n l ≡ x ∷ rest → rest ≡ drop (n + 1) l
more_left {A} l n x rest is = sym (ap (drop 1) is) ∙ drop-drop 1 n l

-- ---- one value more

pub values_on : {A : Type 0} (P : ℕ → A → Type 0) (n : ℕ) (l l' : List A) (a : A) → ((k : ℕ) (d : A) → k < n → P k (get_or l k d)) → length l ≡ n → l' ≡ l ++ a ∷ [] → P n a → (k : ℕ) (d : A) → k < n + 1 → P k (get_or l' k d)
values_on {A} P n l l' a all len more here k d low =
    let read = ap (λ (r : List A). get_or r k d) more in
    dite (ℕ_discrete k n)
    (λ e. subst (P k) (sym (read ∙ get_or_push l a d k (len ∙ sym e))) (subst (λ (j : ℕ). P j a) (sym e) here))
    (λ ne. subst (P k) (sym (read ∙ get_or_append_left l (a ∷ []) d k (omega arith))) (all k d (omega arith)))

-- ---- what passes know

length_known : (ps : List ShelfPass) → length (map known_by ps) ≡ length ps
length_known ps = length-map ps known_by

-- one that is read at its place
pub known_read : (ps : List ShelfPass) (i : ℕ) (p : ShelfPass) → i < length ps → p ≡ get_or ps i p → known_by p ≡ known_in ps i
known_read ps i p below is = ap known_by is ∙ sym (get_or-map known_by ps i p spent_known below)

-- one that is read where nothing has changed yet
pub rest_read : (ps qs : List ShelfPass) (i : ℕ) (p : ShelfPass) → ((k : ℕ) → i ≤ k → known_in qs k ≡ known_in ps k) → i < length qs → p ≡ get_or qs i p → known_by p ≡ known_in ps i
rest_read ps qs i p same below is = known_read qs i p below is ∙ same i (omega arith)

known_set_same : (ps : List ShelfPass) (i : ℕ) (p : ShelfPass) → i < length ps → known_in (set ps i p) i ≡ known_by p
known_set_same ps i p below = ap (λ (l : List ShelfKnown). get_or l i spent_known) (map-set known_by ps i p) ∙ get_or-set_same (map known_by ps) i (known_by p) spent_known (omega (arith, length_known ps))

pub known_set_other : (ps : List ShelfPass) (i k : ℕ) (p : ShelfPass) → k ≢ i → known_in (set ps i p) k ≡ known_in ps k
known_set_other ps i k p other = ap (λ (l : List ShelfKnown). get_or l k spent_known) (map-set known_by ps i p) ∙ get_or-set_other (map known_by ps) i k (known_by p) spent_known other

-- what is so of the one that changed, is so of all up to it
pub set_on : (P : ℕ → ShelfKnown → Type 0) (n : ℕ) (ps : List ShelfPass) (p : ShelfPass) → ((k : ℕ) → k < n → P k (known_in ps k)) → n < length ps → P n (known_by p) → (k : ℕ) → k < n + 1 → P k (known_in (set ps n p) k)
set_on P n ps p all below here k low = dite (ℕ_discrete k n)
    (λ e. subst (λ (j : ℕ). P j (known_in (set ps n p) j)) (sym e) (subst (P n) (sym (known_set_same ps n p below)) here))
    (λ ne. subst (P k) (sym (known_set_other ps n k p ne)) (all k (omega arith)))

-- what is so of the one that was added, is so of all
pub push_on : (P : ℕ → ShelfKnown → Type 0) (n : ℕ) (ps ps' : List ShelfPass) (p : ShelfPass) → ((k : ℕ) → k < n → P k (known_in ps k)) → length ps ≡ n → ps' ≡ ps ++ p ∷ [] → P n (known_by p) → (k : ℕ) → k < n + 1 → P k (known_in ps' k)
push_on P n ps ps' p all len more here k low =
    let read = ap (λ (l : List ShelfPass). known_in l k) more ∙ ap (λ (l : List ShelfKnown). get_or l k spent_known) (map_push known_by ps p) in
    dite (ℕ_discrete k n)
    (λ e. let last = read ∙ get_or_push (map known_by ps) (known_by p) spent_known k (length_known ps ∙ len ∙ sym e) in
    subst (P k) (sym last) (subst (λ (j : ℕ). P j (known_by p)) (sym e) here))
    (λ ne. let early = read ∙ get_or_append_left (map known_by ps) (known_by p ∷ []) spent_known k (omega (arith, length_known ps)) in
    subst (P k) (sym early) (all k (omega arith)))

-- the same of two lists, where one changes in the first and one is added to the second
pub set_and_push_on : (R : ℕ → ShelfKnown → ShelfKnown → Type 0) (n : ℕ) (qs rs rs' : List ShelfPass) (q r : ShelfPass) → ((k : ℕ) → k < n → R k (known_in qs k) (known_in rs k)) → n < length qs → length rs ≡ n → rs' ≡ rs ++ r ∷ [] → R n (known_by q) (known_by r) → (k : ℕ) → k < n + 1 → R k (known_in (set qs n q) k) (known_in rs' k)
set_and_push_on R n qs rs rs' q r all below len more here = push_on (λ k v. R k (known_in (set qs n q) k) v) n rs rs' r
    (λ k low. subst (λ (v : ShelfKnown). R k v (known_in rs k)) (sym (known_set_other qs n k q (λ e. omega arith))) (all k low))
    len more (subst (λ (v : ShelfKnown). R n v (known_by r)) (sym (known_set_same qs n q below)) here)

-- those behind the one that changed are as before
pub rest_on : (n : ℕ) (ps qs : List ShelfPass) (p : ShelfPass) → ((k : ℕ) → n ≤ k → known_in qs k ≡ known_in ps k) → (k : ℕ) → n + 1 ≤ k → known_in (set qs n p) k ≡ known_in ps k
rest_on n ps qs p same k low = known_set_other qs n k p (λ e. omega arith) ∙ same k (omega arith)

-- one of them made a call
pub calls_at : (ps : List ShelfPass) (i k : ℕ) (p q : ShelfPass) (e : ShelfCall) → i ≡ k → i < length ps → p ≡ get_or ps i p → MakesCall (known_by p) (known_by q) e → IsLegal (map entry_of (known_by q).seen) → CallsIn k ps (set ps i q) e
calls_at ps i k p q e same below read made legal =
    let old = known_read ps i p below read in
    let new = known_set_same ps i q below in
    subst (λ (j : ℕ). CallsIn j ps (set ps i q) e) same (record {
      made = subst (λ (z : ShelfKnown × ShelfKnown). MakesCall z.0 z.1 e) (λ j. (old j, sym new j)) made;
      legal = subst (λ (v : ShelfKnown). IsLegal (map entry_of v.seen)) (sym new) legal;
      others = λ j other. known_set_other ps i j q other;
    })

-- ---- passes of their turns

-- the first n passes are of the turns at their places, and hold no ticket
abbrev pub FirstFree : ℕ → List ShelfTurn → List ShelfPass → Type 0
FirstFree n ts ps = (k : ℕ) (t : ShelfTurn) (d : ShelfPass) → k < n → IsFree (get_or ts k t) (get_or ps k d)

is_free : (t t' : ShelfTurn) (p p' : ShelfPass) → t ≡ t' → p ≡ p' → IsFree t p → IsFree t' p'
is_free t t' p p' t_is p_is free = subst (λ (z : ShelfTurn × ShelfPass). IsFree z.0 z.1) (λ j. (t_is j, p_is j)) free

-- one that is read at its place
pub free_read : (n : ℕ) (ts : List ShelfTurn) (ps : List ShelfPass) (i : ℕ) (t : ShelfTurn) (p : ShelfPass) → FirstFree n ts ps → i < n → t ≡ get_or ts i t → p ≡ get_or ps i p → IsFree t p
free_read n ts ps i t p all below t_is p_is = is_free (get_or ts i t) t (get_or ps i p) p (sym t_is) (sym p_is) (all i t p below)

-- one pass more, on its turn
pub free_push : (n : ℕ) (ts : List ShelfTurn) (ps ps' : List ShelfPass) (t : ShelfTurn) (p : ShelfPass) → FirstFree n ts ps → length ps ≡ n → n < length ts → ps' ≡ ps ++ p ∷ [] → t ≡ get_or ts n t → IsFree t p → FirstFree (n + 1) ts ps'
free_push n ts ps ps' t1 p1 all len below more t_is here k t d low =
    let read = ap (λ (l : List ShelfPass). get_or l k d) more in
    dite (ℕ_discrete k n)
    (λ e. is_free t1 (get_or ts k t) p1 (get_or ps' k d) (get_or_read ts n t1 below t_is t ∙ ap (λ (j : ℕ). get_or ts j t) (sym e)) (sym (read ∙ get_or_push ps p1 d k (len ∙ sym e))) here)
    (λ ne. is_free (get_or ts k t) (get_or ts k t) (get_or ps k d) (get_or ps' k d) refl (sym (read ∙ get_or_append_left ps (p1 ∷ []) d k (omega arith))) (all k t d (omega arith)))

-- one pass and its turn more
pub free_push_both : (n : ℕ) (ts ts' : List ShelfTurn) (ps ps' : List ShelfPass) (t : ShelfTurn) (p : ShelfPass) → FirstFree n ts ps → length ts ≡ n → length ps ≡ n → ts' ≡ ts ++ t ∷ [] → ps' ≡ ps ++ p ∷ [] → IsFree t p → FirstFree (n + 1) ts' ps'
free_push_both n ts ts' ps ps' t1 p1 all t_len p_len t_more p_more here k t d low =
    let t_read = ap (λ (l : List ShelfTurn). get_or l k t) t_more in
    let p_read = ap (λ (l : List ShelfPass). get_or l k d) p_more in
    dite (ℕ_discrete k n)
    (λ e. is_free t1 (get_or ts' k t) p1 (get_or ps' k d) (sym (t_read ∙ get_or_push ts t1 t k (t_len ∙ sym e))) (sym (p_read ∙ get_or_push ps p1 d k (p_len ∙ sym e))) here)
    (λ ne. is_free (get_or ts k t) (get_or ts' k t) (get_or ps k d) (get_or ps' k d) (sym (t_read ∙ get_or_append_left ts (t1 ∷ []) t k (omega arith))) (sym (p_read ∙ get_or_append_left ps (p1 ∷ []) d k (omega arith))) (all k t d (omega arith)))

-- one pass changes, and is as free as before
pub free_set : (n : ℕ) (ts : List ShelfTurn) (ps : List ShelfPass) (i : ℕ) (t : ShelfTurn) (p : ShelfPass) → FirstFree n ts ps → i < length ts → i < length ps → t ≡ get_or ts i t → IsFree t p → FirstFree n ts (set ps i p)
free_set n ts ps i t1 p1 all in_t in_p t_is here k t d low = dite (ℕ_discrete k i)
    (λ e. is_free t1 (get_or ts k t) p1 (get_or (set ps i p1) k d) (get_or_read ts i t1 in_t t_is t ∙ ap (λ (j : ℕ). get_or ts j t) (sym e)) (sym (ap (λ (j : ℕ). get_or (set ps i p1) j d) e ∙ get_or-set_same ps i p1 d in_p)) here)
    (λ ne. is_free (get_or ts k t) (get_or ts k t) (get_or ps k d) (get_or (set ps i p1) k d) refl (sym (get_or-set_other ps i k p1 d ne)) (all k t d low))

-- ---- shards

pub below_eight : (n m : ℕ) → n ≡ m % 8 → n < 8
below_eight n m is = omega arith
