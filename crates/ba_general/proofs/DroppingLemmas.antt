-- What is dropped of a run, half by half.
use Rattle.std.proofs.Common.{◌≡◌, ℕ, zero, suc, ◌+◌, ◌-◌, ◌<◌, ◌≤◌, Bool, true, false, List, [], ◌∷◌, ◌++◌, length, get_or, take, drop, set, replicate, refl, sym, ap, ap₂, ◌∙◌, subst, append_assoc, append-nil, arith}
use Rattle.std.proofs.lemmas.List.{drop-drop, get_or-append-add, get_or_append_left, take-take, drop_at, drop_more, length-append, length-drop, length-replicate, length-take-le, replicate_more, set_at, take-append-drop, take_all, take_at}
use Rattle.ba_kernel.proofs.ZipLemmas.{taken}
use Rattle.ba_model.specs.declared.query.Atom.{Atom}
use Rattle.ba_general.specs.Dropping.{AllKept, Drops, DropsRun, atom_if, between, kept_atoms}

-- ---- the laws of runs

-- a run's second half first, then its first half
pub halves : (P : List Atom → Type 0) (before first second after left right : List Atom) → Drops P (before ++ first) second after right →
    Drops P before first (right ++ after) left → Drops P before (first ++ second) after (left ++ right)
halves P before first [] after left [] (Drops.done) k =
    subst (λ xs. Drops P before xs after (left ++ [])) (sym (append-nil first)) (subst (Drops P before first after) (sym (append-nil left)) k)
halves P before first second after left right (Drops.drops {atoms = atoms} atom p d) k =
    subst (λ xs. Drops P before xs after (left ++ right)) (append_assoc first atoms (atom ∷ []))
    (Drops.drops atom (subst (λ xs. P (xs ++ after)) (append_assoc before first atoms) p) (halves P before first atoms after left right d k))
halves P before first second after left right (Drops.stays {atoms = atoms} {left = others} atom np d) k =
    subst (λ xs. Drops P before xs after (left ++ (others ++ atom ∷ []))) (append_assoc first atoms (atom ∷ []))
    (subst (Drops P before (first ++ atoms ++ atom ∷ []) after) (append_assoc left others (atom ∷ []))
    (Drops.stays atom (λ p. np (subst (λ xs. P (xs ++ after)) (sym (append_assoc before first atoms)) p))
    (halves P before first atoms (atom ∷ after) left others d (subst (λ xs. Drops P before first xs left) (append_assoc others (atom ∷ []) after) k))))

-- ---- the atoms that are kept

pub kept_append : (xs ys : List Atom) (ks ls : List Bool) → length xs ≡ length ks → kept_atoms (xs ++ ys) (ks ++ ls) ≡ kept_atoms xs ks ++ kept_atoms ys ls
kept_append [] ys [] ls e = refl
kept_append [] ys (k ∷ ks) ls e = absurd (omega arith)
kept_append (x ∷ xs) ys [] ls e = absurd (omega arith)
kept_append (x ∷ xs) ys (k ∷ ks) ls e =
    let less : length xs ≡ length ks = omega arith in
    ap (λ zs. atom_if x k ++ zs) (kept_append xs ys ks ls less) ∙ sym (append_assoc (atom_if x k) (kept_atoms xs ks) (kept_atoms ys ls))

pub kept_none : (xs : List Atom) (n : ℕ) → kept_atoms xs (replicate n false) ≡ []
kept_none [] n = refl
kept_none (x ∷ xs) zero = refl
kept_none (x ∷ xs) (suc n) = kept_none xs n

pub kept_all : (xs : List Atom) (ks : List Bool) → length xs ≡ length ks → AllKept ks → kept_atoms xs ks ≡ xs
kept_all [] ks e all = refl
kept_all (x ∷ xs) [] e all = absurd (omega arith)
kept_all (x ∷ xs) (k ∷ ks) e all =
    let less : length xs ≡ length ks = omega arith in
    let here : k ≡ true = all 0 k (omega arith) in
    ap (λ b. atom_if x b ++ kept_atoms xs ks) here ∙ ap (λ zs. x ∷ zs) (kept_all xs ks less (λ i d below. all (suc i) d (omega arith)))

-- one atom further
pub kept_more : (xs : List Atom) (ks : List Bool) (n : ℕ) (x : Atom) (k : Bool) → length ks ≡ length xs → n < length xs → x ≡ get_or xs n x → k ≡ get_or ks n k →
    kept_atoms (take (n + 1) xs) (take (n + 1) ks) ≡ kept_atoms (take n xs) (take n ks) ++ atom_if x k
kept_more xs ks n x k e below at_x at_k =
    let below_ks : n < length ks = omega arith in
    let wide : length (take n xs) ≡ n = length-take-le n xs (omega arith) in
    let wide_ks : length (take n ks) ≡ n = length-take-le n ks (omega arith) in
    ap₂ kept_atoms (taken xs n x below at_x) (taken ks n k below_ks at_k) ∙
    (kept_append (take n xs) (x ∷ []) (take n ks) (k ∷ []) (wide ∙ sym wide_ks) ∙
    ap (λ zs. kept_atoms (take n xs) (take n ks) ++ zs) (append-nil (atom_if x k)))

pub kept_whole : (xs : List Atom) (ks : List Bool) (n : ℕ) → length ks ≡ length xs → length xs ≤ n → kept_atoms (take n xs) (take n ks) ≡ kept_atoms xs ks
kept_whole xs ks n e whole = ap₂ kept_atoms (take_all n xs whole) (take_all n ks (omega arith))

-- ---- flags that are set one by one

pub set_more : (old mid new : List Bool) (first n : ℕ) (k : Bool) → first ≤ n → n < length old → mid ≡ take first old ++ replicate (n - first) k ++ drop n old →
    new ≡ set mid n k → new ≡ take first old ++ replicate ((n + 1) - first) k ++ drop (n + 1) old
set_more old mid new first n k from below before e =
    let front : List Bool = take first old ++ replicate (n - first) k in
    let wide_first : length (take first old) ≡ first = length-take-le first old (omega arith) in
    let wide : length (take first old ++ replicate (n - first) k) ≡ n =
    omega (arith, length-append (take first old) (replicate (n - first) k), length-replicate (n - first) k) in
    let count : (n - first) + 1 ≡ (n + 1) - first = omega arith in
    e ∙ (ap (λ xs. set xs n k) (before ∙ ap (λ xs. take first old ++ replicate (n - first) k ++ xs) (drop_more old n k below)) ∙
    (set_at (take first old ++ replicate (n - first) k) (get_or old n k) (drop (n + 1) old) k n wide ∙
    (sym (append_assoc (take first old ++ replicate (n - first) k) (k ∷ []) (drop (n + 1) old)) ∙
    ap (λ xs. xs ++ drop (n + 1) old)
    (append_assoc (take first old) (replicate (n - first) k) (k ∷ []) ∙
    ap (λ xs. take first old ++ xs) (replicate_more (n - first) k ∙ ap (λ m. replicate m k) count)))))

-- before the first nothing is set
pub set_none : (old : List Bool) (first : ℕ) (k : Bool) → old ≡ take first old ++ replicate (first - first) k ++ drop first old
set_none old first k =
    let none : 0 ≡ first - first = omega arith in
    sym (take-append-drop first old) ∙
    ap (λ xs. xs ++ drop first old) (sym (append-nil (take first old)) ∙ ap (λ m. take first old ++ replicate m k) none)

-- ---- parts of lists

module _ {X : Type 0} where
  take_two : (xs : List X) (n m : ℕ) → take n xs ++ take m (drop n xs) ≡ take (n + m) xs
  take_two xs zero m = ap (λ k. take k xs) (let e : m ≡ 0 + m = omega arith in e)
  take_two [] (suc n) zero = ap (λ k. take k []) (let e : suc n ≡ suc n + 0 = omega arith in e)
  take_two [] (suc n) (suc m) = ap (λ k. take k []) (let e : suc (n + suc m) ≡ suc n + suc m = omega arith in e)
  take_two (x ∷ xs) (suc n) m = ap (λ ys. x ∷ ys) (take_two xs n m) ∙ ap (λ k. take k (x ∷ xs)) (let e : suc (n + m) ≡ suc n + m = omega arith in e)

  pub between_two : (xs : List X) (a b c : ℕ) → a ≤ b → b ≤ c → c ≤ length xs → between a c xs ≡ between a b xs ++ between b c xs
  between_two xs a b c ab bc cl =
      let rest : drop b xs ≡ drop (b - a) (drop a xs) = sym (drop-drop (b - a) a xs ∙ ap (λ n. drop n xs) (let e : a + (b - a) ≡ b = omega arith in e)) in
      sym (ap (λ ys. take (b - a) (drop a xs) ++ take (c - b) ys) rest ∙ take_two (drop a xs) (b - a) (c - b) ∙ ap (λ n. take n (drop a xs)) (let e : (b - a) + (c - b) ≡ c - a = omega arith in e))

  pub take_parts : (xs : List X) (a b : ℕ) → a ≤ b → take b xs ≡ take a xs ++ between a b xs
  take_parts xs a b ab = sym (take_two xs a (b - a) ∙ ap (λ n. take n xs) (let e : a + (b - a) ≡ b = omega arith in e))

  drop_parts : (xs : List X) (a b : ℕ) → a ≤ b → drop a xs ≡ between a b xs ++ drop b xs
  drop_parts xs a b ab =
      sym (take-append-drop (b - a) (drop a xs)) ∙
      ap (λ ys. between a b xs ++ ys) (drop-drop (b - a) a xs ∙ ap (λ n. drop n xs) (let e : a + (b - a) ≡ b = omega arith in e))

  pub split_three : (xs : List X) (a c : ℕ) → a ≤ c → c ≤ length xs → xs ≡ take a xs ++ between a c xs ++ drop c xs
  split_three xs a c ac cl =
      let rest : drop (c - a) (drop a xs) ≡ drop c xs = drop-drop (c - a) a xs ∙ ap (λ n. drop n xs) (let e : a + (c - a) ≡ c = omega arith in e) in
      sym (take-append-drop a xs) ∙
      (ap (λ ys. take a xs ++ ys) (sym (take-append-drop (c - a) (drop a xs)) ∙ ap (λ ys. take (c - a) (drop a xs) ++ ys) rest) ∙
      sym (append_assoc (take a xs) (take (c - a) (drop a xs)) (drop c xs)))

  take_one : (xs : List X) (x : X) (n : ℕ) → length xs ≡ n → (ys : List X) → take n (xs ++ ys) ≡ xs
  take_one xs x n e ys = take_at xs ys n e

  -- the parts of three lists that stand behind one another
  pub first_part : (us ms vs : List X) (a : ℕ) → length us ≡ a → take a (us ++ ms ++ vs) ≡ us
  first_part us ms vs a e = ap (take a) (append_assoc us ms vs) ∙ take_at us (ms ++ vs) a e

  pub middle_part : (us ms vs : List X) (a c : ℕ) → length us ≡ a → length ms ≡ c - a → between a c (us ++ ms ++ vs) ≡ ms
  middle_part us ms vs a c e k =
      ap (λ xs. take (c - a) (drop a xs)) (append_assoc us ms vs) ∙ (ap (take (c - a)) (drop_at us (ms ++ vs) a e) ∙ take_at ms vs (c - a) k)

  pub last_part : (us ms vs : List X) (a c : ℕ) → length us ≡ a → length ms ≡ c - a → a ≤ c → drop c (us ++ ms ++ vs) ≡ vs
  last_part us ms vs a c e k ac = drop_at (us ++ ms) vs c (omega (arith, length-append us ms))

-- ---- a run

module _ (atoms : List Atom) (old : List Bool) (first end : ℕ) (from : first ≤ end) (there : end ≤ length atoms) (flags : length old ≡ length atoms) where
  abbrev before : List Atom
  before = kept_atoms (take first atoms) (take first old)

  abbrev behind : List Atom
  behind = kept_atoms (drop end atoms) (drop end old)

  abbrev with_flags : List Bool → List Bool
  with_flags ks = take first old ++ ks ++ drop end old

  wide_atoms : length (take first atoms) ≡ first
  wide_atoms = length-take-le first atoms (omega arith)

  wide_old : length (take first old) ≡ first
  wide_old = length-take-le first old (omega arith)

  wide_run : length (between first end atoms) ≡ end - first
  wide_run = length-take-le (end - first) (drop first atoms) (omega (arith, length-drop first atoms))

  -- the atoms that are kept with such flags in the run
  pub kept_with : (ks : List Bool) → length ks ≡ end - first → kept_atoms atoms (with_flags ks) ≡ before ++ kept_atoms (between first end atoms) ks ++ behind
  kept_with ks wide =
      ap (λ xs. kept_atoms xs (with_flags ks)) (split_three atoms first end from there) ∙
      (kept_append (take first atoms ++ between first end atoms) (drop end atoms) (take first old ++ ks) (drop end old)
      (length-append (take first atoms) (between first end atoms) ∙
      (ap₂ (λ n m. n + m) (wide_atoms ∙ sym wide_old) (wide_run ∙ sym wide) ∙ sym (length-append (take first old) ks))) ∙
      ap (λ xs. xs ++ behind) (kept_append (take first atoms) (between first end atoms) (take first old) ks (wide_atoms ∙ sym wide_old)))

  pub kept_without : (new : List Bool) → new ≡ with_flags (replicate (end - first) false) → kept_atoms atoms new ≡ before ++ behind
  kept_without new e =
      ap (kept_atoms atoms) e ∙ (kept_with (replicate (end - first) false) (length-replicate (end - first) false) ∙
      ap (λ xs. xs ++ behind) (ap (λ xs. before ++ xs) (kept_none (between first end atoms) (end - first)) ∙ append-nil before))

  -- a run with these flags
  pub run_with : (P : List Atom → Type 0) (new ks : List Bool) → new ≡ with_flags ks → length ks ≡ end - first →
      Drops P before (between first end atoms) behind (kept_atoms (between first end atoms) ks) → DropsRun P atoms old new first end
  run_with P new ks e wide d =
      record {
        before = ap (take first) e ∙ first_part (take first old) ks (drop end old) first wide_old;
        after = ap (drop end) e ∙ last_part (take first old) ks (drop end old) first end wide_old wide from;
        run =
            subst (λ ls. Drops P before (between first end atoms) behind (kept_atoms (between first end atoms) ls))
            (sym (ap (between first end) e ∙ middle_part (take first old) ks (drop end old) first end wide_old wide)) d;
      }

  pub all_dropped : (P : List Atom → Type 0) (new : List Bool) → new ≡ with_flags (replicate (end - first) false) →
      Drops P before (between first end atoms) behind [] → DropsRun P atoms old new first end
  all_dropped P new e d =
      run_with P new (replicate (end - first) false) e (length-replicate (end - first) false)
      (subst (Drops P before (between first end atoms) behind) (sym (kept_none (between first end atoms) (end - first))) d)

all_true : (ks : List Bool) → AllKept ks → ks ≡ replicate (length ks) true
all_true [] all = refl
all_true (k ∷ ks) all = ap₂ (λ b bs. b ∷ bs) (all 0 k (omega arith)) (all_true ks (λ i d below. all (suc i) d (omega arith)))

-- flags that are set back to what all were
pub set_back : (old dropped new : List Bool) (first end : ℕ) → first ≤ end → end ≤ length old → AllKept (between first end old) →
    dropped ≡ take first old ++ replicate (end - first) false ++ drop end old → new ≡ take first dropped ++ replicate (end - first) true ++ drop end dropped → new ≡ old
set_back old dropped new first end from there all d e =
    let wide_old : length (take first old) ≡ first = length-take-le first old (omega arith) in
    let wide : length (replicate (end - first) false) ≡ end - first = length-replicate (end - first) false in
    let front : take first dropped ≡ take first old = ap (take first) d ∙ first_part (take first old) (replicate (end - first) false) (drop end old) first wide_old in
    let back : drop end dropped ≡ drop end old =
    ap (drop end) d ∙ last_part (take first old) (replicate (end - first) false) (drop end old) first end wide_old wide from in
    let run_wide : length (between first end old) ≡ end - first = length-take-le (end - first) (drop first old) (omega (arith, length-drop first old)) in
    let run : replicate (end - first) true ≡ between first end old = sym (all_true (between first end old) all ∙ ap (λ n. replicate n true) run_wide) in
    e ∙ (ap₂ (λ us vs. us ++ replicate (end - first) true ++ vs) front back ∙
    (ap (λ ms. take first old ++ ms ++ drop end old) run ∙ sym (split_three old first end from there)))

pub all_left : (xs ys : List Bool) → AllKept (xs ++ ys) → AllKept xs
all_left xs ys all i d below =
    subst (λ k. k ≡ true) (get_or_append_left xs ys d i below) (all i d (omega (arith, length-append xs ys)))

pub all_right : (xs ys : List Bool) → AllKept (xs ++ ys) → AllKept ys
all_right xs ys all i d below =
    subst (λ k. k ≡ true) (get_or-append-add xs ys i d) (all (length xs + i) d (omega (arith, length-append xs ys)))

one_run : (P : List Atom → Type 0) (before behind run left : List Atom) → length run ≡ 1 → left ≡ run → ¬ (P (before ++ behind)) → Drops P before run behind left
one_run P before behind [] left one same none = absurd (omega arith)
one_run P before behind (x ∷ []) left one same none =
    subst (Drops P before (x ∷ []) behind) (sym same)
    (Drops.stays {atoms = []} {left = []} x (λ p. none (subst (λ xs. P (xs ++ behind)) (append-nil before) p)) Drops.done)
one_run P before behind (x ∷ y ∷ run) left one same none = absurd (omega arith)

-- a run of one atom that can't be dropped
pub one_stays : (P : List Atom → Type 0) (atoms : List Atom) (old new : List Bool) (first end : ℕ) → end - first ≡ 1 → end ≤ length atoms →
    length old ≡ length atoms → AllKept (between first end old) → new ≡ old →
    ¬ (P (kept_atoms (take first atoms) (take first old) ++ kept_atoms (drop end atoms) (drop end old))) → DropsRun P atoms old new first end
one_stays P atoms old new first end one there flags all same none =
    let below : first < length atoms = omega arith in
    let low : first < length old = omega arith in
    let before : List Atom = kept_atoms (take first atoms) (take first old) in
    let behind : List Atom = kept_atoms (drop end atoms) (drop end old) in
    record {
      before = ap (take first) same;
      after = ap (drop end) same;
      run =
          one_run P before behind (between first end atoms) (kept_atoms (between first end atoms) (between first end new))
          (length-take-le (end - first) (drop first atoms) (omega (arith, length-drop first atoms)) ∙ one)
          (ap (λ ks. kept_atoms (between first end atoms) (between first end ks)) same ∙
          kept_all (between first end atoms) (between first end old)
          (length-take-le (end - first) (drop first atoms) (omega (arith, length-drop first atoms)) ∙
          sym (length-take-le (end - first) (drop first old) (omega (arith, length-drop first old)))) all)
          none;
    }

-- the two halves of a run, the second first
pub halves_run : (P : List Atom → Type 0) (atoms : List Atom) (old mid new : List Bool) (first middle end : ℕ) → first ≤ middle → middle ≤ end → end ≤ length atoms →
    length old ≡ length atoms → length mid ≡ length atoms → length new ≡ length atoms → AllKept (between first end old) → DropsRun P atoms old mid middle end →
    DropsRun P atoms mid new first middle → DropsRun P atoms old new first end
halves_run P atoms old mid new first middle end fm me there flags flags_mid flags_new all second front =
    let before : List Atom = kept_atoms (take first atoms) (take first old) in
    let behind : List Atom = kept_atoms (drop end atoms) (drop end old) in
    let left : List Atom = kept_atoms (between first middle atoms) (between first middle new) in
    let right : List Atom = kept_atoms (between middle end atoms) (between middle end mid) in
    let wide_first : length (take first atoms) ≡ length (take first old) = length-take-le first atoms (omega arith) ∙ sym (length-take-le first old (omega arith)) in
    let wide_front : length (between first middle atoms) ≡ length (between first middle old) =
    length-take-le (middle - first) (drop first atoms) (omega (arith, length-drop first atoms)) ∙
    sym (length-take-le (middle - first) (drop first old) (omega (arith, length-drop first old))) in
    let wide_front_new : length (between first middle atoms) ≡ length (between first middle new) =
    length-take-le (middle - first) (drop first atoms) (omega (arith, length-drop first atoms)) ∙
    sym (length-take-le (middle - first) (drop first new) (omega (arith, length-drop first new))) in
    let wide_second : length (between middle end atoms) ≡ length (between middle end mid) =
    length-take-le (end - middle) (drop middle atoms) (omega (arith, length-drop middle atoms)) ∙
    sym (length-take-le (end - middle) (drop middle mid) (omega (arith, length-drop middle mid))) in
    let kept_front : kept_atoms (take middle atoms) (take middle old) ≡ before ++ between first middle atoms =
    ap₂ kept_atoms (take_parts atoms first middle fm) (take_parts old first middle fm) ∙
    (kept_append (take first atoms) (between first middle atoms) (take first old) (between first middle old) wide_first ∙
    ap (λ xs. before ++ xs) (kept_all (between first middle atoms) (between first middle old) wide_front
    (all_left (between first middle old) (between middle end old) (subst AllKept (between_two old first middle end fm me (omega arith)) all)))) in
    let same_first : take first mid ≡ take first old =
    sym (take-take first middle mid fm) ∙ (ap (take first) second.before ∙ take-take first middle old fm) in
    let kept_back : kept_atoms (drop middle atoms) (drop middle mid) ≡ right ++ behind =
    ap₂ kept_atoms (drop_parts atoms middle end me) (drop_parts mid middle end me) ∙
    (kept_append (between middle end atoms) (drop end atoms) (between middle end mid) (drop end mid) wide_second ∙
    ap (λ ks. right ++ kept_atoms (drop end atoms) ks) second.after) in
    let both : Drops P before (between first middle atoms ++ between middle end atoms) behind (left ++ right) =
    halves P before (between first middle atoms) (between middle end atoms) behind left right
    (subst (λ xs. Drops P xs (between middle end atoms) behind right) kept_front second.run)
    (subst (λ xs. Drops P before (between first middle atoms) xs left) kept_back
    (subst (λ ks. Drops P (kept_atoms (take first atoms) ks) (between first middle atoms) (kept_atoms (drop middle atoms) (drop middle mid)) left) same_first front.run)) in
    let same_second : between middle end new ≡ between middle end mid = ap (take (end - middle)) front.after in
    let left_is : left ++ right ≡ kept_atoms (between first end atoms) (between first end new) =
    sym
    (ap₂ kept_atoms (between_two atoms first middle end fm me there) (between_two new first middle end fm me (omega arith)) ∙
    (kept_append (between first middle atoms) (between middle end atoms) (between first middle new) (between middle end new) wide_front_new ∙
    ap (λ ks. left ++ kept_atoms (between middle end atoms) ks) same_second)) in
    record {
      before = front.before ∙ same_first;
      after =
          ap (λ n. drop n new) (let e : end ≡ middle + (end - middle) = omega arith in e) ∙
          (sym (drop-drop (end - middle) middle new) ∙
          (ap (drop (end - middle)) front.after ∙
          (drop-drop (end - middle) middle mid ∙
          (ap (λ n. drop n mid) (let e : middle + (end - middle) ≡ end = omega arith in e) ∙ second.after))));
      run =
          subst (λ xs. Drops P before xs behind (kept_atoms (between first end atoms) (between first end new))) (sym (between_two atoms first middle end fm me there))
          (subst (Drops P before (between first middle atoms ++ between middle end atoms) behind) left_is both);
    }
