-- Names and their numbers.
use Rattle.std.proofs.Common.{◌≡◌, ℕ, zero, suc, ◌+◌, ◌<◌, ◌≤◌, Bool, true, false, ◌||◌, cond, nat_lt, List, [], ◌∷◌, ◌++◌, length, take, map, get_or, slice_get, Option, Some, None, is_some, refl, sym, ap, subst, ◌∙◌, append_assoc, arith}
use Rattle.std.specs.Cmp.Lexicographic.{nat_list_eq_equiv}
use Rattle.std.specs.List.{AllByRecursion, IsDistinct, list_any, position, position_from, position_or_len}
use Rattle.std.proofs.lemmas.Bool.{ltb-true, lt-ltb}
use Rattle.std.proofs.lemmas.Iterator.Adapters.{position_from-zero}
use Rattle.std.proofs.lemmas.List.{append-nil, length-append}
use Rattle.std.proofs.lemmas.List.Sums.{passes_at_first, position_or_len_is}
use Rattle.std.proofs.lemmas.Option.{get_or_from_slice_get, slice_get-get_or, slice_get_within}
use Rattle.std.proofs.lemmas.Slice.Eq.{bytes_eq-Decides}
use Rattle.indexmap.specs.IndexSet.{insert_all, insert_key}
use Rattle.ba_model.proofs.DistinctLemmas.{repeats}
use Rattle.ba_sql_ddl.specs.Laws.{AreNumbersOf}
use Rattle.ba_sql_ddl.specs.Meaning.{key_of}
use Rattle.ba_sql_ddl.specs.Numbers.{capped, key_number, number, once, or_number, place, same_name}

pub name_same : (a b : List ℕ) → same_name a b ≡ true → a ≡ b
name_same a b h = (bytes_eq-Decides a b).0 h

pub same_itself : (a : List ℕ) → same_name a a ≡ true
same_itself a = (bytes_eq-Decides a a).1 refl

-- ---- distinct names are once there

take_length : {A : Type 0} (xs ys : List A) → take (length xs) (xs ++ ys) ≡ xs
take_length [] ys = refl
take_length (x ∷ xs) ys = ap (λ r. x ∷ r) (take_length xs ys)

at_length : {A : Type 0} (xs ys : List A) (y : A) → get_or (xs ++ y ∷ ys) (length xs) y ≡ y
at_length [] ys y = refl
at_length (x ∷ xs) ys y = at_length xs ys y

not_before : (ks : List (List ℕ)) (x : List ℕ) (xs : List (List ℕ)) → IsDistinct same_name (ks ++ x ∷ xs) → list_any (same_name x) ks ≡ true → ⊥
not_before ks x xs h found =
    let lt : length ks < length (ks ++ x ∷ xs) = omega (arith, length-append ks (x ∷ xs)) in
    let front : list_any (same_name x) (take (length ks) (ks ++ x ∷ xs)) ≡ true = rw (take_length ks (x ∷ xs)) found in
    repeats same_name nat_list_eq_equiv.symm (ks ++ x ∷ xs) (length ks) x lt (sym (at_length ks xs x)) front h

once_from : (ks xs : List (List ℕ)) → IsDistinct same_name (ks ++ xs) → insert_all same_name ks xs ≡ ks ++ xs
once_from ks [] h = sym (append-nil ks)
once_from ks (x ∷ xs) h = at (list_any (same_name x) ks) refl (once_from (ks ++ x ∷ []) xs (subst (IsDistinct same_name) (sym (append_assoc ks (x ∷ []) xs)) h))
  where
    at : (t : Bool) → list_any (same_name x) ks ≡ t → insert_all same_name (ks ++ x ∷ []) xs ≡ (ks ++ x ∷ []) ++ xs → insert_all same_name (insert_key same_name ks x) xs ≡ ks ++ x ∷ xs
    at true e more = absurd (not_before ks x xs h e)
    at false e more = rw e (more ∙ append_assoc ks (x ∷ []) xs)

pub once_distinct : (names : List (List ℕ)) → IsDistinct same_name names → once names ≡ names
once_distinct names h = once_from [] names h

-- ---- names that are once there are those that are there

any_put : (p : List ℕ → Bool) (ks : List (List ℕ)) (x : List ℕ) → list_any p (ks ++ x ∷ []) ≡ (list_any p ks || p x)
any_put p [] x = at (p x) refl
  where
    at : (t : Bool) → p x ≡ t → (p x || false) ≡ p x
    at true e = rw e refl
    at false e = rw e refl
any_put p (k ∷ ks) x = at (p k) refl (any_put p ks x)
  where
    at : (t : Bool) → p k ≡ t → list_any p (ks ++ x ∷ []) ≡ (list_any p ks || p x) → (p k || list_any p (ks ++ x ∷ [])) ≡ ((p k || list_any p ks) || p x)
    at true e more = rw e refl
    at false e more = rw e more

any_added : (name : List ℕ) (ks : List (List ℕ)) (x : List ℕ) → list_any (same_name name) (insert_key same_name ks x) ≡ (list_any (same_name name) ks || same_name name x)
any_added name ks x = at (list_any (same_name x) ks) refl
  where
    absorbed : (a b : Bool) → (b ≡ true → a ≡ true) → a ≡ (a || b)
    absorbed true b h = refl
    absorbed false false h = refl
    absorbed false true h = h refl

    there : list_any (same_name x) ks ≡ true → same_name name x ≡ true → list_any (same_name name) ks ≡ true
    there e same = subst (λ (n : List ℕ). list_any (same_name n) ks ≡ true) (sym (name_same name x same)) e

    at : (t : Bool) → list_any (same_name x) ks ≡ t → list_any (same_name name) (insert_key same_name ks x) ≡ (list_any (same_name name) ks || same_name name x)
    at true e = rw e (absorbed (list_any (same_name name) ks) (same_name name x) (there e))
    at false e = rw e (any_put (same_name name) ks x)

or_assoc : (a b c : Bool) → ((a || b) || c) ≡ (a || (b || c))
or_assoc true b c = refl
or_assoc false b c = refl

any_all_added : (name : List ℕ) (ks xs : List (List ℕ)) → list_any (same_name name) (insert_all same_name ks xs) ≡ (list_any (same_name name) ks || list_any (same_name name) xs)
any_all_added name ks [] = nothing (list_any (same_name name) ks)
  where
    nothing : (a : Bool) → a ≡ (a || false)
    nothing true = refl
    nothing false = refl
any_all_added name ks (x ∷ xs) =
    any_all_added name (insert_key same_name ks x) xs ∙ ap (λ (t : Bool). t || list_any (same_name name) xs) (any_added name ks x)
    ∙ or_assoc (list_any (same_name name) ks) (same_name name x) (list_any (same_name name) xs)

pub any_once : (name : List ℕ) (names : List (List ℕ)) → list_any (same_name name) (once names) ≡ list_any (same_name name) names
any_once name names = any_all_added name [] names

-- ---- a position, and what stands there

pub record FoundAt (p : List ℕ → Bool) (names : List (List ℕ)) (n : ℕ) : Type 0 where
  pub within : n < length names
  pub passes : (d : List ℕ) → p (get_or names n d) ≡ true

found_at : (p : List ℕ → Bool) (names : List (List ℕ)) (n : ℕ) → position p names ≡ Some n → FoundAt p names n
found_at p names n e = at (nat_lt (position_or_len p names) (length names)) refl e
  where
    at : (t : Bool) → nat_lt (position_or_len p names) (length names) ≡ t → cond t (Some (position_or_len p names)) None ≡ Some n → FoundAt p names n
    at false h e = cc
    at true h e =
        let same : position_or_len p names ≡ n = cc in
        let lt = ltb-true (position_or_len p names) (length names) h in
        subst (FoundAt p names) same (record { within = lt; passes = λ d. passes_at_first p names d lt })

some_from : (p : List ℕ → Bool) (i : ℕ) (names : List (List ℕ)) → is_some (position_from p i names) ≡ list_any p names
some_from p i [] = refl
some_from p i (x ∷ xs) = at (p x) refl (some_from p (i + 1) xs)
  where
    at : (t : Bool) → p x ≡ t → is_some (position_from p (i + 1) xs) ≡ list_any p xs → is_some (cond (p x) (Some i) (position_from p (i + 1) xs)) ≡ (p x || list_any p xs)
    at true e more = rw e refl
    at false e more = rw e more

pub some_position : (name : List ℕ) (names : List (List ℕ)) → is_some (position (same_name name) names) ≡ list_any (same_name name) names
some_position name names = ap is_some (position_from-zero (same_name name) names) ∙ some_from (same_name name) 0 names

pub distinct_at : (names : List (List ℕ)) (k i : ℕ) (d : List ℕ) → IsDistinct same_name names → k < i → i < length names → same_name (get_or names k d) (get_or names i d) ≡ false
unfolding IsDistinct
distinct_at [] k i d h lt within = absurd (omega (arith, within))
distinct_at (x ∷ xs) zero zero d h lt within = absurd (omega (arith, lt))
distinct_at (x ∷ xs) zero (suc i) d h lt within = other xs i h.0 (omega (arith, within))
  where
    other : (ys : List (List ℕ)) (i : ℕ) → AllByRecursion (λ y. same_name x y ≡ false) ys → i < length ys → same_name x (get_or ys i d) ≡ false
    other [] i a lt = absurd (omega (arith, lt))
    other (y ∷ ys) zero a lt = a.0
    other (y ∷ ys) (suc i) a lt = other ys i a.1 (omega (arith, lt))
distinct_at (x ∷ xs) (suc k) zero d h lt within = absurd (omega (arith, lt))
distinct_at (x ∷ xs) (suc k) (suc i) d h lt within = distinct_at xs k i d h.1 (omega (arith, lt)) (omega (arith, within))

-- of distinct names the one at a number has that position
pub position_at : (names : List (List ℕ)) (name : List ℕ) (n : ℕ) → IsDistinct same_name names → slice_get names n ≡ Some name → position (same_name name) names ≡ Some n
position_at names name n distinct e =
    let within : n < length names = slice_get_within names n name e in
    let is : get_or names n [] ≡ name = get_or_from_slice_get names n name [] e in
    let first : position_or_len (same_name name) names ≡ n =
    position_or_len_is (same_name name) names n [] (omega (arith, within))
    (λ (k : ℕ) (lt : k < n). nat_list_eq_equiv.symm name (get_or names k []) ∙ ap (same_name (get_or names k [])) (sym is) ∙ distinct_at names k n [] distinct lt within)
    (λ w. ap (same_name name) is ∙ same_itself name) in
    let lt : nat_lt n (length names) ≡ true = lt-ltb n (length names) within in
    rw (first, lt) refl

-- ---- numbers

-- fewer than 32 bits number
abbrev pub IsShort : List (List ℕ) → Type 0
IsShort names = length names ≤ 0xffff_fffe

stands : (names : List (List ℕ)) (name : List ℕ) (n : ℕ) → FoundAt (same_name name) names n → slice_get names n ≡ Some name
stands names name n f = slice_get-get_or names n name f.within ∙ ap Some (sym (name_same name (get_or names n name) (f.passes name)))

-- a number that is there is the name's
pub number_sound : (names : List (List ℕ)) (name : List ℕ) (other : ℕ) → IsShort names → length names ≤ other → capped (or_number (position (same_name name) names) other) < length names
    → slice_get names (capped (or_number (position (same_name name) names) other)) ≡ Some name
number_sound names name other short beyond lt = at (position (same_name name) names) refl
  where
    at : (o : Option ℕ) → position (same_name name) names ≡ o → slice_get names (capped (or_number (position (same_name name) names) other)) ≡ Some name
    at (Some n) e =
        let f = found_at (same_name name) names n e in
        let within = f.within in
        let small : capped n ≡ n = omega arith in
        rw (e, small) (stands names name n f)
    at None e =
        let lt2 : capped other < length names = rw e at lt in
        absurd (omega (arith, lt2, short, beyond))

pub number_complete : (names : List (List ℕ)) (name : List ℕ) (other n : ℕ) → IsShort names → IsDistinct same_name names → slice_get names n ≡ Some name → capped (or_number (position (same_name name) names) other) ≡ n
number_complete names name other n short distinct e =
    let within = slice_get_within names n name e in
    let small : capped n ≡ n = omega arith in
    rw (position_at names name n distinct e, small) refl

-- ---- lists of numbers

-- each of the numbers is below
abbrev pub AllBelow : ℕ → List ℕ → Type 0
AllBelow most [] = Unit {0}
AllBelow most (n ∷ ns) = (n < most) × AllBelow most ns

pub numbers_sound : (names key : List (List ℕ)) (f : List ℕ → ℕ) → ((name : List ℕ) → f name < length names → slice_get names (f name) ≡ Some name) → AllBelow (length names) (map f key) → AreNumbersOf names key (map f key)
numbers_sound names [] f sound h = tt
numbers_sound names (n ∷ ns) f sound h = (sound n h.0, numbers_sound names ns f sound h.1)

pub numbers_complete : (names key : List (List ℕ)) (numbers : List ℕ) (f : List ℕ → ℕ) → ((name : List ℕ) (n : ℕ) → slice_get names n ≡ Some name → f name ≡ n) → AreNumbersOf names key numbers → numbers ≡ map f key
numbers_complete names [] [] f complete h = refl
numbers_complete names [] (m ∷ ms) f complete h = absurd h
numbers_complete names (n ∷ ns) [] f complete h = absurd h
numbers_complete names (n ∷ ns) (m ∷ ms) f complete h =
    ap (λ (x : ℕ). x ∷ ms) (sym (complete n m h.0)) ∙ ap (λ (xs : List ℕ). f n ∷ xs) (numbers_complete names ns ms f complete h.1)

pub key_sound : (names key : List (List ℕ)) → IsShort names → AllBelow (length names) (key_of names key) → AreNumbersOf names key (key_of names key)
key_sound names key short h =
    numbers_sound names key (key_number names (once key)) (λ (name : List ℕ) (lt : key_number names (once key) name < length names). number_sound names name (length names + place (once key) name) short (omega arith) lt) h

pub key_complete : (names key : List (List ℕ)) (numbers : List ℕ) → IsShort names → IsDistinct same_name names → AreNumbersOf names key numbers → numbers ≡ key_of names key
key_complete names key numbers short distinct h =
    numbers_complete names key numbers (key_number names (once key)) (λ (name : List ℕ) (n : ℕ) (e : slice_get names n ≡ Some name). number_complete names name (length names + place (once key) name) n short distinct e) h

pub columns_sound : (names columns : List (List ℕ)) → IsShort names → AllBelow (length names) (map (number names) columns) → AreNumbersOf names columns (map (number names) columns)
columns_sound names columns short h =
    numbers_sound names columns (number names) (λ (name : List ℕ) (lt : number names name < length names). number_sound names name (length names) short (omega arith) lt) h

pub columns_complete : (names columns : List (List ℕ)) (numbers : List ℕ) → IsShort names → IsDistinct same_name names → AreNumbersOf names columns numbers → numbers ≡ map (number names) columns
columns_complete names columns numbers short distinct h =
    numbers_complete names columns numbers (number names) (λ (name : List ℕ) (n : ℕ) (e : slice_get names n ≡ Some name). number_complete names name (length names) n short distinct e) h
