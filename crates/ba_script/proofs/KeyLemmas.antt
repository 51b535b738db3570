-- The first key of a name.
use Rattle.std.proofs.Common.{◌≡◌, ◌≢◌, ◌∙◌, ℕ, suc, ◌+◌, ◌<◌, ◌≤◌, List, [], ◌∷◌, ◌++◌, length, drop, get_or, Bool, true, false, cond, All, Option, Some, None, refl, sym, ap, subst, arith}
use Rattle.std.specs.List.{AllByRecursion}
use Rattle.std.specs.Str.{bytes_eq}
use Rattle.std.proofs.lemmas.Bool.{false_from_ne_true}
use Rattle.std.proofs.lemmas.List.{drop_all, drop_more}
use Rattle.std.proofs.lemmas.List.Elements.{All-cons, All-from_recursion, All-nil, recursion_from_All}
use Rattle.std.proofs.lemmas.Slice.Eq.{bytes_eq-Decides}
use Rattle.ba_model.specs.declared.policy.CacheKey.{CacheKey}
use Rattle.ba_script.specs.Reading.{key_from}
use Rattle.ba_script.specs.Scripts.{HasKey}

abbrev Other : List ℕ → CacheKey → Type 0
Other name key = key.name ≢ name

called : (name : List ℕ) (key : CacheKey) → bytes_eq key.name name ≡ true → key.name ≡ name
called name key e = (bytes_eq-Decides key.name name).0 e

is_called : (name : List ℕ) (key : CacheKey) → key.name ≡ name → bytes_eq key.name name ≡ true
is_called name key e = (bytes_eq-Decides key.name name).1 e

not_called : (name : List ℕ) (key : CacheKey) → bytes_eq key.name name ≡ false → Other name key
not_called name key e same = let wrong : true ≡ false = sym (is_called name key same) ∙ e in cc

is_other : (name : List ℕ) (key : CacheKey) → Other name key → bytes_eq key.name name ≡ false
is_other name key h = false_from_ne_true (bytes_eq key.name name) (λ e. h (called name key e))

-- the first key of the name among these, of which the first has the number n
record Found (keys : List CacheKey) (name : List ℕ) (n number : ℕ) (key : CacheKey) : Type 0 where
  front : List CacheKey
  back : List CacheKey
  are : keys ≡ front ++ key ∷ back
  number_is : number ≡ n + length front
  named : key.name ≡ name
  first : AllByRecursion (Other name) front

zero_more : (n : ℕ) → n ≡ n + 0
zero_more n = omega arith

same_found : (a b : ℕ × CacheKey) → ◌≡◌ {A = Option (ℕ × CacheKey)} (Some a) (Some b) → a ≡ b
same_found a b e = cc e

found : (keys : List CacheKey) (name : List ℕ) (n number : ℕ) (key : CacheKey) → key_from n name keys ≡ Some (number, key) → Found keys name n number key
found [] name n number key e = cc e
found (k ∷ keys) name n number key e = by (bytes_eq k.name name) refl e (found keys name (n + 1) number key)
  where
    by : (b : Bool) → bytes_eq k.name name ≡ b → cond b (Some (n, k)) (key_from (n + 1) name keys) ≡ Some (number, key)
        → (key_from (n + 1) name keys ≡ Some (number, key) → Found keys name (n + 1) number key) → Found (k ∷ keys) name n number key
    by true t e below =
        let same = same_found (n, k) (number, key) e in
        let key_is : k ≡ key = ap (λ (p : ℕ × CacheKey). p.1) same in
        record {
          front = [];
          back = keys;
          are = ap (λ (x : CacheKey). x ∷ keys) key_is;
          number_is = sym (ap (λ (p : ℕ × CacheKey). p.0) same) ∙ zero_more n;
          named = subst (λ (x : CacheKey). x.name ≡ name) key_is (called name k t);
          first = tt;
        }
    by false t e below =
        let h = below e in
        record {
          front = k ∷ h.front;
          back = h.back;
          are = ap (λ (xs : List CacheKey). k ∷ xs) h.are;
          number_is = omega (arith, h.number_is);
          named = h.named;
          first = (not_called name k t, h.first);
        }

pub has_key : (keys : List CacheKey) (name : List ℕ) (number : ℕ) (key : CacheKey) → key_from 0 name keys ≡ Some (number, key) → HasKey keys name number key
has_key keys name number key e =
    let h = found keys name 0 number key e in
    record { front = h.front; back = h.back; are = h.are; number_is = omega (arith, h.number_is); named = h.named; first = All-from_recursion (Other name) h.front h.first }

key_at : (front back : List CacheKey) (key : CacheKey) (name : List ℕ) (n : ℕ) → key.name ≡ name → AllByRecursion (Other name) front → key_from n name (front ++ key ∷ back) ≡ Some (n + length front, key)
key_at [] back key name n named first = ap (λ b. cond b (Some (n, key)) (key_from (n + 1) name back)) (is_called name key named) ∙ ap (λ m. Some (m, key)) (zero_more n)
key_at (k ∷ front) back key name n named first =
    ap (λ b. cond b (Some (n, k)) (key_from (n + 1) name (front ++ key ∷ back))) (is_other name k first.0) ∙ key_at front back key name (n + 1) named first.1 ∙ ap (λ m. Some (m, key)) (one_more n (length front))
  where
    one_more : (n m : ℕ) → n + 1 + m ≡ n + suc m
    one_more n m = omega arith

pub key_is : (keys : List CacheKey) (name : List ℕ) (number : ℕ) (key : CacheKey) → HasKey keys name number key → key_from 0 name keys ≡ Some (number, key)
key_is keys name number key h =
    let at : 0 + length h.front ≡ number = omega (arith, h.number_is) in
    ap (key_from 0 name) h.are ∙ key_at h.front h.back key name 0 h.named (recursion_from_All (Other name) h.front h.first) ∙ ap (λ m. Some (m, key)) at

none_from : (keys : List CacheKey) (name : List ℕ) (n : ℕ) → key_from n name keys ≡ None → AllByRecursion (Other name) keys
none_from [] name n e = tt
none_from (k ∷ keys) name n e = by (bytes_eq k.name name) refl e (none_from keys name (n + 1))
  where
    by : (b : Bool) → bytes_eq k.name name ≡ b → cond b (Some (n, k)) (key_from (n + 1) name keys) ≡ None → (key_from (n + 1) name keys ≡ None → AllByRecursion (Other name) keys) → AllByRecursion (Other name) (k ∷ keys)
    by true t e below = cc e
    by false t e below = (not_called name k t, below e)

from_none : (keys : List CacheKey) (name : List ℕ) (n : ℕ) → AllByRecursion (Other name) keys → key_from n name keys ≡ None
from_none [] name n h = refl
from_none (k ∷ keys) name n h = ap (λ b. cond b (Some (n, k)) (key_from (n + 1) name keys)) (is_other name k h.0) ∙ from_none keys name (n + 1) h.1

pub has_no_key : (keys : List CacheKey) (name : List ℕ) → key_from 0 name keys ≡ None → All (Other name) keys
has_no_key keys name e = All-from_recursion (Other name) keys (none_from keys name 0 e)

pub no_key_is : (keys : List CacheKey) (name : List ℕ) → All (Other name) keys → key_from 0 name keys ≡ None
no_key_is keys name h = from_none keys name 0 (recursion_from_All (Other name) keys h)

-- ---- as the loop finds it

split : (keys : List CacheKey) (name : List ℕ) (i : ℕ) (key : CacheKey) → i < length keys → key ≡ get_or keys i key → key_from i name (drop i keys) ≡ cond (bytes_eq key.name name) (Some (i, key)) (key_from (i + 1) name (drop (i + 1) keys))
split keys name i key lt is = ap (key_from i name) (drop_more keys i key lt ∙ ap (λ (x : CacheKey). x ∷ drop (i + 1) keys) (sym is))

pub found_here : (keys : List CacheKey) (name : List ℕ) (i : ℕ) (key : CacheKey) (whole : Option (ℕ × CacheKey)) → i < length keys → key ≡ get_or keys i key → key_from i name (drop i keys) ≡ whole → bytes_eq key.name name ≡ true → Some (i, key) ≡ whole
found_here keys name i key whole lt is before test =
    sym (split keys name i key lt is ∙ ap (λ b. cond b (Some (i, key)) (key_from (i + 1) name (drop (i + 1) keys))) test) ∙ before

pub passed_key : (keys : List CacheKey) (name : List ℕ) (i : ℕ) (key : CacheKey) (whole : Option (ℕ × CacheKey)) → i < length keys → key ≡ get_or keys i key → key_from i name (drop i keys) ≡ whole → bytes_eq key.name name ≡ false
    → key_from (i + 1) name (drop (i + 1) keys) ≡ whole
passed_key keys name i key whole lt is before test =
    sym (split keys name i key lt is ∙ ap (λ b. cond b (Some (i, key)) (key_from (i + 1) name (drop (i + 1) keys))) test) ∙ before

pub none_left : (keys : List CacheKey) (name : List ℕ) (i : ℕ) (whole : Option (ℕ × CacheKey)) → length keys ≤ i → key_from i name (drop i keys) ≡ whole → None ≡ whole
none_left keys name i whole le before = sym (ap (key_from i name) (drop_all i keys le)) ∙ before
