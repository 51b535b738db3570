-- What is known where reading gave something.
use Rattle.std.proofs.Common.{◌≡◌, ℕ, ◌<◌, Bool, true, false, not, nat_le, List, [], ◌∷◌, ◌++◌, length, slice_get, Option, Some, None, is_some, Result, Ok, Err, refl, ap, subst, ◌∙◌, arith}
use Rattle.std.specs.List.{list_all, position}
use Rattle.std.proofs.lemmas.List.Folds.{list_all-append}
use Rattle.std.proofs.lemmas.List.Quantifiers.{position-Some}
use Rattle.std.proofs.lemmas.Option.{slice_get-get_or}
use Rattle.ba_model.specs.QueryFaults.{is_empty}
use Rattle.ba_model.specs.Readings.{◌>>=◌, each, each_flat, widened}
use Rattle.ba_sql_query.specs.Names.{numbered}
use Rattle.ba_sql_query.specs.declared.fault.ReadQueryFault.{ReadQueryFault}

pub err_ok : {X : Type 0} {f : ReadQueryFault} (x : X) → Err f ≡ Ok x → ⊥
err_ok x e = cc

pub ok_same : {X : Type 0} (x y : X) → ◌≡◌ {A = Result X ReadQueryFault} (Ok x) (Ok y) → x ≡ y
ok_same x y e = cc

pub bind_ok : {A B : Type 0} (r : Result A ReadQueryFault) (f : A → Result B ReadQueryFault) (y : B) → (r >>= f) ≡ Ok y → (x : A) × (r ≡ Ok x) × (f x ≡ Ok y)
bind_ok (Ok x) f y e = (x, refl, e)
bind_ok (Err g) f y e = absurd (err_ok y e)

pub widened_ok : {A F : Type 0} (into : F → ReadQueryFault) (r : Result A F) (x : A) → widened into r ≡ Ok x → r ≡ Ok x
widened_ok {A} into (Ok y) x e = ap (λ (z : A). Ok z) (ok_same y x e)
widened_ok into (Err f) x e = absurd (err_ok x e)

-- ---- each

abbrev put : {B : Type 0} → B → List B → Result (List B) ReadQueryFault
put y ys = Ok (y ∷ ys)

abbrev and_each : {A B : Type 0} → (A → Result B ReadQueryFault) → List A → B → Result (List B) ReadQueryFault
and_each f xs y = each f xs >>= put y

pub each_cons : {A B : Type 0} (f : A → Result B ReadQueryFault) (x : A) (xs : List A) (ys : List B) → each f (x ∷ xs) ≡ Ok ys
    → (y : B) × (f x ≡ Ok y) × ((zs : List B) × (each f xs ≡ Ok zs) × (y ∷ zs ≡ ys))
each_cons f x xs ys e =
    let a = bind_ok (f x) (and_each f xs) ys e in
    let b = bind_ok (each f xs) (put a.0) ys a.2 in
    (a.0, a.1, (b.0, b.1, ok_same (a.0 ∷ b.0) ys b.2))

pub each_all : {A B : Type 0} (f : A → Result B ReadQueryFault) (p : B → Bool) → ((x : A) (y : B) → f x ≡ Ok y → p y ≡ true) → (xs : List A) (ys : List B) → each f xs ≡ Ok ys → list_all p ys ≡ true
each_all f p h [] ys e = subst (λ zs. list_all p zs ≡ true) (ok_same [] ys e) refl
each_all {A} {B} f p h (x ∷ xs) ys e =
    let c = each_cons f x xs ys e in
    let below = each_all f p h xs c.2.0 c.2.1 in
    subst (λ (zs : List B). list_all p zs ≡ true) c.2.2 (rw (h x c.0 c.1) below)

pub each_some : {A B : Type 0} (f : A → Result B ReadQueryFault) (x : A) (xs : List A) (ys : List B) → each f (x ∷ xs) ≡ Ok ys → not (is_empty ys) ≡ true
each_some {A} {B} f x xs ys e = let c = each_cons f x xs ys e in subst (λ (zs : List B). not (is_empty zs) ≡ true) c.2.2 refl

abbrev append_to : {B : Type 0} → List B → List B → Result (List B) ReadQueryFault
append_to y ys = Ok (y ++ ys)

abbrev and_flat : {A B : Type 0} → (A → Result (List B) ReadQueryFault) → List A → List B → Result (List B) ReadQueryFault
and_flat f xs y = each_flat f xs >>= append_to y

pub flat_cons : {A B : Type 0} (f : A → Result (List B) ReadQueryFault) (x : A) (xs : List A) (ys : List B) → each_flat f (x ∷ xs) ≡ Ok ys
    → (y : List B) × (f x ≡ Ok y) × ((zs : List B) × (each_flat f xs ≡ Ok zs) × (y ++ zs ≡ ys))
flat_cons f x xs ys e =
    let a = bind_ok (f x) (and_flat f xs) ys e in
    let b = bind_ok (each_flat f xs) (append_to a.0) ys a.2 in
    (a.0, a.1, (b.0, b.1, ok_same (a.0 ++ b.0) ys b.2))

pub flat_all : {A B : Type 0} (f : A → Result (List B) ReadQueryFault) (p : B → Bool) → ((x : A) (y : List B) → f x ≡ Ok y → list_all p y ≡ true) → (xs : List A) (ys : List B) → each_flat f xs ≡ Ok ys → list_all p ys ≡ true
flat_all {A} {B} f p h [] ys e = subst (λ (zs : List B). list_all p zs ≡ true) (ok_same [] ys e) refl
flat_all {A} {B} f p h (x ∷ xs) ys e =
    let c = flat_cons f x xs ys e in
    let below = flat_all f p h xs c.2.0 c.2.1 in
    subst (λ (zs : List B). list_all p zs ≡ true) c.2.2 (list_all-append p c.0 c.2.0 ∙ rw (h x c.0 c.1) below)

-- ---- numbers

pub numbered_is : (absent : ReadQueryFault) (o : Option ℕ) (n : ℕ) → numbered absent o ≡ Ok n → o ≡ Some n
numbered_is absent None n e = absurd (err_ok n e)
numbered_is absent (Some m) n e = at (nat_le m 0xffff_ffff) refl
  where
    at : (t : Bool) → nat_le m 0xffff_ffff ≡ t → Some m ≡ Some n
    at true h = ap Some (ok_same m n (rw h at e))
    at false h = absurd (err_ok n (rw h at e))

pub position_below : {X : Type 0} (p : X → Bool) (xs : List X) (n : ℕ) → position p xs ≡ Some n → n < length xs
position_below p [] n e = cc
position_below p (x ∷ xs) n e = (position-Some p (x ∷ xs) n x e).0

pub there_below : {X : Type 0} (xs : List X) (n : ℕ) → n < length xs → is_some (slice_get xs n) ≡ true
there_below [] n h = absurd (omega (arith, h))
there_below (x ∷ xs) n h = ap is_some (slice_get-get_or (x ∷ xs) n x h)
