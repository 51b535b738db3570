-- A function of each, one after the other, as the loops take them.
use Rattle.std.proofs.Common.{◌≡◌, ℕ, ◌+◌, ◌<◌, ◌≤◌, List, [], ◌∷◌, ◌++◌, length, drop, get_or, Result, Ok, Err, refl, sym, ap, ◌∙◌, append_assoc}
use Rattle.std.proofs.lemmas.List.{append-nil, drop_all, drop_more}
use Rattle.ba_model.specs.Readings.{◌>>=◌, Fails, each, each_flat}
use Rattle.ba_model.specs.declared.failure.Failure.{Failure}
use Rattle.ba_model.specs.declared.failure.Failure.TheVariants.{NoMemory, Fault}

abbrev onto : {X F : Type 0} → List X → Result (List X) F → Result (List X) F
onto found read = read >>= λ xs. Ok (found ++ xs)

onto_more : {X F : Type 0} (found : List X) (x : X) (read : Result (List X) F) → onto found (read >>= λ xs. Ok (x ∷ xs)) ≡ onto (found ++ x ∷ []) read
onto_more found x (Ok xs) = ap Ok (simp append_assoc)
onto_more found x (Err e) = refl

onto_flat : {X F : Type 0} (found ys : List X) (read : Result (List X) F) → onto found (read >>= λ xs. Ok (ys ++ xs)) ≡ onto (found ++ ys) read
onto_flat found ys (Ok xs) = ap Ok (simp append_assoc)
onto_flat found ys (Err e) = refl

onto_none : {X F : Type 0} (read : Result (List X) F) → onto [] read ≡ read
onto_none (Ok xs) = refl
onto_none (Err e) = refl

-- ---- one of each

pub record EachAt {A B F : Type 0} (f : A → Result B F) (xs : List A) (i : ℕ) (found : List B) : Type 0 where
  pub so_far : onto found (each f (drop i xs)) ≡ each f xs

pub each_start : {A B F : Type 0} (f : A → Result B F) (xs : List A) (found : List B) → found ≡ [] → EachAt f xs 0 found
each_start f xs found e = record { so_far = rw e (onto_none (each f xs)) }

split : {A B F : Type 0} (f : A → Result B F) (xs : List A) (i : ℕ) (x : A) → i < length xs → x ≡ get_or xs i x → each f (drop i xs) ≡ each f (x ∷ drop (i + 1) xs)
split f xs i x lt is = ap (each f) (drop_more xs i x lt ∙ ap (λ y. y ∷ drop (i + 1) xs) (sym is))

pub each_goes_on : {A B F : Type 0} (f : A → Result B F) (xs : List A) (i : ℕ) (found found2 : List B) (x : A) (y : B) → EachAt f xs i found → i < length xs → x ≡ get_or xs i x → f x ≡ Ok y → found2 ≡ found ++ y ∷ [] → EachAt f xs (i + 1) found2
each_goes_on f xs i found found2 x y at lt is e g =
    record { so_far = rw g (sym (onto_more found y (each f (drop (i + 1) xs))) ∙ rw (split f xs i x lt is, e) at at.so_far) }

pub each_fails : {A B F : Type 0} (f : A → Result B F) (xs : List A) (i : ℕ) (found : List B) (x : A) (err : Failure F) → EachAt f xs i found → i < length xs → x ≡ get_or xs i x → Fails err (f x) → Fails err (each f xs)
each_fails f xs i found x NoMemory at lt is h = tt
each_fails f xs i found x (Fault g) at lt is h = sym (rw (split f xs i x lt is, h) at at.so_far)

pub each_ends : {A B F : Type 0} (f : A → Result B F) (xs : List A) (i : ℕ) (found : List B) → EachAt f xs i found → length xs ≤ i → each f xs ≡ Ok found
each_ends f xs i found at le = sym (rw (drop_all i xs le) at at.so_far) ∙ ap Ok (append-nil found)

-- ---- several of each

pub record FlatAt {A B F : Type 0} (f : A → Result (List B) F) (xs : List A) (i : ℕ) (found : List B) : Type 0 where
  pub so_far : onto found (each_flat f (drop i xs)) ≡ each_flat f xs

pub flat_start : {A B F : Type 0} (f : A → Result (List B) F) (xs : List A) (found : List B) → found ≡ [] → FlatAt f xs 0 found
flat_start f xs found e = record { so_far = rw e (onto_none (each_flat f xs)) }

split_flat : {A B F : Type 0} (f : A → Result (List B) F) (xs : List A) (i : ℕ) (x : A) → i < length xs → x ≡ get_or xs i x → each_flat f (drop i xs) ≡ each_flat f (x ∷ drop (i + 1) xs)
split_flat f xs i x lt is = ap (each_flat f) (drop_more xs i x lt ∙ ap (λ y. y ∷ drop (i + 1) xs) (sym is))

pub flat_goes_on : {A B F : Type 0} (f : A → Result (List B) F) (xs : List A) (i : ℕ) (found found2 : List B) (x : A) (ys : List B) → FlatAt f xs i found → i < length xs → x ≡ get_or xs i x → f x ≡ Ok ys → found2 ≡ found ++ ys → FlatAt f xs (i + 1) found2
flat_goes_on f xs i found found2 x ys at lt is e g =
    record { so_far = rw g (sym (onto_flat found ys (each_flat f (drop (i + 1) xs))) ∙ rw (split_flat f xs i x lt is, e) at at.so_far) }

pub flat_fails : {A B F : Type 0} (f : A → Result (List B) F) (xs : List A) (i : ℕ) (found : List B) (x : A) (err : Failure F) → FlatAt f xs i found → i < length xs → x ≡ get_or xs i x → Fails err (f x) → Fails err (each_flat f xs)
flat_fails f xs i found x NoMemory at lt is h = tt
flat_fails f xs i found x (Fault g) at lt is h = sym (rw (split_flat f xs i x lt is, h) at at.so_far)

pub flat_ends : {A B F : Type 0} (f : A → Result (List B) F) (xs : List A) (i : ℕ) (found : List B) → FlatAt f xs i found → length xs ≤ i → each_flat f xs ≡ Ok found
flat_ends f xs i found at le = sym (rw (drop_all i xs le) at at.so_far) ∙ ap Ok (append-nil found)
