-- A reading of each item of a list, one after the other, as the loops take them: the items are seen by g.
use Rattle.std.proofs.Common.{◌≡◌, ℕ, ◌+◌, ◌<◌, ◌≤◌, List, [], ◌∷◌, ◌++◌, All, length, map, drop, get_or, Result, Ok, Err, refl, sym, ap, subst, ◌∙◌, append_assoc}
use Rattle.std.proofs.lemmas.List.{append-nil, drop_all, drop_more}
use Rattle.std.proofs.lemmas.List.Elements.{All-append, All-from_recursion}
use Rattle.ba_model.specs.Readings.{◌>>=◌, Fails, each}
use Rattle.ba_model.specs.declared.failure.Failure.{Failure}
use Rattle.ba_model.specs.declared.failure.Failure.TheVariants.{NoMemory, Fault}

abbrev pub onto : {X F : Type 0} → List X → Result (List X) F → Result (List X) F
onto found read = read >>= λ xs. Ok (found ++ xs)

pub onto_more : {X F : Type 0} (found : List X) (x : X) (read : Result (List X) F) → onto found (read >>= λ xs. Ok (x ∷ xs)) ≡ onto (found ++ x ∷ []) read
onto_more found x (Ok xs) = ap Ok (simp append_assoc)
onto_more found x (Err e) = refl

pub onto_none : {X F : Type 0} (read : Result (List X) F) → onto [] read ≡ read
onto_none (Ok xs) = refl
onto_none (Err e) = refl

-- ---- one of each

pub record EachAt {A X B F : Type 0} (g : A → X) (f : X → Result B F) (xs : List A) (i : ℕ) (found : List B) : Type 0 where
  pub so_far : onto found (each f (map g (drop i xs))) ≡ each f (map g xs)

pub each_start : {A X B F : Type 0} (g : A → X) (f : X → Result B F) (xs : List A) (found : List B) → found ≡ [] → EachAt g f xs 0 found
each_start g f xs found e = record { so_far = rw e (onto_none (each f (map g xs))) }

split : {A X B F : Type 0} (g : A → X) (f : X → Result B F) (xs : List A) (i : ℕ) (x : A) → i < length xs → x ≡ get_or xs i x → each f (map g (drop i xs)) ≡ each f (g x ∷ map g (drop (i + 1) xs))
split g f xs i x lt is = ap (λ ys. each f (map g ys)) (drop_more xs i x lt ∙ ap (λ y. y ∷ drop (i + 1) xs) (sym is))

pub each_goes_on : {A X B F : Type 0} (g : A → X) (f : X → Result B F) (xs : List A) (i : ℕ) (found found2 : List B) (x : A) (y : B) → EachAt g f xs i found → i < length xs → x ≡ get_or xs i x → f (g x) ≡ Ok y → found2 ≡ found ++ y ∷ [] → EachAt g f xs (i + 1) found2
each_goes_on g f xs i found found2 x y at lt is e h =
    record { so_far = rw h (sym (onto_more found y (each f (map g (drop (i + 1) xs)))) ∙ rw (split g f xs i x lt is, e) at at.so_far) }

pub each_fails : {A X B F : Type 0} (g : A → X) (f : X → Result B F) (xs : List A) (i : ℕ) (found : List B) (x : A) (err : Failure F) → EachAt g f xs i found → i < length xs → x ≡ get_or xs i x → Fails err (f (g x)) → Fails err (each f (map g xs))
each_fails g f xs i found x NoMemory at lt is h = tt
each_fails g f xs i found x (Fault e) at lt is h = sym (rw (split g f xs i x lt is, h) at at.so_far)

pub each_ends : {A X B F : Type 0} (g : A → X) (f : X → Result B F) (xs : List A) (i : ℕ) (found : List B) → EachAt g f xs i found → length xs ≤ i → each f (map g xs) ≡ Ok found
each_ends g f xs i found at le = sym (rw (drop_all i xs le) at at.so_far) ∙ ap Ok (append-nil found)

-- ---- what holds of each

pub all_more : {X : Type 0} (P : X → Type 0) (xs ys : List X) (x : X) → All P xs → P x → ys ≡ xs ++ x ∷ [] → All P ys
all_more P xs ys x each one e = subst (All P) (sym e) (All-append P xs (x ∷ []) each (All-from_recursion P (x ∷ []) (one, tt)))
