-- The unknowns of each branch, by the tables of its facts, and what steps make, as far as the loop has come.
use Rattle.std.proofs.Common.{◌≡◌, ℕ, zero, suc, ◌+◌, ◌<◌, List, [], ◌∷◌, ◌++◌, drop, length, map, refl, sym, ap, ap₂, ◌∙◌, append_assoc}
use Rattle.std.specs.Prelude.{OnOk, Result, Ok, Err, Some, slice_get, slice_set}
use Rattle.std.proofs.lemmas.List.{drop_more, map-append}
use Rattle.std.proofs.lemmas.List.Sums.{sum_by-append}
use Rattle.std.proofs.lemmas.Option.{get_or_from_slice_get}
use Rattle.ba_kernel.specs.declared.problem.Problem.{Problem}
use Rattle.ba_kernel.specs.declared.step.Step.{Step}
use Rattle.ba_model.specs.SchemaFaults.{columns_of}
use Rattle.ba_general.specs.Layouts.{Layout, counts, layout_after, wide}
use Rattle.ba_general.specs.Leaving.{made, made_by, made_from}
use Rattle.ba_general.specs.declared.making.Made.{Made}

map_set : {X Y : Type 0} (f : X → Y) (xs : List X) (n : ℕ) (x : X) → slice_set (map f xs) n (f x) ≡ map f (slice_set xs n x)
map_set f [] n x = refl
map_set f (y ∷ xs) zero x = refl
map_set f (y ∷ xs) (suc n) x = ap (λ zs. f y ∷ zs) (map_set f xs n x)

pub counts_set : (p : Problem) (layout new : Layout) (old told : List ℕ) (n count : ℕ) (tables : List ℕ) → old ≡ counts p layout → told ≡ slice_set old n count →
    new ≡ slice_set layout n tables → count ≡ wide p.policy.schema tables → told ≡ counts p new
counts_set p layout new old told n count tables before is laid wide_is =
    is ∙ (ap₂ (λ xs c. slice_set xs n c) before wide_is ∙ (map_set (wide p.policy.schema) layout n tables ∙ ap (counts p) (sym laid)))

pub counts_push : (p : Problem) (layout new : Layout) (old told : List ℕ) (count : ℕ) (tables : List ℕ) → old ≡ counts p layout → told ≡ old ++ count ∷ [] →
    new ≡ layout ++ tables ∷ [] → count ≡ wide p.policy.schema tables → told ≡ counts p new
counts_push p layout new old told count tables before is laid wide_is =
    is ∙ (ap₂ (λ xs c. xs ++ c ∷ []) before wide_is ∙ (sym (map-append (wide p.policy.schema) layout (tables ∷ [])) ∙ ap (counts p) (sym laid)))

pub wide_more : (p : Problem) (tables added : List ℕ) (count : ℕ) → count ≡ wide p.policy.schema tables + wide p.policy.schema added → count ≡ wide p.policy.schema (tables ++ added)
wide_more p tables added count e = e ∙ sym (sum_by-append (λ table. length (columns_of p.policy.schema.tables table)) tables added)

pub made_next : (p : Problem) (steps : List Step) (n : ℕ) (layout new : Layout) (all more : List Made) (step : Step) (it : Made) → n < length steps → slice_get steps n ≡ Some step →
    all ++ made_from p layout (drop n steps) ≡ made p steps → it ≡ made_by p layout step → more ≡ all ++ it ∷ [] → new ≡ layout_after p layout step →
    more ++ made_from p new (drop (n + 1) steps) ≡ made p steps
made_next p steps n layout new all more step it below at before made_is more_is laid =
    let later : drop n steps ≡ step ∷ drop (n + 1) steps = drop_more steps n step below ∙ ap (λ y. y ∷ drop (n + 1) steps) (get_or_from_slice_get steps n step step at) in
    let here : more ≡ all ++ made_by p layout step ∷ [] = more_is ∙ ap (λ m. all ++ m ∷ []) made_is in
    ap₂ (λ xs l. xs ++ made_from p l (drop (n + 1) steps)) here laid ∙
    (append_assoc all (made_by p layout step ∷ []) (made_from p (layout_after p layout step) (drop (n + 1) steps)) ∙
    (ap (λ xs. all ++ made_from p layout xs) (sym later) ∙ before))

pub on_ok : {T E P Q : Type 0} (r : Result T E) → (P → Q) → OnOk r P → OnOk r Q
on_ok (Ok x) f h = f h
on_ok (Err e) f h = tt
