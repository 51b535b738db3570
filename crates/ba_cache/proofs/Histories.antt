-- Legal histories of a shelf.
use Rattle.std.proofs.Common.{◌≡◌, ◌∙◌, ℕ, ◌+◌, ◌≤◌, arith, List, [], ◌∷◌, ◌++◌, ap, refl, subst, sym, cond}
use Rattle.std.proofs.Math.Logic.{∥∥₁_map}
use Rattle.std.proofs.lemmas.List.Sums.{sum_by-append}
use Rattle.std.specs.declared.snapshot.Snapshot.{Snapshot}
use Rattle.ba_kernel.specs.SearchStates.{Proof}
use Rattle.ba_kernel.specs.declared.step.Step.{Step}
use Rattle.ba_template.specs.Templates.{IsTemplate}
use Rattle.ba_cache.specs.Passes.{IsLegal}
use Rattle.ba_cache.specs.Rows.{Legal, Row, Steps, added_by, count_added, is_added, start, next}
use Rattle.ba_cache.specs.declared.call.Admit.{Admit}
use Rattle.ba_cache.specs.declared.call.Admit.TheVariants.{Added, Known}
use Rattle.ba_cache.specs.declared.call.ShelfCall.TheVariants as calls
use Rattle.ba_cache.specs.declared.call.ShelfCall.{ShelfCall}

-- what a snapshot tells is all of it
pub told_is : {T : Type 0} (s : Snapshot T) (value : T) → s.value ≡ value → s ≡ record { marker = record {}; value = value }
told_is {T} s value e = ap (λ (t : T). record { marker = record {}; value = t }) e

-- before any call
pub starts : (made : List ShelfCall) (rows : List Row) → made ≡ [] → rows ≡ [] → ∥ Legal made rows ∥₁
starts made rows made_is rows_are = subst (λ (z : List ShelfCall × List Row). ∥ Legal z.0 z.1 ∥₁) (λ i. (sym made_is i, sym rows_are i)) ∣ start ∣₁

-- one call more
pub goes_on : (made made' : List ShelfCall) (old new : List Row) (count : ℕ) (call : ShelfCall) → ∥ Legal made old ∥₁ → count ≡ count_added made → Steps count old call new → made' ≡ made ++ call ∷ [] → ∥ Legal made' new ∥₁
goes_on made made' old new count call legal counted step is =
    ∥∥₁_map legal (λ it. subst (λ (l : List ShelfCall). Legal l new) (sym is) (next call it (subst (λ (n : ℕ). Steps n old call new) counted step)))

-- one count more
counts_on : (made made' : List ShelfCall) (call : ShelfCall) → made' ≡ made ++ call ∷ [] → count_added made' ≡ count_added made + count_added (call ∷ [])
counts_on made made' call is = ap count_added is ∙ sum_by-append (λ (c : ShelfCall). cond (is_added c) 1 0) made (call ∷ [])

pub counts : (made made' : List ShelfCall) (call : ShelfCall) (count more : ℕ) → count ≡ count_added made → made' ≡ made ++ call ∷ [] → count_added (call ∷ []) ≡ more → count + more ≡ count_added made'
counts made made' call count more counted is here = (λ i. counted i + sym here i) ∙ sym (counts_on made made' call is)

pub added_here : (told : Snapshot Proof) (answer : Admit) → count_added (calls.Admit told answer ∷ []) ≡ added_by answer
added_here told (Added id) = refl
added_here told (Known id) = refl

pub most_one : (answer : Admit) → added_by answer ≤ 1
most_one (Added id) = omega arith
most_one (Known id) = omega arith

-- what the steps of a template tell
pub is_template : (seen t : Proof) (steps : List Step) → seen ≡ t → steps ≡ seen.steps → IsTemplate seen.problem steps → IsTemplate t.problem t.steps
is_template seen t steps same is h = subst (λ (p : Proof). IsTemplate p.problem p.steps) same (subst (λ (l : List Step). IsTemplate seen.problem l) is h)

-- what a shelf tells of its calls, is legal
pub legal_seen : (calls seen : List ShelfCall) (rows : List Row) → ∥ Legal calls rows ∥₁ → seen ≡ calls → IsLegal seen
legal_seen calls seen rows legal is = ∥∥₁_map legal (λ it. (rows, subst (λ (l : List ShelfCall). Legal l rows) (sym is) it))
