-- Which table set a publish line has.
use Rattle.std.proofs.Common.{◌≡◌, ℕ, ◌+◌, ◌<◌, List, [], ◌∷◌, ◌++◌, length, cond, ap, arith, subst}
use Rattle.std.proofs.lemmas.List.Sums.{sum_by-append, sum_by-cons}
use Rattle.ba_input.specs.Inputs.{IsInput}
use Rattle.ba_input.specs.declared.input.Input.{Input}
use Rattle.ba_script.specs.Reading.{is_publish, published}
use Rattle.ba_script.specs.Scripts.{PublishedFrom}
use Rattle.ba_script.specs.declared.entry.ScriptEntry.{ScriptEntry}
use Rattle.ba_script.specs.declared.entry.ScriptEntry.TheVariants as said

published_cons : (e : ScriptEntry) (es : List ScriptEntry) → published (e ∷ es) ≡ cond (is_publish e) 1 0 + published es
published_cons e es = sum_by-cons (λ x. cond (is_publish x) 1 0) e es

published_append : (front back : List ScriptEntry) → published (front ++ back) ≡ published front + published back
published_append front back = sum_by-append (λ x. cond (is_publish x) 1 0) front back

numbered_in : (n : ℕ) (before : List ScriptEntry) (number : ℕ) (set : List ℕ) (after : List ScriptEntry) → PublishedFrom n (before ++ said.Publish number set ∷ after) → number ≡ n + published before
unfolding is_publish
numbered_in n [] number set after h = omega (arith, h.0)
numbered_in n (said.Begin r name c ∷ before) number set after h = omega (arith, numbered_in n before number set after h, published_cons (said.Begin r name c) before)
numbered_in n (said.Ask r name text ∷ before) number set after h = omega (arith, numbered_in n before number set after h, published_cons (said.Ask r name text) before)
numbered_in n (said.Read r name key args qs ∷ before) number set after h = omega (arith, numbered_in n before number set after h, published_cons (said.Read r name key args qs) before)
numbered_in n (said.End r name ∷ before) number set after h = omega (arith, numbered_in n before number set after h, published_cons (said.End r name) before)
numbered_in n (said.Publish k other ∷ before) number set after h = omega (arith, numbered_in (n + 1) before number set after h.1, published_cons (said.Publish k other) before)

-- the number of a publish line is how many are before it, and a table set was read for it
pub set_there : (input : Input) (before : List ScriptEntry) (number : ℕ) (set : List ℕ) (after : List ScriptEntry) → IsInput input → input.script.entries ≡ before ++ said.Publish number set ∷ after
    → (number ≡ published before) × (number < length input.published)
unfolding is_publish
set_there input before number set after fits is =
    let from : number ≡ 0 + published before = numbered_in 0 before number set after (subst (PublishedFrom 0) is fits.script.published) in
    let at : number ≡ published before = omega (arith, from) in
    (at, omega (arith, at, fits.one_each, ap published is, published_append before (said.Publish number set ∷ after), published_cons (said.Publish number set) after))
